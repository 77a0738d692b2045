-- The leaves of a record, on the devices where they were found, are those of the state behind an opening.
use mathlib.Core.Path.{fun_ext}
use Rattle.std.proofs.Common.{◌≡◌, ℕ, suc, Bool, false, List, [], ◌∷◌, ◌++◌, map, length, Option, Some, None, refl, sym, ap, ap₂, ◌∙◌, arith}
use Rattle.std.specs.List.{AllByRecursion}
use Rattle.group_set.specs.Groups.{holds}
use Rattle.vdev_tree.specs.declared.vdev.Counts.{Counts}
use Rattle.vdev_tree.specs.declared.vdev.LeafVdev.{LeafVdev}
use Rattle.vdev_tree.specs.declared.vdev.State.{State}
use Rattle.vdev_tree.specs.declared.top.Top.{Top}
use Rattle.vdev_tree.specs.Tree.{leaves}
use Rattle.dtl_rules.specs.Widening.{leaves_of}
use Rattle.pool_config.specs.Flags.{recorded}
use Rattle.pool_config.specs.Seen.{IsRecorded}
use Rattle.txg_history.specs.Groups.{no_log}
use Rattle.txg_history.specs.Pages.{LeafKept}
use Rattle.pool_codec.specs.Tops.{LiesWithin, kept_of, kept_leaves_from}
use Rattle.pool_codec.proofs.LeavesKept.{owed_is_the_log}
use Rattle.pool_moves.specs.Leaves.{LeafSeen}
use Rattle.pool_moves.specs.Opened.{no_counts, opened_leaf, opened_leaves}
use Rattle.open_pool.specs.Opening.{placed, all_placed}
use Rattle.open_pool.specs.State.{leaf_of, leaves_from, leaves_under}
use Rattle.open_pool.specs.Parts.{all_parts}
use Rattle.open_pool.proofs.LeavesByTops.{leaves_at, tops_from, sizes, same_tops, by_tops, under_trees}

-- A leaf as it was decoded, whose log is one that a record can have.
pub record IsDecoded (leaf : LeafVdev) : Type 0 where
  pub recorded : IsRecorded leaf
  pub within : LiesWithin leaf.log

abbrev seen_with : LeafVdev → (top : ℕ) → Option ℕ → State → (temporary : Bool) → Counts → (owes settled : ℕ → Bool) → LeafSeen
seen_with leaf top dev mode temporary counts owes settled = record {
  guid = leaf.guid;
  dev = dev;
  own = record { name = leaf.name; mode = mode; temporary = temporary; marked = leaf.marked; counts = counts; joined = false; faults = 0 };
  top = top;
  owes = owes;
  settled = settled;
  on = false;
}

abbrev counts_with : (reads writes mismatches : ℕ) → Counts
counts_with reads writes mismatches = record { reads = reads; writes = writes; mismatches = mismatches }

seen_same : (leaf : LeafVdev) (top : ℕ) (dev : Option ℕ) (mode mode' : State) → IsDecoded leaf → mode ≡ mode'
    → seen_with leaf top dev mode false no_counts (kept_of top leaf).owes (no_log 0)
    ≡ seen_with leaf top dev mode' leaf.temporary leaf.counts (holds leaf.log) (holds leaf.settled)
seen_same leaf top dev mode mode' d same =
    let r = d.recorded in
    let counts : no_counts ≡ leaf.counts =
    ap (λ n. counts_with n 0 0) (sym r.reads) ∙ ap (λ n. counts_with leaf.counts.reads n 0) (sym r.writes)
    ∙ ap (counts_with leaf.counts.reads leaf.counts.writes) (sym r.mismatches) in
    ap₂ (λ m t. seen_with leaf top dev m t no_counts (kept_of top leaf).owes (no_log 0)) same (sym r.temporary)
    ∙ ap₂ (λ n o. seen_with leaf top dev mode' leaf.temporary n o (no_log 0)) counts (owed_is_the_log leaf.log d.within)
    ∙ ap (seen_with leaf top dev mode' leaf.temporary leaf.counts (holds leaf.log)) (fun_ext (λ g. sym (r.settled g)))

one_placed : (top : ℕ) (leaf : LeafVdev) (dev : Option ℕ) → IsDecoded leaf → opened_leaf (kept_of top leaf) dev ≡ leaf_of [] top (placed dev leaf)
one_placed top leaf None d = seen_same leaf top None _ _ d refl
one_placed top leaf (Some dev) d =
    seen_same leaf top (Some dev) (recorded leaf.state leaf.temporary) leaf.state d
    (ap (recorded leaf.state) d.recorded.temporary ∙ d.recorded.state)

-- leaves with these tops, as a record has them
abbrev pub kept_at : List ℕ → List LeafVdev → List LeafKept
kept_at [] leaves = []
kept_at (top ∷ tops) [] = []
kept_at (top ∷ tops) (leaf ∷ leaves) = kept_of top leaf ∷ kept_at tops leaves

kept_front : (top : ℕ) (under : List LeafVdev) (tops : List ℕ) (rest : List LeafVdev)
    → kept_at (map (λ leaf. top) under ++ tops) (under ++ rest) ≡ map (kept_of top) under ++ kept_at tops rest
kept_front top [] tops rest = refl
kept_front top (leaf ∷ under) tops rest = ap (λ ls. kept_of top leaf ∷ ls) (kept_front top under tops rest)

pub kept_by_tops : (first : ℕ) (tops : List Top) → kept_leaves_from first tops ≡ kept_at (tops_from first (leaves_under (all_parts tops))) (leaves_of tops)
kept_by_tops first [] = refl
kept_by_tops first (top ∷ tops) =
    ap (λ ls. map (kept_of first) (leaves top.mirror) ++ ls) (kept_by_tops (suc first) tops)
    ∙ sym (kept_front first (leaves top.mirror) (tops_from (suc first) (leaves_under (all_parts tops))) (leaves_of tops))

placed_at : (tops : List ℕ) (under : List LeafVdev) (devs : List (Option ℕ)) → AllByRecursion IsDecoded under → length devs ≡ length under
    → opened_leaves (kept_at tops under) devs ≡ leaves_at [] tops (all_placed devs under)
placed_at [] under devs all long = refl
placed_at (top ∷ tops) [] devs all long = refl
placed_at (top ∷ tops) (leaf ∷ under) [] all long = absurd (omega (arith, long))
placed_at (top ∷ tops) (leaf ∷ under) (dev ∷ devs) all long =
    ap₂ (λ l ls. l ∷ ls) (one_placed top leaf dev all.0) (placed_at tops under devs all.1 (omega (arith, long)))

-- where each top has as many leaves as in the record
pub leaves_placed : (was is : List Top) (devs : List (Option ℕ)) → AllByRecursion IsDecoded (leaves_of was) → length devs ≡ length (leaves_of was)
    → leaves_of is ≡ all_placed devs (leaves_of was) → sizes (leaves_under (all_parts was)) ≡ sizes (leaves_under (all_parts is))
    → opened_leaves (kept_leaves_from 1 was) devs ≡ leaves_from [] 1 (leaves_under (all_parts is))
leaves_placed was is devs all long placed same =
    ap (λ ls. opened_leaves ls devs) (kept_by_tops 1 was)
    ∙ placed_at (tops_from 1 (leaves_under (all_parts was))) (leaves_of was) devs all long
    ∙ ap₂ (leaves_at []) (same_tops 1 (leaves_under (all_parts was)) (leaves_under (all_parts is)) same) (sym placed ∙ sym (under_trees is))
    ∙ sym (by_tops [] 1 (leaves_under (all_parts is)))
