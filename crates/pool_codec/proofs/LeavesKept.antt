-- The leaves that are read of tops are those of their trees.
use Rattle.std.proofs.Common.{◌≡◌, ℕ, suc, ◌^◌, Bool, nat_le, List, [], ◌∷◌, ◌++◌, map, refl, ap, sym, ◌∙◌, ⊎_elim}
use Rattle.std.proofs.Math.Path.{fun_ext}
use mathlib.Core.List.{map-map}
use Rattle.std.proofs.lemmas.Bool.{and_from, and_right, le-leb, cases_Bool}
use Rattle.group_set.specs.Groups.{Groups, holds}
use Rattle.group_set.specs.Ranges.{in_ranges}
use Rattle.group_set.specs.Runs.{between}
use Rattle.group_set.proofs.Upto.{upto_has}
use Rattle.vdev_tree.specs.declared.vdev.LeafVdev.{LeafVdev}
use Rattle.vdev_tree.specs.declared.vdev.Vdev.{Vdev}
use Rattle.vdev_tree.specs.declared.top.Top.{Top}
use Rattle.vdev_tree.specs.Tree.{leaves}
use Rattle.pool_config.specs.Flags.{recorded}
use Rattle.pool_config.specs.Seen.{leaf_seen, leaves_among, ranges_of, vdevs_of, top_seen, top_vdevs, mirror_vdevs}
use Rattle.pool_config.proofs.WrittenTrees.{leaves_written}
use Rattle.txg_history.specs.Pages.{LeafKept}
use Rattle.pool_codec.specs.Tops.{top_sectors, kept_under, kept_from, owed_in, LiesWithin, kept_of, kept_leaves_from}

pub vdevs_seen : (tops : List Top) → map top_vdevs (map top_seen tops) ≡ map mirror_vdevs tops
vdevs_seen tops = map-map top_vdevs top_seen tops

pub sectors_seen : (tops : List Top) → map top_sectors (map top_seen tops) ≡ map (λ top. top.sectors) tops
sectors_seen tops = map-map top_sectors top_seen tops

owed_are : (log : Groups) → in_ranges (ranges_of log) ≡ owed_in log
unfolding ranges_of
owed_are log = fun_ext (λ g. upto_has (holds log) (2 ^ 62) g)

abbrev kept_with : (top : ℕ) → LeafVdev → (ℕ → Bool) → LeafKept
kept_with top leaf owes = record {
  guid = leaf.guid;
  name = leaf.name;
  mode = recorded leaf.state leaf.temporary;
  marked = leaf.marked;
  top = top;
  owes = owes;
}

one_kept : (top : ℕ) (leaf : LeafVdev) → kept_under top (leaf_seen leaf) ≡ kept_of top leaf
one_kept top leaf = ap (kept_with top leaf) (owed_are leaf.log)

leaves_of_top : (top : ℕ) (mirror : Vdev)
    → map (kept_under top) (leaves_among (vdevs_of mirror)) ≡ map (kept_of top) (leaves mirror)
leaves_of_top top mirror =
    ap (map (kept_under top)) (leaves_written mirror)
    ∙ map-map (kept_under top) leaf_seen (leaves mirror) ∙ ap (λ f. map f (leaves mirror)) (fun_ext (one_kept top))

pub leaves_kept : (top : ℕ) (tops : List Top) → kept_from top (map mirror_vdevs tops) ≡ kept_leaves_from top tops
leaves_kept top [] = refl
leaves_kept top (t ∷ tops) =
    ap (λ ls. ls ++ kept_from (suc top) (map mirror_vdevs tops)) (leaves_of_top top t.mirror)
    ∙ ap (λ ls. map (kept_of top) (leaves t.mirror) ++ ls) (leaves_kept (suc top) tops)

owed_one : (log : Groups) → LiesWithin log → (g : ℕ) → owed_in log g ≡ holds log g
owed_one log within g =
    ⊎_elim (λ there.
    let (low, high) = within g there in
    and_from (between 1 (2 ^ 62) g) (holds log g) (and_from (nat_le 1 g) (nat_le g (2 ^ 62)) (le-leb 1 g low) (le-leb g (2 ^ 62) high)) there ∙ sym there)
    (λ none. and_right (between 1 (2 ^ 62) g) (holds log g) none ∙ sym none)
    (cases_Bool (holds log g))

pub owed_is_the_log : (log : Groups) → LiesWithin log → owed_in log ≡ holds log
owed_is_the_log log within = fun_ext (owed_one log within)
