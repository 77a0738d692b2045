-- What the calls of a read count on the leaves of its block's top, and on the board of a frozen group.
use Rattle.std.specs.Prelude.{◌≡◌, ℕ, ◌==◌, ◌||◌, ◌&&◌, not, Bool, true, false, cond, List, [], ◌∷◌, map, drop, Option, Some, slice_get}
use Rattle.std.specs.Option.{option_map}
use Rattle.mp_base.specs.declared.number.Guid.{Guid}
use Rattle.vdev_tree.specs.declared.vdev.Counts.{Counts}
use Rattle.vdev_tree.specs.declared.vdev.LeafVdev.{LeafVdev}
use Rattle.mirror_io.specs.declared.copies.CopyOf.{CopyOf}
use Rattle.mirror_io.specs.declared.copies.CopySeen.{CopySeen}
use Rattle.mirror_io.specs.declared.copies.CopySeen.TheVariants as seen
use Rattle.mirror_io.specs.Seen.{is_mismatch}
use Rattle.txg_engine.specs.declared.seat.Seat.{Seat}
use Rattle.txg_engine.specs.Boards.{count_up, failed}
use Rattle.txg_engine.specs.Frozen.{FrozenGroup}
use Rattle.open_pool.specs.declared.count.Counted.{Counted}
use Rattle.open_pool.specs.Parts.{TopParts}
use Rattle.open_pool.specs.State.{leaves_under}

abbrev pub is_failed : CopySeen → Bool
is_failed seen.Failed = true
is_failed seen.NotTried = false
is_failed seen.NotReadable = false
is_failed seen.Mismatch = false
is_failed seen.Good = false
is_failed seen.Healed = false

abbrev pub is_healed : CopySeen → Bool
is_healed seen.Healed = true
is_healed seen.NotTried = false
is_healed seen.NotReadable = false
is_healed seen.Failed = false
is_healed seen.Mismatch = false
is_healed seen.Good = false

-- What is counted of a copy, by what it showed, and by whether some copy was good: one that still is wrong then, though its leaf has
-- the block, wasn't rewritten.
abbrev pub counted_by : (served : Bool) → Guid → CopyOf → CopySeen → Counted
counted_by served member copy shown = record {
  member = member;
  reads = is_failed shown;
  writes = is_mismatch shown && (not copy.lacks && served);
  mismatches = is_mismatch shown || is_healed shown;
}

-- leaf by leaf
abbrev pub counts_of : (served : Bool) → List LeafVdev → List CopyOf → List CopySeen → List Counted
counts_of served [] copies shown = []
counts_of served (leaf ∷ under) [] shown = []
counts_of served (leaf ∷ under) (copy ∷ copies) [] = []
counts_of served (leaf ∷ under) (copy ∷ copies) (s ∷ shown) = counted_by served leaf.guid copy s ∷ counts_of served under copies shown

-- some call failed
abbrev pub has_fault : Counted → Bool
has_fault c = c.reads || c.writes

abbrev pub up_if : Bool → ℕ → ℕ
up_if b n = cond b (count_up n) n

abbrev pub counts_with : Counted → Counts → Counts
counts_with c counts = record { reads = up_if c.reads counts.reads; writes = up_if c.writes counts.writes; mismatches = up_if c.mismatches counts.mismatches }

-- the leaf with it, its top, and its seat
abbrev pub counted_leaf : Counted → LeafVdev → LeafVdev
counted_leaf c leaf = cond (leaf.guid.0 == c.member.0) (record leaf { counts = counts_with c leaf.counts }) leaf

abbrev pub counted_top : Counted → TopParts → TopParts
counted_top c top = record top { leaves = map (counted_leaf c) top.leaves }

abbrev pub counted_seat : Counted → Seat → Seat
counted_seat c seat = cond (has_fault c) (failed c.member seat) seat

abbrev pub counted_group : Counted → FrozenGroup → FrozenGroup
counted_group c group = record group { board = map (counted_seat c) group.board }

-- one after another
abbrev pub counted_tops : List Counted → List TopParts → List TopParts
counted_tops [] tops = tops
counted_tops (c ∷ cs) tops = counted_tops cs (map (counted_top c) tops)

abbrev pub counted_groups : List Counted → Option FrozenGroup → Option FrozenGroup
counted_groups [] frozen = frozen
counted_groups (c ∷ cs) frozen = counted_groups cs (option_map (counted_group c) frozen)

abbrev pub guids_of : List LeafVdev → List Guid
guids_of leaves = map (λ leaf. leaf.guid) leaves

-- What is left to count makes of what is now what all makes of what was; and the top has its leaves still.
pub record CountsSoFar (cs : List Counted) (i : ℕ) (under : List LeafVdev) (place : ℕ) (old new : List TopParts) (was is : Option FrozenGroup) : Type 0 where
  pub tops : counted_tops (drop i cs) new ≡ counted_tops cs old
  pub group : counted_groups (drop i cs) is ≡ counted_groups cs was
  pub now : List LeafVdev
  pub now_is : slice_get (leaves_under new) place ≡ Some now
  pub same : guids_of now ≡ guids_of under
