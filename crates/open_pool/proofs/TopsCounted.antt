-- Tops that are counted one after another, and leaves of one of them.
use Rattle.std.proofs.Common.{◌≡◌, ℕ, ◌+◌, ◌<◌, ◌==◌, ◌||◌, cond, Bool, true, false, List, [], ◌∷◌, ◌++◌, length, map, get_or, set, take, refl, sym, ap, ap₂, ◌∙◌}
use Rattle.std.specs.List.{flat_map}
use Rattle.std.proofs.lemmas.List.{map-append}
use Rattle.vdev_tree.specs.declared.top.Top.{Top}
use Rattle.vdev_tree.specs.declared.vdev.InnerVdev.{InnerVdev}
use Rattle.vdev_tree.specs.declared.vdev.LeafVdev.{LeafVdev}
use Rattle.vdev_tree.specs.declared.vdev.Vdev.TheVariants.{Leaf, Inner}
use Rattle.vdev_tree.proofs.Lists.{flat_more, flat_more_set}
use Rattle.pool_config.specs.Seen.{leaf_vdev, inner_vdev, leaf_seen, vdevs_of}
use Rattle.pool_config.proofs.Rooms.{vdevs_leaf, vdevs_inner}
use Rattle.txg_engine.specs.declared.seat.Seat.{Seat}
use Rattle.txg_engine.specs.Boards.{failed}
use Rattle.txg_engine.specs.Frozen.{FrozenGroup}
use Rattle.open_pool.specs.declared.count.Counted.{Counted}
use Rattle.open_pool.specs.Counting.{counts_with, counted_leaf, counted_top, counted_seat, counted_group, has_fault}
use Rattle.open_pool.specs.Parts.{TopParts, top_parts, all_parts}

abbrev pub one_part : Top → List TopParts
one_part top = top_parts top ∷ []

pub all_one : (tops : List Top) → flat_map one_part tops ≡ all_parts tops
all_one [] = refl
all_one (top ∷ tops) = ap (λ ps. top_parts top ∷ ps) (all_one tops)

-- one top more
pub counted_more : (c : Counted) (xs ys : List Top) (i : ℕ) (new d : Top) → i < length xs → i < length ys
    → flat_map one_part (take i xs) ≡ map (counted_top c) (flat_map one_part (take i ys))
    → top_parts new ≡ counted_top c (top_parts (get_or ys i d))
    → flat_map one_part (take (i + 1) (set xs i new)) ≡ map (counted_top c) (flat_map one_part (take (i + 1) ys))
counted_more c xs ys i new d inside inside' are here =
    flat_more_set Top TopParts one_part xs i new inside
    ∙ ap₂ (λ a b. a ++ b ∷ []) are here
    ∙ sym (map-append (counted_top c) (flat_map one_part (take i ys)) (one_part (get_or ys i d)))
    ∙ ap (map (counted_top c)) (sym (flat_more Top TopParts one_part ys i d inside'))

-- A leaf's counts aren't told in a record.
pub leaf_told : (c : Counted) (old new : LeafVdev) → new ≡ counted_leaf c old → vdevs_of (Leaf new) ≡ vdevs_of (Leaf old)
leaf_told c old new is =
    ap (λ (leaf : LeafVdev). vdevs_of (Leaf leaf)) is ∙ vdevs_leaf (counted_leaf c old) ∙ one (old.guid.0 == c.member.0) ∙ sym (vdevs_leaf old)
  where
    one : (t : Bool) → leaf_vdev (leaf_seen (cond t (record old { counts = counts_with c old.counts }) old)) ∷ [] ≡ leaf_vdev (leaf_seen old) ∷ []
    one true = refl
    one false = refl

pub inner_told : (old new : InnerVdev) → new.guid ≡ old.guid → new.kind ≡ old.kind → length new.children.items ≡ length old.children.items
    → flat_map vdevs_of new.children.items ≡ flat_map vdevs_of old.children.items → vdevs_of (Inner new) ≡ vdevs_of (Inner old)
inner_told old new guid kind many told =
    vdevs_inner new
    ∙ ap (λ g. inner_vdev g new.kind (length new.children.items) ∷ flat_map vdevs_of new.children.items) guid
    ∙ ap (λ k. inner_vdev old.guid k (length new.children.items) ∷ flat_map vdevs_of new.children.items) kind
    ∙ ap (λ n. inner_vdev old.guid old.kind n ∷ flat_map vdevs_of new.children.items) many
    ∙ ap (λ vs. inner_vdev old.guid old.kind (length old.children.items) ∷ vs) told
    ∙ sym (vdevs_inner old)

-- Without a failed call nothing changes on the board.
same_seats : (c : Counted) (seats : List Seat) → has_fault c ≡ false → map (counted_seat c) seats ≡ seats
same_seats c [] none = refl
same_seats c (seat ∷ seats) none = ap₂ (λ a b. a ∷ b) (ap (λ b. cond b (failed c.member seat) seat) none) (same_seats c seats none)

pub uncounted_group : (c : Counted) (group : FrozenGroup) → c.reads ≡ false → c.writes ≡ false → counted_group c group ≡ group
uncounted_group c group reads writes =
    ap (λ (seats : List Seat). record group { board = seats })
    (same_seats c group.board (ap (λ b. b || c.writes) reads ∙ writes))
