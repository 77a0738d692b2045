-- The names of the leaves under a block's top are those of the state's leaves.
use Rattle.std.proofs.Common.{◌≡◌, ℕ, ◌+◌, ◌<◌, ◌≤◌, ◌==◌, Bool, true, false, cond, List, [], ◌∷◌, ◌++◌, map, take, get_or, Some, None, Result, Ok, Err, refl, sym, ap, ◌∙◌, subst, arith}
use Rattle.std.specs.Prelude.{slice_get, nat_lt, IfOk}
use Rattle.std.proofs.lemmas.List.{take_more, map-append}
use Rattle.std.proofs.lemmas.Option.{none-some, same_Some}
use Rattle.mp_base.specs.declared.place.Pointer.{Pointer}
use Rattle.vdev_tree.specs.Tree.{leaves}
use Rattle.vdev_tree.specs.declared.top.Top.{Top}
use Rattle.vdev_tree.specs.declared.vdev.LeafVdev.{LeafVdev}
use Rattle.std.proofs.lemmas.Bool.Decides.{nat_tests}
use Rattle.block_map.specs.Keys.{is_key, keys_at}
use Rattle.block_map.specs.Map.{Map, pointer_at}
use Rattle.block_map.proofs.PointersChanged.{no_pointer}
use Rattle.block_map.specs.Places.{IsPlace}
use Rattle.block_map.specs.Pointers.{written}
use Rattle.dtl_rules.specs.Widening.{sectors_of}
use Rattle.txg_history.specs.Records.{key}
use Rattle.txg_engine.specs.declared.seat.Seat.{Seat}
use Rattle.txg_engine.proofs.Seating.{got_inside, got_there}
use Rattle.pool_codec.specs.Pointers.{told, sum_in}
use Rattle.pool_moves.specs.Leaves.{LeafSeen}
use Rattle.pool_moves.specs.States.{PoolState}
use Rattle.open_pool.specs.BlockNames.{names_under, names_of_block}
use Rattle.open_pool.specs.Parts.{PoolParts, all_parts}
use Rattle.open_pool.specs.State.{leaf_of, leaves_from, leaves_under, seats_in, Stands}
use Rattle.open_pool.proofs.CopiesOfTops.{under_one}
use Rattle.open_pool.proofs.CopiesOnDevices.{top_inside, under_at}
use Rattle.open_pool.proofs.StatesStand.{by_state}

-- one leaf more
pub names_more : (under : List LeafVdev) (place : ℕ) (leaf : LeafVdev) (now after : List (List ℕ)) → slice_get under place ≡ Some leaf
    → now ≡ map (λ leaf. leaf.name) (take place under) → after ≡ now ++ leaf.name ∷ [] → after ≡ map (λ leaf. leaf.name) (take (place + 1) under)
names_more under place leaf now after at is is' =
    is' ∙ ap (λ l. l ++ leaf.name ∷ []) is ∙ sym (map-append (λ (l : LeafVdev). l.name) (take place under) (leaf ∷ []))
    ∙ ap (map (λ (l : LeafVdev). l.name)) (sym (take_more under place leaf (got_inside under place leaf at)
    ∙ ap (λ l. take place under ++ l ∷ []) (got_there under place leaf leaf at)))

-- a hole has no sum, and a pointer that is told has its own
no_sum : (at : Pointer) → None ≡ written at → sum_in at ≡ None
unfolding written
no_sum at none = by (at.birth.0 == 0) refl none
  where
    by : (t : Bool) → (at.birth.0 == 0) ≡ t → None ≡ cond t None (Some at) → cond (at.birth.0 == 0) None (Some (told at)) ≡ None
    by true zero none = ap (λ b. cond b None (Some (told at))) zero
    by false some none = absurd (none-some at none)

some_sum : (at q : Pointer) → Some q ≡ written at → sum_in at ≡ Some (told q)
unfolding written
some_sum at q some = by (at.birth.0 == 0) refl some
  where
    by : (t : Bool) → (at.birth.0 == 0) ≡ t → Some q ≡ cond t None (Some at) → cond (at.birth.0 == 0) None (Some (told at)) ≡ Some (told q)
    by true zero some = absurd (none-some q (sym some))
    by false not_zero some = ap (λ b. cond b None (Some (told at))) not_zero ∙ ap (λ p. Some (told p)) (sym (same_Some q at some))

leaf_names : (seats : List Seat) (top : ℕ) (under : List LeafVdev)
    → map (λ (leaf : LeafVdev). leaf.name) under ≡ map (λ (leaf : LeafSeen). leaf.own.name) (map (leaf_of seats top) under)
leaf_names seats top [] = refl
leaf_names seats top (leaf ∷ under) = ap (λ l. leaf.name ∷ l) (leaf_names seats top under)

pub no_names : (p : PoolParts) (a : ℕ) → None ≡ written (pointer_at p.map (key 0 a)) → (s : PoolState) → Stands p s → [] ≡ names_of_block a s
no_names p a none = by_state (λ s. [] ≡ names_of_block a s) p
    (λ held pins. ap (λ o. names_under o (leaves_from (seats_in p.frozen) 1 (leaves_under p.tops))) (sym (no_sum (pointer_at p.map (key 0 a)) none)))

some_names : (p : PoolParts) (a : ℕ) (q : Pointer) (under : List LeafVdev) → Some q ≡ written (pointer_at p.map (key 0 a))
    → slice_get (leaves_under p.tops) q.place.top ≡ Some under → (s : PoolState) → Stands p s → map (λ leaf. leaf.name) under ≡ names_of_block a s
some_names p a q under is at = by_state (λ s. map (λ leaf. leaf.name) under ≡ names_of_block a s) p (λ held pins.
    leaf_names (seats_in p.frozen) (q.place.top + 1) under
    ∙ ap (map (λ (leaf : LeafSeen). leaf.own.name)) (sym (under_one (seats_in p.frozen) 1 q.place.top (q.place.top + 1) (leaves_under p.tops) under (omega arith) at))
    ∙ ap (λ o. names_under o (leaves_from (seats_in p.frozen) 1 (leaves_under p.tops))) (sym (some_sum (pointer_at p.map (key 0 a)) q is)))

-- so it is of a call that gives the names in the tree
pub names_by : {T E : Type 0} (items : T → List (List ℕ)) (p : PoolParts) (a : ℕ) (trees : List Top) → p.tops ≡ all_parts trees → (q : Pointer)
    → Some q ≡ written (pointer_at p.map (key 0 a)) → IsPlace (sectors_of trees) q.place → (top : Top) → top ≡ get_or trees q.place.top top
    → (result : Result T E) → IfOk result (λ names. items names ≡ map (λ leaf. leaf.name) (leaves top.mirror))
    → (s : PoolState) → Stands p s → IfOk result (λ names. items names ≡ names_of_block a s)
names_by items p a trees parts q is place top got (Ok names) are s stands =
    are ∙ some_names p a q (leaves top.mirror) is
    (subst (λ ts. slice_get (leaves_under ts) q.place.top ≡ Some (leaves top.mirror)) (sym parts)
    (under_at trees q.place.top top (top_inside trees q.place place) ∙ ap (λ (t : Top). Some (leaves t.mirror)) (sym got))) s stands
names_by items p a trees parts q is place top got (Err fault) are s stands = tt

-- no block of the volume has this address
pub outside : (map : Map) (a : ℕ) → map.blocks ≤ a → None ≡ written (pointer_at map (key 0 a))
unfolding written keys_at is_key
outside map a high = ap written (sym (no_pointer map (key 0 a) (by (nat_lt a map.blocks) refl)))
  where
    by : (t : Bool) → nat_lt a map.blocks ≡ t → nat_lt a map.blocks ≡ false
    by true low = absurd (let less : a < map.blocks = grind (arith, nat_tests) in omega (arith, less, high))
    by false out = out
