-- Boards that grow by a leaf.
use Rattle.std.proofs.Common.{◌≡◌, ℕ, ◌+◌, ◌≤◌, Bool, true, false, cond, List, [], ◌++◌, Option, Some, None, length, ap, arith, length-append}
use Rattle.std.specs.Bool.{beq}
use Rattle.std.specs.Option.{option_to_list}
use Rattle.label_store.specs.declared.member.Member.{Member}
use Rattle.vdev_tree.specs.declared.vdev.LeafVdev.{LeafVdev}
use Rattle.pool_core.specs.Keeping.{IsLeaf}
use Rattle.pool_core.specs.State.{LeafState, seat_of}
use Rattle.pool_core.proofs.Boards.{leaf_state, is_leaf}

few : (seat : Option Member) → length (option_to_list seat) ≤ 1
few None = omega arith
few (Some member) = omega arith

few_if : (b : Bool) (seat : Option Member) → length (cond b (option_to_list seat) []) ≤ 1
few_if true seat = few seat
few_if false seat = omega arith

-- by one member at most, whatever state the leaf stands for
pub seat_more : (v : LeafVdev) (old new : List Member) → ((state : LeafState) → IsLeaf v state → new ≡ old ++ option_to_list (seat_of state)) → length new ≤ length old + 1
seat_more v old new is =
    let seat = seat_of (leaf_state v) in
    omega (arith, ap length (is (leaf_state v) (is_leaf v)), length-append old (option_to_list seat), few seat)

pub copy_more : (v : LeafVdev) (g : ℕ) (owing : Bool) (old new : List Member)
    → ((state : LeafState) → IsLeaf v state → new ≡ old ++ cond (beq (state.owes g) owing) (option_to_list (seat_of state)) []) → length new ≤ length old + 1
copy_more v g owing old new is =
    let seat = seat_of (leaf_state v) in
    let b = beq ((leaf_state v).owes g) owing in
    omega (arith, ap length (is (leaf_state v) (is_leaf v)), length-append old (cond b (option_to_list seat) []), few_if b seat)
