-- Leaves that get room in their sets, one after another.
use Rattle.std.proofs.Common.{◌≡◌, ℕ, ◌+◌, ◌<◌, List, [], ◌++◌, All, length, get_or, set, take, drop, Result, Ok, Err, OnOk, refl, ap, sym, ◌∙◌, subst, arith}
use Rattle.std.specs.List.{flat_map, AllZip}
use Rattle.std.proofs.lemmas.List.Elements.{All-nil, All-cons, All-append}
use Rattle.mp_base.specs.declared.fault.MemFault.{MemFault}
use Rattle.vdev_tree.specs.Tree.{leaves}
use Rattle.vdev_tree.specs.declared.top.Top.{Top}
use Rattle.vdev_tree.specs.declared.vdev.InnerVdev.{InnerVdev}
use Rattle.vdev_tree.specs.declared.vdev.LeafVdev.{LeafVdev}
use Rattle.vdev_tree.specs.declared.vdev.Vdev.TheVariants.{Leaf, Inner}
use Rattle.vdev_tree.proofs.Folds.{leaves_leaf, leaves_inner}
use Rattle.vdev_tree.proofs.Lists.{flat_more_set, flat_set, flat_split, drop_one, AllZip-append, AllZip-refl}
use Rattle.dtl_rules.specs.Widening.{leaves_of}
use Rattle.txg_engine.specs.Logs.{KeepsSets, HasCommitRoom}

pub KeepsSets-refl : (leaf : LeafVdev) → KeepsSets leaf leaf
KeepsSets-refl leaf = record {
  log = record { groups = λ g. refl; ranges = refl; room = omega arith };
  settled = record { groups = λ g. refl; ranges = refl; room = omega arith };
  rest = λ log settled. refl;
}

pub room_of_leaf : (r : Result (Unit {0}) MemFault) (leaf : LeafVdev) → OnOk r (HasCommitRoom leaf)
    → OnOk r (All HasCommitRoom (leaves (Leaf leaf)))
room_of_leaf (Ok _) leaf room =
    subst (All HasCommitRoom) (sym (leaves_leaf leaf)) (All-cons HasCommitRoom leaf [] room (All-nil HasCommitRoom))
room_of_leaf (Err _) leaf room = tt

pub room_of_inner : (r : Result (Unit {0}) MemFault) (inner : InnerVdev)
    → OnOk r (All HasCommitRoom (flat_map leaves inner.children.items)) → OnOk r (All HasCommitRoom (leaves (Inner inner)))
room_of_inner (Ok _) inner room = subst (All HasCommitRoom) (sym (leaves_inner inner)) room
room_of_inner (Err _) inner room = tt

module _ (V : Type 0) (f : V → List LeafVdev) where
  -- one more has room
  pub room_more : (xs : List V) (i : ℕ) (v : V) → i < length xs → All HasCommitRoom (flat_map f (take i xs)) → All HasCommitRoom (f v)
      → All HasCommitRoom (flat_map f (take (i + 1) (set xs i v)))
  room_more xs i v inside all here =
      subst (All HasCommitRoom) (sym (flat_more_set V LeafVdev f xs i v inside))
      (All-append HasCommitRoom (flat_map f (take i xs)) (f v) all here)

  -- one is changed, and those behind it are as they were
  pub kept_at : (xs ys : List V) (i : ℕ) (v d : V) → i < length xs → i < length ys → drop i xs ≡ drop i ys
      → AllZip KeepsSets (flat_map f (take i ys)) (flat_map f (take i xs)) → AllZip KeepsSets (f (get_or ys i d)) (f v)
      → AllZip KeepsSets (flat_map f ys) (flat_map f (set xs i v))
  kept_at xs ys i v d inside inside' rest are here =
      let behind = flat_map f (drop (i + 1) ys) in
      let new : flat_map f (set xs i v) ≡ flat_map f (take i xs) ++ (f v ++ behind) =
      flat_set V LeafVdev f xs i v inside
      ∙ ap (λ zs. flat_map f (take i xs) ++ (f v ++ flat_map f zs)) (drop_one V xs ys i rest) in
      subst (λ ls. AllZip KeepsSets ls (flat_map f (set xs i v))) (sym (flat_split V LeafVdev f ys i d inside'))
      (subst (AllZip KeepsSets (flat_map f (take i ys) ++ (f (get_or ys i d) ++ behind))) (sym new)
      (AllZip-append LeafVdev KeepsSets (flat_map f (take i ys)) (flat_map f (take i xs)) (f (get_or ys i d) ++ behind)
      (f v ++ behind) are
      (AllZip-append LeafVdev KeepsSets (f (get_or ys i d)) (f v) behind behind here
      (AllZip-refl LeafVdev KeepsSets KeepsSets-refl behind))))

-- no leaf is changed
pub kept_all : (tops : List Top) → AllZip KeepsSets (leaves_of tops) (leaves_of tops)
kept_all tops = AllZip-refl LeafVdev KeepsSets KeepsSets-refl (leaves_of tops)
