-- Leaves of a tree that are changed, one after another.
use Rattle.std.proofs.Common.{◌≡◌, ℕ, ◌+◌, ◌<◌, ◌≤◌, zero, suc, List, [], ◌∷◌, ◌++◌, All, length, get_or, set, take, drop, Result, Ok, Err, OnOk, refl, ap, sym, ◌∙◌, subst, arith, length-append}
use Rattle.std.specs.List.{flat_map, AllZip}
use Rattle.std.proofs.lemmas.List.Elements.{All-nil, All-cons, All-head, All-tail, All-append}
use Rattle.vdev_tree.specs.declared.vdev.Vdev.{Vdev}
use Rattle.vdev_tree.specs.declared.vdev.InnerVdev.{InnerVdev}
use Rattle.vdev_tree.specs.declared.vdev.LeafVdev.{LeafVdev}
use Rattle.vdev_tree.specs.declared.vdev.Vdev.TheVariants.{Leaf, Inner}
use Rattle.mp_base.specs.declared.fault.MemFault.{MemFault}
use Rattle.vdev_tree.specs.Tree.{leaves, marks, closing}
use Rattle.vdev_tree.specs.Changes.{has_room, KeepsLog}
use Rattle.vdev_tree.proofs.Folds.{leaves_leaf, leaves_inner, marks_inner}
use Rattle.vdev_tree.proofs.Lists.{flat_more, flat_more_set, flat_set, flat_split, drop_one, AllZip-append, AllZip-refl}

-- a vdev has more marks than its children together
pub length-marks : (vdev : Vdev) (inner : InnerVdev) → vdev ≡ Inner inner → length (marks vdev) ≡ length (flat_map marks inner.children.items) + 2
length-marks vdev inner is =
    omega (arith, ap (λ (v : Vdev). length (marks v)) is, ap length (marks_inner inner), length-append (flat_map marks inner.children.items) (closing ∷ []))

pub marks_of_child : (vdevs : List Vdev) (i : ℕ) (d : Vdev) → i < length vdevs → length (marks (get_or vdevs i d)) ≤ length (flat_map marks vdevs)
marks_of_child [] i d inside = absurd (omega arith)
marks_of_child (v ∷ vdevs) zero d inside = omega (arith, length-append (marks v) (flat_map marks vdevs))
marks_of_child (v ∷ vdevs) (suc i) d inside = omega (arith, length-append (marks v) (flat_map marks vdevs), marks_of_child vdevs i d (omega arith))

module _ (P : LeafVdev → Type 0) where
  pub all_of_leaf : (leaf : LeafVdev) → All P (leaves (Leaf leaf)) → P leaf
  all_of_leaf leaf all = All-head P leaf [] (subst (All P) (leaves_leaf leaf) all)

  pub all_of_inner : (inner : InnerVdev) → All P (leaves (Inner inner)) → All P (flat_map leaves inner.children.items)
  all_of_inner inner all = subst (All P) (leaves_inner inner) all

  all_front : (xs ys : List LeafVdev) → All P (xs ++ ys) → All P xs
  all_front [] ys all = All-nil P
  all_front (x ∷ xs) ys all = All-cons P x xs (All-head P x (xs ++ ys) all) (all_front xs ys (All-tail P x (xs ++ ys) all))

  all_behind : (xs ys : List LeafVdev) → All P (xs ++ ys) → All P ys
  all_behind [] ys all = all
  all_behind (x ∷ xs) ys all = all_behind xs ys (All-tail P x (xs ++ ys) all)

  -- what holds of the leaves of all children holds of those of one
  pub all_of_child : (vdevs : List Vdev) (i : ℕ) (d : Vdev) → i < length vdevs → All P (flat_map leaves vdevs) → All P (leaves (get_or vdevs i d))
  all_of_child [] i d inside all = absurd (omega arith)
  all_of_child (v ∷ vdevs) zero d inside all = all_front (leaves v) (flat_map leaves vdevs) all
  all_of_child (v ∷ vdevs) (suc i) d inside all = all_of_child vdevs i d (omega arith) (all_behind (leaves v) (flat_map leaves vdevs) all)

module _ (R : LeafVdev → LeafVdev → Type 0) where
  pub leaf_changed : (old new : LeafVdev) → R old new → AllZip R (leaves (Leaf old)) (leaves (Leaf new))
  leaf_changed old new is =
      subst (λ ls. AllZip R ls (leaves (Leaf new))) (sym (leaves_leaf old)) (subst (AllZip R (old ∷ [])) (sym (leaves_leaf new)) (is, tt))

  pub inner_changed : (old new : InnerVdev) → AllZip R (flat_map leaves old.children.items) (flat_map leaves new.children.items) → AllZip R (leaves (Inner old)) (leaves (Inner new))
  inner_changed old new are =
      subst (λ ls. AllZip R ls (leaves (Inner new))) (sym (leaves_inner old)) (subst (AllZip R (flat_map leaves old.children.items)) (sym (leaves_inner new)) are)

  -- one child more is changed
  pub changed_more : (xs ys : List Vdev) (i : ℕ) (v d : Vdev) → i < length xs → i < length ys → AllZip R (flat_map leaves (take i ys)) (flat_map leaves (take i xs))
      → AllZip R (leaves (get_or ys i d)) (leaves v) → AllZip R (flat_map leaves (take (i + 1) ys)) (flat_map leaves (take (i + 1) (set xs i v)))
  changed_more xs ys i v d inside inside' are here =
      subst (λ ls. AllZip R ls (flat_map leaves (take (i + 1) (set xs i v)))) (sym (flat_more Vdev LeafVdev leaves ys i d inside'))
      (subst (AllZip R (flat_map leaves (take i ys) ++ leaves (get_or ys i d))) (sym (flat_more_set Vdev LeafVdev leaves xs i v inside))
      (AllZip-append LeafVdev R (flat_map leaves (take i ys)) (flat_map leaves (take i xs)) (leaves (get_or ys i d)) (leaves v) are here))

  -- one child is changed, and those behind it are as they were
  pub changed_at : ((leaf : LeafVdev) → R leaf leaf) → (xs ys : List Vdev) (i : ℕ) (v d : Vdev) → i < length xs → i < length ys → drop i xs ≡ drop i ys
      → AllZip R (flat_map leaves (take i ys)) (flat_map leaves (take i xs)) → AllZip R (leaves (get_or ys i d)) (leaves v)
      → AllZip R (flat_map leaves ys) (flat_map leaves (set xs i v))
  changed_at same xs ys i v d inside inside' rest are here =
      let behind = flat_map leaves (drop (i + 1) ys) in
      let new : flat_map leaves (set xs i v) ≡ flat_map leaves (take i xs) ++ (leaves v ++ behind) =
      flat_set Vdev LeafVdev leaves xs i v inside ∙ ap (λ zs. flat_map leaves (take i xs) ++ (leaves v ++ flat_map leaves zs)) (drop_one Vdev xs ys i rest) in
      subst (λ ls. AllZip R ls (flat_map leaves (set xs i v))) (sym (flat_split Vdev LeafVdev leaves ys i d inside'))
      (subst (AllZip R (flat_map leaves (take i ys) ++ (leaves (get_or ys i d) ++ behind))) (sym new)
      (AllZip-append LeafVdev R (flat_map leaves (take i ys)) (flat_map leaves (take i xs)) (leaves (get_or ys i d) ++ behind) (leaves v ++ behind) are
      (AllZip-append LeafVdev R (leaves (get_or ys i d)) (leaves v) behind behind here (AllZip-refl LeafVdev R same behind))))

pub KeepsLog-refl : (leaf : LeafVdev) → KeepsLog leaf leaf
KeepsLog-refl leaf = record { groups = λ g. refl; ranges = refl; room = omega arith; rest = λ log. refl }

pub room_of_leaf : (n : ℕ) (r : Result (Unit {0}) MemFault) (leaf : LeafVdev) → OnOk r (has_room n leaf) → OnOk r (All (has_room n) (leaves (Leaf leaf)))
room_of_leaf n (Ok _) leaf room = subst (All (has_room n)) (sym (leaves_leaf leaf)) (All-cons (has_room n) leaf [] room (All-nil (has_room n)))
room_of_leaf n (Err _) leaf room = tt

pub room_of_inner : (n : ℕ) (r : Result (Unit {0}) MemFault) (inner : InnerVdev) → OnOk r (All (has_room n) (flat_map leaves inner.children.items)) → OnOk r (All (has_room n) (leaves (Inner inner)))
room_of_inner n (Ok _) inner room = subst (All (has_room n)) (sym (leaves_inner inner)) room
room_of_inner n (Err _) inner room = tt

-- one child more has room in its logs
pub room_more : (n : ℕ) (vdevs : List Vdev) (i : ℕ) (v : Vdev) → i < length vdevs → All (has_room n) (flat_map leaves (take i vdevs)) → All (has_room n) (leaves v)
    → All (has_room n) (flat_map leaves (take (i + 1) (set vdevs i v)))
room_more n vdevs i v inside all here =
    subst (All (has_room n)) (sym (flat_more_set Vdev LeafVdev leaves vdevs i v inside)) (All-append (has_room n) (flat_map leaves (take i vdevs)) (leaves v) all here)
