-- Tops of which one after the other is changed.
use Rattle.std.proofs.Common.{ℕ, zero, suc, ◌+◌, ◌<◌, List, [], ◌∷◌, ◌++◌, All, length, get_or, set, take, sym, subst, arith}
use Rattle.std.specs.List.{flat_map, AllZip}
use Rattle.std.proofs.lemmas.List.Elements.{All-nil, All-cons, All-head, All-tail}
use Rattle.vdev_tree.specs.Tree.{leaves}
use Rattle.vdev_tree.specs.declared.top.Top.{Top}
use Rattle.vdev_tree.specs.declared.vdev.LeafVdev.{LeafVdev}
use Rattle.vdev_tree.proofs.Lists.{flat_more, flat_more_set, AllZip-append}
use Rattle.dtl_rules.specs.Widening.{leaves_of}
use Rattle.dtl_rules.proofs.Tops.{top_leaves}

module _ (P : LeafVdev → Type 0) where
  all_front : (xs ys : List LeafVdev) → All P (xs ++ ys) → All P xs
  all_front [] ys all = All-nil P
  all_front (x ∷ xs) ys all = All-cons P x xs (All-head P x (xs ++ ys) all) (all_front xs ys (All-tail P x (xs ++ ys) all))

  all_behind : (xs ys : List LeafVdev) → All P (xs ++ ys) → All P ys
  all_behind [] ys all = all
  all_behind (x ∷ xs) ys all = all_behind xs ys (All-tail P x (xs ++ ys) all)

  -- what holds of the leaves of all tops holds of those of one
  pub all_of_top : (tops : List Top) (i : ℕ) (d : Top) → i < length tops → All P (leaves_of tops) → All P (leaves (get_or tops i d).mirror)
  all_of_top [] i d inside all = absurd (omega arith)
  all_of_top (top ∷ tops) zero d inside all = all_front (leaves top.mirror) (leaves_of tops) all
  all_of_top (top ∷ tops) (suc i) d inside all = all_of_top tops i d (omega arith) (all_behind (leaves top.mirror) (leaves_of tops) all)

module _ (R : LeafVdev → LeafVdev → Type 0) where
  -- one top more is changed
  pub changed_top : (xs ys : List Top) (i : ℕ) (v d : Top) → i < length xs → i < length ys
      → AllZip R (flat_map top_leaves (take i ys)) (flat_map top_leaves (take i xs)) → AllZip R (leaves (get_or ys i d).mirror) (leaves v.mirror)
      → AllZip R (flat_map top_leaves (take (i + 1) ys)) (flat_map top_leaves (take (i + 1) (set xs i v)))
  changed_top xs ys i v d inside inside' are here =
      subst (λ ls. AllZip R ls (flat_map top_leaves (take (i + 1) (set xs i v)))) (sym (flat_more Top LeafVdev top_leaves ys i d inside'))
      (subst (AllZip R (flat_map top_leaves (take i ys) ++ leaves (get_or ys i d).mirror)) (sym (flat_more_set Top LeafVdev top_leaves xs i v inside))
      (AllZip-append LeafVdev R (flat_map top_leaves (take i ys)) (flat_map top_leaves (take i xs)) (leaves (get_or ys i d).mirror) (leaves v.mirror) are here))
