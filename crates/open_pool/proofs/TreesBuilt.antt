-- Trees that are built alike have as many leaves, and each top has some.
use Rattle.std.proofs.Common.{◌≡◌, ℕ, suc, ◌+◌, ◌≤◌, List, [], ◌∷◌, ◌++◌, length, map, refl, sym, ap, ◌∙◌, subst, arith, length-append}
use Rattle.std.specs.List.{flat_map}
use Rattle.vdev_tree.specs.Children.{Member, Child, only, replacing, alone, spared, member_leaves, spare_leaves, child_leaves, children_of}
use Rattle.vdev_tree.specs.Tree.{leaves, marks, Mark, leaf_mark, opening, closing}
use Rattle.vdev_tree.specs.declared.top.Top.{Top}
use Rattle.vdev_tree.specs.declared.vdev.InnerVdev.{InnerVdev}
use Rattle.vdev_tree.specs.declared.vdev.LeafVdev.{LeafVdev}
use Rattle.vdev_tree.specs.declared.vdev.Vdev.{Vdev}
use Rattle.vdev_tree.specs.declared.vdev.Vdev.TheVariants.{Leaf, Inner}
use Rattle.vdev_tree.proofs.Folds.{leaves_leaf, leaves_inner, marks_at_leaf, marks_inner}
use Rattle.vdev_tree.proofs.Shapes.{top_is, mirror_leaves}
use Rattle.dtl_rules.specs.Widening.{leaves_of, marks_of}
use Rattle.pool_config.proofs.Induction.{Held, vdevs_held, of_every_vdev}
use Rattle.open_pool.specs.Parts.{all_parts}
use Rattle.open_pool.specs.State.{leaves_under}
use Rattle.open_pool.proofs.BoardIsSeats.{HaveLeaves}
use Rattle.open_pool.proofs.BoardKept.{AreSameLeaves}
use Rattle.open_pool.proofs.LeavesByTops.{sizes, under_all, under_trees}
use Rattle.open_pool.proofs.TreesStay.{AreNumberedAlike, AreTreesAlike, numbered_alike, trees_alike}

-- how many leaves are written
abbrev leaf_count : List Mark → ℕ
leaf_count [] = 0
leaf_count (leaf_mark ∷ ms) = suc (leaf_count ms)
leaf_count (opening guid kind ∷ ms) = leaf_count ms
leaf_count (closing ∷ ms) = leaf_count ms

count-append : (xs ys : List Mark) → leaf_count (xs ++ ys) ≡ leaf_count xs + leaf_count ys
count-append [] ys = omega arith
count-append (leaf_mark ∷ xs) ys = let rest = count-append xs ys in omega (arith, rest)
count-append (opening guid kind ∷ xs) ys = count-append xs ys
count-append (closing ∷ xs) ys = count-append xs ys

abbrev IsCounted : Vdev → Type 0
IsCounted v = leaf_count (marks v) ≡ length (leaves v)

counted_leaf : (leaf : LeafVdev) → IsCounted (Leaf leaf)
counted_leaf leaf = ap leaf_count (marks_at_leaf leaf) ∙ sym (ap length (leaves_leaf leaf))

counted_all : (held : List (Held IsCounted))
    → leaf_count (flat_map marks (vdevs_held IsCounted held)) ≡ length (flat_map leaves (vdevs_held IsCounted held))
counted_all [] = refl
counted_all (e ∷ held) =
    let rest = counted_all held in
    let here = e.1 in
    omega (
      arith,
      count-append (marks e.0) (flat_map marks (vdevs_held IsCounted held)),
      length-append (leaves e.0) (flat_map leaves (vdevs_held IsCounted held)),
      rest,
      here,
    )

counted_inner : (inner : InnerVdev) (held : List (Held IsCounted)) → vdevs_held IsCounted held ≡ inner.children.items
    → IsCounted (Inner inner)
counted_inner inner held is =
    ap leaf_count (marks_inner inner) ∙ count-append (flat_map marks inner.children.items) (closing ∷ [])
    ∙ (let none : leaf_count (flat_map marks inner.children.items) + 0 ≡ leaf_count (flat_map marks inner.children.items) = omega arith in none)
    ∙ subst (λ vs. leaf_count (flat_map marks vs) ≡ length (flat_map leaves vs)) is (counted_all held)
    ∙ sym (ap length (leaves_inner inner))

pub leaves_counted : (v : Vdev) → leaf_count (marks v) ≡ length (leaves v)
leaves_counted = of_every_vdev IsCounted counted_leaf counted_inner

marks_count : (tops : List Top) → map leaf_count (marks_of tops) ≡ sizes (leaves_under (all_parts tops))
marks_count [] = refl
marks_count (top ∷ tops) = ap (λ n. n ∷ map leaf_count (marks_of tops)) (leaves_counted top.mirror)
    ∙ ap (λ ns. length (leaves top.mirror) ∷ ns) (marks_count tops)

-- Tops that are built alike have as many leaves, top by top.
pub built_sizes : (old new : List Top) → marks_of new ≡ marks_of old
    → sizes (leaves_under (all_parts new)) ≡ sizes (leaves_under (all_parts old))
built_sizes old new built = sym (marks_count new) ∙ ap (map leaf_count) built ∙ marks_count old

-- so over leaves of the same numbers they are told alike
pub numbers_told : (old new : List Top) → marks_of new ≡ marks_of old → AreNumberedAlike (leaves_of old) (leaves_of new) → AreTreesAlike old new
numbers_told old new built same =
    trees_alike old new built (built_sizes old new built)
    (subst (λ ls. AreNumberedAlike ls (under_all (leaves_under (all_parts new)))) (sym (under_trees old))
    (subst (AreNumberedAlike (leaves_of old)) (sym (under_trees new)) same))

pub trees_told : (old new : List Top) → marks_of new ≡ marks_of old → AreSameLeaves (leaves_of old) (leaves_of new) → AreTreesAlike old new
trees_told old new built same = numbers_told old new built (numbered_alike (leaves_of old) (leaves_of new) same)

member_has : (member : Member) → 1 ≤ length (member_leaves member)
member_has (only leaf) = omega arith
member_has (replacing guid old new) = omega arith

child_has : (child : Child) → 1 ≤ length (child_leaves child)
child_has (alone member) = member_has member
child_has (spared guid first spare second) = omega
    (arith, length-append (member_leaves first) (spare_leaves spare second), member_has first)

children_have : (children : List Child) → 1 ≤ length children → 1 ≤ length (flat_map child_leaves children)
children_have [] some = absurd (omega (arith, some))
children_have (child ∷ children) some = omega
    (arith, length-append (child_leaves child) (flat_map child_leaves children), child_has child)

top_has : (top : Top) → 1 ≤ length (leaves top.mirror)
top_has top =
    let m = top_is top.mirror top.valid in
    let are = ap length (mirror_leaves top.mirror (children_of top.mirror) m) in
    omega (arith, are, children_have (children_of top.mirror) m.some)

-- Each top has a leaf.
pub tops_have_leaves : (tops : List Top) → HaveLeaves (leaves_under (all_parts tops))
tops_have_leaves [] = tt
tops_have_leaves (top ∷ tops) = (top_has top, tops_have_leaves tops)
