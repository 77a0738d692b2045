-- Each top has a leaf, so few leaves are on few tops, whose logs have few ranges once they were fitted.
use Rattle.std.proofs.Common.{◌≡◌, ◌≤◌, List, [], ◌∷◌, length, ap, arith, length-append}
use Rattle.std.specs.List.{flat_map}
use Rattle.std.proofs.lemmas.List.{length-map}
use Rattle.vdev_tree.specs.Children.{Member, Child, only, replacing, alone, spared, member_leaves, spare_leaves, child_leaves, children_of}
use Rattle.vdev_tree.specs.Tree.{leaves, marks}
use Rattle.vdev_tree.specs.declared.top.Top.{Top}
use Rattle.vdev_tree.proofs.Shapes.{top_is, mirror_leaves}
use Rattle.dtl_rules.specs.Widening.{leaves_of, marks_of, total_ranges}

member_has : (member : Member) → 1 ≤ length (member_leaves member)
member_has (only leaf) = omega arith
member_has (replacing guid old new) = omega arith

child_has : (child : Child) → 1 ≤ length (child_leaves child)
child_has (alone member) = member_has member
child_has (spared guid first spare second) =
    omega (arith, length-append (member_leaves first) (spare_leaves spare second), member_has first)

children_have : (children : List Child) → 1 ≤ length children → 1 ≤ length (flat_map child_leaves children)
children_have [] some = absurd (omega arith)
children_have (child ∷ children) some =
    omega (arith, length-append (child_leaves child) (flat_map child_leaves children), child_has child)

top_has : (top : Top) → 1 ≤ length (leaves top.mirror)
top_has top =
    let m = top_is top.mirror top.valid in
    let are = ap length (mirror_leaves top.mirror (children_of top.mirror) m) in
    omega (arith, children_have (children_of top.mirror) m.some)

tops_have : (tops : List Top) → length tops ≤ length (leaves_of tops)
tops_have [] = omega arith
tops_have (top ∷ tops) = omega (arith, length-append (leaves top.mirror) (leaves_of tops), top_has top, tops_have tops)

-- what fitting says of few tops, said of few leaves
pub fitted : (old new : List Top) → marks_of new ≡ marks_of old → (length old ≤ 128 → total_ranges (leaves_of new) ≤ 4096)
    → length (leaves_of new) ≤ 128 → total_ranges (leaves_of new) ≤ 4096
fitted old new built small few =
    let many = tops_have new in
    small (omega (
      arith,
      length-map new (λ (top : Top). marks top.mirror),
      length-map old (λ (top : Top). marks top.mirror),
      ap length built,
    ))
