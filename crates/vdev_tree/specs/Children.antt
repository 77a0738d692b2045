-- What a mirror has as its children. Each shape that a valid tree may have is a value here, and no other one.
use Rattle.std.specs.Prelude.{◌≡◌, List, [], ◌∷◌, ◌++◌, Option, Some, None}
use Rattle.mp_base.specs.declared.number.Guid.{Guid}
use Rattle.vdev_tree.specs.declared.vdev.Kind.{Kind}
use Rattle.vdev_tree.specs.declared.vdev.Kind.TheVariants.{Mirror, Replacing, Spare}
use Rattle.vdev_tree.specs.declared.vdev.Vdev.{Vdev}
use Rattle.vdev_tree.specs.declared.vdev.InnerVdev.{InnerVdev}
use Rattle.vdev_tree.specs.declared.vdev.LeafVdev.{LeafVdev}
use Rattle.vdev_tree.specs.declared.vdev.Vdev.TheVariants as vdevs
use Rattle.vdev_tree.specs.declared.vdev.Vdev.TheOpen.{Vdev-F, InnerVdev-F, Leaf, Inner}
use Rattle.vdev_tree.specs.declared.vdev.Vdev.TheFolds.{fold-Vdev}
use Rattle.vdev_tree.specs.Tree.{Mark, leaf_mark, opening, closing}

-- a leaf that stands alone, or a replacing vdev: its number, the old leaf and the new one
pub data Member : Type 0 where
  only : LeafVdev → Member
  replacing : Guid → LeafVdev → LeafVdev → Member

-- a child of a mirror: a member alone, or a spare vdev: its number, its first child, and its spare leaves,
-- of which there are one or two
pub data Child : Type 0 where
  alone : Member → Child
  spared : Guid → Member → LeafVdev → Option LeafVdev → Child

abbrev pub member_leaves : Member → List LeafVdev
member_leaves (only leaf) = leaf ∷ []
member_leaves (replacing _ old new) = old ∷ new ∷ []

abbrev pub spare_leaves : LeafVdev → Option LeafVdev → List LeafVdev
spare_leaves spare None = spare ∷ []
spare_leaves spare (Some second) = spare ∷ second ∷ []

-- the leaves of a child in tree order
abbrev pub child_leaves : Child → List LeafVdev
child_leaves (alone member) = member_leaves member
child_leaves (spared _ first spare second) = member_leaves first ++ spare_leaves spare second

abbrev pub member_marks : Member → List Mark
member_marks (only _) = leaf_mark ∷ []
member_marks (replacing guid _ _) = opening guid Replacing ∷ leaf_mark ∷ leaf_mark ∷ closing ∷ []

abbrev pub spare_marks : Option LeafVdev → List Mark
spare_marks None = leaf_mark ∷ closing ∷ []
spare_marks (Some _) = leaf_mark ∷ leaf_mark ∷ closing ∷ []

-- a child, written out
abbrev pub child_marks : Child → List Mark
child_marks (alone member) = member_marks member
child_marks (spared guid first _ second) = opening guid Spare ∷ (member_marks first ++ spare_marks second)

-- what a vdev is in a valid tree, or that no such tree has it
pub data Part : Type 0 where
  a_child : Child → Part
  the_mirror : List Child → Part
  no_part : Part

abbrev pub children_in : List Part → List Child
children_in [] = []
children_in (a_child child ∷ parts) = child ∷ children_in parts
children_in (the_mirror _ ∷ parts) = children_in parts
children_in (no_part ∷ parts) = children_in parts

abbrev pub replacing_part : Guid → List Part → Part
replacing_part guid (a_child (alone (only old)) ∷ a_child (alone (only new)) ∷ []) = a_child (alone (replacing guid old new))
replacing_part _ _ = no_part

abbrev pub spare_part : Guid → List Part → Part
spare_part guid (a_child (alone first) ∷ a_child (alone (only spare)) ∷ []) = a_child (spared guid first spare None)
spare_part guid (a_child (alone first) ∷ a_child (alone (only spare)) ∷ a_child (alone (only second)) ∷ []) =
    a_child (spared guid first spare (Some second))
spare_part _ _ = no_part

abbrev pub part_over : Kind → Guid → List Part → Part
part_over Mirror _ parts = the_mirror (children_in parts)
part_over Replacing guid parts = replacing_part guid parts
part_over Spare guid parts = spare_part guid parts

abbrev pub part_of_vdev : Vdev-F Part Part → Part
part_of_vdev (Leaf leaf) = a_child (alone (only leaf))
part_of_vdev (Inner part) = part

abbrev pub part_of_inner : InnerVdev-F Part Part → Part
part_of_inner inner = part_over inner.kind inner.guid inner.children.items

unfoldable pub part_of : Vdev → Part
part_of = fold-Vdev Part Part part_of_vdev part_of_inner

abbrev pub children_at : Part → List Child
children_at (a_child _) = []
children_at (the_mirror children) = children
children_at no_part = []

-- the children of the mirror of a valid tree, in their order
unfoldable pub children_of : Vdev → List Child
children_of vdev = children_at (part_of vdev)

-- a vdev is an inner one of this number and kind over these
pub record IsInner (vdev : Vdev) (guid : Guid) (kind : Kind) (items : List Vdev) : Type 0 where
  pub inner : InnerVdev
  pub is : vdev ≡ vdevs.Inner inner
  pub guid_is : inner.guid ≡ guid
  pub kind_is : inner.kind ≡ kind
  pub items_are : inner.children.items ≡ items

abbrev pub IsMember : Vdev → Member → Type 0
IsMember vdev (only leaf) = vdev ≡ vdevs.Leaf leaf
IsMember vdev (replacing guid old new) = IsInner vdev guid Replacing (vdevs.Leaf old ∷ vdevs.Leaf new ∷ [])

abbrev pub spare_vdevs : LeafVdev → Option LeafVdev → List Vdev
spare_vdevs spare None = vdevs.Leaf spare ∷ []
spare_vdevs spare (Some second) = vdevs.Leaf spare ∷ vdevs.Leaf second ∷ []

-- a vdev is this child
abbrev pub IsChild : Vdev → Child → Type 0
IsChild vdev (alone member) = IsMember vdev member
IsChild vdev (spared guid first spare second) =
    (below : Vdev) × IsMember below first × IsInner vdev guid Spare (below ∷ spare_vdevs spare second)
