-- The tree of a top, by member numbers, from its vdevs in tree order.
use Rattle.std.specs.Prelude.{ℕ, List, [], ◌∷◌, take, drop, Some, None}
use Rattle.mp_base.specs.declared.number.Guid.{Guid}
use Rattle.vdev_tree.specs.declared.vdev.Kind.{Kind}
use Rattle.vdev_tree.specs.declared.vdev.Kind.TheVariants as kinds
use Rattle.pool_config.specs.Seen.{VdevSeen, leaf_vdev, inner_vdev}
use Rattle.txg_history.specs.Trees.{Single, Replacing, Child, Plain, Spared}

-- A vdev with what stands under it: a child of a mirror, a leaf alone among them; a mirror by its number with its
-- children; or one that no tree of a pool has.
pub data Node : Type 0 where
  a_child : Child → Node
  a_mirror : Guid → List Child → Node
  no_node : Node

abbrev pub children_in : List Node → List Child
children_in [] = []
children_in (a_child child ∷ nodes) = child ∷ children_in nodes
children_in (a_mirror m children ∷ nodes) = children_in nodes
children_in (no_node ∷ nodes) = children_in nodes

-- a replacing vdev with the old leaf and the new one
abbrev pub replacing_over : Guid → List Node → Node
replacing_over m (a_child (Plain (Single old)) ∷ (a_child (Plain (Single new)) ∷ [])) = a_child (Plain (Replacing m old new))
replacing_over m _ = no_node

-- a spare vdev with its first child and one or two spare leaves
abbrev pub spare_over : Guid → List Node → Node
spare_over m (a_child (Plain first) ∷ (a_child (Plain (Single spare)) ∷ [])) = a_child (Spared m first spare None)
spare_over m (a_child (Plain first) ∷ (a_child (Plain (Single spare)) ∷ (a_child (Plain (Single second)) ∷ []))) =
    a_child (Spared m first spare (Some second))
spare_over m _ = no_node

abbrev pub over : Guid → Kind → List Node → Node
over m kinds.Mirror below = a_mirror m (children_in below)
over m kinds.Replacing below = replacing_over m below
over m kinds.Spare below = spare_over m below

-- an inner vdev takes the first nodes behind it for its children
abbrev pub node_over : Guid → Kind → (count : ℕ) → List Node → List Node
node_over m kind count nodes = over m kind (take count nodes) ∷ drop count nodes

-- the trees that these vdevs make up, in their order
unfoldable pub nodes : List VdevSeen → List Node
nodes [] = []
nodes (leaf_vdev leaf ∷ vdevs) = a_child (Plain (Single leaf.guid)) ∷ nodes vdevs
nodes (inner_vdev m kind count ∷ vdevs) = node_over m kind count (nodes vdevs)

abbrev pub no_guid : Guid
no_guid = record { 0 = 0 }

-- the first of these is a mirror: its number, and its children

abbrev pub mirror_number : List Node → Guid
mirror_number (a_mirror m children ∷ nodes) = m
mirror_number _ = no_guid

abbrev pub mirror_children : List Node → List Child
mirror_children (a_mirror m children ∷ nodes) = children
mirror_children _ = []
