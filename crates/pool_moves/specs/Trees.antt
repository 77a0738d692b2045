-- What edits make of the trees of a pool's tops.
use Rattle.std.specs.Prelude.{◌==◌, ◌||◌, Bool, false, cond, Option, Some, None, List, [], ◌∷◌, ◌++◌}
use Rattle.std.specs.List.{list_any}
use Rattle.mp_base.specs.declared.number.Guid.{Guid}
pub use Rattle.txg_history.specs.Trees.{Branch, Single, Replacing, Child, Plain, Spared}

abbrev pub same_number : Guid → Guid → Bool
same_number m n = m.0 == n.0

-- the leaves of each, in tree order
abbrev pub branch_leaves : Branch → List Guid
branch_leaves (Single m) = m ∷ []
branch_leaves (Replacing vdev old new) = old ∷ (new ∷ [])

abbrev pub option_leaves : Option Guid → List Guid
option_leaves None = []
option_leaves (Some m) = m ∷ []

abbrev pub child_leaves : Child → List Guid
child_leaves (Plain branch) = branch_leaves branch
child_leaves (Spared vdev first spare second) = branch_leaves first ++ (spare ∷ option_leaves second)

abbrev pub tree_leaves : List Child → List Guid
tree_leaves [] = []
tree_leaves (child ∷ children) = child_leaves child ++ tree_leaves children

-- the leaf of this number stands alone there
abbrev pub is_single : Guid → Branch → Bool
is_single m (Single n) = same_number m n
is_single m (Replacing vdev old new) = false

-- it is a child of the mirror
abbrev pub is_the_child : Guid → Child → Bool
is_the_child m (Plain branch) = is_single m branch
is_the_child m (Spared vdev first spare second) = false

-- it is a child of the mirror, or the first child of a spare vdev
abbrev pub may_be_replaced : Guid → Child → Bool
may_be_replaced m (Plain branch) = is_single m branch
may_be_replaced m (Spared vdev first spare second) = is_single m first

-- it is a spare leaf of a spare vdev
abbrev pub is_spare_of : Guid → Child → Bool
is_spare_of m (Plain branch) = false
is_spare_of m (Spared vdev first spare None) = same_number m spare
is_spare_of m (Spared vdev first spare (Some second)) = same_number m spare || same_number m second

abbrev pub has_child : Guid → List Child → Bool
has_child m children = list_any (is_the_child m) children

abbrev pub has_replaceable : Guid → List Child → Bool
has_replaceable m children = list_any (may_be_replaced m) children

abbrev pub is_spare_leaf : Guid → List Child → Bool
is_spare_leaf m children = list_any (is_spare_of m) children

-- a new leaf is the last child of the mirror
abbrev pub attached : (new : Guid) → List Child → List Child
attached new children = children ++ (Plain (Single new) ∷ [])

-- the leaf of this number and the new one are a replacing vdev
abbrev pub replaced_branch : (m vdev new : Guid) → Branch → Branch
replaced_branch m vdev new (Single n) = cond (same_number m n) (Replacing vdev n new) (Single n)
replaced_branch m vdev new (Replacing v old other) = Replacing v old other

abbrev pub replaced_child : (m vdev new : Guid) → Child → Child
replaced_child m vdev new (Plain branch) = Plain (replaced_branch m vdev new branch)
replaced_child m vdev new (Spared v first spare second) = Spared v (replaced_branch m vdev new first) spare second

abbrev pub replaced : (m vdev new : Guid) → List Child → List Child
replaced m vdev new [] = []
replaced m vdev new (child ∷ children) = replaced_child m vdev new child ∷ replaced m vdev new children

-- without the leaf of this number. Of a replacing vdev the other leaf stays.
abbrev pub pruned_branch : Guid → Branch → Option Branch
pruned_branch m (Single n) = cond (same_number m n) None (Some (Single n))
pruned_branch m (Replacing vdev old new) =
    cond (same_number m old) (Some (Single new)) (cond (same_number m new) (Some (Single old)) (Some (Replacing vdev old new)))

-- a spare vdev that has these spare leaves left: without one it is its first child
abbrev pub unspared : (vdev : Guid) → Branch → Option Guid → Child
unspared vdev first None = Plain first
unspared vdev first (Some spare) = Spared vdev first spare None

-- a spare vdev by its first child and its spare leaves, one of which may be gone
abbrev pub pruned_spares : Guid → (vdev : Guid) → Branch → (spare : Guid) → Option Guid → Child
pruned_spares m vdev first spare None = cond (same_number m spare) (Plain first) (Spared vdev first spare None)
pruned_spares m vdev first spare (Some second) =
    cond (same_number m spare) (Spared vdev first second None) (cond (same_number m second) (Spared vdev first spare None)
    (Spared vdev first spare (Some second)))

-- One that lost the leaf that was its first child has its first spare leaf there.
abbrev pub pruned_first : Option Branch → Guid → (vdev : Guid) → (spare : Guid) → Option Guid → Child
pruned_first None m vdev spare second = unspared vdev (Single spare) second
pruned_first (Some first) m vdev spare second = pruned_spares m vdev first spare second

abbrev pub pruned_plain : Option Branch → List Child
pruned_plain None = []
pruned_plain (Some branch) = Plain branch ∷ []

abbrev pub pruned_child : Guid → Child → List Child
pruned_child m (Plain branch) = pruned_plain (pruned_branch m branch)
pruned_child m (Spared vdev first spare second) = pruned_first (pruned_branch m first) m vdev spare second ∷ []

abbrev pub pruned : Guid → List Child → List Child
pruned m [] = []
pruned m (child ∷ children) = pruned_child m child ++ pruned m children
