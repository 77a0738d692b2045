-- Which vdevs, written out one behind the other, make up the tree of a top.
use Rattle.std.specs.Prelude.{ℕ, Bool, false, cond, nat_le, List, [], ◌∷◌, length, take, drop}
use Rattle.vdev_tree.specs.Tree.{Form, a_leaf, no_form, form_over, is_mirror}
use Rattle.pool_config.specs.Seen.{VdevSeen, leaf_vdev, inner_vdev}

-- an inner vdev takes the first trees behind it for its children, where there are so many
abbrev pub over_first : (count : ℕ) → (List Form → Form) → List Form → List Form
over_first count over forms =
    cond (nat_le count (length forms)) (over (take count forms) ∷ drop count forms) (no_form ∷ [])

-- the forms of the trees that these vdevs make up, in their order
unfoldable pub forms : List VdevSeen → List Form
forms [] = []
forms (leaf_vdev leaf ∷ vdevs) = a_leaf ∷ forms vdevs
forms (inner_vdev guid kind count ∷ vdevs) = over_first count (form_over kind) (forms vdevs)

-- one tree and no other
abbrev pub is_one_mirror : List Form → Bool
is_one_mirror [] = false
is_one_mirror (form ∷ []) = is_mirror form
is_one_mirror (form ∷ (next ∷ forms)) = false

-- these vdevs make up one tree, a mirror of 1 to 8 children
unfoldable pub is_tree : List VdevSeen → Bool
is_tree vdevs = is_one_mirror (forms vdevs)
