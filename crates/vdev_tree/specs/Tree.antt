-- The leaves of a tree, and the states of its inner vdevs.
use Rattle.std.specs.Prelude.{◌≡◌, ℕ, Bool, true, false, ◌&&◌, cond, List, [], ◌∷◌, ◌++◌, length, ◌==◌, nat_le}
use Rattle.std.specs.List.{list_any, list_all}
use Rattle.vdev_tree.specs.declared.vdev.State.{State}
use Rattle.vdev_tree.specs.declared.vdev.State.TheVariants.{Online, Degraded, Unavail}
use Rattle.vdev_tree.specs.declared.vdev.Kind.{Kind}
use Rattle.vdev_tree.specs.declared.vdev.Kind.TheVariants.{Mirror, Replacing, Spare}
use Rattle.vdev_tree.specs.Leaf.{is_up, is_online, SameLeaf}
use Rattle.std.specs.List.{AllZip}
use Rattle.std.specs.Str.{bytes_eq}
use Rattle.mp_base.specs.declared.number.Guid.{Guid}
use Rattle.vdev_tree.specs.declared.vdev.Vdev.{Vdev}
use Rattle.vdev_tree.specs.declared.vdev.LeafVdev.{LeafVdev}
use Rattle.vdev_tree.specs.declared.vdev.Vdev.TheOpen.{Vdev-F, InnerVdev-F, Leaf, Inner}
use Rattle.vdev_tree.specs.declared.vdev.Vdev.TheFolds.{fold-Vdev}

-- lists one after another
abbrev pub joined : {X : Type 0} → List (List X) → List X
joined [] = []
joined (xs ∷ rest) = xs ++ joined rest

abbrev pub leaves_of_vdev : Vdev-F (List LeafVdev) (List LeafVdev) → List LeafVdev
leaves_of_vdev (Leaf leaf) = leaf ∷ []
leaves_of_vdev (Inner under) = under

abbrev pub leaves_of_inner : InnerVdev-F (List LeafVdev) (List LeafVdev) → List LeafVdev
leaves_of_inner inner = joined inner.children.items

-- the leaves under a vdev in tree order: depth first, first child first
unfoldable pub leaves : Vdev → List LeafVdev
leaves = fold-Vdev (List LeafVdev) (List LeafVdev) leaves_of_vdev leaves_of_inner

abbrev pub state_by : Bool → Bool → State
state_by some_up all_online = cond some_up (cond all_online Online Degraded) Unavail

-- the state of an inner vdev over its children's: UNAVAIL where none of them is up, DEGRADED where not
-- all are ONLINE, else ONLINE
abbrev pub state_over : List State → State
state_over states = state_by (list_any is_up states) (list_all is_online states)

abbrev pub state_of_vdev : Vdev-F State State → State
state_of_vdev (Leaf leaf) = leaf.state
state_of_vdev (Inner state) = state

abbrev pub state_of_inner : InnerVdev-F State State → State
state_of_inner inner = state_over inner.children.items

-- the state of a vdev: a leaf's own, an inner one's over its children's
unfoldable pub state_of : Vdev → State
state_of = fold-Vdev State State state_of_vdev state_of_inner

abbrev pub is_mirror_kind : Kind → Bool
is_mirror_kind Mirror = true
is_mirror_kind _ = false

abbrev pub is_replacing_kind : Kind → Bool
is_replacing_kind Replacing = true
is_replacing_kind _ = false

abbrev pub is_spare_kind : Kind → Bool
is_spare_kind Spare = true
is_spare_kind _ = false

-- the form of a vdev; `no_form` is one that no tree of a pool has
pub data Form : Type 0 where
  a_leaf : Form
  a_replacing : Form
  a_spare : Form
  a_mirror : Form
  no_form : Form

abbrev pub is_leaf : Form → Bool
is_leaf a_leaf = true
is_leaf _ = false

abbrev pub is_replacing : Form → Bool
is_replacing a_replacing = true
is_replacing _ = false

abbrev pub is_spare : Form → Bool
is_spare a_spare = true
is_spare _ = false

abbrev pub is_mirror : Form → Bool
is_mirror a_mirror = true
is_mirror _ = false

abbrev pub may_be_spared : Form → Bool
may_be_spared a_leaf = true
may_be_spared a_replacing = true
may_be_spared _ = false

abbrev pub may_be_mirrored : Form → Bool
may_be_mirrored a_leaf = true
may_be_mirrored a_replacing = true
may_be_mirrored a_spare = true
may_be_mirrored _ = false

-- a vdev that replaces has two leaves, the old one and the new one
abbrev pub form_of_replacing : List Form → Form
form_of_replacing forms = cond (list_all is_leaf forms && length forms == 2) a_replacing no_form

-- a spare vdev has a first child, a leaf or one that replaces, and behind it one or two spare leaves
abbrev pub form_of_spare : List Form → Form
form_of_spare [] = no_form
form_of_spare (first ∷ spares) =
    cond (may_be_spared first && (list_all is_leaf spares && (nat_le 1 (length spares) && nat_le (length spares) 2))) a_spare no_form

-- a mirror has 1 to 8 children, none of them a mirror
abbrev pub form_of_mirror : List Form → Form
form_of_mirror forms = cond (list_all may_be_mirrored forms && (nat_le 1 (length forms) && nat_le (length forms) 8)) a_mirror no_form

abbrev pub form_over : Kind → List Form → Form
form_over Mirror forms = form_of_mirror forms
form_over Replacing forms = form_of_replacing forms
form_over Spare forms = form_of_spare forms

abbrev pub form_of_vdev : Vdev-F Form Form → Form
form_of_vdev (Leaf _) = a_leaf
form_of_vdev (Inner form) = form

abbrev pub form_of_inner : InnerVdev-F Form Form → Form
form_of_inner inner = form_over inner.kind inner.children.items

unfoldable pub form_of : Vdev → Form
form_of = fold-Vdev Form Form form_of_vdev form_of_inner

-- a valid tree of a top: a mirror of valid children
unfoldable pub is_top : Vdev → Bool
is_top vdev = is_mirror (form_of vdev)

abbrev pub guid_of_vdev : Vdev-F Guid Guid → Guid
guid_of_vdev (Leaf leaf) = leaf.guid
guid_of_vdev (Inner guid) = guid

-- the number of a vdev
unfoldable pub guid_of : Vdev → Guid
guid_of = fold-Vdev Guid Guid guid_of_vdev (λ inner. inner.guid)

abbrev pub leaf_guid : LeafVdev → Guid
leaf_guid leaf = leaf.guid

abbrev pub is_named : List ℕ → LeafVdev → Bool
is_named name leaf = bytes_eq leaf.name name

-- one mark of a tree that is written out: a leaf, and the beginning and the end of an inner vdev
pub data Mark : Type 0 where
  leaf_mark : Mark
  opening : Guid → Kind → Mark
  closing : Mark

abbrev pub marks_of_vdev : Vdev-F (List Mark) (List Mark) → List Mark
marks_of_vdev (Leaf _) = leaf_mark ∷ []
marks_of_vdev (Inner marks) = marks

abbrev pub marks_of_inner : InnerVdev-F (List Mark) (List Mark) → List Mark
marks_of_inner inner = opening inner.guid inner.kind ∷ (joined inner.children.items ++ closing ∷ [])

-- the tree without what its leaves hold, written out in tree order
unfoldable pub marks : Vdev → List Mark
marks = fold-Vdev (List Mark) (List Mark) marks_of_vdev marks_of_inner

-- a mirror of two leaves, written out
abbrev pub pair_marks : Guid → List Mark
pair_marks mirror = opening mirror Mirror ∷ leaf_mark ∷ leaf_mark ∷ closing ∷ []

-- a tree is a copy of another: it is built alike, and each leaf is a copy of the leaf at its place
pub record IsCopy (new old : Vdev) : Type 0 where
  pub built : marks new ≡ marks old
  pub form : form_of new ≡ form_of old
  pub leaves : AllZip SameLeaf (leaves new) (leaves old)
