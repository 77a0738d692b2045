-- Calls that put a leaf into a tree, or take one out.
use Rattle.std.specs.Prelude.{◌≡◌, Bool, true, false, ◌==◌, ◌||◌, cond, List, [], ◌∷◌, ◌++◌, length, Option, Some, None}
use Rattle.std.specs.List.{list_any, flat_map}
use Rattle.mp_base.specs.declared.number.Guid.{Guid}
use Rattle.mp_base.specs.declared.refusal.Refusal.{Refusal}
use Rattle.mp_base.specs.declared.refusal.Refusal.TheVariants as refusals
use Rattle.mp_base.specs.declared.refusal.PlaceRule.TheVariants as rules
use Rattle.vdev_tree.specs.declared.vdev.LeafVdev.{LeafVdev}
use Rattle.vdev_tree.specs.declared.vdev.Vdev.{Vdev}
use Rattle.vdev_tree.specs.declared.seat.Edit.{Edit}
use Rattle.vdev_tree.specs.declared.seat.Edit.TheVariants.{Attach, Replace, AddSpare, Prune}
use Rattle.vdev_tree.specs.Children.{Member, Child, only, replacing, alone, spared, child_leaves, IsChild}

-- a leaf of this number
abbrev pub is_at : Guid → LeafVdev → Bool
is_at at leaf = leaf.guid.0 == at.0

-- a leaf of the child has this number
abbrev pub has : Guid → Child → Bool
has at child = list_any (is_at at) (child_leaves child)

abbrev pub is_lone : Guid → Member → Bool
is_lone at (only leaf) = is_at at leaf
is_lone at (replacing _ _ _) = false

-- the leaf of this number is the child of the mirror
abbrev pub is_the_child : Guid → Child → Bool
is_the_child at (alone member) = is_lone at member
is_the_child at (spared _ _ _ _) = false

-- it is the child of the mirror, or the first child of a spare vdev
abbrev pub may_be_replaced : Guid → Child → Bool
may_be_replaced at (alone member) = is_lone at member
may_be_replaced at (spared _ first _ _) = is_lone at first

-- it is the child of the mirror, or the only spare leaf of a spare vdev
abbrev pub may_get_spare : Guid → Child → Bool
may_get_spare at (alone member) = is_lone at member
may_get_spare at (spared _ _ spare None) = is_at at spare
may_get_spare at (spared _ _ _ (Some _)) = false

abbrev pub replaced_member : Guid → LeafVdev → Member → Member
replaced_member guid new (only old) = replacing guid old new
replaced_member guid new (replacing number old other) = replacing number old other

-- the child, with this new leaf beside the one that it takes over from
abbrev pub replaced : Guid → LeafVdev → Child → Child
replaced guid new (alone member) = alone (replaced_member guid new member)
replaced guid new (spared number first spare second) = spared number (replaced_member guid new first) spare second

-- the child, with this spare leaf behind it: a spare vdev is made, or the spare vdev gets its second one
abbrev pub with_spare : Guid → LeafVdev → Child → Child
with_spare guid leaf (alone member) = spared guid member leaf None
with_spare guid leaf (spared number first spare _) = spared number first spare (Some leaf)

-- of two leaves the one that stays where the one of this number goes
abbrev pub other : Guid → LeafVdev → LeafVdev → LeafVdev
other at first second = cond (is_at at first) second first

-- a spare vdev that lost the leaf that was its first child: its first spare leaf stands there
abbrev pub promoted : Guid → LeafVdev → Option LeafVdev → Child
promoted number spare None = alone (only spare)
promoted number spare (Some second) = spared number (only spare) second None

-- a spare vdev that lost a spare leaf: without its last one it is its first child
abbrev pub unspared : Guid → Guid → Member → LeafVdev → Option LeafVdev → Child
unspared at number first spare None = alone first
unspared at number first spare (Some second) = spared number first (other at spare second) None

-- the child without the leaf of this number. A replacing vdev becomes its other leaf.
abbrev pub pruned : Guid → Child → List Child
pruned at (alone (only _)) = []
pruned at (alone (replacing _ old new)) = alone (only (other at old new)) ∷ []
pruned at (spared number (only leaf) spare second) =
    cond (is_at at leaf) (promoted number spare second) (unspared at number (only leaf) spare second) ∷ []
pruned at (spared number (replacing guid old new) spare second) =
    cond (is_at at old || is_at at new) (spared number (only (other at old new)) spare second)
    (unspared at number (replacing guid old new) spare second) ∷ []

-- one child that may be changed so is changed, and every other child is the very same
pub record Edits (may : Child → Bool) (change : Child → List Child) (old new : List Child) : Type 0 where
  pub before : List Child
  pub child : Child
  pub behind : List Child
  pub was : old ≡ before ++ child ∷ behind
  pub is : new ≡ before ++ (change child ++ behind)
  pub may_be : may child ≡ true

-- the leaf is put in directly behind one of this number, and every other leaf is the very same
pub record PutBehind (at : Guid) (leaf : LeafVdev) (old new : List LeafVdev) : Type 0 where
  pub before : List LeafVdev
  pub there : LeafVdev
  pub behind : List LeafVdev
  pub was : old ≡ before ++ there ∷ behind
  pub is : new ≡ before ++ there ∷ leaf ∷ behind
  pub at_is : there.guid.0 ≡ at.0

-- the leaf, which has this number, is taken out, and every other leaf is the very same
pub record TakenOut (at : Guid) (leaf : LeafVdev) (old new : List LeafVdev) : Type 0 where
  pub before : List LeafVdev
  pub behind : List LeafVdev
  pub was : old ≡ before ++ leaf ∷ behind
  pub is : new ≡ before ++ behind
  pub at_is : leaf.guid.0 ≡ at.0

-- no child takes the change: the leaf stands elsewhere, or there is none of this number
abbrev pub misplaced : Guid → List Child → Refusal
misplaced at children = cond (list_any (has at) children) (refusals.WrongPlace rules.Role) refusals.NoVdev

-- the tree is full for one child more
abbrev pub mirror_limit : List Child → Option Refusal
mirror_limit children = cond (length children == 8) (Some (refusals.TreeFull 8 9)) None

-- why a leaf can't become the last child of the mirror in which the leaf of this number is a child
abbrev pub mirror_refusal : Guid → List Child → Option Refusal
mirror_refusal at children = cond (list_any (is_the_child at) children) (mirror_limit children) (Some (misplaced at children))

abbrev pub replacing_refusal : Guid → List Child → Option Refusal
replacing_refusal at children = cond (list_any (may_be_replaced at) children) None (Some (misplaced at children))

abbrev pub spare_refusal : Guid → List Child → Option Refusal
spare_refusal at children = cond (list_any (may_get_spare at) children) None (Some (misplaced at children))

-- the tree has one leaf alone
abbrev pub is_single : List Child → Bool
is_single (alone (only _) ∷ []) = true
is_single _ = false

abbrev pub prune_limit : List Child → Option Refusal
prune_limit children = cond (is_single children) (Some (refusals.WrongPlace rules.Role)) None

-- why the leaf of this number can't be taken out: it is the only one, or there is none
abbrev pub prune_refusal : Guid → List Child → Option Refusal
prune_refusal at children = cond (list_any (has at) children) (prune_limit children) (Some refusals.NoVdev)

-- a call ends so where this is what it is refused for: else there was no memory
abbrev pub EndsFor : Option Refusal → Refusal → Type 0
EndsFor (Some refusal) why = why ≡ refusal
EndsFor None why = why ≡ refusals.Memory

-- the same for each edit

abbrev pub allows : Edit → Guid → Child → Bool
allows Attach at child = is_the_child at child
allows Replace at child = may_be_replaced at child
allows AddSpare at child = may_get_spare at child
allows Prune at child = has at child

abbrev pub limit_of : Edit → List Child → Option Refusal
limit_of Attach children = mirror_limit children
limit_of Replace children = None
limit_of AddSpare children = None
limit_of Prune children = prune_limit children

-- why there is no place for the edit
abbrev pub refusal_of : Edit → Guid → List Child → Option Refusal
refusal_of edit at children = cond (list_any (allows edit at) children) (limit_of edit children) (Some (misplaced at children))

-- the edits that put a leaf beside another one
abbrev pub is_graft : Edit → Bool
is_graft Attach = false
is_graft Replace = true
is_graft AddSpare = true
is_graft Prune = false

abbrev pub grafted : Edit → Guid → LeafVdev → Child → Child
grafted Attach _ _ child = child
grafted Replace guid leaf child = replaced guid leaf child
grafted AddSpare guid leaf child = with_spare guid leaf child
grafted Prune _ _ child = child

-- what is left of a child, if anything
abbrev pub IsRest : Option Vdev → List Child → Type 0
IsRest None children = children ≡ []
IsRest (Some vdev) children = (child : Child) × IsChild vdev child × (children ≡ child ∷ [])

-- the leaf of this number is cut out of the child
pub record Cuts (at : Guid) (leaf : LeafVdev) (rest : Option Vdev) (child : Child) : Type 0 where
  pub rest_is : IsRest rest (pruned at child)
  pub taken : TakenOut at leaf (child_leaves child) (flat_map child_leaves (pruned at child))
