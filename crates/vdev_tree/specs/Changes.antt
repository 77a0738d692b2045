-- Calls that change the leaves of a tree and leave the tree as it is built.
use Rattle.std.specs.Prelude.{◌≡◌, ℕ, ◌+◌, ◌≤◌, Bool, true, false, ◌||◌, ◌==◌, cond, List, [], ◌∷◌, Some}
use Rattle.group_set.specs.Groups.{Groups, holds, run_count, SameGroups, KeepsRoom}
use Rattle.mp_base.specs.declared.number.Guid.{Guid}
use Rattle.vdev_tree.specs.declared.vdev.State.{State}
use Rattle.vdev_tree.specs.declared.vdev.State.TheVariants.{Online}
use Rattle.vdev_tree.specs.declared.vdev.LeafVdev.{LeafVdev}
use Rattle.vdev_tree.specs.declared.vdev.Vdev.{Vdev}
use Rattle.vdev_tree.specs.Leaf.{is_readable}
use Rattle.vdev_tree.specs.Tree.{Form, form_of}

-- the form of a vdev, in a list of its own
abbrev pub form_alone : Vdev → List Form
form_alone vdev = form_of vdev ∷ []

-- the leaf, in this state where it has this number
abbrev pub with_state : Guid → State → Bool → LeafVdev → LeafVdev
with_state at state temporary leaf = cond (leaf.guid.0 == at.0) (record leaf { state = state; temporary = temporary }) leaf

-- the leaf, back on this device where it has this number: ONLINE and marked
abbrev pub brought : Guid → ℕ → LeafVdev → LeafVdev
brought at dev leaf =
    cond (leaf.guid.0 == at.0) (record leaf { dev = Some dev; state = Online; marked = true; temporary = false }) leaf

-- the leaf, marked to come back where it has this number
abbrev pub marked_at : Guid → LeafVdev → LeafVdev
marked_at at leaf = cond (leaf.guid.0 == at.0) (record leaf { marked = true }) leaf

-- a leaf in whose log there is room for this many further runs
abbrev pub has_room : ℕ → LeafVdev → Type 0
has_room n leaf = n ≤ leaf.log.spare

-- A leaf that is read is as it was. The log of one that isn't has this group too.
pub record Owes (group : ℕ) (old new : LeafVdev) : Type 0 where
  pub readable : is_readable old ≡ true → new ≡ old
  pub groups : is_readable old ≡ false → (g : ℕ) → holds new.log g ≡ (holds old.log g || (group == g))
  pub ranges : run_count new.log ≤ run_count old.log + 1
  pub lengthens : (g : ℕ) → group ≤ g + 1 → g ≤ group + 1 → holds old.log g ≡ true → run_count new.log ≤ run_count old.log
  pub room : KeepsRoom old.log new.log
  pub rest : (log : Groups) → record new { log = log } ≡ record old { log = log }

-- a leaf is as it was, but for the room in its log
pub record KeepsLog (old new : LeafVdev) : Type 0 where
  pub groups : SameGroups new.log old.log
  pub ranges : run_count new.log ≡ run_count old.log
  pub room : KeepsRoom old.log new.log
  pub rest : (log : Groups) → record new { log = log } ≡ record old { log = log }
