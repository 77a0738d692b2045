-- The flags of a leaf, as one byte: its recorded state, and whether it is marked to come back.
use Rattle.std.specs.Prelude.{ℕ, ◌+◌, ◌%◌, ◌==◌, Bool, true, false, nat_le, cond}
use Rattle.vdev_tree.specs.declared.vdev.State.{State}
use Rattle.vdev_tree.specs.declared.vdev.State.TheVariants.{Online, Degraded, Faulted, Offline}

-- the state that a record keeps of a leaf in this state; one that is away for another reason, or OFFLINE only for a
-- while, is recorded as ONLINE
abbrev pub recorded : State → (temporary : Bool) → State
recorded Degraded temporary = Degraded
recorded Faulted temporary = Faulted
recorded Offline temporary = cond temporary Online Offline
recorded _ temporary = Online

-- a state that a record keeps
abbrev pub is_recorded : State → Bool
is_recorded Online = true
is_recorded Degraded = true
is_recorded Faulted = true
is_recorded Offline = true
is_recorded _ = false

abbrev pub flag_of : State → ℕ
flag_of Offline = 1
flag_of Faulted = 2
flag_of Degraded = 4
flag_of _ = 0

-- and 8 more where the leaf is marked to come back
abbrev pub flags_of : State → (marked : Bool) → ℕ
flags_of state marked = cond marked (flag_of state + 8) (flag_of state)

-- Any byte has a state and a mark.

abbrev pub state_of_flag : ℕ → State
state_of_flag flag = cond (flag == 1) Offline (cond (flag == 2) Faulted (cond (flag == 4) Degraded Online))

abbrev pub state_in : ℕ → State
state_in flags = state_of_flag (flags % 8)

abbrev pub marked_in : ℕ → Bool
marked_in flags = nat_le 8 flags
