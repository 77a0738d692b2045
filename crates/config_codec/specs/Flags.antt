-- The flags of a leaf, as one byte.
use Rattle.std.specs.Prelude.{ℕ, ◌+◌, ◌%◌, ◌==◌, Bool, nat_le, if◌then◌else◌}
use Rattle.config_codec.specs.declared.config.KeptState.{KeptState}
use Rattle.config_codec.specs.declared.config.KeptState.TheVariants.{Online, Offline, Faulted, Degraded}

abbrev pub flag_of : KeptState → ℕ
flag_of Online = 0
flag_of Offline = 1
flag_of Faulted = 2
flag_of Degraded = 4

-- and 8 more where the leaf is marked to come back
abbrev pub flags_of : KeptState → Bool → ℕ
flags_of kept marked = if marked then flag_of kept + 8 else flag_of kept

-- Any byte has a state and a mark.

abbrev pub state_of : ℕ → KeptState
state_of flag = if flag == 1 then Offline else (if flag == 2 then Faulted else (if flag == 4 then Degraded else Online))

abbrev pub kept_in : ℕ → KeptState
kept_in flags = state_of (flags % 8)

abbrev pub marked_in : ℕ → Bool
marked_in flags = nat_le 8 flags
