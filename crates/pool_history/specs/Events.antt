-- The history of a pool: a flat list of what happened, each device call among it. Each front of the list
-- is a moment, and what happened in several runs is one list with a stop between any two.
use Rattle.std.specs.Prelude.{ℕ, List, [], ◌∷◌, Option}
use Rattle.bank_core.specs.Disk.{Noted, Sectors}
use Rattle.pool_history.specs.Records.{Rec}

-- What was read of the sectors of devices: None where no read of it answered.
abbrev pub Known : Type 0
Known = ℕ → ℕ → Option (List ℕ)

pub data Event : Type 0 where
  -- a device call, with its answer and the damage that came with it
  Calls : (noted : Noted) → Event
  -- a write was accepted
  Accepts : (a : ℕ) (block : List ℕ) → Event
  -- an opening has read the labels, and this was found
  Looks : (known : Known) → Event
  -- it reads this record from now on
  Opens : (r : Rec) → Event
  -- the round of this record begins with the next call: the record is live
  Begins : (q : Rec) → Event
  -- the third phase of this record begins on this device with the next call
  Third : (q : Rec) (d : ℕ) → Event
  -- the third phase of this record ended on this device with its flush
  Ends : (q : Rec) (d : ℕ) → Event
  -- the round of this record ended, and no member failed in it
  Acks : (q : Rec) → Event
  -- another pool takes this device
  Loses : (d : ℕ) → Event
  -- a stop, and what the next run begins with: the sectors of all devices, and how many each device of its bank has, 0
  -- where it lacks the device
  Stops : (sectors : Sectors) (size : ℕ → ℕ) → Event

-- the device calls among these events
abbrev pub calls_of : List Event → List Noted
calls_of [] = []
calls_of (Calls noted ∷ vs) = noted ∷ calls_of vs
calls_of (Accepts a block ∷ vs) = calls_of vs
calls_of (Looks known ∷ vs) = calls_of vs
calls_of (Opens r ∷ vs) = calls_of vs
calls_of (Begins q ∷ vs) = calls_of vs
calls_of (Third q d ∷ vs) = calls_of vs
calls_of (Ends q d ∷ vs) = calls_of vs
calls_of (Acks q ∷ vs) = calls_of vs
calls_of (Loses d ∷ vs) = calls_of vs
calls_of (Stops sectors size ∷ vs) = calls_of vs

-- these calls as events
abbrev pub as_events : List Noted → List Event
as_events [] = []
as_events (noted ∷ more) = Calls noted ∷ as_events more

-- no stop is among these events
abbrev pub IsOneRun : List Event → Type 0
IsOneRun [] = Unit {0}
IsOneRun (Calls noted ∷ vs) = IsOneRun vs
IsOneRun (Accepts a block ∷ vs) = IsOneRun vs
IsOneRun (Looks known ∷ vs) = IsOneRun vs
IsOneRun (Opens r ∷ vs) = IsOneRun vs
IsOneRun (Begins q ∷ vs) = IsOneRun vs
IsOneRun (Third q d ∷ vs) = IsOneRun vs
IsOneRun (Ends q d ∷ vs) = IsOneRun vs
IsOneRun (Acks q ∷ vs) = IsOneRun vs
IsOneRun (Loses d ∷ vs) = IsOneRun vs
IsOneRun (Stops sectors size ∷ vs) = ⊥
