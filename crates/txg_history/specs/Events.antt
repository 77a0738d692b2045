-- The history of a pool: a flat list of what happened, each device call among it. Each front of the list
-- is a moment, and what happened in several runs is one list with a stop between any two.
use Rattle.std.specs.Prelude.{◌≡◌, ◌⊎◌, ℕ, Bool, List, [], ◌∷◌, Option}
use Rattle.std.specs.List.{AllByRecursion}
use Rattle.mp_base.specs.declared.number.Guid.{Guid}
use Rattle.mp_base.specs.declared.place.Key.{Key}
use Rattle.bank_core.specs.Disk.{Noted, Sectors}
use Rattle.txg_history.specs.Groups.{Logs}
use Rattle.txg_history.specs.Records.{Rec, Cells}

-- What was read of the sectors of devices: None where no read of it answered.
abbrev pub Known : Type 0
Known = ℕ → ℕ → Option (List ℕ)

pub data Event : Type 0 where
  -- a device call, with its answer and the damage that came with it
  Calls : (noted : Noted) → Event
  -- a write was accepted
  Accepts : (a : ℕ) (block : List ℕ) → Event
  -- a group is frozen: the next number is drawn, its keys have their places, and these devices are its board
  Freezes : (cells : Cells) (board : ℕ → Bool) → Event
  -- the write turn of this key has ended
  Wrote : (k : Key) → Event
  -- the group's flush turn has ended
  Flushed : Event
  -- a further number is drawn for the group
  Draws : Event
  -- the leaf on this device leaves the board
  Leaves : (d : ℕ) → Event
  -- logs are widened to these
  Grows : (owes : Logs) → Event
  -- the group is suspended: each number drawn for it leaves every log
  Burns : Event
  -- the round of this record begins with the next call: the record is live
  Begins : (q : Rec) → Event
  -- the third phase of this record begins on this device with the next call
  Third : (q : Rec) (d : ℕ) → Event
  -- the third phase of this record ended on this device with its flush
  Ends : (q : Rec) (d : ℕ) → Event
  -- the round of this record ended, and no leaf failed in it
  Acks : (q : Rec) → Event
  -- an opening has read the labels, and this was found
  Looks : (known : Known) → Event
  -- it reads this record from now on
  Opens : (r : Rec) → Event
  -- this device is the leaf of member number m under the top
  Joins : (d : ℕ) (m : Guid) (top : ℕ) → Event
  -- the pool loses this device: a stamp or a wipe begins there
  Loses : (d : ℕ) → Event
  -- a scan of the keys born up to hi starts, for the leaves on these devices
  Scans : (hi : ℕ) (eligible : ℕ → Bool) → Event
  -- it has come past this key, and these are its logs of what it could not bring
  Passes : (k : Key) (scrub : Logs) → Event
  -- the leaf on this device is no longer eligible
  Drops : (d : ℕ) → Event
  -- the scan's end takes what it brought to the leaf on this device from the leaf's log
  Clears : (d : ℕ) → Event
  -- the scan has ended, or was stopped
  Rests : Event
  -- a stop, and what the next run begins with: the sectors of all devices, and how many each device of its bank has, 0
  -- where it lacks the device
  Stops : (sectors : Sectors) (size : ℕ → ℕ) → Event

-- the device calls among these events
abbrev pub calls_of : List Event → List Noted
calls_of [] = []
calls_of (Calls noted ∷ vs) = noted ∷ calls_of vs
calls_of (v ∷ vs) = calls_of vs

-- these calls as events
abbrev pub as_events : List Noted → List Event
as_events [] = []
as_events (noted ∷ more) = Calls noted ∷ as_events more

-- no stop is among these events
abbrev pub NeverStops : Event → Type 0
NeverStops (Stops sectors size) = ⊥
NeverStops v = Unit {0}

abbrev pub IsOneRun : List Event → Type 0
IsOneRun vs = AllByRecursion NeverStops vs

-- no device comes to the pool, and none goes
abbrev pub TakesNone : Event → Type 0
TakesNone (Joins d m top) = ⊥
TakesNone (Loses d) = ⊥
TakesNone v = Unit {0}

-- the event brings this device in
abbrev pub Brings : Event → (d : ℕ) → Type 0
Brings (Joins e m top) d = e ≡ d
Brings v d = ⊥

-- one of these events does
abbrev pub BringsIn : List Event → (d : ℕ) → Type 0
BringsIn [] d = ⊥
BringsIn (v ∷ vs) d = Brings v d ⊎ BringsIn vs d
