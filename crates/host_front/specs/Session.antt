-- What a run did with its input, its output and its bank.
use Rattle.std.specs.Prelude.{◌≡◌, ℕ, ◌<◌, ◌≤◌, List, [], ◌∷◌, ◌++◌, map, take, length, Option, Some}
use Rattle.mp_base.specs.Outside.{Given, Taken}
use Rattle.bank_core.specs.Calls.{Made}
use Rattle.bank_core.specs.Disk.{Noted}
use Rattle.bank_core.specs.Story.{Story, now}
use Rattle.pool_wire.specs.Reading.{request_of}
use Rattle.pool_wire.specs.declared.request.Request.{Request}
use Rattle.pool_wire.specs.declared.reply.Reply.{Reply}
use Rattle.pool_history.specs.Records.{Rec}
use Rattle.host_machine.specs.declared.device.HostDevice.{HostDevice}
use Rattle.host_machine.specs.Devices.{AreApart}
use Rattle.host_machine.specs.Machine.{HostState, Entry, Step, Replay, started, texts}
use Rattle.host_machine.specs.Records.{AreDrawn}
use Rattle.host_front.specs.declared.host.Host.{Host}
use Rattle.host_machine.specs.Runs.{KeepsPools, EndByCounts}
use Rattle.host_front.specs.declared.status.Status.{Status}
use Rattle.host_front.specs.declared.status.Status.TheVariants as statuses
use Rattle.host_front.specs.FixedHost.{host_devices}
use Rattle.host_front.specs.Lines.{lines_of, Ends, AreShort, longest}
use Rattle.host_front.specs.Standing.{Keeps, AreLookedUp}

-- One line was answered, at this second: it is a step, with the calls that it made.
pub record Answers (h : HostState) (asked : Option Request) (second : ℕ) (old new : Option Story) (before after : ℕ → ℕ) (size : ℕ → ℕ) (host : Host) (reply : Reply) : Type 0 where
  pub entry : Entry
  pub made : List Noted
  pub next : HostState
  pub asked_is : entry.asked ≡ asked
  pub second_is : entry.second ≡ second
  pub reply_is : entry.reply ≡ reply
  pub calls : Made old new before after made
  pub keeps : Keeps size host next
  pub step : Step h entry made next

-- Lines were answered, one after another, each at the second that the clock gave, and these bytes written: a
-- front of their reply lines.
pub record Handles (h : HostState) (lines : List (List ℕ)) (old new : Option Story) (before after : ℕ → ℕ) (sink sink' gave gave' : Option (List ℕ))
    (next : HostState) (entries : List Entry) (bytes : List ℕ) : Type 0 where
  pub calls : List Noted
  pub asked : map (λ entry. entry.asked) entries ≡ map request_of lines
  pub replay : Replay h entries calls next
  pub made : Made old new before after calls
  pub written : Taken sink sink' bytes
  pub clock : Taken gave gave' (map (λ entry. entry.second) entries)

-- The lines that were answered, by the status with which the run ended: `text` is what the input gave,
-- `left` what it has left, where it tells.
abbrev pub IsUpTo : Status → List ℕ → Option (List ℕ) → List (List ℕ) → Type 0
-- all lines, up to the input's end
IsUpTo statuses.Done text left lines = ((rest : List ℕ) → left ≡ Some rest → rest ≡ []) × (lines_of text ≡ lines)
-- every line that ended in the bytes given
IsUpTo statuses.SourceFault text left lines = (waiting : List ℕ) × Ends [] text lines waiting
-- the first lines
IsUpTo statuses.SinkFault text left lines = (rest : List ℕ) → left ≡ Some rest → (more : List (List ℕ)) × (lines_of (text ++ rest) ≡ lines ++ more)
IsUpTo statuses.Memory text left lines = (rest : List ℕ) → left ≡ Some rest → (more : List (List ℕ)) × (lines_of (text ++ rest) ≡ lines ++ more)
-- all lines before one that is too long
IsUpTo statuses.LineTooLong text left lines = (rest : List ℕ) → left ≡ Some rest
    → (long : List ℕ) × (more : List (List ℕ)) × (lines_of (text ++ rest) ≡ lines ++ long ∷ more) × (longest < length long)
IsUpTo statuses.Usage text left lines = ⊥

-- The first k bytes of the reply lines cut the last of them at most: no line was answered behind one
-- whose reply isn't whole.
pub record CutsLast (entries : List Entry) (k : ℕ) : Type 0 where
  pub before : List Entry
  pub last : List Entry
  pub split : entries ≡ before ++ last
  pub one : length last ≤ 1
  pub whole : length (texts before) ≤ k

-- The bytes that were written: all reply lines, but for a sink fault or want of memory a front of them.
abbrev pub IsWritten : Status → List Entry → List ℕ → Type 0
IsWritten statuses.Done entries bytes = bytes ≡ texts entries
IsWritten statuses.SourceFault entries bytes = bytes ≡ texts entries
IsWritten statuses.LineTooLong entries bytes = bytes ≡ texts entries
IsWritten statuses.SinkFault entries bytes = (k : ℕ) × CutsLast entries k × (bytes ≡ take k (texts entries))
IsWritten statuses.Memory entries bytes = (k : ℕ) × CutsLast entries k × (bytes ≡ take k (texts entries))
IsWritten statuses.Usage entries bytes = ⊥

-- A run of the machine from a state: one history, whose requests are those of the input's lines, whose
-- entries are steps one after another, whose device calls are the bank's, whose seconds are the clock's, and
-- whose replies are what was written.
pub record Ran (h : HostState) (status : Status) (old new : Option Story) (before after : ℕ → ℕ) (left left' sink sink' gave gave' : Option (List ℕ)) : Type 0 where
  pub text : List ℕ
  pub lines : List (List ℕ)
  pub entries : List Entry
  pub state : HostState
  pub bytes : List ℕ
  pub given : Given left left' text
  pub up_to : IsUpTo status text left' lines
  pub short : AreShort lines
  pub handles : Handles h lines old new before after sink sink' gave gave' state entries bytes
  pub is_written : IsWritten status entries bytes

-- What a run that was begun did: it looked the host's devices up, and ran from a host of those that it found,
-- whatever records were drawn up before. Each entry ended by the counts of its own calls. Where its bank tells, the
-- run kept each pool that its devices had left, and each pool that it made.
pub record RanScript (status : Status) (number_of : List ℕ → Option ℕ) (size : ℕ → ℕ) (names : Option (List (List ℕ))) (lookups lookups' : ℕ)
    (old new : Option Story) (before after : ℕ → ℕ) (left left' sink sink' gave gave' : Option (List ℕ)) : Type 0 where
  pub table : List HostDevice
  pub found : AreLookedUp number_of size names lookups lookups' host_devices table
  pub apart : AreApart table
  pub ran : (records : List Rec) → AreDrawn records → Ran (started table size records) status old new before after left left' sink sink' gave gave'
  pub ends : (records : List Rec) (drawn : AreDrawn records)
      → EndByCounts (started table size records) (ran records drawn).entries (ran records drawn).handles.calls (ran records drawn).state before after
  pub pools : (records : List Rec) (drawn : AreDrawn records) (story story' : Story) → old ≡ Some story → new ≡ Some story'
      → KeepsPools (started table size records) (now story) (ran records drawn).entries (ran records drawn).handles.calls (ran records drawn).state (ran records drawn).handles.replay

-- Nothing was read or written, and no device and no clock was asked.
pub record IsQuiet (old new : Option Story) (before after : ℕ → ℕ) (left left' sink sink' gave gave' : Option (List ℕ)) : Type 0 where
  pub untold : new ≡ old
  pub unasked : (d : ℕ) → after d ≡ before d
  pub unread : left' ≡ left
  pub unwritten : sink' ≡ sink
  pub untimed : gave' ≡ gave
