-- What a run did with its input, its output and its bank.
use Rattle.std.specs.Prelude.{◌≡◌, ℕ, ◌<◌, ◌≤◌, true, List, [], ◌∷◌, ◌++◌, map, take, length, Option, Some}
use Rattle.mp_base.specs.Outside.{Given, Taken}
use Rattle.bank_core.specs.BankView.{BankView, tells}
use Rattle.bank_core.specs.Story.{Story, now}
use Rattle.host_core.specs.Parts.{HostParts}
use Rattle.host_core.specs.Scripts.{AreLines}
use Rattle.host_core.specs.Standing.{AreApart}
use Rattle.pool_codec.specs.Codecs.{pool_codec}
use Rattle.pool_lines.specs.declared.reply.Reply.{Reply}
use Rattle.pool_runs.specs.Devices.{Device, size_in}
use Rattle.pool_runs.specs.Headline.{Headline}
use Rattle.pool_runs.specs.HostRows.{IsRun}
use Rattle.pool_runs.specs.Hosts.{Host}
use Rattle.pool_runs.specs.Lines.{Entry}
use Rattle.pool_runs.specs.Pasts.{Past, BeginsRun}
use Rattle.script_front.specs.declared.status.Status.{Status}
use Rattle.script_front.specs.declared.status.Status.TheVariants as statuses
use Rattle.script_front.specs.FixedHost.{host_devices}
use Rattle.script_front.specs.Lines.{lines_of, Ends, AreShort, longest}
use Rattle.script_front.specs.LookingUp.{AreLookedUp, OnlyLooks}
use Rattle.script_front.specs.Told.{AreTold, texts}

-- Lines were answered, one after another, each as an entry at the second that the clock gave, and these bytes written: a
-- front of their reply lines.
pub record Handles (h : Host) (lines : List (List ℕ)) (old new : HostParts) (from to : BankView) (sink sink' gave gave' : Option (List ℕ))
    (entries : List Entry) (replies : List Reply) (bytes : List ℕ) : Type 0 where
  pub are : AreLines h entries old new from to
  pub told : AreTold lines h entries replies
  pub written : Taken sink sink' bytes
  pub clock : Taken gave gave' (map (λ e. e.second) entries)

-- The lines that were answered, by the status with which the run ended: `text` is what the input gave,
-- `left` what it has left, where it tells.
abbrev pub IsUpTo : Status → List ℕ → Option (List ℕ) → List (List ℕ) → Type 0
-- all lines, up to the input's end
IsUpTo statuses.Done text left lines = ((rest : List ℕ) → left ≡ Some rest → rest ≡ []) × (lines_of text ≡ lines)
-- every line that ended in the bytes given; the one that waits for its end isn't too long
IsUpTo statuses.SourceFault text left lines = (waiting : List ℕ) × Ends [] text lines waiting × (length waiting ≤ longest)
-- the first lines
IsUpTo statuses.SinkFault text left lines = (rest : List ℕ) → left ≡ Some rest → (more : List (List ℕ)) × (lines_of (text ++ rest) ≡ lines ++ more)
IsUpTo statuses.Memory text left lines = (rest : List ℕ) → left ≡ Some rest → (more : List (List ℕ)) × (lines_of (text ++ rest) ≡ lines ++ more)
-- all lines before one that is too long
IsUpTo statuses.LineTooLong text left lines = (rest : List ℕ) → left ≡ Some rest
    → (long : List ℕ) × (more : List (List ℕ)) × (lines_of (text ++ rest) ≡ lines ++ long ∷ more) × (longest < length long)
IsUpTo statuses.Usage text left lines = ⊥

-- The first k bytes of the reply lines cut the last of them at most: no line was answered behind one
-- whose reply isn't whole.
pub record CutsLast (replies : List Reply) (k : ℕ) : Type 0 where
  pub before : List Reply
  pub last : List Reply
  pub split : replies ≡ before ++ last
  pub one : length last ≤ 1
  pub whole : length (texts before) ≤ k

-- The bytes that were written: all reply lines, but for a sink fault or want of memory a front of them.
abbrev pub IsWritten : Status → List Reply → List ℕ → Type 0
IsWritten statuses.Done replies bytes = bytes ≡ texts replies
IsWritten statuses.SourceFault replies bytes = bytes ≡ texts replies
IsWritten statuses.LineTooLong replies bytes = bytes ≡ texts replies
IsWritten statuses.SinkFault replies bytes = (k : ℕ) × CutsLast replies k × (bytes ≡ take k (texts replies))
IsWritten statuses.Memory replies bytes = (k : ℕ) × CutsLast replies k × (bytes ≡ take k (texts replies))
IsWritten statuses.Usage replies bytes = ⊥

-- What was done from a host on: one list of entries, whose lines are those of the input, whose device calls are the bank's, whose seconds are
-- the clock's, and whose reply lines are what was written.
pub record Ran (h : Host) (status : Status) (old : HostParts) (from to : BankView) (left left' sink sink' gave gave' : Option (List ℕ)) : Type 0 where
  pub text : List ℕ
  pub lines : List (List ℕ)
  pub entries : List Entry
  pub replies : List Reply
  pub host : HostParts
  pub bytes : List ℕ
  pub given : Given left left' text
  pub up_to : IsUpTo status text left' lines
  pub short : AreShort lines
  pub handles : Handles h lines old host from to sink sink' gave gave' entries replies bytes
  pub is_written : IsWritten status replies bytes

-- The host before the first line: it has these devices, no pool is open, and where the bank tells its story, the disks are as it says. Of whose
-- each device is nothing is said.
pub record IsFirst (table : List Device) (told : Option Story) (h : Host) : Type 0 where
  pub table_is : h.table ≡ table
  pub closed : h.pools ≡ []
  pub disk : (story : Story) → told ≡ Some story → h.disk ≡ now story

-- The entries are a run, so that each pool which the devices had before is kept.
pub record KeepsPools (h : Host) (entries : List Entry) : Type 0 where
  pub run : IsRun pool_codec h entries
  pub pools : (past : Past) → BeginsRun pool_codec past h → Headline pool_codec past h [] entries

-- What a run that was begun did: it looked the host's devices up, and then answered lines as each first host with those that it found does.
-- Where its bank tells at the end, it kept each pool.
pub record RanScript (status : Status) (old new : BankView) (left left' sink sink' gave gave' : Option (List ℕ)) : Type 0 where
  pub table : List Device
  pub found : AreLookedUp new.number_of new.size old.names old.lookup_faults new.lookup_faults host_devices table
  pub apart : AreApart table
  pub begun : BankView
  pub looks : OnlyLooks old begun
  pub here : (d : ℕ) → 1 ≤ size_in table d → begun.size d ≡ size_in table d
  pub ran : (h : Host) → IsFirst table old.told h → Ran h status (record { table = table; pools = [] }) begun new left left' sink sink' gave gave'
  pub pools : (h : Host) (first : IsFirst table old.told h) → tells new ≡ true → KeepsPools h (ran h first).entries

-- Nothing was read or written, and no device and no clock was asked.
pub record IsQuiet (old new : BankView) (left left' sink sink' gave gave' : Option (List ℕ)) : Type 0 where
  pub looks : OnlyLooks old new
  pub unread : left' ≡ left
  pub unwritten : sink' ≡ sink
  pub untimed : gave' ≡ gave
