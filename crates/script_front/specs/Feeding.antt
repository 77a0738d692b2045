-- What happens to a piece of the input.
use Rattle.std.specs.Prelude.{◌≡◌, ℕ, ◌<◌, ◌≤◌, List, [], ◌∷◌, ◌++◌, take, length, Option}
use Rattle.bank_core.specs.BankView.{BankView}
use Rattle.host_core.specs.Parts.{HostParts}
use Rattle.host_core.specs.Standing.{HostStands}
use Rattle.pool_lines.specs.declared.reply.Reply.{Reply}
use Rattle.pool_runs.specs.HostRows.{acts_in}
use Rattle.pool_runs.specs.Hosts.{Host, host_along}
use Rattle.pool_runs.specs.Lines.{Entry}
use Rattle.script_front.specs.declared.stop.Stop.{Stop}
use Rattle.script_front.specs.declared.stop.Stop.TheVariants as stops
use Rattle.script_front.specs.Lines.{lines_of, Ends, AreShort, longest}
use Rattle.script_front.specs.Session.{CutsLast, Handles}
use Rattle.script_front.specs.Told.{texts}

-- Behind what waited, these bytes were taken: the lines that they end were answered, and `left` waits.
pub record Feeds (h : Host) (waiting bytes left : List ℕ) (old new : HostParts) (from to : BankView) (sink sink' gave gave' : Option (List ℕ)) : Type 0 where
  pub lines : List (List ℕ)
  pub entries : List Entry
  pub replies : List Reply
  pub ends : Ends waiting bytes lines left
  pub short : AreShort lines
  pub fits : length left ≤ longest
  pub handles : Handles h lines old new from to sink sink' gave gave' entries replies (texts replies)
  pub stands : HostStands new to (host_along (acts_in entries) h)

-- It broke off: the first lines were answered, and a front of their replies was written.
pub record Breaks (h : Host) (waiting bytes : List ℕ) (old new : HostParts) (from to : BankView) (sink sink' gave gave' : Option (List ℕ)) : Type 0 where
  pub lines : List (List ℕ)
  pub entries : List Entry
  pub replies : List Reply
  pub kept : ℕ
  pub cut : CutsLast replies kept
  pub first : (rest : List ℕ) → (more : List (List ℕ)) × (lines_of (waiting ++ (bytes ++ rest)) ≡ lines ++ more)
  pub short : AreShort lines
  pub handles : Handles h lines old new from to sink sink' gave gave' entries replies (take kept (texts replies))

-- A line is too long: those before it were answered.
pub record Overflows (h : Host) (waiting bytes : List ℕ) (old new : HostParts) (from to : BankView) (sink sink' gave gave' : Option (List ℕ)) : Type 0 where
  pub lines : List (List ℕ)
  pub entries : List Entry
  pub replies : List Reply
  pub first : (rest : List ℕ) → (long : List ℕ) × (more : List (List ℕ)) × (lines_of (waiting ++ (bytes ++ rest)) ≡ lines ++ long ∷ more) × (longest < length long)
  pub short : AreShort lines
  pub handles : Handles h lines old new from to sink sink' gave gave' entries replies (texts replies)

-- by what stopped it
abbrev pub StopsBy : Stop → Host → List ℕ → List ℕ → HostParts → HostParts → BankView → BankView → Option (List ℕ) → Option (List ℕ) → Option (List ℕ) → Option (List ℕ) → Type 0
StopsBy stops.Sink h waiting bytes old new from to sink sink' gave gave' = Breaks h waiting bytes old new from to sink sink' gave gave'
StopsBy stops.Memory h waiting bytes old new from to sink sink' gave gave' = Breaks h waiting bytes old new from to sink sink' gave gave'
StopsBy stops.TooLong h waiting bytes old new from to sink sink' gave gave' = Overflows h waiting bytes old new from to sink sink' gave gave'

-- One line was answered, and its reply line written, or a front of it.
pub record HandlesLine (h : Host) (line : List ℕ) (old new : HostParts) (from to : BankView) (sink sink' gave gave' : Option (List ℕ)) : Type 0 where
  pub entry : Entry
  pub told : Reply
  pub handles : Handles h (line ∷ []) old new from to sink sink' gave gave' (entry ∷ []) (told ∷ []) (texts (told ∷ []))
  pub stands : HostStands new to (host_along (acts_in (entry ∷ [])) h)

pub record BreaksLine (h : Host) (line : List ℕ) (old new : HostParts) (from to : BankView) (sink sink' gave gave' : Option (List ℕ)) : Type 0 where
  pub entry : Entry
  pub told : Reply
  pub kept : ℕ
  pub handles : Handles h (line ∷ []) old new from to sink sink' gave gave' (entry ∷ []) (told ∷ []) (take kept (texts (told ∷ [])))
