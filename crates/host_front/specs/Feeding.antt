-- What happens to a piece of the input.
use Rattle.std.specs.Prelude.{◌≡◌, ℕ, ◌<◌, ◌≤◌, List, [], ◌∷◌, ◌++◌, take, length, Option}
use Rattle.bank_core.specs.Story.{Story}
use Rattle.host_machine.specs.Machine.{HostState, Entry, texts}
use Rattle.host_front.specs.declared.host.Host.{Host}
use Rattle.host_front.specs.declared.stop.Stop.{Stop}
use Rattle.host_front.specs.declared.stop.Stop.TheVariants as stops
use Rattle.host_front.specs.Lines.{lines_of, Ends, AreShort, longest}
use Rattle.host_front.specs.Session.{CutsLast, Handles}
use Rattle.host_front.specs.Standing.{Stands}

-- Behind what waited, these bytes were taken: the lines that they end were answered, and `left` waits.
pub record Feeds (h : HostState) (waiting bytes left : List ℕ) (old new : Option Story) (before after : ℕ → ℕ) (sink sink' gave gave' : Option (List ℕ)) (size : ℕ → ℕ) (host : Host) : Type 0 where
  pub lines : List (List ℕ)
  pub entries : List Entry
  pub next : HostState
  pub ends : Ends waiting bytes lines left
  pub short : AreShort lines
  pub fits : length left ≤ longest
  pub handles : Handles h lines old new before after sink sink' gave gave' next entries (texts entries)
  pub stands : Stands size host next

-- It broke off: the first lines were answered, and a front of their replies was written.
pub record Breaks (h : HostState) (waiting bytes : List ℕ) (old new : Option Story) (before after : ℕ → ℕ) (sink sink' gave gave' : Option (List ℕ)) : Type 0 where
  pub lines : List (List ℕ)
  pub entries : List Entry
  pub next : HostState
  pub kept : ℕ
  pub cut : CutsLast entries kept
  pub first : (rest : List ℕ) → (more : List (List ℕ)) × (lines_of (waiting ++ (bytes ++ rest)) ≡ lines ++ more)
  pub short : AreShort lines
  pub handles : Handles h lines old new before after sink sink' gave gave' next entries (take kept (texts entries))

-- A line is too long: those before it were answered.
pub record Overflows (h : HostState) (waiting bytes : List ℕ) (old new : Option Story) (before after : ℕ → ℕ) (sink sink' gave gave' : Option (List ℕ)) : Type 0 where
  pub lines : List (List ℕ)
  pub entries : List Entry
  pub next : HostState
  pub first : (rest : List ℕ) → (long : List ℕ) × (more : List (List ℕ)) × (lines_of (waiting ++ (bytes ++ rest)) ≡ lines ++ long ∷ more) × (longest < length long)
  pub short : AreShort lines
  pub handles : Handles h lines old new before after sink sink' gave gave' next entries (texts entries)

-- by what stopped it
abbrev pub StopsBy : Stop → HostState → List ℕ → List ℕ → Option Story → Option Story → (ℕ → ℕ) → (ℕ → ℕ) → Option (List ℕ) → Option (List ℕ) → Option (List ℕ) → Option (List ℕ) → Type 0
StopsBy stops.Sink h waiting bytes old new before after sink sink' gave gave' = Breaks h waiting bytes old new before after sink sink' gave gave'
StopsBy stops.Memory h waiting bytes old new before after sink sink' gave gave' = Breaks h waiting bytes old new before after sink sink' gave gave'
StopsBy stops.TooLong h waiting bytes old new before after sink sink' gave gave' = Overflows h waiting bytes old new before after sink sink' gave gave'

-- One line was answered, and its reply line written, or a front of it.
pub record HandlesLine (h : HostState) (line : List ℕ) (old new : Option Story) (before after : ℕ → ℕ) (sink sink' gave gave' : Option (List ℕ)) (size : ℕ → ℕ) (host : Host) : Type 0 where
  pub entry : Entry
  pub next : HostState
  pub handles : Handles h (line ∷ []) old new before after sink sink' gave gave' next (entry ∷ []) (texts (entry ∷ []))
  pub stands : Stands size host next

pub record BreaksLine (h : HostState) (line : List ℕ) (old new : Option Story) (before after : ℕ → ℕ) (sink sink' gave gave' : Option (List ℕ)) : Type 0 where
  pub entry : Entry
  pub next : HostState
  pub kept : ℕ
  pub handles : Handles h (line ∷ []) old new before after sink sink' gave gave' next (entry ∷ []) (take kept (texts (entry ∷ [])))
