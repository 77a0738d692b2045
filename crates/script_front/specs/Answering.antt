-- How the code answers one line.
use Rattle.std.specs.Prelude.{◌≡◌, ℕ, List, Option, Result, IfOk}
use Rattle.mp_base.specs.declared.fault.MemFault.{MemFault}
use Rattle.bank_core.specs.BankView.{BankView}
use Rattle.host_core.specs.Answering.{IsLine, Answers}
use Rattle.host_core.specs.Parts.{HostParts}
use Rattle.host_core.specs.Standing.{HostStands}
use Rattle.pool_lines.specs.declared.reply.Reply.{Reply}
use Rattle.pool_runs.specs.Hosts.{Host}
use Rattle.pool_runs.specs.Lines as lines
use Rattle.pool_runs.specs.Lines.{Asked, Entry}
use Rattle.script_front.specs.Telling.{Tells}
use Rattle.script_front.specs.Told.{AsksAs, IsTold}

-- What was asked was answered as an entry that is a line, and this is its reply line.
abbrev pub AnswersBy : Asked → (old new : HostParts) → (from to : BankView) → Reply → Type 0
AnswersBy asked old new from to told = (h : Host) → HostStands old from h → Answers asked (λ reply. Tells h asked reply told) h new from to

-- It has a reply line, and this is it, where there was memory to tell it.
pub record MayTell (h : Host) (asked : Asked) (reply : lines.Reply) (answer : Result Reply MemFault) : Type 0 where
  pub told : Reply
  pub tells : Tells h asked reply told
  pub says : IfOk answer (λ is. is ≡ told)

abbrev pub MayAnswer : Asked → (old new : HostParts) → (from to : BankView) → Result Reply MemFault → Type 0
MayAnswer asked old new from to answer = (h : Host) → HostStands old from h → Answers asked (λ reply. MayTell h asked reply answer) h new from to

-- A request was answered as an entry that is a line.
pub record Replies (asked : Option Asked) (h : Host) (new : HostParts) (from to : BankView) (answer : Result Reply MemFault) : Type 0 where
  pub entry : Entry
  pub hears : entry.second ≡ h.second
  pub line : IsLine h entry new from to
  pub told : Reply
  pub asks : AsksAs asked h entry told
  pub says : IfOk answer (λ is. is ≡ told)

-- So was a line.
pub record AnswersLine (line : List ℕ) (h : Host) (new : HostParts) (from to : BankView) (answer : Result Reply MemFault) : Type 0 where
  pub entry : Entry
  pub hears : entry.second ≡ h.second
  pub is_line : IsLine h entry new from to
  pub told : Reply
  pub is_told : IsTold line h entry told
  pub says : IfOk answer (λ is. is ≡ told)
