-- A run in its course.
use Rattle.std.specs.Prelude.{ℕ, List, [], Option}
use Rattle.mp_base.specs.Outside.{Given}
use Rattle.bank_core.specs.BankView.{BankView}
use Rattle.host_core.specs.Parts.{HostParts}
use Rattle.pool_runs.specs.Hosts.{Host}
use Rattle.script_front.specs.declared.status.Status.{Status}
use Rattle.script_front.specs.declared.status.Status.TheVariants as statuses
use Rattle.script_front.specs.declared.stop.Stop.{Stop}
use Rattle.script_front.specs.declared.stop.Stop.TheVariants as stops
use Rattle.script_front.specs.Feeding.{Feeds}

-- The input gave some text, whose lines were answered, but for what waits.
pub record SoFar (h : Host) (waiting : List ℕ) (old new : HostParts) (from to : BankView) (left left' sink sink' gave gave' : Option (List ℕ)) : Type 0 where
  pub text : List ℕ
  pub given : Given left left' text
  pub feeds : Feeds h [] text waiting old new from to sink sink' gave gave'

-- the status of a run that broke off
abbrev pub status_of : Stop → Status
status_of stops.Sink = statuses.SinkFault
status_of stops.Memory = statuses.Memory
status_of stops.TooLong = statuses.LineTooLong
