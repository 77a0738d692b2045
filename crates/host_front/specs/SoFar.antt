-- A run in its course.
use Rattle.std.specs.Prelude.{ℕ, List, [], Option}
use Rattle.mp_base.specs.Outside.{Given}
use Rattle.bank_core.specs.Story.{Story}
use Rattle.host_machine.specs.Machine.{HostState}
use Rattle.host_front.specs.declared.host.Host.{Host}
use Rattle.host_front.specs.declared.status.Status.{Status}
use Rattle.host_front.specs.declared.status.Status.TheVariants as statuses
use Rattle.host_front.specs.declared.stop.Stop.{Stop}
use Rattle.host_front.specs.declared.stop.Stop.TheVariants as stops
use Rattle.host_front.specs.Feeding.{Feeds}

-- The input gave some text, whose lines were answered, but for what waits.
pub record SoFar (h : HostState) (waiting : List ℕ) (old new : Option Story) (before after : ℕ → ℕ) (left left' sink sink' gave gave' : Option (List ℕ)) (size : ℕ → ℕ) (host : Host) : Type 0 where
  pub text : List ℕ
  pub given : Given left left' text
  pub feeds : Feeds h [] text waiting old new before after sink sink' gave gave' size host

-- the status of a run that broke off
abbrev pub status_of : Stop → Status
status_of stops.Sink = statuses.SinkFault
status_of stops.Memory = statuses.Memory
status_of stops.TooLong = statuses.LineTooLong
