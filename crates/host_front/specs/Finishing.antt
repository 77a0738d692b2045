-- The end of the input, behind which what waits is the last line.
use Rattle.std.specs.Prelude.{◌≡◌, ◌⊎◌, ℕ, ◌<◌, List, [], length, Option}
use Rattle.bank_core.specs.Story.{Story}
use Rattle.host_machine.specs.Machine.{HostState}
use Rattle.host_front.specs.declared.status.Status.{Status}
use Rattle.host_front.specs.declared.status.Status.TheVariants as statuses
use Rattle.host_front.specs.declared.stop.Stop.{Stop}
use Rattle.host_front.specs.declared.stop.Stop.TheVariants as stops
use Rattle.host_front.specs.declared.host.Host.{Host}
use Rattle.host_front.specs.Feeding.{HandlesLine, BreaksLine}
use Rattle.host_front.specs.SoFar.{status_of}

-- nothing waits, or what waits was answered
pub record Finished (h : HostState) (waiting : List ℕ) (old new : Option Story) (before after : ℕ → ℕ) (sink sink' gave gave' : Option (List ℕ)) : Type 0 where
  pub some : 0 < length waiting
  pub size : ℕ → ℕ
  pub host : Host
  pub line : HandlesLine h waiting old new before after sink sink' gave gave' size host

-- or its reply could not be written
pub record BrokeOff (h : HostState) (status : Status) (waiting : List ℕ) (old new : Option Story) (before after : ℕ → ℕ) (sink sink' gave gave' : Option (List ℕ)) : Type 0 where
  pub some : 0 < length waiting
  pub stop : Stop
  pub status_is : status ≡ status_of stop
  pub whole : stop ≡ stops.TooLong → ⊥
  pub line : BreaksLine h waiting old new before after sink sink' gave gave'

-- no line waited
pub record NothingWaits (waiting : List ℕ) (old new : Option Story) (before after : ℕ → ℕ) (sink sink' gave gave' : Option (List ℕ)) : Type 0 where
  pub none : waiting ≡ []
  pub told : new ≡ old
  pub faults : after ≡ before
  pub written : sink' ≡ sink
  pub untimed : gave' ≡ gave

abbrev pub Finishes : HostState → Status → List ℕ → Option Story → Option Story → (ℕ → ℕ) → (ℕ → ℕ) → Option (List ℕ) → Option (List ℕ) → Option (List ℕ) → Option (List ℕ) → Type 0
Finishes h status waiting old new before after sink sink' gave gave' =
    ((status ≡ statuses.Done) × NothingWaits waiting old new before after sink sink' gave gave')
    ⊎ (((status ≡ statuses.Done) × Finished h waiting old new before after sink sink' gave gave')
    ⊎ BrokeOff h status waiting old new before after sink sink' gave gave')
