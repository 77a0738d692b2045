-- The end of the input, behind which what waits is the last line.
use Rattle.std.specs.Prelude.{◌≡◌, ◌⊎◌, ℕ, ◌<◌, List, [], length, Option}
use Rattle.bank_core.specs.BankView.{BankView}
use Rattle.host_core.specs.Parts.{HostParts}
use Rattle.pool_runs.specs.Hosts.{Host}
use Rattle.script_front.specs.declared.status.Status.{Status}
use Rattle.script_front.specs.declared.status.Status.TheVariants as statuses
use Rattle.script_front.specs.declared.stop.Stop.{Stop}
use Rattle.script_front.specs.declared.stop.Stop.TheVariants as stops
use Rattle.script_front.specs.Feeding.{HandlesLine, BreaksLine}
use Rattle.script_front.specs.SoFar.{status_of}

-- what waits was answered
pub record Finished (h : Host) (waiting : List ℕ) (old new : HostParts) (from to : BankView) (sink sink' gave gave' : Option (List ℕ)) : Type 0 where
  pub some : 0 < length waiting
  pub line : HandlesLine h waiting old new from to sink sink' gave gave'

-- or its reply could not be written
pub record BrokeOff (h : Host) (status : Status) (waiting : List ℕ) (old new : HostParts) (from to : BankView) (sink sink' gave gave' : Option (List ℕ)) : Type 0 where
  pub some : 0 < length waiting
  pub stop : Stop
  pub status_is : status ≡ status_of stop
  pub whole : stop ≡ stops.TooLong → ⊥
  pub line : BreaksLine h waiting old new from to sink sink' gave gave'

-- no line waited
pub record NothingWaits (waiting : List ℕ) (old new : HostParts) (from to : BankView) (sink sink' gave gave' : Option (List ℕ)) : Type 0 where
  pub none : waiting ≡ []
  pub host : new ≡ old
  pub bank : to ≡ from
  pub written : sink' ≡ sink
  pub untimed : gave' ≡ gave

abbrev pub Finishes : Host → Status → List ℕ → HostParts → HostParts → BankView → BankView → Option (List ℕ) → Option (List ℕ) → Option (List ℕ) → Option (List ℕ) → Type 0
Finishes h status waiting old new from to sink sink' gave gave' =
    ((status ≡ statuses.Done) × NothingWaits waiting old new from to sink sink' gave gave')
    ⊎ (((status ≡ statuses.Done) × Finished h waiting old new from to sink sink' gave gave')
    ⊎ BrokeOff h status waiting old new from to sink sink' gave gave')
