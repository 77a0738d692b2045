-- Lines of a host, one after another.
use Rattle.std.specs.Prelude.{◌≡◌, List, [], ◌∷◌}
use Rattle.bank_core.specs.BankView.{BankView}
use Rattle.pool_runs.specs.Acts.{Hears}
use Rattle.pool_runs.specs.HostRows.{acts_of}
use Rattle.pool_runs.specs.Hosts.{Host, host_by, host_along}
use Rattle.pool_runs.specs.Lines.{Entry}
use Rattle.host_core.specs.Answering.{IsLine}
use Rattle.host_core.specs.Parts.{HostParts}

-- Each is a line of the host behind those before it, at the second that the clock gave.
abbrev pub AreLines : Host → List Entry → (old new : HostParts) → (from to : BankView) → Type 0
AreLines h [] old new from to = (new ≡ old) × (to ≡ from)
AreLines h (e ∷ entries) old new from to = (mid : BankView) × (host : HostParts) × IsLine (host_by (Hears e.second) h) e host from mid
    × AreLines (host_along (acts_of e) h) entries host new mid to
