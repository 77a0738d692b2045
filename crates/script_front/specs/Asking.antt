-- What a line asks of a host.
use Rattle.std.specs.Prelude.{Option, Some, None}
use Rattle.pool_lines.specs.declared.request.Request.{Request}
use Rattle.pool_lines.specs.declared.request.Request.TheVariants.{Nothing, Create, Import, Write, Read, Freeze, Turn, Sync, Offline, Online, Logs}
use Rattle.pool_runs.specs.Lines.{Asked, Asks_nothing, Asks_write, Asks_read, Asks_freeze, Asks_turn, Asks_sync, Asks_offline, Asks_logs}

-- none where the line isn't built yet
abbrev pub asked_of : Request → Option Asked
asked_of Nothing = Some Asks_nothing
asked_of (Write pool address block) = Some (Asks_write pool address block)
asked_of (Read pool address) = Some (Asks_read pool address)
asked_of (Freeze pool) = Some (Asks_freeze pool)
asked_of (Turn pool) = Some (Asks_turn pool)
asked_of (Sync pool) = Some (Asks_sync pool)
asked_of (Offline pool device temporary) = Some (Asks_offline pool device temporary)
asked_of (Logs pool) = Some (Asks_logs pool)
asked_of (Create pool blocks tops) = None
asked_of (Import pool) = None
asked_of (Online pool device) = None
