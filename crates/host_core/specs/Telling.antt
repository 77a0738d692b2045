-- What the lines that only read answer.
use Rattle.std.specs.Prelude.{◌≡◌, ℕ, List, Result, Ok, Err}
use Rattle.pool_moves.specs.CommitRows.{NamedLog}
use Rattle.pool_runs.specs.Lines.{Reply, To_logs, No_pool, No_memory}
use Rattle.host_core.specs.declared.host.Refused.{Refused}
use Rattle.host_core.specs.declared.host.Refused.TheVariants as refused

-- The reply is these logs, or there is no pool of the name, or there was no memory.
abbrev pub TellsLogs : {A E : Type 0} → (told : A → List NamedLog) → Result A (Refused E) → Reply → Type 0
TellsLogs told (Ok logs) reply = reply ≡ To_logs (told logs)
TellsLogs told (Err refused.NoPool) reply = reply ≡ No_pool
TellsLogs told (Err (refused.Pool want)) reply = reply ≡ No_memory

-- what is answered, and the bytes with it at Ok
abbrev pub with_bytes : {E : Type 0} → List ℕ → Result (Unit {0}) E → Result (List ℕ) E
with_bytes out (Ok done) = Ok out
with_bytes out (Err why) = Err why
