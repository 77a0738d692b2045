-- The moments of a run and its lines, as a pool meets them.
use Rattle.std.specs.Prelude.{◌≡◌, ℕ, List, ◌∷◌, ◌++◌, Some, take}
use Rattle.bank_core.specs.Disk.{Noted}
use Rattle.txg_history.specs.Events.{Event}
use Rattle.txg_history.specs.Pages.{Codec}
use Rattle.txg_history.specs.Pools.{Pool}
use Rattle.pool_moves.specs.States.{PoolState}
use Rattle.pool_runs.specs.Acts.{Act, Hears, calls_along, pool_along, history}
use Rattle.pool_runs.specs.Fairness.{AreFair}
use Rattle.pool_runs.specs.HostRows.{acts_in}
use Rattle.pool_runs.specs.Hosts.{Host, named, host_by, host_along}
use Rattle.pool_runs.specs.Lines.{Entry}
use Rattle.pool_runs.specs.Pasts.{Past, pool_of, then_all}

-- A moment of a run: behind so many of its acts, each of which was fair up to there. A run is what is left of a line, and then its entries.
pub record Moment (c : Codec) (past : Past) (acts : List Act) (entries : List Entry) : Type 0 where
  pub count : ℕ
  pub fair : AreFair c (pool_of past) (take count (acts ++ acts_in entries))

-- the history of the pool up to a moment, and the pool, its past and the host there
abbrev pub events_at : {c : Codec} {past : Past} {acts : List Act} {entries : List Entry} → Moment c past acts entries → List Event
events_at {c} {past} {acts} {entries} m = history (take m.count (acts ++ acts_in entries)) (pool_of past)

abbrev pub pool_at : {c : Codec} {past : Past} {acts : List Act} {entries : List Entry} → Moment c past acts entries → Pool
pool_at {c} {past} {acts} {entries} m = pool_along (take m.count (acts ++ acts_in entries)) (pool_of past)

abbrev pub past_at : {c : Codec} {past : Past} {acts : List Act} {entries : List Entry} → Moment c past acts entries → Past
past_at {c} {past} {acts} {entries} m = then_all past (events_at m)

abbrev pub host_at : {c : Codec} {past : Past} {acts : List Act} {entries : List Entry} → Host → Moment c past acts entries → Host
host_at {c} {past} {acts} {entries} h m = host_along (take m.count (acts ++ acts_in entries)) h

-- A line of a run: an entry, those before it, whose acts were fair, and those behind it.
pub record LineOf (c : Codec) (past : Past) (acts : List Act) (entries : List Entry) : Type 0 where
  pub before : List Entry
  pub entry : Entry
  pub later : List Entry
  pub all : entries ≡ before ++ (entry ∷ later)
  pub fair : AreFair c (pool_of past) (acts ++ acts_in before)

-- the pool as the line meets it and as it leaves it, the host as the line meets it, and its device calls
abbrev pub pool_before : {c : Codec} {past : Past} {acts : List Act} {entries : List Entry} → LineOf c past acts entries → Pool
pool_before {c} {past} {acts} {entries} l = pool_along (acts ++ acts_in l.before) (pool_of past)

abbrev pub pool_behind : {c : Codec} {past : Past} {acts : List Act} {entries : List Entry} → LineOf c past acts entries → Pool
pool_behind {c} {past} {acts} {entries} l = pool_along l.entry.acts (pool_before l)

abbrev pub host_before : {c : Codec} {past : Past} {acts : List Act} {entries : List Entry} → Host → LineOf c past acts entries → Host
host_before {c} {past} {acts} {entries} h l = host_by (Hears l.entry.second) (host_along (acts ++ acts_in l.before) h)

abbrev pub calls_in_line : {c : Codec} {past : Past} {acts : List Act} {entries : List Entry} → LineOf c past acts entries → List Noted
calls_in_line {c} {past} {acts} {entries} l = calls_along l.entry.acts

-- and the host as the line leaves it
abbrev pub host_after : {c : Codec} {past : Past} {acts : List Act} {entries : List Entry} → Host → LineOf c past acts entries → Host
host_after {c} {past} {acts} {entries} h l = host_along l.entry.acts (host_before h l)

-- The pool is open in this host under this name, as this state.
pub record IsOpenAs (p : Pool) (h : Host) (name : List ℕ) (s : PoolState) : Type 0 where
  pub named : named name h.pools ≡ Some s
  pub ours : s.core.pool.0 ≡ p.pool.0
