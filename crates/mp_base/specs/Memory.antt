-- What the source, the sink and the clock in memory tell.
use Rattle.std.specs.Prelude.{ℕ, ◌-◌, cond, List, Option, Some, None, drop}
use Rattle.std.specs.Vec.{vec_capacity, vec_len}
use Rattle.mp_base.specs.declared.source.MemSource.{MemSource}
use Rattle.mp_base.specs.declared.sink.MemSink.{MemSink}
use Rattle.mp_base.specs.declared.clock.MemClock.{MemClock}

-- the bytes that it has yet to give
abbrev pub source_rest : MemSource → List ℕ
source_rest s = drop s.at s.bytes.items

-- the longest piece that it gives, the number of the read that fails, and how many there were
abbrev pub source_plan : MemSource → ℕ × Option ℕ × ℕ
source_plan s = (s.piece, s.failing, s.reads)

-- the bytes that it took
abbrev pub sink_bytes : MemSink → List ℕ
sink_bytes s = s.taken.items

-- the longest piece that it takes, the number of the write that fails, and how many there were
abbrev pub sink_plan : MemSink → ℕ × Option ℕ × ℕ
sink_plan s = (s.piece, s.failing, s.writes)

-- the second at which it stands
abbrev pub clock_second : MemClock → ℕ
clock_second c = c.second

-- the seconds that it gave, while it tells
abbrev pub clock_seconds : MemClock → Option (List ℕ)
clock_seconds c = cond c.tells (Some c.gave.items) None

-- for how many further seconds it has room
abbrev pub clock_room : MemClock → ℕ
clock_room c = vec_capacity c.gave - vec_len c.gave
