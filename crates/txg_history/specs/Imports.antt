-- Which records leave no stray, though an opening missed them: those that are past.
use Rattle.std.specs.Prelude.{◌⊎◌, ◌<◌}
use Rattle.txg_history.specs.Events.{Event, Begins}
use Rattle.txg_history.specs.Pools.{Pool}
use Rattle.txg_history.specs.Premises.{AreTwins, WasAcked}
use Rattle.txg_history.specs.Records.{Rec, number_of}

-- the record was acknowledged, told by its bytes, or has a number below the acknowledged one's
abbrev pub IsPast : Pool → Rec → Type 0
IsPast p r = WasAcked p r ⊎ (number_of r < number_of p.acked)

-- a record whose round begins with the event is past in the pool that is behind all events
abbrev pub DrawsPast : (behind : Pool) → Event → Type 0
DrawsPast behind (Begins q) = IsPast behind q
DrawsPast behind v = Unit {0}

-- a record whose round begins with the event is the very same as q
abbrev pub DrawsJust : (q : Rec) → Event → Type 0
DrawsJust q (Begins r) = AreTwins r q
DrawsJust q v = Unit {0}
