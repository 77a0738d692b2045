-- Each event that a pool may have keeps the invariant.
use Rattle.txg_history.specs.Events.{
  Event,
  Calls,
  Accepts,
  Freezes,
  Wrote,
  Flushed,
  Draws,
  Leaves,
  Grows,
  Burns,
  Begins,
  Third,
  Ends,
  Acks,
  Looks,
  Opens,
  Joins,
  Loses,
  Scans,
  Passes,
  Drops,
  Clears,
  Rests,
  Stops,
}
use Rattle.txg_history.specs.Moves.{May}
use Rattle.txg_history.specs.Pages.{Codec}
use Rattle.txg_history.specs.Pools.{Pool, after}
use Rattle.txg_history.specs.Survival.{Survives}
use Rattle.txg_history.proofs.DevicesSurvive.{opens_survive, joins_survive, loses_survive, stops_survive}
use Rattle.txg_history.proofs.GroupsSurvive.{
  calls_survive,
  accepts_survive,
  freezes_survive,
  wrote_survives,
  flushed_survives,
  draws_survive,
  leaves_survive,
  grows_survive,
  burns_survive,
}
use Rattle.txg_history.proofs.RoundsSurvive.{begins_survive, third_survives, ends_survives, acks_survive}
use Rattle.txg_history.proofs.ScansSurvive.{scans_survive, passes_survive, drops_survive, clears_survive, rests_survive}

pub event_survives : (c : Codec) (p : Pool) (v : Event) → Survives c p → May c p v → Survives c (after v p)
event_survives c p (Calls noted) sv may = calls_survive c p noted sv may
event_survives c p (Accepts a block) sv may = accepts_survive c p a block sv
event_survives c p (Freezes cells board) sv may = freezes_survive c p cells board sv may
event_survives c p (Wrote k) sv may = wrote_survives c p k sv may
event_survives c p Flushed sv may = flushed_survives c p sv may
event_survives c p Draws sv may = draws_survive c p sv may
event_survives c p (Leaves d) sv may = leaves_survive c p d sv may
event_survives c p (Grows owes) sv may = grows_survive c p owes sv may
event_survives c p Burns sv may = burns_survive c p sv may
event_survives c p (Begins q) sv may = begins_survive c p q sv may
event_survives c p (Third q d) sv may = third_survives c p q d sv may
event_survives c p (Ends q d) sv may = ends_survives c p q d sv may
event_survives c p (Acks q) sv may = acks_survive c p q sv may
event_survives c p (Looks known) sv may = sv
event_survives c p (Opens r) sv may = opens_survive c p r sv may
event_survives c p (Joins d m top) sv may = joins_survive c p d m top sv may
event_survives c p (Loses d) sv may = loses_survive c p d sv
event_survives c p (Scans hi eligible) sv may = scans_survive c p hi eligible sv may
event_survives c p (Passes k scrub) sv may = passes_survive c p k scrub sv may
event_survives c p (Drops d) sv may = drops_survive c p d sv
event_survives c p (Clears d) sv may = clears_survive c p d sv may
event_survives c p Rests sv may = rests_survive c p sv
event_survives c p (Stops sectors size) sv may = stops_survive c p sectors size sv may
