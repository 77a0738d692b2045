use Rattle.std.proofs.Common.{◌≤◌, length}
use Rattle.script_front.specs.Writing.{Writes}
use Rattle.script_front.proofs.output.write_all.Given as goal

abbrev pub invariant-loop-rest : goal.invariant-loop-rest
invariant-loop-rest g l = record {
  writes : Writes (g.W.Sink.contents l.initial.output) (g.W.Sink.contents l.output) l.text l.rest;
  counts : g.W.Sink.faults l.initial.output ≤ g.W.Sink.faults l.output;
}

abbrev pub decreases-loop-rest : goal.decreases-loop-rest
decreases-loop-rest g l = length l.rest
