use Rattle.std.proofs.Common.{◌≤◌, ◌-◌, ◌^◌, length}
use Rattle.host_core.specs.Standing.{HostStands, IsSeated}
use Rattle.pool_runs.specs.Hosts.{Host}
use Rattle.script_front.specs.Lines.{IsOpen, longest}
use Rattle.script_front.specs.SoFar.{SoFar}
use Rattle.script_front.proofs.script.script.Given as goal

abbrev pub invariant-input : goal.invariant-input
invariant-input g l = record {
  seated : IsSeated l.host (g.B.Bank.view l.bank);
  so_far : (h : Host) → HostStands l.initial.host (g.B.Bank.view l.initial.bank) h → SoFar h l.waiting.items l.initial.host l.host
      (g.B.Bank.view l.initial.bank) (g.B.Bank.view l.bank) (g.S.Source.left l.initial.input) (g.S.Source.left l.input)
      (g.W.Sink.contents l.initial.output) (g.W.Sink.contents l.output) (g.C.Clock.gave l.initial.clock) (g.C.Clock.gave l.clock);
  open_line : IsOpen l.waiting.items;
  fits : length l.waiting.items ≤ longest;
  source : g.S.Source.faults l.initial.input ≤ g.S.Source.faults l.input;
  sink : g.W.Sink.faults l.initial.output ≤ g.W.Sink.faults l.output;
}

abbrev pub decreases-input : goal.decreases-input
decreases-input g l = 2 ^ 62 - g.S.Source.given l.input
