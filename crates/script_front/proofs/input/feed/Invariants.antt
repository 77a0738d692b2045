use Rattle.std.proofs.Common.{◌≤◌, take, length}
use Rattle.host_core.specs.Standing.{HostStands, IsSeated}
use Rattle.pool_runs.specs.Hosts.{Host}
use Rattle.script_front.specs.Feeding.{Feeds}
use Rattle.script_front.specs.Lines.{IsOpen, longest}
use Rattle.script_front.proofs.input.feed.Given as goal

abbrev pub invariant-loop-b : goal.invariant-loop-b
invariant-loop-b g l = record {
  seated : IsSeated l.host (g.B.Bank.view l.bank);
  feeds : (h : Host) → HostStands l.initial.host (g.B.Bank.view l.initial.bank) h → Feeds h l.initial.waiting.items (take l.b-index l.piece) l.waiting.items
      l.initial.host l.host (g.B.Bank.view l.initial.bank) (g.B.Bank.view l.bank)
      (g.W.Sink.contents l.initial.output) (g.W.Sink.contents l.output) (g.C.Clock.gave l.initial.clock) (g.C.Clock.gave l.clock);
  open_line : IsOpen l.waiting.items;
  fits : length l.waiting.items ≤ longest;
  counts : g.W.Sink.faults l.initial.output ≤ g.W.Sink.faults l.output;
}
