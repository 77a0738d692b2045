use Rattle.std.proofs.Common.{◌≡◌, ℕ, ◌≤◌, List, take, length}
use Rattle.host_front.specs.Feeding.{Feeds}
use Rattle.host_front.specs.Lines.{IsOpen, longest}
use Rattle.host_machine.specs.Machine.{HostState}
use Rattle.host_front.specs.Standing.{Stands, HostIsSeated}
use Rattle.host_front.proofs.input.feed.Given as goal

abbrev pub invariant-loop-b : goal.invariant-loop-b
invariant-loop-b g l = record {
  size : (d : ℕ) → (g.B.Bank.view l.bank).size d ≡ (g.B.Bank.view l.initial.bank).size d;
  numbers : (name : List ℕ) → (g.B.Bank.view l.bank).number_of name ≡ (g.B.Bank.view l.initial.bank).number_of name;
  lookups : (g.B.Bank.view l.bank).lookup_faults ≡ (g.B.Bank.view l.initial.bank).lookup_faults;
  seated : HostIsSeated (g.B.Bank.view l.bank).size l.host;
  feeds : (h : HostState) → Stands (g.B.Bank.view l.initial.bank).size l.initial.host h → Feeds h l.initial.waiting.items (take l.b-index l.piece) l.waiting.items
      (g.B.Bank.view l.initial.bank).told (g.B.Bank.view l.bank).told (g.B.Bank.view l.initial.bank).faults (g.B.Bank.view l.bank).faults
      (g.W.Sink.contents l.initial.output) (g.W.Sink.contents l.output)
      (g.C.Clock.gave l.initial.clock) (g.C.Clock.gave l.clock) (g.B.Bank.view l.bank).size l.host;
  open_line : IsOpen l.waiting.items;
  fits : length l.waiting.items ≤ longest;
  counts : g.W.Sink.faults l.initial.output ≤ g.W.Sink.faults l.output;
}
