use Rattle.std.proofs.Common.{◌≡◌, ℕ, ◌≤◌, ◌-◌, ◌^◌, List, length}
use Rattle.host_front.specs.Lines.{IsOpen, longest}
use Rattle.host_machine.specs.Machine.{HostState}
use Rattle.host_front.specs.SoFar.{SoFar}
use Rattle.host_front.specs.Standing.{Stands, HostIsSeated}
use Rattle.host_front.proofs.script.script.Given as goal

abbrev pub invariant-input : goal.invariant-input
invariant-input g l = record {
  size : (d : ℕ) → (g.B.Bank.view l.bank).size d ≡ (g.B.Bank.view l.initial.bank).size d;
  numbers : (name : List ℕ) → (g.B.Bank.view l.bank).number_of name ≡ (g.B.Bank.view l.initial.bank).number_of name;
  lookups : (g.B.Bank.view l.bank).lookup_faults ≡ (g.B.Bank.view l.initial.bank).lookup_faults;
  seated : HostIsSeated (g.B.Bank.view l.bank).size l.host;
  so_far : (h : HostState) → Stands (g.B.Bank.view l.initial.bank).size l.initial.host h → SoFar h l.waiting.items
      (g.B.Bank.view l.initial.bank).told (g.B.Bank.view l.bank).told (g.B.Bank.view l.initial.bank).faults (g.B.Bank.view l.bank).faults
      (g.S.Source.left l.initial.input) (g.S.Source.left l.input) (g.W.Sink.contents l.initial.output) (g.W.Sink.contents l.output)
      (g.C.Clock.gave l.initial.clock) (g.C.Clock.gave l.clock) (g.B.Bank.view l.bank).size l.host;
  open_line : IsOpen l.waiting.items;
  fits : length l.waiting.items ≤ longest;
  source : g.S.Source.faults l.initial.input ≤ g.S.Source.faults l.input;
  sink : g.W.Sink.faults l.initial.output ≤ g.W.Sink.faults l.output;
}

abbrev pub decreases-input : goal.decreases-input
decreases-input g l = 2 ^ 62 - g.S.Source.given l.input
