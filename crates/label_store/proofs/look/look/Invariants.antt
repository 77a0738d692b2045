use Rattle.std.proofs.Common.{◌≡◌, ◌*◌, take, length}
use Rattle.std.specs.List.{flat_map}
use Rattle.label_store.specs.Newest.{label_asks, Looks}
use Rattle.label_store.proofs.look.look.Given as goal

abbrev pub invariant-loop-at : goal.invariant-loop-at
invariant-loop-at g l = record {
  count : length l.parts.items ≡ 2 * l.at-index;
  looks : Looks (flat_map (label_asks l.dev) (take l.at-index l.at-items))
      (g.B.Bank.view l.initial.bank) (g.B.Bank.view l.bank) l.parts.items;
}
