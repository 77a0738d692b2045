use Rattle.block_map.specs.Reading.{AreRead}
use Rattle.block_map.proofs.reader.put_all.Given as goal

abbrev pub invariant-loop-j : goal.invariant-loop-j
invariant-loop-j l = AreRead l.initial.map l.map l.page l.pointers l.j
