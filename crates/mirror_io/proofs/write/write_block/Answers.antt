use Rattle.std.proofs.Common.{arith, sym, subst, ◌<◌, get_or}
use Rattle.bank_core.proofs.Blocks.{block_whole, block_inside}
use Rattle.mirror_io.proofs.Writing.{writes_next, all_excused, all_written}
use Rattle.mirror_io.proofs.write.write_block.Goals as goal

pub write-requires-clause-whole : goal.write-requires-clause-whole
write-requires-clause-whole g c = block_whole c.args.bytes.now c.requires.block

pub write-requires-clause-inside : goal.write-requires-clause-inside
write-requires-clause-inside g c =
    block_inside c.args.bytes.now c.args.at _ c.requires.block
    (subst (λ n. c.args.at < n) (sym (c.loop-i.invariant.writes.bank.frame.sizes (get_or c.args.devs.now c.loop-i.i 0)))
    (c.requires.within c.loop-i.i 0 c.loop-i-test.true))

pub loop-i-preserved : goal.loop-i-preserved
loop-i-preserved g c = record {
  writes = writes_next c.args.devs.now c.loop-i.done c.loop-i.i 0 c.write.result c.is_ok.result c.loop-i-test.true (omega arith) c.is_ok.ensures.value
      c.loop-i.invariant.writes c.write.ensures;
}

pub returns-clause-causes : goal.returns-clause-causes
returns-clause-causes g c =
    all_excused (all_written c.args.devs.now c.loop-i.done c.loop-i.i (omega arith) (omega arith) c.loop-i.invariant.writes)
