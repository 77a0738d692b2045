use Rattle.std.proofs.Common.{◌+◌, ◌∙◌, arith}
use Rattle.mirror_io.proofs.Trying.{tries_next, tries_behind}
use Rattle.mirror_io.proofs.read.try_due.Goals as goal

pub returns-then-try_copy-clause-tries : goal.returns-then-try_copy-clause-tries
returns-then-try_copy-clause-tries g c =
    tries_behind c.args.owing (c.loop-i.i + 1) (tries_next c.loop-i.i _ _ c.try_copy.new.seen c.loop-i-test.true (omega arith) c.requires.apart
    c.loop-i.invariant.tries (rw c.loop-i.invariant.unchanged at c.if-try_copy.ensures.tries))

pub loop-i-preserved : goal.loop-i-preserved
loop-i-preserved g c = record {
  unchanged = c.try_copy.ensures.unchanged c.if-try_copy.false ∙ c.loop-i.invariant.unchanged;
  tries = tries_next c.loop-i.i _ _ c.try_copy.new.seen c.loop-i-test.true (omega arith) c.requires.apart
      c.loop-i.invariant.tries (rw c.loop-i.invariant.unchanged at c.if-try_copy.ensures.tries);
}
