use Rattle.std.proofs.Common.{◌∙◌, arith}
use Rattle.pool_core.proofs.Tries.{seen_count, misses_more, serves_at}
use Rattle.pool_core.proofs.read.try_all.Goals as goal

pub push-requires : goal.push-requires
push-requires g c =
    omega (arith, seen_count c.args.members.now c.loop-member.member-index (omega arith) c.loop-member.invariant.misses)

pub loop-member-preserved : goal.loop-member-preserved
loop-member-preserved g c = record {
  size = λ d. c.read_copy.ensures.size d ∙ c.loop-member.invariant.size d;
  numbers = λ name. c.read_copy.ensures.numbers name ∙ c.loop-member.invariant.numbers name;
  lookups = c.read_copy.ensures.lookups ∙ c.loop-member.invariant.lookups;
  misses = rw c.push.ensures (misses_more c.args.members.now c.loop-member.member-index _ c.read_copy.new.out c.in-Err.showed
      (omega arith) c.loop-member.invariant.misses c.in-Err.ensures.copy);
}

pub returns-in-Ok-clause-tries : goal.returns-in-Ok-clause-tries
returns-in-Ok-clause-tries g c =
    serves_at c.args.members.now c.loop-member.member-index _ c.read_copy.new.out (omega arith) c.loop-member.invariant.misses c.in-Ok.ensures.copy
