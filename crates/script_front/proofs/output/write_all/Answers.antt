use Rattle.std.proofs.Common.{arith}
use Rattle.std.proofs.lemmas.Result.{err_from_is_err_and}
use Rattle.script_front.proofs.Taking.{writes_more, writes_front}
use Rattle.script_front.proofs.output.write_all.Goals as goal

pub returns-in_err-n-clause-front : goal.returns-in_err-n-clause-front
returns-in_err-n-clause-front g c =
    let p = err_from_is_err_and c.from_residual.result c.from_residual.ensures.1 in
    rw p.1 (writes_front c.loop-rest.rest.now c.loop-rest.invariant.writes c.in_err-n.ensures.failed)

pub loop-rest-preserved : goal.loop-rest-preserved
loop-rest-preserved g c = record {
  writes = writes_more c.in_ok-n.n _ (omega arith) c.loop-rest.invariant.writes c.in_ok-n.ensures.taken;
  counts = omega arith;
}
