use Rattle.std.proofs.Common.{length, arith}
use Rattle.pool_config.proofs.Walking.{none_put, run_put, run_fits, all_put}
use Rattle.pool_config.proofs.trees.put_ranges.Goals as goal

pub loop-low-init : goal.loop-low-init
loop-low-init c = none_put c.args.log.now c.args.out.now c.args.at c.lies_within.ensures

pub put_range-stop-requires : goal.put_range-stop-requires
put_range-stop-requires c =
    omega (
      arith,
      run_fits c.args.log.now c.args.out.now c.loop-low.out c.args.at c.loop-low.stop c.loop-low.from.0 c.in-Some.low.0
          c.in-Some.high.0 (length c.args.out.now) c.loop-low.invariant
          (record {
            late = c.in-Some.ensures.from;
            order = c.in-Some.ensures.run.some;
            last = c.in-Some.ensures.in_range.1;
            first = c.in-Some.ensures.first;
            inside = c.in-Some.ensures.run.inside;
            behind = c.in-Some.ensures.run.behind;
          })
          c.requires,
    )

pub loop-low-preserved : goal.loop-low-preserved
loop-low-preserved c =
    run_put c.args.log.now c.args.out.now c.loop-low.out c.put_range-stop.new.out c.args.at c.loop-low.stop
    c.put_range-stop.result c.loop-low.from.0 c.in-Some.low.0 c.in-Some.high.0
    c.loop-low.invariant
    (record {
      late = c.in-Some.ensures.from;
      order = c.in-Some.ensures.run.some;
      last = c.in-Some.ensures.in_range.1;
      first = c.in-Some.ensures.first;
      inside = c.in-Some.ensures.run.inside;
      behind = c.in-Some.ensures.run.behind;
    })
    c.put_range-stop.ensures.piece c.put_range-stop.ensures.stop

pub returns-clause-piece : goal.returns-clause-piece
returns-clause-piece c =
    (all_put c.args.log.now c.args.out.now c.loop-low.out c.args.at c.loop-low.stop c.loop-low.from.0
    c.loop-low.invariant c.in_default.ensures.none).0

pub returns-clause-stop : goal.returns-clause-stop
returns-clause-stop c =
    (all_put c.args.log.now c.args.out.now c.loop-low.out c.args.at c.loop-low.stop c.loop-low.from.0
    c.loop-low.invariant c.in_default.ensures.none).1
