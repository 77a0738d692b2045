use Rattle.std.proofs.Common.{◌≡◌, ◌*◌, drop, ap, arith, ◌∙◌}
use Rattle.config_codec.proofs.Taking.{ranges_follow, one_more, all_read, behind_more}
use Rattle.config_codec.proofs.decoding.read_ranges.Goals as goal

pub loop-preserved : goal.loop-preserved
loop-preserved c = record {
  read = rw c.in_ok-push.ensures.ok (one_more ranges_follow c.loop.ranges c.read_range.result c.loop.cursor c.read_range.new.cursor c.args.count c.loop.counter _ c.loop-test.true
      c.read_range.ensures.range c.read_range.ensures.rest c.loop.invariant.read);
  behind = behind_more 16 c.args.cursor.now c.loop.cursor c.read_range.new.cursor c.loop.counter c.loop.invariant.behind c.read_range.ensures.rest;
}

pub returns-clause-ranges : goal.returns-clause-ranges
returns-clause-ranges c = all_read ranges_follow c.loop.ranges c.loop.cursor c.args.count c.loop.counter _ c.loop-test.false c.loop.invariant.read

pub returns-clause-rest : goal.returns-clause-rest
returns-clause-rest c =
    let all : 16 * c.loop.counter ≡ 16 * c.args.count = omega arith in
    c.loop.invariant.behind ∙ ap (λ n. drop n c.args.cursor.now) all
