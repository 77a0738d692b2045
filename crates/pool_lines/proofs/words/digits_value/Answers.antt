use Rattle.std.proofs.Common.{◌+◌, ◌*◌, ◌^◌, ◌<◌, arith}
use Rattle.pool_lines.proofs.Tokens.{digit_at, digit_more, digit_room, digit_step}
use Rattle.pool_lines.proofs.words.digits_value.Goals as goal

pub overflow_mul-value : goal.overflow_mul-value
overflow_mul-value c =
    let room : c.loop-b.value * 10 + 0 < 2 ^ 64 =
    digit_room c.loop-b.value 0 c.loop-b.b-index _ c.loop-b.invariant.small c.loop-b-test.true c.requires.short (omega arith) in
    omega arith

pub overflow_add-value : goal.overflow_add-value
overflow_add-value c =
    let digit = digit_at c.args.text.now c.loop-b.b-index c.requires.digits c.loop-b-test.true in
    let room : c.loop-b.value * 10 + c.from.result < 2 ^ 64 =
    digit_room c.loop-b.value c.from.result c.loop-b.b-index _ c.loop-b.invariant.small c.loop-b-test.true c.requires.short
    (omega (arith, digit.0, digit.1)) in
    omega arith

pub loop-b-preserved : goal.loop-b-preserved
loop-b-preserved c =
    let digit = digit_at c.args.text.now c.loop-b.b-index c.requires.digits c.loop-b-test.true in
    record {
      value = digit_step c.args.text.now c.loop-b.value c.from.result c.loop-b.b-index c.loop-b.invariant.value c.loop-b-test.true digit.0 digit.1 c.from.ensures;
      small = digit_more c.loop-b.value c.from.result c.loop-b.b-index c.loop-b.invariant.small (omega (arith, digit.0, digit.1));
    }
