use Rattle.std.proofs.Common.{arith, ap, ◌∙◌, sym, ◌/◌, ◌+◌, ◌*◌, ◌≡◌}
use Rattle.block_map.specs.Keys.{keys_at}
use Rattle.block_map.specs.Numbers.{start}
use Rattle.block_map.proofs.KeyNumbers.{keys_at-zero, keys_at-next, keys_le, start-zero, start-next, start_fits}
use Rattle.block_map.proofs.numbers.start.Goals as goal

pub loop-init : goal.loop-init
loop-init c = (sym (keys_at-zero c.args.blocks), (sym (start-zero c.args.blocks), omega arith))

pub overflow_add-keys : goal.overflow_add-keys
overflow_add-keys c =
    let most = keys_le c.args.blocks c.loop.counter c.requires.blocks in
    omega (arith, c.loop.invariant.0)

pub overflow_mul-start : goal.overflow_mul-start
overflow_mul-start c =
    let most = keys_le c.args.blocks c.loop.counter c.requires.blocks in
    omega (arith, c.loop.invariant.0)

pub overflow_add-start : goal.overflow_add-start
overflow_add-start c =
    let most = keys_le c.args.blocks c.loop.counter c.requires.blocks in
    let small = start_fits c.args.blocks c.loop.counter c.requires.blocks (omega (arith, c.loop.invariant.1.1, c.requires.level)) in
    omega (arith, c.loop.invariant.0, c.loop.invariant.1.0)

pub loop-preserved : goal.loop-preserved
loop-preserved c =
    let keys : (c.loop.keys + 63) / 64 ≡ keys_at c.args.blocks (c.loop.counter + 1) =
    ap (λ n. (n + 63) / 64) c.loop.invariant.0 ∙ sym (keys_at-next c.args.blocks c.loop.counter) in (
      keys,
      (
        ap (λ n. n + 64 * ((c.loop.keys + 63) / 64)) c.loop.invariant.1.0
            ∙ ap (λ n. start c.args.blocks c.loop.counter + 64 * n) keys ∙ sym (start-next c.args.blocks c.loop.counter),
        omega arith,
      ),
    )

pub returns-clause-value : goal.returns-clause-value
returns-clause-value c =
    let is : c.loop.counter ≡ c.args.level = omega (arith, c.loop.invariant.1.1, c.loop-test.false) in rw (← is) c.loop.invariant.1.0

pub returns-clause-small : goal.returns-clause-small
returns-clause-small c =
    let small = start_fits c.args.blocks c.loop.counter c.requires.blocks (omega (arith, c.loop.invariant.1.1, c.requires.level)) in
    omega (arith, c.loop.invariant.1.0)
