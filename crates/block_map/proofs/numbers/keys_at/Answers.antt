use Rattle.std.proofs.Common.{arith, ap, ◌∙◌, sym, ◌/◌, ◌+◌, ◌≡◌}
use Rattle.block_map.proofs.KeyNumbers.{keys_at-zero, keys_at-next, keys_le}
use Rattle.block_map.proofs.numbers.keys_at.Goals as goal

pub loop-init : goal.loop-init
loop-init c = (sym (keys_at-zero c.args.blocks), omega arith)

pub overflow_add-keys : goal.overflow_add-keys
overflow_add-keys c =
    let most = keys_le c.args.blocks c.loop.counter c.requires in
    omega (arith, c.loop.invariant.0)

pub loop-preserved : goal.loop-preserved
loop-preserved c =
    (ap (λ n. (n + 63) / 64) c.loop.invariant.0 ∙ sym (keys_at-next c.args.blocks c.loop.counter), omega arith)

pub returns : goal.returns
returns c = let is : c.loop.counter ≡ c.args.level = omega (arith, c.loop.invariant.1, c.loop-test.false) in rw (← is) c.loop.invariant.0
