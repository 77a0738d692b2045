use Rattle.std.proofs.Common.{arith, ◌≡◌, ◌-◌, suc}
use Rattle.block_map.specs.Numbers.{key_number}
use Rattle.block_map.proofs.KeyNumbers.{above_zero}
use Rattle.block_map.proofs.numbers.key_at.Goals as goal

pub overflow_sub-level : goal.overflow_sub-level
overflow_sub-level c = above_zero c.args.blocks c.loop-level.level c.args.number (omega (arith, c.start.ensures.value))

pub loop-level-smaller : goal.loop-level-smaller
loop-level-smaller c =
    let some = above_zero c.args.blocks c.loop-level.level c.args.number (omega (arith, c.start.ensures.value)) in omega arith

pub loop-level-preserved : goal.loop-level-preserved
loop-level-preserved c =
    let some = above_zero c.args.blocks c.loop-level.level c.args.number (omega (arith, c.start.ensures.value)) in
    let is : suc (c.loop-level.level - 1) ≡ c.loop-level.level = omega arith in
    (omega (arith, c.loop-level.invariant.0), λ _. rw is (omega (arith, c.start.ensures.value)))

pub returns-clause-number : goal.returns-clause-number
unfolding key_number
returns-clause-number c = omega (arith, c.start.ensures.value, c.start-2.ensures.value)
