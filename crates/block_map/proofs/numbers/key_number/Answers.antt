use Rattle.std.proofs.Common.{arith}
use Rattle.block_map.specs.Numbers.{key_number}
use Rattle.block_map.proofs.KeyNumbers.{number_inside, keys_le, slots_small}
use Rattle.block_map.proofs.numbers.key_number.Goals as goal

pub overflow_add-result : goal.overflow_add-result
overflow_add-result c =
    let keys = keys_le c.args.blocks c.args.key.level c.requires.blocks.most in
    omega (arith, c.requires.key.index, c.start.ensures.small)

pub returns-clause-value : goal.returns-clause-value
unfolding key_number
returns-clause-value c = omega (arith, c.start.ensures.value)

pub returns-clause-inside : goal.returns-clause-inside
unfolding key_number
returns-clause-inside c =
    let lt = number_inside c.args.blocks c.requires.blocks.some c.requires.blocks.most c.args.key c.requires.key in
    omega (arith, c.start.ensures.value)

pub returns-clause-small : goal.returns-clause-small
returns-clause-small c =
    let lt = number_inside c.args.blocks c.requires.blocks.some c.requires.blocks.most c.args.key c.requires.key in
    let slots = slots_small c.args.blocks c.requires.blocks.most in
    let value = returns-clause-value c in
    omega (arith, value)
