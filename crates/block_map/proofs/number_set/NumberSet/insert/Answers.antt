use Rattle.std.proofs.Common.{arith}
use Rattle.block_map.specs.NumberSet.{has, room}
use Rattle.block_map.proofs.Counted.{counted_more, count_fits}
use Rattle.block_map.proofs.number_set.NumberSet.insert.Goals as goal

pub overflow_add-self : goal.overflow_add-self
overflow_add-self c = let most = count_fits c.self.inside.members c.self.inside.words c.self.inside.low c.self.inside.count c.self.invariant in omega arith

pub invariant_of-self : goal.invariant_of-self
unfolding has room
invariant_of-self c =
    rw c.min-self-inside.ensures
    (counted_more c.self.inside.members c.insert.new.self c.self.inside.words c.insert-2.new.self c.self.inside.low c.self.inside.count c.args.at
    c.self.invariant c.insert.ensures.others c.insert.ensures.words c.insert.ensures.room c.insert-2.ensures.others c.insert-2.ensures.room
    (rw (← c.self.view_is) at c.requires.inside) (rw (← c.self.view_is) at c.requires.absent) c.insert.ensures.there c.insert-2.ensures.there)
