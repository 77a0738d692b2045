use Rattle.std.proofs.Common.{arith, refl, ◌∙◌}
use Rattle.block_map.specs.NumberSet.{has, room}
use Rattle.block_map.proofs.Bitmaps.{some_of}
use Rattle.block_map.proofs.Counted.{counted_less, count_there}
use Rattle.block_map.proofs.number_set.NumberSet.remove.Goals as goal

pub drop_if_empty-requires-clause-had : goal.drop_if_empty-requires-clause-had
unfolding has
drop_if_empty-requires-clause-had c = c.self.invariant.some _ ∙ some_of c.self.inside.members c.args.at (rw (← c.self.view_is) at c.requires.there)

pub overflow_sub-self : goal.overflow_sub-self
unfolding has room
overflow_sub-self c =
    count_there c.self.inside.members c.self.inside.words c.self.inside.low c.self.inside.count c.self.invariant c.args.at
    (rw (← c.self.view_is) at c.requires.inside) (rw (← c.self.view_is) at c.requires.there)

pub invariant_of-self : goal.invariant_of-self
unfolding has room
invariant_of-self c =
    counted_less c.self.inside.members c.remove.new.self c.self.inside.words c.drop_if_empty.new.words c.self.inside.low c.self.inside.count c.args.at
    c.self.invariant c.remove.ensures.others c.remove.ensures.words c.remove.ensures.room c.drop_if_empty.ensures.others c.drop_if_empty.ensures.room
    (rw (← c.self.view_is) at c.requires.inside) (rw (← c.self.view_is) at c.requires.there) c.remove.ensures.gone c.drop_if_empty.ensures.word

pub returns : goal.returns
unfolding has room
returns c = rw (← c.self.view_is) (record {
  less = record {
    gone = c.remove.ensures.gone;
    others = c.remove.ensures.others;
    count = let one = count_there c.self.inside.members c.self.inside.words c.self.inside.low c.self.inside.count c.self.invariant c.args.at
        (rw (← c.self.view_is) at c.requires.inside) (rw (← c.self.view_is) at c.requires.there) in omega arith;
    room = rw c.remove.ensures.room refl;
  };
})
