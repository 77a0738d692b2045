use Rattle.std.proofs.Common.{arith}
use Rattle.block_map.specs.NumberSet.{has, room}
use Rattle.block_map.proofs.Counted.{inside_there, counted_from, least_found, none_there, zero_there}
use Rattle.block_map.proofs.number_set.NumberSet.take_least.Goals as goal

pub least_in-at-requires-clause-inside : goal.least_in-at-requires-clause-inside
least_in-at-requires-clause-inside c =
    inside_there c.self.inside.members c.self.inside.words c.self.inside.low c.self.inside.count c.self.invariant _ c.least_in-word.ensures.there

pub invariant_of-self : goal.invariant_of-self
invariant_of-self c =
    counted_from c.self.inside.members c.self.inside.words c.self.inside.low c.self.inside.count c.self.invariant _ c.in_ok-low.ensures.first

pub remove-requires-clause-inside : goal.remove-requires-clause-inside
unfolding room
remove-requires-clause-inside c = let lt = inside_there c.self.inside.members c.self.inside.words c.self.inside.low c.self.inside.count c.self.invariant _ c.least_in-word.ensures.there in omega (arith, c.least_in-at.ensures.word)

pub returns-clause-least : goal.returns-clause-least
unfolding has
returns-clause-least c = rw (← c.self.view_is)
    (least_found c.self.inside.members c.self.inside.words c.self.inside.low c.self.inside.count c.self.invariant _ _ _ c.in_ok-low.ensures.first c.least_in-word.ensures c.least_in-at.ensures)

pub returns-in_err-low-clause-none : goal.returns-in_err-low-clause-none
unfolding has
returns-in_err-low-clause-none c = rw (c.from_residual.ensures, ← c.self.view_is)
    (none_there c.self.inside.members c.self.inside.words c.self.inside.low c.self.inside.count c.self.invariant c.in_err-low.ensures.none)

pub returns-in_err-low-clause-empty : goal.returns-in_err-low-clause-empty
returns-in_err-low-clause-empty c = rw (c.from_residual.ensures, ← c.self.view_is)
    (zero_there c.self.inside.members c.self.inside.words c.self.inside.low c.self.inside.count c.self.invariant c.in_err-low.ensures.none)
