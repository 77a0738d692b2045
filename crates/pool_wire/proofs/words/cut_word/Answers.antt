use Rattle.std.proofs.Common.{refl, sym}
use Rattle.pool_wire.proofs.Tokens.{cut_at, cut_none}
use Rattle.pool_wire.proofs.words.cut_word.Goals as goal

pub returns-in-Some-clause-gives : goal.returns-in-Some-clause-gives
returns-in-Some-clause-gives c = cut_at c.args.text.now _ c.in-Some.at (sym c.in-Some.ensures.place) c.in-Some.ensures.within refl

pub returns-in-None-clause-gives : goal.returns-in-None-clause-gives
returns-in-None-clause-gives c = cut_none c.args.text.now (sym c.in-None.ensures.place)
