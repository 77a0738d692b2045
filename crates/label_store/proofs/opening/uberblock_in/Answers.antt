use Rattle.std.proofs.Common.{refl, arith}
use Rattle.label_store.proofs.Openings.{slot_inside, slot_correct, slot_exact}
use Rattle.label_store.proofs.opening.uberblock_in.Goals as goal

pub returns-then-ring-start-clause-exact : goal.returns-then-ring-start-clause-exact
returns-then-ring-start-clause-exact c = λ u is. absurd (omega (arith, slot_inside u c.args.ring.now c.args.slot is, c.if-ring-start.true))

pub returns-clause-correct : goal.returns-clause-correct
returns-clause-correct c = slot_correct c.read_uberblock.result c.args.ring.now _ c.args.slot refl c.read_uberblock.ensures.correct

pub returns-clause-exact : goal.returns-clause-exact
returns-clause-exact c = slot_exact c.read_uberblock.result c.args.ring.now _ c.args.slot refl c.read_uberblock.ensures.exact
