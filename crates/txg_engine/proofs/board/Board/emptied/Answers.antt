use Rattle.std.proofs.Common.{◌∙◌, sym}
use Rattle.txg_engine.proofs.Seating.{emptied_on}
use Rattle.txg_engine.proofs.board.Board.emptied.Goals as goal

pub loop-top-preserved : goal.loop-top-preserved
loop-top-preserved c =
    emptied_on c.loop-top.top c.args.tops c.args.self.now c.loop-top-test.true (sym c.has_under.ensures ∙ c.if-not-has_under.false) ∙ c.loop-top.invariant
