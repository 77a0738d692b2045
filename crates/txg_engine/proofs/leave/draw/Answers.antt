use Rattle.dtl_rules.specs.Widening.{leaves_of}
use Rattle.txg_engine.proofs.Ready.{drawn_ready}
use Rattle.txg_engine.proofs.leave.draw.Goals as goal

pub returns-clause-ready : goal.returns-clause-ready
returns-clause-ready c =
    drawn_ready c.args.board.now c.args.numbers.now.last.0 (leaves_of c.args.tops.now) (leaves_of c.owe_off.new.tops)
    c.owe_off.ensures.leaves c.requires.ready
