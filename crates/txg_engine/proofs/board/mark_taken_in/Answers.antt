use Rattle.std.proofs.Common.{◌<◌, length, set, ap, ◌∙◌, arith}
use Rattle.std.proofs.lemmas.List.Edits.{map_over_more}
use Rattle.txg_engine.specs.Boards.{as_taken}
use Rattle.txg_engine.proofs.board.mark_taken_in.Goals as goal

pub loop-i-preserved : goal.loop-i-preserved
loop-i-preserved c =
    let inside : c.loop-i.i < length c.args.seats.now.items = omega arith in
    ap (λ y. set c.loop-i.seats.items c.loop-i.i y) c.as_taken.ensures
    ∙ map_over_more (as_taken c.args.member) c.args.seats.now.items c.loop-i.seats.items c.loop-i.i c.index.result.now inside c.loop-i.invariant c.index.ensures
