use Rattle.std.proofs.Common.{◌≤◌, ◌++◌, length, ap, sym, subst, ◌∙◌, append-nil}
use Rattle.std.specs.List.{filter_map}
use Rattle.std.proofs.lemmas.List.{drop_all}
use Rattle.vdev_tree.specs.Tree.{leaves}
use Rattle.vdev_tree.specs.declared.top.Top.{Top}
use Rattle.txg_engine.specs.Boards.{seat_of, seats_of}
use Rattle.txg_engine.proofs.Seating.{few_leaves, seats_more, few_seats}
use Rattle.txg_engine.proofs.board.Board.over.Goals as goal

pub seat_all-requires : goal.seat_all-requires
seat_all-requires c =
    subst (λ (top : Top). length (leaves top.mirror) ≤ 32) (sym c.index-tops-i.is)
    (few_leaves c.args.tops.now c.loop-i.i c.index-tops-i.result c.loop-i-test.true c.requires.few)

pub loop-i-preserved : goal.loop-i-preserved
loop-i-preserved c =
    seats_more c.args.tops.now c.loop-i.i c.index-tops-i.result c.loop-i.seats.items c.seat_all.new.seats.items (seats_of 0 c.args.tops.now) c.loop-i-test.true
    c.loop-i.invariant
    (c.in_ok-seat_all.ensures ∙ ap (λ (top : Top). c.loop-i.seats.items ++ filter_map (seat_of c.loop-i.i) (leaves top.mirror)) c.index-tops-i.is)

pub invariant_of-result : goal.invariant_of-result
invariant_of-result c =
    few_seats c.args.tops.now c.loop-i.seats.items
    (sym (append-nil c.loop-i.seats.items) ∙ ap (λ l. c.loop-i.seats.items ++ seats_of c.loop-i.i l) (sym (drop_all c.loop-i.i c.args.tops.now c.loop-i-test.false)) ∙ c.loop-i.invariant)
    c.requires.few

pub returns : goal.returns
returns c =
    sym (append-nil c.loop-i.seats.items) ∙ ap (λ l. c.loop-i.seats.items ++ seats_of c.loop-i.i l) (sym (drop_all c.loop-i.i c.args.tops.now c.loop-i-test.false)) ∙ c.loop-i.invariant
