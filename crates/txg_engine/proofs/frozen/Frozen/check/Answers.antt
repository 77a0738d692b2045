use Rattle.std.proofs.Common.{◌≡◌, true, OnErr, length, sym, subst}
use Rattle.std.specs.Prelude.{is_some}
use Rattle.std.proofs.lemmas.List.{length-map}
use Rattle.vdev_tree.specs.Tree.{guid_of}
use Rattle.vdev_tree.specs.declared.top.Top.{Top}
use Rattle.txg_engine.specs.Boards.{emptied}
use Rattle.txg_engine.specs.Frozen.{FrozenGroup}
use Rattle.txg_engine.specs.Turns.{is_suspended, numbers_of}
use Rattle.txg_engine.proofs.TurnEnds.{told_suspended}
use Rattle.txg_engine.proofs.frozen.Frozen.check.Goals as goal

pub returns-clause-suspended : goal.returns-clause-suspended
returns-clause-suspended c =
    let tops = c.args.tops.now in
    let seats = c.self.inside.board in
    let same : length (numbers_of tops) ≡ length tops = length-map tops (λ (top : Top). guid_of top.mirror) in
    subst (λ (group : FrozenGroup). OnErr c.check.result (is_suspended (numbers_of tops) group ≡ true)) c.self.view_is
    (subst (λ n. OnErr c.check.result (is_some (emptied n seats) ≡ true)) (sym same)
    (told_suspended (numbers_of tops) c.self.inside.numbers.first seats (emptied (length tops) seats) c.check.result c.check.ensures))
