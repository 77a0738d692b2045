use Rattle.std.proofs.Common.{sym, subst, ◌∙◌}
use Rattle.block_map.specs.Map.{PointerIs}
use Rattle.txg_engine.proofs.Adopted.{lays_new, lays_over}
use Rattle.txg_engine.proofs.adopt.lay.Goals as goal
use Rattle.txg_engine.proofs.adopt.lay.Goals.{in-Some, in_default}

pub returns : goal.returns
returns c =
    let item = c.args.item.now in
    let old = c.args.map.now in
    let mid = c.match-get.map in
    let new = c.set.new.self in
    elim c.match-get.branch [
      | in-Some w ↦ lays_over item w.in-Some.old old mid new (sym c.get.ensures.pointer ∙ w.in-Some.is)
          (rw w.map-is w.give_place.ensures) c.set.ensures
      | in_default w ↦ lays_new item old new (sym c.get.ensures.pointer ∙ w.in_default.is)
          (subst (λ map. PointerIs map new item.key item.pointer) w.map-is c.set.ensures)
    ]
