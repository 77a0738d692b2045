use Rattle.std.proofs.Common.{[], ◌∷◌, sym, subst}
use Rattle.txg_engine.specs.Ending.{GivesBack}
use Rattle.txg_engine.proofs.GivenBack.{gives_pinned}
use Rattle.txg_engine.proofs.burn.give_one.Goals as goal

pub returns-clause-place : goal.returns-clause-place
returns-clause-place c =
    subst (λ begun. GivesBack begun (c.args.place ∷ []) c.args.map.now c.pin.new.self) (sym c.if-not-begun.false)
    (gives_pinned c.args.place c.args.map.now c.give_place.new.self c.pin.new.self c.give_place.ensures c.pin.ensures)
