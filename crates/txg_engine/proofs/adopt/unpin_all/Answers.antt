use Rattle.std.proofs.Common.{take, get_or}
use Rattle.std.proofs.lemmas.List.{take_more}
use Rattle.mp_base.specs.declared.place.Place.{Place}
use Rattle.txg_engine.proofs.Unpinned.{unpins_more}
use Rattle.txg_engine.proofs.adopt.unpin_all.Goals as goal

pub loop-place-preserved : goal.loop-place-preserved
loop-place-preserved c =
    let places = c.args.places.now in
    let i = c.loop-place.place-index in
    let d : Place = record { top = 0; sector = 0 } in
    rw (take_more places i d c.loop-place-test.true)
    (unpins_more (take i places) (get_or places i d) c.args.map.now c.loop-place.map c.unpin.new.self
    c.loop-place.invariant c.unpin.ensures)
