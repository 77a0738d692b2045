use Rattle.std.proofs.Common.{◌≡◌, ◌+◌, [], ◌∷◌, ◌++◌, take, ap, sym, ◌∙◌, arith}
use Rattle.std.proofs.lemmas.List.{map_more}
use Rattle.txg_engine.specs.Ending.{pins_after}
use Rattle.txg_engine.specs.Items.{place_of, places_of}
use Rattle.txg_engine.specs.declared.item.Item.{Item}
use Rattle.txg_engine.proofs.GivenBack.{gives_more, pins_more}
use Rattle.txg_engine.proofs.burn.give_back.Goals as goal

pub loop-item-preserved : goal.loop-item-preserved
loop-item-preserved c =
    let items = c.args.items.now in
    let i = c.loop-item.item-index in
    let item = c.item-item.result in
    let begun = c.args.begun in
    let places = places_of (take i items) in
    let place = item.pointer.place in
    let more : places_of (take (i + 1) items) ≡ places ++ place ∷ [] =
    map_more place_of items i item (omega arith) ∙ ap (λ (x : Item). places ++ place_of x ∷ []) (sym c.item-item.is) in
    let now = c.loop-item.invariant in
    record {
      back = rw more (gives_more begun places place c.args.map.now c.loop-item.map c.give_one.new.map
          now.back c.give_one.ensures.place);
      pins = rw more (c.give_one.ensures.pins ∙ ap (pins_after begun (place ∷ [])) now.pins
          ∙ pins_more begun places c.args.pins.now.places place);
      room = omega (arith, c.give_one.ensures.room);
    }
