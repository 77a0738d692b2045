use Rattle.std.proofs.Common.{◌≡◌, ◌≤◌, take}
use Rattle.txg_engine.specs.Ending.{GivesBack, pins_after}
use Rattle.txg_engine.specs.Items.{places_of}
use Rattle.txg_engine.proofs.burn.give_back.Given as goal

abbrev pub invariant-loop-item : goal.invariant-loop-item
invariant-loop-item l = record {
  back : GivesBack l.begun (places_of (take l.item-index l.items)) l.fn.map l.map;
  pins : l.pins.places ≡ pins_after l.begun (places_of (take l.item-index l.items)) l.fn.pins.places;
  room : l.fn.pins.room ≤ l.pins.room;
}
