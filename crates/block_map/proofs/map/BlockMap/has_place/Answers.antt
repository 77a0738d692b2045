use Rattle.std.proofs.Common.{◌∙◌, sym, ap}
use Rattle.block_map.specs.Places.{is_place}
use Rattle.block_map.proofs.PlaceNumbers.{place_of, is_place_of}
use Rattle.block_map.proofs.map.BlockMap.has_place.Goals as goal

pub returns-clause-yes : goal.returns-clause-yes
returns-clause-yes c = λ is. rw (← c.self.view_is)
    (place_of c.self.inside.sectors.items c.args.place (ap (λ s. is_place s c.args.place) (sym c.deref.ensures.value) ∙ sym c.is_place.ensures ∙ is))

pub returns-clause-no : goal.returns-clause-no
returns-clause-no c = rw (← c.self.view_is)
    (λ p. c.is_place.ensures ∙ ap (λ s. is_place s c.args.place) c.deref.ensures.value ∙ is_place_of c.self.inside.sectors.items c.args.place p)
