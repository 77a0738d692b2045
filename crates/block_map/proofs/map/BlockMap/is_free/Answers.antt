use Rattle.std.proofs.Common.{◌≡◌, ◌∙◌, sym, ap, true, false}
use Rattle.block_map.specs.Places.{is_place}
use Rattle.block_map.specs.Bits.{holds}
use Rattle.block_map.proofs.PlacesChanged.{not_free, is_free_at}
use Rattle.block_map.proofs.PlaceNumbers.{place_of}
use Rattle.block_map.proofs.map.BlockMap.is_free.Goals as goal

pub returns-then-not-is_place : goal.returns-then-not-is_place
returns-then-not-is_place c =
    let out : is_place c.self.inside.sectors.items c.args.place ≡ false =
    ap (λ s. is_place s c.args.place) (sym c.deref.ensures.value) ∙ sym c.is_place.ensures ∙ c.if-not-is_place.true in
    rw (← c.self.view_is) (sym (not_free (record { blocks = c.self.inside.blocks; sectors = c.self.inside.sectors.items; pointers = c.self.inside.pointers.items; free = c.self.inside.free; pinned = c.self.inside.pinned; count = c.self.inside.opened.count }) c.args.place out))

pub number-requires : goal.number-requires
number-requires c =
    let is : is_place c.self.inside.sectors.items c.args.place ≡ true =
    ap (λ s. is_place s c.args.place) (sym c.deref.ensures.value) ∙ sym c.is_place.ensures ∙ c.if-not-is_place.false in
    rw (← c.self.view_is) (place_of c.self.inside.sectors.items c.args.place is)

pub returns : goal.returns
returns c =
    let is : is_place c.self.inside.sectors.items c.args.place ≡ true =
    ap (λ s. is_place s c.args.place) (sym c.deref.ensures.value) ∙ sym c.is_place.ensures ∙ c.if-not-is_place.false in
    let number = rw (← c.self.view_is) at c.number.ensures.value in
    rw (← c.self.view_is)
    (c.contains.ensures ∙ ap (holds c.self.inside.free) number
    ∙ sym (is_free_at (record { blocks = c.self.inside.blocks; sectors = c.self.inside.sectors.items; pointers = c.self.inside.pointers.items; free = c.self.inside.free; pinned = c.self.inside.pinned; count = c.self.inside.opened.count }) c.args.place (place_of c.self.inside.sectors.items c.args.place is)))
