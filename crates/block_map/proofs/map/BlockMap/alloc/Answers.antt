use Rattle.std.proofs.Common.{◌≡◌, arith, sym, ap, ◌∙◌, false, length}
use Rattle.block_map.specs.Numbers.{place_at}
use Rattle.block_map.proofs.PlacesChanged.{number_fits, free_kept, free_is, least_is_place, least_open, taken_now, none_open}
use Rattle.block_map.proofs.PlaceNumbers.{number_of_place_at}
use Rattle.block_map.proofs.map.BlockMap.alloc.Goals as goal

pub remove-requires : goal.remove-requires
remove-requires c =
    let fits = number_fits c.self.inside.blocks c.self.inside.sectors.items c.self.inside.pointers.items c.self.inside.free c.self.inside.pinned c.self.inside.opened c.self.invariant _
    (least_is_place c.self.inside.blocks c.self.inside.sectors.items c.self.inside.pointers.items c.self.inside.free c.self.inside.pinned c.self.inside.opened c.self.invariant _ c.in_ok-at.ensures.least) in
    rw number_of_place_at at fits

pub returns-in_err-at-clause-none : goal.returns-in_err-at-clause-none
returns-in_err-at-clause-none c = rw (c.from_residual.ensures, ← c.self.view_is)
    (none_open c.self.inside.blocks c.self.inside.sectors.items c.self.inside.pointers.items c.self.inside.free c.self.inside.pinned c.self.inside.opened c.self.invariant c.in_err-at.ensures.none)

pub invariant_of-self-2 : goal.invariant_of-self-2
invariant_of-self-2 c =
    let least = c.in_ok-at.ensures.least in
    free_kept c.self.inside.blocks c.self.inside.sectors.items c.self.inside.pointers.items c.self.inside.free c.self.inside.pinned c.self.inside.opened c.self.invariant
    _ (least_is_place c.self.inside.blocks c.self.inside.sectors.items c.self.inside.pointers.items c.self.inside.free c.self.inside.pinned c.self.inside.opened c.self.invariant _ least)
    _ (sym (number_of_place_at (length c.self.inside.sectors.items) _)) c.remove.new.self c.take_least.new.self c.remove.ensures.room c.remove.ensures.others
    (taken_now c.self.inside.blocks c.self.inside.sectors.items c.self.inside.pointers.items c.self.inside.free c.self.inside.pinned c.self.inside.opened c.self.invariant _ least
    c.remove.new.self c.take_least.new.self c.remove.ensures.gone c.in_ok-at.ensures.less)

pub returns-clause-least : goal.returns-clause-least
returns-clause-least c =
    let tops : c.len.result ≡ length c.self.inside.sectors.items = omega (arith, c.len.ensures, c.self.inside.sectors.ok.0) in
    let is : c.place_at.result ≡ place_at (length c.self.inside.sectors.items) c.in_ok-at.at = c.place_at.ensures ∙ ap (λ n. place_at n c.in_ok-at.at) tops in
    rw (is, ← c.self.view_is)
    (least_open c.self.inside.blocks c.self.inside.sectors.items c.self.inside.pointers.items c.self.inside.free c.self.inside.pinned c.self.inside.opened c.self.invariant _ c.in_ok-at.ensures.least)

pub returns-clause-taken : goal.returns-clause-taken
returns-clause-taken c =
    let least = c.in_ok-at.ensures.least in
    let tops : c.len.result ≡ length c.self.inside.sectors.items = omega (arith, c.len.ensures, c.self.inside.sectors.ok.0) in
    let is : c.place_at.result ≡ place_at (length c.self.inside.sectors.items) c.in_ok-at.at = c.place_at.ensures ∙ ap (λ n. place_at n c.in_ok-at.at) tops in
    rw (is, ← c.self.view_is)
    (free_is c.self.inside.blocks c.self.inside.sectors.items c.self.inside.pointers.items c.self.inside.free c.self.inside.pinned c.self.inside.opened c.self.invariant
    _ (least_is_place c.self.inside.blocks c.self.inside.sectors.items c.self.inside.pointers.items c.self.inside.free c.self.inside.pinned c.self.inside.opened c.self.invariant _ least)
    _ (sym (number_of_place_at (length c.self.inside.sectors.items) _)) false c.remove.new.self c.take_least.new.self c.remove.ensures.room c.remove.ensures.others
    (taken_now c.self.inside.blocks c.self.inside.sectors.items c.self.inside.pointers.items c.self.inside.free c.self.inside.pinned c.self.inside.opened c.self.invariant _ least
    c.remove.new.self c.take_least.new.self c.remove.ensures.gone c.in_ok-at.ensures.less)
    c.remove.ensures.gone)
