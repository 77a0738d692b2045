use Rattle.std.proofs.Common.{◌∙◌, ap, replicate}
use Rattle.block_map.specs.Pointers.{hole}
use Rattle.block_map.proofs.NewMaps.{new_kept, new_empty}
use Rattle.block_map.proofs.map.BlockMap.new.Goals as goal

pub invariant_of-result : goal.invariant_of-result
invariant_of-result c = rw c.in_ok-sectors.ensures.items
    (new_kept c.args.blocks c.args.sectors.now c.in_ok-pointers.pointers.items c.free_all.new.free c.in_ok-pinned.pinned c.free_all.new.opened
    c.requires.blocks c.requires.tops (c.in_ok-pointers.ensures.items_if_clones_equal (λ y e. e) ∙ ap (λ n. replicate n hole) c.slots.ensures.value) c.places-room.result c.places-room.ensures.room
    (c.free_all.ensures.size ∙ c.in_ok-free.ensures.size) c.in_ok-pinned.ensures.size (c.free_all.ensures.opened_size ∙ c.in_ok-opened.ensures.room)
    c.free_all.ensures.free c.free_all.ensures.opened c.in_ok-pinned.ensures.none)

pub returns : goal.returns
returns c = rw c.in_ok-sectors.ensures.items
    (new_empty c.args.blocks c.args.sectors.now c.in_ok-pointers.pointers.items c.free_all.new.free c.in_ok-pinned.pinned c.free_all.new.opened
    c.requires.blocks c.requires.tops (c.in_ok-pointers.ensures.items_if_clones_equal (λ y e. e) ∙ ap (λ n. replicate n hole) c.slots.ensures.value) c.places-room.result c.places-room.ensures.room
    (c.free_all.ensures.size ∙ c.in_ok-free.ensures.size) c.in_ok-pinned.ensures.size (c.free_all.ensures.opened_size ∙ c.in_ok-opened.ensures.room)
    c.free_all.ensures.free c.free_all.ensures.opened c.in_ok-pinned.ensures.none)
