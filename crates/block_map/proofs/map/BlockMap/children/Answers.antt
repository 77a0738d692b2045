use Rattle.std.proofs.Common.{◌∙◌, ◌≡◌, arith, ap}
use Rattle.block_map.specs.Keys.{child}
use Rattle.block_map.specs.Numbers.{key_number}
use Rattle.block_map.proofs.KeyNumbers.{keys_le, first_is_key}
use Rattle.block_map.proofs.Children.{inside, children_are}
use Rattle.block_map.proofs.PointersFit.{pointer_in_form, children_in_form}
use Rattle.block_map.proofs.map.BlockMap.children.Goals as goal

pub first_child-requires-clause-index : goal.first_child-requires-clause-index
first_child-requires-clause-index c =
    let page = rw (← c.self.view_is) at c.requires.key in
    let most = keys_le c.self.inside.blocks c.args.page.level c.self.invariant.volume.most in
    omega (arith, page.index)

pub key_number-requires-clause-key : goal.key_number-requires-clause-key
key_number-requires-clause-key c =
    let page = rw (← c.self.view_is) at c.requires.key in
    rw c.first_child.ensures (first_is_key c.self.inside.blocks c.args.page page c.requires.level)

pub page_at-requires : goal.page_at-requires
page_at-requires c =
    let page = rw (← c.self.view_is) at c.requires.key in
    let is : c.key_number.result ≡ key_number c.self.inside.blocks (child c.args.page 0) = c.key_number.ensures.value ∙ ap (key_number c.self.inside.blocks) c.first_child.ensures in
    rw c.deref.ensures.value
    (inside (record { blocks = c.self.inside.blocks; sectors = c.self.inside.sectors.items; pointers = c.self.inside.pointers.items; free = c.self.inside.free; pinned = c.self.inside.pinned; count = c.self.inside.opened.count }) c.self.inside.opened c.self.invariant c.args.page page c.requires.level c.key_number.result is)

pub returns-clause-pointers : goal.returns-clause-pointers
returns-clause-pointers c =
    let page = rw (← c.self.view_is) at c.requires.key in
    let is : c.key_number.result ≡ key_number c.self.inside.blocks (child c.args.page 0) = c.key_number.ensures.value ∙ ap (key_number c.self.inside.blocks) c.first_child.ensures in
    rw (c.page_at.ensures, c.deref.ensures.value, ← c.self.view_is)
    (children_are (record { blocks = c.self.inside.blocks; sectors = c.self.inside.sectors.items; pointers = c.self.inside.pointers.items; free = c.self.inside.free; pinned = c.self.inside.pinned; count = c.self.inside.opened.count }) c.self.inside.opened c.self.invariant c.args.page page c.requires.level c.key_number.result is)

pub returns-clause-form : goal.returns-clause-form
returns-clause-form c =
    children_in_form _ c.args.page c.page_at.result.now
    (pointer_in_form (record { blocks = c.self.inside.blocks; sectors = c.self.inside.sectors.items; pointers = c.self.inside.pointers.items; free = c.self.inside.free; pinned = c.self.inside.pinned; count = c.self.inside.opened.count }) c.self.inside.opened c.self.invariant)
    (let page = rw (← c.self.view_is) at c.requires.key in
    let is : c.key_number.result ≡ key_number c.self.inside.blocks (child c.args.page 0) = c.key_number.ensures.value ∙ ap (key_number c.self.inside.blocks) c.first_child.ensures in
    rw (c.page_at.ensures, c.deref.ensures.value)
    (children_are (record { blocks = c.self.inside.blocks; sectors = c.self.inside.sectors.items; pointers = c.self.inside.pointers.items; free = c.self.inside.free; pinned = c.self.inside.pinned; count = c.self.inside.opened.count }) c.self.inside.opened c.self.invariant c.args.page page c.requires.level c.key_number.result is))
