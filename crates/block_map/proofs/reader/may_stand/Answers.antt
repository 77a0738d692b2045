use Rattle.std.proofs.Common.{◌<◌, arith, sym, ◌∙◌, length}
use Rattle.std.proofs.lemmas.List.{get_or_default}
use Rattle.block_map.specs.Pointers.{hole}
use Rattle.block_map.proofs.ReadPages.{page_fits, hole_may_stand, pointer_may_stand}
use Rattle.block_map.proofs.reader.may_stand.Goals as goal

pub returns-then-is_hole-clause-yes : goal.returns-then-is_hole-clause-yes
returns-then-is_hole-clause-yes c = λ is.
    let lt : c.args.j < length c.args.pointers.now = omega arith in
    hole_may_stand c.args.map.now c.args.number.0 c.args.page c.args.pointers.now c.args.j
    (rw (get_or_default c.args.pointers.now c.args.j _ hole lt) at c.is_blank.ensures.yes is)

pub child-key-requires-clause-page : goal.child-key-requires-clause-page
child-key-requires-clause-page c = page_fits c.args.map.now.blocks c.args.page c.requires.volume c.requires.page

pub returns-then-is_free-clause-yes : goal.returns-then-is_free-clause-yes
returns-then-is_free-clause-yes c = λ named.
    let lt : c.args.j < length c.args.pointers.now = omega arith in
    pointer_may_stand c.args.map.now c.args.number.0 c.args.page c.args.pointers.now c.args.j
    (rw (get_or_default c.args.pointers.now c.args.j _ hole lt) at (sym c.is_hole.ensures ∙ c.if-is_hole.false))
    (rw (get_or_default c.args.pointers.now c.args.j _ hole lt) at c.if-pointer-number.false)
    (record { level = omega (arith, c.requires.page.key.level); index = rw (c.keys_at.ensures, c.blocks-2.ensures.blocks, c.child-key.ensures) at c.if-key-keys_at.false })
    (rw (get_or_default c.args.pointers.now c.args.j _ hole lt) at (sym c.is_free.ensures ∙ c.if-is_free.true))
    (c.is_named_first.ensures.yes named)
