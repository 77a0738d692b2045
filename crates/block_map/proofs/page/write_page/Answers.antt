use Rattle.std.proofs.Common.{arith, ◌≡◌, ◌∙◌, ap, ◌++◌, ◌+◌}
use Rattle.std.specs.List.{flat_map}
use Rattle.std.proofs.lemmas.List.{take_all}
use Rattle.mp_base.specs.Block.{zeros}
use Rattle.block_map.specs.Pages.{pointer_bytes}
use Rattle.block_map.proofs.PageBytes.{one_more, page_put}
use Rattle.block_map.proofs.page.write_page.Goals as goal

pub put_pointer-at-requires : goal.put_pointer-at-requires
put_pointer-at-requires c = omega (arith, c.loop-pointer.invariant.0, c.loop-pointer.invariant.1.1)

pub loop-pointer-preserved : goal.loop-pointer-preserved
loop-pointer-preserved c =
    let is = c.loop-pointer.invariant in (
      omega (arith, is.0, c.put_pointer-at.ensures.end),
      (
        rw c.put_pointer-at.ensures.end (c.put_pointer-at.ensures.front ∙ one_more c.args.pointers.now c.loop-pointer.pointer-index _ _ c.loop-pointer-test.true is.1.0),
        c.put_pointer-at.auto.out ∙ is.1.1,
      ),
    )

pub returns : goal.returns
returns c =
    let is = c.loop-pointer.invariant in
    let all : c.loop-pointer.pointer-index ≡ 64 = omega (arith, c.loop-pointer-test.false) in
    page_put c.args.pointers.now c.put_zeros.new.out (c.loop-pointer.at + 768) (omega (arith, is.0)) (c.put_zeros.auto.out ∙ is.1.1)
    (c.put_zeros.ensures.front ∙ ap (λ l. l ++ zeros 768) (is.1.0 ∙ ap (flat_map pointer_bytes) (take_all c.loop-pointer.pointer-index c.args.pointers.now (omega arith))))
