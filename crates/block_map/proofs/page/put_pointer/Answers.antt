use Rattle.std.proofs.Common.{arith, ◌≡◌, ◌∙◌, ◌++◌, ◌+◌, take, refl, subst}
use Rattle.block_map.specs.Pages.{pointer_bytes}
use Rattle.block_map.proofs.PageBytes.{put_next, pointer_put}
use Rattle.block_map.proofs.page.put_pointer.Goals as goal

pub returns-clause-front : goal.returns-clause-front
returns-clause-front c =
    let end : c.put.result ≡ c.args.at + 52 = omega arith in
    let p = c.args.pointer.now in
    subst (λ n. take n c.put.new.out ≡ take c.args.at c.args.out.now ++ pointer_bytes c.args.pointer.now) end
    (put_next _ _ _ _ _ _ _
    (put_next _ _ _ _ _ _ _
    (put_next _ _ _ _ _ _ _
    (put_next _ _ _ _ _ _ _ refl c.put_long-at.ensures.front c.put_long-at.ensures.end)
    c.put_short-at.ensures.front c.put_short-at.ensures.end)
    c.put_long-at-2.ensures.front c.put_long-at-2.ensures.end)
    c.put.ensures.front c.put.ensures.end
    ∙ pointer_put (take c.args.at c.args.out.now) c.args.pointer.now)
