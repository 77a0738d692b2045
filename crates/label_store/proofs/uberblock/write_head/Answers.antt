use Rattle.std.proofs.Common.{◌≡◌, take, subst, arith}
use Rattle.label_store.specs.Uberblock.{uberblock_head}
use Rattle.label_store.proofs.Pieces.{put_first, put_next}
use Rattle.label_store.proofs.uberblock.write_head.Goals as goal

pub returns : goal.returns
returns c =
    let e : c.put_zeros.result ≡ 4064 = omega arith in
    subst (λ n. take n c.put_zeros.new.out ≡ uberblock_head c.args.u.now) e
    (put_next _ _ _ _ _ _ _
    (put_next _ _ _ _ _ _ _
    (put_next _ _ _ _ _ _ _
    (put_next _ _ _ _ _ _ _
    (put_next _ _ _ _ _ _ _
    (put_next _ _ _ _ _ _ _
    (put_next _ _ _ _ _ _ _
    (put_first _ _ 8 _ c.put_number-at.ensures.front c.put_number-at.ensures.end)
    c.put_number-at-2.ensures.front c.put_number-at-2.ensures.end)
    c.put_number-at-3.ensures.front c.put_number-at-3.ensures.end)
    c.put_number-at-4.ensures.front c.put_number-at-4.ensures.end)
    c.put_number-at-5.ensures.front c.put_number-at-5.ensures.end)
    c.put_number-at-6.ensures.front c.put_number-at-6.ensures.end)
    c.put-at.ensures.front c.put-at.ensures.end)
    c.put_zeros.ensures.front c.put_zeros.ensures.end)
