use Rattle.std.proofs.Common.{◌≡◌, ◌<◌, ◌+◌, length, ap, sym, ◌∙◌, subst, arith}
use Rattle.block_map.specs.Dirty.{dirty_pages}
use Rattle.pool_moves.specs.Refusing.{keys_needed}
use Rattle.open_pool.specs.Parts.{PoolParts}
use Rattle.open_pool.specs.Space.{written_too}
use Rattle.open_pool.proofs.FewKeys.{few_pages}
use Rattle.open_pool.proofs.NeedCounted.{few_writes, need_is}
use Rattle.open_pool.proofs.pool.Pool.need_with.Goals as goal

pub dirty_pages-requires : goal.dirty_pages-requires
dirty_pages-requires c =
    let most = few_writes _ c.self.invariant.0 c.keeps_its_form.ensures.rise in
    let few = c.in_ok-addrs.ensures.few in
    let same = ap length c.deref.ensures.value in
    omega arith

pub overflow_add-result : goal.overflow_add-result
overflow_add-result c =
    let most = few_writes _ c.self.invariant.0 c.keeps_its_form.ensures.rise in
    let few = c.in_ok-addrs.ensures.few in
    let same = ap length c.deref.ensures.value in
    let pages = few_pages c.deref.result.now in
    omega arith

pub returns : goal.returns
returns c =
    let addrs = c.in_ok-addrs.addrs.items in
    let low = subst (λ (p : PoolParts). c.args.addr < p.map.blocks) (sym c.self.view_is) c.requires in
    let need = need_is _ c.self.invariant.0 c.keeps_its_form.ensures.rise c.args.addr addrs low
    c.in_ok-addrs.ensures.rise c.in_ok-addrs.ensures.are in
    let pages : c.dirty_pages.result ≡ dirty_pages addrs = c.dirty_pages.ensures ∙ ap dirty_pages c.deref.ensures.value in
    let many : c.len.result ≡ length addrs =
    c.len.ensures ∙ sym c.deref.ensures.len ∙ ap length c.deref.ensures.value in
    let sum : c.len.result + c.dirty_pages.result ≡ length addrs + dirty_pages addrs = omega (arith, pages, many) in
    subst (λ (p : PoolParts). c.len.result + c.dirty_pages.result
    ≡ keys_needed p.map.blocks (written_too c.args.addr p.unfrozen.writes)) c.self.view_is (sum ∙ need)
