use Rattle.std.proofs.Common.{◌≡◌, ℕ, ◌+◌, ◌*◌, ◌≤◌, ◌<◌, sym, subst, arith}
use Rattle.pool_moves.specs.Refusing.{keys_needed}
use Rattle.open_pool.specs.Parts.{PoolParts}
use Rattle.open_pool.specs.Space.{written_too}
use Rattle.open_pool.proofs.NeedCounted.{few_writes, need_at_most}
use Rattle.open_pool.proofs.pool.Pool.check_space.Goals as goal

pub overflow_add-len : goal.overflow_add-len
overflow_add-len c =
    let most = few_writes _ c.self.invariant.0 c.keeps_its_form.ensures.rise in
    let many = c.len.ensures in
    omega arith

pub overflow_mul-len : goal.overflow_mul-len
overflow_mul-len c =
    let most = few_writes _ c.self.invariant.0 c.keeps_its_form.ensures.rise in
    let many = c.len.ensures in
    omega arith

pub returns-then-len-free-clause-ok : goal.returns-then-len-free-clause-ok
returns-then-len-free-clause-ok c =
    let low = subst (λ (p : PoolParts). c.args.addr < p.map.blocks) (sym c.self.view_is) c.requires in
    let most = need_at_most _ c.self.invariant.0 c.keeps_its_form.ensures.rise c.args.addr low in
    subst (λ (p : PoolParts). keys_needed p.map.blocks (written_too c.args.addr p.unfrozen.writes) ≤ p.map.count)
    c.self.view_is
    (within _ _ _ _ _ most c.len.ensures c.if-len-free.true c.free_count-free.ensures.count)
  where
    within : (keys all len free count : ℕ) → keys ≤ 4 * (all + 1) → len ≡ all → 4 * (len + 1) ≤ free → free ≡ count → keys ≤ count
    within keys all len free count p q r s = omega arith
