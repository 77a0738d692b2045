use Rattle.std.proofs.Common.{◌≡◌, ◌∙◌, arith, ap, refl, length, drop, not, eqb}
use Rattle.std.proofs.lemmas.List.{drop_all}
use Rattle.block_map.specs.Dirty.{pages_from, pages_above}
use Rattle.block_map.proofs.DirtyPages.{one_count, none_from, byte_is, byte_le}
use Rattle.block_map.proofs.dirty.count_above.Goals as goal

pub loop-addr-init : goal.loop-addr-init
unfolding pages_above
loop-addr-init c = (omega arith, omega arith)

pub loop-addr-preserved : goal.loop-addr-preserved
loop-addr-preserved c = (
  rw (c.from-count.ensures, byte_is (not (eqb c.index_behind-behind.result c.loop-addr.next)))
      (one_count c.args.level c.loop-addr.next c.args.addrs.now c.loop-addr.addr-index _ c.index_behind-behind.result c.loop-addr.count _
      c.loop-addr-test.true refl c.loop-addr.invariant.0 (rw c.page_above.ensures.page at c.index_behind-behind.ensures)),
  let one = byte_le (not (eqb c.index_behind-behind.result c.loop-addr.next)) in omega (arith, c.loop-addr.invariant.1),
)

pub returns-clause-count : goal.returns-clause-count
returns-clause-count c =
    let none : length (pages_from c.args.level c.loop-addr.next (drop c.loop-addr.addr-index c.args.addrs.now)) ≡ 0 =
    ap (λ l. length (pages_from c.args.level c.loop-addr.next l)) (drop_all c.loop-addr.addr-index c.args.addrs.now (omega arith)) ∙ ap length (none_from c.args.level c.loop-addr.next) in
    omega (arith, c.loop-addr.invariant.0)
