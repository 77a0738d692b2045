use Rattle.std.proofs.Common.{◌≡◌, ◌++◌, ◌∙◌, arith, ap, sym, refl, drop, []}
use Rattle.std.proofs.lemmas.List.{drop_all, append-nil}
use Rattle.block_map.specs.Dirty.{pages_from, pages_above}
use Rattle.block_map.proofs.DirtyPages.{one_address, none_from, room_left}
use Rattle.block_map.proofs.dirty.pages_above.Goals as goal

pub loop-addr-init : goal.loop-addr-init
unfolding pages_above
loop-addr-init c = (refl, (c.requires.room, omega arith))

pub loop-addr-preserved : goal.loop-addr-preserved
loop-addr-preserved c = (
  one_address c.args.level c.loop-addr.next c.args.addrs.now c.loop-addr.addr-index _ c.push_from-next.result c.loop-addr.out.items c.push_from-next.new.out.items _
      c.loop-addr-test.true refl c.loop-addr.invariant.0 (rw c.page_above.ensures.page at c.push_from-next.ensures.next) (rw c.page_above.ensures.page at c.push_from-next.ensures.pages),
  (
    room_left c.args.level c.loop-addr.next c.args.addrs.now c.loop-addr.addr-index _ c.loop-addr.out.items c.push_from-next.new.out.items _ _
        c.loop-addr-test.true (rw c.page_above.ensures.page at c.push_from-next.ensures.pages) c.push_from-next.ensures.room c.loop-addr.invariant.1.0,
    omega (arith, c.loop-addr.invariant.1.1, c.push_from-next.ensures.room),
  ),
)

pub returns-clause-pages : goal.returns-clause-pages
returns-clause-pages c =
    let none : pages_from c.args.level c.loop-addr.next (drop c.loop-addr.addr-index c.args.addrs.now) ≡ [] =
    ap (pages_from c.args.level c.loop-addr.next) (drop_all c.loop-addr.addr-index c.args.addrs.now (omega arith)) ∙ none_from c.args.level c.loop-addr.next in
    sym (append-nil c.loop-addr.out.items) ∙ ap (λ l. c.loop-addr.out.items ++ l) (sym none) ∙ c.loop-addr.invariant.0
