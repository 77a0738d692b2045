use Rattle.std.proofs.Common.{◌≡◌, ◌+◌, ◌-◌, suc, ◌++◌, length, map, ap, ◌∙◌, arith}
use Rattle.std.proofs.lemmas.List.{take_all}
use Rattle.block_map.specs.Dirty.{pages_above}
use Rattle.txg_engine.specs.Freezing.{addr_of, page_keys}
use Rattle.txg_engine.specs.Writes.{OpenGroup}
use Rattle.txg_engine.proofs.FewPages.{pages_to, pages_fit, pages_all}
use Rattle.txg_engine.proofs.prepare.dirty_pages.Goals as goal

pub pages_above-requires-clause-room : goal.pages_above-requires-clause-room
pages_above-requires-clause-room c =
    let addrs = c.loop-write.addrs.items in
    omega (
      arith,
      ap length c.loop-level.invariant.pages,
      ap length c.deref.ensures.value,
      pages_fit (c.loop-level.level - 1) addrs (omega arith),
      c.loop-level.invariant.room,
    )

pub loop-level-preserved : goal.loop-level-preserved
loop-level-preserved c =
    let addrs = c.loop-write.addrs.items in
    let level = c.loop-level.level in
    let here : level ≡ suc (level - 1) = omega arith in
    let next : suc (level - 1) ≡ level + 1 - 1 = omega arith in
    record {
      pages = c.pages_above.ensures.pages
          ∙ ap (λ l. c.loop-level.pages.items ++ pages_above level l) c.deref.ensures.value
          ∙ ap (λ n. c.loop-level.pages.items ++ pages_above n addrs) here
          ∙ ap (λ l. l ++ pages_above (suc (level - 1)) addrs) c.loop-level.invariant.pages
          ∙ ap (λ n. pages_to n addrs) next;
      room = omega (arith, c.loop-level.invariant.room, c.pages_above.ensures.room);
    }

pub returns : goal.returns
returns c =
    let addrs = c.loop-write.addrs.items in
    let writes = c.args.group.now.writes in
    let level = c.loop-level.level in
    let last : level - 1 ≡ 3 = omega arith in
    c.loop-level.invariant.pages ∙ ap (λ n. pages_to n addrs) last ∙ pages_all addrs
    ∙ ap page_keys (c.loop-write.invariant ∙ ap (map addr_of)
    (take_all c.loop-write.write-index writes
    (omega (
      arith,
      ap length c.deref-write-items.ensures.value,
      ap
          (λ (g : OpenGroup). length g.writes) c.group.view_is,
    ))))
