use mathlib.Core.Path.{fun_ext}
use Rattle.std.proofs.Common.{Vec, Global, length-append, ◌≡◌, ℕ, ◌+◌, ◌++◌, ◌∷◌, [], List, All, true, get_or, ap, sym}
use Rattle.std.proofs.Common.{subst, ◌∙◌, arith, append_assoc, length, take}
use Rattle.std.specs.Option.{option_to_list}
use Rattle.std.specs.Prelude.{AllPairs}
use Rattle.std.proofs.lemmas.List.{take_more, get_or_default}
use Rattle.std.proofs.lemmas.List.Elements.{All-pop}
use Rattle.mp_base.specs.declared.place.Pointer.{Pointer}
use Rattle.txg_engine.specs.declared.item.Item.{Item}
use Rattle.mp_base.specs.declared.place.Key.{Key}
use Rattle.block_map.specs.Keys.{IsBefore}
use Rattle.block_map.specs.Map.{pointer_at, children}
use Rattle.block_map.specs.Pages.{page_bytes}
use Rattle.txg_engine.specs.Items.{keys_of, laid, is_up_to_page}
use Rattle.txg_engine.proofs.FreezesFit.{long_more}
use Rattle.txg_engine.proofs.PagesFilled.{front_rises, pages_follow, passed_next, still_passed}
use Rattle.txg_engine.proofs.Settling.{settled_next, keys_next, page_next, length_next, one_place_less}
use Rattle.txg_engine.proofs.settle.settle_pages.Goals as goal

pub loop-page-preserved : goal.loop-page-preserved
loop-page-preserved g c =
    let no_key : Key = record { level = 0; index = 0 } in
    let page = get_or c.args.pages.now c.loop-page.page-index no_key in
    let next = c.settle.ensures.next in
    let less = one_place_less next in
    let is_page = c.requires.0 c.loop-page.page-index no_key c.loop-page-test.true in
    let popped = c.pop.ensures.items ∙ ap (λ o. c.pop.new.self.items ++ option_to_list o) c.unwrap-bytes.ensures in
    record {
      within = omega (arith, c.page_block-block.ensures.within, ap length c.deref.ensures.value, length_next next);
      before = λ d inside.
          let at = c.loop-page.page-index in
          let here : page ≡ get_or c.args.pages.now at d = get_or_default c.args.pages.now at no_key d c.loop-page-test.true in
          let follows : IsBefore page (get_or c.args.pages.now (at + 1) d) =
          subst (λ k. IsBefore k (get_or c.args.pages.now (at + 1) d)) (sym here)
          (pages_follow (keys_of c.args.items.now.items) c.args.pages.now at d c.requires.1.0 inside) in
          passed_next page (get_or c.args.pages.now (at + 1) d) (take c.page_block-block.new.passed c.settle.new.items.items) is_page.level follows
          (still_passed (λ (item : Item). is_up_to_page page item.key ≡ true) c.loop-page.items.items c.settle.new.items.items next.item
          c.page_block-block.new.passed next.more (omega (arith, c.page_block-block.ensures.within, ap length c.deref.ensures.value))
          (subst (λ (l : List Item). All (λ item. is_up_to_page page item.key ≡ true) (take c.page_block-block.new.passed l))
          c.deref.ensures.value c.page_block-block.ensures.passed));
      settled = settled_next c.loop-page.invariant.settled (λ level. c.page_block-block.ensures.page
          ∙ ap (λ (l : List Item). page_bytes (children (laid l (pointer_at c.loop-page.map)) page)) c.deref.ensures.value
          ∙ ap (λ (f : Key → Pointer). page_bytes (children (laid c.loop-page.items.items f) page)) (fun_ext c.loop-page.invariant.settled.takes.keys)) next;
      keys =
          keys_next next ∙ ap (λ l. l ++ page ∷ []) c.loop-page.invariant.keys
          ∙ append_assoc (keys_of c.args.items.now.items) (take c.loop-page.page-index c.args.pages.now) (page ∷ [])
          ∙ ap (λ l. keys_of c.args.items.now.items ++ l) (sym (take_more c.args.pages.now c.loop-page.page-index no_key c.loop-page-test.true));
      blocks = λ a. page_next a is_page.level next ∙ c.loop-page.invariant.blocks a;
      long = long_more c.loop-page.items.items c.settle.new.items.items next.item c.page_block-block.result next.more next.block_is
          c.page_block-block.ensures.long c.loop-page.invariant.long;
      places = omega (arith, less, c.loop-page.invariant.places);
      room = omega (arith, length_next next, c.loop-page.invariant.room, c.settle.ensures.room);
      buffers = omega (arith, c.loop-page.invariant.buffers, ap length popped, length-append c.pop.new.self.items (c.unwrap-bytes.result ∷ []));
      sizes = (All-pop (λ (buffer : Vec ℕ Global). length buffer.items ≡ 4096) c.loop-page.buffers.items c.pop.new.self.items
          c.pop.result c.pop.ensures.items c.loop-page.invariant.sizes).0;
    }

pub page_block-block-requires-clause-rise : goal.page_block-block-requires-clause-rise
page_block-block-requires-clause-rise g c =
    let first = keys_of c.args.items.now.items in
    subst (λ (l : List Item). AllPairs IsBefore (keys_of l)) (sym c.deref.ensures.value)
    (subst (AllPairs IsBefore) (sym c.loop-page.invariant.keys)
    (front_rises first c.args.pages.now c.loop-page.page-index c.requires.1.0))
