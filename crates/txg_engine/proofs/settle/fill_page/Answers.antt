use Rattle.std.proofs.Common.{◌≡◌, ◌<◌, List, take, true, length, get_or, ap, sym, subst, ◌∙◌, arith}
use Rattle.std.proofs.lemmas.List.{take_more}
use Rattle.std.proofs.lemmas.List.Elements.{All-more}
use Rattle.std.proofs.lemmas.Option.{get_or_from_slice_get, slice_get_within}
use Rattle.block_map.specs.Map.{pointer_at, children}
use Rattle.block_map.specs.Pages.{page_bytes}
use Rattle.txg_engine.specs.declared.item.Item.{Item}
use Rattle.txg_engine.specs.Items.{laid, put, is_up_to_page}
use Rattle.txg_engine.proofs.Pages.{laid_snoc}
use Rattle.txg_engine.proofs.PagesFilled.{before_laid, passed_so_far, all_laid, items_rise}
use Rattle.txg_engine.proofs.settle.fill_page.Goals as goal

pub loop-item-init : goal.loop-item-init
loop-item-init c =
    let items = take c.args.passed.now c.args.items.now in
    record {
      children = c.copy_from_slice.ensures.after ∙ c.children.ensures.pointers
          ∙ before_laid c.args.page items (pointer_at c.args.map.now) c.requires.before;
      passed = passed_so_far c.args.page items c.requires.before;
      within = c.requires.within;
    }

pub loop-item-preserved : goal.loop-item-preserved
loop-item-preserved c =
    let items = c.args.items.now in
    let i = c.loop-item.passed in
    let item = c.in-Some.item.now in
    let at = pointer_at c.args.map.now in
    let inside : i < length items = slice_get_within items i item c.in-Some.ensures.0 in
    let here : get_or items i item ≡ item = get_or_from_slice_get items i item item c.in-Some.ensures.0 in
    record {
      children = c.put_child.ensures (laid (take i items) at) c.loop-item.invariant.children
          ∙ ap (λ f. children f c.args.page)
          (ap (λ (x : Item). put x (laid (take i items) at)) (sym here)
          ∙ sym (ap (λ (l : List Item). laid l at) (take_more items i item inside) ∙ laid_snoc (take i items) (get_or items i item) at));
      passed = All-more (λ (x : Item). is_up_to_page c.args.page x.key ≡ true) items i item inside c.loop-item.invariant.passed
          (subst (λ (x : Item). is_up_to_page c.args.page x.key ≡ true) (sym here) c.in-Some.ensures.1);
      within = omega arith;
    }

pub returns-clause-bytes : goal.returns-clause-bytes
returns-clause-bytes c =
    let items = c.args.items.now in
    c.write_page.ensures
    ∙ ap page_bytes (c.loop-item.invariant.children
    ∙ all_laid c.args.page items c.loop-item.passed (pointer_at c.args.map.now) (items_rise items c.requires.rise) c.in_default.ensures)
