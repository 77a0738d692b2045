use Rattle.std.proofs.Common.{◌≤◌, length, sym, ◌∙◌, refl, subst, arith}
use Rattle.vdev_tree.specs.Tree.{leaves}
use Rattle.vdev_tree.specs.declared.top.Top.{Top}
use Rattle.txg_engine.proofs.Seating.{few_leaves}
use Rattle.open_pool.proofs.CopiesOnDevices.{top_inside, sector_fits, copies_within, copies_apart, under_top}
use Rattle.open_pool.proofs.ReadingsGoOn.{page_goes_on, page_stops}
use Rattle.open_pool.proofs.pages.read_next.Goals as goal

pub copies_of-copies-requires : goal.copies_of-copies-requires
copies_of-copies-requires g c =
    subst (λ (top : Top). length (leaves top.mirror) ≤ 32) (sym c.index-tops-pointer.is)
    (few_leaves c.args.tops.now c.args.pointer.place.top c.index-tops-pointer.result
    (top_inside c.args.tops.now c.args.pointer.place c.requires.place) c.requires.few)

pub overflow_add-at : goal.overflow_add-at
overflow_add-at g c =
    let sector = sector_fits c.args.tops.now c.args.pointer.place c.requires.tops c.requires.place in omega (arith, sector)

pub read_good-requires-clause-within : goal.read_good-requires-clause-within
read_good-requires-clause-within g c =
    copies_within (g.B.Bank.view c.args.bank.now).size c.args.tops.now c.args.pointer.place c.index-tops-pointer.result c.args.pointer.birth.0
    c.as_slice-copies.result.now c.requires.place c.index-tops-pointer.is (c.as_slice-copies.ensures.copies ∙ c.copies_of-copies.ensures.copies) c.requires.here

pub read_good-requires-clause-apart : goal.read_good-requires-clause-apart
read_good-requires-clause-apart g c =
    copies_apart c.args.tops.now c.args.pointer.place c.index-tops-pointer.result c.args.pointer.birth.0 c.as_slice-copies.result.now c.requires.place
    c.index-tops-pointer.is (c.as_slice-copies.ensures.copies ∙ c.copies_of-copies.ensures.copies) c.requires.apart

pub returns-then-is_err-clause-on : goal.returns-then-is_err-clause-on
returns-then-is_err-clause-on g c = λ m start tops up.
    let on = c.as_slice-copies.ensures.copies ∙ c.copies_of-copies.ensures.copies in
    page_stops m c.args.pages.now.reader c.args.pages.now.reader (leaves c.index-tops-pointer.result.mirror) c.read_good.new.out c.read_good.new.seen start
    (g.B.Bank.view c.args.bank.now) (g.B.Bank.view c.read_good.new.bank) up c.args.page c.args.pointer c.as_slice-copies.result.now c.read_good.result
    _ _ (sym c.is_err.ensures.value ∙ c.if-is_err.true) refl c.requires.pointer on (record {
      next = c.requires.next;
      written = c.requires.stored;
      at_top = under_top c.args.tops.now c.args.pointer.place c.index-tops-pointer.result c.requires.place c.index-tops-pointer.is m.tops tops;
      apart = copies_apart c.args.tops.now c.args.pointer.place c.index-tops-pointer.result c.args.pointer.birth.0 c.as_slice-copies.result.now c.requires.place
          c.index-tops-pointer.is on c.requires.apart;
      read = c.read_good.ensures.read;
    })

pub returns-clause-on : goal.returns-clause-on
returns-clause-on g c = λ m start tops up.
    let on = c.as_slice-copies.ensures.copies ∙ c.copies_of-copies.ensures.copies in
    page_goes_on m c.args.pages.now.reader c.read_good.new.judge.reader (leaves c.index-tops-pointer.result.mirror) c.read_good.new.out c.read_good.new.seen start
    (g.B.Bank.view c.args.bank.now) (g.B.Bank.view c.read_good.new.bank) up c.args.page c.args.pointer c.as_slice-copies.result.now c.read_good.result
    (sym c.is_err.ensures.value ∙ c.if-is_err.false) c.requires.pointer on c.read_good.ensures.taken c.read_good.ensures.behind (record {
      next = c.requires.next;
      written = c.requires.stored;
      at_top = under_top c.args.tops.now c.args.pointer.place c.index-tops-pointer.result c.requires.place c.index-tops-pointer.is m.tops tops;
      apart = copies_apart c.args.tops.now c.args.pointer.place c.index-tops-pointer.result c.args.pointer.birth.0 c.as_slice-copies.result.now c.requires.place
          c.index-tops-pointer.is on c.requires.apart;
      read = c.read_good.ensures.read;
    })
