use Rattle.std.proofs.Common.{◌≡◌, ◌+◌, length, get_or, sym, ap, ◌∙◌, subst}
use Rattle.std.proofs.lemmas.List.{length-map, take_at}
use Rattle.std.proofs.lemmas.Option.{same_Some}
use Rattle.vdev_tree.specs.Tree.{leaves}
use Rattle.mirror_io.specs.Copies.{AreApart, AreWithin}
use Rattle.txg_engine.proofs.Seating.{few_leaves}
use Rattle.open_pool.specs.Copies.{copy_on}
use Rattle.open_pool.specs.Reading.{answer_by}
use Rattle.open_pool.proofs.CopiesOnDevices.{top_inside, under_at, top_within, top_apart}
use Rattle.open_pool.proofs.CopiesRead.{seen_long, reads_at}
use Rattle.open_pool.proofs.read.read_at.Goals as goal

pub copies_of-copies-requires : goal.copies_of-copies-requires
copies_of-copies-requires g c =
    few_leaves c.args.tops.now c.args.pointer.place.top c.index-tops-place.result (top_inside c.args.tops.now c.args.pointer.place c.requires.place) c.requires.few

pub read_block-requires-clause-within : goal.read_block-requires-clause-within
read_block-requires-clause-within g c =
    subst (λ l. AreWithin (g.B.Bank.view c.args.bank.now).size l (128 + c.args.pointer.place.sector))
    (sym (c.as_slice-copies.ensures.copies ∙ c.copies_of-copies.ensures.copies))
    (top_within (g.B.Bank.view c.args.bank.now).size c.args.tops.now c.args.pointer.place.top c.index-tops-place.result c.args.pointer.place.sector
    c.args.pointer.birth.0 (top_inside c.args.tops.now c.args.pointer.place c.requires.place) c.requires.place.sector c.requires.here)

pub read_block-requires-clause-apart : goal.read_block-requires-clause-apart
read_block-requires-clause-apart g c =
    subst AreApart (sym (c.as_slice-copies.ensures.copies ∙ c.copies_of-copies.ensures.copies))
    (top_apart c.args.tops.now c.args.pointer.place.top c.index-tops-place.result c.args.pointer.birth.0
    (top_inside c.args.tops.now c.args.pointer.place c.requires.place) c.requires.apart)

pub count_read-requires-clause-each : goal.count_read-requires-clause-each
count_read-requires-clause-each g c = λ under at.
    let long = seen_long c.args.pointer.sum c.as_slice-copies.result.now c.read_block.new.seen _ _ _ _ c.read_block.ensures.read in
    let all = leaves (get_or c.args.tops.now c.args.pointer.place.top c.index-tops-place.result).mirror in
    let here : under ≡ all = same_Some under all (sym at ∙ under_at c.args.tops.now c.args.pointer.place.top c.index-tops-place.result
    (top_inside c.args.tops.now c.args.pointer.place c.requires.place)) in
    let copies : length c.as_slice-copies.result.now ≡ length all =
    ap length (c.as_slice-copies.ensures.copies ∙ c.copies_of-copies.ensures.copies) ∙ length-map all (copy_on c.args.pointer.birth.0) in
    ap length here ∙ sym copies ∙ sym long
    ∙ ap length (sym (take_at c.read_block.new.seen _ (length c.as_slice-copies.result.now) long) ∙ sym (c.as_slice.ensures ∙ c.new-shown.ensures))

pub returns-clause-read : goal.returns-clause-read
returns-clause-read g c =
    let long = seen_long c.args.pointer.sum c.as_slice-copies.result.now c.read_block.new.seen _ _ _ _ c.read_block.ensures.read in
    let under = leaves (get_or c.args.tops.now c.args.pointer.place.top c.index-tops-place.result).mirror in
    let there = under_at c.args.tops.now c.args.pointer.place.top c.index-tops-place.result
    (top_inside c.args.tops.now c.args.pointer.place c.requires.place) in
    reads_at c.args.pointer _ _ _ _ under there c.as_slice-copies.result.now (c.as_slice-copies.ensures.copies ∙ c.copies_of-copies.ensures.copies)
    c.read_block.new.seen c.as_slice.result.now
    (c.as_slice.ensures ∙ c.new-shown.ensures ∙ take_at c.read_block.new.seen _ (length c.as_slice-copies.result.now) long)
    c.read_block.new.out c.read_block.result _ _ c.read_block.ensures.read c.is_ok-served.result c.is_ok-served.ensures.value
    (c.count_read.ensures.tops under there) (c.count_read.ensures.group under there) c.answer_by.result
    (c.answer_by.ensures ∙ ap (answer_by c.is_ok-served.result) (sym c.as_slice.ensures))
