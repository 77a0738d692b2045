use Rattle.std.proofs.Common.{◌≡◌, false, ◌+◌, map, get_or, sym, ap, ◌∙◌, subst, arith}
use Rattle.std.specs.Option.{option_copied, option_map}
use Rattle.vdev_tree.specs.Tree.{leaves}
use Rattle.mirror_io.specs.declared.copies.CopyOf.{CopyOf}
use Rattle.mirror_io.specs.declared.copies.CopySeen.TheVariants as seen
use Rattle.open_pool.specs.declared.count.Counted.{Counted}
use Rattle.open_pool.specs.Counting.{counts_of, counted_by, counted_top, counted_group, CountsSoFar}
use Rattle.open_pool.specs.Parts.{all_parts}
use Rattle.open_pool.proofs.CopiesOnDevices.{under_at}
use Rattle.open_pool.proofs.CountsMade.{counts_more, counts_done, no_more, same_long}
use Rattle.open_pool.proofs.count.count_read.Goals as goal

pub returns-in_default-clause-tops : goal.returns-in_default-clause-tops
returns-in_default-clause-tops c = λ under at. absurd (no_more c.args.served under c.args.copies.now c.args.seen.now (c.requires.each under at) c.requires.paired
    c.args.place _ _ c.loop-i.i _ _ _ c.loop-i-test.true (c.loop-i.invariant.far under at)
    (under_at c.loop-i.tops c.args.place c.index-tops-place.result (omega arith)) (sym c.leaf_at.ensures ∙ ap option_copied c.in_default.is))

pub returns-in_default-clause-group : goal.returns-in_default-clause-group
returns-in_default-clause-group c = λ under at. absurd (no_more c.args.served under c.args.copies.now c.args.seen.now (c.requires.each under at) c.requires.paired
    c.args.place _ _ c.loop-i.i _ _ _ c.loop-i-test.true (c.loop-i.invariant.far under at)
    (under_at c.loop-i.tops c.args.place c.index-tops-place.result (omega arith)) (sym c.leaf_at.ensures ∙ ap option_copied c.in_default.is))

pub loop-i-preserved : goal.loop-i-preserved
loop-i-preserved c =
    let i = c.loop-i.i in
    let copies = c.args.copies.now in
    let shown = c.args.seen.now in
    let leaf = c.in-Some.leaf.now in
    let co : CopyOf = record { dev = 0; lacks = false; readable = false } in
    let k = counted_by c.args.served leaf.guid (get_or copies i co) (get_or shown i seen.NotTried) in
    let is : c.counted_by-counted.result ≡ k = c.counted_by-counted.ensures in
    record {
      long = same_long c.counted_by-counted.result c.count_calls.new.tops c.loop-i.tops c.count_calls.ensures.tops ∙ c.loop-i.invariant.long;
      far = λ under at.
          subst (λ g. CountsSoFar (counts_of c.args.served under copies shown) (i + 1) under c.args.place (all_parts c.args.tops.now) (all_parts c.count_calls.new.tops) c.args.frozen.now g)
          (sym (c.count_calls.ensures.group ∙ ap (λ (x : Counted). option_map (counted_group x) c.loop-i.frozen) is))
          (subst (λ ts. CountsSoFar (counts_of c.args.served under copies shown) (i + 1) under c.args.place (all_parts c.args.tops.now) ts c.args.frozen.now
          (option_map (counted_group k) c.loop-i.frozen))
          (sym (c.count_calls.ensures.tops ∙ ap (λ (x : Counted). map (counted_top x) (all_parts c.loop-i.tops)) is))
          (counts_more c.args.served under copies shown (c.requires.each under at) c.requires.paired c.args.place (all_parts c.args.tops.now) c.args.frozen.now
          i (all_parts c.loop-i.tops) c.loop-i.frozen leaf (leaves (get_or c.loop-i.tops c.args.place c.index-tops-place.result).mirror)
          co seen.NotTried
          c.loop-i-test.true (c.loop-i.invariant.far under at)
          (under_at c.loop-i.tops c.args.place c.index-tops-place.result (omega arith)) (sym c.in-Some.ensures)));
    }

pub returns-clause-tops : goal.returns-clause-tops
returns-clause-tops c = λ under at. (counts_done c.args.served under c.args.copies.now c.args.seen.now (c.requires.each under at) c.requires.paired
    c.args.place _ _ c.loop-i.i _ _ (omega arith) (c.loop-i.invariant.far under at)).0

pub returns-clause-group : goal.returns-clause-group
returns-clause-group c = λ under at. (counts_done c.args.served under c.args.copies.now c.args.seen.now (c.requires.each under at) c.requires.paired
    c.args.place _ _ c.loop-i.i _ _ (omega arith) (c.loop-i.invariant.far under at)).1
