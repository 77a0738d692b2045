use Rattle.std.proofs.Common.{◌≡◌, map, get_or, ap, sym, ◌∙◌, arith}
use Rattle.std.specs.List.{flat_map}
use Rattle.std.proofs.Math.ListN.{length-set}
use Rattle.std.proofs.lemmas.List.{take_all}
use Rattle.vdev_tree.specs.declared.top.Top.{Top}
use Rattle.vdev_tree.proofs.Lists.{get_same, drop_set}
use Rattle.open_pool.specs.Counting.{counted_top}
use Rattle.open_pool.specs.Parts.{top_parts}
use Rattle.open_pool.proofs.TopsCounted.{one_part, all_one, counted_more}
use Rattle.open_pool.proofs.count.count_tops.Goals as goal

pub loop-i-preserved : goal.loop-i-preserved
loop-i-preserved c =
    let tops = c.args.tops.now in
    let now = c.loop-i.tops in
    let i = c.loop-i.i in
    let d = c.index-tops-i.result in
    let new = c.count_top.new.top in
    let here : get_or now i d ≡ get_or tops i d = get_same Top now tops i d c.loop-i.invariant.rest in
    record {
      long = rw length-set c.loop-i.invariant.long;
      rest = drop_set Top now tops i new c.loop-i.invariant.rest;
      counted = counted_more c.args.counted now tops i new d (omega arith) (omega arith) c.loop-i.invariant.counted
          (c.count_top.ensures ∙ ap (λ (t : Top). counted_top c.args.counted (top_parts t)) here);
    }

pub returns : goal.returns
returns c =
    let tops = c.args.tops.now in
    let now = c.loop-i.tops in
    let i = c.loop-i.i in
    sym (all_one now) ∙ ap (flat_map one_part) (sym (take_all i now (omega arith))) ∙ c.loop-i.invariant.counted
    ∙ ap (λ xs. map (counted_top c.args.counted) (flat_map one_part xs)) (take_all i tops (omega arith)) ∙ ap (map (counted_top c.args.counted)) (all_one tops)
