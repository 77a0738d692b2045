use Rattle.std.proofs.Common.{◌≡◌, ◌≢◌, ◌+◌, ◌≤◌, ℕ, List, [], ◌∷◌, drop, get_or, length, sym, ap, ◌∙◌, subst, arith}
use Rattle.std.specs.Prelude.{All, AllPairs}
use Rattle.std.proofs.Math.ListN.{length-set}
use Rattle.std.proofs.lemmas.Option.{slice_get-get_or}
use Rattle.vdev_tree.specs.Tree.{leaves, marks, Mark}
use Rattle.vdev_tree.specs.declared.top.Top.{Top}
use Rattle.vdev_tree.specs.declared.vdev.LeafVdev.{LeafVdev}
use Rattle.vdev_tree.proofs.Lists.{get_same, drop_set, same_more}
use Rattle.dtl_rules.proofs.Tops.{top_marks, top_sectors}
use Rattle.pool_codec.specs.Tops.{LiesWithin}
use Rattle.txg_engine.proofs.Seating.{few_leaves}
use Rattle.open_pool.specs.Opening.{all_placed}
use Rattle.open_pool.proofs.LeavesPut.{pairs_of_top, top_put, top_tells}
use Rattle.open_pool.proofs.LeavesSought.{count_more}
use Rattle.open_pool.proofs.placing.place_leaves.Goals as goal

abbrev lies : LeafVdev → Type 0
lies leaf = LiesWithin leaf.log

here : (c : goal.After-index-tops-i) → get_or c.loop-i.tops c.loop-i.i c.index-tops-i.result ≡ get_or c.args.tops.now c.loop-i.i c.index-tops-i.result
here c = get_same Top c.loop-i.tops c.args.tops.now c.loop-i.i c.index-tops-i.result c.loop-i.invariant.rest

pub place_under-at-requires-clause-few : goal.place_under-at-requires-clause-few
place_under-at-requires-clause-few c =
    subst (λ (top : Top). length (leaves top.mirror) ≤ 32) (sym (here c))
    (few_leaves c.args.tops.now c.loop-i.i c.index-tops-i.result c.loop-i-test.true c.requires.few)

pub place_under-at-requires-clause-numbered : goal.place_under-at-requires-clause-numbered
place_under-at-requires-clause-numbered c =
    subst (λ (top : Top). AllPairs (λ a b. a.guid.0 ≢ b.guid.0) (leaves top.mirror)) (sym (here c))
    (pairs_of_top (λ a b. a.guid.0 ≢ b.guid.0) c.args.tops.now c.loop-i.i c.index-tops-i.result c.loop-i-test.true c.requires.numbered)

pub place_under-at-requires-clause-paired : goal.place_under-at-requires-clause-paired
place_under-at-requires-clause-paired c =
    let top = get_or c.args.tops.now c.loop-i.i c.index-tops-i.result in
    let count = count_more c.args.tops.now c.loop-i.i top (slice_get-get_or c.args.tops.now c.loop-i.i c.index-tops-i.result c.loop-i-test.true) in
    subst (λ (top : Top). c.loop-i.at + length (leaves top.mirror) ≤ length c.args.devs.now) (sym (here c))
    (omega (arith, count.0, count.1, c.loop-i.invariant.at, c.requires.paired))

pub loop-i-preserved : goal.loop-i-preserved
loop-i-preserved c =
    let tops = c.args.tops.now in
    let now = c.loop-i.tops in
    let i = c.loop-i.i in
    let d = c.index-tops-i.result in
    let new = c.place_under-at.new.top in
    let same = get_same Top now tops i d c.loop-i.invariant.rest in
    let count = count_more tops i (get_or tops i d) (slice_get-get_or tops i d c.loop-i-test.true) in
    let many = ap (λ (top : Top). length (leaves top.mirror)) same in
    record {
      long = rw length-set c.loop-i.invariant.long;
      rest = drop_set Top now tops i new c.loop-i.invariant.rest;
      at = omega (arith, c.place_under-at.ensures.behind, many, count.0, c.loop-i.invariant.at);
      put = top_put tops now i d c.loop-i-test.true c.args.devs.now c.loop-i.at new (omega (arith, c.loop-i.invariant.long, c.loop-i-test.true))
          c.loop-i.invariant.at c.loop-i.invariant.put
          (c.place_under-at.ensures.leaves ∙ ap (λ (top : Top). all_placed (drop c.loop-i.at c.args.devs.now) (leaves top.mirror)) same);
      built = same_more Top (List Mark) top_marks now tops i new d (omega arith) (omega arith) c.loop-i.invariant.built
          (ap (λ (m : List Mark). m ∷ []) (c.place_under-at.ensures.built ∙ ap (λ (top : Top). marks top.mirror) same));
      sectors = same_more Top ℕ top_sectors now tops i new d (omega arith) (omega arith) c.loop-i.invariant.sectors
          (ap (λ (n : ℕ). n ∷ []) (c.place_under-at.ensures.sectors ∙ ap (λ (top : Top). top.sectors) same));
      lie = top_tells tops now i d c.loop-i-test.true lies c.loop-i.invariant.lie
          (subst (λ (top : Top). All lies (leaves top.mirror)) same c.place_under-at.ensures.lie);
    }
