use Rattle.std.proofs.Common.{◌≤◌, suc, Some, length, sym, ap, ◌∙◌, subst, refl, arith}
use Rattle.std.proofs.lemmas.Option.{slice_get-get_or}
use Rattle.vdev_tree.specs.Tree.{leaves}
use Rattle.vdev_tree.specs.declared.top.Top.{Top}
use Rattle.dtl_rules.specs.Widening.{leaves_of, sectors_of}
use Rattle.pool_codec.specs.Tops.{room_of}
use Rattle.txg_engine.proofs.Seating.{few_leaves}
use Rattle.open_pool.specs.Finding.{handed_to}
use Rattle.open_pool.proofs.LeavesSought.{finds_none, count_more, sized_at, top_more, all_sought}
use Rattle.open_pool.proofs.finding.find_leaves.Goals as goal

pub loop-i-init : goal.loop-i-init
loop-i-init g c = record {
  at = refl;
  long = refl;
  found = λ handed given.
      finds_none c.args.pool (room_of (sectors_of c.args.tops.now)) handed (handed_to handed (leaves_of c.args.tops.now)) c.args.devs.now
      (g.B.Bank.view c.args.bank.now) given;
}

pub find_under-at-requires-clause-sectors : goal.find_under-at-requires-clause-sectors
find_under-at-requires-clause-sectors g c =
    sized_at c.args.tops.now c.loop-i.i c.index-tops-i.result
    (slice_get-get_or c.args.tops.now c.loop-i.i c.index-tops-i.result c.loop-i-test.true ∙ ap (λ t. Some t) (sym c.index-tops-i.is)) c.requires.sectors

pub find_under-at-requires-clause-few : goal.find_under-at-requires-clause-few
find_under-at-requires-clause-few g c =
    subst (λ (top : Top). length (leaves top.mirror) ≤ 32) (sym c.index-tops-i.is)
    (few_leaves c.args.tops.now c.loop-i.i c.index-tops-i.result c.loop-i-test.true c.requires.few)

pub find_under-at-requires-clause-paired : goal.find_under-at-requires-clause-paired
find_under-at-requires-clause-paired g c =
    let count = count_more c.args.tops.now c.loop-i.i c.index-tops-i.result
    (slice_get-get_or c.args.tops.now c.loop-i.i c.index-tops-i.result c.loop-i-test.true ∙ ap (λ t. Some t) (sym c.index-tops-i.is)) in
    omega (arith, count.0, count.1, c.loop-i.invariant.at, c.loop-i.invariant.long, c.requires.paired)

pub loop-i-preserved : goal.loop-i-preserved
loop-i-preserved g c =
    let is = slice_get-get_or c.args.tops.now c.loop-i.i c.index-tops-i.result c.loop-i-test.true ∙ ap (λ t. Some t) (sym c.index-tops-i.is) in
    let count = count_more c.args.tops.now c.loop-i.i c.index-tops-i.result is in
    record {
      at = omega (arith, count.0, c.loop-i.invariant.at, c.find_under-at.ensures.behind);
      long = c.find_under-at.ensures.paired ∙ c.loop-i.invariant.long;
      found = λ handed given.
          top_more c.args.pool handed c.args.tops.now c.loop-i.i c.loop-i.at c.index-tops-i.result c.loop-i.devs c.find_under-at.new.devs
          (g.B.Bank.view c.args.bank.now) (g.B.Bank.view c.loop-i.bank) (g.B.Bank.view c.find_under-at.new.bank) is c.loop-i.invariant.at
          (c.loop-i.invariant.found handed given)
          (λ done left. c.find_under-at.ensures.on (room_of (sectors_of c.args.tops.now)) handed (suc c.loop-i.i) done left (g.B.Bank.view c.args.bank.now));
    }

pub returns-clause-found : goal.returns-clause-found
returns-clause-found g c = λ handed given.
    all_sought c.args.pool handed c.args.tops.now c.loop-i.i c.loop-i.devs (g.B.Bank.view c.args.bank.now) (g.B.Bank.view c.loop-i.bank)
    c.loop-i-test.false (c.loop-i.invariant.found handed given)
