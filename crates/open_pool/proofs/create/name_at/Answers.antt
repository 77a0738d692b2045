use Rattle.std.proofs.Common.{◌-◌, get_or, length, Some, ap, ◌∙◌, arith}
use Rattle.open_pool.specs.declared.new_tops.NewLeaf.{NewLeaf}
use Rattle.open_pool.proofs.NamesAsked.{counts_here, name_here, name_later}
use Rattle.open_pool.proofs.create.name_at.Goals as goal

pub returns-then-rest-leaves : goal.returns-then-rest-leaves
returns-then-rest-leaves c =
    let leaves = c.index-tops-i.result in
    let leaf = c.index-leaves-rest.result in
    let long = ap length c.deref-leaves.ensures.value in
    c.loop-i.invariant.there
    ∙ name_here c.args.tops.now c.loop-i.i leaves leaves c.loop-i-test.true c.index-tops-i.is c.loop-i.rest leaf (omega (arith, long, c.if-rest-leaves.true))
    (c.index-leaves-rest.is ∙ ap (λ l. get_or l c.loop-i.rest leaf) c.deref-leaves.ensures.value)
    ∙ ap (λ (l : NewLeaf). Some l.name) c.index-leaves-rest.is

pub loop-i-preserved : goal.loop-i-preserved
loop-i-preserved c =
    let leaves = c.index-tops-i.result in
    let long = ap length c.deref-leaves.ensures.value in
    let counts = counts_here c.args.tops.now c.loop-i.i leaves leaves c.loop-i-test.true c.index-tops-i.is in
    let inside = c.loop-i.invariant.inside in
    record {
      there = c.loop-i.invariant.there
          ∙ name_later c.args.tops.now c.loop-i.i leaves leaves c.loop-i-test.true c.index-tops-i.is c.loop-i.rest
          (c.loop-i.rest - length c.deref-leaves.result.now) (omega (arith, long, c.if-rest-leaves.false));
      inside = omega (arith, counts, inside, long, c.if-rest-leaves.false);
    }
