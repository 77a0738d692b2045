use Rattle.std.proofs.Common.{subst, arith}
use Rattle.label_store.specs.Newest.{IsBest}
use Rattle.label_store.proofs.opening.best_of.Goals as goal

pub loop-place-init : goal.loop-place-init
loop-place-init g c = λ looks i at b. subst (λ n. IsBest g.R.BlobRule.head_of looks c.args.name.now n c.args.best) (omega arith) b

pub loop-place-preserved : goal.loop-place-preserved
loop-place-preserved g c = λ looks i at b.
    subst (λ n. IsBest g.R.BlobRule.head_of looks c.args.name.now n c.in_ok-best.best) (omega arith) (c.in_ok-best.ensures looks i at (c.loop-place.invariant looks i at b))

pub returns : goal.returns
returns g c = λ looks i at b.
    subst (λ n. IsBest g.R.BlobRule.head_of looks c.args.name.now n c.loop-place.best) (omega (arith, c.loop-place-test.false, c.loop-place.auto.place-end)) (c.loop-place.invariant looks i at b)
