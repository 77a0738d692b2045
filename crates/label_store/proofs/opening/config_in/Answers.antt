use Rattle.std.proofs.Common.{◌+◌, ◌*◌, arith, sym}
use Rattle.std.proofs.lemmas.Option.{slice_get_read}
use Rattle.label_store.proofs.Openings.{lacks_none, lacks_more, lacks_all, has_in}
use Rattle.label_store.proofs.opening.config_in.Goals as goal

pub loop-label-init : goal.loop-label-init
loop-label-init g c = lacks_none g.R.BlobRule.head_of c.args.parts.now c.args.name.now c.args.u.now

pub returns-in-Some-clause-some : goal.returns-in-Some-clause-some
returns-in-Some-clause-some g c =
    has_in g.R.BlobRule.head_of c.args.parts.now c.args.name.now c.args.u.now c.loop-label.label c.index-parts-label.result c.in-Some.config.items c.loop-label-test.true
    (slice_get_read c.args.parts.now 8 (2 * c.loop-label.label + 1) c.index-parts-label.result (sym c.requires) (omega (arith, c.loop-label-test.true)) c.index-parts-label.is)
    (rw c.in-Some.is at c.in_ok-config.ensures.some)

pub loop-label-preserved : goal.loop-label-preserved
loop-label-preserved g c =
    lacks_more g.R.BlobRule.head_of c.args.parts.now c.args.name.now c.args.u.now c.loop-label.label c.index-parts-label.result
    (slice_get_read c.args.parts.now 8 (2 * c.loop-label.label + 1) c.index-parts-label.result (sym c.requires) (omega (arith, c.loop-label-test.true)) c.index-parts-label.is)
    (rw c.in-None.is at c.in_ok-config.ensures.none) c.loop-label.invariant

pub returns-clause-none : goal.returns-clause-none
returns-clause-none g c =
    lacks_all g.R.BlobRule.head_of c.args.parts.now c.args.name.now c.args.u.now c.loop-label.label (omega (arith, c.loop-label-test.false)) c.loop-label.invariant
