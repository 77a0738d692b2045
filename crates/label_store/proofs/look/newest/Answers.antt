use Rattle.std.proofs.Common.{◌≤◌, ◌∙◌, arith, sym, refl, subst, ap, get_or, Some}
use Rattle.std.proofs.lemmas.Option.{slice_get-get_or}
use Rattle.label_store.proofs.Looking.{so_far_none, so_far_more, found_newest, looks_same}
use Rattle.label_store.proofs.Reading.{so_far_reads, look_read, reads_more, on_err}
use Rattle.label_store.proofs.look.newest.Goals as goal

pub loop-dev-init : goal.loop-dev-init
loop-dev-init g c = so_far_none

pub look-requires : goal.look-requires
look-requires g c = record {
  device = subst (λ n. 320 ≤ n) (sym (c.loop-dev.invariant.calls.frame.sizes (get_or c.args.devs.now c.loop-dev.dev-index 0)))
      (c.requires.devices c.loop-dev.dev-index (get_or c.args.devs.now c.loop-dev.dev-index 0) (slice_get-get_or c.args.devs.now c.loop-dev.dev-index 0 c.loop-dev-test.true));
}

pub loop-dev-preserved : goal.loop-dev-preserved
loop-dev-preserved g c =
    so_far_more g.R.BlobRule.head_of (g.B.Bank.view c.args.bank.now).size c.args.devs.now c.args.name.now c.loop-dev.dev-index
    (get_or c.args.devs.now c.loop-dev.dev-index 0) c.in_ok-parts.parts.items c.loop-dev.best c.in_ok-best.best c.loop-dev-test.true refl
    c.loop-dev.invariant (looks_same _ _ _ (c.loop-dev.invariant.calls.frame.sizes (get_or c.args.devs.now c.loop-dev.dev-index 0)) c.in_ok-parts.ensures.looks)
    (λ looks n at b. c.in_ok-best.ensures looks n (at ∙ ap Some (sym c.deref.ensures.value)) b)

pub returns-clause-finds : goal.returns-clause-finds
returns-clause-finds g c =
    found_newest g.R.BlobRule.head_of (g.B.Bank.view c.args.bank.now).size c.args.devs.now c.args.name.now c.loop-dev.dev-index c.loop-dev.best
    (omega (arith, c.loop-dev-test.false, c.loop-dev.auto.dev-index-end)) c.loop-dev.invariant

pub returns-in_err-parts-clause-reads : goal.returns-in_err-parts-clause-reads
returns-in_err-parts-clause-reads g c = on_err c.from_residual.result (reads_more (so_far_reads c.loop-dev.invariant) c.in_err-parts.ensures.reads)

pub returns-in_err-best-clause-reads : goal.returns-in_err-best-clause-reads
returns-in_err-best-clause-reads g c =
    let dev = get_or c.args.devs.now c.loop-dev.dev-index 0 in
    on_err c.from_residual-in_err-best.result (reads_more (so_far_reads c.loop-dev.invariant) (look_read dev ((g.B.Bank.view c.loop-dev.bank).size dev) c.in_ok-parts.ensures.looks))
