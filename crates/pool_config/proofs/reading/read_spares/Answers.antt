use Rattle.std.proofs.Common.{◌-◌, ◌+◌, ap, refl, ◌∙◌, arith, Err}
use Rattle.mp_base.specs.Name.{is_name}
use Rattle.pool_config.specs.Reading.{spare_in}
use Rattle.pool_config.proofs.Taking.{bad_name, none_read}
use Rattle.pool_config.proofs.TakingWhole.{true_otherwise, no_err, one_spare, spares_taken, spares_bad}
use Rattle.pool_config.proofs.reading.read_spares.Goals as goal

pub loop-init : goal.loop-init
loop-init c =
    rw c.new-spares.ensures.items (record {
      read = none_read spare_in (c.count-count.result - 0) c.count-count.result c.count-count.new.self (omega arith);
      names = refl;
    })

pub returns-in_err-new-clause-none : goal.returns-in_err-new-clause-none
returns-in_err-new-clause-none c = λ none.
    let bad = bad_name c.in_err-new.field-0.0 c.from_residual.result c.from_residual.ensures.1 none in
    spares_bad (c.count-count.result - c.loop.counter) (c.count-count.result - (c.loop.counter + 1))
    c.count-count.result c.args.cursor.now c.count-count.new.self c.loop.cursor c.loop.spares.items c.text.result.now
    c.count-count.ensures.value c.count-count.ensures.rest (omega (arith, c.loop-test.true)) c.loop.invariant
    c.text.ensures.value (c.in_err-new.ensures.bad.0 (ap Err bad))

pub loop-preserved : goal.loop-preserved
loop-preserved c =
    rw c.in_ok-push.ensures.items
    (one_spare (c.count-count.result - c.loop.counter) (c.count-count.result - (c.loop.counter + 1))
    c.count-count.result c.count-count.new.self c.loop.cursor c.text.new.self c.loop.spares.items
    c.in_ok-new.field-0 c.text.result.now (omega (arith, c.loop-test.true)) c.text.ensures.value c.in_ok-new.ensures.ok
    c.text.ensures.rest
    (ap is_name c.in_ok-new.ensures.ok ∙ true_otherwise (is_name c.text.result.now) (λ never.
    no_err c.in_ok-new.field-0 _ (c.in_ok-new.ensures.bad.1 never))) c.loop.invariant)

pub returns-clause-spares : goal.returns-clause-spares
returns-clause-spares c =
    spares_taken (c.count-count.result - c.loop.counter) c.count-count.result c.args.cursor.now c.count-count.new.self
    c.loop.cursor c.loop.spares.items
    c.count-count.ensures.value c.count-count.ensures.rest (omega (arith, c.loop-test.false)) c.loop.invariant

pub returns-clause-names : goal.returns-clause-names
returns-clause-names c = c.loop.invariant.names
