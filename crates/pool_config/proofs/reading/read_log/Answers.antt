use Rattle.std.proofs.Common.{arith, ap, sym, ◌∙◌}
use Rattle.std.proofs.lemmas.Bool.{and_right}
use Rattle.pool_config.specs.Reading.{log_in}
use Rattle.pool_config.specs.Validity.{rises}
use Rattle.pool_config.proofs.Taking.{log_read, log_behind, log_few, log_too_long}
use Rattle.pool_config.proofs.reading.read_log.Goals as goal

pub returns-then-count-gt-MOST_RANGES-clause-none : goal.returns-then-count-gt-MOST_RANGES-clause-none
returns-then-count-gt-MOST_RANGES-clause-none c = λ none.
    log_too_long c.args.cursor.now c.count-count.result _ c.count-count.ensures.value c.if-count-gt-MOST_RANGES.true

pub returns-then-rises-clause-log : goal.returns-then-rises-clause-log
returns-then-rises-clause-log c =
    log_read c.args.cursor.now c.count-count.new.self c.read_ranges.new.cursor c.count-count.result c.in_ok-log.log
    c.count-count.ensures.value c.count-count.ensures.rest c.in_ok-log.ensures.ranges

pub returns-then-rises-clause-few : goal.returns-then-rises-clause-few
returns-then-rises-clause-few c =
    log_few c.count-count.new.self c.count-count.result c.in_ok-log.log (omega (arith, c.if-count-gt-MOST_RANGES.false))
    c.in_ok-log.ensures.ranges

pub returns-then-rises-clause-rest : goal.returns-then-rises-clause-rest
returns-then-rises-clause-rest c =
    log_behind c.args.cursor.now c.count-count.new.self c.read_ranges.new.cursor c.count-count.result
    c.count-count.ensures.value c.count-count.ensures.rest c.in_ok-log.ensures.rest

pub returns-else-rises-clause-none : goal.returns-else-rises-clause-none
returns-else-rises-clause-none c = λ none.
    let same = log_read c.args.cursor.now c.count-count.new.self c.read_ranges.new.cursor c.count-count.result
    c.in_ok-log.log c.count-count.ensures.value c.count-count.ensures.rest c.in_ok-log.ensures.ranges in
    and_right _ (rises 1 c.args.number.0 (log_in c.args.cursor.now).value)
    (ap (rises 1 c.args.number.0) (sym same) ∙ ap (rises 1 c.args.number.0) (sym c.as_slice.ensures)
    ∙ sym c.rises.ensures ∙ c.if-rises.false)
