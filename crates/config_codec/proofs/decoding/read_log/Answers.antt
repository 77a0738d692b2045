use Rattle.config_codec.proofs.Taking.{log_read, log_behind, log_too_long}
use Rattle.config_codec.proofs.decoding.read_log.Goals as goal

pub returns-then-count-gt-MOST_RANGES-clause-none : goal.returns-then-count-gt-MOST_RANGES-clause-none
returns-then-count-gt-MOST_RANGES-clause-none c = λ none.
    log_too_long c.args.cursor.now c.count-count.result c.count-count.ensures.value c.if-count-gt-MOST_RANGES.true

pub returns-clause-log : goal.returns-clause-log
returns-clause-log c =
    log_read c.args.cursor.now c.count-count.new.self c.count-count.result c.in_ok-read_ranges.field-0
    c.count-count.ensures.value c.count-count.ensures.rest c.in_ok-read_ranges.ensures.ranges

pub returns-clause-rest : goal.returns-clause-rest
returns-clause-rest c =
    log_behind c.args.cursor.now c.count-count.new.self c.read_ranges.new.cursor c.count-count.result
    c.count-count.ensures.value c.count-count.ensures.rest c.in_ok-read_ranges.ensures.rest
