use Rattle.std.proofs.Common.{rules, sym, ◌∙◌}
use Rattle.pool_lines.proofs.TopsOfWords.{read_end, read_first, read_next}
use Rattle.pool_lines.proofs.vdevs.read_tops.Goals as goal

pub loop-word-init : goal.loop-word-init
loop-word-init c = rw c.new.ensures (read_first c.args.words.now)

pub returns-in_err-begun : goal.returns-in_err-begun
returns-in_err-begun c =
    let next = read_next c.loop-word.begun c.args.words.now c.loop-word.word-index c.loop-word-test.true in
    rw (← c.loop-word.invariant, next) (search rules)

pub loop-word-preserved : goal.loop-word-preserved
loop-word-preserved c =
    let next = read_next c.loop-word.begun c.args.words.now c.loop-word.word-index c.loop-word-test.true in
    rw c.in_ok-begun.ensures at (sym next ∙ c.loop-word.invariant)

pub returns : goal.returns
returns c =
    let last = read_end c.loop-word.begun c.args.words.now c.loop-word.word-index c.loop-word-test.false in
    rw (← c.loop-word.invariant, last) c.whole.ensures
