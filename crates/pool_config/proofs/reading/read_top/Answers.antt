use Rattle.std.proofs.Common.{ap, refl, Err}
use Rattle.std.proofs.lemmas.Bool.{false_from_ne_true, false≢true}
use Rattle.vdev_tree.specs.Tree.{is_top}
use Rattle.pool_config.proofs.Taking.{handed_on}
use Rattle.pool_config.proofs.TakingTrees.{top_taken, top_untaken, top_bad}
use Rattle.pool_config.proofs.reading.read_top.Goals as goal

pub returns-in_err-mirror-clause-none : goal.returns-in_err-mirror-clause-none
returns-in_err-mirror-clause-none c = λ none.
    let same = handed_on c.in_err-mirror.field-0.0 _ c.from_residual.result c.from_residual.ensures.1 none in
    top_bad c.args.number c.args.cursor.now c.number-sectors.new.self c.number-sectors.ensures.rest
    (c.in_err-mirror.ensures.none (ap Err same))

pub returns-in-Some-clause-taken : goal.returns-in-Some-clause-taken
returns-in-Some-clause-taken c =
    top_taken c.args.number c.args.cursor.now c.number-sectors.new.self c.read_tree.new.cursor c.args.members.now
    c.read_tree.new.members c.number-sectors.result c.in_ok-mirror.mirror c.in-Some.top
    c.number-sectors.ensures.value c.number-sectors.ensures.rest c.in_ok-mirror.ensures.taken c.in-Some.ensures.mirror
    c.in-Some.ensures.sectors (c.in-Some.ensures.some.0 refl)

pub returns-in-None-clause-none : goal.returns-in-None-clause-none
returns-in-None-clause-none c = λ none.
    top_untaken c.args.number c.args.cursor.now c.number-sectors.new.self c.read_tree.new.cursor c.args.members.now
    c.read_tree.new.members c.in_ok-mirror.mirror
    c.number-sectors.ensures.rest c.in_ok-mirror.ensures.taken
    (false_from_ne_true (is_top c.in_ok-mirror.mirror) (λ t. false≢true (c.in-None.ensures.some.1 t)))
