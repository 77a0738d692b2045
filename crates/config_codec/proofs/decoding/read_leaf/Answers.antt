use Rattle.std.proofs.Common.{ap, Err}
use Rattle.config_codec.proofs.Taking.{leaf_read, leaf_behind, leaf_unnamed, leaf_too_long, bad_name}
use Rattle.config_codec.proofs.Refusing.{handed_on}
use Rattle.config_codec.proofs.decoding.read_leaf.Goals as goal

pub returns-in_err-log-clause-none : goal.returns-in_err-log-clause-none
returns-in_err-log-clause-none c = λ none.
    let same = handed_on c.in_err-log.field-0.0 _ c.from_residual.result c.from_residual.ensures.1 none in
    leaf_too_long c.args.cursor.now c.read_leaf_head-head.new.cursor c.read_leaf_head-head.ensures.rest (c.in_err-log.ensures.none (ap Err same))

pub returns-in_err-new-clause-none : goal.returns-in_err-new-clause-none
returns-in_err-new-clause-none c = λ none.
    let bad = bad_name c.in_err-new.field-0.0 c.from_residual-in_err-new.result c.from_residual-in_err-new.ensures.1 none in
    leaf_unnamed c.args.cursor.now c.read_leaf_head-head.result.name.now c.read_leaf_head-head.ensures.name (c.in_err-new.ensures.bad.0 (ap Err bad))

pub returns-clause-leaf : goal.returns-clause-leaf
returns-clause-leaf c =
    let head = c.read_leaf_head-head in
    leaf_read c.args.cursor.now head.new.cursor head.result.name.now c.in_ok-new.field-0 head.result.member.0 head.result.flags
    c.kept_in.result c.is_marked.result c.in_ok-log.log head.ensures.member head.ensures.name head.ensures.flags head.ensures.rest
    c.in_ok-new.ensures.ok c.kept_in.ensures c.is_marked.ensures c.in_ok-log.ensures.log

pub returns-clause-rest : goal.returns-clause-rest
returns-clause-rest c =
    leaf_behind c.args.cursor.now c.read_leaf_head-head.new.cursor c.read_log.new.cursor c.read_leaf_head-head.ensures.rest c.in_ok-log.ensures.rest
