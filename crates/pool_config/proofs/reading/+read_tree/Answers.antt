use Rattle.std.proofs.Common.{◌-◌, ◌+◌, ap, sym, ◌∙◌, refl, arith, Err}
use Rattle.pool_config.proofs.Taking.{handed_on}
use Rattle.pool_config.proofs.TakingTrees.{leaf_tree_taken, leaf_tree_bad, no_children, child_taken, child_bad}
use Rattle.pool_config.proofs.TakingTrees.{inner_taken}
use Rattle.pool_config.proofs.reading.+read_tree.Goals as goal

pub returns-in_err-read_leaf-clause-none : goal.returns-in_err-read_leaf-clause-none
returns-in_err-read_leaf-clause-none t c = λ none.
    let same = handed_on c.in_err-read_leaf.field-0.0 _ c.from_residual.result c.from_residual.ensures.1 none in
    leaf_tree_bad c.args.number c.args.levels c.args.cursor.now (sym c.is_leaf.ensures ∙ c.if-is_leaf.true)
    (c.in_err-read_leaf.ensures.none (ap Err same))

pub returns-then-is_leaf-clause-taken : goal.returns-then-is_leaf-clause-taken
returns-then-is_leaf-clause-taken t c =
    leaf_tree_taken c.args.number c.args.levels c.args.cursor.now c.read_leaf.new.cursor c.args.members.now
    c.read_leaf.new.members c.in_ok-read_leaf.field-0
    (sym c.is_leaf.ensures ∙ c.if-is_leaf.true) c.in_ok-read_leaf.ensures.taken

pub loop-init : goal.loop-init
loop-init t c =
    let head = c.read_inner_head-head in
    rw c.new-children.ensures.items (no_children c.args.number (c.args.levels - 1) (head.result.count - 0)
    head.result.count head.new.cursor c.add_inner.new.self (omega arith))

pub returns-in_err-read_tree-clause-none : goal.returns-in_err-read_tree-clause-none
returns-in_err-read_tree-clause-none t c = λ none.
    let head = c.read_inner_head-head in
    let same = handed_on c.in_err-read_tree.field-0.0 _ c.from_residual-in_err-read_tree.result
    c.from_residual-in_err-read_tree.ensures.1 none in
    child_bad c.args.number c.args.levels (head.result.count - c.loop.counter)
    (head.result.count - (c.loop.counter + 1)) c.args.cursor.now c.loop.cursor head.new.cursor
    c.add_inner.new.self c.loop.members c.loop.children.items head.result.count
    (sym c.is_leaf.ensures ∙ c.if-is_leaf.false) head.ensures.count head.ensures.rest
    (omega (arith, c.loop-test.true)) c.loop.invariant (c.in_err-read_tree.ensures.none (ap Err same))

pub loop-preserved : goal.loop-preserved
loop-preserved t c =
    let head = c.read_inner_head-head in
    rw c.in_ok-push.ensures.items
    (child_taken c.args.number (c.args.levels - 1) (head.result.count - c.loop.counter)
    (head.result.count - (c.loop.counter + 1)) head.result.count head.new.cursor c.loop.cursor
    c.read_tree.new.cursor c.add_inner.new.self c.loop.members c.read_tree.new.members c.loop.children.items
    c.in_ok-read_tree.field-0
    (omega (arith, c.loop-test.true)) c.loop.invariant c.in_ok-read_tree.ensures.taken)

pub returns-clause-taken : goal.returns-clause-taken
returns-clause-taken t c =
    let head = c.read_inner_head-head in
    inner_taken c.args.number c.args.levels (head.result.count - c.loop.counter) head.result.count c.args.cursor.now
    head.new.cursor c.loop.cursor
    c.args.members.now c.add_inner.new.self c.loop.members _ c.loop.children.items
    (sym c.is_leaf.ensures ∙ c.if-is_leaf.false)
    head.ensures.kind head.ensures.guid head.ensures.count head.ensures.rest (omega (arith, c.loop-test.false))
    c.in_ok-add_inner.ensures refl c.loop.invariant
