use Rattle.pool_lines.specs.Text.{named_leaf_text}
use Rattle.pool_lines.proofs.Texts.{commas_more}
use Rattle.pool_lines.proofs.refusing.write_leaves.Goals as goal

pub loop-at-preserved : goal.loop-at-preserved
loop-at-preserved c =
    rw c.in_ok-push_leaf.ensures
    (commas_more named_leaf_text c.args.leaves.now c.loop-at.at c.index-leaves-at.result c.index-leaves-at.result
    c.loop-at.text.items c.push_comma.new.text.items c.loop-at-test.true c.index-leaves-at.is c.loop-at.invariant c.in_ok-push_comma.ensures)
