use Rattle.pool_core.specs.State.{leaves}
use Rattle.host_front.proofs.NamedLeaves.{named_more, named_past}
use Rattle.host_front.proofs.reading.name_leaves.Goals as goal
use Rattle.host_front.proofs.reading.name_leaves.Goals.{in-Some+in_ok-copy+in_ok-push, in_default}

pub loop-shown-preserved : goal.loop-shown-preserved
loop-shown-preserved c = elim c.match-leaf_name.branch [
  | in-Some+in_ok-copy+in_ok-push w ↦ λ s r. rw (w.named-is, w.in_ok-push.ensures.ok, w.in_ok-copy.ensures)
      (named_more (leaves s) c.loop-shown.named _ c.as_slice-shown-items.result.now c.loop-shown.shown-index _ c.loop-shown-test.true
      (c.loop-shown.invariant s r) w.in-Some.name.now (w.in-Some.ensures s r))
  | in_default w ↦ λ s r. rw w.named-is
      (named_past (leaves s) c.loop-shown.named _ c.as_slice-shown-items.result.now c.loop-shown.shown-index _ c.loop-shown-test.true
      (c.loop-shown.invariant s r) (w.in_default.ensures s r))
]
