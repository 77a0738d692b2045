use Rattle.std.proofs.Common.{◌≤◌, length, sym, ap, ◌∙◌, subst, arith}
use Rattle.std.specs.List.{flat_map}
use Rattle.std.proofs.lemmas.List.{take_all}
use Rattle.vdev_tree.specs.Tree.{leaves}
use Rattle.vdev_tree.specs.declared.top.Top.{Top}
use Rattle.txg_engine.proofs.Seating.{few_leaves}
use Rattle.open_pool.proofs.LogsTold.{top_logs, all_logs}
use Rattle.open_pool.proofs.logs.logs_of.Goals as goal

pub push_logs-requires-clause-few : goal.push_logs-requires-clause-few
push_logs-requires-clause-few c =
    subst (λ (top : Top). length (leaves top.mirror) ≤ 32) (sym c.index-tops-i.is)
    (few_leaves c.args.tops.now c.loop-i.i c.index-tops-i.result c.loop-i-test.true c.requires)

pub returns-clause-logs : goal.returns-clause-logs
returns-clause-logs c =
    c.loop-i.invariant.logs ∙ ap (flat_map top_logs) (take_all c.loop-i.i c.args.tops.now (omega arith)) ∙ all_logs c.args.tops.now
