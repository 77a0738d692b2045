use Rattle.std.proofs.Common.{◌∷◌, ◌++◌, [], sym, ap, ◌∙◌, subst, arith}
use Rattle.std.specs.Prelude.{All}
use Rattle.std.proofs.lemmas.List.Elements.{All-append, All-from_recursion}
use Rattle.std.proofs.lemmas.List.{map-append}
use Rattle.vdev_tree.specs.Tree.{leaves}
use Rattle.txg_engine.proofs.Seating.{got_inside}
use Rattle.pool_moves.specs.CommitRows.{NamedLog}
use Rattle.open_pool.specs.Telling.{IsRising, log_told, logs_told}
use Rattle.open_pool.proofs.LogsTold.{logs_more}
use Rattle.open_pool.proofs.logs.push_logs.Goals as goal

pub loop-place-preserved : goal.loop-place-preserved
loop-place-preserved c = record {
  logs = logs_more (leaves c.args.top.now.mirror) c.loop-place.place c.in-Some.leaf.now (logs_told c.args.logs.now.items) (logs_told c.loop-place.logs.items)
      (logs_told c.push.new.self.items) (sym c.in-Some.ensures) c.loop-place.invariant.logs
      (ap logs_told c.in_ok-push.ensures.items ∙ map-append log_told c.loop-place.logs.items (c.in_ok-leaf_log.field-0 ∷ [])
      ∙ ap (λ (l : NamedLog). logs_told c.loop-place.logs.items ++ l ∷ []) c.in_ok-leaf_log.ensures.log);
  rise = subst (All IsRising) (sym c.in_ok-push.ensures.items)
      (All-append IsRising c.loop-place.logs.items (c.in_ok-leaf_log.field-0 ∷ []) c.loop-place.invariant.rise
      (All-from_recursion IsRising (c.in_ok-leaf_log.field-0 ∷ []) (c.in_ok-leaf_log.ensures.rise, tt)));
  inside = let inside = got_inside (leaves c.args.top.now.mirror) c.loop-place.place c.in-Some.leaf.now (sym c.in-Some.ensures) in omega arith;
}
