use Rattle.std.proofs.Common.{◌∷◌, [], ◌++◌, sym, ap, map, ◌∙◌, rules, map-id}
use Rattle.std.proofs.lemmas.List.{map-append}
use Rattle.std.proofs.lemmas.Iterator.Adapters.{YieldsList-from_vec}
use Rattle.std.proofs.lemmas.Iterator.Consumers.{YieldsList-end}
use Rattle.script_front.specs.Converting.{told_log}
use Rattle.script_front.proofs.verbs.told_logs.Goals as goal

pub loop-log-preserved : goal.loop-log-preserved
loop-log-preserved c =
    c.in_ok-push.ensures.ok ∙ ap (λ l. l ++ told_log c.in-Some.log ∷ []) c.loop-log.invariant ∙ sym (map-append told_log c.loop-log.yielded (c.in-Some.log ∷ []))

pub returns : goal.returns
returns c =
    let end = YieldsList-end (YieldsList-from_vec {s = c.into_iter-log-iterator.result} c.args.logs.items (search rules) (search rules))
    c.loop-log.yielded c.loop-log.log-iterator c.loop-log.yielded_by c.next.result c.next.new.self c.in-None.is c.next.ensures.steps in
    c.loop-log.invariant ∙ ap (map told_log) (rw map-id at end.0)
