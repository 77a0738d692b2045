use Rattle.std.proofs.Common.{◌∷◌, [], ◌++◌, sym, ap, map, ◌∙◌, rules, map-id}
use Rattle.std.proofs.lemmas.List.{map-append}
use Rattle.std.proofs.lemmas.Iterator.Adapters.{YieldsList-from_vec}
use Rattle.std.proofs.lemmas.Iterator.Consumers.{YieldsList-end}
use Rattle.host_front.proofs.AwayLines.{as_shown, logs_are}
use Rattle.host_front.proofs.away.logs_of.Goals as goal

pub loop-leaf-preserved : goal.loop-leaf-preserved
loop-leaf-preserved c =
    c.in_ok-push.ensures.ok ∙ ap (λ l. l ++ as_shown c.in-Some.leaf ∷ []) c.loop-leaf.invariant ∙ sym (map-append as_shown c.loop-leaf.yielded (c.in-Some.leaf ∷ []))

pub returns : goal.returns
returns c = λ s r.
    let end = YieldsList-end (YieldsList-from_vec {s = c.into_iter-leaf-iterator.result} c.in_ok-leaf-items.leaf-items.items (search rules) (search rules))
    c.loop-leaf.yielded c.loop-leaf.leaf-iterator c.loop-leaf.yielded_by c.next.result c.next.new.self c.in-None.is c.next.ensures.steps in
    c.loop-leaf.invariant ∙ ap (map as_shown) (rw map-id at end.0) ∙ logs_are s c.in_ok-leaf-items.leaf-items.items (c.in_ok-leaf-items.ensures s r)
