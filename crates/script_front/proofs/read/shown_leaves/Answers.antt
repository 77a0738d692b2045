use Rattle.std.proofs.Common.{◌∷◌, [], ◌++◌, ap₂, ◌∙◌}
use Rattle.std.specs.Iterator.Adapters.{zip_first, zip_second}
use Rattle.std.specs.Slice.Iter.{iter_rest}
use Rattle.std.proofs.lemmas.Slice.Zip.{Zip-more, either_empty_from_Zip}
use Rattle.script_front.specs.Converting.{shown_leaves}
use Rattle.script_front.proofs.HostTold.{leaves_more, leaves_end}
use Rattle.script_front.proofs.read.shown_leaves.Goals as goal

pub loop-name-preserved : goal.loop-name-preserved
loop-name-preserved c =
    let more = Zip-more c.loop-name.name-iterator c.next.new.self c.next.result (c.in-Some.name, c.in-Some.copy) c.in-Some.is c.next.ensures.steps in
    leaves_more (iter_rest (zip_first c.loop-name.name-iterator)) (iter_rest (zip_second c.loop-name.name-iterator)) c.in-Some.name.now c.in-Some.copy.now
    (iter_rest (zip_first c.next.new.self)) (iter_rest (zip_second c.next.new.self)) c.loop-name.leaves c.push.new.self
    (shown_leaves c.args.names.now c.args.shown.now) more.0 more.1
    (c.in_ok-push.ensures.ok ∙ ap₂ (λ n s. c.loop-name.leaves ++ record { name = n; seen = s } ∷ []) c.in_ok-copy.ensures c.seen_as.ensures)
    c.loop-name.invariant

pub returns : goal.returns
returns c =
    leaves_end (iter_rest (zip_first c.loop-name.name-iterator)) (iter_rest (zip_second c.loop-name.name-iterator)) c.loop-name.leaves
    (shown_leaves c.args.names.now c.args.shown.now)
    (either_empty_from_Zip c.loop-name.name-iterator c.next.new.self c.next.result c.in-None.is c.next.ensures.steps) c.loop-name.invariant
