use Rattle.std.proofs.Common.{List, ap, subst, ◌∙◌}
use Rattle.txg_engine.specs.declared.write.Write.{Write}
use Rattle.txg_engine.specs.Writes.{OpenGroup, IsFound, is_written}
use Rattle.txg_engine.proofs.Found.{found_written}
use Rattle.txg_engine.proofs.open.Open.has.Goals as goal

pub returns : goal.returns
returns c =
    let ws = c.self.inside.writes.items in
    let found : IsFound ws c.args.addr c.find.result =
    subst (λ (xs : List Write). IsFound xs c.args.addr c.find.result) c.deref.ensures.value c.find.ensures in
    c.is_ok.ensures.value
    ∙ found_written ws c.args.addr c.find.result c.self.invariant.rise found
    ∙ ap (λ (group : OpenGroup). is_written group.writes c.args.addr) c.self.view_is
