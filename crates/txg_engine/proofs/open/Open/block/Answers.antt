use Rattle.std.proofs.Common.{Some, ap, sym, ◌∙◌}
use Rattle.txg_engine.specs.declared.write.Write.{Write}
use Rattle.txg_engine.specs.Writes.{OpenGroup, IsThere, IsGap, block_at}
use Rattle.txg_engine.proofs.Found.{there_some, gap_none}
use Rattle.txg_engine.proofs.open.Open.block.Goals as goal

pub returns-in-Ok : goal.returns-in-Ok
returns-in-Ok c =
    let ws = c.self.inside.writes.items in
    let there : IsThere ws c.args.addr c.in-Ok.at = rw c.deref.ensures.value at c.in-Ok.ensures in
    ap Some (c.as_bytes.ensures.bytes ∙ ap (λ (w : Write). w.block) c.index.ensures)
    ∙ sym (there_some 0 ws c.args.addr c.in-Ok.at c.index.result.now c.self.invariant.rise there)
    ∙ ap (λ (group : OpenGroup). block_at group.writes c.args.addr) c.self.view_is

pub returns-in-Err : goal.returns-in-Err
returns-in-Err c =
    let ws = c.self.inside.writes.items in
    let gap : IsGap ws c.args.addr c.in-Err.field-0 = rw c.deref.ensures.value at c.in-Err.ensures in
    sym (gap_none ws c.args.addr c.in-Err.field-0 gap)
    ∙ ap (λ (group : OpenGroup). block_at group.writes c.args.addr) c.self.view_is
