use denote.Ref.{Bor}
use Rattle.std.proofs.Common.{◌≡◌, ◌||◌, false, Option, None, Some, refl, sym, ap, ◌∙◌}
use Rattle.std.specs.Option.{option_copied}
use Rattle.std.specs.Prelude.{is_some}
use Rattle.txg_history.specs.Records.{key}
use Rattle.txg_engine.specs.Writes.{is_written}
use Rattle.open_pool.specs.Form.{is_dirty}
use Rattle.open_pool.specs.Parts.{PoolParts}
use Rattle.open_pool.specs.State.{cells_in, cells_of}
use Rattle.open_pool.proofs.GroupBlocks.{has_block}
use Rattle.open_pool.proofs.pool.Pool.is_dirty.Goals as goal

copied_some : {X : Type 0} (o : Option (Bor X)) → is_some o ≡ is_some (option_copied o)
copied_some None = refl
copied_some (Some x) = refl

pub returns-in-Some : goal.returns-in-Some
returns-in-Some c =
    let seen : is_dirty c.args.self.now c.args.addr ≡ (is_written c.self.inside.open.writes c.args.addr
    || is_some (cells_in c.self.inside.frozen (key 0 c.args.addr))) = ap (λ (p : PoolParts). is_dirty p c.args.addr) (sym c.self.view_is) in
    let k = key 0 c.args.addr in
    let in_group : is_some (cells_in c.self.inside.frozen k) ≡ is_some (cells_of c.in-Some.frozen.items k) =
    ap (λ f. is_some (cells_in f k)) c.in-Some.is in
    let unwritten : is_written c.self.inside.open.writes c.args.addr ≡ false = sym c.if-has.ensures in
    let dirty : is_dirty c.args.self.now c.args.addr ≡ is_some (cells_of c.in-Some.frozen.items k) =
    seen ∙ ap (λ b. b || is_some (cells_in c.self.inside.frozen k)) unwritten ∙ in_group in
    c.is_some.ensures ∙ copied_some c.block.result ∙ ap is_some c.block.ensures ∙ sym (has_block c.in-Some.frozen.items c.args.addr) ∙ sym dirty
