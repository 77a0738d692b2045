use Rattle.std.proofs.Common.{◌≢◌, Some, sym, ap, ◌∙◌}
use Rattle.std.specs.Prelude.{All}
use Rattle.std.specs.Option.{option_copied}
use Rattle.txg_history.specs.Records.{key}
use Rattle.txg_engine.specs.declared.item.Item.{Item}
use Rattle.txg_engine.specs.Frozen.{FrozenGroup}
use Rattle.txg_engine.specs.Items.{IsItemAt, frozen_block}
use Rattle.txg_engine.proofs.Finding.{block_none, block_there}
use Rattle.txg_engine.proofs.frozen.Frozen.block.Goals as goal

pub returns-in_err-at : goal.returns-in_err-at
returns-in_err-at c =
    let items = c.self.inside.items.items in
    let none : All (λ (item : Item). item.key ≢ key 0 c.args.addr) items =
    rw c.deref.ensures.value at c.in_err-at.ensures.none in
    ap option_copied c.from_residual.ensures ∙ sym (block_none items c.args.addr none)
    ∙ ap (λ (group : FrozenGroup). frozen_block group.items c.args.addr) c.self.view_is

pub returns : goal.returns
returns c =
    let items = c.self.inside.items.items in
    let there : IsItemAt items (key 0 c.args.addr) c.in_ok-at.at =
    rw c.deref.ensures.value at c.in_ok-at.ensures.found in
    ap Some (c.as_bytes.ensures.bytes ∙ ap (λ (item : Item). item.block) c.index.ensures)
    ∙ sym (block_there items c.in_ok-at.at c.index.result.now c.args.addr c.self.invariant.0.rise there)
    ∙ ap (λ (group : FrozenGroup). frozen_block group.items c.args.addr) c.self.view_is
