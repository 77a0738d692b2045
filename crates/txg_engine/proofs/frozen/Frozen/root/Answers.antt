use Rattle.std.proofs.Common.{◌≢◌, sym, ap, ◌∙◌}
use Rattle.std.specs.Prelude.{All}
use Rattle.block_map.specs.Keys.{root}
use Rattle.block_map.specs.Map.{pointer_at}
use Rattle.txg_engine.specs.declared.item.Item.{Item}
use Rattle.txg_engine.specs.Frozen.{FrozenGroup}
use Rattle.txg_engine.specs.Items.{IsItemAt, laid}
use Rattle.txg_engine.proofs.Finding.{laid_none, laid_there}
use Rattle.txg_engine.proofs.frozen.Frozen.root.Goals as goal

pub returns-in_default : goal.returns-in_default
returns-in_default c =
    let items = c.self.inside.items.items in
    let at = pointer_at c.args.map.now in
    let none : All (λ (item : Item). item.key ≢ root) items = rw c.deref.ensures.value at c.in_default.ensures.none in
    c.root_of.ensures ∙ sym (laid_none items root at none)
    ∙ ap (λ (group : FrozenGroup). laid group.items at root) c.self.view_is

pub returns : goal.returns
returns c =
    let items = c.self.inside.items.items in
    let at = pointer_at c.args.map.now in
    let there : IsItemAt items root c.in-Some.at = rw c.deref.ensures.value at c.in-Some.ensures.found in
    ap (λ (item : Item). item.pointer) c.index.ensures
    ∙ sym (laid_there items c.in-Some.at c.index.result.now root at c.self.invariant.0.rise there)
    ∙ ap (λ (group : FrozenGroup). laid group.items at root) c.self.view_is
