use Rattle.std.proofs.Common.{List, set, sym, ap, ◌∙◌, ◌%◌}
use Rattle.mp_base.specs.declared.place.Pointer.{Pointer}
use Rattle.txg_engine.proofs.Pages.{children_put, children_same}
use Rattle.txg_engine.proofs.settle.put_child.Goals as goal

pub returns-then-not-is_child_of : goal.returns-then-not-is_child_of
returns-then-not-is_child_of c at are = are ∙ children_same c.args.page c.args.item.now at (sym c.is_child_of.ensures ∙ c.if-not-is_child_of.true)

pub returns : goal.returns
returns c at are =
    ap (λ (ps : List Pointer). set ps (c.args.item.now.key.index % 64) c.args.item.now.pointer) are ∙ children_put c.args.page c.args.item.now at (sym c.is_child_of.ensures ∙ c.if-not-is_child_of.false)
