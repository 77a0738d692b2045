use Rattle.std.proofs.Common.{◌∷◌, [], ◌++◌, refl, ap, ◌∙◌}
use Rattle.vdev_tree.proofs.Edited.{wrapped}
use Rattle.vdev_tree.proofs.graft.wrap.Goals as goal

pub returns-clause-inner : goal.returns-clause-inner
returns-clause-inner c =
    wrapped _ c.args.guid c.args.kind c.args.slot.now c.args.leaf c.in-Ok.children.items c.put.new.vdevs.items refl refl c.in-Ok.ensures.items
    (c.put.ensures.items ∙ ap (λ v. c.in-Ok.children.items ++ v ∷ []) c.replace.ensures.value) c.put-2.ensures.items
