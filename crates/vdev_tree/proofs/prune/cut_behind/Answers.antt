use Rattle.std.proofs.Common.{◌∷◌, [], ◌++◌, get_or, refl, ap, sym, ◌∙◌, arith}
use Rattle.vdev_tree.specs.declared.vdev.Vdev.TheVariants.{Leaf}
use Rattle.vdev_tree.proofs.Edited.{same_leaf}
use Rattle.vdev_tree.proofs.Cut.{cuts_last, cuts_one}
use Rattle.vdev_tree.proofs.prune.cut_behind.Goals as goal

pub returns-then-len-eq1 : goal.returns-then-len-eq1
returns-then-len-eq1 c =
    cuts_last c.args.at c.args.spare.guid c.args.first c.only_leaf-leaf.result c.args.spare.children.items (omega (arith, c.if-len-eq1.true, c.len.ensures, c.args.spare.children.ok.0))
    (λ d are. same_leaf _ _ (sym c.only_leaf-leaf.ensures ∙ c.remove.ensures.value ∙ ap (λ vs. get_or vs 0 c.remove.result) are)) c.requires.some

pub returns : goal.returns
returns c =
    cuts_one c.args.at c.args.spare.guid c.args.first c.split-pair.result.gone c.split-pair.result.stays _ c.args.spare.children.items
    (λ one. c.if-len-eq1.false (omega (arith, one, c.len.ensures, c.args.spare.children.ok.0))) refl c.requires.kind
    (c.put-2.ensures.items ∙ ap (λ vs. vs ++ Leaf c.split-pair.result.stays ∷ []) (c.put.ensures.items ∙ ap (λ vs. vs ++ c.args.first ∷ []) c.split-pair.ensures.items))
    c.split-pair.ensures.gone c.split-pair.ensures.stays c.requires.some
