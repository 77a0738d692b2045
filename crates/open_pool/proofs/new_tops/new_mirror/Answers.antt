use Rattle.std.proofs.Common.{◌+◌, ◌++◌, ◌∷◌, [], take, sym, ap, ◌∙◌, subst, arith}
use Rattle.std.proofs.lemmas.List.{length-map, length-take-le, map_more, take_all}
use Rattle.open_pool.specs.Creating.{member_of, members_in}
use Rattle.open_pool.proofs.NewTopsBuilt.{HasChildren, is_put_together, more_children}
use Rattle.open_pool.proofs.new_tops.new_mirror.Goals as goal

pub loop-i-preserved : goal.loop-i-preserved
loop-i-preserved c =
    let leaves = c.args.leaves.now in
    let i = c.loop-i.i in
    let leaf = c.index-leaves-i.result in
    let long = length-take-le i leaves (omega (arith, c.loop-i-test.true)) in
    record {
      children = subst (λ ms. HasChildren c.args.next ms c.push.new.self.items)
          (sym (map_more member_of leaves i leaf c.loop-i-test.true ∙ ap (λ x. members_in (take i leaves) ++ member_of x ∷ []) (sym c.index-leaves-i.is)))
          (more_children c.args.next (members_in (take i leaves)) c.loop-i.children.items c.push.new.self.items (c.args.next + 1 + i) (member_of leaf)
          c.in_ok-new_leaf.field-0 c.loop-i.invariant.children c.in_ok-push.ensures.items
          (let same = length-map (take i leaves) member_of in omega (arith, same, long)) c.in_ok-new_leaf.ensures);
    }

pub returns : goal.returns
returns c =
    let leaves = c.args.leaves.now in
    let same = length-map leaves member_of in
    is_put_together c.args.next (members_in leaves) c.loop-i.children
    (subst (λ ls. HasChildren c.args.next (members_in ls) c.loop-i.children.items) (take_all c.loop-i.i leaves c.loop-i-test.false) c.loop-i.invariant.children)
    (omega (arith, same, c.requires.some)) (omega (arith, same, c.requires.few))
