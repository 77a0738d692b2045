use Rattle.std.proofs.Common.{◌≡◌, ℕ, List, [], ◌∷◌, All, get_or, take, arith, ap, sym, ◌∙◌, subst}
use Rattle.std.specs.List.{flat_map, AllZip}
use Rattle.std.proofs.Math.ListN.{length-set}
use Rattle.std.proofs.lemmas.List.{take_all}
use Rattle.vdev_tree.specs.Tree.{leaves, marks, Mark}
use Rattle.vdev_tree.specs.declared.top.Top.{Top}
use Rattle.vdev_tree.proofs.Lists.{get_same, drop_set, same_more}
use Rattle.dtl_rules.proofs.Tops.{top_leaves, top_marks, top_sectors, all_marks, all_sectors}
use Rattle.txg_engine.proofs.EachTop.{all_of_top, changed_top}
use Rattle.txg_engine.proofs.leaves.change_tops.Goals as goal

pub change-requires : goal.change-requires
change-requires g c =
    let tops = c.args.tops.now in
    let d = c.index-tops-i.result in
    let here : get_or c.loop-i.tops c.loop-i.i d ≡ get_or tops c.loop-i.i d = get_same Top c.loop-i.tops tops c.loop-i.i d c.loop-i.invariant.rest in
    subst (λ (top : Top). All (g.C.LeafChange.may c.args.change.now) (leaves top.mirror)) (sym here)
    (all_of_top (g.C.LeafChange.may c.args.change.now) tops c.loop-i.i d (omega arith) c.requires)

pub loop-i-preserved : goal.loop-i-preserved
loop-i-preserved g c =
    let tops = c.args.tops.now in
    let now = c.loop-i.tops in
    let i = c.loop-i.i in
    let d = c.index-tops-i.result in
    let new = c.change.new.self in
    let R = g.C.LeafChange.changes c.args.change.now in
    let here : get_or now i d ≡ get_or tops i d = get_same Top now tops i d c.loop-i.invariant.rest in
    record {
      long = rw length-set c.loop-i.invariant.long;
      rest = drop_set Top now tops i new c.loop-i.invariant.rest;
      changed = changed_top R now tops i new d (omega arith) (omega arith) c.loop-i.invariant.changed
          (subst (λ (top : Top). AllZip R (leaves top.mirror) (leaves new.mirror)) here c.change.ensures.leaves);
      built = same_more Top (List Mark) top_marks now tops i new d (omega arith) (omega arith) c.loop-i.invariant.built
          (ap (λ (m : List Mark). m ∷ []) (c.change.ensures.built ∙ ap (λ (top : Top). marks top.mirror) here));
      sectors = same_more Top ℕ top_sectors now tops i new d (omega arith) (omega arith) c.loop-i.invariant.sectors
          (ap (λ (n : ℕ). n ∷ []) (c.change.ensures.sectors ∙ ap (λ (top : Top). top.sectors) here));
    }

pub returns : goal.returns
returns g c =
    let tops = c.args.tops.now in
    let now = c.loop-i.tops in
    let i = c.loop-i.i in
    let R = g.C.LeafChange.changes c.args.change.now in
    let all : take i tops ≡ tops = take_all i tops (omega arith) in
    let all' : take i now ≡ now = take_all i now (omega arith) in
    record {
      leaves = subst (λ xs. AllZip R (flat_map top_leaves xs) (flat_map top_leaves now)) all
          (subst (λ xs. AllZip R (flat_map top_leaves (take i tops)) (flat_map top_leaves xs)) all' c.loop-i.invariant.changed);
      built = sym (all_marks now) ∙ ap (flat_map top_marks) (sym all') ∙ c.loop-i.invariant.built ∙ ap (flat_map top_marks) all ∙ all_marks tops;
      sectors = sym (all_sectors now) ∙ ap (flat_map top_sectors) (sym all') ∙ c.loop-i.invariant.sectors ∙ ap (flat_map top_sectors) all ∙ all_sectors tops;
    }
