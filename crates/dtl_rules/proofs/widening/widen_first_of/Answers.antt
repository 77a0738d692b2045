use Rattle.std.proofs.Common.{◌≡◌, ℕ, List, [], ◌∷◌, get_or, set, drop, arith, ap, sym, ◌∙◌, subst}
use Rattle.vdev_tree.specs.Tree.{leaves, marks, Mark}
use Rattle.vdev_tree.specs.declared.top.Top.{Top}
use Rattle.vdev_tree.specs.declared.vdev.LeafVdev.{LeafVdev}
use Rattle.dtl_rules.specs.Widening.{none_has, WidensFirst}
use Rattle.vdev_tree.proofs.Lists.{same_at, same_more, drop_one, drop_set, get_same}
use Rattle.dtl_rules.proofs.Widened.{found_at, none_more}
use Rattle.dtl_rules.proofs.Tops.{top_leaves, top_marks, top_sectors, all_marks, all_sectors}
use Rattle.dtl_rules.proofs.widening.widen_first_of.Goals as goal

-- the top that was looked at is still the one that stood there at the beginning
here : (now before : List Top) (i : ℕ) (d : Top) → drop i now ≡ drop i before → get_or now i d ≡ get_or before i d
here now before i d rest = get_same Top now before i d rest

pub returns-then-widen_top-clause-found : goal.returns-then-widen_top-clause-found
returns-then-widen_top-clause-found c =
    let tops = c.args.tops.now in
    let now = c.loop-i.tops in
    let d = c.index-tops-i.result in
    found_at Top top_leaves c.args.ranges now tops c.loop-i.i c.widen_top.new.top d (omega arith) (omega arith)
    c.loop-i.invariant.same c.loop-i.invariant.rest c.loop-i.invariant.none
    (subst (λ (top : Top). WidensFirst c.args.ranges (leaves top.mirror) (leaves c.widen_top.new.top.mirror)) (here now tops c.loop-i.i d c.loop-i.invariant.rest)
    c.if-widen_top.ensures.found)

pub returns-then-widen_top-clause-built : goal.returns-then-widen_top-clause-built
returns-then-widen_top-clause-built c =
    let tops = c.args.tops.now in
    let now = c.loop-i.tops in
    let d = c.index-tops-i.result in
    sym (all_marks (set now c.loop-i.i c.widen_top.new.top))
    ∙ same_at Top (List Mark) top_marks now tops c.loop-i.i c.widen_top.new.top d (omega arith) (omega arith)
    c.loop-i.invariant.built (drop_one Top now tops c.loop-i.i c.loop-i.invariant.rest)
    (ap (λ (m : List Mark). m ∷ []) (c.if-widen_top.ensures.built ∙ ap (λ (top : Top). marks top.mirror) (here now tops c.loop-i.i d c.loop-i.invariant.rest)))
    ∙ all_marks tops

pub returns-then-widen_top-clause-sectors : goal.returns-then-widen_top-clause-sectors
returns-then-widen_top-clause-sectors c =
    let tops = c.args.tops.now in
    let now = c.loop-i.tops in
    let d = c.index-tops-i.result in
    sym (all_sectors (set now c.loop-i.i c.widen_top.new.top))
    ∙ same_at Top ℕ top_sectors now tops c.loop-i.i c.widen_top.new.top d (omega arith) (omega arith)
    c.loop-i.invariant.sectors (drop_one Top now tops c.loop-i.i c.loop-i.invariant.rest)
    (ap (λ (n : ℕ). n ∷ []) (c.if-widen_top.ensures.sectors ∙ ap (λ (top : Top). top.sectors) (here now tops c.loop-i.i d c.loop-i.invariant.rest)))
    ∙ all_sectors tops

pub loop-i-preserved : goal.loop-i-preserved
loop-i-preserved c =
    let tops = c.args.tops.now in
    let now = c.loop-i.tops in
    let i = c.loop-i.i in
    let d = c.index-tops-i.result in
    let new = c.widen_top.new.top in
    let is = here now tops i d c.loop-i.invariant.rest in
    record {
      rest = drop_set Top now tops i new c.loop-i.invariant.rest;
      same = same_more Top LeafVdev top_leaves now tops i new d (omega arith) (omega arith) c.loop-i.invariant.same
          (c.if-widen_top.ensures.same ∙ ap (λ (top : Top). leaves top.mirror) is);
      none = none_more Top top_leaves c.args.ranges tops i d (omega arith) c.loop-i.invariant.none
          (sym (ap (λ (top : Top). none_has c.args.ranges (leaves top.mirror)) is) ∙ c.if-widen_top.ensures.none);
      built = same_more Top (List Mark) top_marks now tops i new d (omega arith) (omega arith) c.loop-i.invariant.built
          (ap (λ (m : List Mark). m ∷ []) (c.if-widen_top.ensures.built ∙ ap (λ (top : Top). marks top.mirror) is));
      sectors = same_more Top ℕ top_sectors now tops i new d (omega arith) (omega arith) c.loop-i.invariant.sectors
          (ap (λ (n : ℕ). n ∷ []) (c.if-widen_top.ensures.sectors ∙ ap (λ (top : Top). top.sectors) is));
    }
