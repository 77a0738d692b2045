use Rattle.std.proofs.Common.{◌≡◌, ℕ, List, [], ◌∷◌, get_or, set, arith, ap, sym, ◌∙◌, subst}
use Rattle.std.specs.List.{AllZip}
use Rattle.std.proofs.Math.ListN.{length-set}
use Rattle.vdev_tree.specs.Tree.{leaves, marks, Mark}
use Rattle.vdev_tree.specs.declared.top.Top.{Top}
use Rattle.vdev_tree.proofs.Lists.{get_same, drop_one, drop_set, same_at, same_more}
use Rattle.dtl_rules.proofs.Tops.{top_leaves, top_marks, top_sectors, all_marks, all_sectors}
use Rattle.txg_engine.specs.Logs.{KeepsSets}
use Rattle.txg_engine.proofs.EachTop.{changed_top}
use Rattle.txg_engine.proofs.RoomMade.{kept_at, room_more}
use Rattle.txg_engine.proofs.room.reserve_sets.Goals as goal

pub returns-in_err-reserve_top-clause-leaves : goal.returns-in_err-reserve_top-clause-leaves
returns-in_err-reserve_top-clause-leaves c =
    let tops = c.args.tops.now in
    let now = c.loop-i.tops in
    let i = c.loop-i.i in
    let d = c.index-tops-i.result in
    let new = c.reserve_top.new.top in
    let here : get_or now i d ≡ get_or tops i d = get_same Top now tops i d c.loop-i.invariant.rest in
    kept_at Top top_leaves now tops i new d (omega arith) (omega arith) c.loop-i.invariant.rest c.loop-i.invariant.kept
    (subst (λ (top : Top). AllZip KeepsSets (leaves top.mirror) (leaves new.mirror)) here c.reserve_top.ensures.leaves)

pub returns-in_err-reserve_top-clause-built : goal.returns-in_err-reserve_top-clause-built
returns-in_err-reserve_top-clause-built c =
    let tops = c.args.tops.now in
    let now = c.loop-i.tops in
    let i = c.loop-i.i in
    let d = c.index-tops-i.result in
    let new = c.reserve_top.new.top in
    let here : get_or now i d ≡ get_or tops i d = get_same Top now tops i d c.loop-i.invariant.rest in
    sym (all_marks (set now i new))
    ∙ same_at Top (List Mark) top_marks now tops i new d (omega arith) (omega arith) c.loop-i.invariant.built
    (drop_one Top now tops i c.loop-i.invariant.rest)
    (ap (λ (m : List Mark). m ∷ []) (c.reserve_top.ensures.built ∙ ap (λ (top : Top). marks top.mirror) here))
    ∙ all_marks tops

pub returns-in_err-reserve_top-clause-sectors : goal.returns-in_err-reserve_top-clause-sectors
returns-in_err-reserve_top-clause-sectors c =
    let tops = c.args.tops.now in
    let now = c.loop-i.tops in
    let i = c.loop-i.i in
    let d = c.index-tops-i.result in
    let new = c.reserve_top.new.top in
    let here : get_or now i d ≡ get_or tops i d = get_same Top now tops i d c.loop-i.invariant.rest in
    sym (all_sectors (set now i new))
    ∙ same_at Top ℕ top_sectors now tops i new d (omega arith) (omega arith) c.loop-i.invariant.sectors
    (drop_one Top now tops i c.loop-i.invariant.rest)
    (ap (λ (n : ℕ). n ∷ []) (c.reserve_top.ensures.sectors ∙ ap (λ (top : Top). top.sectors) here))
    ∙ all_sectors tops

pub loop-i-preserved : goal.loop-i-preserved
loop-i-preserved c =
    let tops = c.args.tops.now in
    let now = c.loop-i.tops in
    let i = c.loop-i.i in
    let d = c.index-tops-i.result in
    let new = c.reserve_top.new.top in
    let here : get_or now i d ≡ get_or tops i d = get_same Top now tops i d c.loop-i.invariant.rest in
    record {
      long = rw length-set c.loop-i.invariant.long;
      rest = drop_set Top now tops i new c.loop-i.invariant.rest;
      room = room_more Top top_leaves now i new (omega arith) c.loop-i.invariant.room c.in_ok-reserve_top.ensures.room;
      kept = changed_top KeepsSets now tops i new d (omega arith) (omega arith) c.loop-i.invariant.kept
          (subst (λ (top : Top). AllZip KeepsSets (leaves top.mirror)
          (leaves new.mirror)) here c.reserve_top.ensures.leaves);
      built = same_more Top (List Mark) top_marks now tops i new d (omega arith)
          (omega arith) c.loop-i.invariant.built
          (ap (λ (m : List Mark). m ∷ []) (c.reserve_top.ensures.built ∙ ap (λ (top : Top). marks top.mirror) here));
      sectors = same_more Top ℕ top_sectors now tops i new d (omega arith) (omega arith) c.loop-i.invariant.sectors
          (ap (λ (n : ℕ). n ∷ []) (c.reserve_top.ensures.sectors ∙ ap (λ (top : Top). top.sectors) here));
    }
