use Rattle.std.proofs.Common.{◌≡◌, ℕ, suc, get_or, List, Some, refl, sym, ap, ◌∙◌, subst, arith}
use Rattle.std.specs.Prelude.{IfSome, slice_get}
use Rattle.std.specs.List.{AllByRecursion}
use Rattle.vdev_tree.specs.declared.top.Top.{Top}
use Rattle.dtl_rules.specs.Rules.{IsRequired, LeastNeeded}
use Rattle.txg_engine.specs.Frozen.{IsGroup}
use Rattle.txg_engine.proofs.Seating.{got_inside}
use Rattle.pool_codec.specs.Tops.{children_of}
use Rattle.pool_moves.specs.Moves.{steps}
use Rattle.pool_moves.specs.Trees.{is_spare_leaf}
use Rattle.open_pool.specs.Form.{all_leaves}
use Rattle.open_pool.specs.Parts.{PoolParts, all_parts}
use Rattle.open_pool.specs.Offline.{IsNamedOwn, numbers_under}
use Rattle.open_pool.specs.State.{Stands, seats_in, vdevs_in}
use Rattle.open_pool.proofs.OfflineRows.{already_row, drops, drops_stand, few_each, gone_row, inside, kept_of, named_still, offline_off, own, own_named, required_row, same_top, spare_row, there, unnamed_row}
use Rattle.open_pool.proofs.pool.Pool.offline.Goals as goal

pub find_leaf-requires : goal.find_leaf-requires
find_leaf-requires c =
    let p = c.args.self.now in
    let trees = c.deref.result.now in
    let parts : p.tops ≡ all_parts trees = ap (λ (q : PoolParts). q.tops) (sym c.self.view_is) ∙ ap all_parts (sym c.deref.ensures.value) in
    few_each p trees parts c.keeps_its_form.ensures.pool

pub returns-in_default : goal.returns-in_default
returns-in_default c =
    let p = c.args.self.now in
    let trees = c.deref.result.now in
    let parts : p.tops ≡ all_parts trees = ap (λ (q : PoolParts). q.tops) (sym c.self.view_is) ∙ ap all_parts (sym c.deref.ensures.value) in
    record {
      row = λ s stands. unnamed_row p trees parts c.keeps_its_form.ensures.pool c.args.name.now c.args.temporary s stands c.why_unnamed.result
          c.in_default.ensures.none c.why_unnamed.ensures;
    }

pub index-top-requires : goal.index-top-requires
index-top-requires c =
    let is = c.in-Some.ensures.some in
    let low = got_inside c.deref.result.now c.in-Some.found.top is.under is.at in
    let many = c.deref.ensures.len in omega (arith, low, many)

pub returns-then-is_spare_leaf : goal.returns-then-is_spare_leaf
returns-then-is_spare_leaf c =
    let p = c.args.self.now in
    let trees = c.deref.result.now in
    let parts : p.tops ≡ all_parts trees = ap (λ (q : PoolParts). q.tops) (sym c.self.view_is) ∙ ap all_parts (sym c.deref.ensures.value) in
    let is = c.in-Some.ensures.some in
    let same : is.under ≡ c.index-top.result.now = same_top trees c.in-Some.found.top is.under c.index-top.result.now is.at
    (c.index-top.ensures ∙ ap (λ ts. get_or ts c.in-Some.found.top c.index-top.result.now) (sym c.deref.ensures.value)) in
    let tells = subst (λ (t : Top). (place : ℕ) (tops : List Top) → slice_get tops place ≡ Some t
    → c.is_spare_leaf.result ≡ is_spare_leaf c.in-Some.found.guid (children_of (vdevs_in (all_parts tops)) (suc place))) (sym same) c.is_spare_leaf.ensures in
    record {
      row = λ s stands. spare_row p trees parts c.keeps_its_form.ensures.pool c.args.name.now c.args.temporary c.in-Some.found is s stands
          c.is_spare_leaf.result tells c.if-is_spare_leaf.true;
    }

pub set_offline-requires-clause-inside : goal.set_offline-requires-clause-inside
set_offline-requires-clause-inside c =
    let p = c.args.self.now in
    let trees = c.deref.result.now in
    let parts : p.tops ≡ all_parts trees = ap (λ (q : PoolParts). q.tops) (sym c.self.view_is) ∙ ap all_parts (sym c.deref.ensures.value) in
    let is = c.in-Some.ensures.some in
    inside p trees parts c.keeps_its_form.ensures.pool c.args.name.now c.args.temporary c.in-Some.found is p.tops refl

pub set_offline-requires-clause-there : goal.set_offline-requires-clause-there
set_offline-requires-clause-there c =
    let p = c.args.self.now in
    let trees = c.deref.result.now in
    let parts : p.tops ≡ all_parts trees = ap (λ (q : PoolParts). q.tops) (sym c.self.view_is) ∙ ap all_parts (sym c.deref.ensures.value) in
    let is = c.in-Some.ensures.some in
    there p trees parts c.keeps_its_form.ensures.pool c.args.name.now c.args.temporary c.in-Some.found is p.tops refl

pub set_offline-requires-clause-off : goal.set_offline-requires-clause-off
set_offline-requires-clause-off c =
    let p = c.args.self.now in
    let trees = c.deref.result.now in
    let parts : p.tops ≡ all_parts trees = ap (λ (q : PoolParts). q.tops) (sym c.self.view_is) ∙ ap all_parts (sym c.deref.ensures.value) in
    let is = c.in-Some.ensures.some in
    offline_off p trees parts c.keeps_its_form.ensures.pool c.args.name.now c.args.temporary c.in-Some.found is (sym c.is_offline.ensures ∙ c.if-is_offline.true)

pub returns-then-is_offline : goal.returns-then-is_offline
returns-then-is_offline c =
    let p = c.args.self.now in
    let trees = c.deref.result.now in
    let parts : p.tops ≡ all_parts trees = ap (λ (q : PoolParts). q.tops) (sym c.self.view_is) ∙ ap all_parts (sym c.deref.ensures.value) in
    let is = c.in-Some.ensures.some in
    let same : is.under ≡ c.index-top.result.now = same_top trees c.in-Some.found.top is.under c.index-top.result.now is.at
    (c.index-top.ensures ∙ ap (λ ts. get_or ts c.in-Some.found.top c.index-top.result.now) (sym c.deref.ensures.value)) in
    let tells = subst (λ (t : Top). (place : ℕ) (tops : List Top) → slice_get tops place ≡ Some t
    → c.is_spare_leaf.result ≡ is_spare_leaf c.in-Some.found.guid (children_of (vdevs_in (all_parts tops)) (suc place))) (sym same) c.is_spare_leaf.ensures in
    let own' = own_named p trees parts c.keeps_its_form.ensures.pool c.args.name.now c.args.temporary c.in-Some.found is in
    record {
      row = λ s stands. already_row p trees parts c.keeps_its_form.ensures.pool c.args.name.now c.args.temporary c.in-Some.found is s stands
          c.is_spare_leaf.result tells c.if-is_spare_leaf.false (sym c.is_offline.ensures ∙ c.if-is_offline.true) c.set_offline.new.self
          (c.set_offline.ensures.set s _ stands own');
    }

pub returns-in-Some-required : goal.returns-in-Some-required
returns-in-Some-required c =
    let p = c.args.self.now in
    let trees = c.deref.result.now in
    let parts : p.tops ≡ all_parts trees = ap (λ (q : PoolParts). q.tops) (sym c.self.view_is) ∙ ap all_parts (sym c.deref.ensures.value) in
    let is = c.in-Some.ensures.some in
    let same : is.under ≡ c.index-top.result.now = same_top trees c.in-Some.found.top is.under c.index-top.result.now is.at
    (c.index-top.ensures ∙ ap (λ ts. get_or ts c.in-Some.found.top c.index-top.result.now) (sym c.deref.ensures.value)) in
    let tells = subst (λ (t : Top). (place : ℕ) (tops : List Top) → slice_get tops place ≡ Some t
    → c.is_spare_leaf.result ≡ is_spare_leaf c.in-Some.found.guid (children_of (vdevs_in (all_parts tops)) (suc place))) (sym same) c.is_spare_leaf.ensures in
    record {
      row = λ s stands. required_row p trees parts c.keeps_its_form.ensures.pool c.args.name.now c.args.temporary c.in-Some.found is s stands
          c.is_spare_leaf.result tells c.if-is_spare_leaf.false (sym c.is_offline.ensures ∙ c.if-is_offline.false) c.in-Some-required.group.0
          (subst (λ (t : Top). LeastNeeded t c.in-Some.found.guid c.in-Some-required.group.0) (sym same) c.in-Some-required.ensures.required);
    }

pub leave_board-requires : goal.leave_board-requires
leave_board-requires c =
    let p = c.args.self.now in
    let trees = c.deref.result.now in
    let parts : p.tops ≡ all_parts trees = ap (λ (q : PoolParts). q.tops) (sym c.self.view_is) ∙ ap all_parts (sym c.deref.ensures.value) in
    let is = c.in-Some.ensures.some in
    let same : is.under ≡ c.index-top.result.now = same_top trees c.in-Some.found.top is.under c.index-top.result.now is.at
    (c.index-top.ensures ∙ ap (λ ts. get_or ts c.in-Some.found.top c.index-top.result.now) (sym c.deref.ensures.value)) in
    record {
      kept = kept_of p trees parts c.keeps_its_form.ensures.pool c.args.name.now c.args.temporary c.in-Some.found is
          (subst (λ (t : Top). ¬ (IsRequired t c.in-Some.found.guid)) (sym same) c.in_default-required.ensures.free) c.drop_from_scan.new.self.frozen
          (sym (ap (λ (q : PoolParts). q.frozen) c.drop_from_scan.ensures))
          (subst (λ f. IfSome f IsGroup) (sym (ap (λ (q : PoolParts). q.frozen) c.drop_from_scan.ensures)) c.keeps_its_form.ensures.group);
    }

pub set_offline-requires-2-clause-inside : goal.set_offline-requires-2-clause-inside
set_offline-requires-2-clause-inside c =
    let p = c.args.self.now in
    let trees = c.deref.result.now in
    let parts : p.tops ≡ all_parts trees = ap (λ (q : PoolParts). q.tops) (sym c.self.view_is) ∙ ap all_parts (sym c.deref.ensures.value) in
    let is = c.in-Some.ensures.some in
    inside p trees parts c.keeps_its_form.ensures.pool c.args.name.now c.args.temporary c.in-Some.found is c.leave_board.new.self.tops
    (c.leave_board.ensures.tops ∙ ap (λ (q : PoolParts). numbers_under q.tops) c.drop_from_scan.ensures)

pub set_offline-requires-2-clause-there : goal.set_offline-requires-2-clause-there
set_offline-requires-2-clause-there c =
    let p = c.args.self.now in
    let trees = c.deref.result.now in
    let parts : p.tops ≡ all_parts trees = ap (λ (q : PoolParts). q.tops) (sym c.self.view_is) ∙ ap all_parts (sym c.deref.ensures.value) in
    let is = c.in-Some.ensures.some in
    there p trees parts c.keeps_its_form.ensures.pool c.args.name.now c.args.temporary c.in-Some.found is c.leave_board.new.self.tops
    (c.leave_board.ensures.tops ∙ ap (λ (q : PoolParts). numbers_under q.tops) c.drop_from_scan.ensures)

pub returns : goal.returns
returns c =
    let p = c.args.self.now in
    let trees = c.deref.result.now in
    let parts : p.tops ≡ all_parts trees = ap (λ (q : PoolParts). q.tops) (sym c.self.view_is) ∙ ap all_parts (sym c.deref.ensures.value) in
    let is = c.in-Some.ensures.some in
    let same : is.under ≡ c.index-top.result.now = same_top trees c.in-Some.found.top is.under c.index-top.result.now is.at
    (c.index-top.ensures ∙ ap (λ ts. get_or ts c.in-Some.found.top c.index-top.result.now) (sym c.deref.ensures.value)) in
    let tells = subst (λ (t : Top). (place : ℕ) (tops : List Top) → slice_get tops place ≡ Some t
    → c.is_spare_leaf.result ≡ is_spare_leaf c.in-Some.found.guid (children_of (vdevs_in (all_parts tops)) (suc place))) (sym same) c.is_spare_leaf.ensures in
    let form = c.keeps_its_form.ensures.pool in
    let found = c.in-Some.found in
    let lost = c.drop_from_scan.ensures in
    let base = c.drop_from_scan.new.self in
    let q = c.leave_board.new.self in
    let is_own = own p trees parts form c.args.name.now c.args.temporary found is in
    let own' = named_still (seats_in base.frozen) (seats_in q.frozen) found.guid c.args.temporary is_own (all_leaves base) (all_leaves q) c.leave_board.ensures.still
    (subst (λ (x : PoolParts). AllByRecursion (IsNamedOwn (seats_in x.frozen) found.guid c.args.temporary is_own) (all_leaves x)) (sym lost)
    (own_named p trees parts form c.args.name.now c.args.temporary found is)) in
    record {
      row = λ s stands.
          let behind = steps (drops p trees parts form c.args.name.now c.args.temporary found is s stands) s in
          let left = c.leave_board.ensures.left behind (subst (λ x. Stands x behind) (sym lost)
          (drops_stand p trees parts form c.args.name.now c.args.temporary found is s stands)) in
          gone_row p trees parts form c.args.name.now c.args.temporary found is s stands
          c.is_spare_leaf.result tells c.if-is_spare_leaf.false (sym c.is_offline.ensures ∙ c.if-is_offline.false)
          (subst (λ (t : Top). ¬ (IsRequired t found.guid)) (sym same) c.in_default-required.ensures.free)
          base q c.set_offline-2.new.self lost left (c.set_offline-2.ensures.set (steps left.leaving behind) is_own left.stands own');
    }
