use Rattle.std.proofs.Common.{◌≤◌, length, refl, sym, subst}
use Rattle.block_map.specs.Map.{is_open, CountsPlaces}
use Rattle.open_pool.specs.contracts.reopening.Reopened.{the_invariant, the_view}
use Rattle.open_pool.specs.declared.reopening.Reopened.TheInside.{Inside}
use Rattle.open_pool.specs.Here.{AreHere}
use Rattle.open_pool.specs.Parts.{PoolParts}
use Rattle.open_pool.specs.State.{Stands}
use Rattle.open_pool.proofs.FreezeAnswered.{Starts, begun_form}
use Rattle.open_pool.proofs.FreezeHere.{begun_here}
use Rattle.open_pool.proofs.FreezesNone.{freezes_none, lacks_one, may_be_told, opened_parts, opened_too, starts_none}
use Rattle.open_pool.proofs.LeavesInForm.{leaves_are, leaves_few}
use Rattle.open_pool.proofs.reopening.Reopened.freeze.Goals as goal

pub freeze_parts-requires-clause-few : goal.freeze_parts-requires-clause-few
freeze_parts-requires-clause-few c =
    let p = the_view c.self.inside in
    subst (λ leaves. length leaves ≤ 32) (leaves_are c.self.inside.tops.items p refl) (leaves_few c.self.inside.tops.items p refl c.self.invariant.0.pool.recordable)

start : (i : Inside) → the_invariant i → CountsPlaces (is_open i.map) i.map.count
    → Starts (the_view i) (record { unfrozen = i.unfrozen; map = i.map; pins = i.pins; trees = i.tops.items })
start i held counted = starts_none (the_view i) _ refl refl held.0.pool held.0.below held.0.unfrozen counted

pub why_unfrozen-requires : goal.why_unfrozen-requires
why_unfrozen-requires c = may_be_told _ _ _ (start c.self.inside c.self.invariant c.keeps_its_form.ensures.counted) c.self.invariant.0.unfrozen
    c.in-Err.why c.in-Err.ensures.err

pub returns-in-Err-clause-row : goal.returns-in-Err-clause-row
returns-in-Err-clause-row c = λ s stands.
    lacks_one _ _ _ (start c.self.inside c.self.invariant c.keeps_its_form.ensures.counted) c.self.invariant.0.unfrozen
    c.in-Err.why c.in-Err.ensures.err c.why_unfrozen.result c.why_unfrozen.ensures s
    (subst (λ q. Stands q s) (sym c.self.view_is) stands)

pub invariant_of-result : goal.invariant_of-result
invariant_of-result c =
    let p = opened_parts (the_view c.self.inside) in
    let form = c.self.invariant.0 in (
      begun_form p _ _
          (starts_none p _ refl refl (opened_too (the_view c.self.inside) refl form.pool) form.below form.unfrozen c.keeps_its_form.ensures.counted)
          c.in-Ok.frozen c.in-Ok.ensures.ok c.keeps_its_form-2.ensures,
      c.self.invariant.1,
    )

pub returns-clause-row : goal.returns-clause-row
returns-clause-row c = λ s stands.
    freezes_none _ _ _ (start c.self.inside c.self.invariant c.keeps_its_form.ensures.counted) c.self.invariant.0.unfrozen
    c.in-Ok.frozen c.in-Ok.ensures.ok s (subst (λ q. Stands q s) (sym c.self.view_is) stands)

pub returns-clause-here : goal.returns-clause-here
returns-clause-here c = λ size here.
    begun_here c.in-Ok.ensures.ok size (subst (λ (q : PoolParts). AreHere size q.tops) (sym c.self.view_is) here)
