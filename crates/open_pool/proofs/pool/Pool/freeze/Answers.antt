use Rattle.std.proofs.Common.{◌≡◌, ◌⊎◌, inl, ◌≤◌, ◌+◌, length, Some, None, Result, Ok, Err, refl, sym, ap, ◌∙◌, subst}
use Rattle.std.specs.Result.{IsErrAnd}
use Rattle.mp_base.specs.declared.number.Group.{Group}
use Rattle.pool_codec.specs.Codecs.{pool_codec}
use Rattle.pool_moves.specs.LineRows.{RowFreezeLine}
use Rattle.open_pool.specs.declared.freeze.FreezeFault.{FreezeFault}
use Rattle.open_pool.specs.declared.freeze.FreezeFault.TheVariants as fault
use Rattle.open_pool.specs.Answering.{Answers, OutOfMemory}
use Rattle.open_pool.specs.Form.{IsPool}
use Rattle.open_pool.specs.Freezing.{FreezeParts, FreezesParts, RefusesParts, freeze_says, group_at}
use Rattle.open_pool.specs.Here.{AreHere}
use Rattle.open_pool.specs.Parts.{PoolParts, all_parts}
use Rattle.open_pool.proofs.FreezeAnswered.{starts, refused_form, refused_row, begun_form, begun_row}
use Rattle.open_pool.proofs.FreezeBegins.{begun_parts}
use Rattle.open_pool.proofs.FreezeHere.{refused_here, begun_here}
use Rattle.open_pool.proofs.FreezeRefused.{with_parts}
use Rattle.open_pool.proofs.FreezeRows.{in_flight, no_number}
use Rattle.open_pool.proofs.LeavesInForm.{leaves_are, leaves_few}
use Rattle.open_pool.proofs.pool.Pool.freeze.Goals as goal

err_is : (r : Result Group FreezeFault) (e : FreezeFault) → IsErrAnd r (λ x. x ≡ e) → r ≡ Err e
err_is (Ok x) e is = absurd is
err_is (Err x) e is = ap Err is

pub returns-in-Some-clause-row : goal.returns-in-Some-clause-row
returns-in-Some-clause-row c =
    let p = c.args.self.now in
    let frozen : p.frozen ≡ Some c.in-Some.frozen = ap (λ (q : PoolParts). q.frozen) (sym c.self.view_is) ∙ c.in-Some.is in
    λ s stands. inl (subst (λ n. Answers (RowFreezeLine pool_codec s) freeze_says (Err (fault.InFlight n.first)) s p)
    (sym c.numbers.ensures) (in_flight p c.in-Some.frozen frozen s stands))

pub returns-then-self-ge-LAST_NUMBER-clause-row : goal.returns-then-self-ge-LAST_NUMBER-clause-row
returns-then-self-ge-LAST_NUMBER-clause-row c =
    let p = c.args.self.now in
    let idle : p.frozen ≡ None = ap (λ (q : PoolParts). q.frozen) (sym c.self.view_is) ∙ c.in_default.is in
    let highest : p.highest ≡ c.self.inside.highest.0 = ap (λ (q : PoolParts). q.highest) (sym c.self.view_is) in
    λ s stands. inl (subst (λ n. Answers (RowFreezeLine pool_codec s) freeze_says (Err (fault.NoNumber 4611686018427387840 (n + 1))) s p) highest
    (no_number p idle (subst (λ n. 4611686018427387840 ≤ n) (sym highest) c.if-self-ge-LAST_NUMBER.true) s stands))

pub freeze_parts-requires-clause-few : goal.freeze_parts-requires-clause-few
freeze_parts-requires-clause-few c =
    let p = c.args.self.now in
    let trees = c.self.inside.tops.items in
    let parts : p.tops ≡ all_parts trees = ap (λ (q : PoolParts). q.tops) (sym c.self.view_is) in
    subst (λ leaves. length leaves ≤ 32) (leaves_are trees p parts) (leaves_few trees p parts c.keeps_its_form.ensures.pool.recordable)

pub invariant_of-self : goal.invariant_of-self
invariant_of-self c =
    let old : FreezeParts = record { unfrozen = c.self.inside.open; map = c.self.inside.map; pins = c.self.inside.pins; trees = c.self.inside.tops.items } in
    let n = c.freeze_parts.new in
    let new : FreezeParts = record { unfrozen = n.group; map = n.map; pins = n.pins; trees = n.tops.items } in
    let why = c.in_err-frozen.field-0.0 in
    let held = c.keeps_its_form.ensures in
    let start = starts _ c.args.self.now old c.self.view_is refl c.in_default.is c.if-self-ge-LAST_NUMBER.false held.pool held.rise held.counted in (
      subst (λ (q : PoolParts). IsPool (with_parts q new)) (sym c.self.view_is)
          (refused_form c.args.self.now old new start why
          (subst (λ (q : PoolParts). RefusesParts (group_at (q.highest + 1)) old new why) c.self.view_is c.in_err-frozen.ensures.err)),
      c.self.invariant.1,
    )

pub returns-in_err-frozen-clause-row : goal.returns-in_err-frozen-clause-row
returns-in_err-frozen-clause-row c =
    let old : FreezeParts = record { unfrozen = c.self.inside.open; map = c.self.inside.map; pins = c.self.inside.pins; trees = c.self.inside.tops.items } in
    let n = c.freeze_parts.new in
    let new : FreezeParts = record { unfrozen = n.group; map = n.map; pins = n.pins; trees = n.tops.items } in
    let why = c.in_err-frozen.field-0.0 in
    let held = c.keeps_its_form.ensures in
    let start = starts _ c.args.self.now old c.self.view_is refl c.in_default.is c.if-self-ge-LAST_NUMBER.false held.pool held.rise held.counted in
    let same : c.from_residual.result ≡ Err why = err_is c.from_residual.result why c.from_residual.ensures.1 in
    λ s stands. subst (λ (q : PoolParts). Answers (RowFreezeLine pool_codec s) freeze_says c.from_residual.result s (with_parts q new)
    ⊎ OutOfMemory {A = Result Group FreezeFault} (Err fault.Memory) c.from_residual.result s (with_parts q new)) (sym c.self.view_is)
    (subst (λ r. Answers (RowFreezeLine pool_codec s) freeze_says r s (with_parts c.args.self.now new)
    ⊎ OutOfMemory {A = Result Group FreezeFault} (Err fault.Memory) r s (with_parts c.args.self.now new)) (sym same)
    (refused_row c.args.self.now old new start why
    (subst (λ (q : PoolParts). RefusesParts (group_at (q.highest + 1)) old new why) c.self.view_is c.in_err-frozen.ensures.err) s stands))

pub returns-in_err-frozen-clause-here : goal.returns-in_err-frozen-clause-here
returns-in_err-frozen-clause-here c = λ size here.
    refused_here c.in_err-frozen.ensures.err size (subst (λ (q : PoolParts). AreHere size q.tops) (sym c.self.view_is) here)

pub invariant_of-self-2 : goal.invariant_of-self-2
invariant_of-self-2 c =
    let old : FreezeParts = record { unfrozen = c.self.inside.open; map = c.self.inside.map; pins = c.self.inside.pins; trees = c.self.inside.tops.items } in
    let n = c.freeze_parts.new in
    let new : FreezeParts = record { unfrozen = n.group; map = n.map; pins = n.pins; trees = n.tops.items } in
    let group = c.in_ok-frozen.frozen in
    let held = c.keeps_its_form.ensures in
    let start = starts _ c.args.self.now old c.self.view_is refl c.in_default.is c.if-self-ge-LAST_NUMBER.false held.pool held.rise held.counted in (
      subst (λ (q : PoolParts). IsPool (begun_parts q new group)) (sym c.self.view_is)
          (begun_form c.args.self.now old new start group
          (subst (λ (q : PoolParts). FreezesParts (group_at (q.highest + 1)) old new group) c.self.view_is c.in_ok-frozen.ensures.ok) c.keeps_its_form-3.ensures),
      c.self.invariant.1,
    )

pub returns-clause-row : goal.returns-clause-row
returns-clause-row c =
    let old : FreezeParts = record { unfrozen = c.self.inside.open; map = c.self.inside.map; pins = c.self.inside.pins; trees = c.self.inside.tops.items } in
    let n = c.freeze_parts.new in
    let new : FreezeParts = record { unfrozen = n.group; map = n.map; pins = n.pins; trees = n.tops.items } in
    let group = c.in_ok-frozen.frozen in
    let held = c.keeps_its_form.ensures in
    let map = c.keeps_its_form-2.ensures in
    let start = starts _ c.args.self.now old c.self.view_is refl c.in_default.is c.if-self-ge-LAST_NUMBER.false held.pool held.rise held.counted in
    λ s stands. inl (subst (λ (q : PoolParts). Answers (RowFreezeLine pool_codec s) freeze_says (Ok (group_at (q.highest + 1))) s (begun_parts q new group))
    (sym c.self.view_is)
    (begun_row c.args.self.now old new start group
    (subst (λ (q : PoolParts). FreezesParts (group_at (q.highest + 1)) old new group) c.self.view_is c.in_ok-frozen.ensures.ok)
    c.keeps_its_form-3.ensures map.tops map.pointers map.form (ap (λ (q : PoolParts). q.opened) (sym c.self.view_is)) s stands))

pub returns-clause-here : goal.returns-clause-here
returns-clause-here c = λ size here.
    begun_here c.in_ok-frozen.ensures.ok size (subst (λ (q : PoolParts). AreHere size q.tops) (sym c.self.view_is) here)
