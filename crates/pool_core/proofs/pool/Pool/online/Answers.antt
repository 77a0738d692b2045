use Rattle.std.proofs.Common.{◌+◌, ◌∙◌, true, false, Ok, Err, arith, refl, sym, ap}
use Rattle.mp_base.specs.declared.refusal.Refusal.TheVariants as refusals
use Rattle.vdev_tree.specs.declared.vdev.State.TheVariants as states
use Rattle.pool_core.specs.Away.{with_leaf, brought, marked}
use Rattle.pool_core.proofs.Bringing.{online_nobody, online_marked, online_small, online_searched, seated_brought, apart_brought}
use Rattle.pool_core.proofs.Changing.{mild_marked, mild_brought, kept_pair, kept_devices, valid_kept, logged_kept, apart_kept, seated_kept, changed_represents, named_is, leaf_is_named}
use Rattle.pool_core.proofs.Standing.{state_at, stands_at}
use Rattle.pool_core.proofs.Validating.{pool_valid}
use Rattle.pool_core.proofs.pool.Pool.online.Goals as goal

pub returns-in_default-clause-online : goal.returns-in_default-clause-online
returns-in_default-clause-online g c = λ s r. online_nobody c.args.self.now c.args.name.now r (c.in_default.ensures s r.pair)

pub invariant_of-self : goal.invariant_of-self
invariant_of-self g c =
    let old = c.args.self.now in
    let kept = kept_pair old.pair c.mark.new.self c.in-Some.at marked mild_marked c.mark.ensures in
    record {
      valid = valid_kept old c.mark.new.self kept;
      paired = old.paired;
      apart = apart_kept old.pair c.mark.new.self (kept_devices old.pair c.mark.new.self c.in-Some.at marked (λ leaf. refl) c.mark.ensures) old.apart;
      first_log = logged_kept old.number.0 old.pair.first c.mark.new.self.first kept.first old.first_log;
      second_log = logged_kept old.number.0 old.pair.second c.mark.new.self.second kept.second old.second_log;
      first_dev = kept.first.device old.first_dev;
      second_dev = kept.second.device old.second_dev;
    }

pub returns-then-not-is_away-clause-seated : goal.returns-then-not-is_away-clause-seated
returns-then-not-is_away-clause-seated g c = λ seated.
    let old = c.args.self.now in
    let kept = kept_pair old.pair c.mark.new.self c.in-Some.at marked mild_marked c.mark.ensures in
    seated_kept _ old.pair c.mark.new.self (kept_devices old.pair c.mark.new.self c.in-Some.at marked (λ leaf. refl) c.mark.ensures) kept.sectors seated

pub returns-then-not-is_away-clause-online : goal.returns-then-not-is_away-clause-online
returns-then-not-is_away-clause-online g c = λ s r.
    let n = named_is c.args.name.now s c.in-Some.at (c.in-Some.ensures s r.pair) in
    online_marked _ c.in-Some.at c.state_of-state.result n (sym c.is_away.ensures ∙ c.if-not-is_away.true)
    (c.state_of-state.ensures s n.leaf r (leaf_is_named c.args.self.now s c.args.name.now c.in-Some.at r n))
    (changed_represents c.args.self.now _ s c.in-Some.at marked r
    (record { name = refl; pool_is = refl; blocks = refl; next_member = refl; number = refl; pointers = refl; writes = refl }) (c.mark.ensures s r.pair))

pub overflow_add-need : goal.overflow_add-need
overflow_add-need g c = omega (arith, (pool_valid c.args.self.now).sectors.1, c.sectors-need.ensures)

pub returns-then-has-need-clause-online : goal.returns-then-has-need-clause-online
returns-then-has-need-clause-online g c = λ s r.
    let n = named_is c.args.name.now s c.in-Some.at (c.in-Some.ensures s r.pair) in
    online_small c.args.self.now c.in-Some.at c.state_of-state.result _ _ n (sym c.is_away.ensures ∙ c.if-not-is_away.false)
    (c.state_of-state.ensures s n.leaf r (leaf_is_named c.args.self.now s c.args.name.now c.in-Some.at r n))
    (ap (λ sectors. sectors + 256) (c.sectors-need.ensures ∙ sym r.pair.sectors)) c.sectors-has.ensures (omega arith) r

pub identity-requires : goal.identity-requires
identity-requires g c = omega (arith, (pool_valid c.args.self.now).sectors.0, c.sectors-need.ensures, c.sectors-has.ensures)

pub invariant_of-self-in-Ok-true : goal.invariant_of-self-in-Ok-true
invariant_of-self-in-Ok-true g c =
    let old = c.args.self.now in
    let kept = kept_pair old.pair c.bring.new.self c.in-Some.at (brought c.args.dev) (mild_brought c.args.dev) c.bring.ensures in
    let n = named_is c.args.name.now (state_at old.pair) c.in-Some.at (c.in-Some.ensures (state_at old.pair) (stands_at old.pair)) in
    record {
      valid = valid_kept old c.bring.new.self kept;
      paired = old.paired;
      apart = apart_brought c.args.name.now old c.bring.new.self c.in-Some.at c.args.dev n (c.requires.own (state_at old.pair) (stands_at old.pair)) c.bring.ensures;
      first_log = logged_kept old.number.0 old.pair.first c.bring.new.self.first kept.first old.first_log;
      second_log = logged_kept old.number.0 old.pair.second c.bring.new.self.second kept.second old.second_log;
      first_dev = kept.first.device old.first_dev;
      second_dev = kept.second.device old.second_dev;
    }

pub returns-in-Ok-true-clause-seated : goal.returns-in-Ok-true-clause-seated
returns-in-Ok-true-clause-seated g c = λ seated.
    seated_brought _ c.args.self.now.pair c.bring.new.self c.in-Some.at c.args.dev c.bring.ensures
    (omega (arith, c.sectors-need.ensures, c.sectors-has.ensures)) seated

pub returns-in-Ok-true-clause-online : goal.returns-in-Ok-true-clause-online
returns-in-Ok-true-clause-online g c = λ s r.
    let n = named_is c.args.name.now s c.in-Some.at (c.in-Some.ensures s r.pair) in
    online_searched c.args.self.now _ c.in-Some.at c.state_of-state.result _ _ (Ok true) (with_leaf c.in-Some.at (brought c.args.dev) s) (Ok states.Online) n
    (sym c.is_away.ensures ∙ c.if-not-is_away.false)
    (c.state_of-state.ensures s n.leaf r (leaf_is_named c.args.self.now s c.args.name.now c.in-Some.at r n))
    (ap (λ sectors. sectors + 256) (c.sectors-need.ensures ∙ sym r.pair.sectors)) c.sectors-has.ensures (omega arith) r
    (rw c.in-Ok-true.field-0-test at c.in-Ok-true.ensures)
    (ap (λ member. (with_leaf member (brought c.args.dev) s, Ok states.Online)) n.member)
    (changed_represents c.args.self.now _ s c.in-Some.at (brought c.args.dev) r
    (record { name = refl; pool_is = refl; blocks = refl; next_member = refl; number = refl; pointers = refl; writes = refl }) (c.bring.ensures s r.pair))

pub returns-in-Ok-false-clause-online : goal.returns-in-Ok-false-clause-online
returns-in-Ok-false-clause-online g c = λ s r.
    let n = named_is c.args.name.now s c.in-Some.at (c.in-Some.ensures s r.pair) in
    online_searched c.args.self.now c.args.self.now c.in-Some.at c.state_of-state.result _ _ (Ok false) s (Err (refusals.WrongLabel c.in-Some.at)) n
    (sym c.is_away.ensures ∙ c.if-not-is_away.false)
    (c.state_of-state.ensures s n.leaf r (leaf_is_named c.args.self.now s c.args.name.now c.in-Some.at r n))
    (ap (λ sectors. sectors + 256) (c.sectors-need.ensures ∙ sym r.pair.sectors)) c.sectors-has.ensures (omega arith) r
    (rw c.in-Ok-false.field-0-test at c.in-Ok-false.ensures) (ap (λ member. (s, Err (refusals.WrongLabel member))) n.member) r

pub returns-in-Err-clause-online : goal.returns-in-Err-clause-online
returns-in-Err-clause-online g c = λ s r.
    let n = named_is c.args.name.now s c.in-Some.at (c.in-Some.ensures s r.pair) in
    online_searched c.args.self.now c.args.self.now c.in-Some.at c.state_of-state.result _ _ (Err c.in-Err.field-0) s (Err (refusals.DeviceFault c.in-Some.at)) n
    (sym c.is_away.ensures ∙ c.if-not-is_away.false)
    (c.state_of-state.ensures s n.leaf r (leaf_is_named c.args.self.now s c.args.name.now c.in-Some.at r n))
    (ap (λ sectors. sectors + 256) (c.sectors-need.ensures ∙ sym r.pair.sectors)) c.sectors-has.ensures (omega arith) r
    c.in-Err.ensures (ap (λ member. (s, Err (refusals.DeviceFault member))) n.member) r
