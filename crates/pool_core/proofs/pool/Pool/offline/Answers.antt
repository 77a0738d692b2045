use Rattle.std.proofs.Common.{arith, refl, sym, ◌∙◌}
use Rattle.pool_core.specs.Away.{with_leaf, taken_offline}
use Rattle.pool_core.proofs.Changing.{mild_offline, kept_pair, kept_devices, valid_kept, logged_kept, apart_kept, seated_kept, changed_represents, named_is, is_member, leaf_is_named, offline_refused, offline_taken}
use Rattle.pool_core.proofs.pool.Pool.offline.Goals as goal
use Rattle.pool_core.proofs.pool.Pool.offline.Goals.{then-not-is_offline+in_default-required, else-not-is_offline}

pub required-requires-clause-not_root : goal.required-requires-clause-not_root
required-requires-clause-not_root c = λ e. absurd (omega (arith, (is_member c.args.name.now c.args.self.now c.in-Some.at c.in-Some.ensures).0))

pub required-requires-clause-not_mirror : goal.required-requires-clause-not_mirror
required-requires-clause-not_mirror c = (is_member c.args.name.now c.args.self.now c.in-Some.at c.in-Some.ensures).1

pub returns-in-Some-required-clause-offline : goal.returns-in-Some-required-clause-offline
returns-in-Some-required-clause-offline c = λ s r.
    let n = named_is c.args.name.now s c.in-Some.at (c.in-Some.ensures s r.pair) in (
      s,
      r,
      offline_refused s c.args.name.now c.args.temporary c.in-Some.at _ n
          (sym (c.is_offline.ensures s n.leaf r (leaf_is_named c.args.self.now s c.args.name.now c.in-Some.at r n)) ∙ c.if-not-is_offline.true)
          (c.in-Some-required.ensures.some s r.pair),
    )

pub invariant_of-self : goal.invariant_of-self
invariant_of-self c =
    let old = c.args.self.now in
    let kept = kept_pair old.pair c.take_offline.new.self c.in-Some.at (taken_offline c.args.temporary) (mild_offline c.args.temporary) c.take_offline.ensures in
    let devices = kept_devices old.pair c.take_offline.new.self c.in-Some.at (taken_offline c.args.temporary) (λ leaf. refl) c.take_offline.ensures in
    record {
      valid = valid_kept old c.take_offline.new.self kept;
      paired = old.paired;
      apart = apart_kept old.pair c.take_offline.new.self devices old.apart;
      first_log = logged_kept old.number.0 old.pair.first c.take_offline.new.self.first kept.first old.first_log;
      second_log = logged_kept old.number.0 old.pair.second c.take_offline.new.self.second kept.second old.second_log;
      first_dev = kept.first.device old.first_dev;
      second_dev = kept.second.device old.second_dev;
    }

pub returns-clause-seated : goal.returns-clause-seated
returns-clause-seated c = λ size seated.
    let old = c.args.self.now in
    let kept = kept_pair old.pair c.take_offline.new.self c.in-Some.at (taken_offline c.args.temporary) (mild_offline c.args.temporary) c.take_offline.ensures in
    seated_kept size old.pair c.take_offline.new.self
    (kept_devices old.pair c.take_offline.new.self c.in-Some.at (taken_offline c.args.temporary) (λ leaf. refl) c.take_offline.ensures) kept.sectors seated

pub returns-clause-offline : goal.returns-clause-offline
returns-clause-offline c = λ s r.
    let n = named_is c.args.name.now s c.in-Some.at (c.in-Some.ensures s r.pair) in (
      with_leaf c.in-Some.at (taken_offline c.args.temporary) s,
      changed_represents c.args.self.now _ s c.in-Some.at (taken_offline c.args.temporary) r
          (record { name = refl; pool_is = refl; blocks = refl; next_member = refl; number = refl; pointers = refl; writes = refl }) (c.take_offline.ensures s r.pair),
      offline_taken s c.args.name.now c.args.temporary c.in-Some.at c.is_offline.result n
          (c.is_offline.ensures s n.leaf r (leaf_is_named c.args.self.now s c.args.name.now c.in-Some.at r n))
          (elim c.if-not-is_offline.branch [ then-not-is_offline+in_default-required w ↦ λ e. w.in_default-required.ensures.none s r.pair | else-not-is_offline w ↦ λ e. absurd (let f = w.if-not-is_offline.false in cc) ]),
    )
