-- What an opening takes is a live record.
use Rattle.std.proofs.Common.{◌≡◌, ◌⊎◌, ℕ, ◌<◌, ◌≤◌, Bool, true, false, List, [], ◌∷◌, ◌++◌, Option, refl, ap, ◌∙◌, subst, arith, inl, inr}
use Rattle.label_store.specs.declared.rule.Head.{Head}
use Rattle.label_store.specs.declared.uberblock.Uberblock.{Uberblock}
use Rattle.label_store.specs.Records.{place_at}
use Rattle.label_store.specs.Rounds.{config_of, uberblock_of}
use Rattle.label_store.specs.Uberblock.{IsUberblock, uberblock_bytes}
use Rattle.pool_history.specs.Events.{Known}
use Rattle.pool_history.specs.Moves.{ReadsTrue}
use Rattle.pool_history.specs.Openings.{IsVerifiedOn, IsYield, IsDrawnRecord, FindsLive}
use Rattle.pool_history.specs.Pools.{Pool, seat}
use Rattle.pool_history.specs.Premises.{HasNoClash, HasNoStray, Premises}
use Rattle.pool_history.specs.Records.{Rec, IsIn, number_of}
use Rattle.pool_history.specs.Survival.{IsAmong, IsDrawnUber, IsKnownRing, Survives}
use Rattle.pool_history.proofs.Verified.{promises, good_verified}

pub in_either : (r : Rec) (first second : List Rec) → IsIn r (first ++ second) → IsIn r first ⊎ IsIn r second
in_either r [] second i = inr i
in_either r (q ∷ first) second (inl e) = inl (inl e)
in_either r (q ∷ first) second (inr i) = more (in_either r first second i)
  where
    more : IsIn r first ⊎ IsIn r second → IsIn r (q ∷ first) ⊎ IsIn r second
    more (inl i) = inl (inr i)
    more (inr i) = inr i

-- bytes that a known ring has are of the drawn records
known_drawn : (p : Pool) (d s : ℕ) (bytes : List ℕ) (u : Uberblock) → IsKnownRing p d s → IsUberblock u bytes → 1 ≤ u.number.0
    → (bytes ≡ (p.sectors d s).stable) ⊎ IsAmong bytes (p.since d s) → IsDrawnUber p d u
known_drawn p d s bytes u ring is some (inl e) = ring.stable u (subst (IsUberblock u) e is) some
known_drawn p d s bytes u ring is some (inr among) = ring.since bytes among u is some

-- What is verified on a member is a drawn record.
pub verified_drawn : (head_of : List ℕ → Option Head) (p : Pool) (known : Known) (d : ℕ) (u : Uberblock) (config : List ℕ) → Survives head_of p → HasNoClash head_of p known → p.member d ≡ true
    → IsVerifiedOn head_of p.size known p.name d u config → (r : Rec) × IsDrawnRecord p u config r
verified_drawn head_of p known d u config s clash member v =
    let is : IsUberblock u (uberblock_bytes u) = record { in_range = v.verified.is_record.in_range; bytes = refl } in
    let uber : IsDrawnUber p d u = known_drawn p d (place_at (p.size d) v.place) (uberblock_bytes u) u (s.rings d v.place member v.verified.inside) is v.verified.is_record.some
    (clash.rings d v.place (uberblock_bytes u) u member v.verified.inside v.verified.uberblock is v.verified.is_record.some) in (
      uber.0,
      record {
        is_drawn = uber.1;
        config_is = clash.sums uber.0 d u config uber.1 v (v.verified.is_record.sum ∙ ap (λ w. w.sum) uber.2);
        number_is = ap (λ w. w.number) uber.2;
        pool_is = ap (λ w. w.pool) uber.2 ∙ s.pools uber.0 uber.1;
      },
    )

-- and so is what is verified on another device
anywhere_drawn : (head_of : List ℕ → Option Head) (p : Pool) (known : Known) (d : ℕ) (u : Uberblock) (config : List ℕ) → Survives head_of p → Premises head_of p known
    → (member : Bool) → p.member d ≡ member → IsVerifiedOn head_of p.size known p.name d u config → (r : Rec) × IsDrawnRecord p u config r
anywhere_drawn head_of p known d u config s premises true e v = verified_drawn head_of p known d u config s premises.no_clash e v
anywhere_drawn head_of p known d u config s premises false e v = premises.no_stray.others d u config e v

-- A drawn record that isn't below the acknowledged one is live, where no stray was found.
drawn_live : (head_of : List ℕ → Option Head) (p : Pool) (known : Known) (d : ℕ) (u : Uberblock) (config : List ℕ) (r : Rec) → Survives head_of p → HasNoStray head_of p known
    → IsVerifiedOn head_of p.size known p.name d u config → IsDrawnRecord p u config r → number_of p.acked ≤ number_of r
    → IsIn r p.live ⊎ IsIn r p.given → IsIn r p.live
drawn_live head_of p known d u config r s stray v is above (inl live) = live
drawn_live head_of p known d u config r s stray v is above (inr given) = absurd (by_rule (s.given_below r given))
  where
    by_rule : (number_of r < number_of p.acked) ⊎ IsIn r p.missed → ⊥
    by_rule (inl below) = omega arith
    by_rule (inr missed) = let below : number_of r < number_of p.acked = stray.passed d u config r v is given missed in omega arith

-- What an opening takes is a live record, at least as new as the acknowledged one.
pub yield_live : (head_of : List ℕ → Option Head) (p : Pool) (known : Known) (u : Uberblock) (config : List ℕ) → Survives head_of p → ReadsTrue p.sectors known → Premises head_of p known
    → IsYield head_of p.size known p.name u config → FindsLive p u config
yield_live head_of p known u config s true_to premises y =
    let drawn_one = anywhere_drawn head_of p known y.d u config s premises (p.member y.d) refl y.verified in
    let good = premises.sound_labels in
    let good_live : IsIn good.promised p.live = (promises head_of p premises.good good.promised s good.is_member good.status_is).is_live in
    let good_high : number_of p.acked ≤ number_of good.promised = s.not_below good.promised good_live in
    let greatest : number_of good.promised ≤ u.number.0 = y.greatest premises.good _ _ (good_verified head_of p known premises.good s true_to good) in
    let number : u.number.0 ≡ number_of drawn_one.0 = ap (λ n. n.0) drawn_one.1.number_is in
    let above : number_of p.acked ≤ number_of drawn_one.0 = omega arith in
    record {
      found = drawn_one.0;
      is_live = drawn_live head_of p known y.d u config drawn_one.0 s premises.no_stray y.verified drawn_one.1 above (in_either drawn_one.0 p.live p.given drawn_one.1.is_drawn);
      config_is = drawn_one.1.config_is;
      number_is = drawn_one.1.number_is;
      pool_is = drawn_one.1.pool_is;
      not_below = above;
    }

-- The good member has a verified record, so an opening finds one.
pub finds_some : (head_of : List ℕ → Option Head) (p : Pool) (known : Known) → Survives head_of p → ReadsTrue p.sectors known → Premises head_of p known
    → (d : ℕ) × (u : Uberblock) × (config : List ℕ) × IsVerifiedOn head_of p.size known p.name d u config
finds_some head_of p known s true_to premises =
    let good = premises.sound_labels in
    (premises.good, uberblock_of good.promised.commit (seat p premises.good), config_of good.promised.commit, good_verified head_of p known premises.good s true_to good)
