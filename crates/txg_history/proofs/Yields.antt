-- What an opening takes is a live record.
use Rattle.std.proofs.Common.{◌≡◌, ◌⊎◌, ℕ, ◌<◌, ◌≤◌, Bool, true, false, List, Some, refl, sym, ap, ◌∙◌, subst, arith, inl, inr}
use Rattle.mp_base.specs.declared.number.Guid.{Guid}
use Rattle.label_store.specs.declared.member.Member.{Member}
use Rattle.label_store.specs.declared.uberblock.Uberblock.{Uberblock}
use Rattle.label_store.specs.Plans.{blank_uberblock}
use Rattle.label_store.specs.Records.{place_at}
use Rattle.label_store.specs.Rounds.{config_of, uberblock_of}
use Rattle.label_store.specs.Uberblock.{IsUberblock, uberblock_bytes}
use Rattle.bank_core.specs.Disk.{Sector}
use Rattle.txg_history.specs.Events.{Known}
use Rattle.txg_history.specs.Moves.{ReadsTrue}
use Rattle.txg_history.specs.Openings.{IsVerifiedOn, IsYield, IsDrawnRecord, FindsLive}
use Rattle.txg_history.specs.Pages.{Codec}
use Rattle.txg_history.specs.Pools.{Pool, drawn, seat}
use Rattle.txg_history.specs.Premises.{AreNotTorn, HasNoClash, HasNoStray, HasTwin, Premises}
use Rattle.txg_history.specs.Records.{Rec, IsIn, number_of}
use Rattle.txg_history.specs.Survival.{IsAmong, IsKnownUber, IsKnownRing, Survives}
use Rattle.txg_history.proofs.Listing.{in_append}
use Rattle.txg_history.proofs.Verified.{good_verified}

-- bytes that a known ring has are known
pub ring_known : (records : List Rec) (pool : Guid) (m : Member) (x : Sector) (since : List (List ℕ)) (bytes : List ℕ) → IsKnownRing records pool m x since
    → (bytes ≡ x.stable) ⊎ IsAmong bytes since → IsKnownUber records pool m bytes
ring_known records pool m x since bytes ring (inl e) = subst (IsKnownUber records pool m) (sym e) ring.stable
ring_known records pool m x since bytes ring (inr among) = ring.written bytes among

-- A correct uberblock that was found on a member gives the member's identity.
pub identity_whole : (c : Codec) (p : Pool) (known : Known) (d place : ℕ) (u : Uberblock) (bytes : List ℕ) → Survives c p
    → AreNotTorn p known → p.member d ≡ true → place < 128
    → known d (place_at (p.size d) place) ≡ Some bytes → IsUberblock u bytes → (u.pool ≡ p.pool) × (u.member ≡ p.guid d)
identity_whole c p known d place u bytes sv whole is inside read correct =
    of (ring_known (drawn p) p.pool (seat p d) _ _ bytes (sv.rings d place is inside) (whole d place bytes u is inside read correct) u correct)
  where
    of : ((r : Rec) × IsIn r (drawn p) × (u ≡ uberblock_of r.commit (seat p d)))
        ⊎ (u ≡ blank_uberblock p.pool (p.guid d)) → (u.pool ≡ p.pool) × (u.member ≡ p.guid d)
    of (inl one) = (ap (λ u. u.pool) one.2 ∙ sv.pools one.0 one.1, ap (λ u. u.member) one.2)
    of (inr e) = (ap (λ u. u.pool) e, ap (λ u. u.member) e)

pub identity_is : (c : Codec) (p : Pool) (known : Known) (d place : ℕ) (u : Uberblock) (bytes : List ℕ) → Survives c p
    → HasNoClash c.head_of p known → p.member d ≡ true → place < 128
    → known d (place_at (p.size d) place) ≡ Some bytes → IsUberblock u bytes → (u.pool ≡ p.pool) × (u.member ≡ p.guid d)
identity_is c p known d place u bytes sv clash is inside read correct = identity_whole c p known d place u bytes sv clash.rings is inside read correct

-- What is verified on a member is a drawn record.
pub verified_drawn : (c : Codec) (p : Pool) (known : Known) (d : ℕ) (u : Uberblock) (config : List ℕ) → Survives c p
    → HasNoClash c.head_of p known → p.member d ≡ true
    → IsVerifiedOn c.head_of p.size known p.name d u config → (r : Rec) × IsDrawnRecord p u config r
verified_drawn c p known d u config sv clash member v =
    of (ring_known (drawn p) p.pool (seat p d) _ _ (uberblock_bytes u) (sv.rings d v.place member v.verified.inside)
    (clash.rings d v.place (uberblock_bytes u) u member v.verified.inside v.verified.uberblock correct) u correct)
  where
    correct : IsUberblock u (uberblock_bytes u)
    correct = record { in_range = v.verified.is_record.in_range; bytes = refl }

    of : ((r : Rec) × IsIn r (drawn p) × (u ≡ uberblock_of r.commit (seat p d)))
        ⊎ (u ≡ blank_uberblock p.pool (p.guid d)) → (r : Rec) × IsDrawnRecord p u config r
    of (inl uber) = (
      uber.0,
      record {
        is_drawn = uber.1;
        config_is = clash.sums uber.0 d u config uber.1 member uber.2 v (v.verified.is_record.sum ∙ ap (λ w. w.sum) uber.2);
        number_is = ap (λ w. w.number) uber.2;
        pool_is = ap (λ w. w.pool) uber.2 ∙ sv.pools uber.0 uber.1;
      },
    )
    of (inr e) = absurd (let some = v.verified.is_record.some in omega (arith, some, ap (λ u. u.number.0) e))

-- and so is what is verified on another device
anywhere_drawn : (c : Codec) (p : Pool) (known : Known) (d : ℕ) (u : Uberblock) (config : List ℕ) → Survives c p → Premises c.head_of p known
    → (member : Bool) → p.member d ≡ member → IsVerifiedOn c.head_of p.size known p.name d u config → (r : Rec) × IsDrawnRecord p u config r
anywhere_drawn c p known d u config sv premises true e v = verified_drawn c p known d u config sv premises.no_clash e v
anywhere_drawn c p known d u config sv premises false e v = premises.no_stray.others d u config e v

-- A drawn record that isn't below the acknowledged one is live, or a live one is the very same, where no stray was found.
drawn_live : (c : Codec) (p : Pool) (known : Known) (d : ℕ) (u : Uberblock) (config : List ℕ) (r : Rec) → Survives c p → HasNoStray c.head_of p known
    → IsVerifiedOn c.head_of p.size known p.name d u config → IsDrawnRecord p u config r → number_of p.acked ≤ number_of r
    → IsIn r p.live ⊎ IsIn r p.given → IsIn r p.live ⊎ HasTwin p r
drawn_live c p known d u config r sv stray v is above (inl live) = inl live
drawn_live c p known d u config r sv stray v is above (inr given) = by_rule (sv.order.given_below r given)
  where
    twin : (number_of r < number_of p.acked) ⊎ HasTwin p r → IsIn r p.live ⊎ HasTwin p r
    twin (inl below) = absurd (omega (arith, below, above))
    twin (inr t) = inr t

    by_rule : (number_of r < number_of p.acked) ⊎ IsIn r p.missed → IsIn r p.live ⊎ HasTwin p r
    by_rule (inl below) = absurd (omega (arith, below, above))
    by_rule (inr missed) = twin (stray.passed d u config r v is given missed)

-- What an opening takes is a live record, at least as new as the acknowledged one.
pub yield_live : (c : Codec) (p : Pool) (known : Known) (u : Uberblock) (config : List ℕ) → Survives c p
    → ReadsTrue p.sectors known → Premises c.head_of p known
    → IsYield c.head_of p.size known p.name u config → FindsLive p u config
yield_live c p known u config sv true_to premises y =
    of (drawn_live c p known y.d u config drawn_one.0 sv premises.no_stray y.verified drawn_one.1 above
    (in_append drawn_one.0 p.live p.given drawn_one.1.is_drawn))
  where
    drawn_one : (r : Rec) × IsDrawnRecord p u config r
    drawn_one = anywhere_drawn c p known y.d u config sv premises (p.member y.d) refl y.verified

    number : u.number.0 ≡ number_of drawn_one.0
    number = ap (λ n. n.0) drawn_one.1.number_is

    above : number_of p.acked ≤ number_of drawn_one.0
    above =
        let good = premises.sound_labels in
        let high = sv.order.not_below good.promised good.is_live in
        let greatest : number_of good.promised ≤ u.number.0 = y.greatest premises.good _ _ (good_verified c p known premises.good sv true_to good) in
        omega (arith, high, greatest, number)

    of : IsIn drawn_one.0 p.live ⊎ HasTwin p drawn_one.0 → FindsLive p u config
    of (inl live) = record {
      found = drawn_one.0;
      is_live = live;
      config_is = drawn_one.1.config_is;
      number_is = drawn_one.1.number_is;
      pool_is = drawn_one.1.pool_is;
      not_below = above;
    }
    of (inr t) = record {
      found = t.twin;
      is_live = t.is_live;
      config_is = drawn_one.1.config_is ∙ sym t.are.config_is;
      number_is = drawn_one.1.number_is ∙ sym t.are.number_is;
      pool_is = drawn_one.1.pool_is;
      not_below = sv.order.not_below t.twin t.is_live;
    }

-- The good member has a verified record, so an opening finds one.
pub finds_some : (c : Codec) (p : Pool) (known : Known) → Survives c p → ReadsTrue p.sectors known → Premises c.head_of p known
    → (d : ℕ) × (u : Uberblock) × (config : List ℕ) × IsVerifiedOn c.head_of p.size known p.name d u config
finds_some c p known sv true_to premises =
    let good = premises.sound_labels in (
      premises.good,
      uberblock_of good.promised.commit
          (seat p premises.good),
      config_of good.promised.commit,
      good_verified c p known premises.good sv true_to good,
    )
