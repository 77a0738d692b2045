-- What a stray is, told by the history: live when an opening read a lower record, and never acknowledged.
use Rattle.std.proofs.Common.{◌≡◌, ◌⊎◌, ℕ, ◌≤◌, ◌<◌, nat_lt, Bool, true, false, cond, List, [], ◌∷◌, ◌++◌, refl, sym, ap, subst, arith, inl, inr}
use Rattle.std.proofs.lemmas.Bool.Decides.{nat_tests}
use Rattle.txg_history.specs.Events.{Event, Known, Begins, Acks, Opens}
use Rattle.label_store.specs.declared.uberblock.Uberblock.{Uberblock}
use Rattle.txg_history.specs.Openings.{IsVerifiedOn, IsDrawnRecord}
use Rattle.txg_history.specs.Pages.{Codec}
use Rattle.txg_history.specs.Pools.{Pool, after, pool_after}
use Rattle.txg_history.specs.Premises.{AreTwins, HasNoStray, HasTwin, WasAcked, WasMissed}
use Rattle.txg_history.specs.Records.{Rec, IsIn, number_of, above}
use Rattle.txg_history.specs.Survival.{Survives}
use Rattle.txg_history.proofs.Listing.{in_append}

-- A record that was acknowledged, told by its bytes, is below the acknowledged one, or is the very same.
pub acked_below : (c : Codec) (p : Pool) (r : Rec) → Survives c p → WasAcked p r → (number_of r < number_of p.acked) ⊎ HasTwin p r
acked_below c p r sv w = of (sv.order.acks_below w.twin w.acked)
  where
    same_number : number_of w.twin ≡ number_of r
    same_number = ap (λ n. n.0) w.are.number_is

    of : (w.twin ≡ p.acked) ⊎ (number_of w.twin < number_of p.acked) → (number_of r < number_of p.acked) ⊎ HasTwin p r
    of (inl e) = inr (record { twin = w.twin; is_live = subst (λ x. IsIn x p.live) (sym e) sv.order.acked_live; are = w.are })
    of (inr lt) = inl (subst (λ n. n < number_of p.acked) same_number lt)

-- A record that is drawn again, the very same, is live.
pub drawn_again : (p : Pool) (q r : Rec) → AreTwins r q → HasTwin (after (Begins q) p) r × HasTwin (after (Acks q) p) r
drawn_again p q r are = (record { twin = q; is_live = inl refl; are = are }, record { twin = q; is_live = inl refl; are = are })

pub above_in : (n : ℕ) (r : Rec) (rs : List Rec) → IsIn r (above n rs) → IsIn r rs × (n < number_of r)
above_in n r [] i = absurd i
above_in n r (q ∷ rs) i = by_test (nat_lt n (number_of q)) refl (λ j. above_in n r rs j) i
  where
    by_test : (t : Bool) → nat_lt n (number_of q) ≡ t → (IsIn r (above n rs) → IsIn r rs × (n < number_of r)) → IsIn r (cond t (q ∷ above n rs) (above n rs))
        → ((r ≡ q) ⊎ IsIn r rs) × (n < number_of r)
    by_test true is more (inl e) = (inl e, subst (λ q. n < number_of q) (sym e) (let lt : n < number_of q = grind (arith, nat_tests) in lt))
    by_test true is more (inr i) = let m = more i in (inr m.0, m.1)
    by_test false is more i = let m = more i in (inr m.0, m.1)

-- a miss among later events
later_missed : (v : Event) (vs : List Event) (p : Pool) (r : Rec) → WasMissed (after v p) vs r → WasMissed p (v ∷ vs) r
later_missed v vs p r w = record {
  before = v ∷ w.before;
  opened = w.opened;
  later = w.later;
  all = ap
      (λ l. v ∷ l) w.all;
  was_live = w.was_live;
  lower = w.lower;
}

more_missed : (v : Event) (vs : List Event) (p : Pool) (r : Rec) → IsIn r p.missed ⊎ WasMissed (after v p) vs r → IsIn r p.missed ⊎ WasMissed p (v ∷ vs) r
more_missed v vs p r (inl i) = inl i
more_missed v vs p r (inr w) = inr (later_missed v vs p r w)

-- A record is missed exactly by an opening that reads a lower one while it is live, on whatever device.
pub missed_by : (vs : List Event) (p : Pool) (r : Rec) → IsIn r (pool_after vs p).missed → IsIn r p.missed ⊎ WasMissed p vs r
missed_by [] p r i = inl i
missed_by (Opens q ∷ vs) p r i = of (missed_by vs (after (Opens q) p) r i)
  where
    now : IsIn r (above (number_of q) p.live) ⊎ IsIn r p.missed → IsIn r p.missed ⊎ WasMissed p (Opens q ∷ vs) r
    now (inl a) = let is = above_in (number_of q) r p.live a in inr (record { before = []; opened = q; later = vs; all = refl; was_live = is.0; lower = is.1 })
    now (inr old) = inl old

    of : IsIn r (above (number_of q) p.live ++ p.missed) ⊎ WasMissed (after (Opens q) p) vs r → IsIn r p.missed ⊎ WasMissed p (Opens q ∷ vs) r
    of (inl i) = now (in_append r (above (number_of q) p.live) p.missed i)
    of (inr w) = inr (later_missed (Opens q) vs p r w)
missed_by (v ∷ vs) p r i = more_missed v vs p r (missed_by vs (after v p) r i)

-- Where each missed record that is found, and isn't below the acknowledged one, was acknowledged, there is no stray.
pub no_stray : (c : Codec) (p : Pool) (known : Known) → Survives c p
    → ((d : ℕ) (u : Uberblock) (config : List ℕ) → p.member d ≡ false
    → IsVerifiedOn c.head_of p.size known p.name d u config → (r : Rec) × IsDrawnRecord p u config r)
    → ((d : ℕ) (u : Uberblock) (config : List ℕ) (r : Rec) → IsVerifiedOn c.head_of p.size known p.name d u config
    → IsDrawnRecord p u config r → IsIn r p.missed
    → number_of p.acked ≤ number_of r → WasAcked p r) → HasNoStray c.head_of p known
no_stray c p known sv others were = record {
  others = others;
  passed = λ d u config r v is given missed. by_number (nat_lt (number_of r) (number_of p.acked)) refl
      (λ above. acked_below c p r sv (were d u config r v is missed above));
}
  where
    by_number : {r : Rec} (t : Bool) → nat_lt (number_of r) (number_of p.acked) ≡ t
        → (number_of p.acked ≤ number_of r → (number_of r < number_of p.acked) ⊎ HasTwin p r)
        → (number_of r < number_of p.acked) ⊎ HasTwin p r
    by_number {r} true is above = inl (let lt : number_of r < number_of p.acked = grind (arith, nat_tests) in lt)
    by_number {r} false is above = above (let le : number_of p.acked ≤ number_of r = grind (arith, nat_tests) in le)
