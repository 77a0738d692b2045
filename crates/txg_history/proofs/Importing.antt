-- Where each record that was drawn is past, there is no stray; so imports that draw the very same record leave none.
use Rattle.std.proofs.Common.{◌≡◌, ◌⊎◌, ◌<◌, ◌≤◌, List, [], ◌∷◌, ◌++◌, refl, sym, ap, ◌∙◌, subst, inl, inr, arith, ⊎_elim}
use Rattle.std.specs.List.{AllByRecursion}
use Rattle.txg_history.specs.Contents.{BegunAt}
use Rattle.txg_history.specs.Events.{Event, Known, Begins, Acks, Opens}
use Rattle.txg_history.specs.Imports.{IsPast, DrawsPast, DrawsJust}
use Rattle.txg_history.specs.Moves.{May, Mays}
use Rattle.txg_history.specs.Pages.{Codec}
use Rattle.txg_history.specs.Pools.{Pool, after, pool_after}
use Rattle.txg_history.specs.Premises.{AreOurs, HasNoStray, WasAcked, WasMissed}
use Rattle.txg_history.specs.Records.{Rec, IsIn, number_of}
use Rattle.txg_history.specs.Survival.{Survives}
use Rattle.txg_history.proofs.Containing.{live_contents}
use Rattle.txg_history.proofs.Folding.{mays_first, mays_second}
use Rattle.txg_history.proofs.Listing.{only_one}
use Rattle.txg_history.proofs.Moving.{event_survives}
use Rattle.txg_history.proofs.Straying.{missed_by, no_stray}
use Rattle.txg_history.proofs.Surviving.{history_survives}

-- The acknowledged record's number never falls.
acked_rises_by : (c : Codec) (v : Event) (p : Pool) → Survives c p → May c p v → number_of p.acked ≤ number_of (after v p).acked
acked_rises_by c (Acks q) p sv may = sv.order.not_below q (subst (IsIn q) (sym may.newest) (inl refl))
acked_rises_by c v p sv may = omega arith

pub acked_rises : (c : Codec) (vs : List Event) (p : Pool) → Survives c p → Mays c p vs → number_of p.acked ≤ number_of (pool_after vs p).acked
acked_rises c [] p sv mays = omega arith
acked_rises c (v ∷ vs) p sv mays =
    let now = acked_rises_by c v p sv mays.0 in
    let later = acked_rises c vs (after v p) (event_survives c p v sv mays.0) mays.1 in omega (arith, now, later)

-- what is so of all events is so of one among them
all_at : (Kind : Event → Type 0) (before : List Event) (v : Event) (later : List Event) → AllByRecursion Kind (before ++ (v ∷ later)) → Kind v
all_at Kind [] v later all = all.0
all_at Kind (w ∷ before) v later all = all_at Kind before v later all.1

all_front : (Kind : Event → Type 0) (first second : List Event) → AllByRecursion Kind (first ++ second) → AllByRecursion Kind first
all_front Kind [] second all = tt
all_front Kind (v ∷ first) second all = (all.0, all_front Kind first second all.1)

-- A missed record was live before these events, above the acknowledged one, or was drawn among them.
missed_from : (c : Codec) (p : Pool) (vs : List Event) (s : Rec) → Survives c p → Mays c p vs → (w : WasMissed p vs s)
    → (IsIn s p.live × (number_of p.acked < number_of s)) ⊎ BegunAt p.written p.group.content w.before s
missed_from c p vs s sv mays w = ⊎_elim (λ i. inl (i, high)) (λ b. inr b) (live_contents c w.before p s sv before w.was_live)
  where
    all : Mays c p (w.before ++ (Opens w.opened ∷ w.later))
    all = subst (Mays c p) w.all mays

    before : Mays c p w.before
    before = mays_first c w.before (Opens w.opened ∷ w.later) p all

    opened : IsIn w.opened (pool_after w.before p).live
    opened = (mays_second c w.before (Opens w.opened ∷ w.later) p all).0

    high : number_of p.acked < number_of s
    high = let rises = acked_rises c w.before p sv before in
        let low = (history_survives c w.before p sv before).order.not_below w.opened opened in let lt = w.lower in omega (arith, rises, low, lt)

-- Where each record that may have been missed is past, there is no stray.
pub past_leave_none : (c : Codec) (p : Pool) (vs : List Event) (known : Known) → Survives c p → Mays c p vs
    → ((r : Rec) → IsIn r p.live → number_of p.acked < number_of r → IsPast (pool_after vs p) r)
    → ((r : Rec) → IsIn r p.missed → IsPast (pool_after vs p) r) → AllByRecursion (DrawsPast (pool_after vs p)) vs
    → AreOurs c (pool_after vs p) known → HasNoStray c.head_of (pool_after vs p) known
past_leave_none c p vs known sv mays live missed drawn ours = no_stray c behind known (history_survives c vs p sv mays) ours
    (λ d u config s verified is was above. acked s above (past s was))
  where
    behind : Pool
    behind = pool_after vs p

    acked : (s : Rec) → number_of behind.acked ≤ number_of s → IsPast behind s → WasAcked behind s
    acked s above (inl is) = is
    acked s above (inr below) = absurd (omega (arith, above, below))

    begun : (s : Rec) (w : WasMissed p vs s) → BegunAt p.written p.group.content w.before s → IsPast behind s
    begun s w b = all_at (DrawsPast behind) b.before (Begins s) b.later (subst (AllByRecursion (DrawsPast behind)) b.all
        (all_front (DrawsPast behind) w.before (Opens w.opened ∷ w.later) (subst (AllByRecursion (DrawsPast behind)) w.all drawn)))

    past : (s : Rec) → IsIn s behind.missed → IsPast behind s
    past s i = ⊎_elim (λ old. missed s old) (λ w. ⊎_elim (λ was. live s was.0 was.1) (λ b. begun s w b) (missed_from c p vs s sv mays w)) (missed_by vs p s i)

-- records of q's bytes are past where q was acknowledged
just_past : (q : Rec) (behind : Pool) (vs : List Event) → IsIn q behind.acks → AllByRecursion (DrawsJust q) vs → AllByRecursion (DrawsPast behind) vs
just_past q behind [] acked all = tt
just_past q behind (Begins r ∷ vs) acked all = (inl (record { twin = q; acked = acked; are = all.0 }), just_past q behind vs acked all.1)
just_past q behind (v ∷ vs) acked all = (tt, just_past q behind vs acked all.1)

-- Imports that draw the very same record leave no stray.
pub imports_leave_none : (c : Codec) (p : Pool) (r q : Rec) (vs : List Event) (known : Known) → Survives c p → p.live ≡ r ∷ [] → p.missed ≡ []
    → AllByRecursion (DrawsJust q) vs → Mays c p vs → IsIn q (pool_after vs p).acks
    → AreOurs c (pool_after vs p) known → HasNoStray c.head_of (pool_after vs p) known
imports_leave_none c p r q vs known sv live missed just mays acked ours = past_leave_none c p vs known sv mays
    (λ s i above. absurd (not_above s i above)) (λ s i. absurd (subst (IsIn s) missed i)) (just_past q (pool_after vs p) vs acked just) ours
  where
    acked_r : p.acked ≡ r
    acked_r = only_one (λ s. s ≡ r) r p.acked refl (subst (IsIn p.acked) live sv.order.acked_live)

    is_r : (s : Rec) → IsIn s p.live → s ≡ r
    is_r s i = only_one (λ s. s ≡ r) r s refl (subst (IsIn s) live i)

    not_above : (s : Rec) → IsIn s p.live → number_of p.acked < number_of s → ⊥
    not_above s i above = let e = ap number_of (is_r s i ∙ sym acked_r) in omega (arith, e, above)
