-- A host goes on knowing a pool behind acts of other pools, and behind walks of its own.
use Rattle.std.proofs.Common.{◌≡◌, ◌≢◌, ◌⊎◌, inl, inr, ℕ, ◌<◌, ◌==◌, Bool, true, false, not, cond, List, [], ◌∷◌, ◌++◌, map, take, zero, suc, Some, None, refl, sym, ap, ◌∙◌, subst}
use Rattle.std.specs.List.{AllByRecursion, filter}
use Rattle.std.specs.Str.{bytes_eq}
use Rattle.mp_base.specs.declared.number.Guid.{Guid}
use Rattle.bank_core.specs.Disk.{Noted, IsClean, replay, run}
use Rattle.label_store.specs.declared.uberblock.Uberblock.{Uberblock}
use Rattle.label_store.specs.Plans.{blank_uberblock}
use Rattle.label_store.specs.Records.{place_at}
use Rattle.label_store.specs.Rounds.{uberblock_of}
use Rattle.label_store.specs.Uberblock.{IsUberblock}
use Rattle.txg_history.specs.Events.{Event, Known, Calls, Looks, Opens, Loses, as_events}
use Rattle.txg_history.specs.Groups.{at_device}
use Rattle.txg_history.specs.Moves.{Mays}
use Rattle.txg_history.specs.Pages.{Codec}
use Rattle.txg_history.specs.Pools.{Pool, after, pool_after, other_than, drawn, seat}
use Rattle.txg_history.specs.Premises.{AreNotTorn}
use Rattle.txg_history.specs.Records.{Rec, IsIn}
use Rattle.txg_history.specs.Survival.{Survives}
use Rattle.txg_history.proofs.Logging.{by_bool, same_device, true_not_false, not_true}
use Rattle.txg_history.proofs.Moving.{event_survives}
use Rattle.txg_history.proofs.Yields.{ring_known}
use Rattle.pool_moves.specs.FreezeRow.{is_dev}
use Rattle.pool_moves.specs.Keeping.{Kept, Admits, Walks, IsNotFoundAt}
use Rattle.pool_moves.specs.Leaves.{LeafSeen, Seat, At, Adrift, told, leaf_seen}
use Rattle.pool_moves.specs.Moves.{Move, Makes, Lose, Comes, events_of, leaf_step, state_step, after_move}
use Rattle.pool_moves.specs.ReadRow.{made_in}
use Rattle.pool_moves.specs.Rosters.{roster_after}
use Rattle.pool_moves.specs.States.{ScanSeen, PoolState, Side}
use Rattle.pool_moves.proofs.Keeping.{move_keeps}
use Rattle.pool_moves.proofs.Rosters.{roster_goes_on}
use Rattle.pool_runs.specs.Acts.{Act, Hears, Bare, Does, Looked, Shows, Reads_as, Enters, Takes, Bears, Closes, does, read_by, events_for, pool_by, pool_along}
use Rattle.pool_runs.specs.Fairness.{IsFair, AreFair}
use Rattle.pool_runs.specs.Hosts.{Host, IsOpen, is_of, moved, host_by, host_along}
use Rattle.pool_runs.specs.Knowing.{HasSeats, HasRoster, IsOwnMove, IsShown, IsTrueLook, HasNoLeafAt, IsOwnAct, AreOwnActs}
use Rattle.pool_runs.proofs.Acting.{same_number, other_number, own_events, other_events, move_sectors, move_size, move_number, calls_number}
use Rattle.pool_runs.proofs.Known.{Knows, MayActs}
use Rattle.pool_runs.proofs.Sparing.{other_call}
use Rattle.pool_moves.proofs.Tests.{some_same}

-- Fronts.
pub acts_keep : (c : Codec) (h : Host) (p : Pool) (acts : List Act) → Knows c h p → MayActs c h p acts → (i : ℕ) → AreFair c p (take i acts)
    → Knows c (host_along (take i acts) h) (pool_along (take i acts) p)
acts_keep c h p acts knows may zero fair = knows
acts_keep c h p [] knows may (suc i) fair = knows
acts_keep c h p (act ∷ acts) knows may (suc i) fair = let now = may fair.0 in acts_keep c (host_by act h) (pool_by act p) acts now.1 now.2 i fair.1

-- some acts, and more
pub may_more : (c : Codec) (h : Host) (p : Pool) (first second : List Act) → MayActs c h p first
    → (AreFair c p first → Knows c (host_along first h) (pool_along first p) → MayActs c (host_along first h) (pool_along first p) second)
    → Knows c h p → MayActs c h p (first ++ second)
may_more c h p [] second may more knows = more tt knows
may_more c h p (act ∷ first) second may more knows = λ fair. let now = may fair in
    (now.0, now.1, may_more c (host_by act h) (pool_by act p) first second now.2 (λ rest known. more (fair, rest) known) now.1)

-- Open pools.
pub step_number : (v : Move) (s : PoolState) → (state_step v s).core.pool ≡ s.core.pool
step_number (Makes noted) s = refl
step_number v s = refl

pub step_name : (v : Move) (s : PoolState) → (state_step v s).core.name ≡ s.core.name
step_name (Makes noted) s = refl
step_name v s = refl

pub moved_own : (g : ℕ) (v : Move) (s : PoolState) → s.core.pool.0 ≡ g → moved g v s ≡ state_step v s
moved_own g v s is = ap (λ t. cond t (state_step v s) s) (same_number s.core.pool.0 g is)

moved_other : (g : ℕ) (v : Move) (s : PoolState) → s.core.pool.0 ≢ g → moved g v s ≡ s
moved_other g v s off = ap (λ t. cond t (state_step v s) s) (other_number s.core.pool.0 g off)

pub moved_number : (g : ℕ) (v : Move) (s : PoolState) → (moved g v s).core.pool ≡ s.core.pool
moved_number g v s = by (is_of g s)
  where
    by : (t : Bool) → (cond t (state_step v s) s).core.pool ≡ s.core.pool
    by true = step_number v s
    by false = refl

pub moved_name : (g : ℕ) (v : Move) (s : PoolState) → (moved g v s).core.name ≡ s.core.name
moved_name g v s = by (is_of g s)
  where
    by : (t : Bool) → (cond t (state_step v s) s).core.name ≡ s.core.name
    by true = step_name v s
    by false = refl

-- what is open behind a move was open before it
record WasOpen (g : ℕ) (v : Move) (pools : List PoolState) (s : PoolState) : Type 0 where
  u : PoolState
  open_before : IsOpen u pools
  is : s ≡ moved g v u

was_open : (g : ℕ) (v : Move) (s : PoolState) (pools : List PoolState) → IsOpen s (map (moved g v) pools) → WasOpen g v pools s
was_open g v s [] is = absurd is
was_open g v s (u ∷ pools) (inl is) = record { u = u; open_before = inl refl; is = is }
was_open g v s (u ∷ pools) (inr is) = let was = was_open g v s pools is in record { u = was.u; open_before = inr was.open_before; is = was.is }

pub open_moved : (g : ℕ) (v : Move) (s : PoolState) (pools : List PoolState) → IsOpen s pools → IsOpen (moved g v s) (map (moved g v) pools)
open_moved g v s [] is = absurd is
open_moved g v s (u ∷ pools) (inl is) = inl (ap (moved g v) is)
open_moved g v s (u ∷ pools) (inr is) = inr (open_moved g v s pools is)

-- another pool's move leaves the open pools of this number
still_open : (g : ℕ) (v : Move) (s : PoolState) (pools : List PoolState) → IsOpen s (map (moved g v) pools) → s.core.pool.0 ≢ g → IsOpen s pools
still_open g v s pools is off = let was = was_open g v s pools is in
    let number : was.u.core.pool ≡ s.core.pool = sym (moved_number g v was.u) ∙ sym (ap (λ x. x.core.pool) was.is) in
    subst (λ x. IsOpen x pools) (sym (was.is ∙ moved_other g v was.u (λ e. off (sym (ap (λ n. n.0) number) ∙ e)))) was.open_before

open_by : (t : Bool) (s u : PoolState) (more pools : List PoolState) → (IsOpen s more → IsOpen s pools) → IsOpen s (cond t (u ∷ more) more) → (s ≡ u) ⊎ IsOpen s pools
open_by true s u more pools rest (inl e) = inl e
open_by true s u more pools rest (inr is) = inr (rest is)
open_by false s u more pools rest is = inr (rest is)

pub open_kept : (keep : PoolState → Bool) (s : PoolState) (pools : List PoolState) → IsOpen s (filter keep pools) → IsOpen s pools
open_kept keep s [] is = absurd is
open_kept keep s (u ∷ pools) is = open_by (keep u) s u (filter keep pools) pools (λ more. open_kept keep s pools more) is

-- A pool's number.
pub act_number : (act : Act) (p : Pool) → (pool_by act p).pool ≡ p.pool
act_number (Bare noted) p = refl
act_number (Does g v) p = by (p.pool.0 == g)
  where
    by : (t : Bool) → (pool_after (cond t (events_of v p) (as_events (made_in (v ∷ [])))) p).pool ≡ p.pool
    by true = move_number v p
    by false = calls_number (made_in (v ∷ [])) p
act_number (Looked name known) p = by (bytes_eq p.name name)
  where
    by : (t : Bool) → (pool_after (cond t (Looks known ∷ []) []) p).pool ≡ p.pool
    by true = refl
    by false = refl
act_number (Reads_as opening) p = by (p.pool.0 == opening.found.pool.0)
  where
    by : (t : Bool) → (pool_after (cond t (Opens (read_by opening p) ∷ []) []) p).pool ≡ p.pool
    by true = refl
    by false = refl
act_number (Takes g d) p = by (p.pool.0 == g)
  where
    by : (t : Bool) → (pool_after (cond t [] (Loses d ∷ [])) p).pool ≡ p.pool
    by true = refl
    by false = refl
act_number act p = refl

pub acts_number : (acts : List Act) (p : Pool) → (pool_along acts p).pool ≡ p.pool
acts_number [] p = refl
acts_number (act ∷ acts) p = acts_number acts (pool_by act p) ∙ act_number act p

-- Behind events the members still stand on a list.
pub roster_by_events : (vs : List Event) (p : Pool) → HasRoster p → HasRoster (pool_after vs p)
roster_by_events vs p has = (roster_after vs has.0, roster_goes_on vs p has.0 has.1)

-- One call.
call_seats : (c : Codec) (s : PoolState) (p : Pool) (noted : Noted) → Mays c p (Calls noted ∷ []) → HasSeats c s p → HasSeats c s (after (Calls noted) p)
call_seats c s p noted may has = (has.0, move_keeps c (Makes noted) s (record { pool = p; seats = has.0 }) may tt has.1)

pub call_known : (c : Codec) (h : Host) (p : Pool) (noted : Noted) → Mays c p (Calls noted ∷ []) → Knows c h p → Knows c (record h { disk = run (noted ∷ []) h.disk }) (after (Calls noted) p)
call_known c h p noted may knows = record {
  survives = event_survives c p (Calls noted) knows.survives may.0;
  roster = roster_by_events (Calls noted ∷ []) p knows.roster;
  stands = λ s is number. call_seats c s p noted may (knows.stands s is number);
  once = knows.once;
  apart = knows.apart;
  sizes = knows.sizes;
  disk = λ d s one. ap (λ x. replay (noted ∷ []) d s x) (knows.disk d s one);
}

calls_known : (c : Codec) (made : List Noted) (h : Host) (p : Pool) → Mays c p (as_events made) → Knows c h p → Knows c (record h { disk = run made h.disk }) (pool_after (as_events made) p)
calls_known c [] h p may knows = knows
calls_known c (noted ∷ made) h p may knows = calls_known c made (record h { disk = run (noted ∷ []) h.disk }) (after (Calls noted) p) may.1 (call_known c h p noted (may.0, tt) knows)

-- Other open pools come and go.
pub pools_known : (c : Codec) (h : Host) (p : Pool) (pools : List PoolState) → ((s : PoolState) → IsOpen s pools → s.core.pool.0 ≡ p.pool.0 → IsOpen s h.pools) → Knows c h p
    → Knows c (record h { pools = pools }) p
pools_known c h p pools were knows = record {
  survives = knows.survives;
  roster = knows.roster;
  stands = λ s is number. knows.stands s (were s is number) number;
  once = λ s u is at one other. knows.once s u (were s is one) (were u at other) one other;
  apart = knows.apart;
  sizes = knows.sizes;
  disk = knows.disk;
}

-- another pool's state is put before the others
other_first : (n : ℕ) (g : ℕ) (new : PoolState) (pools : List PoolState) → new.core.pool.0 ≡ g → g ≢ n → (s : PoolState) → IsOpen s (new ∷ pools) → s.core.pool.0 ≡ n → IsOpen s pools
other_first n g new pools is off s (inl e) number = absurd (off (sym is ∙ (sym (ap (λ x. x.core.pool.0) e) ∙ number)))
other_first n g new pools is off s (inr more) number = more

-- Whose a device is.
owned_known : (c : Codec) (h : Host) (p : Pool) (g d : ℕ) → p.member d ≡ false → Knows c h p → Knows c (record h { owner = at_device d (Some g) h.owner }) p
owned_known c h p g d none knows = record {
  survives = knows.survives;
  roster = knows.roster;
  stands = knows.stands;
  once = knows.once;
  apart = λ e k is off. by_bool (d == e) (λ same. subst (λ x. p.member x ≡ false) (same_device d e same) none)
      (λ away. knows.apart e k (sym (ap (λ t. cond t (Some g) (h.owner e)) away) ∙ is) off);
  sizes = knows.sizes;
  disk = knows.disk;
}

-- a device that shows another pool's identity is no member
ring_pool : (c : Codec) (p : Pool) (known : Known) (d place : ℕ) (u : Uberblock) (bytes : List ℕ) → Survives c p → AreNotTorn p known → p.member d ≡ true → place < 128
    → known d (place_at (p.size d) place) ≡ Some bytes → IsUberblock u bytes → u.pool ≡ p.pool
ring_pool c p known d place u bytes sv torn is inside read correct =
    of (ring_known (drawn p) p.pool (seat p d) _ _ bytes (sv.rings d place is inside) (torn d place bytes u is inside read correct) u correct)
  where
    of : ((r : Rec) × IsIn r (drawn p) × (u ≡ uberblock_of r.commit (seat p d))) ⊎ (u ≡ blank_uberblock p.pool (p.guid d)) → u.pool ≡ p.pool
    of (inl one) = ap (λ u. u.pool) one.2 ∙ sv.pools one.0 one.1
    of (inr e) = ap (λ u. u.pool) e

shown_other : (c : Codec) (h : Host) (p : Pool) (g d : ℕ) (known : Known) → Knows c h p → AreNotTorn p known → IsShown h.table g d known → g ≢ p.pool.0 → p.member d ≡ false
shown_other c h p g d known knows torn shown off = not_true (p.member d) (λ is. off (sym shown.pool_is ∙ ap (λ n. n.0)
    (ring_pool c p known d shown.place shown.u shown.bytes knows.survives torn is shown.inside
    (ap (λ n. known d (place_at n shown.place)) (knows.sizes d shown.here) ∙ shown.is_read) shown.correct)))

-- A device that another pool stamps is lost.
same_leaves : (d number first : ℕ) (scan : ScanSeen) (leaves : List LeafSeen) → map (leaf_step (Lose d) number first scan) leaves ≡ leaves
same_leaves d number first scan [] = refl
same_leaves d number first scan (leaf ∷ leaves) = ap (λ more. leaf ∷ more) (same_leaves d number first scan leaves)

lose_state : (d : ℕ) (s : PoolState) → state_step (Lose d) s ≡ s
lose_state d s = ap (λ leaves. record s { core = record (s.core) { leaves = leaves } }) (same_leaves d s.core.number s.core.group.first s.core.scan s.core.leaves)

not_found : (d : ℕ) (frozen : Bool) (p : Pool) (seats : List Seat) → AllByRecursion (λ leaf. is_dev d leaf.dev ≡ false) (map (leaf_seen frozen (told p)) seats)
    → AllByRecursion (IsNotFoundAt d) seats
not_found d frozen p [] none = tt
not_found d frozen p (At e found own ∷ seats) none = ((λ same. not_true found (λ is. true_not_false (d == e) same (sym (ap (λ t. is_dev d (cond t (Some e) None)) is) ∙ none.0))), not_found d frozen p seats none.1)
not_found d frozen p (Adrift leaf ∷ seats) none = (tt, not_found d frozen p seats none.1)

lost_seats : (c : Codec) (s : PoolState) (p : Pool) (d : ℕ) → HasNoLeafAt d s → HasSeats c s p → HasSeats c s (after (Loses d) p)
lost_seats c s p d none has = let t : Side = record { pool = p; seats = has.0 } in (
  (after_move (Lose d) t).seats,
  subst (λ x. Kept c x (after_move (Lose d) t)) (lose_state d s)
      (move_keeps c (Lose d) s t (tt, tt) (not_found d p.group.frozen p has.0 (subst (λ core. AllByRecursion (λ leaf. is_dev d leaf.dev ≡ false) core.leaves) has.1.core none)) has.1),
)

lost_known : (c : Codec) (h : Host) (p : Pool) (g d : ℕ) → g ≢ p.pool.0 → ((s : PoolState) → IsOpen s h.pools → s.core.pool.0 ≢ g → HasNoLeafAt d s) → Knows c h p
    → Knows c (record h { owner = at_device d (Some g) h.owner }) (after (Loses d) p)
lost_known c h p g d off none knows = record {
  survives = event_survives c p (Loses d) knows.survives tt;
  roster = roster_by_events (Loses d ∷ []) p knows.roster;
  stands = λ s is number. lost_seats c s p d (none s is (λ e. off (sym e ∙ number))) (knows.stands s is number);
  once = knows.once;
  apart = λ e k is other. by_bool (d == e) (λ same. ap (λ t. cond t false (p.member e)) same)
      (λ away. ap (λ t. cond t false (p.member e)) away ∙ knows.apart e k (sym (ap (λ t. cond t (Some g) (h.owner e)) away) ∙ is) other);
  sizes = knows.sizes;
  disk = knows.disk;
}

-- An act of another pool.
same_pool_known : (c : Codec) (h : Host) (p q : Pool) → q ≡ p → Knows c h p → Knows c h q
same_pool_known c h p q is knows = subst (Knows c h) (sym is) knows

abbrev Acted : Codec → Host → Pool → Act → Type 0
Acted c h p act = Mays c p (events_for act p) × Knows c (host_by act h) (pool_by act p)

pub looked_acted : (c : Codec) (h : Host) (p : Pool) (known : Known) (t : Bool) → IsTrueLook h known → Knows c h p → Mays c p (cond t (Looks known ∷ []) []) × Knows c h (pool_after (cond t (Looks known ∷ []) []) p)
looked_acted c h p known true look knows = (
  (
    (λ d s bytes is clean. let one = look.here d s bytes is in
        look.reads d s bytes is (subst (λ x. IsClean x) (knows.disk d s one) clean) ∙ sym (ap (λ x. x.stable) (knows.disk d s one))),
    tt,
  ),
  knows,
)
looked_acted c h p known false look knows = (tt, knows)

does_acted : (c : Codec) (h : Host) (p : Pool) (g : ℕ) (v : Move) → g ≢ p.pool.0 → IsOwnMove g h.owner v → Knows c h p → Acted c h p (Does g v)
does_acted c h p g v off own knows =
    let may = calls_may v own in
    let events = other_events g v p (λ e. off (sym e)) in
    let behind : Knows c (record h { disk = run (made_in (v ∷ [])) h.disk }) (pool_after (as_events (made_in (v ∷ []))) p) = calls_known c (made_in (v ∷ [])) h p may knows in (
      subst (Mays c p) (sym events) may,
      subst (λ vs. Knows c (host_by (Does g v) h) (pool_after vs p)) (sym events)
          (pools_known c (record h { disk = run (made_in (v ∷ [])) h.disk }) (pool_after (as_events (made_in (v ∷ []))) p) (map (moved g v) h.pools)
          (λ s is number. still_open g v s h.pools is (λ e. off (sym e ∙ (number ∙ ap (λ n. n.0) (calls_number (made_in (v ∷ [])) p))))) behind),
    )
  where
    calls_may : (v : Move) → IsOwnMove g h.owner v → Mays c p (as_events (made_in (v ∷ [])))
    calls_may (Makes noted) own = other_call c g h.owner p noted knows.apart off own
    calls_may v own = tt

other_act : (c : Codec) (h : Host) (p : Pool) (g : ℕ) (act : Act) → g ≢ p.pool.0 → IsOwnAct g h act → IsFair c p act → Knows c h p → Acted c h p act
other_act c h p g (Hears second) off own fair knows = (
  tt,
  record {
    survives = knows.survives;
    roster = knows.roster;
    stands = knows.stands;
    once = knows.once;
    apart = knows.apart;
    sizes = knows.sizes;
    disk = knows.disk;
  },
)
other_act c h p g (Bare noted) off own fair knows = let may = other_call c g h.owner p noted knows.apart off own in (may, call_known c h p noted may knows)
other_act c h p g (Does k v) off own fair knows = does_acted c h p k v (λ e. off (sym own.0 ∙ e)) (subst (λ n. IsOwnMove n h.owner v) (sym own.0) own.1) knows
other_act c h p g (Looked name known) off own fair knows = looked_acted c h p known (bytes_eq p.name name) own knows
other_act c h p g (Shows k d known) off own fair knows = (tt, owned_known c h p k d (shown_other c h p g d known knows fair own.1 off) knows)
other_act c h p g (Reads_as opening) off own fair knows =
    let away = other_number p.pool.0 opening.found.pool.0 (λ e. off (sym own ∙ sym e)) in
    let events : events_for (Reads_as opening) p ≡ [] = ap (λ t. cond t (Opens (read_by opening p) ∷ []) []) away in
    (subst (Mays c p) (sym events) tt, subst (λ vs. Knows c h (pool_after vs p)) (sym events) knows)
other_act c h p g (Enters s) off own fair knows = (tt, pools_known c h p (s ∷ h.pools) (other_first p.pool.0 g s h.pools own off) knows)
other_act c h p g (Takes k d) off own fair knows =
    let away = other_number p.pool.0 k (λ e. off (sym own.0 ∙ sym e)) in
    let events : events_for (Takes k d) p ≡ Loses d ∷ [] = ap (λ t. cond t [] (Loses d ∷ [])) away in (
      subst (Mays c p) (sym events) (tt, tt),
      subst (λ vs. Knows c (host_by (Takes k d) h) (pool_after vs p)) (sym events)
          (lost_known c h p k d (λ e. off (sym own.0 ∙ e)) (λ s is other. own.1 s is (λ e. other (e ∙ sym own.0))) knows),
    )
other_act c h p g (Bears birth) off own fair knows = (tt, pools_known c h p (birth.state ∷ h.pools) (other_first p.pool.0 g birth.state h.pools own off) knows)
other_act c h p g (Closes k) off own fair knows = (tt, pools_known c h p (filter (λ s. not (is_of k s)) h.pools) (λ s is number. open_kept (λ s. not (is_of k s)) s h.pools is) knows)
other_act c h p g act off own fair knows = (tt, knows)

-- Acts of another pool.
pub other_may : (c : Codec) (h : Host) (p : Pool) (g : ℕ) (acts : List Act) → Knows c h p → g ≢ p.pool.0 → AreOwnActs g h acts → MayActs c h p acts
other_may c h p g [] knows off own = tt
other_may c h p g (act ∷ acts) knows off own = λ fair. let acted = other_act c h p g act off own.0 fair knows in
    (acted.0, acted.1, other_may c (host_by act h) (pool_by act p) g acts acted.1 (λ e. off (e ∙ ap (λ n. n.0) (act_number act p))) own.1)

-- A move of the pool's own open state.
kept_number : (c : Codec) (s : PoolState) (t : Side) → Kept c s t → s.core.pool ≡ t.pool.pool
kept_number c s t kept = ap (λ core. core.pool) kept.core

lost_member : (e d : ℕ) (member : ℕ → Bool) → member d ≡ false → at_device e false member d ≡ false
lost_member e d member none = by (e == d)
  where
    by : (t : Bool) → cond t false (member d) ≡ false
    by true = refl
    by false = none

other_member : (m : Guid) (guid : ℕ → Guid) (member : ℕ → Bool) (d : ℕ) → member d ≡ false → other_than m guid member d ≡ false
other_member m guid member d none = by ((guid d).0 == m.0)
  where
    by : (t : Bool) → cond t false (member d) ≡ false
    by true = refl
    by false = none

move_apart : (v : Move) (h : Host) (p : Pool) → IsOwnMove p.pool.0 h.owner v → ((d k : ℕ) → h.owner d ≡ Some k → k ≢ p.pool.0 → p.member d ≡ false)
    → (d k : ℕ) → h.owner d ≡ Some k → k ≢ p.pool.0 → (pool_after (events_of v p) p).member d ≡ false
move_apart (Makes noted) h p own apart d k is off = apart d k is off
move_apart (Lose e) h p own apart d k is off = lost_member e d p.member (apart d k is off)
move_apart (Comes i e m top was) h p own apart d k is off = by_bool (e == d)
    (λ same. absurd (off (some_same k p.pool.0 (sym is ∙ (ap h.owner (sym (same_device e d same)) ∙ own)))))
    (λ away. ap (λ t. cond t true (other_than m p.guid p.member d)) away ∙ other_member m p.guid p.member d (apart d k is off))
move_apart v h p own apart d k is off = apart d k is off

pub own_does : (c : Codec) (h : Host) (s : PoolState) (t : Side) (g : ℕ) (v : Move) → Knows c h t.pool → IsOpen s h.pools → t.pool.pool.0 ≡ g → Kept c s t → Mays c t.pool (events_of v t.pool) → Admits t v
    → IsOwnMove g h.owner v → Knows c (host_by (Does g v) h) (after_move v t).pool
own_does c h s t g v knows is number kept may ok own =
    let behind = move_keeps c v s t may ok kept in
    let mine : s.core.pool.0 ≡ t.pool.pool.0 = ap (λ n. n.0) (kept_number c s t kept) in
    let only : (x : PoolState) → IsOpen x (map (moved g v) h.pools) → x.core.pool.0 ≡ (after_move v t).pool.pool.0 → x ≡ state_step v s =
    λ x at same. let was = was_open g v x h.pools at in
    let before : was.u.core.pool.0 ≡ t.pool.pool.0 = sym (ap (λ n. n.0) (moved_number g v was.u)) ∙ (sym (ap (λ y. y.core.pool.0) was.is) ∙ (same ∙ ap (λ n. n.0) (move_number v t.pool))) in
    was.is ∙ (ap (moved g v) (knows.once was.u s was.open_before is before mine) ∙ moved_own g v s (mine ∙ number)) in record {
      survives = behind.survives;
      roster = roster_by_events (events_of v t.pool) t.pool knows.roster;
      stands = λ x at same. ((after_move v t).seats, subst (λ y. Kept c y (after_move v t)) (sym (only x at same)) behind);
      once = λ x y at there one other. only x at one ∙ sym (only y there other);
      apart = λ d k owned off. move_apart v h t.pool (subst (λ n. IsOwnMove n h.owner v) (sym number) own) knows.apart d k owned (λ e. off (e ∙ sym (ap (λ n. n.0) (move_number v t.pool))));
      sizes = λ d one. ap (λ f. f d) (move_size v t.pool) ∙ knows.sizes d one;
      disk = λ d x one. ap (λ f. f d x) (move_sectors v t.pool) ∙ ap (λ y. replay (made_in (v ∷ [])) d x y) (knows.disk d x one);
    }

-- A walk of it.
pub walk_may : (c : Codec) (h : Host) (s : PoolState) (t : Side) (g : ℕ) (vs : List Move) → Knows c h t.pool → IsOpen s h.pools → t.pool.pool.0 ≡ g → Kept c s t → Walks c t vs → AreOwnActs g h (does g vs)
    → MayActs c h t.pool (does g vs)
walk_may c h s t g [] knows is number kept walks own = tt
walk_may c h s t g (v ∷ vs) knows is number kept walks own = λ fair.
    let events = own_events g v t.pool number in
    let pool_is : pool_by (Does g v) t.pool ≡ (after_move v t).pool = ap (λ vs. pool_after vs t.pool) events in
    let behind = own_does c h s t g v knows is number kept walks.0.0 walks.0.1 own.0.1 in
    let mine : s.core.pool.0 ≡ g = ap (λ n. n.0) (kept_number c s t kept) ∙ number in (
      subst (Mays c t.pool) (sym events) walks.0.0,
      subst (Knows c (host_by (Does g v) h)) (sym pool_is) behind,
      subst (λ q. MayActs c (host_by (Does g v) h) q (does g vs)) (sym pool_is)
          (walk_may c (host_by (Does g v) h) (state_step v s) (after_move v t) g vs behind
          (subst (λ x. IsOpen x (map (moved g v) h.pools)) (moved_own g v s mine) (open_moved g v s h.pools is))
          (ap (λ n. n.0) (move_number v t.pool) ∙ number) (move_keeps c v s t walks.0.0 walks.0.1 kept) walks.1 own.1),
    )
