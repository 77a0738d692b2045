-- Each event that a pool may have keeps the invariant.
use Rattle.std.proofs.Common.{◌≡◌, ◌⊎◌, ℕ, ◌+◌, ◌≤◌, ◌<◌, ◌==◌, nat_lt, Bool, true, false, cond, List, [], ◌∷◌, ◌++◌, Option, refl, sym, ap, ◌∙◌, subst, inl, inr, arith, ⊎_elim}
use Rattle.std.proofs.lemmas.Bool.Decides.{nat_tests}
use Rattle.bank_core.specs.Standing.{touches}
use Rattle.bank_core.specs.Disk.{Sectors, Noted, after_call}
use Rattle.label_store.specs.declared.rule.Head.{Head}
use Rattle.label_store.specs.declared.uberblock.Uberblock.{Uberblock}
use Rattle.label_store.specs.Layout.{slot_of}
use Rattle.label_store.specs.Records.{place_at}
use Rattle.label_store.specs.Rounds.{uberblock_of}
use Rattle.label_store.specs.Uberblock.{IsUberblock}
use Rattle.pool_history.specs.Events.{Event, Calls, Accepts, Looks, Opens, Begins, Third, Ends, Acks, Loses, Stops}
use Rattle.pool_history.specs.Labels.{Status, Odd, Even, Lost, begun}
use Rattle.pool_history.specs.Moves.{IsSparing, IsDrawnUp, MayStand, MayAck, MayStop, May, puts}
use Rattle.pool_history.specs.Needs.{Held, NeedsLabel, NeedsCell}
use Rattle.pool_history.specs.Pools.{Pool, drawn, seat, after, noted_since, at_device}
use Rattle.pool_history.specs.Records.{Rec, IsIn, number_of, takes_part, data_start, above, rest_of}
use Rattle.pool_history.specs.Survival.{Survives, Fits, IsOf, IsAmong, IsDrawnUber, IsKnownUber, IsNoted, IsKnownRing}
use Rattle.pool_history.proofs.OnePool.{pools_kept}
use Rattle.pool_history.proofs.Folding.{taken_false}
use Rattle.pool_history.proofs.Holding.{AreAll, hurt_held, call_held, stop_held, noted_all}

true_false : {A : Type 0} → true ≡ false → A
true_false e = absurd (cc)

false_true : {A : Type 0} → false ≡ true → A
false_true e = absurd (cc)

same_head : (q r : Rec) (qs rs : List Rec) → q ∷ qs ≡ r ∷ rs → q ≡ r
same_head q r qs rs e = cc

same_rest : (q r : Rec) (qs rs : List Rec) → q ∷ qs ≡ r ∷ rs → qs ≡ rs
same_rest q r qs rs e = cc

-- one of the first or of the second
pub in_append : (r : Rec) (first second : List Rec) → IsIn r (first ++ second) → IsIn r first ⊎ IsIn r second
in_append r [] second i = inr i
in_append r (q ∷ first) second (inl e) = inl (inl e)
in_append r (q ∷ first) second (inr i) = ⊎_elim (λ a. inl (inr a)) (λ b. inr b) (in_append r first second i)

pub in_first : (r : Rec) (first second : List Rec) → IsIn r first → IsIn r (first ++ second)
in_first r [] second i = absurd i
in_first r (q ∷ first) second (inl e) = inl e
in_first r (q ∷ first) second (inr i) = inr (in_first r first second i)

pub in_second : (r : Rec) (first second : List Rec) → IsIn r second → IsIn r (first ++ second)
in_second r [] second i = i
in_second r (q ∷ first) second i = inr (in_second r first second i)

-- those that are not above a number are below or at it
pub above_or : (n : ℕ) (r : Rec) (rs : List Rec) → IsIn r rs → (number_of r ≤ n) ⊎ IsIn r (above n rs)
above_or n r [] i = absurd i
above_or n r (q ∷ rs) i = by_test (nat_lt n (number_of q)) refl (λ j. above_or n r rs j) i
  where
    by_test : (t : Bool) → nat_lt n (number_of q) ≡ t → (IsIn r rs → (number_of r ≤ n) ⊎ IsIn r (above n rs)) → (r ≡ q) ⊎ IsIn r rs
        → (number_of r ≤ n) ⊎ IsIn r (cond t (q ∷ above n rs) (above n rs))
    by_test true is more (inl e) = inr (inl e)
    by_test true is more (inr i) = ⊎_elim (λ le. inl le) (λ a. inr (inr a)) (more i)
    by_test false is more (inl e) = inl (subst (λ q. number_of q ≤ n) (sym e) (let le : number_of q ≤ n = grind (arith, nat_tests) in le))
    by_test false is more (inr i) = more i

-- a member's device has the same size in the next run
size_stays : (p : Pool) (size : ℕ → ℕ) (d : ℕ) → p.member d ≡ true → cond (p.member d) (p.size d) (size d) ≡ p.size d
size_stays p size d is = rw is refl

-- no event changes a member's number
guids_after : (v : Event) (p : Pool) → (after v p).guid ≡ p.guid
guids_after (Calls noted) p = refl
guids_after (Accepts a block) p = refl
guids_after (Looks known) p = refl
guids_after (Opens r) p = refl
guids_after (Begins q) p = refl
guids_after (Third q d) p = refl
guids_after (Ends q d) p = refl
guids_after (Acks q) p = refl
guids_after (Loses d) p = refl
guids_after (Stops sectors size) p = refl

takes_after : (v : Event) (p : Pool) (r : Rec) (d : ℕ) → takes_part r (p.guid d) ≡ true → takes_part r ((after v p).guid d) ≡ true
takes_after v p r d takes = subst (λ guid. takes_part r (guid d) ≡ true) (sym (guids_after v p)) takes

-- A record that fits goes on to fit.
pub fits_after : (head_of : List ℕ → Option Head) (v : Event) (p : Pool) (r : Rec) → Fits head_of p r → Fits head_of (after v p) r
fits_after head_of (Loses e) p r f = record {
  pool_is = f.pool_is;
  is_record = λ d is. f.is_record d (taken_false e d p.member is);
  name_is = f.name_is;
  places = λ a cell at d is. f.places a cell at d (taken_false e d p.member is);
  blocks = f.blocks;
}
fits_after head_of (Stops sectors size) p r f = record {
  pool_is = f.pool_is;
  is_record = f.is_record;
  name_is = f.name_is;
  places = λ a cell at d is. subst (λ n. data_start + cell.sector + 128 < n) (sym (size_stays p size d is)) (f.places a cell at d is);
  blocks = f.blocks;
}
fits_after head_of (Calls noted) p r f = record { pool_is = f.pool_is; is_record = f.is_record; name_is = f.name_is; places = f.places; blocks = f.blocks }
fits_after head_of v p r f = record { pool_is = f.pool_is; is_record = f.is_record; name_is = f.name_is; places = f.places; blocks = f.blocks }

-- So does a status, while its record stays live.
status_after : (head_of : List ℕ → Option Head) (v : Event) (p : Pool) (d : ℕ) (status : Status) → ((r : Rec) → IsIn r p.live → IsIn r (after v p).live)
    → IsOf head_of p d status → IsOf head_of (after v p) d status
status_after head_of v p d (Odd r) stays is = (stays r is.0, fits_after head_of v p r is.1, takes_after v p r d is.2)
status_after head_of v p d (Even r) stays is = (stays r is.0, fits_after head_of v p r is.1, takes_after v p r d is.2)
status_after head_of v p d Lost stays is = tt

-- A ring's sector that no event has changed, where what was known still is.
ring_as : (p p' : Pool) (d s : ℕ) → p.sectors d s ≡ p'.sectors d s → p.since d s ≡ p'.since d s
    → ((bytes : List ℕ) → IsKnownUber p d bytes → IsKnownUber p' d bytes) → IsKnownRing p d s → IsKnownRing p' d s
ring_as p p' d s same was known ring = record {
  stable = subst (λ x. IsKnownUber p' d x.stable) same (known _ ring.stable);
  since = λ bytes among. known bytes (ring.since bytes (subst (IsAmong bytes) (sym was) among));
  pending = subst (λ x. IsNoted x.pending (p'.since d s)) same (subst (λ w. IsNoted (p.sectors d s).pending w) was ring.pending);
}

-- the uberblocks of records that stay drawn
known_more : (p p' : Pool) (d : ℕ) (bytes : List ℕ) → seat p d ≡ seat p' d → ((r : Rec) → IsIn r (drawn p) → IsIn r (drawn p'))
    → IsKnownUber p d bytes → IsKnownUber p' d bytes
known_more p p' d bytes same stays known u is some = of (known u is some)
  where
    of : IsDrawnUber p d u → IsDrawnUber p' d u
    of (r, is_drawn, e) = (r, stays r is_drawn, e ∙ ap (λ m. uberblock_of r.commit m) same)

-- A call that may come.
calls_survive : (head_of : List ℕ → Option Head) (p : Pool) (noted : Noted) → Survives head_of p → IsSparing p noted.call → Survives head_of (after (Calls noted) p)
calls_survive head_of p noted sv m = record {
  sizes = sv.sizes;
  held = λ d s bytes n. call_held noted.call d s _ bytes (m.off d s bytes n) (hurt_held (noted.damage d s) (p.sectors d s) bytes (sv.held d s bytes n));
  rings = λ d place is inside. ring_of d (place_at (p.size d) place) (m.known d place is inside) (sv.rings d place is inside);
  places = sv.places;
  status_live = λ d is. status_after head_of (Calls noted) p d (p.status d) (λ r i. i) (sv.status_live d is);
  acked_live = sv.acked_live;
  reads_live = sv.reads_live;
  not_below = sv.not_below;
  acked_top = sv.acked_top;
  live_top = sv.live_top;
  newest_above = sv.newest_above;
  given_below = sv.given_below;
  idle_alone = sv.idle_alone;
  pools = pools_kept head_of p (Calls noted) sv.pools m;
}
  where
    back : (d s : ℕ) → AreAll (IsKnownUber p d) (after_call noted d s (p.sectors d s)) (noted_since noted.call p.since d s) → IsKnownRing (after (Calls noted) p) d s
    back d s all = record { stable = all.stable; since = all.since_all; pending = all.pending }

    ring_of : (d s : ℕ) → (touches noted.call d s ≡ true → IsKnownUber p d (puts noted.call s)) → IsKnownRing p d s → IsKnownRing (after (Calls noted) p) d s
    ring_of d s is ring = back d s (noted_all (IsKnownUber p d) noted d s (p.sectors d s) p.since m.plain is
        (record { stable = ring.stable; since_all = ring.since; pending = ring.pending }))

accepts_survive : (head_of : List ℕ → Option Head) (p : Pool) (a : ℕ) (block : List ℕ) → Survives head_of p → Survives head_of (after (Accepts a block) p)
accepts_survive head_of p a block sv = record {
  sizes = sv.sizes;
  held = sv.held;
  rings = λ d place is inside. ring_as p (after (Accepts a block) p) d (place_at (p.size d) place) refl refl (λ bytes known. known) (sv.rings d place is inside);
  places = sv.places;
  status_live = λ d is. status_after head_of (Accepts a block) p d (p.status d) (λ r i. i) (sv.status_live d is);
  acked_live = sv.acked_live;
  reads_live = sv.reads_live;
  not_below = sv.not_below;
  acked_top = sv.acked_top;
  live_top = sv.live_top;
  newest_above = sv.newest_above;
  given_below = sv.given_below;
  idle_alone = sv.idle_alone;
  pools = pools_kept head_of p (Accepts a block) sv.pools tt;
}

-- An opening reads a live record; those above it are missed from now on.
opens_survive : (head_of : List ℕ → Option Head) (p : Pool) (r : Rec) → Survives head_of p → IsIn r p.live → Survives head_of (after (Opens r) p)
opens_survive head_of p r sv live = record {
  sizes = sv.sizes;
  held = sv.held;
  rings = λ d place is inside. ring_as p (after (Opens r) p) d (place_at (p.size d) place) refl refl (λ bytes known. known) (sv.rings d place is inside);
  places = sv.places;
  status_live = λ d is. status_after head_of (Opens r) p d (p.status d) (λ r i. i) (sv.status_live d is);
  acked_live = sv.acked_live;
  reads_live = live;
  not_below = sv.not_below;
  acked_top = sv.not_below r live;
  live_top = λ q i. ⊎_elim (λ le. inl le) (λ a. inr (in_first q (above (number_of r) p.live) p.missed a)) (above_or (number_of r) q p.live i);
  newest_above = λ q rest e other i. passed other (sv.newest_above q rest e other i);
  given_below = λ q i. passed q (sv.given_below q i);
  idle_alone = λ e. false_true e;
  pools = pools_kept head_of p (Opens r) sv.pools live;
}
  where
    passed : {A : Type 0} (q : Rec) → A ⊎ IsIn q p.missed → A ⊎ IsIn q (above (number_of r) p.live ++ p.missed)
    passed q (inl a) = inl a
    passed q (inr i) = inr (in_second q (above (number_of r) p.live) p.missed i)

-- what a status promised before a round, where it still does
begun_needs : (p : Pool) (d : ℕ) (status : Status) (q : Rec) (s : ℕ) (bytes : List ℕ) → NeedsLabel (seat p d) (begun status q) s bytes → NeedsLabel (seat p d) status s bytes
begun_needs p d (Odd r) q s bytes n = by_test (slot_of (number_of r) == slot_of (number_of q)) n
  where
    by_test : (t : Bool) → NeedsLabel (seat p d) (cond t Lost (Odd r)) s bytes → NeedsLabel (seat p d) (Odd r) s bytes
    by_test true n = absurd n
    by_test false n = n
begun_needs p d (Even r) q s bytes n = absurd n
begun_needs p d Lost q s bytes n = absurd n

begun_live : (head_of : List ℕ → Option Head) (p : Pool) (d : ℕ) (status : Status) (q : Rec) → IsOf head_of p d status → IsOf head_of p d (begun status q)
begun_live head_of p d (Odd r) q is = by_test (slot_of (number_of r) == slot_of (number_of q))
  where
    by_test : (t : Bool) → IsOf head_of p d (cond t Lost (Odd r))
    by_test true = tt
    by_test false = is
begun_live head_of p d (Even r) q is = tt
begun_live head_of p d Lost q is = tt

-- what holds of both statuses
either : (P : Status → Type 0) (t : Bool) (new old : Status) → P new → P old → P (cond t new old)
either P true new old a b = a
either P false new old a b = b

part_needs : (p : Pool) (d : ℕ) (t : Bool) (status : Status) (q : Rec) (s : ℕ) (bytes : List ℕ) → NeedsLabel (seat p d) (cond t (begun status q) status) s bytes
    → NeedsLabel (seat p d) status s bytes
part_needs p d true status q s bytes n = begun_needs p d status q s bytes n
part_needs p d false status q s bytes n = n

-- a new record's blocks are held too
begun_cells : (head_of : List ℕ → Option Head) (p : Pool) (q : Rec) (d s : ℕ) (bytes : List ℕ) → Survives head_of p → IsDrawnUp head_of p q → p.member d ≡ true
    → NeedsCell (q ∷ p.live) (p.guid d) s bytes → Held (p.sectors d s) bytes
begun_cells head_of p q d s bytes sv m is n = of n.is_live
  where
    of : (n.r ≡ q) ⊎ IsIn n.r p.live → Held (p.sectors d s) bytes
    of (inl e) = subst (λ s. Held (p.sectors d s) bytes) (sym n.sector_is) (subst (λ b. Held (p.sectors d (data_start + n.cell.sector)) b) (sym n.bytes_are)
        (m.held d n.a n.cell is (ap (λ r. r.cells n.a) (sym e) ∙ n.cell_is) (ap (λ r. r.owes (p.guid d) n.cell.birth) (sym e) ∙ n.has)))
    of (inr i) = sv.held d s bytes (is, inr (record { r = n.r; is_live = i; a = n.a; cell = n.cell; cell_is = n.cell_is; has = n.has; sector_is = n.sector_is; bytes_are = n.bytes_are }))

-- A round begins.
begins_survive : (head_of : List ℕ → Option Head) (p : Pool) (q : Rec) → Survives head_of p → IsDrawnUp head_of p q → Survives head_of (after (Begins q) p)
begins_survive head_of p q sv m = record {
  sizes = sv.sizes;
  held = λ d s bytes n. ⊎_elim (λ label. sv.held d s bytes (n.0, inl (part_needs p d (takes_part q (p.guid d)) (p.status d) q s bytes label)))
      (λ cell. begun_cells head_of p q d s bytes sv m n.0 cell) n.1;
  rings = λ d place is inside. ring_as p (after (Begins q) p) d (place_at (p.size d) place) refl refl
      (λ bytes known. known_more p (after (Begins q) p) d bytes refl (λ r i. inr i) known) (sv.rings d place is inside);
  places = λ r a cell d i at is. ⊎_elim (λ e. m.fits.places a cell (ap (λ r. r.cells a) (sym e) ∙ at) d is) (λ i. sv.places r a cell d i at is) i;
  status_live = λ d is. status_after head_of (Begins q) p d (cond (takes_part q (p.guid d)) (begun (p.status d) q) (p.status d)) (λ r i. inr i)
      (either (IsOf head_of p d) (takes_part q (p.guid d)) _ _ (begun_live head_of p d (p.status d) q (sv.status_live d is)) (sv.status_live d is));
  acked_live = inr sv.acked_live;
  reads_live = inr sv.reads_live;
  not_below = λ r i. ⊎_elim (λ e. subst (λ r. number_of p.acked ≤ number_of r) (sym e) low) (λ i. sv.not_below r i) i;
  acked_top = low;
  live_top = λ r i. ⊎_elim (λ e. inl (let le : number_of r ≤ number_of q = omega (arith, ap number_of e) in le))
      (λ i. ⊎_elim (λ le. inl (higher (number_of r) le)) (λ i. inr i) (sv.live_top r i)) i;
  newest_above = λ q' rest e r i. ⊎_elim (λ le. inl (above_all q' rest e r le)) (λ i. inr i) (sv.live_top r (subst (IsIn r) (sym (same_rest q q' p.live rest e)) i));
  given_below = sv.given_below;
  idle_alone = λ e. false_true e;
  pools = pools_kept head_of p (Begins q) sv.pools m;
}
  where
    low : number_of p.acked ≤ number_of q
    low = omega (arith, sv.acked_top, m.number_is)

    higher : (n : ℕ) → n ≤ p.top → n ≤ number_of q
    higher n le = omega (arith, le, m.number_is)

    above_all : (q' : Rec) (rest : List Rec) → q ∷ p.live ≡ q' ∷ rest → (r : Rec) → number_of r ≤ p.top → number_of r < number_of q'
    above_all q' rest e r le = omega (arith, le, m.number_is, ap number_of (same_head q q' p.live rest e))

-- A member's labels hold a record: the status is another.
at_held : (p : Pool) (status : Status) (d e : ℕ) (s : ℕ) (bytes : List ℕ) → (p.member d ≡ true → NeedsLabel (seat p d) status s bytes → Held (p.sectors d s) bytes)
    → (NeedsLabel (seat p e) (p.status e) s bytes → Held (p.sectors e s) bytes) → p.member e ≡ true → NeedsLabel (seat p e) (at_device d status p.status e) s bytes → Held (p.sectors e s) bytes
at_held p status d e s bytes here away is_member n = by_test (d == e) refl n
  where
    by_test : (t : Bool) → (d == e) ≡ t → NeedsLabel (seat p e) (cond t status (p.status e)) s bytes → Held (p.sectors e s) bytes
    by_test true is n = let same : d ≡ e = grind (arith, nat_tests) in
        subst (λ e. p.member e ≡ true → NeedsLabel (seat p e) status s bytes → Held (p.sectors e s) bytes) same here is_member n
    by_test false is n = away n

at_live : (head_of : List ℕ → Option Head) (p : Pool) (status : Status) (d e : ℕ) → (p.member d ≡ true → IsOf head_of p d status) → IsOf head_of p e (p.status e)
    → p.member e ≡ true → IsOf head_of p e (at_device d status p.status e)
at_live head_of p status d e here away is_member = by_test (d == e) refl
  where
    by_test : (t : Bool) → (d == e) ≡ t → IsOf head_of p e (cond t status (p.status e))
    by_test true is =
        let same : d ≡ e = grind (arith, nat_tests) in subst (λ x. IsOf head_of p x status) same (here (ap p.member same ∙ is_member))
    by_test false is = away

stand_held : (head_of : List ℕ → Option Head) (p : Pool) (q : Rec) (d : ℕ) (status : Status) → Survives head_of p → (p.member d ≡ true → MayStand head_of p q d status)
    → (e s : ℕ) (bytes : List ℕ) → p.member e ≡ true → NeedsLabel (seat p e) (at_device d status p.status e) s bytes ⊎ NeedsCell p.live (p.guid e) s bytes → Held (p.sectors e s) bytes
stand_held head_of p q d status sv m e s bytes is n =
    ⊎_elim (λ label. at_held p status d e s bytes (λ member. (m member).held s bytes) (λ label. sv.held e s bytes (is, inl label)) is label) (λ cell. sv.held e s bytes (is, inr cell)) n

third_survive : (head_of : List ℕ → Option Head) (p : Pool) (q : Rec) (d : ℕ) → Survives head_of p → (p.member d ≡ true → MayStand head_of p q d (Even q)) → Survives head_of (after (Third q d) p)
third_survive head_of p q d sv m = record {
  sizes = sv.sizes;
  held = λ e s bytes n. stand_held head_of p q d (Even q) sv m e s bytes n.0 n.1;
  rings = λ d' place is inside. ring_as p (after (Third q d) p) d' (place_at (p.size d') place) refl refl (λ bytes known. known) (sv.rings d' place is inside);
  places = sv.places;
  status_live = λ e is. status_after head_of (Third q d) p e (at_device d (Even q) p.status e) (λ r i. i) (at_live head_of p (Even q) d e (λ member. ((m member).is_live, (m member).fits, (m member).takes)) (sv.status_live e is) is);
  acked_live = sv.acked_live;
  reads_live = sv.reads_live;
  not_below = sv.not_below;
  acked_top = sv.acked_top;
  live_top = sv.live_top;
  newest_above = sv.newest_above;
  given_below = sv.given_below;
  idle_alone = sv.idle_alone;
  pools = pools_kept head_of p (Third q d) sv.pools m;
}

ends_survive : (head_of : List ℕ → Option Head) (p : Pool) (q : Rec) (d : ℕ) → Survives head_of p → (p.member d ≡ true → MayStand head_of p q d (Odd q)) → Survives head_of (after (Ends q d) p)
ends_survive head_of p q d sv m = record {
  sizes = sv.sizes;
  held = λ e s bytes n. stand_held head_of p q d (Odd q) sv m e s bytes n.0 n.1;
  rings = λ d' place is inside. ring_as p (after (Ends q d) p) d' (place_at (p.size d') place) refl refl (λ bytes known. known) (sv.rings d' place is inside);
  places = sv.places;
  status_live = λ e is. status_after head_of (Ends q d) p e (at_device d (Odd q) p.status e) (λ r i. i) (at_live head_of p (Odd q) d e (λ member. ((m member).is_live, (m member).fits, (m member).takes)) (sv.status_live e is) is);
  acked_live = sv.acked_live;
  reads_live = sv.reads_live;
  not_below = sv.not_below;
  acked_top = sv.acked_top;
  live_top = sv.live_top;
  newest_above = sv.newest_above;
  given_below = sv.given_below;
  idle_alone = sv.idle_alone;
  pools = pools_kept head_of p (Ends q d) sv.pools m;
}

-- A round is acknowledged.
acks_survive : (head_of : List ℕ → Option Head) (p : Pool) (q : Rec) → Survives head_of p → MayAck p q → Survives head_of (after (Acks q) p)
acks_survive head_of p q sv m = record {
  sizes = sv.sizes;
  held = λ d s bytes n. sv.held d s bytes (n.0, ⊎_elim (λ label. inl (kept_needs d (takes_part q (p.guid d)) s bytes label)) (λ cell. inr (alone d s bytes cell)) n.1);
  rings = λ d place is inside. ring_as p (after (Acks q) p) d (place_at (p.size d) place) refl refl
      (λ bytes known. known_more p (after (Acks q) p) d bytes refl (λ r i. still_drawn r i) known) (sv.rings d place is inside);
  places = λ r a cell d i at is. ⊎_elim (λ e. sv.places q a cell d live (ap (λ r. r.cells a) (sym e) ∙ at) is) (λ none. absurd none) i;
  status_live = λ d is. acked_live d is (takes_part q (p.guid d)) refl;
  acked_live = inl refl;
  reads_live = inl refl;
  not_below = λ r i. ⊎_elim (λ e. let le : number_of q ≤ number_of r = omega (arith, ap number_of e) in le) (λ none. absurd none) i;
  acked_top = let le : number_of q ≤ p.top = omega (arith, m.number_is) in le;
  live_top = λ r i. ⊎_elim (λ e. inl (let le : number_of r ≤ p.top = omega (arith, m.number_is, ap number_of e) in le)) (λ none. absurd none) i;
  newest_above = λ q' rest e r i. absurd (subst (IsIn r) (sym (same_rest q q' [] rest e)) i);
  given_below = λ r i. ⊎_elim (λ i. sv.newest_above q m.rest m.newest r (subst (λ rs. IsIn r (rest_of rs)) m.newest i))
      (λ i. ⊎_elim (λ lt. inl (below r lt)) (λ i. inr i) (sv.given_below r i)) (in_append r (rest_of p.live) p.given i);
  idle_alone = λ e r i. ⊎_elim (λ e. e) (λ none. absurd none) i;
  pools = pools_kept head_of p (Acks q) sv.pools m;
}
  where
    live : IsIn q p.live
    live = subst (IsIn q) (sym m.newest) (inl refl)

    kept_needs : (d : ℕ) (t : Bool) (s : ℕ) (bytes : List ℕ) → NeedsLabel (seat p d) (cond t (p.status d) Lost) s bytes → NeedsLabel (seat p d) (p.status d) s bytes
    kept_needs d true s bytes n = n
    kept_needs d false s bytes n = absurd n

    acked_live : (d : ℕ) → p.member d ≡ true → (t : Bool) → takes_part q (p.guid d) ≡ t → IsOf head_of (after (Acks q) p) d (cond t (p.status d) Lost)
    acked_live d is true takes =
        let odd = m.all d is takes in
        subst (IsOf head_of (after (Acks q) p) d) (sym odd)
        (inl refl, fits_after head_of (Acks q) p q (subst (IsOf head_of p d) odd (sv.status_live d is)).1, takes)
    acked_live d is false out = tt

    alone : (d s : ℕ) (bytes : List ℕ) → NeedsCell (q ∷ []) (p.guid d) s bytes → NeedsCell p.live (p.guid d) s bytes
    alone d s bytes n = record {
      r = n.r;
      is_live = ⊎_elim (λ e. subst (λ r. IsIn r p.live) (sym e) live) (λ none. absurd none) n.is_live;
      a = n.a;
      cell = n.cell;
      cell_is = n.cell_is;
      has = n.has;
      sector_is = n.sector_is;
      bytes_are = n.bytes_are;
    }

    still_drawn : (r : Rec) → IsIn r (p.live ++ p.given) → IsIn r (q ∷ (rest_of p.live ++ p.given))
    still_drawn r i = subst (λ rs. IsIn r (q ∷ (rest_of rs ++ p.given))) (sym m.newest) (subst (λ rs. IsIn r (rs ++ p.given)) m.newest i)

    below : (r : Rec) → number_of r < number_of p.acked → number_of r < number_of q
    below r lt = omega (arith, lt, sv.not_below q live)

-- Another pool takes a device.
loses_survive : (head_of : List ℕ → Option Head) (p : Pool) (d : ℕ) → Survives head_of p → Survives head_of (after (Loses d) p)
loses_survive head_of p d sv = record {
  sizes = λ e is. sv.sizes e (was e is);
  held = λ e s bytes n. sv.held e s bytes (was e n.0, ⊎_elim (λ label. inl (label_was e s bytes label)) (λ cell. inr cell) n.1);
  rings = λ e place is inside. ring_as p (after (Loses d) p) e (place_at (p.size e) place) refl refl (λ bytes known. known) (sv.rings e place (was e is) inside);
  places = λ r a cell e i at is. sv.places r a cell e i at (was e is);
  status_live = λ e is. status_after head_of (Loses d) p e (at_device d Lost p.status e) (λ r i. i) (at_live head_of p Lost d e (λ member. tt) (sv.status_live e (was e is)) (was e is));
  acked_live = sv.acked_live;
  reads_live = sv.reads_live;
  not_below = sv.not_below;
  acked_top = sv.acked_top;
  live_top = sv.live_top;
  newest_above = sv.newest_above;
  given_below = sv.given_below;
  idle_alone = sv.idle_alone;
  pools = pools_kept head_of p (Loses d) sv.pools tt;
}
  where
    was : (e : ℕ) → (after (Loses d) p).member e ≡ true → p.member e ≡ true
    was e is = taken_false d e p.member is

    label_was : (e s : ℕ) (bytes : List ℕ) → NeedsLabel (seat p e) (at_device d Lost p.status e) s bytes → NeedsLabel (seat p e) (p.status e) s bytes
    label_was e s bytes n = by_test (d == e) n
      where
        by_test : (t : Bool) → NeedsLabel (seat p e) (cond t Lost (p.status e)) s bytes → NeedsLabel (seat p e) (p.status e) s bytes
        by_test true n = absurd n
        by_test false n = n

-- A stop: what was clean is as it was, and no ring shows what was never written there. The members' devices keep their sizes.
stops_survive : (head_of : List ℕ → Option Head) (p : Pool) (sectors : Sectors) (size : ℕ → ℕ) → Survives head_of p → MayStop p sectors → Survives head_of (after (Stops sectors size) p)
stops_survive head_of p sectors size sv m = record {
  sizes = λ d is. subst (λ n. 320 ≤ n) (sym (size_stays p size d is)) (sv.sizes d is);
  held = λ d s bytes n. stop_held (p.sectors d s) (sectors d s) bytes (m.still d s n.0) (m.shows d s n.0) (m.damage d s n.0) (sv.held d s bytes n);
  rings = λ d place is inside. subst (λ n. IsKnownRing (after (Stops sectors size) p) d (place_at n place)) (sym (size_stays p size d is)) (record {
    stable = λ u right some. shown d (place_at (p.size d) place) u right some (sv.rings d place is inside) (m.unforged d place u is inside right some);
    since = λ bytes none. absurd none;
    pending = subst (λ x. IsNoted x []) (sym (m.still d _ is)) tt;
  });
  places = λ r a cell d i at is. subst (λ n. data_start + cell.sector + 128 < n) (sym (size_stays p size d is)) (sv.places r a cell d i at is);
  status_live = λ d is. status_after head_of (Stops sectors size) p d (p.status d) (λ r i. i) (sv.status_live d is);
  acked_live = sv.acked_live;
  reads_live = sv.reads_live;
  not_below = sv.not_below;
  acked_top = sv.acked_top;
  live_top = sv.live_top;
  newest_above = sv.newest_above;
  given_below = sv.given_below;
  idle_alone = λ e. false_true e;
  pools = pools_kept head_of p (Stops sectors size) sv.pools m;
}
  where
    shown : (d s : ℕ) (u : Uberblock) → IsUberblock u (sectors d s).stable → 1 ≤ u.number.0 → IsKnownRing p d s
        → ((sectors d s).stable ≡ (p.sectors d s).stable) ⊎ IsAmong (sectors d s).stable (p.since d s) → IsDrawnUber p d u
    shown d s u right some ring (inl e) = ring.stable u (subst (IsUberblock u) e right) some
    shown d s u right some ring (inr among) = ring.since (sectors d s).stable among u right some

-- Each event that a pool may have leaves it with the invariant.
pub event_survives : (head_of : List ℕ → Option Head) (p : Pool) (v : Event) → Survives head_of p → May head_of p v → Survives head_of (after v p)
event_survives head_of p (Calls noted) sv may = calls_survive head_of p noted sv may
event_survives head_of p (Accepts a block) sv may = accepts_survive head_of p a block sv
event_survives head_of p (Looks known) sv may = sv
event_survives head_of p (Opens r) sv may = opens_survive head_of p r sv may
event_survives head_of p (Begins q) sv may = begins_survive head_of p q sv may
event_survives head_of p (Third q d) sv may = third_survive head_of p q d sv may
event_survives head_of p (Ends q d) sv may = ends_survive head_of p q d sv may
event_survives head_of p (Acks q) sv may = acks_survive head_of p q sv may
event_survives head_of p (Loses d) sv may = loses_survive head_of p d sv
event_survives head_of p (Stops sectors size) sv may = stops_survive head_of p sectors size sv may
