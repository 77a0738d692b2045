-- Each part of a round spares what is needed while it is made.
use Rattle.std.proofs.Common.{◌≡◌, ◌≢◌, ℕ, ◌+◌, ◌-◌, ◌*◌, ◌/◌, ◌%◌, ◌<◌, ◌≤◌, ◌==◌, ◌&&◌, nat_le, nat_lt, cond, Bool, true, false, List, length, take, drop, Option, Some, refl, sym, ap, ◌∙◌, subst, arith, inl, inr, ⊎_elim}
use Rattle.std.proofs.lemmas.Bool.{cases_eq, eqb-false, and_parts, leb-true, ltb-true}
use Rattle.std.proofs.lemmas.List.{take_all}
use Rattle.bank_core.specs.Disk.{covers, sectors_in, sector_of, sector_size}
use Rattle.bank_core.specs.Standing.{Spares}
use Rattle.label_store.specs.declared.member.Member.{Member}
use Rattle.label_store.specs.declared.rule.Head.{Head}
use Rattle.label_store.specs.Layout.{slot_of}
use Rattle.label_store.specs.Records.{place_at}
use Rattle.label_store.specs.Rounds.{uberblock_of, first_plan, second_plan, third_plan}
use Rattle.label_store.specs.Uberblock.{IsInRange, uberblock_bytes, fields_of}
use Rattle.label_store.proofs.Fields.{fields_are, is_of_fields}
use Rattle.label_store.proofs.Places.{label_is, even_spares_ring, odd_spares_ring, config_elsewhere_even, config_elsewhere_odd, ring_elsewhere, length-uberblock, uberblock_sectors}
use Rattle.pool_history.specs.Events.{Begins}
use Rattle.pool_history.specs.Labels.{Status, Odd, Even, Lost, begun}
use Rattle.pool_history.specs.Moves.{AreKnown, AreSparing}
use Rattle.pool_history.specs.Needs.{NeedsLabel, NeedsCell, Needs}
use Rattle.pool_history.specs.Pools.{Pool, after, drawn, seat}
use Rattle.pool_history.specs.Records.{Rec, Cell, IsIn, number_of, takes_part, data_start}
use Rattle.pool_history.specs.Survival.{Fits, IsKnownUber, IsOf, Survives}
use Rattle.pool_history.proofs.RoundPlaces.{InFront, FrontRing, FrontPart, FrontData, InBack, BackRing, BackPart, BackData, first_spares, second_spares, third_spares}
use Rattle.pool_history.proofs.Sparing.{spared_known}

-- A member of the pool, on its device, that takes part in the round. A device in the list that the pool has lost is no member.
pub record IsSeated (p : Pool) (q : Rec) (m : Member) : Type 0 where
  pub is_member : p.member m.dev ≡ true
  pub takes : takes_part q (p.guid m.dev) ≡ true
  pub big : 320 ≤ p.size m.dev
  pub seat_is : m ≡ seat p m.dev

-- each block of each live record stands between the labels of this device
abbrev pub HasPlaces : Pool → (d : ℕ) → Type 0
HasPlaces p d = (r : Rec) (a : ℕ) (cell : Cell) → IsIn r p.live → r.cells a ≡ Some cell → data_start + cell.sector + 128 < p.size d

-- by what an old status promises, another slot and the configuration part of label 1 are needed
begun_label : (m : Member) (status : Status) (q : Rec) (s : ℕ) (bytes : List ℕ) → NeedsLabel m (begun status q) s bytes
    → (r : Rec) × (status ≡ Odd r) × (slot_of (number_of r) ≢ slot_of (number_of q)) × NeedsLabel m (Odd r) s bytes
begun_label m (Odd r) q s bytes needs = by_test (slot_of (number_of r) == slot_of (number_of q)) refl needs
  where
    by_test : (t : Bool) → (slot_of (number_of r) == slot_of (number_of q)) ≡ t → NeedsLabel m (cond t Lost (Odd r)) s bytes
        → (r' : Rec) × (Odd r ≡ Odd r') × (slot_of (number_of r') ≢ slot_of (number_of q)) × NeedsLabel m (Odd r') s bytes
    by_test true e n = absurd n
    by_test false e n = (r, refl, eqb-false (slot_of (number_of r)) (slot_of (number_of q)) e, n)
begun_label m (Even r) q s bytes needs = absurd needs
begun_label m Lost q s bytes needs = absurd needs

label_front : (m : Member) (r : Rec) (size slot s : ℕ) (bytes : List ℕ) → sectors_in r.commit.blob ≤ 28 → slot_of (number_of r) ≢ slot
    → NeedsLabel m (Odd r) s bytes → InFront size slot s
label_front m r size slot s bytes few ne (inl (e, b)) = FrontRing (slot_of (number_of r)) (omega arith) ne e
label_front m r size slot s bytes few ne (inr (i, lt, e, b)) = FrontPart i (omega arith) e

label_back : (m : Member) (r : Rec) (size s : ℕ) (bytes : List ℕ) → sectors_in r.commit.blob ≤ 28 → NeedsLabel m (Even r) s bytes → InBack size s
label_back m r size s bytes few (inl (e, b)) = BackRing (slot_of (number_of r)) (omega arith) e
label_back m r size s bytes few (inr (i, lt, e, b)) = BackPart i (omega arith) e

cell_between : (p : Pool) (d s : ℕ) (bytes : List ℕ) → HasPlaces p d → NeedsCell p.live (p.guid d) s bytes → (128 ≤ s) × (s + 128 < p.size d)
cell_between p d s bytes places n =
    let below = places n.r n.a n.cell n.is_live n.cell_is in
    (omega (arith, n.sector_is), omega (arith, n.sector_is, below))

pub few_of : (head_of : List ℕ → Option Head) (p : Pool) (r : Rec) (d : ℕ) → Fits head_of p r → p.member d ≡ true → sectors_in r.commit.blob ≤ 28
few_of head_of p r d fits is = (fits.is_record d is).most

odd_fits : (head_of : List ℕ → Option Head) (p : Pool) (d : ℕ) (status : Status) (r : Rec) → status ≡ Odd r → IsOf head_of p d status → Fits head_of p r
odd_fits head_of p d status r e is = (subst (IsOf head_of p d) e is).1

-- the new record's blocks lie there, and those of the old ones
pub front_places : (head_of : List ℕ → Option Head) (p : Pool) (q : Rec) (d : ℕ) → Survives head_of p → Fits head_of p q → p.member d ≡ true
    → HasPlaces (after (Begins q) p) d
front_places head_of p q d s fits is r a cell (inl e) at = fits.places a cell (ap (λ x. x.cells a) (sym e) ∙ at) d is
front_places head_of p q d s fits is r a cell (inr old) at = s.places r a cell d old at is

needs_front : (head_of : List ℕ → Option Head) (p : Pool) (q : Rec) (d s : ℕ) (bytes : List ℕ) → Survives head_of p → Fits head_of p q → takes_part q (p.guid d) ≡ true
    → Needs (after (Begins q) p) d s bytes → InFront (p.size d) (slot_of (number_of q)) s
needs_front head_of p q d s bytes sv fits takes (is, inl label) =
    let old = begun_label (seat p d) (p.status d) q s bytes
    (subst (λ t. NeedsLabel (seat p d) (cond t (begun (p.status d) q) (p.status d)) s bytes) takes label) in
    label_front (seat p d) old.0 (p.size d) (slot_of (number_of q)) s bytes
    (few_of head_of p old.0 d (odd_fits head_of p d (p.status d) old.0 old.1 (sv.status_live d is)) is) old.2 old.3
needs_front head_of p q d s bytes sv fits takes (is, inr cell) =
    let b = cell_between (after (Begins q) p) d s bytes (front_places head_of p q d sv fits is) cell in
    FrontData b.0 b.1

needs_back : (head_of : List ℕ → Option Head) (p : Pool) (q : Rec) (d s : ℕ) (bytes : List ℕ) → Fits head_of p q → p.status d ≡ Even q → HasPlaces p d
    → Needs p d s bytes → InBack (p.size d) s
needs_back head_of p q d s bytes fits status places (is, inl label) =
    label_back (seat p d) q (p.size d) s bytes (few_of head_of p q d fits is) (subst (λ st. NeedsLabel (seat p d) st s bytes) status label)
needs_back head_of p q d s bytes fits status places (is, inr cell) = let b = cell_between p d s bytes places cell in BackData b.0 b.1

-- the sectors of this device or of another
pub by_device : (P : ℕ → Type 0) (dev d : ℕ) → P dev → ((dev ≢ d) → P d) → P d
by_device P dev d here away = ⊎_elim {A = dev ≡ d} {B = dev ≢ d} (λ e. subst P e here) away (cases_eq dev d)

-- places of uberblocks
pub ring_of : (size place : ℕ) → place < 128 → place / 32 < 4
ring_of size place lt = omega arith

pub slot_below : (place : ℕ) → place % 32 < 32
slot_below place = omega arith

pub first_sparing : (head_of : List ℕ → Option Head) (p : Pool) (q : Rec) (m : Member) → Survives head_of p → Fits head_of p q → (p.member m.dev ≡ true → IsSeated p q m)
    → AreSparing (after (Begins q) p) (first_plan p.size q.commit m)
first_sparing head_of p q m sv fits seated = record {
  plain = tt;
  off = by_all;
  known = λ d place is inside. spared_known (after (Begins q) p) (first_plan p.size q.commit m) d (place_at (p.size d) place)
      (by_device (λ e. p.member e ≡ true → Spares (first_plan p.size q.commit m) e (place_at (p.size e) place)) m.dev d
      (λ here. even_spares_ring m.dev (p.size m.dev) q.commit.blob m.dev _ (place % 32) (seated here).big (few_of head_of p q m.dev fits here)
      (label_is (p.size m.dev) (place / 32) (ring_of (p.size m.dev) place inside)) (slot_below place))
      (λ ne other. config_elsewhere_even m.dev (p.size m.dev) q.commit.blob d _ ne) is);
}
  where
    by_all : (d s : ℕ) (bytes : List ℕ) → Needs (after (Begins q) p) d s bytes → Spares (first_plan p.size q.commit m) d s
    by_all d = by_device (λ e. (s : ℕ) (bytes : List ℕ) → Needs (after (Begins q) p) e s bytes → Spares (first_plan p.size q.commit m) e s) m.dev d
        (λ s bytes needs. first_spares m.dev (p.size m.dev) (slot_of (number_of q)) q.commit.blob m.dev s (seated needs.0).big (few_of head_of p q m.dev fits needs.0)
        (needs_front head_of p q m.dev s bytes sv fits (seated needs.0).takes needs))
        (λ ne s bytes needs. config_elsewhere_even m.dev (p.size m.dev) q.commit.blob d s ne)

pub first_bytes : (k : ℕ) (bytes : List ℕ) → length bytes ≡ 4096 → k ≡ 0 → sector_of k bytes ≡ bytes
unfolding sector_size
first_bytes k bytes long none = ap (λ i. take 4096 (drop (i * 4096) bytes)) none ∙ take_all 4096 bytes (omega arith)

-- a write of one sector that aims there puts it there
one_there : (dev at d s : ℕ) (bytes : List ℕ) → length bytes ≡ 4096 → sectors_in bytes ≡ 1 → ((dev == d) && covers at (sectors_in bytes) s) ≡ true
    → sector_of (s - at) bytes ≡ bytes
one_there dev at d s bytes long one is =
    let c = and_parts (nat_le at s) (nat_lt s (at + sectors_in bytes)) (and_parts (dev == d) (covers at (sectors_in bytes) s) is).1 in
    let low = leb-true at s c.0 in
    let high = ltb-true s (at + sectors_in bytes) c.1 in
    first_bytes (s - at) bytes long (omega (arith, low, high, one))

-- the new record's uberblock may stand in a ring
known_new : (p : Pool) (q : Rec) (m : Member) (bytes : List ℕ) → IsIn q (drawn p) → IsInRange (uberblock_of q.commit m) → m ≡ seat p m.dev
    → bytes ≡ uberblock_bytes (uberblock_of q.commit m) → IsKnownUber p m.dev bytes
known_new p q m bytes is_in range seat_is e v is some =
    (q, is_in, sym (is_of_fields v bytes is) ∙ (ap fields_of e ∙ fields_are (uberblock_of q.commit m) range) ∙ ap (uberblock_of q.commit) seat_is)

pub member_range : (head_of : List ℕ → Option Head) (p : Pool) (q : Rec) (m : Member) → Fits head_of p q → IsSeated p q m → IsInRange (uberblock_of q.commit m)
member_range head_of p q m fits seated =
    subst (λ n. IsInRange (uberblock_of q.commit n)) (sym seated.seat_is) (fits.is_record m.dev seated.is_member).in_range

pub second_sparing : (head_of : List ℕ → Option Head) (p : Pool) (q : Rec) (m : Member) → Survives head_of p → Fits head_of p q → (p.member m.dev ≡ true → IsSeated p q m)
    → AreSparing (after (Begins q) p) (second_plan p.size q.commit m)
second_sparing head_of p q m sv fits seated = record {
  plain = tt;
  off = by_all;
  known = λ d place is inside. by_device (λ e. p.member e ≡ true → AreKnown (after (Begins q) p) e (place_at (p.size e) place) (second_plan p.size q.commit m)) m.dev d
      (λ here. (
        puts_it here 0 (place_at (p.size m.dev) place),
        (
          puts_it here 64 (place_at (p.size m.dev) place),
          (
            puts_it here (p.size m.dev - 128) (place_at (p.size m.dev) place),
            (puts_it here (p.size m.dev - 64) (place_at (p.size m.dev) place), (λ aimed. absurd (no_aim aimed), tt)),
          ),
        ),
      ))
      (λ ne other. spared_known (after (Begins q) p) (second_plan p.size q.commit m) d (place_at (p.size d) place)
      (ring_elsewhere m.dev (p.size m.dev) (uberblock_of q.commit m) d _ ne)) is;
}
  where
    range : p.member m.dev ≡ true → IsInRange (uberblock_of q.commit m)
    range here = member_range head_of p q m fits (seated here)

    one : p.member m.dev ≡ true → sectors_in (uberblock_bytes (uberblock_of q.commit m)) ≡ 1
    one here = uberblock_sectors (uberblock_of q.commit m) (range here).sum

    by_all : (d s : ℕ) (bytes : List ℕ) → Needs (after (Begins q) p) d s bytes → Spares (second_plan p.size q.commit m) d s
    by_all d = by_device (λ e. (s : ℕ) (bytes : List ℕ) → Needs (after (Begins q) p) e s bytes → Spares (second_plan p.size q.commit m) e s) m.dev d
        (λ s bytes needs. second_spares m.dev (p.size m.dev) (uberblock_of q.commit m) m.dev s (seated needs.0).big (one needs.0)
        (needs_front head_of p q m.dev s bytes sv fits (seated needs.0).takes needs))
        (λ ne s bytes needs. ring_elsewhere m.dev (p.size m.dev) (uberblock_of q.commit m) d s ne)

    no_aim : false ≡ true → ⊥
    no_aim e = cc

    puts_it : p.member m.dev ≡ true → (label s : ℕ)
        → ((m.dev == m.dev) && covers (label + (32 + slot_of (number_of q))) (sectors_in (uberblock_bytes (uberblock_of q.commit m))) s) ≡ true
        → IsKnownUber (after (Begins q) p) m.dev (sector_of (s - (label + (32 + slot_of (number_of q)))) (uberblock_bytes (uberblock_of q.commit m)))
    puts_it here label s aimed = known_new (after (Begins q) p) q m _ (inl refl) (range here) (seated here).seat_is
        (one_there m.dev (label + (32 + slot_of (number_of q))) m.dev s (uberblock_bytes (uberblock_of q.commit m))
        (length-uberblock (uberblock_of q.commit m) (range here).sum) (one here) aimed)

pub third_sparing : (head_of : List ℕ → Option Head) (p : Pool) (q : Rec) (m : Member) → Fits head_of p q → (p.member m.dev ≡ true → IsSeated p q m) → p.status m.dev ≡ Even q
    → (p.member m.dev ≡ true → HasPlaces p m.dev) → AreSparing p (third_plan p.size q.commit m)
third_sparing head_of p q m fits seated status places = record {
  plain = tt;
  off = by_all;
  known = λ d place is inside. spared_known p (third_plan p.size q.commit m) d (place_at (p.size d) place)
      (by_device (λ e. p.member e ≡ true → Spares (third_plan p.size q.commit m) e (place_at (p.size e) place)) m.dev d
      (λ here. odd_spares_ring m.dev (p.size m.dev) q.commit.blob m.dev _ (place % 32) (seated here).big (few_of head_of p q m.dev fits here)
      (label_is (p.size m.dev) (place / 32) (ring_of (p.size m.dev) place inside)) (slot_below place))
      (λ ne other. config_elsewhere_odd m.dev (p.size m.dev) q.commit.blob d _ ne) is);
}
  where
    by_all : (d s : ℕ) (bytes : List ℕ) → Needs p d s bytes → Spares (third_plan p.size q.commit m) d s
    by_all d = by_device (λ e. (s : ℕ) (bytes : List ℕ) → Needs p e s bytes → Spares (third_plan p.size q.commit m) e s) m.dev d
        (λ s bytes needs. third_spares m.dev (p.size m.dev) q.commit.blob m.dev s (seated needs.0).big (few_of head_of p q m.dev fits needs.0)
        (needs_back head_of p q m.dev s bytes fits status (places needs.0) needs))
        (λ ne s bytes needs. config_elsewhere_odd m.dev (p.size m.dev) q.commit.blob d s ne)
