-- Each part of a round spares what is needed while it is made.
use Rattle.std.proofs.Common.{
  ◌≡◌,
  ◌≢◌,
  ℕ,
  ◌+◌,
  ◌-◌,
  ◌*◌,
  ◌/◌,
  ◌%◌,
  ◌^◌,
  ◌<◌,
  ◌≤◌,
  ◌==◌,
  ◌&&◌,
  nat_le,
  nat_lt,
  cond,
  Bool,
  true,
  false,
  List,
  length,
  take,
  drop,
  refl,
  sym,
  ap,
  ◌∙◌,
  subst,
  arith,
  inl,
  inr,
  ⊎_elim,
}
use Rattle.std.proofs.lemmas.Bool.{cases_eq, eqb-false, and_parts, leb-true, ltb-true}
use Rattle.std.proofs.lemmas.List.{take_all}
use Rattle.bank_core.specs.Disk.{covers, sectors_in, sector_of, sector_size}
use Rattle.bank_core.specs.Standing.{Spares}
use Rattle.label_store.specs.declared.member.Member.{Member}
use Rattle.label_store.specs.Layout.{slot_of}
use Rattle.label_store.specs.Records.{place_at}
use Rattle.label_store.specs.Rounds.{uberblock_of, first_plan, second_plan, third_plan}
use Rattle.label_store.specs.Uberblock.{IsInRange, uberblock_bytes, fields_of}
use Rattle.label_store.proofs.Fields.{fields_are, is_of_fields}
use Rattle.label_store.proofs.Places.{
  label_is,
  even_spares_ring,
  odd_spares_ring,
  config_elsewhere_even,
  config_elsewhere_odd,
  ring_elsewhere,
  length-uberblock,
  uberblock_sectors,
}
use Rattle.txg_history.specs.Events.{Begins}
use Rattle.txg_history.specs.Labels.{Status, Odd, Even, Lost, begun}
use Rattle.mp_base.specs.declared.number.Guid.{Guid}
use Rattle.bank_core.specs.Asks.{Ask}
use Rattle.txg_history.specs.Needs.{NeedsLabel}
use Rattle.txg_history.specs.Pages.{Codec}
use Rattle.txg_history.specs.Sparing.{ArePlain, LayJust, AreSparing}
use Rattle.txg_history.proofs.Logging.{true_not_false}
use Rattle.txg_history.proofs.Placing.{AreBetween}
use Rattle.txg_history.specs.Pools.{Pool, after, drawn, seat}
use Rattle.txg_history.specs.Records.{Rec, IsIn, number_of, takes_part, data_start}
use Rattle.txg_history.specs.Survival.{Fits, IsFit, IsKnownUber, IsOf, Survives}
use Rattle.txg_history.proofs.RoundPlaces.{
  InFront,
  FrontRing,
  FrontPart,
  FrontData,
  InBack,
  BackRing,
  BackPart,
  BackData,
  first_spares,
  second_spares,
  third_spares,
}
use Rattle.txg_history.proofs.Sparing.{spared_lay}

-- A member of the pool, on its device, that takes part in the round. A device in the list that the pool has lost is no member.
pub record IsSeated (p : Pool) (q : Rec) (m : Member) : Type 0 where
  pub is_member : p.member m.dev ≡ true
  pub takes : takes_part q (p.guid m.dev) ≡ true
  pub big : 320 ≤ p.size m.dev
  pub in_range : m.guid.0 < 2 ^ 64
  pub seat_is : m ≡ seat p m.dev

-- by what an old status promises, another slot and the configuration part of label 1 are needed
begun_label : (m : Member) (status : Status) (q : Rec) (s : ℕ) (bytes : List ℕ) → NeedsLabel m (begun status q) s bytes
    → (r : Rec) × (status ≡ Odd r) × (slot_of (number_of r) ≢ slot_of (number_of q)) × NeedsLabel m (Odd r) s bytes
begun_label m (Odd r) q s bytes needs = by_test (slot_of (number_of r) == slot_of (number_of q)) refl needs
  where
    by_test : (t : Bool) → (slot_of (number_of r) == slot_of (number_of q)) ≡ t → NeedsLabel m (cond t Lost (Odd r)) s bytes
        → (r' : Rec) × (Odd r ≡ Odd r') × (slot_of (number_of r') ≢ slot_of (number_of q)) × NeedsLabel m (Odd r') s bytes
    by_test true e n = absurd n
    by_test false e n = (r, refl, eqb-false (slot_of (number_of r)) (slot_of (number_of q)) e, n)
begun_label m (Even r) q s bytes needs = absurd needs
begun_label m Lost q s bytes needs = absurd needs

label_front : (m : Member) (r : Rec) (size slot s : ℕ) (bytes : List ℕ) → sectors_in r.commit.blob ≤ 28 → slot_of (number_of r) ≢ slot
    → NeedsLabel m (Odd r) s bytes → InFront size slot s
label_front m r size slot s bytes few ne (inl (e, b)) = FrontRing (slot_of (number_of r)) (omega arith) ne e
label_front m r size slot s bytes few ne (inr (i, lt, e, b)) = FrontPart i (omega arith) e

label_back : (m : Member) (r : Rec) (size s : ℕ) (bytes : List ℕ) → sectors_in r.commit.blob ≤ 28 → NeedsLabel m (Even r) s bytes → InBack size s
label_back m r size s bytes few (inl (e, b)) = BackRing (slot_of (number_of r)) (omega arith) e
label_back m r size s bytes few (inr (i, lt, e, b)) = BackPart i (omega arith) e

pub few_of : (c : Codec) (name : List ℕ) (pool : Guid) (room : ℕ → ℕ) (r : Rec) → Fits c name pool room r → sectors_in r.commit.blob ≤ 28
few_of c name pool room r fits = (fits.is_record (record { dev = 0; guid = record { 0 = 0 } }) (omega arith)).most

-- a live record in which some member takes part isn't the first one
pub taken_fits : (c : Codec) (name : List ℕ) (pool : Guid) (room : ℕ → ℕ) (r : Rec) (m : Guid) → IsFit c name pool room r → takes_part r m ≡ true
    → Fits c name pool room r
taken_fits c name pool room r m ((inl e), tree) takes = true_not_false (takes_part r m) takes (ap (λ r. takes_part r m) e)
taken_fits c name pool room r m ((inr fits), tree) takes = fits

odd_few : (c : Codec) (p : Pool) (d : ℕ) (status : Status) (r : Rec) → Survives c p → status ≡ Odd r → IsOf p.live
    (p.guid d) status → sectors_in r.commit.blob ≤ 28
odd_few c p d status r sv e is = let of = subst (IsOf p.live (p.guid d)) e is in few_of c p.name p.pool p.room r
    (taken_fits c p.name p.pool p.room r (p.guid d) (sv.fit r of.0) of.1)

-- what is needed of a member that takes part, behind the beginning of the round
needs_front : (c : Codec) (p : Pool) (q : Rec) (d s : ℕ) (bytes : List ℕ) → Survives c p → takes_part q (p.guid d) ≡ true → p.member d ≡ true
    → NeedsLabel (seat p d) ((after (Begins q) p).status d) s bytes → InFront (p.size d) (slot_of (number_of q)) s
needs_front c p q d s bytes sv takes is label =
    let old = begun_label (seat p d) (p.status d) q s bytes
    (subst (λ t. NeedsLabel (seat p d) (cond t (begun (p.status d) q) (p.status d)) s bytes) takes label) in
    label_front (seat p d) old.0 (p.size d) (slot_of (number_of q)) s bytes
    (odd_few c p d (p.status d) old.0 sv old.1 (sv.status_live d is)) old.2 old.3

-- the sectors of this device or of another
pub by_device : (P : ℕ → Type 0) (dev d : ℕ) → P dev → ((dev ≢ d) → P d) → P d
by_device P dev d here away = ⊎_elim {A = dev ≡ d} {B = dev ≢ d} (λ e. subst P e here) away (cases_eq dev d)

-- places of uberblocks
pub ring_of : (size place : ℕ) → place < 128 → place / 32 < 4
ring_of size place lt = omega arith

pub slot_below : (place : ℕ) → place % 32 < 32
slot_below place = omega arith

-- A plan that spares what labels need of a member, and the sectors between its labels.
label_sparing : (p : Pool) (asks : List Ask) → AreBetween p → ArePlain asks
    → ((d s : ℕ) (bytes : List ℕ) → p.member d ≡ true → NeedsLabel (seat p d) (p.status d) s bytes → Spares asks d s)
    → ((d s : ℕ) → p.member d ≡ true → 128 ≤ s → s + 128 < p.size d → Spares asks d s)
    → ((d place : ℕ) → p.member d ≡ true → place < 128 → LayJust (IsKnownUber (drawn p) p.pool (seat p d)) d (place_at (p.size d) place) asks)
    → AreSparing p asks
label_sparing p asks b plain label inside known = record {
  plain = plain;
  firm = λ d s bytes is n. ⊎_elim (λ n. label d s bytes is n) (λ n. let at = b.put d s bytes is n in inside d s is at.0 at.1) n;
  soft = λ d s bytes is n. let at = b.soft d s bytes is n in inside d s is at.0 at.1;
  true_to = λ r d k cell i is at top. spared_lay (λ bytes. bytes ≡ cell.block) asks d (data_start + cell.sector)
      (inside d (data_start + cell.sector) is (omega arith) (b.live r d k cell i is at top));
  known = known;
}

pub first_sparing : (c : Codec) (p : Pool) (q : Rec) (m : Member) → Survives c p → AreBetween (after (Begins q) p)
    → Fits c p.name p.pool p.room q → (p.member m.dev ≡ true → IsSeated p q m)
    → AreSparing (after (Begins q) p) (first_plan p.size q.commit m)
first_sparing c p q m sv between fits seated = label_sparing (after (Begins q) p) (first_plan p.size q.commit m) between tt
    (λ d. by_device (λ e. (s : ℕ) (bytes : List ℕ) → p.member e ≡ true → NeedsLabel (seat p e)
    ((after (Begins q) p).status e) s bytes → Spares (first_plan p.size q.commit m) e s) m.dev d
    (λ s bytes is n. first_spares m.dev (p.size m.dev) (slot_of (number_of q)) q.commit.blob m.dev s (seated is).big few
    (needs_front c p q m.dev s bytes sv (seated is).takes is n))
    (λ ne s bytes is n. config_elsewhere_even m.dev (p.size m.dev) q.commit.blob d s ne))
    (λ d. by_device (λ e. (s : ℕ) → p.member e ≡ true → 128 ≤ s → s + 128 < p.size e → Spares (first_plan p.size q.commit m) e s) m.dev d
    (λ s is low high. first_spares m.dev (p.size m.dev) (slot_of (number_of q)) q.commit.blob m.dev s (seated is).big few (FrontData low high))
    (λ ne s is low high. config_elsewhere_even m.dev (p.size m.dev) q.commit.blob d s ne))
    (λ d place is inside. spared_lay (IsKnownUber (drawn (after (Begins q) p)) p.pool (seat p d)) (first_plan p.size q.commit m) d (place_at (p.size d) place)
    (by_device (λ e. p.member e ≡ true → Spares (first_plan p.size q.commit m) e (place_at (p.size e) place)) m.dev d
    (λ here. even_spares_ring m.dev (p.size m.dev) q.commit.blob m.dev _ (place % 32) (seated here).big few
    (label_is (p.size m.dev) (place / 32) (ring_of (p.size m.dev) place inside)) (slot_below place))
    (λ ne other. config_elsewhere_even m.dev (p.size m.dev) q.commit.blob d _ ne) is))
  where
    few : sectors_in q.commit.blob ≤ 28
    few = few_of c p.name p.pool p.room q fits

pub first_bytes : (k : ℕ) (bytes : List ℕ) → length bytes ≡ 4096 → k ≡ 0 → sector_of k bytes ≡ bytes
unfolding sector_size
first_bytes k bytes long none = ap (λ i. take 4096 (drop (i * 4096) bytes)) none ∙ take_all 4096 bytes (omega arith)

-- a write of one sector that aims there puts it there
pub one_there : (dev at d s : ℕ) (bytes : List ℕ) → length bytes ≡ 4096 → sectors_in bytes ≡ 1 → ((dev == d) && covers at (sectors_in bytes) s) ≡ true
    → sector_of (s - at) bytes ≡ bytes
one_there dev at d s bytes long one is =
    let c = and_parts (nat_le at s) (nat_lt s (at + sectors_in bytes)) (and_parts (dev == d) (covers at (sectors_in bytes) s) is).1 in
    let low = leb-true at s c.0 in
    let high = ltb-true s (at + sectors_in bytes) c.1 in
    first_bytes (s - at) bytes long (omega (arith, low, high, one))

-- the new record's uberblock may stand in a ring
known_new : (p : Pool) (q : Rec) (m : Member) (bytes : List ℕ) → IsIn q (drawn p) → IsInRange (uberblock_of q.commit m) → m ≡ seat p m.dev
    → bytes ≡ uberblock_bytes (uberblock_of q.commit m) → IsKnownUber (drawn p) p.pool (seat p m.dev) bytes
known_new p q m bytes is_in range seat_is e v is =
    inl (q, is_in, sym (is_of_fields v bytes is) ∙ (ap fields_of e ∙ fields_are (uberblock_of q.commit m) range) ∙ ap (uberblock_of q.commit) seat_is)

pub member_range : (c : Codec) (p : Pool) (q : Rec) (m : Member) → Fits c p.name p.pool p.room q → IsSeated p q m → IsInRange (uberblock_of q.commit m)
member_range c p q m fits seated = (fits.is_record m seated.in_range).in_range

pub second_sparing : (c : Codec) (p : Pool) (q : Rec) (m : Member) → Survives c p → AreBetween (after (Begins q) p)
    → Fits c p.name p.pool p.room q → (p.member m.dev ≡ true → IsSeated p q m)
    → AreSparing (after (Begins q) p) (second_plan p.size q.commit m)
second_sparing c p q m sv between fits seated = label_sparing (after (Begins q) p) (second_plan p.size q.commit m) between tt
    (λ d. by_device (λ e. (s : ℕ) (bytes : List ℕ) → p.member e ≡ true → NeedsLabel (seat p e)
    ((after (Begins q) p).status e) s bytes → Spares (second_plan p.size q.commit m) e s) m.dev d
    (λ s bytes is n. second_spares m.dev (p.size m.dev) (uberblock_of q.commit m) m.dev s (seated is).big (one is)
    (needs_front c p q m.dev s bytes sv (seated is).takes is n))
    (λ ne s bytes is n. ring_elsewhere m.dev (p.size m.dev) (uberblock_of q.commit m) d s ne))
    (λ d. by_device (λ e. (s : ℕ) → p.member e ≡ true → 128 ≤ s → s + 128 < p.size e → Spares (second_plan p.size q.commit m) e s) m.dev d
    (λ s is low high. second_spares m.dev (p.size m.dev) (uberblock_of q.commit m) m.dev s (seated is).big (one is) (FrontData low high))
    (λ ne s is low high. ring_elsewhere m.dev (p.size m.dev) (uberblock_of q.commit m) d s ne))
    (λ d place is inside. by_device (λ e. p.member e ≡ true → LayJust (Known e) e (place_at (p.size e) place) (second_plan p.size q.commit m)) m.dev d
    (λ here. (
      puts_it here 0 (place_at (p.size m.dev) place),
      (
        puts_it here 64 (place_at (p.size m.dev) place),
        (
          puts_it here (p.size m.dev - 128) (place_at (p.size m.dev) place),
          (puts_it here (p.size m.dev - 64) (place_at (p.size m.dev) place), (λ aimed. absurd (no_aim aimed), tt)),
        ),
      ),
    ))
    (λ ne other. spared_lay (Known d) (second_plan p.size q.commit m) d (place_at (p.size d) place)
    (ring_elsewhere m.dev (p.size m.dev) (uberblock_of q.commit m) d _ ne)) is)
  where
    Known : (d : ℕ) → List ℕ → Type 0
    Known d = IsKnownUber (drawn (after (Begins q) p)) p.pool (seat p d)

    range : p.member m.dev ≡ true → IsInRange (uberblock_of q.commit m)
    range here = member_range c p q m fits (seated here)

    one : p.member m.dev ≡ true → sectors_in (uberblock_bytes (uberblock_of q.commit m)) ≡ 1
    one here = uberblock_sectors (uberblock_of q.commit m) (range here).sum

    no_aim : false ≡ true → ⊥
    no_aim e = cc

    puts_it : p.member m.dev ≡ true → (label s : ℕ)
        → ((m.dev == m.dev) && covers (label + (32 + slot_of (number_of q))) (sectors_in (uberblock_bytes (uberblock_of q.commit m))) s) ≡ true
        → Known m.dev (sector_of (s - (label + (32 + slot_of (number_of q)))) (uberblock_bytes (uberblock_of q.commit m)))
    puts_it here label s aimed = known_new (after (Begins q) p) q m _ (inl refl) (range here) (seated here).seat_is
        (one_there m.dev (label + (32 + slot_of (number_of q))) m.dev s (uberblock_bytes (uberblock_of q.commit m))
        (length-uberblock (uberblock_of q.commit m) (range here).sum) (one here) aimed)

pub third_sparing : (c : Codec) (p : Pool) (q : Rec) (m : Member) → AreBetween p → Fits c p.name p.pool p.room q
    → (p.member m.dev ≡ true → IsSeated p q m) → p.status m.dev ≡ Even q
    → AreSparing p (third_plan p.size q.commit m)
third_sparing c p q m between fits seated status = label_sparing p (third_plan p.size q.commit m) between tt
    (λ d. by_device (λ e. (s : ℕ) (bytes : List ℕ) → p.member e ≡ true → NeedsLabel (seat p e) (p.status e) s bytes
    → Spares (third_plan p.size q.commit m) e s) m.dev d
    (λ s bytes is n. third_spares m.dev (p.size m.dev) q.commit.blob m.dev s (seated is).big few
    (label_back (seat p m.dev) q (p.size m.dev) s bytes few (subst (λ st. NeedsLabel (seat p m.dev) st s bytes) status n)))
    (λ ne s bytes is n. config_elsewhere_odd m.dev (p.size m.dev) q.commit.blob d s ne))
    (λ d. by_device (λ e. (s : ℕ) → p.member e ≡ true → 128 ≤ s → s + 128 < p.size e → Spares (third_plan p.size q.commit m) e s) m.dev d
    (λ s is low high. third_spares m.dev (p.size m.dev) q.commit.blob m.dev s (seated is).big few (BackData low high))
    (λ ne s is low high. config_elsewhere_odd m.dev (p.size m.dev) q.commit.blob d s ne))
    (λ d place is inside. spared_lay (IsKnownUber (drawn p) p.pool (seat p d)) (third_plan p.size q.commit m) d (place_at (p.size d) place)
    (by_device (λ e. p.member e ≡ true → Spares (third_plan p.size q.commit m) e (place_at (p.size e) place)) m.dev d
    (λ here. odd_spares_ring m.dev (p.size m.dev) q.commit.blob m.dev _ (place % 32) (seated here).big few
    (label_is (p.size m.dev) (place / 32) (ring_of (p.size m.dev) place inside)) (slot_below place))
    (λ ne other. config_elsewhere_odd m.dev (p.size m.dev) q.commit.blob d _ ne) is))
  where
    few : sectors_in q.commit.blob ≤ 28
    few = few_of c p.name p.pool p.room q fits
