-- The state of a pool that is made: its configuration is valid.
use Rattle.std.proofs.Common.{◌≡◌, ◌≢◌, ℕ, ◌+◌, ◌-◌, ◌^◌, ◌<◌, ◌≤◌, ◌==◌, ◌||◌, ◌&&◌, zero, suc, Bool, true, false, not, cond, List, [], ◌∷◌, ◌++◌, length, take, Option, Some, None, refl, sym, ap, ◌∙◌, subst, arith}
use Rattle.std.specs.Prelude.{IsTrue, nat_le, nat_lt, slice_get, slice_index, if◌then◌else◌}
use Rattle.std.specs.Int.{to_be_bytes, from_be_bytes, w32, w64}
use Rattle.std.specs.Str.{bytes_eq}
use Rattle.std.proofs.lemmas.Bool.{and_parts, leb-true, eqb-false}
use Rattle.std.proofs.lemmas.List.{length-take-le}
use Rattle.std.proofs.lemmas.Option.{slice_get_within}
use Rattle.std.proofs.lemmas.Slice.Eq.{bytes_eq-Decides}
use Rattle.sha2.specs.Sha256.{sha256, digest_bytes}
use Rattle.sha2.proofs.Facts256.{length-sha256}
use Rattle.mp_base.specs.Name.{is_name}
use Rattle.group_set.specs.Ranges.{ranges_upto}
use Rattle.config_codec.specs.declared.config.Pointer.{Pointer}
use Rattle.config_codec.specs.Validity.{IsValid}
use Rattle.pool_history.specs.Records.{Rec}
use Rattle.pool_core.specs.Making.{pool_sum, pool_number, top_sectors, made_state}
use Rattle.pool_core.specs.Recorded.{fields_in, pointers_of}
use Rattle.pool_core.specs.State.{Version, PoolState}
use Rattle.host_machine.specs.declared.device.HostDevice.{HostDevice}
use Rattle.host_machine.specs.Devices.{AreApart, member_of}
use Rattle.host_machine.specs.Machine.{HostState, is_bad_size, both, new_seats}
use Rattle.host_machine.proofs.HostSeats.{both_are, member_number}
use Rattle.group_set.proofs.Upto.{upto_rises}
use Rattle.host_machine.proofs.Settling.{same_some, none_some, pointers_long, pointers_at}

-- each of these is a byte
abbrev AreBytes : List ℕ → Type 0
AreBytes [] = Unit {0}
AreBytes (b ∷ bs) = (b < 256) × AreBytes bs

bytes_more : (xs ys : List ℕ) → AreBytes xs → AreBytes ys → AreBytes (xs ++ ys)
bytes_more [] ys a b = b
bytes_more (x ∷ xs) ys a b = (a.0, bytes_more xs ys a.1 b)

bytes_front : (n : ℕ) (xs : List ℕ) → AreBytes xs → AreBytes (take n xs)
bytes_front zero xs a = tt
bytes_front (suc n) [] a = tt
bytes_front (suc n) (x ∷ xs) a = (a.0, bytes_front n xs a.1)

word_bytes : (n : ℕ) → AreBytes (to_be_bytes w32 n)
word_bytes n = (omega arith, (omega arith, (omega arith, (omega arith, tt))))

digest_all : (h : List ℕ) (n : ℕ) → AreBytes (digest_bytes h n)
unfolding digest_bytes
digest_all h zero = tt
digest_all h (suc n) = bytes_more (digest_bytes h n) (to_be_bytes w32 (slice_index h n)) (digest_all h n) (word_bytes (slice_index h n))

sum_bytes : (m : List ℕ) → AreBytes (sha256 m)
unfolding sha256
sum_bytes m = digest_all _ 8

number_below : (bs : List ℕ) → length bs ≡ 8 → AreBytes bs → from_be_bytes w64 bs < 2 ^ 64
number_below [] l a = absurd (omega arith)
number_below (a ∷ []) l s = absurd (omega arith)
number_below (a ∷ b ∷ []) l s = absurd (omega arith)
number_below (a ∷ b ∷ c ∷ []) l s = absurd (omega arith)
number_below (a ∷ b ∷ c ∷ d ∷ []) l s = absurd (omega arith)
number_below (a ∷ b ∷ c ∷ d ∷ e ∷ []) l s = absurd (omega arith)
number_below (a ∷ b ∷ c ∷ d ∷ e ∷ f ∷ []) l s = absurd (omega arith)
number_below (a ∷ b ∷ c ∷ d ∷ e ∷ f ∷ g ∷ []) l s = absurd (omega arith)
number_below (a ∷ b ∷ c ∷ d ∷ e ∷ f ∷ g ∷ h ∷ []) l s =
    omega (arith, s.0, s.1.0, s.1.1.0, s.1.1.1.0, s.1.1.1.1.0, s.1.1.1.1.1.0, s.1.1.1.1.1.1.0, s.1.1.1.1.1.1.1.0)
number_below (a ∷ b ∷ c ∷ d ∷ e ∷ f ∷ g ∷ h ∷ x ∷ bs) l s = absurd (omega arith)

pool_below : (name : List ℕ) (second : ℕ) → pool_sum name second < 2 ^ 64
unfolding pool_sum
pool_below name second =
    number_below (take 8 (sha256 (name ++ to_be_bytes w64 second))) (length-take-le 8 _ (let long = length-sha256 (name ++ to_be_bytes w64 second) in omega arith))
    (bytes_front 8 _ (sum_bytes (name ++ to_be_bytes w64 second)))

some_number : (n : ℕ) → n < 2 ^ 64 → (1 ≤ cond (n == 0) 1 n) × (cond (n == 0) 1 n ≤ 2 ^ 64 - 1)
some_number n below = by (n == 0) refl
  where
    by : (t : Bool) → (n == 0) ≡ t → (1 ≤ cond t 1 n) × (cond t 1 n ≤ 2 ^ 64 - 1)
    by true e = (omega arith, omega arith)
    by false e = (let some : n ≢ 0 = eqb-false n 0 e in omega (arith, some), omega arith)

pub pool_number_fits : (name : List ℕ) (second : ℕ) → (1 ≤ (pool_number name second).0) × ((pool_number name second).0 ≤ 2 ^ 64 - 1)
pool_number_fits name second = some_number (pool_sum name second) (pool_below name second)

-- What is so where a create has seats.
pub record HasNewSeats (h : HostState) (blocks : ℕ) (first other : List ℕ) (seats : ℕ × ℕ) : Type 0 where
  pub closed : h.pool ≡ None
  pub few : blocks ≤ 32
  pub differ : first ≢ other
  pub one : member_of first h.table ≡ Some seats.0
  pub two : member_of other h.table ≡ Some seats.1

if_some : (t : Bool) (x : Option (ℕ × ℕ)) (seats : ℕ × ℕ) → (if t then x else None) ≡ Some seats → (t ≡ true) × (x ≡ Some seats)
if_some true x seats e = (refl, e)
if_some false x seats e = absurd (none_some seats e)

not_same : (t : Bool) → t ≡ true → not t ≡ true → ⊥
not_same t e f = cc

new_by : (table : List HostDevice) (size : ℕ → ℕ) (records : List Rec) (pool : Option PoolState) (blocks : ℕ) (first other : List ℕ) (seats : ℕ × ℕ)
    → new_seats (record { table = table; size = size; records = records; pool = pool }) blocks first other ≡ Some seats
    → HasNewSeats (record { table = table; size = size; records = records; pool = pool }) blocks first other seats
new_by table size records None blocks first other seats e =
    let parts = if_some (nat_le blocks 32 && not (bytes_eq first other)) (both (member_of first table) (member_of other table)) seats e in
    let tests = and_parts (nat_le blocks 32) (not (bytes_eq first other)) parts.0 in
    let two = both_are (member_of first table) (member_of other table) seats parts.1 in
    record {
      closed = refl;
      few = leb-true blocks 32 tests.0;
      differ = λ same. not_same (bytes_eq first other) ((bytes_eq-Decides first other).1 same) tests.1;
      one = two.0;
      two = two.1;
    }
new_by table size records (Some s) blocks first other seats e = absurd (none_some seats e)

pub new_seats_found : (h : HostState) (blocks : ℕ) (first other : List ℕ) (seats : ℕ × ℕ) → new_seats h blocks first other ≡ Some seats → HasNewSeats h blocks first other seats
new_seats_found h blocks first other seats e = new_by h.table h.size h.records h.pool blocks first other seats e

-- its devices differ, and have the labels' room
pub seats_apart : (h : HostState) (blocks : ℕ) (first other : List ℕ) (seats : ℕ × ℕ) → AreApart h.table → HasNewSeats h blocks first other seats → seats.0 ≢ seats.1
seats_apart h blocks first other seats apart has same =
    has.differ (apart.by first other seats.0 (member_number first h.table seats.0 has.one) (member_number other h.table seats.1 has.two ∙ ap Some (sym same)))

pub some_blocks : (blocks : ℕ) → is_bad_size blocks ≡ false → 1 ≤ blocks
some_blocks blocks e = by (blocks == 0) refl e
  where
    by : (t : Bool) → (blocks == 0) ≡ t → (t || nat_lt 262144 blocks) ≡ false → 1 ≤ blocks
    by true t e = absurd (let no : true ≡ false = e in cc)
    by false t e = let some : blocks ≢ 0 = eqb-false blocks 0 t in omega (arith, some)

pub top_room : (a b : ℕ) → 320 ≤ a → 320 ≤ b → (64 ≤ top_sectors a b) × ((top_sectors a b ≤ 1048320) × ((top_sectors a b + 256 ≤ a) × (top_sectors a b + 256 ≤ b)))
top_room a b one two = (omega arith, (omega arith, (omega arith, omega arith)))

abbrev nothing_committed : ℕ → Option Version
nothing_committed a = None

-- empty logs have no ranges
no_ranges : length (ranges_upto (λ g. false) 1) + length (ranges_upto (λ g. false) 1) ≤ 4096
unfolding ranges_upto
no_ranges = omega arith

-- The configuration of a pool that is made is valid.
pub made_valid : (size : ℕ → ℕ) (name : List ℕ) (second : ℕ) (blocks : ℕ) (first other : List ℕ) (seats : ℕ × ℕ) → IsTrue (is_name name) → IsTrue (is_name first) → IsTrue (is_name other)
    → 1 ≤ blocks → blocks ≤ 32 → first ≢ other → 320 ≤ size seats.0 → 320 ≤ size seats.1
    → IsValid (fields_in (made_state size name (pool_number name second) blocks (first, seats.0) (other, seats.1)))
made_valid size name second blocks first other seats named first_named other_named some few differ one two = record {
  pool = pool_number_fits name second;
  name = named;
  blocks = (some, few);
  number = (omega arith, omega arith);
  next_member = omega arith;
  counted = pointers_long nothing_committed blocks;
  pointers = λ a p e. absurd (no_pointer a p e);
  sectors = (top.0, top.1.0);
  mirror = (omega arith, omega arith);
  first = (omega arith, omega arith);
  second = (omega arith, omega arith);
  not_first = λ e. omega (arith, e);
  not_second = λ e. omega (arith, e);
  two_members = λ e. omega (arith, e);
  first_name = first_named;
  second_name = other_named;
  two_devices = differ;
  first_log = upto_rises (λ g. false) 1;
  second_log = upto_rises (λ g. false) 1;
  few_ranges = no_ranges;
}
  where
    no_pointer : (a : ℕ) (p : Pointer) → slice_get (pointers_of nothing_committed blocks) a ≡ Some (Some p) → ⊥
    no_pointer a p e =
        let within : a < length (pointers_of nothing_committed blocks) = slice_get_within (pointers_of nothing_committed blocks) a (Some p) e in
        let below : a < blocks = subst (λ n. a < n) (pointers_long nothing_committed blocks) within in
        none_some p (same_some None (Some p) (sym (pointers_at nothing_committed blocks a below) ∙ e))

    top : (64 ≤ top_sectors (size seats.0) (size seats.1)) × ((top_sectors (size seats.0) (size seats.1) ≤ 1048320)
        × ((top_sectors (size seats.0) (size seats.1) + 256 ≤ size seats.0) × (top_sectors (size seats.0) (size seats.1) + 256 ≤ size seats.1)))
    top = top_room (size seats.0) (size seats.1) one two
