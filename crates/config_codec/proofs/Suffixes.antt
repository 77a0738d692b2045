-- What stands first in bytes that begin with a field, and what is behind it.
use Rattle.std.proofs.Common.{◌≡◌, ℕ, zero, suc, ◌+◌, ◌*◌, ◌-◌, ◌^◌, ◌<◌, ◌≤◌, Bool, true, false, List, [], ◌∷◌, ◌++◌, length, drop, refl, ap, ◌∙◌, arith, append_assoc, length-append, Option, Some, None}
use Rattle.std.specs.Prelude.{if◌then◌else◌, ◌==◌, slice_get}
use Rattle.std.specs.List.{flat_map}
use Rattle.std.specs.Int.{from_be_bytes, w32, w64}
use Rattle.std.proofs.lemmas.Bool.{ne_eqb, cond-false}
use Rattle.std.proofs.lemmas.List.{take_at, drop_at, append-nil}
use Rattle.std.proofs.lemmas.Nat.{from_be_bytes-to_be_bytes_4, from_be_bytes-to_be_bytes_8}
use Rattle.mp_base.specs.Block.{zeros}
use Rattle.mp_base.specs.declared.range.GroupRange.{GroupRange}
use Rattle.config_codec.specs.declared.config.KeptState.{KeptState}
use Rattle.config_codec.specs.declared.config.KeptState.TheVariants.{Online, Offline, Faulted, Degraded}
use Rattle.config_codec.specs.declared.config.LeafConfig.{LeafConfig}
use Rattle.config_codec.specs.declared.config.Pointer.{Pointer}
use Rattle.config_codec.specs.Flags.{flags_of, kept_in, marked_in}
use Rattle.mp_base.specs.Ranges.{Rises}
use Rattle.config_codec.specs.Spelling.{be32, be64, text_bytes, pointer_bytes, range_bytes, log_bytes, leaf_bytes}
use Rattle.config_codec.specs.Reading.{front, byte_in, count_in, number_in, text_in, behind_text, pointer_in, pointers_in, range_in, ranges_in, log_in, behind_log, leaf_in, behind_leaf}
use Rattle.config_codec.proofs.Placing.{length-be32, length-be64, length-zeros}

abbrev pub leaf_with : ℕ → List ℕ → KeptState → Bool → List GroupRange → LeafConfig
leaf_with member name kept marked log = record { member = record { 0 = member }; name = name; kept = kept; marked = marked; log = log }

abbrev pub range_with : (low high : ℕ) → GroupRange
range_with low high = record { low = record { 0 = low }; high = record { 0 = high } }

abbrev pub pointer_with : (birth sector : ℕ) → List ℕ → Pointer
pointer_with birth sector sum = record { birth = record { 0 = birth }; sector = sector; sum = sum }

pub front_is : (piece rest : List ℕ) (n : ℕ) → length piece ≡ n → front n (piece ++ rest) ≡ piece
unfolding front zeros
front_is piece rest n long =
    let none : n - length (piece ++ rest) ≡ 0 = omega (arith, length-append piece rest) in
    rw (none, take_at piece rest n long) (append-nil piece)

pub number_is : (n : ℕ) (rest : List ℕ) → n < 2 ^ 64 → number_in (be64 n ++ rest) ≡ n
unfolding number_in be64
number_is n rest lt = ap (from_be_bytes w64) (front_is (be64 n) rest 8 (length-be64 n)) ∙ from_be_bytes-to_be_bytes_8 n lt

pub count_is : (n : ℕ) (rest : List ℕ) → n < 2 ^ 32 → count_in (be32 n ++ rest) ≡ n
unfolding count_in be32
count_is n rest lt = ap (from_be_bytes w32) (front_is (be32 n) rest 4 (length-be32 n)) ∙ from_be_bytes-to_be_bytes_4 n lt

pub behind_number : (n : ℕ) (rest : List ℕ) → drop 8 (be64 n ++ rest) ≡ rest
behind_number n rest = drop_at (be64 n) rest 8 (length-be64 n)

pub behind_count : (n : ℕ) (rest : List ℕ) → drop 4 (be32 n ++ rest) ≡ rest
behind_count n rest = drop_at (be32 n) rest 4 (length-be32 n)

pub text_is : (text rest : List ℕ) → text_in (text_bytes text ++ rest) ≡ text
unfolding text_in text_bytes
text_is text rest = take_at text rest (length text) refl

pub behind_text_is : (text rest : List ℕ) → behind_text (text_bytes text ++ rest) ≡ rest
unfolding behind_text text_bytes
behind_text_is text rest = drop_at text rest (length text) refl

-- ---- logs

pub length-range_bytes : (r : GroupRange) → length (range_bytes r) ≡ 16
unfolding range_bytes
length-range_bytes r = omega (arith, length-be64 r.low.0, length-be64 r.high.0, length-append (be64 r.low.0) (be64 r.high.0))

pub length-ranges : (ranges : List GroupRange) → length (flat_map range_bytes ranges) ≡ 16 * length ranges
length-ranges [] = refl
length-ranges (r ∷ ranges) =
    omega (arith, length-append (range_bytes r) (flat_map range_bytes ranges), length-range_bytes r, length-ranges ranges)

range_split : (r : GroupRange) (rest : List ℕ) → range_bytes r ++ rest ≡ be64 r.low.0 ++ (be64 r.high.0 ++ rest)
unfolding range_bytes
range_split r rest = append_assoc (be64 r.low.0) (be64 r.high.0) rest

pub same_range : (m n k l : ℕ) → m ≡ n → k ≡ l → range_with m k ≡ range_with n l
same_range m n k l e f = cc

range_is : (r : GroupRange) (rest : List ℕ) → r.low.0 < 2 ^ 64 → r.high.0 < 2 ^ 64 → range_in (range_bytes r ++ rest) ≡ r
unfolding range_in
range_is r rest low high =
    ap range_in (range_split r rest) ∙ same_range _ _ _ _ (number_is r.low.0 (be64 r.high.0 ++ rest) low)
    (ap number_in (behind_number r.low.0 (be64 r.high.0 ++ rest)) ∙ number_is r.high.0 rest high)

ranges_are : (least most : ℕ) (ranges : List GroupRange) (rest : List ℕ) → Rises least most ranges → most < 2 ^ 64
    → ranges_in (length ranges) (flat_map range_bytes ranges ++ rest) ≡ ranges
unfolding ranges_in
ranges_are least most [] rest rise lt = refl
ranges_are least most (r ∷ ranges) rest rise lt =
    let split : flat_map range_bytes (r ∷ ranges) ++ rest ≡ range_bytes r ++ (flat_map range_bytes ranges ++ rest) = append_assoc (range_bytes r) (flat_map range_bytes ranges) rest in
    let one = range_is r (flat_map range_bytes ranges ++ rest) (omega (arith, rise.1, rise.2)) (omega (arith, rise.2)) in
    let behind = drop_at (range_bytes r) (flat_map range_bytes ranges ++ rest) 16 (length-range_bytes r) in
    let more = ranges_are (r.high.0 + 2) most ranges rest rise.3 lt in
    ap (ranges_in (length (r ∷ ranges))) split ∙ both _ _ _ _ one (ap (ranges_in (length ranges)) behind ∙ more)
  where
    both : (x y : GroupRange) (xs ys : List GroupRange) → x ≡ y → xs ≡ ys → x ∷ xs ≡ y ∷ ys
    both x y xs ys e f = cc

log_split : (log : List GroupRange) (rest : List ℕ) → log_bytes log ++ rest ≡ be32 (length log) ++ (flat_map range_bytes log ++ rest)
unfolding log_bytes
log_split log rest = append_assoc (be32 (length log)) (flat_map range_bytes log) rest

counted : (log : List GroupRange) (rest : List ℕ) → length log < 2 ^ 32 → count_in (log_bytes log ++ rest) ≡ length log
counted log rest few = ap count_in (log_split log rest) ∙ count_is (length log) _ few

behind_counted : (log : List GroupRange) (rest : List ℕ) → drop 4 (log_bytes log ++ rest) ≡ flat_map range_bytes log ++ rest
behind_counted log rest = ap (drop 4) (log_split log rest) ∙ behind_count (length log) _

log_is : (most : ℕ) (log : List GroupRange) (rest : List ℕ) → length log < 2 ^ 32 → Rises 1 most log → most < 2 ^ 64 → log_in (log_bytes log ++ rest) ≡ log
unfolding log_in
log_is most log rest few rise lt =
    ap (λ n. ranges_in n (drop 4 (log_bytes log ++ rest))) (counted log rest few)
    ∙ ap (ranges_in (length log)) (behind_counted log rest) ∙ ranges_are 1 most log rest rise lt

behind_log_is : (log : List GroupRange) (rest : List ℕ) → length log < 2 ^ 32 → behind_log (log_bytes log ++ rest) ≡ rest
unfolding behind_log
behind_log_is log rest few =
    ap (λ n. drop (16 * n) (drop 4 (log_bytes log ++ rest))) (counted log rest few)
    ∙ ap (drop (16 * length log)) (behind_counted log rest) ∙ drop_at (flat_map range_bytes log) rest (16 * length log) (length-ranges log)

-- ---- leaves

kept_back : (kept : KeptState) (marked : Bool) → kept_in (flags_of kept marked) ≡ kept
kept_back Online true = refl
kept_back Online false = refl
kept_back Offline true = refl
kept_back Offline false = refl
kept_back Faulted true = refl
kept_back Faulted false = refl
kept_back Degraded true = refl
kept_back Degraded false = refl

marked_back : (kept : KeptState) (marked : Bool) → marked_in (flags_of kept marked) ≡ marked
marked_back Online true = refl
marked_back Online false = refl
marked_back Offline true = refl
marked_back Offline false = refl
marked_back Faulted true = refl
marked_back Faulted false = refl
marked_back Degraded true = refl
marked_back Degraded false = refl

-- what a leaf needs to be read back
pub record IsKeptLeaf (most : ℕ) (leaf : LeafConfig) : Type 0 where
  pub member : leaf.member.0 < 2 ^ 64
  pub few : length leaf.log < 2 ^ 32
  pub rise : Rises 1 most leaf.log
  pub last : most < 2 ^ 64

leaf_split : (leaf : LeafConfig) (rest : List ℕ)
    → leaf_bytes leaf ++ rest ≡ 0 ∷ (be64 leaf.member.0 ++ (text_bytes leaf.name ++ (flags_of leaf.kept leaf.marked ∷ (log_bytes leaf.log ++ rest))))
unfolding leaf_bytes
leaf_split leaf rest = simp append_assoc

pub same_leaf : (m n : ℕ) (s t : List ℕ) (k l : KeptState) (a b : Bool) (x y : List GroupRange) → m ≡ n → s ≡ t → k ≡ l → a ≡ b → x ≡ y
    → leaf_with m s k a x ≡ leaf_with n t l b y
same_leaf m n s t k l a b x y e1 e2 e3 e4 e5 = cc

behind_device : (member : ℕ) (name rest : List ℕ) → behind_text (drop 8 (be64 member ++ (text_bytes name ++ rest))) ≡ rest
behind_device member name rest = ap behind_text (behind_number member (text_bytes name ++ rest)) ∙ behind_text_is name rest

pub leaf_is : (most : ℕ) (leaf : LeafConfig) (rest : List ℕ) → IsKeptLeaf most leaf → leaf_in (leaf_bytes leaf ++ rest) ≡ leaf
unfolding leaf_in
leaf_is most leaf rest is =
    let flags = flags_of leaf.kept leaf.marked in
    let tail = flags ∷ (log_bytes leaf.log ++ rest) in
    let at_flags = behind_device leaf.member.0 leaf.name tail in
    ap leaf_in (leaf_split leaf rest) ∙ same_leaf _ _ _ _ _ _ _ _ _ _
    (number_is leaf.member.0 (text_bytes leaf.name ++ tail) is.member)
    (ap text_in (behind_number leaf.member.0 (text_bytes leaf.name ++ tail)) ∙ text_is leaf.name tail)
    (ap (λ s. kept_in (byte_in s)) at_flags ∙ kept_back leaf.kept leaf.marked)
    (ap (λ s. marked_in (byte_in s)) at_flags ∙ marked_back leaf.kept leaf.marked)
    (ap (λ s. log_in (drop 1 s)) at_flags ∙ log_is most leaf.log rest is.few is.rise is.last)

pub behind_leaf_is : (leaf : LeafConfig) (rest : List ℕ) → length leaf.log < 2 ^ 32 → behind_leaf (leaf_bytes leaf ++ rest) ≡ rest
unfolding behind_leaf
behind_leaf_is leaf rest few =
    ap behind_leaf (leaf_split leaf rest)
    ∙ ap (λ s. behind_log (drop 1 s)) (behind_device leaf.member.0 leaf.name (flags_of leaf.kept leaf.marked ∷ (log_bytes leaf.log ++ rest)))
    ∙ behind_log_is leaf.log rest few

-- ---- pointers

-- what a pointer needs to be read back
pub record IsKept (p : Pointer) : Type 0 where
  pub some : 1 ≤ p.birth.0
  pub birth : p.birth.0 < 2 ^ 64
  pub sector : p.sector < 2 ^ 64
  pub sum : length p.sum ≡ 32

pub length-pointer_bytes : (slot : Option Pointer) → ((p : Pointer) → slot ≡ Some p → IsKept p) → length (pointer_bytes slot) ≡ 52
unfolding pointer_bytes
length-pointer_bytes None kept = length-zeros 52
length-pointer_bytes (Some p) kept =
    omega (
      arith,
      length-be64 p.birth.0,
      length-be32 0,
      length-be64 p.sector,
      (kept p refl).sum,
      length-append (be64 p.birth.0) (be32 0),
      length-append (be64 p.birth.0 ++ be32 0) (be64 p.sector),
      length-append (be64 p.birth.0 ++ be32 0 ++ be64 p.sector) p.sum,
    )

hole_split : (rest : List ℕ) → zeros 52 ++ rest ≡ be64 0 ++ (zeros 44 ++ rest)
unfolding zeros be64
hole_split rest = refl

place_split : (a b c d rest : List ℕ) → (a ++ b ++ c ++ d) ++ rest ≡ a ++ (b ++ (c ++ (d ++ rest)))
place_split a b c d rest = simp append_assoc

sector_split : (a b c d rest : List ℕ) → (a ++ b ++ c ++ d) ++ rest ≡ (a ++ b) ++ (c ++ (d ++ rest))
sector_split a b c d rest = simp append_assoc

sum_split : (a b c d rest : List ℕ) → (a ++ b ++ c ++ d) ++ rest ≡ (a ++ b ++ c) ++ (d ++ rest)
sum_split a b c d rest = simp append_assoc

pub same_pointer : (b b' s s' : ℕ) (t t' : List ℕ) → b ≡ b' → s ≡ s' → t ≡ t' → pointer_with b s t ≡ pointer_with b' s' t'
same_pointer b b' s s' t t' e f g = cc

hole_read : (n s : ℕ) (t : List ℕ) → n ≡ 0 → (if n == 0 then None else Some (pointer_with n s t)) ≡ None
hole_read n s t e = rw e refl

pub pointer_is : (slot : Option Pointer) (rest : List ℕ) → ((p : Pointer) → slot ≡ Some p → IsKept p) → pointer_in (pointer_bytes slot ++ rest) ≡ slot
unfolding pointer_in pointer_bytes
pointer_is None rest kept = hole_read _ _ _ (ap number_in (hole_split rest) ∙ number_is 0 (zeros 44 ++ rest) (omega arith))
pointer_is (Some p) rest kept =
    let k = kept p refl in
    let birth : number_in (pointer_bytes (Some p) ++ rest) ≡ p.birth.0 =
    ap number_in (place_split (be64 p.birth.0) (be32 0) (be64 p.sector) p.sum rest) ∙ number_is p.birth.0 _ k.birth in
    let some : number_in (pointer_bytes (Some p) ++ rest) ≡ 0 → ⊥ = λ e. omega (arith, k.some, birth, e) in
    let sector : number_in (drop 12 (pointer_bytes (Some p) ++ rest)) ≡ p.sector =
    ap (λ s. number_in (drop 12 s)) (sector_split (be64 p.birth.0) (be32 0) (be64 p.sector) p.sum rest)
    ∙ ap number_in (drop_at (be64 p.birth.0 ++ be32 0) _ 12 (omega (arith, length-be64 p.birth.0, length-be32 0, length-append (be64 p.birth.0) (be32 0))))
    ∙ number_is p.sector _ k.sector in
    let sum : front 32 (drop 20 (pointer_bytes (Some p) ++ rest)) ≡ p.sum =
    ap (λ s. front 32 (drop 20 s)) (sum_split (be64 p.birth.0) (be32 0) (be64 p.sector) p.sum rest)
    ∙ ap (front 32) (drop_at (be64 p.birth.0 ++ be32 0 ++ be64 p.sector) _ 20
    (omega (arith, length-be64 p.birth.0, length-be32 0, length-be64 p.sector, length-append (be64 p.birth.0) (be32 0), length-append (be64 p.birth.0 ++ be32 0) (be64 p.sector))))
    ∙ front_is p.sum rest 32 k.sum in
    cond-false _ _ _ (ne_eqb _ _ some) ∙ ap Some (same_pointer _ _ _ _ _ _ birth sector sum)

-- each pointer can be read back
abbrev pub AreKept : List (Option Pointer) → Type 0
AreKept slots = (a : ℕ) (p : Pointer) → slice_get slots a ≡ Some (Some p) → IsKept p

first_kept : (slot : Option Pointer) (slots : List (Option Pointer)) → AreKept (slot ∷ slots) → (p : Pointer) → slot ≡ Some p → IsKept p
first_kept slot slots kept p e = kept zero p (ap Some e)

others_kept : (slot : Option Pointer) (slots : List (Option Pointer)) → AreKept (slot ∷ slots) → AreKept slots
others_kept slot slots kept a p e = kept (suc a) p e

pub length-pointers : (slots : List (Option Pointer)) → AreKept slots → length (flat_map pointer_bytes slots) ≡ 52 * length slots
length-pointers [] kept = refl
length-pointers (slot ∷ slots) kept =
    omega (
      arith,
      length-append (pointer_bytes slot) (flat_map pointer_bytes slots),
      length-pointer_bytes slot (first_kept slot slots kept),
      length-pointers slots (others_kept slot slots kept),
    )

pub pointers_are : (slots : List (Option Pointer)) (rest : List ℕ) → AreKept slots → pointers_in (length slots) (flat_map pointer_bytes slots ++ rest) ≡ slots
unfolding pointers_in
pointers_are [] rest kept = refl
pointers_are (slot ∷ slots) rest kept =
    let split : flat_map pointer_bytes (slot ∷ slots) ++ rest ≡ pointer_bytes slot ++ (flat_map pointer_bytes slots ++ rest) = append_assoc (pointer_bytes slot) (flat_map pointer_bytes slots) rest in
    let one = pointer_is slot (flat_map pointer_bytes slots ++ rest) (first_kept slot slots kept) in
    let behind = drop_at (pointer_bytes slot) (flat_map pointer_bytes slots ++ rest) 52 (length-pointer_bytes slot (first_kept slot slots kept)) in
    let more = pointers_are slots rest (others_kept slot slots kept) in
    ap (pointers_in (length (slot ∷ slots))) split ∙ both _ _ _ _ one (ap (pointers_in (length slots)) behind ∙ more)
  where
    both : (x y : Option Pointer) (xs ys : List (Option Pointer)) → x ≡ y → xs ≡ ys → x ∷ xs ≡ y ∷ ys
    both x y xs ys e f = cc
