-- What stands first in bytes that begin with a field, and what is behind it.
use Rattle.std.proofs.Common.{◌≡◌, ℕ, suc, ◌+◌, ◌*◌, ◌-◌, ◌^◌, ◌<◌, ◌≤◌, Bool, true, false, List, [], ◌∷◌, ◌++◌, length}
use Rattle.std.proofs.Common.{drop, refl, ap, ◌∙◌, arith, append_assoc, length-append}
use Rattle.std.specs.List.{flat_map}
use Rattle.std.specs.Int.{from_be_bytes, w32, w64}
use Rattle.std.proofs.lemmas.Bool.{false≢true}
use Rattle.std.proofs.lemmas.List.{take_at, drop_at, append-nil}
use Rattle.std.proofs.lemmas.Nat.{from_be_bytes-to_be_bytes_4, from_be_bytes-to_be_bytes_8}
use Rattle.mp_base.specs.Block.{zeros}
use Rattle.mp_base.specs.declared.range.GroupRange.{GroupRange}
use Rattle.mp_base.specs.declared.place.Pointer.{Pointer}
use Rattle.vdev_tree.specs.declared.vdev.State.{State}
use Rattle.vdev_tree.specs.declared.vdev.State.TheVariants.{Online, Degraded, Faulted, Offline, Removed, Unavail}
use Rattle.mp_base.specs.Ranges.{Rises}
use Rattle.pool_config.specs.Flags.{is_recorded, flags_of, state_in, marked_in}
use Rattle.pool_config.specs.Seen.{LeafSeen}
use Rattle.pool_config.specs.Spelling.{be32, be64, text_bytes, pointer_bytes, range_bytes, log_bytes, leaf_bytes}
use Rattle.pool_config.specs.Reading.{Read, front, byte_in, count_in, number_in, text_in, behind_text, pointer_in}
use Rattle.pool_config.specs.Reading.{before, many_in, range_in, log_in, leaf_in, spare_in}
use Rattle.pool_config.proofs.Placing.{length-be32, length-be64}

abbrev pub read_as : {A : Type 0} → A → List ℕ → Read A
read_as value rest = record { value = value; rest = rest }

pub front_is : (piece rest : List ℕ) (n : ℕ) → length piece ≡ n → front n (piece ++ rest) ≡ piece
unfolding front zeros
front_is piece rest n long =
    let none : n - length (piece ++ rest) ≡ 0 = omega (arith, length-append piece rest) in
    rw (none, take_at piece rest n long) (append-nil piece)

pub number_is : (n : ℕ) (rest : List ℕ) → n < 2 ^ 64 → number_in (be64 n ++ rest) ≡ n
unfolding number_in be64
number_is n rest lt =
    ap (from_be_bytes w64) (front_is (be64 n) rest 8 (length-be64 n)) ∙ from_be_bytes-to_be_bytes_8 n lt

pub count_is : (n : ℕ) (rest : List ℕ) → n < 2 ^ 32 → count_in (be32 n ++ rest) ≡ n
unfolding count_in be32
count_is n rest lt =
    ap (from_be_bytes w32) (front_is (be32 n) rest 4 (length-be32 n)) ∙ from_be_bytes-to_be_bytes_4 n lt

pub behind_number : (n : ℕ) (rest : List ℕ) → drop 8 (be64 n ++ rest) ≡ rest
behind_number n rest = drop_at (be64 n) rest 8 (length-be64 n)

pub behind_count : (n : ℕ) (rest : List ℕ) → drop 4 (be32 n ++ rest) ≡ rest
behind_count n rest = drop_at (be32 n) rest 4 (length-be32 n)

pub text_is : (text rest : List ℕ) → text_in (text_bytes text ++ rest) ≡ text
unfolding text_in text_bytes
text_is text rest = take_at text rest (length text) refl

pub behind_text_is : (text rest : List ℕ) → behind_text (text_bytes text ++ rest) ≡ rest
unfolding behind_text text_bytes
behind_text_is text rest = drop_at text rest (length text) refl

both_read : {A : Type 0} (x y : A) (s t : List ℕ) → x ≡ y → s ≡ t → read_as x s ≡ read_as y t
both_read x y s t e f = cc

pub spare_is : (name rest : List ℕ) → spare_in (text_bytes name ++ rest) ≡ read_as name rest
unfolding spare_in
spare_is name rest = both_read _ _ _ _ (text_is name rest) (behind_text_is name rest)

-- ---- things one behind the other

pub many_none : {A : Type 0} (one_in : List ℕ → Read A) (rest : List ℕ) → many_in one_in 0 rest ≡ read_as [] rest
unfolding many_in
many_none one_in rest = refl

pub many_more : {A : Type 0} (one_in : List ℕ → Read A) (n : ℕ) (bytes next rest : List ℕ) (x : A) (xs : List A)
    → one_in bytes ≡ read_as x next
    → many_in one_in n next ≡ read_as xs rest → many_in one_in (suc n) bytes ≡ read_as (x ∷ xs) rest
unfolding many_in
many_more one_in n bytes next rest x xs first others =
    ap (λ r. before r.value (many_in one_in n r.rest)) first ∙ ap (before x) others

pub spares_are : (spares : List (List ℕ)) (rest : List ℕ)
    → many_in spare_in (length spares) (flat_map text_bytes spares ++ rest) ≡ read_as spares rest
spares_are [] rest = many_none spare_in rest
spares_are (name ∷ spares) rest =
    many_more spare_in (length spares) _ (flat_map text_bytes spares ++ rest) rest name spares
    (ap spare_in (append_assoc (text_bytes name) (flat_map text_bytes spares) rest)
    ∙ spare_is name (flat_map text_bytes spares ++ rest))
    (spares_are spares rest)

-- ---- logs

pub length-range_bytes : (r : GroupRange) → length (range_bytes r) ≡ 16
unfolding range_bytes
length-range_bytes r =
    omega (arith, length-be64 r.low.0, length-be64 r.high.0, length-append (be64 r.low.0) (be64 r.high.0))

pub length-ranges : (ranges : List GroupRange) → length (flat_map range_bytes ranges) ≡ 16 * length ranges
length-ranges [] = refl
length-ranges (r ∷ ranges) =
    omega (
      arith,
      length-append (range_bytes r) (flat_map range_bytes ranges),
      length-range_bytes r,
      length-ranges ranges,
    )

range_split : (r : GroupRange) (rest : List ℕ) → range_bytes r ++ rest ≡ be64 r.low.0 ++ (be64 r.high.0 ++ rest)
unfolding range_bytes
range_split r rest = append_assoc (be64 r.low.0) (be64 r.high.0) rest

abbrev pub range_with : (low high : ℕ) → GroupRange
range_with low high = record { low = record { 0 = low }; high = record { 0 = high } }

pub same_range : (m n k l : ℕ) → m ≡ n → k ≡ l → range_with m k ≡ range_with n l
same_range m n k l e f = cc

range_is : (r : GroupRange) (rest : List ℕ) → r.low.0 < 2 ^ 64 → r.high.0 < 2 ^ 64
    → range_in (range_bytes r ++ rest) ≡ read_as r rest
unfolding range_in
range_is r rest low high =
    both_read _ _ _ _
    (same_range _ _ _ _ (ap number_in (range_split r rest) ∙ number_is r.low.0 (be64 r.high.0 ++ rest) low)
    (ap (λ s. number_in (drop 8 s)) (range_split r rest) ∙ ap number_in (behind_number r.low.0 (be64 r.high.0 ++ rest))
    ∙ number_is r.high.0 rest high))
    (drop_at (range_bytes r) rest 16 (length-range_bytes r))

ranges_are : (least most : ℕ) (ranges : List GroupRange) (rest : List ℕ) → Rises least most ranges → most < 2 ^ 64
    → many_in range_in (length ranges) (flat_map range_bytes ranges ++ rest) ≡ read_as ranges rest
ranges_are least most [] rest rise lt = many_none range_in rest
ranges_are least most (r ∷ ranges) rest rise lt =
    many_more range_in (length ranges) _ (flat_map range_bytes ranges ++ rest) rest r ranges
    (ap range_in (append_assoc (range_bytes r) (flat_map range_bytes ranges) rest)
    ∙ range_is r (flat_map range_bytes ranges ++ rest) (omega (arith, rise.1, rise.2)) (omega (arith, rise.2)))
    (ranges_are (r.high.0 + 2) most ranges rest rise.3 lt)

log_split : (log : List GroupRange) (rest : List ℕ)
    → log_bytes log ++ rest ≡ be32 (length log) ++ (flat_map range_bytes log ++ rest)
unfolding log_bytes
log_split log rest = append_assoc (be32 (length log)) (flat_map range_bytes log) rest

-- things behind their number
pub counted_are : {A : Type 0} (one_in : List ℕ → Read A) (bytes items rest : List ℕ) (xs : List A)
    → bytes ≡ be32 (length xs) ++ items → length xs < 2 ^ 32
    → many_in one_in (length xs) items ≡ read_as xs rest
    → many_in one_in (count_in bytes) (drop 4 bytes) ≡ read_as xs rest
counted_are one_in bytes items rest xs is few are =
    ap (λ n. many_in one_in n (drop 4 bytes)) (ap count_in is ∙ count_is (length xs) items few)
    ∙ ap (many_in one_in (length xs)) (ap (drop 4) is ∙ behind_count (length xs) items) ∙ are

log_is : (most : ℕ) (log : List GroupRange) (rest : List ℕ) → length log < 2 ^ 32 → Rises 1 most log → most < 2 ^ 64
    → log_in (log_bytes log ++ rest) ≡ read_as log rest
unfolding log_in
log_is most log rest few rise lt =
    counted_are range_in _ (flat_map range_bytes log ++ rest) rest log (log_split log rest) few
    (ranges_are 1 most log rest rise lt)

-- ---- leaves

state_back : (state : State) (marked : Bool) → is_recorded state ≡ true → state_in (flags_of state marked) ≡ state
state_back Online true is = refl
state_back Online false is = refl
state_back Offline true is = refl
state_back Offline false is = refl
state_back Faulted true is = refl
state_back Faulted false is = refl
state_back Degraded true is = refl
state_back Degraded false is = refl
state_back Removed marked is = absurd (false≢true is)
state_back Unavail marked is = absurd (false≢true is)

marked_back : (state : State) (marked : Bool) → marked_in (flags_of state marked) ≡ marked
marked_back Online true = refl
marked_back Online false = refl
marked_back Offline true = refl
marked_back Offline false = refl
marked_back Faulted true = refl
marked_back Faulted false = refl
marked_back Degraded true = refl
marked_back Degraded false = refl
marked_back Removed true = refl
marked_back Removed false = refl
marked_back Unavail true = refl
marked_back Unavail false = refl

-- what a leaf needs to be read back
pub record IsKeptLeaf (leaf : LeafSeen) : Type 0 where
  pub guid : leaf.guid.0 < 2 ^ 64
  pub state : is_recorded leaf.state ≡ true
  pub few : length leaf.log ≤ 4096
  pub most : ℕ
  pub last : most < 2 ^ 64
  pub rise : Rises 1 most leaf.log

leaf_split : (leaf : LeafSeen) (rest : List ℕ)
    → leaf_bytes leaf ++ rest ≡ 0 ∷ (be64 leaf.guid.0
    ++ (text_bytes leaf.name ++ (flags_of leaf.state leaf.marked ∷ (log_bytes leaf.log ++ rest))))
unfolding leaf_bytes
leaf_split leaf rest = simp append_assoc

abbrev pub leaf_with : ℕ → List ℕ → State → Bool → List GroupRange → LeafSeen
leaf_with guid name state marked log =
    record { guid = record { 0 = guid }; name = name; state = state; marked = marked; log = log }

pub same_leaf : (m n : ℕ) (s t : List ℕ) (k l : State) (a b : Bool) (x y : List GroupRange) → m ≡ n → s ≡ t → k ≡ l
    → a ≡ b → x ≡ y
    → leaf_with m s k a x ≡ leaf_with n t l b y
same_leaf m n s t k l a b x y e1 e2 e3 e4 e5 = cc

behind_device : (guid : ℕ) (name rest : List ℕ) → behind_text (drop 8 (be64 guid ++ (text_bytes name ++ rest))) ≡ rest
behind_device guid name rest = ap behind_text (behind_number guid (text_bytes name ++ rest)) ∙ behind_text_is name rest

pub leaf_is : (leaf : LeafSeen) (rest : List ℕ) → IsKeptLeaf leaf
    → leaf_in (leaf_bytes leaf ++ rest) ≡ read_as leaf rest
unfolding leaf_in
leaf_is leaf rest is =
    let flags = flags_of leaf.state leaf.marked in
    let tail = flags ∷ (log_bytes leaf.log ++ rest) in
    let at_flags = behind_device leaf.guid.0 leaf.name tail in
    let log : log_in (drop 1 (behind_text (drop 8 (be64 leaf.guid.0 ++ (text_bytes leaf.name ++ tail)))))
    ≡ read_as leaf.log rest =
    ap (λ s. log_in (drop 1 s)) at_flags ∙ log_is is.most leaf.log rest (omega (arith, is.few)) is.rise is.last in
    ap leaf_in (leaf_split leaf rest) ∙ both_read _ _ _ _
    (same_leaf _ _ _ _ _ _ _ _ _ _
    (number_is leaf.guid.0 (text_bytes leaf.name ++ tail) is.guid)
    (ap text_in (behind_number leaf.guid.0 (text_bytes leaf.name ++ tail)) ∙ text_is leaf.name tail)
    (ap (λ s. state_in (byte_in s)) at_flags ∙ state_back leaf.state leaf.marked is.state)
    (ap (λ s. marked_in (byte_in s)) at_flags ∙ marked_back leaf.state leaf.marked)
    (ap (λ r. r.value) log))
    (ap (λ r. r.rest) log)

-- ---- the root pointer

-- what a pointer needs to be read back
pub record IsKept (p : Pointer) : Type 0 where
  pub birth : p.birth.0 < 2 ^ 64
  pub top : p.place.top < 2 ^ 32
  pub sector : p.place.sector < 2 ^ 64
  pub sum : length p.sum ≡ 32

pub length-pointer_bytes : (p : Pointer) → length p.sum ≡ 32 → length (pointer_bytes p) ≡ 52
unfolding pointer_bytes
length-pointer_bytes p sum =
    omega (
      arith,
      length-be64 p.birth.0,
      length-be32 p.place.top,
      length-be64 p.place.sector,
      sum,
      length-append (be64 p.birth.0) (be32 p.place.top),
      length-append (be64 p.birth.0 ++ be32 p.place.top) (be64 p.place.sector),
      length-append (be64 p.birth.0 ++ be32 p.place.top ++ be64 p.place.sector) p.sum,
    )

place_split : (a b c d rest : List ℕ) → (a ++ b ++ c ++ d) ++ rest ≡ a ++ (b ++ (c ++ (d ++ rest)))
place_split a b c d rest = simp append_assoc

sector_split : (a b c d rest : List ℕ) → (a ++ b ++ c ++ d) ++ rest ≡ (a ++ b) ++ (c ++ (d ++ rest))
sector_split a b c d rest = simp append_assoc

sum_split : (a b c d rest : List ℕ) → (a ++ b ++ c ++ d) ++ rest ≡ (a ++ b ++ c) ++ (d ++ rest)
sum_split a b c d rest = simp append_assoc

abbrev pub pointer_with : (birth top sector : ℕ) → List ℕ → Pointer
pointer_with birth top sector sum =
    record { birth = record { 0 = birth }; place = record { top = top; sector = sector }; sum = sum }

pub same_pointer : (b b' t t' s s' : ℕ) (x x' : List ℕ) → b ≡ b' → t ≡ t' → s ≡ s' → x ≡ x'
    → pointer_with b t s x ≡ pointer_with b' t' s' x'
same_pointer b b' t t' s s' x x' e f g h = cc

pub pointer_is : (p : Pointer) (rest : List ℕ) → IsKept p → pointer_in (pointer_bytes p ++ rest) ≡ p
unfolding pointer_in pointer_bytes
pointer_is p rest k =
    let b = be64 p.birth.0 in
    let t = be32 p.place.top in
    let s = be64 p.place.sector in
    same_pointer _ _ _ _ _ _ _ _
    (ap number_in (place_split b t s p.sum rest) ∙ number_is p.birth.0 _ k.birth)
    (ap (λ x. count_in (drop 8 x)) (place_split b t s p.sum rest) ∙ ap count_in (behind_number p.birth.0 _)
    ∙ count_is p.place.top _ k.top)
    (ap (λ x. number_in (drop 12 x)) (sector_split b t s p.sum rest)
    ∙ ap number_in (drop_at (b ++ t) _ 12 (omega (
      arith,
      length-be64 p.birth.0,
      length-be32 p.place.top,
      length-append b t,
    ))) ∙ number_is p.place.sector _ k.sector)
    (ap (λ x. front 32 (drop 20 x)) (sum_split b t s p.sum rest)
    ∙ ap (front 32) (drop_at (b ++ t ++ s) _ 20
    (omega (
      arith,
      length-be64 p.birth.0,
      length-be32 p.place.top,
      length-be64 p.place.sector,
      length-append b t,
      length-append (b ++ t) s,
    )))
    ∙ front_is p.sum rest 32 k.sum)
