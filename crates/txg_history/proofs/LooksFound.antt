-- What was found by the parts of a look is what is verified by the sectors that they show.
use Rattle.std.proofs.Common.{
  ◌≡◌,
  ℕ,
  zero,
  suc,
  ◌+◌,
  ◌*◌,
  ◌/◌,
  ◌%◌,
  ◌<◌,
  ◌≤◌,
  ◌==◌,
  Bool,
  true,
  false,
  List,
  [],
  ◌∷◌,
  ◌++◌,
  length,
  take,
  Option,
  Some,
  None,
  refl,
  sym,
  ap,
  ◌∙◌,
  subst,
  arith,
}
use Rattle.std.specs.Prelude.{slice_get, slice_index, if◌then◌else◌}
use Rattle.std.proofs.Math.Seq.{take-add}
use Rattle.std.proofs.lemmas.Bool.Decides.{nat_tests}
use Rattle.bank_core.specs.Asks.{Reads}
use Rattle.bank_core.specs.Disk.{sector_size, sectors_in, sector_of}
use Rattle.label_store.specs.declared.rule.Head.{Head}
use Rattle.label_store.specs.declared.uberblock.Uberblock.{Uberblock}
use Rattle.label_store.specs.Layout.{labels_of}
use Rattle.label_store.specs.Newest.{Parts, look_asks, IsVerifiedBy}
use Rattle.label_store.specs.Records.{config_at, place_at, IsRecord}
use Rattle.label_store.specs.Uberblock.{uberblock_bytes}
use Rattle.txg_history.specs.Events.{Known}
use Rattle.txg_history.specs.Looks.{sector_in, device_sector, known_by, AreDistinct}
use Rattle.txg_history.specs.Openings.{IsVerifiedOn}
use Rattle.txg_history.proofs.DeviceSectors.{ring_sector, config_sector, label_of_device}
use Rattle.txg_history.proofs.LookedParts.{same_some, LookedAt, part_long}

pub same_test : (dev d : ℕ) → (dev == d) ≡ true → dev ≡ d
same_test dev d e = grind (arith, nat_tests)

pub if_not : (t : Bool) (x y : Option (List ℕ)) → t ≡ false → (if t then x else y) ≡ y
if_not t x y e = rw e refl

pub if_so : (t : Bool) (x y : Option (List ℕ)) → t ≡ true → (if t then x else y) ≡ x
if_so t x y e = rw e refl

pub alike : (d : ℕ) → (d == d) ≡ true
alike d = grind (arith, nat_tests)

tail_distinct : (dev : ℕ) (devs : List ℕ) → AreDistinct (dev ∷ devs) → AreDistinct devs
tail_distinct dev devs apart i j d e a b lt = apart (suc i) (suc j) d e a b (omega arith)

-- What is known of a device of the list is what its parts show.
pub known_at : (size : ℕ → ℕ) (devs : List ℕ) (looks : List Parts) (i d : ℕ) (parts : Parts) (s : ℕ) → AreDistinct devs
    → slice_get devs i ≡ Some d → slice_get looks i ≡ Some parts
    → known_by size devs looks d s ≡ device_sector (size d) parts s
known_at size [] looks i d parts s apart e f = absurd (cc)
known_at size (dev ∷ devs) [] i d parts s apart e f = absurd (cc)
known_at size (dev ∷ devs) (first ∷ looks) zero d parts s apart e f =
    let same : (dev == d) ≡ true = subst (λ x. (dev == x) ≡ true) (same_some dev d e) (alike dev) in
    rw same (ap (λ l. device_sector (size d) l s) (same_some first parts f))
known_at size (dev ∷ devs) (first ∷ looks) (suc i) d parts s apart e f =
    by_test (dev == d) refl (known_at size devs looks i d parts s (tail_distinct dev devs apart) e f)
  where
    by_test : (t : Bool) → (dev == d) ≡ t → known_by size devs looks d s ≡ device_sector (size d) parts s
        → known_by size (dev ∷ devs) (first ∷ looks) d s ≡ device_sector (size d) parts s
    by_test true t more = absurd (apart 0 (suc i) dev d refl e (omega arith) (same_test dev d t))
    by_test false t more = rw t more

-- The device of the list of which something is known.
pub record IsKnownOf (size : ℕ → ℕ) (devs : List ℕ) (looks : List Parts) (d : ℕ) : Type 0 where
  pub i : ℕ
  pub parts : Parts
  pub dev_is : slice_get devs i ≡ Some d
  pub parts_are : slice_get looks i ≡ Some parts
  pub known_is : (s : ℕ) → known_by size devs looks d s ≡ device_sector (size d) parts s

pub known_of : (size : ℕ → ℕ) (devs : List ℕ) (looks : List Parts) (d s : ℕ) (bytes : List ℕ)
    → known_by size devs looks d s ≡ Some bytes → IsKnownOf size devs looks d
known_of size [] looks d s bytes e = absurd (cc)
known_of size (dev ∷ devs) [] d s bytes e = absurd (cc)
known_of size (dev ∷ devs) (first ∷ looks) d s bytes e = by_test (dev == d) refl (known_of size devs looks d s bytes)
  where
    by_test : (t : Bool) → (dev == d) ≡ t → (known_by size devs looks d s ≡ Some bytes → IsKnownOf size devs looks d)
        → IsKnownOf size (dev ∷ devs) (first ∷ looks) d
    by_test true t more = record {
      i = 0;
      parts = first;
      dev_is = ap Some
          (same_test dev d t);
      parts_are = refl;
      known_is = λ r. if_so (dev == d) (device_sector (size d) first r)
          (known_by size devs looks d r) t;
    }
    by_test false t more =
        let k = more (sym (if_not (dev == d) (device_sector (size d) first s) (known_by size devs looks d s) t) ∙ e) in
        record {
          i = suc k.i;
          parts = k.parts;
          dev_is = k.dev_is;
          parts_are = k.parts_are;
          known_is = λ r. if_not
              (dev == d) (device_sector (size d) first r) (known_by size devs looks d r) t ∙ k.known_is r;
        }

-- the asks of a label's ring and configuration part
pub ring_ask : (size label dev : ℕ) → label < 4 → slice_get (look_asks dev size) (2 * label) ≡ Some (Reads dev (slice_index (labels_of size) label + 32) 32)
ring_ask size zero dev lt = refl
ring_ask size (suc zero) dev lt = refl
ring_ask size (suc (suc zero)) dev lt = refl
ring_ask size (suc (suc (suc zero))) dev lt = refl
ring_ask size (suc (suc (suc (suc n)))) dev lt = absurd (omega arith)

pub config_ask : (size label dev : ℕ) → label < 4 → slice_get (look_asks dev size) (2 * label + 1) ≡ Some
    (Reads dev (slice_index (labels_of size) label + 4) 28)
config_ask size zero dev lt = refl
config_ask size (suc zero) dev lt = refl
config_ask size (suc (suc zero)) dev lt = refl
config_ask size (suc (suc (suc zero))) dev lt = refl
config_ask size (suc (suc (suc (suc n)))) dev lt = absurd (omega arith)

-- a place of an uberblock, and a sector of a configuration part
place_shows : (size : ℕ) (parts : Parts) (place : ℕ) → 320 ≤ size → place < 128
    → device_sector size parts (place_at size place) ≡ sector_in (place % 32) (slice_get parts (2 * (place / 32)))
place_shows size parts place big lt =
    label_of_device size parts (place / 32) (32 + place % 32) big (omega arith) (omega arith) ∙ ring_sector parts (place / 32) (place % 32)

part_at_shows : (size : ℕ) (parts : Parts) (label i : ℕ) → 320 ≤ size → label < 4 → i < 28
    → device_sector size parts (config_at size label + i) ≡ sector_in i (slice_get parts (2 * label + 1))
part_at_shows size parts label i big lt few =
    let at : config_at size label + i ≡ slice_index (labels_of size) label + (4 + i) = label_place (slice_index (labels_of size) label) i in
    ap (device_sector size parts) at ∙ label_of_device size parts label (4 + i) big lt (omega arith) ∙ config_sector parts label i few
  where
    label_place : (a j : ℕ) → (a + 4) + j ≡ a + (4 + j)
    label_place a j = omega arith

-- Two lists of bytes with the same first sectors have the same front.
same_front : (xs ys : List ℕ) (n : ℕ) → ((i : ℕ) → i < n → sector_of i xs ≡ sector_of i ys) → take (n * sector_size) xs ≡ take (n * sector_size) ys
unfolding sector_size
same_front xs ys zero same = refl
same_front xs ys (suc n) same =
    let more : suc n * sector_size ≡ n * sector_size + sector_size = omega arith in
    ap (λ k. take k xs) more ∙ take-add (n * sector_size) sector_size xs
    ∙ ap (λ l. l ++ sector_of n xs) (same_front xs ys n (λ i lt. same i (omega arith)))
    ∙ ap (λ l. take (n * sector_size) ys ++ l) (same n (omega arith))
    ∙ sym (take-add (n * sector_size) sector_size ys) ∙ ap (λ k. take k ys) (sym more)

take_less : (xs : List ℕ) (k n : ℕ) → k ≤ n → take k (take n xs) ≡ take k xs
take_less xs zero n le = refl
take_less [] (suc k) zero le = refl
take_less [] (suc k) (suc n) le = refl
take_less (x ∷ xs) (suc k) zero le = absurd (omega arith)
take_less (x ∷ xs) (suc k) (suc n) le = ap (λ l. x ∷ l) (take_less xs k n (omega arith))

pub same_config : (xs ys : List ℕ) (n k : ℕ) → ((i : ℕ) → i < n → sector_of i xs ≡ sector_of i ys) → k ≤ n * sector_size → take k xs ≡ take k ys
same_config xs ys n k same le =
    sym (take_less xs k (n * sector_size) le) ∙ ap (take k) (same_front xs ys n same) ∙ take_less ys k (n * sector_size) le

whole_length : (bytes : List ℕ) → length bytes % sector_size ≡ 0 → length bytes ≡ sectors_in bytes * sector_size
unfolding sector_size
whole_length bytes whole = omega arith

long_whole : (bytes : List ℕ) (n : ℕ) → length bytes ≡ n * 4096 → (length bytes % sector_size ≡ 0) × (sectors_in bytes ≡ n)
unfolding sector_size
long_whole bytes n e = (rw e (omega arith), rw e (omega arith))

fits_in : (k n m : ℕ) → k ≤ n * sector_size → n ≤ m → k ≤ m * 4096
unfolding sector_size
fits_in k n m le few = omega arith

-- What the parts verify, the sectors do.
pub parts_verify : (head_of : List ℕ → Option Head) (size : ℕ → ℕ) (known : Known) (d : ℕ) (parts : Parts)
    (name : List ℕ) (place : ℕ) (u : Uberblock) (config : List ℕ)
    → 320 ≤ size d → LookedAt (size d) d parts → ((s : ℕ) → known d s ≡ device_sector (size d) parts s) → place < 128
    → IsVerifiedBy head_of parts name place u config → IsVerifiedOn head_of size known name d u config
parts_verify head_of size known d parts name place u config big looked is inside v =
    let long : length v.part ≡ 28 * 4096 = part_long (size d) d parts (2 * v.label + 1) _ 28 v.part looked
    (config_ask (size d) v.label d v.is_label) v.part_is in
    let part_of : sectors_in v.part ≡ 28 = (long_whole v.part 28 long).1 in
    let shown : (i : ℕ) → i < 28 → known d (config_at (size d) v.label + i) ≡ Some (sector_of i v.part) =
    λ i lt. is (config_at (size d) v.label + i) ∙ part_at_shows (size d) parts v.label i big v.is_label lt ∙ ap (sector_in i) v.part_is in
    let first : config_at (size d) v.label + 0 ≡ config_at (size d) v.label = omega arith in
    record {
      place = place;
      verified = record {
        inside = inside;
        uberblock = is (place_at (size d) place) ∙ place_shows (size d) parts place big inside ∙ ap
            (sector_in (place % 32)) v.ring_is ∙ ap Some v.is_uberblock.bytes;
        label = v.label;
        is_label = v.is_label;
        blob = v.part;
        shown = λ i lt. shown i (omega (arith, lt, part_of));
        is_record = record {
          in_range = v.is_uberblock.in_range;
          some = v.some;
          whole = (long_whole v.part 28 long).0;
          most = omega (arith, part_of);
          within = v.within;
          config_is = v.config_is;
          sum = v.sum;
          headed = record { head = v.head; reads = v.reads; pool_is = v.pool_is; number_is = v.number_is };
        };
      };
      is_read = (sector_of 0 v.part, subst (λ s. known d s ≡ Some (sector_of 0 v.part)) first (shown 0 (omega arith)));
      head = v.head;
      reads = v.reads;
      name_is = v.name_is;
    }

-- a part with a sector of it
pub record HasPart (part : Option (Option (List ℕ))) (i : ℕ) (bytes : List ℕ) : Type 0 where
  pub found : List ℕ
  pub found_is : part ≡ Some (Some found)
  pub bytes_are : sector_of i found ≡ bytes

pub has_part : (part : Option (Option (List ℕ))) (i : ℕ) (bytes : List ℕ) → sector_in i part ≡ Some bytes → HasPart part i bytes
has_part None i bytes e = absurd (cc)
has_part (Some None) i bytes e = absurd (cc)
has_part (Some (Some found)) i bytes e = record { found = found; found_is = refl; bytes_are = same_some (sector_of i found) bytes e }

sector_again : (part : Option (Option (List ℕ))) (found : List ℕ) (i : ℕ) (bytes : List ℕ) → part ≡ Some (Some found)
    → sector_in i part ≡ Some bytes → sector_of i found ≡ bytes
sector_again part found i bytes is e = same_some (sector_of i found) bytes (sym (ap (sector_in i) is) ∙ e)

-- What the sectors verify, the parts do.
pub sectors_verify : (head_of : List ℕ → Option Head) (size : ℕ → ℕ) (known : Known) (d : ℕ) (parts : Parts) (name : List ℕ) (u : Uberblock) (config : List ℕ)
    → 320 ≤ size d → LookedAt (size d) d parts → ((s : ℕ) → known d s ≡ device_sector (size d) parts s)
    → (v : IsVerifiedOn head_of size known name d u config) → IsVerifiedBy head_of parts name v.place u config
sectors_verify head_of size known d parts name u config big looked is v =
    let w = v.verified in
    let rec : IsRecord head_of u w.blob config = w.is_record in
    let ring = has_part (slice_get parts (2 * (v.place / 32))) (v.place % 32) (uberblock_bytes u)
    (sym (place_shows (size d) parts v.place big w.inside) ∙ sym (is (place_at (size d) v.place)) ∙ w.uberblock) in
    let first : config_at (size d) w.label + 0 ≡ config_at (size d) w.label = omega arith in
    let part = has_part (slice_get parts (2 * w.label + 1)) 0 v.is_read.0
    (sym (part_at_shows (size d) parts w.label 0 big w.is_label (omega arith)) ∙ ap (device_sector (size d) parts) first
    ∙ sym (is (config_at (size d) w.label)) ∙ v.is_read.1) in
    let few : sectors_in w.blob ≤ 28 = rec.most in
    let same : (i : ℕ) → i < sectors_in w.blob → sector_of i w.blob ≡ sector_of i part.found =
    λ i lt. sym (sector_again (slice_get parts (2 * w.label + 1)) part.found i (sector_of i w.blob) part.found_is
    (sym (part_at_shows (size d) parts w.label i big w.is_label (omega arith)) ∙ sym (is (config_at (size d) w.label + i)) ∙ w.shown i lt)) in
    let enough : u.length ≤ sectors_in w.blob * sector_size = subst (λ n. u.length ≤ n) (whole_length w.blob rec.whole) rec.within in
    let long : length part.found ≡ 28 * 4096 = part_long (size d) d parts (2 * w.label + 1) _ 28 part.found looked
    (config_ask (size d) w.label d w.is_label) part.found_is in
    let head_is : rec.headed.head ≡ v.head = same_some rec.headed.head v.head (sym rec.headed.reads ∙ v.reads) in
    record {
      ring = ring.found;
      ring_is = ring.found_is;
      is_uberblock = record { in_range = rec.in_range; bytes = ring.bytes_are };
      some = rec.some;
      label = w.label;
      is_label = w.is_label;
      part = part.found;
      part_is = part.found_is;
      within = subst (λ n. u.length ≤ n) (sym long) (fits_in u.length (sectors_in w.blob) 28 enough few);
      config_is = rec.config_is ∙ same_config w.blob part.found (sectors_in w.blob) u.length same enough;
      sum = rec.sum;
      head = v.head;
      reads = v.reads;
      pool_is = ap (λ h. h.pool) (sym head_is) ∙ rec.headed.pool_is;
      number_is = ap (λ h. h.number) (sym head_is) ∙ rec.headed.number_is;
      name_is = v.name_is;
    }
