-- A sector of a device's labels and the part that has it.
use Rattle.std.proofs.Common.{
  ◌≡◌,
  ℕ,
  zero,
  suc,
  ◌+◌,
  ◌-◌,
  ◌*◌,
  ◌<◌,
  ◌≤◌,
  Bool,
  true,
  false,
  List,
  Option,
  Some,
  None,
  refl,
  sym,
  ap,
  ◌∙◌,
  arith,
  nat_le,
  nat_lt,
}
use Rattle.std.specs.Prelude.{slice_get, slice_index}
use Rattle.std.proofs.lemmas.Bool.Decides.{nat_tests}
use Rattle.bank_core.specs.Asks.{Reads}
use Rattle.bank_core.specs.Disk.{sector_of}
use Rattle.label_store.specs.Layout.{labels_of}
use Rattle.label_store.specs.Newest.{Parts, look_asks}
use Rattle.txg_history.specs.Looks.{sector_in, label_sector, device_sector}
use Rattle.txg_history.proofs.LookedParts.{same_some}

lt_yes : (a b : ℕ) → a < b → nat_lt a b ≡ true
lt_yes a b lt = grind (arith, nat_tests)

lt_no : (a b : ℕ) → b ≤ a → nat_lt a b ≡ false
lt_no a b le = grind (arith, nat_tests)

le_yes : (a b : ℕ) → a ≤ b → nat_le a b ≡ true
le_yes a b le = grind (arith, nat_tests)

le_no : (a b : ℕ) → b < a → nat_le a b ≡ false
le_no a b lt = grind (arith, nat_tests)

is_lt : (a b : ℕ) → nat_lt a b ≡ true → a < b
is_lt a b e = grind (arith, nat_tests)

not_lt : (a b : ℕ) → nat_lt a b ≡ false → b ≤ a
not_lt a b e = grind (arith, nat_tests)

is_le : (a b : ℕ) → nat_le a b ≡ true → a ≤ b
is_le a b e = grind (arith, nat_tests)

not_le : (a b : ℕ) → nat_le a b ≡ false → b < a
not_le a b e = grind (arith, nat_tests)

-- a ring's sector, and one of a configuration part
pub ring_sector : (parts : Parts) (label i : ℕ) → label_sector parts label (32 + i) ≡ sector_in i (slice_get parts (2 * label))
ring_sector parts label i =
    let off : 32 + i - 32 ≡ i = omega arith in rw (le_yes 32 (32 + i) (omega arith)) (ap (λ j. sector_in j (slice_get parts (2 * label))) off)

pub config_sector : (parts : Parts) (label i : ℕ) → i < 28 → label_sector parts label (4 + i) ≡ sector_in i (slice_get parts (2 * label + 1))
config_sector parts label i lt =
    let off : 4 + i - 4 ≡ i = omega arith in
    rw (le_no 32 (4 + i) (omega arith), le_yes 4 (4 + i) (omega arith)) (ap (λ j. sector_in j (slice_get parts (2 * label + 1))) off)

-- A sector of a label is one of the device.
pub label_of_device : (size : ℕ) (parts : Parts) (label off : ℕ) → 320 ≤ size → label < 4 → off < 64
    → device_sector size parts (slice_index (labels_of size) label + off) ≡ label_sector parts label off
label_of_device size parts zero off big lt o =
    let same : 0 + off ≡ off = omega arith in rw (lt_yes (0 + off) 64 (omega arith)) (ap (label_sector parts 0) same)
label_of_device size parts (suc zero) off big lt o =
    let same : 64 + off - 64 ≡ off = omega arith in
    rw (lt_no (64 + off) 64 (omega arith), lt_yes (64 + off) 128 (omega arith)) (ap (label_sector parts 1) same)
label_of_device size parts (suc (suc zero)) off big lt o =
    let same : (size - 128) + off - (size - 128) ≡ off = omega arith in
    rw (
      lt_no ((size - 128) + off) 64 (omega arith),
      lt_no ((size - 128) + off) 128 (omega arith),
      lt_no ((size - 128) + off) (size - 128) (omega arith),
      lt_yes ((size - 128) + off) (size - 64) (omega arith),
    ) (ap (label_sector parts 2) same)
label_of_device size parts (suc (suc (suc zero))) off big lt o =
    let same : (size - 64) + off - (size - 64) ≡ off = omega arith in
    rw (
      lt_no ((size - 64) + off) 64 (omega arith),
      lt_no ((size - 64) + off) 128 (omega arith),
      lt_no ((size - 64) + off) (size - 128) (omega arith),
      lt_no ((size - 64) + off) (size - 64) (omega arith),
      lt_yes ((size - 64) + off) size (omega arith),
    ) (ap (label_sector parts 3) same)
label_of_device size parts (suc (suc (suc (suc n)))) off big lt o = absurd (omega arith)

-- The part that has a sector which was read, and the call that asked for it.
pub record IsShown (size : ℕ) (parts : Parts) (s : ℕ) (bytes : List ℕ) : Type 0 where
  pub k : ℕ
  pub at : ℕ
  pub n : ℕ
  pub i : ℕ
  pub inside : i < n
  pub sector_is : s ≡ at + i
  pub ask : (dev : ℕ) → slice_get (look_asks dev size) k ≡ Some (Reads dev at n)
  pub part : List ℕ
  pub part_is : slice_get parts k ≡ Some (Some part)
  pub bytes_are : bytes ≡ sector_of i part

-- a part with a sector of it
record HasSector (part : Option (Option (List ℕ))) (i : ℕ) (bytes : List ℕ) : Type 0 where
  found : List ℕ
  found_is : part ≡ Some (Some found)
  bytes_are : bytes ≡ sector_of i found

has_sector : (part : Option (Option (List ℕ))) (i : ℕ) (bytes : List ℕ) → sector_in i part ≡ Some bytes → HasSector part i bytes
has_sector None i bytes e = absurd (cc)
has_sector (Some None) i bytes e = absurd (cc)
has_sector (Some (Some found)) i bytes e = record { found = found; found_is = refl; bytes_are = sym (same_some (sector_of i found) bytes e) }

-- a sector of a label that begins at `from`, whose ring and configuration are parts `ring` and `config`
label_shown : (size : ℕ) (parts : Parts) (label from off : ℕ) (bytes : List ℕ)
    → ((dev : ℕ) → slice_get (look_asks dev size) (2 * label) ≡ Some (Reads dev (from + 32) 32))
    → ((dev : ℕ) → slice_get (look_asks dev size) (2 * label + 1) ≡ Some (Reads dev (from + 4) 28))
    → off < 64 → label_sector parts label off ≡ Some bytes → (s : ℕ) → s ≡ from + off → IsShown size parts s bytes
label_shown size parts label from off bytes ring config lt e s at = by_ring (nat_le 32 off) refl (nat_le 4 off) refl
  where
    by_ring : (t : Bool) → nat_le 32 off ≡ t → (t' : Bool) → nat_le 4 off ≡ t' → IsShown size parts s bytes
    by_ring true is t' is' =
        let h = has_sector (slice_get parts (2 * label)) (off - 32) bytes (sym (rw is refl) ∙ e) in
        let above : 32 ≤ off = is_le 32 off is in
        record {
          k = 2 * label;
          at = from + 32;
          n = 32;
          i = off - 32;
          inside = omega arith;
          sector_is = at ∙ omega arith;
          ask = ring;
          part = h.found;
          part_is = h.found_is;
          bytes_are = h.bytes_are;
        }
    by_ring false is true is' =
        let h = has_sector (slice_get parts (2 * label + 1)) (off - 4) bytes (sym (rw (is, is') refl) ∙ e) in
        let above : 4 ≤ off = is_le 4 off is' in
        let below : off < 32 = not_le 32 off is in
        record {
          k = 2 * label + 1;
          at = from + 4;
          n = 28;
          i = off - 4;
          inside = omega arith;
          sector_is = at ∙ omega arith;
          ask = config;
          part = h.found;
          part_is = h.found_is;
          bytes_are = h.bytes_are;
        }
    by_ring false is false is' =
        let none : label_sector parts label off ≡ None = rw (is, is') refl in absurd (no_bytes bytes (sym none ∙ e))
      where
        no_bytes : (b : List ℕ) → None ≡ Some b → ⊥
        no_bytes b e = cc

none_shown : (size : ℕ) (parts : Parts) (s : ℕ) (bytes : List ℕ) → None ≡ Some bytes → IsShown size parts s bytes
none_shown size parts s bytes e = absurd (cc)

pub device_shown : (size : ℕ) (parts : Parts) (s : ℕ) (bytes : List ℕ) → device_sector size parts s ≡ Some bytes → IsShown size parts s bytes
device_shown size parts s bytes e =
    by (nat_lt s 64) refl (nat_lt s 128) refl (nat_lt s (size - 128)) refl (nat_lt s (size - 64)) refl (nat_lt s size) refl
  where
    by : (a : Bool) → nat_lt s 64 ≡ a → (b : Bool) → nat_lt s 128 ≡ b → (c : Bool) → nat_lt s (size - 128) ≡ c → (d : Bool) → nat_lt s (size - 64) ≡ d
        → (f : Bool) → nat_lt s size ≡ f → IsShown size parts s bytes
    by true a b b' c c' d d' f f' =
        label_shown size parts 0 0 s bytes (λ dev. refl) (λ dev. refl) (is_lt s 64 a) (sym (rw a refl) ∙ e) s (omega arith)
    by false a true b c c' d d' f f' =
        let lo = not_lt s 64 a in let hi = is_lt s 128 b in
        label_shown size parts 1 64 (s - 64) bytes (λ dev. refl) (λ dev. refl) (omega arith) (sym (rw (a, b) refl) ∙ e) s (omega arith)
    by false a false b true c d d' f f' = none_shown size parts s bytes (sym (rw (a, b, c) refl) ∙ e)
    by false a false b false c true d f f' =
        let lo = not_lt s (size - 128) c in let hi = is_lt s (size - 64) d in let past = not_lt s 128 b in
        label_shown size parts 2 (size - 128) (s - (size - 128)) bytes (λ dev. refl) (λ dev. refl) (omega arith)
        (sym (rw (a, b, c, d) refl) ∙ e) s (omega arith)
    by false a false b false c false d true f =
        let lo = not_lt s (size - 64) d in let hi = is_lt s size f in
        label_shown size parts 3 (size - 64) (s - (size - 64)) bytes (λ dev. refl) (λ dev. refl) (omega arith)
        (sym (rw (a, b, c, d, f) refl) ∙ e) s (omega arith)
    by false a false b false c false d false f = none_shown size parts s bytes (sym (rw (a, b, c, d, f) refl) ∙ e)
