-- The bytes of a page of a map. A page has 64 pointers and zeros behind them.
use Rattle.std.specs.Prelude.{◌≡◌, ℕ, ◌+◌, ◌*◌, List, ◌++◌, length, map, take, drop}
use Rattle.std.specs.List.{flat_map, range_with_len, All}
use Rattle.std.specs.Int.{to_be_bytes, from_be_bytes, w32, w64}
use Rattle.mp_base.specs.Block.{zeros}
use Rattle.mp_base.specs.declared.place.Pointer.{Pointer}
use Rattle.block_map.specs.Pointers.{IsInForm}

-- a number as four and as eight bytes, the high one first
unfoldable pub be4 : ℕ → List ℕ
be4 n = to_be_bytes w32 n

unfoldable pub be8 : ℕ → List ℕ
be8 n = to_be_bytes w64 n

-- the 52 bytes of a pointer
unfoldable pub pointer_bytes : Pointer → List ℕ
pointer_bytes p = be8 p.birth.0 ++ (be4 p.place.top ++ (be8 p.place.sector ++ p.sum))

-- the 4,096 bytes of the page of 64 pointers
unfoldable pub page_bytes : List Pointer → List ℕ
page_bytes pointers = flat_map pointer_bytes pointers ++ zeros 768

-- the pointers of a page
pub record AreInForm (pointers : List Pointer) : Type 0 where
  pub count : length pointers ≡ 64
  pub each : All IsInForm pointers

-- what stands at a place in bytes
unfoldable pub short_in : ℕ → List ℕ → ℕ
short_in at bytes = from_be_bytes w32 (take 4 (drop at bytes))

unfoldable pub long_in : ℕ → List ℕ → ℕ
long_in at bytes = from_be_bytes w64 (take 8 (drop at bytes))

abbrev pub pointer_in : ℕ → List ℕ → Pointer
pointer_in at bytes = record {
  birth = record { 0 = long_in at bytes };
  place = record { top = short_in (at + 8) bytes; sector = long_in (at + 12) bytes };
  sum = take 32 (drop (at + 20) bytes);
}

abbrev pub pointers_in : List ℕ → List Pointer
pointers_in bytes = map (λ j. pointer_in (52 * j) bytes) (range_with_len 0 64)
