-- The bytes of an uberblock, and when a sector holds one.
use Rattle.std.specs.Prelude.{◌≡◌, ℕ, ◌^◌, ◌<◌, ◌≤◌, List, ◌++◌, length, take, drop}
use Rattle.std.specs.Int.{to_be_bytes, from_be_bytes, w64}
use Rattle.sha2.specs.Sha256.{sha256}
use Rattle.mp_base.specs.Block.{zeros}
use Rattle.label_store.specs.declared.uberblock.Uberblock.{Uberblock}

-- a number as eight bytes, the high one first
unfoldable pub be : ℕ → List ℕ
be n = to_be_bytes w64 n

-- all but the last sum
abbrev pub uberblock_head : Uberblock → List ℕ
uberblock_head u = be 0xbab10c ++ be 1 ++ be u.pool.0 ++ be u.member.0 ++ be u.number.0 ++ be u.length ++ u.sum ++ zeros 3984

-- the bytes of the sector of an uberblock
abbrev pub uberblock_bytes : Uberblock → List ℕ
uberblock_bytes u = uberblock_head u ++ sha256 (uberblock_head u)

-- Its fields lie in their ranges, and number 0 comes without a configuration.
pub record IsInRange (u : Uberblock) : Type 0 where
  pub pool : u.pool.0 < 2 ^ 64
  pub member : u.member.0 < 2 ^ 64
  pub number : u.number.0 ≤ 2 ^ 62
  pub config : u.length ≤ 114688
  pub sum : length u.sum ≡ 32
  pub no_config : u.number.0 ≡ 0 → u.length ≡ 0
  pub no_sum : u.number.0 ≡ 0 → u.sum ≡ zeros 32

-- A sector holds this uberblock, and is correct.
pub record IsUberblock (u : Uberblock) (sector : List ℕ) : Type 0 where
  pub in_range : IsInRange u
  pub bytes : sector ≡ uberblock_bytes u

-- the number of which these are eight bytes
unfoldable pub number_at : ℕ → List ℕ → ℕ
number_at at bytes = from_be_bytes w64 (take 8 (drop at bytes))

-- the fields as they stand in a sector
abbrev pub fields_of : List ℕ → Uberblock
fields_of sector = record {
  pool = record { 0 = number_at 16 sector };
  member = record { 0 = number_at 24 sector };
  number = record { 0 = number_at 32 sector };
  length = number_at 40 sector;
  sum = take 32 (drop 48 sector);
}
