-- Zeros, and the uberblock that gives an identity alone, are no uberblock of a record.
use Rattle.std.proofs.Common.{◌≡◌, ℕ, ◌-◌, ◌^◌, ◌<◌, ◌≤◌, ◌++◌, List, length, take, drop, replicate, refl, sym, ap, ◌∙◌, arith, append_assoc}
use Rattle.std.proofs.lemmas.List.{take-replicate, drop-replicate, length-replicate, take_at}
use Rattle.std.proofs.lemmas.Nat.{from_be_bytes-to_be_bytes_8}
use Rattle.std.specs.Int.{from_be_bytes, w64}
use Rattle.mp_base.specs.Block.{zeros}
use Rattle.mp_base.specs.declared.number.Guid.{Guid}
use Rattle.sha2.specs.Sha256.{sha256}
use Rattle.bank_core.specs.Disk.{sector_size}
use Rattle.bank_core.specs.Memory.{zero_sector}
use Rattle.label_store.specs.declared.uberblock.Uberblock.{Uberblock}
use Rattle.label_store.specs.Clearing.{IsBare}
use Rattle.label_store.specs.Plans.{blank_uberblock}
use Rattle.label_store.specs.Uberblock.{be, uberblock_head, uberblock_bytes, number_at, IsInRange, IsUberblock}
use Rattle.label_store.proofs.Fields.{fields_are, is_of_fields, length-be}

long_sector : 40 ≤ sector_size
unfolding sector_size
long_sector = omega arith

eight_zeros : (n : ℕ) → 40 ≤ n → take {A = ℕ} 8 (drop {A = ℕ} 32 (replicate {A = ℕ} n 0)) ≡ replicate 8 0
eight_zeros n long = ap (take {A = ℕ} 8) (drop-replicate {X = ℕ} 32 n 0) ∙ take-replicate {X = ℕ} 8 (n - 32) 0 (omega arith)

no_number : number_at 32 zero_sector ≡ 0
unfolding number_at zero_sector
no_number = ap (λ bytes. from_be_bytes w64 bytes) (eight_zeros sector_size long_sector)

-- Zeros are no uberblock of a record.
pub zeros_bare : IsBare zero_sector
zeros_bare u is some = omega (arith, ap (λ v. v.number.0) (is_of_fields u zero_sector is), no_number)

first_zeros : (n : ℕ) → 40 ≤ n → take {A = ℕ} 8 (replicate {A = ℕ} n 0) ≡ replicate 8 0
first_zeros n long = take-replicate {X = ℕ} 8 n 0 (omega arith)

-- the mark of an uberblock, and what zeros have in its place
mark_there : (u : Uberblock) → from_be_bytes w64 (take 8 (uberblock_bytes u)) ≡ 0xbab10c
unfolding be
mark_there u = ap (from_be_bytes w64) (marked u) ∙ from_be_bytes-to_be_bytes_8 0xbab10c (omega arith)
  where
    front : (a r t : List ℕ) → length a ≡ 8 → take 8 ((a ++ r) ++ t) ≡ a
    front a r t long = ap (take 8) (append_assoc a r t) ∙ take_at a (r ++ t) 8 long

    marked : (u : Uberblock) → take 8 (uberblock_bytes u) ≡ be 0xbab10c
    marked u =
        front (be 0xbab10c) (be 1 ++ be u.pool.0 ++ be u.member.0 ++ be u.number.0 ++ be u.length ++ u.sum ++ zeros 3984) (sha256 (uberblock_head u)) (length-be 0xbab10c)

no_mark : from_be_bytes w64 (take 8 zero_sector) ≡ 0
unfolding zero_sector
no_mark = ap (λ bytes. from_be_bytes w64 bytes) (first_zeros sector_size long_sector)

-- They are none at all.
pub zeros_none : (u : Uberblock) → IsUberblock u zero_sector → ⊥
zeros_none u is =
    no_number_is (sym (mark_there u) ∙ sym (ap (λ bytes. from_be_bytes w64 (take 8 bytes)) is.bytes) ∙ no_mark)
  where
    no_number_is : ◌≡◌ {A = ℕ} 0xbab10c 0 → ⊥
    no_number_is e = omega (arith, e)

pub length-zeros : (n : ℕ) → length (zeros n) ≡ n
unfolding zeros
length-zeros n = length-replicate n 0

pub blank_in_range : (pool member : Guid) → pool.0 < 2 ^ 64 → member.0 < 2 ^ 64 → IsInRange (blank_uberblock pool member)
blank_in_range pool member p m = record {
  pool = p;
  member = m;
  number = omega arith;
  config = omega arith;
  sum = length-zeros 32;
  no_config = λ e. refl;
  no_sum = λ e. refl;
}

-- Nor is the uberblock that gives an identity.
pub blank_only : (pool member : Guid) (u : Uberblock) → pool.0 < 2 ^ 64 → member.0 < 2 ^ 64 → IsUberblock u (uberblock_bytes (blank_uberblock pool member))
    → blank_uberblock pool member ≡ u
blank_only pool member u p m is = sym (fields_are (blank_uberblock pool member) (blank_in_range pool member p m)) ∙ is_of_fields u _ is

pub blank_bare : (pool member : Guid) → pool.0 < 2 ^ 64 → member.0 < 2 ^ 64 → IsBare (uberblock_bytes (blank_uberblock pool member))
blank_bare pool member p m u is some =
    let number : 0 ≡ u.number.0 = ap (λ v. v.number.0) (blank_only pool member u p m is) in omega arith
