-- One block fills one sector.
use Rattle.std.proofs.Common.{◌≡◌, ℕ, ◌+◌, ◌*◌, ◌<◌, ◌≤◌, ◌%◌, List, length, refl, sym, ◌∙◌, ap, arith}
use Rattle.std.proofs.lemmas.Nat.{div-add-mod'}
use Rattle.bank_core.specs.Disk.{sector_size, sectors_in}

pub block_whole : (bytes : List ℕ) → length bytes ≡ 4096 → length bytes % sector_size ≡ 0
unfolding sector_size
block_whole bytes long = rw long refl

pub block_sectors : (bytes : List ℕ) → length bytes ≡ 4096 → sectors_in bytes ≡ 1
unfolding sector_size
block_sectors bytes long = rw long refl

-- a block at this sector lies inside the device
pub block_inside : (bytes : List ℕ) (at size : ℕ) → length bytes ≡ 4096 → at < size → at + sectors_in bytes ≤ size
block_inside bytes at size long below = rw (block_sectors bytes long) (omega arith)

-- one whole sector is a block
pub sector_block : (bytes : List ℕ) → sectors_in bytes ≡ 1 → length bytes % sector_size ≡ 0 → length bytes ≡ 4096
unfolding sector_size
sector_block bytes one whole =
    sym (div-add-mod' (length bytes) 4096) ∙ ap (λ n. n * 4096 + length bytes % 4096) one ∙ ap (λ n. 1 * 4096 + n) whole
