-- Whole sectors inside of a device have places that a file can name.
use Rattle.std.proofs.Common.{◌≡◌, ℕ, ◌+◌, ◌*◌, ◌<◌, ◌≤◌, ◌/◌, ◌%◌, ◌^◌, arith}
use Rattle.std.proofs.lemmas.Nat.{div-add-mod'}
use Rattle.bank_core.specs.Disk.{sector_size}

pub span_fits : (at n sectors : ℕ) → n % sector_size ≡ 0 → at + n / sector_size ≤ sectors → sectors < 2 ^ 32
    → at * sector_size + n < 2 ^ 64
unfolding sector_size
span_fits at n sectors whole inside short = omega (arith, div-add-mod' n 4096, whole)
