-- A key below the number of its level's keys stands over a block of the volume.
use Rattle.std.proofs.Common.{◌↔◌, ℕ, zero, suc, ◌*◌, ◌<◌, ◌≤◌, arith}
use Rattle.mp_base.specs.declared.place.Key.{Key}
use Rattle.block_map.specs.Keys.{keys_at, IsKey}
use Rattle.txg_history.specs.Pages.{span, IsOfVolume}

up : (blocks level index : ℕ) → level ≤ 3 → index < keys_at blocks level → span level * index < blocks
unfolding keys_at
up blocks zero index low inside = omega arith
up blocks (suc zero) index low inside = omega arith
up blocks (suc (suc zero)) index low inside = omega arith
up blocks (suc (suc (suc zero))) index low inside = omega arith
up blocks (suc (suc (suc (suc level)))) index low inside = absurd (omega arith)

down : (blocks level index : ℕ) → level ≤ 3 → span level * index < blocks → index < keys_at blocks level
unfolding keys_at
down blocks zero index low inside = omega arith
down blocks (suc zero) index low inside = omega arith
down blocks (suc (suc zero)) index low inside = omega arith
down blocks (suc (suc (suc zero))) index low inside = omega arith
down blocks (suc (suc (suc (suc level)))) index low inside = absurd (omega arith)

pub of_volume : (blocks : ℕ) (key : Key) → IsKey blocks key ↔ IsOfVolume blocks key
of_volume blocks key = (
  λ is. record { low = is.level; inside = up blocks key.level key.index is.level is.index },
  λ of. record { level = of.low; index = down blocks key.level key.index of.low of.inside },
)
