-- When a write and a freeze are refused, and for what.
use Rattle.std.specs.Prelude.{◌≡◌, ◌⊎◌, ◌≢◌, ℕ, zero, suc, ◌+◌, ◌-◌, ◌*◌, ◌<◌, ◌^◌, ◌==◌, ◌&&◌, ◌||◌, nat_le, nat_lt, Bool, true, false, cond, Option, Some, None, List, [], ◌∷◌, length, AllPairs, Contains}
use Rattle.std.specs.List.{list_any}
use Rattle.std.specs.Option.{is_some}
use Rattle.mp_base.specs.declared.number.Guid.{Guid}
use Rattle.vdev_tree.specs.Leaf.{is_up}
use Rattle.txg_history.specs.Records.{key}
use Rattle.pool_moves.specs.FreezeRow.{IsAtPlace, IsTakenPlace}
use Rattle.pool_moves.specs.Leaves.{LeafSeen}
use Rattle.pool_moves.specs.States.{sums, PoolSeen, PoolState}

-- how many of the numbers below a limit pass a test, and whether one does
abbrev pub count_below : (limit : ℕ) → (ℕ → Bool) → ℕ
count_below zero test = 0
count_below (suc n) test = count_below n test + cond (test n) 1 0

abbrev pub any_below : (limit : ℕ) → (ℕ → Bool) → Bool
any_below zero test = false
any_below (suc n) test = any_below n test || test n

-- a key of this level is dirty where these addresses are written: a written block, or a page above one
abbrev pub dirty_at : (level : ℕ) → (written : ℕ → Bool) → ℕ → Bool
dirty_at zero written index = written index
dirty_at (suc level) written index = any_below 64 (λ j. dirty_at level written (64 * index + j))

-- how many keys a group of these writes has, on the volume's four levels
abbrev pub keys_needed : (blocks : ℕ) → (written : ℕ → Bool) → ℕ
keys_needed blocks written = count_below blocks (dirty_at 0 written) + (count_below blocks (dirty_at 1 written)
    + (count_below blocks (dirty_at 2 written) + count_below blocks (dirty_at 3 written)))

-- the open writes, with one more at this address, and the frozen group's
abbrev pub is_written : PoolState → ℕ → Bool
is_written s x = is_some (s.own.writes x)

abbrev pub written_with : (a : ℕ) → PoolState → ℕ → Bool
written_with a s x = (a == x) || is_written s x

abbrev pub dirty_with : (a : ℕ) → PoolState → ℕ → Bool
dirty_with a s x = written_with a s x || is_some (s.core.group.cells (key 0 x))

-- a place is in use: by a key of the record that the pool reads, of the frozen group, or until the next acknowledgement
abbrev pub IsUsed : PoolSeen → (top sector : ℕ) → Type 0
IsUsed s top sector = IsTakenPlace s top sector ⊎ IsAtPlace (sums s.group.cells) top sector

-- a place of a top that isn't in use
abbrev pub IsOpen : PoolSeen → (top sector : ℕ) → Type 0
IsOpen s top sector = (sector < s.room top) × (IsUsed s top sector → ⊥)

-- So many places are open: these, by top and sector, which differ, and no others.
pub record CountsOpen (s : PoolSeen) (n : ℕ) : Type 0 where
  pub places : List (ℕ × ℕ)
  pub count : length places ≡ n
  pub differ : AllPairs (λ a b. a ≢ b) places
  pub all : (top sector : ℕ) → IsOpen s top sector → Contains places (top, sector)
  pub only : (top sector : ℕ) → Contains places (top, sector) → IsOpen s top sector

-- a leaf that may be written: it is readable and has a device
abbrev pub is_writable : LeafSeen → Bool
is_writable leaf = is_up leaf.own.mode && is_some leaf.dev

abbrev pub is_writable_under : (top : ℕ) → LeafSeen → Bool
is_writable_under top leaf = is_writable leaf && (leaf.top == top)

-- the top of the first of these leaves whose top has no writable leaf among all
abbrev pub unwritable_of : (all leaves : List LeafSeen) → Option ℕ
unwritable_of all [] = None
unwritable_of all (leaf ∷ leaves) = cond (list_any (is_writable_under leaf.top) all) (unwritable_of all leaves) (Some leaf.top)

abbrev pub unwritable : List LeafSeen → Option ℕ
unwritable leaves = unwritable_of leaves leaves

-- the highest number below which a group may still be frozen
abbrev pub last_number : ℕ
last_number = 2 ^ 62 - 64

-- Why no group is frozen: its number would be too high; a top has no writable leaf, which is told by its member number; or
-- it needs more places than are open.
pub data FreezeRefusal : Type 0 where
  NoNumber : (limit count : ℕ) → FreezeRefusal
  NoBoard : (group : ℕ) (top : Guid) → FreezeRefusal
  NoRoom : (need free : ℕ) → FreezeRefusal

abbrev pub room_refusal : (need free : ℕ) → Option FreezeRefusal
room_refusal need free = cond (nat_lt free need) (Some (NoRoom need free)) None

-- in this order: by whether the numbers are at their end, and by a top without a writable leaf
abbrev pub RefusedBy : (ended : Bool) → Option ℕ → PoolState → Option FreezeRefusal → Type 0
RefusedBy true top s refusal = refusal ≡ Some (NoNumber last_number (s.core.number + 1))
RefusedBy false (Some top) s refusal = refusal ≡ Some (NoBoard (s.core.number + 1) (s.own.top_number top))
RefusedBy false None s refusal = (free : ℕ) × CountsOpen s.core free × (refusal ≡ room_refusal (keys_needed s.own.blocks (is_written s)) free)

-- what a freeze is refused for, if anything
abbrev pub IsRefused : PoolState → Option FreezeRefusal → Type 0
IsRefused s refusal = RefusedBy (nat_le last_number s.core.number) (unwritable s.core.leaves) s refusal
