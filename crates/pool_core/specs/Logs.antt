-- How the logs of a pool change when a number is drawn: each leaf that isn't on the board owes it, and logs
-- of too many ranges are widened.
use Rattle.std.specs.Prelude.{ℕ, zero, suc, ◌+◌, ◌==◌, Bool, false, ◌&&◌, ◌||◌, not, cond, nat_le, length}
use Rattle.group_set.specs.Ranges.{ranges_upto}
use Rattle.pool_core.specs.State.{LeafState, PoolState, is_readable}

-- some group from 1 to n is one of these
abbrev pub any_upto : (ℕ → Bool) → ℕ → Bool
any_upto has zero = false
any_upto has (suc n) = has (suc n) || any_upto has n

-- all groups from the least to the greatest that a log has, of those from 1 to n
abbrev pub hull_upto : (ℕ → Bool) → ℕ → ℕ → Bool
hull_upto has n g = any_upto (λ h. has h && nat_le h g) n && any_upto (λ h. has h && nat_le g h) n

-- how many ranges a log has
abbrev pub count_upto : (ℕ → Bool) → ℕ → ℕ
count_upto has n = length (ranges_upto has n)

abbrev pub with_log : (ℕ → Bool) → LeafState → LeafState
with_log log leaf = record leaf { owes = log }

-- the log becomes one range
abbrev pub widened : (n : ℕ) → LeafState → LeafState
widened n leaf = with_log (hull_upto leaf.owes n) leaf

-- Where the two logs have more than 4,096 ranges together, the one with the most, the first on a tie, is widened.
abbrev pub fitted_once : PoolState → PoolState
fitted_once s = cond (nat_le (count_upto s.first.owes s.number + count_upto s.second.owes s.number) 4096) s
    (cond (nat_le (count_upto s.second.owes s.number) (count_upto s.first.owes s.number))
    (record s { first = widened s.number s.first })
    (record s { second = widened s.number s.second }))

-- Two logs are small enough once both are widened.
abbrev pub fitted : PoolState → PoolState
fitted s = fitted_once (fitted_once s)

-- the leaf owes this group too, where it isn't readable
abbrev pub owing_too : ℕ → LeafState → LeafState
owing_too group leaf = with_log (λ g. leaf.owes g || (not (is_readable leaf) && (g == group))) leaf

-- the next number is drawn
abbrev pub drawn : PoolState → PoolState
drawn s = fitted (record s { number = s.number + 1; first = owing_too (s.number + 1) s.first; second = owing_too (s.number + 1) s.second })
