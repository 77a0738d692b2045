-- The device calls by which a pool's record is committed.
use Rattle.std.specs.Prelude.{◌≡◌, ℕ, ◌+◌, Bool, true, false, List, [], ◌∷◌, ◌++◌, Option, Some, None}
use Rattle.bank_core.specs.declared.bank.Fault.{Fault}
use Rattle.bank_core.specs.Asks.{Ask, IsPart}
use Rattle.bank_core.specs.Disk.{Noted}
use Rattle.label_store.specs.Plans.{stamp_plan}
use Rattle.label_store.specs.Rounds.{IsRound}
use Rattle.pool_core.specs.Recorded.{commit_of}
use Rattle.pool_core.specs.State.{LeafState, PoolState, leaves, board}

-- how many members left a round
abbrev pub failures : List Bool → ℕ
failures [] = 0
failures (true ∷ results) = failures results
failures (false ∷ results) = failures results + 1

-- a round of the pool's record over its board, in which so many members failed
abbrev pub IsOwnRound : (size : ℕ → ℕ) → PoolState → List Noted → ℕ → Type 0
IsOwnRound size s made failed = (results : List Bool) × IsRound size (commit_of s) (board s) results made × (failed ≡ failures results)

-- the round comes where no call before it failed
abbrev pub IsRoundBehind : (size : ℕ → ℕ) → PoolState → Option Fault → List Noted → ℕ → Type 0
IsRoundBehind size s None made failed = IsOwnRound size s made failed
IsRoundBehind size s (Some fault) made failed = (made ≡ []) × (failed ≡ 1)

-- The calls of a plan, up to the first that failed, and then a round of this pool's record; so many calls failed.
pub record IsCommit (size : ℕ → ℕ) (plan : List Ask) (s : PoolState) (made : List Noted) (failed : ℕ) : Type 0 where
  pub before : List Noted
  pub round : List Noted
  pub all : made ≡ before ++ round
  pub outcome : Option Fault
  pub part : IsPart plan before outcome
  pub behind : IsRoundBehind size s outcome round failed

-- the first of the leaves that left a round
abbrev pub first_failed : List LeafState → List Bool → Option LeafState
first_failed [] results = None
first_failed (leaf ∷ leaves) [] = None
first_failed (leaf ∷ leaves) (true ∷ results) = first_failed leaves results
first_failed (leaf ∷ leaves) (false ∷ results) = Some leaf

abbrev pub FirstRound : (size : ℕ → ℕ) → PoolState → List Noted → Option LeafState → Type 0
FirstRound size s made failed = (results : List Bool) × IsRound size (commit_of s) (board s) results made × (failed ≡ first_failed (leaves s) results)

-- A leaf was stamped on this device, and these further calls come behind it where no call of the stamp failed.
abbrev pub IsStampedFirst : (size : ℕ → ℕ) → PoolState → LeafState → (dev : ℕ) → List Noted → Option LeafState → (List Noted → Type 0) → Type 0
IsStampedFirst size s leaf dev made failed Then = (mine : List Noted) × (rest : List Noted) × (outcome : Option Fault) × (made ≡ mine ++ rest)
    × IsPart (stamp_plan dev (size dev) s.pool leaf.member) mine outcome × Behind outcome rest
  where
    Behind : Option Fault → List Noted → Type 0
    Behind None rest = Then rest
    Behind (Some fault) rest = (rest ≡ []) × (failed ≡ Some leaf)

-- The leaves are stamped on these devices in tree order, up to the first that fails, and then record 1 is
-- committed by one round. This leaf failed, the first in tree order, or none.
abbrev pub AreMade : (size : ℕ → ℕ) → PoolState → (seats : ℕ × ℕ) → List Noted → Option LeafState → Type 0
AreMade size s seats made failed =
    IsStampedFirst size s s.first seats.0 made failed (λ rest. IsStampedFirst size s s.second seats.1 rest failed (λ more. FirstRound size s more failed))
