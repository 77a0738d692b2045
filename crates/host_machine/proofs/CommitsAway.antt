-- The calls of commits, of stamps and of rounds, where their devices are no members of a pool.
use Rattle.std.proofs.Common.{◌≡◌, ℕ, Bool, false, List, [], ◌∷◌, Option, Some, None, refl, sym, subst, zero, suc}
use Rattle.std.specs.Prelude.{map, slice_get}
use Rattle.bank_core.specs.declared.bank.Fault.{Fault}
use Rattle.bank_core.specs.Asks.{Ask, Flushes}
use Rattle.bank_core.specs.Disk.{Noted}
use Rattle.label_store.specs.declared.member.Member.{Member}
use Rattle.label_store.specs.Plans.{stamp_plan}
use Rattle.pool_core.specs.Commits.{IsRoundBehind, IsCommit, IsStampedFirst, FirstRound, AreMade}
use Rattle.pool_core.specs.Recorded.{commit_of}
use Rattle.pool_core.specs.State.{LeafState, PoolState, board}
use Rattle.pool_core.specs.Syncing.{flush_plan}
use Rattle.host_machine.proofs.Away.{AreAway, AreAsksAway, AreElsewhere, away_more, part_away, stamp_away, round_away}
use Rattle.host_machine.proofs.Boards.{board_each}

-- where the leaf has a device, it is none of these
abbrev pub IsOff : (ℕ → Bool) → LeafState → Type 0
IsOff member leaf = (d : ℕ) → leaf.dev ≡ Some d → member d ≡ false

elsewhere_each : (member : ℕ → Bool) (ms : List Member) → ((i : ℕ) (m : Member) → slice_get ms i ≡ Some m → member m.dev ≡ false) → AreElsewhere member ms
elsewhere_each member [] each = tt
elsewhere_each member (m ∷ ms) each = (each zero m refl, elsewhere_each member ms (λ i n e. each (suc i) n e))

-- the board of such leaves
pub board_elsewhere : (member : ℕ → Bool) (s : PoolState) → IsOff member s.first → IsOff member s.second → AreElsewhere member (board s)
board_elsewhere member s one other =
    elsewhere_each member (board s) (board_each (λ m. member m.dev ≡ false) s (λ m seat. one m.dev seat.dev) (λ m seat. other m.dev seat.dev))

behind_away : (member : ℕ → Bool) (size : ℕ → ℕ) (s : PoolState) (outcome : Option Fault) (made : List Noted) (failed : ℕ)
    → IsOff member s.first → IsOff member s.second → IsRoundBehind size s outcome made failed → AreAway member made
behind_away member size s None made failed one other r = round_away member size (commit_of s) (board s) r.0 made (board_elsewhere member s one other) r.1
behind_away member size s (Some fault) made failed one other r = subst (AreAway member) (sym r.0) tt

pub commit_away : (member : ℕ → Bool) (size : ℕ → ℕ) (plan : List Ask) (s : PoolState) (made : List Noted) (failed : ℕ)
    → IsOff member s.first → IsOff member s.second → AreAsksAway member plan → IsCommit size plan s made failed → AreAway member made
commit_away member size plan s made failed one other asks c =
    subst (AreAway member) (sym c.all) (away_more member c.before c.round (part_away member plan c.before c.outcome asks c.part)
    (behind_away member size s c.outcome c.round failed one other c.behind))

flushes_are : (member : ℕ → Bool) (ms : List Member) → AreAsksAway member (map (λ (m : Member). Flushes m.dev) ms)
flushes_are member [] = tt
flushes_are member (m ∷ ms) = (tt, flushes_are member ms)

pub flushes_away : (member : ℕ → Bool) (s : PoolState) → AreAsksAway member (flush_plan s)
flushes_away member s = flushes_are member (board s)

stamped_away : (member : ℕ → Bool) (size : ℕ → ℕ) (s : PoolState) (leaf : LeafState) (dev : ℕ) (made : List Noted) (failed : Option LeafState) (Then : List Noted → Type 0)
    → member dev ≡ false → ((rest : List Noted) → Then rest → AreAway member rest) → IsStampedFirst size s leaf dev made failed Then → AreAway member made
stamped_away member size s leaf dev made failed Then is away (mine, rest, None, all, part, behind) =
    subst (AreAway member) (sym all) (away_more member mine rest
    (part_away member (stamp_plan dev (size dev) s.pool leaf.member) mine None (stamp_away member dev (size dev) s.pool leaf.member is) part) (away rest behind))
stamped_away member size s leaf dev made failed Then is away (mine, rest, Some fault, all, part, behind) =
    subst (AreAway member) (sym all) (away_more member mine rest
    (part_away member (stamp_plan dev (size dev) s.pool leaf.member) mine (Some fault) (stamp_away member dev (size dev) s.pool leaf.member is) part)
    (subst (AreAway member) (sym behind.0) tt))

first_away : (member : ℕ → Bool) (size : ℕ → ℕ) (s : PoolState) (made : List Noted) (failed : Option LeafState)
    → IsOff member s.first → IsOff member s.second → FirstRound size s made failed → AreAway member made
first_away member size s made failed one other r = round_away member size (commit_of s) (board s) r.0 made (board_elsewhere member s one other) r.1

-- a create of this state on these devices, which are its leaves'
pub making_away : (member : ℕ → Bool) (size : ℕ → ℕ) (s : PoolState) (seats : ℕ × ℕ) (made : List Noted) (failed : Option LeafState)
    → member seats.0 ≡ false → member seats.1 ≡ false → IsOff member s.first → IsOff member s.second → AreMade size s seats made failed → AreAway member made
making_away member size s seats made failed first second one other m =
    stamped_away member size s s.first seats.0 made failed (λ rest. IsStampedFirst size s s.second seats.1 rest failed (λ more. FirstRound size s more failed)) first
    (λ rest. stamped_away member size s s.second seats.1 rest failed (λ more. FirstRound size s more failed) second (λ more. first_away member size s more failed one other)) m
