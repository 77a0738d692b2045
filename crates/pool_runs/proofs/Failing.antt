-- A member's turn that failed has a call on its device that failed, and its device's count rose.
use Rattle.std.proofs.Common.{◌≡◌, ◌⊎◌, inl, inr, ⊎_elim, ℕ, ◌≤◌, Bool, true, false, List, [], ◌∷◌, ◌++◌, map, Some, None, refl, sym, ap, ◌∙◌, subst, arith}
use Rattle.std.specs.List.{AllByRecursion}
use Rattle.mp_base.specs.Outside.{Rose}
use Rattle.bank_core.specs.declared.bank.Fault.{Fault}
use Rattle.bank_core.specs.Asks.{Ask, Reads, Writes, Flushes, Admits, Ejects, ask_of, IsPart}
use Rattle.bank_core.specs.Calls.{device_of, fault_of, AllCaused}
use Rattle.bank_core.specs.Disk.{Call, Read, Write as WriteCall, Flush as FlushCall, Admit, Eject, Noted}
use Rattle.label_store.specs.declared.member.Member.{Member}
use Rattle.label_store.specs.Phases.{IsTurn, IsPhase}
use Rattle.pool_moves.specs.Moves.{Draft, Move, Makes}
use Rattle.pool_moves.specs.ReadRow.{made_in}
use Rattle.pool_moves.specs.TurnRows.{ended, IsThirdMoves}
use Rattle.pool_moves.specs.Walking.{as_moves}
use Rattle.pool_runs.specs.Counting.{HasRisen}
use Rattle.pool_moves.proofs.KindsOfMoves.{Failing}
use Rattle.pool_moves.proofs.ReadWalks.{made_calls}

-- Counts never fall, and stay risen.
rose_more : (a b d : ℕ) → Rose a b → b ≤ d → Rose a d
rose_more a b d rose up = omega (arith, rose, up)

caused_up : (made : List Noted) (from to : ℕ → ℕ) → AllCaused made from to → (d : ℕ) → from d ≤ to d
caused_up [] from to caused d = omega (arith, caused d)
caused_up (noted ∷ made) from to caused d = let one = caused.1.counts d in let rest =
    caused_up made caused.0 to caused.2 d in omega (arith, one, rest)

-- A call on a device failed.
abbrev pub FailedOn : (d : ℕ) → List Noted → Type 0
FailedOn d [] = ⊥
FailedOn d (noted ∷ made) = ((device_of noted.call ≡ d) × (fault : Fault) × (fault_of noted.call ≡ Some fault))
    ⊎ FailedOn d made

rose_since : (a b d : ℕ) → a ≤ b → Rose b d → Rose a d
rose_since a b d up rose = omega (arith, up, rose)

pub failed_rose : (d : ℕ) (made : List Noted) (from to : ℕ → ℕ) → AllCaused made from to → FailedOn d made
    → Rose (from d) (to d)
failed_rose d [] from to caused failed = absurd failed
failed_rose d (noted ∷ made) from to caused (inl failed) = subst (λ e. Rose (from e) (to e)) failed.0
    (rose_more (from (device_of noted.call)) (caused.0 (device_of noted.call)) (to (device_of noted.call))
    (caused.1.cause failed.1 failed.2) (caused_up made caused.0 to caused.2 (device_of noted.call)))
failed_rose d (noted ∷ made) from to caused (inr more) =
    rose_since (from d) (caused.0 d) (to d) (caused.1.counts d) (failed_rose d made caused.0 to caused.2 more)

pub failed_left : (d : ℕ) (xs ys : List Noted) → FailedOn d xs → FailedOn d (xs ++ ys)
failed_left d [] ys failed = absurd failed
failed_left d (x ∷ xs) ys (inl here) = inl here
failed_left d (x ∷ xs) ys (inr more) = inr (failed_left d xs ys more)

pub failed_right : (d : ℕ) (xs ys : List Noted) → FailedOn d ys → FailedOn d (xs ++ ys)
failed_right d [] ys failed = failed
failed_right d (x ∷ xs) ys failed = inr (failed_right d xs ys failed)

-- A member's turn that failed has a call on its device that did.
abbrev pub IsAskOn : (d : ℕ) → Ask → Type 0
IsAskOn d (Reads dev at sectors) = dev ≡ d
IsAskOn d (Writes dev at bytes) = dev ≡ d
IsAskOn d (Flushes dev) = dev ≡ d
IsAskOn d (Admits dev) = dev ≡ d
IsAskOn d (Ejects dev) = dev ≡ d

asked_on : (call : Call) (d : ℕ) → IsAskOn d (ask_of call) → device_of call ≡ d
asked_on (Read dev at bytes fault) d is = is
asked_on (WriteCall dev at bytes fault) d is = is
asked_on (FlushCall dev fault) d is = is
asked_on (Admit dev holds) d is = is
asked_on (Eject dev) d is = is

pub part_failed : (d : ℕ) (asks : List Ask) (made : List Noted) (fault : Fault) → AllByRecursion (IsAskOn d) asks
    → IsPart asks made (Some fault) → FailedOn d made
part_failed d [] [] fault on part = absurd (let no : Some fault ≡ None = part in cc)
part_failed d [] (noted ∷ made) fault on part = absurd part
part_failed d (ask ∷ asks) [] fault on part = absurd part
part_failed d (ask ∷ asks) (noted ∷ made) fault on part =
    ⊎_elim (λ going. inr (part_failed d asks made fault on.1 going.1))
    (λ stop. inl (asked_on noted.call d (subst (IsAskOn d) (sym part.0) on.0), stop.0, stop.1)) part.1

turn_failed : (d : ℕ) (asks : List Ask) (made : List Noted) → AllByRecursion (IsAskOn d) asks
    → IsTurn asks true false made → FailedOn d made
turn_failed d asks made on (None, part, is) = absurd (let no : false ≡ true = is in cc)
turn_failed d asks made on (Some fault, part, is) = part_failed d asks made fault on part

-- Each member without a good result failed.
pub start_failing : (Fails : ℕ → Type 0) (ms : List Member) → Failing Fails ms (map (λ m. true) ms)
start_failing Fails [] = tt
start_failing Fails (m ∷ ms) = start_failing Fails ms

abbrev pub IsPlanOn : (Member → List Ask) → Type 0
IsPlanOn plan = (m : Member) → AllByRecursion (IsAskOn m.dev) (plan m)

pub phase_failing : (Fails : ℕ → Type 0) (plan : Member → List Ask) → IsPlanOn plan
    → (ms : List Member) (was is : List Bool) (made : List Noted)
    → ((d : ℕ) → FailedOn d made → Fails d) → IsPhase plan ms was is made → Failing Fails ms was → Failing Fails ms is
phase_failing Fails plan on [] was is made fails phase before = tt
phase_failing Fails plan on (m ∷ ms) [] is made fails phase before = absurd phase
phase_failing Fails plan on (m ∷ ms) (b ∷ was) [] made fails phase before = tt
phase_failing Fails plan on (m ∷ ms) (true ∷ was) (true ∷ is) made fails (mine, rest, whole, turn, more) before =
    phase_failing Fails plan on ms was is rest
    (λ d failed. fails d (subst (FailedOn d) (sym whole) (failed_right d mine rest failed))) more before
phase_failing Fails plan on (m ∷ ms) (true ∷ was) (false ∷ is) made fails (mine, rest, whole, turn, more) before = (
  fails m.dev (subst (FailedOn m.dev) (sym whole)
      (failed_left m.dev mine rest (turn_failed m.dev (plan m) mine (on m) turn))),
  phase_failing Fails plan on ms was is rest
      (λ d failed. fails d (subst (FailedOn d) (sym whole) (failed_right d mine rest failed))) more before,
)
phase_failing Fails plan on (m ∷ ms) (false ∷ was) (true ∷ is) made fails (mine, rest, whole, turn, more) before =
    absurd (let no : true ≡ false = turn.1 in cc)
phase_failing Fails plan on (m ∷ ms) (false ∷ was) (false ∷ is) made fails (mine, rest, whole, turn, more) before = (
  before.0,
  phase_failing Fails plan on ms was is rest
      (λ d failed. fails d (subst (FailedOn d) (sym whole) (failed_right d mine rest failed))) more before.1,
)

ended_more : (c : Bool) (draft : Draft) (d : ℕ) (vs : List Move) → made_in (ended c draft d ++ vs) ≡ made_in vs
ended_more true draft d vs = refl
ended_more false draft d vs = refl

-- calls that failed, among the moves of a turn
pub moves_left : (d : ℕ) (vs ws : List Move) → FailedOn d (made_in vs) → FailedOn d (made_in (vs ++ ws))
moves_left d [] ws failed = absurd failed
moves_left d (Makes noted ∷ vs) ws (inl here) = inl here
moves_left d (Makes noted ∷ vs) ws (inr more) = inr (moves_left d vs ws more)
moves_left d (v ∷ vs) ws failed = moves_left d vs ws failed

pub moves_right : (d : ℕ) (vs ws : List Move) → FailedOn d (made_in ws) → FailedOn d (made_in (vs ++ ws))
moves_right d [] ws failed = failed
moves_right d (Makes noted ∷ vs) ws failed = inr (moves_right d vs ws failed)
moves_right d (v ∷ vs) ws failed = moves_right d vs ws failed

pub as_calls : (d : ℕ) (made : List Noted) → FailedOn d made → FailedOn d (made_in (as_moves made))
as_calls d [] failed = failed
as_calls d (noted ∷ made) (inl here) = inl here
as_calls d (noted ∷ made) (inr more) = inr (as_calls d made more)

pub third_failing : (Fails : ℕ → Type 0) (plan : Member → List Ask) (draft : Draft) → IsPlanOn plan
    → (ms : List Member) (was is : List Bool) (vs : List Move) → ((d : ℕ) → FailedOn d (made_in vs) → Fails d)
    → IsThirdMoves plan draft ms was is vs → Failing Fails ms was → Failing Fails ms is
third_failing Fails plan draft on [] was is vs fails third before = tt
third_failing Fails plan draft on (m ∷ ms) [] is vs fails third before = absurd third
third_failing Fails plan draft on (m ∷ ms) (b ∷ was) [] vs fails third before = tt
third_failing Fails plan draft on (m ∷ ms) (true ∷ was) (c ∷ is) vs fails (mine, rest, whole, turn, more) before =
    by c turn (third_failing Fails plan draft on ms was is rest
    (λ d failed. fails d (subst (FailedOn d) (sym calls) (failed_right d mine (made_in rest) failed))) more before)
  where
    calls : made_in vs ≡ mine ++ made_in rest
    calls = ap made_in whole
        ∙ (made_calls mine (ended c draft m.dev ++ rest) ∙ ap (λ l. mine ++ l) (ended_more c draft m.dev rest))

    by : (c : Bool) → IsTurn (plan m) true c mine → Failing Fails ms is → Failing Fails (m ∷ ms) (c ∷ is)
    by true turn more = more
    by false turn more = (
      fails m.dev (subst (FailedOn m.dev) (sym calls)
          (failed_left m.dev mine (made_in rest) (turn_failed m.dev (plan m) mine (on m) turn))),
      more,
    )
third_failing Fails plan draft on (m ∷ ms) (false ∷ was) (true ∷ is) vs fails third before =
    absurd (let no : true ≡ false = third.0 in cc)
third_failing Fails plan draft on (m ∷ ms) (false ∷ was) (false ∷ is) vs fails third before =
    (before.0, third_failing Fails plan draft on ms was is vs fails third.1 before.1)

-- what is so of each device with a failed call among these moves
abbrev pub IsCaught : (Fails : ℕ → Type 0) → List Move → Type 0
IsCaught Fails vs = (d : ℕ) → FailedOn d (made_in vs) → Fails d

pub caught_first : (Fails : ℕ → Type 0) (vs ws : List Move) → IsCaught Fails (vs ++ ws) → IsCaught Fails vs
caught_first Fails vs ws caught d failed = caught d (moves_left d vs ws failed)

pub caught_second : (Fails : ℕ → Type 0) (vs ws : List Move) → IsCaught Fails (vs ++ ws) → IsCaught Fails ws
caught_second Fails vs ws caught d failed = caught d (moves_right d vs ws failed)

pub caught_rose : (vs : List Move) (calls : List Noted) (from to : ℕ → ℕ) → calls ≡ made_in vs
    → AllCaused calls from to → IsCaught (HasRisen from to) vs
caught_rose vs calls from to is caused d failed =
    failed_rose d (made_in vs) from to (subst (λ made. AllCaused made from to) is caused) failed
