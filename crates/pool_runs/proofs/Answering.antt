-- Calls that answer by the disk model of a host do so by a pool's history.
use Rattle.std.proofs.Common.{◌≡◌, ℕ, ◌+◌, ◌≤◌, Bool, true, false, List, [], ◌∷◌, ◌++◌, None, refl, sym, ap, ◌∙◌, subst}
use Rattle.std.specs.List.{AllByRecursion}
use Rattle.bank_core.specs.Calls.{device_of}
use Rattle.bank_core.specs.Disk.{Call, Read, Noted, Sectors, IsClean, Answers, AllAnswer, as_found, hurt, replay, run}
use Rattle.pool_moves.specs.Moves.{Move, Makes}
use Rattle.pool_moves.specs.ReadRow.{made_in}
use Rattle.pool_runs.specs.Acts.{Act, does, calls_of_act, calls_along}
use Rattle.pool_runs.specs.Devices.{Device, size_in}
use Rattle.pool_runs.specs.HostRows.{is_reading, marked_behind, marked}

answers_same : (call : Call) (a b : Sectors) → ((s : ℕ) → a (device_of call) s ≡ b (device_of call) s) → Answers a call → Answers b call
answers_same (Read dev at bytes None) a b same is = (
  is.0,
  λ i inside clean. let e = same (at + i) in
      is.1 i inside (subst (λ x. IsClean x) (sym e) clean) ∙ ap (λ x. x.stable) e,
)
answers_same call a b same is = tt

pub all_answer : (table : List Device) (made : List Noted) (a b : Sectors) → AllByRecursion (λ noted. 1 ≤ size_in table (device_of noted.call)) made
    → ((d s : ℕ) → 1 ≤ size_in table d → a d s ≡ b d s) → AllAnswer a made → AllAnswer b made
all_answer table [] a b here same is = tt
all_answer table (noted ∷ made) a b here same is = (
  answers_same noted.call (as_found noted a) (as_found noted b) (λ s. ap (hurt (noted.damage (device_of noted.call) s)) (same (device_of noted.call) s here.0)) is.0,
  all_answer table made (run (noted ∷ []) a) (run (noted ∷ []) b) here.1 (λ d s one. ap (λ x. replay (noted ∷ []) d s x) (same d s one)) is.1,
)

-- The calls of moves, and of a read.
made_first : (v : Move) (vs : List Move) → made_in (v ∷ vs) ≡ made_in (v ∷ []) ++ made_in vs
made_first (Makes noted) vs = refl
made_first v vs = refl

pub does_calls : (g : ℕ) (vs : List Move) → calls_along (does g vs) ≡ made_in vs
does_calls g [] = refl
does_calls g (v ∷ vs) = ap (λ more. made_in (v ∷ []) ++ more) (does_calls g vs) ∙ sym (made_first v vs)

marked_first : (reading : Bool) (mark : Act) (g : ℕ) (v : Move) (vs : List Move) (rest : List Act) → calls_of_act mark ≡ [] → calls_along rest ≡ made_in vs
    → calls_along (marked_behind reading mark g v vs rest) ≡ made_in (v ∷ vs)
marked_first true mark g v vs rest none is = ap (λ more. made_in (v ∷ []) ++ more) is ∙ sym (made_first v vs)
marked_first false mark g v vs rest none is = ap (λ made. made ++ calls_along (does g (v ∷ vs))) none ∙ does_calls g (v ∷ vs)

pub marked_calls : (mark : Act) (g : ℕ) (vs : List Move) → calls_of_act mark ≡ [] → calls_along (marked mark g vs) ≡ made_in vs
marked_calls mark g [] none = ap (λ made. made ++ []) none
marked_calls mark g (v ∷ vs) none = marked_first (is_reading v) mark g v vs (marked mark g vs) none (marked_calls mark g vs none)
