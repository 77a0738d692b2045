-- What an act leaves of a pool.
use Rattle.std.proofs.Common.{◌≡◌, ◌≢◌, ℕ, ◌==◌, true, false, cond, List, [], ◌∷◌, ◌++◌, refl, sym, ap, ◌∙◌, arith}
use Rattle.std.proofs.lemmas.Bool.Decides.{nat_tests}
use Rattle.bank_core.specs.Disk.{Noted, run}
use Rattle.txg_history.specs.Events.{Calls, as_events}
use Rattle.txg_history.specs.Pools.{Pool, after, pool_after}
use Rattle.txg_history.proofs.Folding.{pool_more}
use Rattle.pool_moves.specs.Moves.{Move, Makes, events_of}
use Rattle.pool_moves.specs.ReadRow.{made_in}
use Rattle.pool_runs.specs.Acts.{Act, Does, events_for, pool_by, pool_along, history}

-- Numbers of pools.
pub same_number : (m n : ℕ) → m ≡ n → (m == n) ≡ true
same_number m n is = grind (arith, nat_tests)

pub other_number : (m n : ℕ) → m ≢ n → (m == n) ≡ false
other_number m n off = grind (arith, nat_tests)

pub number_of_test : (m n : ℕ) → (m == n) ≡ true → m ≡ n
number_of_test m n is = grind (arith, nat_tests)

pub own_events : (g : ℕ) (v : Move) (p : Pool) → p.pool.0 ≡ g → events_for (Does g v) p ≡ events_of v p
own_events g v p is = ap (λ t. cond t (events_of v p) (as_events (made_in (v ∷ [])))) (same_number p.pool.0 g is)

pub other_events : (g : ℕ) (v : Move) (p : Pool) → p.pool.0 ≢ g → events_for (Does g v) p ≡ as_events (made_in (v ∷ []))
other_events g v p off = ap (λ t. cond t (events_of v p) (as_events (made_in (v ∷ [])))) (other_number p.pool.0 g off)

-- A move leaves of devices what its calls do, and changes no size, name or number.
pub move_sectors : (v : Move) (p : Pool) → (pool_after (events_of v p) p).sectors ≡ run (made_in (v ∷ [])) p.sectors
move_sectors (Makes noted) p = refl
move_sectors v p = refl

pub move_size : (v : Move) (p : Pool) → (pool_after (events_of v p) p).size ≡ p.size
move_size (Makes noted) p = refl
move_size v p = refl

pub move_number : (v : Move) (p : Pool) → (pool_after (events_of v p) p).pool ≡ p.pool
move_number (Makes noted) p = refl
move_number v p = refl

-- calls of others
pub calls_number : (made : List Noted) (p : Pool) → (pool_after (as_events made) p).pool ≡ p.pool
calls_number [] p = refl
calls_number (noted ∷ made) p = calls_number made (after (Calls noted) p)

-- Acts, one after another.
pub acts_more : (first second : List Act) (p : Pool) → pool_along (first ++ second) p ≡ pool_along second (pool_along first p)
acts_more [] second p = refl
acts_more (act ∷ first) second p = acts_more first second (pool_by act p)

pub history_pool : (acts : List Act) (p : Pool) → pool_along acts p ≡ pool_after (history acts p) p
history_pool [] p = refl
history_pool (act ∷ acts) p = history_pool acts (pool_by act p) ∙ sym (pool_more (events_for act p) (history acts (pool_by act p)) p)
