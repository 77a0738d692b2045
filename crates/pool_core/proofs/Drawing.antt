-- What the draw of a number changes of a state: its number, and the logs.
use Rattle.std.proofs.Common.{◌≡◌, ℕ, ◌+◌, ◌≤◌, inl, inr, Bool, true, false, cond, not, ◌&&◌, ◌==◌, nat_le, refl, ap, ◌∙◌, arith}
use Rattle.std.proofs.lemmas.Bool.{or_cases, and_parts, eqb-true}
use Rattle.pool_core.specs.Logs.{count_upto, hull_upto, with_log, widened, fitted_once, owing_too, drawn}
use Rattle.pool_core.specs.State.{LeafState, PoolState, is_readable}
use Rattle.pool_core.proofs.Widening.{hull_within}

-- the state with these logs
abbrev pub relogged : (first second : ℕ → Bool) → PoolState → PoolState
relogged first second s = record s { first = with_log first s.first; second = with_log second s.second }

-- the new state is the old one but for the logs
pub record Relogs (old new : PoolState) : Type 0 where
  pub first_log : ℕ → Bool
  pub second_log : ℕ → Bool
  pub is : new ≡ relogged first_log second_log old

once_at : (few more : Bool) (s : PoolState)
    → Relogs s (cond few s (cond more (record s { first = widened s.number s.first }) (record s { second = widened s.number s.second })))
once_at true more s = record { first_log = s.first.owes; second_log = s.second.owes; is = refl }
once_at false true s = record { first_log = hull_upto s.first.owes s.number; second_log = s.second.owes; is = refl }
once_at false false s = record { first_log = s.first.owes; second_log = hull_upto s.second.owes s.number; is = refl }

once_relogs : (s : PoolState) → Relogs s (fitted_once s)
once_relogs s = once_at (nat_le (count_upto s.first.owes s.number + count_upto s.second.owes s.number) 4096) (nat_le (count_upto s.second.owes s.number) (count_upto s.first.owes s.number)) s

relogs_more : (s t u : PoolState) → Relogs s t → Relogs t u → Relogs s u
relogs_more s t u a b = record { first_log = b.first_log; second_log = b.second_log; is = b.is ∙ ap (relogged b.first_log b.second_log) a.is }

-- the next number, before the logs are fitted
abbrev numbered : PoolState → PoolState
numbered s = record s { number = s.number + 1 }

abbrev owed : PoolState → PoolState
owed s = record s { number = s.number + 1; first = owing_too (s.number + 1) s.first; second = owing_too (s.number + 1) s.second }

owed_relogs : (s : PoolState) → Relogs (numbered s) (owed s)
owed_relogs s = record { first_log = (owing_too (s.number + 1) s.first).owes; second_log = (owing_too (s.number + 1) s.second).owes; is = refl }

pub drawn_relogs : (s : PoolState) → Relogs (numbered s) (drawn s)
drawn_relogs s =
    relogs_more (numbered s) (fitted_once (owed s)) (drawn s)
    (relogs_more (numbered s) (owed s) (fitted_once (owed s)) (owed_relogs s) (once_relogs (owed s))) (once_relogs (fitted_once (owed s)))

pub drawn_number : (s : PoolState) → (drawn s).number ≡ s.number + 1
drawn_number s = ap (λ t. t.number) (drawn_relogs s).is

-- the groups of a log are from 1 to n
abbrev pub IsWithin : ℕ → (ℕ → Bool) → Type 0
IsWithin n log = (g : ℕ) → log g ≡ true → (1 ≤ g) × (g ≤ n)

abbrev pub AreWithin : ℕ → PoolState → Type 0
AreWithin n s = IsWithin n s.first.owes × IsWithin n s.second.owes

within_at : (few more : Bool) (n : ℕ) (s : PoolState) → s.number ≡ n → AreWithin n s
    → AreWithin n (cond few s (cond more (record s { first = widened s.number s.first }) (record s { second = widened s.number s.second })))
within_at true more n s is w = w
within_at false true n s is w = ((λ g e. let h = hull_within s.first.owes s.number g e in (h.0, omega (arith, h.1))), w.1)
within_at false false n s is w = (w.0, λ g e. let h = hull_within s.second.owes s.number g e in (h.0, omega (arith, h.1)))

once_within : (n : ℕ) (s : PoolState) → s.number ≡ n → AreWithin n s → AreWithin n (fitted_once s)
once_within n s is w =
    within_at (nat_le (count_upto s.first.owes s.number + count_upto s.second.owes s.number) 4096) (nat_le (count_upto s.second.owes s.number) (count_upto s.first.owes s.number)) n s is w

owing_within : (n : ℕ) (leaf : LeafState) → IsWithin n leaf.owes → IsWithin (n + 1) (owing_too (n + 1) leaf).owes
owing_within n leaf w g e = elim (or_cases (leaf.owes g) (not (is_readable leaf) && (g == n + 1)) e) [
  | inl old ↦ let h = w g old in (h.0, omega (arith, h.1))
  | inr new ↦ let same : g ≡ n + 1 = eqb-true g (n + 1) (and_parts (not (is_readable leaf)) _ new).1 in (omega arith, omega arith)
]

-- logs up to a number are ones up to the next behind the draw
pub drawn_within : (s : PoolState) → AreWithin s.number s → AreWithin (s.number + 1) (drawn s)
drawn_within s w =
    let number : (fitted_once (owed s)).number ≡ s.number + 1 = ap (λ t. t.number) (once_relogs (owed s)).is in
    once_within (s.number + 1) (fitted_once (owed s)) number
    (once_within (s.number + 1) (owed s) refl (owing_within s.number s.first w.0, owing_within s.number s.second w.1))
