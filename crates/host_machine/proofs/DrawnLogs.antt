-- The logs behind the draw of a number: they only grow, and a leaf owes the new number where it isn't readable.
use Rattle.std.proofs.Common.{◌≡◌, ⊎_elim, ℕ, zero, suc, ◌+◌, ◌<◌, ◌≤◌, ◌==◌, ◌&&◌, ◌||◌, not, nat_le, Bool, true, false, cond, refl, sym, ap, ◌∙◌, subst, arith, inl, inr}
use Rattle.std.proofs.lemmas.Bool.{or_cases, or_left, or_right, and_parts, and_from, leb-true, le-leb, cases_lt}
use Rattle.mp_base.specs.declared.number.Guid.{Guid}
use Rattle.pool_history.proofs.LooksFound.{alike}
use Rattle.pool_core.specs.Logs.{any_upto, hull_upto, count_upto, widened, fitted_once, owing_too, drawn}
use Rattle.pool_core.specs.State.{LeafState, PoolState, is_readable}
use Rattle.pool_core.proofs.Drawing.{IsWithin, drawn_relogs, drawn_number}
use Rattle.host_machine.specs.Records.{owed_by}

any_at : (p : ℕ → Bool) (n k : ℕ) → 1 ≤ k → k ≤ n → p k ≡ true → any_upto p n ≡ true
any_at p zero k low high is = absurd (omega arith)
any_at p (suc n) k low high is =
    ⊎_elim {A = k < suc n} {B = suc n ≤ k}
    (λ below. or_right (p (suc n)) (any_upto p n) (any_at p n k low (omega (arith, below)) is))
    (λ above. or_left (p (suc n)) (any_upto p n) (let same : k ≡ suc n = omega (arith, above, high) in subst (λ x. p x ≡ true) same is))
    (cases_lt k (suc n))

any_some : (p : ℕ → Bool) (n : ℕ) → any_upto p n ≡ true → (k : ℕ) × (1 ≤ k) × (k ≤ n) × (p k ≡ true)
any_some p zero e = absurd (let no : false ≡ true = e in cc)
any_some p (suc n) e = elim (or_cases (p (suc n)) (any_upto p n) e) [
  | inl here ↦ (suc n, omega arith, omega arith, here)
  | inr there ↦ let k = any_some p n there in (k.0, k.1, omega (arith, k.2), k.3)
]

-- A log that is widened has what it had, and its greatest group stays the greatest.

hull_grows : (has : ℕ → Bool) (n g : ℕ) → 1 ≤ g → g ≤ n → has g ≡ true → hull_upto has n g ≡ true
hull_grows has n g low high is =
    and_from _ _ (any_at (λ h. has h && nat_le h g) n g low high (and_from (has g) (nat_le g g) is (le-leb g g (omega arith))))
    (any_at (λ h. has h && nat_le g h) n g low high (and_from (has g) (nat_le g g) is (le-leb g g (omega arith))))

hull_last : (has : ℕ → Bool) (n : ℕ) → hull_upto has n n ≡ true → has n ≡ true
hull_last has n e =
    let at = any_some (λ h. has h && nat_le n h) n (and_parts (any_upto (λ h. has h && nat_le h n) n) (any_upto (λ h. has h && nat_le n h) n) e).1 in
    let parts = and_parts (has at.0) (nat_le n at.0) at.3 in
    let above : n ≤ at.0 = leb-true n at.0 parts.1 in
    let same : at.0 ≡ n = omega (arith, above, at.2) in
    subst (λ x. has x ≡ true) same parts.0

both_ways : (a b : Bool) → (a ≡ true → b ≡ true) → (b ≡ true → a ≡ true) → a ≡ b
both_ways true b f g = sym (f refl)
both_ways false true f g = g refl
both_ways false false f g = refl

-- The log has what it had of the groups up to n, and n itself where it had it.
record Grows (n : ℕ) (old new : ℕ → Bool) : Type 0 where
  pub grows : (g : ℕ) → 1 ≤ g → g ≤ n → old g ≡ true → new g ≡ true
  pub last : new n ≡ old n

grows_same : (n : ℕ) (log : ℕ → Bool) → Grows n log log
grows_same n log = record { grows = λ g low high is. is; last = refl }

grows_hull : (n : ℕ) (log : ℕ → Bool) → 1 ≤ n → Grows n log (hull_upto log n)
grows_hull n log some = record {
  grows = hull_grows log n;
  last = both_ways (hull_upto log n n) (log n) (hull_last log n) (hull_grows log n n some (omega arith));
}

grows_more : (n : ℕ) (a b c : ℕ → Bool) → Grows n a b → Grows n b c → Grows n a c
grows_more n a b c one two = record { grows = λ g low high is. two.grows g low high (one.grows g low high is); last = two.last ∙ one.last }

-- both logs, under one number
record BothGrow (n : ℕ) (old new : PoolState) : Type 0 where
  pub number : new.number ≡ n
  pub first : Grows n old.first.owes new.first.owes
  pub second : Grows n old.second.owes new.second.owes

hull_at : (m n : ℕ) (log : ℕ → Bool) → m ≡ n → 1 ≤ n → Grows n log (hull_upto log m)
hull_at m n log same some = subst (λ x. Grows n log (hull_upto log x)) (sym same) (grows_hull n log some)

once_at : (few more : Bool) (n : ℕ) (s : PoolState) → s.number ≡ n → 1 ≤ n
    → BothGrow n s (cond few s (cond more (record s { first = widened s.number s.first }) (record s { second = widened s.number s.second })))
once_at true more n s is some = record { number = is; first = grows_same n s.first.owes; second = grows_same n s.second.owes }
once_at false true n s is some = record { number = is; first = hull_at s.number n s.first.owes is some; second = grows_same n s.second.owes }
once_at false false n s is some = record { number = is; first = grows_same n s.first.owes; second = hull_at s.number n s.second.owes is some }

once_grows : (n : ℕ) (s : PoolState) → s.number ≡ n → 1 ≤ n → BothGrow n s (fitted_once s)
once_grows n s is some =
    once_at (nat_le (count_upto s.first.owes s.number + count_upto s.second.owes s.number) 4096) (nat_le (count_upto s.second.owes s.number) (count_upto s.first.owes s.number)) n s is some

abbrev owed : PoolState → PoolState
owed s = record s { number = s.number + 1; first = owing_too (s.number + 1) s.first; second = owing_too (s.number + 1) s.second }

drawn_grow : (s : PoolState) → BothGrow (s.number + 1) (owed s) (drawn s)
drawn_grow s =
    let once = once_grows (s.number + 1) (owed s) refl (omega arith) in
    let twice = once_grows (s.number + 1) (fitted_once (owed s)) once.number (omega arith) in
    record {
      number = twice.number;
      first = grows_more (s.number + 1) (owed s).first.owes (fitted_once (owed s)).first.owes (drawn s).first.owes once.first twice.first;
      second = grows_more (s.number + 1) (owed s).second.owes (fitted_once (owed s)).second.owes (drawn s).second.owes once.second twice.second;
    }

not_within : (n : ℕ) (log : ℕ → Bool) → IsWithin n log → log (n + 1) ≡ false
not_within n log within = by (log (n + 1)) refl
  where
    by : (b : Bool) → log (n + 1) ≡ b → b ≡ false
    by true is = absurd (let at = within (n + 1) is in omega (arith, at.1))
    by false is = refl

leaf_owes : (n : ℕ) (leaf : LeafState) → IsWithin n leaf.owes → (owing_too (n + 1) leaf).owes (n + 1) ≡ not (is_readable leaf)
leaf_owes n leaf within =
    ap (λ b. b || (not (is_readable leaf) && (n + 1 == n + 1))) (not_within n leaf.owes within) ∙ ap (λ b. not (is_readable leaf) && b) (alike (n + 1)) ∙ and_true (not (is_readable leaf))
  where
    and_true : (b : Bool) → (b && true) ≡ b
    and_true true = refl
    and_true false = refl

-- A leaf owes the number that is drawn where it isn't readable.
pub first_drawn : (s : PoolState) → IsWithin s.number s.first.owes → (drawn s).first.owes (s.number + 1) ≡ not (is_readable s.first)
first_drawn s within = (drawn_grow s).first.last ∙ leaf_owes s.number s.first within

pub second_drawn : (s : PoolState) → IsWithin s.number s.second.owes → (drawn s).second.owes (s.number + 1) ≡ not (is_readable s.second)
second_drawn s within = (drawn_grow s).second.last ∙ leaf_owes s.number s.second within

-- it is the number of the state behind the draw

pub first_current : (s : PoolState) → IsWithin s.number s.first.owes → (drawn s).first.owes (drawn s).number ≡ not (is_readable (drawn s).first)
first_current s within = ap (drawn s).first.owes (drawn_number s) ∙ first_drawn s within ∙ ap (λ (t : PoolState). not (is_readable t.first)) (sym (drawn_relogs s).is)

pub second_current : (s : PoolState) → IsWithin s.number s.second.owes → (drawn s).second.owes (drawn s).number ≡ not (is_readable (drawn s).second)
second_current s within = ap (drawn s).second.owes (drawn_number s) ∙ second_drawn s within ∙ ap (λ (t : PoolState). not (is_readable t.second)) (sym (drawn_relogs s).is)

-- What a leaf doesn't owe then, it didn't owe before.

had : (n : ℕ) (leaf : LeafState) (new : ℕ → Bool) (g : ℕ) → IsWithin n leaf.owes → Grows (n + 1) (owing_too (n + 1) leaf).owes new → new g ≡ false → leaf.owes g ≡ false
had n leaf new g within grows gone = by (leaf.owes g) refl
  where
    by : (b : Bool) → leaf.owes g ≡ b → b ≡ false
    by true is =
        let at = within g is in
        let there : new g ≡ true = grows.grows g at.0 (omega (arith, at.1)) (or_left (leaf.owes g) (not (is_readable leaf) && (g == n + 1)) is) in
        absurd (let no : true ≡ false = sym there ∙ gone in cc)
    by false is = refl

pub first_had : (s : PoolState) (g : ℕ) → IsWithin s.number s.first.owes → (drawn s).first.owes g ≡ false → s.first.owes g ≡ false
first_had s g within gone = had s.number s.first (drawn s).first.owes g within (drawn_grow s).first gone

pub second_had : (s : PoolState) (g : ℕ) → IsWithin s.number s.second.owes → (drawn s).second.owes g ≡ false → s.second.owes g ≡ false
second_had s g within gone = had s.number s.second (drawn s).second.owes g within (drawn_grow s).second gone

-- so for the leaf of any member number, where the states have the same numbers
pub owed_had : (s t : PoolState) (m : Guid) (g : ℕ) → t.first.member ≡ s.first.member → t.second.member ≡ s.second.member
    → (t.first.owes g ≡ false → s.first.owes g ≡ false) → (t.second.owes g ≡ false → s.second.owes g ≡ false) → owed_by t m g ≡ false → owed_by s m g ≡ false
owed_had s t m g one two first second gone =
    by (s.first.member.0 == m.0) (s.second.member.0 == m.0)
    (sym (ap (λ (n : Guid). cond (n.0 == m.0) (t.first.owes g) (cond (t.second.member.0 == m.0) (t.second.owes g) false)) one
    ∙ ap (λ (n : Guid). cond (s.first.member.0 == m.0) (t.first.owes g) (cond (n.0 == m.0) (t.second.owes g) false)) two) ∙ gone)
  where
    by : (a b : Bool) → cond a (t.first.owes g) (cond b (t.second.owes g) false) ≡ false → cond a (s.first.owes g) (cond b (s.second.owes g) false) ≡ false
    by true b e = first e
    by false true e = second e
    by false false e = refl
