-- The pool that the code found at a place, and the host behind a call on it.
use Rattle.std.proofs.Common.{◌≡◌, ℕ, ◌<◌, length, get_or, true, Some, None, [], ◌∷◌, List, zero, suc, Result, sym, ap, ◌∙◌, subst, arith}
use Rattle.std.specs.Prelude.{slice_get, slice_set}
use Rattle.std.proofs.lemmas.Option.{slice_get-get_or}
use Rattle.bank_core.specs.BankView.{BankView}
use Rattle.open_pool.specs.Parts.{PoolParts}
use Rattle.pool_runs.specs.Lines.{Asked, Reply}
use Rattle.host_core.specs.declared.host.Refused.{Refused}
use Rattle.host_core.specs.Answering.{AnswersLine, of_pool}
use Rattle.host_core.specs.Naming.{is_called, IsCalledAt}
use Rattle.host_core.specs.Parts.{HostParts}

inside : (ps : List PoolParts) (place : ℕ) (p : PoolParts) → slice_get ps place ≡ Some p → place < length ps
inside [] place p at = absurd (let no : None ≡ Some p = at in cc)
inside (q ∷ ps) zero p at = omega arith
inside (q ∷ ps) (suc place) p at = let low = inside ps place p at in omega (arith, low)

module _ (now view : HostParts) (is : view ≡ now) (place : ℕ) where
  pub at_place : (p : PoolParts) → place < length view.pools → p ≡ get_or view.pools place p → slice_get now.pools place ≡ Some p
  at_place p low got = subst (λ (x : HostParts). slice_get x.pools place ≡ Some p) is (slice_get-get_or view.pools place p low ∙ ap (λ q. Some q) (sym got))

  module _ (name : List ℕ) (at : IsCalledAt name now.pools place) where
    pub low : place < length view.pools
    low = subst (λ (x : HostParts). place < length x.pools) (sym is) (inside now.pools place at.pool at.there)

    module _ (p : PoolParts) (got : p ≡ get_or view.pools place p) where
      pub same : at.pool ≡ p
      same = let both : Some at.pool ≡ Some p = sym at.there ∙ at_place p low got in cc

      abbrev pub here : IsCalledAt name now.pools place
      here = record {
        pool = p;
        there = at_place p low got;
        called = subst (λ q. is_called name q ≡ true) same at.called;
        first = at.first;
      }

  pub told : {A E : Type 0} (asked : Asked) (SaysIt : Result A (Refused E) → Reply → Type 0) (new : PoolParts) (from to : BankView) (answer : Result A E)
      (result : Result A (Refused E)) → result ≡ of_pool answer
      → AnswersLine asked (SaysIt (of_pool answer)) now (record now { pools = slice_set now.pools place new }) from to
      → AnswersLine asked (SaysIt result) now (record view { pools = slice_set view.pools place new }) from to
  told asked SaysIt new from to answer result said answers =
      subst (λ r. AnswersLine asked (SaysIt r) now (record view { pools = slice_set view.pools place new }) from to) (sym said)
      (subst (λ (x : HostParts). AnswersLine asked (SaysIt (of_pool answer)) now (record x { pools = slice_set x.pools place new }) from to) (sym is) answers)
