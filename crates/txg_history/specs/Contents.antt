-- The contents of a record: what a read answered at the last freeze before its round.
use Rattle.std.specs.Prelude.{◌≡◌, ℕ, ◌==◌, cond, List, [], ◌∷◌, ◌++◌}
use Rattle.txg_history.specs.Events.{Event, Accepts, Freezes, Opens, Begins}
use Rattle.txg_history.specs.Records.{Rec, block_at}

-- A read's answer at the last freeze among these events. It was `base` before them, and `frozen` at the last freeze then.
abbrev pub frozen_of : List Event → (base frozen : ℕ → List ℕ) → ℕ → List ℕ
frozen_of [] base frozen = frozen
frozen_of (Accepts a block ∷ vs) base frozen = frozen_of vs (λ x. cond (a == x) block (base x)) frozen
frozen_of (Opens r ∷ vs) base frozen = frozen_of vs (block_at r) frozen
frozen_of (Freezes cells board ∷ vs) base frozen = frozen_of vs base base
frozen_of (v ∷ vs) base frozen = frozen_of vs base frozen

-- The record's round began among these events, and it has what was accepted before the last freeze before that.
pub record BegunAt (base frozen : ℕ → List ℕ) (vs : List Event) (r : Rec) : Type 0 where
  pub before : List Event
  pub later : List Event
  pub all : vs ≡ before ++ (Begins r ∷ later)
  pub content : (a : ℕ) → block_at r a ≡ frozen_of before base frozen a
