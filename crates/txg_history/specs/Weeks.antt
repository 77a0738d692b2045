-- Small histories. A leaf is away from the commit of a block, comes back and is resilvered.
use Rattle.std.specs.Prelude.{◌≡◌, ◌≢◌, ℕ, ◌==◌, Bool, true, List, [], ◌∷◌, ◌++◌}
use Rattle.txg_history.specs.Branches.{Branch, cell_on, writes_well, flushes_well, IsDay}
use Rattle.txg_history.specs.Events.{Event, Calls, Freezes, Draws, Leaves, Burns, Scans, Passes, Clears}
use Rattle.txg_history.specs.Groups.{no_log}
use Rattle.txg_history.specs.Pages.{Codec}
use Rattle.txg_history.specs.Pools.{Pool}
use Rattle.txg_history.specs.Records.{Cells, key}

-- The pool of a day, with a second leaf under the branch's top.
pub record IsWeek (c : Codec) (p : Pool) (a b : ℕ) (branch : Branch) : Type 0 where
  pub day : IsDay c p a branch
  pub is_b : p.member b ≡ true
  pub two : a ≢ b
  pub b_top : p.in_top b ≡ branch.top

-- the key on a level is brought to the leaf
abbrev pub brings_on : (b : ℕ) → Branch → (level : ℕ) → List Event
brings_on b branch level = Calls (writes_well b (cell_on branch level)) ∷ Passes (key level 0) no_log ∷ []

-- the end of a scan for it
abbrev pub clears : (b : ℕ) → List Event
clears b = Calls (flushes_well b) ∷ Clears b ∷ []

-- the resilver of b
abbrev pub resilver : (b hi : ℕ) → Branch → List Event
resilver b hi branch = Scans hi (λ d. b == d)
    ∷ (brings_on b branch 0 ++ (brings_on b branch 1 ++ (brings_on b branch 2 ++ (brings_on b branch 3 ++ clears b))))

-- A group in which a leaf failed, for which a further number was drawn, and which then was suspended.
abbrev pub suspended : Cells → (board : ℕ → Bool) → (d : ℕ) → List Event
suspended cells board d = Freezes cells board ∷ Leaves d ∷ Draws ∷ Burns ∷ []
