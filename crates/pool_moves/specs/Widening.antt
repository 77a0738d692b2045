-- Logs that have too many ranges together, and how they are widened.
use Rattle.std.specs.Prelude.{◌≡◌, ℕ, ◌+◌, ◌<◌, ◌≤◌, Bool, true, false, cond, nat_lt, Option, Some, None, List, [], ◌∷◌, ◌++◌, length}
use Rattle.mp_base.specs.declared.number.Guid.{Guid}
use Rattle.group_set.specs.Ranges.{ranges_upto}
use Rattle.pool_moves.specs.Leaves.{LeafSeen}
use Rattle.label_store.specs.declared.member.Member.{Member}
use Rattle.pool_moves.specs.Moves.{Move, Leave, Widen, step}
use Rattle.pool_moves.specs.States.{PoolSeen}

-- how many ranges a leaf's log has, and how many the logs of these leaves have together, by the highest number drawn
abbrev pub ranges_in : (number : ℕ) → LeafSeen → ℕ
ranges_in number leaf = length (ranges_upto leaf.owes number)

abbrev pub ranges_together : (number : ℕ) → List LeafSeen → ℕ
ranges_together number [] = 0
ranges_together number (leaf ∷ leaves) = ranges_in number leaf + ranges_together number leaves

-- the leaf whose log has the most ranges, the first of them in tree order
abbrev pub widest_of : (number : ℕ) → LeafSeen → List LeafSeen → LeafSeen
widest_of number best [] = best
widest_of number best (leaf ∷ leaves) = widest_of number (cond (nat_lt (ranges_in number best) (ranges_in number leaf)) leaf best) leaves

abbrev pub widest : (number : ℕ) → List LeafSeen → Option LeafSeen
widest number [] = None
widest number (leaf ∷ leaves) = Some (widest_of number leaf leaves)

-- A log's least and greatest group.
pub record IsSpanned (log : ℕ → Bool) (low high : ℕ) : Type 0 where
  pub low_in : log low ≡ true
  pub high_in : log high ≡ true
  pub inside : (g : ℕ) → log g ≡ true → (low ≤ g) × (g ≤ high)

-- The log with the most ranges becomes one range, from its least to its greatest group.
pub record IsWidening (s : PoolSeen) (m : Guid) (low high : ℕ) : Type 0 where
  pub leaf : LeafSeen
  pub most : widest s.number s.leaves ≡ Some leaf
  pub number_is : leaf.guid ≡ m
  pub spans : IsSpanned leaf.owes low high

-- While the logs have more than 4,096 ranges together, one is widened.
abbrev pub AreWidens : PoolSeen → List Move → Type 0
AreWidens s [] = ranges_together s.number s.leaves ≤ 4096
AreWidens s (Widen m low high ∷ vs) = (4096 < ranges_together s.number s.leaves) × IsWidening s m low high × AreWidens (step (Widen m low high) s) vs
AreWidens s (v ∷ vs) = ⊥

-- what is seen behind some moves
abbrev pub seen_along : List Move → PoolSeen → PoolSeen
seen_along [] s = s
seen_along (v ∷ vs) s = seen_along vs (step v s)

-- A move that makes logs grow, and the widenings behind it.
pub record IsWidened (s : PoolSeen) (v : Move) (vs : List Move) : Type 0 where
  pub widens : List Move
  pub are : AreWidens (step v s) widens
  pub moves : vs ≡ v ∷ widens

-- Each member whose call failed leaves the board, and logs are widened behind each of them.
abbrev pub AreLeaves : PoolSeen → List Member → (results : List Bool) → List Move → Type 0
AreLeaves s [] results vs = vs ≡ []
AreLeaves s (m ∷ ms) [] vs = vs ≡ []
AreLeaves s (m ∷ ms) (true ∷ results) vs = AreLeaves s ms results vs
AreLeaves s (m ∷ ms) (false ∷ results) vs = (first : List Move) × (rest : List Move) × (vs ≡ first ++ rest) × IsWidened s (Leave m.dev) first
    × AreLeaves (seen_along first s) ms results rest
