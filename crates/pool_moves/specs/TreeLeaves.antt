-- The trees of a state and its list of leaves tell of the same leaves.
use Rattle.std.specs.Prelude.{◌≡◌, ℕ, ◌==◌, false, cond, List, [], ◌∷◌, map}
use Rattle.std.specs.List.{AllByRecursion}
use Rattle.mp_base.specs.declared.number.Guid.{Guid}
use Rattle.pool_moves.specs.Leaves.{LeafSeen}
use Rattle.pool_moves.specs.Moves.{Move, Comes, Goes, Returns, Shapes}
use Rattle.pool_moves.specs.States.{PoolState}
use Rattle.pool_moves.specs.Trees.{same_number, tree_leaves}

-- the numbers of the leaves under a top, in the order of the list
abbrev pub numbers_under : (top : ℕ) → List LeafSeen → List Guid
numbers_under top [] = []
numbers_under top (leaf ∷ leaves) = cond (leaf.top == top) (leaf.guid ∷ numbers_under top leaves) (numbers_under top leaves)

-- no two of these numbers are one
abbrev pub AreDifferent : List Guid → Type 0
AreDifferent [] = Unit {0}
AreDifferent (m ∷ ms) = AllByRecursion (λ n. same_number m n ≡ false) ms × AreDifferent ms

-- The leaves of each tree, in tree order, are those of the list under its top; and no two leaves have one number.
pub record AreTreeLeaves (s : PoolState) : Type 0 where
  pub tree : (top : ℕ) → tree_leaves (s.own.children top) ≡ numbers_under top s.core.leaves
  pub different : AreDifferent (map (λ leaf. leaf.guid) s.core.leaves)

-- The move brings no leaf, takes none, and changes no tree.
abbrev pub IsCalm : Move → Type 0
IsCalm (Comes i d m top own) = ⊥
IsCalm (Goes i) = ⊥
IsCalm (Returns i seat leaf) = ⊥
IsCalm (Shapes top children) = ⊥
IsCalm v = Unit {0}
