-- The logs as a record has them.
use Rattle.std.proofs.Common.{◌≡◌, ℕ, ◌≤◌, true, List, subst}
use Rattle.mp_base.specs.declared.range.GroupRange.{GroupRange}
use Rattle.group_set.specs.Groups.{holds}
use Rattle.group_set.specs.Ranges.{ranges_upto}
use Rattle.vdev_tree.specs.declared.vdev.LeafVdev.{LeafVdev}
use Rattle.pool_core.specs.Pairs.{IsLoggedTo}

-- the ranges of a leaf's log are those up to each number that it doesn't pass
pub outlined : (leaf shown : LeafVdev) (ranges : List GroupRange) → shown ≡ leaf
    → ((n : ℕ) → ((g : ℕ) → holds shown.log g ≡ true → g ≤ n) → ranges ≡ ranges_upto (holds shown.log) n)
    → (n : ℕ) → IsLoggedTo n leaf → ranges ≡ ranges_upto (holds leaf.log) n
outlined leaf shown ranges is each n logged =
    subst (λ v. ((g : ℕ) → holds v.log g ≡ true → g ≤ n) → ranges ≡ ranges_upto (holds v.log) n) is (each n) (λ g e. (logged g e).1)
