-- The names of the leaves that a block of the record stands on.
use Rattle.std.specs.Prelude.{ℕ, List, [], map, Option, Some, None}
use Rattle.std.specs.List.{filter}
use Rattle.txg_history.specs.Pages.{Sum}
use Rattle.txg_history.specs.Records.{key}
use Rattle.pool_moves.specs.Leaves.{LeafSeen}
use Rattle.pool_moves.specs.ReadRow.{stands_under}
use Rattle.pool_moves.specs.States.{PoolState}

-- the names of the leaves under a pointer's top, in tree order; a block without a pointer has none
abbrev pub names_under : Option Sum → List LeafSeen → List (List ℕ)
names_under None leaves = []
names_under (Some sum) leaves = map (λ leaf. leaf.own.name) (filter (stands_under sum.top) leaves)

-- the names of the leaves under the top of the committed block of an address
abbrev pub names_of_block : (a : ℕ) → PoolState → List (List ℕ)
names_of_block a s = names_under (s.core.committed (key 0 a)) s.core.leaves
