-- The names of the leaves that a block of a host's pool stands on.
use Rattle.std.specs.Prelude.{ℕ, List, [], Option, Some, None}
use Rattle.open_pool.specs.BlockNames as pool
use Rattle.pool_moves.specs.States.{PoolState}
use Rattle.pool_runs.specs.Hosts.{Host, named}

abbrev pub names_in : Option PoolState → (a : ℕ) → List (List ℕ)
names_in None a = []
names_in (Some s) a = pool.names_of_block a s

-- the leaves under the top of the committed block of an address, in the pool of this name
abbrev pub names_of_block : (name : List ℕ) → (a : ℕ) → Host → List (List ℕ)
names_of_block name a h = names_in (named name h.pools) a
