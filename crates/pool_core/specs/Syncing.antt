-- A sync: each block that was written goes to each leaf of the board, in order of address, and then each of
-- these leaves is flushed. Then comes a round of the record of what is committed by it.
use Rattle.std.specs.Prelude.{ℕ, ◌+◌, List, [], ◌++◌, map, Option, Some, None}
use Rattle.std.specs.List.{flat_map}
use Rattle.bank_core.specs.Asks.{Ask, Writes, Flushes}
use Rattle.label_store.specs.declared.member.Member.{Member}
use Rattle.pool_core.specs.Logs.{drawn}
use Rattle.pool_core.specs.Recorded.{addresses}
use Rattle.pool_core.specs.State.{Known, Version, PoolState, board, data_start, other_sector}

-- the block goes to this device sector of each of these leaves, in tree order
abbrev pub writes_to : List Member → ℕ → Option (List ℕ) → List Ask
writes_to members at None = []
writes_to members at (Some block) = map (λ m. Writes m.dev at block) members

abbrev pub writes_at : PoolState → ℕ → List Ask
writes_at s a = writes_to (board s) (data_start + other_sector a (s.committed a)) (s.writes a)

-- each leaf of the board is flushed, in tree order
abbrev pub flush_plan : PoolState → List Ask
flush_plan s = map (λ m. Flushes m.dev) (board s)

-- all that a sync asks before its round
abbrev pub sync_plan : PoolState → List Ask
sync_plan s = flat_map (writes_at s) (addresses s.blocks) ++ flush_plan s

-- the version that an address has behind a sync whose group has this number
abbrev pub next_version : ℕ → ℕ → Option Version → Option (List ℕ) → Option Version
next_version number a committed None = committed
next_version number a committed (Some block) = Some (record { birth = number; sector = other_sector a committed; content = Known block })

-- the state behind a sync: all that was written is committed, and each leaf that was away owes the group
abbrev pub synced : PoolState → PoolState
synced s = record (drawn s) {
  committed = λ a. next_version (s.number + 1) a (s.committed a) (s.writes a);
  writes = λ a. None;
}
