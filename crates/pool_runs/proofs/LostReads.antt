-- Why a read gives no block: it was written in no group since the record, or the volume has no such block.
use Rattle.std.proofs.Common.{◌≡◌, inl, inr, ℕ, ◌≤◌, List, Option, Some, None, map, refl}
use Rattle.txg_history.specs.Pages.{Sum}
use Rattle.txg_history.specs.Records.{Cell, key}
use Rattle.pool_moves.specs.Moves.{Move}
use Rattle.pool_moves.specs.ReadRow.{Exhausted, NoAddress, reply_by, ReadRecord, ReadGroup, ReadOpen, RowRead}
use Rattle.pool_moves.specs.Showing.{LeafShown}
use Rattle.pool_moves.specs.States.{PoolState}

pub exhausted_unwritten : (s : PoolState) (a : ℕ) (vs : List Move) (shown : List LeafShown) → RowRead s a vs (Exhausted shown)
    → (s.own.writes a ≡ None) × (s.core.group.cells (key 0 a) ≡ None)
exhausted_unwritten s a vs shown (inl out) = absurd (let no = out.2 in cc)
exhausted_unwritten s a vs shown (inr (inside, row)) = written (s.own.writes a) refl row
  where
    frozen : (cell : Option Cell) → s.core.group.cells (key 0 a) ≡ cell → ReadGroup cell (s.core.committed (key 0 a)) s.core vs (Exhausted shown)
        → s.core.group.cells (key 0 a) ≡ None
    frozen None is row = is
    frozen (Some cell) is row = absurd (let no = row.1 in cc)

    written : (block : Option (List ℕ)) → s.own.writes a ≡ block
        → ReadOpen block (s.core.group.cells (key 0 a)) (s.core.committed (key 0 a)) s.core vs (Exhausted shown)
        → (s.own.writes a ≡ None) × (s.core.group.cells (key 0 a) ≡ None)
    written None is row = (is, frozen (s.core.group.cells (key 0 a)) refl row)
    written (Some block) is row = absurd (let no = row.1 in cc)

pub outside_only : (s : PoolState) (a : ℕ) (vs : List Move) (limit : ℕ) → RowRead s a vs (NoAddress limit) → (limit ≡ s.own.blocks) × (s.own.blocks ≤ a)
outside_only s a vs limit (inl out) = (same limit s.own.blocks out.2, out.0)
  where
    same : (m n : ℕ) → NoAddress m ≡ NoAddress n → m ≡ n
    same m n e = cc
outside_only s a vs limit (inr (inside, row)) = absurd (written (s.own.writes a) (s.core.group.cells (key 0 a)) (s.core.committed (key 0 a)) row)
  where
    tells : (shown : List LeafShown) (outcome : Option (List ℕ)) → NoAddress limit ≡ reply_by shown outcome → ⊥
    tells shown None e = cc
    tells shown (Some bytes) e = cc

    recorded : (sum : Option Sum) → ReadRecord sum s.core vs (NoAddress limit) → ⊥
    recorded None row = let no = row.1 in cc
    recorded (Some sum) row = tells (map _ _) row.0 row.2

    written : (block : Option (List ℕ)) (cell : Option Cell) (sum : Option Sum) → ReadOpen block cell sum s.core vs (NoAddress limit) → ⊥
    written (Some block) cell sum row = let no = row.1 in cc
    written None (Some cell) sum row = let no = row.1 in cc
    written None None sum row = recorded sum row
