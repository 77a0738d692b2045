-- `read` as a row.
use Rattle.std.specs.Prelude.{◌≡◌, ◌⊎◌, ℕ, ◌+◌, ◌<◌, ◌≤◌, ◌==◌, Bool, false, cond, if◌then◌else◌, Option, Some, None, List, [], ◌∷◌, ◌++◌, map}
use Rattle.std.specs.List.{filter}
use Rattle.std.specs.Str.{bytes_eq}
use Rattle.sha2.specs.Sha256.{sha256}
use Rattle.bank_core.specs.Disk.{Call, Read, Write, Noted}
use Rattle.bank_core.specs.Calls.{device_of}
use Rattle.mp_base.specs.Block.{zero_block}
use Rattle.vdev_tree.specs.Leaf.{is_up}
use Rattle.mirror_io.specs.declared.copies.CopyOf.{CopyOf}
use Rattle.mirror_io.specs.Copies.{tries}
use Rattle.mirror_io.specs.Mirror.{IsHealed}
use Rattle.mirror_io.specs.Reads.{IsReads}
use Rattle.txg_history.specs.Pages.{Sum, IsClash}
use Rattle.txg_history.specs.Records.{Cell, key, data_start}
use Rattle.pool_moves.specs.FreezeRow.{is_dev}
use Rattle.pool_moves.specs.Leaves.{OwnLeaf, LeafSeen}
use Rattle.pool_moves.specs.LineRows.{count_up, write_failed}
use Rattle.pool_moves.specs.Moves.{Move, Makes, Sets}
use Rattle.pool_moves.specs.Showing.{LeafShown, leaf_shown}
use Rattle.pool_moves.specs.States.{PoolSeen, PoolState}
use Rattle.pool_moves.specs.Walking.{as_moves}

-- The copy of a block that a leaf has, where it has a device: its leaf owes it or not, and is readable or not.
abbrev pub copy_at : (readable : Bool) → Option ℕ → (lacks : Bool) → CopyOf
copy_at readable None lacks = record { dev = 0; lacks = lacks; readable = false }
copy_at readable (Some d) lacks = record { dev = d; lacks = lacks; readable = readable }

abbrev pub copy_of : (birth : ℕ) → LeafSeen → CopyOf
copy_of birth leaf = copy_at (is_up leaf.own.mode) leaf.dev (leaf.owes birth)

abbrev pub stands_under : (top : ℕ) → LeafSeen → Bool
stands_under top leaf = leaf.top == top

-- the copies of a block on the leaves of its top, in tree order
abbrev pub copies_of : Sum → List LeafSeen → List CopyOf
copies_of sum leaves = map (copy_of sum.birth) (filter (stands_under sum.top) leaves)

-- a leaf of which a read failed, or that gave bytes of another sum
abbrev pub read_failed : OwnLeaf → OwnLeaf
read_failed own = record own {
  counts = record (own.counts) { reads = count_up own.counts.reads };
  faults = cond own.joined (count_up own.faults) own.faults;
}

abbrev pub was_wrong : OwnLeaf → OwnLeaf
was_wrong own = record own { counts = record (own.counts) { mismatches = count_up own.counts.mismatches } }

-- what a call on its device counts
abbrev pub counted_call : (sum : List ℕ) → Call → OwnLeaf → OwnLeaf
counted_call sum (Read dev at bytes None) own = if bytes_eq (sha256 bytes) sum then own else was_wrong own
counted_call sum (Read dev at bytes (Some fault)) own = read_failed own
counted_call sum (Write dev at bytes (Some fault)) own = write_failed own
counted_call sum call own = own

abbrev pub counted_calls : (sum : List ℕ) → Option ℕ → List Noted → OwnLeaf → OwnLeaf
counted_calls sum dev [] own = own
counted_calls sum dev (noted ∷ made) own = counted_calls sum dev made (cond (is_dev (device_of noted.call) dev) (counted_call sum noted.call own) own)

-- each leaf of the top is counted by what its calls showed
abbrev pub count_reads : (sum : List ℕ) → List Noted → List LeafSeen → List Move
count_reads sum made leaves = map (λ leaf. Sets leaf.guid (counted_calls sum leaf.dev made leaf.own)) leaves

-- A read of a key of the record: its copies are read in their order, up to the first that is good; those that gave wrong bytes,
-- and whose leaves don't owe the block, are rewritten; and each leaf of its top is counted by what its calls showed.
pub record RowCopies (s : PoolSeen) (sum : Sum) (vs : List Move) (outcome : Option (List ℕ)) : Type 0 where
  pub reads : List Noted
  pub rewrites : List Noted
  pub wrong : List CopyOf
  pub is_read : IsReads (data_start + sum.sector) sum.sum (tries (copies_of sum s.leaves)) reads wrong outcome
  pub is_healed : IsHealed (data_start + sum.sector) outcome wrong rewrites
  pub moves : vs ≡ as_moves (reads ++ rewrites) ++ count_reads sum.sum (reads ++ rewrites) (filter (stands_under sum.top) s.leaves)

-- What `read` answers. Where no copy is good it tells what each leaf of the block's top showed, in tree order.
pub data ReadReply : Type 0 where
  Gives : (block : List ℕ) → ReadReply
  Exhausted : (shown : List LeafShown) → ReadReply
  NoAddress : (limit : ℕ) → ReadReply

abbrev pub reply_by : (shown : List LeafShown) → Option (List ℕ) → ReadReply
reply_by shown (Some bytes) = Gives bytes
reply_by shown None = Exhausted shown

-- by the record's pointer, where the block is neither an open write nor the frozen group's
abbrev pub ReadRecord : Option Sum → PoolSeen → List Move → ReadReply → Type 0
ReadRecord None s vs reply = (vs ≡ []) × (reply ≡ Gives zero_block)
ReadRecord (Some sum) s vs reply = (outcome : Option (List ℕ)) × (row : RowCopies s sum vs outcome)
    × (reply ≡ reply_by (map (leaf_shown row.reads) (copies_of sum s.leaves)) outcome)

abbrev pub ReadGroup : Option Cell → Option Sum → PoolSeen → List Move → ReadReply → Type 0
ReadGroup (Some cell) sum s vs reply = (vs ≡ []) × (reply ≡ Gives cell.block)
ReadGroup None sum s vs reply = ReadRecord sum s vs reply

abbrev pub ReadOpen : Option (List ℕ) → Option Cell → Option Sum → PoolSeen → List Move → ReadReply → Type 0
ReadOpen (Some block) cell sum s vs reply = (vs ≡ []) × (reply ≡ Gives block)
ReadOpen None cell sum s vs reply = ReadGroup cell sum s vs reply

-- `read`: the open write, else the frozen group's block, else the record's.
abbrev pub RowRead : PoolState → (a : ℕ) → List Move → ReadReply → Type 0
RowRead s a vs reply = ((s.own.blocks ≤ a) × (vs ≡ []) × (reply ≡ NoAddress s.own.blocks))
    ⊎ ((a < s.own.blocks) × ReadOpen (s.own.writes a) (s.core.group.cells (key 0 a)) (s.core.committed (key 0 a)) s.core vs reply)

-- the block that was written last, and the bytes of this very reply, are two with one sum
abbrev pub ClashesWith : (block : List ℕ) → ReadReply → Type 0
ClashesWith block (Gives bytes) = IsClash block bytes
ClashesWith block (Exhausted shown) = ⊥
ClashesWith block (NoAddress limit) = ⊥

-- the device calls among these moves
abbrev pub made_in : List Move → List Noted
made_in [] = []
made_in (Makes noted ∷ vs) = noted ∷ made_in vs
made_in (v ∷ vs) = made_in vs
