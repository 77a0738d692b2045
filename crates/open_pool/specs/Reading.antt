-- What a read answers.
use Rattle.std.specs.Prelude.{◌≡◌, ℕ, ◌+◌, Bool, true, false, List, ◌++◌, map, Option, Some, None, is_some, Result, Ok, Err, slice_get}
use Rattle.mp_base.specs.declared.place.Pointer.{Pointer}
use Rattle.bank_core.specs.BankView.{BankView}
use Rattle.bank_core.specs.Calls.{Makes}
use Rattle.bank_core.specs.Disk.{Noted}
use Rattle.vdev_tree.specs.declared.vdev.LeafVdev.{LeafVdev}
use Rattle.mirror_io.specs.declared.copies.CopyOf.{CopyOf}
use Rattle.mirror_io.specs.Copies.{tries}
use Rattle.mirror_io.specs.Mirror.{IsHealed}
use Rattle.mirror_io.specs.Reads.{IsReads}
use Rattle.mirror_io.specs.Seen.{copy_seen}
use Rattle.mirror_io.specs.declared.copies.CopySeen.{CopySeen}
use Rattle.mirror_io.specs.declared.copies.CopySeen.TheVariants as seen
use Rattle.pool_moves.specs.ReadRow.{ReadReply, Gives, Exhausted, NoAddress}
use Rattle.pool_moves.specs.Showing.{LeafShown, Unreadable, ReadFailed, Mismatched}
use Rattle.txg_engine.specs.Writes.{block_at}
use Rattle.txg_engine.specs.Frozen.{FrozenGroup}
use Rattle.txg_engine.specs.Items.{frozen_block}
use Rattle.open_pool.specs.declared.read.ReadFault.{ReadFault}
use Rattle.open_pool.specs.declared.read.ReadFault.TheVariants as fault
use Rattle.open_pool.specs.Copies.{copies_on}
use Rattle.open_pool.specs.Counting.{counts_of, counted_tops, counted_groups}
use Rattle.open_pool.specs.Parts.{TopParts, PoolParts}
use Rattle.open_pool.specs.State.{leaves_under}

-- what is said of a copy of a block of which none is good, by what its leaf showed
abbrev pub seen_as : LeafShown → CopySeen
seen_as Unreadable = seen.NotReadable
seen_as ReadFailed = seen.Failed
seen_as Mismatched = seen.Mismatch

abbrev pub read_says : ReadReply → Result (List ℕ) ReadFault
read_says (Gives block) = Ok block
read_says (Exhausted shown) = Err (fault.Exhausted (map seen_as shown))
read_says (NoAddress limit) = Err (fault.BadAddress limit)

-- by whether a copy was good, and what each showed
abbrev pub answer_by : (served : Bool) → List CopySeen → Result (Unit {0}) ReadFault
answer_by true shown = Ok tt
answer_by false shown = Err (fault.Exhausted shown)

-- the answer of a read of copies, by the block that was good
abbrev pub answer_of : Option (List ℕ) → List CopySeen → Result (List ℕ) ReadFault
answer_of (Some block) shown = Ok block
answer_of None shown = Err (fault.Exhausted shown)

-- what is answered, and the bytes with it at Ok
abbrev pub answered : List ℕ → Result (Unit {0}) ReadFault → Result (List ℕ) ReadFault
answered out (Ok done) = Ok out
answered out (Err fault) = Err fault

-- a frozen group's block of an address, and that of a pool's groups: the open write, else the frozen one
abbrev pub block_in : Option FrozenGroup → ℕ → Option (List ℕ)
block_in None a = None
block_in (Some group) a = frozen_block group.items a

abbrev pub first_of : Option (List ℕ) → Option (List ℕ) → Option (List ℕ)
first_of (Some block) other = Some block
first_of None other = other

abbrev pub uncommitted : PoolParts → ℕ → Option (List ℕ)
uncommitted p a = first_of (block_at p.unfrozen.writes a) (block_in p.frozen a)

abbrev pub seen_on : (sum : List ℕ) → List Noted → (birth : ℕ) → List LeafVdev → List CopySeen
seen_on sum made birth under = map (copy_seen sum made) (copies_on birth under)

-- A read of the block of a pointer from the copies on its top's leaves, with just these calls; what each leaf showed is counted.
pub record ReadsAt (pointer : Pointer) (old new : List TopParts) (was is : Option FrozenGroup) (answer : Result (List ℕ) ReadFault) (from to : BankView)
    : Type 0 where
  pub under : List LeafVdev
  pub there : slice_get (leaves_under old) pointer.place.top ≡ Some under
  pub reads : List Noted
  pub rewrites : List Noted
  pub wrong : List CopyOf
  pub outcome : Option (List ℕ)
  pub calls : Makes (reads ++ rewrites) from to
  pub is_read : IsReads (128 + pointer.place.sector) pointer.sum (tries (copies_on pointer.birth.0 under)) reads wrong outcome
  pub is_healed : IsHealed (128 + pointer.place.sector) outcome wrong rewrites
  pub tops : new ≡ counted_tops (counts_of (is_some outcome) under (copies_on pointer.birth.0 under)
      (seen_on pointer.sum (reads ++ rewrites) pointer.birth.0 under)) old
  pub group : is ≡ counted_groups (counts_of (is_some outcome) under (copies_on pointer.birth.0 under)
      (seen_on pointer.sum (reads ++ rewrites) pointer.birth.0 under)) was
  pub says : answer ≡ answer_of outcome (seen_on pointer.sum (reads ++ rewrites) pointer.birth.0 under)
