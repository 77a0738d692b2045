-- Why a group isn't frozen.
use Rattle.std.specs.Prelude.{◌≡◌, ℕ, ◌<◌, false, List, length, Option, Some, None, slice_get}
use Rattle.mp_base.specs.declared.number.Group.{Group}
use Rattle.block_map.specs.Map.{Map}
use Rattle.vdev_tree.specs.declared.top.Top.{Top}
use Rattle.txg_engine.specs.declared.freezing.FreezeFault.{FreezeFault}
use Rattle.txg_engine.specs.declared.freezing.FreezeFault.TheVariants as fault
use Rattle.txg_engine.specs.declared.write.Write.{Write}
use Rattle.txg_engine.specs.Boards.{seats_of, emptied}
use Rattle.txg_engine.specs.Freezing.{IsFreeze, dirty_keys}
use Rattle.txg_engine.specs.Frozen.{FrozenGroup, one_number}
use Rattle.txg_engine.specs.Turns.{numbers_of}

-- the first top without a leaf that may be written
abbrev pub unwritable : List Top → Option ℕ
unwritable tops = emptied (length tops) (seats_of 0 tops)

-- how many places the blocks and the pages above them need
abbrev pub need : List Write → ℕ
need writes = length (dirty_keys writes)

-- The cause of each refusal. Want of memory has none.
abbrev pub IsCause : List Write → Map → List Top → FreezeFault → Type 0
IsCause writes old tops (fault.NoBoard number) =
    (top : ℕ) × (unwritable tops ≡ Some top) × (slice_get (numbers_of tops) top ≡ Some number)
IsCause writes old tops (fault.NoRoom needed free) =
    (unwritable tops ≡ None) × (needed ≡ need writes) × (free ≡ old.count) × (free < needed)
IsCause writes old tops fault.Memory = Unit {0}

-- A group that was just frozen.
pub record BeginsGroup (number : Group) (writes : List Write) (old new : Map) (tops : List Top) (group : FrozenGroup) : Type 0 where
  pub numbers : group.numbers ≡ one_number number
  pub unwritten : group.written ≡ 0
  pub unflushed : group.flushed ≡ false
  pub unbegun : group.begun ≡ false
  pub unacked : group.acked ≡ false
  pub board : group.board ≡ seats_of 0 tops
  pub everywhere : unwritable tops ≡ None
  pub freeze : IsFreeze number.0 old new writes group.items
