-- A leaf that comes back by a line.
use Rattle.std.specs.Prelude.{◌≡◌, ◌⊎◌, ℕ, List, [], Option, Some, None, Result}
use Rattle.mp_base.specs.declared.refusal.Refusal.{Refusal}
use Rattle.mp_base.specs.declared.refusal.Refusal.TheVariants as refusals
use Rattle.bank_core.specs.Calls.{Made}
use Rattle.bank_core.specs.Disk.{Noted}
use Rattle.bank_core.specs.Story.{Story}
use Rattle.vdev_tree.specs.declared.vdev.State.{State}
use Rattle.pool_wire.specs.declared.reply.Reply.{Reply}
use Rattle.pool_wire.specs.declared.reply.Reply.TheVariants as replies
use Rattle.pool_core.specs.declared.pool.Pool.{Pool}
use Rattle.pool_core.specs.Away.{leaf_named, OnlinesLeaf}
use Rattle.pool_core.specs.Keeping.{Represents}
use Rattle.pool_core.specs.State.{LeafState, PoolState, leaves}
use Rattle.host_machine.specs.Machine.{online_reply}

-- by whether a leaf has the name, and whether its device was found
abbrev pub IsBrought : PoolState → Option LeafState → (dev : Option ℕ) → (size : ℕ → ℕ) → List Noted → PoolState → Reply → Type 0
IsBrought s None dev size made next reply = (made ≡ []) × (next ≡ s) × (reply ≡ replies.Refused refusals.NoVdev)
IsBrought s (Some leaf) None size made next reply = (made ≡ []) × (next ≡ s) × (reply ≡ replies.NoDevice leaf.name)
IsBrought s (Some leaf) (Some dev) size made next reply =
    (result : Result State Refusal) × OnlinesLeaf size s leaf dev made next result × (reply ≡ online_reply leaf result)

-- The leaf of this name came back, or not, as the machine says; or there was no memory, and no call was made.
pub record BringsBack (s : PoolState) (name : List ℕ) (dev : Option ℕ) (size : ℕ → ℕ) (old new : Option Story) (before after : ℕ → ℕ) (pool : Pool) (reply : Reply) : Type 0 where
  pub made : List Noted
  pub next : PoolState
  pub calls : Made old new before after made
  pub represents : Represents pool next
  pub step : IsBrought s (leaf_named name (leaves s)) dev size made next reply
      ⊎ ((reply ≡ replies.Refused refusals.Memory) × (next ≡ s) × (made ≡ []))
