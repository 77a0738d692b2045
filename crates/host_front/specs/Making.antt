-- The making of a pool on two devices.
use Rattle.std.specs.Prelude.{◌≡◌, ◌≢◌, ◌⊎◌, ℕ, ◌≤◌, List, [], Option}
use Rattle.mp_base.specs.declared.refusal.Refusal.TheVariants as refusals
use Rattle.bank_core.specs.Calls.{Made}
use Rattle.bank_core.specs.Disk.{Noted}
use Rattle.bank_core.specs.Story.{Story}
use Rattle.pool_wire.specs.declared.reply.Reply.{Reply}
use Rattle.pool_wire.specs.declared.reply.Reply.TheVariants as replies
use Rattle.pool_core.specs.Commits.{AreMade}
use Rattle.pool_core.specs.State.{LeafState, PoolState}
use Rattle.host_machine.specs.Machine.{HostState, create_outcome}
use Rattle.host_front.specs.declared.host.Host.{Host}
use Rattle.host_front.specs.Standing.{Keeps}

-- Two devices with two names, each with room for the labels.
pub record AreTwoSeats (size : ℕ → ℕ) (first second : List ℕ) (dev other : ℕ) : Type 0 where
  pub two_names : first ≢ second
  pub two_devices : dev ≢ other
  pub first_room : 320 ≤ size dev
  pub second_room : 320 ≤ size other

-- The pool of this state was made, or not, as the machine says; or there was no memory for it, and no device was asked.
pub record MakesPool (h : HostState) (s : PoolState) (seats : ℕ × ℕ) (old new : Option Story) (before after : ℕ → ℕ) (size : ℕ → ℕ) (host : Host) (reply : Reply) : Type 0 where
  pub made : List Noted
  pub next : HostState
  pub calls : Made old new before after made
  pub keeps : Keeps size host next
  pub step : ((failed : Option LeafState) × AreMade h.size s seats made failed × ((next, reply) ≡ create_outcome h s failed))
      ⊎ ((reply ≡ replies.Refused refusals.Memory) × (next ≡ h) × (made ≡ []))
