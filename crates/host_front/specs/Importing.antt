-- The opening of a pool whose newest record was found.
use Rattle.std.specs.Prelude.{◌≡◌, ◌⊎◌, ℕ, ◌+◌, ◌≤◌, List, [], Option, Some}
use Rattle.mp_base.specs.declared.refusal.Refusal.TheVariants as refusals
use Rattle.bank_core.specs.Calls.{Made}
use Rattle.bank_core.specs.Disk.{Noted}
use Rattle.bank_core.specs.Story.{Story}
use Rattle.label_store.specs.Newest.{AreReads}
use Rattle.pool_wire.specs.declared.reply.Reply.{Reply}
use Rattle.pool_wire.specs.declared.reply.Reply.TheVariants as replies
use Rattle.config_codec.specs.Fields.{Fields}
use Rattle.pool_core.specs.State.{has_nobody, is_spent}
use Rattle.host_machine.specs.Machine.{HostState, OpensIf, OpensUnless, open_state}
use Rattle.host_front.specs.declared.host.Host.{Host}
use Rattle.host_front.specs.Standing.{Keeps}

-- Devices of two leaves, where there are some: each has room for so many data sectors behind the labels, and they differ.
pub record AreRooms (size : ℕ → ℕ) (sectors : ℕ) (seats : Option ℕ × Option ℕ) : Type 0 where
  pub apart : (d : ℕ) → seats.0 ≡ Some d → seats.1 ≡ Some d → ⊥
  pub first_room : (d : ℕ) → seats.0 ≡ Some d → sectors + 256 ≤ size d
  pub second_room : (d : ℕ) → seats.1 ≡ Some d → sectors + 256 ≤ size d

-- The pool of this configuration was opened, or not, as the machine says; or there was no memory for it, and
-- nothing was written.
pub record OpensFound (h : HostState) (config : List ℕ) (c : Fields) (old new : Option Story) (before after : ℕ → ℕ) (size : ℕ → ℕ) (host : Host) (reply : Reply) : Type 0 where
  pub made : List Noted
  pub next : HostState
  pub calls : Made old new before after made
  pub keeps : Keeps size host next
  pub step : OpensUnless (is_spent c.number.0) h config c made next reply
      ⊎ ((reply ≡ replies.Refused refusals.Memory) × (next ≡ h) × AreReads made)

-- so, with its leaves on these devices, where their identities were found
pub record OpensThere (h : HostState) (config : List ℕ) (c : Fields) (found : Option ℕ × Option ℕ) (old new : Option Story) (before after : ℕ → ℕ) (size : ℕ → ℕ) (host : Host) (reply : Reply) : Type 0 where
  pub made : List Noted
  pub next : HostState
  pub calls : Made old new before after made
  pub keeps : Keeps size host next
  pub step : OpensIf (has_nobody (open_state h config c found)) h (open_state h config c found) made next reply
      ⊎ ((reply ≡ replies.Refused refusals.Memory) × (next ≡ h) × (made ≡ []))
