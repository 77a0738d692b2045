-- A read of a pool, as a reply.
use Rattle.std.specs.Prelude.{◌≡◌, ◌⊎◌, ℕ, List, Option, Result, Err}
use Rattle.mp_base.specs.declared.refusal.Refusal.{Refusal}
use Rattle.mp_base.specs.declared.refusal.Refusal.TheVariants as refusals
use Rattle.bank_core.specs.Calls.{Made}
use Rattle.bank_core.specs.Disk.{Noted}
use Rattle.bank_core.specs.Story.{Story}
use Rattle.label_store.specs.Newest.{AreReads}
use Rattle.pool_wire.specs.declared.reply.Reply.{Reply}
use Rattle.pool_wire.specs.declared.reply.Reply.TheVariants as replies
use Rattle.pool_core.specs.Clash.{ClashesWith}
use Rattle.pool_core.specs.Done.{IsRead}
use Rattle.pool_core.specs.Reading.{wanted}
use Rattle.pool_core.specs.State.{LeafState, PoolState, leaves}
use Rattle.host_machine.specs.Machine.{read_reply}

-- the reply to a refused read, for which there may be no memory
abbrev pub IsReadRefused : List LeafState → Refusal → Reply → Type 0
IsReadRefused leaves refusal reply = (reply ≡ read_reply leaves (Err refusal)) ⊎ (reply ≡ replies.Refused refusals.Memory)

-- A read of a pool was answered by what its calls gave, or there was no memory, or wrong bytes passed by their sum.
pub record Replies (s : PoolState) (a : ℕ) (old new : Option Story) (before after : ℕ → ℕ) (reply : Reply) : Type 0 where
  pub made : List Noted
  pub calls : Made old new before after made
  pub reads : AreReads made
  pub step : ((answer : Result (List ℕ) Refusal) × IsRead s a made answer × (reply ≡ read_reply (leaves s) answer))
      ⊎ ((reply ≡ replies.Refused refusals.Memory) ⊎ ClashesWith made (wanted s a))
