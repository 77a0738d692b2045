-- Reads, as replies.
use Rattle.std.proofs.Common.{◌≡◌, ℕ, List, [], Option, Ok, Err, Result, inl, inr, ◌⊎◌, refl}
use Rattle.mp_base.specs.declared.refusal.Refusal.{Refusal}
use Rattle.mp_base.specs.declared.refusal.Refusal.TheVariants as refusals
use Rattle.bank_core.specs.Disk.{Noted}
use Rattle.bank_core.specs.Story.{Story}
use Rattle.bank_core.proofs.Composing.{made_none}
use Rattle.pool_wire.specs.declared.reply.Reply.{Reply}
use Rattle.pool_wire.specs.declared.reply.Reply.TheVariants as replies
use Rattle.pool_core.specs.Clash.{ClashesWith}
use Rattle.pool_core.specs.Done.{IsRead, Reads}
use Rattle.pool_core.specs.Reading.{wanted}
use Rattle.pool_core.specs.State.{PoolState, leaves}
use Rattle.host_machine.specs.Machine.{read_reply}
use Rattle.host_front.specs.Replying.{IsReadRefused, Replies}

abbrev Steps : PoolState → ℕ → List Noted → Reply → Type 0
Steps s a made reply = ((answer : Result (List ℕ) Refusal) × IsRead s a made answer × (reply ≡ read_reply (leaves s) answer))
    ⊎ ((reply ≡ replies.Refused refusals.Memory) ⊎ ClashesWith made (wanted s a))

-- the block
block_steps : (s : PoolState) (a : ℕ) (made : List Noted) (out : List ℕ) → IsRead s a made (Ok out) ⊎ ClashesWith made (wanted s a) → Steps s a made (replies.Data out)
block_steps s a made out (inl is) = inl (Ok out, is, refl)
block_steps s a made out (inr clash) = inr (inr clash)

pub replies_block : {s : PoolState} {a : ℕ} {old new : Option Story} {f g : ℕ → ℕ} (out : List ℕ) → Reads s a old new f g (Ok out) → Replies s a old new f g (replies.Data out)
replies_block {s} {a} out r = record { made = r.made; calls = r.calls; reads = r.reads; step = block_steps s a r.made out r.step }

-- a refusal
refused_steps : (s : PoolState) (a : ℕ) (made : List Noted) (refusal : Refusal) (reply : Reply) → IsReadRefused (leaves s) refusal reply
    → IsRead s a made (Err refusal) ⊎ ClashesWith made (wanted s a) → Steps s a made reply
refused_steps s a made refusal reply (inl e) (inl is) = inl (Err refusal, is, e)
refused_steps s a made refusal reply (inr e) (inl is) = inr (inl e)
refused_steps s a made refusal reply refused (inr clash) = inr (inr clash)

pub replies_refused : {s : PoolState} {a : ℕ} {old new : Option Story} {f g : ℕ → ℕ} {reply : Reply} (refusal : Refusal)
    → IsReadRefused (leaves s) refusal reply → Reads s a old new f g (Err refusal) → Replies s a old new f g reply
replies_refused {s} {a} {reply = reply} refusal refused r = record {
  made = r.made;
  calls = r.calls;
  reads = r.reads;
  step = refused_steps s a r.made refusal reply refused r.step;
}

-- there was no memory
pub replies_memory : {s : PoolState} {a : ℕ} {told : Option Story} {faults : ℕ → ℕ} → Replies s a told told faults faults (replies.Refused refusals.Memory)
replies_memory {told = told} {faults = faults} = record { made = []; calls = made_none told faults; reads = tt; step = inr (inl refl) }
