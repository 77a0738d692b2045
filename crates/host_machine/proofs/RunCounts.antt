-- How the entries of a run end by the counts of their own calls.
use Rattle.std.proofs.Common.{◌≡◌, ◌⊎◌, ℕ, false, List, ◌∷◌, ◌++◌, Some, subst}
use Rattle.mp_base.specs.declared.number.Group.{Group}
use Rattle.mp_base.specs.declared.number.Guid.{Guid}
use Rattle.mp_base.specs.declared.refusal.Refusal.TheVariants as refusals
use Rattle.bank_core.specs.Calls.{AllCaused}
use Rattle.bank_core.specs.Disk.{Noted}
use Rattle.bank_core.proofs.Composing.{caused_split}
use Rattle.pool_wire.specs.declared.reply.Reply.TheVariants as replies
use Rattle.pool_wire.specs.declared.request.Request.TheVariants as requests
use Rattle.pool_core.specs.State.{PoolState, is_spent}
use Rattle.host_machine.specs.Answering.{SomeRose, SuspendsByCounts, CommitsByCounts, CreatesByCounts, OnlinesByCounts}
use Rattle.host_machine.specs.Devices.{number_in}
use Rattle.host_machine.specs.Machine.{HostState, Entry, Step, Replay, is_bad_size, new_seats, named_pool}
use Rattle.host_machine.specs.Runs.{EndsByCounts, EndByCounts}
use Rattle.host_machine.proofs.Running.{entry_of}

-- the laws of one line
pub record CountLaws : Type 0 where
  pub suspends : (h : HostState) (entry : Entry) (made : List Noted) (next : HostState) (name : List ℕ) (s : PoolState) (before after : ℕ → ℕ) → Step h entry made next
      → entry.asked ≡ Some (requests.Sync name) → named_pool name h.pool ≡ Some s → is_spent s.number ≡ false → AllCaused made before after → SuspendsByCounts s before after entry.reply
  pub commits : (h : HostState) (entry : Entry) (made : List Noted) (next : HostState) (name : List ℕ) (s : PoolState) (before after : ℕ → ℕ) → Step h entry made next
      → entry.asked ≡ Some (requests.Sync name) → named_pool name h.pool ≡ Some s → is_spent s.number ≡ false → AllCaused made before after → CommitsByCounts s before after entry.reply
  pub creates : (h : HostState) (entry : Entry) (made : List Noted) (next : HostState) (name : List ℕ) (blocks : ℕ) (first second : List ℕ) (seats : ℕ × ℕ) (before after : ℕ → ℕ)
      → Step h entry made next → entry.asked ≡ Some (requests.Create name blocks first second) → is_bad_size blocks ≡ false → new_seats h blocks first second ≡ Some seats
      → AllCaused made before after → CreatesByCounts first second seats before after entry.reply
  pub imports : (h : HostState) (entry : Entry) (made : List Noted) (next : HostState) (name : List ℕ) (before after : ℕ → ℕ) (group : Group) (top : Guid) (faults : ℕ)
      → Step h entry made next → entry.asked ≡ Some (requests.Import name) → entry.reply ≡ replies.Refused (refusals.Suspended group top faults)
      → AllCaused made before after → (faults ≡ 0) ⊎ SomeRose before after
  pub onlines : (h : HostState) (entry : Entry) (made : List Noted) (next : HostState) (name device : List ℕ) (dev : ℕ) (before after : ℕ → ℕ) → Step h entry made next
      → entry.asked ≡ Some (requests.Online name device) → number_in device h.table ≡ Some dev → AllCaused made before after → OnlinesByCounts dev before after entry.reply

entry_ends : CountLaws → (h : HostState) (entries : List Entry) (calls : List Noted) (next : HostState) (start end : ℕ → ℕ) → Replay h entries calls next → AllCaused calls start end
    → (before : List Entry) (entry : Entry) (after : List Entry) → entries ≡ before ++ entry ∷ after → EndsByCounts h before entry after calls next start end
entry_ends laws h entries calls next start end replay caused before entry after e =
    let at = entry_of h before entry after calls next (subst (λ es. Replay h es calls next) e replay) in
    let front = caused_split at.first (at.made ++ at.rest) start end (subst (λ cs. AllCaused cs start end) at.all caused) in
    let mine = caused_split at.made at.rest front.0 end front.2 in
    record {
      at = at;
      from = front.0;
      to = mine.0;
      earlier = front.1;
      caused = mine.1;
      later = mine.2;
      syncs = λ name s asked named open_numbers. (
        laws.suspends at.old entry at.made at.new name s front.0 mine.0 at.step asked named open_numbers mine.1,
        laws.commits at.old entry at.made at.new name s front.0 mine.0 at.step asked named open_numbers mine.1,
      );
      creates = λ name blocks one other seats asked good found.
          laws.creates at.old entry at.made at.new name blocks one other seats front.0 mine.0 at.step asked good found mine.1;
      imports = λ name group top faults asked reply. laws.imports at.old entry at.made at.new name front.0 mine.0 group top faults at.step asked reply mine.1;
      onlines = λ name device dev asked number. laws.onlines at.old entry at.made at.new name device dev front.0 mine.0 at.step asked number mine.1;
    }

pub entries_end : CountLaws → (h : HostState) (entries : List Entry) (calls : List Noted) (next : HostState) (start end : ℕ → ℕ) → Replay h entries calls next
    → AllCaused calls start end → EndByCounts h entries calls next start end
entries_end laws h entries calls next start end replay caused = record { each = entry_ends laws h entries calls next start end replay caused }
