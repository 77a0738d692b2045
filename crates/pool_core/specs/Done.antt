-- What the calls of a pool did, against its abstract state.
use Rattle.std.specs.Prelude.{◌≡◌, ℕ, ◌+◌, ◌*◌, ◌⊎◌, Bool, true, false, zero, suc, List, [], length, map, Option, Some, None, Result, Ok, Err}
use Rattle.mp_base.specs.declared.range.GroupRange.{GroupRange}
use Rattle.group_set.specs.Ranges.{ranges_upto}
use Rattle.vdev_tree.specs.declared.vdev.State.{State}
use Rattle.pool_core.specs.Away.{IsOnline}
use Rattle.mp_base.specs.declared.number.Group.{Group}
use Rattle.mp_base.specs.declared.refusal.Refusal.{Refusal}
use Rattle.mp_base.specs.declared.refusal.Refusal.TheVariants as refusals
use Rattle.bank_core.specs.Disk.{Noted}
use Rattle.bank_core.specs.Story.{Story}
use Rattle.bank_core.specs.Calls.{Made}
use Rattle.bank_core.specs.Asks.{asks_of}
use Rattle.label_store.specs.declared.found.Found.{Found}
use Rattle.label_store.specs.Newest.{Parts, IsLook, IsBest, AreReads}
use Rattle.config_codec.specs.declared.config.Config.{Config}
use Rattle.config_codec.specs.Fields.{Fields, config_fields}
use Rattle.config_codec.specs.Reading.{config_in}
use Rattle.pool_core.specs.declared.pool.Pool.{Pool}
use Rattle.pool_core.specs.Clash.{ClashesWith}
use Rattle.pool_core.specs.Commits.{IsCommit}
use Rattle.pool_core.specs.Heads.{head_of}
use Rattle.pool_core.specs.Keeping.{Represents}
use Rattle.pool_core.specs.Logs.{drawn}
use Rattle.pool_core.specs.Opening.{IsIdentified}
use Rattle.pool_core.specs.Outside.{troubles, last_given}
use Rattle.pool_core.specs.Reading.{wanted, read_asks, read_answer}
use Rattle.pool_core.specs.State.{LeafState, PoolState, leaves, last_number}
use Rattle.pool_core.specs.Syncing.{sync_plan, flush_plan, synced}

-- These calls are those of a read, and this is its answer, by what came from outside.
pub record IsRead (s : PoolState) (a : ℕ) (made : List Noted) (answer : Result (List ℕ) Refusal) : Type 0 where
  pub asks : asks_of made ≡ read_asks s a (troubles (wanted s a) made)
  pub answer_is : answer ≡ read_answer s a (troubles (wanted s a) made) (last_given made)

-- A read, up to a clash of sums.
pub record Reads (s : PoolState) (a : ℕ) (old new : Option Story) (before after : ℕ → ℕ) (answer : Result (List ℕ) Refusal) : Type 0 where
  pub made : List Noted
  pub calls : Made old new before after made
  pub reads : AreReads made
  pub step : IsRead s a made answer ⊎ ClashesWith made (wanted s a)

-- A commit's answer: its group's number where no call failed.
abbrev pub commit_answer : PoolState → (failed : ℕ) → Result Group Refusal
commit_answer s zero = Ok (record { 0 = s.number })
commit_answer s (suc n) = Err (refusals.Suspended (record { 0 = s.number }) s.mirror (suc n))

-- the group that would be drawn next has no leaf to be written to
abbrev pub no_leaf : PoolState → Refusal
no_leaf s = refusals.Suspended (record { 0 = s.number + 1 }) s.mirror 0

-- no call was made, and the pool is as it was
abbrev pub Refuses : PoolState → (old new : Option Story) → (before after : ℕ → ℕ) → Pool → Result Group Refusal → Refusal → Type 0
Refuses s old new before after pool answer refusal = Made old new before after [] × Represents pool s × (answer ≡ Err refusal)

-- A sync of a pool that has numbers left and a leaf on its board. Where a call failed, the pool is of no further use.
pub record Syncs (size : ℕ → ℕ) (s : PoolState) (old new : Option Story) (before after : ℕ → ℕ) (pool : Pool) (answer : Result Group Refusal) : Type 0 where
  pub made : List Noted
  pub failed : ℕ
  pub calls : Made old new before after made
  pub commit : IsCommit size (sync_plan s) (synced s) made failed
  pub answer_is : answer ≡ commit_answer (synced s) failed
  pub represents : failed ≡ 0 → Represents pool (synced s)

-- so, or there was no memory; or the numbers are spent, or no leaf is readable
abbrev pub SyncsIf : (spent empty : Bool) → (size : ℕ → ℕ) → PoolState → (old new : Option Story) → (before after : ℕ → ℕ) → Pool → Result Group Refusal → Type 0
SyncsIf true empty size s old new before after pool answer = Refuses s old new before after pool answer (refusals.TreeFull last_number (s.number + 1))
SyncsIf false true size s old new before after pool answer = Refuses s old new before after pool answer (no_leaf s)
SyncsIf false false size s old new before after pool answer =
    Syncs size s old new before after pool answer ⊎ Refuses s old new before after pool answer refusals.Memory

-- `online` of this leaf, where there is one, made these calls, and this is what it left and answered.
pub record Onlines (size : ℕ → ℕ) (s : PoolState) (leaf : Option LeafState) (dev : ℕ) (old new : Option Story) (before after : ℕ → ℕ) (pool : Pool) (answer : Result State Refusal) : Type 0 where
  pub made : List Noted
  pub next : PoolState
  pub calls : Made old new before after made
  pub onlines : IsOnline size s leaf dev made next answer
  pub represents : Represents pool next

-- The logs as they are shown, each leaf's with its name.
abbrev pub shown_logs : PoolState → List (List ℕ × List GroupRange)
shown_logs s = map (λ leaf. (leaf.name, ranges_upto leaf.owes s.number)) (leaves s)

-- the configuration of the record that was found
abbrev pub IsConfigOf : Option Found → Option Config → Type 0
IsConfigOf None None = Unit {0}
IsConfigOf (Some found) (Some config) = config_in found.blob.items ≡ Some (config_fields config)
IsConfigOf None (Some config) = ⊥
IsConfigOf (Some found) None = ⊥

-- The labels of these devices were read, and this is the configuration of the newest record of the name.
pub record Seeks (size : ℕ → ℕ) (devs : List ℕ) (name : List ℕ) (old new : Option Story) (before after : ℕ → ℕ) (config : Option Config) : Type 0 where
  pub made : List Noted
  pub calls : Made old new before after made
  pub looks : List Parts
  pub look : IsLook size devs looks made
  pub best : Option Found
  pub is_best : IsBest head_of looks name (128 * length devs) best
  pub is_config : IsConfigOf best config

-- The identities of a configuration's leaves were looked for on these devices.
pub record Identifies (size : ℕ → ℕ) (c : Fields) (seats : Option ℕ × Option ℕ) (old new : Option Story) (before after : ℕ → ℕ) (found : Option ℕ × Option ℕ) : Type 0 where
  pub made : List Noted
  pub calls : Made old new before after made
  pub identified : IsIdentified size c seats found made

-- the pool that was opened, or the refusal
abbrev pub IsOpened : PoolState → (failed : ℕ) → Result Pool Refusal → Type 0
IsOpened s zero (Ok pool) = Represents pool s
IsOpened s zero (Err refusal) = ⊥
IsOpened s (suc n) (Ok pool) = ⊥
IsOpened s (suc n) (Err refusal) = refusal ≡ refusals.Suspended (record { 0 = s.number }) s.mirror (suc n)

-- The record of this state was committed again over its board, by flushes and a round under the next number.
pub record Opens (size : ℕ → ℕ) (s : PoolState) (old new : Option Story) (before after : ℕ → ℕ) (result : Result Pool Refusal) : Type 0 where
  pub made : List Noted
  pub failed : ℕ
  pub calls : Made old new before after made
  pub commit : IsCommit size (flush_plan s) (drawn s) made failed
  pub is_opened : IsOpened (drawn s) failed result

-- no call was made, and there is no pool
abbrev pub RefusesOpening : (old new : Option Story) → (before after : ℕ → ℕ) → Result Pool Refusal → Refusal → Type 0
RefusesOpening old new before after result refusal = (result ≡ Err refusal) × Made old new before after []

-- so, or there was no memory; or no leaf is readable
abbrev pub OpensIf : (empty : Bool) → (size : ℕ → ℕ) → PoolState → (old new : Option Story) → (before after : ℕ → ℕ) → Result Pool Refusal → Type 0
OpensIf true size s old new before after result = RefusesOpening old new before after result (no_leaf s)
OpensIf false size s old new before after result =
    Opens size s old new before after result ⊎ RefusesOpening old new before after result refusals.Memory
