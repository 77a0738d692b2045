-- What the steps of a pool's calls did.
use Rattle.std.specs.Prelude.{◌≡◌, ℕ, Bool, List, Option, Result}
use Rattle.mp_base.specs.declared.number.Group.{Group}
use Rattle.mp_base.specs.declared.refusal.Refusal.{Refusal}
use Rattle.bank_core.specs.declared.bank.Fault.{Fault}
use Rattle.bank_core.specs.Calls.{Made}
use Rattle.bank_core.specs.Disk.{Noted}
use Rattle.bank_core.specs.Story.{Story}
use Rattle.label_store.specs.declared.member.Member.{Member}
use Rattle.label_store.specs.Rounds.{IsRound}
use Rattle.config_codec.specs.declared.config.LeafConfig.{LeafConfig}
use Rattle.config_codec.specs.Fields.{Fields}
use Rattle.pool_core.specs.Commits.{IsOwnRound, IsRoundBehind}
use Rattle.pool_core.specs.Done.{commit_answer}
use Rattle.pool_core.specs.Opening.{IsLooked}
use Rattle.pool_core.specs.Recorded.{commit_for, commit_of}
use Rattle.pool_core.specs.State.{PoolState, board}

-- The calls of a round of a configuration's record over these members, and which of them ended it.
pub record MakesRoundOf (size : ℕ → ℕ) (c : Fields) (members : List Member) (results : List Bool) (old new : Option Story) (before after : ℕ → ℕ) : Type 0 where
  pub made : List Noted
  pub calls : Made old new before after made
  pub round : IsRound size (commit_for c) members results made

-- The calls of a round of the pool's record, and which leaves ended it.
pub record MakesOwnRound (size : ℕ → ℕ) (s : PoolState) (results : List Bool) (old new : Option Story) (before after : ℕ → ℕ) : Type 0 where
  pub made : List Noted
  pub calls : Made old new before after made
  pub round : IsRound size (commit_of s) (board s) results made

-- The calls of a round of the pool's record, which so many leaves left.
pub record FailsIn (size : ℕ → ℕ) (s : PoolState) (failed : ℕ) (old new : Option Story) (before after : ℕ → ℕ) : Type 0 where
  pub made : List Noted
  pub calls : Made old new before after made
  pub round : IsOwnRound size s made failed

-- A commit was ended: by a round, where no call before it failed.
pub record EndsCommit (size : ℕ → ℕ) (s : PoolState) (outcome : Option Fault) (old new : Option Story) (before after : ℕ → ℕ)
    (answer : Result Group Refusal) : Type 0 where
  pub made : List Noted
  pub failed : ℕ
  pub calls : Made old new before after made
  pub behind : IsRoundBehind size s outcome made failed
  pub answer_is : answer ≡ commit_answer s failed

-- A leaf's identity was looked for on its device, where it has one.
pub record LooksFor (c : Fields) (leaf : LeafConfig) (seat : Option ℕ) (size : ℕ → ℕ) (old new : Option Story) (before after : ℕ → ℕ) (found : Option ℕ) : Type 0 where
  pub made : List Noted
  pub calls : Made old new before after made
  pub looked : IsLooked c leaf seat size made found
