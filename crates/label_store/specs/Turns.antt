-- What a bank did in a phase of a round.
use Rattle.std.specs.Prelude.{ℕ, Bool, List}
use Rattle.bank_core.specs.Asks.{Ask}
use Rattle.bank_core.specs.BankView.{BankView}
use Rattle.bank_core.specs.Calls.{Makes}
use Rattle.bank_core.specs.Disk.{Noted}
use Rattle.label_store.specs.declared.member.Member.{Member}
use Rattle.label_store.specs.declared.round.Phase.{Phase}
use Rattle.label_store.specs.declared.round.Phase.TheVariants as phase
use Rattle.label_store.specs.declared.round.Round.{Round}
use Rattle.label_store.specs.Phases.{IsTurn, IsPhase}
use Rattle.label_store.specs.Rounds.{Commit, IsRound, first_plan, second_plan, third_plan}

abbrev pub commit_of : Round → Commit
commit_of round = record { pool = round.pool; number = round.number; blob = round.blob.now; length = round.config_bytes }

abbrev pub plan_of : Phase → (ℕ → ℕ) → Commit → Member → List Ask
plan_of phase.First size commit m = first_plan size commit m
plan_of phase.Second size commit m = second_plan size commit m
plan_of phase.Third size commit m = third_plan size commit m

-- The calls of one member's turn.
pub record MakesTurn (asks : List Ask) (was is : Bool) (old new : BankView) : Type 0 where
  pub made : List Noted
  pub calls : Makes made old new
  pub turn : IsTurn asks was is made

-- The calls of a phase.
pub record MakesPhase (plan : Member → List Ask) (members : List Member) (was is : List Bool) (old new : BankView) : Type 0 where
  pub made : List Noted
  pub calls : Makes made old new
  pub phase : IsPhase plan members was is made

-- The calls of a round.
pub record MakesRound (size : ℕ → ℕ) (commit : Commit) (members : List Member) (results : List Bool) (old new : BankView) : Type 0 where
  pub made : List Noted
  pub calls : Makes made old new
  pub round : IsRound size commit members results made
