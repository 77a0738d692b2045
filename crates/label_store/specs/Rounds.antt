-- A round: the configuration goes into the even labels of each member, then its uberblock into all four
-- rings, then the configuration into the odd labels.
use Rattle.std.specs.Prelude.{◌≡◌, ℕ, Bool, true, List, ◌++◌, map, take}
use Rattle.sha2.specs.Sha256.{sha256}
use Rattle.mp_base.specs.declared.number.Group.{Group}
use Rattle.mp_base.specs.declared.number.Guid.{Guid}
use Rattle.bank_core.specs.Disk.{Noted}
use Rattle.bank_core.specs.Asks.{Ask}
use Rattle.label_store.specs.declared.member.Member.{Member}
use Rattle.label_store.specs.declared.uberblock.Uberblock.{Uberblock}
use Rattle.label_store.specs.Layout.{even_labels, odd_labels}
use Rattle.label_store.specs.Phases.{IsPhase}
use Rattle.label_store.specs.Plans.{config_plan, ring_plan}

-- What a round writes: whole sectors that begin with the configuration of this length.
pub record Commit : Type 0 where
  pub pool : Guid
  pub number : Group
  pub blob : List ℕ
  pub length : ℕ

abbrev pub config_of : Commit → List ℕ
config_of commit = take commit.length commit.blob

-- the uberblock of a member
abbrev pub uberblock_of : Commit → Member → Uberblock
uberblock_of commit m = record { pool = commit.pool; member = m.guid; number = commit.number; length = commit.length; sum = sha256 (config_of commit) }

-- what each phase asks of a member's device, on a bank whose devices have these sizes
abbrev pub first_plan : (ℕ → ℕ) → Commit → Member → List Ask
first_plan size commit m = config_plan m.dev (even_labels (size m.dev)) commit.blob

abbrev pub second_plan : (ℕ → ℕ) → Commit → Member → List Ask
second_plan size commit m = ring_plan m.dev (size m.dev) (uberblock_of commit m)

abbrev pub third_plan : (ℕ → ℕ) → Commit → Member → List Ask
third_plan size commit m = config_plan m.dev (odd_labels (size m.dev)) commit.blob

-- The calls of a round over all members, and which of them ended it without a failed call.
pub record IsRound (size : ℕ → ℕ) (commit : Commit) (members : List Member) (results : List Bool) (made : List Noted) : Type 0 where
  pub first : List Noted
  pub second : List Noted
  pub third : List Noted
  pub all : made ≡ first ++ (second ++ third)
  pub in_first : List Bool
  pub in_second : List Bool
  pub configs : IsPhase (first_plan size commit) members (map (λ m. true) members) in_first first
  pub uberblocks : IsPhase (second_plan size commit) members in_first in_second second
  pub copies : IsPhase (third_plan size commit) members in_second results third
