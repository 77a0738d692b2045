-- What a commit needs, and what it did.
use Rattle.std.specs.Prelude.{◌≡◌, ◌≢◌, ℕ, ◌+◌, ◌-◌, ◌%◌, ◌^◌, ◌<◌, ◌≤◌, Bool, true, false, List, length, take, drop, Option, Some, slice_get}
use Rattle.mp_base.specs.Block.{zeros}
use Rattle.mp_base.specs.Outside.{Rose}
use Rattle.bank_core.specs.BankView.{BankView}
use Rattle.bank_core.specs.Calls.{Makes}
use Rattle.bank_core.specs.Disk.{Sectors, Noted, run, sector_size, sectors_in}
use Rattle.label_store.specs.declared.member.Member.{Member}
use Rattle.label_store.specs.declared.rule.Head.{Head}
use Rattle.label_store.specs.declared.uberblock.Uberblock.{Uberblock}
use Rattle.label_store.specs.Layout.{config_sectors, slot_of}
use Rattle.label_store.specs.Records.{HasRecord, LeavesOne}
use Rattle.label_store.specs.Rounds.{Commit, IsRound, config_of, uberblock_of}

-- Whole sectors, at most those of a configuration part: so many bytes, which end in the last of them, and then zeros.
pub record IsSealed (blob : List ℕ) (bytes : ℕ) : Type 0 where
  pub whole : length blob % sector_size ≡ 0
  pub most : sectors_in blob ≤ config_sectors
  pub some : 0 < bytes
  pub within : bytes ≤ length blob
  pub last : length blob < bytes + sector_size
  pub rest : drop bytes blob ≡ zeros (length blob - bytes)

-- At each moment of these calls a crash leaves each member that had a record, in an odd label and with its
-- uberblock in another slot, this record or the new one, as long as no label sector of it is damaged.
abbrev pub KeepsRecords : (List ℕ → Option Head) → (ℕ → ℕ) → Commit → List Member → List Noted → Type 0
KeepsRecords head_of size commit members made = (i : ℕ) (m : Member) → slice_get members i ≡ Some m → commit.pool.0 < 2 ^ 64 → m.guid.0 < 2 ^ 64
    → (sectors : Sectors) (u : Uberblock) (config : List ℕ) → HasRecord head_of (size m.dev) (sectors m.dev) commit.number.0 u config
    → (k : ℕ) → LeavesOne head_of (size m.dev) (run (take k made) sectors m.dev) (u, config) (uberblock_of commit m, config_of commit)

-- A member that ends the round has the new record behind it, as a further round of another slot needs it.
abbrev pub EndsWhole : (List ℕ → Option Head) → (ℕ → ℕ) → Commit → List Member → List Bool → List Noted → Type 0
EndsWhole head_of size commit members results made = (i : ℕ) (m : Member) → slice_get members i ≡ Some m → slice_get results i ≡ Some true
    → commit.pool.0 < 2 ^ 64 → m.guid.0 < 2 ^ 64 → (sectors : Sectors) (next : ℕ) → slot_of commit.number.0 ≢ slot_of next
    → HasRecord head_of (size m.dev) (run made sectors m.dev) next (uberblock_of commit m) (config_of commit)

-- each member that left the round had a failed call
abbrev pub AreExcused : List Member → List Bool → (before after : ℕ → ℕ) → Type 0
AreExcused members results before after =
    (i : ℕ) (m : Member) → slice_get members i ≡ Some m → slice_get results i ≡ Some false → Rose (before m.dev) (after m.dev)

-- A round was made.
pub record Commits (head_of : List ℕ → Option Head) (size : ℕ → ℕ) (commit : Commit) (members : List Member) (results : List Bool)
    (old new : BankView) : Type 0 where
  pub made : List Noted
  pub calls : Makes made old new
  pub round : IsRound size commit members results made
  pub excused : AreExcused members results old.faults new.faults
  pub keeps : KeepsRecords head_of size commit members made
  pub ends : EndsWhole head_of size commit members results made
