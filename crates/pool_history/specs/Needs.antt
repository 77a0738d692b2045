-- What has to stay on a member's device for an opening to find all of a live record.
use Rattle.std.specs.Prelude.{◌≡◌, ◌⊎◌, ℕ, ◌+◌, ◌<◌, true, false, List, Some}
use Rattle.mp_base.specs.declared.number.Guid.{Guid}
use Rattle.bank_core.specs.Disk.{Sector, Nothing, sectors_in, sector_of}
use Rattle.label_store.specs.declared.member.Member.{Member}
use Rattle.label_store.specs.Layout.{slot_of}
use Rattle.label_store.specs.Rounds.{uberblock_of}
use Rattle.label_store.specs.Uberblock.{uberblock_bytes}
use Rattle.pool_history.specs.Labels.{Status, Odd, Even, Lost}
use Rattle.pool_history.specs.Pools.{Pool, seat}
use Rattle.pool_history.specs.Records.{Rec, Cell, IsIn, number_of, data_start}

-- Nothing is on the way there, and just these bytes stand there, unless the sector is damaged. So it is
-- still behind a crash, and behind more damage.
pub record Held (x : Sector) (bytes : List ℕ) : Type 0 where
  pub still : x.pending ≡ Nothing
  pub stands : (x.stable ≡ bytes) ⊎ (x.damaged ≡ true)

-- sector s holds these bytes of the record's uberblock, in its slot of the ring of label 0
abbrev pub InRing : Member → Rec → (s : ℕ) → List ℕ → Type 0
InRing m r s bytes = (s ≡ 32 + slot_of (number_of r)) × (bytes ≡ uberblock_bytes (uberblock_of r.commit m))

-- or these of its configuration, whose part begins at this sector
abbrev pub InPart : (at : ℕ) → Rec → (s : ℕ) → List ℕ → Type 0
InPart at r s bytes = (i : ℕ) × (i < sectors_in r.commit.blob) × (s ≡ at + i) × (bytes ≡ sector_of i r.commit.blob)

-- The configuration parts of labels 0 and 1, one even and one odd. The other two labels are written and
-- flushed together with these, and are not needed.
abbrev pub even_part : ℕ
even_part = 4

abbrev pub odd_part : ℕ
odd_part = 68

-- by what the labels of a member hold, sector s has to keep these bytes
abbrev pub NeedsLabel : Member → Status → (s : ℕ) → List ℕ → Type 0
NeedsLabel m (Odd r) s bytes = InRing m r s bytes ⊎ InPart odd_part r s bytes
NeedsLabel m (Even r) s bytes = InRing m r s bytes ⊎ InPart even_part r s bytes
NeedsLabel m Lost s bytes = ⊥

-- A live record has this block on sector s of the member of this number, whose log lacks the group that it was born in.
pub record NeedsCell (live : List Rec) (m : Guid) (s : ℕ) (bytes : List ℕ) : Type 0 where
  pub r : Rec
  pub is_live : IsIn r live
  pub a : ℕ
  pub cell : Cell
  pub cell_is : r.cells a ≡ Some cell
  pub has : r.owes m cell.birth ≡ false
  pub sector_is : s ≡ data_start + cell.sector
  pub bytes_are : bytes ≡ cell.block

-- Sector s of device d has to keep these bytes.
abbrev pub Needs : Pool → (d s : ℕ) → List ℕ → Type 0
Needs p d s bytes = (p.member d ≡ true) × (NeedsLabel (seat p d) (p.status d) s bytes ⊎ NeedsCell p.live (p.guid d) s bytes)
