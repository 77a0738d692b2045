-- What has to stay on a member's device for an opening to find all of a live record, and for the pool to go on.
use Rattle.std.specs.Prelude.{◌≡◌, ◌⊎◌, ℕ, ◌+◌, ◌<◌, ◌≤◌, Bool, true, false, List, Some}
use Rattle.mp_base.specs.declared.number.Guid.{Guid}
use Rattle.mp_base.specs.declared.place.Key.{Key}
use Rattle.bank_core.specs.Disk.{Sector, Pending, Nothing, Written, Failing, sectors_in, sector_of}
use Rattle.label_store.specs.declared.member.Member.{Member}
use Rattle.label_store.specs.Layout.{slot_of}
use Rattle.label_store.specs.Rounds.{uberblock_of}
use Rattle.label_store.specs.Uberblock.{uberblock_bytes}
use Rattle.txg_history.specs.Groups.{Logs}
use Rattle.txg_history.specs.Labels.{Status, Odd, Even, Lost}
use Rattle.txg_history.specs.Pools.{Pool, seat}
use Rattle.txg_history.specs.Records.{Rec, Cell, Cells, IsIn, number_of, data_start}
use Rattle.txg_history.specs.Scans.{Scan}

-- Nothing is on the way there, and just these bytes stand there, unless the sector is damaged. So it is
-- still behind a crash, and behind more damage.
pub record Held (x : Sector) (bytes : List ℕ) : Type 0 where
  pub still : x.pending ≡ Nothing
  pub stands : (x.stable ≡ bytes) ⊎ (x.damaged ≡ true)

-- what is on the way there, if anything, is this block
abbrev pub IsOnTheWay : Pending → List ℕ → Type 0
IsOnTheWay Nothing block = Unit {0}
IsOnTheWay (Written bytes) block = bytes ≡ block
IsOnTheWay (Failing bytes) block = bytes ≡ block

-- The block stands there and nothing is on the way; or the sector is damaged, and nothing else is on the way.
abbrev pub Keeps : Sector → List ℕ → Type 0
Keeps x block = ((x.stable ≡ block) × (x.pending ≡ Nothing)) ⊎ ((x.damaged ≡ true) × IsOnTheWay x.pending block)

-- the block was written there by a call that answered Ok, or is held already
abbrev pub Landed : Sector → List ℕ → Type 0
Landed x block = (x.pending ≡ Written block) ⊎ Held x block

-- what a frozen group's key has on a leaf behind its write turn, and behind the flush turn
abbrev pub IsPut : (flushed : Bool) → Sector → List ℕ → Type 0
IsPut true x block = Held x block
IsPut false x block = Landed x block

-- the leaf has the block that a scan came past, or it was copied there by a call that answered Ok
abbrev pub Copied : Sector → List ℕ → Type 0
Copied x block = Keeps x block ⊎ (x.pending ≡ Written block)

-- sector s holds these bytes of the record's uberblock, in its slot of the ring of label 0
abbrev pub InRing : Member → Rec → (s : ℕ) → List ℕ → Type 0
InRing m r s bytes = (s ≡ 32 + slot_of (number_of r)) × (bytes ≡ uberblock_bytes (uberblock_of r.commit m))

-- or these of its configuration, whose part begins at this sector
abbrev pub InPart : (at : ℕ) → Rec → (s : ℕ) → List ℕ → Type 0
InPart at r s bytes = (i : ℕ) × (i < sectors_in r.commit.blob) × (s ≡ at + i) × (bytes ≡ sector_of i r.commit.blob)

-- The configuration parts of labels 0 and 1, one even and one odd. The other two labels are written and
-- flushed together with these, and are not needed.
abbrev pub even_part : ℕ
even_part = 4

abbrev pub odd_part : ℕ
odd_part = 68

-- by what the labels of a member hold, sector s has to keep these bytes
abbrev pub NeedsLabel : Member → Status → (s : ℕ) → List ℕ → Type 0
NeedsLabel m (Odd r) s bytes = InRing m r s bytes ⊎ InPart odd_part r s bytes
NeedsLabel m (Even r) s bytes = InRing m r s bytes ⊎ InPart even_part r s bytes
NeedsLabel m Lost s bytes = ⊥

-- the cell's bytes stand on sector s
pub record IsAt (cell : Cell) (s : ℕ) (bytes : List ℕ) : Type 0 where
  pub sector_is : s ≡ data_start + cell.sector
  pub bytes_are : bytes ≡ cell.block

-- A live record has this block on sector s of the leaf of this number, whose log lacks the group that it was born in.
pub record NeedsCell (live : List Rec) (m : Guid) (s : ℕ) (bytes : List ℕ) : Type 0 where
  pub r : Rec
  pub is_live : IsIn r live
  pub k : Key
  pub cell : Cell
  pub cell_is : r.cells k ≡ Some cell
  pub in_top : r.tops m ≡ cell.top
  pub has : r.owes m cell.birth ≡ false
  pub at : IsAt cell s bytes

-- So has the record that the pool reads, by the tree and the logs of now.
pub record NeedsRead (reads : Rec) (in_top : ℕ → ℕ) (owes : Logs) (d s : ℕ) (bytes : List ℕ) : Type 0 where
  pub k : Key
  pub cell : Cell
  pub cell_is : reads.cells k ≡ Some cell
  pub top_is : in_top d ≡ cell.top
  pub has : owes d cell.birth ≡ false
  pub at : IsAt cell s bytes

-- A key of the frozen group whose write turn has ended, on a leaf of its top that is still on the board.
pub record NeedsGroup (frozen : Bool) (board : ℕ → Bool) (cells : Cells) (done : Key → Bool) (in_top : ℕ → ℕ) (d s : ℕ) (bytes : List ℕ) : Type 0 where
  pub is_frozen : frozen ≡ true
  pub on_board : board d ≡ true
  pub k : Key
  pub cell : Cell
  pub cell_is : cells k ≡ Some cell
  pub top_is : in_top d ≡ cell.top
  pub ended : done k ≡ true
  pub at : IsAt cell s bytes

-- the pool's frozen group needs it
abbrev pub NeedsPut : Pool → (d s : ℕ) → List ℕ → Type 0
NeedsPut p d s bytes = NeedsGroup p.group.frozen p.group.board p.group.cells p.group.done p.in_top d s bytes

-- A key that the running scan came past, on an eligible leaf of its top, whose SCRUB log lacks its birth.
pub record NeedsScan (scan : Scan) (reads : Rec) (in_top : ℕ → ℕ) (d s : ℕ) (bytes : List ℕ) : Type 0 where
  pub running : scan.running ≡ true
  pub is_eligible : scan.eligible d ≡ true
  pub k : Key
  pub cell : Cell
  pub cell_is : reads.cells k ≡ Some cell
  pub top_is : in_top d ≡ cell.top
  pub is_passed : scan.passed k ≡ true
  pub low : cell.birth ≤ scan.hi
  pub not_scrubbed : scan.scrub d cell.birth ≡ false
  pub at : IsAt cell s bytes

-- No call may put anything on sector s of device d: these bytes are needed there.
abbrev pub NeedsFirm : Pool → (d s : ℕ) → List ℕ → Type 0
NeedsFirm p d s bytes = NeedsLabel (seat p d) (p.status d) s bytes ⊎ NeedsPut p d s bytes

-- These bytes are needed there, and may be written again where the sector is damaged.
abbrev pub NeedsSoft : Pool → (d s : ℕ) → List ℕ → Type 0
NeedsSoft p d s bytes = NeedsCell p.live (p.guid d) s bytes
    ⊎ (NeedsRead p.reads p.in_top p.owes d s bytes ⊎ NeedsScan p.scan p.reads p.in_top d s bytes)
