-- The invariant of all moments. It is what makes each crash leave a live record, and lets the pool go on:
--
-- 1. What is needed stays on each member: by what its labels promise an uberblock and a configuration (`labels`), of the
--    frozen group the keys whose turns have ended (`puts`), of the live records and of the one that the pool reads
--    the blocks of groups that the leaf's log lacks (`cells`, `current`), and what a scan came past (`scanned`).
-- 2. A leaf keeps its top, and one place has one key (`places`, `one_key`). Each place of a live record is one of the
--    record that the pool reads, of the frozen group, or pinned (`cover`).
-- 3. Each correct uberblock of a member's rings is that of a record that was drawn, or gives the member's identity (`rings`).
-- 4. The record that a member's labels hold is live, and the member takes part in it (`status_live`).
-- 5. Numbers rise (`order`), and logs have no other groups than those drawn (`logs`, `boards`, `unbroken`).
-- 6. All drawn records are this pool's, and each live one is a tree of pages (`pools`, `fit`).
use Rattle.std.specs.Prelude.{◌≡◌, ◌⊎◌, ℕ, ◌+◌, ◌<◌, ◌≤◌, ◌^◌, Bool, true, false, List, [], ◌∷◌, length, Some}
use Rattle.mp_base.specs.declared.number.Guid.{Guid}
use Rattle.mp_base.specs.declared.place.Key.{Key}
use Rattle.bank_core.specs.Disk.{Sector, Pending, Nothing, Written, Failing}
use Rattle.label_store.specs.declared.member.Member.{Member}
use Rattle.label_store.specs.declared.rule.Head.{Head}
use Rattle.label_store.specs.declared.uberblock.Uberblock.{Uberblock}
use Rattle.label_store.specs.Plans.{blank_uberblock}
use Rattle.label_store.specs.Records.{IsRecord, place_at}
use Rattle.label_store.specs.Rounds.{config_of, uberblock_of}
use Rattle.label_store.specs.Uberblock.{IsUberblock}
use Rattle.txg_history.specs.Groups.{Logs}
use Rattle.txg_history.specs.Labels.{Status, Odd, Even, Lost}
use Rattle.txg_history.specs.Needs.{Held, Keeps, Copied, IsPut, NeedsLabel, NeedsCell, NeedsRead, NeedsPut, NeedsScan}
use Rattle.txg_history.specs.Pages.{Codec, IsTree, IsConfigOf}
use Rattle.txg_history.specs.Pools.{Pool, drawn, seat}
use Rattle.txg_history.specs.Records.{Rec, Cell, Cells, IsIn, AreAtOne, AreOne, number_of, nothing, takes_part, laid_over, block_in}
use Rattle.txg_history.specs.Scans.{Scan}

-- these bytes are one of the list
abbrev pub IsAmong : List ℕ → List (List ℕ) → Type 0
IsAmong bytes [] = ⊥
IsAmong bytes (one ∷ more) = (bytes ≡ one) ⊎ IsAmong bytes more

-- a correct uberblock is that of a drawn record on this member, or the one that a stamp left
abbrev pub IsKnownUber : (drawn_records : List Rec) → (pool : Guid) → Member → List ℕ → Type 0
IsKnownUber drawn_records pool m bytes = (u : Uberblock) → IsUberblock u bytes
    → ((r : Rec) × IsIn r drawn_records × (u ≡ uberblock_of r.commit m)) ⊎ (u ≡ blank_uberblock pool m.guid)

-- what is on the way to a sector was written in this run
abbrev pub IsNoted : Pending → List (List ℕ) → Type 0
IsNoted Nothing since = Unit {0}
IsNoted (Written bytes) since = IsAmong bytes since
IsNoted (Failing bytes) since = IsAmong bytes since

-- A ring's sector: all that stands there or was written there in this run.
pub record IsKnownRing (drawn_records : List Rec) (pool : Guid) (m : Member) (x : Sector) (since : List (List ℕ)) : Type 0 where
  pub stable : IsKnownUber drawn_records pool m x.stable
  pub written : (bytes : List ℕ) → IsAmong bytes since → IsKnownUber drawn_records pool m bytes
  pub pending : IsNoted x.pending since

-- A record that may be committed: its configuration fills whole sectors, is one of this pool and number, and says of the
-- record and of the pool's tops what is so.
pub record Fits (c : Codec) (name : List ℕ) (pool : Guid) (room : ℕ → ℕ) (r : Rec) : Type 0 where
  pub pool_is : r.commit.pool ≡ pool
  pub is_record : (m : Member) → m.guid.0 < 2 ^ 64 → IsRecord c.head_of (uberblock_of r.commit m) r.commit.blob (config_of r.commit)
  pub name_is : (head : Head) → c.head_of (config_of r.commit) ≡ Some head → head.name ≡ name
  pub config : IsConfigOf c room r

-- a live record is the first one, of a pool that was just made, or fits; and its keys are a tree of pages
abbrev pub IsFit : Codec → (name : List ℕ) → (pool : Guid) → (room : ℕ → ℕ) → Rec → Type 0
IsFit c name pool room r = ((r ≡ nothing pool) ⊎ Fits c name pool room r) × IsTree c r.cells

-- the labels of a member promise a live record in which the member takes part
abbrev pub IsOf : List Rec → Guid → Status → Type 0
IsOf live m (Odd r) = IsIn r live × (takes_part r m ≡ true)
IsOf live m (Even r) = IsIn r live × (takes_part r m ≡ true)
IsOf live m Lost = Unit {0}

-- Each member has the room of four labels and of its top, and a number.
pub record AreRoomy (member : ℕ → Bool) (guid : ℕ → Guid) (size room home : ℕ → ℕ) : Type 0 where
  pub sizes : (d : ℕ) → member d ≡ true → 320 ≤ size d
  pub rooms : (d : ℕ) → member d ≡ true → room (home d) + 256 ≤ size d
  pub guids : (d : ℕ) → member d ≡ true → (guid d).0 < 2 ^ 64
  pub no_top : room 0 ≡ 0

-- A leaf never stands under another top than its own, neither in a live record nor now; and the newest record, where its
-- round was begun for the frozen group, has the tree of now but for leaves that it doesn't know.
pub record ArePlaced (member : ℕ → Bool) (guid : ℕ → Guid) (home in_top : ℕ → ℕ) (live : List Rec) (frozen begun : Bool) : Type 0 where
  pub in_records : (r : Rec) (d : ℕ) → IsIn r live → member d ≡ true → (r.tops (guid d) ≡ 0) ⊎ (r.tops (guid d) ≡ home d)
  pub in_tree : (d : ℕ) → member d ≡ true → (in_top d ≡ 0) ⊎ (in_top d ≡ home d)
  pub newest : frozen ≡ true → begun ≡ true → (q : Rec) (rest : List Rec) (d : ℕ) → live ≡ q ∷ rest → member d ≡ true
      → (q.tops (guid d) ≡ in_top d) ⊎ (q.tops (guid d) ≡ 0)

-- A key's cell has a block, a place in its top's room, and a birth.
pub record IsMapped (room : ℕ → ℕ) (cell : Cell) : Type 0 where
  pub long : length cell.block ≡ 4096
  pub inside : cell.sector < room cell.top
  pub born : 1 ≤ cell.birth

-- One place has one key, over all live records and the frozen group. A live record is at a place of the group only
-- where one of the group's rounds was begun.
pub record HaveOneKey (room : ℕ → ℕ) (live : List Rec) (frozen begun : Bool) (first : ℕ) (group : Cells) : Type 0 where
  pub mapped : (r : Rec) (k : Key) (cell : Cell) → IsIn r live → r.cells k ≡ Some cell → IsMapped room cell
  pub births : (r : Rec) (k : Key) (cell : Cell) → IsIn r live → r.cells k ≡ Some cell → cell.birth ≤ number_of r
  pub one : (r s : Rec) (j k : Key) (a b : Cell) → IsIn r live → IsIn s live → r.cells j ≡ Some a → s.cells k ≡ Some b → AreAtOne a b → AreOne j k a b
  pub group_mapped : frozen ≡ true → (k : Key) (cell : Cell) → group k ≡ Some cell → IsMapped room cell
  pub group_births : frozen ≡ true → (k : Key) (cell : Cell) → group k ≡ Some cell → cell.birth ≡ first
  pub group_apart : frozen ≡ true → (j k : Key) (a b : Cell) → group j ≡ Some a → group k ≡ Some b → AreAtOne a b → AreOne j k a b
  pub group_one : frozen ≡ true → (r : Rec) (j k : Key) (a b : Cell) → IsIn r live → r.cells j ≡ Some a → group k ≡ Some b → AreAtOne a b
      → (begun ≡ true) × AreOne j k a b

-- some key of these is at the cell's place
pub record IsTaken (cells : Cells) (cell : Cell) : Type 0 where
  pub k : Key
  pub there : Cell
  pub is_there : cells k ≡ Some there
  pub at_one : AreAtOne cell there

abbrev pub IsPinned : List Cells → Cell → Type 0
IsPinned [] cell = ⊥
IsPinned (cells ∷ more) cell = IsTaken cells cell ⊎ IsPinned more cell

-- while the pool is open, no place of a live record is handed out
abbrev pub AreCovered : (opened : Bool) → (live : List Rec) → (reads : Rec) → (frozen begun : Bool) → (group : Cells) → (pinned : List Cells) → Type 0
AreCovered opened live reads frozen begun group pinned = opened ≡ true → (r : Rec) (k : Key) (cell : Cell) → IsIn r live → r.cells k ≡ Some cell
    → IsTaken reads.cells cell ⊎ (((frozen ≡ true) × (begun ≡ true) × IsTaken group cell) ⊎ IsPinned pinned cell)

-- The acknowledged record and the one that the pool reads are live. No live record has a number below the acknowledged
-- one's, nor above the highest drawn, but those that an opening missed; and a record that was given up has one below
-- the acknowledged one's, but those.
pub record AreInOrder (acked : Rec) (acks : List Rec) (reads : Rec) (live given missed : List Rec) (highest : ℕ) (frozen fresh : Bool) : Type 0 where
  pub acked_live : IsIn acked live
  pub reads_live : IsIn reads live
  pub not_below : (r : Rec) → IsIn r live → number_of acked ≤ number_of r
  pub acked_top : number_of acked ≤ highest
  pub reads_top : number_of reads ≤ highest
  pub live_top : (r : Rec) → IsIn r live → (number_of r ≤ highest) ⊎ IsIn r missed
  pub newest_above : (q : Rec) (rest : List Rec) → live ≡ q ∷ rest → (r : Rec) → IsIn r rest → (number_of r < number_of q) ⊎ IsIn r missed
  pub given_below : (r : Rec) → IsIn r given → (number_of r < number_of acked) ⊎ IsIn r missed
  pub fresh_above : frozen ≡ true → fresh ≡ true → (r : Rec) → IsIn r live → (number_of r < highest) ⊎ IsIn r missed
  pub acks_below : (r : Rec) → IsIn r acks → (r ≡ acked) ⊎ (number_of r < number_of acked)

-- What the frozen group has come to. Its keys over those that the pool reads are a tree of pages, and answer what a read
-- answered at the freeze; the newest record, where one of its rounds was begun, has just these.
pub record HasComeTo (c : Codec) (frozen flushed begun : Bool) (group : Cells) (done : Key → Bool)
    (content : ℕ → List ℕ) (reads : Rec) (live : List Rec) : Type 0 where
  pub flushed_all : frozen ≡ true → flushed ≡ true → (k : Key) (cell : Cell) → group k ≡ Some cell → done k ≡ true
  pub begun_flushed : frozen ≡ true → begun ≡ true → flushed ≡ true
  pub tree : frozen ≡ true → IsTree c (laid_over group reads.cells)
  pub contents : frozen ≡ true → (a : ℕ) → block_in (laid_over group reads.cells) a ≡ content a
  pub newest : frozen ≡ true → begun ≡ true → (q : Rec) (rest : List Rec) → live ≡ q ∷ rest → (k : Key) → q.cells k ≡ laid_over group reads.cells k

-- Leaves off the board owe each number drawn for the group, and those on it none.
pub record AreBoarded (member : ℕ → Bool) (owes : Logs) (reads : Rec) (highest : ℕ) (frozen : Bool) (first : ℕ) (board : ℕ → Bool) : Type 0 where
  pub reads_first : frozen ≡ true → number_of reads < first
  pub first_top : frozen ≡ true → first ≤ highest
  pub off_board : frozen ≡ true → (d g : ℕ) → member d ≡ true → board d ≡ false → first ≤ g → g ≤ highest → owes d g ≡ true
  pub on_board : frozen ≡ true → (d g : ℕ) → member d ≡ true → board d ≡ true → first ≤ g → g ≤ highest → owes d g ≡ false

-- the log of a leaf has groups from 1 to this number alone
abbrev pub IsLog : (highest : ℕ) → (ℕ → Bool) → Type 0
IsLog highest log = (g : ℕ) → log g ≡ true → (1 ≤ g) × (g ≤ highest)

-- Logs of leaves have groups that were drawn, and a leaf on the board is one of the tree.
pub record AreLogs (member : ℕ → Bool) (guid : ℕ → Guid) (in_top : ℕ → ℕ) (owes : Logs) (highest : ℕ) (live : List Rec)
    (frozen : Bool) (board : ℕ → Bool) : Type 0 where
  pub now : (d : ℕ) → member d ≡ true → 1 ≤ in_top d → IsLog highest (owes d)
  pub in_records : (r : Rec) (d : ℕ) → IsIn r live → member d ≡ true → 1 ≤ r.tops (guid d) → IsLog (number_of r) (r.owes (guid d))
  pub boarded : frozen ≡ true → (d : ℕ) → member d ≡ true → board d ≡ true → 1 ≤ in_top d

-- What a log held since the newest round began is in it and in the newest record's; and a settled group is in it, and
-- in each live record's.
pub record AreUnbroken (member : ℕ → Bool) (guid : ℕ → Guid) (owes unbroken settled : Logs) (live : List Rec) : Type 0 where
  pub still : (d g : ℕ) → member d ≡ true → unbroken d g ≡ true → owes d g ≡ true
  pub newest : (d g : ℕ) → member d ≡ true → unbroken d g ≡ true → (q : Rec) (rest : List Rec) → live ≡ q ∷ rest → q.owes (guid d) g ≡ true
  pub settled_still : (d g : ℕ) → member d ≡ true → settled d g ≡ true → owes d g ≡ true
  pub settled_live : (d g : ℕ) → member d ≡ true → settled d g ≡ true → (r : Rec) → IsIn r live → r.owes (guid d) g ≡ true

-- A scan runs on an open pool, over keys of the record that it reads.
pub record IsInBounds (scan : Scan) (opened : Bool) (reads : Rec) : Type 0 where
  pub open_one : scan.running ≡ true → opened ≡ true
  pub hi_low : scan.running ≡ true → scan.hi ≤ number_of reads
  pub scrubbed : scan.running ≡ true → (d g : ℕ) → scan.scrub d g ≡ true → (1 ≤ g) × (g ≤ scan.hi)

pub record Survives (c : Codec) (p : Pool) : Type 0 where
  pub labels : (d s : ℕ) (bytes : List ℕ) → p.member d ≡ true → NeedsLabel (seat p d) (p.status d) s bytes → Held (p.sectors d s) bytes
  pub puts : (d s : ℕ) (bytes : List ℕ) → p.member d ≡ true → NeedsPut p d s bytes → IsPut p.group.flushed (p.sectors d s) bytes
  pub cells : (d s : ℕ) (bytes : List ℕ) → p.member d ≡ true → NeedsCell p.live (p.guid d) s bytes → Keeps (p.sectors d s) bytes
  pub current : (d s : ℕ) (bytes : List ℕ) → p.member d ≡ true → NeedsRead p.reads p.in_top p.owes d s bytes → Keeps (p.sectors d s) bytes
  pub scanned : (d s : ℕ) (bytes : List ℕ) → p.member d ≡ true → NeedsScan p.scan p.reads p.in_top d s bytes → Copied (p.sectors d s) bytes
  pub rings : (d place : ℕ) → p.member d ≡ true → place < 128
      → IsKnownRing (drawn p) p.pool (seat p d) (p.sectors d (place_at (p.size d) place)) (p.since d (place_at (p.size d) place))
  pub status_live : (d : ℕ) → p.member d ≡ true → IsOf p.live (p.guid d) (p.status d)
  pub roomy : AreRoomy p.member p.guid p.size p.room p.home
  pub placed : ArePlaced p.member p.guid p.home p.in_top p.live p.group.frozen p.group.begun
  pub one_key : HaveOneKey p.room p.live p.group.frozen p.group.begun p.group.first p.group.cells
  pub cover : AreCovered p.opened p.live p.reads p.group.frozen p.group.begun p.group.cells p.pinned
  pub order : AreInOrder p.acked p.acks p.reads p.live p.given p.missed p.highest p.group.frozen p.group.fresh
  pub come_to : HasComeTo c p.group.frozen p.group.flushed p.group.begun p.group.cells p.group.done p.group.content p.reads p.live
  pub boards : AreBoarded p.member p.owes p.reads p.highest p.group.frozen p.group.first p.group.board
  pub logs : AreLogs p.member p.guid p.in_top p.owes p.highest p.live p.group.frozen p.group.board
  pub unbroken : AreUnbroken p.member p.guid p.owes p.unbroken p.settled p.live
  pub bounds : IsInBounds p.scan p.opened p.reads
  pub fit : (r : Rec) → IsIn r p.live → IsFit c p.name p.pool p.room r
  pub pools : (r : Rec) → IsIn r (drawn p) → r.commit.pool ≡ p.pool
  pub in_range : p.pool.0 < 2 ^ 64
