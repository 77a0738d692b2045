-- Moves: what a pool's code does, one small step after another, each of which its state follows by a sum, and its history by
-- one event or by none.
use Rattle.std.specs.Prelude.{ℕ, ◌+◌, ◌==◌, ◌&&◌, nat_le, max, Bool, true, false, not, cond, Option, Some, None, List, [], ◌∷◌, map}
use Rattle.std.specs.List.{insert, remove}
use Rattle.mp_base.specs.declared.number.Guid.{Guid}
use Rattle.mp_base.specs.declared.place.Key.{Key}
use Rattle.bank_core.specs.Disk.{Noted}
use Rattle.label_store.specs.Rounds.{Commit}
use Rattle.txg_history.specs.Events.{Event, Calls, Accepts, Freezes, Wrote, Flushed, Draws, Leaves, Grows, Burns, Begins, Third, Ends, Acks, Joins, Loses, Scans, Passes, Drops, Clears, Rests}
use Rattle.txg_history.specs.Groups.{same_key, at_device, between, grown}
use Rattle.txg_history.specs.Pages.{Sum, sum_of}
use Rattle.txg_history.specs.Pools.{Pool, pool_after, kept_in, whole_log}
use Rattle.txg_history.specs.Records.{Rec, Cell, Cells, laid_over, key}
use Rattle.txg_history.specs.Scans.{up_to}
use Rattle.pool_moves.specs.Leaves.{OwnLeaf, LeafSeen, Seat, At, Adrift, told, leaf_seen, dev_if}
use Rattle.txg_history.specs.Trees.{Child}
use Rattle.pool_moves.specs.States.{Sums, sums, frozen_seen, no_group_seen, ScanSeen, started_seen, no_scan_seen, scan_seen, PoolSeen, Side, Own, PoolState}
use Rattle.pool_moves.specs.Trees.{Child}

-- What the code knows of a record that it draws up: its commit, and the top and the log of each member number.
pub record Draft : Type 0 where
  pub commit : Commit
  pub tops : Guid → ℕ
  pub owes : Guid → ℕ → Bool

pub data Move : Type 0 where
  -- a device call with its answer
  Makes : (noted : Noted) → Move
  -- a write is taken
  Puts : (a : ℕ) (block : List ℕ) → Move
  -- a group is frozen with these keys and places, over the leaves on these devices
  Freeze : (cells : Cells) (board : ℕ → Bool) → Move
  -- the write turn of this key, and the flush turn, ended
  Wrote_key : (k : Key) → Move
  Flushed_all : Move
  -- a further number is drawn
  Draw : Move
  -- the leaf on this device leaves the board
  Leave : (d : ℕ) → Move
  -- the log of the leaf of this number becomes one run
  Widen : (m : Guid) (low high : ℕ) → Move
  -- the group is suspended
  Burn : Move
  -- the round of this record begins; its third phase begins, and ended, on a device; no leaf failed in it
  Starts : (draft : Draft) → Move
  Copies : (draft : Draft) (d : ℕ) → Move
  Copied : (draft : Draft) (d : ℕ) → Move
  Commits : (draft : Draft) → Move
  -- what no device call tells of the leaf of this number
  Sets : (m : Guid) (own : OwnLeaf) → Move
  -- the leaf of this number was found on this device
  Finds : (m : Guid) (d : ℕ) → Move
  -- the pool loses this device: a stamp or a wipe begins there
  Lose : (d : ℕ) → Move
  -- a leaf comes into the tree at this place of the list of leaves, on this device and under this top
  Comes : (i d : ℕ) (m : Guid) (top : ℕ) (own : OwnLeaf) → Move
  -- the leaf at this place goes out of the tree, or comes back to it as it was
  Goes : (i : ℕ) → Move
  Returns : (i : ℕ) (seat : Seat) (leaf : LeafSeen) → Move
  -- a scan starts, over keys born up to hi and for the leaves on these devices; it comes past a key, whose birth goes into
  -- these leaves' SCRUB logs; a leaf is no longer eligible; the scan's end clears a leaf's log; and no scan runs any more
  Scan_from : (hi : ℕ) (eligible : ℕ → Bool) → Move
  Pass : (k : Key) (birth : ℕ) (which : ℕ → Bool) → Move
  Drop : (d : ℕ) → Move
  Clear : (d : ℕ) → Move
  Rest : Move
  -- the scan that just started is a scrub; and the mirror of this top has these children now
  Scrubs : Move
  Shapes : (top : ℕ) (children : List Child) → Move

-- this kind of device, where the leaf has one
abbrev pub on_dev : (ℕ → Bool) → Option ℕ → Bool
on_dev which None = false
on_dev which (Some d) = which d

-- the log gets the groups from the first to the last
abbrev pub log_grown : Bool → (first last : ℕ) → (ℕ → Bool) → ℕ → Bool
log_grown which first last log g = cond (which && between first last g) true (log g)

-- these groups leave it
abbrev pub log_cleared : (first last : ℕ) → (ℕ → Bool) → ℕ → Bool
log_cleared first last log g = cond (between first last g) false (log g)

-- of the groups up to hi those of the SCRUB log alone
abbrev pub log_scanned : (hi : ℕ) → (scrub log : ℕ → Bool) → ℕ → Bool
log_scanned hi scrub log g = cond (nat_le g hi) (scrub g) (log g)

-- a leaf's part in a group begins, on the board or off it, and ends
abbrev pub joined_own : Bool → OwnLeaf → OwnLeaf
joined_own on own = record own { joined = on; faults = 0 }

-- a leaf whose log was cleared by a scan's end, by its SCRUB log
abbrev pub leaf_cleared : (hi : ℕ) → (scrub : ℕ → Bool) → LeafSeen → LeafSeen
leaf_cleared hi scrub leaf = record leaf {
  owes = log_scanned hi scrub leaf.owes;
  settled = kept_in (log_scanned hi scrub leaf.owes) leaf.settled;
}

-- What a move does to a leaf, by the highest number drawn, the group's first number and the scan before it.
abbrev pub leaf_step : Move → (number first : ℕ) → ScanSeen → LeafSeen → LeafSeen
leaf_step (Freeze cells board) number first scan leaf = record leaf {
  own = joined_own (on_dev board leaf.dev) leaf.own;
  owes = log_grown (not (on_dev board leaf.dev)) (number + 1) (number + 1) leaf.owes;
  on = on_dev board leaf.dev;
}
leaf_step Draw number first scan leaf = record leaf { owes = log_grown (not leaf.on) (number + 1) (number + 1) leaf.owes }
leaf_step (Leave d) number first scan leaf = record leaf {
  owes = log_grown (on_dev (λ e. d == e) leaf.dev) first number leaf.owes;
  on = cond (on_dev (λ e. d == e) leaf.dev) false leaf.on;
}
leaf_step (Widen m low high) number first scan leaf = record leaf { owes = log_grown (leaf.guid.0 == m.0) low high leaf.owes }
leaf_step Burn number first scan leaf = record leaf {
  own = joined_own false leaf.own;
  owes = log_cleared first number leaf.owes;
  settled = log_cleared first number leaf.settled;
  on = false;
}
leaf_step (Commits draft) number first scan leaf = record leaf { own = joined_own false leaf.own; settled = leaf.owes; on = false }
leaf_step (Sets m own) number first scan leaf = cond (leaf.guid.0 == m.0) (record leaf { own = own }) leaf
leaf_step (Finds m d) number first scan leaf = cond (leaf.guid.0 == m.0) (record leaf { dev = Some d }) leaf
leaf_step (Clear d) number first scan leaf = cond (on_dev (λ e. d == e) leaf.dev) (leaf_cleared scan.hi (scan.scrub d) leaf) leaf
leaf_step v number first scan leaf = leaf

-- each leaf's step
abbrev pub leaves_step : Move → PoolSeen → List LeafSeen
leaves_step v s = map (leaf_step v s.number s.group.first s.scan) s.leaves

-- A leaf that is brought in: it owes each group so far, and so long as it owes them they are settled there.
abbrev pub new_leaf : (d : ℕ) → Guid → (top number : ℕ) → OwnLeaf → LeafSeen
new_leaf d m top number own = record {
  guid = m;
  dev = Some d;
  own = own;
  top = top;
  owes = whole_log number;
  settled = whole_log number;
  on = false;
}

-- a key's sum where it is among the group's, else the record's
abbrev pub sum_over : Option Cell → Option Sum → Option Sum
sum_over (Some cell) old = sum_of (Some cell)
sum_over None old = old

abbrev pub sums_over : Cells → Sums → Sums
sums_over cells old k = sum_over (cells k) (old k)

-- What a move does to a pool's state.
abbrev pub step : Move → PoolSeen → PoolSeen
step (Makes noted) s = s
step (Puts a block) s = s
step (Freeze cells board) s = record s { number = s.number + 1; leaves = leaves_step (Freeze cells board) s; group = frozen_seen (s.number + 1) cells }
step (Wrote_key k) s = record s { group = record (s.group) { done = λ j. cond (same_key k j) true (s.group.done j) } }
step Flushed_all s = record s { group = record (s.group) { flushed = true } }
step Draw s = record s { number = s.number + 1; leaves = leaves_step Draw s; group = record (s.group) { fresh = true } }
step Burn s = record s { leaves = leaves_step Burn s; group = no_group_seen; pinned = cond s.group.begun (sums s.group.cells ∷ s.pinned) s.pinned }
step (Starts draft) s = record s { group = record (s.group) { fresh = false; begun = true } }
step (Copies draft d) s = s
step (Copied draft d) s = s
step (Commits draft) s = record s {
  read_number = draft.commit.number.0;
  opened = true;
  committed = sums_over s.group.cells s.committed;
  leaves = leaves_step (Commits draft) s;
  group = no_group_seen;
  pinned = [];
}
step (Comes i d m top own) s = record s { leaves = insert s.leaves i (new_leaf d m top s.number own) }
step (Goes i) s = record s { leaves = remove s.leaves i }
step (Returns i seat leaf) s = record s { leaves = insert s.leaves i leaf }
step (Scan_from hi eligible) s = record s { scan = started_seen hi eligible }
step (Pass k birth which) s = record s { scan = record (s.scan) { passed = up_to k; scrub = grown which birth birth s.scan.scrub } }
step (Drop d) s = record s { scan = record (s.scan) { eligible = at_device d false s.scan.eligible } }
step Rest s = record s { scan = no_scan_seen }
step Scrubs s = s
step (Shapes top children) s = s
step v s = record s { leaves = leaves_step v s }

-- A suspended group's blocks are open writes again, and newer ones win.
abbrev pub burned : Option (List ℕ) → Option Cell → Option (List ℕ)
burned (Some block) cell = Some block
burned None (Some cell) = Some cell.block
burned None None = None

-- What it does to what is only in memory, with the frozen group's keys before it. Member numbers rise: the next one is above
-- that of each leaf that comes in.
abbrev pub own_step : Move → Cells → Own → Own
own_step (Puts a block) cells own = record own { writes = λ x. cond (a == x) (Some block) (own.writes x) }
own_step (Freeze new board) cells own = record own { writes = λ x. None }
own_step Burn cells own = record own { writes = λ x. burned (own.writes x) (cells (key 0 x)) }
own_step (Comes i d m top leaf) cells own = record own { next_member = max own.next_member (m.0 + 1) }
own_step (Returns i seat leaf) cells own = record own { next_member = max own.next_member (leaf.guid.0 + 1) }
own_step (Scan_from hi eligible) cells own = record own { scrubs = false }
own_step Scrubs cells own = record own { scrubs = true }
own_step (Shapes top children) cells own = record own { children = λ x. cond (top == x) children (own.children x) }
own_step v cells own = own

abbrev pub state_step : Move → PoolState → PoolState
state_step v s = record { own = own_step v s.core.group.cells s.own; core = step v s.core }

-- The record that is drawn up by a draft: its keys are the frozen group's over those that the pool reads.
abbrev pub rec_of : Pool → Draft → Rec
rec_of p draft = record { commit = draft.commit; cells = laid_over p.group.cells p.reads.cells; tops = draft.tops; owes = draft.owes }

-- the members of this number
abbrev pub of_number : Pool → Guid → ℕ → Bool
of_number p m d = p.member d && ((p.guid d).0 == m.0)

-- What the history gets of a move. What the code doesn't know, blocks that are on the devices alone, is filled in from it.
abbrev pub events_of : Move → Pool → List Event
events_of (Makes noted) p = Calls noted ∷ []
events_of (Puts a block) p = Accepts a block ∷ []
events_of (Freeze cells board) p = Freezes cells board ∷ []
events_of (Wrote_key k) p = Wrote k ∷ []
events_of Flushed_all p = Flushed ∷ []
events_of Draw p = Draws ∷ []
events_of (Leave d) p = Leaves d ∷ []
events_of (Widen m low high) p = Grows (grown (of_number p m) low high p.owes) ∷ []
events_of Burn p = Burns ∷ []
events_of (Starts draft) p = Begins (rec_of p draft) ∷ []
events_of (Copies draft d) p = Third (rec_of p draft) d ∷ []
events_of (Copied draft d) p = Ends (rec_of p draft) d ∷ []
events_of (Commits draft) p = Acks (rec_of p draft) ∷ []
events_of (Sets m own) p = []
events_of (Finds m d) p = []
events_of (Lose d) p = Loses d ∷ []
events_of (Comes i d m top own) p = Joins d m top ∷ []
events_of (Goes i) p = []
events_of (Returns i seat leaf) p = []
events_of (Scan_from hi eligible) p = Scans hi eligible ∷ []
events_of (Pass k birth which) p = Passes k (grown which birth birth p.scan.scrub) ∷ []
events_of (Drop d) p = Drops d ∷ []
events_of (Clear d) p = Clears d ∷ []
events_of Rest p = Rests ∷ []
events_of Scrubs p = []
events_of (Shapes top children) p = []

-- What a move does to a seat: one that is at no device has its leaf's step, and one whose device the pool loses gets to be so.
abbrev pub seat_step : Move → Pool → Seat → Seat
seat_step v p (Adrift leaf) = Adrift (leaf_step v p.highest p.group.first (scan_seen true p.scan) leaf)
seat_step (Freeze cells board) p (At d found own) = At d found (joined_own (on_dev board (dev_if found d)) own)
seat_step Burn p (At d found own) = At d found (joined_own false own)
seat_step (Commits draft) p (At d found own) = At d found (joined_own false own)
seat_step (Sets m own) p (At d found was) = At d found (cond ((p.guid d).0 == m.0) own was)
seat_step (Finds m e) p (At d found own) = At d (cond ((p.guid d).0 == m.0) true found) own
seat_step (Lose e) p (At d found own) = cond (e == d) (Adrift (leaf_seen p.group.frozen (told p) (At d found own))) (At d found own)
seat_step v p (At d found own) = At d found own

abbrev pub seats_by : Move → Side → List Seat
seats_by (Makes noted) t = t.seats
seats_by (Puts a block) t = t.seats
seats_by (Wrote_key k) t = t.seats
seats_by Flushed_all t = t.seats
seats_by (Starts draft) t = t.seats
seats_by (Copies draft d) t = t.seats
seats_by (Copied draft d) t = t.seats
seats_by (Comes i d m top own) t = insert t.seats i (At d true own)
seats_by (Goes i) t = remove t.seats i
seats_by (Returns i seat leaf) t = insert t.seats i seat
seats_by (Scan_from hi eligible) t = t.seats
seats_by (Pass k birth which) t = t.seats
seats_by (Drop d) t = t.seats
seats_by Rest t = t.seats
seats_by Scrubs t = t.seats
seats_by (Shapes top children) t = t.seats
seats_by v t = map (seat_step v t.pool) t.seats

abbrev pub after_move : Move → Side → Side
after_move v t = record { pool = pool_after (events_of v t.pool) t.pool; seats = seats_by v t }

-- a list of them, one after another
abbrev pub steps : List Move → PoolState → PoolState
steps [] s = s
steps (v ∷ vs) s = steps vs (state_step v s)

abbrev pub after_moves : List Move → Side → Side
after_moves [] t = t
after_moves (v ∷ vs) t = after_moves vs (after_move v t)
