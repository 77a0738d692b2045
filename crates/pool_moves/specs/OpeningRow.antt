-- An opening as rows: what it finds on the labels, what it opens, and its commit.
use Rattle.std.specs.Prelude.{◌≡◌, ◌≢◌, ◌⊎◌, ℕ, suc, ◌+◌, ◌-◌, ◌*◌, ◌≤◌, ◌^◌, ◌==◌, ◌&&◌, nat_le, Bool, true, false, cond, Option, Some, None, List, [], ◌∷◌, ◌++◌, length, Result, Ok}
use Rattle.std.specs.List.{list_any, AllByRecursion}
use Rattle.mp_base.specs.declared.number.Guid.{Guid}
use Rattle.bank_core.specs.declared.bank.Fault.{Fault}
use Rattle.bank_core.specs.Disk.{Call, Read, Write as WriteCall, Flush as FlushCall, Admit, Eject, Noted, covers, sectors_in, sector_of}
use Rattle.label_store.specs.declared.found.Found.{Found}
use Rattle.label_store.specs.Identities.{IsSearch}
use Rattle.label_store.specs.Newest.{Parts, IsLook, IsBest}
use Rattle.mp_base.specs.declared.place.Key.{Key}
use Rattle.vdev_tree.specs.Leaf.{is_up}
use Rattle.label_store.specs.Rounds.{config_of}
use Rattle.txg_history.specs.Events.{Known, Looks, Opens, as_events}
use Rattle.txg_history.specs.Looks.{AreDistinct, HaveRoom}
use Rattle.txg_history.specs.Moves.{Mays}
use Rattle.txg_history.specs.Pages.{LeafKept, Codec, ClashesAt}
use Rattle.txg_history.specs.Pools.{Pool, pool_after}
use Rattle.txg_history.specs.Premises.{AreNotTorn, HasGoodLeaf}
use Rattle.txg_history.specs.Records.{Rec, Cell, Cells, IsIn, key, number_of, data_start}
use Rattle.pool_moves.specs.CommitRows.{RowReopen}
use Rattle.pool_moves.specs.Leaves.{LeafSeen}
use Rattle.pool_moves.specs.LineRows.{TurnReply, Committed, Suspended}
use Rattle.pool_moves.specs.Moves.{Move, steps}
use Rattle.pool_moves.specs.Opened.{AreValidLeaves, opened_leaves, opened_state}
use Rattle.pool_moves.specs.PageReads.{Reading, PageTurn, page_of, calls_of_turns, up_to, ReadsMap, LeafShown, StopsAt}
use Rattle.pool_moves.specs.Resilvers.{Resilvers}
use Rattle.pool_moves.specs.States.{Sums, PoolState}

-- What an opening finds: no record of the name; one whose number is too high for another commit, with the limit and the number
-- that would be drawn; or the record that it takes.
pub data SeekReply : Type 0 where
  NoRecord : SeekReply
  NumbersEnd : (limit count : ℕ) → SeekReply
  TakesRecord : (found : Found) → SeekReply

-- a record of at least this number is the last one of its pool
abbrev pub last_numbers : ℕ
last_numbers = 2 ^ 62 - 64

abbrev pub taken_by : (ended : Bool) → Found → SeekReply
taken_by true found = NumbersEnd last_numbers (found.number.0 + 1)
taken_by false found = TakesRecord found

abbrev pub seek_reply : Option Found → SeekReply
seek_reply None = NoRecord
seek_reply (Some found) = taken_by (nat_le last_numbers found.number.0) found

-- The labels of all devices that are handed in are read, and the verified record of the name with the greatest number is taken.
pub record RowSeek (c : Codec) (size : ℕ → ℕ) (devs : List ℕ) (name : List ℕ) (made : List Noted) (reply : SeekReply) : Type 0 where
  pub distinct : AreDistinct devs
  pub room : HaveRoom size devs
  pub looks : List Parts
  pub look : IsLook size devs looks made
  pub best : Option Found
  pub is_best : IsBest c.head_of looks name (128 * length devs) best
  pub replies : reply ≡ seek_reply best

-- The pool has each device of this run with its sectors.
abbrev pub HasSizes : (size : ℕ → ℕ) → Pool → Type 0
HasSizes size p = (d : ℕ) → 1 ≤ size d → p.size d ≡ size d

-- The record that was found is a live one of the pool.
pub record IsLiveOne (p : Pool) (found : Found) (r : Rec) : Type 0 where
  pub is_live : IsIn r p.live
  pub config_is : found.blob.items ≡ config_of r.commit
  pub number_is : found.number ≡ r.commit.number
  pub pool_is : found.pool ≡ p.pool
  pub some : 1 ≤ number_of r

-- What the looks of an opening come to, of a pool of the name: a live record is found, not below the acknowledged one; and these calls, what
-- they showed and the reading of that record are events that the pool may have.
pub record SeeksLive (c : Codec) (p : Pool) (made : List Noted) (known : Known) (reply : SeekReply) : Type 0 where
  pub found : Found
  pub says : reply ≡ seek_reply (Some found)
  pub r : Rec
  pub is : IsLiveOne (pool_after (as_events made) p) found r
  pub not_below : number_of p.acked ≤ number_of r
  pub mays : Mays c p (as_events made ++ (Looks known ∷ (Opens r ∷ [])))

-- what a call shows of single sectors: a read that answered Ok gives them
abbrev pub read_of : Call → Known
read_of (Read dev at bytes None) d s = cond ((dev == d) && covers at (sectors_in bytes) s) (Some (sector_of (s - at) bytes)) None
read_of (Read dev at bytes (Some fault)) d s = None
read_of (WriteCall dev at bytes fault) d s = None
read_of (FlushCall dev fault) d s = None
read_of (Admit dev holds) d s = None
read_of (Eject dev) d s = None

-- none of these reads found a ring sector torn into a correct uberblock
abbrev pub AreWholeReads : Pool → List Noted → Type 0
AreWholeReads p made = AllByRecursion (λ noted. AreNotTorn p (read_of noted.call)) made

-- by whether the device has the room of the leaf's top: its rings are read up to one that gives the leaf's identity
abbrev pub IsSoughtOn : (roomy : Bool) → (pool : Guid) → (size : ℕ) → Guid → (d : ℕ) → List Noted → Option ℕ → Type 0
IsSoughtOn false pool size m d made found = (made ≡ []) × (found ≡ None)
IsSoughtOn true pool size m d made found = ((found ≡ Some d) × IsSearch pool m d size made (Ok true))
    ⊎ ((found ≡ None) × (result : Result Bool Fault) × (result ≢ Ok true) × IsSearch pool m d size made result)

-- a leaf is looked for on the device that is handed in under its name, where there is one
abbrev pub IsSought : (pool : Guid) → (size : ℕ → ℕ) → (room : ℕ) → Guid → Option ℕ → List Noted → Option ℕ → Type 0
IsSought pool size room m None made found = (made ≡ []) × (found ≡ None)
IsSought pool size room m (Some d) made found = IsSoughtOn (nat_le (room + 256) (size d)) pool (size d) m d made found

-- so is each leaf, in tree order
abbrev pub AreSought : (pool : Guid) → (size room : ℕ → ℕ) → (handed : List ℕ → Option ℕ) → List LeafKept → List Noted → (found : List (Option ℕ)) → Type 0
AreSought pool size room handed [] made [] = made ≡ []
AreSought pool size room handed [] made (dev ∷ devs) = ⊥
AreSought pool size room handed (leaf ∷ leaves) made [] = ⊥
AreSought pool size room handed (leaf ∷ leaves) made (dev ∷ devs) = (mine : List Noted) × (rest : List Noted) × (made ≡ mine ++ rest)
    × IsSought pool size (room leaf.top) leaf.guid (handed leaf.name) mine dev × AreSought pool size room handed leaves rest devs

-- What it opens: the pool's state before its commit; or a page of the map that no leaf of its top gave, with what each showed.
pub data OpenReply : Type 0 where
  Opens_state : (s : PoolState) → OpenReply
  NoPage : (page : Key) (shown : List LeafShown) → OpenReply

-- how the reading of the map ends, behind these pages, and by the last reads of a page that was lost
abbrev pub OpenEnds : OpenReply → Codec → (name : List ℕ) → Found → (devs : List (Option ℕ)) → Reading → List PageTurn → (last : List Noted) → Type 0
OpenEnds (Opens_state s) c name found devs x turns last = ReadsMap x turns × (last ≡ []) × (s ≡ opened_state c name found devs x.got)
OpenEnds (NoPage page shown) c name found devs x turns last = (level : ℕ) × (page ≡ key (suc level) page.index) × StopsAt x level page.index shown turns last

abbrev pub reading_of : Codec → Found → (devs : List (Option ℕ)) → (Key → Option (List ℕ)) → Sums → Reading
reading_of c found devs bytes got = record {
  codec = c;
  config = found.blob.items;
  number = found.number.0;
  leaves = opened_leaves (c.leaves found.blob.items) devs;
  found = bytes;
  got = got;
}

-- Behind that the identities of the leaves are looked for, on the devices that are handed in under their names, and then the pages of
-- the map are read back.
pub record RowOpen (c : Codec) (size : ℕ → ℕ) (handed : List ℕ → Option ℕ) (name : List ℕ) (found : Found) (made : List Noted) (reply : OpenReply) :
    Type 0 where
  pub volume : c.blocks found.blob.items ≤ 262144
  pub valid : AreValidLeaves (c.next_member found.blob.items) (c.leaves found.blob.items)
  pub devs : List (Option ℕ)
  pub ids : List Noted
  pub sought : AreSought found.pool size (c.room found.blob.items) handed (c.leaves found.blob.items) ids devs
  pub bytes : Key → Option (List ℕ)
  pub got : Sums
  pub turns : List PageTurn
  pub last : List Noted
  pub ends : OpenEnds reply c name found devs (reading_of c found devs bytes got) turns last
  pub calls : made ≡ ids ++ (calls_of_turns turns ++ last)

-- the calls that read its pages back
abbrev pub page_calls : {c : Codec} {size : ℕ → ℕ} {handed : List ℕ → Option ℕ} {name : List ℕ} {found : Found} {made : List Noted} {reply : OpenReply}
    → RowOpen c size handed name found made reply → List Noted
page_calls row = calls_of_turns row.turns ++ row.last

-- The pool may have the calls that read the pages back, one page after another: the reads of each whatever they give, and its rewriting and what
-- follows where no bytes found of it or of a page before it clash with the record's.
abbrev pub MayTurns : Codec → Pool → Cells → (found : Key → Option (List ℕ)) → List PageTurn → (last : List Noted) → Type 0
MayTurns c p cells found [] last = Mays c p (as_events last)
MayTurns c p cells found (turn ∷ turns) last = Mays c p (as_events turn.reads)
    × ((ClashesAt cells (up_to (page_of turn) found) → ⊥) → Mays c (pool_after (as_events turn.reads) p) (as_events turn.rewrites)
    × MayTurns c (pool_after (as_events turn.rewrites) (pool_after (as_events turn.reads) p)) cells found turns last)

-- This page of a record was lost: none of the leaves that answer at its sector has it, is undamaged there, and stands on the page's top.
pub record IsLostPage (p : Pool) (r : Rec) (page : Key) (answering : (at : ℕ) → ℕ → Bool) : Type 0 where
  pub cell : Cell
  pub cell_is : r.cells page ≡ Some cell
  pub none : ¬ (HasGoodLeaf p r cell (answering (data_start + cell.sector)))

-- the top of the first of these leaves whose top has no readable leaf among all
abbrev pub is_up_under : (top : ℕ) → LeafSeen → Bool
is_up_under top leaf = is_up leaf.own.mode && (leaf.top == top)

abbrev pub lacking_of : (all leaves : List LeafSeen) → Option ℕ
lacking_of all [] = None
lacking_of all (leaf ∷ leaves) = cond (list_any (is_up_under leaf.top) all) (lacking_of all leaves) (Some leaf.top)

-- behind the acknowledgement a resilver may start
abbrev pub ResumesBy : TurnReply → PoolState → List Move → Type 0
ResumesBy (Committed number) s vs = Resilvers s.core vs
ResumesBy reply s vs = vs ≡ []

pub record Resumes (c : Codec) (size : ℕ → ℕ) (s : PoolState) (vs : List Move) (reply : TurnReply) : Type 0 where
  pub first : List Move
  pub row : RowReopen c size s first reply
  pub rest : List Move
  pub resumes : ResumesBy reply (steps first s) rest
  pub moves : vs ≡ first ++ rest

-- by a top without a readable leaf: nothing is drawn then, and it is told with the number that would be drawn, and no fault
abbrev pub ResumesUnless : Option ℕ → Codec → (size : ℕ → ℕ) → PoolState → List Move → TurnReply → Type 0
ResumesUnless (Some top) c size s vs reply = (vs ≡ []) × (reply ≡ Suspended (s.core.number + 1) (s.own.top_number top) 0)
ResumesUnless None c size s vs reply = Resumes c size s vs reply

-- The commit of an opening, by which it answers: the record is committed again under the next number, and then a resilver starts
-- where a readable leaf owes a group. Where the commit is suspended the pool isn't opened.
abbrev pub RowResume : Codec → (size : ℕ → ℕ) → PoolState → List Move → TurnReply → Type 0
RowResume c size s vs reply = ResumesUnless (lacking_of s.core.leaves s.core.leaves) c size s vs reply
