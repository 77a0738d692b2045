-- `import` as a row: its refusals, its looks at all labels, what it finds and reads, and its commit.
use Rattle.std.specs.Prelude.{◌≡◌, ℕ, ◌+◌, nat_le, Bool, true, false, List, [], ◌∷◌, ◌++◌, length, Option, Some, None}
use Rattle.bank_core.specs.Disk.{Noted, run}
use Rattle.mp_base.specs.declared.place.Key.{Key}
use Rattle.label_store.specs.declared.found.Found.{Found}
use Rattle.txg_history.specs.Events.{Known}
use Rattle.txg_history.specs.Looks.{known_by}
use Rattle.txg_history.specs.Pages.{Codec}
use Rattle.pool_moves.specs.LineRows.{TurnReply, Committed, Suspended}
use Rattle.pool_moves.specs.Moves.{Move}
use Rattle.pool_moves.specs.OpeningRow.{SeekReply, NoRecord, NumbersEnd, TakesRecord, RowSeek, OpenReply, Opens_state, NoPage, RowOpen, RowResume, read_of}
use Rattle.pool_moves.specs.PageReads.{PageTurn, page_of, up_to}
use Rattle.pool_moves.specs.States.{PoolState}
use Rattle.pool_runs.specs.Acts.{Act, Seeks_by, Reads_pages, Marks, Looked, Shows, Reads_as, Enters, Closes, does, bare}
use Rattle.pool_runs.specs.Devices.{size_in, handed}
use Rattle.pool_runs.specs.Hosts.{Host, named, free_in}
use Rattle.pool_runs.specs.Knowing.{AreOwnActs}
use Rattle.pool_runs.specs.Lines.{Reply, To_import, Opened, NameOpen, TooManyPools, NothingFound, LastNumber, PageLost, Unopened}

-- what was read by these calls of single sectors
abbrev pub first_of : Option (List ℕ) → Option (List ℕ) → Option (List ℕ)
first_of (Some bytes) more = Some bytes
first_of None more = more

abbrev pub read_in : List Noted → Known
read_in [] d s = None
read_in (noted ∷ made) d s = first_of (read_of noted.call d s) (read_in made d s)

-- each of these devices shows an identity of the pool of this number
abbrev pub all_shown : (g : ℕ) → Known → List (Option ℕ) → List Act
all_shown g known [] = []
all_shown g known (None ∷ devs) = all_shown g known devs
all_shown g known (Some d ∷ devs) = Shows g d known ∷ all_shown g known devs

-- How its commit ends: the pool is open, as the commit leaves it; or the group was suspended, and it isn't.
abbrev pub OpensBy : TurnReply → (g : ℕ) → PoolState → List Move → List Act → Reply → Type 0
OpensBy (Committed number) g s vs acts reply = (acts ≡ Enters s ∷ does g vs) × (reply ≡ To_import (Opened number))
OpensBy (Suspended group top faults) g s vs acts reply = (acts ≡ Enters s ∷ (does g vs ++ (Closes g ∷ []))) × (reply ≡ To_import (Unopened group top faults))
OpensBy turn g s vs acts reply = ⊥

-- what follows the reading of the map: the commit, or nothing where a page was lost
abbrev pub FollowsMap : OpenReply → Codec → (size : ℕ → ℕ) → (g : ℕ) → List Act → Reply → Type 0
FollowsMap (Opens_state s) c size g acts reply = (vs : List Move) × (turn : TurnReply) × RowResume c size s vs turn × OpensBy turn g s vs acts reply
FollowsMap (NoPage page shown) c size g acts reply = (acts ≡ []) × (reply ≡ To_import (PageLost page shown))

-- Pages are read back, each with a mark behind its reads, and then more.
abbrev pub page_acts : (g : ℕ) → (bytes : Key → Option (List ℕ)) → List PageTurn → (more : List Act) → List Act
page_acts g bytes [] more = more
page_acts g bytes (turn ∷ turns) more = bare turn.reads ++ (Marks g (Reads_pages (up_to (page_of turn) bytes)) ∷ (bare turn.rewrites ++ page_acts g bytes turns more))

-- so is the map, and all that was found of it is marked
abbrev pub map_acts : (g : ℕ) → (bytes : Key → Option (List ℕ)) → List PageTurn → (last : List Noted) → (more : List Act) → List Act
map_acts g bytes turns last more = page_acts g bytes turns (bare last ++ (Marks g (Reads_pages bytes) ∷ more))

-- An opening reads the record that it found: it looks for the identities of the leaves on the devices that are no open pool's, each of which shows
-- whose its device is, marks what it read of them, then it reads the map, and commits.
pub record OpensFound (c : Codec) (h : Host) (name : List ℕ) (known : Known) (found : Found) (acts : List Act) (reply : Reply) : Type 0 where
  pub made : List Noted
  pub outcome : OpenReply
  pub row : RowOpen c (size_in h.table) (free_in h) name found made outcome
  pub rest : List Act
  pub follows : FollowsMap outcome c (size_in h.table) found.pool.0 rest reply
  pub are : acts ≡ Reads_as (record { name = name; known = known; found = found; devs = row.devs })
      ∷ (bare row.ids ++ (all_shown found.pool.0 (read_in row.ids) row.devs
      ++ (Marks found.pool.0 (Seeks_by row.ids row.devs) ∷ map_acts found.pool.0 row.bytes row.turns row.last rest)))
  pub own : AreOwnActs found.pool.0 h acts

-- by what the looks found
abbrev pub ImportBy : SeekReply → Codec → Host → (name : List ℕ) → Known → List Act → Reply → Type 0
ImportBy NoRecord c h name known acts reply = (acts ≡ []) × (reply ≡ To_import NothingFound)
ImportBy (NumbersEnd limit count) c h name known acts reply = (acts ≡ []) × (reply ≡ To_import (LastNumber limit count))
ImportBy (TakesRecord found) c h name known acts reply = OpensFound c h name known found acts reply

-- the host behind calls
abbrev pub host_behind : (made : List Noted) → Host → Host
host_behind made h = record h { disk = run made h.disk }

-- The labels of all devices that were found are read.
pub record Imports (c : Codec) (h : Host) (name : List ℕ) (acts : List Act) (reply : Reply) : Type 0 where
  pub free : named name h.pools ≡ None
  pub made : List Noted
  pub seek : SeekReply
  pub row : RowSeek c (size_in h.table) (handed h.table) name made seek
  pub rest : List Act
  pub follows : ImportBy seek c (host_behind made h) name (known_by (size_in h.table) (handed h.table) row.looks) rest reply
  pub are : acts ≡ bare made ++ (Looked name (known_by (size_in h.table) (handed h.table) row.looks) ∷ rest)

-- by the open pool of the name, and by whether the host has as many pools as it may
abbrev pub ImportFor : (full : Bool) → Codec → Host → (name : List ℕ) → List Act → Reply → Type 0
ImportFor true c h name acts reply = (acts ≡ []) × (reply ≡ To_import (TooManyPools 16 (length h.pools + 1)))
ImportFor false c h name acts reply = Imports c h name acts reply

abbrev pub ImportUnless : Option PoolState → Codec → Host → (name : List ℕ) → List Act → Reply → Type 0
ImportUnless (Some s) c h name acts reply = (acts ≡ []) × (reply ≡ To_import NameOpen)
ImportUnless None c h name acts reply = ImportFor (nat_le 16 (length h.pools)) c h name acts reply

-- `import`
abbrev pub RowImport : Codec → Host → (name : List ℕ) → List Act → Reply → Type 0
RowImport c h name acts reply = ImportUnless (named name h.pools) c h name acts reply
