-- Acts: what a host does, one small step after another. A line is a list of acts, and all else is a function of that list: the
-- host behind it, and the history of each pool.
use Rattle.std.specs.Prelude.{ℕ, ◌==◌, ◌&&◌, Bool, cond, Option, List, [], ◌∷◌, ◌++◌, map}
use Rattle.std.specs.Str.{bytes_eq}
use Rattle.mp_base.specs.declared.number.Guid.{Guid}
use Rattle.mp_base.specs.declared.place.Key.{Key}
use Rattle.bank_core.specs.Disk.{Noted, Sectors}
use Rattle.label_store.specs.declared.found.Found.{Found}
use Rattle.label_store.specs.Rounds.{config_of}
use Rattle.txg_history.specs.Events.{Event, Known, Calls, Looks, Opens, Loses, as_events}
use Rattle.txg_history.specs.Pools.{Pool, pool_after, stamped}
use Rattle.txg_history.specs.Records.{Rec, number_of}
use Rattle.pool_moves.specs.Moves.{Move, events_of}
use Rattle.pool_moves.specs.ReadRow.{ReadReply, made_in}
use Rattle.pool_moves.specs.States.{PoolState}

-- What an opening reads: the name that was asked, what its looks showed, the record that it found, and the devices on which it finds the record's leaves.
pub record Opening : Type 0 where
  pub name : List ℕ
  pub known : Known
  pub found : Found
  pub devs : List (Option ℕ)

-- A pool that begins behind its stamps: its members with their numbers, the names of the devices, their sectors, its tops' rooms,
-- under which top each member stands, and its state.
pub record Birth : Type 0 where
  pub name : List ℕ
  pub pool : Guid
  pub member : ℕ → Bool
  pub guid : ℕ → Guid
  pub called : ℕ → List ℕ
  pub size : ℕ → ℕ
  pub room : ℕ → ℕ
  pub home : ℕ → ℕ
  pub state : PoolState

-- What a line marks of what it read: it gives this reply for block a, and may rewrite copies from here on; a step of a scan made these
-- calls in all, and may write copies from here on; it looks for identities by these calls, and takes these devices for its leaves; or these are
-- the bytes that it found of a map's pages so far, and it may rewrite copies of the last one from here on.
pub data Mark : Type 0 where
  Gives_for : (a : ℕ) (reply : ReadReply) → Mark
  Steps_by : (made : List Noted) → Mark
  Seeks_by : (made : List Noted) (found : List (Option ℕ)) → Mark
  Reads_pages : (bytes : Key → Option (List ℕ)) → Mark

pub data Act : Type 0 where
  -- the clock gave this second
  Hears : (second : ℕ) → Act
  -- a device call before it is known whose it is
  Bare : (noted : Noted) → Act
  -- the open pool of this number makes a move
  Does : (g : ℕ) (v : Move) → Act
  -- a line of the open pool of this number marks this
  Marks : (g : ℕ) (mark : Mark) → Act
  -- an opening by this name has read the labels
  Looked : (name : List ℕ) (known : Known) → Act
  -- by what was read of its rings, this device has an identity of the pool of this number
  Shows : (g d : ℕ) (known : Known) → Act
  -- an opening reads the record that it found
  Reads_as : (opening : Opening) → Act
  -- a pool is open, as this state
  Enters : (s : PoolState) → Act
  -- a create begins under this pool number
  Names : (g : ℕ) → Act
  -- a stamp of the pool of this number begins on this device
  Takes : (g d : ℕ) → Act
  -- a pool begins behind its stamps
  Bears : (birth : Birth) → Act
  -- the pool of this number is open no more
  Closes : (g : ℕ) → Act

-- the pool's open state makes these moves
abbrev pub does : (g : ℕ) → List Move → List Act
does g vs = map (Does g) vs

-- bare calls
abbrev pub bare : List Noted → List Act
bare made = map Bare made

-- the device calls of an act, and of acts
abbrev pub calls_of_act : Act → List Noted
calls_of_act (Bare noted) = noted ∷ []
calls_of_act (Does g v) = made_in (v ∷ [])
calls_of_act act = []

abbrev pub calls_along : List Act → List Noted
calls_along [] = []
calls_along (act ∷ acts) = calls_of_act act ++ calls_along acts

-- the live record of this configuration and number
abbrev pub is_record_of : Found → Rec → Bool
is_record_of found r = bytes_eq found.blob.items (config_of r.commit) && (found.number.0 == number_of r)

abbrev pub record_of : Found → (live : List Rec) → (otherwise : Rec) → Rec
record_of found [] otherwise = otherwise
record_of found (r ∷ live) otherwise = cond (is_record_of found r) r (record_of found live otherwise)

-- what an opening reads of a pool
abbrev pub read_by : Opening → Pool → Rec
read_by opening p = record_of opening.found p.live p.reads

-- What the history of a pool gets of an act: each device call; the moves of its own open state; what openings by its name looked at;
-- what an opening of it reads; and each device that another pool stamps.
abbrev pub events_for : Act → Pool → List Event
events_for (Bare noted) p = Calls noted ∷ []
events_for (Does g v) p = cond (p.pool.0 == g) (events_of v p) (as_events (made_in (v ∷ [])))
events_for (Looked name known) p = cond (bytes_eq p.name name) (Looks known ∷ []) []
events_for (Reads_as opening) p = cond (p.pool.0 == opening.found.pool.0) (Opens (read_by opening p) ∷ []) []
events_for (Takes g d) p = cond (p.pool.0 == g) [] (Loses d ∷ [])
events_for act p = []

-- the pool behind an act, and behind acts
abbrev pub pool_by : Act → Pool → Pool
pool_by act p = pool_after (events_for act p) p

abbrev pub pool_along : List Act → Pool → Pool
pool_along [] p = p
pool_along (act ∷ acts) p = pool_along acts (pool_by act p)

-- the history that acts make of a pool
abbrev pub history : List Act → Pool → List Event
history [] p = []
history (act ∷ acts) p = events_for act p ++ history acts (pool_by act p)

-- a pool as it begins on these sectors
abbrev pub born : Birth → Sectors → Pool
born b sectors = stamped b.name b.pool b.member b.guid b.size b.room b.home sectors
