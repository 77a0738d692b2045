-- `create` as a row: its refusals, its stamps, and the pool that begins behind them.
use Rattle.std.specs.Prelude.{◌≡◌, ◌≢◌, ◌⊎◌, ℕ, ◌+◌, ◌≤◌, ◌==◌, ◌||◌, nat_lt, Bool, true, false, cond, List, [], ◌∷◌, ◌++◌, length, take, Option, Some, None}
use Rattle.std.specs.List.{AllByRecursion, list_any}
use Rattle.std.specs.Option.{is_some}
use Rattle.std.specs.Int.{to_be_bytes, from_be_bytes, w64}
use Rattle.std.specs.Str.{bytes_eq}
use Rattle.sha2.specs.Sha256.{sha256}
use Rattle.mp_base.specs.declared.number.Guid.{Guid}
use Rattle.txg_history.specs.Pages.{Codec}
use Rattle.pool_moves.specs.Moves.{Move}
use Rattle.pool_moves.specs.StampRow.{NewMember, NewLeaf, new_leaves, new_room, leaf_at, is_leaf_at, guid_of, top_of, AreDevicesApart, Stamp, AreStamps, new_state, CreateReply, Created, FaultOn, CommitsFirst}
use Rattle.pool_moves.specs.States.{PoolState}
use Rattle.pool_runs.specs.Acts.{Act, Birth, Names, Takes, Bears, Closes, does, bare}
use Rattle.pool_runs.specs.Devices.{Device, number_in, name_in, size_in}
use Rattle.pool_runs.specs.Hosts.{Host, IsOpen, named, holder, host_along}
use Rattle.pool_runs.specs.Knowing.{AreOwnActs}
use Rattle.pool_runs.specs.Lines.{Reply, To_create, To_refused, Refusal, NameTaken, TooMany, BadBlocks, NameTwice, UnknownDevice, InUse, TooSmall}

abbrev pub dev_or_none : Option ℕ → ℕ
dev_or_none None = 0
dev_or_none (Some d) = d

-- the devices that are named, under their numbers
abbrev pub members_of : List Device → (names : List (List ℕ)) → List NewMember
members_of table [] = []
members_of table (name ∷ names) = record { name = name; dev = dev_or_none (number_in name table) } ∷ members_of table names

abbrev pub tops_of : List Device → (tops : List (List (List ℕ))) → List (List NewMember)
tops_of table [] = []
tops_of table (names ∷ tops) = members_of table names ∷ tops_of table tops

-- the leaves of the mirrors that are asked for
abbrev pub leaves_of : List Device → (tops : List (List (List ℕ))) → List NewLeaf
leaves_of table tops = new_leaves (tops_of table tops)

-- The pool that begins behind the stamps.
abbrev pub new_birth : (name : List ℕ) → (pool : Guid) → (blocks : ℕ) → List Device → (tops : List (List (List ℕ))) → Birth
new_birth name pool blocks table tops = record {
  name = name;
  pool = pool;
  member = λ d. is_leaf_at (leaf_at d (leaves_of table tops));
  guid = λ d. guid_of (leaf_at d (leaves_of table tops));
  called = name_in table;
  size = size_in table;
  room = new_room (size_in table) (leaves_of table tops);
  home = λ d. top_of (leaf_at d (leaves_of table tops));
  state = new_state (size_in table) name pool blocks (tops_of table tops);
}

-- Refusals, each where its cause is, the first one of those that come.
abbrev pub or_else : Option Refusal → Option Refusal → Option Refusal
or_else (Some refusal) other = Some refusal
or_else None other = other

abbrev pub too_many : (limit count : ℕ) → Option Refusal
too_many limit count = cond (nat_lt limit count) (Some (TooMany limit count)) None

abbrev pub too_wide : (tops : List (List (List ℕ))) → Option Refusal
too_wide [] = None
too_wide (names ∷ tops) = or_else (too_many 8 (length names)) (too_wide tops)

abbrev pub all_names : (tops : List (List (List ℕ))) → List (List ℕ)
all_names [] = []
all_names (names ∷ tops) = names ++ all_names tops

abbrev pub has_twice : List (List ℕ) → Bool
has_twice [] = false
has_twice (name ∷ names) = list_any (bytes_eq name) names || has_twice names

abbrev pub unknown_by : Option ℕ → (name : List ℕ) → Option Refusal
unknown_by None name = Some (UnknownDevice name)
unknown_by (Some d) name = None

abbrev pub unknown : List Device → List (List ℕ) → Option Refusal
unknown table [] = None
unknown table (name ∷ names) = or_else (unknown_by (number_in name table) name) (unknown table names)

-- the open pool whose the device is is named
abbrev pub used_by : Option PoolState → Option Refusal
used_by None = None
used_by (Some s) = Some (InUse s.core.name)

abbrev pub used : List PoolState → List NewLeaf → Option Refusal
used pools [] = None
used pools (leaf ∷ leaves) = or_else (used_by (holder leaf.name leaf.dev pools)) (used pools leaves)

abbrev pub too_small : List Device → List NewLeaf → Option Refusal
too_small table [] = None
too_small table (leaf ∷ leaves) = or_else (cond (nat_lt (size_in table leaf.dev) 320) (Some (TooSmall 320 (size_in table leaf.dev))) None) (too_small table leaves)

abbrev pub refused_if : Bool → Refusal → Option Refusal
refused_if true refusal = Some refusal
refused_if false refusal = None

abbrev pub first_some : List (Option Refusal) → Option Refusal
first_some [] = None
first_some (refusal ∷ more) = or_else refusal (first_some more)

abbrev pub refusals_of : Host → (name : List ℕ) → (blocks : ℕ) → (tops : List (List (List ℕ))) → List (Option Refusal)
refusals_of h name blocks tops =
    refused_if (is_some (named name h.pools)) NameTaken
    ∷ too_many 16 (length h.pools + 1)
    ∷ too_many 8 (length tops)
    ∷ too_wide tops
    ∷ too_many 32 (length (all_names tops))
    ∷ refused_if ((blocks == 0) || nat_lt 262144 blocks) (BadBlocks 262144)
    ∷ refused_if (has_twice (all_names tops)) NameTwice
    ∷ unknown h.table (all_names tops)
    ∷ used h.pools (leaves_of h.table tops)
    ∷ too_small h.table (leaves_of h.table tops)
    ∷ []

abbrev pub create_refusal : Host → (name : List ℕ) → (blocks : ℕ) → (tops : List (List (List ℕ))) → Option Refusal
create_refusal h name blocks tops = first_some (refusals_of h name blocks tops)

-- the acts of these stamps: each takes its device as it begins
abbrev pub stamp_acts : (g : ℕ) → List Stamp → List Act
stamp_acts g [] = []
stamp_acts g (stamp ∷ stamps) = Takes g stamp.dev ∷ (bare stamp.made ++ stamp_acts g stamps)

-- the number of a pool: the first eight bytes of the sum of its name and of the second at which it is made
unfoldable pub pool_sum : (name : List ℕ) → (second : ℕ) → ℕ
pool_sum name second = from_be_bytes w64 (take 8 (sha256 (name ++ to_be_bytes w64 second)))

-- but never 0
abbrev pub pool_number : (name : List ℕ) → (second : ℕ) → Guid
pool_number name second = record { 0 = cond (pool_sum name second == 0) 1 (pool_sum name second) }

-- What each create has that isn't refused: its pool's number by its name and the last second, a mirror, at least one device for each, and its leaves
-- on devices of their own.
pub record MayCreate (h : Host) (name : List ℕ) (blocks : ℕ) (tops : List (List (List ℕ))) (pool : Guid) : Type 0 where
  pub none : create_refusal h name blocks tops ≡ None
  pub number : pool ≡ pool_number name h.second
  pub one : 1 ≤ length tops
  pub some : AllByRecursion (λ names. 1 ≤ length names) tops
  pub apart : AreDevicesApart (leaves_of h.table tops)

-- A stamp failed: no pool begins.
pub record FailsStamp (h : Host) (name : List ℕ) (blocks : ℕ) (tops : List (List (List ℕ))) (acts : List Act) (reply : Reply) : Type 0 where
  pub pool : Guid
  pub may : MayCreate h name blocks tops pool
  pub stamps : List Stamp
  pub leaf : NewLeaf
  pub are : AreStamps (size_in h.table) pool (leaves_of h.table tops) stamps (Some leaf)
  pub all : acts ≡ Names pool.0 ∷ stamp_acts pool.0 stamps
  pub own : AreOwnActs pool.0 h acts
  pub says : reply ≡ To_create (FaultOn leaf.name)

-- how the first commit ends: where a leaf failed in it, there is no pool
abbrev pub commit_acts : CreateReply → (g : ℕ) → List Move → List Act
commit_acts Created g vs = does g vs
commit_acts (FaultOn device) g vs = does g vs ++ (Closes g ∷ [])

-- All stamps are whole: a pool begins, and record 1 is committed by one round.
pub record Creates (c : Codec) (h : Host) (name : List ℕ) (blocks : ℕ) (tops : List (List (List ℕ))) (acts : List Act) (reply : Reply) : Type 0 where
  pub pool : Guid
  pub may : MayCreate h name blocks tops pool
  pub stamps : List Stamp
  pub are : AreStamps (size_in h.table) pool (leaves_of h.table tops) stamps None
  pub moves : List Move
  pub answer : CreateReply
  pub row : CommitsFirst c (size_in h.table) (new_state (size_in h.table) name pool blocks (tops_of h.table tops)) moves answer
  pub all : acts ≡ Names pool.0 ∷ (stamp_acts pool.0 stamps ++ (Bears (new_birth name pool blocks h.table tops) ∷ commit_acts answer pool.0 moves))
  pub own : AreOwnActs pool.0 h acts
  pub says : reply ≡ To_create answer

-- the host behind the stamps
abbrev pub host_stamped : Host → (g : ℕ) → List Stamp → Host
host_stamped h g stamps = host_along (stamp_acts g stamps) h

-- `create`
abbrev pub RowCreate : Codec → Host → (name : List ℕ) → (blocks : ℕ) → (tops : List (List (List ℕ))) → List Act → Reply → Type 0
RowCreate c h name blocks tops acts reply = ((refusal : Refusal) × (create_refusal h name blocks tops ≡ Some refusal) × (acts ≡ []) × (reply ≡ To_refused refusal))
    ⊎ (FailsStamp h name blocks tops acts reply ⊎ Creates c h name blocks tops acts reply)

-- The pool number of a create is no open pool's, and no two names of the host have one device, as its look-ups leave it.
pub record IsNew (h : Host) (g : ℕ) : Type 0 where
  pub number : (s : PoolState) → IsOpen s h.pools → s.core.pool.0 ≢ g
  pub names : (name : List ℕ) (d : ℕ) → number_in name h.table ≡ Some d → name_in h.table d ≡ name
