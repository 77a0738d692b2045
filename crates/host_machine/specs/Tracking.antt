-- How a pool of the history stands in a host of the machine.
use Rattle.std.specs.Prelude.{◌≡◌, ◌≢◌, ◌⊎◌, ℕ, ◌+◌, ◌≤◌, Bool, true, false, ◌||◌, is_some, List, [], ◌∷◌, Option, Some, None, ◌++◌, ◌*◌, length}
use Rattle.sha2.specs.Sha256.{sha256}
use Rattle.mp_base.specs.declared.number.Group.{Group}
use Rattle.mp_base.specs.declared.number.Guid.{Guid}
use Rattle.mp_base.specs.declared.refusal.Refusal.TheVariants as refusals
use Rattle.bank_core.specs.Disk.{Noted}
use Rattle.pool_wire.specs.declared.reply.Reply.{Reply}
use Rattle.pool_wire.specs.declared.reply.Reply.TheVariants as replies
use Rattle.pool_wire.specs.declared.request.Request.{Request}
use Rattle.pool_wire.specs.declared.request.Request.TheVariants as requests
use Rattle.label_store.specs.declared.found.Found.{Found}
use Rattle.label_store.specs.Newest.{Parts, IsLook, IsBest}
use Rattle.config_codec.specs.declared.config.LeafConfig.{LeafConfig}
use Rattle.config_codec.specs.Fields.{Fields}
use Rattle.config_codec.specs.Reading.{config_in}
use Rattle.pool_history.specs.Events.{Event, Calls, Accepts, Looks, Opens, Begins, Third, Ends, Acks, Loses, Stops, IsOneRun, calls_of}
use Rattle.pool_history.specs.Looks.{known_by}
use Rattle.pool_history.specs.Moves.{Mays}
use Rattle.pool_history.specs.Pools.{Pool, drawn, pool_after}
use Rattle.pool_history.specs.Premises.{AreGood}
use Rattle.pool_history.specs.Records.{Rec, Cell, IsIn, number_of, block_at}
use Rattle.pool_history.specs.Survival.{Survives}
use Rattle.pool_core.specs.Heads.{head_of}
use Rattle.pool_core.specs.Reading.{wanted}
use Rattle.pool_core.specs.Opening.{IsIdentified}
use Rattle.pool_core.specs.State.{LeafState, Known, PoolState}
use Rattle.host_machine.specs.declared.device.HostDevice.{HostDevice}
use Rattle.host_machine.specs.Devices.{all_handed, member_of, number_in}
use Rattle.host_machine.specs.Machine.{HostState, open_seats}
use Rattle.host_machine.specs.Records.{IsDrawn, owed_by, versions_of}

-- A leaf of a pool as its history knows it: its member number, the name of its device, and the number that this
-- device has in each run that finds it.
pub record Place : Type 0 where
  pub member : Guid
  pub name : List ℕ
  pub dev : ℕ

-- a leaf of an open pool is this one: its device, where it has one, has this number
abbrev pub IsAt : LeafState → Place → Type 0
IsAt leaf place = (leaf.member ≡ place.member) × (leaf.name ≡ place.name) × ((d : ℕ) → leaf.dev ≡ Some d → d ≡ place.dev)

-- so is a leaf of a record
abbrev pub IsPlaceOf : Place → LeafConfig → Type 0
IsPlaceOf place leaf = (leaf.member ≡ place.member) × (leaf.name ≡ place.name)

-- The pool is open, as this state: it reads the record that it acknowledged last, answers each address with what was
-- written there last, and each member's log has all that it has in that record.
pub record IsOpenAs (p : Pool) (s : PoolState) : Type 0 where
  pub name : s.name ≡ p.name
  pub pool : s.pool ≡ p.pool
  pub idle : p.idle ≡ true
  pub number : s.number ≡ p.top
  pub acked : s.number ≡ number_of p.acked
  pub committed : (a : ℕ) → s.committed a ≡ versions_of p.reads a
  pub written : (a : ℕ) → wanted s a ≡ Known (p.written a)
  pub grown : (d g : ℕ) → p.member d ≡ true → owed_by s (p.guid d) g ≡ false → p.reads.owes (p.guid d) g ≡ false

-- this device, where it is one, is a member's
abbrev pub is_member : Pool → Option ℕ → Bool
is_member p None = false
is_member p (Some d) = p.member d

-- no member of the pool but this one is left
abbrev pub IsAlone : Pool → (d : ℕ) → Type 0
IsAlone p d = (e : ℕ) → p.member e ≡ true → e ≡ d

-- some leaf of the open pool has a device
abbrev pub has_device : PoolState → Bool
has_device s = is_some s.first.dev || is_some s.second.dev

-- The open pool is another one, on other devices. Where it has the pool's name, it has a device, and a member that has
-- the name of one of its leaves is the last that the pool has left.
pub record IsElsewhere (p : Pool) (table : List HostDevice) (s : PoolState) : Type 0 where
  pub seated : s.name ≡ p.name → has_device s ≡ true
  pub first : is_member p s.first.dev ≡ false
  pub second : is_member p s.second.dev ≡ false
  pub alone_first : s.name ≡ p.name → (d : ℕ) → number_in s.first.name table ≡ Some d → p.member d ≡ true → IsAlone p d
  pub alone_second : s.name ≡ p.name → (d : ℕ) → number_in s.second.name table ≡ Some d → p.member d ≡ true → IsAlone p d

-- one of the open pool's devices is a member of the pool: then it is this pool that is open
abbrev pub is_ours : Pool → PoolState → Bool
is_ours p s = is_member p s.first.dev || is_member p s.second.dev

abbrev pub StandsIn : Pool → (first second : Place) → List HostDevice → Option PoolState → Type 0
StandsIn p first second table None = Unit {0}
StandsIn p first second table (Some s) = (IsAt s.first first × IsAt s.second second × IsOpenAs p s) ⊎ IsElsewhere p table s

-- The pool's members are on the devices of these two leaves, each of which has the same number in each run that finds
-- it, and the size that the pool knows; the machine knows each record that was drawn of it; and it is open, or it is
-- closed. A device of size 0 is missing in this run.
pub record Tracks (p : Pool) (h : HostState) : Type 0 where
  pub sizes : (d : ℕ) → 1 ≤ h.size d → p.size d ≡ h.size d
  pub first : Place
  pub second : Place
  pub apart : first.dev ≢ second.dev
  pub numbers : first.member.0 ≢ second.member.0
  pub members : (d : ℕ) → p.member d ≡ true → (d ≡ first.dev) ⊎ (d ≡ second.dev)
  pub first_guid : p.guid first.dev ≡ first.member
  pub second_guid : p.guid second.dev ≡ second.member
  pub first_number : (d : ℕ) → number_in first.name h.table ≡ Some d → d ≡ first.dev
  pub second_number : (d : ℕ) → number_in second.name h.table ≡ Some d → d ≡ second.dev
  pub known : (r : Rec) → IsIn r (drawn p) → 1 ≤ number_of r → IsIn r h.records
  pub own : (r : Rec) (c : Fields) → IsIn r (drawn p) → IsDrawn r c → (c.name ≡ p.name) × IsPlaceOf first c.first × IsPlaceOf second c.second
  pub stands : StandsIn p first second h.table h.pool

-- No two different blocks of these records have one sum.
pub record HasNoTwins (records : List Rec) : Type 0 where
  pub by : (r q : Rec) (a b : ℕ) (cell other : Cell) → IsIn r records → IsIn q records → r.cells a ≡ Some cell → q.cells b ≡ Some other
      → sha256 cell.block ≡ sha256 other.block → cell.block ≡ other.block

-- An opening found a record of another name, and this device has the identity of one of its leaves.
pub record OpensAnother (own : List ℕ) (h : HostState) (name : List ℕ) (made : List Noted) (d : ℕ) : Type 0 where
  pub other : name ≢ own
  pub reads : List Noted
  pub ids : List Noted
  pub more : List Noted
  pub all : made ≡ reads ++ (ids ++ more)
  pub looks : List Parts
  pub look : IsLook h.size (all_handed h.table) looks reads
  pub best : Found
  pub is_best : IsBest head_of looks name (128 * length (all_handed h.table)) (Some best)
  pub c : Fields
  pub config : config_in best.blob.items ≡ Some c
  pub found : Option ℕ × Option ℕ
  pub identified : IsIdentified h.size c (open_seats h c) found ids
  pub leaf : (found.0 ≡ Some d) ⊎ (found.1 ≡ Some d)

-- What a line may cost a pool: one of its devices; or that the premises of an opening are asked for; or a device that
-- comes back into the open pool.
pub data Cost : Type 0 where
  Device : (d : ℕ) → Cost
  Opening : Cost
  Brought : (d : ℕ) → Cost

-- a create takes its two devices
abbrev pub CreateTakes : (first second : List ℕ) → HostState → Cost → Type 0
CreateTakes first second h (Device d) = (member_of first h.table ≡ Some d) ⊎ (member_of second h.table ≡ Some d)
CreateTakes first second h Opening = ⊥
CreateTakes first second h (Brought d) = ⊥

-- an opening asks for the premises of its own pool, and takes the devices that it opens on from each other
abbrev pub ImportTakes : (own : List ℕ) → HostState → (name : List ℕ) → List Noted → Cost → Type 0
ImportTakes own h name made (Device d) = OpensAnother own h name made d
ImportTakes own h name made Opening = name ≡ own
ImportTakes own h name made (Brought d) = ⊥

-- a device that comes online in a pool of another name is taken
abbrev pub OnlineTakes : (own : List ℕ) → HostState → (name device : List ℕ) → Cost → Type 0
OnlineTakes own h name device (Device d) = (name ≢ own) × (number_in device h.table ≡ Some d)
OnlineTakes own h name device Opening = ⊥
OnlineTakes own h name device (Brought d) = number_in device h.table ≡ Some d

-- what a line costs the pool of this name
abbrev pub Takes : (own : List ℕ) → HostState → Option Request → List Noted → Cost → Type 0
Takes own h None made cost = ⊥
Takes own h (Some requests.Nothing) made cost = ⊥
Takes own h (Some (requests.Create pool blocks first second)) made cost = CreateTakes first second h cost
Takes own h (Some (requests.Import pool)) made cost = ImportTakes own h pool made cost
Takes own h (Some (requests.Write pool a block)) made cost = ⊥
Takes own h (Some (requests.Read pool a)) made cost = ⊥
Takes own h (Some (requests.Sync pool)) made cost = ⊥
Takes own h (Some (requests.Offline pool device temporary)) made cost = ⊥
Takes own h (Some (requests.Online pool device)) made cost = OnlineTakes own h pool device cost
Takes own h (Some (requests.Logs pool)) made cost = ⊥

-- These calls end in a look at the labels of all devices that are handed, and this is what was found.
pub record IsLooked (h : HostState) (calls : List Noted) (known : ℕ → ℕ → Option (List ℕ)) : Type 0 where
  pub earlier : List Noted
  pub reads : List Noted
  pub all : calls ≡ earlier ++ reads
  pub looks : List Parts
  pub look : IsLook h.size (all_handed h.table) looks reads
  pub known_is : known ≡ known_by h.size (all_handed h.table) looks

-- so it is at each opening's mark among these events, which come behind these calls
abbrev pub AreLooked : HostState → (calls : List Noted) → List Event → Type 0
AreLooked h calls [] = Unit {0}
AreLooked h calls (Calls noted ∷ vs) = AreLooked h (calls ++ noted ∷ []) vs
AreLooked h calls (Accepts a block ∷ vs) = AreLooked h calls vs
AreLooked h calls (Looks known ∷ vs) = IsLooked h calls known × AreLooked h calls vs
AreLooked h calls (Opens r ∷ vs) = AreLooked h calls vs
AreLooked h calls (Begins q ∷ vs) = AreLooked h calls vs
AreLooked h calls (Third q d ∷ vs) = AreLooked h calls vs
AreLooked h calls (Ends q d ∷ vs) = AreLooked h calls vs
AreLooked h calls (Acks q ∷ vs) = AreLooked h calls vs
AreLooked h calls (Loses d ∷ vs) = AreLooked h calls vs
AreLooked h calls (Stops sectors size ∷ vs) = AreLooked h calls vs

-- no opening is among these events
abbrev pub OpensNone : List Event → Type 0
OpensNone [] = Unit {0}
OpensNone (Calls noted ∷ vs) = OpensNone vs
OpensNone (Accepts a block ∷ vs) = OpensNone vs
OpensNone (Looks known ∷ vs) = ⊥
OpensNone (Opens r ∷ vs) = OpensNone vs
OpensNone (Begins q ∷ vs) = OpensNone vs
OpensNone (Third q d ∷ vs) = OpensNone vs
OpensNone (Ends q d ∷ vs) = OpensNone vs
OpensNone (Acks q ∷ vs) = OpensNone vs
OpensNone (Loses d ∷ vs) = OpensNone vs
OpensNone (Stops sectors size ∷ vs) = OpensNone vs

-- A device that was a member still is one, or it was taken; or it came online in a pool of the same name that is open
-- without any device of this one.
abbrev pub IsKept : (behind : Pool) → (Cost → Type 0) → (d : ℕ) → Type 0
IsKept behind IsTaken d = (behind.member d ≡ true) ⊎ (IsTaken (Device d) ⊎ IsTaken (Brought d))

-- But for those that were taken, only the last device of the pool goes.
abbrev pub LosesLast : (p behind : Pool) → (Cost → Type 0) → Type 0
LosesLast p behind IsTaken = (d e : ℕ) → p.member d ≡ true → p.member e ≡ true → behind.member d ≡ false → (e ≡ d) ⊎ (IsTaken (Device d) ⊎ IsTaken (Device e))

-- These calls led the machine from one host to the next. They are those of a history of the pool without a
-- stop. Its events exist whatever the pool is; it loses no device but one that was taken, or that came online in
-- an open pool of its name; and premises are asked for only where an opening of it was asked, where the calls looked
-- at all labels, and of what they found.
-- Where the pool stood in the old host, the events are moves that it may make, it stands in the new host as
-- they leave it, and while it has another device it loses none that wasn't taken.
pub record Follows (p : Pool) (h : HostState) (IsTaken : Cost → Type 0) (made : List Noted) (next : HostState) : Type 0 where
  pub vs : List Event
  pub calls : calls_of vs ≡ made
  pub one_run : IsOneRun vs
  pub devices : (next.table ≡ h.table) × (next.size ≡ h.size)
  pub looked : AreLooked h [] vs
  pub asked : OpensNone vs ⊎ IsTaken Opening
  pub keeps : (d : ℕ) → p.member d ≡ true → IsKept (pool_after vs p) IsTaken d
  pub safe : Tracks p h → HasNoTwins next.records → Survives head_of p → AreGood head_of p vs → Mays head_of p vs × Tracks (pool_after vs p) next
  pub last : Tracks p h → HasNoTwins next.records → Survives head_of p → AreGood head_of p vs → LosesLast p (pool_after vs p) IsTaken

-- The reply to an opening of the pool: never that there is no record; and where it opened, the record that
-- was found is live, at least as new as the acknowledged one, and each read answers its block.
pub record FindsPool (p : Pool) (reply : Reply) (next : HostState) : Type 0 where
  pub never : reply ≢ replies.Refused refusals.NoRecord
  pub found : (n : Group) → reply ≡ replies.Committed n → (r : Rec) × (s : PoolState) × IsIn r p.live × (n.0 ≡ number_of r + 1)
      × (number_of p.acked ≤ number_of r) × (next.pool ≡ Some s) × ((a : ℕ) → wanted s a ≡ Known (block_at r a))
