-- The abstract machine: the state of a host, what a line answers in it and which device calls it makes,
-- and the entries of a history.
use Rattle.std.specs.Prelude.{◌≡◌, ℕ, ◌+◌, ◌*◌, ◌⊎◌, Bool, true, false, zero, suc, ◌==◌, ◌&&◌, ◌||◌, not, nat_le, nat_lt, List, [], ◌∷◌, ◌++◌, length, map, Option, Some, None, Result, Ok, Err, if◌then◌else◌}
use Rattle.std.specs.List.{flat_map}
use Rattle.std.specs.Str.{bytes_eq}
use Rattle.mp_base.specs.declared.refusal.LeafSeen.{LeafSeen}
use Rattle.mp_base.specs.declared.refusal.Refusal.{Refusal}
use Rattle.mp_base.specs.declared.refusal.Refusal.TheVariants as refusals
use Rattle.bank_core.specs.Asks.{Ask, asks_of}
use Rattle.bank_core.specs.Disk.{Noted}
use Rattle.pool_wire.specs.Text.{text_of}
use Rattle.group_set.specs.Ranges.{ranges_upto}
use Rattle.pool_wire.specs.declared.reply.LeafLog.{LeafLog}
use Rattle.pool_wire.specs.declared.reply.NamedLeaf.{NamedLeaf}
use Rattle.pool_wire.specs.declared.reply.Reply.{Reply}
use Rattle.pool_wire.specs.declared.reply.Reply.TheVariants as replies
use Rattle.pool_wire.specs.declared.request.Request.{Request}
use Rattle.pool_wire.specs.declared.request.Request.TheVariants as requests
use Rattle.vdev_tree.specs.declared.vdev.State.{State}
use Rattle.label_store.specs.declared.found.Found.{Found}
use Rattle.label_store.specs.Newest.{Parts, IsLook, IsBest, AreReads}
use Rattle.config_codec.specs.Fields.{Fields}
use Rattle.config_codec.specs.Reading.{config_in}
use Rattle.pool_history.specs.Records.{Rec}
use Rattle.pool_core.specs.Clash.{ClashesWith}
use Rattle.pool_core.specs.Away.{leaf_named, IsOffline, OnlinesLeaf}
use Rattle.pool_core.specs.Commits.{IsCommit, AreMade}
use Rattle.pool_core.specs.Done.{no_leaf}
use Rattle.pool_core.specs.Heads.{head_of}
use Rattle.pool_core.specs.Making.{made_state, pool_number}
use Rattle.pool_core.specs.Naming.{leaf_of}
use Rattle.pool_core.specs.Logs.{drawn}
use Rattle.pool_core.specs.Opening.{IsIdentified, found_state}
use Rattle.pool_core.specs.Outside.{Trouble, troubles, last_given}
use Rattle.pool_core.specs.Reading.{wanted, read_asks, read_answer}
use Rattle.pool_core.specs.State.{LeafState, Content, Known, PoolState, leaves, has_nobody, is_spent, last_number}
use Rattle.pool_core.specs.Syncing.{sync_plan, flush_plan, synced}
use Rattle.pool_core.specs.Writing.{put_answer}
use Rattle.host_machine.specs.declared.device.HostDevice.{HostDevice}
use Rattle.host_machine.specs.Devices.{all_handed, member_of, number_in, seat_of}
use Rattle.host_machine.specs.Records.{with_record, committed_in}

-- A host: its devices, how many sectors each device of its bank has, the records that its history drew up,
-- in earlier runs too, and the pool that is open.
pub record HostState : Type 0 where
  pub table : List HostDevice
  pub size : ℕ → ℕ
  pub records : List Rec
  pub pool : Option PoolState

-- a host as a run begins
abbrev pub started : List HostDevice → (ℕ → ℕ) → List Rec → HostState
started table size records = record { table = table; size = size; records = records; pool = None }

abbrev pub with_pool : HostState → PoolState → HostState
with_pool h s = record h { pool = Some s }

-- the open pool, where it has this name
abbrev pub named_pool : List ℕ → Option PoolState → Option PoolState
named_pool name None = None
named_pool name (Some s) = if bytes_eq s.name name then Some s else None

-- a call's result as a reply
abbrev pub reply_of : {A : Type 0} → (A → Reply) → Result A Refusal → Reply
reply_of shows (Ok x) = shows x
reply_of shows (Err refusal) = replies.Refused refusal

-- a line that makes no device call, and leaves this
abbrev pub Quietly : List Noted → HostState × Reply → HostState → Reply → Type 0
Quietly made outcome next reply = (made ≡ []) × ((next, reply) ≡ outcome)

abbrev pub refused : HostState → Refusal → HostState × Reply
refused h refusal = (h, replies.Refused refusal)

-- Behind a commit: where no call failed the pool is open as it was committed, else none is. Its record was
-- drawn up in either case.
abbrev pub commit_outcome : HostState → PoolState → (failed : ℕ) → HostState × Reply
commit_outcome h s zero = (record h { records = with_record s h.records; pool = Some s }, replies.Committed (record { 0 = s.number }))
commit_outcome h s (suc n) =
    (record h { records = with_record s h.records; pool = None }, replies.Refused (refusals.Suspended (record { 0 = s.number }) s.mirror (suc n)))

-- `create`. A volume has 1 to 262,144 blocks. Not built yet: a pool beside an open one, a volume of more than 32 blocks, and
-- members that aren't two usable devices.

abbrev pub is_bad_size : ℕ → Bool
is_bad_size blocks = (blocks == 0) || nat_lt 262144 blocks

abbrev pub both : Option ℕ → Option ℕ → Option (ℕ × ℕ)
both (Some d) (Some e) = Some (d, e)
both None e = None
both (Some d) None = None

abbrev pub new_seats : HostState → ℕ → (first second : List ℕ) → Option (ℕ × ℕ)
new_seats h blocks first second = seats h.pool
  where
    seats : Option PoolState → Option (ℕ × ℕ)
    seats (Some s) = None
    seats None =
        if nat_le blocks 32 && not (bytes_eq first second) then both (member_of first h.table) (member_of second h.table) else None

abbrev pub create_outcome : HostState → PoolState → Option LeafState → HostState × Reply
create_outcome h s None = (record h { records = with_record s h.records; pool = Some s }, replies.Committed (record { 0 = 1 }))
create_outcome h s (Some leaf) = (record h { records = with_record s h.records }, replies.DeviceFault leaf.name)

abbrev pub new_state : HostState → (second : ℕ) → (name : List ℕ) → (blocks : ℕ) → (first other : List ℕ) → (seats : ℕ × ℕ) → PoolState
new_state h second name blocks first other seats =
    made_state h.size name (pool_number name second) blocks (first, seats.0) (other, seats.1)

abbrev pub CreatesOn : HostState → (second : ℕ) → (name : List ℕ) → (blocks : ℕ) → (first other : List ℕ) → Option (ℕ × ℕ) → List Noted → HostState → Reply → Type 0
CreatesOn h second name blocks first other None made next reply = Quietly made (refused h refusals.NotBuilt) next reply
CreatesOn h second name blocks first other (Some seats) made next reply = (failed : Option LeafState)
    × AreMade h.size (new_state h second name blocks first other seats) seats made failed
    × ((next, reply) ≡ create_outcome h (new_state h second name blocks first other seats) failed)

-- where the number of blocks isn't bad
abbrev pub CreatesUnless : (bad : Bool) → HostState → (second : ℕ) → (name : List ℕ) → (blocks : ℕ) → (first other : List ℕ) → List Noted → HostState → Reply → Type 0
CreatesUnless true h second name blocks first other made next reply = Quietly made (refused h (refusals.BadAddress 262144)) next reply
CreatesUnless false h second name blocks first other made next reply =
    CreatesOn h second name blocks first other (new_seats h blocks first other) made next reply

abbrev pub IsCreate : HostState → (second : ℕ) → (name : List ℕ) → (blocks : ℕ) → (first other : List ℕ) → List Noted → HostState → Reply → Type 0
IsCreate h second name blocks first other made next reply = CreatesUnless (is_bad_size blocks) h second name blocks first other made next reply

-- `import`. The labels of all devices that are handed are read first. Not built yet: an opening beside an
-- open pool.

-- the devices of the leaves of a record, where they were found and have the room of the top
abbrev pub open_seats : HostState → Fields → Option ℕ × Option ℕ
open_seats h c = (seat_of c.first.name c.sectors h.table, seat_of c.second.name c.sectors h.table)

abbrev pub open_state : HostState → (config : List ℕ) → Fields → (found : Option ℕ × Option ℕ) → PoolState
open_state h config c found = found_state c (committed_in h.records config c) found.0 found.1

-- The record is committed again over the leaves that are readable, where there is one.
abbrev pub OpensIf : (nobody : Bool) → HostState → PoolState → List Noted → HostState → Reply → Type 0
OpensIf true h s made next reply = Quietly made (refused h (no_leaf s)) next reply
OpensIf false h s made next reply = (failed : ℕ) × IsCommit h.size (flush_plan s) (drawn s) made failed
    × ((next, reply) ≡ commit_outcome h (drawn s) failed)

-- the identities of the leaves that have a device are looked for, and the others are away
abbrev pub OpensOn : HostState → (config : List ℕ) → Fields → Option PoolState → List Noted → HostState → Reply → Type 0
OpensOn h config c (Some other) made next reply = Quietly made (refused h refusals.NotBuilt) next reply
OpensOn h config c None made next reply = (ids : List Noted) × (more : List Noted) × (found : Option ℕ × Option ℕ) × (made ≡ ids ++ more)
    × IsIdentified h.size c (open_seats h c) found ids × OpensIf (has_nobody (open_state h config c found)) h (open_state h config c found) more next reply

-- the number of the record is one of the last
abbrev pub OpensUnless : (spent : Bool) → HostState → (config : List ℕ) → Fields → List Noted → HostState → Reply → Type 0
OpensUnless true h config c made next reply = Quietly made (refused h (refusals.TreeFull last_number (c.number.0 + 1))) next reply
OpensUnless false h config c made next reply = OpensOn h config c h.pool made next reply

-- by the newest record of the name, where there is one
abbrev pub OpensBest : HostState → Option Found → List Noted → HostState → Reply → Type 0
OpensBest h None made next reply = Quietly made (refused h refusals.NoRecord) next reply
OpensBest h (Some found) made next reply = (c : Fields) × (config_in found.blob.items ≡ Some c)
    × OpensUnless (is_spent c.number.0) h found.blob.items c made next reply

pub record IsImport (h : HostState) (name : List ℕ) (made : List Noted) (next : HostState) (reply : Reply) : Type 0 where
  pub reads : List Noted
  pub more : List Noted
  pub all : made ≡ reads ++ more
  pub looks : List Parts
  pub look : IsLook h.size (all_handed h.table) looks reads
  pub best : Option Found
  pub is_best : IsBest head_of looks name (128 * length (all_handed h.table)) best
  pub opens : OpensBest h best more next reply

-- `write`
abbrev pub write_answer : HostState → Option PoolState → ℕ → List ℕ → HostState × Reply
write_answer h None a block = refused h refusals.NoPool
write_answer h (Some s) a block =
    let put = put_answer s a block in (with_pool h put.0, reply_of (λ done. replies.Done) put.1)

-- `read`. A leaf is shown with its name, where it is one of the pool's.
abbrev pub with_name : Option LeafState → LeafSeen → List NamedLeaf → List NamedLeaf
with_name None shown more = more
with_name (Some leaf) shown more = record { name = leaf.name; seen = shown.seen } ∷ more

abbrev pub named : List LeafState → List LeafSeen → List NamedLeaf
named leaves [] = []
named leaves (shown ∷ more) = with_name (leaf_of leaves shown.member) shown (named leaves more)

abbrev pub read_reply : List LeafState → Result (List ℕ) Refusal → Reply
read_reply leaves (Ok block) = replies.Data block
read_reply leaves (Err (refusals.Exhausted level index shown)) = replies.Exhausted level index (named leaves shown)
read_reply leaves (Err refusal) = replies.Refused refusal

abbrev pub read_line_answer : HostState → Option PoolState → ℕ → List (Option Trouble) → (given : List ℕ) → HostState × Reply
read_line_answer h None a outside given = refused h refusals.NoPool
read_line_answer h (Some s) a outside given = (h, read_reply (leaves s) (read_answer s a outside given))

abbrev pub read_line_asks : Option PoolState → ℕ → List (Option Trouble) → List Ask
read_line_asks None a outside = []
read_line_asks (Some s) a outside = read_asks s a outside

-- `sync`
abbrev pub SyncsUnless : (spent nobody : Bool) → HostState → PoolState → List Noted → HostState → Reply → Type 0
SyncsUnless true nobody h s made next reply = Quietly made (refused h (refusals.TreeFull last_number (s.number + 1))) next reply
SyncsUnless false true h s made next reply = Quietly made (refused h (no_leaf s)) next reply
SyncsUnless false false h s made next reply = (failed : ℕ) × IsCommit h.size (sync_plan s) (synced s) made failed
    × ((next, reply) ≡ commit_outcome h (synced s) failed)

abbrev pub IsSync : HostState → Option PoolState → List Noted → HostState → Reply → Type 0
IsSync h None made next reply = Quietly made (refused h refusals.NoPool) next reply
IsSync h (Some s) made next reply = SyncsUnless (is_spent s.number) (has_nobody s) h s made next reply

-- `offline`
abbrev pub OfflinesIn : HostState → Option PoolState → (name : List ℕ) → (temporary : Bool) → List Noted → HostState → Reply → Type 0
OfflinesIn h None name temporary made next reply = Quietly made (refused h refusals.NoPool) next reply
OfflinesIn h (Some s) name temporary made next reply = (left : PoolState) × (result : Result (Unit {0}) Refusal)
    × IsOffline s name temporary left result × Quietly made (with_pool h left, reply_of (λ done. replies.Done) result) next reply

-- `online`. A refusal that is the leaf's or its device's names the device.
abbrev pub online_reply : LeafState → Result State Refusal → Reply
online_reply leaf (Ok state) = replies.State state
online_reply leaf (Err (refusals.DeviceFault member)) = replies.DeviceFault leaf.name
online_reply leaf (Err (refusals.WrongLabel member)) = replies.WrongLabel leaf.name
online_reply leaf (Err refusal) = replies.Refused refusal

-- of a leaf whose device was found under this number, or wasn't
abbrev pub OnlinesOn : HostState → PoolState → LeafState → Option ℕ → List Noted → HostState → Reply → Type 0
OnlinesOn h s leaf None made next reply = Quietly made (h, replies.NoDevice leaf.name) next reply
OnlinesOn h s leaf (Some dev) made next reply = (left : PoolState) × (result : Result State Refusal)
    × OnlinesLeaf h.size s leaf dev made left result × (next ≡ with_pool h left) × (reply ≡ online_reply leaf result)

abbrev pub OnlinesNamed : HostState → PoolState → Option LeafState → List Noted → HostState → Reply → Type 0
OnlinesNamed h s None made next reply = Quietly made (refused h refusals.NoVdev) next reply
OnlinesNamed h s (Some leaf) made next reply = OnlinesOn h s leaf (number_in leaf.name h.table) made next reply

abbrev pub OnlinesIn : HostState → Option PoolState → (name : List ℕ) → List Noted → HostState → Reply → Type 0
OnlinesIn h None name made next reply = Quietly made (refused h refusals.NoPool) next reply
OnlinesIn h (Some s) name made next reply = OnlinesNamed h s (leaf_named name (leaves s)) made next reply

-- `logs`: the groups that each leaf owes, in rising ranges
abbrev pub shown_log : (number : ℕ) → LeafState → LeafLog
shown_log number leaf = record { name = leaf.name; log = ranges_upto leaf.owes number }

abbrev pub logs_answer : HostState → Option PoolState → HostState × Reply
logs_answer h None = refused h refusals.NoPool
logs_answer h (Some s) = (h, replies.Logs (map (shown_log s.number) (leaves s)))

-- the block that the reads of a line should give, so far as it is known
abbrev pub wanted_of : Option PoolState → ℕ → Content
wanted_of None a = Known []
wanted_of (Some s) a = wanted s a

abbrev pub line_wants : HostState → Option Request → Content
line_wants h None = Known []
line_wants h (Some requests.Nothing) = Known []
line_wants h (Some (requests.Create pool blocks first second)) = Known []
line_wants h (Some (requests.Import pool)) = Known []
line_wants h (Some (requests.Write pool a block)) = Known []
line_wants h (Some (requests.Read pool a)) = wanted_of (named_pool pool h.pool) a
line_wants h (Some (requests.Sync pool)) = Known []
line_wants h (Some (requests.Offline pool device temporary)) = Known []
line_wants h (Some (requests.Online pool device)) = Known []
line_wants h (Some (requests.Logs pool)) = Known []

-- An entry of a history: what a line asked, the second at which it was asked, the trouble that each of its
-- device calls met and what the last of them gave, and the reply.
pub record Entry : Type 0 where
  pub asked : Option Request
  pub second : ℕ
  pub outside : List (Option Trouble)
  pub given : List ℕ
  pub reply : Reply

-- The line made just the device calls that it has to make, and was answered as it has to be. A line that
-- asks nothing that is built is refused as such.
abbrev pub IsAnswered : HostState → Option Request → Entry → List Noted → HostState → Type 0
IsAnswered h None entry made next = Quietly made (refused h refusals.NotBuilt) next entry.reply
IsAnswered h (Some requests.Nothing) entry made next = Quietly made (h, replies.Done) next entry.reply
IsAnswered h (Some (requests.Create pool blocks first second)) entry made next =
    IsCreate h entry.second pool blocks first second made next entry.reply
IsAnswered h (Some (requests.Import pool)) entry made next = IsImport h pool made next entry.reply
IsAnswered h (Some (requests.Write pool a block)) entry made next =
    Quietly made (write_answer h (named_pool pool h.pool) a block) next entry.reply
IsAnswered h (Some (requests.Read pool a)) entry made next =
    (asks_of made ≡ read_line_asks (named_pool pool h.pool) a entry.outside)
    × ((next, entry.reply) ≡ read_line_answer h (named_pool pool h.pool) a entry.outside entry.given)
IsAnswered h (Some (requests.Sync pool)) entry made next = IsSync h (named_pool pool h.pool) made next entry.reply
IsAnswered h (Some (requests.Offline pool device temporary)) entry made next = OfflinesIn h (named_pool pool h.pool) device temporary made next entry.reply
IsAnswered h (Some (requests.Online pool device)) entry made next = OnlinesIn h (named_pool pool h.pool) device made next entry.reply
IsAnswered h (Some (requests.Logs pool)) entry made next = Quietly made (logs_answer h (named_pool pool h.pool)) next entry.reply

-- There was no memory: nothing changed, and no device was written.
pub record WantsMemory (old : HostState) (entry : Entry) (made : List Noted) (new : HostState) : Type 0 where
  pub reply : entry.reply ≡ replies.Refused refusals.Memory
  pub same : new ≡ old
  pub reads : AreReads made

-- The line is a read, and took wrong bytes for the block, since both have one sum.
pub record Clashes (old : HostState) (entry : Entry) (made : List Noted) (new : HostState) : Type 0 where
  pub name : List ℕ
  pub a : ℕ
  pub asked : entry.asked ≡ Some (requests.Read name a)
  pub same : new ≡ old
  pub reads : AreReads made
  pub clash : ClashesWith made (line_wants old entry.asked)

-- An entry is a step from one state to the next, with these device calls. What came from outside is
-- computed from them.
pub record Step (old : HostState) (entry : Entry) (made : List Noted) (new : HostState) : Type 0 where
  pub outside : entry.outside ≡ troubles (line_wants old entry.asked) made
  pub given : entry.given ≡ last_given made
  pub step : IsAnswered old entry.asked entry made new ⊎ (WantsMemory old entry made new ⊎ Clashes old entry made new)

-- The entries lead from one state to the other, step by step, with these device calls.
abbrev pub Replay : HostState → List Entry → List Noted → HostState → Type 0
Replay old [] calls new = (calls ≡ []) × (new ≡ old)
Replay old (entry ∷ entries) calls new =
    (made : List Noted) × (more : List Noted) × (between : HostState) × (calls ≡ made ++ more) × Step old entry made between × Replay between entries more new

-- the reply lines of these entries, each with its byte 10
abbrev pub texts : List Entry → List ℕ
texts entries = flat_map (λ entry. text_of entry.reply ++ 10 ∷ []) entries
