-- A line's device calls are on devices that the bank has, but for those of a line that only read and changed nothing.
use Rattle.std.proofs.Common.{◌≡◌, ◌⊎◌, ℕ, zero, suc, ◌+◌, ◌≤◌, Bool, true, false, List, [], ◌∷◌, ◌++◌, take, Option, Some, None, Result, Ok, Err, refl, sym, ap, ◌∙◌, subst, arith, inl, inr}
use Rattle.std.specs.Prelude.{nat_le, nat_lt, slice_get, if◌then◌else◌}
use Rattle.std.specs.List.{flat_map}
use Rattle.std.proofs.lemmas.Bool.{leb-true}
use Rattle.mp_base.specs.declared.number.Guid.{Guid}
use Rattle.bank_core.specs.declared.bank.Fault.{Fault}
use Rattle.bank_core.specs.Asks.{Ask, Flushes, ask_of, asks_of, IsPart}
use Rattle.bank_core.specs.Calls.{device_of}
use Rattle.bank_core.specs.Disk.{Call, Noted}
use Rattle.config_codec.specs.declared.config.LeafConfig.{LeafConfig}
use Rattle.config_codec.specs.Fields.{Fields}
use Rattle.label_store.specs.declared.found.Found.{Found}
use Rattle.label_store.specs.declared.member.Member.{Member}
use Rattle.label_store.specs.Identities.{AreMisses, IsSearch, rings_of}
use Rattle.label_store.specs.Layout.{labels_of, even_labels, odd_labels, config_offset, ring_offset, slot_of}
use Rattle.label_store.specs.Newest.{Parts, IsLook, AreReads, label_asks}
use Rattle.label_store.specs.Phases.{IsTurn, IsPhase}
use Rattle.label_store.specs.Plans.{label_writes, config_plan, ring_plan, stamp_plan, blank_uberblock, zero_ring}
use Rattle.label_store.specs.Rounds.{Commit, IsRound, first_plan, second_plan, third_plan, uberblock_of}
use Rattle.label_store.specs.declared.uberblock.Uberblock.{Uberblock}
use Rattle.label_store.specs.Uberblock.{uberblock_bytes}
use Rattle.mp_base.specs.declared.refusal.Refusal.{Refusal}
use Rattle.vdev_tree.specs.declared.vdev.State.{State}
use Rattle.pool_wire.specs.declared.reply.Reply.{Reply}
use Rattle.pool_wire.specs.declared.request.Request.{Request}
use Rattle.pool_wire.specs.declared.request.Request.TheVariants as requests
use Rattle.pool_core.specs.Away.{OnlinesLeaf, is_away, leaf_named}
use Rattle.pool_core.specs.Commits.{IsCommit, IsRoundBehind, IsStampedFirst, FirstRound, AreMade}
use Rattle.pool_core.specs.Logs.{drawn}
use Rattle.pool_core.specs.Opening.{IsLooked, IsIdentified}
use Rattle.pool_core.specs.Outside.{Trouble}
use Rattle.pool_core.specs.Reading.{Source, Memory, Hole, Copies, source_at, asks_to, asks_from, tries}
use Rattle.pool_core.specs.Recorded.{commit_of}
use Rattle.pool_core.specs.State.{LeafState, PoolState, leaves, board, has_nobody, is_spent, data_start, seat_of}
use Rattle.pool_core.specs.Syncing.{flush_plan, sync_plan, synced}
use Rattle.host_machine.specs.Answering.{IsExcused}
use Rattle.host_machine.specs.Devices.{all_handed, number_in}
use Rattle.host_machine.specs.Fitness.{IsFitLeaf, IsFitPool, PoolIsFit, IsFit}
use Rattle.host_machine.specs.Machine.{HostState, Entry, Step, IsAnswered, WantsMemory, Clashes, IsSync, SyncsUnless, named_pool, is_bad_size, new_seats, new_state, CreatesOn, CreatesUnless, IsImport, OpensIf, OpensOn, OpensUnless, OpensBest, open_seats, open_state, read_line_asks, OfflinesIn, OnlinesIn, OnlinesNamed, OnlinesOn}
use Rattle.host_machine.proofs.HostSeats.{handed_room, seat_room, member_room, found_seated, identified_found}
use Rattle.host_machine.proofs.Boards.{seat_is}
use Rattle.host_machine.proofs.Members.{AllOf, all_mapped, tries_all}
use Rattle.host_machine.proofs.NewStates.{new_seats_found}
use Rattle.host_machine.proofs.QuietLines.{named_is}
use Rattle.host_machine.proofs.Rising.{AreOn, dev_asked, device_asked, on_more, sync_over, flush_over, drawn_board}

-- each of these calls is on such a device
abbrev pub AreCallsOn : (ℕ → Type 0) → List Noted → Type 0
AreCallsOn P [] = Unit {0}
AreCallsOn P (noted ∷ made) = P (device_of noted.call) × AreCallsOn P made

calls_more : (P : ℕ → Type 0) (first second : List Noted) → AreCallsOn P first → AreCallsOn P second → AreCallsOn P (first ++ second)
calls_more P [] second a b = b
calls_more P (noted ∷ first) second a b = (a.0, calls_more P first second a.1 b)

none_on : (P : ℕ → Type 0) (made : List Noted) → made ≡ [] → AreCallsOn P made
none_on P made none = subst (AreCallsOn P) (sym none) tt

call_on : (P : ℕ → Type 0) (call : Call) (ask : Ask) → ask_of call ≡ ask → P (dev_asked ask) → P (device_of call)
call_on P call ask is on = subst P (sym (device_asked call ∙ ap dev_asked is)) on

asked_on : (P : ℕ → Type 0) (made : List Noted) → AreOn P (asks_of made) → AreCallsOn P made
asked_on P [] on = tt
asked_on P (noted ∷ made) on = (call_on P noted.call (ask_of noted.call) refl on.0, asked_on P made on.1)

part_on : (P : ℕ → Type 0) (asks : List Ask) (made : List Noted) (outcome : Option Fault) → AreOn P asks → IsPart asks made outcome → AreCallsOn P made
part_on P [] [] outcome on p = tt
part_on P [] (noted ∷ made) outcome on p = absurd p
part_on P (ask ∷ asks) [] outcome on p = tt
part_on P (ask ∷ asks) (noted ∷ made) outcome on (is, inl (ok, more)) = (call_on P noted.call ask is on.0, part_on P asks made outcome on.1 more)
part_on P (ask ∷ asks) (noted ∷ made) outcome on (is, inr (fault, failed, none, end)) = (call_on P noted.call ask is on.0, none_on P made none)

turn_on : (P : ℕ → Type 0) (asks : List Ask) (was is : Bool) (made : List Noted) → AreOn P asks → IsTurn asks was is made → AreCallsOn P made
turn_on P asks true is made on t = part_on P asks made t.0 on t.1
turn_on P asks false is made on t = none_on P made t.0

phase_on : (P : ℕ → Type 0) (plan : Member → List Ask) (ms : List Member) (was is : List Bool) (made : List Noted) → ((m : Member) → P m.dev → AreOn P (plan m))
    → AllOf (λ (m : Member). P m.dev) ms → IsPhase plan ms was is made → AreCallsOn P made
phase_on P plan [] [] [] made on seats ph = none_on P made ph
phase_on P plan [] [] (c ∷ is) made on seats ph = absurd ph
phase_on P plan [] (b ∷ was) is made on seats ph = absurd ph
phase_on P plan (m ∷ ms) [] is made on seats ph = absurd ph
phase_on P plan (m ∷ ms) (b ∷ was) [] made on seats ph = absurd ph
phase_on P plan (m ∷ ms) (b ∷ was) (c ∷ is) made on seats ph =
    subst (AreCallsOn P) (sym ph.2) (calls_more P ph.0 ph.1 (turn_on P (plan m) b c ph.0 (on m seats.0) ph.3) (phase_on P plan ms was is ph.1 on seats.1 ph.4))

writes_on : (P : ℕ → Type 0) (dev : ℕ) (labels : List ℕ) (offset : ℕ) (bytes : List ℕ) → P dev → AreOn P (label_writes dev labels offset bytes)
writes_on P dev [] offset bytes on = tt
writes_on P dev (at ∷ labels) offset bytes on = (on, writes_on P dev labels offset bytes on)

config_on : (P : ℕ → Type 0) (dev : ℕ) (labels : List ℕ) (config : List ℕ) → P dev → AreOn P (config_plan dev labels config)
config_on P dev labels config on = on_more P (label_writes dev labels config_offset config) (Flushes dev ∷ []) (writes_on P dev labels config_offset config on) (on, tt)

ring_on : (P : ℕ → Type 0) (dev size : ℕ) (u : Uberblock) → P dev → AreOn P (ring_plan dev size u)
ring_on P dev size u on =
    on_more P (label_writes dev (labels_of size) (ring_offset + slot_of u.number.0) (uberblock_bytes u)) (Flushes dev ∷ [])
    (writes_on P dev (labels_of size) (ring_offset + slot_of u.number.0) (uberblock_bytes u) on) (on, tt)

stamp_on : (P : ℕ → Type 0) (dev size : ℕ) (pool member : Guid) → P dev → AreOn P (stamp_plan dev size pool member)
stamp_on P dev size pool member on =
    on_more P (label_writes dev (labels_of size) ring_offset zero_ring) (ring_plan dev size (blank_uberblock pool member))
    (writes_on P dev (labels_of size) ring_offset zero_ring on) (ring_on P dev size (blank_uberblock pool member) on)

round_on : (P : ℕ → Type 0) (size : ℕ → ℕ) (commit : Commit) (ms : List Member) (results : List Bool) (made : List Noted) → AllOf (λ (m : Member). P m.dev) ms
    → IsRound size commit ms results made → AreCallsOn P made
round_on P size commit ms results made seats r =
    subst (AreCallsOn P) (sym r.all)
    (calls_more P r.first (r.second ++ r.third)
    (phase_on P (first_plan size commit) ms _ r.in_first r.first (λ m on. config_on P m.dev (even_labels (size m.dev)) commit.blob on) seats r.configs)
    (calls_more P r.second r.third
    (phase_on P (second_plan size commit) ms r.in_first r.in_second r.second (λ m on. ring_on P m.dev (size m.dev) (uberblock_of commit m) on) seats r.uberblocks)
    (phase_on P (third_plan size commit) ms r.in_second results r.third (λ m on. config_on P m.dev (odd_labels (size m.dev)) commit.blob on) seats r.copies)))

commit_on : (P : ℕ → Type 0) (size : ℕ → ℕ) (plan : List Ask) (s : PoolState) (made : List Noted) (failed : ℕ) → AreOn P plan → AllOf (λ (m : Member). P m.dev) (board s)
    → IsCommit size plan s made failed → AreCallsOn P made
commit_on P size plan s made failed on seats commit =
    subst (AreCallsOn P) (sym commit.all) (calls_more P commit.before commit.round (part_on P plan commit.before commit.outcome on commit.part) (by commit.outcome commit.behind))
  where
    by : (outcome : Option Fault) → IsRoundBehind size s outcome commit.round failed → AreCallsOn P commit.round
    by None (results, round, is) = round_on P size (commit_of s) (board s) results commit.round seats round
    by (Some fault) (none, is) = none_on P commit.round none

-- the calls of a stamp, and those behind it
stamped_on : (P : ℕ → Type 0) (size : ℕ → ℕ) (s : PoolState) (leaf : LeafState) (dev : ℕ) (made : List Noted) (failed : Option LeafState) (Then : List Noted → Type 0) → P dev
    → ((rest : List Noted) → Then rest → AreCallsOn P rest) → IsStampedFirst size s leaf dev made failed Then → AreCallsOn P made
stamped_on P size s leaf dev made failed Then on later (mine, rest, None, all, part, behind) =
    subst (AreCallsOn P) (sym all) (calls_more P mine rest (part_on P (stamp_plan dev (size dev) s.pool leaf.member) mine None (stamp_on P dev (size dev) s.pool leaf.member on) part) (later rest behind))
stamped_on P size s leaf dev made failed Then on later (mine, rest, Some fault, all, part, behind) =
    subst (AreCallsOn P) (sym all)
    (calls_more P mine rest (part_on P (stamp_plan dev (size dev) s.pool leaf.member) mine (Some fault) (stamp_on P dev (size dev) s.pool leaf.member on) part) (none_on P rest behind.0))

made_on : (P : ℕ → Type 0) (size : ℕ → ℕ) (s : PoolState) (seats : ℕ × ℕ) (made : List Noted) (failed : Option LeafState) → P seats.0 → P seats.1
    → AllOf (λ (m : Member). P m.dev) (board s) → AreMade size s seats made failed → AreCallsOn P made
made_on P size s seats made failed one other both is =
    stamped_on P size s s.first seats.0 made failed (λ rest. IsStampedFirst size s s.second seats.1 rest failed (λ more. FirstRound size s more failed)) one
    (λ rest. stamped_on P size s s.second seats.1 rest failed (λ more. FirstRound size s more failed) other
    (λ more r. round_on P size (commit_of s) (board s) r.0 more both r.1)) is

-- The calls of an opening.

label_on : (P : ℕ → Type 0) (dev : ℕ) (labels : List ℕ) → P dev → AreOn P (flat_map (label_asks dev) labels)
label_on P dev [] on = tt
label_on P dev (at ∷ labels) on = (on, (on, label_on P dev labels on))

look_on : (P : ℕ → Type 0) (size : ℕ → ℕ) (devs : List ℕ) (looks : List Parts) (made : List Noted) → ((i d : ℕ) → slice_get devs i ≡ Some d → P d)
    → IsLook size devs looks made → AreCallsOn P made
look_on P size [] [] made on look = none_on P made look
look_on P size [] (parts ∷ looks) made on look = absurd look
look_on P size (dev ∷ devs) [] made on look = absurd look
look_on P size (dev ∷ devs) (parts ∷ looks) made on (mine, rest, all, asks, given, more) =
    subst (AreCallsOn P) (sym all)
    (calls_more P mine rest (asked_on P mine (subst (AreOn P) (sym asks) (label_on P dev (labels_of (size dev)) (on zero dev refl))))
    (look_on P size devs looks rest (λ i d at. on (suc i) d at) more))

misses_on : (P : ℕ → Type 0) (pool member : Guid) (dev : ℕ) (rings : List ℕ) (made : List Noted) → P dev → AreMisses pool member dev rings made → AreCallsOn P made
misses_on P pool member dev [] made on m = none_on P made m
misses_on P pool member dev (at ∷ rings) [] on m = absurd m
misses_on P pool member dev (at ∷ rings) (noted ∷ made) on m = (call_on P noted.call _ m.0 on, misses_on P pool member dev rings made on m.2)

search_on : (P : ℕ → Type 0) (pool member : Guid) (dev size : ℕ) (made : List Noted) (result : Result Bool Fault) → P dev → IsSearch pool member dev size made result → AreCallsOn P made
search_on P pool member dev size made (Ok true) on s =
    subst (AreCallsOn P) (sym s.all)
    (calls_more P s.misses (s.hit ∷ []) (misses_on P pool member dev (take s.before (rings_of size)) s.misses on s.are_misses) (call_on P s.hit.call _ s.ask on, tt))
search_on P pool member dev size made (Ok false) on s = misses_on P pool member dev (rings_of size) made on s.0
search_on P pool member dev size made (Err fault) on s = misses_on P pool member dev (rings_of size) made on s.0

-- each device of these is such a one
abbrev IsSuch : (ℕ → Type 0) → Option ℕ → Type 0
IsSuch P dev = (d : ℕ) → dev ≡ Some d → P d

looked_on : (P : ℕ → Type 0) (c : Fields) (leaf : LeafConfig) (seat : Option ℕ) (size : ℕ → ℕ) (made : List Noted) (found : Option ℕ) → IsSuch P seat
    → IsLooked c leaf seat size made found → AreCallsOn P made
looked_on P c leaf None size made found on l = none_on P made l.0
looked_on P c leaf (Some dev) size made (Some found) on l = search_on P c.pool leaf.member dev (size dev) made (Ok true) (on dev refl) l.1
looked_on P c leaf (Some dev) size made None on l = search_on P c.pool leaf.member dev (size dev) made l.0 (on dev refl) l.2

identified_on : (P : ℕ → Type 0) (size : ℕ → ℕ) (c : Fields) (seats found : Option ℕ × Option ℕ) (made : List Noted) → IsSuch P seats.0 → IsSuch P seats.1
    → IsIdentified size c seats found made → AreCallsOn P made
identified_on P size c seats found made one other (mine, more, all, first, second) =
    subst (AreCallsOn P) (sym all) (calls_more P mine more (looked_on P c c.first seats.0 size mine found.0 one first) (looked_on P c c.second seats.1 size more found.1 other second))

-- a board is on such devices where its leaves are
board_on : (P : ℕ → Type 0) (s : PoolState) → IsSuch P s.first.dev → IsSuch P s.second.dev → AllOf (λ (m : Member). P m.dev) (board s)
board_on P s one other = all_mapped (λ (m : Member). P m.dev) seat_of (leaves s) (λ m e. one m.dev (seat_is s.first m e).dev, (λ m e. other m.dev (seat_is s.second m e).dev, tt))

drawn_on : (P : ℕ → Type 0) (s : PoolState) → AllOf (λ (m : Member). P m.dev) (board s) → AllOf (λ (m : Member). P m.dev) (board (drawn s))
drawn_on P s on = subst (AllOf (λ (m : Member). P m.dev)) (sym (drawn_board s)) on

opens_on : (P : ℕ → Type 0) (h : HostState) (s : PoolState) (nobody : Bool) (made : List Noted) (next : HostState) (reply : Reply) → AllOf (λ (m : Member). P m.dev) (board s)
    → OpensIf nobody h s made next reply → AreCallsOn P made
opens_on P h s true made next reply seats opens = none_on P made opens.0
opens_on P h s false made next reply seats opens = commit_on P h.size (flush_plan s) (drawn s) made opens.0 (flush_over P s seats) (drawn_on P s seats) opens.1

-- The bank has the device.
abbrev pub IsOfBank : HostState → ℕ → Type 0
IsOfBank h d = 1 ≤ h.size d

large_of : (h : HostState) (n d : ℕ) → n + 256 ≤ h.size d → IsOfBank h d
large_of h n d room = omega arith

handed_of : (h : HostState) (d : ℕ) → 320 ≤ h.size d → IsOfBank h d
handed_of h d room = omega arith

opening_on : (h : HostState) (config : List ℕ) (c : Fields) (pool : Option PoolState) (made : List Noted) (next : HostState) (reply : Reply) → IsFit h
    → OpensOn h config c pool made next reply → AreCallsOn (IsOfBank h) made
opening_on h config c (Some other) made next reply fit opens = none_on (IsOfBank h) made opens.0
opening_on h config c None made next reply fit (ids, more, found, all, identified, opens) =
    let P = IsOfBank h in
    let s = open_state h config c found in
    let seated = found_seated h c found fit.sized (identified_found h.size c (open_seats h c) found ids identified) in
    let seats = board_on P s (λ d e. large_of h c.sectors d (seated.first_room d e)) (λ d e. large_of h c.sectors d (seated.second_room d e)) in
    subst (AreCallsOn P) (sym all)
    (calls_more P ids more (identified_on P h.size c (open_seats h c) found ids
    (λ d e. large_of h c.sectors d (seat_room h.size c.first.name c.sectors h.table d fit.sized e))
    (λ d e. large_of h c.sectors d (seat_room h.size c.second.name c.sectors h.table d fit.sized e)) identified)
    (opens_on P h s (has_nobody s) more next reply seats opens))

unless_on : (h : HostState) (spent : Bool) (config : List ℕ) (c : Fields) (made : List Noted) (next : HostState) (reply : Reply) → IsFit h → OpensUnless spent h config c made next reply
    → AreCallsOn (IsOfBank h) made
unless_on h true config c made next reply fit opens = none_on (IsOfBank h) made opens.0
unless_on h false config c made next reply fit opens = opening_on h config c h.pool made next reply fit opens

best_on : (h : HostState) (best : Option Found) (made : List Noted) (next : HostState) (reply : Reply) → IsFit h → OpensBest h best made next reply → AreCallsOn (IsOfBank h) made
best_on h None made next reply fit opens = none_on (IsOfBank h) made opens.0
best_on h (Some found) made next reply fit opens = unless_on h (is_spent opens.0.number.0) found.blob.items opens.0 made next reply fit opens.2

pub import_on : (h : HostState) (name : List ℕ) (made : List Noted) (next : HostState) (reply : Reply) → IsFit h → IsImport h name made next reply → AreCallsOn (IsOfBank h) made
import_on h name made next reply fit i =
    subst (AreCallsOn (IsOfBank h)) (sym i.all)
    (calls_more (IsOfBank h) i.reads i.more
    (look_on (IsOfBank h) h.size (all_handed h.table) i.looks i.reads (λ k d at. handed_of h d (handed_room h.size h.table fit.sized k d at)) i.look)
    (best_on h i.best i.more next reply fit i.opens))

-- The other lines.

creates_on : (h : HostState) (second : ℕ) (name : List ℕ) (blocks : ℕ) (first other : List ℕ) (seats : Option (ℕ × ℕ)) (made : List Noted) (next : HostState) (reply : Reply) → IsFit h
    → new_seats h blocks first other ≡ seats → CreatesOn h second name blocks first other seats made next reply → AreCallsOn (IsOfBank h) made
creates_on h second name blocks first other None made next reply fit is creates = none_on (IsOfBank h) made creates.0
creates_on h second name blocks first other (Some seats) made next reply fit is creates =
    let has = new_seats_found h blocks first other seats is in
    let one = handed_of h seats.0 (member_room h.size first h.table seats.0 fit.sized has.one) in
    let two = handed_of h seats.1 (member_room h.size other h.table seats.1 fit.sized has.two) in
    made_on (IsOfBank h) h.size (new_state h second name blocks first other seats) seats made creates.0 one two (one, (two, tt)) creates.1

create_on : (h : HostState) (bad : Bool) (second : ℕ) (name : List ℕ) (blocks : ℕ) (first other : List ℕ) (made : List Noted) (next : HostState) (reply : Reply) → IsFit h
    → CreatesUnless bad h second name blocks first other made next reply → AreCallsOn (IsOfBank h) made
create_on h true second name blocks first other made next reply fit creates = none_on (IsOfBank h) made creates.0
create_on h false second name blocks first other made next reply fit creates = creates_on h second name blocks first other (new_seats h blocks first other) made next reply fit refl creates

leaf_on : (h : HostState) (s : PoolState) (leaf : LeafState) → IsFitLeaf h.size s.sectors s.number leaf → IsSuch (IsOfBank h) leaf.dev
leaf_on h s leaf fit d e = large_of h s.sectors d (fit.room d e)

fit_board : (h : HostState) (s : PoolState) → IsFitPool h.size s → AllOf (λ (m : Member). IsOfBank h m.dev) (board s)
fit_board h s fit = board_on (IsOfBank h) s (leaf_on h s s.first fit.first) (leaf_on h s s.second fit.second)

copies_on : (P : ℕ → Type 0) (at : ℕ) (ms : List Member) (outside : List (Option Trouble)) → AllOf (λ (m : Member). P m.dev) ms → AreOn P (asks_to at ms outside)
copies_on P at [] outside seats = tt
copies_on P at (m ∷ ms) [] seats = (seats.0, tt)
copies_on P at (m ∷ ms) (None ∷ outside) seats = (seats.0, tt)
copies_on P at (m ∷ ms) (Some trouble ∷ outside) seats = (seats.0, copies_on P at ms outside seats.1)

source_on : (h : HostState) (s : PoolState) (source : Source) (outside : List (Option Trouble)) → IsFitPool h.size s → AreOn (IsOfBank h) (asks_from source (leaves s) outside)
source_on h s (Memory block) outside fit = tt
source_on h s Hole outside fit = tt
source_on h s (Copies version) outside fit =
    copies_on (IsOfBank h) (data_start + version.sector) (tries version.birth (leaves s)) outside
    (tries_all (λ (m : Member). IsOfBank h m.dev) version.birth s (λ m e. leaf_on h s s.first fit.first m.dev (seat_is s.first m e).dev)
    (λ m e. leaf_on h s s.second fit.second m.dev (seat_is s.second m e).dev))

if_on : (P : ℕ → Type 0) (b : Bool) (asks : List Ask) → AreOn P asks → AreOn P (if b then asks else [])
if_on P true asks on = on
if_on P false asks on = tt

line_on : (h : HostState) (pool : Option PoolState) (a : ℕ) (outside : List (Option Trouble)) → PoolIsFit h.size pool → AreOn (IsOfBank h) (read_line_asks pool a outside)
line_on h None a outside fit = tt
line_on h (Some s) a outside fit = if_on (IsOfBank h) (nat_lt a s.blocks) (asks_from (source_at s a) (leaves s) outside) (source_on h s (source_at s a) outside fit)

syncs_on : (h : HostState) (s : PoolState) (spent nobody : Bool) (made : List Noted) (next : HostState) (reply : Reply) → IsFitPool h.size s → SyncsUnless spent nobody h s made next reply
    → AreCallsOn (IsOfBank h) made
syncs_on h s true nobody made next reply fit line = none_on (IsOfBank h) made line.0
syncs_on h s false true made next reply fit line = none_on (IsOfBank h) made line.0
syncs_on h s false false made next reply fit line =
    let seats = fit_board h s fit in
    commit_on (IsOfBank h) h.size (sync_plan s) (synced s) made line.0 (sync_over (IsOfBank h) s seats) (drawn_on (IsOfBank h) s seats) line.1

sync_on : (h : HostState) (pool : Option PoolState) (made : List Noted) (next : HostState) (reply : Reply) → PoolIsFit h.size pool → IsSync h pool made next reply
    → AreCallsOn (IsOfBank h) made
sync_on h None made next reply fit line = none_on (IsOfBank h) made line.0
sync_on h (Some s) made next reply fit line = syncs_on h s (is_spent s.number) (has_nobody s) made next reply fit line

offline_on : (h : HostState) (pool : Option PoolState) (name : List ℕ) (temporary : Bool) (made : List Noted) (next : HostState) (reply : Reply) → OfflinesIn h pool name temporary made next reply
    → AreCallsOn (IsOfBank h) made
offline_on h None name temporary made next reply line = none_on (IsOfBank h) made line.0
offline_on h (Some s) name temporary made next reply line = none_on (IsOfBank h) made line.3.0

-- by whether the leaf is away, and its device has the room
onlines_on : (P : ℕ → Type 0) (size : ℕ → ℕ) (s : PoolState) (leaf : LeafState) (dev : ℕ) (made : List Noted) (left : PoolState) (result : Result State Refusal)
    → (s.sectors + 256 ≤ size dev → P dev) → OnlinesLeaf size s leaf dev made left result → AreCallsOn P made
onlines_on P size s leaf dev made left result on is = by (is_away leaf.state) (nat_le (s.sectors + 256) (size dev)) refl refl
  where
    by : (away has_room : Bool) → is_away leaf.state ≡ away → nat_le (s.sectors + 256) (size dev) ≡ has_room → AreCallsOn P made
    by false has_room e f = let line = rw e at is in none_on P made line.0
    by true false e f = let line = rw f at (rw e at is) in none_on P made line.0
    by true true e f = let line = rw f at (rw e at is) in search_on P s.pool leaf.member dev (size dev) made line.0 (on (leb-true (s.sectors + 256) (size dev) f)) line.1

online_leaf_on : (h : HostState) (s : PoolState) (leaf : LeafState) (dev : Option ℕ) (made : List Noted) (next : HostState) (reply : Reply) → OnlinesOn h s leaf dev made next reply
    → AreCallsOn (IsOfBank h) made
online_leaf_on h s leaf None made next reply line = none_on (IsOfBank h) made line.0
online_leaf_on h s leaf (Some dev) made next reply (left, result, onlines, is, told) =
    onlines_on (IsOfBank h) h.size s leaf dev made left result (large_of h s.sectors dev) onlines

online_named_on : (h : HostState) (s : PoolState) (leaf : Option LeafState) (made : List Noted) (next : HostState) (reply : Reply) → OnlinesNamed h s leaf made next reply
    → AreCallsOn (IsOfBank h) made
online_named_on h s None made next reply line = none_on (IsOfBank h) made line.0
online_named_on h s (Some leaf) made next reply line = online_leaf_on h s leaf (number_in leaf.name h.table) made next reply line

online_on : (h : HostState) (pool : Option PoolState) (name : List ℕ) (made : List Noted) (next : HostState) (reply : Reply) → OnlinesIn h pool name made next reply
    → AreCallsOn (IsOfBank h) made
online_on h None name made next reply line = none_on (IsOfBank h) made line.0
online_on h (Some s) name made next reply line = online_named_on h s (leaf_named name (leaves s)) made next reply line

named_fit : (h : HostState) (name : List ℕ) (pool : Option PoolState) → IsFit h → named_pool name h.pool ≡ pool → PoolIsFit h.size pool
named_fit h name None fit e = tt
named_fit h name (Some s) fit e = subst (PoolIsFit h.size) (named_is name h.pool s e) fit.pool

answered_on : (h : HostState) (asked : Option Request) (entry : Entry) (made : List Noted) (next : HostState) → IsFit h → IsAnswered h asked entry made next → AreCallsOn (IsOfBank h) made
answered_on h None entry made next fit line = none_on (IsOfBank h) made line.0
answered_on h (Some requests.Nothing) entry made next fit line = none_on (IsOfBank h) made line.0
answered_on h (Some (requests.Create pool blocks first other)) entry made next fit line = create_on h (is_bad_size blocks) entry.second pool blocks first other made next entry.reply fit line
answered_on h (Some (requests.Import pool)) entry made next fit line = import_on h pool made next entry.reply fit line
answered_on h (Some (requests.Write pool a block)) entry made next fit line = none_on (IsOfBank h) made line.0
answered_on h (Some (requests.Read pool a)) entry made next fit line =
    let open_pool = named_pool pool h.pool in
    asked_on (IsOfBank h) made (subst (AreOn (IsOfBank h)) (sym line.0) (line_on h open_pool a entry.outside (named_fit h pool open_pool fit refl)))
answered_on h (Some (requests.Sync pool)) entry made next fit line =
    sync_on h (named_pool pool h.pool) made next entry.reply (named_fit h pool (named_pool pool h.pool) fit refl) line
answered_on h (Some (requests.Offline pool device temporary)) entry made next fit line = offline_on h (named_pool pool h.pool) device temporary made next entry.reply line
answered_on h (Some (requests.Online pool device)) entry made next fit line = online_on h (named_pool pool h.pool) device made next entry.reply line
answered_on h (Some (requests.Logs pool)) entry made next fit line = none_on (IsOfBank h) made line.0

-- The line only read, and changed nothing: there was no memory, or wrong bytes passed.
pub record Idles (h : HostState) (entry : Entry) (made : List Noted) (next : HostState) : Type 0 where
  pub reads : AreReads made
  pub same : next ≡ h
  pub excused : IsExcused h entry made

-- Each device call of a step is on a device that the bank has, or the line idles.
pub step_on : (h : HostState) (entry : Entry) (made : List Noted) (next : HostState) → IsFit h → Step h entry made next → AreCallsOn (IsOfBank h) made ⊎ Idles h entry made next
step_on h entry made next fit step = by step.step
  where
    by : IsAnswered h entry.asked entry made next ⊎ (WantsMemory h entry made next ⊎ Clashes h entry made next) → AreCallsOn (IsOfBank h) made ⊎ Idles h entry made next
    by (inl line) = inl (answered_on h entry.asked entry made next fit line)
    by (inr (inl memory)) = inr (record { reads = memory.reads; same = memory.same; excused = inl memory.reply })
    by (inr (inr clashes)) = inr (record { reads = clashes.reads; same = clashes.same; excused = inr clashes.clash })
