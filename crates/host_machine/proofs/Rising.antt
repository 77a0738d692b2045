-- How lines end by the counts of failed calls.
use Rattle.std.proofs.Common.{◌≡◌, ◌⊎◌, ℕ, zero, suc, ◌+◌, ◌≤◌, Bool, true, false, List, [], ◌∷◌, ◌++◌, map, Option, Some, None, is_none, refl, sym, ap, ◌∙◌, subst, arith, inl, inr}
use Rattle.std.specs.List.{flat_map}
use Rattle.std.specs.Prelude.{slice_get}
use Rattle.mp_base.specs.Outside.{Rose}
use Rattle.mp_base.specs.declared.number.Guid.{Guid}
use Rattle.bank_core.specs.declared.bank.Fault.{Fault}
use Rattle.bank_core.specs.Asks.{Ask, Reads, Writes, Flushes, Admits, Ejects, ask_of, IsPart}
use Rattle.bank_core.specs.Calls.{AllCaused, device_of, fault_of}
use Rattle.bank_core.specs.Disk.{Noted, Call, Read, Write, Flush, Admit, Eject}
use Rattle.label_store.specs.declared.member.Member.{Member}
use Rattle.label_store.specs.Phases.{IsTurn, IsPhase}
use Rattle.label_store.specs.Plans.{stamp_plan}
use Rattle.label_store.specs.Rounds.{Commit, IsRound, first_plan, second_plan, third_plan}
use Rattle.bank_core.proofs.Composing.{caused_counts, caused_split}
use Rattle.label_store.proofs.Causing.{round_excused}
use Rattle.pool_core.specs.Commits.{failures, IsOwnRound, IsRoundBehind, IsCommit, first_failed, FirstRound, IsStampedFirst, AreMade}
use Rattle.pool_core.specs.Recorded.{addresses, commit_of}
use Rattle.pool_core.specs.Logs.{drawn}
use Rattle.pool_core.specs.State.{LeafState, PoolState, leaves, board, data_start, other_sector}
use Rattle.pool_core.specs.Syncing.{writes_to, writes_at, flush_plan, sync_plan, synced}
use Rattle.pool_core.proofs.Drawing.{drawn_relogs}
use Rattle.host_machine.specs.Answering.{NoneMoved, SomeFailed}
use Rattle.host_machine.proofs.Members.{AllOf}

none_some : {A : Type 0} (fault : Fault) → None ≡ Some fault → A
none_some fault e = absurd (cc)

pub earlier : (x y z : ℕ) → x ≤ y → Rose y z → Rose x z
earlier x y z le r = omega arith

later : (x y z : ℕ) → Rose x y → y ≤ z → Rose x z
later x y z r le = omega arith

-- no call failed
abbrev pub AllFine : List Noted → Type 0
AllFine [] = Unit {0}
AllFine (noted ∷ made) = (fault_of noted.call ≡ None) × AllFine made

pub fine_more : (first second : List Noted) → AllFine first → AllFine second → AllFine (first ++ second)
fine_more [] second one two = two
fine_more (noted ∷ first) second one two = (one.0, fine_more first second one.1 two)

-- and so no count moved
pub fine_still : (made : List Noted) (f g : ℕ → ℕ) → AllFine made → AllCaused made f g → NoneMoved f g
fine_still [] f g fine c d = c d
fine_still (noted ∷ made) f g fine c d = fine_still made c.0 g fine.1 c.2 d ∙ c.1.still fine.0 d

-- A call that failed raised its device's count.
pub failed_rose : (made : List Noted) (d : ℕ) (f g : ℕ → ℕ) → SomeFailed d made → AllCaused made f g → Rose (f d) (g d)
failed_rose [] d f g failed c = absurd failed
failed_rose (noted ∷ made) d f g (inl here) c =
    later (f d) (c.0 d) (g d) (subst (λ e. Rose (f e) (c.0 e)) here.0 (c.1.cause here.1 here.2)) (caused_counts made c.0 g c.2 d)
failed_rose (noted ∷ made) d f g (inr there) c = earlier (f d) (c.0 d) (g d) (c.1.counts d) (failed_rose made d c.0 g there c.2)

-- the device that an ask is on
abbrev pub dev_asked : Ask → ℕ
dev_asked (Reads dev at sectors) = dev
dev_asked (Writes dev at bytes) = dev
dev_asked (Flushes dev) = dev
dev_asked (Admits dev) = dev
dev_asked (Ejects dev) = dev

pub device_asked : (call : Call) → device_of call ≡ dev_asked (ask_of call)
device_asked (Read dev at bytes fault) = refl
device_asked (Write dev at bytes fault) = refl
device_asked (Flush dev fault) = refl
device_asked (Admit dev holds) = refl
device_asked (Eject dev) = refl

-- each of these asks is on such a device
abbrev pub AreOn : (ℕ → Type 0) → List Ask → Type 0
AreOn P [] = Unit {0}
AreOn P (ask ∷ asks) = P (dev_asked ask) × AreOn P asks

pub on_more : (P : ℕ → Type 0) (first second : List Ask) → AreOn P first → AreOn P second → AreOn P (first ++ second)
on_more P [] second one two = two
on_more P (ask ∷ first) second one two = (one.0, on_more P first second one.1 two)

part_fine : (asks : List Ask) (made : List Noted) → IsPart asks made None → AllFine made
part_fine [] [] p = tt
part_fine [] (noted ∷ made) p = absurd p
part_fine (ask ∷ asks) [] p = absurd p
part_fine (ask ∷ asks) (noted ∷ made) (is, inl (ok, more)) = (ok, part_fine asks made more)
part_fine (ask ∷ asks) (noted ∷ made) (is, inr (fault, failed, none, end)) = none_some fault end

-- a part that ended early: a call on such a device failed
part_failed : (P : ℕ → Type 0) (asks : List Ask) (made : List Noted) (fault : Fault) → AreOn P asks → IsPart asks made (Some fault) → (d : ℕ) × P d × SomeFailed d made
part_failed P [] [] fault on p = none_some fault (sym p)
part_failed P [] (noted ∷ made) fault on p = absurd p
part_failed P (ask ∷ asks) [] fault on p = absurd p
part_failed P (ask ∷ asks) (noted ∷ made) fault on (is, inl (ok, more)) =
    let r = part_failed P asks made fault on.1 more in (r.0, r.1, inr r.2)
part_failed P (ask ∷ asks) (noted ∷ made) fault on (is, inr (fault', failed, none, end)) =
    (dev_asked ask, on.0, inl (device_asked noted.call ∙ ap dev_asked is, fault', failed))

true_false : {A : Type 0} → true ≡ false → A
true_false e = absurd (cc)

turn_fine : (asks : List Ask) (was is : Bool) (made : List Noted) → is ≡ true → IsTurn asks was is made → (was ≡ true) × AllFine made
turn_fine asks true is made e t = (refl, by_outcome t.0 t.1 (sym e ∙ t.2))
  where
    by_outcome : (outcome : Option Fault) → IsPart asks made outcome → true ≡ is_none outcome → AllFine made
    by_outcome None p none = part_fine asks made p
    by_outcome (Some fault) p none = true_false none
turn_fine asks false is made e t = true_false (sym e ∙ t.1)

abbrev AllTrue : List Bool → Type 0
AllTrue [] = Unit {0}
AllTrue (b ∷ bs) = (b ≡ true) × AllTrue bs

phase_fine : (plan : Member → List Ask) (ms : List Member) (was is : List Bool) (made : List Noted) → AllTrue is → IsPhase plan ms was is made → AllTrue was × AllFine made
phase_fine plan [] [] [] made all p = (tt, subst AllFine (sym p) tt)
phase_fine plan [] [] (x ∷ is) made all p = absurd p
phase_fine plan [] (w ∷ was) is made all p = absurd p
phase_fine plan (m ∷ ms) [] is made all p = absurd p
phase_fine plan (m ∷ ms) (w ∷ was) [] made all p = absurd p
phase_fine plan (m ∷ ms) (w ∷ was) (x ∷ is) made all p =
    let here = turn_fine (plan m) w x p.0 all.0 p.3 in
    let rest = phase_fine plan ms was is p.1 all.1 p.4 in
    ((here.0, rest.0), subst AllFine (sym p.2) (fine_more p.0 p.1 here.1 rest.1))

round_fine : (size : ℕ → ℕ) (commit : Commit) (ms : List Member) (results : List Bool) (made : List Noted) → AllTrue results → IsRound size commit ms results made → AllFine made
round_fine size commit ms results made all r =
    let third = phase_fine (third_plan size commit) ms r.in_second results r.third all r.copies in
    let second = phase_fine (second_plan size commit) ms r.in_first r.in_second r.second third.0 r.uberblocks in
    let first = phase_fine (first_plan size commit) ms (map (λ m. true) ms) r.in_first r.first second.0 r.configs in
    subst AllFine (sym r.all) (fine_more r.first (r.second ++ r.third) first.1 (fine_more r.second r.third second.1 third.1))

not_more : (n : ℕ) → n + 1 ≡ 0 → ⊥
not_more n e = omega arith

none_failed : (results : List Bool) → failures results ≡ 0 → AllTrue results
none_failed [] e = tt
none_failed (true ∷ results) e = (refl, none_failed results e)
none_failed (false ∷ results) e = absurd (not_more (failures results) e)

-- the member of each result
phase_member : (plan : Member → List Ask) (ms : List Member) (was results : List Bool) (made : List Noted) (i : ℕ) (b : Bool) → IsPhase plan ms was results made
    → slice_get results i ≡ Some b → (m : Member) × (slice_get ms i ≡ Some m)
phase_member plan [] [] [] made i b p e = absurd (cc)
phase_member plan [] [] (c ∷ results) made i b p e = absurd p
phase_member plan [] (w ∷ was) results made i b p e = absurd p
phase_member plan (m ∷ ms) [] results made i b p e = absurd p
phase_member plan (m ∷ ms) (w ∷ was) [] made i b p e = absurd p
phase_member plan (m ∷ ms) (w ∷ was) (c ∷ results) made zero b p e = (m, refl)
phase_member plan (m ∷ ms) (w ∷ was) (c ∷ results) made (suc i) b p e = phase_member plan ms was results p.1 i b p.4 e

-- one of the members left
one_left : (results : List Bool) (n : ℕ) → suc n ≡ failures results → (i : ℕ) × (slice_get results i ≡ Some false)
one_left [] n e = absurd (cc)
one_left (true ∷ results) n e = let r = one_left results n e in (suc r.0, r.1)
one_left (false ∷ results) n e = (zero, refl)

-- one of these members is on the device
abbrev pub IsSeat : List Member → ℕ → Type 0
IsSeat ms d = (i : ℕ) × (m : Member) × (slice_get ms i ≡ Some m) × (m.dev ≡ d)

-- the count of the device of one of these members rose
abbrev pub SeatRose : List Member → (before after : ℕ → ℕ) → Type 0
SeatRose ms f g = (i : ℕ) × (m : Member) × (slice_get ms i ≡ Some m) × Rose (f m.dev) (g m.dev)

-- a round that a member left raised a member's count
round_rose : (size : ℕ → ℕ) (s : PoolState) (made : List Noted) (n : ℕ) (f g : ℕ → ℕ) → IsOwnRound size s made (suc n) → AllCaused made f g → SeatRose (board s) f g
round_rose size s made n f g (results, round, failed) c =
    let off = one_left results n failed in
    let m = phase_member (third_plan size (commit_of s)) (board s) round.in_second results round.third off.0 false round.copies off.1 in
    (off.0, m.0, m.1, round_excused size (commit_of s) (board s) results made f g round c off.0 m.0 m.1 off.1)

rose_first : (ms : List Member) (f g h : ℕ → ℕ) → SeatRose ms f g → ((d : ℕ) → g d ≤ h d) → SeatRose ms f h
rose_first ms f g h (i, m, at, r) up = (i, m, at, later (f m.dev) (g m.dev) (h m.dev) r (up m.dev))

rose_second : (ms : List Member) (f g h : ℕ → ℕ) → ((d : ℕ) → f d ≤ g d) → SeatRose ms g h → SeatRose ms f h
rose_second ms f g h up (i, m, at, r) = (i, m, at, earlier (f m.dev) (g m.dev) (h m.dev) (up m.dev) r)

seat_rose : (ms : List Member) (d : ℕ) (f g : ℕ → ℕ) → IsSeat ms d → Rose (f d) (g d) → SeatRose ms f g
seat_rose ms d f g (i, m, at, e) r = (i, m, at, subst (λ n. Rose (f n) (g n)) (sym e) r)

-- a commit in which a call failed raised a leaf's count
pub commit_rose : (size : ℕ → ℕ) (plan : List Ask) (s : PoolState) (made : List Noted) (n : ℕ) (f g : ℕ → ℕ) → AreOn (IsSeat (board s)) plan → IsCommit size plan s made (suc n)
    → AllCaused made f g → SeatRose (board s) f g
commit_rose size plan s made n f g on commit c = by commit.outcome commit.part commit.behind
  where
    split : (between : ℕ → ℕ) × AllCaused commit.before f between × AllCaused commit.round between g
    split = caused_split commit.before commit.round f g (subst (λ calls. AllCaused calls f g) commit.all c)

    by : (outcome : Option Fault) → IsPart plan commit.before outcome → IsRoundBehind size s outcome commit.round (suc n) → SeatRose (board s) f g
    by None part round = rose_second (board s) f split.0 g (caused_counts commit.before f split.0 split.1) (round_rose size s commit.round n split.0 g round split.2)
    by (Some fault) part round =
        let r = part_failed (IsSeat (board s)) plan commit.before fault on part in
        rose_first (board s) f split.0 g (seat_rose (board s) r.0 f split.0 r.1 (failed_rose commit.before r.0 f split.0 r.2 split.1)) (caused_counts commit.round split.0 g split.2)

one_failed : (n : ℕ) → n ≡ 0 → n ≡ 1 → ⊥
one_failed n e f = omega arith

-- a commit in which none failed
pub commit_fine : (size : ℕ → ℕ) (plan : List Ask) (s : PoolState) (made : List Noted) → IsCommit size plan s made 0 → AllFine made
commit_fine size plan s made commit = by commit.outcome commit.part commit.behind
  where
    by : (outcome : Option Fault) → IsPart plan commit.before outcome → IsRoundBehind size s outcome commit.round 0 → AllFine made
    by None part (results, round, failed) = subst AllFine (sym commit.all)
        (fine_more commit.before commit.round (part_fine plan commit.before part)
        (round_fine size (commit_of s) (board s) results commit.round (none_failed results (sym failed)) round))
    by (Some fault) part (none, failed) = absurd (one_failed 0 refl failed)

-- the draw of a number leaves the board
pub drawn_board : (s : PoolState) → board (drawn s) ≡ board s
drawn_board s = ap board (drawn_relogs s).is

each_on : (P : ℕ → Type 0) (ask : Member → Ask) (ms : List Member) → ((m : Member) → P m.dev → P (dev_asked (ask m))) → AllOf (λ (m : Member). P m.dev) ms → AreOn P (map ask ms)
each_on P ask [] on all = tt
each_on P ask (m ∷ ms) on all = (on m all.0, each_on P ask ms on all.1)

to_over : (P : ℕ → Type 0) (ms : List Member) (at : ℕ) (block : Option (List ℕ)) → AllOf (λ (m : Member). P m.dev) ms → AreOn P (writes_to ms at block)
to_over P ms at None all = tt
to_over P ms at (Some block) all = each_on P (λ m. Writes m.dev at block) ms (λ m on. on) all

blocks_over : (P : ℕ → Type 0) (s : PoolState) (list : List ℕ) → AllOf (λ (m : Member). P m.dev) (board s) → AreOn P (flat_map (writes_at s) list)
blocks_over P s [] all = tt
blocks_over P s (a ∷ list) all = on_more P (writes_at s a) (flat_map (writes_at s) list) (to_over P (board s) (data_start + other_sector a (s.committed a)) (s.writes a) all) (blocks_over P s list all)

-- what is asked before a round is on the devices of the board
pub flush_over : (P : ℕ → Type 0) (s : PoolState) → AllOf (λ (m : Member). P m.dev) (board s) → AreOn P (flush_plan s)
flush_over P s all = each_on P (λ m. Flushes m.dev) (board s) (λ m on. on) all

pub sync_over : (P : ℕ → Type 0) (s : PoolState) → AllOf (λ (m : Member). P m.dev) (board s) → AreOn P (sync_plan s)
sync_over P s all = on_more P (flat_map (writes_at s) (addresses s.blocks)) (flush_plan s) (blocks_over P s (addresses s.blocks) all) (flush_over P s all)

all_seats : (Q : ℕ → Type 0) (ms : List Member) → ((i : ℕ) (m : Member) → slice_get ms i ≡ Some m → Q m.dev) → AllOf (λ (m : Member). Q m.dev) ms
all_seats Q [] all = tt
all_seats Q (m ∷ ms) all = (all zero m refl, all_seats Q ms (λ i n at. all (suc i) n at))

seats_on : (ms : List Member) → AllOf (λ (m : Member). IsSeat ms m.dev) ms
seats_on ms = all_seats (IsSeat ms) ms (λ i m at. (i, m, at, refl))

-- behind a sync that is suspended a leaf's count is higher
pub sync_rose : (size : ℕ → ℕ) (s : PoolState) (made : List Noted) (n : ℕ) (f g : ℕ → ℕ) → IsCommit size (sync_plan s) (synced s) made (suc n) → AllCaused made f g → SeatRose (board s) f g
sync_rose size s made n f g commit c =
    subst (λ ms. SeatRose ms f g) (drawn_board s)
    (commit_rose size (sync_plan s) (synced s) made n f g (subst (λ ms. AreOn (IsSeat ms) (sync_plan s)) (sym (drawn_board s)) (sync_over (IsSeat (board s)) s (seats_on (board s)))) commit c)

-- so it is behind an opening's commit
pub opening_rose : (size : ℕ → ℕ) (s : PoolState) (made : List Noted) (n : ℕ) (f g : ℕ → ℕ) → IsCommit size (flush_plan s) (drawn s) made (suc n) → AllCaused made f g → SeatRose (board s) f g
opening_rose size s made n f g commit c =
    subst (λ ms. SeatRose ms f g) (drawn_board s)
    (commit_rose size (flush_plan s) (drawn s) made n f g (subst (λ ms. AreOn (IsSeat ms) (flush_plan s)) (sym (drawn_board s)) (flush_over (IsSeat (board s)) s (seats_on (board s)))) commit c)

-- The calls of a stamp, behind which others come where none of it failed.
record GoesOn (made : List Noted) (Then : List Noted → Type 0) (f g : ℕ → ℕ) : Type 0 where
  rest : List Noted
  between : ℕ → ℕ
  then : Then rest
  caused : AllCaused rest between g
  up : (d : ℕ) → f d ≤ between d
  fine : AllFine rest → AllFine made

-- this leaf failed, and the count of its device rose
abbrev pub IsFaulted : LeafState → (dev : ℕ) → Option LeafState → (before after : ℕ → ℕ) → Type 0
IsFaulted leaf dev failed f g = (failed ≡ Some leaf) × Rose (f dev) (g dev)

stamp_on : (dev size : ℕ) (pool member : Guid) → AreOn (λ d. d ≡ dev) (stamp_plan dev size pool member)
stamp_on dev size pool member = (refl, (refl, (refl, (refl, (refl, (refl, (refl, (refl, (refl, tt)))))))))

stamp_ends : (size : ℕ → ℕ) (s : PoolState) (leaf : LeafState) (dev : ℕ) (made : List Noted) (failed : Option LeafState) (Then : List Noted → Type 0) (f g : ℕ → ℕ)
    → IsStampedFirst size s leaf dev made failed Then → AllCaused made f g → GoesOn made Then f g ⊎ IsFaulted leaf dev failed f g
stamp_ends size s leaf dev made failed Then f g (mine, rest, None, all, part, behind) c =
    let split = caused_split mine rest f g (subst (λ calls. AllCaused calls f g) all c) in
    inl (record {
      rest = rest;
      between = split.0;
      then = behind;
      caused = split.2;
      up = caused_counts mine f split.0 split.1;
      fine = λ fine. subst AllFine (sym all) (fine_more mine rest (part_fine (stamp_plan dev (size dev) s.pool leaf.member) mine part) fine);
    })
stamp_ends size s leaf dev made failed Then f g (mine, rest, Some fault, all, part, behind) c =
    let split = caused_split mine rest f g (subst (λ calls. AllCaused calls f g) all c) in
    let r = part_failed (λ d. d ≡ dev) (stamp_plan dev (size dev) s.pool leaf.member) mine fault (stamp_on dev (size dev) s.pool leaf.member) part in
    let rose : Rose (f dev) (split.0 dev) = subst (λ d. Rose (f d) (split.0 d)) r.1 (failed_rose mine r.0 f split.0 r.2 split.1) in
    inr (behind.1, later (f dev) (split.0 dev) (g dev) rose (caused_counts rest split.0 g split.2 dev))

-- No call failed, or one of the leaves did.
abbrev pub MadeEnds : PoolState → (seats : ℕ × ℕ) → List Noted → Option LeafState → (before after : ℕ → ℕ) → Type 0
MadeEnds s seats made failed f g = ((failed ≡ None) × AllFine made) ⊎ (IsFaulted s.first seats.0 failed f g ⊎ IsFaulted s.second seats.1 failed f g)

-- two members have two results
phase_length : (plan : Member → List Ask) (m n : Member) (was results : List Bool) (made : List Noted) → IsPhase plan (m ∷ n ∷ []) was results made
    → (b : Bool) × (c : Bool) × (results ≡ b ∷ c ∷ [])
phase_length plan m n (v ∷ w ∷ []) (b ∷ c ∷ []) made p = (b, c, refl)
phase_length plan m n [] results made p = absurd p
phase_length plan m n (v ∷ was) [] made p = absurd p
phase_length plan m n (v ∷ []) (b ∷ results) made p = absurd p.4
phase_length plan m n (v ∷ w ∷ was) (b ∷ []) made p = absurd p.4
phase_length plan m n (v ∷ w ∷ u ∷ was) (b ∷ c ∷ results) made p = absurd p.4.4
phase_length plan m n (v ∷ w ∷ []) (b ∷ c ∷ d ∷ results) made p = absurd p.4.4

-- both leaves are on the board, with these devices
abbrev pub AreBoard : PoolState → (seats : ℕ × ℕ) → Type 0
AreBoard s seats = board s ≡ record { dev = seats.0; guid = s.first.member } ∷ record { dev = seats.1; guid = s.second.member } ∷ []

first_ends : (size : ℕ → ℕ) (s : PoolState) (seats : ℕ × ℕ) (made : List Noted) (failed : Option LeafState) (f g : ℕ → ℕ) → AreBoard s seats → FirstRound size s made failed
    → AllCaused made f g → MadeEnds s seats made failed f g
first_ends size s seats made failed f g both (results, round, is) c = by two.0 two.1 two.2
  where
    one : Member
    one = record { dev = seats.0; guid = s.first.member }

    other : Member
    other = record { dev = seats.1; guid = s.second.member }

    over : IsRound size (commit_of s) (one ∷ other ∷ []) results made
    over = subst (λ ms. IsRound size (commit_of s) ms results made) both round

    two : (b : Bool) × (c : Bool) × (results ≡ b ∷ c ∷ [])
    two = phase_length (third_plan size (commit_of s)) one other over.in_second results over.third over.copies

    by : (b d : Bool) → results ≡ b ∷ d ∷ [] → MadeEnds s seats made failed f g
    by false d are = inr (inl (
      is ∙ ap (first_failed (leaves s)) are,
      round_excused size (commit_of s) (one ∷ other ∷ []) results made f g over c 0 one refl (rw are refl),
    ))
    by true false are = inr (inr (
      is ∙ ap (first_failed (leaves s)) are,
      round_excused size (commit_of s) (one ∷ other ∷ []) results made f g over c 1 other refl (rw are refl),
    ))
    by true true are = inl (
      is ∙ ap (first_failed (leaves s)) are,
      round_fine size (commit_of s) (board s) results made (subst AllTrue (sym are) (refl, (refl, tt))) round,
    )

-- what the counts say of the calls behind says it of all
ends_behind : (s : PoolState) (seats : ℕ × ℕ) (made rest : List Noted) (failed : Option LeafState) (f g h : ℕ → ℕ) → ((d : ℕ) → f d ≤ g d) → (AllFine rest → AllFine made)
    → MadeEnds s seats rest failed g h → MadeEnds s seats made failed f h
ends_behind s seats made rest failed f g h up fine (inl (none, all)) = inl (none, fine all)
ends_behind s seats made rest failed f g h up fine (inr (inl (is, rose))) = inr (inl (is, earlier (f seats.0) (g seats.0) (h seats.0) (up seats.0) rose))
ends_behind s seats made rest failed f g h up fine (inr (inr (is, rose))) = inr (inr (is, earlier (f seats.1) (g seats.1) (h seats.1) (up seats.1) rose))

second_ends : (size : ℕ → ℕ) (s : PoolState) (seats : ℕ × ℕ) (made : List Noted) (failed : Option LeafState) (f g : ℕ → ℕ) → AreBoard s seats
    → IsStampedFirst size s s.second seats.1 made failed (λ more. FirstRound size s more failed) → AllCaused made f g → MadeEnds s seats made failed f g
second_ends size s seats made failed f g both stamped c = by (stamp_ends size s s.second seats.1 made failed (λ more. FirstRound size s more failed) f g stamped c)
  where
    by : GoesOn made (λ more. FirstRound size s more failed) f g ⊎ IsFaulted s.second seats.1 failed f g → MadeEnds s seats made failed f g
    by (inl on) = ends_behind s seats made on.rest failed f on.between g on.up on.fine (first_ends size s seats on.rest failed on.between g both on.then on.caused)
    by (inr faulted) = inr (inr faulted)

pub made_ends : (size : ℕ → ℕ) (s : PoolState) (seats : ℕ × ℕ) (made : List Noted) (failed : Option LeafState) (f g : ℕ → ℕ) → AreBoard s seats → AreMade size s seats made failed
    → AllCaused made f g → MadeEnds s seats made failed f g
made_ends size s seats made failed f g both stamped c =
    by (stamp_ends size s s.first seats.0 made failed (λ rest. IsStampedFirst size s s.second seats.1 rest failed (λ more. FirstRound size s more failed)) f g stamped c)
  where
    by : GoesOn made (λ rest. IsStampedFirst size s s.second seats.1 rest failed (λ more. FirstRound size s more failed)) f g ⊎ IsFaulted s.first seats.0 failed f g → MadeEnds s seats made failed f g
    by (inl on) = ends_behind s seats made on.rest failed f on.between g on.up on.fine (second_ends size s seats on.rest failed on.between g both on.then on.caused)
    by (inr faulted) = inr (inl faulted)
