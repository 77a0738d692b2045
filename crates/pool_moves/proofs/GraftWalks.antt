-- A leaf may be brought in: the walk of `attach` and of `replace` from its row.
use Rattle.std.proofs.Common.{◌≡◌, ℕ, ◌+◌, ◌<◌, ◌≤◌, ◌^◌, ◌==◌, nat_le, nat_lt, Bool, true, false, cond, Option, Some, None, List, [], ◌∷◌, map, length, refl, sym, ap, ◌∙◌, subst, arith}
use Rattle.std.specs.List.{AllByRecursion}
use Rattle.std.proofs.lemmas.Bool.Decides.{nat_tests}
use Rattle.mp_base.specs.declared.number.Guid.{Guid}
use Rattle.bank_core.specs.declared.bank.Fault.{Fault}
use Rattle.bank_core.specs.Asks.{IsPart}
use Rattle.bank_core.specs.Disk.{Noted}
use Rattle.label_store.specs.Plans.{stamp_plan}
use Rattle.txg_history.specs.Events.{Loses, Rests}
use Rattle.txg_history.specs.Groups.{at_device}
use Rattle.txg_history.specs.Losses.{IsStamp}
use Rattle.txg_history.specs.Moves.{MayJoin}
use Rattle.txg_history.specs.Pages.{Codec}
use Rattle.txg_history.specs.Pools.{Pool, after}
use Rattle.txg_history.proofs.Folding.{with_calls}
use Rattle.txg_history.proofs.Losing.{stamps_may}
use Rattle.txg_history.proofs.Stamping.{stamp_blanks}
use Rattle.pool_moves.specs.AwayRows.{leaf_named}
use Rattle.pool_moves.specs.FreezeRow.{is_dev}
use Rattle.pool_moves.specs.Keeping.{IsElsewhere, IsNotFoundAt, Kept, Walks}
use Rattle.pool_moves.specs.Leaves.{OwnLeaf, LeafSeen, Seat, At, Adrift, dev_if, told, leaf_seen}
use Rattle.pool_moves.specs.LineRows.{IsSized}
use Rattle.pool_moves.specs.Moves.{Move, Makes, Lose, Comes, Rest, Shapes, seat_step, state_step, steps, after_move, after_moves}
use Rattle.pool_moves.specs.ScanRows.{starts_scan}
use Rattle.pool_moves.specs.States.{PoolState, Side}
use Rattle.pool_moves.specs.Trees.{Child}
use Rattle.pool_moves.specs.TreeRows.{Graft, Attach, Replace, TreeRefusal, limit_if, last_member, numbers_limit, leaves_limit, limits_of, graft_limits, refusal_at, graft_refusal, has_place, new_number, grafted, new_place, new_own, GraftReply, comes_in, graft_first, graft_moves, GraftEnds, GraftOn, GraftAt, GraftFor, RowGraft}
use Rattle.pool_moves.specs.Walking.{as_moves}
use Rattle.pool_moves.proofs.FreeWalks.{walks_more, moves_more, calls_pool}
use Rattle.pool_moves.proofs.Widenings.{widens_walk}
use Rattle.pool_moves.proofs.Keeping.{walk_keeps, other_numbers, elsewhere_still}
use Rattle.pool_moves.proofs.ReadWalks.{calls_walk}
use Rattle.pool_moves.proofs.ScanEnds.{start_walk}
use Rattle.pool_moves.proofs.Tests.{here, not_lt}

-- No leaf that was found is on the device.
not_found_at : (f : Bool) (p : Pool) (d : ℕ) (seats : List Seat) → AllByRecursion (λ leaf. is_dev d leaf.dev ≡ false) (map (leaf_seen f (told p)) seats)
    → AllByRecursion (IsNotFoundAt d) seats
not_found_at f p d [] off = tt
not_found_at f p d (At e found own ∷ seats) off = ((λ same. of found same off.0), not_found_at f p d seats off.1)
  where
    of : (found : Bool) → (d == e) ≡ true → is_dev d (dev_if found e) ≡ false → found ≡ false
    of true same off = absurd (let never : true ≡ false = sym same ∙ off in cc)
    of false same off = refl
not_found_at f p d (Adrift leaf ∷ seats) off = (tt, not_found_at f p d seats off.1)

-- behind its loss no leaf is at it
lose_elsewhere : (p : Pool) (d : ℕ) (seats : List Seat) → AllByRecursion (IsElsewhere d) (map (seat_step (Lose d) p) seats)
lose_elsewhere p d [] = tt
lose_elsewhere p d (At e found own ∷ seats) = (by (d == e) refl, lose_elsewhere p d seats)
  where
    by : (t : Bool) → (d == e) ≡ t → IsElsewhere d (cond t (Adrift (leaf_seen p.group.frozen (told p) (At e found own))) (At e found own))
    by true same = tt
    by false off = off
lose_elsewhere p d (Adrift leaf ∷ seats) = (tt, lose_elsewhere p d seats)

-- Behind calls the seats and the state are as they were.
calls_seats : (made : List Noted) (t : Side) → (after_moves (as_moves made) t).seats ≡ t.seats
calls_seats [] t = refl
calls_seats (noted ∷ made) t = calls_seats made (after_move (Makes noted) t)

pub calls_state : (made : List Noted) (s : PoolState) → steps (as_moves made) s ≡ s
calls_state [] s = refl
calls_state (noted ∷ made) s = calls_state made (state_step (Makes noted) s)

-- The stamp of a new leaf's device, whichever call fails.
stamp_walk : (c : Codec) (s : PoolState) (t : Side) (d size : ℕ) (pool m : Guid) (made : List Noted) (outcome : Option Fault) → Kept c s t
    → AllByRecursion (λ leaf. is_dev d leaf.dev ≡ false) s.core.leaves
    → IsPart (stamp_plan d size pool m) made outcome → Walks c t (Lose d ∷ as_moves made)
stamp_walk c s t d size pool m made outcome kept off calls = (
  (
    (tt, tt),
    not_found_at t.pool.group.frozen t.pool d t.seats
        (subst (λ core. AllByRecursion (λ leaf. is_dev d leaf.dev ≡ false) core.leaves) kept.core off),
  ),
  calls_walk c made (after_move (Lose d) t) (stamps_may c t.pool d size (stamp_plan d size pool m) made outcome (IsStamp pool m) calls).0.1,
)

-- The numbers that a new leaf asks for are there.
limit_none : (t : Bool) (limit count : ℕ) (rest : Option TreeRefusal) → limit_if t limit count rest ≡ None → (t ≡ false) × (rest ≡ None)
limit_none true limit count rest is = absurd (cc)
limit_none false limit count rest is = (refl, is)

not_yet : (n : ℕ) → nat_le last_member n ≡ false → n < last_member
not_yet n off = grind (arith, nat_tests)

numbers_left : (next : ℕ) → numbers_limit next ≡ None → next + 1 < last_member
numbers_left next is = not_yet (next + 1) (limit_none (nat_le last_member (next + 1)) last_member (next + 1) None
    (limit_none (nat_le last_member next) last_member next (limit_if (nat_le last_member (next + 1)) last_member (next + 1) None) is).1).0

leaves_left : (leaves next : ℕ) → leaves_limit leaves next ≡ None → next + 1 < last_member
leaves_left leaves next is = numbers_left next (limit_none (nat_le 32 leaves) 32 (leaves + 1) (numbers_limit next) is).1

graft_left : (graft : Graft) (children leaves next : ℕ) → limits_of graft children leaves next ≡ None → next + 1 < last_member
graft_left Attach children leaves next is = leaves_left leaves next (limit_none (nat_le 8 children) 8 (children + 1) (leaves_limit leaves next) is).1
graft_left Replace children leaves next is = leaves_left leaves next is

placed_limits : (placed : Bool) (limits : Option TreeRefusal) → refusal_at placed limits ≡ None → limits ≡ None
placed_limits true limits is = is
placed_limits false limits is = absurd (cc)

below_all : (n : ℕ) → n + 1 < last_member → (n < 2 ^ 64) × (n + 1 < 2 ^ 64)
below_all n low = (omega (arith, low), omega (arith, low))

new_range : (graft : Graft) (s : PoolState) → s.own.next_member + 1 < last_member → (new_number graft s).0 < 2 ^ 64
new_range Attach s low = (below_all s.own.next_member low).0
new_range Replace s low = (below_all s.own.next_member low).1

pub new_above : (graft : Graft) (s : PoolState) → s.own.next_member ≤ (new_number graft s).0
new_above Attach s = omega arith
new_above Replace s = omega arith

-- The leaf may come in behind the stamp.
lost_member : (d : ℕ) (member : ℕ → Bool) → at_device d false member d ≡ false
lost_member d member = ap (λ t. cond t false (member d)) (here d)

may_join : (c : Codec) (size : ℕ → ℕ) (s : PoolState) (t : Side) (d : ℕ) (m : Guid) (top : ℕ) (made : List Noted) → Kept c s t → IsSized size t
    → t.pool.opened ≡ true
    → 320 ≤ size d → t.pool.room top + 256 ≤ size d → m.0 < 2 ^ 64 → s.own.next_member ≤ m.0 → IsPart (stamp_plan d (size d) t.pool.pool m) made None
    → MayJoin (after Rests (with_calls made (after (Loses d) t.pool))) d m top
may_join c size s t d m top made kept sized opened big rooms range above calls =
    let same = sized d (omega (arith, big)) in
    record {
      new = lost_member d t.pool.member;
      in_range = range;
      big = subst (λ n. 320 ≤ n) (sym same) big;
      rooms = subst (λ n. t.pool.room top + 256 ≤ n) (sym same) rooms;
      rings = stamp_blanks d (t.pool.size d) t.pool.pool m made t.pool.sectors (subst (λ n. 320 ≤ n) (sym same) big)
          (subst (λ n. IsPart (stamp_plan d n t.pool.pool m) made None) (sym same) calls);
      unknown = λ r is. kept.numbers.known opened r is m above;
    }

pool_opened : (c : Codec) (s : PoolState) (t : Side) → Kept c s t → s.core.opened ≡ t.pool.opened
pool_opened c s t kept = ap (λ core. core.opened) kept.core

-- the walk behind the stamp, up to the scan's start
comes_walk : (c : Codec) (s : PoolState) (t : Side) (i d : ℕ) (m : Guid) (top : ℕ) (own : OwnLeaf) (children : List Child) (made : List Noted) → Kept c s t
    → MayJoin (after Rests (with_calls made (after (Loses d) t.pool))) d m top → s.own.next_member ≤ m.0 → Walks c t (Lose d ∷ as_moves made)
    → Walks c (after_moves (Lose d ∷ as_moves made) t) (Rest ∷ (Comes i d m top own ∷ (Shapes top children ∷ [])))
comes_walk c s t i d m top own children made kept may above walks =
    let stamped = after_moves (as_moves made) (after_move (Lose d) t) in
    let rested = state_step Rest (steps (as_moves made) (state_step (Lose d) s)) in
    let same_next : rested.own.next_member ≡ s.own.next_member = ap (λ x. x.own.next_member)
    (calls_state made (state_step (Lose d) s)) in (
      ((tt, tt), tt),
      (
        (
          (subst (λ p. MayJoin (after Rests p) d m top) (sym (calls_pool made (after_move (Lose d) t))) may, tt),
          record {
            elsewhere = elsewhere_still d Rest stamped tt
                (subst (AllByRecursion (IsElsewhere d)) (sym (calls_seats made (after_move (Lose d) t)))
                (lose_elsewhere t.pool d t.seats));
            others = other_numbers (after_move Rest stamped).pool.guid rested.own.next_member m
                (subst (λ n. n ≤ m.0) (sym same_next) above) (after_move Rest stamped).seats
                (walk_keeps c (Rest ∷ []) (steps (Lose d ∷ as_moves made) s) stamped (((tt, tt), tt), tt)
                (walk_keeps c (Lose d ∷ as_moves made) s t walks kept)).numbers.below;
            at_rest = refl;
          },
        ),
        ((tt, tt), tt),
      ),
    )

-- What the moves leave opened.
opened_calls : (made : List Noted) (t : Side) → (after_moves (as_moves made) t).pool.opened ≡ t.pool.opened
opened_calls made t = ap (λ p. p.opened) (calls_pool made t)

graft_ends : (c : Codec) (size : ℕ → ℕ) (outcome : Option Fault) (graft : Graft) (s : PoolState) (t : Side) (name : List ℕ) (leaf : LeafSeen) (new : List ℕ)
    (d : ℕ) (made : List Noted) (vs : List Move) (reply : GraftReply)
    → Kept c s t → IsSized size t → s.core.opened ≡ true → AllByRecursion (λ leaf. is_dev d leaf.dev ≡ false) s.core.leaves → 320 ≤ size d
    → s.core.room leaf.top + 256 ≤ size d
    → s.own.next_member + 1 < last_member → IsPart (stamp_plan d (size d) s.core.pool (new_number graft s)) made outcome
    → GraftEnds outcome graft s name leaf new d made vs reply → Walks c t vs
graft_ends c size (Some fault) graft s t name leaf new d made vs reply kept sized opened off big rooms left calls ends =
    subst (Walks c t) (sym ends.0) (stamp_walk c s t d (size d) s.core.pool (new_number graft s) made (Some fault) kept off calls)
graft_ends c size None graft s t name leaf new d made vs reply kept sized opened off big rooms left calls ends =
    let first = graft_first graft s name leaf new d made in
    let stamp = stamp_walk c s t d (size d) s.core.pool (new_number graft s) made None kept off calls in
    let now_opened : t.pool.opened ≡ true = sym (pool_opened c s t kept) ∙ opened in
    let walk : Walks c t first = walks_more c (Lose d ∷ as_moves made) (comes_in graft s name leaf new d) t stamp
    (comes_walk c s t (new_place graft name leaf.top s.core.leaves) d (new_number graft s) leaf.top (new_own graft new)
    (grafted graft s leaf) made kept (may_join c size s t d (new_number graft s) leaf.top made kept sized now_opened big
    (subst (λ core. core.room leaf.top + 256 ≤ size d) kept.core rooms) (new_range graft s left) (new_above graft s)
    (subst (λ core. IsPart (stamp_plan d (size d) core.pool (new_number graft s)) made None) kept.core calls))
    (new_above graft s) stamp) in
    let behind = walk_keeps c first s t walk kept in
    let still_opened : (after_moves first t).pool.opened ≡ true = ap (λ x. x.pool.opened)
    (moves_more (as_moves made) (comes_in graft s name leaf new d) (after_move (Lose d) t))
    ∙ (opened_calls made (after_move (Lose d) t) ∙ now_opened) in
    let all : Walks c t (graft_moves graft s name leaf new d made) = walks_more c first
    (starts_scan (steps first s) ∷ []) t walk
    (start_walk c (steps first s) (after_moves first t) behind
    (pool_opened c (steps first s) (after_moves first t) behind ∙ still_opened)) in
    subst (Walks c t) (sym ends.0.moves) (walks_more c (graft_moves graft s name leaf new d made) ends.0.widens t all
    (widens_walk c ends.0.widens (steps (graft_moves graft s name leaf new d made) s) (after_moves (graft_moves graft s name leaf new d made) t)
    (walk_keeps c (graft_moves graft s name leaf new d made) s t all kept) ends.0.are))

-- `attach` and `replace`
graft_on : (c : Codec) (small : Bool) (size : ℕ → ℕ) (graft : Graft) (s : PoolState) (t : Side) (name : List ℕ) (leaf : LeafSeen) (new : List ℕ) (d : ℕ)
    (vs : List Move) (reply : GraftReply) → Kept c s t
    → IsSized size t → nat_lt (size d) (s.core.room leaf.top + 256) ≡ small → s.own.next_member + 1 < last_member
    → GraftOn small size graft s name leaf new d vs reply → Walks c t vs
graft_on c true size graft s t name leaf new d vs reply kept sized is left row = subst (Walks c t) (sym row.0) tt
graft_on c false size graft s t name leaf new d vs reply kept sized is left row =
    graft_ends c size row.outcome graft s t name leaf new d row.made vs reply kept sized row.opened row.elsewhere row.big
    (not_lt (size d) (s.core.room leaf.top + 256) is) left row.calls row.ends

graft_at : (c : Codec) (named : Option LeafSeen) (size : ℕ → ℕ) (graft : Graft) (s : PoolState) (t : Side) (name new : List ℕ) (d : ℕ) (vs : List Move)
    (reply : GraftReply) → Kept c s t → IsSized size t
    → graft_refusal graft s name named ≡ None → GraftAt named size graft s name new d vs reply → Walks c t vs
graft_at c None size graft s t name new d vs reply kept sized none row = absurd row
graft_at c (Some leaf) size graft s t name new d vs reply kept sized none row =
    graft_on c (nat_lt (size d) (s.core.room leaf.top + 256)) size graft s t name leaf new d vs reply kept sized refl
    (graft_left graft (length (s.own.children leaf.top)) (length s.core.leaves) s.own.next_member
    (placed_limits (has_place graft leaf.guid (s.own.children leaf.top)) (graft_limits graft s leaf.top) none)) row

graft_for : (c : Codec) (refusal : Option TreeRefusal) (size : ℕ → ℕ) (graft : Graft) (s : PoolState) (t : Side) (name new : List ℕ) (d : ℕ) (vs : List Move)
    (reply : GraftReply) → Kept c s t → IsSized size t
    → graft_refusal graft s name (leaf_named name s.core.leaves) ≡ refusal → GraftFor refusal size graft s name new d vs reply → Walks c t vs
graft_for c (Some refusal) size graft s t name new d vs reply kept sized is row = subst (Walks c t) (sym row.0) tt
graft_for c None size graft s t name new d vs reply kept sized is row =
    graft_at c (leaf_named name s.core.leaves) size graft s t name new d vs reply kept sized is row

pub graft_walks : (c : Codec) (size : ℕ → ℕ) (graft : Graft) (s : PoolState) (t : Side) (name new : List ℕ) (d : ℕ) (vs : List Move) (reply : GraftReply)
    → Kept c s t → IsSized size t → RowGraft size graft s name new d vs reply → Walks c t vs
graft_walks c size graft s t name new d vs reply kept sized row =
    graft_for c (graft_refusal graft s name (leaf_named name s.core.leaves)) size graft s t name new d vs reply kept sized refl row
