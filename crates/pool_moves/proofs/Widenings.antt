-- Logs may be widened: the walks of widenings.
use Rattle.std.proofs.Common.{◌≡◌, ◌⊎◌, inl, inr, ℕ, ◌≤◌, ◌==◌, ◌&&◌, Bool, true, false, cond, Some, None, List, [], ◌∷◌, ◌++◌, map, refl, sym, ap, ◌∙◌, subst, arith, append_assoc}
use Rattle.std.specs.Prelude.{nat_lt, nat_le}
use Rattle.std.specs.List.{AllByRecursion}
use Rattle.std.proofs.lemmas.Bool.{and_parts}
use Rattle.std.proofs.lemmas.Bool.Decides.{nat_tests}
use Rattle.mp_base.specs.declared.number.Guid.{Guid}
use Rattle.group_set.specs.Runs.{between}
use Rattle.bank_core.specs.Disk.{Noted}
use Rattle.label_store.specs.declared.member.Member.{Member}
use Rattle.txg_history.specs.Events.{Event, Calls, Leaves, as_events}
use Rattle.txg_history.specs.Groups.{Logs, grown, at_device}
use Rattle.txg_history.specs.Moves.{AreWidened, May, Mays}
use Rattle.txg_history.specs.Pages.{Codec}
use Rattle.txg_history.specs.Pools.{Pool, after, pool_after}
use Rattle.txg_history.specs.Turns.{leavers}
use Rattle.txg_history.proofs.Folding.{mays_first, mays_second}
use Rattle.pool_moves.specs.Keeping.{IsOfFound, IsOwnNumber, HasNumbered, Admits, Kept, Walks}
use Rattle.pool_moves.specs.Leaves.{LeafSeen, Seat, At, Adrift, leaf_seen, told}
use Rattle.pool_moves.specs.Moves.{Move, Makes, Leave, Widen, of_number, step, steps, state_step, seat_step, events_of, after_move, after_moves}
use Rattle.pool_moves.specs.States.{PoolSeen, PoolState, Side, seen}
use Rattle.pool_moves.specs.TurnRows.{turn_moves}
use Rattle.pool_moves.specs.Walking.{events_along, as_moves}
use Rattle.pool_moves.specs.Widening.{ranges_in, widest_of, widest, IsSpanned, IsWidening, AreWidens, IsWidened, AreLeaves, seen_along}
use Rattle.pool_moves.proofs.FreeWalks.{found_stays, walk_of, walks_more, free_walk, frozen_along, free_along, calls_free}
use Rattle.pool_moves.proofs.Keeping.{seat_cases, move_keeps, walk_keeps}
use Rattle.pool_moves.proofs.Lists.{all_map, each}

-- A member of a leaf's number is where the leaf is, so the leaf's log is the member's.
abbrev IsLogOf : Pool → LeafSeen → Type 0
IsLogOf p leaf = (d g : ℕ) → p.member d ≡ true → (p.guid d).0 ≡ leaf.guid.0 → leaf.owes g ≡ p.owes d g

log_at : (f : Bool) (p : Pool) (seat : Seat) → ((d : ℕ) → p.member d ≡ true → IsOwnNumber p.guid d seat) → IsLogOf p (leaf_seen f (told p) seat)
log_at f p (At e found own) n d g is same = of (n d is)
  where
    of : ((d == e) ≡ true) ⊎ (((p.guid e).0 == (p.guid d).0) ≡ false) → p.owes e g ≡ p.owes d g
    of (inl one) = ap (λ x. p.owes x g) (let back : e ≡ d = grind (arith, nat_tests) in back)
    of (inr other) = absurd (let yes : ((p.guid e).0 == (p.guid d).0) ≡ true = grind (arith, nat_tests) in cc)
log_at f p (Adrift leaf) n d g is same = absurd (let other = n d is in
    let yes : (leaf.guid.0 == (p.guid d).0) ≡ true = grind (arith, nat_tests) in cc)

logs_at : (f : Bool) (p : Pool) (seats : List Seat) → ((d : ℕ) → p.member d ≡ true → AllByRecursion (IsOwnNumber p.guid d) seats)
    → AllByRecursion (IsLogOf p) (map (leaf_seen f (told p)) seats)
logs_at f p [] n = tt
logs_at f p (seat ∷ seats) n = (log_at f p seat (λ d is. (n d is).0), logs_at f p seats (λ d is. (n d is).1))

-- What all leaves have, the widest has.
either : (P : LeafSeen → Type 0) (t : Bool) (a b : LeafSeen) → P a → P b → P (cond t a b)
either P true a b pa pb = pa
either P false a b pa pb = pb

picked : (P : LeafSeen → Type 0) (number : ℕ) (best : LeafSeen) (leaves : List LeafSeen) → P best → AllByRecursion P leaves → P (widest_of number best leaves)
picked P number best [] is all = is
picked P number best (leaf ∷ leaves) is all = picked P number (cond (nat_lt (ranges_in number best) (ranges_in number leaf)) leaf best) leaves
    (either P (nat_lt (ranges_in number best) (ranges_in number leaf)) leaf best all.0 is) all.1

some_is : {a b : LeafSeen} → Some a ≡ Some b → a ≡ b
some_is same = cc

none_is : {a : LeafSeen} → None ≡ Some a → ⊥
none_is same = cc

widest_has : (P : LeafSeen → Type 0) (number : ℕ) (leaves : List LeafSeen) (leaf : LeafSeen) → widest number leaves ≡ Some leaf → AllByRecursion P leaves → P leaf
widest_has P number [] leaf most all = absurd (none_is most)
widest_has P number (x ∷ xs) leaf most all = subst P (some_is most) (picked P number x xs all.0 all.1)

-- The history lets the log grow.
grows : (p : Pool) (m : Guid) (low high : ℕ) (leaf : LeafSeen) → IsLogOf p leaf → leaf.guid ≡ m → IsSpanned leaf.owes low high
    → AreWidened p.owes (grown (of_number p m) low high p.owes)
grows p m low high leaf is number spans = record { more = λ d g old. more (of_number p m d && between low high g) d g old; inside = λ d g new. inside (of_number p m d && between low high g) d g refl new }
  where
    more : (t : Bool) (d g : ℕ) → p.owes d g ≡ true → cond t true (p.owes d g) ≡ true
    more true d g old = refl
    more false d g old = old

    inside : (t : Bool) (d g : ℕ) → (of_number p m d && between low high g) ≡ t → cond t true (p.owes d g) ≡ true
        → (a : ℕ) × (b : ℕ) × (p.owes d a ≡ true) × (p.owes d b ≡ true) × (a ≤ g) × (g ≤ b)
    inside false d g off old = let self : g ≤ g = grind (arith) in (g, g, old, old, self, self)
    inside true d g on new =
        let parts = and_parts (of_number p m d) (between low high g) on in
        let who = and_parts (p.member d) ((p.guid d).0 == m.0) parts.0 in
        let where_is = and_parts (nat_le low g) (nat_le g high) parts.1 in
        let same : (p.guid d).0 ≡ leaf.guid.0 = (let there : (p.guid d).0 ≡ m.0 = grind (arith, nat_tests) in there ∙ sym (ap (λ x. x.0) number)) in
        let above : low ≤ g = grind (arith, nat_tests) in
        let below : g ≤ high = grind (arith, nat_tests) in
        (low, high, sym (is d low who.0 same) ∙ spans.low_in, sym (is d high who.0 same) ∙ spans.high_in, above, below)

-- Each leaf of the list has its number there.
numbered_at : (f : Bool) (p : Pool) (all seats : List Seat) → ((m : Guid) → HasNumbered p.guid m seats → HasNumbered p.guid m all)
    → AllByRecursion (λ leaf. HasNumbered p.guid leaf.guid all) (map (leaf_seen f (told p)) seats)
numbered_at f p all [] up = tt
numbered_at f p all (At d found own ∷ seats) up = (up (p.guid d) (inl (let same : ((p.guid d).0 == (p.guid d).0) ≡ true = grind (arith, nat_tests) in same)), numbered_at f p all seats (λ m has. up m (inr has)))
numbered_at f p all (Adrift leaf ∷ seats) up = (up leaf.guid (inl (let same : (leaf.guid.0 == leaf.guid.0) ≡ true = grind (arith, nat_tests) in same)), numbered_at f p all seats (λ m has. up m (inr has)))

-- One widening, and all.
widen_walk : (c : Codec) (s : PoolState) (t : Side) (m : Guid) (low high : ℕ) → Kept c s t → IsWidening s.core m low high → Walks c t (Widen m low high ∷ [])
widen_walk c s t m low high kept is = (
  (
    (grows t.pool m low high is.leaf (has (IsLogOf t.pool) (logs_at t.pool.group.frozen t.pool t.seats kept.numbered)) is.number_is is.spans, tt),
    subst (λ n. HasNumbered t.pool.guid n t.seats) is.number_is
        (has (λ leaf. HasNumbered t.pool.guid leaf.guid t.seats) (numbered_at t.pool.group.frozen t.pool t.seats t.seats (λ n found. found))),
  ),
  tt,
)
  where
    has : (P : LeafSeen → Type 0) → AllByRecursion P (seen t).leaves → P is.leaf
    has P all = widest_has P s.core.number s.core.leaves is.leaf is.most (subst (λ core. AllByRecursion P core.leaves) (sym kept.core) all)

pub widens_walk : (c : Codec) (vs : List Move) (s : PoolState) (t : Side) → Kept c s t → AreWidens s.core vs → Walks c t vs
widens_walk c [] s t kept are = tt
widens_walk c (Widen m low high ∷ vs) s t kept are = let walk = widen_walk c s t m low high kept are.1 in
    (walk.0, widens_walk c vs (state_step (Widen m low high) s) (after_move (Widen m low high) t) (move_keeps c (Widen m low high) s t walk.0.0 walk.0.1 kept) are.2)
widens_walk c (v ∷ vs) s t kept are = absurd are

pub widened_walk : (c : Codec) (v : Move) (vs : List Move) (s : PoolState) (t : Side) → Kept c s t → Walks c t (v ∷ []) → IsWidened s.core v vs → Walks c t vs
widened_walk c v vs s t kept walk is = subst (Walks c t) (sym is.moves)
    (walk.0, widens_walk c is.widens (state_step v s) (after_move v t) (move_keeps c v s t walk.0.0 walk.0.1 kept) is.are)

-- the state's part that is seen
pub seen_of : (vs : List Move) (s : PoolState) → (steps vs s).core ≡ seen_along vs s.core
seen_of [] s = refl
seen_of (v ∷ vs) s = seen_of vs (state_step v s)

-- Widenings leave all but logs as it was.
abbrev pub IsLike : Pool → Pool → Type 0
IsLike b p = (o : Logs) × (p ≡ record b { owes = o })

pub widens_like : (vs : List Move) (s : PoolSeen) (t : Side) (b : Pool) → AreWidens s vs → IsLike b t.pool → IsLike b (after_moves vs t).pool
widens_like [] s t b are like = like
widens_like (Widen m low high ∷ vs) s t b are like = widens_like vs (step (Widen m low high) s) (after_move (Widen m low high) t) b are.2
    (grown (of_number t.pool m) low high t.pool.owes, ap {A = Pool} (λ p. record p { owes = grown (of_number t.pool m) low high t.pool.owes }) like.1)
widens_like (v ∷ vs) s t b are like = absurd are

leave_like : (d : ℕ) (p b : Pool) → IsLike b p → IsLike (after (Leaves d) b) (after (Leaves d) p)
leave_like d p b like = (
  grown (λ e. d == e) p.group.first p.highest p.owes,
  ap {A = Pool} (λ q. record q { owes = grown (λ e. d == e) p.group.first p.highest p.owes; group = record (q.group) { board = at_device d false q.group.board } }) like.1,
)

-- The group stays frozen behind them, and the same leaves are found.
pub widens_frozen : (vs : List Move) (s : PoolSeen) (t : Side) → AreWidens s vs → (after_moves vs t).pool.group.frozen ≡ t.pool.group.frozen
widens_frozen [] s t are = refl
widens_frozen (Widen m low high ∷ vs) s t are = widens_frozen vs (step (Widen m low high) s) (after_move (Widen m low high) t) are.2
widens_frozen (v ∷ vs) s t are = absurd are

pub widens_found : (which : ℕ → Bool) (vs : List Move) (s : PoolSeen) (t : Side) → AreWidens s vs → AllByRecursion (IsOfFound which) t.seats
    → AllByRecursion (IsOfFound which) (after_moves vs t).seats
widens_found which [] s t are all = all
widens_found which (Widen m low high ∷ vs) s t are all = widens_found which vs (step (Widen m low high) s) (after_move (Widen m low high) t) are.2
    (all_map _ (seat_step (Widen m low high) t.pool)
    (seat_cases (λ seat. IsOfFound which seat → IsOfFound which (seat_step (Widen m low high) t.pool seat)) (λ d found own is. is) (λ leaf is. tt)) t.seats all)
widens_found which (v ∷ vs) s t are all = absurd are

-- what the history gets of calls alone
pub only_calls : (made : List Noted) (t : Side) → events_along (as_moves made) t ≡ as_events made
only_calls [] t = refl
only_calls (noted ∷ made) t = ap (λ l. Calls noted ∷ l) (only_calls made (after_move (Makes noted) t))

-- Leaves with their widenings, and more moves behind them, which logs don't concern.
pub leaves_walk : (c : Codec) (ms : List Member) (results : List Bool) (vs tail : List Move) (s : PoolState) (t : Side) (b : Pool) → Kept c s t
    → IsLike b t.pool → t.pool.group.frozen ≡ true → AllByRecursion (λ m. AllByRecursion (IsOfFound (λ e. m.dev == e)) t.seats) ms → AreLeaves s.core ms results vs
    → ((u : Side) → IsLike (pool_after (leavers ms results) b) u.pool → u.pool.group.frozen ≡ true → Walks c u tail) → Walks c t (vs ++ tail)
leaves_walk c [] results vs tail s t b kept like f found are more = subst (λ l. Walks c t (l ++ tail)) (sym are) (more t like f)
leaves_walk c (m ∷ ms) [] vs tail s t b kept like f found are more = subst (λ l. Walks c t (l ++ tail)) (sym are) (more t like f)
leaves_walk c (m ∷ ms) (true ∷ results) vs tail s t b kept like f found are more = leaves_walk c ms results vs tail s t b kept like f found.1 are more
leaves_walk c (m ∷ ms) (false ∷ results) vs tail s t b kept like f found are more =
    subst (λ l. Walks c t (l ++ tail)) (sym are.2) (subst (Walks c t) (sym (append_assoc are.0 are.1 tail))
    (walks_more c are.0 (are.1 ++ tail) t walk
    (leaves_walk c ms results are.1 tail (steps are.0 s) (after_moves are.0 t) (after (Leaves m.dev) b) (walk_keeps c are.0 s t walk kept)
    (subst (λ l. IsLike (after (Leaves m.dev) b) (after_moves l t).pool) (sym are.3.moves)
    (widens_like are.3.widens (step (Leave m.dev) s.core) (after_move (Leave m.dev) t) (after (Leaves m.dev) b) are.3.are (leave_like m.dev t.pool b like)))
    (subst (λ l. (after_moves l t).pool.group.frozen ≡ true) (sym are.3.moves) (widens_frozen are.3.widens (step (Leave m.dev) s.core) (after_move (Leave m.dev) t) are.3.are ∙ f))
    (each stays ms found.1) (subst (λ core. AreLeaves core ms results are.1) (sym (seen_of are.0 s)) are.4) more)))
  where
    walk : Walks c t are.0
    walk = widened_walk c (Leave m.dev) are.0 s t kept (((f, tt), (f, found.0)), tt) are.3

    stays : (n : Member) → AllByRecursion (IsOfFound (λ e. n.dev == e)) t.seats → AllByRecursion (IsOfFound (λ e. n.dev == e)) (after_moves are.0 t).seats
    stays n there = subst (λ l. AllByRecursion (IsOfFound (λ e. n.dev == e)) (after_moves l t).seats) (sym are.3.moves)
        (widens_found (λ e. n.dev == e) are.3.widens (step (Leave m.dev) s.core) (after_move (Leave m.dev) t) are.3.are (found_stays (λ e. n.dev == e) (Leave m.dev) t found.0 there))

-- the mark of a turn, where logs don't count
abbrev pub IsMark : Codec → Move → Event → Type 0
IsMark c mark v = ((p : Pool) → events_of mark p ≡ v ∷ []) × ((b : Pool) (o : Logs) → May c b v → May c (record b { owes = o }) v)
    × ((t : Side) → t.pool.group.frozen ≡ true → Admits t mark)

mark_walk : (c : Codec) (t : Side) (b : Pool) (mark : Move) (v : Event) → IsMark c mark v → IsLike b t.pool → t.pool.group.frozen ≡ true → Mays c b (v ∷ []) → Walks c t (mark ∷ [])
mark_walk c t b mark v is like f may = ((subst (Mays c t.pool) (sym (is.0 t.pool)) (subst (λ p. May c p v) (sym like.1) (is.1 b like.0 may.0), tt), is.2 t f), tt)

-- calls change nothing that is seen
pub calls_seen : (made : List Noted) (s : PoolSeen) → seen_along (as_moves made) s ≡ s
calls_seen [] s = refl
calls_seen (noted ∷ made) s = calls_seen made s

pub calls_pool : (made : List Noted) (t : Side) → (after_moves (as_moves made) t).pool ≡ pool_after (as_events made) t.pool
calls_pool [] t = refl
calls_pool (noted ∷ made) t = calls_pool made (after_move (Makes noted) t)

-- A turn: its calls, the leaves that leave the board with what is widened behind them, and its mark.
pub turn_walk : (c : Codec) (s : PoolState) (t : Side) (made : List Noted) (ms : List Member) (results : List Bool) (leaving : List Move) (mark : Move) (v : Event) → Kept c s t
    → t.pool.group.frozen ≡ true → IsMark c mark v → AllByRecursion (λ m. AllByRecursion (IsOfFound (λ e. m.dev == e)) t.seats) ms
    → Mays c t.pool (as_events made ++ (leavers ms results ++ (v ∷ []))) → AreLeaves s.core ms results leaving → Walks c t (turn_moves made leaving mark)
turn_walk c s t made ms results leaving mark v kept f is found may are =
    let walk : Walks c t (as_moves made) = walk_of c (as_moves made) t (subst (Mays c t.pool) (sym (only_calls made t))
    (mays_first c (as_events made) (leavers ms results ++ (v ∷ [])) t.pool may))
    (free_walk (as_moves made) t f (calls_free t.seats made)) in
    walks_more c (as_moves made) (leaving ++ (mark ∷ [])) t walk
    (leaves_walk c ms results leaving (mark ∷ []) (steps (as_moves made) s) (after_moves (as_moves made) t) (pool_after (as_events made) t.pool)
    (walk_keeps c (as_moves made) s t walk kept) ((pool_after (as_events made) t.pool).owes, calls_pool made t) (frozen_along (as_moves made) t (calls_free t.seats made) ∙ f)
    (each (λ n there. free_along (as_moves made) (Leave n.dev) t (calls_free t.seats made) there) ms found)
    (subst (λ core. AreLeaves core ms results leaving) (sym (seen_of (as_moves made) s ∙ calls_seen made s.core)) are)
    (λ u like g. mark_walk c u (pool_after (leavers ms results) (pool_after (as_events made) t.pool)) mark v is like g
    (mays_second c (leavers ms results) (v ∷ []) (pool_after (as_events made) t.pool) (mays_second c (as_events made) (leavers ms results ++ (v ∷ [])) t.pool may))))

-- a walk without its last move
pub nothing_more : (c : Codec) (vs : List Move) (last : Move) (t : Side) → Walks c t (vs ++ (last ∷ [])) → Walks c t vs
nothing_more c [] last t walks = tt
nothing_more c (v ∷ vs) last t walks = (walks.0, nothing_more c vs last (after_move v t) walks.1)
