-- A scan may start, end and be stopped: the walks from their rows.
use Rattle.std.proofs.Common.{◌≡◌, ◌⊎◌, inl, inr, ℕ, ◌≤◌, ◌==◌, ◌&&◌, Bool, true, false, cond, Option, Some, None, List, [], ◌∷◌, ◌++◌, map, refl, sym, ap, ◌∙◌, subst, arith}
use Rattle.std.specs.List.{AllByRecursion, find}
use Rattle.mp_base.specs.declared.place.Key.{Key}
use Rattle.bank_core.specs.declared.bank.Fault.{Fault}
use Rattle.bank_core.specs.Asks.{Flushes, ask_of}
use Rattle.bank_core.specs.Calls.{fault_of}
use Rattle.bank_core.specs.Disk.{Call, Flush, Noted, AllAnswer}
use Rattle.label_store.specs.declared.member.Member.{Member}
use Rattle.txg_history.specs.Events.{Calls, Clears}
use Rattle.txg_history.specs.Groups.{at_device}
use Rattle.txg_history.specs.Pages.{Codec, sum_of}
use Rattle.txg_history.specs.Pools.{Pool, after}
use Rattle.txg_history.specs.Records.{Cell}
use Rattle.txg_history.proofs.Showing.{clear_may}
use Rattle.txg_history.proofs.Sparing.{part_may}
use Rattle.txg_history.proofs.Turning.{flush_sparing}
use Rattle.pool_moves.specs.Boards.{members_where}
use Rattle.pool_moves.specs.Keeping.{IsElsewhere, AreSeatsApart, IsAway, HasFound, IsOfFound, Kept, Walks}
use Rattle.pool_moves.specs.Leaves.{LeafSeen, Seat, At, Adrift, dev_if, told, leaf_seen}
use Rattle.pool_moves.specs.LineRows.{has_number, write_failed, sets_failed}
use Rattle.pool_moves.specs.Moves.{Move, Makes, Sets, Drop, Clear, Rest, Scrubs, on_dev, step, steps, state_step, after_move, after_moves}
use Rattle.pool_moves.specs.ReadRow.{made_in}
use Rattle.pool_moves.specs.ScanRows.{first_reads, FlushEnds, AreFlushed, is_eligible, RowScanEnd, StepReply, StepBy, RowStep, FoundClash, starts_scan, ScrubReply, ScrubBy, RowScrub, StopReply, StopBy, RowStopScrub}
use Rattle.pool_moves.specs.States.{scan_seen, PoolSeen, PoolState, Side}
use Rattle.pool_moves.specs.Widening.{IsWidened, seen_along}
use Rattle.pool_moves.proofs.AwayWalks.{only_found}
use Rattle.pool_moves.proofs.Boarding.{before_all, dev_is}
use Rattle.pool_moves.proofs.FreeWalks.{walks_more}
use Rattle.pool_moves.proofs.Keeping.{of_found_still, move_keeps, walk_keeps}
use Rattle.pool_moves.proofs.Widenings.{IsLike, widened_walk, widens_like, widens_found, seen_of}
use Rattle.pool_moves.proofs.ReadWalks.{sum_of_cell}
use Rattle.pool_moves.proofs.ScanSteps.{scan_core, is_running, seen_running, key_walks}
use Rattle.pool_moves.proofs.Lists.{each}
use Rattle.pool_moves.proofs.Tests.{no_dev, same_test}

-- The members that are flushed: each eligible, on a device of its own at which a leaf was found.
abbrev AreDevicesApart : List Member → Type 0
AreDevicesApart [] = Unit {0}
AreDevicesApart (m ∷ ms) = AllByRecursion (λ n. (m.dev == n.dev) ≡ false) ms × AreDevicesApart ms

abbrev eligible_of : Bool → Pool → List Seat → List Member
eligible_of f p seats = members_where (is_eligible (scan_seen true p.scan)) (map (leaf_seen f (told p)) seats)

abbrev IsEligible : Pool → List Seat → Member → Type 0
IsEligible p seats m = (p.scan.eligible m.dev ≡ true) × HasFound m.dev seats

eligible_are : (f : Bool) (p : Pool) (all seats : List Seat) → AllByRecursion IsAway seats → ((d : ℕ) → HasFound d seats → HasFound d all)
    → AllByRecursion (IsEligible p all) (eligible_of f p seats)
eligible_are f p all [] away up = tt
eligible_are f p all (At d found own ∷ seats) away up =
    before_all (AllByRecursion (IsEligible p all)) (on_dev p.scan.eligible (dev_if found d)) (dev_if found d) (p.guid d) (eligible_of f p seats)
    (eligible_are f p all seats away.1 (λ e has. up e (inr has)))
    (λ e on dev. let at = dev_is found d e dev in (
      (subst (λ x. on_dev p.scan.eligible x ≡ true) dev on, up e (inl (same_test e d (sym at.1), at.0))),
      eligible_are f p all seats away.1 (λ e has. up e (inr has)),
    ))
eligible_are f p all (Adrift leaf ∷ seats) away up = before_all (AllByRecursion (IsEligible p all)) (on_dev p.scan.eligible leaf.dev) leaf.dev leaf.guid (eligible_of f p seats)
    (eligible_are f p all seats away.1 (λ e has. up e (inr has))) (λ e on dev. no_dev leaf.dev e away.0.0 dev)

eligible_off : (f : Bool) (p : Pool) (d : ℕ) (seats : List Seat) → AllByRecursion IsAway seats → AllByRecursion (IsElsewhere d) seats
    → AllByRecursion (λ n. (d == n.dev) ≡ false) (eligible_of f p seats)
eligible_off f p d [] away off = tt
eligible_off f p d (At e found own ∷ seats) away off =
    before_all (AllByRecursion (λ n. (d == n.dev) ≡ false)) (on_dev p.scan.eligible (dev_if found e)) (dev_if found e) (p.guid e) (eligible_of f p seats)
    (eligible_off f p d seats away.1 off.1) (λ x on dev. (subst (λ n. (d == n) ≡ false) (dev_is found e x dev).1 off.0, eligible_off f p d seats away.1 off.1))
eligible_off f p d (Adrift leaf ∷ seats) away off =
    before_all (AllByRecursion (λ n. (d == n.dev) ≡ false)) (on_dev p.scan.eligible leaf.dev) leaf.dev leaf.guid (eligible_of f p seats)
    (eligible_off f p d seats away.1 off.1) (λ x on dev. no_dev leaf.dev x away.0.0 dev)

eligible_apart : (f : Bool) (p : Pool) (seats : List Seat) → AllByRecursion IsAway seats → AreSeatsApart seats → AreDevicesApart (eligible_of f p seats)
eligible_apart f p [] away apart = tt
eligible_apart f p (At d found own ∷ seats) away apart = before_all AreDevicesApart (on_dev p.scan.eligible (dev_if found d)) (dev_if found d) (p.guid d) (eligible_of f p seats)
    (eligible_apart f p seats away.1 apart.1)
    (λ e on dev. (
      subst (λ n. AllByRecursion (λ x. (n == x.dev) ≡ false) (eligible_of f p seats)) (dev_is found d e dev).1
          (eligible_off f p d seats away.1 apart.0),
      eligible_apart f p seats away.1 apart.1,
    ))
eligible_apart f p (Adrift leaf ∷ seats) away apart = before_all AreDevicesApart (on_dev p.scan.eligible leaf.dev) leaf.dev leaf.guid (eligible_of f p seats)
    (eligible_apart f p seats away.1 apart) (λ e on dev. no_dev leaf.dev e away.0.0 dev)

-- What stands while leaves are flushed, one after another: each key was passed, and those that are left are eligible.
abbrev IsPassed : Pool → Type 0
IsPassed p = (k : Key) (cell : Cell) → p.reads.cells k ≡ Some cell → cell.birth ≤ p.scan.hi → p.scan.passed k ≡ true

record AreLeft (c : Codec) (s : PoolState) (t : Side) (ms : List Member) : Type 0 where
  pub kept : Kept c s t
  pub running : t.pool.scan.running ≡ true
  pub passed : IsPassed t.pool
  pub eligible : AllByRecursion (λ m. t.pool.scan.eligible m.dev ≡ true) ms
  pub apart : AreDevicesApart ms
  pub found : AllByRecursion (λ m. AllByRecursion (IsOfFound (λ e. m.dev == e)) t.seats) ms

flush_call : (call : Call) (d : ℕ) → ask_of call ≡ Flushes d → call ≡ Flush d (fault_of call)
flush_call (Flush e fault) d ask = let same : e ≡ d = cc in ap (λ n. Flush n fault) same
flush_call call d ask = absurd (cc)

-- another member's device is no unfound leaf's, behind a move that leaves each where it was
found_mapped : (v : Move) (t : Side) (ms : List Member) (seats : List Seat)
    → ((which : ℕ → Bool) → AllByRecursion (IsOfFound which) t.seats → AllByRecursion (IsOfFound which) seats)
    → AllByRecursion (λ m. AllByRecursion (IsOfFound (λ e. m.dev == e)) t.seats) ms
    → AllByRecursion (λ m. AllByRecursion (IsOfFound (λ e. m.dev == e)) seats) ms
found_mapped v t ms seats step all = each (λ m is. step (λ e. m.dev == e) is) ms all

still_eligible : (d : ℕ) (eligible : ℕ → Bool) (ms : List Member) → AllByRecursion (λ n. (d == n.dev) ≡ false) ms
    → AllByRecursion (λ m. eligible m.dev ≡ true) ms → AllByRecursion (λ m. at_device d false eligible m.dev ≡ true) ms
still_eligible d eligible [] off all = tt
still_eligible d eligible (m ∷ ms) off all = (ap (λ t. cond t false (eligible m.dev)) off.0 ∙ all.0, still_eligible d eligible ms off.1 all.1)

-- what comes behind the end of a leaf's part
abbrev Later : Codec → PoolSeen → List Member → (ending rest : List Move) → Type 0
Later c s ms ending rest = (u : PoolState) (t : Side) → u.core ≡ seen_along ending s → AreLeft c u t ms → Walks c t rest

-- a leaf whose flush answered Ok
cleared_walk : (c : Codec) (s : PoolState) (t : Side) (m : Member) (ms : List Member) (noted : Noted) (ending rest : List Move) → AreLeft c s t (m ∷ ms)
    → noted.call ≡ Flush m.dev None → IsWidened s.core (Clear m.dev) ending → Later c s.core ms ending rest → Walks c t (Makes noted ∷ (ending ++ rest))
cleared_walk c s t m ms noted ending rest left call is next =
    let may = clear_may c t.pool m.dev noted left.kept.survives left.running left.eligible.0 left.passed call in
    let behind = after_move (Makes noted) t in
    let kept = move_keeps c (Makes noted) s t (may.0, tt) tt left.kept in
    let walk = widened_walk c (Clear m.dev) ending s behind kept
    (((may.1.0, tt), (left.running, left.found.0)), tt) is in
    let like : IsLike (after (Clears m.dev) (after (Calls noted) t.pool)) (after_moves ending behind).pool = subst
    (λ l. IsLike (after (Clears m.dev) (after (Calls noted) t.pool)) (after_moves l behind).pool) (sym is.moves)
    (widens_like is.widens (step (Clear m.dev) s.core) (after_move (Clear m.dev) behind)
    (after (Clears m.dev) (after (Calls noted) t.pool)) is.are
    ((after (Clears m.dev) (after (Calls noted) t.pool)).owes, refl)) in (
      ((may.0, tt), tt),
      walks_more c ending rest behind walk
          (next (steps ending s) (after_moves ending behind) (seen_of ending s) (record {
            kept = walk_keeps c ending s behind walk kept;
            running = ap (λ p. p.scan.running) like.1 ∙ left.running;
            passed = subst IsPassed (sym like.1) left.passed;
            eligible = subst (λ p. AllByRecursion (λ m. p.scan.eligible m.dev ≡ true) ms) (sym like.1) left.eligible.1;
            apart = left.apart.1;
            found = found_mapped (Clear m.dev) t ms (after_moves ending behind).seats
                (λ which all. subst (λ l. AllByRecursion (IsOfFound which) (after_moves l behind).seats) (sym is.moves)
                (widens_found which is.widens (step (Clear m.dev) s.core) (after_move (Clear m.dev) behind) is.are
                (of_found_still which (Clear m.dev) behind tt (λ d found own is. is) all))) left.found.1;
          })),
    )

-- one whose flush failed, and its count
failed_walk : (c : Codec) (s : PoolState) (t : Side) (ms : List Member) (leaf : Option LeafSeen) (rest : List Move) → AreLeft c s t ms
    → Later c s.core ms (sets_failed leaf) rest → Walks c t (sets_failed leaf ++ rest)
failed_walk c s t ms None rest left next = next s t refl left
failed_walk c s t ms (Some leaf) rest left next = (
  ((tt, tt)),
  next (state_step (Sets leaf.guid (write_failed leaf.own)) s) (after_move (Sets leaf.guid (write_failed leaf.own)) t) refl (record {
    kept = move_keeps c (Sets leaf.guid (write_failed leaf.own)) s t tt tt left.kept;
    running = left.running;
    passed = left.passed;
    eligible = left.eligible;
    apart = left.apart;
    found = found_mapped (Sets leaf.guid (write_failed leaf.own)) t ms (after_move (Sets leaf.guid (write_failed leaf.own)) t).seats
        (λ which all. of_found_still which (Sets leaf.guid (write_failed leaf.own)) t tt (λ d found own is. is) all)
        left.found;
  }),
)

dropped_walk : (c : Codec) (s : PoolState) (t : Side) (m : Member) (ms : List Member) (noted : Noted) (fault : Fault) (leaf : Option LeafSeen) (rest : List Move)
    → AreLeft c s t (m ∷ ms)
    → ask_of noted.call ≡ Flushes m.dev → fault_of noted.call ≡ Some fault → Later c s.core ms (Drop m.dev ∷ sets_failed leaf) rest
    → Walks c t (Makes noted ∷ ((Drop m.dev ∷ sets_failed leaf) ++ rest))
dropped_walk c s t m ms noted fault leaf rest left ask fails next =
    let may = part_may c (Flushes m.dev ∷ []) (noted ∷ []) (Some fault) t.pool (flush_sparing t.pool m.dev)
    (ask, inr (fault, fails, refl, refl)) in
    let behind = after_move (Makes noted) t in
    let dropped = after_move (Drop m.dev) behind in (
      ((may, tt)),
      (
        ((tt, tt), left.running),
        failed_walk c (state_step (Drop m.dev) s) dropped ms leaf rest (record {
          kept = move_keeps c (Drop m.dev) s behind (tt, tt) left.running
              (move_keeps c (Makes noted) s t may tt left.kept);
          running = left.running;
          passed = left.passed;
          eligible = still_eligible m.dev t.pool.scan.eligible ms left.apart.0 left.eligible.1;
          apart = left.apart.1;
          found = left.found.1;
        }) next,
      ),
    )

flush_walk : (c : Codec) (ms : List Member) (vs : List Move) (s : PoolState) (t : Side) → AreLeft c s t ms → AreFlushed s.core ms vs → Walks c t vs
flush_walk c [] vs s t left flushed = subst (Walks c t) (sym flushed) tt
flush_walk c (m ∷ ms) vs s t left (noted, ending, rest, ask, vs_is, ends, later) =
    subst (Walks c t) (sym vs_is) (by_fault (fault_of noted.call) refl ends
    (λ u t same left. flush_walk c ms rest u t left (subst (λ core. AreFlushed core ms rest) (sym same) later)))
  where
    by_fault : (fault : Option Fault) → fault_of noted.call ≡ fault → FlushEnds fault s.core m ending → Later c s.core ms ending rest
        → Walks c t (Makes noted ∷ (ending ++ rest))
    by_fault None ok is next = cleared_walk c s t m ms noted ending rest left (flush_call noted.call m.dev ask ∙ ap (Flush m.dev) ok) is next
    by_fault (Some fault) fails is next = subst (λ l. Walks c t (Makes noted ∷ (l ++ rest))) (sym is)
        (dropped_walk c s t m ms noted fault (find (has_number m.guid) s.core.leaves) rest left ask fails (subst (λ l. Later c s.core ms l rest) is next))

-- The end of a scan.
end_at : (c : Codec) (s : PoolState) (t : Side) (vs : List Move) → Kept c s t → t.pool.scan.running ≡ true → RowScanEnd (scan_core t) vs → Walks c t vs
end_at c s t vs kept running row =
    let are = eligible_are t.pool.group.frozen t.pool t.seats t.seats kept.away (λ d has. has) in
    subst (Walks c t) (sym row.moves)
    (walks_more c row.part (Rest ∷ []) t (flush_walk c (eligible_of t.pool.group.frozen t.pool t.seats) row.part s t (record {
      kept = kept;
      running = running;
      passed = λ k cell is low. row.none k (sum_of_cell cell) (ap sum_of is) low;
      eligible = each (λ m is. is.0) (eligible_of t.pool.group.frozen t.pool t.seats) are;
      apart = eligible_apart t.pool.group.frozen t.pool t.seats kept.away kept.apart;
      found = each
          (λ m is. only_found m.dev t.seats kept.apart is.1) (eligible_of t.pool.group.frozen t.pool t.seats) are;
    }) (subst (λ core. AreFlushed core (eligible_of t.pool.group.frozen t.pool t.seats) row.part) (sym (seen_running c s t kept running)) row.flushed)) (((tt, tt), tt), tt))

end_walks : (c : Codec) (s : PoolState) (t : Side) (vs : List Move) → Kept c s t → s.core.scan.running ≡ true → RowScanEnd s.core vs → Walks c t vs
end_walks c s t vs kept is row =
    let running = is_running c s t kept is in end_at c s t vs kept running (subst (λ core. RowScanEnd core vs) (seen_running c s t kept running) row)

-- `step`
step_by : (c : Codec) (running : Bool) (s : PoolState) (t : Side) (vs : List Move) (reply : StepReply) → Kept c s t → s.core.scan.running ≡ running
    → AllAnswer t.pool.sectors (made_in vs)
    → StepBy running s vs reply → Walks c t vs ⊎ FoundClash t.pool (first_reads (made_in vs))
step_by c false s t vs reply kept is answers row = inl (subst (Walks c t) (sym row.0) tt)
step_by c true s t vs reply kept is answers (inl row) = key_walks c s t s.own.scrubs vs kept is answers row.0
step_by c true s t vs reply kept is answers (inr row) = inl (end_walks c s t vs kept is row.0)

pub step_walks : (c : Codec) (s : PoolState) (t : Side) (vs : List Move) (reply : StepReply) → Kept c s t → AllAnswer t.pool.sectors (made_in vs)
    → RowStep s vs reply → Walks c t vs ⊎ FoundClash t.pool (first_reads (made_in vs))
step_walks c s t vs reply kept answers row = step_by c s.core.scan.running s t vs reply kept refl answers row

-- A scan starts for the readable leaves, over the record that the pool reads.
pub start_walk : (c : Codec) (s : PoolState) (t : Side) → Kept c s t → s.core.opened ≡ true → Walks c t (starts_scan s ∷ [])
start_walk c s t kept opened = subst (λ core. core.opened ≡ true → Walks c t (starts_scan (record { own = s.own; core = core }) ∷ [])) (sym kept.core)
    (λ on. (((record { opened = on; hi_low = omega arith }, tt), tt), tt)) opened

-- `scrub` and `scrub -s`
scrub_by : (c : Codec) (running : Bool) (s : PoolState) (t : Side) (vs : List Move) (reply : ScrubReply) → Kept c s t → ScrubBy running s vs reply
    → Walks c t vs
scrub_by c true s t vs reply kept row = subst (Walks c t) (sym row.0) tt
scrub_by c false s t vs reply kept row =
    subst (Walks c t) (sym row.1) (walks_more c (starts_scan s ∷ []) (Scrubs ∷ []) t (start_walk c s t kept row.0) ((tt, tt), tt))

pub scrub_walks : (c : Codec) (s : PoolState) (t : Side) (vs : List Move) (reply : ScrubReply) → Kept c s t → RowScrub s vs reply → Walks c t vs
scrub_walks c s t vs reply kept row = scrub_by c s.core.scan.running s t vs reply kept row

stop_by : (c : Codec) (scrubbing : Bool) (t : Side) (vs : List Move) (reply : StopReply) → StopBy scrubbing vs reply → Walks c t vs
stop_by c true t vs reply row = subst (Walks c t) (sym row.0) (((tt, tt), tt), tt)
stop_by c false t vs reply row = subst (Walks c t) (sym row.0) tt

pub stop_walks : (c : Codec) (s : PoolState) (t : Side) (vs : List Move) (reply : StopReply) → RowStopScrub s vs reply → Walks c t vs
stop_walks c s t vs reply row = stop_by c (s.core.scan.running && s.own.scrubs) t vs reply row
