-- Behind a move that makes logs grow, and the widenings behind it, all logs have at most 4,096 ranges together.
use Rattle.std.proofs.Common.{◌≡◌, ℕ, ◌+◌, ◌≤◌, ◌==◌, cond, Bool, true, false, List, [], ◌∷◌, length, map, refl, sym, ap, ◌∙◌, subst}
use Rattle.std.specs.List.{AllByRecursion}
use Rattle.mp_base.specs.declared.number.Guid.{Guid}
use Rattle.label_store.specs.declared.member.Member.{Member}
use Rattle.group_set.specs.Groups.{holds}
use Rattle.group_set.specs.Ranges.{ranges_upto}
use Rattle.vdev_tree.specs.declared.vdev.LeafVdev.{LeafVdev}
use Rattle.txg_engine.specs.declared.seat.Seat.{Seat}
use Rattle.pool_moves.specs.Leaves.{LeafSeen, OwnLeaf}
use Rattle.pool_moves.specs.Moves.{Move, Leave, Widen, Sets, leaf_step, step, state_step, steps}
use Rattle.pool_moves.specs.States.{ScanSeen, PoolSeen, PoolState}
use Rattle.pool_moves.specs.Widening.{ranges_in, ranges_together, AreWidens, IsWidened, AreLeaves, seen_along}
use Rattle.pool_moves.proofs.KindsOfMoves.{IsSet}
use Rattle.open_pool.specs.Parts.{TopParts}
use Rattle.open_pool.specs.State.{leaves_from, leaves_under}
use Rattle.std.specs.List.{flat_map}
use Rattle.open_pool.proofs.LeafLeaves.{seen_more}
use Rattle.open_pool.proofs.LeavesByTops.{HaveTops, all_are_under, by_tops, have_tops, leaves_at, tops_from, under_all}
use Rattle.open_pool.proofs.RecordKept.{ranges_in_all}

abbrev pub HasFewRanges : PoolSeen → Type 0
HasFewRanges s = ranges_together s.number s.leaves ≤ 4096

few_widened : (vs : List Move) (s : PoolSeen) → AreWidens s vs → HasFewRanges (seen_along vs s)
few_widened [] s are = are
few_widened (Widen m low high ∷ vs) s are = few_widened vs (step (Widen m low high) s) are.2
few_widened (v ∷ vs) s are = absurd are

pub few_behind : (v : Move) (vs : List Move) (s : PoolSeen) → IsWidened s v vs → HasFewRanges (seen_along vs s)
few_behind v vs s is = subst (λ l. HasFewRanges (seen_along l s)) (sym is.moves) (few_widened is.widens (step v s) is.are)

pub few_left : (s : PoolSeen) (ms : List Member) (done : List Bool) (vs : List Move) → AreLeaves s ms done vs → HasFewRanges s
    → HasFewRanges (seen_along vs s)
few_left s [] done vs are few = subst (λ l. HasFewRanges (seen_along l s)) (sym are) few
few_left s (m ∷ ms) [] vs are few = subst (λ l. HasFewRanges (seen_along l s)) (sym are) few
few_left s (m ∷ ms) (true ∷ done) vs are few = few_left s ms done vs are few
few_left s (m ∷ ms) (false ∷ done) vs are few =
    subst (λ l. HasFewRanges (seen_along l s)) (sym are.2) (subst HasFewRanges (sym (seen_more are.0 are.1 s))
    (few_left (seen_along are.0 s) ms done are.1 are.4 (few_behind (Leave m.dev) are.0 s are.3)))

-- counts don't matter to it
set_alike : (n number first : ℕ) (scan : ScanSeen) (m : Guid) (own : OwnLeaf) (leaves : List LeafSeen)
    → ranges_together n (map (leaf_step (Sets m own) number first scan) leaves) ≡ ranges_together n leaves
set_alike n number first scan m own [] = refl
set_alike n number first scan m own (leaf ∷ leaves) = by (leaf.guid.0 == m.0) (set_alike n number first scan m own leaves)
  where
    by : (t : Bool) → ranges_together n (map (leaf_step (Sets m own) number first scan) leaves) ≡ ranges_together n leaves
        → ranges_together n (cond t (record leaf { own = own }) leaf ∷ map (leaf_step (Sets m own) number first scan) leaves)
        ≡ ranges_together n (leaf ∷ leaves)
    by true rest = ap (λ k. ranges_in n leaf + k) rest
    by false rest = ap (λ k. ranges_in n leaf + k) rest

pub few_counted : (vs : List Move) (s : PoolState) → AllByRecursion IsSet vs → HasFewRanges s.core → HasFewRanges (steps vs s).core
few_counted [] s all few = few
few_counted (Sets m own ∷ vs) s all few = few_counted vs (state_step (Sets m own) s) all.1
    (subst (λ n. n ≤ 4096) (sym (set_alike s.core.number s.core.number s.core.group.first s.core.scan m own s.core.leaves)) few)
few_counted (v ∷ vs) s all few = absurd all.0

together_at : (n : ℕ) (seats : List Seat) (tops : List ℕ) (leaves : List LeafVdev) → HaveTops tops leaves
    → ranges_together n (leaves_at seats tops leaves) ≡ ranges_in_all n leaves
together_at n seats [] [] have = refl
together_at n seats [] (leaf ∷ leaves) have = absurd have
together_at n seats (top ∷ tops) [] have = absurd have
together_at n seats (top ∷ tops) (leaf ∷ leaves) have =
    ap (λ k. length (ranges_upto (holds leaf.log) n) + k) (together_at n seats tops leaves have.1)

pub together_are : (n : ℕ) (seats : List Seat) (tops : List TopParts)
    → ranges_together n (leaves_from seats 1 (leaves_under tops)) ≡ ranges_in_all n (flat_map (λ top. top.leaves) tops)
together_are n seats tops =
    ap (ranges_together n) (by_tops seats 1 (leaves_under tops))
    ∙ together_at n seats (tops_from 1 (leaves_under tops)) (under_all (leaves_under tops)) (have_tops 1 (leaves_under tops))
    ∙ ap (ranges_in_all n) (sym (all_are_under tops))
