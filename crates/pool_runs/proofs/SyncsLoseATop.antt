-- A sync is suspended only where each leaf of the lost top failed, of those on the board of its last group.
use Rattle.std.proofs.Common.{◌≡◌, ◌⊎◌, inl, inr, ℕ, ◌<◌, ◌≤◌, ◌==◌, ◌&&◌, ◌||◌, nat_le, Bool, true, false, List, [], ◌∷◌, ◌++◌, map, Option, Some, None, refl, sym, ap, ◌∙◌, subst, arith}
use Rattle.std.specs.List.{AllByRecursion, list_any}
use Rattle.mp_base.specs.declared.number.Guid.{Guid}
use Rattle.bank_core.specs.Calls.{AllCaused}
use Rattle.txg_history.specs.Pages.{Codec}
use Rattle.txg_history.specs.Pools.{Pool}
use Rattle.pool_moves.specs.Keeping.{Kept}
use Rattle.pool_moves.specs.Leaves.{LeafSeen}
use Rattle.pool_moves.specs.LineRows.{TurnReply, Committed, Suspended, CommitsOpen, Ended, CommitsFor, SyncOpen, SyncBehind, EndsFirst, SyncBy, EndsGroup, RowSync}
use Rattle.pool_moves.specs.Moves.{Move, steps, after_moves}
use Rattle.pool_moves.specs.ReadRow.{made_in}
use Rattle.pool_moves.specs.Refusing.{FreezeRefusal, unwritable, last_number, IsRefused}
use Rattle.pool_moves.specs.States.{PoolState, Side}
use Rattle.pool_runs.specs.Acts.{Does, does, calls_along, pool_along}
use Rattle.pool_runs.specs.Counting.{HasRisen, LosesBoard, LosesFreeze, IsMidway, LosesSince}
use Rattle.pool_runs.specs.Knowing.{HasSeats}
use Rattle.pool_runs.specs.Lines.{Entry}
use Rattle.pool_runs.proofs.Answering.{does_calls}
use Rattle.pool_runs.proofs.Committing.{does_pool, group_commits, ends_pool}
use Rattle.pool_runs.proofs.Failing.{FailedOn, IsCaught, caught_first, caught_rose}
use Rattle.pool_runs.proofs.Losing.{group_loses, commits_lose, none_unwritable}
use Rattle.pool_runs.proofs.ModesStand.{Written, written_as, IsLeftWritable, group_leaves}
use Rattle.pool_runs.proofs.Midway.{midway_at}
use Rattle.pool_moves.proofs.Lists.{each, map_forth, map_back}
use Rattle.pool_moves.proofs.FreezeWalks.{is_idle}

pub ended_same : (turn : TurnReply) (group : ℕ) (top : Guid) (faults : ℕ)
    → Ended (Suspended group top faults) ≡ Ended turn → Suspended group top faults ≡ turn
ended_same turn group top faults e = cc

up_below : (a b d : ℕ) → a ≤ b → b < d → a < d
up_below a b d up below = omega (arith, up, below)

-- What a freeze sees of the leaves is the same behind a group that was acknowledged.
any_seen : (test : Written → Bool) (leaves : List LeafSeen)
    → list_any (λ leaf. test (written_as leaf)) leaves ≡ list_any test (map written_as leaves)
any_seen test [] = refl
any_seen test (leaf ∷ leaves) = ap (λ rest. test (written_as leaf) || rest) (any_seen test leaves)

any_same : (test : Written → Bool) (a b : List LeafSeen) → map written_as a ≡ map written_as b
    → list_any (λ leaf. test (written_as leaf)) a ≡ true → list_any (λ leaf. test (written_as leaf)) b ≡ true
any_same test a b same is = any_seen test b ∙ (ap (list_any test) (sym same) ∙ (sym (any_seen test a) ∙ is))

abbrev IsLostAs : (Fails : ℕ → Type 0) → (top : ℕ) → Written → Type 0
IsLostAs Fails top one = one.2 ≡ top → one.0 ≡ true → (d : ℕ) × (one.1 ≡ Some d) × Fails d

freeze_before : (Fails : ℕ → Type 0) (s behind : PoolState) (group : ℕ) (top : Guid) → IsLeftWritable s behind
    → LosesFreeze behind behind.core.leaves Fails group top → LosesFreeze s s.core.leaves Fails group top
freeze_before Fails s behind group top left x = record {
  later = up_below s.core.number behind.core.number group left.number x.later;
  lost = record {
    at = x.lost.at;
    number_is = sym (ap (λ f. f x.lost.at) left.tops) ∙ x.lost.number_is;
    some = any_same (λ one. one.2 == x.lost.at) behind.core.leaves s.core.leaves left.leaves x.lost.some;
    lost = map_back (IsLostAs Fails x.lost.at) written_as (λ leaf lost. lost) s.core.leaves
        (subst (AllByRecursion (IsLostAs Fails x.lost.at)) left.leaves
        (map_forth (IsLostAs Fails x.lost.at) written_as behind.core.leaves x.lost.lost));
  };
  one = any_same (λ one. one.0 && (one.2 == x.lost.at)) behind.core.leaves s.core.leaves left.leaves x.one;
}

freeze_more : (F G : ℕ → Type 0) (s : PoolState) (leaves : List LeafSeen) (group : ℕ) (top : Guid)
    → ((d : ℕ) → F d → G d) → LosesFreeze s leaves F group top → LosesFreeze s leaves G group top
freeze_more F G s leaves group top more x = record {
  later = x.later;
  lost = record {
    at = x.lost.at;
    number_is = x.lost.number_is;
    some = x.lost.some;
    lost = each (λ leaf lost under writable. let one = lost under writable in (one.0, one.1, more one.0 one.2)) leaves
        x.lost.lost;
  };
  one = x.one;
}

-- Where a sync freezes a group.
for_loses : (refusal : Option FreezeRefusal) (c : Codec) (size : ℕ → ℕ) (s : PoolState) (vs : List Move) (group : ℕ)
    (top : Guid) (faults : ℕ)
    → IsRefused s refusal → CommitsFor refusal c size s vs (Ended (Suspended group top faults))
    → LosesFreeze s s.core.leaves (λ d. FailedOn d (made_in vs)) group top
for_loses (Some refusal) c size s vs group top faults is row = absurd (let no = row.1 in cc)
for_loses None c size s vs group top faults is row =
    commits_lose (λ d. FailedOn d (made_in vs)) c size s vs group top faults
    (none_unwritable (nat_le last_number s.core.number) (unwritable s.core.leaves) s is) (λ d failed. failed)
    (subst (CommitsOpen c size s vs) (sym (ended_same row.0 group top faults row.2)) row.1)

pub open_loses : (c : Codec) (size : ℕ → ℕ) (s : PoolState) (vs : List Move) (group : ℕ) (top : Guid) (faults : ℕ)
    → SyncOpen c size s vs (Ended (Suspended group top faults))
    → LosesFreeze s s.core.leaves (λ d. FailedOn d (made_in vs)) group top
open_loses c size s vs group top faults row = for_loses row.0 c size s vs group top faults row.1 row.2

-- A sync's moves before its last group leave the pool without a frozen one, and its calls behind them failed.
record LosesBehind (s : PoolState) (t : Side) (vs : List Move) (group : ℕ) (top : Guid) : Type 0 where
  first : List Move
  rest : List Move
  moves : vs ≡ first ++ rest
  idle : (after_moves first t).pool.group.frozen ≡ false
  lost : LosesFreeze s s.core.leaves (λ d. FailedOn d (made_in rest)) group top

abbrev Loses : PoolState → Side → List Move → (group : ℕ) → (top : Guid) → Type 0
Loses s t vs group top = LosesBoard s (λ d. FailedOn d (made_in vs)) group top ⊎ LosesBehind s t vs group top

first_loses : (c : Codec) (size : ℕ → ℕ) (s : PoolState) (t : Side) (vs : List Move) (group : ℕ) (top : Guid)
    (faults : ℕ) → Kept c s t → s.core.group.frozen ≡ true
    → EndsFirst c size s vs (Ended (Suspended group top faults)) → Loses s t vs group top
first_loses c size s t vs group top faults kept frozen e = by e.turn e.ends e.behind
  where
    fails : IsCaught (λ d. FailedOn d (made_in vs)) e.first
    fails = caught_first (λ d. FailedOn d (made_in vs)) e.first e.rest
        (subst (IsCaught (λ d. FailedOn d (made_in vs))) e.moves (λ d failed. failed))

    by : (turn : TurnReply) → EndsGroup c size s e.first turn
        → SyncBehind turn c size (steps e.first s) e.rest (Ended (Suspended group top faults)) → Loses s t vs group top
    by (Committed number) ends (inl row) = absurd (let no = row.1 in cc)
    by (Committed number) ends (inr row) = let done = group_commits c size s e.first number ends in inr (record {
      first = e.first;
      rest = e.rest;
      moves = e.moves;
      idle = ap (λ q. q.group.frozen) (ends_pool e.first number t done.ends);
      lost = freeze_before (λ d. FailedOn d (made_in e.rest)) s (steps e.first s) group top
          (group_leaves c size s t.pool e.first number (t.seats, kept) ends)
          (open_loses c size (steps e.first s) e.rest group top faults row);
    })
    by (Suspended g m k) ends row =
        inl (group_loses (λ d. FailedOn d (made_in vs)) c size s e.first group top faults frozen fails
        (subst (EndsGroup c size s e.first) (sym (ended_same (Suspended g m k) group top faults row.1)) ends))
    by turn ends row = absurd (let no = row.1 in cc)

sync_by_loses : (frozen : Bool) (c : Codec) (size : ℕ → ℕ) (s : PoolState) (t : Side) (vs : List Move) (group : ℕ)
    (top : Guid) (faults : ℕ) → Kept c s t
    → s.core.group.frozen ≡ frozen → SyncBy frozen c size s vs (Ended (Suspended group top faults))
    → Loses s t vs group top
sync_by_loses false c size s t vs group top faults kept is row = inr (record {
  first = [];
  rest = vs;
  moves = refl;
  idle = is_idle c s t kept is;
  lost = open_loses c size s vs group top faults row;
})
sync_by_loses true c size s t vs group top faults kept is row = first_loses c size s t vs group top faults kept is row

-- The line, by its counts.
does_more : (g : ℕ) (vs ws : List Move) → does g (vs ++ ws) ≡ does g vs ++ does g ws
does_more g [] ws = refl
does_more g (v ∷ vs) ws = ap (λ more. Does g v ∷ more) (does_more g vs ws)

board_more : (F G : ℕ → Type 0) (s : PoolState) (group : ℕ) (top : Guid) → ((d : ℕ) → F d → G d)
    → LosesBoard s F group top → LosesBoard s G group top
board_more F G s group top more x = record {
  frozen = x.frozen;
  first_is = x.first_is;
  lost = record {
    at = x.lost.at;
    number_is = x.lost.number_is;
    some = x.lost.some;
    lost = each (λ leaf lost under on. let one = lost under on in (one.0, one.1, more one.0 one.2)) s.core.leaves
        x.lost.lost;
  };
}

pub sync_loses : (c : Codec) (size : ℕ → ℕ) (s : PoolState) (p : Pool) (e : Entry) (vs : List Move) (group : ℕ)
    (top : Guid) (faults : ℕ) (from to : ℕ → ℕ) → HasSeats c s p
    → s.core.pool.0 ≡ p.pool.0 → e.acts ≡ does s.core.pool.0 vs → AllCaused (calls_along e.acts) from to
    → RowSync c size s vs (Ended (Suspended group top faults))
    → LosesBoard s (HasRisen from to) group top ⊎ LosesSince p s e from to group top
sync_loses c size s p e vs group top faults from to seats ours are caused row =
    of (sync_by_loses s.core.group.frozen c size s t vs group top faults seats.1 refl row)
  where
    g : ℕ
    g = s.core.pool.0

    t : Side
    t = record { pool = p; seats = seats.0 }

    of : Loses s t vs group top → LosesBoard s (HasRisen from to) group top ⊎ LosesSince p s e from to group top
    of (inl board) = inl (board_more (λ d. FailedOn d (made_in vs)) (HasRisen from to) s group top
        (caught_rose vs (calls_along e.acts) from to (ap calls_along are ∙ does_calls g vs) caused) board)
    of (inr x) = let mid : (mid : ℕ → ℕ) × (at : IsMidway e.acts from mid to) × (at.before ≡ does g x.first)
        × (at.behind ≡ does g x.rest) = midway_at e.acts (does g x.first) (does g x.rest) from to
        (are ∙ (ap (does g) x.moves ∙ does_more g x.first x.rest)) caused in
        inr (record {
          mid = mid.0;
          at = mid.1;
          idle = ap (λ q. q.group.frozen) (ap (λ acts. pool_along acts p) mid.2 ∙ does_pool g x.first t (sym ours))
              ∙ x.idle;
          lost = freeze_more (λ d. FailedOn d (made_in x.rest)) (HasRisen mid.0 to) s s.core.leaves group top
              (caught_rose x.rest (calls_along mid.1.behind) mid.0 to
              (ap calls_along mid.3 ∙ does_calls g x.rest) mid.1.comes) x.lost;
        })
