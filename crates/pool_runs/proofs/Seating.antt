-- A line that takes a leaf out is one whichever seat stands in its moves.
use Rattle.std.proofs.Common.{◌≡◌, inl, inr, ℕ, suc, Bool, true, false, cond, List, [], ◌∷◌, ◌++◌, map, Option, Some, None, refl, sym, ap, ◌∙◌, subst}
use Rattle.std.specs.List.{AllByRecursion, find}
use Rattle.std.specs.Prelude.{slice_get}
use Rattle.std.specs.Str.{bytes_eq}
use Rattle.bank_core.specs.Disk.{Noted}
use Rattle.txg_history.specs.Moves.{Mays}
use Rattle.txg_history.specs.Pages.{Codec}
use Rattle.txg_history.specs.Pools.{Pool, pool_after}
use Rattle.pool_moves.specs.AwayRows.{is_spare, leaf_named}
use Rattle.pool_moves.specs.Keeping.{Kept}
use Rattle.pool_moves.specs.Leaves.{LeafSeen, Seat, told, leaf_seen}
use Rattle.pool_moves.specs.LineRows.{TurnReply, Committed, Suspended}
use Rattle.pool_moves.specs.Moves.{Move, Makes, Lose, Returns, steps}
use Rattle.pool_moves.specs.Refusing.{FreezeRefusal}
use Rattle.pool_moves.specs.States.{PoolState, Side}
use Rattle.pool_moves.specs.TreeRows.{place_where, place_named, goes_out, is_there, IsCleaned, DetachReply, DetachBehind, DetachFor, DetachLeaf, DetachBy, RowDetach, IsSeatOf}
use Rattle.pool_moves.specs.Walking.{as_moves}
use Rattle.pool_runs.specs.Acts.{Does, does, events_for, pool_by, pool_along}
use Rattle.pool_runs.specs.Hosts.{Host, host_by}
use Rattle.pool_runs.proofs.Known.{Knows, MayActs}
use Rattle.pool_runs.specs.Knowing.{IsOwnAct, AreOwnActs}
use Rattle.pool_runs.proofs.GroupMoves.{IsKind, all_commits}

-- the move with this seat in it
abbrev pub seat_as : Seat → Move → Move
seat_as seat (Returns i other leaf) = Returns i seat leaf
seat_as seat v = v

abbrev IsSeatless : Seat → Move → Type 0
IsSeatless seat v = seat_as seat v ≡ v

seatless_kind : (seat : Seat) → IsKind (IsSeatless seat)
seatless_kind seat = record {
  calls = λ noted. refl;
  leave = λ d. refl;
  set = λ m own. refl;
  wrote = λ k. refl;
  flushed = refl;
  draw = refl;
  widen = λ m low high. refl;
  starts = λ draft. refl;
  copies = λ draft d. refl;
  copied = λ draft d. refl;
  commits = λ draft. refl;
}

map_all : (seat : Seat) (vs : List Move) → AllByRecursion (IsSeatless seat) vs → map (seat_as seat) vs ≡ vs
map_all seat [] all = refl
map_all seat (v ∷ vs) all = ap (λ x. x ∷ map (seat_as seat) vs) all.0 ∙ ap (λ more. v ∷ more) (map_all seat vs all.1)

map_more : (f : Move → Move) (vs ws : List Move) → map f (vs ++ ws) ≡ map f vs ++ map f ws
map_more f [] ws = refl
map_more f (v ∷ vs) ws = ap (λ more. f v ∷ more) (map_more f vs ws)

map_calls : (seat : Seat) (made : List Noted) → map (seat_as seat) (as_moves made) ≡ as_moves made
map_calls seat [] = refl
map_calls seat (noted ∷ made) = ap (λ more. Makes noted ∷ more) (map_calls seat made)

cleaned_as : (there : Bool) (dev : Option ℕ) (spare : Bool) (size : ℕ → ℕ) (vs : List Move) (y : Seat) → IsCleaned there dev spare size vs → IsCleaned there dev spare size (map (seat_as y) vs)
cleaned_as true (Some d) spare size vs y row = (row.0, row.1, row.2, ap (map (seat_as y)) row.3 ∙ ap (λ more. Lose d ∷ more) (map_calls y row.0))
cleaned_as true None spare size vs y row = ap (map (seat_as y)) row
cleaned_as false dev spare size vs y row = ap (map (seat_as y)) row

behind_as : (turn : TurnReply) (size : ℕ → ℕ) (s : PoolState) (name : List ℕ) (leaf : LeafSeen) (x y : Seat) (vs : List Move) (reply : DetachReply) → DetachBehind turn size s name leaf x vs reply
    → DetachBehind turn size s name leaf y (map (seat_as y) vs) reply
behind_as (Committed number) size s name leaf x y vs reply row = (cleaned_as (is_there leaf.own.mode) leaf.dev (is_spare s leaf) size vs y row.0, row.1)
behind_as (Suspended group top faults) size s name leaf x y vs reply row = (ap (map (seat_as y)) row.0, row.1)
behind_as turn size s name leaf x y vs reply row = row

for_as : (refusal : Option FreezeRefusal) (c : Codec) (size : ℕ → ℕ) (s : PoolState) (name : List ℕ) (leaf : LeafSeen) (x y : Seat) (vs : List Move) (reply : DetachReply)
    → DetachFor refusal c size s name leaf x vs reply → DetachFor refusal c size s name leaf y (map (seat_as y) vs) reply
for_as (Some refusal) c size s name leaf x y vs reply row = (ap (map (seat_as y)) row.0, row.1)
for_as None c size s name leaf x y vs reply row = record {
  part = row.part;
  turn = row.turn;
  commit = row.commit;
  rest = map (seat_as y) row.rest;
  behind = behind_as row.turn size s name leaf x y row.rest reply row.behind;
  moves = ap (map (seat_as y)) row.moves ∙ (map_more (seat_as y) (goes_out s name leaf) (row.part ++ row.rest)
      ∙ ap (λ more. goes_out s name leaf ++ more) (map_more (seat_as y) row.part row.rest
      ∙ ap (λ part. part ++ map (seat_as y) row.rest) (map_all y row.part
      (all_commits (IsSeatless y) (seatless_kind y) (λ cells board. refl) c size (steps (goes_out s name leaf) s) row.part row.turn (λ bad. refl) row.commit))));
}

leaf_as : (frozen : Bool) (c : Codec) (size : ℕ → ℕ) (s : PoolState) (name : List ℕ) (leaf : LeafSeen) (x y : Seat) (vs : List Move) (reply : DetachReply) → DetachLeaf frozen c size s name leaf x vs reply
    → DetachLeaf frozen c size s name leaf y (map (seat_as y) vs) reply
leaf_as true c size s name leaf x y vs reply row = (ap (map (seat_as y)) row.0, row.1)
leaf_as false c size s name leaf x y vs reply (inl row) = inl (row.0, row.1, ap (map (seat_as y)) row.2, row.3)
leaf_as false c size s name leaf x y vs reply (inr row) = inr (row.0, (row.1.0, row.1.1, for_as row.1.0 c size s name leaf x y vs reply row.1.2))

detach_by_as : (found : Option LeafSeen) (c : Codec) (size : ℕ → ℕ) (s : PoolState) (name : List ℕ) (x y : Seat) (vs : List Move) (reply : DetachReply) → DetachBy found c size s name x vs reply
    → DetachBy found c size s name y (map (seat_as y) vs) reply
detach_by_as None c size s name x y vs reply row = (ap (map (seat_as y)) row.0, row.1)
detach_by_as (Some leaf) c size s name x y vs reply row = leaf_as s.core.group.frozen c size s name leaf x y vs reply row

pub detach_as : (c : Codec) (size : ℕ → ℕ) (s : PoolState) (name : List ℕ) (x y : Seat) (vs : List Move) (reply : DetachReply) → RowDetach c size s name x vs reply
    → RowDetach c size s name y (map (seat_as y) vs) reply
detach_as c size s name x y vs reply row = detach_by_as (leaf_named name s.core.leaves) c size s name x y vs reply row

-- No pool's history, and no host, knows of the seat.
same_events : (g : ℕ) (seat : Seat) (v : Move) (p : Pool) → events_for (Does g (seat_as seat v)) p ≡ events_for (Does g v) p
same_events g seat (Returns i other leaf) p = refl
same_events g seat v p = refl

same_host : (g : ℕ) (seat : Seat) (v : Move) (h : Host) → host_by (Does g (seat_as seat v)) h ≡ host_by (Does g v) h
same_host g seat (Returns i other leaf) h = refl
same_host g seat v h = refl

pub may_as : (c : Codec) (h : Host) (p : Pool) (g : ℕ) (seat : Seat) (vs : List Move) → MayActs c h p (does g (map (seat_as seat) vs)) → MayActs c h p (does g vs)
may_as c h p g seat [] may = tt
may_as c h p g seat (v ∷ vs) may = λ fair. let now = may tt in
    let same = same_events g seat v p in
    let host = same_host g seat v h in (
      subst (Mays c p) same now.0,
      subst (λ x. Knows c x (pool_by (Does g v) p)) host (subst (λ events. Knows c (host_by (Does g (seat_as seat v)) h) (pool_after events p)) same now.1),
      may_as c (host_by (Does g v) h) (pool_by (Does g v) p) g seat vs (subst (λ x. MayActs c x (pool_by (Does g v) p) (does g (map (seat_as seat) vs))) host
          (subst (λ events. MayActs c (host_by (Does g (seat_as seat v)) h) (pool_after events p) (does g (map (seat_as seat) vs))) same now.2)),
    )

pub own_as : (h : Host) (g : ℕ) (seat : Seat) (vs : List Move) → AreOwnActs g h (does g vs) → AreOwnActs g h (does g (map (seat_as seat) vs))
own_as h g seat [] own = tt
own_as h g seat (v ∷ vs) own = (one v own.0, subst (λ x. AreOwnActs g x (does g (map (seat_as seat) vs))) (sym (same_host g seat v h)) (own_as (host_by (Does g v) h) g seat vs own.1))
  where
    one : (v : Move) → IsOwnAct g h (Does g v) → IsOwnAct g h (Does g (seat_as seat v))
    one (Returns i other leaf) own = own
    one v own = own

-- The seat of a leaf that the list has.
seat_at : (f : Seat → LeafSeen) (test : LeafSeen → Bool) (seats : List Seat) (leaf : LeafSeen) → find test (map f seats) ≡ Some leaf
    → (seat : Seat) × (slice_get seats (place_where test (map f seats)) ≡ Some seat)
seat_at f test [] leaf is = absurd (cc)
seat_at f test (seat ∷ seats) leaf is = by (test (f seat)) refl (λ more. seat_at f test seats leaf more)
  where
    by : (t : Bool) → test (f seat) ≡ t → (find test (map f seats) ≡ Some leaf → (x : Seat) × (slice_get seats (place_where test (map f seats)) ≡ Some x))
        → (x : Seat) × (slice_get (seat ∷ seats) (cond (test (f seat)) 0 (suc (place_where test (map f seats)))) ≡ Some x)
    by true same more = (seat, ap (λ t. slice_get (seat ∷ seats) (cond t 0 (suc (place_where test (map f seats))))) same)
    by false same more = let rest = more (sym (ap (λ t. cond t (Some (f seat)) (find test (map f seats))) same) ∙ is) in
        (rest.0, ap (λ t. slice_get (seat ∷ seats) (cond t 0 (suc (place_where test (map f seats))))) same ∙ rest.1)

pub some_seat : (c : Codec) (s : PoolState) (t : Side) (name : List ℕ) (other : Seat) → Kept c s t → (seat : Seat) × IsSeatOf s t name seat
some_seat c s t name other kept = of (leaf_named name s.core.leaves) refl
  where
    of : (found : Option LeafSeen) → leaf_named name s.core.leaves ≡ found → (seat : Seat) × IsSeatOf s t name seat
    of None none = (other, λ leaf is. absurd (let no = sym none ∙ is in cc))
    of (Some leaf) is =
        let leaves : s.core.leaves ≡ map (leaf_seen t.pool.group.frozen (told t.pool)) t.seats = ap (λ core. core.leaves) kept.core in
        let found = seat_at (leaf_seen t.pool.group.frozen (told t.pool)) (λ x. bytes_eq x.own.name name) t.seats leaf
        (subst (λ l. leaf_named name l ≡ Some leaf) leaves is) in
        (found.0, λ x same. subst (λ l. slice_get t.seats (place_named name l) ≡ Some found.0) (sym leaves) found.1)

-- so the pool behind its acts is the same
pub along_as : (g : ℕ) (seat : Seat) (vs : List Move) (p : Pool) → pool_along (does g (map (seat_as seat) vs)) p ≡ pool_along (does g vs) p
along_as g seat [] p = refl
along_as g seat (v ∷ vs) p = along_as g seat vs (pool_by (Does g (seat_as seat v)) p) ∙ ap (pool_along (does g vs)) (ap (λ events. pool_after events p) (same_events g seat v p))
