-- A freeze may be made: its walk from its row.
use Rattle.std.proofs.Common.{◌≡◌, inl, inr, ⊎_elim, ℕ, ◌+◌, ◌*◌, ◌≤◌, ◌==◌, ◌&&◌, ◌||◌, Bool, true, false, cond, Option, Some, None, List, [], ◌∷◌, map, refl, sym, ap, ◌∙◌, subst, arith}
use Rattle.std.specs.Option.{option_map}
use Rattle.std.specs.List.{AllByRecursion}
use Rattle.std.proofs.lemmas.Bool.{and_parts, or_cases}
use Rattle.std.proofs.lemmas.Bool.Decides.{nat_tests}
use Rattle.vdev_tree.specs.Leaf.{is_up}
use Rattle.txg_history.specs.Moves.{MayFreeze}
use Rattle.txg_history.specs.Pages.{Codec, sum_of}
use Rattle.txg_history.specs.Places.{HaveNone, AllHaveNone}
use Rattle.txg_history.specs.Pools.{Pool}
use Rattle.txg_history.specs.Records.{Cell, Cells, block_of, block_in, cell_over, key}
use Rattle.txg_history.proofs.Freezing.{empty_freeze}
use Rattle.txg_history.proofs.Logging.{by_bool, same_device, true_not_false}
use Rattle.pool_moves.specs.FreezeRow.{is_dev, up_devs, IsAtPlace, IsAtPinned, RowFreeze, RowEmptyFreeze}
use Rattle.pool_moves.specs.Keeping.{IsElsewhere, AreSeatsApart, IsAway, HasFound, IsOfFound, over, Admits, Kept, Walks}
use Rattle.pool_moves.specs.Leaves.{OwnLeaf, LeafSeen, Seat, At, Adrift, dev_if, told, leaf_seen}
use Rattle.pool_moves.specs.Moves.{Move, Freeze}
use Rattle.pool_moves.specs.Widening.{IsWidened}
use Rattle.pool_moves.proofs.Widenings.{widened_walk}
use Rattle.pool_moves.specs.States.{sums, PoolSeen, PoolState, Side, seen, seen_by}
use Rattle.pool_moves.proofs.Seeing.{laid_sum}

-- The devices of readable leaves are those of leaves that the run has found.
abbrev pub leaves_by : Bool → Pool → List Seat → List LeafSeen
leaves_by f p seats = map (leaf_seen f (told p)) seats

dev_at : (d e : ℕ) (found : Bool) → is_dev d (dev_if found e) ≡ true → ((d == e) ≡ true) × (found ≡ true)
dev_at d e true is = (is, refl)
dev_at d e false is = absurd (cc)

pub up_found : (f : Bool) (p : Pool) (d : ℕ) (seats : List Seat) → AllByRecursion IsAway seats → up_devs (leaves_by f p seats) d ≡ true → HasFound d seats
up_found f p d [] away on = absurd (cc)
up_found f p d (At e found own ∷ seats) away on =
    ⊎_elim (λ here. inl (dev_at d e found (and_parts (is_up own.mode) (is_dev d (dev_if found e)) here).1)) (λ more. inr (up_found f p d seats away.1 more))
    (or_cases (is_up own.mode && is_dev d (dev_if found e)) (up_devs (leaves_by f p seats) d) on)
up_found f p d (Adrift leaf ∷ seats) away on =
    ⊎_elim (λ here. absurd (let no : false ≡ true = sym (ap (is_dev d) away.0.0) ∙ (and_parts (is_up leaf.own.mode) (is_dev d leaf.dev) here).1 in cc)) (λ more. inr (up_found f p d seats away.1 more))
    (or_cases (is_up leaf.own.mode && is_dev d leaf.dev) (up_devs (leaves_by f p seats) d) on)

-- a device of a leaf that was not found is none of these
pub found_elsewhere : {A : Type 0} (d : ℕ) (seats : List Seat) → AllByRecursion (IsElsewhere d) seats → HasFound d seats → A
found_elsewhere d [] off has = absurd has
found_elsewhere d (At e found own ∷ seats) off (inl is) = true_not_false (d == e) is.0 off.0
found_elsewhere d (Adrift leaf ∷ seats) off (inl is) = absurd is
found_elsewhere d (seat ∷ seats) off (inr has) = found_elsewhere d seats off.1 has

off_dev : (d e : ℕ) (found : Bool) → (e == d) ≡ false → is_dev d (dev_if found e) ≡ false
off_dev d e true off = let back : (d == e) ≡ false = grind (arith, nat_tests) in back
off_dev d e false off = refl

neither : (t u v : Bool) → u ≡ false → v ≡ false → ((t && u) || v) ≡ false
neither true u v a b = rw (a, b) refl
neither false u v a b = b

with_up : (e : ℕ) (found : Bool) (own : OwnLeaf) (which : ℕ → Bool) (seats : List Seat) → AllByRecursion (IsElsewhere e) seats → AllByRecursion (IsOfFound which) seats
    → AllByRecursion (IsOfFound (λ d. (is_up own.mode && is_dev d (dev_if found e)) || which d)) seats
with_up e found own which [] off all = tt
with_up e found own which (At d was is ∷ seats) off all =
    ((λ un. neither (is_up own.mode) (is_dev d (dev_if found e)) (which d) (off_dev d e found off.0) (all.0 un)), with_up e found own which seats off.1 all.1)
with_up e found own which (Adrift leaf ∷ seats) off all = (tt, with_up e found own which seats off.1 all.1)

with_away : (leaf : LeafSeen) (which : ℕ → Bool) (seats : List Seat) → leaf.dev ≡ None → AllByRecursion (IsOfFound which) seats
    → AllByRecursion (IsOfFound (λ d. (is_up leaf.own.mode && is_dev d leaf.dev) || which d)) seats
with_away leaf which [] none all = tt
with_away leaf which (At d was is ∷ seats) none all =
    ((λ un. neither (is_up leaf.own.mode) (is_dev d leaf.dev) (which d) (ap (is_dev d) none) (all.0 un)), with_away leaf which seats none all.1)
with_away leaf which (Adrift other ∷ seats) none all = (tt, with_away leaf which seats none all.1)

pub up_of_found : (f : Bool) (p : Pool) (seats : List Seat) → AllByRecursion IsAway seats → AreSeatsApart seats → AllByRecursion (IsOfFound (up_devs (leaves_by f p seats))) seats
up_of_found f p [] away apart = tt
up_of_found f p (At e found own ∷ seats) away apart = (
  (λ un. neither (is_up own.mode) (is_dev e (dev_if found e)) (up_devs (leaves_by f p seats) e) (ap (λ x. is_dev e (dev_if x e)) un)
      (by_bool (up_devs (leaves_by f p seats) e) (λ on. found_elsewhere e seats apart.0 (up_found f p e seats away.1 on)) (λ off. off))),
  with_up e found own (up_devs (leaves_by f p seats)) seats apart.0 (up_of_found f p seats away.1 apart.1),
)
up_of_found f p (Adrift leaf ∷ seats) away apart = (tt, with_away leaf (up_devs (leaves_by f p seats)) seats away.0.0 (up_of_found f p seats away.1 apart))

-- a member on the board stands under a top
found_top : (f : Bool) (p : Pool) (d : ℕ) (seats : List Seat) → AllByRecursion (λ leaf. 1 ≤ leaf.top) (leaves_by f p seats) → HasFound d seats → 1 ≤ p.in_top d
found_top f p d [] tops has = absurd has
found_top f p d (At e found own ∷ seats) tops (inl is) = subst (λ n. 1 ≤ p.in_top n) (sym (same_device d e is.0)) tops.0
found_top f p d (Adrift leaf ∷ seats) tops (inl is) = absurd is
found_top f p d (At e found own ∷ seats) tops (inr has) = found_top f p d seats tops.1 has
found_top f p d (Adrift leaf ∷ seats) tops (inr has) = found_top f p d seats tops.1 has

-- Places that are free by sums are free.
sum_some : (cell : Option Cell) (x : Cell) → cell ≡ Some x → sum_of cell ≡ sum_of (Some x)
sum_some cell x is = ap sum_of is

none_at : (cells : Cells) (top sector : ℕ) → (IsAtPlace (sums cells) top sector → ⊥) → HaveNone cells top sector
none_at cells top sector free k cell is top_is sector_is =
    free (record { k = k; sum = _; sum_is = sum_some (cells k) cell is; top_is = top_is; sector_is = sector_is })

none_pinned : (pinned : List Cells) (top sector : ℕ) → (IsAtPinned (map sums pinned) top sector → ⊥) → AllHaveNone pinned top sector
none_pinned [] top sector free = tt
none_pinned (cells ∷ more) top sector free = (none_at cells top sector (λ at. free (inl at)), none_pinned more top sector (λ at. free (inr at)))

-- The blocks of a freeze are what a read answers.
taken_block : (cell old : Option Cell) (write : Option (List ℕ)) → option_map (λ cell. cell.block) cell ≡ write → block_of (cell_over cell old) ≡ over write (block_of old)
taken_block (Some cell) old write is = ap (λ w. over w (block_of old)) is
taken_block None old write is = ap (λ w. over w (block_of old)) is

open_written : (c : Codec) (s : PoolState) (t : Side) → Kept c s t → t.pool.group.frozen ≡ false → (a : ℕ) → t.pool.written a ≡ over (s.own.writes a) (block_in t.pool.reads.cells a)
open_written c s t kept idle a = kept.written a ∙ ap (λ f. over (s.own.writes a) (cond f (t.pool.group.content a) (block_in t.pool.reads.cells a))) idle

-- the pool's flag, from the state's
idle_of : (f : Bool) (s : PoolSeen) (t : Side) → s ≡ seen_by f t.pool.scan.running t.seats t.pool → s.group.frozen ≡ false → f ≡ false
idle_of true s t core is = absurd (let no : true ≡ false = sym (ap (λ c. c.group.frozen) core) ∙ is in cc)
idle_of false s t core is = refl

pub is_idle : (c : Codec) (s : PoolState) (t : Side) → Kept c s t → s.core.group.frozen ≡ false → t.pool.group.frozen ≡ false
is_idle c s t kept is = idle_of t.pool.group.frozen s.core t kept.core is

freeze_may : (c : Codec) (own : PoolState) (t : Side) (vs : List Move) → Kept c own t → own.core ≡ seen t → t.pool.group.frozen ≡ false
    → (row : RowFreeze c (record { own = own.own; core = seen t }) vs) → MayFreeze c t.pool row.cells (up_devs (seen t).leaves)
freeze_may c own t vs kept core idle row = record {
  none = idle;
  births = row.dirty.births;
  long = row.dirty.long;
  free = λ k cell is. record {
    opened = row.opened;
    not_read = none_at t.pool.reads.cells cell.top cell.sector (λ at. row.places.free k cell is (inl at));
    not_frozen = λ f. true_not_false t.pool.group.frozen f idle;
    not_pinned = none_pinned t.pool.pinned cell.top cell.sector (λ at. row.places.free k cell is (inr at));
  };
  inside = row.places.inside;
  apart = row.places.apart;
  dirty = record {
    up = row.dirty.up;
    formed = row.dirty.formed;
    pages = λ level index cell low is j below. row.dirty.pages level index cell low is j below
        ∙ sym (laid_sum (row.cells (key level (64 * index + j))) (t.pool.reads.cells (key level (64 * index + j))));
  };
  blocks = λ a. taken_block (row.cells (key 0 a)) (t.pool.reads.cells (key 0 a)) (own.own.writes a) (row.dirty.takes a) ∙ sym (open_written c own t kept idle a);
  boarded = λ d mine on. found_top t.pool.group.frozen t.pool d t.seats row.tops (up_found t.pool.group.frozen t.pool d t.seats kept.away on);
}

freeze_admitted : (c : Codec) (s : PoolState) (t : Side) (cells : Cells) → Kept c s t → Admits t (Freeze cells (up_devs (seen t).leaves))
freeze_admitted c s t cells kept = (up_of_found t.pool.group.frozen t.pool t.seats kept.away kept.apart, λ d mine on. up_found t.pool.group.frozen t.pool d t.seats kept.away on)

freeze_at : (c : Codec) (s : PoolState) (t : Side) (vs : List Move) → Kept c s t → t.pool.group.frozen ≡ false → RowFreeze c (record { own = s.own; core = seen t }) vs → Walks c t vs
freeze_at c s t vs kept idle row = widened_walk c (Freeze row.cells (up_devs (seen t).leaves)) vs s t kept
    (((freeze_may c s t vs kept kept.core idle row, tt), freeze_admitted c s t row.cells kept), tt)
    (subst (λ core. IsWidened core (Freeze row.cells (up_devs (seen t).leaves)) vs) (sym kept.core) row.moves)

pub freeze_walks : (c : Codec) (s : PoolState) (t : Side) (vs : List Move) → Kept c s t → RowFreeze c s vs → Walks c t vs
freeze_walks c s t vs kept row = freeze_at c s t vs kept (is_idle c s t kept row.idle)
    (subst (λ core. RowFreeze c (record { own = s.own; core = core }) vs) kept.core row)

empty_at : (c : Codec) (s : PoolState) (t : Side) (vs : List Move) → Kept c s t → t.pool.group.frozen ≡ false → RowEmptyFreeze (record { own = s.own; core = seen t }) vs → Walks c t vs
empty_at c s t vs kept idle row = widened_walk c (Freeze (λ k. None) (up_devs (seen t).leaves)) vs s t kept (
  (
    (
      empty_freeze c t.pool (up_devs (seen t).leaves) idle
          (λ a. sym (open_written c s t kept idle a ∙ ap (λ w. over w (block_in t.pool.reads.cells a)) (row.unwritten a)))
          (λ d mine on. found_top t.pool.group.frozen t.pool d t.seats row.tops (up_found t.pool.group.frozen t.pool d t.seats kept.away on)),
      tt,
    ),
    freeze_admitted c s t (λ k. None) kept,
  ),
  tt,
) (subst (λ core. IsWidened core (Freeze (λ k. None) (up_devs (seen t).leaves)) vs) (sym kept.core) row.moves)

pub empty_freeze_walks : (c : Codec) (s : PoolState) (t : Side) (vs : List Move) → Kept c s t → RowEmptyFreeze s vs → Walks c t vs
empty_freeze_walks c s t vs kept row = empty_at c s t vs kept (is_idle c s t kept row.idle)
    (subst (λ core. RowEmptyFreeze (record { own = s.own; core = core }) vs) kept.core row)
