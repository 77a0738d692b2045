-- Calls, accepted writes, and the moves of a group keep the invariant.
use Rattle.std.proofs.Common.{
  ◌≡◌,
  ◌⊎◌,
  ℕ,
  ◌+◌,
  ◌≤◌,
  ◌<◌,
  ◌==◌,
  nat_le,
  Bool,
  true,
  false,
  not,
  cond,
  List,
  ◌∷◌,
  Some,
  refl,
  sym,
  ap,
  ◌∙◌,
  subst,
  inl,
  inr,
  arith,
  ⊎_elim,
}
use Rattle.std.proofs.lemmas.Bool.Decides.{nat_tests}
use Rattle.mp_base.specs.declared.place.Key.{Key}
use Rattle.bank_core.specs.Disk.{Sector, Noted, after_call}
use Rattle.bank_core.specs.Standing.{touches}
use Rattle.label_store.specs.Records.{place_at}
use Rattle.txg_history.specs.Events.{Calls, Accepts, Freezes, Wrote, Flushed, Draws, Leaves, Grows, Burns}
use Rattle.txg_history.specs.Groups.{Logs, same_key, at_device, grown, off}
use Rattle.txg_history.specs.Moves.{IsSparing, MayFreeze, MayWrite, MayFlush, AreWidened, puts}
use Rattle.txg_history.specs.Needs.{Landed, IsPut, IsAt, NeedsRead, NeedsPut}
use Rattle.txg_history.specs.Pages.{Codec}
use Rattle.txg_history.specs.Places.{IsFree}
use Rattle.txg_history.specs.Pools.{Pool, drawn, seat, after, noted_since}
use Rattle.txg_history.specs.Records.{Cell, Cells, AreAtOne, number_of, data_start}
use Rattle.txg_history.specs.Survival.{Survives, IsKnownUber, IsKnownRing, IsTaken, IsPinned, AreInOrder, AreLogs, AreUnbroken}
use Rattle.txg_history.proofs.Holding.{noted_all}
use Rattle.txg_history.proofs.Keeping.{noted_keeps, noted_held, noted_put, noted_copied}
use Rattle.txg_history.proofs.Listing.{one_key}
use Rattle.txg_history.proofs.Logging.{
  by_bool,
  true_not_false,
  not_true,
  at_here,
  at_away,
  grown_more,
  grown_false,
  grown_in,
  grown_out,
  grown_of,
  cleared_of,
  cleared_both,
  cleared_false,
}
use Rattle.txg_history.proofs.Placing.{place_safe, one_of}
use Rattle.txg_history.proofs.Treeing.{freeze_tree}

-- A call that may come.
pub calls_survive : (c : Codec) (p : Pool) (noted : Noted) → Survives c p → IsSparing p noted.call → Survives c (after (Calls noted) p)
calls_survive c p noted sv m = record {
  labels = λ d s bytes is n. noted_held noted d s (p.sectors d s) bytes (m.firm d s bytes is (inl n)) (sv.labels d s bytes is n);
  puts = λ d s bytes is n. noted_put p.group.flushed noted d s (p.sectors d s) bytes (m.firm d s bytes is (inr n)) (sv.puts d s bytes is n);
  cells = λ d s bytes is n. noted_keeps noted d s (p.sectors d s) bytes m.plain (m.soft d s bytes is (inl n)) (sv.cells d s bytes is n);
  current = λ d s bytes is n. noted_keeps noted d s (p.sectors d s) bytes m.plain (m.soft d s bytes is (inr (inl n))) (sv.current d s bytes is n);
  scanned = λ d s bytes is n. noted_copied noted d s (p.sectors d s) bytes m.plain (m.soft d s bytes is (inr (inr n))) (sv.scanned d s bytes is n);
  rings = λ d place is inside. ring_of d (place_at (p.size d) place) (m.known d place is inside) (sv.rings d place is inside);
  status_live = sv.status_live;
  roomy = sv.roomy;
  placed = sv.placed;
  one_key = sv.one_key;
  cover = sv.cover;
  order = sv.order;
  come_to = sv.come_to;
  boards = sv.boards;
  logs = sv.logs;
  unbroken = sv.unbroken;
  bounds = sv.bounds;
  fit = sv.fit;
  pools = sv.pools;
  in_range = sv.in_range;
}
  where
    Known : (d : ℕ) → List ℕ → Type 0
    Known d = IsKnownUber (drawn p) p.pool (seat p d)

    ring_of : (d s : ℕ) → (touches noted.call d s ≡ true → Known d (puts noted.call s)) → IsKnownRing (drawn p) p.pool (seat p d) (p.sectors d s) (p.since d s)
        → IsKnownRing (drawn p) p.pool (seat p d) (after_call noted d s (p.sectors d s)) (noted_since noted.call p.since d s)
    ring_of d s is ring =
        let all = noted_all (Known d) noted d s (p.sectors d s) p.since m.plain is
        (record { stable = ring.stable; since_all = ring.written; pending = ring.pending }) in
        record { stable = all.stable; written = all.since_all; pending = all.pending }

pub accepts_survive : (c : Codec) (p : Pool) (a : ℕ) (block : List ℕ) → Survives c p → Survives c (after (Accepts a block) p)
accepts_survive c p a block sv = record {
  labels = sv.labels;
  puts = sv.puts;
  cells = sv.cells;
  current = sv.current;
  scanned = sv.scanned;
  rings = sv.rings;
  status_live = sv.status_live;
  roomy = sv.roomy;
  placed = sv.placed;
  one_key = sv.one_key;
  cover = sv.cover;
  order = sv.order;
  come_to = sv.come_to;
  boards = sv.boards;
  logs = sv.logs;
  unbroken = sv.unbroken;
  bounds = sv.bounds;
  fit = sv.fit;
  pools = sv.pools;
  in_range = sv.in_range;
}

-- a need by logs that grew was one before
read_before : (p : Pool) (owes : Logs) (d s : ℕ) (bytes : List ℕ) → ((g : ℕ) → owes d g ≡ false → p.owes d g ≡ false)
    → NeedsRead p.reads p.in_top owes d s bytes → NeedsRead p.reads p.in_top p.owes d s bytes
read_before p owes d s bytes less n = record { k = n.k; cell = n.cell; cell_is = n.cell_is; top_is = n.top_is; has = less n.cell.birth n.has; at = n.at }

-- Logs that grow.
more_unbroken : (p : Pool) (owes : Logs) → ((d g : ℕ) → p.owes d g ≡ true → owes d g ≡ true) → AreUnbroken p.member p.guid p.owes p.unbroken p.settled p.live
    → AreUnbroken p.member p.guid owes p.unbroken p.settled p.live
more_unbroken p owes more u = record {
  still = λ d g is held. more d g (u.still d g is held);
  newest = u.newest;
  settled_still = λ d g is held. more d g (u.settled_still d g is held);
  settled_live = u.settled_live;
}

-- a leaf's log doesn't have the next number yet
not_yet : (c : Codec) (p : Pool) (d : ℕ) → Survives c p → p.member d ≡ true → 1 ≤ p.in_top d → p.owes d (p.highest + 1) ≡ false
not_yet c p d sv is leaf = not_true (p.owes d (p.highest + 1)) (λ has. let bounds = sv.logs.now d is leaf (p.highest + 1) has in omega (arith, bounds.1))

-- each leaf off the board gets the next number
drawn_logs : (c : Codec) (p : Pool) (board : ℕ → Bool) (frozen : Bool) (on : ℕ → Bool) → Survives c p
    → (frozen ≡ true → (d : ℕ) → p.member d ≡ true → on d ≡ true → 1 ≤ p.in_top d)
    → AreLogs p.member p.guid p.in_top (grown (off board) (p.highest + 1) (p.highest + 1) p.owes) (p.highest + 1) p.live frozen on
drawn_logs c p board frozen on sv leaves = record {
  now = λ d is leaf g has. of d is leaf g (grown_of (off board) (p.highest + 1) (p.highest + 1) p.owes d g has);
  in_records = sv.logs.in_records;
  boarded = leaves;
}
  where
    of : (d : ℕ) → p.member d ≡ true → 1 ≤ p.in_top d → (g : ℕ) → ((off board d ≡ true) × (p.highest + 1 ≤ g) × (g ≤ p.highest + 1)) ⊎ (p.owes d g ≡ true)
        → (1 ≤ g) × (g ≤ p.highest + 1)
    of d is leaf g (inl new) = (omega (arith, new.1), new.2)
    of d is leaf g (inr old) = let bounds = sv.logs.now d is leaf g old in (bounds.0, omega (arith, bounds.1))

drawn_order : (c : Codec) (p : Pool) (frozen fresh : Bool) → Survives c p
    → AreInOrder p.acked p.acks p.reads p.live p.given p.missed (p.highest + 1) frozen fresh
drawn_order c p frozen fresh sv = record {
  acked_live = sv.order.acked_live;
  reads_live = sv.order.reads_live;
  not_below = sv.order.not_below;
  acked_top = let le = sv.order.acked_top in omega (arith, le);
  reads_top = let le = sv.order.reads_top in omega (arith, le);
  live_top = λ r i. ⊎_elim (λ le. inl (higher (number_of r) le)) (λ m. inr m) (sv.order.live_top r i);
  newest_above = sv.order.newest_above;
  given_below = sv.order.given_below;
  fresh_above = λ f n r i. ⊎_elim (λ le. inl (above_all (number_of r) le)) (λ m. inr m) (sv.order.live_top r i);
  acks_below = sv.order.acks_below;
}
  where
    higher : (n : ℕ) → n ≤ p.highest → n ≤ p.highest + 1
    higher n le = omega (arith, le)

    above_all : (n : ℕ) → n ≤ p.highest → n < p.highest + 1
    above_all n le = omega (arith, le)

-- A group is frozen.
pub freezes_survive : (c : Codec) (p : Pool) (cells : Cells) (board : ℕ → Bool) → Survives c p
    → MayFreeze c p cells board → Survives c (after (Freezes cells board) p)
freezes_survive c p cells board sv m = record {
  labels = sv.labels;
  puts = λ d s bytes is n. true_not_false false n.ended refl;
  cells = sv.cells;
  current = λ d s bytes is n. sv.current d s bytes is (read_before p owes d s bytes (λ g. grown_false (off board) next next p.owes d g) n);
  scanned = sv.scanned;
  rings = sv.rings;
  status_live = sv.status_live;
  roomy = sv.roomy;
  placed = record { in_records = sv.placed.in_records; in_tree = sv.placed.in_tree; newest = λ f b. absurd (cc) };
  one_key = record {
    mapped = sv.one_key.mapped;
    births = sv.one_key.births;
    one = sv.one_key.one;
    group_mapped = λ f k cell is. record { long = m.long k cell is; inside = m.inside k cell is; born = let b = m.births k cell is in omega (arith, b) };
    group_births = λ f k cell is. m.births k cell is;
    group_apart = λ f j k a b at bt one. one_of cells j k a b (m.apart j k a b at bt one) at bt;
    group_one = λ f r j k a b i at bt one. absurd (place_safe c p sv r j a i at (moved a b one (m.free k b bt)));
  };
  cover = λ is r k cell i at. covered (sv.cover is r k cell i at);
  order = drawn_order c p true true sv;
  come_to = record {
    flushed_all = λ f e. absurd (cc);
    begun_flushed = λ f e. absurd (cc);
    tree = λ f. freeze_tree c cells p.reads.cells (sv.fit p.reads sv.order.reads_live).1 m.dirty;
    contents = λ f. m.blocks;
    newest = λ f e. absurd (cc);
  };
  boards = record {
    reads_first = λ f. let le = sv.order.reads_top in omega (arith, le);
    first_top = λ f. omega arith;
    off_board = λ f d g is out low high. grown_in (off board) next next p.owes d g (ap not out) low high;
    on_board = λ f d g is on low high. grown_out (off board) next next p.owes d g (ap not on)
        ∙ subst (λ n. p.owes d n ≡ false) (next_is g low high) (not_yet c p d sv is (m.boarded d is on));
  };
  logs = drawn_logs c p board true board sv (λ f d is on. m.boarded d is on);
  unbroken = more_unbroken p owes (λ d g. grown_more (off board) next next p.owes d g) sv.unbroken;
  bounds = sv.bounds;
  fit = sv.fit;
  pools = sv.pools;
  in_range = sv.in_range;
}
  where
    next : ℕ
    next = p.highest + 1

    owes : Logs
    owes = grown (off board) next next p.owes

    next_is : (g : ℕ) → p.highest + 1 ≤ g → g ≤ p.highest + 1 → p.highest + 1 ≡ g
    next_is g low high = omega (arith, low, high)

    moved : (a b : Cell) → AreAtOne a b → IsFree p b.top b.sector → IsFree p a.top a.sector
    moved a b one free = subst (λ t. IsFree p t a.sector) (sym one.0) (subst (λ s. IsFree p b.top s) (sym one.1) free)

    covered : {cell : Cell} → IsTaken p.reads.cells cell
        ⊎ (((p.group.frozen ≡ true) × (p.group.begun ≡ true) × IsTaken p.group.cells cell) ⊎ IsPinned p.pinned cell)
        → IsTaken p.reads.cells cell ⊎ (((true ≡ true) × (false ≡ true) × IsTaken cells cell) ⊎ IsPinned p.pinned cell)
    covered (inl t) = inl t
    covered (inr (inl t)) = true_not_false p.group.frozen t.0 m.none
    covered (inr (inr t)) = inr (inr t)

-- A key's write turn ends.
pub wrote_survives : (c : Codec) (p : Pool) (k : Key) → Survives c p → MayWrite p k → Survives c (after (Wrote k) p)
wrote_survives c p k sv m = record {
  labels = sv.labels;
  puts = λ d s bytes is n. put_of d s bytes is n (same_key k n.k) refl n.ended;
  cells = sv.cells;
  current = sv.current;
  scanned = sv.scanned;
  rings = sv.rings;
  status_live = sv.status_live;
  roomy = sv.roomy;
  placed = sv.placed;
  one_key = sv.one_key;
  cover = sv.cover;
  order = sv.order;
  come_to = record {
    flushed_all = λ f e j cell is. true_not_false p.group.flushed e m.not_flushed;
    begun_flushed = sv.come_to.begun_flushed;
    tree = sv.come_to.tree;
    contents = sv.come_to.contents;
    newest = sv.come_to.newest;
  };
  boards = sv.boards;
  logs = sv.logs;
  unbroken = sv.unbroken;
  bounds = sv.bounds;
  fit = sv.fit;
  pools = sv.pools;
  in_range = sv.in_range;
}
  where
    landed_put : (f : Bool) (x : Sector) (b : List ℕ) → f ≡ false → Landed x b → IsPut f x b
    landed_put true x b e l = absurd (cc)
    landed_put false x b e l = l

    at_cell : (d s : ℕ) (bytes : List ℕ) (cell : Cell) → IsAt cell s bytes → IsPut p.group.flushed (p.sectors d (data_start + cell.sector)) cell.block
        → IsPut p.group.flushed (p.sectors d s) bytes
    at_cell d s bytes cell at put =
        subst (λ t. IsPut p.group.flushed (p.sectors d t) bytes) (sym at.sector_is)
        (subst (λ b. IsPut p.group.flushed (p.sectors d (data_start + cell.sector)) b) (sym at.bytes_are) put)

    put_of : (d s : ℕ) (bytes : List ℕ) → p.member d ≡ true → (n : NeedsPut (after (Wrote k) p) d s bytes) → (t : Bool) → same_key k n.k ≡ t
        → cond t true (p.group.done n.k) ≡ true → IsPut p.group.flushed (p.sectors d s) bytes
    put_of d s bytes is n true same ended = at_cell d s bytes n.cell n.at
        (landed_put p.group.flushed (p.sectors d (data_start + n.cell.sector)) n.cell.block m.not_flushed
        (m.landed d n.cell is n.on_board (ap p.group.cells (one_key k n.k same) ∙ n.cell_is) n.top_is))
    put_of d s bytes is n false same ended = sv.puts d s bytes is (record {
      is_frozen = n.is_frozen;
      on_board = n.on_board;
      k = n.k;
      cell = n.cell;
      cell_is = n.cell_is;
      top_is = n.top_is;
      ended = ended;
      at = n.at;
    })

-- The flush turn ends.
pub flushed_survives : (c : Codec) (p : Pool) → Survives c p → MayFlush p → Survives c (after Flushed p)
flushed_survives c p sv m = record {
  labels = sv.labels;
  puts = λ d s bytes is n. m.held d s bytes is n;
  cells = sv.cells;
  current = sv.current;
  scanned = sv.scanned;
  rings = sv.rings;
  status_live = sv.status_live;
  roomy = sv.roomy;
  placed = sv.placed;
  one_key = sv.one_key;
  cover = sv.cover;
  order = sv.order;
  come_to = record {
    flushed_all = λ f e k cell is. m.all k cell is;
    begun_flushed = λ f e. refl;
    tree = sv.come_to.tree;
    contents = sv.come_to.contents;
    newest = sv.come_to.newest;
  };
  boards = sv.boards;
  logs = sv.logs;
  unbroken = sv.unbroken;
  bounds = sv.bounds;
  fit = sv.fit;
  pools = sv.pools;
  in_range = sv.in_range;
}

-- A further number is drawn.
pub draws_survive : (c : Codec) (p : Pool) → Survives c p → p.group.frozen ≡ true → Survives c (after Draws p)
draws_survive c p sv m = record {
  labels = sv.labels;
  puts = sv.puts;
  cells = sv.cells;
  current = λ d s bytes is n. sv.current d s bytes is (read_before p owes d s bytes (λ g. grown_false which next next p.owes d g) n);
  scanned = sv.scanned;
  rings = sv.rings;
  status_live = sv.status_live;
  roomy = sv.roomy;
  placed = sv.placed;
  one_key = sv.one_key;
  cover = sv.cover;
  order = drawn_order c p p.group.frozen true sv;
  come_to = sv.come_to;
  boards = record {
    reads_first = sv.boards.reads_first;
    first_top = λ f. let le = sv.boards.first_top f in omega (arith, le);
    off_board = λ f d g is out low high. by_bool (nat_le g p.highest)
        (λ old. grown_more which next next p.owes d g (sv.boards.off_board f d g is out low (below g old)))
        (λ new. grown_in which next next p.owes d g (ap not out) (beyond g new) high);
    on_board = λ f d g is on low high. grown_out which next next p.owes d g (ap not on)
        ∙ by_bool (nat_le g p.highest) (λ old. sv.boards.on_board f d g is on low (below g old))
        (λ new. subst (λ n. p.owes d n ≡ false) (next_is g (beyond g new) high) (not_yet c p d sv is (sv.logs.boarded f d is on)));
  };
  logs = drawn_logs c p p.group.board p.group.frozen p.group.board sv sv.logs.boarded;
  unbroken = more_unbroken p owes (λ d g. grown_more which next next p.owes d g) sv.unbroken;
  bounds = sv.bounds;
  fit = sv.fit;
  pools = sv.pools;
  in_range = sv.in_range;
}
  where
    next : ℕ
    next = p.highest + 1

    which : ℕ → Bool
    which = off p.group.board

    owes : Logs
    owes = grown which next next p.owes

    below : (g : ℕ) → nat_le g p.highest ≡ true → g ≤ p.highest
    below g e = grind (arith, nat_tests)

    beyond : (g : ℕ) → nat_le g p.highest ≡ false → p.highest + 1 ≤ g
    beyond g e = grind (arith, nat_tests)

    next_is : (g : ℕ) → p.highest + 1 ≤ g → g ≤ p.highest + 1 → p.highest + 1 ≡ g
    next_is g low high = omega (arith, low, high)

-- a device that is still on the board was on it, and is another one
still_on : (d e : ℕ) (board : ℕ → Bool) → at_device d false board e ≡ true → (board e ≡ true) × ((d == e) ≡ false)
still_on d e board on = by_bool (d == e)
    (λ here. true_not_false (at_device d false board e) on (at_here d e false board here))
    (λ out. (sym (at_away d e false board out) ∙ on, out))

-- A leaf leaves the board.
pub leaves_survive : (c : Codec) (p : Pool) (d : ℕ) → Survives c p → p.group.frozen ≡ true → Survives c (after (Leaves d) p)
leaves_survive c p d sv m = record {
  labels = sv.labels;
  puts = λ e s bytes is n. sv.puts e s bytes is (record {
    is_frozen = n.is_frozen;
    on_board = (still_on d e p.group.board n.on_board).0;
    k = n.k;
    cell = n.cell;
    cell_is = n.cell_is;
    top_is = n.top_is;
    ended = n.ended;
    at = n.at;
  });
  cells = sv.cells;
  current = λ e s bytes is n. sv.current e s bytes is (read_before p owes e s bytes (λ g. grown_false which p.group.first p.highest p.owes e g) n);
  scanned = sv.scanned;
  rings = sv.rings;
  status_live = sv.status_live;
  roomy = sv.roomy;
  placed = sv.placed;
  one_key = sv.one_key;
  cover = sv.cover;
  order = sv.order;
  come_to = sv.come_to;
  boards = record {
    reads_first = sv.boards.reads_first;
    first_top = sv.boards.first_top;
    off_board = λ f e g is out low high. by_bool (d == e)
        (λ here. grown_in which p.group.first p.highest p.owes e g here low high)
        (λ away. grown_more which p.group.first p.highest p.owes e g
        (sv.boards.off_board f e g is (sym (at_away d e false p.group.board away) ∙ out) low high));
    on_board = λ f e g is on low high. let still = still_on d e p.group.board on in
        grown_out which p.group.first p.highest p.owes e g still.1 ∙ sv.boards.on_board f e g is still.0 low high;
  };
  logs = record {
    now = λ e is leaf g has. of e is leaf g (grown_of which p.group.first p.highest p.owes e g has);
    in_records = sv.logs.in_records;
    boarded = λ f e is on. sv.logs.boarded f e is (still_on d e p.group.board on).0;
  };
  unbroken = more_unbroken p owes (λ e g. grown_more which p.group.first p.highest p.owes e g) sv.unbroken;
  bounds = sv.bounds;
  fit = sv.fit;
  pools = sv.pools;
  in_range = sv.in_range;
}
  where
    which : ℕ → Bool
    which e = d == e

    owes : Logs
    owes = grown which p.group.first p.highest p.owes

    of : (e : ℕ) → p.member e ≡ true → 1 ≤ p.in_top e → (g : ℕ) → ((which e ≡ true) × (p.group.first ≤ g) × (g ≤ p.highest)) ⊎ (p.owes e g ≡ true)
        → (1 ≤ g) × (g ≤ p.highest)
    of e is leaf g (inl new) = let above = sv.boards.reads_first m in (omega (arith, above, new.1), new.2)
    of e is leaf g (inr old) = sv.logs.now e is leaf g old

-- Logs are widened.
pub grows_survive : (c : Codec) (p : Pool) (owes : Logs) → Survives c p → AreWidened p.owes owes → Survives c (after (Grows owes) p)
grows_survive c p owes sv m = record {
  labels = sv.labels;
  puts = sv.puts;
  cells = sv.cells;
  current = λ d s bytes is n. sv.current d s bytes is
      (read_before p owes d s bytes (λ g less. not_true (p.owes d g)
      (λ has. true_not_false (owes d g) (m.more d g has) less)) n);
  scanned = sv.scanned;
  rings = sv.rings;
  status_live = sv.status_live;
  roomy = sv.roomy;
  placed = sv.placed;
  one_key = sv.one_key;
  cover = sv.cover;
  order = sv.order;
  come_to = sv.come_to;
  boards = record {
    reads_first = sv.boards.reads_first;
    first_top = sv.boards.first_top;
    off_board = λ f d g is out low high. m.more d g (sv.boards.off_board f d g is out low high);
    on_board = λ f d g is on low high. not_true (owes d g) (λ has. let w = m.inside d g has in
        let top = (sv.logs.now d is (sv.logs.boarded f d is on) w.1 w.3).1 in
        true_not_false (p.owes d w.1) w.3 (sv.boards.on_board f d w.1 is on (omega (arith, low, w.5)) top));
  };
  logs = record {
    now = λ d is leaf g has. let w = m.inside d g has in
        let low = sv.logs.now d is leaf w.0 w.2 in let high = sv.logs.now d is leaf w.1 w.3 in
        (omega (arith, low.0, w.4), omega (arith, high.1, w.5));
    in_records = sv.logs.in_records;
    boarded = sv.logs.boarded;
  };
  unbroken = more_unbroken p owes m.more sv.unbroken;
  bounds = sv.bounds;
  fit = sv.fit;
  pools = sv.pools;
  in_range = sv.in_range;
}

-- The group is suspended.
pub burns_survive : (c : Codec) (p : Pool) → Survives c p → p.group.frozen ≡ true → Survives c (after Burns p)
burns_survive c p sv m = record {
  labels = sv.labels;
  puts = λ d s bytes is n. true_not_false false n.is_frozen refl;
  cells = sv.cells;
  current = λ d s bytes is n. sv.current d s bytes is (record {
    k = n.k;
    cell = n.cell;
    cell_is = n.cell_is;
    top_is = n.top_is;
    has = still_has d n.k n.cell n.cell_is (cleared_false p.group.first p.highest p.owes d n.cell.birth n.has);
    at = n.at;
  });
  scanned = sv.scanned;
  rings = sv.rings;
  status_live = sv.status_live;
  roomy = sv.roomy;
  placed = record { in_records = sv.placed.in_records; in_tree = sv.placed.in_tree; newest = λ f b. absurd (cc) };
  one_key = record {
    mapped = sv.one_key.mapped;
    births = sv.one_key.births;
    one = sv.one_key.one;
    group_mapped = λ f. absurd (cc);
    group_births = λ f. absurd (cc);
    group_apart = λ f. absurd (cc);
    group_one = λ f. absurd (cc);
  };
  cover = λ is r k cell i at. covered (sv.cover is r k cell i at);
  order = record {
    acked_live = sv.order.acked_live;
    reads_live = sv.order.reads_live;
    not_below = sv.order.not_below;
    acked_top = sv.order.acked_top;
    reads_top = sv.order.reads_top;
    live_top = sv.order.live_top;
    newest_above = sv.order.newest_above;
    given_below = sv.order.given_below;
    fresh_above = λ f. absurd (cc);
    acks_below = sv.order.acks_below;
  };
  come_to = record {
    flushed_all = λ f. absurd (cc);
    begun_flushed = λ f. absurd (cc);
    tree = λ f. absurd (cc);
    contents = λ f. absurd (cc);
    newest = λ f. absurd (cc);
  };
  boards = record { reads_first = λ f. absurd (cc); first_top = λ f. absurd (cc); off_board = λ f. absurd (cc); on_board = λ f. absurd (cc) };
  logs = record {
    now = λ d is leaf g has. sv.logs.now d is leaf g (cleared_of p.group.first p.highest p.owes d g has);
    in_records = sv.logs.in_records;
    boarded = λ f. absurd (cc);
  };
  unbroken = record {
    still = λ d g is held. cleared_both p.group.first p.highest p.unbroken p.owes d g (sv.unbroken.still d g is) held;
    newest = λ d g is held. sv.unbroken.newest d g is (cleared_of p.group.first p.highest p.unbroken d g held);
    settled_still = λ d g is held. cleared_both p.group.first p.highest p.settled p.owes d g (sv.unbroken.settled_still d g is) held;
    settled_live = λ d g is held. sv.unbroken.settled_live d g is (cleared_of p.group.first p.highest p.settled d g held);
  };
  bounds = sv.bounds;
  fit = sv.fit;
  pools = sv.pools;
  in_range = sv.in_range;
}
  where
    still_has : (d : ℕ) (k : Key) (cell : Cell) → p.reads.cells k ≡ Some cell
        → ((p.group.first ≤ cell.birth) × (cell.birth ≤ p.highest)) ⊎ (p.owes d cell.birth ≡ false)
        → p.owes d cell.birth ≡ false
    still_has d k cell is (inl new) =
        let old = sv.one_key.births p.reads k cell sv.order.reads_live is in
        let above = sv.boards.reads_first m in absurd (omega (arith, new.0, old, above))
    still_has d k cell is (inr old) = old

    pinned_now : (t : Bool) (cell : Cell) → p.group.begun ≡ t → IsTaken p.group.cells cell → t ≡ true → IsPinned
        (cond t (p.group.cells ∷ p.pinned) p.pinned) cell
    pinned_now true cell e t on = inl t
    pinned_now false cell e t on = absurd (cc)

    pinned_more : (t : Bool) (cell : Cell) → IsPinned p.pinned cell → IsPinned (cond t (p.group.cells ∷ p.pinned) p.pinned) cell
    pinned_more true cell t = inr t
    pinned_more false cell t = t

    covered : {cell : Cell} → IsTaken p.reads.cells cell
        ⊎ (((p.group.frozen ≡ true) × (p.group.begun ≡ true) × IsTaken p.group.cells cell) ⊎ IsPinned p.pinned cell)
        → IsTaken p.reads.cells cell ⊎ (((false ≡ true) × (p.group.begun ≡ true) × IsTaken p.group.cells cell)
        ⊎ IsPinned (cond p.group.begun (p.group.cells ∷ p.pinned) p.pinned) cell)
    covered (inl t) = inl t
    covered {cell} (inr (inl t)) = inr (inr (pinned_now p.group.begun cell refl t.2 t.1))
    covered {cell} (inr (inr t)) = inr (inr (pinned_more p.group.begun cell t))
