-- The moves of a round keep the invariant: it begins, a third phase begins and ends, and it is acknowledged.
use Rattle.std.proofs.Common.{
  ◌≡◌,
  ◌⊎◌,
  ℕ,
  ◌+◌,
  ◌≤◌,
  ◌<◌,
  ◌==◌,
  Bool,
  true,
  false,
  cond,
  List,
  [],
  ◌∷◌,
  ◌++◌,
  Some,
  None,
  refl,
  sym,
  ap,
  ◌∙◌,
  subst,
  inl,
  inr,
  arith,
  ⊎_elim,
}
use Rattle.mp_base.specs.declared.number.Guid.{Guid}
use Rattle.mp_base.specs.declared.place.Key.{Key}
use Rattle.bank_core.specs.Disk.{Sector}
use Rattle.label_store.specs.declared.member.Member.{Member}
use Rattle.label_store.specs.Layout.{slot_of}
use Rattle.txg_history.specs.Events.{Begins, Third, Ends, Acks}
use Rattle.txg_history.specs.Groups.{at_device}
use Rattle.txg_history.specs.Labels.{Status, Odd, Even, Lost, begun}
use Rattle.txg_history.specs.Moves.{IsLeafOf, IsDrawnUp, MayStand, MayEnd, MayAck}
use Rattle.txg_history.specs.Needs.{Held, Keeps, IsPut, IsAt, NeedsLabel, NeedsCell}
use Rattle.txg_history.specs.Pages.{Codec}
use Rattle.txg_history.specs.Pools.{Pool, drawn, seat, after}
use Rattle.txg_history.specs.Records.{Rec, Cell, IsIn, IsNoLeaf, AreAtOne, AreOne, number_of, takes_part, data_start, rest_of, laid_over}
use Rattle.txg_history.specs.Survival.{Survives, IsFit, IsOf, IsKnownUber, IsKnownRing, IsMapped, HaveOneKey, IsTaken, IsPinned, IsLog}
use Rattle.txg_history.proofs.Keeping.{held_keeps}
use Rattle.txg_history.proofs.Listing.{same_head, same_rest, in_append, only_one, new_or, laid_of}
use Rattle.txg_history.proofs.Logging.{by_bool, true_not_false, not_true, at_here, at_away, same_device}
use Rattle.txg_history.proofs.Placing.{taken_self, top_some}
use Rattle.txg_history.proofs.Treeing.{tree_same}

-- what a status promised before a round, where it still does
begun_needs : (m : Member) (status : Status) (q : Rec) (s : ℕ) (bytes : List ℕ) → NeedsLabel m (begun status q) s bytes → NeedsLabel m status s bytes
begun_needs m (Odd r) q s bytes n = by_test (slot_of (number_of r) == slot_of (number_of q)) n
  where
    by_test : (t : Bool) → NeedsLabel m (cond t Lost (Odd r)) s bytes → NeedsLabel m (Odd r) s bytes
    by_test true n = absurd n
    by_test false n = n
begun_needs m (Even r) q s bytes n = absurd n
begun_needs m Lost q s bytes n = absurd n

part_needs : (m : Member) (t : Bool) (status : Status) (q : Rec) (s : ℕ) (bytes : List ℕ) → NeedsLabel m
    (cond t (begun status q) status) s bytes → NeedsLabel m status s bytes
part_needs m true status q s bytes n = begun_needs m status q s bytes n
part_needs m false status q s bytes n = n

more_live : (q : Rec) (live : List Rec) (m : Guid) (status : Status) → IsOf live m status → IsOf (q ∷ live) m status
more_live q live m (Odd r) is = (inr is.0, is.1)
more_live q live m (Even r) is = (inr is.0, is.1)
more_live q live m Lost is = tt

begun_live : (live : List Rec) (m : Guid) (status : Status) (q : Rec) → IsOf live m status → IsOf live m (begun status q)
begun_live live m (Odd r) q is = by_test (slot_of (number_of r) == slot_of (number_of q))
  where
    by_test : (t : Bool) → IsOf live m (cond t Lost (Odd r))
    by_test true = tt
    by_test false = is
begun_live live m (Even r) q is = tt
begun_live live m Lost q is = tt

-- what holds of both statuses
either : (P : Status → Type 0) (t : Bool) (new old : Status) → P new → P old → P (cond t new old)
either P true new old a b = a
either P false new old a b = b

-- a ring's sector that no event has changed, where more records are known
pub ring_more : (old new : List Rec) (pool : Guid) (m : Member) (x : Sector) (since : List (List ℕ)) → ((r : Rec) → IsIn r old → IsIn r new)
    → IsKnownRing old pool m x since → IsKnownRing new pool m x since
ring_more old new pool m x since stays ring = record {
  stable = known x.stable ring.stable;
  written = λ bytes among. known bytes (ring.written bytes among);
  pending = ring.pending;
}
  where
    known : (bytes : List ℕ) → IsKnownUber old pool m bytes → IsKnownUber new pool m bytes
    known bytes k u is = ⊎_elim (λ one. inl (one.0, stays one.0 one.1, one.2)) (λ blank. inr blank) (k u is)

-- what is said of a cell is said of its sector and bytes
pub at_cell : (P : ℕ → List ℕ → Type 0) (cell : Cell) (s : ℕ) (bytes : List ℕ) → IsAt cell s bytes → P (data_start + cell.sector) cell.block → P s bytes
at_cell P cell s bytes at is = subst (λ t. P t bytes) (sym at.sector_is) (subst (λ b. P (data_start + cell.sector) b) (sym at.bytes_are) is)

-- A new record's keys are kept where its logs lack their births: those of the group are held, the others it reads.
drawn_kept : (c : Codec) (p : Pool) (q : Rec) (d : ℕ) (k : Key) (cell : Cell) → Survives c p → IsDrawnUp c p q → p.member d ≡ true → q.cells k ≡ Some cell
    → q.tops (p.guid d) ≡ cell.top → q.owes (p.guid d) cell.birth ≡ false → Keeps (p.sectors d (data_start + cell.sector)) cell.block
drawn_kept c p q d k cell sv m is at top has = of (m.leaves d is)
  where
    of : IsLeafOf p q d ⊎ (IsNoLeaf q (p.guid d) × (p.group.board d ≡ false)) → Keeps (p.sectors d (data_start + cell.sector)) cell.block
    of (inl leaf) = by_laid (laid_of p.group.cells p.reads.cells k cell (sym (m.cells_are k) ∙ at))
      where
        lacks : p.owes d cell.birth ≡ false
        lacks = sym (leaf.log_is cell.birth) ∙ has

        top_now : p.in_top d ≡ cell.top
        top_now = sym leaf.top_is ∙ top

        on_board : p.group.cells k ≡ Some cell → p.group.board d ≡ true
        on_board new = by_bool (p.group.board d) (λ on. on) (λ out.
            let born = sv.one_key.group_births m.frozen k cell new in
            let top = sv.boards.first_top m.frozen in
            true_not_false (p.owes d cell.birth) (sv.boards.off_board m.frozen d cell.birth is out (omega (arith, born)) (omega (arith, born, top))) lacks)

        held : (f : Bool) → f ≡ true → IsPut f (p.sectors d (data_start + cell.sector)) cell.block → Held (p.sectors d (data_start + cell.sector)) cell.block
        held true e put = put
        held false e put = absurd (cc)

        by_laid : (p.group.cells k ≡ Some cell) ⊎ ((p.group.cells k ≡ None) × (p.reads.cells k ≡ Some cell)) → Keeps
            (p.sectors d (data_start + cell.sector)) cell.block
        by_laid (inl new) = held_keeps (p.sectors d (data_start + cell.sector)) cell.block
            (held p.group.flushed m.flushed (sv.puts d (data_start + cell.sector) cell.block is (record {
              is_frozen = m.frozen;
              on_board = on_board new;
              k = k;
              cell = cell;
              cell_is = new;
              top_is = top_now;
              ended = sv.come_to.flushed_all m.frozen m.flushed k cell new;
              at = record { sector_is = refl; bytes_are = refl };
            })))
        by_laid (inr (none, old)) = sv.current d (data_start + cell.sector) cell.block is
            (record { k = k; cell = cell; cell_is = old; top_is = top_now; has = lacks; at = record { sector_is = refl; bytes_are = refl } })
    of (inr none) = true_not_false (q.owes (p.guid d) cell.birth) (none.0.all cell.birth) has

-- A key of a new record is one of the group or of the record that the pool reads.
drawn_laid : (c : Codec) (p : Pool) (q : Rec) (k : Key) (cell : Cell) → IsDrawnUp c p q → q.cells k ≡ Some cell
    → (p.group.cells k ≡ Some cell) ⊎ (p.reads.cells k ≡ Some cell)
drawn_laid c p q k cell m is = ⊎_elim (λ new. inl new) (λ old. inr old.1) (laid_of p.group.cells p.reads.cells k cell (sym (m.cells_are k) ∙ is))

swap_one : {j k : Key} {a b : Cell} → AreOne k j b a → AreOne j k a b
swap_one one = (sym one.0, sym one.1)

swap_at : (a b : Cell) → AreAtOne a b → AreAtOne b a
swap_at a b one = (sym one.0, sym one.1)

drawn_one_key : (c : Codec) (p : Pool) (q : Rec) → Survives c p → IsDrawnUp c p q → HaveOneKey p.room
    (q ∷ p.live) p.group.frozen true p.group.first p.group.cells
drawn_one_key c p q sv m = record {
  mapped = λ r k cell i at. new_or (λ r. r.cells k ≡ Some cell → IsMapped p.room cell) q r p.live
      (λ at. ⊎_elim (λ new. sv.one_key.group_mapped m.frozen k cell new) (λ old. sv.one_key.mapped p.reads k cell reads old) (drawn_laid c p q k cell m at))
      (λ i at. sv.one_key.mapped r k cell i at) i at;
  births = λ r k cell i at. new_or (λ r. r.cells k ≡ Some cell → cell.birth ≤ number_of r) q r p.live (λ at. born k cell (drawn_laid c p q k cell m at))
      (λ i at. sv.one_key.births r k cell i at) i at;
  one = λ r s j k a b i i' at bt one. new_or (λ r. r.cells j ≡ Some a → AreOne j k a b) q r p.live
      (λ at. new_or (λ s. s.cells k ≡ Some b → AreOne j k a b) q s p.live (λ bt. both_new j k a b at bt one) (λ i' bt. one_new s j k a b at i' bt one) i' bt)
      (λ i at. new_or (λ s. s.cells k ≡ Some b → AreOne j k a b) q s p.live (λ bt. swap_one (one_new r k j b a bt i at (swap_at a b one)))
      (λ i' bt. sv.one_key.one r s j k a b i i' at bt one) i' bt) i at;
  group_mapped = sv.one_key.group_mapped;
  group_births = sv.one_key.group_births;
  group_apart = sv.one_key.group_apart;
  group_one = λ f r j k a b i at bt one. (
    refl,
    new_or (λ r. r.cells j ≡ Some a → AreOne j k a b) q r p.live
        (λ at. ⊎_elim (λ new. sv.one_key.group_apart f j k a b new bt one)
        (λ old. (sv.one_key.group_one f p.reads j k a b reads old bt one).1) (drawn_laid c p q j a m at))
        (λ i at. (sv.one_key.group_one f r j k a b i at bt one).1) i at,
  );
}
  where
    reads : IsIn p.reads p.live
    reads = sv.order.reads_live

    born : (k : Key) (cell : Cell) → (p.group.cells k ≡ Some cell) ⊎ (p.reads.cells k ≡ Some cell) → cell.birth ≤ number_of q
    born k cell (inl new) = let b = sv.one_key.group_births m.frozen k cell new in let top = sv.boards.first_top m.frozen in omega (arith, b, top, m.number_is)
    born k cell (inr old) = let b = sv.one_key.births p.reads k cell reads old in let top = sv.order.reads_top in omega (arith, b, top, m.number_is)

    one_new : (s : Rec) (j k : Key) (a b : Cell) → q.cells j ≡ Some a → IsIn s p.live → s.cells k ≡ Some b → AreAtOne a b → AreOne j k a b
    one_new s j k a b at i bt one = of (drawn_laid c p q j a m at)
      where
        of : (p.group.cells j ≡ Some a) ⊎ (p.reads.cells j ≡ Some a) → AreOne j k a b
        of (inl new) = swap_one (sv.one_key.group_one m.frozen s k j b a i bt new (swap_at a b one)).1
        of (inr old) = sv.one_key.one p.reads s j k a b reads i old bt one

    both_new : (j k : Key) (a b : Cell) → q.cells j ≡ Some a → q.cells k ≡ Some b → AreAtOne a b → AreOne j k a b
    both_new j k a b at bt one = of (drawn_laid c p q k b m bt)
      where
        by_first : p.group.cells k ≡ Some b → (p.group.cells j ≡ Some a) ⊎ (p.reads.cells j ≡ Some a) → AreOne j k a b
        by_first new (inl first) = sv.one_key.group_apart m.frozen j k a b first new one
        by_first new (inr first) = (sv.one_key.group_one m.frozen p.reads j k a b reads first new one).1

        of : (p.group.cells k ≡ Some b) ⊎ (p.reads.cells k ≡ Some b) → AreOne j k a b
        of (inl new) = by_first new (drawn_laid c p q j a m at)
        of (inr old) = one_new p.reads j k a b at reads old one

-- A round begins.
pub begins_survive : (c : Codec) (p : Pool) (q : Rec) → Survives c p → IsDrawnUp c p q → Survives c (after (Begins q) p)
begins_survive c p q sv m = record {
  labels = λ d s bytes is n. sv.labels d s bytes is (part_needs (seat p d) (takes_part q (p.guid d)) (p.status d) q s bytes n);
  puts = sv.puts;
  cells = λ d s bytes is n. new_or (λ r. r.cells n.k ≡ Some n.cell → r.tops (p.guid d) ≡ n.cell.top → r.owes
      (p.guid d) n.cell.birth ≡ false → Keeps (p.sectors d s) bytes) q n.r p.live
      (λ at top has. at_cell (λ s b. Keeps (p.sectors d s) b) n.cell s bytes n.at (drawn_kept c p q d n.k n.cell sv m is at top has))
      (λ i at top has. sv.cells d s bytes is (record { r = n.r; is_live = i; k = n.k; cell = n.cell; cell_is = at; in_top = top; has = has; at = n.at }))
      n.is_live n.cell_is n.in_top n.has;
  current = sv.current;
  scanned = sv.scanned;
  rings = λ d place is inside. ring_more (drawn p) (drawn (after (Begins q) p)) p.pool (seat p d) _ _ (λ r i. inr i) (sv.rings d place is inside);
  status_live = λ d is. either (IsOf (q ∷ p.live) (p.guid d)) (takes_part q (p.guid d)) _ _
      (begun_live (q ∷ p.live) (p.guid d) (p.status d) q (more_live q p.live (p.guid d) (p.status d) (sv.status_live d is)))
      (more_live q p.live (p.guid d) (p.status d) (sv.status_live d is));
  roomy = sv.roomy;
  placed = record {
    in_records = λ r d i is. new_or (λ r. (r.tops (p.guid d) ≡ 0) ⊎ (r.tops (p.guid d) ≡ p.home d)) q r p.live
        (top_of d is (m.leaves d is)) (λ i. sv.placed.in_records r d i is) i;
    in_tree = sv.placed.in_tree;
    newest = λ f b r rest d e is. subst (λ r. (r.tops (p.guid d) ≡ p.in_top d) ⊎ (r.tops (p.guid d) ≡ 0))
        (same_head q r p.live rest e) (top_new d (m.leaves d is));
  };
  one_key = drawn_one_key c p q sv m;
  cover = λ is r k cell i at. new_or (λ r. r.cells k ≡ Some cell → Covered cell) q r p.live (λ at. drawn_covered k cell (drawn_laid c p q k cell m at))
      (λ i at. covered (sv.cover is r k cell i at)) i at;
  order = record {
    acked_live = inr sv.order.acked_live;
    reads_live = inr sv.order.reads_live;
    not_below = λ r i. new_or (λ r. number_of p.acked ≤ number_of r) q r p.live low (λ i. sv.order.not_below r i) i;
    acked_top = sv.order.acked_top;
    reads_top = sv.order.reads_top;
    live_top = λ r i. new_or (λ r. (number_of r ≤ p.highest) ⊎ IsIn r p.missed) q r p.live
        (inl (let le : number_of q ≤ p.highest = omega (arith, m.number_is) in le)) (λ i. sv.order.live_top r i) i;
    newest_above = λ q' rest e r i. ⊎_elim (λ lt. inl (above_new q' rest e (number_of r) lt)) (λ missed. inr missed)
        (sv.order.fresh_above m.frozen m.fresh r (subst (IsIn r) (sym (same_rest q q' p.live rest e)) i));
    given_below = sv.order.given_below;
    fresh_above = λ f n. true_not_false false n refl;
    acks_below = sv.order.acks_below;
  };
  come_to = record {
    flushed_all = sv.come_to.flushed_all;
    begun_flushed = λ f b. m.flushed;
    tree = sv.come_to.tree;
    contents = sv.come_to.contents;
    newest = λ f b r rest e k. subst (λ r. r.cells k ≡ laid_over p.group.cells p.reads.cells k) (same_head q r p.live rest e) (m.cells_are k);
  };
  boards = sv.boards;
  logs = record {
    now = sv.logs.now;
    in_records = λ r d i is leaf. new_or (λ r. 1 ≤ r.tops (p.guid d) → IsLog (number_of r)
        (r.owes (p.guid d))) q r p.live (λ leaf. log_of d is leaf (m.leaves d is))
        (λ i leaf. sv.logs.in_records r d i is leaf) i leaf;
    boarded = sv.logs.boarded;
  };
  unbroken = record {
    still = λ d g is held. held;
    newest = λ d g is held r rest e. subst (λ r. r.owes (p.guid d) g ≡ true) (same_head q r p.live rest e) (owes_new d g held (m.leaves d is));
    settled_still = sv.unbroken.settled_still;
    settled_live = λ d g is held r i. new_or (λ r. r.owes (p.guid d) g ≡ true) q r p.live (owes_new d g (sv.unbroken.settled_still d g is held) (m.leaves d is))
        (λ i. sv.unbroken.settled_live d g is held r i) i;
  };
  bounds = sv.bounds;
  fit = λ r i. new_or (IsFit c p.name p.pool p.room) q r p.live
      (inr m.fits, tree_same c q.cells (laid_over p.group.cells p.reads.cells) m.cells_are (sv.come_to.tree m.frozen))
      (λ i. sv.fit r i) i;
  pools = λ r i. new_or (λ r. r.commit.pool ≡ p.pool) q r (drawn p) m.fits.pool_is (λ i. sv.pools r i) i;
  in_range = sv.in_range;
}
  where
    Covered : Cell → Type 0
    Covered cell = IsTaken p.reads.cells cell ⊎ (((p.group.frozen ≡ true) × (true ≡ true) × IsTaken p.group.cells cell) ⊎ IsPinned p.pinned cell)

    covered : {cell : Cell} → IsTaken p.reads.cells cell
        ⊎ (((p.group.frozen ≡ true) × (p.group.begun ≡ true) × IsTaken p.group.cells cell) ⊎ IsPinned p.pinned cell)
        → Covered cell
    covered (inl t) = inl t
    covered (inr (inl t)) = inr (inl (t.0, refl, t.2))
    covered (inr (inr t)) = inr (inr t)

    drawn_covered : (k : Key) (cell : Cell) → (p.group.cells k ≡ Some cell) ⊎ (p.reads.cells k ≡ Some cell) → Covered cell
    drawn_covered k cell (inl new) = inr (inl (m.frozen, refl, taken_self p.group.cells k cell new))
    drawn_covered k cell (inr old) = inl (taken_self p.reads.cells k cell old)

    low : number_of p.acked ≤ number_of q
    low = let le = sv.order.acked_top in omega (arith, le, m.number_is)

    above_new : (q' : Rec) (rest : List Rec) → q ∷ p.live ≡ q' ∷ rest → (n : ℕ) → n < p.highest → n < number_of q'
    above_new q' rest e n lt = omega (arith, lt, m.number_is, ap number_of (same_head q q' p.live rest e))

    top_of : (d : ℕ) → p.member d ≡ true → IsLeafOf p q d ⊎ (IsNoLeaf q (p.guid d) × (p.group.board d ≡ false))
        → (q.tops (p.guid d) ≡ 0) ⊎ (q.tops (p.guid d) ≡ p.home d)
    top_of d is (inl leaf) = ⊎_elim (λ none. inl (leaf.top_is ∙ none)) (λ home. inr (leaf.top_is ∙ home)) (sv.placed.in_tree d is)
    top_of d is (inr none) = inl none.0.no_top

    top_new : (d : ℕ) → IsLeafOf p q d ⊎ (IsNoLeaf q (p.guid d) × (p.group.board d ≡ false)) → (q.tops (p.guid d) ≡ p.in_top d) ⊎ (q.tops (p.guid d) ≡ 0)
    top_new d (inl leaf) = inl leaf.top_is
    top_new d (inr none) = inr none.0.no_top

    log_of : (d : ℕ) → p.member d ≡ true → 1 ≤ q.tops (p.guid d) → IsLeafOf p q d
        ⊎ (IsNoLeaf q (p.guid d) × (p.group.board d ≡ false)) → IsLog (number_of q) (q.owes (p.guid d))
    log_of d is leaf (inl of) = λ g has.
        let bounds = sv.logs.now d is (omega (arith, leaf, of.top_is)) g (sym (of.log_is g) ∙ has) in (bounds.0, omega (arith, bounds.1, m.number_is))
    log_of d is leaf (inr none) = absurd (omega (arith, leaf, none.0.no_top))

    owes_new : (d g : ℕ) → p.owes d g ≡ true → IsLeafOf p q d ⊎ (IsNoLeaf q (p.guid d) × (p.group.board d ≡ false)) → q.owes (p.guid d) g ≡ true
    owes_new d g held (inl leaf) = leaf.log_is g ∙ held
    owes_new d g held (inr none) = none.0.all g

-- A member's labels come to hold a record: the status is another.
at_held : (p : Pool) (status : Status) (d e s : ℕ) (bytes : List ℕ) → (p.member d ≡ true → NeedsLabel (seat p d) status s bytes → Held (p.sectors d s) bytes)
    → (NeedsLabel (seat p e) (p.status e) s bytes → Held (p.sectors e s) bytes) → p.member e ≡ true → NeedsLabel
    (seat p e) (at_device d status p.status e) s bytes → Held (p.sectors e s) bytes
at_held p status d e s bytes here away is n = by_bool (d == e)
    (λ same. subst (λ e. p.member e ≡ true → NeedsLabel (seat p e) status s bytes → Held (p.sectors e s) bytes) (same_device d e same) here is
    (subst (λ st. NeedsLabel (seat p e) st s bytes) (at_here d e status p.status same) n))
    (λ other. away (subst (λ st. NeedsLabel (seat p e) st s bytes) (at_away d e status p.status other) n))

at_live : (p : Pool) (status : Status) (d e : ℕ) → (p.member d ≡ true → IsOf p.live (p.guid d) status) → IsOf p.live (p.guid e) (p.status e)
    → p.member e ≡ true → IsOf p.live (p.guid e) (at_device d status p.status e)
at_live p status d e here away is = by_bool (d == e)
    (λ same. subst (IsOf p.live (p.guid e)) (sym (at_here d e status p.status same))
    (subst (λ e. p.member e ≡ true → IsOf p.live (p.guid e) status) (same_device d e same) here is))
    (λ other. subst (IsOf p.live (p.guid e)) (sym (at_away d e status p.status other)) away)

-- a status that the labels of a member have come to
stands_survive : (c : Codec) (p : Pool) (d : ℕ) (status : Status) → Survives c p
    → (p.member d ≡ true → (s : ℕ) (bytes : List ℕ) → NeedsLabel (seat p d) status s bytes → Held (p.sectors d s) bytes)
    → (p.member d ≡ true → IsOf p.live (p.guid d) status) → Survives c (record p { status = at_device d status p.status })
stands_survive c p d status sv held of = record {
  labels = λ e s bytes is n. at_held p status d e s bytes (λ member. held member s bytes) (λ n. sv.labels e s bytes is n) is n;
  puts = sv.puts;
  cells = sv.cells;
  current = sv.current;
  scanned = sv.scanned;
  rings = sv.rings;
  status_live = λ e is. at_live p status d e of (sv.status_live e is) is;
  roomy = sv.roomy;
  placed = sv.placed;
  one_key = sv.one_key;
  cover = sv.cover;
  order = sv.order;
  come_to = sv.come_to;
  boards = sv.boards;
  logs = sv.logs;
  unbroken = sv.unbroken;
  bounds = sv.bounds;
  fit = sv.fit;
  pools = sv.pools;
  in_range = sv.in_range;
}

pub third_survives : (c : Codec) (p : Pool) (q : Rec) (d : ℕ) → Survives c p → (p.member d ≡ true → MayStand p q d) → Survives c (after (Third q d) p)
third_survives c p q d sv m = stands_survive c p d (Even q) sv (λ member. (m member).held) (λ member. ((m member).is_live, (m member).takes))

pub ends_survives : (c : Codec) (p : Pool) (q : Rec) (d : ℕ) → Survives c p → (p.member d ≡ true → MayEnd p q d) → Survives c (after (Ends q d) p)
ends_survives c p q d sv m = stands_survive c p d (Odd q) sv
    (λ member s bytes n. ⊎_elim (λ ring. sv.labels d s bytes member
    (subst (λ st. NeedsLabel (seat p d) st s bytes) (sym (m member).began) (inl ring)))
    (λ part. (m member).held s bytes part) n)
    (λ member. subst (IsOf p.live (p.guid d)) (m member).began (sv.status_live d member))

-- A key of the acknowledged record stands under a top on a leaf of its top.
acked_leaf : (c : Codec) (p : Pool) (q : Rec) → Survives c p → MayAck p q → (d : ℕ) (k : Key) (cell : Cell) → q.cells k ≡ Some cell
    → q.tops (p.guid d) ≡ cell.top → 1 ≤ q.tops (p.guid d)
acked_leaf c p q sv m d k cell at top =
    let live : IsIn q p.live = subst (IsIn q) (sym m.newest) (inl refl) in
    let some = top_some p.room cell sv.roomy.no_top (sv.one_key.mapped q k cell live at) in omega (arith, some, top)

-- A leaf of the acknowledged record stood in the tree as it does in the record.
acked_stands : (c : Codec) (p : Pool) (q : Rec) → Survives c p → MayAck p q → (d : ℕ) → p.member d ≡ true → 1 ≤ q.tops (p.guid d)
    → p.in_top d ≡ q.tops (p.guid d)
acked_stands c p q sv m d is leaf =
    ⊎_elim (λ e. sym e) (λ none. absurd (omega (arith, leaf, none))) (sv.placed.newest m.frozen m.begun q m.rest d m.newest is)

pub acked_tree : (c : Codec) (p : Pool) (q : Rec) → Survives c p → MayAck p q → (d : ℕ) (k : Key) (cell : Cell) → p.member d ≡ true
    → q.cells k ≡ Some cell → q.tops (p.guid d) ≡ cell.top → p.in_top d ≡ cell.top
acked_tree c p q sv m d k cell is at top = acked_stands c p q sv m d is (acked_leaf c p q sv m d k cell at top) ∙ top

-- A key that the scan had to come past was one of the record that the pool read.
pub acked_cell : (c : Codec) (p : Pool) (q : Rec) → Survives c p → MayAck p q → (k : Key) (cell : Cell) → p.scan.running ≡ true
    → cell.birth ≤ p.scan.hi → q.cells k ≡ Some cell → p.reads.cells k ≡ Some cell
acked_cell c p q sv m k cell on low at =
    of (laid_of p.group.cells p.reads.cells k cell (sym (sv.come_to.newest m.frozen m.begun q m.rest m.newest k) ∙ at))
  where
    of : (p.group.cells k ≡ Some cell) ⊎ ((p.group.cells k ≡ None) × (p.reads.cells k ≡ Some cell)) → p.reads.cells k ≡ Some cell
    of (inl new) =
        let born = sv.one_key.group_births m.frozen k cell new in
        let hi = sv.bounds.hi_low on in let lt = sv.boards.reads_first m.frozen in absurd (omega (arith, born, hi, lt, low))
    of (inr old) = old.1

-- A round is acknowledged.
pub acks_survive : (c : Codec) (p : Pool) (q : Rec) → Survives c p → MayAck p q → Survives c (after (Acks q) p)
acks_survive c p q sv m = record {
  labels = λ d s bytes is n. sv.labels d s bytes is (kept_needs d (takes_part q (p.guid d)) s bytes n);
  puts = λ d s bytes is n. true_not_false false n.is_frozen refl;
  cells = λ d s bytes is n. sv.cells d s bytes is (alone d s bytes n);
  current = λ d s bytes is n. sv.cells d s bytes is (record {
    r = q;
    is_live = live;
    k = n.k;
    cell = n.cell;
    cell_is = n.cell_is;
    in_top = n.top_is;
    has = not_true (q.owes (p.guid d) n.cell.birth) (λ owed. true_not_false (p.owes d n.cell.birth)
        (m.logs d n.cell.birth is (leaf_of d n.k n.cell n.cell_is n.top_is) owed) n.has);
    at = n.at;
  });
  scanned = λ d s bytes is n. sv.scanned d s bytes is (record {
    running = n.running;
    is_eligible = n.is_eligible;
    k = n.k;
    cell = n.cell;
    cell_is = acked_cell c p q sv m n.k n.cell n.running n.low n.cell_is;
    top_is = tree_now d is (leaf_of d n.k n.cell n.cell_is n.top_is) ∙ n.top_is;
    is_passed = n.is_passed;
    low = n.low;
    not_scrubbed = n.not_scrubbed;
    at = n.at;
  });
  rings = λ d place is inside. ring_more (drawn p) (drawn (after (Acks q) p)) p.pool (seat p d) _ _ (λ r i. still_drawn r i) (sv.rings d place is inside);
  status_live = λ d is. acked_live d is (takes_part q (p.guid d)) refl;
  roomy = sv.roomy;
  placed = record {
    in_records = λ r d i is. only_one (λ r. (r.tops (p.guid d) ≡ 0) ⊎ (r.tops (p.guid d) ≡ p.home d)) q r (sv.placed.in_records q d live is) i;
    in_tree = λ d is. sv.placed.in_records q d live is;
    newest = λ f. absurd (cc);
  };
  one_key = record {
    mapped = λ r k cell i at. sv.one_key.mapped r k cell (was_live r i) at;
    births = λ r k cell i at. sv.one_key.births r k cell (was_live r i) at;
    one = λ r s j k a b i i' at bt one. sv.one_key.one r s j k a b (was_live r i) (was_live s i') at bt one;
    group_mapped = λ f. absurd (cc);
    group_births = λ f. absurd (cc);
    group_apart = λ f. absurd (cc);
    group_one = λ f. absurd (cc);
  };
  cover = λ is r k cell i at. inl (only_one (λ r. r.cells k ≡ Some cell → IsTaken q.cells cell) q r (λ at. taken_self q.cells k cell at) i at);
  order = record {
    acked_live = inl refl;
    reads_live = inl refl;
    not_below = λ r i. only_one (λ r. number_of q ≤ number_of r) q r (omega arith) i;
    acked_top = high;
    reads_top = high;
    live_top = λ r i. only_one (λ r. (number_of r ≤ p.highest) ⊎ IsIn r p.missed) q r (inl high) i;
    newest_above = λ q' rest e r i. absurd (subst (IsIn r) (sym (same_rest q q' [] rest e)) i);
    given_below = λ r i. ⊎_elim (λ i. sv.order.newest_above q m.rest m.newest r (subst (λ rs. IsIn r (rest_of rs)) m.newest i))
        (λ i. ⊎_elim (λ lt. inl (below (number_of r) lt)) (λ i. inr i) (sv.order.given_below r i)) (in_append r (rest_of p.live) p.given i);
    fresh_above = λ f. absurd (cc);
    acks_below = λ r i. new_or (λ r. (r ≡ q) ⊎ (number_of r < number_of q)) q r p.acks (inl refl)
        (λ i. inr (⊎_elim (λ e. subst (λ r. number_of r < number_of q) (sym e) above_acked) (λ lt. below (number_of r) lt) (sv.order.acks_below r i))) i;
  };
  come_to = record {
    flushed_all = λ f. absurd (cc);
    begun_flushed = λ f. absurd (cc);
    tree = λ f. absurd (cc);
    contents = λ f. absurd (cc);
    newest = λ f. absurd (cc);
  };
  boards = record { reads_first = λ f. absurd (cc); first_top = λ f. absurd (cc); off_board = λ f. absurd (cc); on_board = λ f. absurd (cc) };
  logs = record {
    now = λ d is leaf. sv.logs.now d is (let e = tree_now d is leaf in omega (arith, e, leaf));
    in_records = λ r d i is leaf. sv.logs.in_records r d (was_live r i) is leaf;
    boarded = λ f. absurd (cc);
  };
  unbroken = record {
    still = sv.unbroken.still;
    newest = λ d g is held r rest e. subst (λ r. r.owes (p.guid d) g ≡ true) (same_head q r [] rest e) (sv.unbroken.newest d g is held q m.rest m.newest);
    settled_still = sv.unbroken.still;
    settled_live = λ d g is held r i. only_one (λ r. r.owes (p.guid d) g ≡ true) q r (sv.unbroken.newest d g is held q m.rest m.newest) i;
  };
  bounds = record {
    open_one = λ on. refl;
    hi_low = λ on. let le = sv.bounds.hi_low on in let lt = above_reads in omega (arith, le, lt);
    scrubbed = sv.bounds.scrubbed;
  };
  fit = λ r i. sv.fit r (was_live r i);
  pools = λ r i. sv.pools r (was_drawn r i);
  in_range = sv.in_range;
}
  where
    live : IsIn q p.live
    live = subst (IsIn q) (sym m.newest) (inl refl)

    was_live : (r : Rec) → IsIn r (q ∷ []) → IsIn r p.live
    was_live r i = only_one (λ r. IsIn r p.live) q r live i

    high : number_of q ≤ p.highest
    high = omega (arith, m.number_is)

    above_reads : number_of p.reads < number_of q
    above_reads = let lt = sv.boards.reads_first m.frozen in let le = sv.boards.first_top m.frozen in omega (arith, lt, le, m.number_is)

    above_acked : number_of p.acked < number_of q
    above_acked = let le = sv.order.not_below p.reads sv.order.reads_live in let lt = above_reads in omega (arith, le, lt)

    below : (n : ℕ) → n < number_of p.acked → n < number_of q
    below n lt = let above = above_acked in omega (arith, lt, above)

    leaf_of : (d : ℕ) (k : Key) (cell : Cell) → q.cells k ≡ Some cell → q.tops (p.guid d) ≡ cell.top → 1 ≤ q.tops (p.guid d)
    leaf_of d k cell at top = acked_leaf c p q sv m d k cell at top

    -- a leaf of the record stands in the tree of now as it did
    tree_now : (d : ℕ) → p.member d ≡ true → 1 ≤ q.tops (p.guid d) → p.in_top d ≡ q.tops (p.guid d)
    tree_now d is leaf = acked_stands c p q sv m d is leaf

    kept_needs : (d : ℕ) (t : Bool) (s : ℕ) (bytes : List ℕ) → NeedsLabel (seat p d) (cond t (p.status d) Lost) s bytes
        → NeedsLabel (seat p d) (p.status d) s bytes
    kept_needs d true s bytes n = n
    kept_needs d false s bytes n = absurd n

    acked_live : (d : ℕ) → p.member d ≡ true → (t : Bool) → takes_part q (p.guid d) ≡ t → IsOf (q ∷ []) (p.guid d) (cond t (p.status d) Lost)
    acked_live d is true takes = subst (IsOf (q ∷ []) (p.guid d)) (sym (m.all d is takes)) (inl refl, takes)
    acked_live d is false out = tt

    alone : (d s : ℕ) (bytes : List ℕ) → NeedsCell (q ∷ []) (p.guid d) s bytes → NeedsCell p.live (p.guid d) s bytes
    alone d s bytes n =
        record { r = n.r; is_live = was_live n.r n.is_live; k = n.k; cell = n.cell; cell_is = n.cell_is; in_top = n.in_top; has = n.has; at = n.at }

    still_drawn : (r : Rec) → IsIn r (p.live ++ p.given) → IsIn r (q ∷ (rest_of p.live ++ p.given))
    still_drawn r i = subst (λ rs. IsIn r (q ∷ (rest_of rs ++ p.given))) (sym m.newest) (subst (λ rs. IsIn r (rs ++ p.given)) m.newest i)

    was_drawn : (r : Rec) → IsIn r (q ∷ (rest_of p.live ++ p.given)) → IsIn r (p.live ++ p.given)
    was_drawn r i = subst (λ rs. IsIn r (rs ++ p.given)) (sym m.newest) (subst (λ rs. IsIn r (q ∷ (rest_of rs ++ p.given))) m.newest i)
