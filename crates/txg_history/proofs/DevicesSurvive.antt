-- An opening, a stop, and devices that come to the pool and go, keep the invariant.
use Rattle.std.proofs.Common.{
  ◌≡◌,
  ◌⊎◌,
  ℕ,
  ◌+◌,
  ◌≤◌,
  ◌<◌,
  ◌^◌,
  ◌==◌,
  Bool,
  true,
  false,
  cond,
  List,
  [],
  ◌++◌,
  Some,
  refl,
  sym,
  ap,
  ◌∙◌,
  subst,
  inl,
  inr,
  arith,
  ⊎_elim,
}
use Rattle.std.proofs.lemmas.Bool.Decides.{nat_tests}
use Rattle.mp_base.specs.declared.number.Guid.{Guid}
use Rattle.mp_base.specs.declared.place.Key.{Key}
use Rattle.bank_core.specs.Disk.{Sectors}
use Rattle.label_store.specs.declared.uberblock.Uberblock.{Uberblock}
use Rattle.label_store.specs.Plans.{blank_uberblock}
use Rattle.label_store.specs.Records.{place_at}
use Rattle.label_store.specs.Rounds.{uberblock_of}
use Rattle.label_store.specs.Uberblock.{IsUberblock}
use Rattle.txg_history.specs.Events.{Opens, Joins, Loses, Stops}
use Rattle.txg_history.specs.Groups.{Logs, at_device}
use Rattle.txg_history.specs.Labels.{Lost}
use Rattle.txg_history.specs.Moves.{MayJoin, MayStop}
use Rattle.txg_history.specs.Needs.{NeedsLabel, NeedsCell}
use Rattle.txg_history.specs.Pages.{Codec}
use Rattle.txg_history.specs.Pools.{Pool, drawn, seat, after, other_than, whole_log}
use Rattle.txg_history.specs.Records.{Rec, Cell, IsIn, number_of, above}
use Rattle.txg_history.specs.Survival.{Survives, IsOf, IsAmong, IsNoted, IsKnownRing, IsLog}
use Rattle.txg_history.proofs.Holding.{stop_held}
use Rattle.txg_history.proofs.Keeping.{stop_keeps}
use Rattle.txg_history.proofs.Listing.{in_first, in_second, above_or}
use Rattle.txg_history.proofs.Logging.{by_bool, true_not_false, at_here, at_away, same_device, is_between, of_between}
use Rattle.txg_history.proofs.Folding.{taken_false, other_was}
use Rattle.txg_history.proofs.Stamping.{blank_known}

-- An opening reads a live record; those above it are missed from now on.
pub opens_survive : (c : Codec) (p : Pool) (r : Rec) → Survives c p → IsIn r p.live → Survives c (after (Opens r) p)
opens_survive c p r sv live = record {
  labels = sv.labels;
  puts = λ d s bytes is n. true_not_false false n.is_frozen refl;
  cells = sv.cells;
  current = λ d s bytes is n. sv.cells d s bytes is
      (record { r = r; is_live = live; k = n.k; cell = n.cell; cell_is = n.cell_is; in_top = n.top_is; has = n.has; at = n.at });
  scanned = λ d s bytes is n. true_not_false false n.running refl;
  rings = sv.rings;
  status_live = sv.status_live;
  roomy = sv.roomy;
  placed = record { in_records = sv.placed.in_records; in_tree = λ d is. sv.placed.in_records r d live is; newest = λ f. absurd (cc) };
  one_key = record {
    mapped = sv.one_key.mapped;
    births = sv.one_key.births;
    one = sv.one_key.one;
    group_mapped = λ f. absurd (cc);
    group_births = λ f. absurd (cc);
    group_apart = λ f. absurd (cc);
    group_one = λ f. absurd (cc);
  };
  cover = λ is. absurd (cc);
  order = record {
    acked_live = sv.order.acked_live;
    reads_live = live;
    not_below = sv.order.not_below;
    acked_top = sv.order.not_below r live;
    reads_top = omega arith;
    live_top = λ q i. ⊎_elim (λ le. inl le) (λ a. inr (in_first q (above (number_of r) p.live) p.missed a)) (above_or (number_of r) q p.live i);
    newest_above = λ q rest e other i. passed (number_of other < number_of q) other (sv.order.newest_above q rest e other i);
    given_below = λ q i. passed (number_of q < number_of p.acked) q (sv.order.given_below q i);
    fresh_above = λ f. absurd (cc);
    acks_below = sv.order.acks_below;
  };
  come_to = record {
    flushed_all = λ f. absurd (cc);
    begun_flushed = λ f. absurd (cc);
    tree = λ f. absurd (cc);
    contents = λ f. absurd (cc);
    newest = λ f. absurd (cc);
  };
  boards = record { reads_first = λ f. absurd (cc); first_top = λ f. absurd (cc); off_board = λ f. absurd (cc); on_board = λ f. absurd (cc) };
  logs = record { now = λ d is leaf. sv.logs.in_records r d live is leaf; in_records = sv.logs.in_records; boarded = λ f. absurd (cc) };
  unbroken = record {
    still = λ d g is held. absurd (cc);
    newest = λ d g is held. absurd
        (cc);
    settled_still = λ d g is held. absurd (cc);
    settled_live = λ d g is held. absurd (cc);
  };
  bounds = record { open_one = λ on. absurd (cc); hi_low = λ on. absurd (cc); scrubbed = λ on. absurd (cc) };
  fit = sv.fit;
  pools = sv.pools;
  in_range = sv.in_range;
}
  where
    passed : (A : Type 0) (q : Rec) → A ⊎ IsIn q p.missed → A ⊎ IsIn q (above (number_of r) p.live ++ p.missed)
    passed A q (inl a) = inl a
    passed A q (inr i) = inr (in_second q (above (number_of r) p.live) p.missed i)

-- The pool loses a device.
pub loses_survive : (c : Codec) (p : Pool) (d : ℕ) → Survives c p → Survives c (after (Loses d) p)
loses_survive c p d sv = record {
  labels = λ e s bytes is n. sv.labels e s bytes (was e is) (label_was e s bytes n);
  puts = λ e s bytes is n. sv.puts e s bytes (was e is) n;
  cells = λ e s bytes is n. sv.cells e s bytes (was e is) n;
  current = λ e s bytes is n. sv.current e s bytes (was e is) n;
  scanned = λ e s bytes is n. sv.scanned e s bytes (was e is) n;
  rings = λ e place is inside. sv.rings e place (was e is) inside;
  status_live = λ e is. by_bool (d == e) (λ here. subst (IsOf p.live (p.guid e)) (sym (at_here d e Lost p.status here)) tt)
      (λ away. subst (IsOf p.live (p.guid e)) (sym (at_away d e Lost p.status away)) (sv.status_live e (was e is)));
  roomy = record {
    sizes = λ e is. sv.roomy.sizes e (was e is);
    rooms = λ e is. sv.roomy.rooms e (was e is);
    guids = λ e is. sv.roomy.guids e (was e is);
    no_top = sv.roomy.no_top;
  };
  placed = record {
    in_records = λ r e i is. sv.placed.in_records r e i (was e is);
    in_tree = λ e is. sv.placed.in_tree e (was e is);
    newest = λ f b q rest e newest is. sv.placed.newest f b q rest e newest (was e is);
  };
  one_key = sv.one_key;
  cover = sv.cover;
  order = sv.order;
  come_to = sv.come_to;
  boards = record {
    reads_first = sv.boards.reads_first;
    first_top = sv.boards.first_top;
    off_board = λ f e g is out low high. sv.boards.off_board f e g (was e is) out low high;
    on_board = λ f e g is on low high. sv.boards.on_board f e g (was e is) on low high;
  };
  logs = record {
    now = λ e is leaf. sv.logs.now e (was e is) leaf;
    in_records = λ r e i is leaf. sv.logs.in_records r e i (was e is) leaf;
    boarded = λ f e is on. sv.logs.boarded f e (was e is) on;
  };
  unbroken = record {
    still = λ e g is held. sv.unbroken.still e g (was e is) held;
    newest = λ e g is held q rest newest. sv.unbroken.newest e g (was e is) held q rest newest;
    settled_still = λ e g is held. sv.unbroken.settled_still e g (was e is) held;
    settled_live = λ e g is held r i. sv.unbroken.settled_live e g (was e is) held r i;
  };
  bounds = sv.bounds;
  fit = sv.fit;
  pools = sv.pools;
  in_range = sv.in_range;
}
  where
    was : (e : ℕ) → at_device d false p.member e ≡ true → p.member e ≡ true
    was e is = taken_false d e p.member is

    label_was : (e s : ℕ) (bytes : List ℕ) → NeedsLabel (seat p e) (at_device d Lost p.status e) s bytes → NeedsLabel (seat p e) (p.status e) s bytes
    label_was e s bytes n = by_test (d == e) n
      where
        by_test : (t : Bool) → NeedsLabel (seat p e) (cond t Lost (p.status e)) s bytes → NeedsLabel (seat p e) (p.status e) s bytes
        by_test true n = absurd n
        by_test false n = n

-- a member's device has the same size in the next run
size_stays : (p : Pool) (size : ℕ → ℕ) (d : ℕ) → p.member d ≡ true → cond (p.member d) (p.size d) (size d) ≡ p.size d
size_stays p size d is = rw is refl

-- A stop: what was clean is as it was, and no ring shows what was never written there. The members' devices keep their sizes.
pub stops_survive : (c : Codec) (p : Pool) (sectors : Sectors) (size : ℕ → ℕ) → Survives c p → MayStop p sectors → Survives c (after (Stops sectors size) p)
stops_survive c p sectors size sv m = record {
  labels = λ d s bytes is n. stop_held (p.sectors d s) (sectors d s) bytes (m.still d s is) (m.shows d s is) (m.damage d s is) (sv.labels d s bytes is n);
  puts = λ d s bytes is n. true_not_false false n.is_frozen refl;
  cells = λ d s bytes is n. stop_keeps (p.sectors d s) (sectors d s) bytes (m.still d s is) (m.shows d s is) (m.damage d s is) (sv.cells d s bytes is n);
  current = λ d s bytes is n. stop_keeps (p.sectors d s) (sectors d s) bytes (m.still d s is) (m.shows d s is) (m.damage d s is) (sv.current d s bytes is n);
  scanned = λ d s bytes is n. true_not_false false n.running refl;
  rings = λ d place is inside. subst (λ n. IsKnownRing (drawn p) p.pool (seat p d) (sectors d (place_at n place)) []) (sym (size_stays p size d is)) (record {
    stable = λ u right. shown d (place_at (p.size d) place) u right (sv.rings d place is inside) (m.unforged d place u is inside right);
    written = λ bytes none. absurd none;
    pending = subst (λ x. IsNoted x []) (sym (m.still d _ is)) tt;
  });
  status_live = sv.status_live;
  roomy = record {
    sizes = λ d is. subst (λ n. 320 ≤ n) (sym (size_stays p size d is)) (sv.roomy.sizes d is);
    rooms = λ d is. subst (λ n. p.room (p.home d) + 256 ≤ n) (sym (size_stays p size d is)) (sv.roomy.rooms d is);
    guids = sv.roomy.guids;
    no_top = sv.roomy.no_top;
  };
  placed = record { in_records = sv.placed.in_records; in_tree = sv.placed.in_tree; newest = λ f. absurd (cc) };
  one_key = record {
    mapped = sv.one_key.mapped;
    births = sv.one_key.births;
    one = sv.one_key.one;
    group_mapped = λ f. absurd (cc);
    group_births = λ f. absurd (cc);
    group_apart = λ f. absurd (cc);
    group_one = λ f. absurd (cc);
  };
  cover = λ is. absurd (cc);
  order = record {
    acked_live = sv.order.acked_live;
    reads_live = sv.order.reads_live;
    not_below = sv.order.not_below;
    acked_top = sv.order.acked_top;
    reads_top = sv.order.reads_top;
    live_top = sv.order.live_top;
    newest_above = sv.order.newest_above;
    given_below = sv.order.given_below;
    fresh_above = λ f. absurd (cc);
    acks_below = sv.order.acks_below;
  };
  come_to = record {
    flushed_all = λ f. absurd (cc);
    begun_flushed = λ f. absurd (cc);
    tree = λ f. absurd (cc);
    contents = λ f. absurd (cc);
    newest = λ f. absurd (cc);
  };
  boards = record { reads_first = λ f. absurd (cc); first_top = λ f. absurd (cc); off_board = λ f. absurd (cc); on_board = λ f. absurd (cc) };
  logs = record { now = sv.logs.now; in_records = sv.logs.in_records; boarded = λ f. absurd (cc) };
  unbroken = sv.unbroken;
  bounds = record { open_one = λ on. absurd (cc); hi_low = λ on. absurd (cc); scrubbed = λ on. absurd (cc) };
  fit = sv.fit;
  pools = sv.pools;
  in_range = sv.in_range;
}
  where
    shown : (d s : ℕ) (u : Uberblock) → IsUberblock u (sectors d s).stable → IsKnownRing (drawn p) p.pool (seat p d) (p.sectors d s) (p.since d s)
        → ((sectors d s).stable ≡ (p.sectors d s).stable) ⊎ IsAmong (sectors d s).stable (p.since d s)
        → ((r : Rec) × IsIn r (drawn p) × (u ≡ uberblock_of r.commit (seat p d))) ⊎ (u ≡ blank_uberblock p.pool (p.guid d))
    shown d s u right ring (inl e) = ring.stable u (subst (IsUberblock u) e right)
    shown d s u right ring (inr among) = ring.written (sectors d s).stable among u right

-- A device is brought in: nothing is needed of it, since no live record knows its number and its log has each group.
pub joins_survive : (c : Codec) (p : Pool) (d : ℕ) (m : Guid) (top : ℕ) → Survives c p → MayJoin p d m top → Survives c (after (Joins d m top) p)
joins_survive c p d m top sv may = record {
  labels = λ e s bytes is n. split e is
      (λ here. absurd (subst (λ st. NeedsLabel (seat q e) st s bytes) (at_here d e Lost p.status here) n))
      (λ away was. sv.labels e s bytes was (subst (λ g. NeedsLabel (record { dev = e; guid = g }) (p.status e) s bytes) (at_away d e m p.guid away)
      (subst (λ st. NeedsLabel (seat q e) st s bytes) (at_away d e Lost p.status away) n)));
  puts = λ e s bytes is n. split e is
      (λ here. true_not_false (at_device d false p.group.board e) n.on_board (at_here d e false p.group.board here))
      (λ away was. sv.puts e s bytes was (record {
        is_frozen = n.is_frozen;
        on_board = sym (at_away d e false p.group.board away) ∙ n.on_board;
        k = n.k;
        cell = n.cell;
        cell_is = n.cell_is;
        top_is = sym (at_away d e top p.in_top away) ∙ n.top_is;
        ended = n.ended;
        at = n.at;
      }));
  cells = λ e s bytes is n. split e is
      (λ here. true_not_false (n.r.owes (q.guid e) n.cell.birth) (unknown e here n.r n.is_live n.cell.birth) n.has)
      (λ away was. sv.cells e s bytes was (subst (λ g. NeedsCell p.live g s bytes) (at_away d e m p.guid away) n));
  current = λ e s bytes is n. split e is
      (λ here. true_not_false (q.owes e n.cell.birth) (ap (λ log. log n.cell.birth)
      (at_here d e (whole_log p.highest) p.owes here) ∙ held n.k n.cell n.cell_is) n.has)
      (λ away was. sv.current e s bytes was (record {
        k = n.k;
        cell = n.cell;
        cell_is = n.cell_is;
        top_is = sym (at_away d e top p.in_top away) ∙ n.top_is;
        has = sym (ap (λ log. log n.cell.birth) (at_away d e (whole_log p.highest) p.owes away)) ∙ n.has;
        at = n.at;
      }));
  scanned = λ e s bytes is n. split e is
      (λ here. true_not_false (at_device d false p.scan.eligible e) n.is_eligible (at_here d e false p.scan.eligible here))
      (λ away was. sv.scanned e s bytes was (record {
        running = n.running;
        is_eligible = sym (at_away d e false p.scan.eligible away) ∙ n.is_eligible;
        k = n.k;
        cell = n.cell;
        cell_is = n.cell_is;
        top_is = sym (at_away d e top p.in_top away) ∙ n.top_is;
        is_passed = n.is_passed;
        low = n.low;
        not_scrubbed = n.not_scrubbed;
        at = n.at;
      }));
  rings = λ e place is inside. split e is
      (λ here. subst (λ e. IsKnownRing (drawn p) p.pool (seat q e) (p.sectors e (place_at (p.size e) place))
      (q.since e (place_at (p.size e) place))) (same_device d e here)
      (new_ring place inside))
      (λ away was. subst (λ g. IsKnownRing (drawn p) p.pool (record { dev = e; guid = g })
      (p.sectors e (place_at (p.size e) place)) (q.since e (place_at (p.size e) place)))
      (sym (at_away d e m p.guid away))
      (subst (λ f. IsKnownRing (drawn p) p.pool (seat p e) (p.sectors e (place_at (p.size e) place)) (f (place_at (p.size e) place)))
      (sym (at_away d e (λ s. []) p.since away)) (sv.rings e place was inside)));
  status_live = λ e is. split e is
      (λ here. subst (IsOf p.live (q.guid e)) (sym (at_here d e Lost p.status here)) tt)
      (λ away was. subst (IsOf p.live (q.guid e)) (sym (at_away d e Lost p.status away))
      (subst (λ g. IsOf p.live g (p.status e)) (sym (at_away d e m p.guid away)) (sv.status_live e was)));
  roomy = record {
    sizes = λ e is. split e is (λ here. subst (λ e. 320 ≤ p.size e) (same_device d e here) may.big) (λ away was. sv.roomy.sizes e was);
    rooms = λ e is. split e is
        (λ here. subst (λ t. p.room t + 256 ≤ p.size e) (sym (at_here d e top p.home here))
        (subst (λ e. p.room top + 256 ≤ p.size e) (same_device d e here) may.rooms))
        (λ away was. subst (λ t. p.room t + 256 ≤ p.size e) (sym (at_away d e top p.home away)) (sv.roomy.rooms e was));
    guids = λ e is. split e is
        (λ here. subst (λ g. g.0 < 2 ^ 64) (sym (at_here d e m p.guid here)) may.in_range)
        (λ away was. subst (λ g. g.0 < 2 ^ 64) (sym (at_away d e m p.guid away)) (sv.roomy.guids e was));
    no_top = sv.roomy.no_top;
  };
  placed = record {
    in_records = λ r e i is. split e is
        (λ here. inl (ap r.tops (at_here d e m p.guid here) ∙ (may.unknown r i).no_top))
        (λ away was. subst (λ t. (r.tops (q.guid e) ≡ 0) ⊎ (r.tops (q.guid e) ≡ t)) (sym (at_away d e top p.home away))
        (subst (λ g. (r.tops g ≡ 0) ⊎ (r.tops g ≡ p.home e)) (sym (at_away d e m p.guid away)) (sv.placed.in_records r e i was)));
    in_tree = λ e is. split e is
        (λ here. inr (at_here d e top p.in_top here ∙ sym (at_here d e top p.home here)))
        (λ away was. subst (λ t. (t ≡ 0) ⊎ (t ≡ q.home e)) (sym (at_away d e top p.in_top away))
        (subst (λ t. (p.in_top e ≡ 0) ⊎ (p.in_top e ≡ t)) (sym (at_away d e top p.home away)) (sv.placed.in_tree e was)));
    newest = λ f b r rest e newest is. split e is
        (λ here. inr (ap r.tops (at_here d e m p.guid here) ∙ (may.unknown r (subst (IsIn r) (sym newest) (inl refl))).no_top))
        (λ away was. subst (λ t. (r.tops (q.guid e) ≡ t) ⊎ (r.tops (q.guid e) ≡ 0)) (sym (at_away d e top p.in_top away))
        (subst (λ g. (r.tops g ≡ p.in_top e) ⊎ (r.tops g ≡ 0)) (sym (at_away d e m p.guid away)) (sv.placed.newest f b r rest e newest was)));
  };
  one_key = sv.one_key;
  cover = sv.cover;
  order = sv.order;
  come_to = sv.come_to;
  boards = record {
    reads_first = sv.boards.reads_first;
    first_top = sv.boards.first_top;
    off_board = λ f e g is out low high. split e is
        (λ here. ap (λ log. log g) (at_here d e (whole_log p.highest) p.owes here)
        ∙ is_between 1 p.highest g (let above = sv.boards.reads_first f in omega (arith, above, low)) high)
        (λ away was. ap (λ log. log g) (at_away d e (whole_log p.highest) p.owes away)
        ∙ sv.boards.off_board f e g was (sym (at_away d e false p.group.board away) ∙ out) low high);
    on_board = λ f e g is on low high. split e is
        (λ here. true_not_false (at_device d false p.group.board e) on (at_here d e false p.group.board here))
        (λ away was. ap (λ log. log g) (at_away d e (whole_log p.highest) p.owes away)
        ∙ sv.boards.on_board f e g was (sym (at_away d e false p.group.board away) ∙ on) low high);
  };
  logs = record {
    now = λ e is leaf. split e is
        (λ here. λ g has. of_between 1 p.highest g (sym (ap (λ log. log g) (at_here d e (whole_log p.highest) p.owes here)) ∙ has))
        (λ away was. λ g has. sv.logs.now e was (subst (λ t. 1 ≤ t) (at_away d e top p.in_top away) leaf) g
        (sym (ap (λ log. log g) (at_away d e (whole_log p.highest) p.owes away)) ∙ has));
    in_records = λ r e i is leaf. split e is
        (λ here. absurd (let none = ap r.tops (at_here d e m p.guid here) ∙ (may.unknown r i).no_top in omega (arith, leaf, none)))
        (λ away was. subst (λ g. IsLog (number_of r) (r.owes g)) (sym (at_away d e m p.guid away))
        (sv.logs.in_records r e i was (subst (λ g. 1 ≤ r.tops g) (at_away d e m p.guid away) leaf)));
    boarded = λ f e is on. split e is
        (λ here. true_not_false (at_device d false p.group.board e) on (at_here d e false p.group.board here))
        (λ away was. subst (λ t. 1 ≤ t) (sym (at_away d e top p.in_top away)) (sv.logs.boarded f e was (sym (at_away d e false p.group.board away) ∙ on)));
  };
  unbroken = record {
    still = λ e g is held. in_log p.unbroken e g is (λ was. sv.unbroken.still e g was) held;
    newest = λ e g is held r rest newest. split e is
        (λ here. ap (λ n. r.owes n g) (at_here d e m p.guid here) ∙ (may.unknown r (subst (IsIn r) (sym newest) (inl refl))).all g)
        (λ away was. ap (λ n. r.owes n g) (at_away d e m p.guid away)
        ∙ sv.unbroken.newest e g was (sym (ap (λ log. log g) (at_away d e (whole_log p.highest) p.unbroken away)) ∙ held) r rest newest);
    settled_still = λ e g is held. in_log p.settled e g is (λ was. sv.unbroken.settled_still e g was) held;
    settled_live = λ e g is held r i. split e is
        (λ here. ap (λ n. r.owes n g) (at_here d e m p.guid here) ∙ (may.unknown r i).all g)
        (λ away was. ap (λ n. r.owes n g) (at_away d e m p.guid away)
        ∙ sv.unbroken.settled_live e g was (sym (ap (λ log. log g) (at_away d e (whole_log p.highest) p.settled away)) ∙ held) r i);
  };
  bounds = record { open_one = sv.bounds.open_one; hi_low = sv.bounds.hi_low; scrubbed = sv.bounds.scrubbed };
  fit = sv.fit;
  pools = sv.pools;
  in_range = sv.in_range;
}
  where
    q : Pool
    q = after (Joins d m top) p

    -- it is the new device, or one that was a member before
    split : {A : Type 0} (e : ℕ) → q.member e ≡ true → ((d == e) ≡ true → A) → ((d == e) ≡ false → p.member e ≡ true → A) → A
    split e is here away = by_bool (d == e) here
        (λ off. away off (other_was m p.guid p.member e (sym (at_away d e true (other_than m p.guid p.member) off) ∙ is)))

    unknown : (e : ℕ) → (d == e) ≡ true → (r : Rec) → IsIn r p.live → (g : ℕ) → r.owes (q.guid e) g ≡ true
    unknown e here r i g = ap (λ n. r.owes n g) (at_here d e m p.guid here) ∙ (may.unknown r i).all g

    held : (k : Key) (cell : Cell) → p.reads.cells k ≡ Some cell → whole_log p.highest cell.birth ≡ true
    held k cell at =
        let born = (sv.one_key.mapped p.reads k cell sv.order.reads_live at).born in
        let low = sv.one_key.births p.reads k cell sv.order.reads_live at in
        let high = sv.order.reads_top in is_between 1 p.highest cell.birth born (omega (arith, low, high))

    in_log : (logs : Logs) (e g : ℕ) → q.member e ≡ true → (p.member e ≡ true → logs e g ≡ true → p.owes e g ≡ true)
        → at_device d (whole_log p.highest) logs e g ≡ true → at_device d (whole_log p.highest) p.owes e g ≡ true
    in_log logs e g is more has = split e is
        (λ here. ap (λ log. log g) (at_here d e (whole_log p.highest) p.owes here)
        ∙ (sym (ap (λ log. log g) (at_here d e (whole_log p.highest) logs here)) ∙ has))
        (λ away was. ap (λ log. log g) (at_away d e (whole_log p.highest) p.owes away)
        ∙ more was (sym (ap (λ log. log g) (at_away d e (whole_log p.highest) logs away)) ∙ has))

    same_d : (d == d) ≡ true
    same_d = grind (arith, nat_tests)

    new_ring : (place : ℕ) → place < 128 → IsKnownRing (drawn p) p.pool (seat q d)
        (p.sectors d (place_at (p.size d) place)) (q.since d (place_at (p.size d) place))
    new_ring place inside =
        subst (λ g. IsKnownRing (drawn p) p.pool (record { dev = d; guid = g })
        (p.sectors d (place_at (p.size d) place)) (q.since d (place_at (p.size d) place)))
        (sym (at_here d d m p.guid same_d))
        (subst (λ f. IsKnownRing (drawn p) p.pool (record { dev = d; guid = m }) (p.sectors d (place_at (p.size d) place)) (f (place_at (p.size d) place)))
        (sym (at_here d d (λ s. []) p.since same_d))
        (blank_known (drawn p) p.pool (record { dev = d; guid = m })
        (p.sectors d (place_at (p.size d) place)) sv.in_range may.in_range (may.rings place inside)))
