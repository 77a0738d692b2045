-- The invariant goes by devices one by one, so it holds under other numbers too.
use Rattle.std.proofs.Common.{◌≡◌, ℕ, ◌+◌, Bool, refl, ap, ◌∙◌}
use Rattle.txg_history.specs.Numbering.{renumbered, AreOnePool}
use Rattle.txg_history.specs.Pages.{Codec}
use Rattle.txg_history.specs.Pools.{Pool}
use Rattle.txg_history.specs.Premises.{HoldsLabels, HasGoodLeaf}
use Rattle.txg_history.specs.Records.{Rec, Cell, data_start}
use Rattle.txg_history.specs.Survival.{Survives}
use Rattle.txg_history.specs.Tracking.{HasPromise}

pub renumbered_survives : (c : Codec) (p : Pool) (was : ℕ → ℕ) → Survives c p → Survives c (renumbered was p)
renumbered_survives c p was sv = record {
  labels = λ d s bytes is n. sv.labels (was d) s bytes is n;
  puts = λ d s bytes is n. sv.puts (was d) s bytes is (record {
    is_frozen = n.is_frozen;
    on_board = n.on_board;
    k = n.k;
    cell = n.cell;
    cell_is = n.cell_is;
    top_is = n.top_is;
    ended = n.ended;
    at = n.at;
  });
  cells = λ d s bytes is n. sv.cells (was d) s bytes is n;
  current = λ d s bytes is n. sv.current (was d) s bytes is (record { k = n.k; cell = n.cell; cell_is = n.cell_is; top_is = n.top_is; has = n.has; at = n.at });
  scanned = λ d s bytes is n. sv.scanned (was d) s bytes is (record {
    running = n.running;
    is_eligible = n.is_eligible;
    k = n.k;
    cell = n.cell;
    cell_is = n.cell_is;
    top_is = n.top_is;
    is_passed = n.is_passed;
    low = n.low;
    not_scrubbed = n.not_scrubbed;
    at = n.at;
  });
  rings = λ d place is inside. let ring = sv.rings (was d) place is inside in record { stable = ring.stable; written = ring.written; pending = ring.pending };
  status_live = λ d is. sv.status_live (was d) is;
  roomy = record {
    sizes = λ d is. sv.roomy.sizes (was d) is;
    rooms = λ d is. sv.roomy.rooms (was d) is;
    guids = λ d is. sv.roomy.guids (was d) is;
    no_top = sv.roomy.no_top;
  };
  placed = record {
    in_records = λ r d i is. sv.placed.in_records r (was d) i is;
    in_tree = λ d is. sv.placed.in_tree (was d) is;
    newest = λ f b q rest d e is. sv.placed.newest f b q rest (was d) e is;
  };
  one_key = sv.one_key;
  cover = sv.cover;
  order = sv.order;
  come_to = sv.come_to;
  boards = record {
    reads_first = sv.boards.reads_first;
    first_top = sv.boards.first_top;
    off_board = λ f d g is out low high. sv.boards.off_board f (was d) g is out low high;
    on_board = λ f d g is on low high. sv.boards.on_board f (was d) g is on low high;
  };
  logs = record {
    now = λ d is leaf. sv.logs.now (was d) is leaf;
    in_records = λ r d i is leaf. sv.logs.in_records r (was d) i is leaf;
    boarded = λ f d is on. sv.logs.boarded f (was d) is on;
  };
  unbroken = record {
    still = λ d g is held. sv.unbroken.still (was d) g is held;
    newest = λ d g is held q rest e. sv.unbroken.newest (was d) g is held q rest e;
    settled_still = λ d g is held. sv.unbroken.settled_still (was d) g is held;
    settled_live = λ d g is held r i. sv.unbroken.settled_live (was d) g is held r i;
  };
  bounds = record { open_one = sv.bounds.open_one; hi_low = sv.bounds.hi_low; scrubbed = λ on d g has. sv.bounds.scrubbed on (was d) g has };
  fit = sv.fit;
  pools = sv.pools;
  in_range = sv.in_range;
}

pub renumbered_one : (p : Pool) (was : ℕ → ℕ) → AreOnePool p (renumbered was p)
renumbered_one p was = record {
  name = refl;
  pool = refl;
  room = refl;
  acked = refl;
  acks = refl;
  live = refl;
  given = refl;
  missed = refl;
  reads = refl;
  opened = refl;
  written = refl;
  highest = refl;
  frozen = refl;
  first = refl;
  cells = refl;
  content = refl;
  done = refl;
  flushed = refl;
  fresh = refl;
  begun = refl;
  pinned = refl;
  running = refl;
  hi = refl;
  passed = refl;
}

pub renumbered_promises : (p : Pool) (was : ℕ → ℕ) (d : ℕ) → HasPromise p (was d) → HasPromise (renumbered was p) d
renumbered_promises p was d has = record { is_member = has.is_member; promised = has.promised; status_is = has.status_is }

pub renumbered_holds : (p : Pool) (was : ℕ → ℕ) (d : ℕ) (r : Rec) → HoldsLabels p (was d) r → HoldsLabels (renumbered was p) d r
renumbered_holds p was d r holds = record { is_live = holds.is_live; takes = holds.takes; ring = λ s bytes is. holds.ring s bytes is; part = holds.part }

-- A leaf that has a page has it under its new number.
pub renumbered_good : (p : Pool) (was : ℕ → ℕ) (r : Rec) (cell : Cell) (answering : ℕ → Bool) → (good : HasGoodLeaf p r cell answering)
    → (d : ℕ) → was d ≡ good.d → HasGoodLeaf (renumbered was p) r cell (λ e. answering (was e))
renumbered_good p was r cell answering good d is = record {
  d = d;
  is_member = ap p.member is ∙ good.is_member;
  top_is = ap (λ e. r.tops (p.guid e)) is ∙ good.top_is;
  has = ap (λ e. r.owes (p.guid e) cell.birth) is ∙ good.has;
  unhurt = ap (λ e. (p.sectors e (data_start + cell.sector)).damaged) is ∙ good.unhurt;
  answers = ap answering is ∙ good.answers;
}
