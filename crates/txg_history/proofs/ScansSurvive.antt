-- The moves of a scan keep the invariant.
use Rattle.std.proofs.Common.{◌≡◌, ◌⊎◌, ℕ, ◌+◌, ◌≤◌, ◌<◌, ◌==◌, nat_le, Bool, true, false, cond, List, Some, refl, sym, ap, ◌∙◌, subst, inl, inr, arith, ⊎_elim}
use Rattle.std.proofs.lemmas.Bool.{and_parts}
use Rattle.std.proofs.lemmas.Bool.Decides.{nat_tests}
use Rattle.mp_base.specs.declared.place.Key.{Key}
use Rattle.txg_history.specs.Events.{Scans, Passes, Drops, Clears, Rests}
use Rattle.txg_history.specs.Groups.{Logs, at_device}
use Rattle.txg_history.specs.Moves.{WasCopied, MayScan, MayPass, MayClear}
use Rattle.txg_history.specs.Needs.{Keeps, Copied, IsAt}
use Rattle.txg_history.specs.Pages.{Codec}
use Rattle.txg_history.specs.Pools.{Pool, after, kept_in}
use Rattle.txg_history.specs.Records.{Cell, number_of, data_start, above}
use Rattle.txg_history.specs.Scans.{scanned_log}
use Rattle.txg_history.specs.Survival.{Survives}
use Rattle.txg_history.proofs.Listing.{same_cell}
use Rattle.txg_history.proofs.Logging.{by_bool, true_not_false, not_true, at_here, at_away, same_device}

-- A scan starts: nothing was passed yet.
pub scans_survive : (c : Codec) (p : Pool) (hi : ℕ) (eligible : ℕ → Bool) → Survives c p → MayScan p hi → Survives c (after (Scans hi eligible) p)
scans_survive c p hi eligible sv m = record {
  labels = sv.labels;
  puts = sv.puts;
  cells = sv.cells;
  current = sv.current;
  scanned = λ d s bytes is n. true_not_false false n.is_passed refl;
  rings = sv.rings;
  status_live = sv.status_live;
  roomy = sv.roomy;
  placed = sv.placed;
  one_key = sv.one_key;
  cover = sv.cover;
  order = sv.order;
  come_to = sv.come_to;
  boards = sv.boards;
  logs = sv.logs;
  unbroken = sv.unbroken;
  bounds = record { open_one = λ on. m.opened; hi_low = λ on. m.hi_low; scrubbed = λ on d g has. absurd (cc) };
  fit = sv.fit;
  pools = sv.pools;
  in_range = sv.in_range;
}

-- It comes past a key.
pub passes_survive : (c : Codec) (p : Pool) (k : Key) (scrub : Logs) → Survives c p → MayPass p k scrub → Survives c (after (Passes k scrub) p)
passes_survive c p k scrub sv m = record {
  labels = sv.labels;
  puts = sv.puts;
  cells = sv.cells;
  current = sv.current;
  scanned = λ d s bytes is n. by_bool (p.scan.passed n.k)
      (λ old. sv.scanned d s bytes is (record {
        running = n.running;
        is_eligible = n.is_eligible;
        k = n.k;
        cell = n.cell;
        cell_is = n.cell_is;
        top_is = n.top_is;
        is_passed = old;
        low = n.low;
        not_scrubbed = not_true (p.scan.scrub d n.cell.birth) (λ has. true_not_false (scrub d n.cell.birth) (m.more d n.cell.birth has) n.not_scrubbed);
        at = n.at;
      }))
      (λ new. at_sector d s bytes n.cell n.at (here d is n.is_eligible n.k n.cell n.cell_is n.top_is n.not_scrubbed
      (m.next n.k n.cell n.is_passed new n.cell_is n.low)));
  rings = sv.rings;
  status_live = sv.status_live;
  roomy = sv.roomy;
  placed = sv.placed;
  one_key = sv.one_key;
  cover = sv.cover;
  order = sv.order;
  come_to = sv.come_to;
  boards = sv.boards;
  logs = sv.logs;
  unbroken = sv.unbroken;
  bounds = record {
    open_one = sv.bounds.open_one;
    hi_low = sv.bounds.hi_low;
    scrubbed = λ on d g has. ⊎_elim (λ old. sv.bounds.scrubbed on d g old)
        (λ new. let born = (sv.one_key.mapped p.reads k m.cell sv.order.reads_live m.cell_is).born in
        (omega (arith, born, new), omega (arith, m.low, new))) (m.only d g has);
  };
  fit = sv.fit;
  pools = sv.pools;
  in_range = sv.in_range;
}
  where
    at_sector : (d s : ℕ) (bytes : List ℕ) (cell : Cell) → IsAt cell s bytes → Copied
        (p.sectors d (data_start + cell.sector)) cell.block → Copied (p.sectors d s) bytes
    at_sector d s bytes cell at copied =
        subst (λ t. Copied (p.sectors d t) bytes) (sym at.sector_is) (subst (λ b. Copied (p.sectors d (data_start + cell.sector)) b) (sym at.bytes_are) copied)

    here : (d : ℕ) → p.member d ≡ true → p.scan.eligible d ≡ true → (j : Key) (cell : Cell)
        → p.reads.cells j ≡ Some cell → p.in_top d ≡ cell.top → scrub d cell.birth ≡ false → j ≡ k
        → Copied (p.sectors d (data_start + cell.sector)) cell.block
    here d is on j cell at top clean same = subst (λ cell. Copied (p.sectors d (data_start + cell.sector)) cell.block) one
        (of (m.each d is on (top ∙ ap (λ cell. cell.top) (sym one))))
      where
        one : m.cell ≡ cell
        one = same_cell m.cell cell (sym m.cell_is ∙ (sym (ap p.reads.cells same) ∙ at))

        birth : m.cell.birth ≡ cell.birth
        birth = ap (λ cell. cell.birth) one

        of : (p.owes d m.cell.birth ≡ false) ⊎ ((scrub d m.cell.birth ≡ true) ⊎ WasCopied p d m.cell)
            → Copied (p.sectors d (data_start + m.cell.sector)) m.cell.block
        of (inl lacks) = inl (sv.current d (data_start + m.cell.sector) m.cell.block is (record {
          k = k;
          cell = m.cell;
          cell_is = m.cell_is;
          top_is = top ∙ ap (λ cell. cell.top) (sym one);
          has = lacks;
          at = record { sector_is = refl; bytes_are = refl };
        }))
        of (inr (inl failed)) = true_not_false (scrub d m.cell.birth) failed (ap (scrub d) birth ∙ clean)
        of (inr (inr copied)) = copied.is_copied

-- A leaf is no longer eligible.
pub drops_survive : (c : Codec) (p : Pool) (d : ℕ) → Survives c p → Survives c (after (Drops d) p)
drops_survive c p d sv = record {
  labels = sv.labels;
  puts = sv.puts;
  cells = sv.cells;
  current = sv.current;
  scanned = λ e s bytes is n. by_bool (d == e)
      (λ here. true_not_false (at_device d false p.scan.eligible e) n.is_eligible (at_here d e false p.scan.eligible here))
      (λ away. sv.scanned e s bytes is (record {
        running = n.running;
        is_eligible = sym (at_away d e false p.scan.eligible away) ∙ n.is_eligible;
        k = n.k;
        cell = n.cell;
        cell_is = n.cell_is;
        top_is = n.top_is;
        is_passed = n.is_passed;
        low = n.low;
        not_scrubbed = n.not_scrubbed;
        at = n.at;
      }));
  rings = sv.rings;
  status_live = sv.status_live;
  roomy = sv.roomy;
  placed = sv.placed;
  one_key = sv.one_key;
  cover = sv.cover;
  order = sv.order;
  come_to = sv.come_to;
  boards = sv.boards;
  logs = sv.logs;
  unbroken = sv.unbroken;
  bounds = record { open_one = sv.bounds.open_one; hi_low = sv.bounds.hi_low; scrubbed = sv.bounds.scrubbed };
  fit = sv.fit;
  pools = sv.pools;
  in_range = sv.in_range;
}

-- It ends, or is stopped.
pub rests_survive : (c : Codec) (p : Pool) → Survives c p → Survives c (after Rests p)
rests_survive c p sv = record {
  labels = sv.labels;
  puts = sv.puts;
  cells = sv.cells;
  current = sv.current;
  scanned = λ d s bytes is n. true_not_false false n.running refl;
  rings = sv.rings;
  status_live = sv.status_live;
  roomy = sv.roomy;
  placed = sv.placed;
  one_key = sv.one_key;
  cover = sv.cover;
  order = sv.order;
  come_to = sv.come_to;
  boards = sv.boards;
  logs = sv.logs;
  unbroken = sv.unbroken;
  bounds = record { open_one = λ on. absurd (cc); hi_low = λ on. absurd (cc); scrubbed = λ on. absurd (cc) };
  fit = sv.fit;
  pools = sv.pools;
  in_range = sv.in_range;
}

-- A leaf's log is cleared of what the scan brought to it.
pub clears_survive : (c : Codec) (p : Pool) (d : ℕ) → Survives c p → MayClear p d → Survives c (after (Clears d) p)
clears_survive c p d sv m = record {
  labels = sv.labels;
  puts = sv.puts;
  cells = sv.cells;
  current = λ e s bytes is n. by_bool (d == e)
      (λ here. subst (λ e. p.member e ≡ true → p.in_top e ≡ n.cell.top → scanned_log p.scan d
      (p.owes d) n.cell.birth ≡ false → Keeps (p.sectors e s) bytes) (same_device d e here)
      (λ is top has. kept s bytes is n.k n.cell n.cell_is top n.at has) is n.top_is
      (sym (ap (λ log. log n.cell.birth) (at_here d e (scanned_log p.scan d (p.owes d)) p.owes here)) ∙ n.has))
      (λ away. sv.current e s bytes is (record {
        k = n.k;
        cell = n.cell;
        cell_is = n.cell_is;
        top_is = n.top_is;
        has = sym (ap (λ log. log n.cell.birth) (at_away d e (scanned_log p.scan d (p.owes d)) p.owes away)) ∙ n.has;
        at = n.at;
      }));
  scanned = sv.scanned;
  rings = sv.rings;
  status_live = sv.status_live;
  roomy = sv.roomy;
  placed = sv.placed;
  one_key = sv.one_key;
  cover = sv.cover;
  order = sv.order;
  come_to = sv.come_to;
  boards = record {
    reads_first = sv.boards.reads_first;
    first_top = sv.boards.first_top;
    off_board = λ f e g is out low high. above_hi e g (sv.boards.reads_first f) low ∙ sv.boards.off_board f e g is out low high;
    on_board = λ f e g is on low high. above_hi e g (sv.boards.reads_first f) low ∙ sv.boards.on_board f e g is on low high;
  };
  logs = record {
    now = λ e is leaf g has. by_bool (d == e)
        (λ here. in_bounds e is leaf g here (cleared_log g (sym (ap (λ log. log g) (at_here d e (scanned_log p.scan d (p.owes d)) p.owes here)) ∙ has)))
        (λ away. sv.logs.now e is leaf g (sym (ap (λ log. log g) (at_away d e (scanned_log p.scan d (p.owes d)) p.owes away)) ∙ has));
    in_records = sv.logs.in_records;
    boarded = sv.logs.boarded;
  };
  unbroken = record {
    still = λ e g is held. still_held e g p.unbroken (sv.unbroken.still e g is) held;
    newest = λ e g is held. sv.unbroken.newest e g is (was_held e g p.unbroken held);
    settled_still = λ e g is held. still_held e g p.settled (sv.unbroken.settled_still e g is) held;
    settled_live = λ e g is held. sv.unbroken.settled_live e g is (was_held e g p.settled held);
  };
  bounds = sv.bounds;
  fit = sv.fit;
  pools = sv.pools;
  in_range = sv.in_range;
}
  where
    log : ℕ → Bool
    log = scanned_log p.scan d (p.owes d)

    -- what the log lacks now the leaf has
    kept : (s : ℕ) (bytes : List ℕ) → p.member d ≡ true → (k : Key) (cell : Cell) → p.reads.cells k ≡ Some cell → p.in_top d ≡ cell.top → IsAt cell s bytes
        → cond (nat_le cell.birth p.scan.hi) (p.scan.scrub d cell.birth) (p.owes d cell.birth) ≡ false → Keeps (p.sectors d s) bytes
    kept s bytes is k cell at top there has = of (nat_le cell.birth p.scan.hi) refl has
      where
        of : (t : Bool) → nat_le cell.birth p.scan.hi ≡ t → cond t (p.scan.scrub d cell.birth) (p.owes d cell.birth) ≡ false → Keeps (p.sectors d s) bytes
        of true e has =
            let low : cell.birth ≤ p.scan.hi = grind (arith, nat_tests) in
            m.kept s bytes is (record {
              running = m.running;
              is_eligible = m.is_eligible;
              k = k;
              cell = cell;
              cell_is = at;
              top_is = top;
              is_passed = m.all k cell at low;
              low = low;
              not_scrubbed = has;
              at = there;
            })
        of false e has = sv.current d s bytes is (record { k = k; cell = cell; cell_is = at; top_is = top; has = has; at = there })

    -- groups of the frozen group are above what the scan handles
    above_hi : (e g : ℕ) → number_of p.reads < p.group.first → p.group.first ≤ g → at_device d log p.owes e g ≡ p.owes e g
    above_hi e g above low = by_bool (d == e)
        (λ here. ap (λ l. l g) (at_here d e log p.owes here) ∙ (same g beyond ∙ ap (λ e. p.owes e g) (same_device d e here)))
        (λ away. ap (λ l. l g) (at_away d e log p.owes away))
      where
        beyond : nat_le g p.scan.hi ≡ false
        beyond = let hi = sv.bounds.hi_low m.running in let lt : p.scan.hi < g = omega (arith, hi, above, low) in grind (arith, nat_tests)

        same : (g : ℕ) → nat_le g p.scan.hi ≡ false → log g ≡ p.owes d g
        same g e = ap (λ t. cond t (p.scan.scrub d g) (p.owes d g)) e

    cleared_log : (g : ℕ) → log g ≡ true → (p.scan.scrub d g ≡ true) ⊎ (p.owes d g ≡ true)
    cleared_log g has = of (nat_le g p.scan.hi) has
      where
        of : (t : Bool) → cond t (p.scan.scrub d g) (p.owes d g) ≡ true → (p.scan.scrub d g ≡ true) ⊎ (p.owes d g ≡ true)
        of true has = inl has
        of false has = inr has

    in_bounds : (e : ℕ) → p.member e ≡ true → 1 ≤ p.in_top e → (g : ℕ) → (d == e) ≡ true → (p.scan.scrub d g ≡ true)
        ⊎ (p.owes d g ≡ true) → (1 ≤ g) × (g ≤ p.highest)
    in_bounds e is leaf g here (inl failed) =
        let bounds = sv.bounds.scrubbed m.running d g failed in
        let hi = sv.bounds.hi_low m.running in let top = sv.order.reads_top in (bounds.0, omega (arith, bounds.1, hi, top))
    in_bounds e is leaf g here (inr owed) = sv.logs.now e is leaf g (ap (λ e. p.owes e g) (sym (same_device d e here)) ∙ owed)

    still_held : (e g : ℕ) (logs : Logs) → (logs e g ≡ true → p.owes e g ≡ true) → at_device d
        (kept_in log (logs d)) logs e g ≡ true → at_device d log p.owes e g ≡ true
    still_held e g logs more held = by_bool (d == e)
        (λ here. ap (λ l. l g) (at_here d e log p.owes here)
        ∙ (and_parts (log g) (logs d g) (sym (ap (λ l. l g) (at_here d e (kept_in log (logs d)) logs here)) ∙ held)).0)
        (λ away. ap (λ l. l g) (at_away d e log p.owes away) ∙ more (sym (ap (λ l. l g) (at_away d e (kept_in log (logs d)) logs away)) ∙ held))

    was_held : (e g : ℕ) (logs : Logs) → at_device d (kept_in log (logs d)) logs e g ≡ true → logs e g ≡ true
    was_held e g logs held = by_bool (d == e)
        (λ here. ap (λ e. logs e g) (sym (same_device d e here))
        ∙ (and_parts (log g) (logs d g) (sym (ap (λ l. l g) (at_here d e (kept_in log (logs d)) logs here)) ∙ held)).1)
        (λ away. sym (ap (λ l. l g) (at_away d e (kept_in log (logs d)) logs away)) ∙ held)
