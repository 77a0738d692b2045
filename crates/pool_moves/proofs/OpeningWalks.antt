-- An opening reads a live record: its calls may be made, and the state that it comes to is what the history has; or a page's bytes
-- clash.
use Rattle.std.proofs.Common.{◌≡◌, ◌⊎◌, inl, inr, ⊎_elim, ℕ, zero, suc, ◌+◌, ◌*◌, ◌/◌, ◌%◌, ◌≤◌, ◌<◌, ◌==◌, ◌&&◌, ◌||◌, not, Bool, true, false, cond, Option, Some, None, List, [], ◌∷◌, ◌++◌, refl, sym, ap, ◌∙◌, subst, append_assoc, arith}
use mathlib.Core.Path.{fun_ext}
use Rattle.std.specs.List.{AllByRecursion}
use Rattle.std.proofs.lemmas.Bool.{and_parts, or_right}
use Rattle.std.proofs.lemmas.Bool.Decides.{nat_tests}
use Rattle.mp_base.specs.declared.number.Guid.{Guid}
use Rattle.mp_base.specs.declared.place.Key.{Key}
use Rattle.bank_core.specs.Disk.{Noted, AllAnswer}
use Rattle.label_store.specs.declared.found.Found.{Found}
use Rattle.label_store.specs.Newest.{AreReads}
use Rattle.mirror_io.specs.Copies.{tries}
use Rattle.txg_history.specs.Events.{Opens, as_events}
use Rattle.txg_history.specs.Moves.{Mays}
use Rattle.txg_history.specs.Pages.{LeafKept, Codec, Sum, sum_of, IsOfVolume, kept_top, kept_log, ClashesAt}
use Rattle.txg_history.specs.Pools.{Pool, after, pool_after}
use Rattle.txg_history.specs.Premises.{HasNoTwin, HasGoodLeaf}
use Rattle.txg_history.specs.Records.{Rec, Cell, key, data_start, number_of}
use Rattle.txg_history.specs.Survival.{Fits, Survives}
use Rattle.txg_history.proofs.Folding.{with_calls, calls_after, events_more, mays_second, mays_calls, pool_more}
use Rattle.txg_history.proofs.Moving.{event_survives}
use Rattle.txg_history.proofs.ReadingBack.{numbered_fits}
use Rattle.txg_history.proofs.Surviving.{history_survives}
use Rattle.pool_moves.specs.CommitRows.{IsOpened}
use Rattle.pool_moves.specs.FreezeRow.{is_dev, up_devs}
use Rattle.pool_moves.specs.Keeping.{HasNumberBelow, Walks}
use Rattle.pool_moves.specs.Leaves.{LeafSeen, Seat}
use Rattle.pool_moves.specs.Opened.{opened_leaves, opened_state, opened_seats, claims_of}
use Rattle.pool_moves.specs.OpeningRow.{IsLiveOne, OpenReply, Opens_state, NoPage, reading_of, RowOpen, page_calls, MayTurns, IsLostPage}
use Rattle.pool_moves.specs.PageReads.{Reading, is_read_before, IsKnown, IsPageHere, PageTurn, page_of, calls_of_turns, up_to, IsPageTurn, IsReadTo, ReadsMap, LeafShown, StopsAt, is_failed_read, failed_at, answers_in}
use Rattle.pool_moves.specs.ReadRow.{copies_of}
use Rattle.pool_moves.specs.Rosters.{IsRoster}
use Rattle.pool_moves.specs.States.{Sums, sums, no_group_seen, no_scan_seen, PoolSeen, PoolState, Side, seen}
use Rattle.pool_moves.proofs.OpenedSeats.{IsIn as IsKeptIn, kept_in_record, AreSeatsOf, seats_are, opened_seated, opened_away, opened_apart, opened_below, opened_numbered, opened_topped, seats_seen}
use Rattle.pool_moves.proofs.PagesBack.{of_volume_or, volume_width, below_known, known_right, before_more, not_before_itself, read_to_fewer, read_to_page, clash_of_more, above_before, closed_before}
use Rattle.pool_moves.proofs.PageTurns.{tried_reads, IsTrueLeaf, IsOn, on_behind, IsRightTurn, turn_may, turns_may, stop_may, stop_never}
use Rattle.pool_moves.specs.Walking.{as_moves}
use Rattle.pool_moves.proofs.ReadWalks.{calls_walk, sum_of_cell, sum_cell}
use Rattle.pool_moves.proofs.Seeking.{reads_may, sought_reads, sought_paired}
use Rattle.txg_history.proofs.LookedParts.{answer_first, answer_second}

-- What the configuration says of the record.
config_tells : (c : Codec) (p : Pool) (r : Rec) (found : Found) → Survives c p → IsLiveOne p found r → Fits c p.name p.pool p.room r
config_tells c p r found sv is = numbered_fits c p r sv is.is_live is.some

-- Leaves that were found are as the history has them.
true_leaves : (p : Pool) (r : Rec) (leaves : List LeafKept) (devs : List (Option ℕ)) → AllByRecursion (IsKeptIn r.tops r.owes) leaves
    → HasNoTwin p r (claims_of leaves devs)
    → AllByRecursion (IsTrueLeaf p.member (λ d. r.tops (p.guid d)) (λ d. r.owes (p.guid d))) (opened_leaves leaves devs)
true_leaves p r [] devs all home = tt
true_leaves p r (leaf ∷ leaves) [] all home = tt
true_leaves p r (leaf ∷ leaves) (dev ∷ devs) all home = (
  record {
    is_member = λ d at. (mine d at).0;
    top_is = λ d at. ap r.tops (mine d at).1 ∙ all.0.top_is;
    log_is = λ d g at. ap (λ m. r.owes m g) (mine d at).1 ∙ ap (λ f. f g) all.0.log_is;
  },
  true_leaves p r leaves devs all.1
      (λ d m claim top. home d m (or_right (is_dev d dev && (leaf.guid.0 == m.0)) (claims_of leaves devs d m) claim)
      top),
)
  where
    claimed : (d : ℕ) → dev ≡ Some d → claims_of (leaf ∷ leaves) (dev ∷ devs) d leaf.guid ≡ true
    claimed d is = subst (λ x. ((is_dev d x && (leaf.guid.0 == leaf.guid.0)) || claims_of leaves devs d leaf.guid) ≡ true) (sym is)
        (let one : (d == d) ≡ true = grind (arith, nat_tests) in let two : (leaf.guid.0 == leaf.guid.0) ≡ true = grind (arith, nat_tests) in rw (one, two) refl)

    mine : (d : ℕ) → dev ≡ Some d → (p.member d ≡ true) × (p.guid d ≡ leaf.guid)
    mine d at = home d leaf.guid (claimed d at) (subst (λ n. 1 ≤ n) (sym all.0.top_is) all.0.under)

-- What a row of an opening begins from.
record Opening (c : Codec) (size : ℕ → ℕ) (handed : List ℕ → Option ℕ) (name : List ℕ) (p : Pool) (r : Rec) (found : Found) (made : List Noted)
    (reply : OpenReply) : Type 0 where
  survives : Survives c p
  named : p.name ≡ name
  is : IsLiveOne p found r
  row : RowOpen c size handed name found made reply
  answers : AllAnswer p.sectors made
  home : HasNoTwin p r (claims_of (c.leaves found.blob.items) row.devs)

module _ (c : Codec) (size : ℕ → ℕ) (handed : List ℕ → Option ℕ) (name : List ℕ) (p : Pool) (r : Rec) (found : Found) (made : List Noted)
    (reply : OpenReply) (o : Opening c size handed name p r found made reply) where
  abbrev config : List ℕ
  config = found.blob.items

  abbrev leaves : List LeafKept
  leaves = c.leaves config

  abbrev x : Reading
  x = reading_of c found o.row.devs o.row.bytes o.row.got

  -- the pool reads the record, and then the identities were read
  abbrev q : Pool
  q = after (Opens r) p

  q_survives : Survives c q
  q_survives = event_survives c p (Opens r) o.survives o.is.is_live

  fits : Fits c p.name p.pool p.room r
  fits = config_tells c p r found o.survives o.is

  room_is : c.room config ≡ p.room
  room_is = ap c.room o.is.config_is ∙ fits.config.room_is

  inside : (k : Key) (cell : Cell) → r.cells k ≡ Some cell → IsOfVolume (c.blocks config) k
  inside k cell at = subst (λ b. IsOfVolume (c.blocks b) k) (sym o.is.config_is) (fits.config.inside k cell at)

  root : c.root config ≡ sum_of (r.cells (key 3 0))
  root = ap c.root o.is.config_is ∙ fits.config.root

  tops : kept_top leaves ≡ r.tops
  tops = ap (λ b. kept_top (c.leaves b)) o.is.config_is ∙ fits.config.tops

  logs : kept_log leaves ≡ r.owes
  logs = ap (λ b. kept_log (c.leaves b)) o.is.config_is ∙ fits.config.owes

  kept : AllByRecursion (IsKeptIn r.tops r.owes) leaves
  kept = kept_in_record r (c.next_member config) leaves o.row.valid tops logs

  ids_may : Mays c q (as_events o.row.ids)
  ids_may = reads_may c q o.row.ids (sought_reads found.pool size (c.room config) handed leaves o.row.ids o.row.devs o.row.sought)

  abbrev behind : Pool
  behind = with_calls o.row.ids q

  on : IsOn x r behind
  on = record {
    of = record {
      survives = subst (Survives c) (calls_after o.row.ids q) (history_survives c (as_events o.row.ids) q q_survives ids_may);
      live = o.is.is_live;
      number_is = ap (λ n. n.0) o.is.number_is;
      room_is = room_is;
      inside = inside;
    };
    reads_is = λ k. refl;
    tops = λ d. refl;
    logs = λ d g. refl;
    leaves = true_leaves p r leaves o.row.devs kept o.home;
  }

  pages_answer : AllAnswer behind.sectors (page_calls o.row)
  pages_answer = answer_second o.row.ids (page_calls o.row) p.sectors
      (subst (AllAnswer p.sectors) o.row.calls o.answers)

  -- where the pages' calls may be made, all may
  all_may : Mays c behind (as_events (page_calls o.row)) → Mays c q (as_events made)
  all_may may = subst (λ l. Mays c q (as_events l)) (sym o.row.calls)
      (subst (Mays c q) (sym (events_more o.row.ids (page_calls o.row))) (mays_calls c o.row.ids (as_events (page_calls o.row)) q ids_may may))

  -- The whole map.
  known_all : (reached : Key → Bool) → ((k : Key) → reached k ≡ true) → IsReadTo x reached
      → ((k : Key) → IsKnown reached k → x.got k ≡ sum_of (r.cells k)) → (k : Key) → x.got k ≡ sum_of (r.cells k)
  known_all reached all back right k = ⊎_elim (λ v. right k (known k v))
      (λ off. back.beyond k off ∙ sym (none_of (r.cells k) (λ cell at. off (inside k cell at))))
      (of_volume_or (c.blocks config) k)
    where
      none_of : (cell : Option Cell) → ((cell' : Cell) → cell ≡ Some cell' → ⊥) → sum_of cell ≡ None
      none_of None off = refl
      none_of (Some cell) off = absurd (off cell refl)

      whole : (n : ℕ) → 64 * (n / 64) + n % 64 ≡ n
      whole n = omega arith

      rest : (n : ℕ) → n % 64 < 64
      rest n = omega arith

      below : (k : Key) → k.level < 3 → IsKnown reached k
      below k low = inr (record {
        level = k.level;
        index = k.index / 64;
        j = k.index % 64;
        low = low;
        few = rest k.index;
        is = ap (key k.level) (sym (whole k.index));
        reaches = all (key (suc k.level) (k.index / 64));
      })

      by_level : (level index : ℕ) → IsOfVolume (c.blocks config) (key level index) → IsKnown reached (key level index)
      by_level zero index v = below (key 0 index) (omega arith)
      by_level (suc zero) index v = below (key 1 index) (omega arith)
      by_level (suc (suc zero)) index v = below (key 2 index) (omega arith)
      by_level (suc (suc (suc zero))) index v =
          inl (ap (key 3) (let lt : index < 1 = volume_width (c.blocks config) 3 index o.row.volume v in let e : index ≡ 0 = omega (arith, lt) in e))
      by_level (suc (suc (suc (suc n)))) index v = absurd (let low = v.low in omega (arith, low))

      known : (k : Key) → IsOfVolume (c.blocks config) k → IsKnown reached k
      known k v = by_level k.level k.index v

  map_right : IsReadTo x (λ k. true) → ((k : Key) → x.got k ≡ sum_of (r.cells k)) ⊎ ClashesAt r.cells x.found
  map_right back = ⊎_elim (λ right. inl (known_all (λ k. true) (λ k. refl) back right)) (λ clash. inr clash)
      (known_right x r p.room (λ k. true) (o.survives.fit r o.is.is_live).1 back (λ level index low is. refl) o.row.volume root inside)

  map_may : ReadsMap x o.row.turns → o.row.last ≡ [] → ((k : Key) → x.got k ≡ sum_of (r.cells k)) → Mays c q (as_events made) ⊎ ClashesAt r.cells x.found
  map_may reads none right = ⊎_elim (λ may. inl (all_may (subst (λ l. Mays c behind (as_events (turned ++ l))) (sym none)
      (subst (Mays c behind) (sym (events_more turned [])) (mays_calls c turned [] behind may tt))))) (λ clash. inr clash)
      (turns_may x r behind o.row.turns on reads.each (all_right o.row.turns)
      (answer_first turned o.row.last behind.sectors pages_answer))
    where
      turned : List Noted
      turned = calls_of_turns o.row.turns

      all_right : (turns : List PageTurn) → AllByRecursion (λ turn. IsRightTurn x r turn.level turn.index) turns
      all_right [] = tt
      all_right (turn ∷ turns) = (record { pointer = right (page_of turn); known = λ k is. right k }, all_right turns)

  -- The state that it comes to.
  abbrev core_of : (name : List ℕ) → (pool : Guid) → (number : ℕ) → (got : Sums) → (room : ℕ → ℕ) → List LeafSeen → PoolSeen
  core_of name pool number got room seen_leaves = record {
    name = name;
    pool = pool;
    number = number;
    read_number = number;
    opened = false;
    committed = got;
    room = room;
    leaves = seen_leaves;
    group = no_group_seen;
    scan = no_scan_seen;
    pinned = [];
  }

  abbrev seats : (roster : List ℕ) → List Seat
  seats roster = opened_seats p roster leaves o.row.devs

  abbrev side : (roster : List ℕ) → Side
  side roster = record { pool = q; seats = seats roster }

  seated : (roster : List ℕ) → IsRoster p roster → AreSeatsOf p leaves (seats roster)
  seated roster ros = seats_are p r roster leaves o.row.devs ros kept
      (sought_paired found.pool size (c.room config) handed leaves o.row.ids o.row.devs o.row.sought) o.home

  core_seen : (roster : List ℕ) → IsRoster p roster → ((k : Key) → x.got k ≡ sum_of (r.cells k))
      → (opened_state c name found o.row.devs o.row.got).core ≡ seen (side roster)
  core_seen roster ros right =
      ap (λ n. core_of n found.pool found.number.0 o.row.got (c.room config) (opened_leaves leaves o.row.devs)) (sym o.named)
      ∙ (ap (λ g. core_of p.name g found.number.0 o.row.got (c.room config) (opened_leaves leaves o.row.devs)) o.is.pool_is
      ∙ (ap (λ n. core_of p.name p.pool n o.row.got (c.room config) (opened_leaves leaves o.row.devs)) (ap (λ n. n.0) o.is.number_is)
      ∙ (ap (λ g. core_of p.name p.pool (number_of r) g (c.room config) (opened_leaves leaves o.row.devs)) (fun_ext right)
      ∙ (ap (λ f. core_of p.name p.pool (number_of r) (sums r.cells) f (opened_leaves leaves o.row.devs)) room_is
      ∙ ap (core_of p.name p.pool (number_of r) (sums r.cells) p.room)
      (sym (seats_seen p r roster p.group.board leaves o.row.devs kept (seated roster ros)))))))

  opened_at : (roster : List ℕ) (s : PoolState) → IsRoster p roster → s ≡ opened_state c name found o.row.devs o.row.got
      → ((k : Key) → x.got k ≡ sum_of (r.cells k)) → IsOpened c s (side roster)
  opened_at roster s ros is right = record {
    before = p;
    r = r;
    survives = o.survives;
    live = o.is.is_live;
    is = refl;
    apart = opened_apart p leaves (seats roster) o.row.valid.apart (seated roster ros);
    seated = opened_seated p leaves (seats roster) (seated roster ros);
    away = opened_away p leaves (seats roster) (seated roster ros);
    numbered = λ d mine. opened_numbered p roster leaves (seats roster) d ros (seated roster ros) mine;
    topped = λ d mine one. opened_topped p r leaves (seats roster) d kept tops (seated roster ros) one;
    below = subst (λ n. AllByRecursion (HasNumberBelow q.guid n) (seats roster)) (sym (ap (λ u. u.own.next_member) is))
        (opened_below p (c.next_member config) leaves (seats roster) (seated roster ros) o.row.valid.below);
    core = ap (λ u. u.core) is ∙ core_seen roster ros right;
    unwritten = λ a. ap (λ u. u.own.writes a) is;
  }

  -- What is known up to a page.
  module _ (level index : ℕ) (back : IsReadTo x (λ k. is_read_before k (key (suc level) index))) where
    abbrev stop : Key
    stop = key (suc level) index

    abbrev is_before : Key → Bool
    is_before k = is_read_before k stop

    abbrev AreRightTo : Type 0
    AreRightTo = (k : Key) → IsKnown is_before k → x.got k ≡ sum_of (r.cells k)

    root_index : (i : ℕ) (sum : Sum) → x.got (key 3 i) ≡ Some sum → i ≡ 0
    root_index i sum is = ⊎_elim (λ v. let lt : i < 1 = volume_width (c.blocks config) 3 i o.row.volume v in let e : i ≡ 0 = omega (arith, lt) in e)
        (λ off. absurd (let no : None ≡ Some sum = sym (back.beyond (key 3 i) off) ∙ is in cc)) (of_volume_or (c.blocks config) (key 3 i))

    stop_right : AreRightTo ⊎ ClashesAt r.cells (up_to stop x.found)
    stop_right = known_right (record x { found = up_to stop x.found }) r p.room is_before (o.survives.fit r o.is.is_live).1 (read_to_page x stop back)
        (closed_before stop) o.row.volume root inside

    -- a page with a pointer is known, where the page above it is read
    page_is_known : (l i : ℕ) (sum : Sum) → l < 3 → x.got (key (suc l) i) ≡ Some sum → (l < 2 → is_before (key (suc (suc l)) (i / 64)) ≡ true)
        → IsKnown is_before (key (suc l) i)
    page_is_known zero i sum low is above = below_known is_before 0 i (omega arith) (above (omega arith))
    page_is_known (suc zero) i sum low is above = below_known is_before 1 i (omega arith) (above (omega arith))
    page_is_known (suc (suc zero)) i sum low is above = inl (ap (key 3) (root_index i sum is))
    page_is_known (suc (suc (suc l))) i sum low is above = absurd (omega (arith, low))

    turn_right : AreRightTo → (turn : PageTurn) → IsPageTurn x turn → is_before (page_of turn) ≡ true → IsRightTurn x r turn.level turn.index
    turn_right right turn is before = record {
      pointer = right (page_of turn) (page_is_known turn.level turn.index is.sum is.low is.sum_is (λ low. closed_before stop turn.level turn.index low before));
      known = λ k known. right k (⊎_elim (λ e. inl e) (λ b. inr (record {
        level = b.level;
        index = b.index;
        j = b.j;
        low = b.low;
        few = b.few;
        is = b.is;
        reaches = before_more (key (suc b.level) b.index) (page_of turn) stop b.reaches before;
      })) known);
    }

    turns_right : AreRightTo → (turns : List PageTurn) → AllByRecursion (IsPageTurn x) turns → AllByRecursion (λ turn. is_before (page_of turn) ≡ true) turns
        → AllByRecursion (λ turn. IsRightTurn x r turn.level turn.index) turns
    turns_right right [] each before = tt
    turns_right right (turn ∷ turns) each before = (turn_right right turn each.0 before.0, turns_right right turns each.1 before.1)

    stop_turn : AreRightTo → (sum : Sum) → level < 3 → x.got stop ≡ Some sum → IsRightTurn x r level index
    stop_turn right sum low is = record {
      pointer = right stop (page_is_known level index sum low is (λ low. above_before level index (index / 64)));
      known = right;
    }

  -- One page after another, each where no bytes clash up to there.
  turn_when : (turn : PageTurn) (p1 : Pool) → IsPageTurn x turn → IsReadTo x (λ k. is_read_before k (page_of turn)) → IsOn x r p1
      → AllAnswer p1.sectors (turn.reads ++ turn.rewrites) → (ClashesAt r.cells (up_to (page_of turn) x.found) → ⊥)
      → Mays c p1 (as_events (turn.reads ++ turn.rewrites))
  turn_when turn p1 is back on answers none = ⊎_elim (λ right. ⊎_elim (λ may. may) (λ clash. absurd (none clash))
      (turn_may x r p1 turn (up_to (page_of turn) x.found) on is
      (ap (λ t. cond t None (x.found (page_of turn))) (not_before_itself (page_of turn)) ∙ is.bytes_are)
      (stop_turn turn.level turn.index back right is.sum is.low is.sum_is) answers))
      (λ clash. absurd (none clash)) (stop_right turn.level turn.index back)

  turns_each : (turns : List PageTurn) (p1 : Pool) → AllByRecursion (IsPageTurn x) turns
      → AllByRecursion (λ turn. IsReadTo x (λ k. is_read_before k (page_of turn))) turns → IsOn x r p1
      → AllAnswer p1.sectors (calls_of_turns turns ++ o.row.last) → AreReads o.row.last → MayTurns c p1 r.cells x.found turns o.row.last
  turns_each [] p1 each backs has answers reads = reads_may c p1 o.row.last reads
  turns_each (turn ∷ turns) p1 each backs has answers reads = let mine : List Noted = turn.reads ++ turn.rewrites in
      let end_is : with_calls mine p1 ≡ pool_after (as_events turn.rewrites) (pool_after (as_events turn.reads) p1) =
      sym (calls_after mine p1) ∙ (ap (λ vs. pool_after vs p1) (events_more turn.reads turn.rewrites)
      ∙ pool_more (as_events turn.reads) (as_events turn.rewrites) p1) in (
        reads_may c p1 turn.reads
            (tried_reads (data_start + each.0.sum.sector) (IsPageHere x turn.level turn.index each.0.sum)
            (tries (copies_of each.0.sum x.leaves)) turn.reads turn.wrong (Some each.0.bytes) each.0.tried),
        λ none. let may = turn_when turn p1 each.0 backs.0 has (answer_first mine (calls_of_turns turns) p1.sectors
            (answer_first (mine ++ calls_of_turns turns) o.row.last p1.sectors answers)) none in (
              mays_second c (as_events turn.reads) (as_events turn.rewrites) p1
                  (subst (Mays c p1) (events_more turn.reads turn.rewrites) may),
              subst (λ u. MayTurns c u r.cells x.found turns o.row.last) end_is
                  (turns_each turns (with_calls mine p1) each.1 backs.1 (on_behind x r p1 mine has may)
                  (answer_second mine (calls_of_turns turns ++ o.row.last) p1.sectors
                  (subst (AllAnswer p1.sectors) (append_assoc mine (calls_of_turns turns) o.row.last) answers)) reads),
            ),
      )

  turns_from : AllByRecursion (IsPageTurn x) o.row.turns → AllByRecursion (λ turn. IsReadTo x (λ k. is_read_before k (page_of turn))) o.row.turns
      → AreReads o.row.last → MayTurns c (pool_after (as_events o.row.ids) q) r.cells o.row.bytes o.row.turns o.row.last
  turns_from each backs reads = subst (λ u. MayTurns c u r.cells x.found o.row.turns o.row.last) (sym (calls_after o.row.ids q))
      (turns_each o.row.turns behind each backs on pages_answer reads)

  whole_turns : ReadsMap x o.row.turns → o.row.last ≡ [] → MayTurns c (pool_after (as_events o.row.ids) q) r.cells o.row.bytes o.row.turns o.row.last
  whole_turns reads none = turns_from reads.each (all o.row.turns) (subst AreReads (sym none) tt)
    where
      all : (turns : List PageTurn) → AllByRecursion (λ turn. IsReadTo x (λ k. is_read_before k (page_of turn))) turns
      all [] = tt
      all (turn ∷ turns) = (read_to_fewer x (λ k. is_read_before k (page_of turn)) (λ k. true) (λ k is. refl) reads.back, all turns)

  -- A page of which no copy is good.
  module _ (level index : ℕ) (shown : List LeafShown) (st : StopsAt x level index shown o.row.turns o.row.last) where
    lost_turns : MayTurns c (pool_after (as_events o.row.ids) q) r.cells o.row.bytes o.row.turns o.row.last
    lost_turns = turns_from st.each (all o.row.turns st.before)
        (tried_reads (data_start + st.sum.sector) (IsPageHere x level index st.sum) (tries (copies_of st.sum x.leaves)) o.row.last st.wrong None st.tried)
      where
        all : (turns : List PageTurn) → AllByRecursion (λ turn. is_read_before (page_of turn) (key (suc level) index) ≡ true) turns
            → AllByRecursion (λ turn. IsReadTo x (λ k. is_read_before k (page_of turn))) turns
        all [] before = tt
        all (turn ∷ turns) before = (
          read_to_fewer x (λ k. is_read_before k (page_of turn)) (λ k. is_read_before k (key (suc level) index))
              (λ k is. before_more k (page_of turn) (key (suc level) index) is before.0) st.back,
          all turns before.1,
        )

    abbrev turned : List Noted
    turned = calls_of_turns o.row.turns

    first_may : AreRightTo level index st.back → Mays c behind (as_events turned) ⊎ ClashesAt r.cells x.found
    first_may right = turns_may x r behind o.row.turns on st.each (turns_right level index st.back right o.row.turns st.each st.before)
        (answer_first turned o.row.last behind.sectors pages_answer)

    abbrev stopped : Pool
    stopped = with_calls turned behind

    reads_answer : AllAnswer stopped.sectors o.row.last
    reads_answer = answer_second turned o.row.last behind.sectors pages_answer

    right_here : AreRightTo level index st.back → IsRightTurn x r level index
    right_here right = stop_turn level index st.back right st.sum st.low st.sum_is

    right_or : AreRightTo level index st.back ⊎ ClashesAt r.cells x.found
    right_or = ⊎_elim (λ right. inl right) (λ clash. inr (clash_of_more r.cells (key (suc level) index) x.found clash)) (stop_right level index st.back)

    stopped_may : Mays c q (as_events made) ⊎ ClashesAt r.cells x.found
    stopped_may = ⊎_elim (λ right. ⊎_elim (λ may. inl (all_may
        (subst (Mays c behind) (sym (events_more turned o.row.last)) (mays_calls c turned (as_events o.row.last) behind may
        (stop_may x r stopped level index st.sum o.row.last st.wrong None (on_behind x r behind turned on may) st.low st.sum_is
        (right_here right) reads_answer st.tried)))))
        (λ clash. inr clash) (first_may right)) (λ clash. inr clash) right_or

    -- the pool behind all calls
    end_is : pool_after (as_events made) q ≡ with_calls o.row.last stopped
    end_is = ap (λ l. pool_after (as_events l) q) o.row.calls
        ∙ (ap (λ vs. pool_after vs q) (events_more o.row.ids (turned ++ o.row.last)
        ∙ ap (λ vs. as_events o.row.ids ++ vs) (events_more turned o.row.last))
        ∙ (pool_more (as_events o.row.ids) (as_events turned ++ as_events o.row.last) q
        ∙ (ap (λ u. pool_after (as_events turned ++ as_events o.row.last) u) (calls_after o.row.ids q)
        ∙ (pool_more (as_events turned) (as_events o.row.last) behind
        ∙ (ap (λ u. pool_after (as_events o.row.last) u) (calls_after turned behind) ∙ calls_after o.row.last stopped)))))

    none_failed : (at d : ℕ) → answers_in x.leaves (page_calls o.row) at d ≡ true → (up_devs x.leaves d ≡ true) × (failed_at at o.row.last d ≡ false)
    none_failed at d is = let parts = and_parts (up_devs x.leaves d) (not (failed_at at (page_calls o.row) d)) is in
        (parts.0, failed_second turned o.row.last (not_of (failed_at at (page_calls o.row) d) parts.1))
      where
        not_of : (t : Bool) → not t ≡ true → t ≡ false
        not_of true is = absurd (cc)
        not_of false is = refl

        or_last : (t u : Bool) → (t || u) ≡ false → u ≡ false
        or_last true u is = absurd (cc)
        or_last false u is = is

        failed_second : (first second : List Noted) → failed_at at (first ++ second) d ≡ false → failed_at at second d ≡ false
        failed_second [] second is = is
        failed_second (noted ∷ first) second is = failed_second first second (or_last (is_failed_read at d noted.call) (failed_at at (first ++ second) d) is)

    cell_here : AreRightTo level index st.back → (cell : Cell) × (r.cells (key (suc level) index) ≡ Some cell) × (sum_of_cell cell ≡ st.sum)
    cell_here right = sum_cell (r.cells (key (suc level) index)) st.sum (sym (right_here right).pointer ∙ st.sum_is)

    stopped_lost : IsLostPage (pool_after (as_events made) q) r (key (suc level) index) (answers_in x.leaves (page_calls o.row)) ⊎ ClashesAt r.cells x.found
    stopped_lost = ⊎_elim (λ right. ⊎_elim (λ may. let cell = cell_here right in inl (record {
      cell = cell.0;
      cell_is = cell.1;
      none = λ good. stop_never x r stopped level index st.sum o.row.last st.wrong (answers_in x.leaves (page_calls o.row) (data_start + cell.0.sector))
          (on_behind x r behind turned on may) st.low st.sum_is (right_here right) reads_answer st.tried
          (λ d is. subst (λ sector. (up_devs x.leaves d ≡ true) × (failed_at (data_start + sector) o.row.last d ≡ false)) (ap (λ sum. sum.sector) cell.2)
          (none_failed (data_start + cell.0.sector) d is))
          (λ other at. subst (λ u. HasGoodLeaf u r other (answers_in x.leaves (page_calls o.row) (data_start + cell.0.sector))) end_is
          (subst (λ a. HasGoodLeaf (pool_after (as_events made) q) r a (answers_in x.leaves (page_calls o.row) (data_start + cell.0.sector)))
          (same_cell cell.0 other (sym cell.1 ∙ at)) good));
    })) (λ clash. inr clash) (first_may right)) (λ clash. inr clash) right_or
      where
        same_cell : (a b : Cell) → Some a ≡ Some b → a ≡ b
        same_cell a b e = cc

-- An opening that comes to a state.
pub opening_opens : (c : Codec) (size : ℕ → ℕ) (handed : List ℕ → Option ℕ) (name : List ℕ) (p : Pool) (r : Rec) (roster : List ℕ) (found : Found)
    (made : List Noted) (s : PoolState) → Survives c p → p.name ≡ name
    → IsLiveOne p found r → IsRoster p roster → (row : RowOpen c size handed name found made (Opens_state s)) → AllAnswer p.sectors made
    → HasNoTwin p r (claims_of (c.leaves found.blob.items) row.devs)
    → (IsOpened c s (record { pool = after (Opens r) p; seats = opened_seats p roster (c.leaves found.blob.items) row.devs })
    × Walks c (record { pool = after (Opens r) p; seats = opened_seats p roster (c.leaves found.blob.items) row.devs }) (as_moves made))
    ⊎ ClashesAt r.cells row.bytes
opening_opens c size handed name p r roster found made s sv named is ros row answers home =
    let o : Opening c size handed name p r found made (Opens_state s) = record
    { survives = sv; named = named; is = is; row = row; answers = answers; home = home } in
    ⊎_elim
    (λ right. ⊎_elim (λ may. inl (
      opened_at c size handed name p r found made (Opens_state s) o roster s ros row.ends.2 right,
      calls_walk c made (side c size handed name p r found made (Opens_state s) o roster) may,
    )) (λ clash. inr clash) (map_may c size handed name p r found made (Opens_state s) o row.ends.0 row.ends.1 right))
    (λ clash. inr clash) (map_right c size handed name p r found made (Opens_state s) o row.ends.0.back)

-- Its calls may be made, however it ends.
pub opening_may : (c : Codec) (size : ℕ → ℕ) (handed : List ℕ → Option ℕ) (name : List ℕ) (p : Pool) (r : Rec) (found : Found) (made : List Noted)
    (reply : OpenReply) → Survives c p → p.name ≡ name
    → IsLiveOne p found r → (row : RowOpen c size handed name found made reply) → AllAnswer p.sectors made
    → HasNoTwin p r (claims_of (c.leaves found.blob.items) row.devs)
    → Mays c (after (Opens r) p) (as_events made) ⊎ ClashesAt r.cells row.bytes
opening_may c size handed name p r found made (Opens_state s) sv named is row answers home =
    let o : Opening c size handed name p r found made (Opens_state s) = record
    { survives = sv; named = named; is = is; row = row; answers = answers; home = home } in
    ⊎_elim (λ right. map_may c size handed name p r found made (Opens_state s) o row.ends.0 row.ends.1 right) (λ clash. inr clash)
    (map_right c size handed name p r found made (Opens_state s) o row.ends.0.back)
opening_may c size handed name p r found made (NoPage page shown) sv named is row answers home =
    let o : Opening c size handed name p r found made (NoPage page shown) = record
    { survives = sv; named = named; is = is; row = row; answers = answers; home = home } in
    stopped_may c size handed name p r found made (NoPage page shown) o row.ends.0 page.index shown row.ends.2

-- So they may be page by page, where only the bytes of the pages so far don't clash.
pub opening_turns : (c : Codec) (size : ℕ → ℕ) (handed : List ℕ → Option ℕ) (name : List ℕ) (p : Pool) (r : Rec) (found : Found) (made : List Noted)
    (reply : OpenReply) → Survives c p → p.name ≡ name
    → IsLiveOne p found r → (row : RowOpen c size handed name found made reply) → AllAnswer p.sectors made
    → HasNoTwin p r (claims_of (c.leaves found.blob.items) row.devs)
    → MayTurns c (pool_after (as_events row.ids) (after (Opens r) p)) r.cells row.bytes row.turns row.last
opening_turns c size handed name p r found made (Opens_state s) sv named is row answers home =
    let o : Opening c size handed name p r found made (Opens_state s) = record
    { survives = sv; named = named; is = is; row = row; answers = answers; home = home } in
    whole_turns c size handed name p r found made (Opens_state s) o row.ends.0 row.ends.1
opening_turns c size handed name p r found made (NoPage page shown) sv named is row answers home =
    let o : Opening c size handed name p r found made (NoPage page shown) = record
    { survives = sv; named = named; is = is; row = row; answers = answers; home = home } in
    lost_turns c size handed name p r found made (NoPage page shown) o row.ends.0 page.index shown row.ends.2

-- A page that no good leaf gave.
pub opening_loses : (c : Codec) (size : ℕ → ℕ) (handed : List ℕ → Option ℕ) (name : List ℕ) (p : Pool) (r : Rec) (found : Found) (made : List Noted)
    (page : Key) (shown : List LeafShown) → Survives c p → p.name ≡ name → IsLiveOne p found r
    → (row : RowOpen c size handed name found made (NoPage page shown)) → AllAnswer p.sectors made
    → HasNoTwin p r (claims_of (c.leaves found.blob.items) row.devs)
    → IsLostPage (pool_after (as_events made) (after (Opens r) p)) r page (answers_in (opened_leaves (c.leaves found.blob.items) row.devs) (page_calls row))
    ⊎ ClashesAt r.cells row.bytes
opening_loses c size handed name p r found made page shown sv named is row answers home =
    let o : Opening c size handed name p r found made (NoPage page shown) = record
    { survives = sv; named = named; is = is; row = row; answers = answers; home = home } in
    subst
    (λ k. IsLostPage (pool_after (as_events made) (after (Opens r) p)) r k (answers_in (opened_leaves (c.leaves found.blob.items) row.devs) (page_calls row))
    ⊎ ClashesAt r.cells row.bytes) (sym row.ends.1)
    (stopped_lost c size handed name p r found made (NoPage page shown) o row.ends.0 page.index shown row.ends.2)
