-- Lines that leave a pool's tree as it is: their device calls go to devices of its leaves, and each leaf keeps its device and its top.
use Rattle.std.proofs.Common.{◌≡◌, inl, inr, ⊎_elim, ℕ, ◌+◌, ◌==◌, nat_lt, Bool, true, false, cond, Option, Some, None, List, [], ◌∷◌, ◌++◌, map, refl, sym, subst}
use Rattle.std.specs.List.{AllByRecursion, find}
use Rattle.mp_base.specs.declared.number.Guid.{Guid}
use Rattle.bank_core.specs.declared.bank.Fault.{Fault}
use Rattle.bank_core.specs.Asks.{Ask, Reads, Writes, Flushes, Admits, Ejects, ask_of, asks_of, IsPart}
use Rattle.bank_core.specs.Disk.{Call, Read, Write as WriteCall, Flush as FlushCall, Admit, Eject, Noted}
use Rattle.label_store.specs.declared.member.Member.{Member}
use Rattle.label_store.specs.declared.uberblock.Uberblock.{Uberblock}
use Rattle.label_store.specs.Layout.{even_labels, odd_labels, labels_of, config_offset, ring_offset, slot_of}
use Rattle.label_store.specs.Phases.{IsTurn, IsPhase}
use Rattle.label_store.specs.Plans.{label_writes, config_plan, ring_plan}
use Rattle.label_store.specs.Rounds.{uberblock_of, first_plan, second_plan, third_plan}
use Rattle.label_store.specs.Uberblock.{uberblock_bytes}
use Rattle.txg_history.specs.Pages.{Codec}
use Rattle.txg_history.specs.Turns.{write_plan, flush_plan}
use Rattle.pool_moves.specs.AwayRows.{WriteReply, WriteFits, WriteBy, RowWrite, OfflineReply, LeaveIf, drop_if, drops_leaf, gone, is_offline, is_spare, leaf_named, OfflineLeaf, OfflineHere, OfflineBy, RowOffline}
use Rattle.pool_moves.specs.Boards.{member_before, members_where, is_on, is_on_under, board_of, board_under}
use Rattle.pool_moves.specs.FreezeRow.{up_devs, RowFreeze}
use Rattle.pool_moves.specs.Leaves.{LeafSeen}
use Rattle.pool_moves.specs.LineRows.{TurnReply, RowTurn, FreezeReply, FreezeFor, FreezeBy, RowFreezeLine, SyncReply, RowSync, EndsGroup, has_number, sets_failed, count_moves}
use Rattle.pool_moves.specs.Moves.{Draft, Move, Makes, Puts, Freeze, Wrote_key, Flushed_all, Draw, Leave, Widen, Burn, Starts, Copies, Copied, Sets, Finds, Clear, Comes, Goes, Returns, Scrubs, Shapes, on_dev, leaf_step, leaf_cleared, leaves_step, step, state_step, steps, Scan_from, Pass, Drop, Rest}
use Rattle.pool_moves.specs.ReadRow.{made_in}
use Rattle.pool_moves.specs.Refusing.{FreezeRefusal, count_below, keys_needed, written_with, dirty_with}
use Rattle.pool_moves.specs.States.{ScanSeen, PoolSeen, PoolState}
use Rattle.pool_moves.specs.TurnRows.{turn_moves, round_moves, ended, IsThirdMoves, EndsRound, RowWriteTurn, RowFlushTurn, RowRound}
use Rattle.pool_moves.specs.Walking.{as_moves}
use Rattle.pool_moves.specs.Widening.{AreWidens, IsWidened, AreLeaves, seen_along}
use Rattle.pool_moves.proofs.GroupTurns.{HasParts, turn_holds, group_holds, sync_holds}
use Rattle.pool_moves.proofs.Lists.{either, all_append, all_map}

-- the call goes to such a device
abbrev pub IsCallOn : (P : ℕ → Type 0) → Call → Type 0
IsCallOn P (Read dev at bytes fault) = P dev
IsCallOn P (WriteCall dev at bytes fault) = P dev
IsCallOn P (FlushCall dev fault) = P dev
IsCallOn P (Admit dev holds) = ⊥
IsCallOn P (Eject dev) = ⊥

abbrev pub AreCallsOn : (P : ℕ → Type 0) → List Noted → Type 0
AreCallsOn P made = AllByRecursion (λ noted. IsCallOn P noted.call) made

abbrev pub IsAskOn : (P : ℕ → Type 0) → Ask → Type 0
IsAskOn P (Reads dev at sectors) = P dev
IsAskOn P (Writes dev at bytes) = P dev
IsAskOn P (Flushes dev) = P dev
IsAskOn P (Admits dev) = ⊥
IsAskOn P (Ejects dev) = ⊥

-- a move that leaves the tree as it is, whose call goes to such a device
abbrev pub IsOn : (P : ℕ → Type 0) → Move → Type 0
IsOn P (Makes noted) = IsCallOn P noted.call
IsOn P (Finds m d) = ⊥
IsOn P (Comes i d m top own) = ⊥
IsOn P (Goes i) = ⊥
IsOn P (Returns i seat leaf) = ⊥
IsOn P v = Unit {0}

-- What is so of each leaf's device and top stays so.
module _ (P : ℕ → Type 0) (Q : Option ℕ → ℕ → Type 0) where
  abbrev Sits : LeafSeen → Type 0
  Sits leaf = Q leaf.dev leaf.top

  still_leaf : (v : Move) (number first : ℕ) (scan : ScanSeen) (leaf : LeafSeen) → IsOn P v → Sits leaf
      → Sits (leaf_step v number first scan leaf)
  still_leaf (Sets m own) number first scan leaf on q =
      either (λ t. Sits (cond t (record leaf { own = own }) leaf)) q q (leaf.guid.0 == m.0)
  still_leaf (Finds m d) number first scan leaf on q = absurd on
  still_leaf (Clear d) number first scan leaf on q =
      either (λ t. Sits (cond t (leaf_cleared scan.hi (scan.scrub d) leaf) leaf)) q q (on_dev (λ e. d == e) leaf.dev)
  still_leaf v number first scan leaf on q = q

  still_leaves : (v : Move) (s : PoolSeen) → IsOn P v → AllByRecursion Sits s.leaves
      → AllByRecursion Sits (leaves_step v s)
  still_leaves v s on all = all_map Sits (leaf_step v s.number s.group.first s.scan)
      (λ leaf q. still_leaf v s.number s.group.first s.scan leaf on q) s.leaves all

  still_step : (v : Move) (s : PoolSeen) → IsOn P v → AllByRecursion Sits s.leaves → AllByRecursion Sits (step v s).leaves
  still_step (Makes noted) s on all = all
  still_step (Puts a block) s on all = all
  still_step (Wrote_key k) s on all = all
  still_step Flushed_all s on all = all
  still_step (Starts draft) s on all = all
  still_step (Copies draft d) s on all = all
  still_step (Copied draft d) s on all = all
  still_step Scrubs s on all = all
  still_step (Shapes top children) s on all = all
  still_step (Finds m d) s on all = absurd on
  still_step (Comes i d m top own) s on all = absurd on
  still_step (Goes i) s on all = absurd on
  still_step (Returns i seat leaf) s on all = absurd on
  still_step (Scan_from hi eligible) s on all = all
  still_step (Pass k birth which) s on all = all
  still_step (Drop d) s on all = all
  still_step Rest s on all = all
  still_step v s on all = still_leaves v s on all

  pub still_steps : (vs : List Move) (s : PoolState) → AllByRecursion (IsOn P) vs → AllByRecursion Sits s.core.leaves
      → AllByRecursion Sits (steps vs s).core.leaves
  still_steps [] s on all = all
  still_steps (v ∷ vs) s on all = still_steps vs (state_step v s) on.1 (still_step v s.core on.0 all)

module _ (P : ℕ → Type 0) where
  abbrev On : List Move → Type 0
  On vs = AllByRecursion (IsOn P) vs

  -- each leaf's device is such a one
  abbrev pub IsSuch : Option ℕ → ℕ → Type 0
  IsSuch dev top = (d : ℕ) → dev ≡ Some d → P d

  abbrev pub AreSuch : List LeafSeen → Type 0
  AreSuch leaves = AllByRecursion (λ leaf. IsSuch leaf.dev leaf.top) leaves

  abbrev Seated : List Member → Type 0
  Seated ms = AllByRecursion (λ m. P m.dev) ms

  -- calls by what they ask
  on_asked : (call : Call) → IsAskOn P (ask_of call) → IsCallOn P call
  on_asked (Read dev at bytes fault) on = on
  on_asked (WriteCall dev at bytes fault) on = on
  on_asked (FlushCall dev fault) on = on
  on_asked (Admit dev holds) on = absurd on
  on_asked (Eject dev) on = absurd on

  pub on_asks : (made : List Noted) → AllByRecursion (IsAskOn P) (asks_of made) → AreCallsOn P made
  on_asks [] on = tt
  on_asks (noted ∷ made) on = (on_asked noted.call on.0, on_asks made on.1)

  on_part : (asks : List Ask) (made : List Noted) (outcome : Option Fault) → AllByRecursion (IsAskOn P) asks → IsPart asks made outcome
      → AreCallsOn P made
  on_part [] [] outcome on part = tt
  on_part [] (noted ∷ made) outcome on part = absurd part
  on_part (ask ∷ asks) [] outcome on part = absurd part
  on_part (ask ∷ asks) (noted ∷ made) outcome on part = (
    on_asked noted.call (subst (IsAskOn P) (sym part.0) on.0),
    ⊎_elim (λ going. on_part asks made outcome on.1 going.1) (λ stop. subst (AreCallsOn P) (sym stop.2) tt) part.1,
  )

  on_turn : (asks : List Ask) (was is : Bool) (made : List Noted) → AllByRecursion (IsAskOn P) asks → IsTurn asks was is made → AreCallsOn P made
  on_turn asks true is made on turn = on_part asks made turn.0 on turn.1
  on_turn asks false is made on turn = subst (AreCallsOn P) (sym turn.0) tt

  abbrev IsPlanOn : (Member → List Ask) → Type 0
  IsPlanOn plan = (m : Member) → P m.dev → AllByRecursion (IsAskOn P) (plan m)

  on_phase : (plan : Member → List Ask) → IsPlanOn plan → (ms : List Member) (was is : List Bool) (made : List Noted) → Seated ms
      → IsPhase plan ms was is made → AreCallsOn P made
  on_phase plan on [] [] [] made seated phase = subst (AreCallsOn P) (sym phase) tt
  on_phase plan on [] [] (c ∷ is) made seated phase = absurd phase
  on_phase plan on [] (b ∷ was) is made seated phase = absurd phase
  on_phase plan on (m ∷ ms) [] is made seated phase = absurd phase
  on_phase plan on (m ∷ ms) (b ∷ was) [] made seated phase = absurd phase
  on_phase plan on (m ∷ ms) (b ∷ was) (c ∷ is) made seated (mine, rest, whole, turn, more) = subst (AreCallsOn P) (sym whole)
      (all_append (λ noted. IsCallOn P noted.call) mine rest (on_turn (plan m) b c mine (on m seated.0) turn) (on_phase plan on ms was is rest seated.1 more))

  pub on_calls : (made : List Noted) → AreCallsOn P made → On (as_moves made)
  on_calls [] on = tt
  on_calls (noted ∷ made) on = (on.0, on_calls made on.1)

  -- plans
  on_labels : (dev : ℕ) (labels : List ℕ) (offset : ℕ) (bytes : List ℕ) → P dev → AllByRecursion (IsAskOn P) (label_writes dev labels offset bytes)
  on_labels dev [] offset bytes p = tt
  on_labels dev (at ∷ labels) offset bytes p = (p, on_labels dev labels offset bytes p)

  on_config : (dev : ℕ) (labels : List ℕ) (config : List ℕ) → P dev → AllByRecursion (IsAskOn P) (config_plan dev labels config)
  on_config dev labels config p = all_append (IsAskOn P) (label_writes dev labels config_offset config) (Flushes dev ∷ [])
      (on_labels dev labels config_offset config p) (p, tt)

  on_ring : (dev size : ℕ) (u : Uberblock) → P dev → AllByRecursion (IsAskOn P) (ring_plan dev size u)
  on_ring dev size u p = all_append (IsAskOn P) (label_writes dev (labels_of size) (ring_offset + slot_of u.number.0) (uberblock_bytes u)) (Flushes dev ∷ [])
      (on_labels dev (labels_of size) (ring_offset + slot_of u.number.0) (uberblock_bytes u) p) (p, tt)

  -- the board
  on_before : (t : Bool) (dev : Option ℕ) (m : Guid) (ms : List Member) → ((d : ℕ) → dev ≡ Some d → P d) → Seated ms → Seated (member_before t dev m ms)
  on_before true (Some d) m ms such seated = (such d refl, seated)
  on_before true None m ms such seated = seated
  on_before false dev m ms such seated = seated

  pub on_board : (which : LeafSeen → Bool) (leaves : List LeafSeen) → AreSuch leaves → Seated (members_where which leaves)
  on_board which [] such = tt
  on_board which (leaf ∷ leaves) such = on_before (which leaf) leaf.dev leaf.guid (members_where which leaves) such.0 (on_board which leaves such.1)

  -- moves that make no call
  on_widens : (s : PoolSeen) (vs : List Move) → AreWidens s vs → On vs
  on_widens s [] are = tt
  on_widens s (Widen m low high ∷ vs) are = (tt, on_widens (step (Widen m low high) s) vs are.2)
  on_widens s (v ∷ vs) are = absurd are

  pub on_widened : (s : PoolSeen) (v : Move) (vs : List Move) → IsOn P v → IsWidened s v vs → On vs
  on_widened s v vs on w = subst On (sym w.moves) (on, on_widens (step v s) w.widens w.are)

  on_leave : (s : PoolSeen) (ms : List Member) (results : List Bool) (vs : List Move) → AreLeaves s ms results vs → On vs
  on_leave s [] results vs are = subst On (sym are) tt
  on_leave s (m ∷ ms) [] vs are = subst On (sym are) tt
  on_leave s (m ∷ ms) (true ∷ results) vs are = on_leave s ms results vs are
  on_leave s (m ∷ ms) (false ∷ results) vs (first, rest, is, one, more) = subst On (sym is)
      (all_append (IsOn P) first rest (on_widened s (Leave m.dev) first tt one) (on_leave (seen_along first s) ms results rest more))

  on_failed : (found : Option LeafSeen) → On (sets_failed found)
  on_failed None = tt
  on_failed (Some leaf) = (tt, tt)

  on_counts : (leaves : List LeafSeen) (ms : List Member) (results : List Bool) → On (count_moves leaves ms results)
  on_counts leaves [] results = tt
  on_counts leaves (m ∷ ms) [] = tt
  on_counts leaves (m ∷ ms) (true ∷ results) = on_counts leaves ms results
  on_counts leaves (m ∷ ms) (false ∷ results) = all_append (IsOn P) (sets_failed (find (has_number m.guid) leaves)) (count_moves leaves ms results)
      (on_failed (find (has_number m.guid) leaves)) (on_counts leaves ms results)

  -- turns
  on_ended : (c : Bool) (draft : Draft) (d : ℕ) → On (ended c draft d)
  on_ended true draft d = (tt, tt)
  on_ended false draft d = tt

  on_third : (plan : Member → List Ask) → IsPlanOn plan → (draft : Draft) (ms : List Member) (was is : List Bool) (vs : List Move) → Seated ms
      → IsThirdMoves plan draft ms was is vs → On vs
  on_third plan on draft [] [] [] vs seated third = subst On (sym third) tt
  on_third plan on draft [] [] (c ∷ is) vs seated third = absurd third
  on_third plan on draft [] (b ∷ was) is vs seated third = absurd third
  on_third plan on draft (m ∷ ms) [] is vs seated third = absurd third
  on_third plan on draft (m ∷ ms) (b ∷ was) [] vs seated third = absurd third
  on_third plan on draft (m ∷ ms) (true ∷ was) (c ∷ is) vs seated (mine, rest, whole, turn, more) = subst On (sym whole) (
    tt,
    all_append (IsOn P) (as_moves mine) (ended c draft m.dev ++ rest) (on_calls mine (on_turn (plan m) true c mine (on m seated.0) turn))
        (all_append (IsOn P) (ended c draft m.dev) rest (on_ended c draft m.dev) (on_third plan on draft ms was is rest seated.1 more)),
  )
  on_third plan on draft (m ∷ ms) (false ∷ was) (c ∷ is) vs seated third = on_third plan on draft ms was is vs seated.1 third.1

  on_turn_moves : (s : PoolSeen) (made : List Noted) (ms : List Member) (results : List Bool) (leaving : List Move) (mark : Move) → IsOn P mark
      → AreCallsOn P made → AreLeaves s ms results leaving → On (turn_moves made leaving mark)
  on_turn_moves s made ms results leaving mark is on are = all_append (IsOn P) (as_moves made) (leaving ++ (mark ∷ [])) (on_calls made on)
      (all_append (IsOn P) leaving (mark ∷ []) (on_leave s ms results leaving are) (is, tt))

  on_write : (s : PoolSeen) (vs : List Move) → RowWriteTurn s vs → AreSuch s.leaves → On vs
  on_write s vs row such = let ms = board_under row.cell.top s.leaves in subst On (sym row.moves)
      (on_turn_moves s row.made ms row.results row.leaving (Wrote_key row.key) tt
      (on_phase (write_plan row.cell) (λ m p. (p, tt)) ms (map (λ m. true) ms) row.results row.made (on_board (is_on_under row.cell.top) s.leaves such) row.calls) row.leaves)

  on_flush : (s : PoolSeen) (vs : List Move) → RowFlushTurn s vs → AreSuch s.leaves → On vs
  on_flush s vs row such = let ms = board_of s.leaves in subst On (sym row.moves)
      (on_turn_moves s row.made ms row.results row.leaving Flushed_all tt
      (on_phase flush_plan (λ m p. (p, tt)) ms (map (λ m. true) ms) row.results row.made (on_board is_on s.leaves such) row.calls) row.leaves)

  on_round_end : (whole : Bool) (s : PoolSeen) (draft : Draft) (ms : List Member) (results : List Bool) (vs : List Move) → EndsRound whole s draft ms results vs
      → On vs
  on_round_end true s draft ms results vs is = subst On (sym is) (tt, tt)
  on_round_end false s draft ms results vs is = on_leave s ms results vs is

  on_round : (c : Codec) (size : ℕ → ℕ) (s : PoolSeen) (vs : List Move) (whole : Bool) → RowRound c size s vs whole → AreSuch s.leaves → On vs
  on_round c size s vs whole row such =
      let ms = board_of s.leaves in
      let seated : Seated ms = on_board is_on s.leaves such in
      let pre = round_moves row.draft row.first row.second row.thirds in
      subst On (sym row.moves) (all_append (IsOn P) pre row.ending (
        tt,
        all_append (IsOn P) (as_moves row.first) (as_moves row.second ++ row.thirds)
            (on_calls row.first (on_phase (first_plan size row.draft.commit) (λ m p. on_config m.dev (even_labels (size m.dev)) row.draft.commit.blob p) ms (map (λ m. true) ms) row.in_first row.first seated row.configs))
            (all_append (IsOn P) (as_moves row.second) row.thirds
            (on_calls row.second (on_phase (second_plan size row.draft.commit) (λ m p. on_ring m.dev (size m.dev) (uberblock_of row.draft.commit m) p) ms row.in_first row.in_second row.second seated row.uberblocks))
            (on_third (third_plan size row.draft.commit) (λ m p. on_config m.dev (odd_labels (size m.dev)) row.draft.commit.blob p) row.draft ms row.in_second row.results row.thirds seated row.copies)),
      ) (on_round_end whole (seen_along pre s) row.draft ms row.results row.ending row.ends))

  abbrev Holds : PoolState → List Move → Type 0
  Holds s vs = AreSuch s.core.leaves → On vs

  counted : (s : PoolState) (vs : List Move) (ms : List Member) (results : List Bool) → Holds s vs → Holds s (vs ++ count_moves s.core.leaves ms results)
  counted s vs ms results all such = all_append (IsOn P) vs (count_moves s.core.leaves ms results) (all such) (on_counts s.core.leaves ms results)

  parts : (c : Codec) (size : ℕ → ℕ) → HasParts c size (Unit {0}) Holds
  parts c size = record {
    none = λ s such. tt;
    more = λ s vs ws a b such. all_append (IsOn P) vs ws (a such) (b (still_steps P IsSuch vs s (a such) such));
    write = λ s vs row. counted s vs (board_under row.cell.top s.core.leaves) row.results (on_write s.core vs row);
    flush = λ s vs row. counted s vs (board_of s.core.leaves) row.results (on_flush s.core vs row);
    round = λ s vs whole row ack. counted s vs (board_of s.core.leaves) row.results (on_round c size s.core vs whole row);
    draw = λ s vs frozen is such. on_widened s.core Draw vs tt is;
  }

  burns : Unit {0} → (s : PoolState) (vs : List Move) → Holds s vs → (steps vs s).core.group.frozen ≡ true → Holds s (vs ++ (Burn ∷ []))
  burns u s vs all frozen such = all_append (IsOn P) vs (Burn ∷ []) (all such) (tt, tt)

  pub row_freeze_on : (c : Codec) (s : PoolState) (vs : List Move) → RowFreeze c s vs → Holds s vs
  row_freeze_on c s vs row such = on_widened s.core (Freeze row.cells (up_devs s.core.leaves)) vs tt row.moves

  -- The lines.
  pub turn_on : (c : Codec) (size : ℕ → ℕ) (s : PoolState) (vs : List Move) (reply : TurnReply) → RowTurn c size s vs reply → AreSuch s.core.leaves → On vs
  turn_on c size s vs reply row = turn_holds c size Holds (parts c size) (Unit {0}) burns s vs reply (λ lost. tt) row

  pub group_on : (c : Codec) (size : ℕ → ℕ) (s : PoolState) (vs : List Move) (reply : TurnReply) → EndsGroup c size s vs reply → AreSuch s.core.leaves → On vs
  group_on c size s vs reply ends = group_holds c size Holds (parts c size) (Unit {0}) burns s vs reply (λ lost. tt) ends

  pub freeze_on : (c : Codec) (s : PoolState) (vs : List Move) (reply : FreezeReply) → RowFreezeLine c s vs reply → On vs
  freeze_on c s vs reply row = by s.core.group.frozen row
    where
      for : (refusal : Option FreezeRefusal) → FreezeFor refusal c s vs reply → On vs
      for (Some refusal) row = subst On (sym row.0) tt
      for None row = on_widened s.core (Freeze row.0.cells (up_devs s.core.leaves)) vs tt row.0.moves

      by : (frozen : Bool) → FreezeBy frozen c s vs reply → On vs
      by true row = subst On (sym row.0) tt
      by false row = for row.0 row.2

  pub sync_on : (c : Codec) (size : ℕ → ℕ) (s : PoolState) (vs : List Move) (reply : SyncReply) → RowSync c size s vs reply → AreSuch s.core.leaves → On vs
  sync_on c size s vs reply row = sync_holds c size Holds (parts c size) (Unit {0}) burns (row_freeze_on c) s.core.group.frozen s vs reply (λ lost. tt) row

  pub put_on : (s : PoolState) (a : ℕ) (block : List ℕ) (vs : List Move) (reply : WriteReply) → RowWrite s a block vs reply → On vs
  put_on s a block vs reply (inl row) = subst On (sym row.1) tt
  put_on s a block vs reply (inr row) = by (nat_lt 4096 (count_below s.own.blocks (dirty_with a s))) row.1
    where
      fits : (short : Bool) (need free : ℕ) → WriteFits short need free a block vs reply → On vs
      fits true need free row = subst On (sym row.0) tt
      fits false need free row = subst On (sym row.0) (tt, tt)

      by : (full : Bool) → WriteBy full s a block vs reply → On vs
      by true row = subst On (sym row.0) tt
      by false row = fits (nat_lt row.0 (keys_needed s.own.blocks (written_with a s))) (keys_needed s.own.blocks (written_with a s)) row.0 row.2

  on_leave_if : (on : Bool) (dev : Option ℕ) (s : PoolSeen) (vs : List Move) → LeaveIf on dev s vs → On vs
  on_leave_if true (Some d) s vs is = on_widened s (Leave d) vs tt is
  on_leave_if true None s vs is = subst On (sym is) tt
  on_leave_if false dev s vs is = subst On (sym is) tt

  on_drop_if : (on : Bool) (dev : Option ℕ) → On (drop_if on dev)
  on_drop_if true (Some d) = (tt, tt)
  on_drop_if true None = tt
  on_drop_if false dev = tt

  pub offline_on : (s : PoolState) (name : List ℕ) (temporary : Bool) (vs : List Move) (reply : OfflineReply) → RowOffline s name temporary vs reply → On vs
  offline_on s name temporary vs reply row = by (leaf_named name s.core.leaves) row
    where
      leaf_by : (already : Bool) (leaf : LeafSeen) → OfflineLeaf already s leaf temporary vs reply → On vs
      leaf_by true leaf row = subst On (sym row.0) (tt, tt)
      leaf_by false leaf (inl row) = subst On (sym row.2) tt
      leaf_by false leaf (inr row) = let goes = row.1 in subst On (sym goes.moves)
          (all_append (IsOn P) (drops_leaf s.core.scan leaf) (goes.leaving ++ (Sets leaf.guid (gone temporary leaf.own) ∷ [])) (on_drop_if (on_dev s.core.scan.eligible leaf.dev) leaf.dev)
          (all_append (IsOn P) goes.leaving (Sets leaf.guid (gone temporary leaf.own) ∷ [])
          (on_leave_if leaf.on leaf.dev (seen_along (drops_leaf s.core.scan leaf) s.core) goes.leaving goes.leaves) (tt, tt)))

      here_by : (spare : Bool) (leaf : LeafSeen) → OfflineHere spare s leaf temporary vs reply → On vs
      here_by true leaf row = subst On (sym row.0) tt
      here_by false leaf row = leaf_by (is_offline leaf.own.mode) leaf row

      by : (found : Option LeafSeen) → OfflineBy found s name temporary vs reply → On vs
      by None row = subst On (sym row.0) tt
      by (Some leaf) row = here_by (is_spare s leaf) leaf row

-- Where no device will do, there is no call.
pub no_calls : (vs : List Move) → AllByRecursion (IsOn (λ d. ⊥)) vs → made_in vs ≡ []
no_calls [] on = refl
no_calls (Makes noted ∷ vs) on = absurd (none noted.call on.0)
  where
    none : (call : Call) → IsCallOn (λ d. ⊥) call → ⊥
    none (Read dev at bytes fault) on = on
    none (WriteCall dev at bytes fault) on = on
    none (FlushCall dev fault) on = on
    none (Admit dev holds) on = on
    none (Eject dev) on = on
no_calls (v ∷ vs) on = no_calls vs on.1
