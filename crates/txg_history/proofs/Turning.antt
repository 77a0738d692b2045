-- A write turn and the flush turn are allowed, whichever of their calls fail, and what they leave.
use Rattle.std.proofs.Common.{
  ◌≡◌,
  ◌≢◌,
  ℕ,
  zero,
  suc,
  ◌+◌,
  ◌-◌,
  ◌==◌,
  ◌&&◌,
  Bool,
  true,
  false,
  cond,
  List,
  [],
  ◌∷◌,
  ◌++◌,
  map,
  length,
  Some,
  refl,
  sym,
  ap,
  ◌∙◌,
  subst,
  inr,
  arith,
  append-nil,
}
use Rattle.std.specs.Prelude.{slice_get}
use Rattle.std.proofs.lemmas.Bool.{and_left, ne_eqb}
use Rattle.mp_base.specs.declared.place.Key.{Key}
use Rattle.bank_core.specs.Asks.{Ask, Flushes}
use Rattle.bank_core.specs.Disk.{Sector, Noted, run, covers, sectors_in, sector_of}
use Rattle.bank_core.proofs.Blocks.{block_sectors}
use Rattle.label_store.specs.declared.member.Member.{Member}
use Rattle.label_store.specs.Phases.{IsPhase}
use Rattle.label_store.specs.Seats.{AreApart}
use Rattle.label_store.proofs.Keeping.{no_member, others, turn_spares}
use Rattle.txg_history.specs.Events.{Event, Wrote, Flushed, Ends, calls_of, as_events}
use Rattle.txg_history.specs.Groups.{same_key}
use Rattle.txg_history.specs.Moves.{May, Mays}
use Rattle.txg_history.specs.Needs.{Held, Landed, IsPut, InPart, odd_part, NeedsPut}
use Rattle.txg_history.specs.Pages.{Codec}
use Rattle.txg_history.specs.Pools.{Pool, after, pool_after, seat, drawn}
use Rattle.txg_history.specs.Records.{Rec, Cell, data_start}
use Rattle.txg_history.specs.Labels.{Even}
use Rattle.txg_history.specs.Sparing.{AreSparing}
use Rattle.txg_history.specs.Survival.{Survives, IsKnownUber}
use Rattle.txg_history.specs.Turns.{AreJust, OnBoard, OnTop, write_plan, flush_plan, leavers, IsTurnEvents, IsWriteTurn, IsFlushTurn, TurnEnds}
use Rattle.txg_history.proofs.Folding.{with_calls, pool_more, calls_then, calls_more, calls_are, mays_more, mays_calls}
use Rattle.txg_history.proofs.Landing.{untouched_landed, untouched_held, phase_brings, write_lands, flush_holds}
use Rattle.txg_history.proofs.Leaving.{leavers_no_call, leavers_pool, leavers_may, without, left_before, left_good, board_behind, left_board_is, left_owes_is}
use Rattle.txg_history.proofs.Listing.{same_cell}
use Rattle.txg_history.proofs.RoundParts.{first_bytes}
use Rattle.txg_history.proofs.Sparing.{spared_lay, phase_may}
use Rattle.txg_history.proofs.Writing.{fresh_sparing}
use Rattle.label_store.specs.Records.{place_at}

-- The calls of a turn are the calls of a turn's events.
pub turn_marked : (plan : Member → List Ask) (mark : Event) (members : List Member) (results : List Bool) (made : List Noted) → calls_of (mark ∷ []) ≡ []
    → IsPhase plan members (map (λ m. true) members) results made → (vs : List Event) × (calls_of vs ≡ made) × IsTurnEvents plan mark members results vs
turn_marked plan mark members results made no_call ph = (
  as_events made ++ (leavers members results ++ (mark ∷ [])),
  calls_more (as_events made) (leavers members results ++ (mark ∷ [])) ∙ ap (λ l. l ++ calls_of (leavers members results ++ (mark ∷ []))) (calls_are made)
      ∙ ap (λ l. made ++ l) (calls_more (leavers members results) (mark ∷ []) ∙ ap (λ l. l ++ calls_of (mark ∷ []))
      (leavers_no_call members results) ∙ no_call) ∙ append-nil made,
  record { made = made; phase = ph; all = refl },
)

pub write_marked : (k : Key) (cell : Cell) (members : List Member) (results : List Bool) (made : List Noted) → IsPhase
    (write_plan cell) members (map (λ m. true) members) results made
    → (vs : List Event) × (calls_of vs ≡ made) × IsWriteTurn k cell members results vs
write_marked k cell members results made ph = turn_marked (write_plan cell) (Wrote k) members results made refl ph

pub flush_marked : (members : List Member) (results : List Bool) (made : List Noted) → IsPhase flush_plan members (map (λ m. true) members) results made
    → (vs : List Event) × (calls_of vs ≡ made) × IsFlushTurn members results vs
flush_marked members results made ph = turn_marked flush_plan Flushed members results made refl ph

-- the calls of a turn's events, and the pool behind them
turn_calls : (plan : Member → List Ask) (mark : Event) (members : List Member) (results : List Bool) (vs : List Event) → calls_of (mark ∷ []) ≡ []
    → (t : IsTurnEvents plan mark members results vs) → calls_of vs ≡ t.made
turn_calls plan mark members results vs no_call t =
    ap calls_of t.all ∙ calls_more (as_events t.made) (leavers members results ++ (mark ∷ [])) ∙ ap
    (λ l. l ++ calls_of (leavers members results ++ (mark ∷ []))) (calls_are t.made)
    ∙ ap (λ l. t.made ++ l) (calls_more (leavers members results) (mark ∷ []) ∙ ap (λ l. l ++ calls_of (mark ∷ []))
    (leavers_no_call members results) ∙ no_call) ∙ append-nil t.made

-- before its mark
abbrev turned : List Noted → List Member → List Bool → Pool → Pool
turned made members results p = without members results (with_calls made p)

turn_pool : (plan : Member → List Ask) (mark : Event) (members : List Member) (results : List Bool) (vs : List Event) (p : Pool)
    → (t : IsTurnEvents plan mark members results vs) → pool_after vs p ≡ after mark (turned t.made members results p)
turn_pool plan mark members results vs p t =
    ap (λ l. pool_after l p) t.all ∙ calls_then t.made (leavers members results ++ (mark ∷ [])) p
    ∙ pool_more (leavers members results) (mark ∷ []) (with_calls t.made p) ∙ ap (after mark) (leavers_pool members results (with_calls t.made p))

turn_may : (c : Codec) (plan : Member → List Ask) (mark : Event) (members : List Member) (results : List Bool) (vs : List Event) (p : Pool)
    → p.group.frozen ≡ true → (t : IsTurnEvents plan mark members results vs) → ((j : ℕ) (m : Member) → slice_get members j ≡ Some m → AreSparing p (plan m))
    → May c (turned t.made members results p) mark → Mays c p vs
turn_may c plan mark members results vs p frozen t spares may =
    subst (Mays c p) (sym t.all)
    (mays_calls c t.made (leavers members results ++ (mark ∷ [])) p (phase_may c plan members (map (λ m. true) members) results t.made p spares t.phase)
    (mays_more c (leavers members results) (mark ∷ []) (with_calls t.made p) (leavers_may c members results (with_calls t.made p) frozen)
    (subst (λ q. Mays c q (mark ∷ [])) (sym (leavers_pool members results (with_calls t.made p))) (may, tt))))

-- each member has a result
phase_result : (plan : Member → List Ask) (ms : List Member) (was is : List Bool) (made : List Noted) (i : ℕ) (m : Member) → slice_get ms i ≡ Some m
    → IsPhase plan ms was is made → (c : Bool) × (slice_get is i ≡ Some c)
phase_result plan [] was is made i m e p = absurd (no_member m e)
phase_result plan (n ∷ ms) [] is made i m e p = absurd p
phase_result plan (n ∷ ms) (b ∷ was) [] made i m e p = absurd p
phase_result plan (n ∷ ms) (b ∷ was) (c ∷ is) made zero m e p = (c, refl)
phase_result plan (n ∷ ms) (b ∷ was) (c ∷ is) made (suc i) m e p = phase_result plan ms was is p.1 i m e p.4

-- a member that is on the board behind a turn made its part
made_part : (p : Pool) (plan : Member → List Ask) (Which : ℕ → Type 0) (members : List Member) (results : List Bool)
    (made : List Noted) (d : ℕ) → AreJust p Which members
    → IsPhase plan members (map (λ m. true) members) results made → p.member d ≡ true → Which d → (turned made members results p).group.board d ≡ true
    → (i : ℕ) × (slice_get members i ≡ Some (seat p d)) × (slice_get results i ≡ Some true)
made_part p plan Which members results made d just ph is which on =
    let at = just.all d is which in
    let r = phase_result plan members (map (λ m. true) members) results made at.0 (seat p d) at.1 ph in
    (at.0, at.1, r.1 ∙ ap Some (left_good members results p.group.board d at.0 (seat p d) r.0 on at.1 refl r.1))

-- A write turn of a key that has yet to be written.
pub write_turn_may : (c : Codec) (p : Pool) (k : Key) (cell : Cell) (members : List Member) (results : List Bool) (vs : List Event)
    → Survives c p → p.group.frozen ≡ true → p.group.flushed ≡ false → p.group.cells k ≡ Some cell → p.group.done k ≡ false
    → AreJust p (OnTop p cell.top) members → AreApart members → IsWriteTurn k cell members results vs → Mays c p vs
write_turn_may c p k cell members results vs sv frozen unflushed at undone just apart t =
    turn_may c (write_plan cell) (Wrote k) members results vs p frozen t
    (λ j m e. fresh_sparing c p k cell m.dev sv frozen unflushed at undone (λ is. (just.seated j m e is).1.1))
    (record {
      frozen = frozen;
      not_flushed = unflushed;
      landed = λ d other is on at' top. subst (λ cell. Landed
          (run t.made p.sectors d (data_start + cell.sector)) cell.block) (same_cell cell other (sym at ∙ at'))
          (lands d is on (top ∙ ap (λ cell. cell.top) (same_cell other cell (sym at' ∙ at))));
    })
  where
    long : length cell.block ≡ 4096
    long = (sv.one_key.group_mapped frozen k cell at).long

    one : sectors_in cell.block ≡ 1
    one = block_sectors cell.block long

    first : (at : ℕ) → sector_of (at - at) cell.block ≡ cell.block
    first at = first_bytes (at - at) cell.block long (omega arith)

    lands : (d : ℕ) → p.member d ≡ true → (turned t.made members results p).group.board d ≡ true → p.in_top d ≡ cell.top
        → Landed (run t.made p.sectors d (data_start + cell.sector)) cell.block
    lands d is on top =
        let part = made_part p (write_plan cell) (OnTop p cell.top) members results t.made d just t.phase is
        (left_before members results p.group.board d on, top) on in
        phase_brings (write_plan cell) (λ y. Unit {0}) (λ y. Landed y cell.block) members
        (map (λ m. true) members) results t.made part.0 (seat p d) d (data_start + cell.sector)
        (p.sectors d (data_start + cell.sector)) part.1 part.2
        (λ j n e ne b r mine y turn u. tt)
        (λ j n e ne b r mine y turn l. untouched_landed mine d (data_start + cell.sector) y cell.block
        (turn_spares (write_plan cell n) b r mine d (data_start + cell.sector)
        (λ on. (elsewhere n (others members part.0 j (seat p d) n apart part.1 e ne), tt)) turn) l)
        (λ mine y whole u. write_lands d (data_start + cell.sector) cell.block mine y long one (first (data_start + cell.sector)) whole) t.phase tt
      where
        elsewhere : (n : Member) → n.dev ≢ d → ((n.dev == d) && covers (data_start + cell.sector) (sectors_in cell.block) (data_start + cell.sector)) ≡ false
        elsewhere n ne = and_left (n.dev == d) (covers (data_start + cell.sector) (sectors_in cell.block) (data_start + cell.sector)) (ne_eqb n.dev d ne)

pub flush_sparing : (p : Pool) (dev : ℕ) → AreSparing p (Flushes dev ∷ [])
flush_sparing p dev = record {
  plain = tt;
  firm = λ d s bytes is n. (refl, tt);
  soft = λ d s bytes is n. (refl, tt);
  true_to = λ r d k cell i is at top. spared_lay (λ bytes. bytes ≡ cell.block) (Flushes dev ∷ []) d (data_start + cell.sector) (refl, tt);
  known = λ d place is inside. spared_lay (IsKnownUber (drawn p) p.pool (seat p d)) (Flushes dev ∷ []) d (place_at (p.size d) place) (refl, tt);
}

put_landed : (f : Bool) (x : Sector) (b : List ℕ) → IsPut f x b → Landed x b
put_landed true x b h = inr h
put_landed false x b l = l

-- The flush turn, where each key was written.
pub flush_turn_may : (c : Codec) (p : Pool) (members : List Member) (results : List Bool) (vs : List Event)
    → Survives c p → p.group.frozen ≡ true → ((k : Key) (cell : Cell) → p.group.cells k ≡ Some cell → p.group.done k ≡ true)
    → AreJust p (OnBoard p) members → AreApart members → IsFlushTurn members results vs → Mays c p vs
flush_turn_may c p members results vs sv frozen all just apart t =
    turn_may c flush_plan Flushed members results vs p frozen t (λ j m e. flush_sparing p m.dev)
    (record { frozen = frozen; all = all; held = λ d s bytes is n. holds d s bytes is n })
  where
    holds : (d s : ℕ) (bytes : List ℕ) → p.member d ≡ true → NeedsPut (turned t.made members results p) d s bytes → Held (run t.made p.sectors d s) bytes
    holds d s bytes is n =
        let on = left_before members results p.group.board d n.on_board in
        let part = made_part p flush_plan (OnBoard p) members results t.made d just t.phase is on n.on_board in
        phase_brings flush_plan (λ y. Landed y bytes) (λ y. Held y bytes) members
        (map (λ m. true) members) results t.made part.0 (seat p d) d s (p.sectors d s) part.1 part.2
        (λ j m e ne b r mine y turn l. untouched_landed mine d s y bytes (turn_spares (flush_plan m) b r mine d s (λ on. (refl, tt)) turn) l)
        (λ j m e ne b r mine y turn h. untouched_held mine d s y bytes (turn_spares (flush_plan m) b r mine d s (λ on. (refl, tt)) turn) h)
        (λ mine y whole l. flush_holds d s bytes mine y whole l) t.phase
        (put_landed p.group.flushed (p.sectors d s) bytes (sv.puts d s bytes is (record {
          is_frozen = n.is_frozen;
          on_board = on;
          k = n.k;
          cell = n.cell;
          cell_is = n.cell_is;
          top_is = n.top_is;
          ended = n.ended;
          at = n.at;
        })))

turn_leaves : (p : Pool) (mark : Event) (made : List Noted) (members : List Member) (results : List Bool) (done : Key → Bool) (flushed : Bool)
    → after mark (turned made members results p) ≡ record
    (turned made members results p) {
      group = record
          ((turned made members results p).group) { done = done; flushed = flushed };
    }
    → TurnEnds p (after mark (turned made members results p)) members results done flushed made
turn_leaves p mark made members results done flushed e = subst (λ q. TurnEnds p q members results done flushed made) (sym e) (record {
  name = refl;
  pool = refl;
  member = refl;
  guid = refl;
  size = refl;
  room = refl;
  home = refl;
  sectors = refl;
  since = refl;
  copies = refl;
  acked = refl;
  acks = refl;
  live = refl;
  given = refl;
  missed = refl;
  reads = refl;
  opened = refl;
  written = refl;
  highest = refl;
  status = refl;
  in_top = refl;
  unbroken = refl;
  settled = refl;
  pinned = refl;
  scan = refl;
  frozen = refl;
  first = refl;
  cells = refl;
  content = refl;
  fresh = refl;
  begun = refl;
  done_is = refl;
  flushed_is = refl;
  owes_is = λ d g. left_owes_is p.group.first p.highest members results p.owes d g;
  board_is = λ d. left_board_is members results p.group.board d;
  board = board_behind members results p.group.board;
})

-- What a turn leaves.
pub write_turn_ends : (p : Pool) (k : Key) (cell : Cell) (members : List Member) (results : List Bool) (vs : List Event) → IsWriteTurn k cell members results vs
    → TurnEnds p (pool_after vs p) members results (λ j. cond (same_key k j) true (p.group.done j)) p.group.flushed (calls_of vs)
write_turn_ends p k cell members results vs t =
    subst (λ q. TurnEnds p q members results (λ j. cond (same_key k j) true (p.group.done j)) p.group.flushed
    (calls_of vs)) (sym (turn_pool (write_plan cell) (Wrote k) members results vs p t))
    (subst (TurnEnds p (after (Wrote k) (turned t.made members results p)) members results (λ j. cond (same_key k j) true (p.group.done j)) p.group.flushed)
    (sym (turn_calls (write_plan cell) (Wrote k) members results vs refl t)) (turn_leaves p (Wrote k) t.made members results _ _ refl))

pub flush_turn_ends : (p : Pool) (members : List Member) (results : List Bool) (vs : List Event) → IsFlushTurn members results vs
    → TurnEnds p (pool_after vs p) members results p.group.done true (calls_of vs)
flush_turn_ends p members results vs t =
    subst (λ q. TurnEnds p q members results p.group.done true (calls_of vs)) (sym (turn_pool flush_plan Flushed members results vs p t))
    (subst (TurnEnds p (after Flushed (turned t.made members results p)) members results p.group.done true)
    (sym (turn_calls flush_plan Flushed members results vs refl t)) (turn_leaves p Flushed t.made members results _ _ refl))

-- A flush turn makes good a third phase that a failed call had cut, where label 1's configuration had been written.
pub flush_mends : (c : Codec) (p : Pool) (members : List Member) (results : List Bool) (vs : List Event) (i d : ℕ) (q : Rec) → IsFlushTurn members results vs
    → slice_get members i ≡ Some (seat p d) → slice_get results i ≡ Some true → p.status d ≡ Even q
    → ((s : ℕ) (bytes : List ℕ) → InPart odd_part q s bytes → Landed (p.sectors d s) bytes) → May c (pool_after vs p) (Ends q d)
flush_mends c p members results vs i d q t at on even landed =
    subst (λ x. May c x (Ends q d)) (sym (turn_pool flush_plan Flushed members results vs p t)) (λ is. record { began = even; held = holds })
  where
    holds : (s : ℕ) (bytes : List ℕ) → InPart odd_part q s bytes → Held (run t.made p.sectors d s) bytes
    holds s bytes part =
        phase_brings flush_plan (λ y. Landed y bytes) (λ y. Held y bytes) members
        (map (λ m. true) members) results t.made i (seat p d) d s (p.sectors d s) at on
        (λ j m e ne b r mine y turn l. untouched_landed mine d s y bytes (turn_spares (flush_plan m) b r mine d s (λ on. (refl, tt)) turn) l)
        (λ j m e ne b r mine y turn h. untouched_held mine d s y bytes (turn_spares (flush_plan m) b r mine d s (λ on. (refl, tt)) turn) h)
        (λ mine y whole l. flush_holds d s bytes mine y whole l) t.phase (landed s bytes part)
