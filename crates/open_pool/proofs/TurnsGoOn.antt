-- A turn brings its group nearer to its end, and leaves the leaves under their tops, on their devices.
use Rattle.std.proofs.Common.{◌≡◌, ℕ, zero, suc, ◌+◌, ◌-◌, ◌<◌, ◌^◌, cond, Bool, true, false, List, [], ◌∷◌, ◌++◌, length, Option, Some, None, Ok, Err, refl, sym, ap, ◌∙◌, subst, arith}
use Rattle.std.specs.Prelude.{All, Result, slice_get}
use Rattle.std.specs.List.{AllByRecursion}
use Rattle.std.specs.Result.{IsErrAnd}
use Rattle.std.proofs.lemmas.Bool.{true≢false}
use Rattle.std.proofs.lemmas.Bool.Decides.{nat_tests}
use Rattle.std.proofs.lemmas.List.Elements.{recursion_from_All, All-from_recursion}
use Rattle.mp_base.specs.declared.number.Guid.{Guid}
use Rattle.bank_core.specs.Asks.{Ask}
use Rattle.bank_core.specs.BankView.{BankView}
use Rattle.label_store.specs.declared.member.Member.{Member}
use Rattle.vdev_tree.specs.Leaf.{is_up}
use Rattle.vdev_tree.specs.declared.vdev.LeafVdev.{LeafVdev}
use Rattle.pool_config.specs.Seen.{ConfigSeen}
use Rattle.pool_codec.specs.Codecs.{pool_codec}
use Rattle.txg_history.specs.Turns.{write_plan, flush_plan}
use Rattle.txg_engine.specs.declared.close_turn.Closed.{Closed}
use Rattle.txg_engine.specs.declared.close_turn.Closed.TheVariants as closed
use Rattle.txg_engine.specs.declared.item.Item.{Item}
use Rattle.txg_engine.specs.declared.seat.Seat.{Seat}
use Rattle.txg_engine.specs.declared.seat.Suspended.{Suspended}
use Rattle.txg_engine.specs.Boards.{behind_turn, board_of, board_under, has_seat}
use Rattle.txg_engine.specs.Frozen.{FrozenGroup, IsGroup, is_written_out}
use Rattle.txg_engine.specs.Items.{cell_of}
use Rattle.txg_engine.specs.Logs.{is_off}
use Rattle.txg_engine.specs.Turns.{Answers, Scene, EndsRound, GoesOn, IsCloseTurnBy, IsSuspended, IsTold, IsTurnBy, Works, all_done, emptied_top}
use Rattle.txg_engine.proofs.TopsServed.{behind_seated}
use Rattle.open_pool.specs.declared.turn.TurnDone.{TurnDone}
use Rattle.open_pool.specs.declared.turn.TurnDone.TheVariants as done
use Rattle.open_pool.specs.Here.{AreHere, IsHere}
use Rattle.open_pool.specs.Parts.{TopParts}
use Rattle.open_pool.specs.State.{leaves_under, sectors_in}
use Rattle.open_pool.specs.Turning.{ClosesRound, FlushesBoard, IsDue, IsDueBy, WritesKey, answered, closed_as, goes_on, turns_left}
use Rattle.open_pool.proofs.BoardKept.{AreSameLeaves, same_leaves}
use Rattle.open_pool.proofs.LeavesByTops.{sizes, under_all}
use Rattle.open_pool.proofs.LeavesStay.{are_grown_like, behind_same, like_leaves, same_twice, settled_same}

abbrev pub is_idle : Result TurnDone Suspended → Bool
is_idle (Ok done.Idle) = true
is_idle result = false

-- a suspended group is told by some top of it
abbrev pub Tells : List Guid → FrozenGroup → Result TurnDone Suspended → Type 0
Tells tops group result = (why : Suspended) → result ≡ Err why → (top : ℕ) × IsTold tops group.numbers.first group.board top why

-- Behind a turn the leaves are the same, each top has its seats, and where the group goes on fewer turns are left. Something was done; and what is
-- told of a suspended group is told of a top of it.
pub record TurnsOn (tops : List Guid) (was is : FrozenGroup) (old new : List LeafVdev) (result : Result TurnDone Suspended) : Type 0 where
  pub same : AreSameLeaves old new
  pub seated : (top : ℕ) → has_seat top is.board ≡ has_seat top was.board
  pub told : Tells tops is result
  pub busy : is_idle result ≡ false
  pub fewer : goes_on result ≡ true → turns_left is < turns_left was

item_at : (items : List Item) (n : ℕ) → n < length items → (item : Item) × (slice_get items n ≡ Some item)
item_at [] n inside = absurd (omega (arith, inside))
item_at (item ∷ items) zero inside = (item, refl)
item_at (item ∷ items) (suc n) inside = item_at items n (omega (arith, inside))

busy_part : (outcome : Result (Unit {0}) Suspended) → (is_idle (answered done.Write outcome) ≡ false) × (is_idle (answered done.Flush outcome) ≡ false)
busy_part (Ok x) = (refl, refl)
busy_part (Err told) = (refl, refl)

busy_round : (outcome : Result Closed Suspended) → is_idle (closed_as outcome) ≡ false
busy_round (Ok (closed.Committed number)) = refl
busy_round (Ok (closed.Round number)) = refl
busy_round (Err told) = refl

err_stops : (of : TurnDone) (outcome : Result (Unit {0}) Suspended) (Told : Suspended → Type 0) → IsErrAnd outcome Told → goes_on (answered of outcome) ≡ false
err_stops of (Ok x) Told is = absurd is
err_stops of (Err told) Told is = refl

err_closes : (outcome : Result Closed Suspended) (Told : Suspended → Type 0) → IsErrAnd outcome Told → goes_on (closed_as outcome) ≡ false
err_closes (Ok x) Told is = absurd is
err_closes (Err told) Told is = refl

told_part : (of : TurnDone) (tops : List Guid) (group : FrozenGroup) (o : Option ℕ) (outcome : Result (Unit {0}) Suspended)
    → Answers tops group o outcome → Tells tops group (answered of outcome)
told_part of tops group o (Ok x) answers why is = absurd (let no : Ok of ≡ Err why = is in cc)
told_part of tops group None (Err told) answers why is = absurd (let no : false ≡ true = answers in cc)
told_part of tops group (Some top) (Err told) answers why is =
    (top, subst (IsTold tops group.numbers.first group.board top) (let same : Err told ≡ Err why = is in cc) answers)

told_round : (tops : List Guid) (group : FrozenGroup) (top : ℕ) (outcome : Result Closed Suspended) → IsErrAnd outcome (IsSuspended tops group top)
    → Tells tops group (closed_as outcome)
told_round tops group top (Ok x) answers why is = absurd answers
told_round tops group top (Err told) answers why is =
    (top, subst (IsTold tops group.numbers.first group.board top) (let same : Err told ≡ Err why = is in cc) answers)

module _ (tops : List Guid) (was is : FrozenGroup) (old new : List LeafVdev) (from to : BankView) (result : Result TurnDone Suspended) where
  abbrev before : Scene
  before = record { group = was; leaves = old; bank = from }

  abbrev after : Scene
  after = record { group = is; leaves = new; bank = to }

  -- nothing was done
  stays : after ≡ before → Tells tops was result → goes_on result ≡ false → is_idle result ≡ false → TurnsOn tops was is old new result
  stays still told off busy = record {
    seated = λ top. ap (λ (s : Scene). has_seat top s.group.board) still;
    told = subst (λ g. Tells tops g result) (sym (ap (λ (s : Scene). s.group) still)) told;
    busy = busy;
    same = subst (AreSameLeaves old) (sym (ap (λ (s : Scene). s.leaves) still)) (same_leaves old);
    fewer = λ on. absurd (true≢false (sym on ∙ off));
  }

  -- a part was done, behind which fewer are left
  works : (plan : Member → List Ask) (ms : List Member) (noted : FrozenGroup) → Works plan ms noted before after
      → ((board : List Seat) → turns_left (record noted { board = board }) < turns_left was) → Tells tops is result → is_idle result ≡ false → TurnsOn tops was is old new result
  works plan ms noted w less told busy = record {
    seated = λ top. ap (λ (g : FrozenGroup). has_seat top g.board) w.group ∙ behind_seated ms w.results top was.board;
    told = told;
    busy = busy;
    same = behind_same was.numbers ms w.results old new w.leaves;
    fewer = λ on. subst (λ g. turns_left g < turns_left was) (sym w.group) (less (behind_turn ms w.results was.board));
  }

  pub write_on : IsGroup was → is_written_out was ≡ false → WritesKey tops before after result → TurnsOn tops was is old new result
  write_on kept out w = by (emptied_top tops was) (w.turn item.0 item.1)
    where
      inside : was.written < length was.items
      inside = let within = kept.within in grind (arith, nat_tests, within, out)

      item : (item : Item) × (slice_get was.items was.written ≡ Some item)
      item = item_at was.items was.written inside

      by : (o : Option ℕ)
          → IsTurnBy o tops (write_plan (cell_of item.0)) (board_under item.0.pointer.place.top was.board) (record was { written = was.written + 1 }) before after w.outcome
          → TurnsOn tops was is old new result
      by (Some top) turn = stays turn.0 (subst (Tells tops was) (sym w.says) (told_part done.Write tops was (Some top) w.outcome turn.1))
          (ap goes_on w.says ∙ err_stops done.Write w.outcome (IsTold tops was.numbers.first was.board top) turn.1)
          (ap is_idle w.says ∙ (busy_part w.outcome).0)
      by None turn = works (write_plan (cell_of item.0)) (board_under item.0.pointer.place.top was.board) (record was { written = was.written + 1 }) turn.0
          (λ board. omega (arith, inside)) (subst (Tells tops is) (sym w.says) (told_part done.Write tops is (emptied_top tops is) w.outcome turn.1))
          (ap is_idle w.says ∙ (busy_part w.outcome).0)

  pub flush_on : was.flushed ≡ false → FlushesBoard tops before after result → TurnsOn tops was is old new result
  flush_on unflushed w = by (emptied_top tops was) w.turn
    where
      more : turns_left was ≡ (length was.items - was.written) + 1 + (2 ^ 62 - was.numbers.last.0)
      more = ap (λ t. (length was.items - was.written) + cond t 0 1 + (2 ^ 62 - was.numbers.last.0)) unflushed

      by : (o : Option ℕ) → IsTurnBy o tops flush_plan (board_of was.board) (record was { flushed = true }) before after w.outcome → TurnsOn tops was is old new result
      by (Some top) turn = stays turn.0 (subst (Tells tops was) (sym w.says) (told_part done.Flush tops was (Some top) w.outcome turn.1))
          (ap goes_on w.says ∙ err_stops done.Flush w.outcome (IsTold tops was.numbers.first was.board top) turn.1)
          (ap is_idle w.says ∙ (busy_part w.outcome).1)
      by None turn = works flush_plan (board_of was.board) (record was { flushed = true }) turn.0 (λ board. omega (arith, more))
          (subst (Tells tops is) (sym w.says) (told_part done.Flush tops is (emptied_top tops is) w.outcome turn.1))
          (ap is_idle w.says ∙ (busy_part w.outcome).1)

  pub round_on : IsGroup is → (c : ConfigSeen) → ClosesRound c tops before after result → TurnsOn tops was is old new result
  round_on kept c w = by (emptied_top tops was) w.turn
    where
      busy : is_idle result ≡ false
      busy = ap is_idle w.says ∙ busy_round w.outcome

      goes : (o : Option ℕ) (between : List LeafVdev) (board : List Seat) → AreSameLeaves old between
          → ((top : ℕ) → has_seat top board ≡ has_seat top was.board) → GoesOn o tops (record was { begun = true; board = board }) between after w.outcome → TurnsOn tops was is old new result
      goes (Some top) between board same seats end = record {
        busy = busy;
        seated = λ t. ap (λ (g : FrozenGroup). has_seat t g.board) end.0 ∙ seats t;
        told = subst (Tells tops is) (sym w.says) (subst (λ g. Tells tops g (closed_as w.outcome)) (sym end.0)
            (told_round tops (record was { begun = true; board = board }) top w.outcome end.2));
        same = subst (AreSameLeaves old) (sym end.1) same;
        fewer = λ on. absurd (true≢false (sym on ∙ ap goes_on w.says
            ∙ err_closes w.outcome (IsTold tops was.numbers.first board top) end.2));
      }
      goes None between board same seats end = record {
        busy = busy;
        seated = λ t. ap (λ (g : FrozenGroup). has_seat t g.board) end.0.group ∙ seats t;
        told = λ why err. absurd (let no : Ok (done.Round was.numbers.last) ≡ Err why = sym (w.says ∙ ap closed_as end.1) ∙ err in cc);
        same = same_twice old between new same
            (like_leaves between new (are_grown_like (is_off board) (was.numbers.last.0 + 1) (was.numbers.last.0 + 1) between new end.0.grown));
        fewer = λ on.
            let high = kept.high in
            let last = ap (λ (g : FrozenGroup). g.numbers.last.0) end.0.group in
            subst (λ g. turns_left g < turns_left was) (sym end.0.group) (omega (arith, high, last));
      }

      ends : (whole : Bool) (results : List Bool) → EndsRound whole tops results (record was { begun = true }) before after w.outcome → TurnsOn tops was is old new result
      ends true results end = record {
        busy = busy;
        seated = λ t. ap (λ (g : FrozenGroup). has_seat t g.board) end.0;
        told = λ why err. absurd (let no : Ok (done.Committed was.numbers.last) ≡ Err why = sym (w.says ∙ ap closed_as end.2) ∙ err in cc);
        same = settled_same old new end.1;
        fewer = λ on. absurd (true≢false (sym on ∙ ap goes_on (w.says ∙ ap closed_as end.2)));
      }
      ends false results end =
          let board = behind_turn (board_of was.board) results was.board in
          goes (emptied_top tops (record was { begun = true; board = board })) end.0 board
          (behind_same was.numbers (board_of was.board) results old end.0 end.1) (λ top. behind_seated (board_of was.board) results top was.board) end.2

      by : (o : Option ℕ) → IsCloseTurnBy o pool_codec.head_of w.commit tops before after w.outcome → TurnsOn tops was is old new result
      by (Some top) turn = stays turn.0 (subst (Tells tops was) (sym w.says) (told_round tops was top w.outcome turn.1)) (ap goes_on w.says ∙ err_closes w.outcome (IsTold tops was.numbers.first was.board top) turn.1) busy
      by None turn = ends (all_done turn.results) turn.results turn.ends

  -- so each turn
  pub turns_on : IsGroup was → IsGroup is → (c : ConfigSeen) → IsDue c tops before after result → TurnsOn tops was is old new result
  turns_on kept kept' c = by (is_written_out was) was.flushed refl refl
    where
      by : (out flushed : Bool) → is_written_out was ≡ out → was.flushed ≡ flushed → IsDueBy out flushed c tops before after result → TurnsOn tops was is old new result
      by false flushed out is w = write_on kept out w
      by true false out unflushed w = flush_on unflushed w
      by true true out is w = round_on kept' c w

-- Leaves that are the same, under tops of the same sizes and sectors, are here where they were.
pub here_still : (p q : List TopParts) → sizes (leaves_under q) ≡ sizes (leaves_under p) → sectors_in q ≡ sectors_in p
    → AreSameLeaves (under_all (leaves_under p)) (under_all (leaves_under q)) → (size : ℕ → ℕ) → AreHere size p → AreHere size q
here_still p q built sectors same size here = All-from_recursion (λ (top : TopParts). All (IsHere size top.sectors) top.leaves) q
    (go p q built sectors same (recursion_from_All (λ (top : TopParts). All (IsHere size top.sectors) top.leaves) p here))
  where
    one : (sectors : ℕ) (old new : List LeafVdev) (more more' : List LeafVdev) → length new ≡ length old → AreSameLeaves (old ++ more) (new ++ more')
        → AllByRecursion (IsHere size sectors) old → AllByRecursion (IsHere size sectors) new × AreSameLeaves more more'
    one s [] [] more more' long same all = (tt, same)
    one s [] (y ∷ new) more more' long same all = absurd (omega (arith, long))
    one s (x ∷ old) [] more more' long same all = absurd (omega (arith, long))
    one s (x ∷ old) (y ∷ new) more more' long same all =
        let rest = one s old new more more' (omega (arith, long)) same.1 all.1 in
        ((λ d up dev. all.0 d (ap is_up (sym same.0.state) ∙ up) (sym same.0.dev ∙ dev), rest.0), rest.1)

    go : (p q : List TopParts) → sizes (leaves_under q) ≡ sizes (leaves_under p) → sectors_in q ≡ sectors_in p
        → AreSameLeaves (under_all (leaves_under p)) (under_all (leaves_under q))
        → AllByRecursion (λ (top : TopParts). All (IsHere size top.sectors) top.leaves) p
        → AllByRecursion (λ (top : TopParts). All (IsHere size top.sectors) top.leaves) q
    go [] [] built sectors same all = tt
    go [] (y ∷ q) built sectors same all = absurd (cc)
    go (x ∷ p) [] built sectors same all = absurd (cc)
    go (x ∷ p) (y ∷ q) built sectors same all =
        let long : length y.leaves ≡ length x.leaves = cc in
        let rest : sizes (leaves_under q) ≡ sizes (leaves_under p) = cc in
        let sector : y.sectors ≡ x.sectors = cc in
        let others : sectors_in q ≡ sectors_in p = cc in
        let here = one x.sectors x.leaves y.leaves (under_all (leaves_under p)) (under_all (leaves_under q)) long same
        (recursion_from_All (IsHere size x.sectors) x.leaves all.0) in (
          subst (λ s. All (IsHere size s) y.leaves) (sym sector) (All-from_recursion (IsHere size x.sectors) y.leaves here.0),
          go p q rest others here.1 all.1,
        )
