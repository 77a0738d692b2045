-- The stamps and the first commit of a pool that is begun, and what they answer.
use Rattle.std.proofs.Common.{◌≡◌, ◌⊎◌, ℕ, ◌<◌, ◌≤◌, ◌^◌, Bool, true, false, List, [], ◌∷◌, ◌++◌, length, map, Some, None, Option, Result, Ok, Err, refl, sym, ap, ◌∙◌, subst, arith, append-nil}
use mathlib.Core.Path.{fun_ext}
use Rattle.std.specs.Prelude.{All, IsErrAnd, IsTrue, slice_get}
use Rattle.std.specs.List.{AllZip}
use Rattle.std.proofs.lemmas.Bool.{true≢false}
use Rattle.std.proofs.lemmas.List.{length-map}
use Rattle.std.proofs.lemmas.List.Elements.{All-from_recursion}
use Rattle.mp_base.specs.Name.{is_name}
use Rattle.mp_base.specs.declared.number.Group.{Group}
use Rattle.mp_base.specs.declared.number.Guid.{Guid}
use Rattle.bank_core.specs.BankView.{BankView}
use Rattle.bank_core.specs.Calls.{Makes}
use Rattle.bank_core.proofs.Framing.{makes_more}
use Rattle.label_store.specs.Rounds.{third_plan}
use Rattle.label_store.specs.Seats as seats
use Rattle.label_store.specs.declared.member.Member.{Member}
use Rattle.block_map.specs.Keys.{root}
use Rattle.block_map.specs.Map.{Map, pointer_at}
use Rattle.vdev_tree.specs.Tree.{marks}
use Rattle.vdev_tree.specs.declared.top.Top.{Top}
use Rattle.vdev_tree.specs.declared.vdev.LeafVdev.{LeafVdev}
use Rattle.dtl_rules.specs.Widening.{leaves_of, marks_of, sectors_of}
use Rattle.mp_base.specs.declared.place.Pointer.{Pointer}
use Rattle.pool_config.specs.Seen.{ConfigSeen, parts_seen, top_seen}
use Rattle.pool_config.specs.Validity.{IsHole, IsPlaced, IsValid}
use Rattle.txg_engine.specs.Items.{laid}
use Rattle.pool_codec.specs.Codecs.{pool_codec}
use Rattle.txg_engine.specs.declared.close_turn.Closed.{Closed}
use Rattle.txg_engine.specs.declared.seat.Numbers.{Numbers}
use Rattle.txg_engine.specs.declared.seat.Seat.{Seat}
use Rattle.txg_engine.specs.declared.seat.Suspended.{Suspended}
use Rattle.txg_engine.specs.Boards.{behind_turn, board_of, emptied, member_of}
use Rattle.txg_engine.specs.Ending.{IsAdopted}
use Rattle.txg_engine.specs.Frozen.{AreSeated, FrozenGroup, IsGroup}
use Rattle.txg_engine.specs.Logs.{AreBehind, IsReady, IsSettled}
use Rattle.txg_engine.specs.Pins.{PinsSeen}
use Rattle.txg_engine.specs.Turns.{EndsRound, GoesOn, IsCloseTurnBy, MakesRound, Scene, all_done, emptied_top, numbers_of}
use Rattle.txg_engine.specs.Writes.{RiseFrom}
use Rattle.txg_engine.proofs.Closing.{seated_members}
use Rattle.pool_moves.specs.FreezeRow.{RowEmptyFreeze}
use Rattle.pool_moves.specs.Moves.{Move, Flushed_all, steps}
use Rattle.pool_moves.specs.ReadRow.{made_in}
use Rattle.pool_moves.specs.StampRow.{CommitsFirst, CreateReply, Created, FaultOn, NewMember, calls_of_stamps, name_in, new_leaves, new_state, next_from}
use Rattle.pool_moves.specs.States.{PoolState}
use Rattle.open_pool.specs.declared.create.Begun.{Begun}
use Rattle.open_pool.specs.declared.turn.TurnDone.{TurnDone}
use Rattle.open_pool.specs.declared.turn.TurnDone.TheVariants as done
use Rattle.open_pool.specs.Creating.{AreSeatsOf, Creates, IsAsked, IsCreatedAs, IsBegun, Stamps, StampsSeats, first_off}
use Rattle.open_pool.specs.Form.{IsPool}
use Rattle.open_pool.specs.Freezing.{FreezeParts}
use Rattle.open_pool.specs.Here.{AreHere}
use Rattle.open_pool.specs.Parts.{PoolParts, all_parts}
use Rattle.open_pool.specs.State.{Stands, own_state, state_of}
use Rattle.open_pool.specs.Turning.{ClosesRound, closed_as, is_committed_turn}
use Rattle.open_pool.proofs.BoardKept.{AreSameLeaves}
use Rattle.open_pool.proofs.DraftFits.{drawn_of}
use Rattle.open_pool.proofs.DraftValid.{drawn_valid, root_placed}
use Rattle.open_pool.proofs.FreezeSteps as freeze_steps
use Rattle.open_pool.proofs.GoingKept.{root_kept}
use Rattle.open_pool.proofs.GroupEnds.{acknowledged_kept}
use Rattle.open_pool.proofs.LeavesStay.{settled_same}
use Rattle.open_pool.proofs.NewAsked.{here_asked}
use Rattle.open_pool.proofs.NewForm as form
use Rattle.open_pool.proofs.NewForm.{new_parts}
use Rattle.open_pool.proofs.NewRound as round
use Rattle.open_pool.proofs.NewRound.{FirstCommit}
use Rattle.open_pool.proofs.NewSeats.{all_on, each_seat, first_fails, leaves_rise, named_so, phase_long, seats_shown}
use Rattle.open_pool.proofs.NewState as state
use Rattle.open_pool.proofs.PlacesEnd.{acknowledged, adopted_apart, adopted_pins, adopted_places}
use Rattle.open_pool.proofs.SeatedHere.{seated_here}
use Rattle.open_pool.proofs.StatesStand.{stands_there}
use Rattle.open_pool.proofs.TurnOfPool.{trees_here}
use Rattle.open_pool.proofs.TurnSteps.{going}
use Rattle.open_pool.proofs.TurnSuspended.{same_numbers}

-- A pool that was created, as its code has it.
abbrev pub as_pool : Begun → Guid → Map → PinsSeen → (number next : ℕ) → List Top → (spares : List (List ℕ)) → PoolParts
as_pool begun pool m pins number next tops spares = record {
  name = begun.name;
  pool = pool;
  next = next;
  highest = number;
  read = number;
  opened = true;
  map = m;
  pins = pins;
  tops = all_parts tops;
  spares = spares;
  unfrozen = begun.unfrozen;
  frozen = None;
  scan = None;
  dirty = 0;
}

pub record IsMade (from to : BankView) (blocks : ℕ) (asked : List (List NewMember)) (begun : Begun) (pool : Guid) (m : Map) (pins : PinsSeen) (number : Group)
    (tops : List Top) (spares : List (List ℕ)) : Type 0 where
  pub row : Creates begun.name pool blocks asked (Ok (as_pool begun pool m pins number.0 begun.next tops spares)) from to
  pub formed : IsPool (as_pool begun pool m pins number.0 begun.next tops spares)
  pub here : AreHere to.size (all_parts tops)

abbrev as_parts : Begun → FreezeParts
as_parts begun = record { unfrozen = begun.unfrozen; map = begun.map; pins = begun.pins; trees = begun.tops.items }

is_shown : (begun : Begun) (pool : Guid) (m : Map) (pins : PinsSeen) (group : FrozenGroup) (drawn : ℕ) (after : List Top)
    (number next : ℕ) (tops : List Top) (spares : List (List ℕ)) → begun.unfrozen.writes ≡ [] → group.numbers.last.0 ≡ number → next ≡ drawn → tops ≡ after
    → spares ≡ [] → acknowledged (new_parts begun.name pool drawn (as_parts begun)) group m pins after ≡ as_pool begun pool m pins number next tops spares
is_shown begun pool m pins group drawn after number next tops spares empty last next_is trees listed =
    ap (λ n. record (acknowledged (new_parts begun.name pool drawn (as_parts begun)) group m pins after) { dirty = n }) (ap length empty)
    ∙ ap (λ n. as_pool begun pool m pins n drawn after []) last
    ∙ ap (λ n. as_pool begun pool m pins number n after []) (sym next_is)
    ∙ ap (λ ts. as_pool begun pool m pins number next ts []) (sym trees)
    ∙ ap (as_pool begun pool m pins number next tops) (sym listed)

number_told : (a b : Group) (r : Result TurnDone Suspended) → r ≡ Ok (done.Committed a) → r ≡ Ok (done.Committed b) → a ≡ b
number_told a b r one other = cc

-- Each leaf has a seat, whose device may be stamped.
module _ (from : BankView) (blocks : ℕ) (asked : List (List NewMember)) (begun : Begun) (is : IsAsked from.size blocks asked)
    (b : IsBegun from.size begun.name blocks asked begun) where
  pub seats_are : AreSeatsOf (new_leaves asked) begun.frozen.board
  seats_are = subst (AreSeatsOf (new_leaves asked)) (sym b.freezes.begins.board) (seats_shown from.size 0 1 1 asked b.was.trees b.tops)

  pub stampable : All (λ seat. 320 ≤ from.size seat.member.dev) begun.frozen.board
  stampable = All-from_recursion (λ (seat : Seat). 320 ≤ from.size seat.member.dev) begun.frozen.board
      (each_seat (λ d. 320 ≤ from.size d) (new_leaves asked) begun.frozen.board seats_are is.is_new.big)

module _ (from : BankView) (blocks : ℕ) (asked : List (List NewMember)) (begun : Begun) (pool : Guid) (is : IsAsked from.size blocks asked)
    (b : IsBegun from.size begun.name blocks asked begun) (named : IsTrue (is_name begun.name)) (in_range : pool.0 < 2 ^ 64) where
  abbrev new : FreezeParts
  new = record { unfrozen = begun.unfrozen; map = begun.map; pins = begun.pins; trees = begun.tops.items }

  abbrev pub flushed : FrozenGroup
  flushed = record (begun.frozen) { flushed = true }

  abbrev pub parts : PoolParts
  parts = new_parts begun.name pool (next_from 1 asked) new

  abbrev s : PoolState
  s = new_state from.size begun.name pool blocks asked

  pub itemless : begun.frozen.items ≡ []
  itemless = form.itemless from.size begun.name pool blocks asked b.was new begun.frozen is b.tops b.map b.unwritten b.unpinned b.freezes named in_range

  pub is_pool : IsPool (going parts flushed begun.tops.items)
  is_pool = form.is_pool from.size begun.name pool blocks asked b.was new begun.frozen is b.tops b.map b.unwritten b.unpinned b.freezes named in_range

  same : AreSameLeaves (leaves_of b.was.trees) (leaves_of begun.tops.items)
  same = freeze_steps.same_leaves_then (new_parts begun.name pool (next_from 1 asked) b.was) b.was new begun.frozen b.freezes
      (form.form from.size begun.name pool blocks asked b.was new begun.frozen is b.tops b.map b.unwritten b.unpinned b.freezes named in_range) (omega arith)

  pub here : AreHere from.size (all_parts begun.tops.items)
  here = trees_here b.was.trees begun.tops.items b.freezes.built b.freezes.sectors same from.size (here_asked from.size blocks asked b.was.trees is b.tops)

  abbrev freeze_moves : List Move
  freeze_moves = state.first from.size begun.name pool blocks asked b.was new begun.frozen is b.tops b.map b.unwritten b.unpinned b.freezes named in_range

  freezes : RowEmptyFreeze s freeze_moves
  freezes = state.freezes from.size begun.name pool blocks asked b.was new begun.frozen is b.tops b.map b.unwritten b.unpinned b.freezes named in_range

  leads : steps (freeze_moves ++ (Flushed_all ∷ [])) s ≡ state_of [] (going parts flushed begun.tops.items)
  leads = state.leads from.size begun.name pool blocks asked b.was new begun.frozen is b.tops b.map b.unwritten b.unpinned b.freezes named in_range

  own_is : s.own ≡ own_state (going parts flushed begun.tops.items)
  own_is = state.own_is from.size begun.name pool blocks asked b.was new begun.frozen is b.tops b.map b.unwritten b.unpinned b.freezes named in_range

  quiet : made_in (freeze_moves ++ (Flushed_all ∷ [])) ≡ []
  quiet = state.quiet from.size begun.name pool blocks asked b.was new begun.frozen is b.tops b.map b.unwritten b.unpinned b.freezes named in_range

  full : emptied_top (numbers_of begun.tops.items) flushed ≡ None
  full =
      let many = length-map begun.tops.items (λ (top : Top). marks top.mirror) in
      let were = length-map b.was.trees (λ (top : Top). marks top.mirror) in
      let built = ap length b.freezes.built in
      ap (λ n. emptied n begun.frozen.board) (numbers_long begun.tops.items ∙ (let long : length begun.tops.items ≡ length b.was.trees = omega (arith, many, were, built) in long))
      ∙ ap (emptied (length b.was.trees)) b.freezes.begins.board ∙ b.freezes.begins.everywhere
    where
      numbers_long : (tops : List Top) → length (numbers_of tops) ≡ length tops
      numbers_long [] = refl
      numbers_long (top ∷ tops) = let rest = numbers_long tops in omega (arith, rest)

  -- A stamp failed.
  pub stamp_fails : (to : BankView) (place : ℕ) → StampsSeats pool begun.frozen.board (Err place) from to → Creates begun.name pool blocks asked (Err place) from to
  stamp_fails to place told =
      let (leaf, at, stamped) = told (new_leaves asked) (seats_are from blocks asked begun is b) in
      record {
        stamps = stamped.stamps;
        moves = [];
        reply = FaultOn leaf.name;
        row = record { is_new = is.is_new; in_range = in_range; failed = Some leaf; are = stamped.are; ends = (refl, refl) };
        calls = subst (λ l. Makes l from to) (sym (append-nil (calls_of_stamps stamped.stamps))) stamped.calls;
        says_so = (leaf, at, refl);
      }

  module _ (kept : IsGroup flushed) where
    pub seated : AreSeated from.size (sectors_of begun.tops.items) flushed
    seated = seated_here from.size parts flushed begun.tops.items is_pool kept here

    pub valid : IsValid (drawn_of parts flushed begun.tops.items)
    valid = drawn_valid parts flushed begun.tops.items is_pool kept

    -- All were stamped, and the round was made.
    module _ (mid to : BankView) (stamped : Stamps pool (new_leaves asked) None from mid) (group : FrozenGroup) (after : List Top)
        (result : Result TurnDone Suspended) (built : marks_of after ≡ marks_of begun.tops.items) (sectors : sectors_of after ≡ sectors_of begun.tops.items)
        (closes : ClosesRound (drawn_of parts flushed begun.tops.items) (numbers_of after)
        (record { group = flushed; leaves = leaves_of begun.tops.items; bank = mid }) (record { group = group; leaves = leaves_of after; bank = to }) result) where
      sizes : mid.size ≡ from.size
      sizes = fun_ext stamped.calls.frame.sizes

      abbrev before : Scene
      before = record { group = flushed; leaves = leaves_of begun.tops.items; bank = mid }

      abbrev behind : Scene
      behind = record { group = group; leaves = leaves_of after; bank = to }

      makes_round : MakesRound pool_codec.head_of closes.commit (numbers_of after) before behind closes.outcome
      makes_round = subst (λ o. IsCloseTurnBy o pool_codec.head_of closes.commit (numbers_of after) before behind closes.outcome)
          (ap (λ l. emptied_top l flushed) (same_numbers begun.tops.items after built) ∙ full) closes.turn

      abbrev results : List Bool
      results = makes_round.results

      seated_now : AreSeated mid.size (sectors_of begun.tops.items) flushed
      seated_now = subst (λ (f : ℕ → ℕ). AreSeated f (sectors_of begun.tops.items) flushed) (sym sizes) seated

      -- a first commit is what the row has behind the stamps
      creates : (reply : CreateReply) (answer : Result PoolParts ℕ) (c : FirstCommit mid.size s reply makes_round.commits.made)
          → IsCreatedAs (new_leaves asked) reply (steps c.moves s) answer
          → Creates begun.name pool blocks asked answer from to
      creates reply answer c says = record {
        stamps = stamped.stamps;
        moves = c.moves;
        reply = reply;
        row = record {
          is_new = is.is_new;
          in_range = in_range;
          failed = None;
          are = stamped.are;
          ends = subst (λ (f : ℕ → ℕ). CommitsFirst pool_codec f s c.moves reply) sizes c.commits;
        };
        calls = makes_more stamped.calls (subst (λ l. Makes l mid to) (sym c.calls) makes_round.commits.calls);
        says_so = says;
      }

      abbrev ms : List Member
      ms = board_of begun.frozen.board

      commit_seated : seats.AreSeated mid.size (board_of begun.frozen.board)
      commit_seated = seated_members mid.size (sectors_of begun.tops.items) begun.frozen.board (board_of begun.frozen.board) refl seated_now.seats

      long : length results ≡ length begun.frozen.board
      long = phase_long (third_plan mid.size closes.commit) (board_of begun.frozen.board) makes_round.commits.round.in_second results
          makes_round.commits.round.third makes_round.commits.round.copies
          ∙ ap length (all_on (new_leaves asked) begun.frozen.board (seats_are from blocks asked begun is b)) ∙ length-map begun.frozen.board member_of

      -- A leaf failed in it.
      fails_so : all_done results ≡ false → (between : List LeafVdev)
          → AreBehind flushed.numbers (board_of begun.frozen.board) results (leaves_of begun.tops.items) between
          → group.board ≡ behind_turn (board_of begun.frozen.board) results begun.frozen.board
          → Creates begun.name pool blocks asked (Err (first_off group.board)) from to
      fails_so failed between is_behind board =
          let first = first_fails 1 (new_leaves asked) begun.frozen.board results (leaves_rise 1 1 asked) (seats_are from blocks asked begun is b) long failed in
          let name = named_so 1 (new_leaves asked) (first_off (behind_turn (board_of begun.frozen.board) results begun.frozen.board)) first.leaf
          (leaves_rise 1 1 asked) first.there in
          creates (FaultOn (name_in s.core.leaves first.leaf.guid)) (Err (first_off group.board))
          (round.fails mid.size s freeze_moves freezes parts flushed begun.tops.items leads own_is quiet is_pool kept refl full commit_seated closes.commit closes.draws
          makes_round.commits.made results makes_round.commits.round makes_round.commits.round.all failed between is_behind first.leaf.guid first.fails)
          (first.leaf, ap (λ l. slice_get (new_leaves asked) (first_off l)) board ∙ first.there, sym name)

      goes_so : (top : Option ℕ) → all_done results ≡ false → (between : List LeafVdev)
          → AreBehind flushed.numbers (board_of begun.frozen.board) results (leaves_of begun.tops.items) between
          → GoesOn top (numbers_of after) (record flushed { begun = true; board = behind_turn (board_of begun.frozen.board) results begun.frozen.board }) between behind
          closes.outcome
          → Creates begun.name pool blocks asked (Err (first_off group.board)) from to
      goes_so (Some top) failed between is_behind ends = fails_so failed between is_behind (ap (λ (g : FrozenGroup). g.board) ends.0)
      goes_so None failed between is_behind ends = fails_so failed between is_behind (ap (λ (g : FrozenGroup). g.board) ends.0.group)

      fails_by : (whole : Bool) → all_done results ≡ whole
          → EndsRound whole (numbers_of after) results (record flushed { begun = true }) before behind closes.outcome → is_committed_turn result ≡ false
          → Creates begun.name pool blocks asked (Err (first_off group.board)) from to
      fails_by true whole ends unacked = absurd (true≢false (sym (ap is_committed_turn (closes.says ∙ ap closed_as ends.2)) ∙ unacked))
      fails_by false failed ends unacked = goes_so _ failed ends.0 ends.1 ends.2

      -- It wasn't acknowledged: no pool is there.
      pub round_fails : is_committed_turn result ≡ false → Creates begun.name pool blocks asked (Err (first_off group.board)) from to
      round_fails unacked = fails_by (all_done results) refl makes_round.ends unacked

      -- It was: the map becomes the record's.
      module _ (m : Map) (pins : PinsSeen) (adopted : IsAdopted begun.frozen.items begun.pins.places begun.map m) (none : pins.places ≡ []) where
        pub record IsCommitted : Type 0 where
          pub row : Creates begun.name pool blocks asked (Ok (acknowledged parts flushed m pins after)) from to
          pub formed : IsPool (acknowledged parts flushed m pins after)
          pub here : AreHere to.size (all_parts after)
          pub answer : result ≡ Ok (done.Committed flushed.numbers.last)

        settled : all_done results ≡ true → AllZip IsSettled (leaves_of begun.tops.items) (leaves_of after)
            → result ≡ Ok (done.Committed flushed.numbers.last) → IsCommitted
        settled whole settles answer =
            let (c, leads_to) = round.commits mid.size s freeze_moves freezes parts flushed begun.tops.items leads own_is quiet is_pool kept refl full commit_seated
            closes.commit closes.draws makes_round.commits.made results makes_round.commits.round makes_round.commits.round.all whole after m pins adopted none built sectors
            settles in
            let placed = subst (λ (r : Pointer). IsHole r ⊎ IsPlaced flushed.numbers.last (map top_seen after) r) (sym (adopted.keys root))
            (root_kept flushed.numbers.last flushed.numbers.last begun.tops.items after (laid flushed.items (pointer_at begun.map) root) (omega arith) sectors
            (root_placed parts flushed begun.tops.items is_pool kept)) in
            record {
              row = creates Created (Ok (acknowledged parts flushed m pins after)) c
                  (subst (Stands (acknowledged parts flushed m pins after)) (sym leads_to) (stands_there [] (acknowledged parts flushed m pins after)
                  (adopted_pins parts flushed begun.tops.items is_pool.places is_pool.apart kept.rise m pins after kept.low is_pool.group.signed adopted none)));
              formed = acknowledged_kept parts flushed begun.tops.items after is_pool m pins kept.order
                  (subst (RiseFrom 0) (sym b.freezes.empty) tt) adopted built sectors settles
                  (adopted_places parts flushed begun.tops.items is_pool.places is_pool.apart kept.rise m pins after kept.low is_pool.group.signed adopted none)
                  (adopted_apart parts flushed begun.tops.items is_pool.places is_pool.apart kept.rise m pins after kept.low is_pool.group.signed adopted none) placed;
              here = subst (λ (f : ℕ → ℕ). AreHere f (all_parts after)) (sym (fun_ext makes_round.commits.calls.frame.sizes ∙ sizes))
                  (trees_here begun.tops.items after built sectors (settled_same (leaves_of begun.tops.items) (leaves_of after) settles) from.size here);
              answer = answer;
            }

        told_none : (o : Result Closed Suspended) (P : Suspended → Type 0) → IsErrAnd o P → is_committed_turn (closed_as o) ≡ false
        told_none (Ok x) P tells = absurd tells
        told_none (Err why) P tells = refl

        goes_none : (top : Option ℕ) (noted : FrozenGroup) (between : List LeafVdev) → GoesOn top (numbers_of after) noted between behind closes.outcome
            → is_committed_turn result ≡ false
        goes_none (Some top) noted between goes = ap is_committed_turn closes.says ∙ told_none closes.outcome _ goes.2
        goes_none None noted between goes = ap is_committed_turn (closes.says ∙ ap closed_as goes.1)

        commits_by : (whole : Bool) → all_done results ≡ whole
            → EndsRound whole (numbers_of after) results (record flushed { begun = true }) before behind closes.outcome → is_committed_turn result ≡ true → IsCommitted
        commits_by true whole ends acked = settled whole ends.1 (closes.says ∙ ap closed_as ends.2)
        commits_by false failed ends acked = absurd (true≢false (sym acked ∙ goes_none _ _ ends.0 ends.2))

        pub round_commits : is_committed_turn result ≡ true → IsCommitted
        round_commits acked = commits_by (all_done results) refl makes_round.ends acked

-- So from what the code has of its parts: the board of the stamps, the group whose flush turn was passed over, and the tops.
module _ (from mid to : BankView) (blocks : ℕ) (asked : List (List NewMember)) (begun : Begun) (pool : Guid) (is : IsAsked from.size blocks asked)
    (b : IsBegun from.size begun.name blocks asked begun) (named : IsTrue (is_name begun.name)) (in_range : pool.0 < 2 ^ 64)
    (skipped : FrozenGroup) (skips : skipped ≡ record (begun.frozen) { flushed = true }) (kept : IsGroup skipped)
    (trees : List Top) (trees_are : trees ≡ begun.tops.items)
    (told : Result (Unit {0}) ℕ) (done' : Unit {0}) (ok : told ≡ Ok done') (l : List Seat) (board : l ≡ begun.frozen.board) (stamps : StampsSeats pool l told from mid) where
  all_stamped : Stamps pool (new_leaves asked) None from mid
  all_stamped =
      let here : StampsSeats pool begun.frozen.board (Ok done') from mid =
      subst (λ r. StampsSeats pool begun.frozen.board r from mid) ok (subst (λ k. StampsSeats pool k told from mid) board stamps) in
      here (new_leaves asked) (seats_are from blocks asked begun is b)

  was_kept : IsGroup (record (begun.frozen) { flushed = true })
  was_kept = subst IsGroup skips kept

  abbrev drawn : FrozenGroup → (blocks next : ℕ) → List Top → ConfigSeen
  drawn group n next tops = parts_seen pool begun.name n group.numbers.last next (laid group.items (pointer_at begun.map) root) tops []

  volume : begun.map.blocks ≡ blocks
  volume = b.freezes.begins.freeze.takes.volume.blocks ∙ b.map.volume

  pub seated_there : AreSeated mid.size (sectors_of trees) skipped
  seated_there =
      subst (λ (g : FrozenGroup). AreSeated mid.size (sectors_of trees) g) (sym skips)
      (subst (λ ts. AreSeated mid.size (sectors_of ts) (record (begun.frozen) { flushed = true })) (sym trees_are)
      (subst (λ (f : ℕ → ℕ). AreSeated f (sectors_of begun.tops.items) (record (begun.frozen) { flushed = true })) (sym (fun_ext all_stamped.calls.frame.sizes))
      (seated from blocks asked begun pool is b named in_range was_kept)))

  pub valid_there : IsValid (drawn skipped blocks begun.next trees)
  valid_there =
      subst (λ (g : FrozenGroup). IsValid (drawn g blocks begun.next trees)) (sym skips)
      (subst (λ ts. IsValid (drawn (record (begun.frozen) { flushed = true }) blocks begun.next ts)) (sym trees_are)
      (subst (λ n. IsValid (drawn (record (begun.frozen) { flushed = true }) blocks n begun.tops.items)) (sym b.next)
      (subst (λ n. IsValid (drawn (record (begun.frozen) { flushed = true }) n (next_from 1 asked) begun.tops.items)) volume
      (valid from blocks asked begun pool is b named in_range was_kept))))

  pub ready_there : All (IsReady skipped.board skipped.numbers.last.0) (leaves_of trees)
  ready_there =
      subst (λ (g : FrozenGroup). All (IsReady g.board g.numbers.last.0) (leaves_of trees)) (sym skips)
      (subst (λ ts. All (IsReady begun.frozen.board begun.frozen.numbers.last.0) (leaves_of ts)) (sym trees_are)
      (subst (λ n. All (IsReady begun.frozen.board n) (leaves_of begun.tops.items)) (sym (ap (λ (n : Numbers). n.last.0) b.freezes.begins.numbers)) b.freezes.ready))

  module _ (group : FrozenGroup) (after : List Top) (result : Result TurnDone Suspended) (built : marks_of after ≡ marks_of trees)
      (sectors : sectors_of after ≡ sectors_of trees)
      (closes : ClosesRound (drawn skipped blocks begun.next trees) (numbers_of after)
      (record { group = skipped; leaves = leaves_of trees; bank = mid }) (record { group = group; leaves = leaves_of after; bank = to }) result) where
    abbrev Closes : FrozenGroup → (blocks next : ℕ) → List Top → Type 0
    Closes g n next ts = ClosesRound (drawn g n next ts) (numbers_of after) (record { group = g; leaves = leaves_of ts; bank = mid })
        (record { group = group; leaves = leaves_of after; bank = to }) result

    closed_there : Closes (record (begun.frozen) { flushed = true }) begun.map.blocks (next_from 1 asked) begun.tops.items
    closed_there =
        subst (λ n. Closes (record (begun.frozen) { flushed = true }) n (next_from 1 asked) begun.tops.items) (sym volume)
        (subst (λ n. Closes (record (begun.frozen) { flushed = true }) blocks n begun.tops.items) b.next
        (subst (Closes (record (begun.frozen) { flushed = true }) blocks begun.next) trees_are
        (subst (λ g. Closes g blocks begun.next trees) skips closes)))

    pub fails_there : is_committed_turn result ≡ false → Creates begun.name pool blocks asked (Err (first_off group.board)) from to
    fails_there = round_fails from blocks asked begun pool is b named in_range was_kept mid to all_stamped group after result (built ∙ ap marks_of trees_are)
        (sectors ∙ ap sectors_of trees_are) closed_there

    commits_there : (m : Map) (pins : PinsSeen) (adopted : IsAdopted begun.frozen.items begun.pins.places begun.map m) (none : pins.places ≡ [])
        → is_committed_turn result ≡ true
        → IsCommitted from blocks asked begun pool is b named in_range was_kept mid to all_stamped group after result (built ∙ ap marks_of trees_are)
        (sectors ∙ ap sectors_of trees_are) closed_there m pins adopted none
    commits_there m pins adopted none acked = round_commits from blocks asked begun pool is b named in_range was_kept mid to all_stamped group after result
        (built ∙ ap marks_of trees_are) (sectors ∙ ap sectors_of trees_are) closed_there m pins adopted none acked

    pub made_there : (m : Map) (pins : PinsSeen) → IsAdopted group.items begun.pins.places begun.map m → pins.places ≡ [] → group.items ≡ skipped.items
        → (number : Group) → result ≡ Ok (done.Committed number) → (tops : List Top) → tops ≡ after → (spares : List (List ℕ)) → spares ≡ []
        → IsMade from to blocks asked begun pool m pins number tops spares
    made_there m pins adopted none items number answer tops tops_are spares listed =
        let adopted' = subst (λ is. IsAdopted is begun.pins.places begun.map m) (items ∙ ap (λ (g : FrozenGroup). g.items) skips) adopted in
        let c = commits_there m pins adopted' none (ap is_committed_turn answer) in
        let last : begun.frozen.numbers.last ≡ number = number_told begun.frozen.numbers.last number result c.answer answer in
        let same = is_shown begun pool m pins (record (begun.frozen) { flushed = true }) (next_from 1 asked) after number.0 begun.next tops spares
        b.freezes.empty (ap (λ (g : Group). g.0) last) b.next tops_are listed in
        record {
          row = subst (λ p. Creates begun.name pool blocks asked (Ok p) from to) same c.row;
          formed = subst IsPool same c.formed;
          here = subst (λ ts. AreHere to.size (all_parts ts)) (sym tops_are) c.here;
        }
