-- A turn of an open pool, from what its parts were and what the engine left of them.
use Rattle.std.proofs.Common.{◌≡◌, ℕ, ◌≤◌, ◌++◌, true, false, List, length, take, drop, Some, Result, Ok, Err, refl, sym, ap, ◌∙◌, subst, arith}
use Rattle.std.specs.Prelude.{All, IfSome}
use Rattle.std.specs.List.{AllZip}
use Rattle.std.proofs.Math.Seq.{take-append_seam}
use Rattle.std.proofs.lemmas.List.{length-map}
use Rattle.std.proofs.lemmas.List.Elements.{All-map}
use Rattle.bank_core.specs.BankView.{BankView}
use Rattle.mp_base.specs.declared.number.Group.{Group}
use Rattle.block_map.specs.Keys.{root}
use Rattle.block_map.specs.Map.{Map, pointer_at}
use Rattle.block_map.specs.Places.{IsPlace}
use Rattle.vdev_tree.specs.Tree.{guid_of}
use Rattle.vdev_tree.specs.declared.top.Top.{Top}
use Rattle.dtl_rules.specs.Widening.{leaves_of, marks_of, sectors_of}
use Rattle.pool_config.specs.Seen.{parts_seen}
use Rattle.pool_codec.specs.Codecs.{pool_codec}
use Rattle.pool_moves.specs.LineRows.{RowTurn}
use Rattle.pool_moves.specs.States.{Sums, PoolState}
use Rattle.txg_engine.specs.declared.item.Item.{Item}
use Rattle.txg_engine.specs.declared.seat.Suspended.{Suspended}
use Rattle.txg_engine.specs.Ending.{AreMerged, GivesBack, pins_after}
use Rattle.txg_engine.specs.Frozen.{FrozenGroup, IsGroup}
use Rattle.txg_engine.specs.Items.{laid, places_of}
use Rattle.txg_engine.specs.Logs.{IsCut, IsReady}
use Rattle.txg_engine.specs.Pins.{PinsSeen}
use Rattle.txg_engine.specs.Turns.{KeepsKeys, numbers_of}
use Rattle.txg_engine.specs.Writes.{OpenGroup, RiseFrom}
use Rattle.txg_engine.proofs.Seating.{got_inside}
use Rattle.open_pool.specs.declared.turn.TurnDone.{TurnDone}
use Rattle.open_pool.specs.declared.turn.TurnDone.TheVariants as done
use Rattle.open_pool.specs.Answering.{Does}
use Rattle.open_pool.specs.Committing.{turn_says}
use Rattle.open_pool.specs.Form.{HasGroup, IsPool}
use Rattle.open_pool.specs.Here.{AreHere}
use Rattle.open_pool.specs.Parts.{PoolParts, all_parts}
use Rattle.open_pool.specs.State.{ArePinned, Stands, leaves_under, state_of}
use Rattle.open_pool.specs.Turning.{IsDue, goes_on, is_committed_turn}
use Rattle.open_pool.proofs.BoardKept.{AreSameLeaves}
use Rattle.open_pool.proofs.DraftFits.{drawn_of}
use Rattle.open_pool.proofs.LeavesByTops.{under_all, under_trees}
use Rattle.open_pool.proofs.SeatedHere.{group_places, seated_here}
use Rattle.open_pool.proofs.TreesBuilt.{built_sizes}
use Rattle.open_pool.proofs.TurnAnswers.{IsBurned}
use Rattle.open_pool.proofs.TurnLeft.{HasTurned, Leaves, MayTurn, TurnLeaves}
use Rattle.open_pool.proofs.TurnSuspended.{same_numbers}
use Rattle.open_pool.proofs.TurnsAnswered.{turn_leaves}
use Rattle.open_pool.proofs.TurnsGoOn.{TurnsOn, here_still, is_idle, turns_on}
use Rattle.open_pool.proofs.TurnSteps.{going, sectors_are}

-- Before it: the pool `p` has the view `v`, and its parts are these.
module _ (size : ℕ → ℕ) (p v : PoolParts) (was : FrozenGroup) (old : List Top) (view : v ≡ p) (parts : v.tops ≡ all_parts old) (frozen : v.frozen ≡ Some was)
    (pool : IsPool p) where
  pub group_there : p.frozen ≡ Some was
  group_there = ap (λ (q : PoolParts). q.frozen) (sym view) ∙ frozen

  had : HasGroup p was
  had = subst (λ f. IfSome f (HasGroup p)) group_there pool.group

  pub is_going : p ≡ going v was old
  is_going = sym view
      ∙ ap (λ n. record v { highest = n }) (ap (λ (q : PoolParts). q.highest) view ∙ sym had.last)
      ∙ ap (λ ts. record v { highest = was.numbers.last.0; tops = ts }) parts
      ∙ ap (λ f. record v { highest = was.numbers.last.0; tops = all_parts old; frozen = f }) frozen

  pub may_turn : RiseFrom 0 p.unfrozen.writes → IfSome p.frozen IsGroup → AreHere size p.tops → MayTurn size v was old
  may_turn rise group here =
      let its = subst IsPool is_going pool in
      let kept = subst (λ f. IfSome f IsGroup) group_there group in
      record {
        pool = its;
        kept = kept;
        rise = subst (λ (q : PoolParts). RiseFrom 0 q.unfrozen.writes) (sym view) rise;
        seated = seated_here size v was old its kept (subst (AreHere size) (ap (λ (q : PoolParts). q.tops) (sym view) ∙ parts) here);
      }

-- the same leaves, under the same tops, are here still
pub trees_here : (old new : List Top) → marks_of new ≡ marks_of old → sectors_of new ≡ sectors_of old → AreSameLeaves (leaves_of old) (leaves_of new)
    → (size : ℕ → ℕ) → AreHere size (all_parts old) → AreHere size (all_parts new)
trees_here old new built sectors same = here_still (all_parts old) (all_parts new) (built_sizes old new built)
    (sectors_are new ∙ sectors ∙ sym (sectors_are old))
    (subst (λ ls. AreSameLeaves ls (under_all (leaves_under (all_parts new)))) (sym (under_trees old))
    (subst (AreSameLeaves (leaves_of old)) (sym (under_trees new)) same))

-- What the turn of these parts was.
pub record MadeTurn (v : PoolParts) (was is : FrozenGroup) (old new : List Top) (from to : BankView) (result : Result TurnDone Suspended) : Type 0 where
  pub may : MayTurn from.size v was old
  pub turned : HasTurned was is old new result
  pub due : IsDue (drawn_of v was old) (numbers_of new) (record { group = was; leaves = leaves_of old; bank = from })
      (record { group = is; leaves = leaves_of new; bank = to }) result
  pub kept : IsGroup is

pub made_turn : (p v : PoolParts) (was is : FrozenGroup) (old new : List Top) (from to : BankView) (result : Result TurnDone Suspended)
    (view : v ≡ p) (parts : v.tops ≡ all_parts old) (frozen : v.frozen ≡ Some was) (pool : IsPool p) → RiseFrom 0 p.unfrozen.writes → IfSome p.frozen IsGroup
    → AreHere from.size p.tops
    → (blocks : ℕ) (trees : List Top) (spares : List (List ℕ)) → blocks ≡ v.map.blocks → trees ≡ old → spares ≡ v.spares
    → IsDue (parts_seen v.pool v.name blocks was.numbers.last v.next (laid was.items (pointer_at v.map) root) trees spares) (numbers_of new)
    (record { group = was; leaves = leaves_of trees; bank = from }) (record { group = is; leaves = leaves_of new; bank = to }) result
    → All (IsReady is.board is.numbers.last.0) (leaves_of new) → KeepsKeys was is → is.acked ≡ is_committed_turn result → marks_of new ≡ marks_of trees
    → sectors_of new ≡ sectors_of trees → IsGroup is → MadeTurn v was is old new from to result
made_turn p v was is old new from to result view parts frozen pool rise group here blocks trees spares blocks_are trees_are spares_are due ready keys acked built sectors kept = record {
  may = may_turn from.size p v was old view parts frozen pool rise group here;
  turned = record { ready = ready; keys = keys; acked = acked; built = built ∙ ap marks_of trees_are; sectors = sectors ∙ ap sectors_of trees_are };
  due =
      let told : (n : ℕ) (ts : List Top) (names : List (List ℕ)) → Type 0 = λ n ts names.
      IsDue (parts_seen v.pool v.name n was.numbers.last v.next (laid was.items (pointer_at v.map) root) ts names) (numbers_of new)
      (record { group = was; leaves = leaves_of ts; bank = from }) (record { group = is; leaves = leaves_of new; bank = to }) result in
      subst (λ n. told n old v.spares) blocks_are (subst (λ ts. told blocks ts v.spares) trees_are (subst (told blocks trees) spares_are due));
  kept = kept;
}

-- a row of the pool's state is one of each state that the pool stands for
pub of_stands : (p q g : PoolParts) (from to : BankView) (result : Result TurnDone Suspended) → p ≡ g
    → ((held : List Sums) → Leaves from.size held g q from to result) → (s : PoolState) → Stands p s
    → Does (RowTurn pool_codec from.size s) turn_says result s q from to
of_stands p q g from to result same leaves s stands =
    let is : s ≡ state_of s.core.pinned g = stands.is ∙ ap (state_of s.core.pinned) same in
    subst (λ (t : PoolState). Does (RowTurn pool_codec from.size t) turn_says result t q from to) (sym is)
    ((leaves s.core.pinned).1 (let pins = stands.pinned in
    subst (λ (r : PoolParts). ArePinned s.core.pinned r) same pins))

module _ (v : PoolParts) (was is : FrozenGroup) (old new : List Top) (from to : BankView) (result : Result TurnDone Suspended)
    (made : MadeTurn v was is old new from to result) where
  pub leaves_it : TurnLeaves from.size v was is old new from to result
  leaves_it = turn_leaves v was is old new from to result made.may made.turned made.due

  pub on : TurnsOn (numbers_of new) was is (leaves_of old) (leaves_of new) result
  on = turns_on (numbers_of new) was is (leaves_of old) (leaves_of new) from to result made.may.kept made.kept (drawn_of v was old) made.due

  -- a suspended group tells at least one failed call
  pub one_told : (why : Suspended) → result ≡ Err why → 1 ≤ why.faults
  one_told why err =
      let told = on.told why err in
      let tops = ap length made.may.pool.tops in
      let trees = ap length (sectors_are old) in
      let many = length-map old (λ (top : Top). top.sectors) in
      let low = got_inside (numbers_of new) told.0 why.top told.1.top_is in
      let numbers = ap length (same_numbers old new made.turned.built) in
      let as_many = length-map old (λ (top : Top). guid_of top.mirror) in
      told.1.some (on.seated told.0 ∙ made.may.pool.group.tops told.0 (omega (arith, tops, trees, many, low, numbers, as_many)))

  pub here_on : (size : ℕ → ℕ) → AreHere size (all_parts old) → AreHere size (all_parts new)
  here_on = trees_here old new made.turned.built made.turned.sectors on.same

-- where it goes on
pub going_leaves : (v : PoolParts) (was is : FrozenGroup) (old new : List Top) (from to : BankView) (of : TurnDone)
    → ((number : Group) → of ≡ done.Committed number → ⊥) → TurnLeaves from.size v was is old new from to (Ok of) → (held : List Sums)
    → Leaves from.size held (going v was old) (going v is new) from to (Ok of)
going_leaves v was is old new from to done.Idle other leaves = leaves
going_leaves v was is old new from to done.Write other leaves = leaves
going_leaves v was is old new from to done.Flush other leaves = leaves
going_leaves v was is old new from to (done.Round number) other leaves = leaves
going_leaves v was is old new from to (done.Committed number) other leaves = absurd (other number refl)

pub goes_there : (of : TurnDone) → ((number : Group) → of ≡ done.Committed number → ⊥) → is_idle (Ok of) ≡ false → true ≡ goes_on (Ok of)
goes_there done.Idle other busy = absurd (let no : true ≡ false = busy in cc)
goes_there done.Write other busy = refl
goes_there done.Flush other busy = refl
goes_there (done.Round number) other busy = refl
goes_there (done.Committed number) other busy = absurd (other number refl)

-- A vector that was handed on as a slice, and came back as long.
pub came_back : (len n : ℕ) (old new items : List ℕ) → old ≡ items → length old ≡ len → length new ≡ length old → length items ≡ n
    → length (take len (new ++ drop (length new) items)) ≡ n
came_back len n old new items value many long is =
    ap (λ k. length (take k (new ++ drop (length new) items))) (sym many ∙ sym long) ∙ ap length (take-append_seam new (drop (length new) items))
    ∙ long ∙ ap length value ∙ is

-- What a burning gave back, of the trees that the turn left.
pub is_burned : (v : PoolParts) (was is : FrozenGroup) (old new trees cut : List Top) (from to : BankView) (result : Result TurnDone Suspended)
    → MadeTurn v was is old new from to result → trees ≡ new → (newer writes : OpenGroup) (m : Map) (pins : PinsSeen) → newer ≡ v.unfrozen
    → RiseFrom 0 writes.writes → AreMerged is.items newer.writes writes.writes → 4096 ≤ writes.room → GivesBack is.begun (places_of is.items) v.map m
    → pins.places ≡ pins_after is.begun (places_of is.items) v.pins.places → AllZip (IsCut is.numbers.first.0) (leaves_of trees) (leaves_of cut)
    → marks_of cut ≡ marks_of trees → sectors_of cut ≡ sectors_of trees → IsBurned v is new cut m pins writes
is_burned v was is old new trees cut from to result made there newer writes m pins taken rise merged room gives pins_are cuts built sectors = record {
  rise = rise;
  merged = subst (λ (group : OpenGroup). AreMerged is.items group.writes writes.writes) taken merged;
  room = room;
  gives = gives;
  pins_are = pins_are;
  places = subst (λ items. All (IsPlace v.map.sectors) (places_of items)) (sym made.turned.keys.items)
      (All-map (IsPlace v.map.sectors) (λ (item : Item). item.pointer.place) was.items (group_places v was old made.may.pool made.may.kept));
  cut = subst (λ ts. AllZip (IsCut is.numbers.first.0) (leaves_of ts) (leaves_of cut)) there cuts;
  built = built ∙ ap marks_of there;
  sectors = sectors ∙ ap sectors_of there;
}
