-- What a turn answers is what its row says, and the pool is left as the row's moves leave it.
use Rattle.std.proofs.Common.{◌≡◌, ℕ, suc, ◌≤◌, cond, false, List, [], ◌∷◌, ◌++◌, Some, None, Result, Err, refl, sym, ap, ◌∙◌, subst, append-nil}
use Rattle.std.specs.Prelude.{All}
use Rattle.bank_core.specs.BankView.{BankView}
use Rattle.bank_core.specs.Calls.{Makes}
use Rattle.bank_core.specs.Disk.{Noted}
use Rattle.block_map.specs.Map.{Map}
use Rattle.block_map.specs.Places.{IsPlace}
use Rattle.vdev_tree.specs.declared.top.Top.{Top}
use Rattle.dtl_rules.specs.Widening.{leaves_of, marks_of, sectors_of}
use Rattle.txg_engine.specs.declared.seat.Suspended.{Suspended}
use Rattle.txg_engine.specs.Ending.{AreMerged, GivesBack, pins_after}
use Rattle.txg_engine.specs.Frozen.{FrozenGroup, IsGroup}
use Rattle.txg_engine.specs.Items.{places_of}
use Rattle.txg_engine.specs.Logs.{IsCut}
use Rattle.txg_engine.specs.Pins.{PinsSeen}
use Rattle.txg_engine.specs.Turns.{IsTold, emptied_top, numbers_of}
use Rattle.txg_engine.specs.Writes.{OpenGroup, RiseFrom}
use Rattle.pool_codec.specs.Codecs.{pool_codec}
use Rattle.pool_moves.specs.LineRows.{TurnReply, Idle, EndsBy, RowTurn, StartsBy, suspended_by}
use Rattle.pool_moves.specs.Moves.{Move, Burn, steps}
use Rattle.pool_moves.specs.ReadRow.{made_in}
use Rattle.pool_moves.specs.States.{Sums, sums}
use Rattle.pool_moves.proofs.FreeWalks.{steps_more}
use Rattle.std.specs.List.{AllZip}
use Rattle.open_pool.specs.declared.turn.TurnDone.{TurnDone}
use Rattle.open_pool.specs.Answering.{Does}
use Rattle.open_pool.specs.Committing.{turn_says}
use Rattle.open_pool.specs.Form.{IsPool}
use Rattle.open_pool.specs.Parts.{PoolParts}
use Rattle.open_pool.specs.State.{ArePinned, Stands, cells_of, state_of}
use Rattle.open_pool.proofs.EndStates.{burn_steps}
use Rattle.open_pool.proofs.GroupEnds.{burned_kept}
use Rattle.open_pool.proofs.LeavesStay.{cut_same}
use Rattle.open_pool.proofs.PartRows.{IsPart, made_first}
use Rattle.open_pool.proofs.PlacesEnd.{burned_apart, burned_pins, burned_places, burned_pool}
use Rattle.open_pool.proofs.StatesStand.{stands_there}
use Rattle.open_pool.proofs.TurnEndings.{none_emptied, one_emptied, told_says}
use Rattle.open_pool.proofs.TurnParts.{like_tops}
use Rattle.open_pool.proofs.TurnSteps.{going}

-- A turn by its moves.
pub does_turn : (size : ℕ → ℕ) (held more : List Sums) (p q : PoolParts) (moves : List Move) (reply : TurnReply) (result : Result TurnDone Suspended)
    (from to : BankView) → RowTurn pool_codec size (state_of held p) moves reply → result ≡ turn_says reply
    → steps moves (state_of held p) ≡ state_of more q → ArePinned more q → Makes (made_in moves) from to
    → Does (RowTurn pool_codec size (state_of held p)) turn_says result (state_of held p) q from to
does_turn size held more p q moves reply result from to is says leads pins calls = record {
  answers = record {
    moves = moves;
    reply = reply;
    is = is;
    says_so = says;
    leaves = subst (Stands q) (sym leads) (stands_there more q pins);
  };
  calls = calls;
}

pub idle_turn : (size : ℕ → ℕ) (held : List Sums) (p : PoolParts) (bank : BankView) → p.frozen ≡ None → ArePinned held p → Makes [] bank bank
    → Does (RowTurn pool_codec size (state_of held p)) turn_says (turn_says Idle) (state_of held p) p bank bank
idle_turn size held p bank none pins calls =
    does_turn size held held p p [] Idle (turn_says Idle) bank bank
    (subst (λ f. RowTurn pool_codec size (state_of held (record p { frozen = f })) [] Idle) (sym none) (refl, refl)) refl refl pins calls

-- the pins of a pool that goes on
pub pins_still : (held : List Sums) (b : PoolParts) (was is : FrozenGroup) (old new : List Top) → ArePinned held (going b was old)
    → ArePinned held (going b is new)
pins_still held b was is old new pins = record { pinned = pins.pinned; held_places = pins.held_places }

-- A part behind which the group goes on.
pub part_goes : (size : ℕ → ℕ) (held : List Sums) (b : PoolParts) (was is : FrozenGroup) (old new : List Top) (reply : TurnReply) (made : List Noted)
    (from to : BankView) → IsPool (going b was old) → 1 ≤ was.numbers.first.0 → IsPool (going b is new) → 1 ≤ is.numbers.first.0
    → emptied_top (numbers_of old) was ≡ None → emptied_top (numbers_of new) is ≡ None
    → IsPart size held (going b was old) (going b is new) false reply made → ArePinned held (going b was old) → Makes made from to
    → Does (RowTurn pool_codec size (state_of held (going b was old))) turn_says (turn_says reply) (state_of held (going b was old)) (going b is new) from to
part_goes size held b was is old new reply made from to pool low pool' low' full full' part pins calls =
    does_turn size held held (going b was old) (going b is new) (part.moves ++ []) reply (turn_says reply) from to
    (subst (λ o. StartsBy o pool_codec size (state_of held (going b was old)) (part.moves ++ []) reply)
    (sym (none_emptied b was old pool low held full))
    (part.is [] reply (subst (λ o. EndsBy o (state_of held (going b is new)) false reply [] reply)
    (sym (none_emptied b is new pool' low' held full')) (refl, refl))))
    refl (ap (λ l. steps l (state_of held (going b was old))) (append-nil part.moves) ∙ part.leads)
    (pins_still held b was is old new pins)
    (subst (λ l. Makes l from to) (sym (ap made_in (append-nil part.moves) ∙ part.calls)) calls)

-- How a suspended group was burned.
pub record IsBurned (b : PoolParts) (group : FrozenGroup) (old new : List Top) (m : Map) (pins : PinsSeen) (writes : OpenGroup) : Type 0 where
  pub rise : RiseFrom 0 writes.writes
  pub merged : AreMerged group.items b.unfrozen.writes writes.writes
  pub room : 4096 ≤ writes.room
  pub gives : GivesBack group.begun (places_of group.items) b.map m
  pub pins_are : pins.places ≡ pins_after group.begun (places_of group.items) b.pins.places
  pub places : All (IsPlace b.map.sectors) (places_of group.items)
  pub cut : AllZip (IsCut group.numbers.first.0) (leaves_of old) (leaves_of new)
  pub built : marks_of new ≡ marks_of old
  pub sectors : sectors_of new ≡ sectors_of old

module _ (b : PoolParts) (group : FrozenGroup) (old new : List Top) (pool : IsPool (going b group old)) (kept : IsGroup group) (m : Map)
    (pins : PinsSeen) (writes : OpenGroup) (burned : IsBurned b group old new m pins writes) where
  -- It leaves the pool in its form.
  pub burned_pool_kept : IsPool (burned_pool b group m pins writes new)
  burned_pool_kept = burned_kept b group old new pool m pins writes burned.rise burned.gives burned.merged burned.room burned.built burned.sectors burned.cut
      (burned_places b group old pool.places pool.apart kept.rise m pins new burned.gives burned.pins_are burned.places writes)
      (burned_apart b group old pool.places pool.apart kept.rise m pins new burned.gives burned.pins_are burned.places writes)

  pub burn_leads : (held : List Sums) → steps (Burn ∷ []) (state_of held (going b group old))
      ≡ state_of (cond group.begun (sums (cells_of group.items) ∷ held) held) (burned_pool b group m pins writes new)
  burn_leads held = burn_steps held b group old new
      (like_tops old new burned.built burned.sectors (cut_same group.numbers.first.0 (leaves_of old) (leaves_of new) burned.cut)) burned.built m pins
      writes pool.leaves burned.merged burned.gives burned.cut

  pub burn_pins : (held : List Sums) → ArePinned held (going b group old)
      → ArePinned (cond group.begun (sums (cells_of group.items) ∷ held) held) (burned_pool b group m pins writes new)
  burn_pins held were = burned_pins b group old pool.places pool.apart kept.rise m pins new burned.gives burned.pins_are burned.places writes held were

  -- A group that is suspended at once.
  pub burns_at_once : (size : ℕ → ℕ) (held : List Sums) (top : ℕ) (told : Suspended) (bank : BankView)
      → emptied_top (numbers_of old) group ≡ Some top → IsTold (numbers_of old) group.numbers.first group.board top told
      → ArePinned held (going b group old) → Makes [] bank bank
      → Does (RowTurn pool_codec size (state_of held (going b group old))) turn_says (Err told) (state_of held (going b group old))
      (burned_pool b group m pins writes new) bank bank
  burns_at_once size held top told bank empty is were calls =
      let s = state_of held (going b group old) in
      does_turn size held (cond group.begun (sums (cells_of group.items) ∷ held) held) (going b group old) (burned_pool b group m pins writes new)
      (Burn ∷ []) (suspended_by s (suc top)) (Err told) bank bank
      (subst (λ o. StartsBy o pool_codec size s (Burn ∷ []) (suspended_by s (suc top))) (sym (one_emptied b group old pool kept.low held top empty)) (refl, refl))
      (told_says b group old pool kept.low held top told is) (burn_leads held) (burn_pins held were) calls

  -- One that is suspended behind a part of a turn.
  pub part_burns : (size : ℕ → ℕ) (held : List Sums) (was : FrozenGroup) (before : List Top) (reply : TurnReply) (made : List Noted) (top : ℕ) (told : Suspended)
      (from to : BankView) → IsPool (going b was before) → 1 ≤ was.numbers.first.0 → emptied_top (numbers_of before) was ≡ None
      → IsPart size held (going b was before) (going b group old) false reply made
      → emptied_top (numbers_of old) group ≡ Some top → IsTold (numbers_of old) group.numbers.first group.board top told
      → ArePinned held (going b was before) → Makes made from to
      → Does (RowTurn pool_codec size (state_of held (going b was before))) turn_says (Err told) (state_of held (going b was before))
      (burned_pool b group m pins writes new) from to
  part_burns size held was before reply made top told from to pool' low' full part empty is were calls =
      let s = state_of held (going b was before) in
      let t = state_of held (going b group old) in
      does_turn size held (cond group.begun (sums (cells_of group.items) ∷ held) held) (going b was before) (burned_pool b group m pins writes new)
      (part.moves ++ Burn ∷ []) (suspended_by t (suc top)) (Err told) from to
      (subst (λ o. StartsBy o pool_codec size s (part.moves ++ Burn ∷ []) (suspended_by t (suc top))) (sym (none_emptied b was before pool' low' held full))
      (part.is (Burn ∷ []) (suspended_by t (suc top)) (subst (λ o. EndsBy o t false reply (Burn ∷ []) (suspended_by t (suc top)))
      (sym (one_emptied b group old pool kept.low held top empty)) (refl, refl))))
      (told_says b group old pool kept.low held top told is)
      (steps_more part.moves (Burn ∷ []) s ∙ ap (steps (Burn ∷ [])) part.leads ∙ burn_leads held)
      (burn_pins held (pins_still held b was group before old were))
      (subst (λ l. Makes l from to) (sym (made_first part.moves (Burn ∷ []) refl ∙ part.calls)) calls)
