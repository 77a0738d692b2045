-- Behind a freeze: the moves of its row lead to the state that the pool stands for then.
use Rattle.std.proofs.Common.{◌≡◌, ◌+◌, ◌<◌, ◌≤◌, ◌^◌, cond, true, List, [], length, Some, None, Ok, refl, sym, ap, ◌∙◌, subst, arith}
use Rattle.std.proofs.lemmas.Bool.{le-ltb}
use Rattle.std.proofs.lemmas.List.{length-map}
use Rattle.block_map.specs.Map.{is_open, CountsPlaces}
use Rattle.dtl_rules.specs.Widening.{leaves_of}
use Rattle.pool_codec.specs.Codecs.{pool_codec}
use Rattle.txg_engine.specs.Frozen.{FrozenGroup, KeysRise}
use Rattle.txg_engine.specs.Items.{key_of, place_of}
use Rattle.txg_engine.specs.Refusing.{need}
use Rattle.txg_engine.specs.Writes.{RiseFrom}
use Rattle.pool_moves.specs.LineRows.{Frozen, RowFreezeLine}
use Rattle.pool_moves.specs.Refusing.{NoRoom, last_number}
use Rattle.pool_moves.specs.States.{Sums, PoolState}
use Rattle.open_pool.specs.Answering.{Answers}
use Rattle.open_pool.specs.Form.{IsPool}
use Rattle.open_pool.specs.Freezing.{FreezeParts, FreezesParts, HasForms, group_at, freeze_says}
use Rattle.open_pool.specs.Parts.{PoolParts, all_parts}
use Rattle.open_pool.specs.State.{ArePinned, Stands, cells_of, leaves_under, state_of}
use Rattle.open_pool.proofs.BoardKept.{AreSameLeaves}
use Rattle.open_pool.proofs.FreezeRefused.{idle_parts}
pub use Rattle.open_pool.proofs.FreezeSteps.{begun_parts}
use Rattle.open_pool.proofs.FreezeSteps.{tops_count}
use Rattle.open_pool.proofs.FreezeSteps as freeze_steps
use Rattle.open_pool.proofs.TurnLeaves.{AreInForm}
use Rattle.open_pool.proofs.FreezeRows.{room_by}
use Rattle.open_pool.proofs.FreezesAreRows.{dirty_keys_are}
use Rattle.open_pool.proofs.LeavesInForm.{in_form}
use Rattle.open_pool.proofs.PlacesGiven.{places_given}
use Rattle.open_pool.proofs.StatesStand.{stands_there, by_state}

module _ (r : PoolParts) (old new : FreezeParts) (group : FrozenGroup) (f : FreezesParts (group_at (r.highest + 1)) old new group)
    (pool : IsPool (idle_parts r old)) (more : r.highest + 1 ≤ 2 ^ 62) where
  pub form : AreInForm (idle_parts r old)
  form = in_form old.trees (idle_parts r old) refl pool.recordable pool.leaves

  pub same_leaves_then : AreSameLeaves (leaves_of old.trees) (leaves_of new.trees)
  same_leaves_then = freeze_steps.same_leaves_then r old new group f form more

  pub pins_then : (held : List Sums) → ArePinned held (idle_parts r old) → ArePinned held (begun_parts r new group)
  pins_then held pins = record {
    pinned = λ place is. pins.pinned place (sym (f.begins.freeze.takes.pinned place) ∙ is);
    held_places = λ place at. f.begins.freeze.takes.pinned place ∙ pins.held_places place at;
  }

  fits : need old.unfrozen.writes ≤ old.map.count
  fits =
      let count = f.begins.freeze.takes.count in
      let places = length-map group.items place_of in
      let keys = length-map group.items key_of in
      let all = ap length f.begins.freeze.keys in
      omega (arith, count, places, keys, all)

  module _ (rise : RiseFrom 0 old.unfrozen.writes) (counted : CountsPlaces (is_open old.map) old.map.count) (below : r.highest < last_number)
      (keys : KeysRise group.items) (forms : HasForms (idle_parts r old) group.items) (opened : r.opened ≡ true) where
    row_at : (held : List Sums) → ArePinned held (idle_parts r old)
        → Answers (RowFreezeLine pool_codec (state_of held (idle_parts r old))) freeze_says (Ok (group_at (r.highest + 1)))
        (state_of held (idle_parts r old)) (begun_parts r new group)
    row_at held pins = record {
      moves = (freeze_steps.owes r old new group f form more held).moves;
      reply = Frozen (r.highest + 1);
      is = (
        None,
        room_by r old new pool rise counted below held pins None f.begins.everywhere
            (ap (λ b. cond b (Some (NoRoom (need old.unfrozen.writes) old.map.count)) None)
            (sym (le-ltb old.map.count (need old.unfrozen.writes) fits))),
        (
          record {
            idle = refl;
            opened = opened;
            tops = tops_count [] 1 (leaves_under (all_parts old.trees)) (omega arith);
            cells = cells_of group.items;
            dirty = dirty_keys_are (idle_parts r old) held new.map group.items forms f.begins.freeze;
            places = places_given (idle_parts r old) held pool.places pins (λ k. refl) pool.tops group.items keys f.begins.freeze.places;
            moves = (freeze_steps.owes r old new group f form more held).are;
          },
          refl,
        ),
      );
      says_so = refl;
      leaves = subst (Stands (begun_parts r new group)) (sym (freeze_steps.steps_are r old new group f form more held))
          (stands_there held (begun_parts r new group) (pins_then held pins));
    }

    pub begun : (s : PoolState) → Stands (idle_parts r old) s
        → Answers (RowFreezeLine pool_codec s) freeze_says (Ok (group_at (r.highest + 1))) s (begun_parts r new group)
    begun = by_state (λ s. Answers (RowFreezeLine pool_codec s) freeze_says (Ok (group_at (r.highest + 1))) s (begun_parts r new group))
        (idle_parts r old) row_at
