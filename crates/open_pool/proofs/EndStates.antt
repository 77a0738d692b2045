-- Burning and an acknowledgement step the state to that of the pool behind the group's end.
use Rattle.std.proofs.Common.{◌≡◌, ℕ, cond, Bool, true, false, List, [], ◌∷◌, Option, Some, None, refl, sym, ap, ◌∙◌, subst}
use mathlib.Core.Path.{fun_ext}
use Rattle.std.specs.List.{AllZip}
use Rattle.std.specs.Option.{option_map}
use Rattle.mp_base.specs.declared.number.Guid.{Guid}
use Rattle.mp_base.specs.declared.place.Key.{Key}
use Rattle.block_map.specs.Map.{Map}
use Rattle.vdev_tree.specs.declared.top.Top.{Top}
use Rattle.dtl_rules.specs.Widening.{leaves_of, marks_of}
use Rattle.pool_codec.specs.Pointers.{sum_in}
use Rattle.pool_codec.specs.Tops.{room_of, number_of, children_of}
use Rattle.txg_history.specs.Records.{Cell, key}
use Rattle.txg_history.specs.Trees.{Child}
use Rattle.txg_engine.specs.Ending.{AreMerged, GivesBack, or_else}
use Rattle.txg_engine.specs.Frozen.{FrozenGroup}
use Rattle.txg_engine.specs.Items.{frozen_block, places_of}
use Rattle.txg_engine.specs.Logs.{IsCut, IsSettled}
use Rattle.txg_engine.specs.Pins.{PinsSeen}
use Rattle.txg_engine.specs.Writes.{OpenGroup, block_at}
use Rattle.pool_moves.specs.Leaves.{LeafSeen}
use Rattle.pool_moves.specs.Moves.{Draft, Burn, Commits, burned, sum_over, steps}
use Rattle.pool_moves.specs.States.{Sums, sums, no_group_seen, PoolState}
use Rattle.open_pool.specs.Form.{all_leaves, HasLeaves}
use Rattle.open_pool.specs.Parts.{PoolParts, all_parts}
use Rattle.open_pool.specs.State.{cells_of, group_of, leaves_from, leaves_under, sectors_in, seen_of, state_of, sums_of, vdevs_in}
use Rattle.open_pool.specs.Scanning.{scan_of}
use Rattle.open_pool.proofs.GoingKept.{trees_leaves}
use Rattle.open_pool.proofs.GroupBlocks.{blocks_of_cells}
use Rattle.open_pool.proofs.LeavesAtEnd.{burns_leaves, commits_leaves}
use Rattle.open_pool.proofs.LeavesInForm.{leaves_below}
use Rattle.open_pool.proofs.PlacesEnd.{acknowledged, burned_pool}
use Rattle.open_pool.proofs.TreesBuilt.{built_sizes}
use Rattle.open_pool.proofs.TurnSteps.{going, AreLikeTops, room_kept}

-- A pool without a group, by what its end may change.
abbrev idle_state : PoolParts → (number read : ℕ) → (opened : Bool) → (held : List Sums) → (blocks : ℕ) → (writes : ℕ → Option (List ℕ))
    → (numbers : ℕ → Guid) → (children : ℕ → List Child) → (committed : Sums) → (room : ℕ → ℕ) → List LeafSeen → PoolState
idle_state b number read opened held blocks writes numbers children committed room leaves = record {
  own = record {
    blocks = blocks;
    writes = writes;
    top_number = numbers;
    children = children;
    spares = b.spares;
    next_member = b.next;
    scrubs = false;
  };
  core = record {
    name = b.name;
    pool = b.pool;
    number = number;
    read_number = read;
    opened = opened;
    committed = committed;
    room = room;
    leaves = leaves;
    group = no_group_seen;
    scan = scan_of b.scan;
    pinned = held;
  };
}

-- the open writes behind a suspended group
merged_block : (newer : Option (List ℕ)) (cell : Option Cell) (block : Option (List ℕ)) → option_map (λ (c : Cell). c.block) cell ≡ block
    → burned newer cell ≡ or_else newer block
merged_block (Some x) cell block is = refl
merged_block None None block is = is
merged_block None (Some cell) block is = is

module _ (held : List Sums) (b : PoolParts) (group : FrozenGroup) (old new : List Top) (like : AreLikeTops old new)
    (built : marks_of new ≡ marks_of old) (m : Map) (pins : PinsSeen) where
  like_steps : (n read : ℕ) (opened : Bool) (more : List Sums) (blocks : ℕ) (writes : ℕ → Option (List ℕ)) (committed : Sums)
      → idle_state b n read opened more blocks writes (number_of (vdevs_in (all_parts old))) (children_of (vdevs_in (all_parts old))) committed
      (room_of (sectors_in (all_parts old))) (leaves_from [] 1 (leaves_under (all_parts new)))
      ≡ idle_state b n read opened more blocks writes (number_of (vdevs_in (all_parts new))) (children_of (vdevs_in (all_parts new))) committed
      (room_of (sectors_in (all_parts new))) (leaves_from [] 1 (leaves_under (all_parts new)))
  like_steps n read opened more blocks writes committed =
      ap (λ (f : ℕ → Guid). idle_state b n read opened more blocks writes f (children_of (vdevs_in (all_parts old))) committed
      (room_of (sectors_in (all_parts old))) (leaves_from [] 1 (leaves_under (all_parts new)))) (sym like.told.numbers)
      ∙ ap (λ (f : ℕ → List Child). idle_state b n read opened more blocks writes (number_of (vdevs_in (all_parts new))) f committed
      (room_of (sectors_in (all_parts old))) (leaves_from [] 1 (leaves_under (all_parts new)))) (sym like.told.children)
      ∙ ap (λ (f : ℕ → ℕ). idle_state b n read opened more blocks writes (number_of (vdevs_in (all_parts new)))
      (children_of (vdevs_in (all_parts new))) committed f (leaves_from [] 1 (leaves_under (all_parts new)))) (sym (room_kept old new like))

  pub burn_steps : (writes : OpenGroup) → HasLeaves (going b group old) → AreMerged group.items b.unfrozen.writes writes.writes
      → GivesBack group.begun (places_of group.items) b.map m → AllZip (IsCut group.numbers.first.0) (leaves_of old) (leaves_of new)
      → steps (Burn ∷ []) (state_of held (going b group old))
      ≡ state_of (cond group.begun (sums (cells_of group.items) ∷ held) held) (burned_pool b group m pins writes new)
  burn_steps writes has merged gives cut =
      let p = going b group old in
      let q = burned_pool b group m pins writes new in
      let n = group.numbers.last.0 in
      let more = cond group.begun (sums (cells_of group.items) ∷ held) held in
      let leaves = burns_leaves (seen_of held p) group.board p q refl (built_sizes old new built) (leaves_below p has)
      (subst (λ ls. AllZip (IsCut group.numbers.first.0) ls (all_leaves q)) (sym (trees_leaves old))
      (subst (AllZip (IsCut group.numbers.first.0) (leaves_of old)) (sym (trees_leaves new)) cut)) in
      let was = steps (Burn ∷ []) (state_of held p) in
      ap (λ ls. idle_state b n b.read b.opened more b.map.blocks was.own.writes was.own.top_number was.own.children (sums_of b.map) was.core.room ls) leaves
      ∙ ap (λ (f : ℕ → Option (List ℕ)). idle_state b n b.read b.opened more b.map.blocks f was.own.top_number was.own.children (sums_of b.map) was.core.room
      (leaves_from [] 1 (leaves_under (all_parts new))))
      (fun_ext (λ x. merged_block (block_at b.unfrozen.writes x) (cells_of group.items (key 0 x)) (frozen_block group.items x)
      (blocks_of_cells group.items x) ∙ sym (merged x)))
      ∙ ap (λ k. idle_state b n b.read b.opened more k (block_at writes.writes) was.own.top_number was.own.children (sums_of b.map) was.core.room
      (leaves_from [] 1 (leaves_under (all_parts new)))) (sym gives.volume.blocks)
      ∙ ap (λ (f : Sums). idle_state b n b.read b.opened more m.blocks (block_at writes.writes) was.own.top_number was.own.children f was.core.room
      (leaves_from [] 1 (leaves_under (all_parts new)))) (fun_ext (λ k. ap sum_in (sym (gives.keys k))))
      ∙ like_steps n b.read b.opened more m.blocks (block_at writes.writes) (sums_of m)

  -- A round has begun: its number waits for none, and nothing else is other than before.
  abbrev pub with_round : PoolState
  with_round = record (state_of held (going b group old)) {
    core = record (seen_of held (going b group old)) { group = record (group_of (Some group)) { fresh = false; begun = true } };
  }

  pub commit_steps : (draft : Draft) → draft.commit.number.0 ≡ group.numbers.last.0
      → ((k : Key) → sums_of m k ≡ sum_over (cells_of group.items k) (sums_of b.map k)) → m.blocks ≡ b.map.blocks
      → AllZip IsSettled (leaves_of old) (leaves_of new)
      → steps (Commits draft ∷ []) with_round ≡ state_of [] (acknowledged b group m pins new)
  commit_steps draft number committed blocks settles =
      let p = going b group old in
      let q = acknowledged b group m pins new in
      let n = group.numbers.last.0 in
      let was = steps (Commits draft ∷ []) with_round in
      let there = leaves_from [] 1 (leaves_under (all_parts new)) in
      let leaves = commits_leaves with_round.core group.board p q refl (built_sizes old new built) draft
      (subst (λ ls. AllZip IsSettled ls (all_leaves q)) (sym (trees_leaves old))
      (subst (AllZip IsSettled (leaves_of old)) (sym (trees_leaves new)) settles)) in
      ap (λ ls. idle_state b n draft.commit.number.0 true [] b.map.blocks (block_at b.unfrozen.writes) was.own.top_number was.own.children was.core.committed was.core.room ls) leaves
      ∙ ap (λ k. idle_state b n k true [] b.map.blocks (block_at b.unfrozen.writes) was.own.top_number was.own.children was.core.committed was.core.room there) number
      ∙ ap (λ (f : Sums). idle_state b n n true [] b.map.blocks (block_at b.unfrozen.writes) was.own.top_number was.own.children f was.core.room there)
      (fun_ext (λ k. sym (committed k)))
      ∙ ap (λ k. idle_state b n n true [] k (block_at b.unfrozen.writes) was.own.top_number was.own.children (sums_of m) was.core.room there) (sym blocks)
      ∙ ap (λ (f : ℕ → Guid). idle_state b n n true [] m.blocks (block_at b.unfrozen.writes) f was.own.children (sums_of m) was.core.room there)
      (sym like.told.numbers)
      ∙ ap (λ (f : ℕ → List Child). idle_state b n n true [] m.blocks (block_at b.unfrozen.writes) (number_of (vdevs_in (all_parts new))) f (sums_of m)
      was.core.room there) (sym like.told.children)
      ∙ ap (λ (f : ℕ → ℕ). idle_state b n n true [] m.blocks (block_at b.unfrozen.writes) (number_of (vdevs_in (all_parts new)))
      (children_of (vdevs_in (all_parts new))) (sums_of m) f there) (sym (room_kept old new like))
