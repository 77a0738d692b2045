-- Behind a freeze that the engine refused nothing has changed but the room in sets, so the pool stands for the same state.
use Rattle.std.proofs.Common.{◌≡◌, ℕ, ◌≤◌, ◌^◌, Bool, List, [], ◌∷◌, length, map, None, refl, sym, ap, ◌∙◌, subst, arith}
use mathlib.Core.Path.{fun_ext}
use Rattle.std.specs.Prelude.{All, sum, Contains}
use Rattle.std.specs.List.{AllByRecursion, AllZip}
use Rattle.std.proofs.lemmas.List.Elements.{recursion_from_All}
use Rattle.mp_base.specs.declared.number.Group.{Group}
use Rattle.group_set.specs.Groups.{holds}
use Rattle.group_set.proofs.Upto.{upto_same}
use Rattle.block_map.specs.Keys.{root}
use Rattle.block_map.specs.Map.{Map, pointer_at}
use Rattle.block_map.specs.Places.{IsPlace}
use Rattle.vdev_tree.specs.declared.top.Top.{Top}
use Rattle.vdev_tree.specs.declared.vdev.LeafVdev.{LeafVdev}
use Rattle.dtl_rules.specs.Widening.{leaves_of, marks_of, sectors_of}
use Rattle.pool_codec.specs.Tops.{room_of}
use Rattle.pool_config.specs.Seen.{leaf_seen, ranges_of}
use Rattle.pool_config.specs.Validity.{log_length}
use Rattle.txg_engine.specs.declared.freezing.FreezeFault.TheVariants as engine_fault
use Rattle.txg_engine.specs.declared.seat.Seat.{Seat}
use Rattle.txg_engine.specs.Logs.{KeepsSets}
use Rattle.txg_engine.specs.Pins.{PinsSeen}
use Rattle.txg_engine.specs.Writes.{OpenGroup}
use Rattle.pool_moves.specs.States.{Sums}
use Rattle.open_pool.specs.Form.{IsPool, all_leaves, config_of}
use Rattle.open_pool.specs.Freezing.{FreezeParts, RefusesParts}
use Rattle.open_pool.specs.declared.freeze.FreezeFault.{FreezeFault}
use Rattle.open_pool.specs.declared.freeze.FreezeFault.TheVariants as fault
use Rattle.open_pool.specs.Parts.{PoolParts, all_parts}
use Rattle.open_pool.specs.State.{ArePinned, Stands, state_of, leaf_of, leaves_from, leaves_under, sectors_in}
use Rattle.open_pool.proofs.BoardKept.{AreSameLeaves, same_keeps, board_mapped}
use Rattle.open_pool.proofs.LeavesByTops.{leaves_at, by_tops, tops_from, under_trees, sizes, same_tops}
use Rattle.open_pool.proofs.LeavesInForm.{leaves_are, on_leaves}
use Rattle.open_pool.proofs.LeavesKept.{AreKept, all_sets_kept, leaves_kept}
use Rattle.open_pool.proofs.LeavesStay.{roomy_same}
use Rattle.open_pool.proofs.LogsWidened.{IsWithin}
use Rattle.open_pool.proofs.NumbersOwed.{within_kept}
use Rattle.open_pool.proofs.RecordStill.{valid_still, placed_still, leaves_in}
use Rattle.open_pool.proofs.TreesBuilt.{built_sizes, trees_told}

-- A pool over these parts, and without a frozen group.
abbrev pub with_parts : PoolParts → FreezeParts → PoolParts
with_parts r parts = record r { map = parts.map; pins = parts.pins; tops = all_parts parts.trees; unfrozen = parts.unfrozen }

abbrev pub idle_parts : PoolParts → FreezeParts → PoolParts
idle_parts r parts = record (with_parts r parts) { frozen = None }

pub sectors_are : (trees : List Top) → sectors_in (all_parts trees) ≡ sectors_of trees
sectors_are [] = refl
sectors_are (top ∷ trees) = ap (λ ns. top.sectors ∷ ns) (sectors_are trees)

-- What is seen of leaves whose sets are the same.
leaf_seen_same : (seats : List Seat) (top : ℕ) (old new : LeafVdev) → KeepsSets old new → leaf_of seats top old ≡ leaf_of seats top new
leaf_seen_same seats top old new keeps =
    ap (λ (owes : ℕ → Bool). record (leaf_of seats top old) { owes = owes }) (fun_ext (λ g. sym (keeps.log.groups g)))
    ∙ ap (λ (settled : ℕ → Bool). record (leaf_of seats top old) { owes = holds new.log; settled = settled })
    (fun_ext (λ g. sym (keeps.settled.groups g)))
    ∙ ap (leaf_of seats top) (sym (keeps.rest new.log new.settled))

leaves_seen_same : (seats : List Seat) (tops : List ℕ) (old new : List LeafVdev) → AllZip KeepsSets old new
    → leaves_at seats tops old ≡ leaves_at seats tops new
leaves_seen_same seats [] old new keeps = refl
leaves_seen_same seats (top ∷ tops) [] [] keeps = refl
leaves_seen_same seats (top ∷ tops) [] (y ∷ new) keeps = absurd keeps
leaves_seen_same seats (top ∷ tops) (x ∷ old) [] keeps = absurd keeps
leaves_seen_same seats (top ∷ tops) (x ∷ old) (y ∷ new) keeps =
    ap (λ l. l ∷ leaves_at seats tops old) (leaf_seen_same seats top x y keeps.0)
    ∙ ap (λ ls. leaf_of seats top y ∷ ls) (leaves_seen_same seats tops old new keeps.1)

lengths_same : (old new : List LeafVdev) → AllZip KeepsSets old new
    → map log_length (map leaf_seen new) ≡ map log_length (map leaf_seen old)
unfolding ranges_of
lengths_same [] [] keeps = refl
lengths_same [] (y ∷ new) keeps = absurd keeps
lengths_same (x ∷ old) [] keeps = absurd keeps
lengths_same (x ∷ old) (y ∷ new) keeps =
    ap (λ n. n ∷ map log_length (map leaf_seen new))
    (ap length (upto_same (holds y.log) (holds x.log) (2 ^ 62) (λ g low high. keeps.0.log.groups g)))
    ∙ ap (λ ns. length (ranges_of x.log) ∷ ns) (lengths_same old new keeps.1)

-- Where there was no memory for the next open group nothing has changed at all.
sets_same : (leaves : List LeafVdev) → AllZip KeepsSets leaves leaves
sets_same [] = tt
sets_same (leaf ∷ leaves) = (
  record {
    log = record { groups = λ g. refl; ranges = refl; room = omega arith };
    settled = record { groups = λ g. refl; ranges = refl; room = omega arith };
    rest = λ log settled. refl;
  },
  sets_same leaves,
)

pub no_memory : (number : Group) (old : FreezeParts) → RefusesParts number old old fault.Memory
no_memory number old = record {
  by = engine_fault.Memory;
  says = refl;
  cause = tt;
  unfrozen = refl;
  map = refl;
  pins = refl;
  leaves = sets_same (leaves_of old.trees);
  built = refl;
  sectors = refl;
}

-- the same but for the room in sets and for pins
abbrev roomy_parts : FreezeParts → PinsSeen → List Top → FreezeParts
roomy_parts old pins trees = record old { pins = pins; trees = trees }

module _ (r : PoolParts) (old : FreezeParts) (pins : PinsSeen) (trees : List Top)
    (leaves : AllZip KeepsSets (leaves_of old.trees) (leaves_of trees))
    (built : marks_of trees ≡ marks_of old.trees) (sectors : sectors_of trees ≡ sectors_of old.trees)
    (pinned : pins.places ≡ old.pins.places) where
  same : AreSameLeaves (leaves_of old.trees) (leaves_of trees)
  same = roomy_same (leaves_of old.trees) (leaves_of trees) leaves

  long : sizes (leaves_under (all_parts trees)) ≡ sizes (leaves_under (all_parts old.trees))
  long = built_sizes old.trees trees built

  seen_same : leaves_from [] 1 (leaves_under (all_parts old.trees)) ≡ leaves_from [] 1 (leaves_under (all_parts trees))
  seen_same =
      by_tops [] 1 (leaves_under (all_parts old.trees))
      ∙ ap (leaves_at [] (tops_from 1 (leaves_under (all_parts old.trees)))) (under_trees old.trees)
      ∙ leaves_seen_same [] (tops_from 1 (leaves_under (all_parts old.trees))) (leaves_of old.trees) (leaves_of trees) leaves
      ∙ ap (λ ts. leaves_at [] ts (leaves_of trees))
      (sym (same_tops 1 (leaves_under (all_parts trees)) (leaves_under (all_parts old.trees)) long))
      ∙ ap (leaves_at [] (tops_from 1 (leaves_under (all_parts trees)))) (sym (under_trees trees))
      ∙ sym (by_tops [] 1 (leaves_under (all_parts trees)))

  sectors_same : sectors_in (all_parts trees) ≡ sectors_in (all_parts old.trees)
  sectors_same = sectors_are trees ∙ sectors ∙ sym (sectors_are old.trees)

  roomy_state : (held : List Sums) → state_of held (idle_parts r old) ≡ state_of held (idle_parts r (roomy_parts old pins trees))
  roomy_state held =
      let alike = trees_told old.trees trees built same in
      let numbers = alike.numbers in
      let children = alike.children in
      let room : room_of (sectors_in (all_parts trees)) ≡ room_of (sectors_in (all_parts old.trees)) = ap room_of sectors_same in
      let seen = seen_same in
      cc

  roomy_pool : IsPool (idle_parts r old) → IsPool (idle_parts r (roomy_parts old pins trees))
  roomy_pool pool =
      let p : PoolParts = idle_parts r old in
      let q : PoolParts = idle_parts r (roomy_parts old pins trees) in
      let kept = all_sets_kept (leaves_of old.trees) (leaves_of trees) leaves in
      let all = on_leaves AreSameLeaves old.trees trees p q refl refl same in
      let within = on_leaves (λ was is. AllByRecursion (IsWithin r.highest) was → AllByRecursion (IsWithin r.highest) is)
      old.trees trees p q refl refl (within_kept r.highest (leaves_of old.trees) (leaves_of trees) leaves)
      (recursion_from_All (IsWithin r.highest) (all_leaves p) pool.leaves.within) in
      let c = config_of p (record { 0 = r.highest }) (pointer_at old.map root) in
      record {
        recordable = valid_still old.trees trees built sectors same kept c (record { 0 = r.highest }) (pointer_at old.map root) refl
            pool.recordable (omega arith) pool.recordable.number.1
            (subst (AllByRecursion (IsWithin r.highest)) (leaves_are trees q refl) within)
            (subst (λ ns. sum ns ≤ 4096) (sym (lengths_same (leaves_of old.trees) (leaves_of trees) leaves))
            (subst (λ ls. sum (map log_length ls) ≤ 4096) (leaves_in old.trees) pool.recordable.few_ranges))
            (placed_still old.trees trees (record { 0 = r.highest }) (record { 0 = r.highest }) (pointer_at old.map root) sectors (omega arith)
            pool.recordable.root);
        tops = pool.tops ∙ sym sectors_same;
        read = pool.read;
        births = pool.births;
        places = record {
          taken = pool.places.taken;
          committed = pool.places.committed;
          frozen = pool.places.frozen;
          listed = λ place is. subst (λ ps. Contains ps place) (sym pinned) (pool.places.listed place is);
          inside = subst (All (IsPlace old.map.sectors)) (sym pinned) pool.places.inside;
        };
        apart = record { committed = pool.apart.committed; frozen = pool.apart.frozen; between = pool.apart.between };
        leaves = leaves_kept p q all (on_leaves AreKept old.trees trees p q refl refl kept) within (omega arith) pool.leaves;
        board = board_mapped (λ seat. seat) same_keeps [] p q long all pool.board;
        group = tt;
        unfrozen = record {
          inside = pool.unfrozen.inside;
          room = pool.unfrozen.room;
          count = pool.unfrozen.count;
          few = pool.unfrozen.few;
        };
      }

module _ (r : PoolParts) (old new : FreezeParts) (number : Group) (why : FreezeFault) (refuses : RefusesParts number old new why) where
  by_roomy : (P : PoolParts → Type 0) → P (idle_parts r (roomy_parts old new.pins new.trees)) → P (idle_parts r new)
  by_roomy P has =
      subst (λ (group : OpenGroup). P (idle_parts r (record { unfrozen = group; map = new.map; pins = new.pins; trees = new.trees })))
      (sym refuses.unfrozen)
      (subst (λ (m : Map). P (idle_parts r (record { unfrozen = old.unfrozen; map = m; pins = new.pins; trees = new.trees }))) (sym refuses.map) has)

  pub refused_pool : IsPool (idle_parts r old) → IsPool (idle_parts r new)
  refused_pool pool = by_roomy IsPool
      (roomy_pool r old new.pins new.trees refuses.leaves refuses.built refuses.sectors refuses.pins pool)

  pub refused_stands : (held : List Sums) → ArePinned held (idle_parts r old) → Stands (idle_parts r new) (state_of held (idle_parts r old))
  refused_stands held pins = by_roomy (λ q. Stands q (state_of held (idle_parts r old))) (record {
    is = roomy_state r old new.pins new.trees refuses.leaves refuses.built refuses.sectors refuses.pins held;
    pinned = record { pinned = pins.pinned; held_places = pins.held_places };
  })
