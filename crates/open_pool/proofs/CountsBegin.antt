-- The counts of all leaves begin anew: the pool has its form still, and its state has made just these moves.
use Rattle.std.proofs.Common.{◌≡◌, ℕ, ◌<◌, ◌≤◌, ◌==◌, cond, false, List, [], ◌∷◌, map, Option, Some, None, is_some, refl, sym, ap, ap₂, ◌∙◌, subst, arith}
use Rattle.std.proofs.lemmas.Bool.{true≢false}
use Rattle.std.specs.Prelude.{All, IfSome, sum}
use Rattle.std.specs.List.{AllByRecursion}
use Rattle.std.proofs.lemmas.List.Elements.{All-from_recursion, recursion_from_All}
use Rattle.mp_base.specs.declared.number.Group.{Group}
use Rattle.group_set.specs.Groups.{holds}
use Rattle.block_map.specs.Keys.{root}
use Rattle.block_map.specs.Map.{pointer_at}
use Rattle.vdev_tree.specs.declared.top.Top.{Top}
use Rattle.vdev_tree.specs.declared.vdev.LeafVdev.{LeafVdev}
use Rattle.dtl_rules.specs.Widening.{leaves_of, marks_of, sectors_of}
use Rattle.pool_config.specs.Seen.{leaf_seen}
use Rattle.pool_config.specs.Validity.{log_length}
use Rattle.pool_codec.specs.Tops.{room_of}
use Rattle.txg_engine.specs.declared.seat.Seat.{Seat}
use Rattle.txg_engine.specs.Frozen.{FrozenGroup}
use Rattle.pool_moves.specs.CommitRows.{no_counts, uncounts}
use Rattle.pool_moves.specs.Leaves.{OwnLeaf, LeafSeen}
use Rattle.pool_moves.specs.Moves.{steps}
use Rattle.pool_moves.specs.States.{Sums, PoolState}
use Rattle.open_pool.specs.Form.{HasBoard, HasGroup, IsPool, all_leaves, config_of}
use Rattle.open_pool.specs.Here.{AreHere}
use Rattle.open_pool.specs.Parts.{PoolParts, all_parts}
use Rattle.open_pool.specs.Resuming.{uncounted}
use Rattle.open_pool.specs.State.{Stands, leaf_of, leaves_from, leaves_under, sectors_in, seats_in, seen_of, state_of}
use Rattle.open_pool.proofs.BoardKept.{AreSameLeaves}
use Rattle.open_pool.proofs.CountsAsMoves.{NoneOf, numbers_of, set_along, set_one, sets, steps_sets, unset}
use Rattle.open_pool.proofs.FaultsCounted.{with_leaves}
use Rattle.open_pool.proofs.FormKept.{devices_still, writable_still}
use Rattle.open_pool.proofs.GroupEnds.{no_board}
use Rattle.open_pool.proofs.LeavesByTops.{leaves_at, by_tops, same_tops as tops_alike, tops_from, under_all, under_trees, all_are_under}
use Rattle.open_pool.proofs.LeavesInForm.{leaves_are, leaves_numbered}
use Rattle.open_pool.proofs.LogsWidened.{IsWithin}
use Rattle.open_pool.proofs.NumbersApart.{Differ, itself, leaf_numbers, leaves_differ, turned_test}
use Rattle.open_pool.proofs.ReadRows.{numbers_seen}
use Rattle.open_pool.proofs.RecordStill.{AreRecordedStill, leaves_in, placed_still, recorded_still}
use Rattle.open_pool.proofs.SetsOffline.{with_trees}
use Rattle.open_pool.proofs.StatesStand.{by_state}
use Rattle.open_pool.proofs.TreesBuilt.{built_sizes, trees_told}
use Rattle.open_pool.proofs.TreesStay.{numbered_alike}
use Rattle.open_pool.proofs.TurnOfPool.{trees_here}
use Rattle.open_pool.proofs.TurnSteps.{sectors_are}

-- Each leaf is set to its own, where their numbers differ.
module _ (f : LeafSeen → OwnLeaf) where
  abbrev own_set : LeafSeen → LeafSeen
  own_set leaf = record leaf { own = f leaf }

  off_others : (n : ℕ) (xs : List LeafSeen) → AllByRecursion (λ k. (n == k) ≡ false) (numbers_of xs) → NoneOf n xs
  off_others n [] differ = tt
  off_others n (x ∷ xs) differ = (differ.0, off_others n xs differ.1)

  not_this : (x : LeafSeen) (xs ys : List LeafSeen) → AllByRecursion (λ k. (x.guid.0 == k) ≡ false) (numbers_of ys)
      → map (λ y. set_along f xs (set_one f x y)) ys ≡ map (set_along f xs) ys
  not_this x xs [] differ = refl
  not_this x xs (y ∷ ys) differ = ap₂ (λ l ls. l ∷ ls)
      (ap (λ b. set_along f xs (cond b (record y { own = f x }) y)) (turned_test x.guid.0 y.guid.0 differ.0))
      (not_this x xs ys differ.1)

  each_set : (xs : List LeafSeen) → Differ (numbers_of xs) → map (set_along f xs) xs ≡ map own_set xs
  each_set [] differ = refl
  each_set (x ∷ xs) differ = ap₂ (λ l ls. l ∷ ls)
      (ap (λ b. set_along f xs (cond b (own_set x) x)) (itself x.guid.0) ∙ unset f xs (own_set x) (off_others x.guid.0 xs differ.0))
      (not_this x xs xs differ.0 ∙ each_set xs differ.1)

  steps_own : (s : PoolState) → Differ (numbers_of s.core.leaves) → steps (sets f s.core.leaves) s ≡ with_leaves (map own_set s.core.leaves) s
  steps_own s differ = steps_sets f s.core.leaves s ∙ ap (λ ls. with_leaves ls s) (each_set s.core.leaves differ)

abbrev none_own : LeafSeen → OwnLeaf
none_own leaf = record (leaf.own) { counts = no_counts }

seen_uncounted : (seats : List Seat) (tops : List ℕ) (leaves : List LeafVdev)
    → leaves_at seats tops (map uncounted leaves) ≡ map (own_set none_own) (leaves_at seats tops leaves)
seen_uncounted seats [] leaves = refl
seen_uncounted seats (top ∷ tops) [] = refl
seen_uncounted seats (top ∷ tops) (leaf ∷ leaves) = ap (λ ls. own_set none_own (leaf_of seats top leaf) ∷ ls) (seen_uncounted seats tops leaves)

told_still : (leaves : List LeafVdev) → map leaf_seen (map uncounted leaves) ≡ map leaf_seen leaves
told_still [] = refl
told_still (leaf ∷ leaves) = ap (λ ls. leaf_seen leaf ∷ ls) (told_still leaves)

same_each : (leaves : List LeafVdev) → AreSameLeaves leaves (map uncounted leaves)
same_each [] = tt
same_each (leaf ∷ leaves) = (record { guid = refl; name = refl; dev = refl; state = refl; temporary = refl }, same_each leaves)

recorded_each : (leaves : List LeafVdev) → AreRecordedStill leaves (map uncounted leaves)
recorded_each [] = tt
recorded_each (leaf ∷ leaves) = (record { name = refl; state = λ is. is }, recorded_each leaves)

each_still : (P : LeafVdev → Type 0) → ((leaf : LeafVdev) → P leaf → P (uncounted leaf)) → (leaves : List LeafVdev) → AllByRecursion P leaves
    → AllByRecursion P (map uncounted leaves)
each_still P still [] has = tt
each_still P still (leaf ∷ leaves) has = (still leaf has.0, each_still P still leaves has.1)

pub none_frozen : (frozen : Option FrozenGroup) → is_some frozen ≡ false → frozen ≡ None
none_frozen None none = refl
none_frozen (Some group) none = absurd (true≢false none)

-- Trees whose leaves' counts begin anew.
pub record Uncounts (old new : List Top) : Type 0 where
  pub leaves : leaves_of new ≡ map uncounted (leaves_of old)
  pub built : marks_of new ≡ marks_of old
  pub sectors : sectors_of new ≡ sectors_of old

module _ (r : PoolParts) (old new : List Top) (begun : Uncounts old new) where
  abbrev p : PoolParts
  p = with_trees r old

  abbrev q : PoolParts
  q = with_trees r new

  same : AreSameLeaves (leaves_of old) (leaves_of new)
  same = subst (AreSameLeaves (leaves_of old)) (sym begun.leaves) (same_each (leaves_of old))

  all_same : AreSameLeaves (all_leaves p) (all_leaves q)
  all_same = subst (λ ls. AreSameLeaves ls (all_leaves q)) (sym (leaves_are old p refl))
      (subst (AreSameLeaves (leaves_of old)) (sym (leaves_are new q refl)) same)

  all_then : (P : LeafVdev → Type 0) → ((leaf : LeafVdev) → P leaf → P (uncounted leaf)) → All P (all_leaves p) → All P (all_leaves q)
  all_then P still has =
      subst (All P) (sym (leaves_are new q refl ∙ begun.leaves)) (All-from_recursion P (map uncounted (leaves_of old))
      (each_still P still (leaves_of old) (subst (AllByRecursion P) (leaves_are old p refl) (recursion_from_All P (all_leaves p) has))))

  same_sectors : sectors_in (all_parts new) ≡ sectors_in (all_parts old)
  same_sectors = sectors_are new ∙ begun.sectors ∙ sym (sectors_are old)

  pub pool_then : r.frozen ≡ None → IsPool p → IsPool q
  pool_then idle pool =
      let number : Group = record { 0 = r.highest } in
      let top = pointer_at r.map root in
      let within = all_then (IsWithin r.highest) (λ leaf has. has) pool.leaves.within in
      record {
        recordable = recorded_still old new begun.built begun.sectors (numbered_alike (leaves_of old) (leaves_of new) same)
            (subst (AreRecordedStill (leaves_of old)) (sym begun.leaves) (recorded_each (leaves_of old)))
            (config_of p number top) number top refl pool.recordable pool.recordable.number
            (subst (AllByRecursion (IsWithin r.highest)) (leaves_are new q refl) (recursion_from_All (IsWithin r.highest) (all_leaves q) within))
            (subst (λ ls. sum (map log_length ls) ≤ 4096) (leaves_in old ∙ sym (told_still (leaves_of old)) ∙ ap (map leaf_seen) (sym begun.leaves))
            pool.recordable.few_ranges)
            (placed_still old new number number top begun.sectors (omega arith) pool.recordable.root);
        tops = pool.tops ∙ sym same_sectors;
        read = pool.read;
        births = pool.births;
        places = record {
          taken = pool.places.taken;
          committed = pool.places.committed;
          frozen = pool.places.frozen;
          listed = pool.places.listed;
          inside = pool.places.inside;
        };
        apart = record { committed = pool.apart.committed; frozen = pool.apart.frozen; between = pool.apart.between };
        leaves = record {
          within = within;
          apart = devices_still (all_leaves p) (all_leaves q) all_same pool.leaves.apart;
          writable = writable_still (all_leaves p) (all_leaves q) all_same pool.leaves.writable;
          settled = all_then (λ leaf. (g : ℕ) → r.highest < g → holds leaf.settled g ≡ false) (λ leaf has. has) pool.leaves.settled;
        };
        board = subst (λ f. HasBoard (seats_in f) q) (sym idle) (no_board q);
        group = subst (λ f. IfSome f (HasGroup q)) (sym idle) tt;
        unfrozen = record {
          inside = pool.unfrozen.inside;
          room = pool.unfrozen.room;
          count = pool.unfrozen.count;
          few = pool.unfrozen.few;
        };
      }

  -- what is known of its leaves then
  seen_then : leaves_from (seats_in r.frozen) 1 (leaves_under (all_parts new))
      ≡ map (own_set none_own) (leaves_from (seats_in r.frozen) 1 (leaves_under (all_parts old)))
  seen_then =
      let seats = seats_in r.frozen in
      let tops = tops_from 1 (leaves_under (all_parts old)) in
      by_tops seats 1 (leaves_under (all_parts new))
      ∙ ap (λ ts. leaves_at seats ts (under_all (leaves_under (all_parts new))))
      (tops_alike 1 (leaves_under (all_parts new)) (leaves_under (all_parts old)) (built_sizes old new begun.built))
      ∙ ap (leaves_at seats tops) (under_trees new ∙ begun.leaves)
      ∙ seen_uncounted seats tops (leaves_of old)
      ∙ ap (map (own_set none_own)) (ap (leaves_at seats tops) (sym (under_trees old)) ∙ sym (by_tops seats 1 (leaves_under (all_parts old))))

  differ : IsPool p → Differ (numbers_of (leaves_from (seats_in r.frozen) 1 (leaves_under (all_parts old))))
  differ pool =
      subst Differ (sym (numbers_seen (seats_in r.frozen) 1 (leaves_under (all_parts old)) ∙ ap leaf_numbers (sym (all_are_under (all_parts old)))))
      (leaves_differ (all_leaves p) (leaves_numbered old p refl pool.recordable))

  state_then : (held : List Sums) → IsPool p → steps (uncounts (seen_of held p).leaves) (state_of held p) ≡ state_of held q
  state_then held pool =
      let alike = trees_told old new begun.built same in
      let numbers = alike.numbers in
      let children = alike.children in
      let room : room_of (sectors_in (all_parts new)) ≡ room_of (sectors_in (all_parts old)) = ap room_of same_sectors in
      let seen = seen_then in
      steps_own none_own (state_of held p) (differ pool) ∙ cc

  pub stands_then : IsPool p → (s : PoolState) → Stands p s → Stands q (steps (uncounts s.core.leaves) s)
  stands_then pool = by_state (λ s. Stands q (steps (uncounts s.core.leaves) s)) p (λ held pins.
      subst (Stands q) (sym (state_then held pool)) (record {
        is = refl;
        pinned = record { pinned = pins.pinned; held_places = pins.held_places };
      }))

  pub here_then : (size : ℕ → ℕ) → AreHere size (all_parts old) → AreHere size (all_parts new)
  here_then = trees_here old new begun.built begun.sectors same
