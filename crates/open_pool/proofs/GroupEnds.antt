-- How a group's end leaves the pool and its state: acknowledged, or suspended.
use Rattle.std.proofs.Common.{◌≡◌, ◌⊎◌, ⊎_elim, ℕ, zero, suc, ◌+◌, ◌<◌, ◌≤◌, ◌==◌, ◌&&◌, ◌||◌, cond, Bool, true, false, List, [], ◌∷◌, length, map, Option, Some, None, Contains, refl, sym, ap, ◌∙◌, subst, arith}
use Rattle.std.specs.Prelude.{All, is_some, nat_lt}
use Rattle.std.specs.List.{AllByRecursion, AllZip, filter_map, flat_map}
use Rattle.std.proofs.lemmas.Bool.{true≢false, false_from_ne_true, cases_lt}
use Rattle.std.proofs.lemmas.Bool.Decides.{nat_tests}
use Rattle.std.proofs.lemmas.List.Elements.{recursion_from_All, All-from_recursion, All-head, All-tail}
use Rattle.mp_base.specs.declared.number.Group.{Group}
use Rattle.mp_base.specs.declared.place.Key.{Key}
use Rattle.mp_base.specs.declared.place.Pointer.{Pointer}
use Rattle.mp_base.specs.declared.range.GroupRange.{GroupRange}
use Rattle.group_set.specs.Groups.{holds}
use Rattle.group_set.specs.Ranges.{extended, range_of_one, range_up_to, ranges_upto}
use Rattle.group_set.proofs.Upto.{upto_same}
use Rattle.block_map.specs.Keys.{root, IsKey, keys_at}
use Rattle.block_map.specs.Map.{Map, pointer_at, SameVolume}
use Rattle.vdev_tree.specs.Leaf.{is_readable}
use Rattle.vdev_tree.specs.declared.top.Top.{Top}
use Rattle.vdev_tree.specs.declared.vdev.LeafVdev.{LeafVdev}
use Rattle.dtl_rules.specs.Widening.{leaves_of, marks_of, sectors_of}
use Rattle.pool_config.specs.Seen.{top_seen}
use Rattle.pool_config.specs.Validity.{IsValid, IsHole, IsPlaced}
use Rattle.txg_history.specs.Groups.{same_key}
use Rattle.txg_history.specs.Records.{Cell, key}
use Rattle.txg_engine.specs.declared.item.Item.{Item}
use Rattle.txg_engine.specs.declared.write.Write.{Write}
use Rattle.txg_engine.specs.Ending.{AreMerged, GivesBack, IsAdopted, or_else}
use Rattle.txg_engine.specs.Freezing.{IsSigned}
use Rattle.txg_engine.specs.Frozen.{FrozenGroup}
use Rattle.txg_engine.specs.Items.{laid, put, frozen_block, places_of}
use Rattle.txg_engine.specs.Logs.{IsCut, IsSettled}
use Rattle.txg_engine.specs.Pins.{PinsSeen}
use Rattle.txg_engine.specs.Writes.{OpenGroup, RiseFrom, block_at, is_written}
use Rattle.txg_engine.proofs.Ready.{nothing}
use Rattle.open_pool.specs.Form.{top_of, config_of, all_leaves, AreSeated, HasBoard, HasLeaves, HasPlaces, ArePlacesApart, IsPool}
use Rattle.open_pool.specs.Parts.{TopParts, PoolParts, all_parts}
use Rattle.open_pool.specs.State.{cells_of, leaves_under, sectors_in, seat_in}
use Rattle.open_pool.proofs.BoardKept.{AreSameLeaves}
use Rattle.open_pool.proofs.CountsBelow.{count_same}
use Rattle.open_pool.proofs.FormKept.{devices_still, writable_still}
use Rattle.open_pool.proofs.GoingKept.{root_kept, trees_leaves}
use Rattle.open_pool.proofs.GroupBlocks.{has_block}
use Rattle.open_pool.proofs.KeysFound.{found_item}
use Rattle.open_pool.proofs.LeavesAtEnd.{cut_within, settled_within}
use Rattle.open_pool.proofs.LeavesStay.{cut_same, settled_same}
use Rattle.open_pool.proofs.LogsWidened.{IsWithin}
use Rattle.open_pool.proofs.NeedCounted.{few_writes}
use Rattle.open_pool.proofs.PlacesEnd.{acknowledged, burned_pool}
use Rattle.open_pool.proofs.RecordKept.{few_recorded, ranges_in_all, tops_seen, valid_kept}
use Rattle.open_pool.proofs.SeatsOfFreeze.{OnOwnDevices}
use Rattle.open_pool.proofs.TurnSteps.{going, sectors_are}
use Rattle.open_pool.proofs.WritesCounted.{count_writes, writes_low, written_low}

-- A log without the numbers of a group has no more ranges.
extended_longer : (g : ℕ) (ranges : List GroupRange) → length ranges ≤ length (extended g ranges)
extended_longer g [] = omega arith
extended_longer g (range ∷ []) = by (range.high.0 + 1 == g)
  where
    by : (t : Bool) → 1 ≤ length (cond t (range_up_to range g ∷ []) (range ∷ range_of_one g ∷ []))
    by true = omega arith
    by false = omega arith
extended_longer g (range ∷ (next ∷ ranges)) = let more = extended_longer g (next ∷ ranges) in omega (arith, more)

upto_more : (set : ℕ → Bool) (n : ℕ) → length (ranges_upto set n) ≤ length (ranges_upto set (suc n))
unfolding ranges_upto
upto_more set n = by (set (suc n))
  where
    by : (t : Bool) → length (ranges_upto set n) ≤ length (cond t (extended (suc n) (ranges_upto set n)) (ranges_upto set n))
    by true = extended_longer (suc n) (ranges_upto set n)
    by false = omega arith

none_more : (set : ℕ → Bool) (n : ℕ) → set (suc n) ≡ false → ranges_upto set (suc n) ≡ ranges_upto set n
unfolding ranges_upto
none_more set n none = ap (λ t. cond t (extended (suc n) (ranges_upto set n)) (ranges_upto set n)) none

nothing_upto : (set : ℕ → Bool) → ranges_upto set zero ≡ []
unfolding ranges_upto
nothing_upto set = refl

off_and : (a b : Bool) → b ≡ false → (a && b) ≡ false
off_and true b off = off
off_and false b off = refl

on_and : (a b : Bool) → b ≡ true → (a && b) ≡ a
on_and true b on = on
on_and false b on = refl

cut_shorter : (n first : ℕ) (cut set : ℕ → Bool) → ((g : ℕ) → cut g ≡ (set g && nat_lt g first))
    → length (ranges_upto cut n) ≤ length (ranges_upto set n)
cut_shorter zero first cut set is = (let a = ap length (nothing_upto cut) in let b = ap length (nothing_upto set) in omega (arith, a, b))
cut_shorter (suc n) first cut set is =
    ⊎_elim
    (λ below. let same = ap length (upto_same cut set (suc n) (λ g low high. is g ∙ on_and (set g) (nat_lt g first)
    (let lt : g < first = omega (arith, high, below) in let on : nat_lt g first ≡ true = grind (arith, nat_tests) in on))) in omega (arith, same))
    (λ above. let less = cut_shorter n first cut set is in let more = upto_more set n in
    let same = ap length (none_more cut n (is (suc n) ∙ off_and (set (suc n)) (nat_lt (suc n) first)
    (let off : nat_lt (suc n) first ≡ false = grind (arith, nat_tests) in off))) in omega (arith, less, more, same))
    (cases_lt (suc n) first)

cut_few : (n first : ℕ) (old new : List LeafVdev) → AllZip (IsCut first) old new → ranges_in_all n new ≤ ranges_in_all n old
cut_few n first [] [] cut = omega arith
cut_few n first [] (y ∷ new) cut = absurd cut
cut_few n first (x ∷ old) [] cut = absurd cut
cut_few n first (x ∷ old) (y ∷ new) cut =
    let here = cut_shorter n first (holds y.log) (holds x.log) cut.0.log in let rest = cut_few n first old new cut.1 in omega (arith, here, rest)

settled_few : (n : ℕ) (old new : List LeafVdev) → AllZip IsSettled old new → ranges_in_all n new ≡ ranges_in_all n old
settled_few n [] [] settles = refl
settled_few n [] (y ∷ new) settles = absurd settles
settled_few n (x ∷ old) [] settles = absurd settles
settled_few n (x ∷ old) (y ∷ new) settles =
    ap (λ (leaf : LeafVdev). length (ranges_upto (holds leaf.log) n) + ranges_in_all n new) (settles.0.rest nothing)
    ∙ ap (λ k. length (ranges_upto (holds x.log) n) + k) (settled_few n old new settles.1)

-- what is settled is within the numbers
abbrev IsSettledTo : (n : ℕ) → LeafVdev → Type 0
IsSettledTo n leaf = (g : ℕ) → n < g → holds leaf.settled g ≡ false

cut_to : (n first : ℕ) (old new : List LeafVdev) → AllZip (IsCut first) old new → AllByRecursion (IsSettledTo n) old
    → AllByRecursion (IsSettledTo n) new
cut_to n first [] [] cut all = tt
cut_to n first [] (y ∷ new) cut all = absurd cut
cut_to n first (x ∷ old) [] cut all = absurd cut
cut_to n first (x ∷ old) (y ∷ new) cut all = (
  λ g above. cut.0.settled g ∙ ap (λ h. h && nat_lt g first) (all.0 g above),
  cut_to n first old new cut.1 all.1,
)

settled_to : (n : ℕ) (old new : List LeafVdev) → AllZip IsSettled old new → AllByRecursion (IsWithin n) old
    → AllByRecursion (IsSettledTo n) new
settled_to n [] [] settles all = tt
settled_to n [] (y ∷ new) settles all = absurd settles
settled_to n (x ∷ old) [] settles all = absurd settles
settled_to n (x ∷ old) (y ∷ new) settles all = (
  λ g above. settles.0.groups g ∙ false_from_ne_true (holds x.log g) (λ there. let top = (all.0 g there).1 in omega (arith, above, top)),
  settled_to n old new settles.1 all.1,
)

-- nobody has a seat
no_order : (leaves : List LeafVdev) → filter_map (λ (leaf : LeafVdev). seat_in [] leaf.guid) leaves ≡ []
no_order [] = refl
no_order (leaf ∷ leaves) = no_order leaves

no_seats : (top : ℕ) (tops : List (List LeafVdev)) → AreSeated [] top tops
no_seats top [] = tt
no_seats top (under ∷ tops) = (λ k d lt. tt, no_seats (suc top) tops)

pub no_board : (p : PoolParts) → HasBoard [] p
no_board p = record { order = no_order (all_leaves p); seated = no_seats 1 (leaves_under p.tops) }

-- births of the new record
laid_births : (n first : ℕ) (items : List Item) (at : Key → Pointer) (k : Key) → first ≤ n → All (IsSigned first) items
    → ((j : Key) → (at j).birth.0 ≤ n) → (laid items at k).birth.0 ≤ n
laid_births n first [] at k le signed low = low k
laid_births n first (item ∷ items) at k le signed low =
    laid_births n first items (put item at) k le (All-tail (IsSigned first) item items signed) (λ j. by j (same_key item.key j))
  where
    here : item.pointer.birth.0 ≤ n
    here = let birth = (All-head (IsSigned first) item items signed).birth in omega (arith, birth, le)

    by : (j : Key) (t : Bool) → (cond t item.pointer (at j)).birth.0 ≤ n
    by j true = here
    by j false = low j

low_block : (blocks x : ℕ) → IsKey blocks (key 0 x) → x < blocks
unfolding keys_at
low_block blocks x is = is.index

-- the addresses of both groups are those of the merged writes
merged_is : (a b : Option (List ℕ)) → is_some (or_else a b) ≡ (is_some a || is_some b)
merged_is None b = refl
merged_is (Some x) b = refl

dirty_none : (a : Bool) → (a || false) ≡ a
dirty_none true = refl
dirty_none false = refl

-- What both ends have in common: the leaves, the map's volume, and the root's place.
module _ (b : PoolParts) (group : FrozenGroup) (old new : List Top) (pool : IsPool (going b group old)) (m : Map)
    (volume : SameVolume b.map m) (built : marks_of new ≡ marks_of old) (sectors : sectors_of new ≡ sectors_of old)
    (same : AreSameLeaves (leaves_of old) (leaves_of new)) (within : AllByRecursion (IsWithin group.numbers.last.0) (leaves_of new))
    (few : ranges_in_all group.numbers.last.0 (leaves_of new) ≤ 4096)
    (settled : AllByRecursion (IsSettledTo group.numbers.last.0) (leaves_of new)) where
  number : Group
  number = record { 0 = group.numbers.last.0 }

  recorded_still : (r : Pointer) → IsHole r ⊎ IsPlaced (record { 0 = group.numbers.last.0 }) (map top_seen new) r
      → IsValid (record (config_of (going b group old) (record { 0 = group.numbers.last.0 }) r) { blocks = m.blocks; tops = map top_of (all_parts new) })
  recorded_still r placed =
      subst (λ ts. IsValid (record (config_of (going b group old) (record { 0 = group.numbers.last.0 }) r) { blocks = m.blocks; tops = ts }))
      (sym (tops_seen new))
      (subst (λ n. IsValid (record (config_of (going b group old) (record { 0 = group.numbers.last.0 }) r) { blocks = n; tops = map top_seen new }))
      (sym volume.blocks)
      (valid_kept (config_of (going b group old) (record { 0 = group.numbers.last.0 }) (pointer_at b.map root)) (record { 0 = group.numbers.last.0 }) r
      old new (tops_seen old) pool.recordable
      pool.recordable.number placed built sectors same within few))

  all_is : flat_map (λ (top : TopParts). top.leaves) (all_parts new) ≡ leaves_of new
  all_is = trees_leaves new

  pub leaves_end : (q : PoolParts) → q.tops ≡ all_parts new → q.highest ≡ group.numbers.last.0 → HasLeaves q
  leaves_end q tops highest =
      let is : all_leaves q ≡ leaves_of new = ap (λ ts. flat_map (λ (top : TopParts). top.leaves) ts) tops ∙ all_is in
      record {
        within = All-from_recursion (IsWithin q.highest) (all_leaves q) (subst (AllByRecursion (IsWithin q.highest)) (sym is)
            (subst (λ n. AllByRecursion (IsWithin n) (leaves_of new)) (sym highest) within));
        apart = subst OnOwnDevices (sym is) (devices_still (leaves_of old) (leaves_of new) same
            (subst OnOwnDevices (trees_leaves old) pool.leaves.apart));
        writable = subst (λ ls. All (λ leaf. is_readable leaf ≡ true → is_some leaf.dev ≡ true) ls) (sym is)
            (writable_still (leaves_of old) (leaves_of new) same
            (subst (λ ls. All (λ leaf. is_readable leaf ≡ true → is_some leaf.dev ≡ true) ls) (trees_leaves old) pool.leaves.writable));
        settled = All-from_recursion (IsSettledTo q.highest) (all_leaves q) (subst (AllByRecursion (IsSettledTo q.highest)) (sym is)
            (subst (λ n. AllByRecursion (IsSettledTo n) (leaves_of new)) (sym highest) settled));
      }

  pub tops_end : m.sectors ≡ sectors_in (all_parts new)
  tops_end = volume.sectors ∙ pool.tops ∙ sectors_are old ∙ sym sectors ∙ sym (sectors_are new)

-- An acknowledged group.
module _ (b : PoolParts) (group : FrozenGroup) (old new : List Top) (pool : IsPool (going b group old)) (m : Map) (pins : PinsSeen)
    (order : group.numbers.first.0 ≤ group.numbers.last.0) (rise : RiseFrom 0 b.unfrozen.writes)
    (adopted : IsAdopted group.items b.pins.places b.map m) (built : marks_of new ≡ marks_of old) (sectors : sectors_of new ≡ sectors_of old)
    (settles : AllZip IsSettled (leaves_of old) (leaves_of new))
    (places : HasPlaces (acknowledged b group m pins new)) (apart : ArePlacesApart (acknowledged b group m pins new))
    (placed : IsHole (pointer_at m root) ⊎ IsPlaced (record { 0 = group.numbers.last.0 }) (map top_seen new) (pointer_at m root)) where
  old_within : AllByRecursion (IsWithin group.numbers.last.0) (leaves_of old)
  old_within = subst (AllByRecursion (IsWithin group.numbers.last.0)) (trees_leaves old)
      (recursion_from_All (IsWithin group.numbers.last.0) (all_leaves (going b group old)) pool.leaves.within)

  old_few : ranges_in_all group.numbers.last.0 (leaves_of old) ≤ 4096
  old_few = few_recorded (config_of (going b group old) (record { 0 = group.numbers.last.0 }) (pointer_at b.map root)) group.numbers.last.0 old
      (tops_seen old) pool.recordable pool.recordable.number.1 old_within

  pub acknowledged_kept : IsPool (acknowledged b group m pins new)
  acknowledged_kept =
      let same = settled_same (leaves_of old) (leaves_of new) settles in
      let within = settled_within group.numbers.last.0 (leaves_of old) (leaves_of new) settles old_within in
      let few = subst (λ n. n ≤ 4096) (sym (settled_few group.numbers.last.0 (leaves_of old) (leaves_of new) settles)) old_few in
      let settled = settled_to group.numbers.last.0 (leaves_of old) (leaves_of new) settles old_within in
      record {
        recordable = recorded_still b group old new pool m adopted.volume built sectors same within few settled (pointer_at m root) placed;
        tops = tops_end b group old new pool m adopted.volume built sectors same within few settled;
        read = omega arith;
        births = λ k. subst (λ (p : Pointer). p.birth.0 ≤ group.numbers.last.0) (sym (adopted.keys k))
            (laid_births group.numbers.last.0 group.numbers.first.0 group.items (pointer_at b.map) k order pool.group.signed
            (λ j. let low = pool.births j in let read = pool.read in omega (arith, low, read)));
        places = places;
        apart = apart;
        leaves = leaves_end b group old new pool m adopted.volume built sectors same within few settled (acknowledged b group m pins new) refl refl;
        board = no_board (acknowledged b group m pins new);
        group = tt;
        unfrozen = record {
          inside = subst (λ n. All (λ (write : Write). write.addr < n) b.unfrozen.writes) (sym adopted.volume.blocks) pool.unfrozen.inside;
          room = pool.unfrozen.room;
          count = count_same m.blocks (λ x. is_written b.unfrozen.writes x || false) (is_written b.unfrozen.writes) (λ x lt. dirty_none (is_written b.unfrozen.writes x))
              ∙ count_writes m.blocks 0 b.unfrozen.writes rise
              (subst (λ n. All (λ (write : Write). write.addr < n) b.unfrozen.writes) (sym adopted.volume.blocks) pool.unfrozen.inside);
          few = few_writes (going b group old) pool rise;
        };
      }

-- A suspended one.
module _ (b : PoolParts) (group : FrozenGroup) (old new : List Top) (pool : IsPool (going b group old)) (m : Map) (pins : PinsSeen)
    (writes : OpenGroup) (rise : RiseFrom 0 writes.writes)
    (gives : GivesBack group.begun (places_of group.items) b.map m) (merged : AreMerged group.items b.unfrozen.writes writes.writes)
    (room : 4096 ≤ writes.room) (built : marks_of new ≡ marks_of old) (sectors : sectors_of new ≡ sectors_of old)
    (cut : AllZip (IsCut group.numbers.first.0) (leaves_of old) (leaves_of new))
    (places : HasPlaces (burned_pool b group m pins writes new)) (apart : ArePlacesApart (burned_pool b group m pins writes new)) where
  merged_dirty : (x : ℕ) → is_written writes.writes x ≡ (is_written b.unfrozen.writes x || is_some (cells_of group.items (key 0 x)))
  merged_dirty x = ap is_some (merged x) ∙ merged_is (block_at b.unfrozen.writes x) (frozen_block group.items x)
      ∙ ap (λ t. is_written b.unfrozen.writes x || t) (sym (has_block group.items x))

  in_group : (x : ℕ) (o : Option Cell) → cells_of group.items (key 0 x) ≡ o → is_some o ≡ true → x < b.map.blocks
  in_group x None is some = absurd (true≢false (sym some))
  in_group x (Some cell) is some =
      let found = found_item group.items (key 0 x) cell is in
      low_block b.map.blocks x (subst (IsKey b.map.blocks) found.key_is (of_all pool.group.keys found.among))
    where
      of_all : {item : Item} → All (λ item. IsKey b.map.blocks item.key) group.items → Contains group.items item → IsKey b.map.blocks item.key
      of_all {item} all (k, lt, is) = subst (λ (i : Item). IsKey b.map.blocks i.key) is (all k item lt)

  dirty_low : (x : ℕ) → is_written writes.writes x ≡ true → x < b.map.blocks
  dirty_low x is = by (is_written b.unfrozen.writes x) refl (sym (merged_dirty x) ∙ is)
    where
      by : (t : Bool) → is_written b.unfrozen.writes x ≡ t → (t || is_some (cells_of group.items (key 0 x))) ≡ true → x < b.map.blocks
      by true on is = written_low b.map.blocks b.unfrozen.writes pool.unfrozen.inside x on
      by false off is = in_group x (cells_of group.items (key 0 x)) refl is

  burned_within : AllByRecursion (IsWithin group.numbers.last.0) (leaves_of old)
  burned_within = subst (AllByRecursion (IsWithin group.numbers.last.0)) (trees_leaves old)
      (recursion_from_All (IsWithin group.numbers.last.0) (all_leaves (going b group old)) pool.leaves.within)

  pub burned_kept : IsPool (burned_pool b group m pins writes new)
  burned_kept =
      let same = cut_same group.numbers.first.0 (leaves_of old) (leaves_of new) cut in
      let within = cut_within group.numbers.last.0 group.numbers.first.0 (leaves_of old) (leaves_of new) cut burned_within in
      let was_few = few_recorded (config_of (going b group old) (record { 0 = group.numbers.last.0 }) (pointer_at b.map root)) group.numbers.last.0 old
      (tops_seen old) pool.recordable pool.recordable.number.1 burned_within in
      let few : ranges_in_all group.numbers.last.0 (leaves_of new) ≤ 4096 =
      (let less = cut_few group.numbers.last.0 group.numbers.first.0 (leaves_of old) (leaves_of new) cut in omega (arith, less, was_few)) in
      let settled = cut_to group.numbers.last.0 group.numbers.first.0 (leaves_of old) (leaves_of new) cut
      (subst (AllByRecursion (IsSettledTo group.numbers.last.0)) (trees_leaves old)
      (recursion_from_All (IsSettledTo group.numbers.last.0) (all_leaves (going b group old)) pool.leaves.settled)) in
      let r = pointer_at b.map root in
      let placed = root_kept (record { 0 = group.numbers.last.0 }) (record { 0 = group.numbers.last.0 }) old new r (omega arith) sectors
      (subst (λ ts. IsHole r ⊎ IsPlaced (record { 0 = group.numbers.last.0 }) ts r) (tops_seen old) pool.recordable.root) in
      let inside : All (λ (write : Write). write.addr < b.map.blocks) writes.writes = writes_low b.map.blocks writes.writes dirty_low in
      let count = count_writes b.map.blocks 0 writes.writes rise inside in
      let dirty = count_same b.map.blocks (is_written writes.writes) (λ x. is_written b.unfrozen.writes x || is_some (cells_of group.items (key 0 x)))
      (λ x lt. merged_dirty x) in
      record {
        recordable = subst (λ (k : Pointer). IsValid (record (config_of (going b group old) (record { 0 = group.numbers.last.0 }) k) { blocks = m.blocks; tops = map top_of (all_parts new) }))
            (sym (gives.keys root))
            (recorded_still b group old new pool m gives.volume built sectors same within few settled r placed);
        tops = tops_end b group old new pool m gives.volume built sectors same within few settled;
        read = pool.read;
        births = λ k. subst (λ (p : Pointer). p.birth.0 ≤ b.read) (sym (gives.keys k)) (pool.births k);
        places = places;
        apart = apart;
        leaves = leaves_end b group old new pool m gives.volume built sectors same within few settled (burned_pool b group m pins writes new) refl refl;
        board = no_board (burned_pool b group m pins writes new);
        group = tt;
        unfrozen = record {
          inside = subst (λ n. All (λ (write : Write). write.addr < n) writes.writes) (sym gives.volume.blocks) inside;
          room = room;
          count = count_same m.blocks (λ x. is_written writes.writes x || false) (is_written writes.writes) (λ x lt. dirty_none (is_written writes.writes x))
              ∙ count_writes m.blocks 0 writes.writes rise
              (subst (λ n. All (λ (write : Write). write.addr < n) writes.writes) (sym gives.volume.blocks) inside);
          few = (let had = pool.unfrozen.count in let most = pool.unfrozen.few in omega (arith, count, dirty, had, most));
        };
      }
