-- A pool whose group went on by a turn has its form.
use Rattle.std.proofs.Common.{◌≡◌, ◌⊎◌, ℕ, suc, ◌+◌, ◌<◌, ◌≤◌, ◌^◌, ◌==◌, ◌||◌, cond, Bool, true, false, List, [], ◌∷◌, length, map, Some, refl, sym, ap, ◌∙◌, subst, arith}
use Rattle.std.specs.Prelude.{All, is_some}
use Rattle.std.specs.List.{AllByRecursion, AllZip, flat_map}
use Rattle.std.proofs.lemmas.List.Elements.{recursion_from_All, All-from_recursion}
use Rattle.mp_base.specs.declared.number.Group.{Group}
use Rattle.mp_base.specs.declared.number.Guid.{Guid}
use Rattle.mp_base.specs.declared.place.Pointer.{Pointer}
use Rattle.group_set.specs.Groups.{holds}
use Rattle.label_store.specs.declared.member.Member.{Member}
use Rattle.block_map.specs.Keys.{root, IsKey}
use Rattle.block_map.specs.Pointers.{IsPointer}
use Rattle.block_map.specs.Map.{pointer_at}
use Rattle.vdev_tree.specs.Leaf.{is_readable}
use Rattle.vdev_tree.specs.declared.top.Top.{Top}
use Rattle.vdev_tree.specs.declared.vdev.LeafVdev.{LeafVdev}
use Rattle.dtl_rules.specs.Widening.{leaves_of, marks_of, sectors_of}
use Rattle.pool_config.specs.Seen.{top_seen}
use Rattle.pool_config.specs.Validity.{IsValid, IsHole, IsPlaced}
use Rattle.mp_base.specs.declared.place.Key.{Key}
use Rattle.txg_history.specs.Records.{Cell, AreAtOne, key}
use Rattle.txg_engine.specs.Freezing.{IsSigned}
use Rattle.txg_engine.specs.declared.item.Item.{Item}
use Rattle.txg_engine.specs.declared.seat.Numbers.{Numbers}
use Rattle.txg_engine.specs.Frozen.{FrozenGroup}
use Rattle.txg_engine.specs.Logs.{AreBehind, AreGrown, Counted, is_leaf, IsReady}
use Rattle.txg_engine.specs.Boards.{count_up, has_seat}
use Rattle.txg_engine.specs.Writes.{is_written}
use Rattle.txg_engine.proofs.Ready.{nothing}
use Rattle.pool_moves.specs.FreezeRow.{IsAtPlace}
use Rattle.pool_moves.specs.Refusing.{count_below}
use Rattle.pool_moves.specs.States.{sums}
use Rattle.open_pool.specs.Form.{config_of, all_leaves, IsRecordable, HasPlaces, ArePlacesApart, HasBoard, HasLeaves, HasGroup, IsPool}
use Rattle.open_pool.specs.Parts.{TopParts, PoolParts, all_parts}
use Rattle.open_pool.specs.State.{cells_of, sums_of}
use Rattle.open_pool.proofs.BoardKept.{AreSameLeaves}
use Rattle.open_pool.proofs.FormKept.{devices_still, writable_still}
use Rattle.open_pool.proofs.LeavesByTops.{all_are_under, under_trees}
use Rattle.open_pool.proofs.LeavesStay.{are_grown_like}
use Rattle.open_pool.proofs.LogsWidened.{IsWithin, AreLikeThem}
use Rattle.open_pool.proofs.RecordKept.{ranges_in_all, tops_seen, valid_kept}
use Rattle.open_pool.proofs.RecordStill.{placed_still}
use Rattle.open_pool.proofs.SeatsOfFreeze.{OnOwnDevices}
use Rattle.open_pool.proofs.TurnSteps.{going, sectors_are}

-- what is settled stays
abbrev pub StaySettled : List LeafVdev → List LeafVdev → Type 0
StaySettled old new = AllZip (λ was is. is.settled ≡ was.settled) old new

settled_same : (leaves : List LeafVdev) → StaySettled leaves leaves
settled_same [] = tt
settled_same (leaf ∷ leaves) = (refl, settled_same leaves)

pub settled_twice : (one two three : List LeafVdev) → StaySettled one two → StaySettled two three → StaySettled one three
settled_twice [] [] [] first rest = tt
settled_twice [] [] (z ∷ three) first rest = absurd rest
settled_twice [] (y ∷ two) three first rest = absurd first
settled_twice (x ∷ one) [] three first rest = absurd first
settled_twice (x ∷ one) (y ∷ two) [] first rest = absurd rest
settled_twice (x ∷ one) (y ∷ two) (z ∷ three) first rest = (rest.0 ∙ first.0, settled_twice one two three first.1 rest.1)

like_settled : (old new : List LeafVdev) → AreLikeThem old new → StaySettled old new
like_settled [] [] like = tt
like_settled [] (y ∷ new) like = absurd like
like_settled (x ∷ old) [] like = absurd like
like_settled (x ∷ old) (y ∷ new) like =
    (sym (ap (λ (leaf : LeafVdev). leaf.settled) (like.0 nothing)), like_settled old new like.1)

pub grown_settled : (which : LeafVdev → Bool) (low high : ℕ) (old new : List LeafVdev) → AreGrown which low high old new
    → StaySettled old new
grown_settled which low high old new grown = like_settled old new (are_grown_like which low high old new grown)

counted_settled : (m : Guid) (old new : List LeafVdev) → Counted m old new → StaySettled old new
counted_settled m [] [] count = tt
counted_settled m [] (y ∷ new) count = absurd count
counted_settled m (x ∷ old) [] count = absurd count
counted_settled m (x ∷ old) (y ∷ new) count =
    (ap (λ (leaf : LeafVdev). leaf.settled) count.0 ∙ by (x.guid.0 == m.0), counted_settled m old new count.1)
  where
    by : (t : Bool)
        → (cond t (record x {
          counts = record
              (x.counts) { writes = count_up x.counts.writes };
        }) x).settled ≡ x.settled
    by true = refl
    by false = refl

pub behind_settled : (numbers : Numbers) (ms : List Member) (done : List Bool) (old new : List LeafVdev)
    → AreBehind numbers ms done old new → StaySettled old new
behind_settled numbers [] done old new are = subst (StaySettled old) (sym are) (settled_same old)
behind_settled numbers (m ∷ ms) [] old new are = subst (StaySettled old) (sym are) (settled_same old)
behind_settled numbers (m ∷ ms) (true ∷ done) old new are = behind_settled numbers ms done old new are
behind_settled numbers (m ∷ ms) (false ∷ done) old new are =
    settled_twice old are.0 new
    (settled_twice old are.1.counted are.0 (counted_settled m.guid old are.1.counted are.1.count)
    (grown_settled (is_leaf m.guid) numbers.first.0 numbers.last.0 are.1.counted are.0 are.1.grown))
    (behind_settled numbers ms done are.0 new are.2)

abbrev IsSettledTo : (n : ℕ) → LeafVdev → Type 0
IsSettledTo n leaf = (g : ℕ) → n < g → holds leaf.settled g ≡ false

settled_still : (n n' : ℕ) (old new : List LeafVdev) → n ≤ n' → StaySettled old new → AllByRecursion (IsSettledTo n) old
    → AllByRecursion (IsSettledTo n') new
settled_still n n' [] [] le stay all = tt
settled_still n n' [] (y ∷ new) le stay all = absurd stay
settled_still n n' (x ∷ old) [] le stay all = absurd stay
settled_still n n' (x ∷ old) (y ∷ new) le stay all = (
  λ g above. ap (λ set. holds set g) stay.0 ∙ all.0 g (omega (arith, le, above)),
  settled_still n n' old new le stay.1 all.1,
)

-- the leaves of a pool are those of its trees
pub trees_leaves : (tops : List Top) → flat_map (λ (top : TopParts). top.leaves) (all_parts tops) ≡ leaves_of tops
trees_leaves tops = all_are_under (all_parts tops) ∙ under_trees tops

-- the root's place is one of tops with these sectors
pub root_kept : (was is : Group) (old new : List Top) (root : Pointer) → was.0 ≤ is.0 → sectors_of new ≡ sectors_of old
    → IsHole root ⊎ IsPlaced was (map top_seen old) root → IsHole root ⊎ IsPlaced is (map top_seen new) root
root_kept was is old new root le same placed =
    subst (λ ts. IsHole root ⊎ IsPlaced is ts root) (tops_seen new)
    (placed_still old new was is root same le (subst (λ ts. IsHole root ⊎ IsPlaced was ts root) (sym (tops_seen old)) placed))

-- What a turn left of a group that goes on, and of the leaves.
pub record GoesOn (b : PoolParts) (was is : FrozenGroup) (old new : List Top) : Type 0 where
  pub built : marks_of new ≡ marks_of old
  pub sectors : sectors_of new ≡ sectors_of old
  pub items : is.items ≡ was.items
  pub first : is.numbers.first ≡ was.numbers.first
  pub later : was.numbers.last.0 ≤ is.numbers.last.0
  pub high : is.numbers.last.0 ≤ 2 ^ 62
  pub unacked : is.acked ≡ false
  pub same : AreSameLeaves (leaves_of old) (leaves_of new)
  pub settled : StaySettled (leaves_of old) (leaves_of new)
  pub within : AllByRecursion (IsWithin is.numbers.last.0) (leaves_of new)
  pub few : ranges_in_all is.numbers.last.0 (leaves_of new) ≤ 4096
  pub board : HasBoard is.board (going b is new)
  pub seated : (top : ℕ) → has_seat top is.board ≡ has_seat top was.board
  pub ready : All (IsReady is.board is.numbers.last.0) (leaves_of new)

module _ (b : PoolParts) (was is : FrozenGroup) (old new : List Top) (pool : IsPool (going b was old)) (goes : GoesOn b was is old new) where
  recordable : IsRecordable (going b is new)
  recordable =
      let p = going b was old in
      let number : Group = record { 0 = is.numbers.last.0 } in
      let r = pointer_at b.map root in
      let placed = root_kept (record { 0 = was.numbers.last.0 }) number old new r goes.later goes.sectors
      (subst (λ ts. IsHole r ⊎ IsPlaced (record { 0 = was.numbers.last.0 }) ts r) (tops_seen old) pool.recordable.root) in
      let low = pool.recordable.number.0 in
      let later = goes.later in
      subst (λ ts. IsValid (record (config_of p number r) { tops = ts })) (sym (tops_seen new))
      (valid_kept (config_of p (record { 0 = was.numbers.last.0 }) r) number r old new (tops_seen old) pool.recordable
      (omega (arith, low, later), goes.high) placed goes.built goes.sectors goes.same goes.within goes.few)

  has_leaves : HasLeaves (going b is new)
  has_leaves =
      let was_all = trees_leaves old in
      let is_all = trees_leaves new in
      record {
        within = All-from_recursion (IsWithin is.numbers.last.0) (all_leaves (going b is new))
            (subst (AllByRecursion (IsWithin is.numbers.last.0)) (sym is_all) goes.within);
        apart = subst OnOwnDevices (sym is_all) (devices_still (leaves_of old) (leaves_of new) goes.same
            (subst OnOwnDevices was_all pool.leaves.apart));
        writable = subst (λ ls. All (λ leaf. is_readable leaf ≡ true → is_some leaf.dev ≡ true) ls) (sym is_all)
            (writable_still (leaves_of old) (leaves_of new) goes.same
            (subst (λ ls. All (λ leaf. is_readable leaf ≡ true → is_some leaf.dev ≡ true) ls) was_all pool.leaves.writable));
        settled = All-from_recursion (IsSettledTo is.numbers.last.0) (all_leaves (going b is new))
            (subst (AllByRecursion (IsSettledTo is.numbers.last.0)) (sym is_all)
            (settled_still was.numbers.last.0 is.numbers.last.0 (leaves_of old) (leaves_of new) goes.later goes.settled
            (subst (AllByRecursion (IsSettledTo was.numbers.last.0)) was_all
            (recursion_from_All (IsSettledTo was.numbers.last.0) (all_leaves (going b was old)) pool.leaves.settled))));
      }

  has_places : HasPlaces (going b is new)
  has_places = record {
    taken = λ place inside none. subst (λ items. IsAtPlace (sums_of b.map) (suc place.top) place.sector
        ⊎ IsAtPlace (sums (cells_of items)) (suc place.top) place.sector) (sym goes.items) (pool.places.taken place inside none);
    committed = pool.places.committed;
    frozen = λ place at. pool.places.frozen place
        (subst (λ items. IsAtPlace (sums (cells_of items)) (suc place.top) place.sector) goes.items at);
    listed = pool.places.listed;
    inside = pool.places.inside;
  }

  are_apart : ArePlacesApart (going b is new)
  are_apart = record {
    committed = pool.apart.committed;
    frozen = subst (λ items. (j k : Key) (x y : Cell) → cells_of items j ≡ Some x → cells_of items k ≡ Some y → AreAtOne x y → j ≡ k)
        (sym goes.items) pool.apart.frozen;
    between = subst (λ items. (top sector : ℕ) → IsAtPlace (sums_of b.map) top sector → IsAtPlace (sums (cells_of items)) top sector → ⊥)
        (sym goes.items) pool.apart.between;
  }

  has_group : HasGroup (going b is new) is
  has_group =
      let had = pool.group in
      record {
        unacked = goes.unacked;
        after = subst (λ (n : Group). b.read < n.0) (sym goes.first) had.after;
        last = refl;
        keys = subst (λ items. All (λ item. IsKey b.map.blocks item.key) items) (sym goes.items) had.keys;
        pointers = subst (λ items. All (λ item. IsPointer b.map.sectors item.pointer) items) (sym goes.items) had.pointers;
        signed = subst (λ items. All (IsSigned is.numbers.first.0) items) (sym goes.items)
            (subst (λ (n : Group). All (IsSigned n.0) was.items) (sym goes.first) had.signed);
        ready = subst (All (IsReady is.board is.numbers.last.0)) (sym (trees_leaves new)) goes.ready;
        pins_room = subst (λ (items : List Item). length b.pins.places + length items ≤ b.pins.room) (sym goes.items) had.pins_room;
        tops = λ top inside. goes.seated top ∙ had.tops top inside;
      }

  pub going_kept : IsPool (going b is new)
  going_kept = record {
    recordable = recordable;
    tops = pool.tops ∙ sectors_are old ∙ sym goes.sectors ∙ sym (sectors_are new);
    read = (let read = pool.read in let later = goes.later in omega (arith, read, later));
    births = pool.births;
    places = has_places;
    apart = are_apart;
    leaves = has_leaves;
    board = goes.board;
    group = has_group;
    unfrozen = record {
      inside = pool.unfrozen.inside;
      room = pool.unfrozen.room;
      count = subst (λ items. count_below b.map.blocks (λ x. is_written b.unfrozen.writes x || is_some (cells_of items (key 0 x))) ≡ b.dirty)
          (sym goes.items) pool.unfrozen.count;
      few = pool.unfrozen.few;
    };
  }
