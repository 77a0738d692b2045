-- A frozen group's seats and places suit the devices that the bank has and the tops of its pool.
use Rattle.std.proofs.Common.{◌≡◌, ◌≢◌, ℕ, suc, ◌+◌, ◌≤◌, true, List, [], ◌∷◌, length, map, get_or, slice_index, Option, Some, None, sym, ap, ◌∙◌, subst, arith}
use Rattle.std.specs.Prelude.{All, AllPairs, IfSome}
use Rattle.std.specs.List.{AllByRecursion, cons_option, filter_map, flat_map}
use Rattle.std.proofs.lemmas.List.{length-map}
use Rattle.std.proofs.lemmas.List.Elements.{All-append, All-cons, All-head, All-nil, All-tail, recursion_from_All}
use Rattle.std.proofs.lemmas.List.Kept.{AllPairs-cons}
use Rattle.std.proofs.lemmas.Option.{IfSome_then}
use Rattle.block_map.specs.Places.{IsPlace, AreTops}
use Rattle.vdev_tree.specs.declared.top.Top.{Top}
use Rattle.vdev_tree.specs.declared.vdev.LeafVdev.{LeafVdev}
use Rattle.dtl_rules.specs.Widening.{sectors_of}
use Rattle.pool_config.specs.Validity.{IsTop}
use Rattle.txg_engine.specs.declared.item.Item.{Item}
use Rattle.txg_engine.specs.declared.seat.Seat.{Seat}
use Rattle.txg_engine.specs.Frozen.{FrozenGroup, IsGroup, IsSeated as HasRoom, AreSeated}
use Rattle.open_pool.specs.Form.{IsPool, IsSeated, AreSeated as HaveSeats, all_leaves, top_of}
use Rattle.open_pool.specs.Here.{IsHere, AreHere}
use Rattle.open_pool.specs.Parts.{TopParts, PoolParts, all_parts}
use Rattle.open_pool.specs.State.{leaves_under, seat_in, sectors_in}
use Rattle.open_pool.proofs.TopsSized.{tops_sized}
use Rattle.open_pool.proofs.TurnSteps.{going, sectors_are}

-- What holds of all that a function gives, and of each two.
module _ {X Y : Type 0} (h : X → Option Y) where
  given_all : (P : Y → Type 0) (xs : List X) → All (λ x. IfSome (h x) P) xs → All P (filter_map h xs)
  given_all P [] each = All-nil P
  given_all P (x ∷ xs) each =
      one (h x) (All-head (λ x. IfSome (h x) P) x xs each) (given_all P xs (All-tail (λ x. IfSome (h x) P) x xs each))
    where
      one : (o : Option Y) → IfSome o P → All P (filter_map h xs) → All P (cons_option o (filter_map h xs))
      one None here rest = rest
      one (Some y) here rest = All-cons P y (filter_map h xs) here rest

  given_pairs : (R : Y → Y → Type 0) (xs : List X) → AllPairs (λ a b. IfSome (h a) (λ y. IfSome (h b) (R y))) xs → AllPairs R (filter_map h xs)
  given_pairs R [] each = λ i j d lt within. absurd (omega (arith, within))
  given_pairs R (x ∷ xs) each =
      one (h x) (λ k d lt. each 0 (suc k) d (omega arith) (omega arith))
      (given_pairs R xs (λ i j d lt within. each (suc i) (suc j) d (omega arith) (omega arith)))
    where
      one : (o : Option Y) → All (λ b. IfSome o (λ y. IfSome (h b) (R y))) xs → AllPairs R (filter_map h xs)
          → AllPairs R (cons_option o (filter_map h xs))
      one None here rest = rest
      one (Some y) here rest = AllPairs-cons R y (filter_map h xs) (given_all (R y) xs here) rest

-- two seats that aren't on one device while both are on the board
abbrev AreApart : Seat → Seat → Type 0
AreApart one other = one.on ≡ true → other.on ≡ true → one.member.dev ≢ other.member.dev

-- The seats of the leaves under tops of these sectors.
module _ (size : ℕ → ℕ) (sectors : List ℕ) (board : List Seat) where
  -- a seat on the board is on its leaf's device, which has room
  record IsOn (leaf : LeafVdev) (seat : Seat) : Type 0 where
    dev : leaf.dev ≡ Some seat.member.dev
    room : HasRoom size sectors seat

  abbrev Fits : LeafVdev → Type 0
  Fits leaf = IfSome (seat_in board leaf.guid) (λ seat. seat.on ≡ true → IsOn leaf seat)

  fits : (i long : ℕ) (leaf : LeafVdev) → slice_index sectors i ≡ long → 64 ≤ long → IsHere size long leaf → IsSeated board (suc i) leaf → Fits leaf
  fits i long leaf is least here seated =
      IfSome_then (seat_in board leaf.guid) seated (λ seat of on.
      let room = here seat.member.dev (of.up on) (of.dev_is on) in
      let under = of.top_is in
      let same : seat.top ≡ i = omega (arith, under) in
      let row = ap (slice_index sectors) same ∙ is in
      record {
        dev = of.dev_is on;
        room = record { labels = omega (arith, room, least); data_sectors = omega (arith, room, row) };
      })

  all_fit : (i : ℕ) (tops : List TopParts) → ((j k : ℕ) → j ≡ i + k → slice_index sectors j ≡ slice_index (sectors_in tops) k)
      → AllByRecursion IsTop (map top_of tops) → AreHere size tops → HaveSeats board (suc i) (leaves_under tops)
      → All Fits (flat_map (λ top. top.leaves) tops)
  all_fit i [] same sized here seated = All-nil Fits
  all_fit i (top ∷ tops) same sized here seated =
      All-append Fits top.leaves (flat_map (λ (t : TopParts). t.leaves) tops)
      (λ k d lt. fits i top.sectors (get_or top.leaves k d) (same i 0 (omega arith)) sized.0.sectors.0
      (All-head (λ (t : TopParts). All (IsHere size t.sectors) t.leaves) top tops here k d lt) (seated.0 k d lt))
      (all_fit (suc i) tops (λ j k is. same j (suc k) (omega (arith, is))) sized.1
      (All-tail (λ (t : TopParts). All (IsHere size t.sectors) t.leaves) top tops here) seated.1)

  two_fit : (a b : LeafVdev) → Fits a → Fits b → ((d : ℕ) → a.dev ≡ Some d → b.dev ≡ Some d → ⊥)
      → IfSome (seat_in board a.guid) (λ one. IfSome (seat_in board b.guid) (AreApart one))
  two_fit a b fit fit' apart =
      IfSome_then (seat_in board a.guid) fit (λ one is. IfSome_then (seat_in board b.guid) fit' (λ other is' on on' same.
      apart one.member.dev (is on).dev ((is' on').dev ∙ ap Some (sym same))))

module _ (b : PoolParts) (group : FrozenGroup) (trees : List Top) (pool : IsPool (going b group trees)) where
  -- its tops are few
  pub few_trees : length trees ≤ 8
  few_trees = let most = (tops_sized b group trees pool).most in omega (arith, most, length-map trees (λ (top : Top). top.sectors))

  -- each of its keys has a place of the tops
  pub group_places : IsGroup group → All (λ item. IsPlace b.map.sectors item.pointer.place) group.items
  group_places kept k d lt =
      let low = kept.low in
      let birth = (pool.group.signed k d lt).birth in
      (pool.group.pointers k d lt).place (omega (arith, low, birth))

-- So its devices are here, where those of the leaves are.
pub seated_here : (size : ℕ → ℕ) (b : PoolParts) (group : FrozenGroup) (trees : List Top) → IsPool (going b group trees) → IsGroup group
    → AreHere size (all_parts trees) → AreSeated size (sectors_of trees) group
seated_here size b group trees pool kept here =
    let tops = all_parts trees in
    let seat = λ (leaf : LeafVdev). seat_in group.board leaf.guid in
    let leaves = all_leaves (going b group trees) in
    let fit = all_fit size (sectors_in tops) group.board 0 tops
    (λ j k is. let at : j ≡ k = omega (arith, is) in ap (slice_index (sectors_in tops)) at)
    (recursion_from_All IsTop (map top_of tops) pool.recordable.tops) here pool.board.seated in
    subst (λ s. AreSeated size s group) (sectors_are trees) (record {
      tops = subst AreTops (sym (sectors_are trees)) (tops_sized b group trees pool);
      seats = subst (All (λ (s : Seat). s.on ≡ true → HasRoom size (sectors_in tops) s)) pool.board.order
          (given_all seat (λ s. s.on ≡ true → HasRoom size (sectors_in tops) s) leaves
          (λ k d lt. IfSome_then (seat (get_or leaves k d)) (fit k d lt) (λ s is on. (is on).room)));
      apart = subst (AllPairs AreApart) pool.board.order
          (given_pairs seat AreApart leaves (λ i j d lt within.
          two_fit size (sectors_in tops) group.board (get_or leaves i d) (get_or leaves j d) (fit i d (omega arith)) (fit j d within)
          (pool.leaves.apart i j d lt within)));
      places = subst (λ s. All (λ (item : Item). IsPlace s item.pointer.place) group.items) pool.tops (group_places b group trees pool kept);
    })
