-- The board of a new pool's first group: a seat for each leaf, and the first leaf that left it.
use Rattle.std.proofs.Common.{◌≡◌, ℕ, zero, suc, ◌+◌, ◌<◌, ◌≤◌, ◌==◌, ◌&&◌, ◌||◌, not, cond, Bool, true, false, List, [], ◌∷◌, ◌++◌, length, map, Some, None, refl, sym, ap, ◌∙◌, subst, arith}
use mathlib.Core.Path.{fun_ext}
use Rattle.std.specs.Prelude.{filter, slice_get}
use Rattle.std.specs.List.{AllByRecursion, cons_option, filter_map}
use Rattle.std.specs.Option.{option_map}
use Rattle.std.proofs.lemmas.Bool.{eq-eqb, ne_eqb, false≢true, true≢false}
use Rattle.bank_core.specs.Asks.{Ask}
use Rattle.bank_core.specs.Disk.{Noted}
use Rattle.label_store.specs.Phases.{IsPhase}
use Rattle.label_store.specs.declared.member.Member.{Member}
use Rattle.mp_base.specs.declared.number.Guid.{Guid}
use Rattle.vdev_tree.specs.Leaf.{is_up}
use Rattle.vdev_tree.specs.Tree.{leaves}
use Rattle.vdev_tree.specs.declared.top.Top.{Top}
use Rattle.vdev_tree.specs.declared.vdev.LeafVdev.{LeafVdev}
use Rattle.txg_engine.specs.declared.seat.Seat.{Seat}
use Rattle.txg_engine.specs.Boards.{behind_turn, board_of, count_up, failed, is_on, member_of, seat_of, seats_of, without}
use Rattle.txg_history.specs.Rounds.{all_true}
use Rattle.pool_moves.specs.StampRow.{NewMember, NewLeaf, first_failed, leaves_from, name_in, new_leaf_seen, top_leaves}
use Rattle.open_pool.specs.Creating.{AreMade, AreNewTops, AreSeatsOf, IsMade, first_off}

-- Each new leaf has a seat.
abbrev seat_at : (top : ℕ) → NewMember → LeafVdev → Seat
seat_at top m leaf = record { member = record { dev = m.dev; guid = leaf.guid }; top = top; on = true; taken = false; faults = 0 }

seat_made : (top : ℕ) (guid : Guid) (m : NewMember) (leaf : LeafVdev) → IsMade guid m leaf → seat_of top leaf ≡ Some (seat_at top m leaf)
seat_made top guid m leaf made =
    ap (λ b. cond b (option_map (λ dev. record { member = record { dev = dev; guid = leaf.guid }; top = top; on = true; taken = false; faults = 0 }) leaf.dev)
    None) (ap is_up made.state)
    ∙ ap (option_map (λ dev. record { member = record { dev = dev; guid = leaf.guid }; top = top; on = true; taken = false; faults = 0 })) made.dev

front_seats : (first next top : ℕ) (members : List NewMember) (under : List LeafVdev) (rest : List NewLeaf) (seats : List Seat) → AreMade next members under
    → AreSeatsOf rest seats → AreSeatsOf (top_leaves next top members ++ rest) (filter_map (seat_of first) under ++ seats)
front_seats first next top [] [] rest seats made more = more
front_seats first next top [] (leaf ∷ under) rest seats made more = absurd made
front_seats first next top (m ∷ members) [] rest seats made more = absurd made
front_seats first next top (m ∷ members) (leaf ∷ under) rest seats made more =
    subst (λ o. AreSeatsOf (top_leaves next top (m ∷ members) ++ rest) (cons_option o (filter_map (seat_of first) under) ++ seats))
    (sym (seat_made first (record { 0 = next }) m leaf made.0)) (
      record { dev = refl; guid = made.0.guid_is; on = refl },
      front_seats first (suc next) top members under rest seats made.1 more,
    )

pub seats_shown : (size : ℕ → ℕ) (first next top : ℕ) (asked : List (List NewMember)) (trees : List Top) → AreNewTops size next asked trees
    → AreSeatsOf (leaves_from next top asked) (seats_of first trees)
seats_shown size first next top [] [] are = tt
seats_shown size first next top [] (tree ∷ trees) are = absurd are
seats_shown size first next top (members ∷ asked) [] are = absurd are
seats_shown size first next top (members ∷ asked) (tree ∷ trees) are =
    front_seats first (suc next) top members (leaves tree.mirror) (leaves_from (suc next + length members) (suc top) asked) (seats_of (first + 1) trees)
    are.0.mirror.made (seats_shown size (first + 1) (suc next + length members) (suc top) asked trees are.1)

pub all_on : (leaves : List NewLeaf) (seats : List Seat) → AreSeatsOf leaves seats → board_of seats ≡ map member_of seats
all_on [] [] are = refl
all_on [] (seat ∷ seats) are = absurd are
all_on (leaf ∷ leaves) [] are = absurd are
all_on (leaf ∷ leaves) (seat ∷ seats) are =
    ap (λ b. map member_of (cond b (seat ∷ filter is_on seats) (filter is_on seats))) are.0.on
    ∙ ap (λ ms. seat.member ∷ ms) (all_on leaves seats are.1)

pub each_seat : (P : ℕ → Type 0) (leaves : List NewLeaf) (seats : List Seat) → AreSeatsOf leaves seats
    → AllByRecursion (λ (leaf : NewLeaf). P leaf.dev) leaves → AllByRecursion (λ (seat : Seat). P seat.member.dev) seats
each_seat P [] [] are all = tt
each_seat P [] (seat ∷ seats) are all = absurd are
each_seat P (leaf ∷ leaves) [] are all = absurd are
each_seat P (leaf ∷ leaves) (seat ∷ seats) are all = (subst P (sym are.0.dev) all.0, each_seat P leaves seats are.1 all.1)

pub seats_long : (leaves : List NewLeaf) (seats : List Seat) → AreSeatsOf leaves seats → length seats ≡ length leaves
seats_long [] [] are = refl
seats_long [] (seat ∷ seats) are = absurd are
seats_long (leaf ∷ leaves) [] are = absurd are
seats_long (leaf ∷ leaves) (seat ∷ seats) are = ap suc (seats_long leaves seats are.1)

-- The numbers of new leaves rise.
abbrev pub DoRise : ℕ → List NewLeaf → Type 0
DoRise n [] = Unit {0}
DoRise n (leaf ∷ leaves) = (n ≤ leaf.guid.0) × DoRise (suc leaf.guid.0) leaves

rise_from : (n m : ℕ) (leaves : List NewLeaf) → n ≤ m → DoRise m leaves → DoRise n leaves
rise_from n m [] le rise = tt
rise_from n m (leaf ∷ leaves) le rise = (omega (arith, le, rise.0), rise.1)

front_rises : (next top m : ℕ) (ms : List NewMember) (rest : List NewLeaf) → next + length ms ≤ m → DoRise m rest
    → DoRise next (top_leaves next top ms ++ rest)
front_rises next top m [] rest le more = rise_from next m rest (omega (arith, le)) more
front_rises next top m (x ∷ ms) rest le more = (omega arith, front_rises (suc next) top m ms rest (omega (arith, le)) more)

pub leaves_rise : (next top : ℕ) (asked : List (List NewMember)) → DoRise next (leaves_from next top asked)
leaves_rise next top [] = tt
leaves_rise next top (members ∷ asked) =
    rise_from next (suc next) (top_leaves (suc next) top members ++ leaves_from (suc next + length members) (suc top) asked) (omega arith)
    (front_rises (suc next) top (suc next + length members) members (leaves_from (suc next + length members) (suc top) asked) (omega arith)
    (leaves_rise (suc next + length members) (suc top) asked))

some_leaf : (a b : NewLeaf) → Some a ≡ Some b → a ≡ b
some_leaf a b e = cc

-- The name of a leaf is told by its number.
above : (n : ℕ) (leaves : List NewLeaf) (place : ℕ) (leaf : NewLeaf) → DoRise n leaves → slice_get leaves place ≡ Some leaf → n ≤ leaf.guid.0
above n [] place leaf rise at = absurd (let no : None ≡ Some leaf = at in cc)
above n (x ∷ leaves) zero leaf rise at = subst (λ (l : NewLeaf). n ≤ l.guid.0) (some_leaf x leaf at) rise.0
above n (x ∷ leaves) (suc place) leaf rise at = (let more = above (suc x.guid.0) leaves place leaf rise.1 at in let here = rise.0 in omega (arith, more, here))

pub named_so : (n : ℕ) (leaves : List NewLeaf) (place : ℕ) (leaf : NewLeaf) → DoRise n leaves → slice_get leaves place ≡ Some leaf
    → name_in (map new_leaf_seen leaves) leaf.guid ≡ leaf.name
named_so n [] place leaf rise at = absurd (let no : None ≡ Some leaf = at in cc)
named_so n (x ∷ leaves) zero leaf rise at =
    let same = some_leaf x leaf at in
    ap (λ (l : NewLeaf). cond (x.guid.0 == l.guid.0) x.name (name_in (map new_leaf_seen leaves) l.guid)) (sym same)
    ∙ ap (λ b. cond b x.name (name_in (map new_leaf_seen leaves) x.guid)) (eq-eqb x.guid.0 x.guid.0 refl)
    ∙ ap (λ (l : NewLeaf). l.name) same
named_so n (x ∷ leaves) (suc place) leaf rise at =
    let more = above (suc x.guid.0) leaves place leaf rise.1 at in
    ap (λ b. cond b x.name (name_in (map new_leaf_seen leaves) leaf.guid)) (ne_eqb x.guid.0 leaf.guid.0 (λ same. omega (arith, more, same)))
    ∙ named_so (suc x.guid.0) leaves place leaf rise.1 at

-- The first seat of this kind.
abbrev first_where : (Seat → Bool) → List Seat → ℕ
first_where test [] = 0
first_where test (seat ∷ seats) = cond (test seat) (suc (first_where test seats)) 0

off_is : (seats : List Seat) → first_off seats ≡ first_where is_on seats
off_is [] = refl
off_is (seat ∷ seats) = ap (λ n. cond seat.on (suc n) 0) (off_is seats)

mapped_where : (test : Seat → Bool) (f : Seat → Seat) (seats : List Seat) → first_where test (map f seats) ≡ first_where (λ seat. test (f seat)) seats
mapped_where test f [] = refl
mapped_where test f (seat ∷ seats) = ap (λ n. cond (test (f seat)) (suc n) 0) (mapped_where test f seats)

-- a call on the leaf of this number failed, by who answered
abbrev lost : List Member → List Bool → ℕ → Bool
lost [] done n = false
lost (m ∷ ms) [] n = false
lost (m ∷ ms) (true ∷ done) n = lost ms done n
lost (m ∷ ms) (false ∷ done) n = (n == m.guid.0) || lost ms done n

abbrev stays : List Member → List Bool → Seat → Bool
stays ms done seat = seat.on && not (lost ms done seat.member.guid.0)

on_still : (b : Bool) → b ≡ (b && not false)
on_still true = refl
on_still false = refl

fault_keeps : (ms : List Member) (done : List Bool) (g : Guid) (seat : Seat)
    → stays ms done (without g (failed g seat)) ≡ ((seat.on && not (seat.member.guid.0 == g.0)) && not (lost ms done seat.member.guid.0))
fault_keeps ms done g seat = by (seat.member.guid.0 == g.0) refl
  where
    by : (b : Bool) → (seat.member.guid.0 == g.0) ≡ b
        → stays ms done (without g (failed g seat)) ≡ ((seat.on && not (seat.member.guid.0 == g.0)) && not (lost ms done seat.member.guid.0))
    by true is = ap (λ b. stays ms done (without g (cond b (record seat { faults = count_up seat.faults }) seat))) is
    by false is = ap (λ b. stays ms done (without g (cond b (record seat { faults = count_up seat.faults }) seat))) is

both_not : (a b c : Bool) → ((a && not b) && not c) ≡ (a && not (b || c))
both_not true true c = refl
both_not true false c = refl
both_not false b c = refl

behind_where : (ms : List Member) (done : List Bool) (seats : List Seat) → first_where is_on (behind_turn ms done seats) ≡ first_where (stays ms done) seats
behind_where [] done seats = ap (λ test. first_where test seats) (fun_ext (λ seat. on_still seat.on))
behind_where (m ∷ ms) [] seats = ap (λ test. first_where test seats) (fun_ext (λ seat. on_still seat.on))
behind_where (m ∷ ms) (true ∷ done) seats = behind_where ms done seats
behind_where (m ∷ ms) (false ∷ done) seats =
    behind_where ms done (map (without m.guid) (map (failed m.guid) seats))
    ∙ mapped_where (stays ms done) (without m.guid) (map (failed m.guid) seats)
    ∙ mapped_where (λ seat. stays ms done (without m.guid seat)) (failed m.guid) seats
    ∙ ap (λ test. first_where test seats)
    (fun_ext (λ seat. fault_keeps ms done m.guid seat ∙ both_not seat.on (seat.member.guid.0 == m.guid.0) (lost ms done seat.member.guid.0)))

none_lost : (n k : ℕ) (leaves : List NewLeaf) (seats : List Seat) (done : List Bool) → n < k → DoRise k leaves → AreSeatsOf leaves seats
    → lost (map member_of seats) done n ≡ false
none_lost n k [] [] done lt rise are = refl
none_lost n k [] (seat ∷ seats) done lt rise are = absurd are
none_lost n k (leaf ∷ leaves) [] done lt rise are = absurd are
none_lost n k (leaf ∷ leaves) (seat ∷ seats) [] lt rise are = refl
none_lost n k (leaf ∷ leaves) (seat ∷ seats) (true ∷ done) lt rise are =
    none_lost n (suc leaf.guid.0) leaves seats done (let low = rise.0 in omega (arith, lt, low)) rise.1 are.1
none_lost n k (leaf ∷ leaves) (seat ∷ seats) (false ∷ done) lt rise are =
    ap (λ b. b || lost (map member_of seats) done n)
    (ne_eqb n seat.member.guid.0 (let low = rise.0 in let is = ap (λ (g : Guid). g.0) are.0.guid in λ same. omega (arith, lt, low, is, same)))
    ∙ none_lost n (suc leaf.guid.0) leaves seats done (let low = rise.0 in omega (arith, lt, low)) rise.1 are.1

-- The first leaf that left the board is the first that failed.
record IsFound (leaves : List NewLeaf) (seats : List Seat) (done : List Bool) : Type 0 where
  leaf : NewLeaf
  there : slice_get leaves (first_where (stays (map member_of seats) done) seats) ≡ Some leaf
  fails : first_failed (map member_of seats) done ≡ Some leaf.guid

is_found : (n : ℕ) (leaves : List NewLeaf) (seats : List Seat) (done : List Bool) → DoRise n leaves → AreSeatsOf leaves seats
    → length done ≡ length seats → all_true done ≡ false → IsFound leaves seats done
is_found n leaves seats [] rise are long all = absurd (true≢false all)
is_found n [] [] (d ∷ done) rise are long all = absurd (omega (arith, long))
is_found n [] (seat ∷ seats) done rise are long all = absurd are
is_found n (leaf ∷ leaves) [] done rise are long all = absurd are
is_found n (leaf ∷ leaves) (seat ∷ seats) (false ∷ done) rise are long all = record {
  leaf = leaf;
  there = ap (λ b. slice_get (leaf ∷ leaves) (cond (seat.on && not b) (suc (first_where (stays (map member_of (seat ∷ seats)) (false ∷ done)) seats)) 0))
      (ap (λ b. b || lost (map member_of seats) done seat.member.guid.0) (eq-eqb seat.member.guid.0 seat.member.guid.0 refl))
      ∙ ap (λ b. slice_get (leaf ∷ leaves) (cond (b && false) (suc (first_where (stays (map member_of (seat ∷ seats)) (false ∷ done)) seats)) 0)) are.0.on;
  fails = ap Some are.0.guid;
}
is_found n (leaf ∷ leaves) (seat ∷ seats) (true ∷ done) rise are long all =
    let more = is_found (suc leaf.guid.0) leaves seats done rise.1 are.1 (omega (arith, long)) all in
    let is = ap (λ (g : Guid). g.0) are.0.guid in
    record {
      leaf = more.leaf;
      there = ap (λ b. slice_get (leaf ∷ leaves) (cond (seat.on && not b) (suc (first_where (stays (map member_of seats) done) seats)) 0))
          (none_lost seat.member.guid.0 (suc leaf.guid.0) leaves seats done (omega (arith, is)) rise.1 are.1)
          ∙ ap (λ b. slice_get (leaf ∷ leaves) (cond (b && true) (suc (first_where (stays (map member_of seats) done) seats)) 0)) are.0.on
          ∙ more.there;
      fails = more.fails;
    }

pub record FirstFails (leaves : List NewLeaf) (seats : List Seat) (done : List Bool) : Type 0 where
  pub leaf : NewLeaf
  pub there : slice_get leaves (first_off (behind_turn (board_of seats) done seats)) ≡ Some leaf
  pub fails : first_failed (board_of seats) done ≡ Some leaf.guid

pub first_fails : (n : ℕ) (leaves : List NewLeaf) (seats : List Seat) (done : List Bool) → DoRise n leaves → AreSeatsOf leaves seats
    → length done ≡ length seats → all_true done ≡ false → FirstFails leaves seats done
first_fails n leaves seats done rise are long all =
    let found = is_found n leaves seats done rise are long all in
    let on = all_on leaves seats are in
    record {
      leaf = found.leaf;
      there = ap (λ ms. slice_get leaves (first_off (behind_turn ms done seats))) on
          ∙ ap (slice_get leaves) (off_is (behind_turn (map member_of seats) done seats) ∙ behind_where (map member_of seats) done seats)
          ∙ found.there;
      fails = ap (λ ms. first_failed ms done) on ∙ found.fails;
    }

pub none_fails : (ms : List Member) (done : List Bool) → all_true done ≡ true → first_failed ms done ≡ None
none_fails [] done all = refl
none_fails (m ∷ ms) [] all = refl
none_fails (m ∷ ms) (true ∷ done) all = none_fails ms done all
none_fails (m ∷ ms) (false ∷ done) all = absurd (false≢true all)

pub phase_long : (plan : Member → List Ask) (ms : List Member) (was is : List Bool) (made : List Noted) → IsPhase plan ms was is made → length is ≡ length ms
phase_long plan [] [] [] made phase = refl
phase_long plan (m ∷ ms) (b ∷ was) (c ∷ is) made phase = ap suc (phase_long plan ms was is phase.1 phase.4)
phase_long plan [] [] (c ∷ is) made phase = absurd phase
phase_long plan [] (b ∷ was) is made phase = absurd phase
phase_long plan (m ∷ ms) [] is made phase = absurd phase
phase_long plan (m ∷ ms) (b ∷ was) [] made phase = absurd phase
