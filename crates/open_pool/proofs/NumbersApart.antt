-- Leaves with distinct numbers: each has one seat at most, and a seat is that of one leaf.
use Rattle.std.proofs.Common.{◌≡◌, ◌≢◌, ℕ, suc, ◌==◌, ◌&&◌, ◌||◌, cond, Bool, true, false, List, [], ◌∷◌, map, Option, Some, None, refl, sym, ap, ◌∙◌, subst, arith}
use Rattle.std.specs.Prelude.{All, AllPairs}
use Rattle.std.specs.List.{AllByRecursion, filter_map, cons_option}
use Rattle.std.proofs.lemmas.Bool.{true≢false, ne_eqb}
use Rattle.std.proofs.lemmas.Bool.Decides.{nat_tests}
use Rattle.mp_base.specs.declared.number.Guid.{Guid}
use Rattle.vdev_tree.specs.declared.vdev.LeafVdev.{LeafVdev}
use Rattle.txg_engine.specs.declared.seat.Seat.{Seat}
use Rattle.txg_engine.specs.Boards.{on_board}
use Rattle.open_pool.specs.State.{seat_in}

-- no two of these numbers are the same
abbrev pub Differ : List ℕ → Type 0
Differ [] = Unit {0}
Differ (n ∷ ns) = AllByRecursion (λ k. (n == k) ≡ false) ns × Differ ns

abbrev pub leaf_numbers : List LeafVdev → List ℕ
leaf_numbers leaves = map (λ leaf. leaf.guid.0) leaves

abbrev pub seat_numbers : List Seat → List ℕ
seat_numbers seats = map (λ seat. seat.member.guid.0) seats

-- leaves of which no two have one number
abbrev pub AreNumbered : List LeafVdev → Type 0
AreNumbered leaves = AllPairs (λ a b. a.guid.0 ≢ b.guid.0) leaves

others_differ : (n : ℕ) (leaves : List LeafVdev) → All (λ leaf. n ≢ leaf.guid.0) leaves
    → AllByRecursion (λ k. (n == k) ≡ false) (leaf_numbers leaves)
others_differ n [] all = tt
others_differ n (leaf ∷ leaves) all = (
  ne_eqb n leaf.guid.0 (all 0 leaf (omega arith)),
  others_differ n leaves
      (λ k d lt. all (suc k) d (omega arith)),
)

pub leaves_differ : (leaves : List LeafVdev) → AreNumbered leaves → Differ (leaf_numbers leaves)
leaves_differ [] apart = tt
leaves_differ (leaf ∷ leaves) apart = (
  others_differ leaf.guid.0 leaves (λ k d lt. apart 0 (suc k) d (omega arith) (omega arith)),
  leaves_differ leaves (λ i j d lt within. apart (suc i) (suc j) d (omega arith) (omega arith)),
)

-- tests of numbers
pub same_number : (a b : ℕ) → (a == b) ≡ true → a ≡ b
same_number a b e = grind (arith, nat_tests)

pub itself : (n : ℕ) → (n == n) ≡ true
itself n = grind (arith, nat_tests)

pub turned_test : (a b : ℕ) → (a == b) ≡ false → (b == a) ≡ false
turned_test a b off = by (b == a) refl
  where
    by : (t : Bool) → (b == a) ≡ t → (b == a) ≡ false
    by true e = absurd (true≢false (sym (let same : (a == b) ≡ true = grind (arith, nat_tests) in same) ∙ off))
    by false e = e

-- a leaf's seat has its number
pub seat_numbered : (seats : List Seat) (m : Guid) (seat : Seat) → seat_in seats m ≡ Some seat
    → seat.member.guid.0 ≡ m.0
seat_numbered [] m seat is = absurd (let no : None ≡ Some seat = is in cc)
seat_numbered (s ∷ seats) m seat is = one (s.member.guid.0 == m.0) refl is (seat_numbered seats m seat)
  where
    one : (t : Bool) → (s.member.guid.0 == m.0) ≡ t → cond t (Some s) (seat_in seats m) ≡ Some seat
        → (seat_in seats m ≡ Some seat → seat.member.guid.0 ≡ m.0) → seat.member.guid.0 ≡ m.0
    one true same e rest = let here : s ≡ seat = cc in ap (λ (x : Seat). x.member.guid.0) (sym here)
        ∙ same_number s.member.guid.0 m.0 same
    one false other e rest = rest e

-- the seats of leaves with distinct numbers
seats_behind : (all : List Seat) (n : ℕ) (leaves : List LeafVdev)
    → AllByRecursion (λ k. (n == k) ≡ false) (leaf_numbers leaves)
    → AllByRecursion (λ k. (n == k) ≡ false) (seat_numbers (filter_map (λ leaf. seat_in all leaf.guid) leaves))
seats_behind all n [] differ = tt
seats_behind all n (leaf ∷ leaves) differ = one (seat_in all leaf.guid) refl (seats_behind all n leaves differ.1)
  where
    one : (o : Option Seat) → seat_in all leaf.guid ≡ o
        → AllByRecursion (λ k. (n == k) ≡ false) (seat_numbers (filter_map (λ leaf. seat_in all leaf.guid) leaves))
        → AllByRecursion (λ k. (n == k) ≡ false)
        (seat_numbers (cons_option o (filter_map (λ leaf. seat_in all leaf.guid) leaves)))
    one None is rest = rest
    one (Some seat) is rest = (subst (λ k. (n == k) ≡ false) (sym (seat_numbered all leaf.guid seat is)) differ.0, rest)

pub seats_differ : (all : List Seat) (leaves : List LeafVdev) → Differ (leaf_numbers leaves)
    → Differ (seat_numbers (filter_map (λ leaf. seat_in all leaf.guid) leaves))
seats_differ all [] differ = tt
seats_differ all (leaf ∷ leaves) differ = one (seat_in all leaf.guid) refl (seats_differ all leaves differ.1)
  where
    one : (o : Option Seat) → seat_in all leaf.guid ≡ o
        → Differ (seat_numbers (filter_map (λ l. seat_in all l.guid) leaves))
        → Differ (seat_numbers (cons_option o (filter_map (λ l. seat_in all l.guid) leaves)))
    one None is rest = rest
    one (Some seat) is rest = (
      subst (λ n. AllByRecursion (λ k. (n == k) ≡ false) (seat_numbers (filter_map (λ l. seat_in all l.guid) leaves)))
          (sym (seat_numbered all leaf.guid seat is))
          (seats_behind all leaf.guid.0 leaves differ.0),
      rest,
    )

-- whether a seat's leaf is on the board
abbrev pub on_of : Option Seat → Bool
on_of None = false
on_of (Some seat) = seat.on

none_on : (m : Guid) (n : ℕ) (seats : List Seat) → n ≡ m.0 → AllByRecursion (λ k. (n == k) ≡ false) (seat_numbers seats)
    → on_board seats m ≡ false
none_on m n [] same differ = refl
none_on m n (seat ∷ seats) same differ = off seat.on (seat.member.guid.0 == m.0) (on_board seats m)
    (let d : (n == seat.member.guid.0) ≡ false = differ.0 in other d) (none_on m n seats same differ.1)
  where
    other : (n == seat.member.guid.0) ≡ false → (seat.member.guid.0 == m.0) ≡ false
    other d = grind (arith, nat_tests)

    off : (on t rest : Bool) → t ≡ false → rest ≡ false → ((on && t) || rest) ≡ false
    off true t rest a b = rw (a, b) refl
    off false t rest a b = b

-- the board has a leaf just where its seat says so
pub on_is_seats : (seats : List Seat) (m : Guid) → Differ (seat_numbers seats)
    → on_board seats m ≡ on_of (seat_in seats m)
on_is_seats [] m differ = refl
on_is_seats (seat ∷ seats) m differ = one (seat.member.guid.0 == m.0) refl (on_is_seats seats m differ.1)
  where
    here : (on : Bool) → ((on && true) || false) ≡ on
    here true = refl
    here false = refl

    there : (on rest : Bool) → ((on && false) || rest) ≡ rest
    there true rest = refl
    there false rest = refl

    one : (t : Bool) → (seat.member.guid.0 == m.0) ≡ t → on_board seats m ≡ on_of (seat_in seats m)
        → ((seat.on && t) || on_board seats m) ≡ on_of (cond t (Some seat) (seat_in seats m))
    one true same rest = ap (λ b. (seat.on && true) || b)
        (none_on m seat.member.guid.0 seats (same_number seat.member.guid.0 m.0 same) differ.0)
        ∙ here seat.on
    one false other rest = there seat.on (on_board seats m) ∙ rest
