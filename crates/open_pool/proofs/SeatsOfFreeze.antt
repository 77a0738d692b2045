-- The seats of a freeze: each readable leaf with a device has one, and is on the board.
use Rattle.std.proofs.Common.{◌≡◌, ℕ, suc, ◌+◌, ◌==◌, ◌&&◌, ◌||◌, cond, Bool, true, false, List, [], ◌∷◌, ◌++◌, map, Option, Some, None, refl, sym, ap, ◌∙◌, subst, arith}
use Rattle.std.specs.Prelude.{All, AllPairs, IfSome, is_some}
use Rattle.std.specs.List.{filter_map, cons_option, AllByRecursion, AllZip}
use Rattle.std.specs.Option.{option_map}
use Rattle.std.proofs.lemmas.Bool.Decides.{nat_tests}
use Rattle.mp_base.specs.declared.number.Guid.{Guid}
use Rattle.vdev_tree.specs.Leaf.{is_readable}
use Rattle.vdev_tree.specs.Tree.{leaves}
use Rattle.vdev_tree.specs.declared.top.Top.{Top}
use Rattle.vdev_tree.specs.declared.vdev.LeafVdev.{LeafVdev}
use Rattle.txg_engine.specs.declared.seat.Seat.{Seat}
use Rattle.txg_engine.specs.Boards.{seat_of, seats_of, on_board}
use Rattle.pool_moves.specs.FreezeRow.{up_devs, is_dev}
use Rattle.pool_moves.specs.Leaves.{LeafSeen}
use Rattle.pool_moves.specs.Moves.{on_dev}
use Rattle.open_pool.specs.Form.{IsSeatOf}
use Rattle.open_pool.specs.Parts.{all_parts}
use Rattle.open_pool.specs.State.{seat_in, faults_of, leaf_of, leaves_under}
use Rattle.open_pool.proofs.LeavesByTops.{leaves_at, under_all, tops_from, HaveTops, SeatedAt}
use Rattle.open_pool.proofs.NumbersApart.{Differ, leaf_numbers, seat_numbers, on_of, on_is_seats}

-- the seats of leaves whose tops count from 0
abbrev pub seats_at : List ℕ → List LeafVdev → List Seat
seats_at [] leaves = []
seats_at (top ∷ tops) [] = []
seats_at (top ∷ tops) (leaf ∷ leaves) = cons_option (seat_of top leaf) (seats_at tops leaves)

more_front : (top : ℕ) (under : List LeafVdev) (rest : List ℕ)
    → map {B = ℕ} (λ leaf. suc top) under ++ map suc rest ≡ map suc (map (λ leaf. top) under ++ rest)
more_front top [] rest = refl
more_front top (leaf ∷ under) rest = ap (λ ts. suc top ∷ ts) (more_front top under rest)

-- the numbers of the same tops, counted from 1
pub tops_more : (top : ℕ) (tops : List (List LeafVdev)) → tops_from (suc top) tops ≡ map suc (tops_from top tops)
tops_more top [] = refl
tops_more top (under ∷ tops) = ap (λ ts. map (λ leaf. suc top) under ++ ts) (tops_more (suc top) tops)
    ∙ more_front top under (tops_from (suc top) tops)

cons-append : {X : Type 0} (o : Option X) (xs ys : List X) → cons_option o xs ++ ys ≡ cons_option o (xs ++ ys)
cons-append None xs ys = refl
cons-append (Some x) xs ys = refl

seats_front : (top : ℕ) (under : List LeafVdev) (tops : List ℕ) (rest : List LeafVdev)
    → filter_map (seat_of top) under ++ seats_at tops rest ≡ seats_at (map (λ leaf. top) under ++ tops) (under ++ rest)
seats_front top [] tops rest = refl
seats_front top (leaf ∷ under) tops rest =
    cons-append (seat_of top leaf) (filter_map (seat_of top) under) (seats_at tops rest)
    ∙ ap (cons_option (seat_of top leaf)) (seats_front top under tops rest)

pub seats_of_tops : (first : ℕ) (tops : List Top)
    → seats_of first tops ≡ seats_at (tops_from first (leaves_under (all_parts tops)))
    (under_all (leaves_under (all_parts tops)))
seats_of_tops first [] = refl
seats_of_tops first (top ∷ tops) =
    let next : first + 1 ≡ suc first = omega arith in
    ap (λ n. filter_map (seat_of first) (leaves top.mirror) ++ seats_of n tops) next
    ∙ ap (λ l. filter_map (seat_of first) (leaves top.mirror) ++ l) (seats_of_tops (suc first) tops)
    ∙ seats_front first (leaves top.mirror) (tops_from (suc first) (leaves_under (all_parts tops)))
    (under_all (leaves_under (all_parts tops)))

-- A seat as a freeze makes it of its leaf.
pub record IsFresh (top : ℕ) (leaf : LeafVdev) (seat : Seat) : Type 0 where
  pub guid : seat.member.guid ≡ leaf.guid
  pub top_is : seat.top ≡ top
  pub on : seat.on ≡ true
  pub faults : seat.faults ≡ 0
  pub dev : leaf.dev ≡ Some seat.member.dev
  pub up : is_readable leaf ≡ true

abbrev seat_on : (top : ℕ) → LeafVdev → ℕ → Seat
seat_on top leaf dev = record { member = record { dev = dev; guid = leaf.guid }; top = top; on = true; taken = false; faults = 0 }

pub is_fresh : (top : ℕ) (leaf : LeafVdev) (seat : Seat) → seat_of top leaf ≡ Some seat → IsFresh top leaf seat
is_fresh top leaf seat is = one (is_readable leaf) leaf.dev refl refl is
  where
    one : (b : Bool) (dev : Option ℕ) → is_readable leaf ≡ b → leaf.dev ≡ dev
        → cond b (option_map (seat_on top leaf) dev) None ≡ Some seat → IsFresh top leaf seat
    one true (Some d) up at e = let here : seat_on top leaf d ≡ seat = cc in
        subst (IsFresh top leaf) here (record { guid = refl; top_is = refl; on = refl; faults = refl; dev = at; up = up })
    one true None up at e = absurd (let no : None ≡ Some seat = e in cc)
    one false dev up at e = absurd (let no : None ≡ Some seat = e in cc)

-- who may be written, readable and with a device
abbrev pub may_write : LeafVdev → Bool
may_write leaf = is_readable leaf && is_some leaf.dev

pub has_seat : (top : ℕ) (leaf : LeafVdev) → is_some (seat_of top leaf) ≡ may_write leaf
has_seat top leaf = one (is_readable leaf) leaf.dev
  where
    one : (b : Bool) (dev : Option ℕ) → is_some (cond b (option_map (seat_on top leaf) dev) None) ≡ (b && is_some dev)
    one true (Some d) = refl
    one true None = refl
    one false dev = refl

-- No seat behind has the number of another leaf.
unseated : (m : Guid) (tops : List ℕ) (leaves : List LeafVdev)
    → AllByRecursion (λ k. (m.0 == k) ≡ false) (leaf_numbers leaves) → seat_in (seats_at tops leaves) m ≡ None
unseated m [] leaves differ = refl
unseated m (top ∷ tops) [] differ = refl
unseated m (top ∷ tops) (leaf ∷ leaves) differ = one (seat_of top leaf) refl (unseated m tops leaves differ.1)
  where
    other : (seat : Seat) → seat.member.guid ≡ leaf.guid → (m.0 == leaf.guid.0) ≡ false
        → (seat.member.guid.0 == m.0) ≡ false
    other seat same off = let n : seat.member.guid.0 ≡ leaf.guid.0 = ap (λ (g : Guid). g.0) same in grind
        (arith, nat_tests)

    one : (o : Option Seat) → seat_of top leaf ≡ o → seat_in (seats_at tops leaves) m ≡ None
        → seat_in (cons_option o (seats_at tops leaves)) m ≡ None
    one None is rest = rest
    one (Some seat) is rest = ap (λ b. cond b (Some seat) (seat_in (seats_at tops leaves) m))
        (other seat (is_fresh top leaf seat is).guid differ.0)
        ∙ rest

passed : (o : Option Seat) (seats : List Seat) (m : Guid) (top : ℕ) (leaf : LeafVdev) → seat_of top leaf ≡ o
    → (leaf.guid.0 == m.0) ≡ false
    → seat_in (cons_option o seats) m ≡ seat_in seats m
passed None seats m top leaf is other = refl
passed (Some seat) seats m top leaf is other =
    let same : seat.member.guid.0 ≡ leaf.guid.0 = ap (λ (g : Guid). g.0) (is_fresh top leaf seat is).guid in
    let off : (seat.member.guid.0 == m.0) ≡ false = rw same other in
    ap (λ b. cond b (Some seat) (seat_in seats m)) off

-- each leaf's seat is the one that was made of it
abbrev pub HaveSeats : List Seat → List ℕ → List LeafVdev → Type 0
HaveSeats seats tops leaves = AllZip (λ top leaf. seat_in seats leaf.guid ≡ seat_of top leaf) tops leaves

still : (top : ℕ) (leaf : LeafVdev) (seats : List Seat) (tops : List ℕ) (leaves : List LeafVdev)
    → AllByRecursion (λ k. (leaf.guid.0 == k) ≡ false) (leaf_numbers leaves)
    → HaveSeats seats tops leaves → HaveSeats (cons_option (seat_of top leaf) seats) tops leaves
still top leaf seats [] [] differ have = tt
still top leaf seats [] (l ∷ leaves) differ have = absurd have
still top leaf seats (t ∷ tops) [] differ have = absurd have
still top leaf seats (t ∷ tops) (l ∷ leaves) differ have =
    (passed (seat_of top leaf) seats l.guid top leaf refl differ.0 ∙ have.0, still top leaf seats tops leaves differ.1 have.1)

pub have_seats : (tops : List ℕ) (leaves : List LeafVdev) → HaveTops tops leaves → Differ (leaf_numbers leaves)
    → HaveSeats (seats_at tops leaves) tops leaves
have_seats [] [] have differ = tt
have_seats [] (leaf ∷ leaves) have differ = absurd have
have_seats (top ∷ tops) [] have differ = absurd have
have_seats (top ∷ tops) (leaf ∷ leaves) have differ = (
  here (seat_of top leaf) refl,
  still top leaf (seats_at tops leaves) tops leaves differ.0
      (have_seats tops leaves have.1 differ.1),
)
  where
    same : (seat : Seat) → seat.member.guid ≡ leaf.guid → (seat.member.guid.0 == leaf.guid.0) ≡ true
    same seat e = let n : seat.member.guid.0 ≡ leaf.guid.0 = ap (λ (g : Guid). g.0) e in grind (arith, nat_tests)

    here : (o : Option Seat) → seat_of top leaf ≡ o → seat_in (cons_option o (seats_at tops leaves)) leaf.guid ≡ o
    here None is = unseated leaf.guid tops leaves differ.0
    here (Some seat) is = ap (λ b. cond b (Some seat) (seat_in (seats_at tops leaves) leaf.guid))
        (same seat (is_fresh top leaf seat is).guid)

-- so they stand in the order of their leaves
pub in_order : (seats : List Seat) (tops : List ℕ) (leaves : List LeafVdev) → HaveSeats seats tops leaves
    → filter_map (λ leaf. seat_in seats leaf.guid) leaves ≡ seats_at tops leaves
in_order seats [] [] have = refl
in_order seats [] (leaf ∷ leaves) have = absurd have
in_order seats (top ∷ tops) [] have = absurd have
in_order seats (top ∷ tops) (leaf ∷ leaves) have =
    ap (λ o. cons_option o (filter_map (λ l. seat_in seats l.guid) leaves)) have.0
    ∙ ap (cons_option (seat_of top leaf)) (in_order seats tops leaves have.1)

-- each under its leaf's top, on its device
pub seated_at : (seats : List Seat) (tops : List ℕ) (leaves : List LeafVdev) → HaveSeats seats tops leaves
    → SeatedAt seats (map suc tops) leaves
seated_at seats [] [] have = tt
seated_at seats [] (leaf ∷ leaves) have = absurd have
seated_at seats (top ∷ tops) [] have = absurd have
seated_at seats (top ∷ tops) (leaf ∷ leaves) have = (
  subst (λ o. IfSome o (IsSeatOf (suc top) leaf)) (sym have.0)
      (one (seat_of top leaf) refl),
  seated_at seats tops leaves have.1,
)
  where
    one : (o : Option Seat) → seat_of top leaf ≡ o → IfSome o (IsSeatOf (suc top) leaf)
    one None is = tt
    one (Some seat) is = let fresh = is_fresh top leaf seat is in
        record { top_is = ap suc fresh.top_is; dev_is = λ on. fresh.dev; up = λ on. fresh.up }

-- What is seen of a leaf's seat behind a freeze: it was on the board just where it may be written, it still is, and no call failed.
pub record IsOnIfUp (seats : List Seat) (leaf : LeafVdev) : Type 0 where
  pub on : on_board seats leaf.guid ≡ may_write leaf
  pub joined : is_some (seat_in seats leaf.guid) ≡ may_write leaf
  pub faults : faults_of (seat_in seats leaf.guid) ≡ 0

pub on_if_up : (seats : List Seat) (tops : List ℕ) (leaves : List LeafVdev) → Differ (seat_numbers seats)
    → HaveSeats seats tops leaves → AllByRecursion (IsOnIfUp seats) leaves
on_if_up seats [] [] differ have = tt
on_if_up seats [] (leaf ∷ leaves) differ have = absurd have
on_if_up seats (top ∷ tops) [] differ have = absurd have
on_if_up seats (top ∷ tops) (leaf ∷ leaves) differ have = (
  record {
    on = on_is_seats seats leaf.guid differ ∙ ap on_of have.0 ∙ on_fresh (seat_of top leaf) refl ∙ has_seat top leaf;
    joined = ap is_some have.0 ∙ has_seat top leaf;
    faults = ap faults_of have.0 ∙ no_faults (seat_of top leaf) refl;
  },
  on_if_up seats tops leaves differ have.1,
)
  where
    on_fresh : (o : Option Seat) → seat_of top leaf ≡ o → on_of o ≡ is_some o
    on_fresh None is = refl
    on_fresh (Some seat) is = (is_fresh top leaf seat is).on

    no_faults : (o : Option Seat) → seat_of top leaf ≡ o → faults_of o ≡ 0
    no_faults None is = refl
    no_faults (Some seat) is = (is_fresh top leaf seat is).faults

-- leaves of which no two have one device
abbrev pub OnOwnDevices : List LeafVdev → Type 0
OnOwnDevices leaves = AllPairs (λ a b. (d : ℕ) → a.dev ≡ Some d → b.dev ≡ Some d → ⊥) leaves

abbrev IsNotOn : Option ℕ → LeafVdev → Type 0
IsNotOn dev leaf = (d : ℕ) → dev ≡ Some d → leaf.dev ≡ Some d → ⊥

not_dev : (d : ℕ) (dev : Option ℕ) → (dev ≡ Some d → ⊥) → is_dev d dev ≡ false
not_dev d None other = refl
not_dev d (Some e) other = by (d == e) refl
  where
    by : (t : Bool) → (d == e) ≡ t → (d == e) ≡ false
    by true same = absurd (other (ap (λ n. Some n) (let there : e ≡ d = grind (arith, nat_tests) in there)))
    by false off = off

none_up : (seats : List Seat) (d : ℕ) (tops : List ℕ) (leaves : List LeafVdev)
    → AllByRecursion (IsNotOn (Some d)) leaves → up_devs (leaves_at seats tops leaves) d ≡ false
none_up seats d [] leaves apart = refl
none_up seats d (top ∷ tops) [] apart = refl
none_up seats d (top ∷ tops) (leaf ∷ leaves) apart =
    off (is_readable leaf) (is_dev d leaf.dev) (up_devs (leaves_at seats tops leaves) d)
    (not_dev d leaf.dev (apart.0 d refl)) (none_up seats d tops leaves apart.1)
  where
    off : (a b c : Bool) → b ≡ false → c ≡ false → ((a && b) || c) ≡ false
    off true b c x y = rw (x, y) refl
    off false b c x y = y

-- the leaf's device is on the board that `up_devs` makes of these leaves
abbrev IsIn : List LeafSeen → LeafVdev → Type 0
IsIn all leaf = on_dev (up_devs all) leaf.dev ≡ may_write leaf

one_more : (seats : List Seat) (top : ℕ) (first : LeafVdev) (all : List LeafSeen) (leaves : List LeafVdev)
    → AllByRecursion (IsNotOn first.dev) leaves → AllByRecursion (IsIn all) leaves
    → AllByRecursion (IsIn (leaf_of seats top first ∷ all)) leaves
one_more seats top first all [] apart «in» = tt
one_more seats top first all (leaf ∷ leaves) apart «in» = (one leaf.dev refl «in».0, one_more seats top first all leaves apart.1 «in».1)
  where
    off : (a b c : Bool) → b ≡ false → ((a && b) || c) ≡ c
    off true b c x = rw x refl
    off false b c x = refl

    one : (dev : Option ℕ) → leaf.dev ≡ dev → on_dev (up_devs all) dev ≡ may_write leaf
        → on_dev (up_devs (leaf_of seats top first ∷ all)) dev ≡ may_write leaf
    one None is rest = rest
    one (Some d) is rest = off (is_readable first) (is_dev d first.dev) (up_devs all d)
        (not_dev d first.dev (λ there. apart.0 d there is))
        ∙ rest

devs_apart : (leaf : LeafVdev) (leaves : List LeafVdev) → All (IsNotOn leaf.dev) leaves
    → AllByRecursion (IsNotOn leaf.dev) leaves
devs_apart leaf [] apart = tt
devs_apart leaf (l ∷ leaves) apart = (
  apart 0 l (omega arith),
  devs_apart leaf leaves
      (λ k d lt. apart (suc k) d (omega arith)),
)

pub up_are : (seats : List Seat) (tops : List ℕ) (leaves : List LeafVdev) → HaveTops tops leaves → OnOwnDevices leaves
    → AllByRecursion (λ leaf. on_dev (up_devs (leaves_at seats tops leaves)) leaf.dev ≡ may_write leaf) leaves
up_are seats [] [] have apart = tt
up_are seats [] (leaf ∷ leaves) have apart = absurd have
up_are seats (top ∷ tops) [] have apart = absurd have
up_are seats (top ∷ tops) (leaf ∷ leaves) have apart =
    let others = devs_apart leaf leaves (λ k d lt. apart 0 (suc k) d (omega arith) (omega arith)) in (
      here leaf.dev refl others,
      one_more seats top leaf (leaves_at seats tops leaves) leaves others
          (up_are seats tops leaves have.1 (λ i j d lt within. apart (suc i) (suc j) d (omega arith) (omega arith))),
    )
  where
    self : (a : Bool) (d : ℕ) (rest : Bool) → rest ≡ false → ((a && (d == d)) || rest) ≡ (a && true)
    self a d rest off = let same : (d == d) ≡ true = grind (arith, nat_tests) in rw (same, off) (both a)
      where
        both : (a : Bool) → ((a && true) || false) ≡ (a && true)
        both true = refl
        both false = refl

    no : (a : Bool) → false ≡ (a && false)
    no true = refl
    no false = refl

    here : (dev : Option ℕ) → leaf.dev ≡ dev → AllByRecursion (IsNotOn leaf.dev) leaves
        → on_dev (λ d. (is_readable leaf && is_dev d leaf.dev) || up_devs (leaves_at seats tops leaves) d) dev ≡
        (is_readable leaf && is_some dev)
    here None is others = no (is_readable leaf)
    here (Some d) is others =
        ap (λ e. (is_readable leaf && is_dev d e) || up_devs (leaves_at seats tops leaves) d) is
        ∙ self (is_readable leaf) d (up_devs (leaves_at seats tops leaves) d)
        (none_up seats d tops leaves (subst (λ e. AllByRecursion (IsNotOn e) leaves) is others))
