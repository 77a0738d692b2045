-- Behind an opening each leaf of the record has a seat: where it was found, at the member of its number, or at none.
use Rattle.std.proofs.Common.{◌≡◌, inl, inr, ℕ, ◌<◌, ◌≤◌, ◌==◌, ◌&&◌, Bool, true, false, cond, Option, Some, None, List, [], ◌∷◌, map, refl, sym, ap, ◌∙◌, subst, arith}
use mathlib.Core.Path.{fun_ext}
use Rattle.std.specs.List.{AllByRecursion}
use Rattle.std.proofs.lemmas.Bool.Decides.{nat_tests}
use Rattle.mp_base.specs.declared.number.Guid.{Guid}
use Rattle.txg_history.specs.Groups.{no_log}
use Rattle.txg_history.specs.Pages.{LeafKept, kept_top, kept_log}
use Rattle.txg_history.specs.Pools.{Pool}
use Rattle.txg_history.specs.Premises.{HasNoTwin}
use Rattle.txg_history.specs.Records.{Rec}
use Rattle.txg_history.proofs.Logging.{by_bool, same_device, true_not_false}
use Rattle.pool_moves.specs.FreezeRow.{is_dev}
use Rattle.pool_moves.specs.Keeping.{IsElsewhere, AreSeatsApart, IsAway, IsSeated, IsOwnNumber, HasUnder, HasNumberBelow}
use Rattle.pool_moves.specs.Leaves.{OwnLeaf, LeafSeen, Seat, At, Adrift, Told, leaf_seen}
use Rattle.pool_moves.specs.Opened.{HasKept, AreNumbersApart, AreValidLeaves, opened_own, opened_leaf, opened_leaves, seat_unfound, opened_seat, opened_seats, claims_of}
use Rattle.pool_moves.specs.Rosters.{IsRoster, member_of}
use Rattle.pool_moves.proofs.Rosters.{found_member, no_member}
use Rattle.pool_moves.proofs.Tests.{here, other_back, same_guid, same_back}
use Rattle.std.proofs.lemmas.Bool.{and_from, or_right, or_left}

all_two : {A : Type 0} (P Q R : A → Type 0) → ((x : A) → P x → Q x → R x) → (xs : List A) → AllByRecursion P xs → AllByRecursion Q xs → AllByRecursion R xs
all_two P Q R one [] a b = tt
all_two P Q R one (x ∷ xs) a b = (one x a.0 b.0, all_two P Q R one xs a.1 b.1)

-- A leaf's top and log are those that its number has in the list.
record IsOwnKept (leaves : List LeafKept) (leaf : LeafKept) : Type 0 where
  top_is : kept_top leaves leaf.guid ≡ leaf.top
  log_is : (g : ℕ) → kept_log leaves leaf.guid g ≡ leaf.owes g

one_number : (m : Guid) → (m.0 == m.0) ≡ true
one_number m = grind (arith, nat_tests)

first_kept : (leaf : LeafKept) (leaves : List LeafKept) → IsOwnKept (leaf ∷ leaves) leaf
first_kept leaf leaves = record {
  top_is = ap (λ t. cond t leaf.top (kept_top leaves leaf.guid)) (one_number leaf.guid);
  log_is = λ g. ap (λ t. cond t (leaf.owes g) (kept_log leaves leaf.guid g)) (one_number leaf.guid);
}

later_kept : (first : LeafKept) (leaves : List LeafKept) (leaf : LeafKept) → (first.guid.0 == leaf.guid.0) ≡ false → IsOwnKept leaves leaf
    → IsOwnKept (first ∷ leaves) leaf
later_kept first leaves leaf other own = record {
  top_is = ap (λ t. cond t first.top (kept_top leaves leaf.guid)) other ∙ own.top_is;
  log_is = λ g. ap (λ t. cond t (first.owes g) (kept_log leaves leaf.guid g)) other ∙ own.log_is g;
}

own_kept : (leaves : List LeafKept) → AreNumbersApart leaves → AllByRecursion (IsOwnKept leaves) leaves
own_kept [] apart = tt
own_kept (leaf ∷ leaves) apart = (
  first_kept leaf leaves,
  all_two (λ other. (leaf.guid.0 == other.guid.0) ≡ false) (IsOwnKept leaves) (IsOwnKept (leaf ∷ leaves))
      (λ other off own. later_kept leaf leaves other off own) leaves apart.0 (own_kept leaves apart.1),
)

has_kept : (leaves : List LeafKept) (m : Guid) → 1 ≤ kept_top leaves m → HasKept m leaves
has_kept [] m low = absurd (omega (arith, low))
has_kept (leaf ∷ leaves) m low = by_bool (leaf.guid.0 == m.0) (λ here. inl here)
    (λ other. inr (has_kept leaves m (subst (λ n. 1 ≤ n) (ap (λ t. cond t leaf.top (kept_top leaves m)) other) low)))

-- The leaf's top and log in the record.
pub record IsIn (tops : Guid → ℕ) (owes : Guid → ℕ → Bool) (leaf : LeafKept) : Type 0 where
  pub top_is : tops leaf.guid ≡ leaf.top
  pub log_is : owes leaf.guid ≡ leaf.owes
  pub under : 1 ≤ leaf.top

pub kept_in_record : (r : Rec) (next : ℕ) (leaves : List LeafKept) → AreValidLeaves next leaves → kept_top leaves ≡ r.tops → kept_log leaves ≡ r.owes → AllByRecursion (IsIn r.tops r.owes) leaves
kept_in_record r next leaves valid tops owes = all_two (IsOwnKept leaves) (λ leaf. 1 ≤ leaf.top) (IsIn r.tops r.owes)
    (λ leaf own under. record {
      top_is = ap (λ f. f leaf.guid) (sym tops) ∙ own.top_is;
      log_is = ap (λ f. f leaf.guid) (sym owes) ∙ fun_ext own.log_is;
      under = under;
    }) leaves (own_kept leaves valid.apart) valid.under

-- a list of leaves and one of devices, of one length
abbrev pub ArePaired : List LeafKept → List (Option ℕ) → Type 0
ArePaired [] [] = Unit {0}
ArePaired [] (dev ∷ devs) = ⊥
ArePaired (leaf ∷ leaves) [] = ⊥
ArePaired (leaf ∷ leaves) (dev ∷ devs) = ArePaired leaves devs

-- The seat of a leaf.
abbrev pub IsSeatOf : Pool → LeafKept → Seat → Type 0
IsSeatOf p leaf (At d found own) = (p.member d ≡ true) × (p.guid d ≡ leaf.guid)
IsSeatOf p leaf (Adrift other) = (other ≡ opened_leaf leaf None) × ((d : ℕ) → p.member d ≡ true → (leaf.guid.0 == (p.guid d).0) ≡ false)

abbrev pub AreSeatsOf : Pool → List LeafKept → List Seat → Type 0
AreSeatsOf p [] [] = Unit {0}
AreSeatsOf p [] (seat ∷ seats) = ⊥
AreSeatsOf p (leaf ∷ leaves) [] = ⊥
AreSeatsOf p (leaf ∷ leaves) (seat ∷ seats) = IsSeatOf p leaf seat × AreSeatsOf p leaves seats

seat_is : (p : Pool) (r : Rec) (roster : List ℕ) (leaf : LeafKept) (dev : Option ℕ) → IsRoster p roster
    → ((d : ℕ) → dev ≡ Some d → (p.member d ≡ true) × (p.guid d ≡ leaf.guid))
    → IsSeatOf p leaf (opened_seat p roster leaf dev)
seat_is p r roster leaf (Some d) ros home = home d refl
seat_is p r roster leaf None ros home = by (member_of p roster leaf.guid) refl
  where
    by : (found : Option ℕ) → member_of p roster leaf.guid ≡ found → IsSeatOf p leaf (seat_unfound found leaf)
    by (Some d) is = let m = found_member p roster leaf.guid d is in (m.0, same_guid (p.guid d) leaf.guid m.1)
    by None is = (refl, λ d mine. other_back (p.guid d).0 leaf.guid.0 (no_member p roster leaf.guid ros is d mine))

pub seats_are : (p : Pool) (r : Rec) (roster : List ℕ) (leaves : List LeafKept) (devs : List (Option ℕ)) → IsRoster p roster
    → AllByRecursion (IsIn r.tops r.owes) leaves → ArePaired leaves devs
    → HasNoTwin p r (claims_of leaves devs) → AreSeatsOf p leaves (opened_seats p roster leaves devs)
seats_are p r roster [] [] ros all pairs home = tt
seats_are p r roster [] (dev ∷ devs) ros all pairs home = absurd pairs
seats_are p r roster (leaf ∷ leaves) [] ros all pairs home = absurd pairs
seats_are p r roster (leaf ∷ leaves) (dev ∷ devs) ros all pairs home = (
  seat_is p r roster leaf dev ros (λ d is. home d leaf.guid (claimed d is) (subst (λ n. 1 ≤ n) (sym all.0.top_is) all.0.under)),
  seats_are p r roster leaves devs ros all.1 pairs
      (λ d m claim top. home d m (or_right (is_dev d dev && (leaf.guid.0 == m.0)) (claims_of leaves devs d m) claim)
      top),
)
  where
    claimed : (d : ℕ) → dev ≡ Some d → claims_of (leaf ∷ leaves) (dev ∷ devs) d leaf.guid ≡ true
    claimed d is = or_left (is_dev d dev && (leaf.guid.0 == leaf.guid.0)) (claims_of leaves devs d leaf.guid)
        (and_from (is_dev d dev) (leaf.guid.0 == leaf.guid.0) (subst (λ x. is_dev d x ≡ true) (sym is) (here d))
        (one_number leaf.guid))

-- What is so of the seats.
pub opened_seated : (p : Pool) (leaves : List LeafKept) (seats : List Seat) → AreSeatsOf p leaves seats → AllByRecursion (IsSeated p.member) seats
opened_seated p [] [] are = tt
opened_seated p [] (seat ∷ seats) are = absurd are
opened_seated p (leaf ∷ leaves) [] are = absurd are
opened_seated p (leaf ∷ leaves) (At d found own ∷ seats) are = (are.0.0, opened_seated p leaves seats are.1)
opened_seated p (leaf ∷ leaves) (Adrift other ∷ seats) are = (tt, opened_seated p leaves seats are.1)

pub opened_away : (p : Pool) (leaves : List LeafKept) (seats : List Seat) → AreSeatsOf p leaves seats → AllByRecursion IsAway seats
opened_away p [] [] are = tt
opened_away p [] (seat ∷ seats) are = absurd are
opened_away p (leaf ∷ leaves) [] are = absurd are
opened_away p (leaf ∷ leaves) (At d found own ∷ seats) are = (tt, opened_away p leaves seats are.1)
opened_away p (leaf ∷ leaves) (Adrift other ∷ seats) are = ((ap (λ l. l.dev) are.0.0, ap (λ l. l.on) are.0.0), opened_away p leaves seats are.1)

off_each : (p : Pool) (leaf : LeafKept) (d : ℕ) → p.guid d ≡ leaf.guid → (leaves : List LeafKept) (seats : List Seat)
    → AllByRecursion (λ other. (leaf.guid.0 == other.guid.0) ≡ false) leaves
    → AreSeatsOf p leaves seats → AllByRecursion (IsElsewhere d) seats
off_each p leaf d here [] [] off are = tt
off_each p leaf d here [] (seat ∷ seats) off are = absurd are
off_each p leaf d here (other ∷ leaves) [] off are = absurd are
off_each p leaf d here (other ∷ leaves) (At e found own ∷ seats) off are = (
  by_bool (d == e) (λ same. true_not_false (leaf.guid.0 == other.guid.0)
      (subst (λ m. (leaf.guid.0 == m.0) ≡ true) (sym here ∙ (ap p.guid (same_device d e same) ∙ are.0.1)) (one_number leaf.guid)) off.0) (λ away. away),
  off_each p leaf d here leaves seats off.1 are.1,
)
off_each p leaf d here (other ∷ leaves) (Adrift x ∷ seats) off are = (tt, off_each p leaf d here leaves seats off.1 are.1)

pub opened_below : (p : Pool) (next : ℕ) (leaves : List LeafKept) (seats : List Seat) → AreSeatsOf p leaves seats → AllByRecursion (λ leaf. leaf.guid.0 < next) leaves
    → AllByRecursion (HasNumberBelow p.guid next) seats
opened_below p next [] [] are below = tt
opened_below p next [] (seat ∷ seats) are below = absurd are
opened_below p next (leaf ∷ leaves) [] are below = absurd are
opened_below p next (leaf ∷ leaves) (At d found own ∷ seats) are below = (subst (λ m. m.0 < next) (sym are.0.1) below.0, opened_below p next leaves seats are.1 below.1)
opened_below p next (leaf ∷ leaves) (Adrift other ∷ seats) are below = (subst (λ l. l.guid.0 < next) (sym are.0.0) below.0, opened_below p next leaves seats are.1 below.1)

pub opened_apart : (p : Pool) (leaves : List LeafKept) (seats : List Seat) → AreNumbersApart leaves → AreSeatsOf p leaves seats → AreSeatsApart seats
opened_apart p [] [] apart are = tt
opened_apart p [] (seat ∷ seats) apart are = absurd are
opened_apart p (leaf ∷ leaves) [] apart are = absurd are
opened_apart p (leaf ∷ leaves) (At d found own ∷ seats) apart are =
    (off_each p leaf d are.0.1 leaves seats apart.0 are.1, opened_apart p leaves seats apart.1 are.1)
opened_apart p (leaf ∷ leaves) (Adrift other ∷ seats) apart are = opened_apart p leaves seats apart.1 are.1

pub opened_numbered : (p : Pool) (roster : List ℕ) (leaves : List LeafKept) (seats : List Seat) (d : ℕ) → IsRoster p roster
    → AreSeatsOf p leaves seats → p.member d ≡ true → AllByRecursion (IsOwnNumber p.guid d) seats
opened_numbered p roster [] [] d ros are mine = tt
opened_numbered p roster [] (seat ∷ seats) d ros are mine = absurd are
opened_numbered p roster (leaf ∷ leaves) [] d ros are mine = absurd are
opened_numbered p roster (leaf ∷ leaves) (At e found own ∷ seats) d ros are mine = (
  by_bool ((p.guid e).0 == (p.guid d).0) (λ same. inl (same_back e d (ros.numbers e d are.0.0 mine same)))
      (λ other. inr other),
  opened_numbered p roster leaves seats d ros are.1 mine,
)
opened_numbered p roster (leaf ∷ leaves) (Adrift other ∷ seats) d ros are mine =
    (subst (λ m. (m.0 == (p.guid d).0) ≡ false) (sym (ap (λ l. l.guid) are.0.0)) (are.0.1 d mine), opened_numbered p roster leaves seats d ros are.1 mine)

pub opened_under : (p : Pool) (r : Rec) (leaves : List LeafKept) (seats : List Seat) (d : ℕ) → AllByRecursion (IsIn r.tops r.owes) leaves
    → AreSeatsOf p leaves seats → HasKept (p.guid d) leaves
    → HasUnder (λ e. r.tops (p.guid e)) (r.tops (p.guid d)) seats
opened_under p r [] seats d all are has = absurd has
opened_under p r (leaf ∷ leaves) [] d all are has = absurd are
opened_under p r (leaf ∷ leaves) (At e found own ∷ seats) d all are (inl is) = inl (ap r.tops (are.0.1 ∙ same_guid leaf.guid (p.guid d) is))
opened_under p r (leaf ∷ leaves) (Adrift other ∷ seats) d all are (inl is) =
    inl (ap (λ l. l.top) are.0.0 ∙ (sym all.0.top_is ∙ ap r.tops (same_guid leaf.guid (p.guid d) is)))
opened_under p r (leaf ∷ leaves) (At e found own ∷ seats) d all are (inr has) = inr (opened_under p r leaves seats d all.1 are.1 has)
opened_under p r (leaf ∷ leaves) (Adrift other ∷ seats) d all are (inr has) = inr (opened_under p r leaves seats d all.1 are.1 has)

pub opened_topped : (p : Pool) (r : Rec) (leaves : List LeafKept) (seats : List Seat) (d : ℕ) → AllByRecursion (IsIn r.tops r.owes) leaves
    → kept_top leaves ≡ r.tops → AreSeatsOf p leaves seats
    → 1 ≤ r.tops (p.guid d) → HasUnder (λ e. r.tops (p.guid e)) (r.tops (p.guid d)) seats
opened_topped p r leaves seats d all tops are low =
    opened_under p r leaves seats d all are (has_kept leaves (p.guid d) (subst (λ f. 1 ≤ f (p.guid d)) (sym tops) low))

-- The leaves are what is seen at the seats.
abbrev opened_told : Pool → Rec → (board : ℕ → Bool) → Told
opened_told p r board = record {
  guid = p.guid;
  top = λ d. r.tops (p.guid d);
  owes = λ d. r.owes (p.guid d);
  settled = no_log;
  board = board;
}

abbrev shape : Guid → Option ℕ → OwnLeaf → ℕ → (ℕ → Bool) → LeafSeen
shape m dev own top log = record { guid = m; dev = dev; own = own; top = top; owes = log; settled = no_log 0; on = false }

seen_at : (r : Rec) (leaf : LeafKept) (m : Guid) (dev : Option ℕ) (own : OwnLeaf) → IsIn r.tops r.owes leaf → m ≡ leaf.guid
    → shape m dev own (r.tops m) (r.owes m) ≡ shape leaf.guid dev own leaf.top leaf.owes
seen_at r leaf m dev own is same = ap (λ m. shape m dev own (r.tops m) (r.owes m)) same
    ∙ (ap (λ top. shape leaf.guid dev own top (r.owes leaf.guid)) is.top_is ∙ ap (λ log. shape leaf.guid dev own leaf.top log) is.log_is)

seat_seen : (p : Pool) (r : Rec) (roster : List ℕ) (board : ℕ → Bool) (leaf : LeafKept) (dev : Option ℕ)
    → IsIn r.tops r.owes leaf → IsSeatOf p leaf (opened_seat p roster leaf dev)
    → leaf_seen false (opened_told p r board) (opened_seat p roster leaf dev) ≡ opened_leaf leaf dev
seat_seen p r roster board leaf (Some d) is seat = seen_at r leaf (p.guid d) (Some d) (opened_own leaf (Some d)) is seat.1
seat_seen p r roster board leaf None is seat = by (member_of p roster leaf.guid) seat
  where
    by : (found : Option ℕ) → IsSeatOf p leaf (seat_unfound found leaf)
        → leaf_seen false (opened_told p r board) (seat_unfound found leaf) ≡ opened_leaf leaf None
    by (Some d) seat = seen_at r leaf (p.guid d) None (opened_own leaf None) is seat.1
    by None seat = refl

pub seats_seen : (p : Pool) (r : Rec) (roster : List ℕ) (board : ℕ → Bool) (leaves : List LeafKept)
    (devs : List (Option ℕ)) → AllByRecursion (IsIn r.tops r.owes) leaves
    → AreSeatsOf p leaves (opened_seats p roster leaves devs)
    → map (leaf_seen false (opened_told p r board)) (opened_seats p roster leaves devs) ≡ opened_leaves leaves devs
seats_seen p r roster board [] devs all are = refl
seats_seen p r roster board (leaf ∷ leaves) [] all are = refl
seats_seen p r roster board (leaf ∷ leaves) (dev ∷ devs) all are =
    ap (λ x. x ∷ map (leaf_seen false (opened_told p r board)) (opened_seats p roster leaves devs))
    (seat_seen p r roster board leaf dev all.0 are.0)
    ∙ ap (λ xs. opened_leaf leaf dev ∷ xs) (seats_seen p r roster board leaves devs all.1 are.1)
