-- The board by leaves is the board of the history.
use Rattle.std.proofs.Common.{◌≡◌, ◌≢◌, inl, inr, ℕ, zero, suc, ◌==◌, ◌&&◌, Bool, true, false, Option, Some, None, List, [], ◌∷◌, map, refl, sym, ap, ◌∙◌, subst, arith}
use Rattle.std.specs.Prelude.{slice_get}
use Rattle.std.specs.List.{AllByRecursion}
use Rattle.std.proofs.lemmas.Bool.{and_parts}
use Rattle.std.proofs.lemmas.Bool.Decides.{nat_tests}
use Rattle.mp_base.specs.declared.number.Guid.{Guid}
use Rattle.label_store.specs.declared.member.Member.{Member}
use Rattle.label_store.specs.Seats.{AreApart}
use Rattle.txg_history.specs.Pages.{Codec}
use Rattle.txg_history.specs.Pools.{Pool, seat}
use Rattle.txg_history.specs.Turns.{AreJust, OnBoard, OnTop}
use Rattle.txg_history.proofs.Logging.{by_bool, same_device, true_not_false}
use Rattle.pool_moves.specs.Boards.{member_before, members_where, is_on, is_on_under, board_of, board_under}
use Rattle.pool_moves.specs.Keeping.{IsElsewhere, AreSeatsApart, IsAway, HasFound, IsOfFound, Kept}
use Rattle.pool_moves.specs.Leaves.{OwnLeaf, LeafSeen, Seat, At, Adrift, told, dev_if, leaf_seen}
use Rattle.pool_moves.specs.States.{PoolSeen, Side, PoolState, seen_by}
use Rattle.pool_moves.proofs.Lists.{all_at}
use Rattle.pool_moves.proofs.Tests.{not_same, no_dev}

-- a kind of members, as leaves of seats show it
abbrev Shows : (which : LeafSeen → Bool) → Pool → (Which : ℕ → Type 0) → Type 0
Shows which p Which = (d : ℕ) (own : OwnLeaf) → which (leaf_seen true (told p) (At d true own)) ≡ true → Which d

abbrev pub leaves_of : Pool → List Seat → List LeafSeen
leaves_of p seats = map (leaf_seen true (told p)) seats

-- the list with this leaf is one of these, where the rest is, and with its device too
pub before_all : (P : List Member → Type 0) (t : Bool) (dev : Option ℕ) (m : Guid) (ms : List Member) → P ms → ((d : ℕ) → t ≡ true → dev ≡ Some d → P (record { dev = d; guid = m } ∷ ms))
    → P (member_before t dev m ms)
before_all P true (Some d) m ms rest new = new d refl refl
before_all P true None m ms rest new = rest
before_all P false dev m ms rest new = rest

pub dev_is : (found : Bool) (d e : ℕ) → dev_if found d ≡ Some e → (found ≡ true) × (d ≡ e)
dev_is true d e is = (refl, let same : d ≡ e = cc in same)
dev_is false d e is = absurd (cc)

members_are : (which : LeafSeen → Bool) (p : Pool) (Which : ℕ → Type 0) → Shows which p Which → (seats : List Seat) → AllByRecursion IsAway seats
    → AllByRecursion (λ m. (m ≡ seat p m.dev) × Which m.dev) (members_where which (leaves_of p seats))
members_are which p Which shows [] away = tt
members_are which p Which shows (At d found own ∷ seats) away =
    before_all (AllByRecursion (λ m. (m ≡ seat p m.dev) × Which m.dev)) (which (leaf_seen true (told p) (At d found own))) (dev_if found d) (p.guid d)
    (members_where which (leaves_of p seats)) (members_are which p Which shows seats away.1)
    (λ e is dev. new e is (dev_is found d e dev) (members_are which p Which shows seats away.1))
  where
    rest : List Member
    rest = members_where which (leaves_of p seats)

    new : (e : ℕ) → which (leaf_seen true (told p) (At d found own)) ≡ true → (found ≡ true) × (d ≡ e) → AllByRecursion (λ m. (m ≡ seat p m.dev) × Which m.dev) rest
        → AllByRecursion (λ m. (m ≡ seat p m.dev) × Which m.dev) (record { dev = e; guid = p.guid d } ∷ rest)
    new e is at others = subst (λ n. AllByRecursion (λ m. (m ≡ seat p m.dev) × Which m.dev) (record { dev = n; guid = p.guid d } ∷ rest)) at.1
        ((refl, shows d own (subst (λ f. which (leaf_seen true (told p) (At d f own)) ≡ true) at.0 is)), others)
members_are which p Which shows (Adrift leaf ∷ seats) away =
    before_all (AllByRecursion (λ m. (m ≡ seat p m.dev) × Which m.dev)) (which leaf) leaf.dev leaf.guid (members_where which (leaves_of p seats))
    (members_are which p Which shows seats away.1) (λ d is dev. no_dev leaf.dev d away.0.0 dev)

-- a member further on in the list
later : (t : Bool) (dev : Option ℕ) (m : Guid) (ms : List Member) (n : Member) → (i : ℕ) × (slice_get ms i ≡ Some n) → (i : ℕ) × (slice_get (member_before t dev m ms) i ≡ Some n)
later true (Some d) m ms n at = (suc at.0, at.1)
later true None m ms n at = at
later false dev m ms n at = at

has_member : (which : LeafSeen → Bool) (p : Pool) (d : ℕ) → ((own : OwnLeaf) → which (leaf_seen true (told p) (At d true own)) ≡ true) → (seats : List Seat)
    → HasFound d seats → (i : ℕ) × (slice_get (members_where which (leaves_of p seats)) i ≡ Some (seat p d))
has_member which p d is [] has = absurd has
has_member which p d is (At e found own ∷ seats) (inl here) = subst Found (same_device d e here.0) (subst Here (sym here.1) first)
  where
    Here : Bool → Type 0
    Here f = (i : ℕ) × (slice_get (member_before (which (leaf_seen true (told p) (At d f own))) (dev_if f d) (p.guid d) (members_where which (leaves_of p seats))) i ≡ Some (seat p d))

    first : Here true
    first = subst (λ t. (i : ℕ) × (slice_get (member_before t (Some d) (p.guid d) (members_where which (leaves_of p seats))) i ≡ Some (seat p d))) (sym (is own)) (zero, refl)

    Found : ℕ → Type 0
    Found n = (i : ℕ) × (slice_get (member_before (which (leaf_seen true (told p) (At n found own))) (dev_if found n) (p.guid n) (members_where which (leaves_of p seats))) i ≡ Some (seat p d))
has_member which p d is (Adrift leaf ∷ seats) (inl here) = absurd here
has_member which p d is (At e found own ∷ seats) (inr has) =
    later (which (leaf_seen true (told p) (At e found own))) (dev_if found e) (p.guid e) (members_where which (leaves_of p seats)) (seat p d) (has_member which p d is seats has)
has_member which p d is (Adrift leaf ∷ seats) (inr has) =
    later (which leaf) leaf.dev leaf.guid (members_where which (leaves_of p seats)) (seat p d) (has_member which p d is seats has)

-- Members on devices of their own.
others_apart : (which : LeafSeen → Bool) (p : Pool) (d : ℕ) (seats : List Seat) → AllByRecursion IsAway seats → AllByRecursion (IsElsewhere d) seats
    → AllByRecursion (λ n. d ≢ n.dev) (members_where which (leaves_of p seats))
others_apart which p d [] away off = tt
others_apart which p d (At e found own ∷ seats) away off =
    before_all (AllByRecursion (λ n. d ≢ n.dev)) (which (leaf_seen true (told p) (At e found own))) (dev_if found e) (p.guid e) (members_where which (leaves_of p seats))
    (others_apart which p d seats away.1 off.1)
    (λ x is dev. (
      subst (λ n. d ≢ n) (dev_is found e x dev).1 (not_same d e off.0),
      others_apart which p d seats away.1 off.1,
    ))
others_apart which p d (Adrift leaf ∷ seats) away off =
    before_all (AllByRecursion (λ n. d ≢ n.dev)) (which leaf) leaf.dev leaf.guid (members_where which (leaves_of p seats))
    (others_apart which p d seats away.1 off.1) (λ x is dev. no_dev leaf.dev x away.0.0 dev)

apart_cons : (m : Member) (ms : List Member) → AllByRecursion (λ n. m.dev ≢ n.dev) ms → AreApart ms → AreApart (m ∷ ms)
apart_cons m ms others apart zero zero a b ea eb lt = absurd (omega (arith, lt))
apart_cons m ms others apart zero (suc j) a b ea eb lt = subst (λ x. x.dev ≢ b.dev) (let same : m ≡ a = cc in same)
    (all_at _ ms j b others eb)
apart_cons m ms others apart (suc i) zero a b ea eb lt = absurd (omega (arith, lt))
apart_cons m ms others apart (suc i) (suc j) a b ea eb lt = apart i j a b ea eb (omega (arith, lt))

members_apart : (which : LeafSeen → Bool) (p : Pool) (seats : List Seat) → AllByRecursion IsAway seats → AreSeatsApart seats → AreApart (members_where which (leaves_of p seats))
members_apart which p [] away apart = λ i j a b ea eb lt. absurd (cc)
members_apart which p (At d found own ∷ seats) away apart =
    before_all AreApart (which (leaf_seen true (told p) (At d found own))) (dev_if found d) (p.guid d) (members_where which (leaves_of p seats))
    (members_apart which p seats away.1 apart.1)
    (λ e is dev. apart_cons (record { dev = e; guid = p.guid d }) (members_where which (leaves_of p seats))
    (subst (λ n. AllByRecursion (λ m. n ≢ m.dev) (members_where which (leaves_of p seats))) (dev_is found d e dev).1 (others_apart which p d seats away.1 apart.0)) (members_apart which p seats away.1 apart.1))
members_apart which p (Adrift leaf ∷ seats) away apart =
    before_all AreApart (which leaf) leaf.dev leaf.guid (members_where which (leaves_of p seats)) (members_apart which p seats away.1 apart) (λ d is dev. no_dev leaf.dev d away.0.0 dev)

-- No leaf that the run has not found is at a member's device of such a list.
pub found_alone : (d : ℕ) (seats : List Seat) → AllByRecursion (IsElsewhere d) seats → AllByRecursion (IsOfFound (λ e. d == e)) seats
found_alone d [] off = tt
found_alone d (At e found own ∷ seats) off = ((λ un. off.0), found_alone d seats off.1)
found_alone d (Adrift leaf ∷ seats) off = (tt, found_alone d seats off.1)

with_head : (seats : List Seat) (d : ℕ) (found : Bool) (own : OwnLeaf) (ms : List Member) → AllByRecursion (λ n. d ≢ n.dev) ms
    → AllByRecursion (λ m. AllByRecursion (IsOfFound (λ e. m.dev == e)) seats) ms → AllByRecursion (λ m. AllByRecursion (IsOfFound (λ e. m.dev == e)) (At d found own ∷ seats)) ms
with_head seats d found own [] others all = tt
with_head seats d found own (m ∷ ms) others all = (((λ un. away others.0), all.0), with_head seats d found own ms others.1 all.1)
  where
    away : d ≢ m.dev → (m.dev == d) ≡ false
    away other = by_bool (m.dev == d) (λ same. absurd (other (sym (same_device m.dev d same)))) (λ off. off)

with_adrift : (seats : List Seat) (leaf : LeafSeen) (ms : List Member) → AllByRecursion (λ m. AllByRecursion (IsOfFound (λ e. m.dev == e)) seats) ms
    → AllByRecursion (λ m. AllByRecursion (IsOfFound (λ e. m.dev == e)) (Adrift leaf ∷ seats)) ms
with_adrift seats leaf [] all = tt
with_adrift seats leaf (m ∷ ms) all = ((tt, all.0), with_adrift seats leaf ms all.1)

members_found : (which : LeafSeen → Bool) (p : Pool) (seats : List Seat) → AllByRecursion IsAway seats → AreSeatsApart seats
    → AllByRecursion (λ m. AllByRecursion (IsOfFound (λ e. m.dev == e)) seats) (members_where which (leaves_of p seats))
members_found which p [] away apart = tt
members_found which p (At d found own ∷ seats) away apart =
    before_all (AllByRecursion (λ m. AllByRecursion (IsOfFound (λ e. m.dev == e)) (At d found own ∷ seats))) (which (leaf_seen true (told p) (At d found own))) (dev_if found d) (p.guid d)
    (members_where which (leaves_of p seats))
    (with_head seats d found own (members_where which (leaves_of p seats)) (others_apart which p d seats away.1 apart.0) (members_found which p seats away.1 apart.1))
    (λ e is dev. (
      ((λ un. true_not_false found (dev_is found d e dev).0 un), subst (λ n. AllByRecursion (IsOfFound (λ x. n == x)) seats) (dev_is found d e dev).1 (found_alone d seats apart.0)),
      with_head seats d found own (members_where which (leaves_of p seats)) (others_apart which p d seats away.1 apart.0) (members_found which p seats away.1 apart.1),
    ))
members_found which p (Adrift leaf ∷ seats) away apart =
    before_all (AllByRecursion (λ m. AllByRecursion (IsOfFound (λ e. m.dev == e)) (Adrift leaf ∷ seats))) (which leaf) leaf.dev leaf.guid (members_where which (leaves_of p seats))
    (with_adrift seats leaf (members_where which (leaves_of p seats)) (members_found which p seats away.1 apart)) (λ d is dev. no_dev leaf.dev d away.0.0 dev)

-- The state while a group is frozen.
frozen_of : (f : Bool) (s : PoolSeen) (t : Side) → s ≡ seen_by f t.pool.scan.running t.seats t.pool → s.group.frozen ≡ true → f ≡ true
frozen_of true s t core is = refl
frozen_of false s t core is = absurd (let no : false ≡ true = sym (ap (λ c. c.group.frozen) core) ∙ is in cc)

pub is_frozen : (c : Codec) (s : PoolState) (t : Side) → Kept c s t → s.core.group.frozen ≡ true → t.pool.group.frozen ≡ true
is_frozen c s t kept is = frozen_of t.pool.group.frozen s.core t kept.core is

pub seen_frozen : (c : Codec) (s : PoolState) (t : Side) → Kept c s t → t.pool.group.frozen ≡ true → s.core ≡ seen_by true t.pool.scan.running t.seats t.pool
seen_frozen c s t kept f = kept.core ∙ ap (λ x. seen_by x t.pool.scan.running t.seats t.pool) f

-- with the group's and the leaves' fields as the history has them
abbrev pub frozen_core : Side → PoolSeen
frozen_core t = seen_by true t.pool.scan.running t.seats t.pool

pub board_just : (c : Codec) (s : PoolState) (t : Side) → Kept c s t → t.pool.group.frozen ≡ true → AreJust t.pool (OnBoard t.pool) (board_of (frozen_core t).leaves)
board_just c s t kept f = record {
  seated = λ i m e is. all_at _ (board_of (leaves_of t.pool t.seats)) i m
      (members_are is_on t.pool (OnBoard t.pool) (λ d own on. on) t.seats kept.away) e;
  all = λ d is on. has_member is_on t.pool d (λ own. on) t.seats (kept.boarded f d is on);
}

pub board_apart : (c : Codec) (s : PoolState) (t : Side) → Kept c s t → AreApart (board_of (frozen_core t).leaves)
board_apart c s t kept = members_apart is_on t.pool t.seats kept.away kept.apart

pub board_found : (c : Codec) (s : PoolState) (t : Side) → Kept c s t → AllByRecursion (λ m. AllByRecursion (IsOfFound (λ e. m.dev == e)) t.seats) (board_of (frozen_core t).leaves)
board_found c s t kept = members_found is_on t.pool t.seats kept.away kept.apart

under_parts : (p : Pool) (top d : ℕ) → (p.group.board d && (p.in_top d == top)) ≡ true → OnTop p top d
under_parts p top d is = let parts = and_parts (p.group.board d) (p.in_top d == top) is in (parts.0, same_device (p.in_top d) top parts.1)

under_both : (p : Pool) (top d : ℕ) → OnTop p top d → (p.group.board d && (p.in_top d == top)) ≡ true
under_both p top d on = let a : p.group.board d ≡ true = on.0 in let b : (p.in_top d == top) ≡ true = there on.1 in rw (a, b) refl
  where
    there : p.in_top d ≡ top → (p.in_top d == top) ≡ true
    there e = grind (arith, nat_tests)

pub under_just : (c : Codec) (s : PoolState) (t : Side) (top : ℕ) → Kept c s t → t.pool.group.frozen ≡ true → AreJust t.pool (OnTop t.pool top) (board_under top (frozen_core t).leaves)
under_just c s t top kept f = record {
  seated = λ i m e is. all_at _ (board_under top (leaves_of t.pool t.seats)) i m
      (members_are (is_on_under top) t.pool (OnTop t.pool top) (λ d own on. under_parts t.pool top d on) t.seats kept.away) e;
  all = λ d is on. has_member (is_on_under top) t.pool d (λ own. under_both t.pool top d on) t.seats (kept.boarded f d is on.0);
}

pub under_apart : (c : Codec) (s : PoolState) (t : Side) (top : ℕ) → Kept c s t → AreApart (board_under top (frozen_core t).leaves)
under_apart c s t top kept = members_apart (is_on_under top) t.pool t.seats kept.away kept.apart

pub under_found : (c : Codec) (s : PoolState) (t : Side) (top : ℕ) → Kept c s t → AllByRecursion (λ m. AllByRecursion (IsOfFound (λ e. m.dev == e)) t.seats) (board_under top (frozen_core t).leaves)
under_found c s t top kept = members_found (is_on_under top) t.pool t.seats kept.away kept.apart
