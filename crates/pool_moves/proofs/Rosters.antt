-- A pool's members stand on a list, from its beginning on and behind each event.
use Rattle.std.proofs.Common.{◌≡◌, ◌⊎◌, inl, inr, ⊎_elim, ℕ, ◌==◌, ◌&&◌, true, false, cond, Some, None, List, [], ◌∷◌, map, sym, ap, ◌∙◌, subst, arith}
use Rattle.std.proofs.lemmas.Bool.{and_parts, and_from}
use Rattle.std.proofs.lemmas.Bool.Decides.{nat_tests}
use Rattle.mp_base.specs.declared.number.Guid.{Guid}
use Rattle.txg_history.specs.Events.{Event, Joins, Loses}
use Rattle.txg_history.specs.Groups.{at_device}
use Rattle.txg_history.specs.Numbering.{renumbered}
use Rattle.txg_history.specs.Pools.{Pool, after, pool_after, other_than}
use Rattle.txg_history.proofs.Folding.{taken_false}
use Rattle.txg_history.proofs.Logging.{by_bool, same_device, true_not_false}
use Rattle.pool_moves.specs.Leaves.{Seat, At, Adrift}
use Rattle.pool_moves.specs.Making.{HasSeat, IsMade}
use Rattle.pool_moves.specs.Rosters.{IsListed, IsRoster, roster_by, roster_after, devices_of, member_of}
use Rattle.pool_moves.specs.States.{PoolState, Side}
use Rattle.pool_moves.proofs.Tests.{here, same_back, some_same}

seat_listed : (d : ℕ) (seats : List Seat) → HasSeat d seats → IsListed d (devices_of seats)
seat_listed d [] has = has
seat_listed d (At e found own ∷ seats) (inl is) = inl is
seat_listed d (At e found own ∷ seats) (inr has) = inr (seat_listed d seats has)
seat_listed d (Adrift leaf ∷ seats) has = seat_listed d seats has

pub made_roster : (s : PoolState) (t : Side) → IsMade s t → IsRoster t.pool (devices_of t.seats)
made_roster s t made = subst (λ p. IsRoster p (devices_of t.seats)) (sym made.is) (record {
  all = λ d is. seat_listed d t.seats (made.each d is);
  numbers = λ d e mine others same. same_back e d (made.numbers d e mine others same);
})

-- Behind a device that comes in.
was_or_new : (d e : ℕ) (m : Guid) (p : Pool) → (after (Joins d m 0) p).member e ≡ true
    → ((d == e) ≡ true) ⊎ (((d == e) ≡ false) × (p.member e ≡ true) × (((p.guid e).0 == m.0) ≡ false))
was_or_new d e m p is = by_bool (d == e) (λ here. inl here)
    (λ away. let was = still (sym (ap (λ t. cond t true (other_than m p.guid p.member e)) away) ∙ is) in inr (away, was.0, was.1))
  where
    still : other_than m p.guid p.member e ≡ true → (p.member e ≡ true) × (((p.guid e).0 == m.0) ≡ false)
    still is = by_bool ((p.guid e).0 == m.0) (λ same. absurd (let no : false ≡ true = sym (ap (λ t. cond t false (p.member e)) same) ∙ is in cc))
        (λ other. (sym (ap (λ t. cond t false (p.member e)) other) ∙ is, other))

joins_roster : (d : ℕ) (m : Guid) (top : ℕ) (p : Pool) (devs : List ℕ) → IsRoster p devs → IsRoster (after (Joins d m top) p) (d ∷ devs)
joins_roster d m top p devs ros = record {
  all = λ e is. all e (was_or_new d e m p is);
  numbers = λ a b mine others same. both a b (was_or_new d a m p mine) (was_or_new d b m p others) same;
}
  where
    across : (a b : ℕ) → (d == a) ≡ true → (d == b) ≡ true → (a == b) ≡ true
    across a b x y = grind (arith, nat_tests)

    all : (e : ℕ) → ((d == e) ≡ true) ⊎ (((d == e) ≡ false) × (p.member e ≡ true) × (((p.guid e).0 == m.0) ≡ false)) → IsListed e (d ∷ devs)
    all e (inl here) = inl (same_back d e here)
    all e (inr was) = inr (ros.all e was.1)

    new_guid : (a : ℕ) → (d == a) ≡ true → at_device d m p.guid a ≡ m
    new_guid a here = ap (λ t. cond t m (p.guid a)) here

    old_guid : (a : ℕ) → (d == a) ≡ false → at_device d m p.guid a ≡ p.guid a
    old_guid a away = ap (λ t. cond t m (p.guid a)) away

    clash : (g h : Guid) (n k : Guid) → n ≡ g → k ≡ h → (n.0 == k.0) ≡ true → (g.0 == h.0) ≡ true
    clash g h n k a b is = subst (λ x. (x.0 == h.0) ≡ true) a (subst (λ y. (n.0 == y.0) ≡ true) b is)

    flip : (g h : Guid) → (g.0 == h.0) ≡ true → (h.0 == g.0) ≡ true
    flip g h is = grind (arith, nat_tests)

    both : (a b : ℕ) → ((d == a) ≡ true) ⊎ (((d == a) ≡ false) × (p.member a ≡ true) × (((p.guid a).0 == m.0) ≡ false))
        → ((d == b) ≡ true) ⊎ (((d == b) ≡ false) × (p.member b ≡ true) × (((p.guid b).0 == m.0) ≡ false))
        → ((at_device d m p.guid a).0 == (at_device d m p.guid b).0) ≡ true → (a == b) ≡ true
    both a b (inl x) (inl y) same = across a b x y
    both a b (inl x) (inr y) same = true_not_false ((p.guid b).0 == m.0)
        (flip m (p.guid b) (clash m (p.guid b) (at_device d m p.guid a) (at_device d m p.guid b) (new_guid a x) (old_guid b y.0) same)) y.2
    both a b (inr x) (inl y) same = true_not_false ((p.guid a).0 == m.0)
        (clash (p.guid a) m (at_device d m p.guid a) (at_device d m p.guid b) (old_guid a x.0) (new_guid b y) same) x.2
    both a b (inr x) (inr y) same = ros.numbers a b x.1 y.1
        (clash (p.guid a) (p.guid b) (at_device d m p.guid a) (at_device d m p.guid b) (old_guid a x.0) (old_guid b y.0) same)

event_roster : (v : Event) (p : Pool) (devs : List ℕ) → IsRoster p devs → IsRoster (after v p) (roster_by v devs)
event_roster (Joins d m top) p devs ros = joins_roster d m top p devs ros
event_roster (Loses d) p devs ros = record {
  all = λ e is. ros.all e (taken_false d e p.member is);
  numbers = λ a b mine others same. ros.numbers a b (taken_false d a p.member mine) (taken_false d b p.member others) same;
}
event_roster v p devs ros = record { all = ros.all; numbers = ros.numbers }

pub roster_goes_on : (vs : List Event) (p : Pool) (devs : List ℕ) → IsRoster p devs → IsRoster (pool_after vs p) (roster_after vs devs)
roster_goes_on [] p devs ros = ros
roster_goes_on (v ∷ vs) p devs ros = roster_goes_on vs (after v p) (roster_by v devs) (event_roster v p devs ros)

-- Under other numbers.
listed_map : (now : ℕ → ℕ) (d : ℕ) (devs : List ℕ) → IsListed d devs → IsListed (now d) (map now devs)
listed_map now d [] is = is
listed_map now d (e ∷ devs) (inl same) = inl
    (subst (λ x. (now d == now x) ≡ true) (same_device d e same) (here (now d)))
listed_map now d (e ∷ devs) (inr more) = inr (listed_map now d devs more)

pub roster_anew : (p : Pool) (was now : ℕ → ℕ) (devs : List ℕ) → IsRoster p devs → ((d : ℕ) → p.member (was d) ≡ true → now (was d) ≡ d)
    → IsRoster (renumbered was p) (map now devs)
roster_anew p was now devs ros back = record {
  all = λ d is. subst (λ x. IsListed x (map now devs)) (back d is) (listed_map now (was d) devs (ros.all (was d) is));
  numbers = λ a b mine others same. let one = same_device (was a) (was b)
      (ros.numbers (was a) (was b) mine others same) in
      let is : a ≡ b = sym (back a mine) ∙ (ap now one ∙ back b others) in subst (λ x. (a == x) ≡ true) is (here a);
}

-- The member of a number is found on the list, or there is none.
pub found_member : (p : Pool) (devs : List ℕ) (m : Guid) (d : ℕ) → member_of p devs m ≡ Some d → (p.member d ≡ true) × (((p.guid d).0 == m.0) ≡ true)
found_member p [] m d is = absurd (cc)
found_member p (e ∷ devs) m d is = by_bool (p.member e && ((p.guid e).0 == m.0))
    (λ yes. let same = some_same e d (sym (ap (λ t. cond t (Some e) (member_of p devs m)) yes) ∙ is) in
    let parts = and_parts (p.member e) ((p.guid e).0 == m.0) yes in subst (λ x. (p.member x ≡ true) × (((p.guid x).0 == m.0) ≡ true)) same (parts.0, parts.1))
    (λ off. found_member p devs m d (sym (ap (λ t. cond t (Some e) (member_of p devs m)) off) ∙ is))

not_on : (p : Pool) (devs : List ℕ) (m : Guid) (d : ℕ) → member_of p devs m ≡ None → IsListed d devs → p.member d ≡ true → ((p.guid d).0 == m.0) ≡ true → ⊥
not_on p [] m d none listed mine same = listed
not_on p (e ∷ devs) m d none listed mine same = by_bool (p.member e && ((p.guid e).0 == m.0))
    (λ yes. absurd (let no : Some e ≡ None = sym (ap (λ t. cond t (Some e) (member_of p devs m)) yes) ∙ none in cc))
    (λ off. ⊎_elim (λ here. true_not_false (p.member e && ((p.guid e).0 == m.0))
    (subst (λ x. (p.member x && ((p.guid x).0 == m.0)) ≡ true) (same_device d e here)
    (and_from (p.member d) ((p.guid d).0 == m.0) mine same)) off)
    (λ more. not_on p devs m d (sym (ap (λ t. cond t (Some e) (member_of p devs m)) off) ∙ none) more mine same) listed)

pub no_member : (p : Pool) (devs : List ℕ) (m : Guid) → IsRoster p devs → member_of p devs m ≡ None → (d : ℕ) → p.member d ≡ true
    → ((p.guid d).0 == m.0) ≡ false
no_member p devs m ros none d mine = by_bool ((p.guid d).0 == m.0) (λ same. absurd (not_on p devs m d none (ros.all d mine) mine same)) (λ other. other)
