-- A pool that was just made is kept.
use Rattle.std.proofs.Common.{◌≡◌, inl, inr, ℕ, ◌≤◌, ◌==◌, Bool, true, false, cond, List, [], ◌∷◌, sym, ap, ◌∙◌, subst}
use Rattle.std.specs.List.{AllByRecursion}
use Rattle.mp_base.specs.declared.number.Guid.{Guid}
use Rattle.txg_history.specs.Pages.{Codec}
use Rattle.txg_history.specs.Records.{block_in, nothing}
use Rattle.txg_history.specs.Survival.{Survives}
use Rattle.txg_history.proofs.Logging.{by_bool, same_device}
use Rattle.txg_history.proofs.Stamping.{stamped_survives}
use Rattle.pool_moves.specs.Keeping.{IsSeated, IsAway, IsOwnNumber, HasUnder, AreNumbered, over, Kept}
use Rattle.pool_moves.specs.Leaves.{Seat, At, Adrift}
use Rattle.pool_moves.specs.Making.{HasSeat, IsHere, IsMade}
use Rattle.pool_moves.specs.States.{PoolState, Side}
use Rattle.pool_moves.proofs.Lists.{each}

here_away : (seat : Seat) → IsHere seat → IsAway seat
here_away (At d found own) is = tt
here_away (Adrift leaf) is = absurd is

own_number : (member : ℕ → Bool) (guid : ℕ → Guid) → ((d e : ℕ) → member d ≡ true → member e ≡ true → ((guid d).0 == (guid e).0) ≡ true → (e == d) ≡ true) → (d : ℕ) → member d ≡ true
    → (seats : List Seat) → AllByRecursion (IsSeated member) seats → AllByRecursion IsHere seats → AllByRecursion (IsOwnNumber guid d) seats
own_number member guid numbers d mine [] seated here = tt
own_number member guid numbers d mine (At e found own ∷ seats) seated here =
    (by_bool ((guid e).0 == (guid d).0) (λ same. inl (numbers e d seated.0 mine same)) (λ other. inr other), own_number member guid numbers d mine seats seated.1 here.1)
own_number member guid numbers d mine (Adrift leaf ∷ seats) seated here = absurd here.0

under_seat : (home : ℕ → ℕ) (d : ℕ) (seats : List Seat) → HasSeat d seats → HasUnder home (home d) seats
under_seat home d [] has = has
under_seat home d (At e found own ∷ seats) (inl is) = inl (ap home (sym (same_device d e is)))
under_seat home d (At e found own ∷ seats) (inr has) = inr (under_seat home d seats has)
under_seat home d (Adrift leaf ∷ seats) has = inr (under_seat home d seats has)

pub made_kept : (c : Codec) (s : PoolState) (t : Side) → IsMade s t → Kept c s t
made_kept c s t made = record {
  core = made.core;
  apart = made.apart;
  seated = subst (λ p. AllByRecursion (IsSeated p.member) t.seats) (sym made.is) made.seated;
  away = each here_away t.seats made.here;
  numbered = subst (λ p. (d : ℕ) → p.member d ≡ true → AllByRecursion (IsOwnNumber p.guid d) t.seats) (sym made.is)
      (λ d mine. own_number made.member made.guid made.numbers d mine t.seats made.seated made.here);
  boarded = λ f. absurd (let no : false ≡ true = sym (ap (λ p. p.group.frozen) made.is) ∙ f in cc);
  topped = subst (λ p. (d : ℕ) → p.member d ≡ true → 1 ≤ p.in_top d → HasUnder p.in_top (p.in_top d) t.seats) (sym made.is)
      (λ d mine one. under_seat made.home d t.seats (made.each d mine));
  numbers = subst (λ p. AreNumbered s.own.next_member p.guid p.opened p.live p.group.frozen p.group.begun t.seats) (sym made.is) (record {
    below = made.below;
    known = λ on. absurd (let no : false ≡ true = on in cc);
    newest = λ f. absurd (let no : false ≡ true = f in cc);
  });
  written = λ a. subst (λ p. p.written a ≡ over (s.own.writes a) (cond p.group.frozen (p.group.content a) (block_in p.reads.cells a))) (sym made.is)
      (ap (λ w. over w (block_in (nothing made.pool).cells a)) (sym (made.unwritten a)));
  survives = subst (Survives c) (sym made.is) (stamped_survives c made.name made.pool made.member made.guid made.size made.room made.home made.sectors made.stamps);
}
