-- The record that is drawn up by the leaves of a tree has each member as the history has it.
use Rattle.std.proofs.Common.{◌≡◌, ◌⊎◌, inl, inr, ⊎_elim, ℕ, ◌==◌, ◌&&◌, ◌||◌, Bool, true, false, cond, Some, None, List, [], ◌∷◌, map, refl, sym, ap, ◌∙◌, subst, arith}
use mathlib.Core.Path.{fun_ext}
use Rattle.std.specs.List.{AllByRecursion}
use Rattle.std.proofs.lemmas.Bool.{and_parts}
use Rattle.std.proofs.lemmas.Bool.Decides.{nat_tests}
use Rattle.sha2.specs.Sha256.{sha256}
use Rattle.mp_base.specs.declared.number.Guid.{Guid}
use Rattle.txg_history.specs.Moves.{IsLeafOf, HasBoard, IsDrawnUp}
use Rattle.txg_history.specs.Pages.{kept_top, kept_log, Codec, Sum, sum_of}
use Rattle.txg_history.specs.Pools.{Pool}
use Rattle.txg_history.specs.Records.{Cell, IsNoLeaf, key}
use Rattle.txg_history.proofs.Logging.{by_bool, same_device, not_true, true_not_false}
use Rattle.pool_moves.specs.Boards.{has_on, emptied_of, emptied}
use Rattle.pool_moves.specs.Drafts.{kept_leaf, top_in, owes_in, draft_of}
use Rattle.pool_moves.specs.Keeping.{IsElsewhere, IsAway, IsSeated, IsOwnNumber, HasFound, HasUnder, HasOtherNumber, KnowsJust, Kept}
use Rattle.pool_moves.specs.Leaves.{LeafSeen, Seat, At, Adrift}
use Rattle.pool_moves.specs.Making.{HasSeat}
use Rattle.pool_moves.specs.Moves.{Draft, rec_of}
use Rattle.pool_moves.specs.States.{PoolState, Side}
use Rattle.pool_moves.specs.TurnRows.{FitsState}
use Rattle.pool_moves.proofs.Boarding.{leaves_of, frozen_core}
use Rattle.pool_moves.proofs.Seeing.{laid_sum}

-- a seat at a device of the list
abbrev HasOwnSeat : List Seat → Seat → Type 0
HasOwnSeat seats (At d found own) = HasSeat d seats
HasOwnSeat seats (Adrift leaf) = Unit {0}

-- a leaf that a draft has under its top
abbrev pub HasDraftTop : Pool → Draft → Seat → Type 0
HasDraftTop p draft (At d found own) = draft.tops (p.guid d) ≡ p.in_top d
HasDraftTop p draft (Adrift leaf) = Unit {0}

seat_or : (d : ℕ) (seats : List Seat) → HasSeat d seats ⊎ AllByRecursion (IsElsewhere d) seats
seat_or d [] = inr tt
seat_or d (At e found own ∷ seats) = by_bool (d == e) (λ is. inl (inl is)) (λ off. ⊎_elim (λ has. inl (inr has)) (λ all. inr (off, all)) (seat_or d seats))
seat_or d (Adrift leaf ∷ seats) = ⊎_elim (λ has. inl has) (λ all. inr (tt, all)) (seat_or d seats)

found_seat : (d : ℕ) (seats : List Seat) → HasFound d seats → HasSeat d seats
found_seat d [] has = has
found_seat d (At e found own ∷ seats) (inl is) = inl is.0
found_seat d (Adrift leaf ∷ seats) (inl is) = absurd is
found_seat d (At e found own ∷ seats) (inr has) = inr (found_seat d seats has)
found_seat d (Adrift leaf ∷ seats) (inr has) = found_seat d seats has

no_seat : {A : Type 0} (d : ℕ) (seats : List Seat) → AllByRecursion (IsElsewhere d) seats → HasSeat d seats → A
no_seat d [] off has = absurd has
no_seat d (At e found own ∷ seats) off (inl is) = true_not_false (d == e) is off.0
no_seat d (At e found own ∷ seats) off (inr has) = no_seat d seats off.1 has
no_seat d (Adrift leaf ∷ seats) off has = no_seat d seats off.1 has

-- The leaf of a number, in the list and in the history.
same_number : (p : Pool) (d e : ℕ) → (d == e) ≡ true → ((p.guid e).0 == (p.guid d).0) ≡ true
same_number p d e is = subst (λ n. ((p.guid n).0 == (p.guid d).0) ≡ true) (same_device d e is) (let here : ((p.guid d).0 == (p.guid d).0) ≡ true = grind (arith, nat_tests) in here)

-- what is found first of a number that no other leaf has
first_of : {A : Type 0} (t u : Bool) (x rest is : A) (Seated : Type 0) → (t ≡ true → u ≡ true) → (t ≡ true → x ≡ is) → (Seated → rest ≡ is) → (t ≡ true) ⊎ (u ≡ false) → (t ≡ true) ⊎ Seated
    → cond u x rest ≡ is
first_of t u x rest is Seated same here more (inl a) has = ap (λ b. cond b x rest) (same a) ∙ here a
first_of t u x rest is Seated same here more (inr other) (inl a) = true_not_false u (same a) other
first_of t u x rest is Seated same here more (inr other) (inr later) = ap (λ b. cond b x rest) other ∙ more later

top_found : (p : Pool) (d : ℕ) (seats : List Seat) → AllByRecursion (IsOwnNumber p.guid d) seats → HasSeat d seats → top_in (leaves_of p seats) (p.guid d) ≡ p.in_top d
top_found p d [] own has = absurd has
top_found p d (At e found own ∷ seats) all has = first_of (d == e) ((p.guid e).0 == (p.guid d).0) (p.in_top e) (top_in (leaves_of p seats) (p.guid d)) (p.in_top d) (HasSeat d seats)
    (same_number p d e) (λ is. ap p.in_top (sym (same_device d e is))) (λ more. top_found p d seats all.1 more) all.0 has
top_found p d (Adrift leaf ∷ seats) all has = ap (λ t. cond t leaf.top (top_in (leaves_of p seats) (p.guid d))) all.0 ∙ top_found p d seats all.1 has

owes_found : (p : Pool) (d g : ℕ) (seats : List Seat) → AllByRecursion (IsOwnNumber p.guid d) seats → HasSeat d seats → owes_in (leaves_of p seats) (p.guid d) g ≡ p.owes d g
owes_found p d g [] own has = absurd has
owes_found p d g (At e found own ∷ seats) all has = first_of (d == e) ((p.guid e).0 == (p.guid d).0) (p.owes e g) (owes_in (leaves_of p seats) (p.guid d) g) (p.owes d g) (HasSeat d seats)
    (same_number p d e) (λ is. ap (λ n. p.owes n g) (sym (same_device d e is))) (λ more. owes_found p d g seats all.1 more) all.0 has
owes_found p d g (Adrift leaf ∷ seats) all has = ap (λ t. cond t (leaf.owes g) (owes_in (leaves_of p seats) (p.guid d) g)) all.0 ∙ owes_found p d g seats all.1 has

-- a member at no seat is none of the list's leaves
away_number : (t u : Bool) → (t ≡ true) ⊎ (u ≡ false) → t ≡ false → u ≡ false
away_number t u (inl is) off = true_not_false t is off
away_number t u (inr other) off = other

top_none : (p : Pool) (d : ℕ) (seats : List Seat) → AllByRecursion (IsOwnNumber p.guid d) seats → AllByRecursion (IsElsewhere d) seats → top_in (leaves_of p seats) (p.guid d) ≡ 0
top_none p d [] own off = refl
top_none p d (At e found own ∷ seats) all off =
    ap (λ t. cond t (p.in_top e) (top_in (leaves_of p seats) (p.guid d))) (away_number (d == e) ((p.guid e).0 == (p.guid d).0) all.0 off.0) ∙ top_none p d seats all.1 off.1
top_none p d (Adrift leaf ∷ seats) all off = ap (λ t. cond t leaf.top (top_in (leaves_of p seats) (p.guid d))) all.0 ∙ top_none p d seats all.1 off.1

owes_none : (p : Pool) (d g : ℕ) (seats : List Seat) → AllByRecursion (IsOwnNumber p.guid d) seats → AllByRecursion (IsElsewhere d) seats → owes_in (leaves_of p seats) (p.guid d) g ≡ true
owes_none p d g [] own off = refl
owes_none p d g (At e found own ∷ seats) all off =
    ap (λ t. cond t (p.owes e g) (owes_in (leaves_of p seats) (p.guid d) g)) (away_number (d == e) ((p.guid e).0 == (p.guid d).0) all.0 off.0) ∙ owes_none p d g seats all.1 off.1
owes_none p d g (Adrift leaf ∷ seats) all off = ap (λ t. cond t (leaf.owes g) (owes_in (leaves_of p seats) (p.guid d) g)) all.0 ∙ owes_none p d g seats all.1 off.1

-- Each top that a leaf stands under has one on the board, where none was found without.
on_board : (all leaves : List LeafSeen) → emptied_of all leaves ≡ None → AllByRecursion (λ leaf. has_on leaf.top all ≡ true) leaves
on_board all [] none = tt
on_board all (leaf ∷ leaves) none = by_bool (has_on leaf.top all)
    (λ is. (is, on_board all leaves (sym (ap (λ t. cond t (emptied_of all leaves) (Some leaf.top)) is) ∙ none)))
    (λ off. absurd (let no : Some leaf.top ≡ None = sym (ap (λ t. cond t (emptied_of all leaves) (Some leaf.top)) off) ∙ none in cc))

under_on : (p : Pool) (all : List LeafSeen) (top : ℕ) (seats : List Seat) → AllByRecursion (λ leaf. has_on leaf.top all ≡ true) (leaves_of p seats) → HasUnder p.in_top top seats → has_on top all ≡ true
under_on p all top [] on has = absurd has
under_on p all top (At d found own ∷ seats) on (inl is) = subst (λ n. has_on n all ≡ true) is on.0
under_on p all top (Adrift leaf ∷ seats) on (inl is) = subst (λ n. has_on n all ≡ true) is on.0
under_on p all top (At d found own ∷ seats) on (inr has) = under_on p all top seats on.1 has
under_on p all top (Adrift leaf ∷ seats) on (inr has) = under_on p all top seats on.1 has

some_on : (p : Pool) (top : ℕ) (seats : List Seat) → AllByRecursion IsAway seats → AllByRecursion (IsSeated p.member) seats → has_on top (leaves_of p seats) ≡ true → HasBoard p top
some_on p top [] away seated on = absurd (cc)
some_on p top (At d found own ∷ seats) away seated on = by_bool (p.group.board d && (p.in_top d == top))
    (λ is. let parts = and_parts (p.group.board d) (p.in_top d == top) is in record { d = d; is_member = seated.0; on_board = parts.0; top_is = same_device (p.in_top d) top parts.1 })
    (λ off. some_on p top seats away.1 seated.1 (sym (ap (λ t. t || has_on top (leaves_of p seats)) off) ∙ on))
some_on p top (Adrift leaf ∷ seats) away seated on =
    some_on p top seats away.1 seated.1 (sym (ap (λ t. (t && (leaf.top == top)) || has_on top (leaves_of p seats)) away.0.1) ∙ on)

-- what a record keeps of leaves has their tops and their logs
kept_tops : (leaves : List LeafSeen) (m : Guid) → kept_top (map kept_leaf leaves) m ≡ top_in leaves m
kept_tops [] m = refl
kept_tops (leaf ∷ leaves) m = ap (λ n. cond (leaf.guid.0 == m.0) leaf.top n) (kept_tops leaves m)

kept_logs : (leaves : List LeafSeen) (m : Guid) (g : ℕ) → kept_log (map kept_leaf leaves) m g ≡ owes_in leaves m g
kept_logs [] m g = refl
kept_logs (leaf ∷ leaves) m g = ap (λ b. cond (leaf.guid.0 == m.0) (leaf.owes g) b) (kept_logs leaves m g)

-- the sum of a cell
abbrev sum_of_cell : Cell → Sum
sum_of_cell cell = record { birth = cell.birth; top = cell.top; sector = cell.sector; sum = sha256 cell.block }

-- A draft by the leaves of the tree is a record that may be drawn up.
pub drawn_up : (c : Codec) (s : PoolState) (t : Side) (draft : Draft) → Kept c s t → t.pool.group.frozen ≡ true → t.pool.group.flushed ≡ true → t.pool.group.fresh ≡ true
    → emptied (frozen_core t).leaves ≡ None → draft ≡ draft_of draft.commit (frozen_core t).leaves → FitsState c (frozen_core t) draft → IsDrawnUp c t.pool (rec_of t.pool draft)
drawn_up c s t draft kept frozen flushed fresh none is fits = record {
  frozen = frozen;
  flushed = flushed;
  fresh = fresh;
  fits = record {
    pool_is = fits.pool_is;
    is_record = fits.is_record;
    name_is = fits.name_is;
    config = record {
      room_is = fits.room_is;
      inside = λ k cell is. fits.inside k (sum_of_cell cell) (sym (laid_sum (t.pool.group.cells k) (t.pool.reads.cells k)) ∙ ap sum_of is);
      root = fits.root ∙ sym (laid_sum (t.pool.group.cells (key 3 0)) (t.pool.reads.cells (key 3 0)));
      tops = ap kept_top fits.leaves_are ∙ (fun_ext (λ m. kept_tops (leaves_of t.pool t.seats) m) ∙ sym tops_are);
      owes = ap kept_log fits.leaves_are ∙ (fun_ext (λ m. fun_ext (λ g. kept_logs (leaves_of t.pool t.seats) m g)) ∙ sym owes_are);
    };
  };
  number_is = fits.number_is;
  cells_are = λ k. refl;
  leaves = λ d mine. ⊎_elim (λ has. inl (as_leaf d mine has)) (λ off. inr (as_none d mine off)) (seat_or d t.seats);
  boards = λ d mine one. some_on t.pool (t.pool.in_top d) t.seats kept.away kept.seated
      (under_on t.pool (leaves_of t.pool t.seats) (t.pool.in_top d) t.seats (on_board (leaves_of t.pool t.seats) (leaves_of t.pool t.seats) none) (kept.topped d mine one));
}
  where
    tops_are : draft.tops ≡ top_in (leaves_of t.pool t.seats)
    tops_are = ap (λ x. x.tops) is

    owes_are : draft.owes ≡ owes_in (leaves_of t.pool t.seats)
    owes_are = ap (λ x. x.owes) is

    as_leaf : (d : ℕ) → t.pool.member d ≡ true → HasSeat d t.seats → IsLeafOf t.pool (rec_of t.pool draft) d
    as_leaf d mine has = record {
      top_is = ap (λ f. f (t.pool.guid d)) tops_are ∙ top_found t.pool d t.seats (kept.numbered d mine) has;
      log_is = λ g. ap (λ f. f (t.pool.guid d) g) owes_are ∙ owes_found t.pool d g t.seats (kept.numbered d mine) has;
    }

    as_none : (d : ℕ) → t.pool.member d ≡ true → AllByRecursion (IsElsewhere d) t.seats → IsNoLeaf (rec_of t.pool draft) (t.pool.guid d) × (t.pool.group.board d ≡ false)
    as_none d mine off = (
      record {
        no_top = ap (λ f. f (t.pool.guid d)) tops_are ∙ top_none t.pool d t.seats (kept.numbered d mine) off;
        all = λ g. ap (λ f. f (t.pool.guid d) g) owes_are ∙ owes_none t.pool d g t.seats (kept.numbered d mine) off;
      },
      not_true (t.pool.group.board d) (λ on. no_seat d t.seats off (found_seat d t.seats (kept.boarded frozen d mine on))),
    )

-- and it has each leaf of the list under its top
seats_in : (seats : List Seat) (more : List Seat) → ((d : ℕ) → HasSeat d more → HasSeat d seats) → AllByRecursion (HasOwnSeat seats) more
seats_in seats [] up = tt
seats_in seats (At d found own ∷ more) up = (up d (inl (let here : (d == d) ≡ true = grind (arith, nat_tests) in here)), seats_in seats more (λ e has. up e (inr has)))
seats_in seats (Adrift leaf ∷ more) up = (tt, seats_in seats more up)

tops_drafted : (p : Pool) (draft : Draft) (all seats : List Seat) → draft.tops ≡ top_in (leaves_of p all) → ((d : ℕ) → p.member d ≡ true → AllByRecursion (IsOwnNumber p.guid d) all)
    → AllByRecursion (IsSeated p.member) seats → AllByRecursion (HasOwnSeat all) seats → AllByRecursion (HasDraftTop p draft) seats
tops_drafted p draft all [] is own seated mine = tt
tops_drafted p draft all (At d found own' ∷ seats) is own seated mine =
    (ap (λ f. f (p.guid d)) is ∙ top_found p d all (own d seated.0) mine.0, tops_drafted p draft all seats is own seated.1 mine.1)
tops_drafted p draft all (Adrift leaf ∷ seats) is own seated mine = (tt, tops_drafted p draft all seats is own seated.1 mine.1)

pub draft_tops : (c : Codec) (s : PoolState) (t : Side) (draft : Draft) → Kept c s t → draft ≡ draft_of draft.commit (frozen_core t).leaves → AllByRecursion (HasDraftTop t.pool draft) t.seats
draft_tops c s t draft kept is = tops_drafted t.pool draft t.seats t.seats (ap (λ x. x.tops) is) kept.numbered kept.seated (seats_in t.seats t.seats (λ d has. has))

-- It knows no leaf of another number than those of the list.
top_other : (p : Pool) (m : Guid) (seats : List Seat) → AllByRecursion (HasOtherNumber p.guid m) seats → top_in (leaves_of p seats) m ≡ 0
top_other p m [] others = refl
top_other p m (At d found own ∷ seats) others = ap (λ t. cond t (p.in_top d) (top_in (leaves_of p seats) m)) others.0 ∙ top_other p m seats others.1
top_other p m (Adrift leaf ∷ seats) others = ap (λ t. cond t leaf.top (top_in (leaves_of p seats) m)) others.0 ∙ top_other p m seats others.1

owes_other : (p : Pool) (m : Guid) (g : ℕ) (seats : List Seat) → AllByRecursion (HasOtherNumber p.guid m) seats → owes_in (leaves_of p seats) m g ≡ true
owes_other p m g [] others = refl
owes_other p m g (At d found own ∷ seats) others = ap (λ t. cond t (p.owes d g) (owes_in (leaves_of p seats) m g)) others.0 ∙ owes_other p m g seats others.1
owes_other p m g (Adrift leaf ∷ seats) others = ap (λ t. cond t (leaf.owes g) (owes_in (leaves_of p seats) m g)) others.0 ∙ owes_other p m g seats others.1

pub draft_knows : (p : Pool) (draft : Draft) (seats : List Seat) → draft ≡ draft_of draft.commit (leaves_of p seats) → KnowsJust p.guid seats draft
draft_knows p draft seats is m others =
    (ap (λ x. x.tops m) is ∙ top_other p m seats others, λ g. ap (λ x. x.owes m g) is ∙ owes_other p m g seats others)
