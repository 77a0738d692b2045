-- Seats of leaves, and boards.
use Rattle.std.proofs.Common.{◌≡◌, ℕ, zero, suc, ◌+◌, ◌-◌, ◌^◌, ◌<◌, ◌≤◌, min, cond, true, false, List, [], ◌∷◌, ◌++◌, length, get_or, take, drop, Option, Some, None, sym, ap, ◌∙◌, arith, append_assoc, length-append}
use Rattle.std.specs.Prelude.{slice_get}
use Rattle.std.specs.List.{filter_map, cons_option}
use Rattle.std.proofs.lemmas.List.{take_more, drop_more}
use Rattle.std.proofs.lemmas.List.Elements.{filter_map-append}
use Rattle.std.proofs.lemmas.Option.{none-some, same_Some}
use Rattle.vdev_tree.specs.Tree.{leaves}
use Rattle.vdev_tree.specs.declared.top.Top.{Top}
use Rattle.vdev_tree.specs.declared.vdev.LeafVdev.{LeafVdev}
use Rattle.dtl_rules.specs.Widening.{leaves_of}
use Rattle.txg_engine.specs.declared.seat.Seat.{Seat}
use Rattle.txg_engine.specs.Boards.{seat_of, seats_of, has_on, emptied_from, faults_under}

module _ {X : Type 0} where
  pub got_inside : (xs : List X) (i : ℕ) (x : X) → slice_get xs i ≡ Some x → i < length xs
  got_inside [] i x e = absurd (none-some x e)
  got_inside (y ∷ xs) zero x e = omega arith
  got_inside (y ∷ xs) (suc i) x e = let inside = got_inside xs i x e in omega arith

  pub got_none : (xs : List X) (i : ℕ) → slice_get xs i ≡ None → length xs ≤ i
  got_none [] i e = omega arith
  got_none (y ∷ xs) zero e = absurd (none-some y (sym e))
  got_none (y ∷ xs) (suc i) e = let past = got_none xs i e in omega arith

  pub got_there : (xs : List X) (i : ℕ) (x d : X) → slice_get xs i ≡ Some x → get_or xs i d ≡ x
  got_there [] i x d e = absurd (none-some x e)
  got_there (y ∷ xs) zero x d e = same_Some y x e
  got_there (y ∷ xs) (suc i) x d e = got_there xs i x d e

-- one leaf more has its seat
pub seat_more : (number place : ℕ) (ls : List LeafVdev) (leaf : LeafVdev) (before now after : List Seat) → slice_get ls place ≡ Some leaf
    → now ≡ before ++ filter_map (seat_of number) (take place ls) → after ≡ now ++ filter_map (seat_of number) (leaf ∷ [])
    → after ≡ before ++ filter_map (seat_of number) (take (place + 1) ls)
seat_more number place ls leaf before now after at is is' =
    let next : take (place + 1) ls ≡ take place ls ++ leaf ∷ [] =
    take_more ls place leaf (got_inside ls place leaf at) ∙ ap (λ l. take place ls ++ l ∷ []) (got_there ls place leaf leaf at) in
    is' ∙ ap (λ l. l ++ filter_map (seat_of number) (leaf ∷ [])) is ∙ append_assoc before (filter_map (seat_of number) (take place ls)) (filter_map (seat_of number) (leaf ∷ []))
    ∙ ap (λ l. before ++ l) (sym (filter_map-append (seat_of number) (take place ls) (leaf ∷ [])) ∙ ap (filter_map (seat_of number)) (sym next))

-- one top more has its leaves' seats
pub seats_more : (tops : List Top) (i : ℕ) (d : Top) (now after all : List Seat) → i < length tops → now ++ seats_of i (drop i tops) ≡ all
    → after ≡ now ++ filter_map (seat_of i) (leaves (get_or tops i d).mirror) → after ++ seats_of (i + 1) (drop (i + 1) tops) ≡ all
seats_more tops i d now after all inside is is' =
    ap (λ l. l ++ seats_of (i + 1) (drop (i + 1) tops)) is'
    ∙ append_assoc now (filter_map (seat_of i) (leaves (get_or tops i d).mirror)) (seats_of (i + 1) (drop (i + 1) tops))
    ∙ ap (λ l. now ++ seats_of i l) (sym (drop_more tops i d inside)) ∙ is

leaves_of_one : (tops : List Top) (i : ℕ) (d : Top) → i < length tops → length (leaves (get_or tops i d).mirror) ≤ length (leaves_of tops)
leaves_of_one [] i d inside = absurd (omega arith)
leaves_of_one (top ∷ tops) zero d inside = omega (arith, length-append (leaves top.mirror) (leaves_of tops))
leaves_of_one (top ∷ tops) (suc i) d inside = omega (arith, length-append (leaves top.mirror) (leaves_of tops), leaves_of_one tops i d (omega arith))

pub few_leaves : (tops : List Top) (i : ℕ) (d : Top) → i < length tops → length (leaves_of tops) ≤ 32 → length (leaves (get_or tops i d).mirror) ≤ 32
few_leaves tops i d inside few = omega (arith, leaves_of_one tops i d inside)

length-one_more : {Y : Type 0} (o : Option Y) (ys : List Y) → length (cons_option o ys) ≤ length ys + 1
length-one_more None ys = omega arith
length-one_more (Some y) ys = omega arith

length-filter_map : {X Y : Type 0} (f : X → Option Y) (xs : List X) → length (filter_map f xs) ≤ length xs
length-filter_map f [] = omega arith
length-filter_map f (x ∷ xs) = omega (arith, length-one_more (f x) (filter_map f xs), length-filter_map f xs)

length-seats : (first : ℕ) (tops : List Top) → length (seats_of first tops) ≤ length (leaves_of tops)
length-seats first [] = omega arith
length-seats first (top ∷ tops) =
    omega (
      arith,
      length-append (leaves top.mirror) (leaves_of tops),
      length-append (filter_map (seat_of first) (leaves top.mirror)) (seats_of (first + 1) tops),
      length-filter_map (seat_of first) (leaves top.mirror),
      length-seats (first + 1) tops,
    )

-- there are no more seats than leaves
pub few_seats : (tops : List Top) (seats : List Seat) → seats ≡ seats_of 0 tops → length (leaves_of tops) ≤ 32 → length seats ≤ 32
few_seats tops seats is few = omega (arith, ap length is, length-seats 0 tops)

-- a top is looked at
pub emptied_here : (top tops : ℕ) (seats : List Seat) → top < tops → has_on top seats ≡ false → emptied_from top (tops - top) seats ≡ Some top
emptied_here top tops seats inside none =
    let more : tops - top ≡ suc (tops - (top + 1)) = omega arith in
    ap (λ n. emptied_from top n seats) more ∙ ap (λ b. cond b (emptied_from (top + 1) (tops - (top + 1)) seats) (Some top)) none

pub emptied_on : (top tops : ℕ) (seats : List Seat) → top < tops → has_on top seats ≡ true → emptied_from (top + 1) (tops - (top + 1)) seats ≡ emptied_from top (tops - top) seats
emptied_on top tops seats inside some =
    let more : tops - top ≡ suc (tops - (top + 1)) = omega arith in
    sym (ap (λ n. emptied_from top n seats) more ∙ ap (λ b. cond b (emptied_from (top + 1) (tops - (top + 1)) seats) (Some top)) some)

faults-append : (top : ℕ) (xs ys : List Seat) → faults_under top (xs ++ ys) ≡ faults_under top xs + faults_under top ys
faults-append top [] ys = omega arith
faults-append top (x ∷ xs) ys = let rest = faults-append top xs ys in omega arith

capped : (most a b : ℕ) → min most (min most a + b) ≡ min most (a + b)
capped most a b = omega arith

-- one seat more is counted
pub faults_more : (top i : ℕ) (seats : List Seat) (d : Seat) (faults : ℕ) → i < length seats → faults ≡ min (2 ^ 64 - 1) (faults_under top (take i seats))
    → min (2 ^ 64 - 1) (faults + faults_under top (get_or seats i d ∷ [])) ≡ min (2 ^ 64 - 1) (faults_under top (take (i + 1) seats))
faults_more top i seats d faults inside is =
    ap (λ n. min (2 ^ 64 - 1) (n + faults_under top (get_or seats i d ∷ []))) is
    ∙ capped (2 ^ 64 - 1) (faults_under top (take i seats)) (faults_under top (get_or seats i d ∷ []))
    ∙ ap (min (2 ^ 64 - 1)) (sym (faults-append top (take i seats) (get_or seats i d ∷ [])) ∙ ap (faults_under top) (sym (take_more seats i d inside)))
