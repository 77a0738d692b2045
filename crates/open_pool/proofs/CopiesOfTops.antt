-- The copies on the leaves of a top are those that a pool's state has under it.
use Rattle.std.proofs.Common.{◌≡◌, ◌≢◌, ℕ, zero, suc, ◌+◌, ◌≤◌, ◌<◌, ◌==◌, true, false, List, [], ◌∷◌, ◌++◌, map, length, take, Some, refl, sym, ap, ap₂, ◌∙◌, arith, append-nil}
use Rattle.std.specs.Prelude.{slice_get}
use Rattle.std.specs.List.{filter}
use Rattle.std.proofs.lemmas.Bool.Decides.{nat_tests}
use Rattle.std.proofs.lemmas.List.{take_more, take_all, map-append}
use Rattle.std.proofs.lemmas.List.Elements.{filter-append}
use Rattle.std.proofs.lemmas.Option.{none-some, same_Some}
use Rattle.vdev_tree.specs.declared.vdev.LeafVdev.{LeafVdev}
use Rattle.mirror_io.specs.declared.copies.CopyOf.{CopyOf}
use Rattle.txg_history.specs.Pages.{Sum}
use Rattle.txg_engine.specs.declared.seat.Seat.{Seat}
use Rattle.txg_engine.proofs.Seating.{got_inside, got_there}
use Rattle.pool_moves.specs.ReadRow.{copy_of, copies_of, stands_under}
use Rattle.open_pool.specs.Copies.{copy_on, copies_on}
use Rattle.open_pool.specs.State.{leaf_of, leaves_from}

-- one leaf more
pub copies_more : (birth place : ℕ) (under : List LeafVdev) (leaf : LeafVdev) (now after : List CopyOf) → slice_get under place ≡ Some leaf
    → now ≡ copies_on birth (take place under) → after ≡ now ++ copy_on birth leaf ∷ [] → after ≡ copies_on birth (take (place + 1) under)
copies_more birth place under leaf now after at is is' =
    is' ∙ ap (λ l. l ++ copy_on birth leaf ∷ []) is ∙ sym (map-append (copy_on birth) (take place under) (leaf ∷ []))
    ∙ ap (map (copy_on birth)) (sym (take_more under place leaf (got_inside under place leaf at) ∙ ap (λ l. take place under ++ l ∷ []) (got_there under place leaf leaf at)))

-- Of the leaves of tops, those under one.
same_top : (top : ℕ) → (top == top) ≡ true
same_top top = grind (arith, nat_tests)

other_top : (a b : ℕ) → a ≢ b → (a == b) ≡ false
other_top a b ne = grind (arith, nat_tests)

all_under : (seats : List Seat) (top : ℕ) (under : List LeafVdev) → filter (stands_under top) (map (leaf_of seats top) under) ≡ map (leaf_of seats top) under
all_under seats top [] = refl
all_under seats top (leaf ∷ under) = rw (same_top top) (ap (λ l. leaf_of seats top leaf ∷ l) (all_under seats top under))

none_under : (seats : List Seat) (top other : ℕ) (under : List LeafVdev) → other ≢ top → filter (stands_under top) (map (leaf_of seats other) under) ≡ []
none_under seats top other [] ne = refl
none_under seats top other (leaf ∷ under) ne = rw (other_top other top ne) (none_under seats top other under ne)

none_behind : (seats : List Seat) (top first : ℕ) (tops : List (List LeafVdev)) → top < first → filter (stands_under top) (leaves_from seats first tops) ≡ []
none_behind seats top first [] lt = refl
none_behind seats top first (under ∷ tops) lt =
    filter-append (stands_under top) (map (leaf_of seats first) under) (leaves_from seats (suc first) tops)
    ∙ ap₂ (λ a b. a ++ b) (none_under seats top first under (λ e. omega (arith, lt, e))) (none_behind seats top (suc first) tops (omega (arith, lt)))

pub under_one : (seats : List Seat) (first place top : ℕ) (tops : List (List LeafVdev)) (under : List LeafVdev) → place + first ≡ top
    → slice_get tops place ≡ Some under → filter (stands_under top) (leaves_from seats first tops) ≡ map (leaf_of seats top) under
under_one seats first place top [] under is at = absurd (none-some under at)
under_one seats first zero top (here ∷ tops) under is at =
    let here_is : first ≡ top = omega (arith, is) in
    ap (λ n. filter (stands_under top) (leaves_from seats n (here ∷ tops))) here_is
    ∙ filter-append (stands_under top) (map (leaf_of seats top) here) (leaves_from seats (suc top) tops)
    ∙ ap₂ (λ a b. a ++ b) (all_under seats top here) (none_behind seats top (suc top) tops (omega arith)) ∙ append-nil (map (leaf_of seats top) here)
    ∙ ap (map (leaf_of seats top)) (same_Some here under at)
under_one seats first (suc place) top (here ∷ tops) under is at =
    filter-append (stands_under top) (map (leaf_of seats first) here) (leaves_from seats (suc first) tops)
    ∙ ap (λ l. l ++ filter (stands_under top) (leaves_from seats (suc first) tops)) (none_under seats top first here (λ e. omega (arith, is, e)))
    ∙ under_one seats (suc first) place top tops under (omega (arith, is)) at

copies_seen : (seats : List Seat) (birth top : ℕ) (under : List LeafVdev) → copies_on birth under ≡ map (copy_of birth) (map (leaf_of seats top) under)
copies_seen seats birth top [] = refl
copies_seen seats birth top (leaf ∷ under) = ap (λ l. copy_on birth leaf ∷ l) (copies_seen seats birth top under)

pub copies_under : (seats : List Seat) (tops : List (List LeafVdev)) (under : List LeafVdev) (place birth : ℕ) (sum : Sum) → slice_get tops place ≡ Some under
    → sum.top ≡ suc place → sum.birth ≡ birth → copies_on birth under ≡ copies_of sum (leaves_from seats 1 tops)
copies_under seats tops under place birth sum at top_is birth_is =
    copies_seen seats birth sum.top under ∙ ap (λ b. map (copy_of b) (map (leaf_of seats sum.top) under)) (sym birth_is)
    ∙ ap (map (copy_of sum.birth)) (sym (under_one seats 1 place sum.top tops under (omega (arith, top_is)) at))

-- all leaves were come past
pub row_of_all : (birth place : ℕ) (under : List LeafVdev) (now : List CopyOf) → length under ≤ place → now ≡ copies_on birth (take place under)
    → (seats : List Seat) (tops : List (List LeafVdev)) (at : ℕ) (sum : Sum) → slice_get tops at ≡ Some under → sum.top ≡ suc at → sum.birth ≡ birth
    → now ≡ copies_of sum (leaves_from seats 1 tops)
row_of_all birth place under now past is seats tops at sum is_top top_is birth_is =
    is ∙ ap (copies_on birth) (take_all place under past) ∙ copies_under seats tops under at birth sum is_top top_is birth_is
