-- How turns end.
use Rattle.std.proofs.Common.{◌≡◌, ◌≤◌, ◌<◌, ◌+◌, ◌^◌, ◌==◌, ◌&&◌, ℕ, Bool, true, false, cond, List, [], ◌∷◌, arith}
use Rattle.std.proofs.Common.{length, map, Option, Some, None, Result, Ok, Err, OnErr, refl, sym, ap, ◌∙◌, subst}
use Rattle.std.specs.Prelude.{All, filter, slice_index, is_some}
use Rattle.std.proofs.lemmas.Bool.{true≢false}
use Rattle.std.proofs.lemmas.Bool.Decides.{nat_tests}
use Rattle.mp_base.specs.declared.place.Place.{Place}
use Rattle.block_map.specs.Places.{IsPlace, AreTops}
use Rattle.std.proofs.lemmas.List.{length-map}
use Rattle.std.proofs.lemmas.List.Elements.{All-nil, All-cons, All-head, All-tail}
use Rattle.mp_base.specs.declared.number.Group.{Group}
use Rattle.mp_base.specs.declared.number.Guid.{Guid}
use Rattle.bank_core.specs.Asks.{Ask}
use Rattle.label_store.specs.declared.member.Member.{Member}
use Rattle.vdev_tree.specs.Tree.{guid_of, marks}
use Rattle.vdev_tree.specs.declared.top.Top.{Top}
use Rattle.dtl_rules.specs.Widening.{marks_of}
use Rattle.txg_engine.specs.declared.seat.Seat.{Seat}
use Rattle.txg_engine.specs.declared.seat.Suspended.{Suspended}
use Rattle.txg_engine.specs.Boards.{emptied, is_on_under, member_of, count_on, behind_turn, without, failed}
use Rattle.txg_engine.specs.Frozen.{FrozenGroup, IsSeated}
use Rattle.txg_engine.proofs.Ready.{fewer_on, same_on}
use Rattle.txg_engine.specs.Turns.{Scene, Answers, IsChecked, emptied_top, Works, IsTurnBy, numbers_of}

-- a board of which no top was told has somebody under each
pub none_told : {A : Type 0} (tops : List Guid) (first : Group) (seats : List Seat) (top : Option ℕ) (r : Result A Suspended) (x : A)
    → IsChecked tops first seats top r → r ≡ Ok x → top ≡ None
none_told tops first seats None r x told e = refl
none_told tops first seats (Some top) r x told e = absurd (subst (IsChecked tops first seats (Some top)) e told)

-- where a top was told, it has nobody on the board
pub told_suspended : {A : Type 0} (tops : List Guid) (first : Group) (seats : List Seat) (top : Option ℕ) (r : Result A Suspended)
    → IsChecked tops first seats top r → OnErr r (is_some top ≡ true)
told_suspended tops first seats None (Ok x) told = tt
told_suspended tops first seats None (Err e) told = absurd (true≢false (sym told))
told_suspended tops first seats (Some top) (Ok x) told = tt
told_suspended tops first seats (Some top) (Err e) told = refl

pub as_many : (old new : List Top) → marks_of new ≡ marks_of old → length (numbers_of new) ≡ length (numbers_of old)
as_many old new built =
    length-map new (λ (top : Top). guid_of top.mirror) ∙ sym (length-map new (λ (top : Top). marks top.mirror)) ∙ ap length built
    ∙ length-map old (λ (top : Top). marks top.mirror) ∙ sym (length-map old (λ (top : Top). guid_of top.mirror))

-- a turn before which no top was told does its part
pub turn_goes : (tops tops' : List Guid) (plan : Member → List Ask) (members : List Member) (noted : FrozenGroup) (old new : Scene)
    (checked r : Result (Unit {0}) Suspended)
    → length tops' ≡ length tops → Answers tops old.group (emptied_top tops old.group) checked → checked ≡ Ok tt → Works plan members noted old new
    → Answers tops' new.group (emptied_top tops' new.group) r → IsTurnBy (emptied_top tops' old.group) tops' plan members noted old new r
turn_goes tops tops' plan members noted old new checked r same told ok works answers =
    subst (λ o. IsTurnBy o tops' plan members noted old new r)
    (sym (ap (λ n. emptied n old.group.board) same ∙ none_told tops old.group.numbers.first old.group.board (emptied_top tops old.group) checked tt told ok))
    (works, answers)

-- no turn brings anybody onto the board
pub fewer_behind : (ms : List Member) (done : List Bool) (seats : List Seat) → count_on (behind_turn ms done seats) ≤ count_on seats
fewer_behind [] done seats = omega arith
fewer_behind (m ∷ ms) [] seats = omega arith
fewer_behind (m ∷ ms) (true ∷ done) seats = fewer_behind ms done seats
fewer_behind (m ∷ ms) (false ∷ done) seats =
    omega (arith, fewer_behind ms done (map (without m.guid) (map (failed m.guid) seats)), fewer_on m.guid (map (failed m.guid) seats), same_on m.guid seats)

-- what holds of each leaf, and then of the members of those of a kind
pub members_if : (P : Member → Type 0) (Q : Seat → Type 0) (which : Seat → Bool)
    → ((seat : Seat) → which seat ≡ true → Q seat → P seat.member) → (seats : List Seat)
    → All Q seats → All P (map member_of (filter which seats))
members_if P Q which f [] all = All-nil P
members_if P Q which f (seat ∷ seats) all =
    one (which seat) refl (members_if P Q which f seats (All-tail Q seat seats all))
  where
    one : (b : Bool) → which seat ≡ b → All P (map member_of (filter which seats))
        → All P (map member_of (cond b (seat ∷ filter which seats) (filter which seats)))
    one true is rest = All-cons P seat.member (map member_of (filter which seats)) (f seat is (All-head Q seat seats all)) rest
    one false is rest = rest

-- the devices of a top's leaves that are on the board have the sector of a place there
pub has_sector : (size : ℕ → ℕ) (sectors : List ℕ) (place : Place) → IsPlace sectors place → (seat : Seat) → is_on_under place.top seat ≡ true
    → (seat.on ≡ true → IsSeated size sectors seat) → 128 + place.sector < size seat.member.dev
has_sector size sectors place inside seat on seated =
    let top : seat.top ≡ place.top = one seat.on seat.top place.top on in
    let rows = (seated (is_on seat.on (seat.top == place.top) on)).data_sectors in
    let here = inside.sector in
    let same : slice_index sectors seat.top ≡ slice_index sectors place.top = ap (slice_index sectors) top in omega arith
  where
    is_on : (a b : Bool) → (a && b) ≡ true → a ≡ true
    is_on true b e = refl
    is_on false b e = e

    is_top : (a b : ℕ) → (a == b) ≡ true → a ≡ b
    is_top a b e = grind (arith, nat_tests)

    one : (on : Bool) (a b : ℕ) → (on && (a == b)) ≡ true → a ≡ b
    one true a b e = is_top a b e
    one false a b e = absurd (true≢false (sym e))

pub small_sector : (sectors : List ℕ) (place : Place) → AreTops sectors → IsPlace sectors place → place.sector < 2 ^ 32
small_sector sectors place tops inside = let size = tops.sizes place.top 0 inside.top in let here = inside.sector in omega arith
