-- Members whose calls failed, one after another.
use Rattle.std.proofs.Common.{◌≡◌, ℕ, ◌+◌, ◌<◌, Bool, true, false, List, [], ◌∷◌, length, get_or, drop, refl, sym, ap, ◌∙◌, subst}
use Rattle.std.proofs.lemmas.List.{drop_more}
use Rattle.label_store.specs.declared.member.Member.{Member}
use Rattle.vdev_tree.specs.declared.vdev.LeafVdev.{LeafVdev}
use Rattle.txg_engine.specs.declared.seat.Numbers.{Numbers}
use Rattle.txg_engine.specs.declared.seat.Seat.{Seat}
use Rattle.txg_engine.specs.Boards.{behind_turn}
use Rattle.txg_engine.specs.Logs.{AreBehind}

turn_first : (m : Member) (d : Bool) (ms : List Member) (done : List Bool) (seats : List Seat)
    → behind_turn (m ∷ ms) (d ∷ done) seats ≡ behind_turn ms done (behind_turn (m ∷ []) (d ∷ []) seats)
turn_first m true ms done seats = refl
turn_first m false ms done seats = refl

leaves_first : (numbers : Numbers) (m : Member) (d : Bool) (ms : List Member) (done : List Bool) (old mid new : List LeafVdev)
    → AreBehind numbers (m ∷ []) (d ∷ []) old mid → AreBehind numbers ms done mid new → AreBehind numbers (m ∷ ms) (d ∷ done) old new
leaves_first numbers m true ms done old mid new first rest = subst (λ l. AreBehind numbers ms done l new) first rest
leaves_first numbers m false ms done old mid new first rest = (first.0, first.1, subst (λ l. AreBehind numbers ms done l new) first.2 rest)

-- one member more, where what is left makes of what is now what all makes of what was
pub turn_more : (ms : List Member) (done : List Bool) (i : ℕ) (m : Member) (d : Bool) (all now new : List Seat) → i < length ms → i < length done
    → new ≡ behind_turn (get_or ms i m ∷ []) (get_or done i d ∷ []) now → behind_turn (drop i ms) (drop i done) now ≡ all
    → behind_turn (drop (i + 1) ms) (drop (i + 1) done) new ≡ all
turn_more ms done i m d all now new inside inside' is left =
    ap (behind_turn (drop (i + 1) ms) (drop (i + 1) done)) is
    ∙ sym (turn_first (get_or ms i m) (get_or done i d) (drop (i + 1) ms) (drop (i + 1) done) now)
    ∙ ap (λ l. behind_turn l (get_or done i d ∷ drop (i + 1) done) now) (sym (drop_more ms i m inside))
    ∙ ap (λ l. behind_turn (drop i ms) l now) (sym (drop_more done i d inside')) ∙ left

pub leaves_more : (numbers : Numbers) (ms : List Member) (done : List Bool) (i : ℕ) (m : Member) (d : Bool) (was now new : List LeafVdev) → i < length ms → i < length done
    → AreBehind numbers (get_or ms i m ∷ []) (get_or done i d ∷ []) now new
    → ((all : List LeafVdev) → AreBehind numbers (drop i ms) (drop i done) now all → AreBehind numbers ms done was all)
    → (all : List LeafVdev) → AreBehind numbers (drop (i + 1) ms) (drop (i + 1) done) new all → AreBehind numbers ms done was all
leaves_more numbers ms done i m d was now new inside inside' first left all rest =
    left all (subst (λ l. AreBehind numbers l (drop i done) now all) (sym (drop_more ms i m inside))
    (subst (λ l. AreBehind numbers (get_or ms i m ∷ drop (i + 1) ms) l now all) (sym (drop_more done i d inside'))
    (leaves_first numbers (get_or ms i m) (get_or done i d) (drop (i + 1) ms) (drop (i + 1) done) now new all first rest)))
