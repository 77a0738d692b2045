-- The board of a state: the members of its readable leaves.
use Rattle.std.proofs.Common.{◌≡◌, ◌⊎◌, ℕ, zero, suc, Bool, true, false, cond, List, [], ◌∷◌, Option, Some, None, refl, sym, ap, ◌∙◌, inl, inr, ⊎_elim}
use Rattle.std.specs.Prelude.{slice_get}
use Rattle.std.specs.Option.{option_map}
use Rattle.mp_base.specs.declared.number.Guid.{Guid}
use Rattle.label_store.specs.declared.member.Member.{Member}
use Rattle.label_store.specs.Seats.{AreApart}
use Rattle.pool_core.specs.State.{LeafState, PoolState, is_readable, seat_of, board, is_nobody, has_nobody}
use Rattle.pool_core.proofs.Boards.{both_seats, one_of, in_turn}
use Rattle.host_machine.proofs.Settling.{same_some, none_some}

-- The leaf is readable, and this is its member on its device.
pub record IsSeatOf (leaf : LeafState) (m : Member) : Type 0 where
  pub readable : is_readable leaf ≡ true
  pub dev : leaf.dev ≡ Some m.dev
  pub guid : m.guid ≡ leaf.member

seat_by : (up : Bool) (dev : Option ℕ) (guid : Guid) (m : Member) → cond up (option_map (λ (d : ℕ). record { dev = d; guid = guid }) dev) None ≡ Some m
    → (up ≡ true) × (dev ≡ Some m.dev) × (m.guid ≡ guid)
seat_by true None guid m e = absurd (none_some m e)
seat_by true (Some d) guid m e =
    let same : record { dev = d; guid = guid } ≡ m = same_some (record { dev = d; guid = guid }) m e in (refl, ap (λ (x : Member). Some x.dev) same, sym (ap (λ (x : Member). x.guid) same))
seat_by false dev guid m e = absurd (none_some m e)

pub seat_is : (leaf : LeafState) (m : Member) → seat_of leaf ≡ Some m → IsSeatOf leaf m
seat_is leaf m e = let parts = seat_by (is_readable leaf) leaf.dev leaf.member m e in record { readable = parts.0; dev = parts.1; guid = parts.2 }

abbrev member_on : Guid → ℕ → Member
member_on guid d = record { dev = d; guid = guid }

seated_by : (up : Bool) (dev : Option ℕ) (guid : Guid) (d : ℕ) → up ≡ true → dev ≡ Some d → cond up (option_map (member_on guid) dev) None ≡ Some (member_on guid d)
seated_by true None guid d t e = absurd (none_some d e)
seated_by true (Some x) guid d t e = ap (λ (y : ℕ). Some (member_on guid y)) (same_some x d e)
seated_by false dev guid d t e = absurd (let no : false ≡ true = t in cc)

seat_from : (leaf : LeafState) (d : ℕ) → is_readable leaf ≡ true → leaf.dev ≡ Some d → seat_of leaf ≡ Some (record { dev = d; guid = leaf.member })
seat_from leaf d up e = seated_by (is_readable leaf) leaf.dev leaf.member d up e

both_first : (a b : Option Member) (m : Member) → a ≡ Some m → (i : ℕ) × (slice_get (both_seats a b) i ≡ Some m)
both_first None b m e = absurd (none_some m e)
both_first (Some a) b m e = (zero, e)

both_second : (a b : Option Member) (m : Member) → b ≡ Some m → (i : ℕ) × (slice_get (both_seats a b) i ≡ Some m)
both_second a None m e = absurd (none_some m e)
both_second None (Some b) m e = (zero, e)
both_second (Some a) (Some b) m e = (suc zero, e)

-- Each member of the board is one of the leaves'.
pub board_leaf : (s : PoolState) (i : ℕ) (m : Member) → slice_get (board s) i ≡ Some m → IsSeatOf s.first m ⊎ IsSeatOf s.second m
board_leaf s i m e = ⊎_elim (λ one. inl (seat_is s.first m one)) (λ two. inr (seat_is s.second m two)) (one_of (seat_of s.first) (seat_of s.second) i m e)

-- And each readable leaf with a device is on it.
pub first_board : (s : PoolState) (d : ℕ) → is_readable s.first ≡ true → s.first.dev ≡ Some d → (i : ℕ) × (slice_get (board s) i ≡ Some (record { dev = d; guid = s.first.member }))
first_board s d up e = both_first (seat_of s.first) (seat_of s.second) (record { dev = d; guid = s.first.member }) (seat_from s.first d up e)

pub second_board : (s : PoolState) (d : ℕ) → is_readable s.second ≡ true → s.second.dev ≡ Some d → (i : ℕ) × (slice_get (board s) i ≡ Some (record { dev = d; guid = s.second.member }))
second_board s d up e = both_second (seat_of s.first) (seat_of s.second) (record { dev = d; guid = s.second.member }) (seat_from s.second d up e)

-- no two of its members have one device
pub board_apart : (s : PoolState) → ((d : ℕ) → s.first.dev ≡ Some d → s.second.dev ≡ Some d → ⊥) → AreApart (board s)
board_apart s apart i j m n e f less same =
    let both = in_turn (seat_of s.first) (seat_of s.second) i j m n e f less in
    apart n.dev ((seat_is s.first m both.0).dev ∙ ap Some same) (seat_is s.second n both.1).dev

-- What holds of both leaves' members holds of each on the board.
pub board_each : (P : Member → Type 0) (s : PoolState) → ((m : Member) → IsSeatOf s.first m → P m) → ((m : Member) → IsSeatOf s.second m → P m)
    → (i : ℕ) (m : Member) → slice_get (board s) i ≡ Some m → P m
board_each P s one two i m e = ⊎_elim (one m) (two m) (board_leaf s i m e)

-- Where somebody is on the board, a leaf is readable and has a device.
pub somebody : (s : PoolState) → has_nobody s ≡ false → (m : Member) × (IsSeatOf s.first m ⊎ IsSeatOf s.second m)
somebody s e = let at = some (board s) e in (at.0, board_leaf s zero at.0 at.1)
  where
    some : (ms : List Member) → is_nobody ms ≡ false → (m : Member) × (slice_get ms zero ≡ Some m)
    some [] e = absurd (let no : true ≡ false = e in cc)
    some (m ∷ ms) e = (m, refl)
