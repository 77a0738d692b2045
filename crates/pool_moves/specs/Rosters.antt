-- The members of a pool as a list. What a pool has of its members is a test, and no list; this is the list that an opening needs
-- to tell whether some member has a leaf's number.
use Rattle.std.specs.Prelude.{◌≡◌, ◌⊎◌, ℕ, ◌==◌, ◌&&◌, true, Option, List, [], ◌∷◌}
use Rattle.std.specs.List.{find}
use Rattle.mp_base.specs.declared.number.Guid.{Guid}
use Rattle.txg_history.specs.Events.{Event, Joins}
use Rattle.txg_history.specs.Pools.{Pool}
use Rattle.pool_moves.specs.Leaves.{Seat, At, Adrift}

-- the device is on the list
abbrev pub IsListed : (d : ℕ) → List ℕ → Type 0
IsListed d [] = ⊥
IsListed d (e ∷ devs) = ((d == e) ≡ true) ⊎ IsListed d devs

-- Each member of the pool is on the list, and no two members have one number. Devices that were members may be on it too.
pub record IsRoster (p : Pool) (devs : List ℕ) : Type 0 where
  pub all : (d : ℕ) → p.member d ≡ true → IsListed d devs
  pub numbers : (d e : ℕ) → p.member d ≡ true → p.member e ≡ true → ((p.guid d).0 == (p.guid e).0) ≡ true → (d == e) ≡ true

-- a device that comes in is put on it
abbrev pub roster_by : Event → List ℕ → List ℕ
roster_by (Joins d m top) devs = d ∷ devs
roster_by v devs = devs

abbrev pub roster_after : List Event → List ℕ → List ℕ
roster_after [] devs = devs
roster_after (v ∷ vs) devs = roster_after vs (roster_by v devs)

-- the devices of these seats
abbrev pub devices_of : List Seat → List ℕ
devices_of [] = []
devices_of (At d found own ∷ seats) = d ∷ devices_of seats
devices_of (Adrift leaf ∷ seats) = devices_of seats

-- the member of this number, if there is one
abbrev pub member_of : Pool → List ℕ → Guid → Option ℕ
member_of p devs m = find (λ d. p.member d && ((p.guid d).0 == m.0)) devs
