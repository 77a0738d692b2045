-- A pool as it was just made, with the leaves of its tree.
use Rattle.std.specs.Prelude.{◌≡◌, ◌⊎◌, ℕ, ◌==◌, Bool, true, None, List, [], ◌∷◌}
use Rattle.std.specs.List.{AllByRecursion}
use Rattle.mp_base.specs.declared.number.Guid.{Guid}
use Rattle.bank_core.specs.Disk.{Sectors}
use Rattle.txg_history.specs.Pools.{stamped}
use Rattle.txg_history.specs.Stamps.{AreStamped}
use Rattle.pool_moves.specs.Keeping.{IsSeated, AreSeatsApart, HasNumberBelow}
use Rattle.pool_moves.specs.Leaves.{Seat, At, Adrift}
use Rattle.pool_moves.specs.States.{Side, seen, PoolState}

-- a seat is at this device
abbrev pub HasSeat : (d : ℕ) → List Seat → Type 0
HasSeat d [] = ⊥
HasSeat d (At e found own ∷ seats) = ((d == e) ≡ true) ⊎ HasSeat d seats
HasSeat d (Adrift leaf ∷ seats) = HasSeat d seats

-- the seat is at a device that the run has found
abbrev pub IsHere : Seat → Type 0
IsHere (At d found own) = found ≡ true
IsHere (Adrift leaf) = ⊥

-- A pool whose members were just stamped, each under a number of its own: its leaves are just these, the next
-- number is above theirs, and nothing was written.
pub record IsMade (s : PoolState) (t : Side) : Type 0 where
  pub name : List ℕ
  pub pool : Guid
  pub member : ℕ → Bool
  pub guid : ℕ → Guid
  pub size : ℕ → ℕ
  pub room : ℕ → ℕ
  pub home : ℕ → ℕ
  pub sectors : Sectors
  pub stamps : AreStamped pool member guid size room home sectors
  pub is : t.pool ≡ stamped name pool member guid size room home sectors
  pub numbers : (d e : ℕ) → member d ≡ true → member e ≡ true → ((guid d).0 == (guid e).0) ≡ true → (e == d) ≡ true
  pub apart : AreSeatsApart t.seats
  pub seated : AllByRecursion (IsSeated member) t.seats
  pub here : AllByRecursion IsHere t.seats
  pub each : (d : ℕ) → member d ≡ true → HasSeat d t.seats
  pub core : s.core ≡ seen t
  pub below : AllByRecursion (HasNumberBelow guid s.own.next_member) t.seats
  pub unwritten : (a : ℕ) → s.own.writes a ≡ None
