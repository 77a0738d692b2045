-- Walks of moves that every state admits while a group is frozen.
use Rattle.std.specs.Prelude.{◌==◌, List, [], ◌∷◌, ◌++◌}
use Rattle.std.specs.List.{AllByRecursion}
use Rattle.bank_core.specs.Disk.{Noted}
use Rattle.txg_history.specs.Events.{Event}
use Rattle.pool_moves.specs.Keeping.{Admits, IsOfFound}
use Rattle.pool_moves.specs.Leaves.{Seat}
use Rattle.pool_moves.specs.Moves.{Move, Makes, Puts, Wrote_key, Flushed_all, Draw, Leave, Copies, Copied, Sets, events_of, after_move}
use Rattle.pool_moves.specs.States.{Side}

-- what the history gets of these moves
abbrev pub events_along : List Move → Side → List Event
events_along [] t = []
events_along (v ∷ vs) t = events_of v t.pool ++ events_along vs (after_move v t)

-- the state admits each of them
abbrev pub AreAdmitted : Side → List Move → Type 0
AreAdmitted t [] = Unit {0}
AreAdmitted t (v ∷ vs) = Admits t v × AreAdmitted (after_move v t) vs

-- A move that a state with these seats admits while a group is frozen, and that leaves all that the next one needs.
abbrev pub IsFree : List Seat → Move → Type 0
IsFree seats (Makes noted) = Unit {0}
IsFree seats (Puts a block) = Unit {0}
IsFree seats (Wrote_key k) = Unit {0}
IsFree seats Flushed_all = Unit {0}
IsFree seats Draw = Unit {0}
IsFree seats (Leave d) = AllByRecursion (IsOfFound (λ e. d == e)) seats
IsFree seats (Copies draft d) = Unit {0}
IsFree seats (Copied draft d) = Unit {0}
IsFree seats (Sets m own) = Unit {0}
IsFree seats v = ⊥

-- these calls as moves
abbrev pub as_moves : List Noted → List Move
as_moves [] = []
as_moves (noted ∷ made) = Makes noted ∷ as_moves made
