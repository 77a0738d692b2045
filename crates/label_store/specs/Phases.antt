-- A phase: member by member, those that are still on the board make their part, and one whose call failed
-- leaves it.
use Rattle.std.specs.Prelude.{◌≡◌, Bool, true, false, List, [], ◌∷◌, ◌++◌, Option, is_none}
use Rattle.bank_core.specs.declared.bank.Fault.{Fault}
use Rattle.bank_core.specs.Disk.{Noted}
use Rattle.bank_core.specs.Asks.{Ask, IsPart}

-- the turn of one member: it was on the board or not, and is or isn't
abbrev pub IsTurn : List Ask → (was is : Bool) → List Noted → Type 0
IsTurn asks true is made = (outcome : Option Fault) × IsPart asks made outcome × (is ≡ is_none outcome)
IsTurn asks false is made = (made ≡ []) × (is ≡ false)

-- the turns of all, one after another
abbrev pub IsPhase : {X : Type 0} → (X → List Ask) → List X → (was is : List Bool) → List Noted → Type 0
IsPhase plan [] [] [] made = made ≡ []
IsPhase plan (m ∷ ms) (b ∷ was) (c ∷ is) made =
    (mine : List Noted) × (rest : List Noted) × (made ≡ mine ++ rest) × IsTurn (plan m) b c mine × IsPhase plan ms was is rest
IsPhase plan [] [] (c ∷ is) made = ⊥
IsPhase plan [] (b ∷ was) is made = ⊥
IsPhase plan (m ∷ ms) [] is made = ⊥
IsPhase plan (m ∷ ms) (b ∷ was) [] made = ⊥
