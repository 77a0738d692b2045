-- Places that the next group may get.
use Rattle.std.specs.Prelude.{◌≡◌, ℕ, true, List, [], ◌∷◌, Some}
use Rattle.mp_base.specs.declared.place.Key.{Key}
use Rattle.txg_history.specs.Pools.{Pool}
use Rattle.txg_history.specs.Records.{Cell, Cells}

-- none of these keys is at the place
abbrev pub HaveNone : Cells → (top sector : ℕ) → Type 0
HaveNone cells top sector = (k : Key) (cell : Cell) → cells k ≡ Some cell → cell.top ≡ top → cell.sector ≡ sector → ⊥

abbrev pub AllHaveNone : List Cells → (top sector : ℕ) → Type 0
AllHaveNone [] top sector = Unit {0}
AllHaveNone (cells ∷ more) top sector = HaveNone cells top sector × AllHaveNone more top sector

-- The next group may get this place: no opening is under way, and neither a key of the record that the pool reads nor
-- one of a frozen group stands there, nor is it pinned.
pub record IsFree (p : Pool) (top sector : ℕ) : Type 0 where
  pub opened : p.opened ≡ true
  pub not_read : HaveNone p.reads.cells top sector
  pub not_frozen : p.group.frozen ≡ true → HaveNone p.group.cells top sector
  pub not_pinned : AllHaveNone p.pinned top sector
