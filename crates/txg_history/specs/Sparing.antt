-- Plans whose calls a pool may make, whatever they answer.
use Rattle.std.specs.Prelude.{◌≡◌, ℕ, ◌+◌, ◌-◌, ◌<◌, true, List, [], ◌∷◌, Some}
use Rattle.mp_base.specs.declared.place.Key.{Key}
use Rattle.bank_core.specs.Asks.{Ask, Reads, Writes, Flushes, Admits, Ejects}
use Rattle.bank_core.specs.Disk.{sector_of}
use Rattle.bank_core.specs.Standing.{aims, Spares}
use Rattle.label_store.specs.Records.{place_at}
use Rattle.txg_history.specs.Needs.{NeedsFirm, NeedsSoft}
use Rattle.txg_history.specs.Pools.{Pool, drawn, seat}
use Rattle.txg_history.specs.Records.{Rec, Cell, IsIn, data_start}
use Rattle.txg_history.specs.Survival.{IsKnownUber}

-- each of these asks is one on a device that stays
abbrev pub ArePlain : List Ask → Type 0
ArePlain [] = Unit {0}
ArePlain (Admits dev ∷ asks) = ⊥
ArePlain (Ejects dev ∷ asks) = ⊥
ArePlain (ask ∷ asks) = ArePlain asks

-- what an ask puts on sector s
abbrev pub lays : Ask → ℕ → List ℕ
lays (Reads dev at sectors) s = []
lays (Writes dev at bytes) s = sector_of (s - at) bytes
lays (Flushes dev) s = []
lays (Admits dev) s = []
lays (Ejects dev) s = []

-- each of these that aims at a sector puts bytes of this kind there
abbrev pub LayJust : (P : List ℕ → Type 0) → (d s : ℕ) → List Ask → Type 0
LayJust P d s [] = Unit {0}
LayJust P d s (ask ∷ asks) = (aims ask d s ≡ true → P (lays ask s)) × LayJust P d s asks

-- Asks whose calls all spare what is needed, write at the place of a live record's key just its bytes, and put no uberblock
-- but a drawn record's into a member's rings.
pub record AreSparing (p : Pool) (asks : List Ask) : Type 0 where
  pub plain : ArePlain asks
  pub firm : (d s : ℕ) (bytes : List ℕ) → p.member d ≡ true → NeedsFirm p d s bytes → Spares asks d s
  pub soft : (d s : ℕ) (bytes : List ℕ) → p.member d ≡ true → NeedsSoft p d s bytes → Spares asks d s
  pub true_to : (r : Rec) (d : ℕ) (k : Key) (cell : Cell) → IsIn r p.live → p.member d ≡ true → r.cells k ≡ Some cell → p.in_top d ≡ cell.top
      → LayJust (λ bytes. bytes ≡ cell.block) d (data_start + cell.sector) asks
  pub known : (d place : ℕ) → p.member d ≡ true → place < 128 → LayJust (IsKnownUber (drawn p) p.pool (seat p d)) d (place_at (p.size d) place) asks

-- they aim at no sector of a member
abbrev pub AreElsewhere : Pool → List Ask → Type 0
AreElsewhere p asks = ArePlain asks × ((d s : ℕ) → p.member d ≡ true → Spares asks d s)

-- they read and flush alone
abbrev pub WriteNothing : List Ask → Type 0
WriteNothing [] = Unit {0}
WriteNothing (Reads dev at sectors ∷ asks) = WriteNothing asks
WriteNothing (Flushes dev ∷ asks) = WriteNothing asks
WriteNothing (ask ∷ asks) = ⊥
