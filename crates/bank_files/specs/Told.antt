-- What a file tells of its bytes, and what a call may change of it.
use Rattle.std.specs.Prelude.{◌≡◌, ℕ, ◌+◌, ◌<◌, ◌≤◌, List, Option, Some, None, slice_index, slice_index_or}

-- The byte that a file holds at each place, and the one that a crash leaves there, where it tells them.
pub record Told : Type 0 where
  pub held : ℕ → Option ℕ
  pub stable : ℕ → Option ℕ

-- a file that tells nothing
abbrev pub nothing : Told
nothing = record { held = λ _. None; stable = λ _. None }

-- The first n of these bytes stand in the file from a place on.
abbrev pub Stands : Told → ℕ → List ℕ → ℕ → Type 0
Stands told at bytes n = (i : ℕ) → i < n → (byte : ℕ) → told.held (at + i) ≡ Some byte → byte ≡ slice_index bytes i

-- What is told of a place stays.
pub record StaysAt (old new : Told) (place : ℕ) : Type 0 where
  pub held : new.held place ≡ old.held place
  pub stable : new.stable place ≡ old.stable place

-- Nothing changed but at the n places from `at` on.
pub record Touches (old new : Told) (at n : ℕ) : Type 0 where
  pub before : (place : ℕ) → place < at → StaysAt old new place
  pub behind : (place : ℕ) → at + n ≤ place → StaysAt old new place

-- A crash leaves each byte that the file holds.
abbrev pub IsStable : Told → Type 0
IsStable told = (place byte : ℕ) → told.held place ≡ Some byte → told.stable place ≡ Some byte

-- A sync changes nothing that the file holds.
abbrev pub HoldsSame : Told → Told → Type 0
HoldsSame old new = (place : ℕ) → new.held place ≡ old.held place

-- Under this number a file is open, and so it is with it.
pub record IsOpen {D : Type 0} (files : List (Option D)) (dev : ℕ) (P : D → Type 0) : Type 0 where
  pub file : D
  pub there : slice_index_or files dev None ≡ Some file
  pub so : P file
