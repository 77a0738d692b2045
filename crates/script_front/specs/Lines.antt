-- The lines of an input. This file names no type of the crate.
use Rattle.std.specs.Prelude.{◌≡◌, ℕ, ◌≤◌, List, [], ◌∷◌, ◌++◌, ◌==◌, false, if◌then◌else◌, length}

-- the byte at which a line ends
abbrev pub newline : ℕ
newline = 10

-- one byte more in front of the first line
abbrev pub with_first : ℕ → List (List ℕ) → List (List ℕ)
with_first b [] = (b ∷ []) ∷ []
with_first b (line ∷ lines) = (b ∷ line) ∷ lines

-- The lines of a text: each ends at byte 10 or at the end of the text. Behind a last byte 10 there is none.
abbrev pub lines_of : List ℕ → List (List ℕ)
lines_of [] = []
lines_of (b ∷ bytes) = if b == newline then [] ∷ lines_of bytes else with_first b (lines_of bytes)

-- the longest line
abbrev pub longest : ℕ
longest = 16384

abbrev pub AreShort : List (List ℕ) → Type 0
AreShort [] = Unit {0}
AreShort (line ∷ lines) = (length line ≤ longest) × AreShort lines

-- no byte 10 among these
abbrev pub IsOpen : List ℕ → Type 0
IsOpen [] = Unit {0}
IsOpen (b ∷ bytes) = ((b == newline) ≡ false) × IsOpen bytes

-- Whatever follows, what waited and these bytes begin with these lines, and then this waits for more.
pub record Ends (waiting bytes : List ℕ) (lines : List (List ℕ)) (left : List ℕ) : Type 0 where
  pub each : (rest : List ℕ) → lines_of (waiting ++ (bytes ++ rest)) ≡ lines ++ lines_of (left ++ rest)
  pub unended : IsOpen left
