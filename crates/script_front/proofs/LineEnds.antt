-- How lines end, byte by byte and piece by piece.
use Rattle.std.proofs.Common.{◌≡◌, ℕ, ◌<◌, ◌≤◌, ◌==◌, true, false, List, [], ◌∷◌, ◌++◌, length, length-append, refl, sym, ◌∙◌, ap, append_assoc, arith}
use Rattle.script_front.specs.Lines.{newline, with_first, lines_of, IsOpen, Ends, AreShort, longest}

-- a byte in front of what a text's lines are, where it ends none
open_byte : (b : ℕ) (bytes : List ℕ) → (b == newline) ≡ false → lines_of (b ∷ bytes) ≡ with_first b (lines_of bytes)
open_byte b bytes open_is = rw open_is refl

-- a line that has ended
pub ended : (line rest : List ℕ) → IsOpen line → lines_of (line ++ newline ∷ rest) ≡ line ∷ lines_of rest
ended [] rest is_open = refl
ended (b ∷ line) rest is_open = open_byte b (line ++ newline ∷ rest) is_open.0 ∙ ap (with_first b) (ended line rest is_open.1)

pub newline_ends : (waiting : List ℕ) → IsOpen waiting → Ends waiting (newline ∷ []) (waiting ∷ []) []
newline_ends waiting is_open = record { each = λ rest. ended waiting rest is_open; unended = tt }

pub open_more : (waiting : List ℕ) (b : ℕ) → IsOpen waiting → (b == newline) ≡ false → IsOpen (waiting ++ b ∷ [])
open_more [] b is_open other = (other, tt)
open_more (c ∷ waiting) b is_open other = (is_open.0, open_more waiting b is_open.1 other)

pub byte_waits : (waiting : List ℕ) (b : ℕ) → IsOpen waiting → (b == newline) ≡ false → Ends waiting (b ∷ []) [] (waiting ++ b ∷ [])
byte_waits waiting b is_open other = record {
  each = λ rest. ap lines_of (sym (append_assoc waiting (b ∷ []) rest));
  unended = open_more waiting b is_open other;
}

pub ends_none : (waiting : List ℕ) → IsOpen waiting → Ends waiting [] [] waiting
ends_none waiting is_open = record { each = λ rest. refl; unended = is_open }

pub ends_more : (waiting first mid second left : List ℕ) (lines more : List (List ℕ)) → Ends waiting first lines mid → Ends mid second more left
    → Ends waiting (first ++ second) (lines ++ more) left
ends_more waiting first mid second left lines more a b = record {
  each = λ rest. ap (λ bytes. lines_of (waiting ++ bytes)) (append_assoc first second rest) ∙ a.each (second ++ rest)
      ∙ ap (λ l. lines ++ l) (b.each rest) ∙ sym (append_assoc lines more (lines_of (left ++ rest)));
  unended = b.unended;
}

pub short_more : (lines more : List (List ℕ)) → AreShort lines → AreShort more → AreShort (lines ++ more)
short_more [] more a b = b
short_more (line ∷ lines) more a b = (a.0, short_more lines more a.1 b)

-- The first line of a text that begins with these bytes, unless it ends in them.
record Begins (line rest : List ℕ) : Type 0 where
  tail : List ℕ
  more : List (List ℕ)
  is : lines_of (line ++ rest) ≡ (line ++ tail) ∷ more

first_of : (lines : List (List ℕ)) (b : ℕ) → (tail : List ℕ) × (more : List (List ℕ)) × (with_first b lines ≡ (b ∷ tail) ∷ more)
first_of [] b = ([], [], refl)
first_of (line ∷ lines) b = (line, lines, refl)

begins_more : (b : ℕ) (line rest : List ℕ) → (b == newline) ≡ false → Begins line rest → Begins (b ∷ line) rest
begins_more b line rest other begins = record {
  tail = begins.tail;
  more = begins.more;
  is = open_byte b (line ++ rest) other ∙ ap (with_first b) begins.is;
}

-- one byte that ends no line begins one
begins_one : (b : ℕ) (rest : List ℕ) → (b == newline) ≡ false → Begins (b ∷ []) rest
begins_one b rest other =
    let first = first_of (lines_of rest) b in
    record { tail = first.0; more = first.1; is = open_byte b rest other ∙ first.2 }

begins_with : (line : List ℕ) (b : ℕ) (rest : List ℕ) → IsOpen line → (b == newline) ≡ false → Begins (line ++ b ∷ []) rest
begins_with [] b rest is_open other = begins_one b rest other
begins_with (c ∷ line) b rest is_open other = begins_more c (line ++ b ∷ []) rest is_open.0 (begins_with line b rest is_open.1 other)

-- A line that is full, and goes on, is too long.
pub overflow : (waiting : List ℕ) (b : ℕ) (rest : List ℕ) → IsOpen waiting → (b == newline) ≡ false → longest ≤ length waiting
    → (long : List ℕ) × (more : List (List ℕ)) × (lines_of (waiting ++ (b ∷ [] ++ rest)) ≡ [] ++ long ∷ more) × (longest < length long)
overflow waiting b rest is_open other full =
    let begins = begins_with waiting b rest is_open other in (
      (waiting ++ b ∷ []) ++ begins.tail,
      begins.more,
      ap lines_of (sym (append_assoc waiting (b ∷ []) rest)) ∙ begins.is,
      rw (length-append, length-append) (omega arith),
    )

-- a text whose last line has no byte 10
pub last_line : (line : List ℕ) → IsOpen line → 0 < length line → lines_of line ≡ line ∷ []
last_line [] is_open some = absurd (omega arith)
last_line (b ∷ []) is_open some = open_byte b [] is_open.0
last_line (b ∷ c ∷ line) is_open some = open_byte b (c ∷ line) is_open.0 ∙ ap (with_first b) (last_line (c ∷ line) is_open.1 (omega arith))

-- what isn't empty has a byte
pub some_bytes : (bytes : List ℕ) → (length bytes == 0) ≡ false → 0 < length bytes
some_bytes [] none = absurd (let no : true ≡ false = none in cc)
some_bytes (b ∷ bytes) some = omega arith
