-- Bytes that come to stand in a file, or are read from it, piece by piece.
use Rattle.std.proofs.Common.{◌+◌, ◌-◌, ◌++◌, ◌≡◌, ℕ, ◌<◌, ◌≤◌, List, length, take, drop, get_or, Some, sym, ap, ◌∙◌, arith, subst, ⊎_elim, get_or-drop, get_or-take, length-take-le}
use Rattle.std.proofs.lemmas.Bool.{cases_lt}
use Rattle.std.proofs.lemmas.List.{get_or_append_left, get_or-append_right}
use Rattle.std.specs.Prelude.{slice_index}
use Rattle.bank_files.specs.Told.{Told, StaysAt, Stands, Touches}

stays_again : (old mid new : Told) (place : ℕ) → StaysAt old mid place → StaysAt mid new place → StaysAt old new place
stays_again old mid new place first then = record {
  held = then.held ∙ first.held;
  stable = then.stable ∙ first.stable;
}

-- a piece inside of the places that may change
pub touches_more : (old mid new : Told) (at n done : ℕ) → done ≤ n → Touches old mid at n → Touches mid new (at + done) (n - done) → Touches old new at n
touches_more old mid new at n done most first then = record {
  before = λ place less. stays_again old mid new place (first.before place less) (then.before place (omega arith));
  behind = λ place past. stays_again old mid new place (first.behind place past) (then.behind place (omega arith));
}

-- a piece behind the bytes that stand
pub stands_more : (old new : Told) (at : ℕ) (bytes : List ℕ) (done n rest : ℕ)
    → Stands old at bytes done → Touches old new (at + done) rest → Stands new (at + done) (drop done bytes) n
    → Stands new at bytes (done + n)
stands_more old new at bytes done n rest front touches piece i less byte is =
    ⊎_elim {A = i < done} {B = done ≤ i}
    (λ before. front i before byte (sym (touches.before (at + i) (omega arith)).held ∙ is))
    (λ behind. let same : done + (i - done) ≡ i = omega arith in
    let there : at + i ≡ at + done + (i - done) = omega arith in
    piece (i - done) (omega arith) byte (subst (λ place. new.held place ≡ Some byte) there is)
    ∙ get_or-drop done bytes (i - done) 0 ∙ ap (λ k. get_or bytes k 0) same)
    (cases_lt i done)

-- a piece that is read behind those that were
pub reads_more : (told : Told) (at : ℕ) (out piece rest : List ℕ) (done n : ℕ) → done ≤ length out → n ≤ length piece
    → Stands told at out done → Stands told (at + done) piece n → Stands told at (take done out ++ (piece ++ rest)) (done + n)
reads_more told at out piece rest done n most bound front then i less byte is =
    let len = length-take-le done out most in
    ⊎_elim {A = i < done} {B = done ≤ i}
    (λ before. front i before byte is
    ∙ sym (get_or_append_left (take done out) (piece ++ rest) 0 i (omega (arith, len)) ∙ get_or-take done out i 0 before))
    (λ behind. let there : at + i ≡ at + done + (i - done) = omega arith in
    then (i - done) (omega arith) byte (subst (λ place. told.held place ≡ Some byte) there is)
    ∙ sym (get_or-append_right (take done out) (piece ++ rest) done i 0 len behind
    ∙ get_or_append_left piece rest 0 (i - done) (omega arith)))
    (cases_lt i done)
