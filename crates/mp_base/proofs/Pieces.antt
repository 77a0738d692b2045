-- Pieces of a stream.
use Rattle.std.proofs.Common.{◌≡◌, ℕ, ◌+◌, ◌-◌, ◌≤◌, List, ◌++◌, Some, length, take, drop, arith, ap, sym, ◌∙◌, length-take, length-drop}
use Rattle.std.proofs.lemmas.List.{take-append-drop, drop-drop, take_at}
use Rattle.mp_base.specs.Outside.{Given}

same_rest : (a b : List ℕ) → Some a ≡ Some b → a ≡ b
same_rest a b e = cc

-- what was left is the piece and what is left behind it
piece_left : (bytes : List ℕ) (at n : ℕ) → drop at bytes ≡ take n (drop at bytes) ++ drop (at + n) bytes
piece_left bytes at n = sym (ap (λ rest. take n (drop at bytes) ++ rest) (sym (drop-drop n at bytes)) ∙ take-append-drop n (drop at bytes))

-- a piece that was copied to the front of a buffer was given
pub piece_given : (bytes : List ℕ) (at n : ℕ) (piece tail : List ℕ) → at + n ≤ length bytes
    → piece ≡ take (at + n - at) (drop at bytes) → Given (Some (drop at bytes)) (Some (drop (at + n) bytes)) (take n (piece ++ tail))
piece_given bytes at n piece tail inside is =
    let count : at + n - at ≡ n = omega arith in
    let piece_is : piece ≡ take n (drop at bytes) = rw count at is in
    let long : length piece ≡ n = rw piece_is (simp (length-take, length-drop) (omega arith)) in
    record { by = λ rest e. rw (take_at piece tail n long, piece_is, ← same_rest _ _ e) (ap Some (piece_left bytes at n)) }
