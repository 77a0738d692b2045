-- Pieces that are put one behind another.
use Rattle.std.proofs.Common.{◌≡◌, ℕ, ◌+◌, ◌-◌, ◌≤◌, List, ◌++◌, length, take, refl, ap, ◌∙◌, arith, replicate}
use Rattle.std.proofs.lemmas.List.{length-replicate}
use Rattle.std.proofs.lemmas.Slice.{take-put_mid}
use borrow.Rule.Slice.PartMut.{put_mid}
use Rattle.mp_base.specs.Block.{zeros}

pub zeros_put : (xs ys : List ℕ) (a n m : ℕ) → ys ≡ replicate m 0 → m ≡ n → a + n ≤ length xs
    → take (a + n) (put_mid a (a + n - a) xs ys) ≡ take a xs ++ zeros n
unfolding zeros
zeros_put xs ys a n m is e inside =
    let long : length ys ≡ n = ap length is ∙ length-replicate m 0 ∙ e in
    let low : a ≤ length xs = omega arith in
    take-put_mid a (a + n - a) xs ys (a + n) (omega arith) low ∙ ap (λ z. take a xs ++ z) (rw (is, e) refl)

-- one more piece
pub put_next : (front piece out out' : List ℕ) (at n at' : ℕ) → take at out ≡ front → take (at + n) out' ≡ take at out ++ piece → at' ≡ at + n
    → take at' out' ≡ front ++ piece
put_next front piece out out' at n at' e more end = rw end (more ∙ ap (λ s. s ++ piece) e)

pub put_first : (piece out' : List ℕ) (n at' : ℕ) → take n out' ≡ piece → at' ≡ n → take at' out' ≡ piece
put_first piece out' n at' more end = rw end more
