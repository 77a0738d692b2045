-- Pieces that are put one behind another, and how long they are.
use Rattle.std.proofs.Common.{◌≡◌, ℕ, ◌+◌, ◌-◌, ◌≤◌, List, [], ◌∷◌, ◌++◌, length, take, refl, sym, ap, ◌∙◌, arith, replicate, append_assoc, length-append, Option, None, true, subst}
use Rattle.std.proofs.lemmas.List.{length-replicate, take_all}
use Rattle.std.proofs.lemmas.Slice.{take-put_mid}
use borrow.Rule.Slice.PartMut.{put_mid}
use Rattle.std.proofs.lemmas.Bool.{and_parts, leb-true}
use Rattle.std.specs.Prelude.{nat_le}
use Rattle.mp_base.specs.Block.{zeros}
use Rattle.mp_base.specs.Name.{is_name}
use Rattle.config_codec.specs.Pieces.{Puts}
use Rattle.config_codec.specs.Spelling.{be32, be64, text_bytes, pointer_bytes}
use Rattle.config_codec.specs.declared.config.Pointer.{Pointer}

pub length-be32 : (n : ℕ) → length (be32 n) ≡ 4
unfolding be32
length-be32 n = refl

pub length-be64 : (n : ℕ) → length (be64 n) ≡ 8
unfolding be64
length-be64 n = refl

pub length-text_bytes : (text : List ℕ) → length (text_bytes text) ≡ 1 + length text
unfolding text_bytes
length-text_bytes text = omega arith

pub length-zeros : (n : ℕ) → length (zeros n) ≡ n
unfolding zeros
length-zeros n = length-replicate n 0

pub puts_same : {old new a b : List ℕ} {at e : ℕ} → a ≡ b → Puts old at a new e → Puts old at b new e
puts_same {old} {new} {a} {b} {at} {e} same p = subst (λ t. Puts old at t new e) same p

-- one more piece
pub puts_next : {old mid new a b : List ℕ} {at m e : ℕ} → Puts old at a mid m → Puts mid m b new e → Puts old at (a ++ b) new e
puts_next {old} {mid} {new} {a} {b} {at} {m} {e} p q = record {
  front = q.front ∙ ap (λ s. s ++ b) p.front ∙ append_assoc (take at old) a b;
  stop = omega (arith, p.stop, q.stop, length-append a b);
}

pub zeros_put : (xs ys : List ℕ) (a n m : ℕ) → ys ≡ replicate m 0 → m ≡ n → a + n ≤ length xs
    → take (a + n) (put_mid a (a + n - a) xs ys) ≡ take a xs ++ zeros n
unfolding zeros
zeros_put xs ys a n m is e inside =
    let long : length ys ≡ n = ap length is ∙ length-replicate m 0 ∙ e in
    let low : a ≤ length xs = omega arith in
    take-put_mid a (a + n - a) xs ys (a + n) (omega arith) low ∙ ap (λ z. take a xs ++ z) (rw (is, e) refl)

pub name_short : (name : List ℕ) → is_name name ≡ true → length name ≤ 64
name_short name is =
    let some = and_parts (nat_le 1 (length name)) _ is in
    let short = and_parts (nat_le (length name) 64) _ some.1 in
    leb-true (length name) 64 short.0

pub puts_text : {old new text text' : List ℕ} {at e : ℕ} → text ≡ text' → Puts old at ((length text ∷ []) ++ text) new e → Puts old at (text_bytes text') new e
unfolding text_bytes
puts_text {old} {new} {text} {text'} {at} {e} same p = subst (λ t. Puts old at (length t ∷ t) new e) same p

pub puts_hole : {old new : List ℕ} {at e : ℕ} (slot : Option Pointer) → slot ≡ None → Puts old at (zeros 52) new e → Puts old at (pointer_bytes slot) new e
unfolding pointer_bytes
puts_hole {old} {new} {at} {e} slot is p = subst (λ s. Puts old at (pointer_bytes s) new e) (sym is) p

-- bytes at the front, and zeros to the end
pub fills : {old mid new bytes : List ℕ} {n e e' : ℕ} (all : ℕ) → Puts old 0 bytes mid e → Puts mid e (zeros n) new e' → e ≤ all → n ≡ all - e → length new ≡ all
    → new ≡ bytes ++ zeros (all - length bytes)
fills {old} {mid} {new} {bytes} {n} {e} {e'} all p q inside is long =
    let end : e' ≡ all = omega (arith, q.stop, length-zeros n) in
    let count : n ≡ all - length bytes = omega (arith, p.stop) in
    let whole : take e' new ≡ new = take_all e' new (omega arith) in
    sym whole ∙ q.front ∙ ap (λ s. s ++ zeros n) p.front ∙ ap (λ k. bytes ++ zeros k) count
