-- Pieces that are put one behind another, and how long they are.
use Rattle.std.proofs.Common.{◌≡◌, ℕ, ◌+◌, ◌-◌, ◌≤◌, List, [], ◌∷◌, ◌++◌, length, take, drop, refl, sym, ap, ◌∙◌, arith}
use Rattle.std.proofs.Common.{append_assoc, length-append, true, subst}
use Rattle.std.specs.List.{flat_map}
use Rattle.std.proofs.lemmas.List.{length-replicate, take_more, take-append-drop, append-nil, drop-drop}
use Rattle.std.proofs.lemmas.List.Concat.{flat_map-append}
use Rattle.std.proofs.lemmas.Slice.{take-put_mid, drop-put_mid}
use borrow.Rule.Slice.PartMut.{put_mid}
use Rattle.std.proofs.lemmas.Bool.{and_parts, leb-true}
use Rattle.std.specs.Prelude.{nat_le, get_or, ◌<◌}
use Rattle.mp_base.specs.Block.{zeros}
use Rattle.mp_base.specs.Name.{is_name}
use Rattle.pool_config.specs.Pieces.{Puts}
use Rattle.pool_config.specs.Spelling.{be32, be64, text_bytes, whole_sectors, laid}

pub length-be32 : (n : ℕ) → length (be32 n) ≡ 4
unfolding be32
length-be32 n = refl

pub length-be64 : (n : ℕ) → length (be64 n) ≡ 8
unfolding be64
length-be64 n = refl

pub length-text_bytes : (text : List ℕ) → length (text_bytes text) ≡ 1 + length text
unfolding text_bytes
length-text_bytes text = omega arith

pub length-zeros : (n : ℕ) → length (zeros n) ≡ n
unfolding zeros
length-zeros n = length-replicate n 0

-- a piece that is laid over a part
pub puts_mid : (xs ys piece : List ℕ) (a k e : ℕ) → ys ≡ piece → length ys ≡ k → e ≡ a + k → a + k ≤ length xs
    → Puts xs a piece (put_mid a k xs ys) e
puts_mid xs ys piece a k e is long end inside = record {
  front = take-put_mid a k xs ys e (omega arith) (omega arith) ∙ ap (λ s. take a xs ++ s) is;
  stop = omega (arith, ap length is);
  rest = drop-put_mid a k xs ys e (omega arith) (omega arith) long;
}

pub puts_same : {old new a b : List ℕ} {at e : ℕ} → a ≡ b → Puts old at a new e → Puts old at b new e
puts_same {old} {new} {a} {b} {at} {e} same p = subst (λ t. Puts old at t new e) same p

-- no piece
pub puts_none : (old : List ℕ) (at : ℕ) → Puts old at [] old at
puts_none old at = record { front = sym (append-nil (take at old)); stop = omega arith; rest = refl }

-- one more piece
pub puts_next : {old mid new a b : List ℕ} {at m e : ℕ} → Puts old at a mid m → Puts mid m b new e
    → Puts old at (a ++ b) new e
puts_next {old} {mid} {new} {a} {b} {at} {m} {e} p q =
    let end : length b + m ≡ e = omega (arith, q.stop) in
    let later : (s : List ℕ) → drop e s ≡ drop (length b) (drop m s) =
    λ s. sym (drop-drop (length b) m s ∙ ap (λ n. drop n s) (let n : m + length b ≡ e = omega (arith, q.stop) in n)) in
    record {
      front = q.front ∙ ap (λ s. s ++ b) p.front ∙ append_assoc (take at old) a b;
      stop = omega (arith, p.stop, q.stop, length-append a b);
      rest = q.rest ∙ later mid ∙ ap (drop (length b)) p.rest ∙ sym (later old);
    }

pub name_short : (name : List ℕ) → is_name name ≡ true → length name ≤ 64
name_short name is =
    let some = and_parts (nat_le 1 (length name)) _ is in
    let short = and_parts (nat_le (length name) 64) _ some.1 in
    leb-true (length name) 64 short.0

pub puts_text : {old new text text' : List ℕ} {at e : ℕ} → text ≡ text' → Puts old at ((length text ∷ []) ++ text) new e
    → Puts old at (text_bytes text') new e
unfolding text_bytes
puts_text {old} {new} {text} {text'} {at} {e} same p = subst (λ t. Puts old at (length t ∷ t) new e) same p

-- the pieces of one item more of a list
pub puts_item : {A : Type 0} (f : A → List ℕ) (items : List A) (i : ℕ) (item : A) {old mid new : List ℕ} {at m e : ℕ}
    → i < length items → item ≡ get_or items i item
    → Puts old at (flat_map f (take i items)) mid m → Puts mid m (f item) new e
    → Puts old at (flat_map f (take (i + 1) items)) new e
puts_item {A} f items i item {old} {mid} {new} {at} {m} {e} inside is p q =
    let more : flat_map f (take i items) ++ f item ≡ flat_map f (take (i + 1) items) =
    sym (ap (flat_map f) (take_more items i item inside) ∙ flat_map-append f (take i items) (get_or items i item ∷ [])
    ∙ ap (λ s. flat_map f (take i items) ++ s) (append-nil (f (get_or items i item)) ∙ sym (ap f is))) in
    puts_same more (puts_next p q)

-- bytes at the front, zeros to the end of their last sector, and the rest as it was
pub laid_is : (old new bytes : List ℕ) (n e : ℕ) → Puts old 0 (bytes ++ zeros n) new e
    → n ≡ whole_sectors (length bytes) - length bytes → e ≡ whole_sectors (length bytes)
    → new ≡ laid bytes old
unfolding laid
laid_is old new bytes n e p count end =
    sym (take-append-drop e new) ∙ ap (λ s. s ++ drop e new) p.front ∙ ap (λ s. (bytes ++ zeros n) ++ s) p.rest
    ∙ ap (λ k. (bytes ++ zeros k) ++ drop e old) count
    ∙ ap (λ k. (bytes ++ zeros (whole_sectors (length bytes) - length bytes)) ++ drop k old) end
