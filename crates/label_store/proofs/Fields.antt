-- The fields of an uberblock's sector are those that were written.
use Rattle.std.proofs.Common.{◌≡◌, ℕ, ◌+◌, ◌^◌, ◌<◌, List, ◌++◌, length, take, drop, refl, sym, ap, ◌∙◌, arith, append_assoc, length-append, Bool, true, false, subst}
use Rattle.std.proofs.lemmas.Nat.{from_be_bytes-to_be_bytes_8}
use Rattle.std.proofs.lemmas.List.{take_all, take_at, drop_at}
use Rattle.std.specs.Int.{from_be_bytes, w64}
use Rattle.sha2.specs.Sha256.{sha256}
use Rattle.sha2.proofs.Facts256.{length-sha256}
use Rattle.label_store.specs.declared.uberblock.Uberblock.{Uberblock}
use Rattle.label_store.specs.Uberblock.{be, number_at, uberblock_head, uberblock_bytes, fields_of, IsInRange, IsUberblock}

abbrev uberblock : (pool member number length : ℕ) → List ℕ → Uberblock
uberblock pool member number length sum = record { pool = record { 0 = pool }; member = record { 0 = member }; number = record { 0 = number }; length = length; sum = sum }

pub length-be : (n : ℕ) → length (be n) ≡ 8
unfolding be
length-be n = refl

piece_at : (front piece back : List ℕ) (n k : ℕ) → length front ≡ n → length piece ≡ k → take k (drop n (front ++ (piece ++ back))) ≡ piece
piece_at front piece back n k e f =
    ap (take k) (drop_at front (piece ++ back) n e) ∙ take_at piece back k f

third : (a b c d e f s z t : List ℕ) → length a ≡ 8 → length b ≡ 8 → length c ≡ 8
    → take 8 (drop 16 (a ++ b ++ c ++ d ++ e ++ f ++ s ++ z ++ t)) ≡ c
third a b c d e f s z t la lb lc =
    let is : a ++ b ++ c ++ d ++ e ++ f ++ s ++ z ++ t ≡ (a ++ b) ++ (c ++ (d ++ e ++ f ++ s ++ z ++ t)) = simp append_assoc in
    ap (λ l. take 8 (drop 16 l)) is ∙ piece_at (a ++ b) c _ 16 8 (omega (arith, length-append a b)) lc

fourth : (a b c d e f s z t : List ℕ) → length a ≡ 8 → length b ≡ 8 → length c ≡ 8 → length d ≡ 8
    → take 8 (drop 24 (a ++ b ++ c ++ d ++ e ++ f ++ s ++ z ++ t)) ≡ d
fourth a b c d e f s z t la lb lc ld =
    let is : a ++ b ++ c ++ d ++ e ++ f ++ s ++ z ++ t ≡ (a ++ b ++ c) ++ (d ++ (e ++ f ++ s ++ z ++ t)) = simp append_assoc in
    ap (λ l. take 8 (drop 24 l)) is ∙ piece_at (a ++ b ++ c) d _ 24 8 (omega (arith, length-append a b, length-append (a ++ b) c)) ld

fifth : (a b c d e f s z t : List ℕ) → length a ≡ 8 → length b ≡ 8 → length c ≡ 8 → length d ≡ 8 → length e ≡ 8
    → take 8 (drop 32 (a ++ b ++ c ++ d ++ e ++ f ++ s ++ z ++ t)) ≡ e
fifth a b c d e f s z t la lb lc ld le =
    let is : a ++ b ++ c ++ d ++ e ++ f ++ s ++ z ++ t ≡ (a ++ b ++ c ++ d) ++ (e ++ (f ++ s ++ z ++ t)) = simp append_assoc in
    ap (λ l. take 8 (drop 32 l)) is ∙ piece_at (a ++ b ++ c ++ d) e _ 32 8
    (omega (arith, length-append a b, length-append (a ++ b) c, length-append (a ++ b ++ c) d)) le

sixth : (a b c d e f s z t : List ℕ) → length a ≡ 8 → length b ≡ 8 → length c ≡ 8 → length d ≡ 8 → length e ≡ 8 → length f ≡ 8
    → take 8 (drop 40 (a ++ b ++ c ++ d ++ e ++ f ++ s ++ z ++ t)) ≡ f
sixth a b c d e f s z t la lb lc ld le lf =
    let is : a ++ b ++ c ++ d ++ e ++ f ++ s ++ z ++ t ≡ (a ++ b ++ c ++ d ++ e) ++ (f ++ (s ++ z ++ t)) = simp append_assoc in
    ap (λ l. take 8 (drop 40 l)) is ∙ piece_at (a ++ b ++ c ++ d ++ e) f _ 40 8
    (omega (arith, length-append a b, length-append (a ++ b) c, length-append (a ++ b ++ c) d, length-append (a ++ b ++ c ++ d) e)) lf

seventh : (a b c d e f s z t : List ℕ) → length a ≡ 8 → length b ≡ 8 → length c ≡ 8 → length d ≡ 8 → length e ≡ 8 → length f ≡ 8 → length s ≡ 32
    → take 32 (drop 48 (a ++ b ++ c ++ d ++ e ++ f ++ s ++ z ++ t)) ≡ s
seventh a b c d e f s z t la lb lc ld le lf ls =
    let is : a ++ b ++ c ++ d ++ e ++ f ++ s ++ z ++ t ≡ (a ++ b ++ c ++ d ++ e ++ f) ++ (s ++ (z ++ t)) = simp append_assoc in
    ap (λ l. take 32 (drop 48 l)) is ∙ piece_at (a ++ b ++ c ++ d ++ e ++ f) s _ 48 32
    (omega (arith, length-append a b, length-append (a ++ b) c, length-append (a ++ b ++ c) d, length-append (a ++ b ++ c ++ d) e, length-append (a ++ b ++ c ++ d ++ e) f)) ls

number_is : (at : ℕ) (bytes : List ℕ) (n : ℕ) → take 8 (drop at bytes) ≡ be n → n < 2 ^ 64 → number_at at bytes ≡ n
unfolding number_at be
number_is at bytes n e lt = ap (from_be_bytes w64) e ∙ from_be_bytes-to_be_bytes_8 n lt

same_parts : (p p' m m' n n' l l' : ℕ) (s s' : List ℕ) → p ≡ p' → m ≡ m' → n ≡ n' → l ≡ l' → s ≡ s'
    → uberblock p m n l s ≡ uberblock p' m' n' l' s'
same_parts p p' m m' n n' l l' s s' a b c d e = cc

pub fields_are : (u : Uberblock) → IsInRange u → fields_of (uberblock_bytes u) ≡ u
fields_are u r =
    let m = length-be 0xbab10c in
    let v = length-be 1 in
    let p = length-be u.pool.0 in
    let q = length-be u.member.0 in
    let n = length-be u.number.0 in
    let l = length-be u.length in
    same_parts _ _ _ _ _ _ _ _ _ _
    (number_is 16 _ u.pool.0 (third _ _ _ _ _ _ _ _ _ m v p) r.pool)
    (number_is 24 _ u.member.0 (fourth _ _ _ _ _ _ _ _ _ m v p q) r.member)
    (number_is 32 _ u.number.0 (fifth _ _ _ _ _ _ _ _ _ m v p q n) (omega (arith, r.number)))
    (number_is 40 _ u.length (sixth _ _ _ _ _ _ _ _ _ m v p q n l) (omega (arith, r.config)))
    (seventh _ _ _ _ _ _ _ _ _ m v p q n l r.sum)

-- a correct sector has the uberblock of its fields
pub is_of_fields : (u : Uberblock) (sector : List ℕ) → IsUberblock u sector → fields_of sector ≡ u
is_of_fields u sector is = ap fields_of is.bytes ∙ fields_are u is.in_range

pub out_of_range : (u : Uberblock) (sector : List ℕ) (found : Uberblock) (test : Bool) → found ≡ fields_of sector
    → (IsInRange found → test ≡ true) → test ≡ false → IsUberblock u sector → ⊥
out_of_range u sector found test e tells fails is =
    let same : found ≡ u = e ∙ is_of_fields u sector is in
    let t : test ≡ true = tells (subst IsInRange (sym same) is.in_range) in cc

pub other_bytes : (u : Uberblock) (sector : List ℕ) (found : Uberblock) (again : List ℕ) (test : Bool) → found ≡ fields_of sector
    → again ≡ uberblock_bytes found → (sector ≡ again → test ≡ true) → test ≡ false → IsUberblock u sector → ⊥
other_bytes u sector found again test e written tells fails is =
    let t : test ≡ true = tells (is.bytes ∙ sym (written ∙ ap uberblock_bytes (e ∙ is_of_fields u sector is))) in cc

-- the head, and then the last sum
pub written : (u : Uberblock) (out out' sum : List ℕ) → take 4064 out ≡ uberblock_head u → sum ≡ sha256 (take 4064 out)
    → take (4064 + length sum) out' ≡ take 4064 out ++ sum → length out' ≡ 4096 → out' ≡ uberblock_bytes u
written u out out' sum head is front long =
    let n : 4064 + length sum ≡ 4096 = omega (arith, ap length is, length-sha256 (take 4064 out)) in
    let all : take (4064 + length sum) out' ≡ out' = take_all (4064 + length sum) out' (omega arith) in
    sym all ∙ front ∙ ap (λ h. h ++ sum) head ∙ ap (λ s. uberblock_head u ++ s) (is ∙ ap sha256 head)
