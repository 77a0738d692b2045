-- Laws of cutting words: what is cut was joined by a space, and what is joined is cut again.
use Rattle.std.proofs.Common.{◌≡◌, ℕ, suc, ◌+◌, ◌<◌, Bool, true, false, ◌⊎◌, inl, inr, List, [], ◌∷◌, ◌++◌, length, take, drop, get_or, Option, Some, None, refl, sym, ap, ◌∙◌, arith, add-one, drop-cons, length-append}
use Rattle.std.specs.Prelude.{IsTrue, ◌&&◌, not, nat_le, option_map, cond, codes}
use Rattle.std.specs.List.{list_all, position, position_or_len}
use Rattle.std.proofs.Math.Seq.{drop-append-add, take-append_seam}
use Rattle.std.proofs.lemmas.Bool.{and_from, and_parts, cond-true, eqb-true, lt-ltb}
use Rattle.std.proofs.lemmas.List.{take-append-drop}
use Rattle.std.proofs.lemmas.List.Quantifiers.{position-Some}
use Rattle.std.proofs.lemmas.Option.{cond_some, same_Some}
use Rattle.std.proofs.lemmas.Slice.Eq.{bytes_eq-Decides}
use Rattle.std.specs.Str.{bytes_eq}
use Rattle.mp_base.specs.Name.{is_name, is_name_byte, is_name_start, is_word}
use Rattle.pool_wire.specs.Reading.{after_word, cut_word, is_space, name_of, ◌>>=◌}

-- an option that a step followed
pub bind_some : {A B : Type 0} (o : Option A) (f : A → Option B) (y : B) → (o >>= f) ≡ Some y
    → (x : A) × (o ≡ Some x) × (f x ≡ Some y)
bind_some (Some x) f y e = (x, refl, e)
bind_some None f y e = cc e

pub mapped_some : {A B : Type 0} (f : A → B) (o : Option A) (y : B) → option_map f o ≡ Some y → (x : A) × (o ≡ Some x) × (f x ≡ y)
mapped_some f (Some x) y e = (x, refl, same_Some _ _ e)
mapped_some f None y e = cc e

-- which way a test went
pub chosen : {A : Type 0} (b : Bool) (x y z : A) → cond b x y ≡ z → ((b ≡ true) × (x ≡ z)) ⊎ ((b ≡ false) × (y ≡ z))
chosen true x y z e = inl (refl, e)
chosen false x y z e = inr (refl, e)

pub chosen_some : {A : Type 0} (b : Bool) (o : Option A) (y : A) → cond b o None ≡ Some y → (b ≡ true) × (o ≡ Some y)
chosen_some true o y e = (refl, e)
chosen_some false o y e = cc e

-- no byte is a space
abbrev pub is_plain : List ℕ → Bool
is_plain text = list_all (λ b. not (is_space b)) text

-- each element that passes the one test passes the other
pub all_weaker : (p q : ℕ → Bool) → ((b : ℕ) → p b ≡ true → q b ≡ true) → (text : List ℕ) → list_all p text ≡ true → list_all q text ≡ true
all_weaker p q step [] h = refl
all_weaker p q step (b ∷ bs) h =
    let parts = and_parts (p b) (list_all p bs) h in
    and_from (q b) (list_all q bs) (step b parts.0) (all_weaker p q step bs parts.1)

-- the first space of a plain word and a space is behind the word
first_space : (word rest : List ℕ) → is_plain word ≡ true → position_or_len is_space (word ++ 32 ∷ rest) ≡ length word
first_space [] rest h = refl
first_space (b ∷ bs) rest h =
    let parts = and_parts (not (is_space b)) (is_plain bs) h in
    rw (parts.0, first_space bs rest parts.1) (omega arith)

-- what was joined by a space is cut again
pub cut_again : (word rest : List ℕ) → is_plain word ≡ true → cut_word (word ++ 32 ∷ rest) ≡ Some (word, rest)
unfolding cut_word
cut_again word rest plain =
    let first = first_space word rest plain in
    let within : length word < length (word ++ 32 ∷ rest) = simp length-append (omega arith) in
    let place : position is_space (word ++ 32 ∷ rest) ≡ Some (length word) = rw first (cond-true _ _ _ (lt-ltb _ _ within)) in
    rw (place, take-append_seam word (32 ∷ rest), drop-append-add word (32 ∷ rest) 1) refl

-- what is cut was joined by a space
pub cut_found : (text : List ℕ) (cut : List ℕ × List ℕ) → cut_word text ≡ Some cut → text ≡ cut.0 ++ 32 ∷ cut.1
unfolding cut_word
cut_found text cut e =
    let m = mapped_some (λ at. (take at text, drop (at + 1) text)) (position is_space text) cut e in
    let at : ℕ = m.0 in
    let facts = position-Some is_space text at 0 m.1 in
    let space : get_or text at 0 ≡ 32 = eqb-true _ _ facts.1 in
    let rest : drop at text ≡ 32 ∷ drop (at + 1) text = rw add-one (drop-cons text at 0 facts.0 ∙ ap (λ b. b ∷ drop (suc at) text) space) in
    rw (← m.2) (sym (take-append-drop at text) ∙ ap (λ t. take at text ++ t) rest)

-- a name has no space
pub name_plain : (name : List ℕ) → IsTrue (is_name name) → is_plain name ≡ true
name_plain name h =
    let a = and_parts (nat_le 1 (length name)) (nat_le (length name) 64 && (is_name_start (get_or name 0 0) && (list_all is_name_byte name && not (is_word name)))) h in
    let b = and_parts (nat_le (length name) 64) (is_name_start (get_or name 0 0) && (list_all is_name_byte name && not (is_word name))) a.1 in
    let c = and_parts (is_name_start (get_or name 0 0)) (list_all is_name_byte name && not (is_word name)) b.1 in
    let d = and_parts (list_all is_name_byte name) (not (is_word name)) c.1 in
    all_weaker is_name_byte (λ b. not (is_space b)) name_byte_plain name d.0
  where
    name_byte_plain : (b : ℕ) → is_name_byte b ≡ true → not (is_space b) ≡ true
    name_byte_plain b h = grind arith

pub name_found : (text name : List ℕ) → name_of text ≡ Some name → IsTrue (is_name name) × (text ≡ name)
unfolding name_of
name_found text name e =
    let s = cond_some (is_name text) text name e in
    (rw s.1 at s.0, s.1)

pub name_again : (name : List ℕ) → IsTrue (is_name name) → name_of name ≡ Some name
unfolding name_of
name_again name h = rw h refl

-- bytes that compare alike
pub same_bytes : (a b : List ℕ) → bytes_eq a b ≡ true → a ≡ b
same_bytes a b h = (bytes_eq-Decides a b).0 h

pub after_found : (word text rest : List ℕ) → after_word word text ≡ Some rest → text ≡ word ++ 32 ∷ rest
unfolding after_word
after_found word text rest e =
    let cut = bind_some (cut_word text) _ rest e in
    let s = cond_some (bytes_eq cut.0.0 word) cut.0.1 rest cut.2 in
    let same = same_bytes cut.0.0 word s.0 in
    cut_found text cut.0 cut.1 ∙ ap (λ w. w ++ 32 ∷ cut.0.1) same ∙ ap (λ r. word ++ 32 ∷ r) s.1

pub mirror_again : (rest : List ℕ) → after_word (codes "mirror") (codes "mirror " ++ rest) ≡ Some rest
unfolding after_word
mirror_again rest = rw (cut_again (codes "mirror") rest refl) refl
