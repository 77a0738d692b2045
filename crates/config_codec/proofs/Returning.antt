-- What is written is read back.
use Rattle.std.proofs.Common.{◌≡◌, ℕ, ◌*◌, ◌<◌, List, ◌∷◌, ◌++◌, length, drop, sym, ap, ◌∙◌, arith, append_assoc, Option, Some}
use Rattle.std.specs.Prelude.{slice_get}
use Rattle.std.specs.List.{flat_map}
use Rattle.std.proofs.lemmas.Option.{slice_get_within}
use Rattle.std.proofs.lemmas.List.{drop_at}
use Rattle.config_codec.specs.declared.config.LeafConfig.{LeafConfig}
use Rattle.config_codec.specs.declared.config.Pointer.{Pointer}
use Rattle.config_codec.specs.Fields.{Fields}
use Rattle.config_codec.specs.Validity.{IsValid}
use Rattle.config_codec.specs.Spelling.{be32, be64, text_bytes, pointer_bytes, leaf_bytes, head_bytes, tops_bytes, config_bytes}
use Rattle.config_codec.specs.Reading.{number_in, text_in, behind_text, pointers_in, leaf_in, behind_leaf, from_pool, from_name, from_blocks, from_number, from_next_member, from_pointers, from_tops, from_sectors, from_mirror, from_first, from_second, fields_of}
use Rattle.config_codec.proofs.Suffixes.{number_is, behind_number, behind_count, text_is, behind_text_is, IsKeptLeaf, leaf_is, behind_leaf_is, IsKept, AreKept, length-pointers, pointers_are}

-- the bytes from each field on
abbrev rest_second : Fields → List ℕ
rest_second c = leaf_bytes c.second ++ be32 0

abbrev rest_first : Fields → List ℕ
rest_first c = leaf_bytes c.first ++ rest_second c

abbrev rest_mirror : Fields → List ℕ
rest_mirror c = be64 c.mirror.0 ++ (2 ∷ rest_first c)

abbrev rest_sectors : Fields → List ℕ
rest_sectors c = be64 c.sectors ++ (1 ∷ rest_mirror c)

abbrev rest_tops : Fields → List ℕ
rest_tops c = be32 1 ++ rest_sectors c

abbrev rest_pointers : Fields → List ℕ
rest_pointers c = flat_map pointer_bytes c.pointers ++ rest_tops c

abbrev rest_next_member : Fields → List ℕ
rest_next_member c = be64 c.next_member ++ rest_pointers c

abbrev rest_number : Fields → List ℕ
rest_number c = be64 c.number.0 ++ rest_next_member c

abbrev rest_blocks : Fields → List ℕ
rest_blocks c = be64 c.blocks ++ rest_number c

abbrev rest_name : Fields → List ℕ
rest_name c = text_bytes c.name ++ rest_blocks c

abbrev rest_pool : Fields → List ℕ
rest_pool c = be64 c.pool.0 ++ rest_name c

six : (a b c d e f x : List ℕ) → (a ++ b ++ c ++ d ++ e ++ f) ++ x ≡ a ++ (b ++ (c ++ (d ++ (e ++ (f ++ x)))))
six a b c d e f x = simp append_assoc

five : (a b c d e x : List ℕ) → (a ++ b ++ c ++ d ++ e) ++ x ≡ a ++ (b ++ (c ++ (d ++ (e ++ x))))
five a b c d e x = simp append_assoc

three : (a b c x : List ℕ) → a ++ b ++ c ++ x ≡ a ++ (b ++ (c ++ x))
three a b c x = simp append_assoc

split_tops : (c : Fields) → tops_bytes c ++ be32 0 ≡ rest_tops c
unfolding tops_bytes
split_tops c = five (be32 1) (be64 c.sectors) (1 ∷ be64 c.mirror.0) (2 ∷ leaf_bytes c.first) (leaf_bytes c.second) (be32 0)

split_head : (c : Fields) (x : List ℕ)
    → head_bytes c ++ x ≡ be32 1 ++ (be64 c.pool.0 ++ (text_bytes c.name ++ (be64 c.blocks ++ (be64 c.number.0 ++ (be64 c.next_member ++ x)))))
unfolding head_bytes
split_head c x = six (be32 1) (be64 c.pool.0) (text_bytes c.name) (be64 c.blocks) (be64 c.number.0) (be64 c.next_member) x

split : (c : Fields) → config_bytes c ≡ be32 1 ++ rest_pool c
unfolding config_bytes
split c =
    let pointers = flat_map pointer_bytes c.pointers in
    three (head_bytes c) pointers (tops_bytes c) (be32 0)
    ∙ ap (λ t. head_bytes c ++ (pointers ++ t)) (split_tops c)
    ∙ split_head c (pointers ++ rest_tops c)

at_pool : (c : Fields) → from_pool (config_bytes c) ≡ rest_pool c
at_pool c = ap (drop 4) (split c) ∙ behind_count 1 (rest_pool c)

at_name : (c : Fields) → from_name (config_bytes c) ≡ rest_name c
at_name c = ap (drop 8) (at_pool c) ∙ behind_number c.pool.0 (rest_name c)

at_blocks : (c : Fields) → from_blocks (config_bytes c) ≡ rest_blocks c
at_blocks c = ap behind_text (at_name c) ∙ behind_text_is c.name (rest_blocks c)

at_number : (c : Fields) → from_number (config_bytes c) ≡ rest_number c
at_number c = ap (drop 8) (at_blocks c) ∙ behind_number c.blocks (rest_number c)

at_next_member : (c : Fields) → from_next_member (config_bytes c) ≡ rest_next_member c
at_next_member c = ap (drop 8) (at_number c) ∙ behind_number c.number.0 (rest_next_member c)

at_pointers : (c : Fields) → from_pointers (config_bytes c) ≡ rest_pointers c
at_pointers c = ap (drop 8) (at_next_member c) ∙ behind_number c.next_member (rest_pointers c)

kept_pointer : (c : Fields) → IsValid c → (a : ℕ) (p : Pointer) → slice_get c.pointers a ≡ Some (Some p) → IsKept p
kept_pointer c v a p e =
    let is = v.pointers a p e in
    let inside : a < length c.pointers = slice_get_within c.pointers a (Some p) e in
    record {
      some = is.birth.0;
      birth = omega (arith, is.birth.1, v.number.1);
      sector = omega (arith, is.sector, inside, v.counted, v.blocks.1);
      sum = is.sum;
    }

pub all_kept : (c : Fields) → IsValid c → AreKept c.pointers
all_kept c v = kept_pointer c v

blocks_are : (c : Fields) → IsValid c → number_in (from_blocks (config_bytes c)) ≡ c.blocks
blocks_are c v = ap number_in (at_blocks c) ∙ number_is c.blocks (rest_number c) (omega (arith, v.blocks.1))

at_tops : (c : Fields) → IsValid c → from_tops (config_bytes c) ≡ rest_tops c
at_tops c v =
    let long : length (flat_map pointer_bytes c.pointers) ≡ 52 * c.blocks = length-pointers c.pointers (all_kept c v) ∙ ap (λ n. 52 * n) v.counted in
    ap (λ n. drop (52 * n) (from_pointers (config_bytes c))) (blocks_are c v) ∙ ap (drop (52 * c.blocks)) (at_pointers c)
    ∙ drop_at (flat_map pointer_bytes c.pointers) (rest_tops c) (52 * c.blocks) long

at_sectors : (c : Fields) → IsValid c → from_sectors (from_tops (config_bytes c)) ≡ rest_sectors c
at_sectors c v = ap (drop 4) (at_tops c v) ∙ behind_count 1 (rest_sectors c)

at_mirror : (c : Fields) → IsValid c → from_mirror (from_tops (config_bytes c)) ≡ rest_mirror c
at_mirror c v = ap (λ s. drop 1 (drop 8 s)) (at_sectors c v) ∙ ap (drop 1) (behind_number c.sectors (1 ∷ rest_mirror c))

at_first : (c : Fields) → IsValid c → from_first (from_tops (config_bytes c)) ≡ rest_first c
at_first c v = ap (λ s. drop 1 (drop 8 s)) (at_mirror c v) ∙ ap (drop 1) (behind_number c.mirror.0 (2 ∷ rest_first c))

first_kept : (c : Fields) → IsValid c → IsKeptLeaf c.number.0 c.first
first_kept c v = record {
  member = omega (arith, v.first.1, v.next_member);
  few = omega (arith, v.few_ranges);
  rise = v.first_log;
  last = omega (arith, v.number.1);
}

second_kept : (c : Fields) → IsValid c → IsKeptLeaf c.number.0 c.second
second_kept c v = record {
  member = omega (arith, v.second.1, v.next_member);
  few = omega (arith, v.few_ranges);
  rise = v.second_log;
  last = omega (arith, v.number.1);
}

at_second : (c : Fields) → IsValid c → from_second (from_tops (config_bytes c)) ≡ rest_second c
at_second c v = ap behind_leaf (at_first c v) ∙ behind_leaf_is c.first (rest_second c) (first_kept c v).few

pointers_back : (c : Fields) → IsValid c → pointers_in (number_in (from_blocks (config_bytes c))) (from_pointers (config_bytes c)) ≡ c.pointers
pointers_back c v =
    ap (λ n. pointers_in n (from_pointers (config_bytes c))) (blocks_are c v ∙ sym v.counted)
    ∙ ap (pointers_in (length c.pointers)) (at_pointers c) ∙ pointers_are c.pointers (rest_tops c) (all_kept c v)

abbrev pub fields_with : (pool : ℕ) → List ℕ → (blocks number next_member : ℕ) → List (Option Pointer) → (sectors mirror : ℕ) → (first second : LeafConfig) → Fields
fields_with pool name blocks number next_member pointers sectors mirror first second = record {
  pool = record { 0 = pool };
  name = name;
  blocks = blocks;
  number = record { 0 = number };
  next_member = next_member;
  pointers = pointers;
  sectors = sectors;
  mirror = record { 0 = mirror };
  first = first;
  second = second;
}

pub same_fields : (p p' : ℕ) (n n' : List ℕ) (b b' k k' m m' : ℕ) (s s' : List (Option Pointer)) (t t' r r' : ℕ) (x x' y y' : LeafConfig)
    → p ≡ p' → n ≡ n' → b ≡ b' → k ≡ k' → m ≡ m' → s ≡ s' → t ≡ t' → r ≡ r' → x ≡ x' → y ≡ y'
    → fields_with p n b k m s t r x y ≡ fields_with p' n' b' k' m' s' t' r' x' y'
same_fields p p' n n' b b' k k' m m' s s' t t' r r' x x' y y' e1 e2 e3 e4 e5 e6 e7 e8 e9 e10 = cc

pub fields_are : (c : Fields) → IsValid c → fields_of (config_bytes c) ≡ c
unfolding fields_of
fields_are c v = same_fields _ _ _ _ _ _ _ _ _ _ _ _ _ _ _ _ _ _ _ _
    (ap number_in (at_pool c) ∙ number_is c.pool.0 (rest_name c) (omega (arith, v.pool.1)))
    (ap text_in (at_name c) ∙ text_is c.name (rest_blocks c))
    (blocks_are c v)
    (ap number_in (at_number c) ∙ number_is c.number.0 (rest_next_member c) (omega (arith, v.number.1)))
    (ap number_in (at_next_member c) ∙ number_is c.next_member (rest_pointers c) (omega (arith, v.next_member)))
    (pointers_back c v)
    (ap number_in (at_sectors c v) ∙ number_is c.sectors (1 ∷ rest_mirror c) (omega (arith, v.sectors.1)))
    (ap number_in (at_mirror c v) ∙ number_is c.mirror.0 (2 ∷ rest_first c) (omega (arith, v.mirror.1, v.next_member)))
    (ap leaf_in (at_first c v) ∙ leaf_is c.number.0 c.first (rest_second c) (first_kept c v))
    (ap leaf_in (at_second c v) ∙ leaf_is c.number.0 c.second (be32 0) (second_kept c v))
