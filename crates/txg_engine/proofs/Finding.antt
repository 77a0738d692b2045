-- Items by rising keys: where one is, and what its key has.
use Rattle.std.proofs.Common.{◌≡◌, ◌≢◌, ◌⊎◌, inl, inr, ℕ, zero, suc, ◌+◌, ◌/◌, ◌<◌, ◌≤◌, ◌==◌, ◌&&◌}
use Rattle.std.proofs.Common.{cond, Bool, true, false, List, [], ◌∷◌, length, get_or, Option, Some, None}
use Rattle.std.proofs.Common.{Result, Ok, Err, Ordering, Less, Equal, Greater}
use Rattle.std.proofs.Common.{refl, sym, ap, ◌∙◌, subst, arith, ⊎_elim}
use Rattle.std.specs.Prelude.{All, IfSome, IfNone}
use Rattle.std.specs.List.Sorted.{IsBinarySearchResult}
use Rattle.std.specs.Ordering.{nat_cmp, ordering_index, ordering_then}
use Rattle.std.specs.Result.{MatchResult, result_ok}
use Rattle.std.proofs.lemmas.Bool.Decides.{nat_tests}
use Rattle.std.proofs.lemmas.List.Elements.{All-head, All-tail}
use Rattle.std.proofs.lemmas.Option.{none-some, same_Some}
use Rattle.std.specs.Option.{unwrap_or}
use Rattle.mp_base.specs.declared.place.Key.{Key}
use Rattle.mp_base.specs.declared.place.Pointer.{Pointer}
use Rattle.block_map.specs.Keys.{IsBefore, IsKey, keys_at, root}
use Rattle.block_map.specs.Pointers.{hole, written}
use Rattle.txg_history.specs.Groups.{same_key}
use Rattle.txg_history.specs.Records.{key}
use Rattle.txg_engine.specs.declared.item.Item.{Item}
use Rattle.txg_engine.specs.Frozen.{KeysRise}
use Rattle.txg_engine.specs.Items.{IsItemAt, laid, put, frozen_block}

abbrev pub key_cmp : Key → Key → Ordering
key_cmp a b = ordering_then (nat_cmp a.level b.level) (nat_cmp a.index b.index)

equal_is : (a b : ℕ) → nat_cmp a b ≡ Equal → a ≡ b
equal_is a b is = grind (arith, nat_tests)

bigger : (a b : ℕ) → b < a → nat_cmp a b ≡ Greater
bigger a b lt = grind (arith, nat_tests)

itself : (a : ℕ) → nat_cmp a a ≡ Equal
itself a = grind (arith, nat_tests)

higher : (a b x : ℕ) → a ≤ b → ordering_index (nat_cmp a x) ≤ ordering_index (nat_cmp b x)
higher a b x le = grind (arith, nat_tests)

either : (a b x : ℕ) → a < b → (nat_cmp a x ≡ Less) ⊎ (nat_cmp b x ≡ Greater)
either a b x lt = one (nat_cmp a x) refl
  where
    one : (o : Ordering) → nat_cmp a x ≡ o → (nat_cmp a x ≡ Less) ⊎ (nat_cmp b x ≡ Greater)
    one Less e = inl e
    one Equal e = inr (bigger b x (omega (arith, lt, equal_is a x e)))
    one Greater e = inr (above e)
      where
        above : nat_cmp a x ≡ Greater → nat_cmp b x ≡ Greater
        above e = grind (arith, nat_tests)

most : (o : Ordering) → ordering_index o ≤ 2
most Less = omega arith
most Equal = omega arith
most Greater = omega arith

by_level : (p p' q q' : Ordering) → (p ≡ Less) ⊎ (p' ≡ Greater)
    → ordering_index (ordering_then p q) ≤ ordering_index (ordering_then p' q')
by_level p p' q q' (inl e) = rw e (omega arith)
by_level p p' q q' (inr e) = rw e (most (ordering_then p q))

by_index : (p q q' : Ordering) → ordering_index q ≤ ordering_index q'
    → ordering_index (ordering_then p q) ≤ ordering_index (ordering_then p q')
by_index Less q q' le = omega arith
by_index Equal q q' le = le
by_index Greater q q' le = omega arith

rises : (a b k : Key) → IsBefore a b → ordering_index (key_cmp a k) ≤ ordering_index (key_cmp b k)
rises a b k (inl lt) =
    by_level (nat_cmp a.level k.level) (nat_cmp b.level k.level) (nat_cmp a.index k.index) (nat_cmp b.index k.index)
    (either a.level b.level k.level lt)
rises a b k (inr same) =
    let rest = nat_cmp b.index k.index in
    subst (λ l. ordering_index (key_cmp a k) ≤ ordering_index (ordering_then (nat_cmp l k.level) rest)) same.0
    (by_index (nat_cmp a.level k.level) (nat_cmp a.index k.index) (nat_cmp b.index k.index)
    (higher a.index b.index k.index (omega (arith, same.1))))

then_equal : (p q : Ordering) → ordering_then p q ≡ Equal → (p ≡ Equal) × (q ≡ Equal)
then_equal Less q e = let i = ap ordering_index e in absurd (omega arith)
then_equal Equal q e = (refl, e)
then_equal Greater q e = let i = ap ordering_index e in absurd (omega arith)

same_parts : (j k : Key) → j.level ≡ k.level → j.index ≡ k.index → j ≡ k
same_parts j k level index =
    let one : j ≡ record { level = k.level; index = j.index } = ap (λ l. record { level = l; index = j.index }) level in
    let other : record { level = k.level; index = j.index } ≡ k =
    ap (λ i. record { level = k.level; index = i }) index in
    one ∙ other

equal_keys : (j k : Key) → key_cmp j k ≡ Equal → j ≡ k
equal_keys j k e =
    let parts = then_equal (nat_cmp j.level k.level) (nat_cmp j.index k.index) e in
    same_parts j k (equal_is j.level k.level parts.0) (equal_is j.index k.index parts.1)

itself_key : (k : Key) → key_cmp k k ≡ Equal
itself_key k = ap (λ o. ordering_then o (nat_cmp k.index k.index)) (itself k.level) ∙ itself k.index

not_same : (j k : Key) (o : Ordering) → key_cmp j k ≡ o → (o ≡ Equal → ⊥) → j ≢ k
not_same j k o e other same = other (sym e ∙ ap (λ i. key_cmp i k) same ∙ itself_key k)

less_not : Less ≡ Equal → ⊥
less_not e = let i = ap ordering_index e in absurd (omega arith)

greater_not : Greater ≡ Equal → ⊥
greater_not e = let i = ap ordering_index e in absurd (omega arith)

before_trans : (a b c : Key) → IsBefore a b → IsBefore b c → IsBefore a c
before_trans a b c (inl p) (inl q) = inl (omega (arith, p, q))
before_trans a b c (inl p) (inr q) = inl (omega (arith, p, q.0))
before_trans a b c (inr p) (inl q) = inl (omega (arith, p.0, q))
before_trans a b c (inr p) (inr q) = inr (p.0 ∙ q.0, omega (arith, p.1, q.1))

not_before : (a b : Key) → IsBefore a b → a ≢ b
not_before a b (inl p) same = absurd (omega (arith, p, ap (λ (k : Key). k.level) same))
not_before a b (inr p) same = absurd (omega (arith, p.1, ap (λ (k : Key). k.index) same))

rise_tail : (x : Item) (items : List Item) → KeysRise (x ∷ items) → KeysRise items
rise_tail x [] rise = tt
rise_tail x (y ∷ items) rise = rise.1

first_before : (x : Item) (items : List Item) (j : ℕ) (d : Item) → KeysRise (x ∷ items) → j < length items
    → IsBefore x.key (get_or items j d).key
first_before x [] j d rise inside = absurd (omega arith)
first_before x (y ∷ items) zero d rise inside = rise.0
first_before x (y ∷ items) (suc j) d rise inside =
    before_trans x.key y.key (get_or items j d).key rise.0 (first_before y items j d rise.1 (omega arith))

pairs_before : (items : List Item) (i j : ℕ) (d : Item) → KeysRise items → i < j → j < length items
    → IsBefore (get_or items i d).key (get_or items j d).key
pairs_before [] i j d rise lt inside = absurd (omega arith)
pairs_before (x ∷ items) zero zero d rise lt inside = absurd (omega arith)
pairs_before (x ∷ items) zero (suc j) d rise lt inside = first_before x items j d rise (omega arith)
pairs_before (x ∷ items) (suc i) zero d rise lt inside = absurd (omega arith)
pairs_before (x ∷ items) (suc i) (suc j) d rise lt inside =
    pairs_before items i j d (rise_tail x items rise) (omega arith) (omega arith)

never_falls : (items : List Item) (k : Key) (i j : ℕ) (d : Item) → KeysRise items → i ≤ j → j < length items
    → ordering_index (key_cmp (get_or items i d).key k) ≤ ordering_index (key_cmp (get_or items j d).key k)
never_falls items k i j d rise le inside =
    ⊎_elim (λ lt. rises (get_or items i d).key (get_or items j d).key k (pairs_before items i j d rise lt inside))
    (λ same. let alike = ap (λ n. ordering_index (key_cmp (get_or items n d).key k)) same in omega (arith, alike))
    (cases_of i j le)
  where
    cases_of : (i j : ℕ) → i ≤ j → (i < j) ⊎ (i ≡ j)
    cases_of zero zero le = inr refl
    cases_of zero (suc j) le = inl (omega arith)
    cases_of (suc i) zero le = absurd (omega arith)
    cases_of (suc i) (suc j) le =
        ⊎_elim (λ lt. inl (omega (arith, lt))) (λ e. inr (ap suc e)) (cases_of i j (omega arith))

-- what a binary search by keys answers
abbrev pub Found : List Item → Key → Result ℕ ℕ → Type 0
Found items k (Ok at) = IsItemAt items k at
Found items k (Err at) = All (λ item. item.key ≢ k) items

pub is_found : (items : List Item) (k : Key) (r : Result ℕ ℕ) → KeysRise items
    → MatchResult r (λ i. i < length items) (λ i. i ≤ length items)
    → IsBinarySearchResult (λ (item : Item). key_cmp item.key k) items r → Found items k r
is_found items k (Ok at) rise inside found = record {
  inside = inside;
  here = λ d. equal_keys (get_or items at d).key k (found d);
}
is_found items k (Err at) rise inside found =
    let parted = found (λ i j d le lt. never_falls items k i j d rise le lt) in
    λ j d lt. ⊎_elim (λ below. not_same (get_or items j d).key k Less (parted.0 j d (omega arith) below) less_not)
    (λ le. not_same (get_or items j d).key k Greater (parted.1 j d le lt) greater_not) (below_or j at)
  where
    below_or : (i j : ℕ) → (i < j) ⊎ (j ≤ i)
    below_or i zero = inr (omega arith)
    below_or zero (suc j) = inl (omega arith)
    below_or (suc i) (suc j) = ⊎_elim (λ lt. inl (omega (arith, lt))) (λ le. inr (omega (arith, le))) (below_or i j)

pub found_some : (items : List Item) (k : Key) (r : Result ℕ ℕ) → Found items k r
    → IfSome (result_ok r) (λ at. IsItemAt items k at)
found_some items k (Ok at) found = found
found_some items k (Err at) found = tt

pub found_none : (items : List Item) (k : Key) (r : Result ℕ ℕ) → Found items k r
    → IfNone (result_ok r) (All (λ item. item.key ≢ k) items)
found_none items k (Ok at) found = tt
found_none items k (Err at) found = found

same_number : (n : ℕ) → (n == n) ≡ true
same_number n = grind (arith, nat_tests)

same_itself : (k : Key) → same_key k k ≡ true
same_itself k = ap (λ b. b && (k.index == k.index)) (same_number k.level) ∙ same_number k.index

equal_numbers : (a b : ℕ) → (a == b) ≡ true → a ≡ b
equal_numbers a b e = grind (arith, nat_tests)

other_key : (j k : Key) → j ≢ k → same_key j k ≡ false
other_key j k not = one (j.level == k.level) (j.index == k.index) refl refl
  where
    one : (a b : Bool) → (j.level == k.level) ≡ a → (j.index == k.index) ≡ b → (a && b) ≡ false
    one true true e e' =
        absurd (not (same_parts j k (equal_numbers j.level k.level e) (equal_numbers j.index k.index e')))
    one true false e e' = refl
    one false b e e' = refl

tail_at : (x : Item) (items : List Item) (k : Key) (i : ℕ) → IsItemAt (x ∷ items) k (suc i) → IsItemAt items k i
tail_at x items k i there = let inside = there.inside in record { inside = omega arith; here = λ d. there.here d }

first_other : (x : Item) (items : List Item) (k : Key) (i : ℕ) → KeysRise (x ∷ items) → IsItemAt items k i → x.key ≢ k
first_other x items k i rise there =
    subst (λ j. x.key ≢ j) (there.here x)
    (not_before x.key (get_or items i x).key (first_before x items i x rise there.inside))

pub laid_none : (items : List Item) (k : Key) (at : Key → Pointer) → All (λ item. item.key ≢ k) items
    → laid items at k ≡ at k
laid_none [] k at none = refl
laid_none (x ∷ items) k at none =
    laid_none items k (put x at) (All-tail (λ (item : Item). item.key ≢ k) x items none)
    ∙ ap (λ b. cond b x.pointer (at k)) (other_key x.key k (All-head (λ (item : Item). item.key ≢ k) x items none))

pub laid_there : (items : List Item) (i : ℕ) (d : Item) (k : Key) (at : Key → Pointer) → KeysRise items
    → IsItemAt items k i → laid items at k ≡ (get_or items i d).pointer
laid_there [] i d k at rise there = let inside = there.inside in absurd (omega arith)
laid_there (x ∷ items) zero d k at rise there =
    laid_none items k (put x at)
    (λ j e lt. subst (λ i. (get_or items j e).key ≢ i) (there.here d)
    (λ same. not_before x.key (get_or items j e).key (first_before x items j e rise lt) (sym same)))
    ∙ ap (λ b. cond b x.pointer (at k)) (ap (λ j. same_key j k) (there.here d) ∙ same_itself k)
laid_there (x ∷ items) (suc i) d k at rise there =
    laid_there items i d k (put x at) (rise_tail x items rise) (tail_at x items k i there)

pub block_none : (items : List Item) (a : ℕ) → All (λ item. item.key ≢ key 0 a) items → frozen_block items a ≡ None
block_none [] a none = refl
block_none (x ∷ items) a none =
    let first = All-head (λ (item : Item). item.key ≢ key 0 a) x items none in
    ap (λ b. cond b (Some x.block) (frozen_block items a)) (other_key x.key (key 0 a) first)
    ∙ block_none items a (All-tail (λ (item : Item). item.key ≢ key 0 a) x items none)

pub block_there : (items : List Item) (i : ℕ) (d : Item) (a : ℕ) → KeysRise items → IsItemAt items (key 0 a) i
    → frozen_block items a ≡ Some (get_or items i d).block
block_there [] i d a rise there = let inside = there.inside in absurd (omega arith)
block_there (x ∷ items) zero d a rise there =
    ap (λ b. cond b (Some x.block) (frozen_block items a))
    (ap (λ j. same_key j (key 0 a)) (there.here d) ∙ same_itself (key 0 a))
block_there (x ∷ items) (suc i) d a rise there =
    let rest = tail_at x items (key 0 a) i there in
    ap (λ b. cond b (Some x.block) (frozen_block items a))
    (other_key x.key (key 0 a) (first_other x items (key 0 a) i rise rest))
    ∙ block_there items i d a (rise_tail x items rise) rest

a_page : (n : ℕ) → 1 ≤ n → 1 ≤ (n + 63) / 64
a_page n some = omega arith

-- each volume has the page over all others
pub root_key : (blocks : ℕ) → 1 ≤ blocks → IsKey blocks root
unfolding keys_at
root_key blocks some = record {
  level = omega arith;
  index = a_page (keys_at blocks 2) (a_page (keys_at blocks 1) (a_page blocks some));
}

-- what is written, or a hole
pub or_hole : (p : Pointer) (o : Option Pointer) → o ≡ written p → IfNone o (p ≡ hole) → unwrap_or o hole ≡ p
unfolding written
or_hole p None is none = sym none
or_hole p (Some q) is none = one (p.birth.0 == 0) is
  where
    one : (b : Bool) → Some q ≡ cond b None (Some p) → q ≡ p
    one true e = absurd (none-some q (sym e))
    one false e = same_Some q p e
