-- The pages above blocks whose addresses rise are each there once.
use Rattle.std.proofs.Common.{◌≡◌, ◌≢◌, ℕ, suc, zero, ◌+◌, ◌*◌, ◌/◌, ◌^◌, ◌<◌, ◌≤◌, Bool, true, false, not, cond, eqb, ltb, List, [], ◌∷◌, ◌++◌, length, get_or, drop, refl, sym, ap, ◌∙◌, subst, ⊎_elim, arith, append_assoc, length-drop}
use Rattle.std.specs.List.{All, AllPairs, Contains}
use Rattle.std.proofs.lemmas.Bool.{cases_eq, cases_lt, lt-ltb, le-ltb, eq-eqb, ne_eqb}
use mir.Val.{bool_byte}
use Rattle.std.proofs.lemmas.List.{drop_more, length_push}
use Rattle.std.proofs.lemmas.List.Elements.{All-nil, All-cons, All-weaker, All-contains}
use Rattle.std.proofs.lemmas.List.Kept.{AllPairs-cons}
use Rattle.std.proofs.Math.Nat.{div-div-eq-div-mul, pow-suc}
use Rattle.std.proofs.lemmas.Nat.{pow-add}
use Rattle.mp_base.specs.declared.place.Key.{Key}
use Rattle.block_map.specs.Keys.{keys_at, IsKey}
use Rattle.block_map.specs.Dirty.{page_above, pages_from, pages_above, Rises, ArePagesAbove}
use Rattle.block_map.proofs.KeyNumbers.{keys_at-zero, keys_at-next}

pub none_from : (level next : ℕ) → pages_from level next [] ≡ []
unfolding pages_from
none_from level next = refl

pub from_passed : (level next a : ℕ) (rest : List ℕ) → (page_above level a).index < next → pages_from level next (a ∷ rest) ≡ pages_from level next rest
unfolding pages_from
from_passed level next a rest lt = rw (lt-ltb _ _ lt) refl

pub from_taken : (level next a : ℕ) (rest : List ℕ) → next ≤ (page_above level a).index
    → pages_from level next (a ∷ rest) ≡ page_above level a ∷ pages_from level ((page_above level a).index + 1) rest
unfolding pages_from
from_taken level next a rest ge = rw (le-ltb _ _ ge) refl

-- one address further, in a list of pages and in a count of them
pub one_address : (level next : ℕ) (addrs : List ℕ) (i a next' : ℕ) (out out' all : List Key) → i < length addrs → get_or addrs i 0 ≡ a
    → out ++ pages_from level next (drop i addrs) ≡ all
    → next' ≡ cond (ltb (page_above level a).index next) next ((page_above level a).index + 1)
    → out' ≡ cond (ltb (page_above level a).index next) out (out ++ page_above level a ∷ [])
    → out' ++ pages_from level next' (drop (i + 1) addrs) ≡ all
one_address level next addrs i a next' out out' all lt is before n o =
    let here : drop i addrs ≡ a ∷ drop (i + 1) addrs = drop_more addrs i 0 lt ∙ ap (λ x. x ∷ drop (i + 1) addrs) is in
    let was : out ++ pages_from level next (a ∷ drop (i + 1) addrs) ≡ all = rw here at before in
    ⊎_elim (λ passed.
    let t = lt-ltb _ _ passed in
    let n' : next' ≡ next = rw t at n in
    let o' : out' ≡ out = rw t at o in
    rw (n', o') (ap (λ l. out ++ l) (sym (from_passed level next a (drop (i + 1) addrs) passed)) ∙ was))
    (λ taken.
    let f = le-ltb _ _ taken in
    let n' : next' ≡ (page_above level a).index + 1 = rw f at n in
    let o' : out' ≡ out ++ page_above level a ∷ [] = rw f at o in
    rw (n', o') (append_assoc out (page_above level a ∷ []) (pages_from level ((page_above level a).index + 1) (drop (i + 1) addrs))
    ∙ ap (λ l. out ++ l) (sym (from_taken level next a (drop (i + 1) addrs) taken)) ∙ was))
    (cases_lt (page_above level a).index next)

more : (count rest whole all : ℕ) → whole ≡ suc rest → count + whole ≡ all → count + 1 + rest ≡ all
more count rest whole all e f = omega arith

pub one_count : (level next : ℕ) (addrs : List ℕ) (i a next' count : ℕ) (all : ℕ) → i < length addrs → get_or addrs i 0 ≡ a
    → count + length (pages_from level next (drop i addrs)) ≡ all
    → next' ≡ cond (ltb (page_above level a).index next) next ((page_above level a).index + 1)
    → count + cond (not (eqb next' next)) 1 0 + length (pages_from level next' (drop (i + 1) addrs)) ≡ all
one_count level next addrs i a next' count all lt is before n =
    let here : drop i addrs ≡ a ∷ drop (i + 1) addrs = drop_more addrs i 0 lt ∙ ap (λ x. x ∷ drop (i + 1) addrs) is in
    let was : count + length (pages_from level next (a ∷ drop (i + 1) addrs)) ≡ all = rw here at before in
    ⊎_elim (λ passed.
    let n' : next' ≡ next = rw (lt-ltb (page_above level a).index next passed) at n in
    let same : eqb next' next ≡ true = eq-eqb next' next n' in
    let rest : length (pages_from level next' (drop (i + 1) addrs)) ≡ length (pages_from level next (a ∷ drop (i + 1) addrs)) =
    ap (λ m. length (pages_from level m (drop (i + 1) addrs))) n' ∙ ap length (sym (from_passed level next a (drop (i + 1) addrs) passed)) in
    rw (same, rest) (omega arith))
    (λ taken.
    let n' : next' ≡ (page_above level a).index + 1 = rw (le-ltb (page_above level a).index next taken) at n in
    let differs : eqb next' next ≡ false = ne_eqb next' next (λ e. omega arith) in
    let one : length (pages_from level next (a ∷ drop (i + 1) addrs)) ≡ suc (length (pages_from level ((page_above level a).index + 1) (drop (i + 1) addrs))) =
    ap length (from_taken level next a (drop (i + 1) addrs) taken) in
    let rest : length (pages_from level next' (drop (i + 1) addrs)) ≡ length (pages_from level ((page_above level a).index + 1) (drop (i + 1) addrs)) =
    ap (λ m. length (pages_from level m (drop (i + 1) addrs))) n' in
    rw (differs, rest) (more count _ _ all one was))
    (cases_lt (page_above level a).index next)

not_below : (level next : ℕ) (addrs : List ℕ) → All (λ p. next ≤ p.index) (pages_from level next addrs)
not_below level next [] = rw none_from (All-nil (λ p. next ≤ p.index))
not_below level next (a ∷ rest) =
    ⊎_elim (λ lt. rw (from_passed level next a rest lt) (not_below level next rest))
    (λ ge. rw (from_taken level next a rest ge)
    (All-cons (λ p. next ≤ p.index) (page_above level a) (pages_from level ((page_above level a).index + 1) rest) ge
    (All-weaker (λ p. (page_above level a).index + 1 ≤ p.index) (λ p. next ≤ p.index) (λ p le. omega arith)
    (pages_from level ((page_above level a).index + 1) rest) (not_below level ((page_above level a).index + 1) rest))))
    (cases_lt (page_above level a).index next)

they_rise : (level next : ℕ) (addrs : List ℕ) → AllPairs (λ p q. p.index < q.index) (pages_from level next addrs)
they_rise level next [] = rw none_from (λ i j d _ lt. absurd (omega arith))
they_rise level next (a ∷ rest) =
    ⊎_elim (λ lt. rw (from_passed level next a rest lt) (they_rise level next rest))
    (λ ge. rw (from_taken level next a rest ge)
    (AllPairs-cons (λ p q. p.index < q.index) (page_above level a) (pages_from level ((page_above level a).index + 1) rest)
    (All-weaker (λ p. (page_above level a).index + 1 ≤ p.index) (λ p. (page_above level a).index < p.index) (λ p le. omega arith)
    (pages_from level ((page_above level a).index + 1) rest) (not_below level ((page_above level a).index + 1) rest))
    (they_rise level ((page_above level a).index + 1) rest)))
    (cases_lt (page_above level a).index next)

further : {X : Type 0} (x : X) (xs : List X) (y : X) → Contains xs y → Contains (x ∷ xs) y
further x xs y (k, lt, is) = (suc k, omega arith, is)

first : {X : Type 0} (x : X) (xs : List X) → Contains (x ∷ xs) x
first x xs = (0, omega arith, refl)

IsAbove : ℕ → List ℕ → Key → Type 0
IsAbove level addrs page = (a : ℕ) × Contains addrs a × (page ≡ page_above level a)

they_are_above : (level next : ℕ) (addrs : List ℕ) → All (IsAbove level addrs) (pages_from level next addrs)
unfolding IsAbove
they_are_above level next [] = rw none_from (All-nil (IsAbove level []))
they_are_above level next (a ∷ rest) =
    ⊎_elim (λ lt. rw (from_passed level next a rest lt)
    (All-weaker (IsAbove level rest) (IsAbove level (a ∷ rest)) (λ p (b, there, is). (b, further a rest b there, is)) (pages_from level next rest) (they_are_above level next rest)))
    (λ ge. rw (from_taken level next a rest ge)
    (All-cons (IsAbove level (a ∷ rest)) (page_above level a) (pages_from level ((page_above level a).index + 1) rest) (a, first a rest, refl)
    (All-weaker (IsAbove level rest) (IsAbove level (a ∷ rest)) (λ p (b, there, is). (b, further a rest b there, is))
    (pages_from level ((page_above level a).index + 1) rest) (they_are_above level ((page_above level a).index + 1) rest))))
    (cases_lt (page_above level a).index next)

pub byte_is : (b : Bool) → bool_byte b ≡ cond b 1 0
byte_is true = refl
byte_is false = refl

pub byte_le : (b : Bool) → bool_byte b ≤ 1
byte_le true = omega arith
byte_le false = omega arith

at_most_one : (b : Bool) (out : List Key) (page : Key) → length (cond b out (out ++ page ∷ [])) ≤ length out + 1
at_most_one true out page = omega arith
at_most_one false out page = rw length_push (omega arith)

-- one page more needs no more room than its address had
pub room_left : (level next : ℕ) (addrs : List ℕ) (i a : ℕ) (out out' : List Key) (room room' : ℕ) → i < length addrs
    → out' ≡ cond (ltb (page_above level a).index next) out (out ++ page_above level a ∷ []) → room ≤ room'
    → length out + length (drop i addrs) ≤ room → length out' + length (drop (i + 1) addrs) ≤ room'
room_left level next addrs i a out out' room room' lt is le fits =
    let most : length out' ≤ length out + 1 = rw is (at_most_one (ltb (page_above level a).index next) out (page_above level a)) in
    omega (arith, length-drop {A = ℕ} i addrs, length-drop {A = ℕ} (i + 1) addrs)

pub size_of_page : (level : ℕ) → 2 ^ (6 * level) ≡ 64 ^ level
size_of_page zero = refl
size_of_page (suc level) =
    let is : 6 * suc level ≡ 6 * level + 6 = omega arith in
    rw (is, pow-add 2 (6 * level) 6, size_of_page level) (sym (pow-suc 64 level))

rises_first : (a : ℕ) (rest : List ℕ) (b : ℕ) → Rises (a ∷ rest) → Contains rest b → a < b
rises_first a rest b rises (k, lt, is) =
    let less : a < get_or rest k b = rises 0 (suc k) b (omega arith) (omega arith) in
    subst (λ n. a < n) is less

rises_rest : (a : ℕ) (rest : List ℕ) → Rises (a ∷ rest) → Rises rest
rises_rest a rest rises i j d less lt = rises (suc i) (suc j) d (omega arith) (omega arith)

by_level : (level a : ℕ) → a / 64 ^ suc level ≡ a / 64 ^ level / 64
by_level level a = ap (λ n. a / n) (pow-suc 64 level) ∙ sym (div-div-eq-div-mul a (64 ^ level) 64)

quotients_rise : (level a b : ℕ) → a ≤ b → a / 64 ^ level ≤ b / 64 ^ level
quotients_rise zero a b le = omega arith
quotients_rise (suc level) a b le = let below = quotients_rise level a b le in rw (by_level level a, by_level level b) (omega arith)

not_above_less : (level a b : ℕ) → a ≤ b → (page_above level a).index ≤ (page_above level b).index
unfolding page_above
not_above_less level a b le = quotients_rise level a b le

pub same_key : (level i j : ℕ) → i ≡ j → ◌≡◌ {A = Key} (record { level = level; index = i }) (record { level = level; index = j })
same_key level i j e = cc

same_page : (level a b : ℕ) → (page_above level a).index ≡ (page_above level b).index → page_above level a ≡ page_above level b
unfolding page_above
same_page level a b same = same_key level (a / 64 ^ level) (b / 64 ^ level) same

each_there : (level next : ℕ) (addrs : List ℕ) → Rises addrs → (a : ℕ) → Contains addrs a → next ≤ (page_above level a).index
    → Contains (pages_from level next addrs) (page_above level a)
each_there level next [] rises a (k, lt, is) ge = absurd (omega arith)
each_there level next (b ∷ rest) rises a (zero, lt, is) ge =
    let is' : b ≡ a = is in
    rw (from_taken level next b rest (subst (λ n. next ≤ (page_above level n).index) (sym is') ge))
    (subst (λ n. Contains (page_above level b ∷ pages_from level ((page_above level b).index + 1) rest) (page_above level n)) is'
    (first (page_above level b) (pages_from level ((page_above level b).index + 1) rest)))
each_there level next (b ∷ rest) rises a (suc k, lt, is) ge =
    let there : Contains rest a = (k, omega arith, is) in
    let less = rises_first b rest a rises there in
    let le = not_above_less level b a (omega arith) in
    ⊎_elim (λ passed. rw (from_passed level next b rest passed) (each_there level next rest (rises_rest b rest rises) a there ge))
    (λ taken. rw (from_taken level next b rest taken)
    (⊎_elim (λ same. rw (same_page level a b same) (first (page_above level b) (pages_from level ((page_above level b).index + 1) rest)))
    (λ other. let other' : (page_above level a).index ≢ (page_above level b).index = other in
    further (page_above level b) (pages_from level ((page_above level b).index + 1) rest) (page_above level a)
    (each_there level ((page_above level b).index + 1) rest (rises_rest b rest rises) a there (omega arith)))
    (cases_eq (page_above level a).index (page_above level b).index)))
    (cases_lt (page_above level b).index next)

pub they_are_exact : (level : ℕ) (addrs : List ℕ) → Rises addrs → ArePagesAbove level addrs (pages_above level addrs)
unfolding pages_above IsAbove
they_are_exact level addrs rises = record {
  rise = they_rise level 0 addrs;
  all = λ a there. each_there level 0 addrs rises a there (omega arith);
  only = λ page there. All-contains (IsAbove level addrs) (pages_from level 0 addrs) page (they_are_above level 0 addrs) there;
}

above_keys : (blocks level a : ℕ) → a < blocks → a / 64 ^ level < keys_at blocks level
above_keys blocks zero a lt = rw keys_at-zero (omega arith)
above_keys blocks (suc level) a lt =
    let below = above_keys blocks level a lt in
    let e = keys_at-next blocks level in
    let l : suc level ≡ level + 1 = omega arith in
    rw (by_level level a, l) (omega arith)

pub they_are_keys : (blocks level a : ℕ) → level ≤ 3 → a < blocks → IsKey blocks (page_above level a)
unfolding page_above
they_are_keys blocks level a le lt = record { level = le; index = above_keys blocks level a lt }
