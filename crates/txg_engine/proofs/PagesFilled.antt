-- The keys of a group are gone through once, over all its pages.
use Rattle.std.proofs.Common.{◌≡◌, ℕ, zero, suc, ◌+◌, ◌-◌, ◌/◌, ◌<◌, ◌≤◌, ◌==◌, ◌&&◌, ◌||◌, nat_lt, nat_le, true, false}
use Rattle.std.proofs.Common.{List, [], ◌∷◌, ◌++◌, All, length, get_or, take, drop, Some, inl, inr, refl, sym, ap, ◌∙◌}
use Rattle.std.proofs.Common.{subst, arith, append_assoc, length-append}
use Rattle.std.specs.Prelude.{AllPairs, slice_get}
use Rattle.std.proofs.lemmas.Bool.Decides.{nat_tests}
use Rattle.std.proofs.lemmas.List.{take-append-drop, take-append-le, get_or-drop, length-drop, get_or_append_left, get_or-append-add, get_or-map, length-map}
use Rattle.std.proofs.lemmas.List.Elements.{All-head, All-tail}
use Rattle.std.proofs.lemmas.Option.{slice_get-get_or}
use Rattle.mp_base.specs.declared.place.Key.{Key}
use Rattle.mp_base.specs.declared.place.Pointer.{Pointer}
use Rattle.block_map.specs.Keys.{IsBefore}
use Rattle.block_map.specs.Map.{children}
use Rattle.txg_engine.specs.declared.item.Item.{Item}
use Rattle.txg_engine.specs.Items.{key_of, keys_of, is_child, is_before_page, is_up_to_page, laid, put}
use Rattle.txg_engine.proofs.Pages.{children_same}
use Rattle.txg_engine.proofs.Rising.{laid_append}

-- by numbers: a key's level, one below the page's, the key's index over 64, and the page's index

before_no : (l m i p : ℕ) → (nat_lt l m || ((l == m) && nat_lt i p)) ≡ true → ((l == m) && (i == p)) ≡ false
before_no l m i p e = grind (arith, nat_tests)

behind_no : (l m i p : ℕ) → (nat_lt l m || ((l == m) && nat_le i p)) ≡ false → ((l == m) && (i == p)) ≡ false
behind_no l m i p e = grind (arith, nat_tests)

next_level : (l m i p m' p' : ℕ) → (nat_lt l m || ((l == m) && nat_le i p)) ≡ true → m < m'
    → (nat_lt l m' || ((l == m') && nat_lt i p')) ≡ true
next_level l m i p m' p' e less = grind (arith, nat_tests)

next_index : (l m i p p' : ℕ) → (nat_lt l m || ((l == m) && nat_le i p)) ≡ true → p < p'
    → (nat_lt l m || ((l == m) && nat_lt i p')) ≡ true
next_index l m i p p' e less = grind (arith, nat_tests)

later_level : (l m i p l' i' : ℕ) → (nat_lt l m || ((l == m) && nat_le i p)) ≡ false → l < l'
    → (nat_lt l' m || ((l' == m) && nat_le i' p)) ≡ false
later_level l m i p l' i' e less = grind (arith, nat_tests)

later_index : (l m i p i' : ℕ) → (nat_lt l m || ((l == m) && nat_le i p)) ≡ false → i ≤ i'
    → (nat_lt l m || ((l == m) && nat_le i' p)) ≡ false
later_index l m i p i' e le = grind (arith, nat_tests)

-- what comes up to a page comes before the next one
up_to_before : (page next k : Key) → 1 ≤ page.level → IsBefore page next → is_up_to_page page k ≡ true → is_before_page next k ≡ true
up_to_before page next k one (inl less) up =
    next_level k.level (page.level - 1) (k.index / 64) page.index (next.level - 1) next.index up (omega arith)
up_to_before page next k one (inr same) up =
    ap (λ n. nat_lt k.level (n - 1) || ((k.level == n - 1) && nat_lt (k.index / 64) next.index)) (sym same.0)
    ∙ next_index k.level (page.level - 1) (k.index / 64) page.index next.index up same.1

-- a key behind one that is behind a page's is so too
later_key : (page k l : Key) → IsBefore k l → is_up_to_page page k ≡ false → is_up_to_page page l ≡ false
later_key page k l (inl less) not =
    later_level k.level (page.level - 1) (k.index / 64) page.index l.level (l.index / 64) not less
later_key page k l (inr same) not =
    ap (λ n. nat_lt n (page.level - 1) || ((n == page.level - 1) && nat_le (l.index / 64) page.index)) (sym same.0)
    ∙ later_index k.level (page.level - 1) (k.index / 64) page.index (l.index / 64) not (let less = same.1 in omega arith)

-- keys that aren't a page's change none of its pointers
none_laid : (page : Key) (items : List Item) (at : Key → Pointer) → All (λ item. is_child page item.key ≡ false) items
    → children at page ≡ children (laid items at) page
none_laid page [] at none = refl
none_laid page (item ∷ items) at none =
    children_same page item at (All-head (λ (i : Item). is_child page i.key ≡ false) item items none)
    ∙ none_laid page items (put item at) (All-tail (λ (i : Item). is_child page i.key ≡ false) item items none)

-- the keys that come before a page's
pub before_laid : (page : Key) (items : List Item) (at : Key → Pointer) → All (λ item. is_before_page page item.key ≡ true) items
    → children at page ≡ children (laid items at) page
before_laid page items at before =
    none_laid page items at (λ k d lt.
    before_no (get_or items k d).key.level (page.level - 1) ((get_or items k d).key.index / 64) page.index (before k d lt))

abbrev pub DoRise : List Item → Type 0
DoRise items = AllPairs (λ one other. IsBefore one.key other.key) items

-- the keys from the first one on that is behind a page's
behind_none : (page : Key) (items : List Item) (i : ℕ) → DoRise items
    → ((item : Item) → slice_get items i ≡ Some item → is_up_to_page page item.key ≡ false)
    → All (λ item. is_child page item.key ≡ false) (drop i items)
behind_none page items i rise next = λ k d lt.
    let here : get_or (drop i items) k d ≡ get_or items (i + k) d = get_or-drop i items k d in
    let long = length-drop i items in
    let inside : i + k < length items = omega arith in
    let first : is_up_to_page page (get_or items i d).key ≡ false =
    next (get_or items i d) (slice_get-get_or items i d (omega arith)) in
    let not : is_up_to_page page (get_or items (i + k) d).key ≡ false = each k d inside first in
    subst (λ (item : Item). is_child page item.key ≡ false) (sym here)
    (behind_no (get_or items (i + k) d).key.level (page.level - 1) ((get_or items (i + k) d).key.index / 64) page.index not)
  where
    each : (k : ℕ) (d : Item) → i + k < length items → is_up_to_page page (get_or items i d).key ≡ false
        → is_up_to_page page (get_or items (i + k) d).key ≡ false
    each zero d inside first = ap (λ n. is_up_to_page page (get_or items n d).key) (let e : i + 0 ≡ i = omega arith in e) ∙ first
    each (suc k) d inside first =
        later_key page (get_or items i d).key (get_or items (i + suc k) d).key (rise i (i + suc k) d (omega arith) inside) first

-- a page has its pointers once each key before the first one behind it was laid
pub all_laid : (page : Key) (items : List Item) (i : ℕ) (at : Key → Pointer) → DoRise items
    → ((item : Item) → slice_get items i ≡ Some item → is_up_to_page page item.key ≡ false)
    → children (laid (take i items) at) page ≡ children (laid items at) page
all_laid page items i at rise next =
    none_laid page (drop i items) (laid (take i items) at) (behind_none page items i rise next)
    ∙ ap (λ (f : Key → Pointer). children f page) (sym (laid_append (take i items) (drop i items) at))
    ∙ ap (λ l. children (laid l at) page) (take-append-drop i items)

-- those that come up to a page come before the next one
pub passed_next : (page next : Key) (items : List Item) → 1 ≤ page.level → IsBefore page next
    → All (λ item. is_up_to_page page item.key ≡ true) items → All (λ item. is_before_page next item.key ≡ true) items
passed_next page next items one before up = λ k d lt. up_to_before page next (get_or items k d).key one before (up k d lt)

before_up : (l m i p : ℕ) → (nat_lt l m || ((l == m) && nat_lt i p)) ≡ true → (nat_lt l m || ((l == m) && nat_le i p)) ≡ true
before_up l m i p e = grind (arith, nat_tests)

pub passed_so_far : (page : Key) (items : List Item) → All (λ item. is_before_page page item.key ≡ true) items
    → All (λ item. is_up_to_page page item.key ≡ true) items
passed_so_far page items before = λ k d lt.
    before_up (get_or items k d).key.level (page.level - 1) ((get_or items k d).key.index / 64) page.index (before k d lt)

-- keys that rise

pub items_rise : (items : List Item) → AllPairs IsBefore (keys_of items) → DoRise items
items_rise items rise = λ i j d before inside.
    let long = length-map items key_of in
    let at : get_or (keys_of items) i d.key ≡ (get_or items i d).key = get_or-map key_of items i d d.key (omega arith) in
    let at' : get_or (keys_of items) j d.key ≡ (get_or items j d).key = get_or-map key_of items j d d.key inside in
    subst (λ k. IsBefore k (get_or items j d).key) at
    (subst (IsBefore (get_or (keys_of items) i d.key)) at' (rise i j d.key before (omega arith)))

-- the keys before the pages that are left
pub front_rises : (keys pages : List Key) (n : ℕ) → AllPairs IsBefore (keys ++ pages) → AllPairs IsBefore (keys ++ take n pages)
front_rises keys pages n rise = λ i j d before inside.
    let all : (keys ++ take n pages) ++ drop n pages ≡ keys ++ pages =
    append_assoc keys (take n pages) (drop n pages) ∙ ap (λ l. keys ++ l) (take-append-drop n pages) in
    let long = length-append (keys ++ take n pages) (drop n pages) in
    let more : j < length ((keys ++ take n pages) ++ drop n pages) = omega arith in
    let at = get_or_append_left (keys ++ take n pages) (drop n pages) d i (omega arith) in
    let at' = get_or_append_left (keys ++ take n pages) (drop n pages) d j inside in
    subst (λ k. IsBefore k (get_or (keys ++ take n pages) j d)) at
    (subst (IsBefore (get_or ((keys ++ take n pages) ++ drop n pages) i d)) at'
    (subst (AllPairs IsBefore) (sym all) rise i j d before more))

-- each page and the next one
pub pages_follow : (keys pages : List Key) (n : ℕ) (d : Key) → AllPairs IsBefore (keys ++ pages) → n + 1 < length pages
    → IsBefore (get_or pages n d) (get_or pages (n + 1) d)
pages_follow keys pages n d rise inside =
    let long = length-append keys pages in
    subst (λ k. IsBefore k (get_or pages (n + 1) d)) (get_or-append-add keys pages n d)
    (subst (IsBefore (get_or (keys ++ pages) (length keys + n) d)) (get_or-append-add keys pages (n + 1) d)
    (rise (length keys + n) (length keys + (n + 1)) d (omega arith) (omega arith)))

-- an item behind them changes none that were passed
pub still_passed : (P : Item → Type 0) (items after : List Item) (item : Item) (n : ℕ) → after ≡ items ++ item ∷ [] → n ≤ length items
    → All P (take n items) → All P (take n after)
still_passed P items after item n more within all =
    subst (λ l. All P (take n l)) (sym more) (subst (All P) (sym (take-append-le n items (item ∷ []) within)) all)
