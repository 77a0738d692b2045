-- Keys of a freeze rise, so no page is filled before its children.
use Rattle.std.proofs.Common.{◌≡◌, ◌⊎◌, ⊎_elim, ℕ, ◌+◌, ◌-◌, ◌/◌, ◌<◌, ◌≤◌, ◌==◌, ◌&&◌, nat_lt, cond, Bool, true, false}
use Rattle.std.proofs.Common.{List, [], ◌∷◌, ◌++◌, All, length, map, refl, sym, ap, ◌∙◌, subst, arith, inl, inr}
use Rattle.std.proofs.Common.{append_assoc, append-nil}
use Rattle.std.proofs.lemmas.Bool.Decides.{nat_tests}
use Rattle.std.specs.Prelude.{AllPairs}
use Rattle.std.proofs.lemmas.List.Kept.{AllPairs-cons}
use Rattle.std.proofs.lemmas.List.Elements.{All-nil, All-cons, All-head, All-tail, All-append}
use Rattle.mp_base.specs.declared.place.Key.{Key}
use Rattle.mp_base.specs.declared.place.Pointer.{Pointer}
use Rattle.block_map.specs.Dirty.{page_above, pages_from, pages_above}
use Rattle.block_map.specs.Keys.{IsBefore, IsPage}
use Rattle.block_map.specs.Map.{children}
use Rattle.block_map.specs.Pages.{page_bytes}
use Rattle.block_map.proofs.DirtyPages.{they_are_keys}
use Rattle.txg_engine.specs.declared.item.Item.{Item}
use Rattle.txg_engine.specs.declared.seat.Seat.{Seat}
use Rattle.txg_engine.specs.declared.write.Write.{Write}
use Rattle.txg_engine.specs.Boards.{count_on}
use Rattle.txg_engine.specs.Freezing.{addr_of, page_keys, block_keys, dirty_keys, IsFilled, AreFilled}
use Rattle.txg_engine.specs.Frozen.{KeysRise}
use Rattle.txg_engine.specs.Items.{keys_of, laid, put, is_child}
use Rattle.txg_engine.specs.Writes.{RiseFrom}
use Rattle.txg_engine.proofs.Pages.{children_same}

-- the key is of a higher level, or of this one and not below this index
abbrev pub IsFrom : ℕ → ℕ → Key → Type 0
IsFrom level index k = (level < k.level) ⊎ ((level ≡ k.level) × (index ≤ k.index))

abbrev pub RiseFromKey : ℕ → ℕ → List Key → Type 0
RiseFromKey level index [] = Unit {0}
RiseFromKey level index (k ∷ ks) = IsFrom level index k × RiseFromKey k.level (k.index + 1) ks

pub level_from : (level index : ℕ) (k : Key) → IsFrom level index k → level ≤ k.level
level_from level index k from =
    ⊎_elim {A = level < k.level} {B = (level ≡ k.level) × (index ≤ k.index)} (λ less. omega arith)
    (λ same. omega (arith, same.0)) from

next_level : (level index : ℕ) (ks : List Key) → RiseFromKey (level + 1) 0 ks → RiseFromKey level index ks
next_level level index [] rise = tt
next_level level index (k ∷ ks) rise = (inl (let le = level_from (level + 1) 0 k rise.0 in omega arith), rise.1)

before_next : (a b : Key) → IsFrom a.level (a.index + 1) b → IsBefore a b
before_next a b from =
    ⊎_elim {A = a.level < b.level} {B = (a.level ≡ b.level) × (a.index + 1 ≤ b.index)} (λ less. inl less)
    (λ same. inr (same.0, omega (arith, same.1))) from

pub keys_rise : (level index : ℕ) (items : List Item) → RiseFromKey level index (keys_of items) → KeysRise items
keys_rise level index [] rise = tt
keys_rise level index (item ∷ []) rise = tt
keys_rise level index (item ∷ (next ∷ items)) rise =
    (before_next item.key next.key rise.1.0, keys_rise item.key.level (item.key.index + 1) (next ∷ items) rise.1)

blocks_rise : (low : ℕ) (writes : List Write) (rest : List Key) → RiseFrom low writes → RiseFromKey 1 0 rest
    → RiseFromKey 0 low (block_keys writes ++ rest)
blocks_rise low [] rest rise behind = next_level 0 low rest behind
blocks_rise low (write ∷ writes) rest rise behind =
    (inr (refl, rise.0), blocks_rise (write.addr + 1) writes rest rise.1 behind)

taken_or_not : (level next : ℕ) (b : Bool) (page : Key) (passed taken rest : List Key) → page.level ≡ level
    → b ≡ nat_lt page.index next → RiseFromKey level next (passed ++ rest)
    → RiseFromKey level (page.index + 1) (taken ++ rest)
    → RiseFromKey level next (cond b passed (page ∷ taken) ++ rest)
taken_or_not level next true page passed taken rest is test on on' = on
taken_or_not level next false page passed taken rest is test on on' = (
  inr (sym is, not_less page.index next (sym test)),
  subst (λ l. RiseFromKey l (page.index + 1) (taken ++ rest)) (sym is) on',
)
  where
    not_less : (a b : ℕ) → nat_lt a b ≡ false → b ≤ a
    not_less a b e = grind (arith, nat_tests)

level_of_page : (level a : ℕ) → (page_above level a).level ≡ level
unfolding page_above
level_of_page level a = refl

pages_rise : (level next : ℕ) (addrs : List ℕ) (rest : List Key) → RiseFromKey (level + 1) 0 rest
    → RiseFromKey level next (pages_from level next addrs ++ rest)
unfolding pages_from
pages_rise level next [] rest behind = next_level level next rest behind
pages_rise level next (a ∷ addrs) rest behind =
    taken_or_not level next (nat_lt (page_above level a).index next) (page_above level a)
    (pages_from level next addrs)
    (pages_from level ((page_above level a).index + 1) addrs) rest (level_of_page level a) refl
    (pages_rise level next addrs rest behind) (pages_rise level ((page_above level a).index + 1) addrs rest behind)

above_rise : (level : ℕ) (addrs : List ℕ) (rest : List Key) → RiseFromKey (level + 1) 0 rest
    → RiseFromKey level 0 (pages_above level addrs ++ rest)
unfolding pages_above
above_rise level addrs rest behind = pages_rise level 0 addrs rest behind

-- the pages of a group rise
pub pages_rise_all : (addrs : List ℕ) → RiseFromKey 1 0 (page_keys addrs)
pages_rise_all addrs =
    let last : RiseFromKey 3 0 (pages_above 3 addrs) = subst (RiseFromKey 3 0) (append-nil (pages_above 3 addrs))
    (above_rise 3 addrs [] tt) in
    above_rise 1 addrs (pages_above 2 addrs ++ pages_above 3 addrs) (above_rise 2 addrs (pages_above 3 addrs) last)

-- the keys of a group rise
pub dirty_rise : (writes : List Write) → RiseFrom 0 writes → RiseFromKey 0 0 (dirty_keys writes)
dirty_rise writes rise = blocks_rise 0 writes (page_keys (map addr_of writes)) rise (pages_rise_all (map addr_of writes))

-- pages of a volume

page_or_not : (P : Key → Type 0) (b : Bool) (page : Key) (passed taken : List Key) → P page → All P passed
    → All P taken → All P (cond b passed (page ∷ taken))
page_or_not P true page passed taken here all all' = all
page_or_not P false page passed taken here all all' = All-cons P page taken here all'

pages_inside : (blocks level next : ℕ) (writes : List Write) → 1 ≤ level → level ≤ 3
    → All (λ write. write.addr < blocks) writes → All (IsPage blocks) (pages_from level next (map addr_of writes))
unfolding pages_from
pages_inside blocks level next [] low high all = All-nil (IsPage blocks)
pages_inside blocks level next (write ∷ writes) low high all =
    let a = write.addr in
    let inside : a < blocks = All-head (λ (w : Write). w.addr < blocks) write writes all in
    let rest = All-tail (λ (w : Write). w.addr < blocks) write writes all in
    page_or_not (IsPage blocks) (nat_lt (page_above level a).index next) (page_above level a)
    (pages_from level next (map addr_of writes))
    (pages_from level ((page_above level a).index + 1) (map addr_of writes))
    (record {
      key = they_are_keys blocks level a high inside;
      level = subst (λ n. 1 ≤ n)
          (sym (level_of_page level a)) low;
    })
    (pages_inside blocks level next writes low high rest)
    (pages_inside blocks level ((page_above level a).index + 1) writes low high rest)

above_inside : (blocks level : ℕ) (writes : List Write) → 1 ≤ level → level ≤ 3
    → All (λ write. write.addr < blocks) writes → All (IsPage blocks) (pages_above level (map addr_of writes))
unfolding pages_above
above_inside blocks level writes low high all = pages_inside blocks level 0 writes low high all

pub pages_are_pages : (blocks : ℕ) (writes : List Write) → All (λ write. write.addr < blocks) writes
    → All (IsPage blocks) (page_keys (map addr_of writes))
pages_are_pages blocks writes all =
    let addrs = map addr_of writes in
    All-append (IsPage blocks) (pages_above 1 addrs) (pages_above 2 addrs ++ pages_above 3 addrs)
    (above_inside blocks 1 writes (omega arith) (omega arith) all)
    (All-append (IsPage blocks) (pages_above 2 addrs) (pages_above 3 addrs)
    (above_inside blocks 2 writes (omega arith) (omega arith) all)
    (above_inside blocks 3 writes (omega arith) (omega arith) all))

abbrev pub IsLow : Key → Type 0
IsLow k = k.level ≤ 3

low_blocks : (writes : List Write) → All IsLow (block_keys writes)
low_blocks [] = All-nil IsLow
low_blocks (write ∷ writes) =
    All-cons IsLow (record { level = 0; index = write.addr }) (block_keys writes) (omega arith) (low_blocks writes)

low_pages : (blocks : ℕ) (pages : List Key) → All (IsPage blocks) pages → All IsLow pages
low_pages blocks [] all = All-nil IsLow
low_pages blocks (page ∷ pages) all =
    All-cons IsLow page pages (All-head (IsPage blocks) page pages all).key.level
    (low_pages blocks pages (All-tail (IsPage blocks) page pages all))

-- what holds of all keys holds of the key of each item
pub of_items : (P : Key → Type 0) (items : List Item) → All P (keys_of items) → All (λ item. P item.key) items
of_items P [] all = All-nil (λ (item : Item). P item.key)
of_items P (item ∷ items) all =
    All-cons (λ (i : Item). P i.key) item items (All-head P item.key (keys_of items) all)
    (of_items P items (All-tail P item.key (keys_of items) all))

pub levels_low : (blocks : ℕ) (writes : List Write) (items : List Item) → All (λ write. write.addr < blocks) writes
    → keys_of items ≡ dirty_keys writes
    → All (λ item. item.key.level ≤ 3) items
levels_low blocks writes items all is =
    of_items IsLow items (subst (All IsLow) (sym is)
    (All-append IsLow (block_keys writes) (page_keys (map addr_of writes)) (low_blocks writes)
    (low_pages blocks (page_keys (map addr_of writes)) (pages_are_pages blocks writes all))))

-- pages are filled

pub laid_append : (before items : List Item) (at : Key → Pointer)
    → laid (before ++ items) at ≡ laid items (laid before at)
laid_append [] items at = refl
laid_append (x ∷ before) items at = laid_append before items (put x at)

not_below : (page k : Key) → 1 ≤ page.level → page.level ≤ k.level → is_child page k ≡ false
not_below page k level le = ap (λ b. b && (k.index / 64 == page.index)) (apart k.level page.level level le)
  where
    apart : (a b : ℕ) → 1 ≤ b → b ≤ a → (a == b - 1) ≡ false
    apart a b one le = grind (arith, nat_tests)

-- keys that aren't below a page's level change none of its pointers
children_laid : (level index : ℕ) (items : List Item) (at : Key → Pointer) (page : Key) → 1 ≤ page.level
    → page.level ≤ level → RiseFromKey level index (keys_of items)
    → children at page ≡ children (laid items at) page
children_laid level index [] at page one le rise = refl
children_laid level index (item ∷ items) at page one le rise =
    let from = level_from level index item.key rise.0 in
    let le' : page.level ≤ item.key.level = omega arith in
    children_same page item at (not_below page item.key one le') ∙ children_laid item.key.level
    (item.key.index + 1) items (put item at) page one le' rise.1

pub all_filled : (level index : ℕ) (at : Key → Pointer) (before items : List Item) → RiseFromKey level index
    (keys_of items) → AreFilled at before items
    → All (IsFilled (laid (before ++ items) at)) items
all_filled level index at before [] rise are = All-nil (IsFilled (laid (before ++ []) at))
all_filled level index at before (item ∷ items) rise are =
    let P = IsFilled (laid (before ++ item ∷ items) at) in
    let here : P item = λ one. are.0 one ∙ ap page_bytes
    (children_laid item.key.level item.key.index (item ∷ items) (laid before at) item.key one (omega arith)
    (inr (refl, omega arith), rise.1)
    ∙ ap (λ (f : Key → Pointer). children f item.key) (sym (laid_append before (item ∷ items) at))) in
    All-cons P item items here (subst (λ l. All (IsFilled (laid l at)) items) (append_assoc before (item ∷ []) items)
    (all_filled item.key.level (item.key.index + 1) at (before ++ item ∷ []) items rise.1 are.1))

-- keys that rise one by one rise altogether
far_from : (level index : ℕ) (a : Key) (ks : List Key) → IsBefore a (record { level = level; index = index })
    → RiseFromKey level (index + 1) ks → All (IsBefore a) ks
far_from level index a [] before rise = All-nil (IsBefore a)
far_from level index a (k ∷ ks) before rise =
    let next : IsBefore a k = later_from a (record { level = level; index = index }) k before rise.0 in
    All-cons (IsBefore a) k ks next (far_from k.level k.index a ks next rise.1)
  where
    later_from : (a b c : Key) → IsBefore a b → IsFrom b.level (b.index + 1) c → IsBefore a c
    later_from a b c (inl x) (inl y) = inl (omega arith)
    later_from a b c (inl x) (inr y) = inl (let same = y.0 in omega arith)
    later_from a b c (inr x) (inl y) = inl (let same = x.0 in omega arith)
    later_from a b c (inr x) (inr y) = inr (x.0 ∙ y.0, let one = x.1 in let two = y.1 in omega arith)

pub pairs_rise : (level index : ℕ) (ks : List Key) → RiseFromKey level index ks → AllPairs IsBefore ks
pairs_rise level index [] rise = λ i j d before inside. absurd (omega arith)
pairs_rise level index (k ∷ []) rise = λ i j d before inside. absurd (omega arith)
pairs_rise level index (k ∷ (next ∷ ks)) rise =
    let first : IsBefore k next = before_next k next rise.1.0 in
    AllPairs-cons IsBefore k (next ∷ ks)
    (All-cons (IsBefore k) next ks first (far_from next.level next.index k ks first rise.1.1))
    (pairs_rise k.level (k.index + 1) (next ∷ ks) rise.1)

one_or_less : (b : Bool) → cond b 1 0 ≤ 1
one_or_less true = omega arith
one_or_less false = omega arith

-- there are no more leaves on the board than it has seats
pub few_on : (seats : List Seat) → count_on seats ≤ length seats
few_on [] = omega arith
few_on (seat ∷ seats) =
    let rest = few_on seats in
    let this = one_or_less seat.on in
    let all : count_on (seat ∷ seats) ≡ cond seat.on 1 0 + count_on seats = refl in omega arith
