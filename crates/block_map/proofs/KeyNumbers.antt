-- The order of keys is the order of their numbers.
use Rattle.std.proofs.Common.{◌≡◌, ℕ, suc, zero, ◌+◌, ◌-◌, ◌*◌, ◌/◌, ◌<◌, ◌≤◌, ◌⊎◌, true, false, refl, sym, ap, ⊎_elim, inl, inr, arith, add-one}
use Rattle.std.proofs.lemmas.Bool.{cases_lt, cases_order, lt-ltb, le-leb, ltb-true, leb-true, and_parts, and_from, cases_Bool}
use Rattle.mp_base.specs.declared.place.Key.{Key}
use Rattle.block_map.specs.Keys.{keys_at, IsKey, is_key, IsBefore, child}
use Rattle.block_map.specs.Numbers.{start, slots, key_number}

pub keys_at-zero : (blocks : ℕ) → keys_at blocks 0 ≡ blocks
unfolding keys_at
keys_at-zero blocks = refl

pub keys_at-next : (blocks level : ℕ) → keys_at blocks (level + 1) ≡ (keys_at blocks level + 63) / 64
unfolding keys_at
keys_at-next blocks level = rw add-one refl

pub start-zero : (blocks : ℕ) → start blocks 0 ≡ 0
unfolding start
start-zero blocks = refl

pub start-next : (blocks level : ℕ) → start blocks (level + 1) ≡ start blocks level + 64 * keys_at blocks (level + 1)
unfolding start
start-next blocks level = rw add-one refl

-- at most as many as the blocks
pub keys_le : (blocks level : ℕ) → blocks ≤ 262144 → keys_at blocks level ≤ 262144
unfolding keys_at
keys_le blocks zero most = most
keys_le blocks (suc level) most = let rest = keys_le blocks level most in omega arith

pub keys_pos : (blocks level : ℕ) → 1 ≤ blocks → 1 ≤ keys_at blocks level
unfolding keys_at
keys_pos blocks zero some = some
keys_pos blocks (suc level) some = let rest = keys_pos blocks level some in omega arith

-- the root alone is at the top
pub one_root : (blocks : ℕ) → 1 ≤ blocks → blocks ≤ 262144 → keys_at blocks 3 ≡ 1
unfolding keys_at
one_root blocks some most = omega arith

-- the keys of a level fill the pages over it, up to the last page
pub keys_fill : (blocks level : ℕ) → keys_at blocks level ≤ 64 * keys_at blocks (level + 1)
keys_fill blocks level = let e = keys_at-next blocks level in omega arith

pub start_upto : (blocks l n : ℕ) → start blocks l ≤ start blocks (l + n)
start_upto blocks l zero = let is : l + 0 ≡ l = omega arith in rw is (omega arith)
start_upto blocks l (suc n) =
    let rest = start_upto blocks l n in
    let e = start-next blocks (l + n) in
    let is : l + suc n ≡ l + n + 1 = omega arith in
    rw is (omega arith)

pub start_le : (blocks l m : ℕ) → l ≤ m → start blocks l ≤ start blocks m
start_le blocks l m le =
    let upto = start_upto blocks l (m - l) in
    let is : l + (m - l) ≡ m = omega arith in
    rw is at upto

pub start_small : (blocks level : ℕ) → blocks ≤ 262144 → start blocks level ≤ level * 16777216
start_small blocks zero most = rw start-zero (omega arith)
start_small blocks (suc level) most =
    let rest = start_small blocks level most in
    let keys = keys_le blocks (level + 1) most in
    let e = start-next blocks level in
    let is : suc level ≡ level + 1 = omega arith in
    rw is (omega arith)

pub start_fits : (blocks level : ℕ) → blocks ≤ 262144 → level ≤ 3 → start blocks level ≤ 50331648
start_fits blocks level most le = let small = start_small blocks level most in omega arith

-- a lower level's keys come first
pub lower_first : (blocks l m i j : ℕ) → l < m → i < keys_at blocks l → start blocks l + i < start blocks m + j
lower_first blocks l m i j lt inside =
    let upto = start_le blocks (l + 1) m (omega arith) in
    let e = start-next blocks l in
    let fill = keys_fill blocks l in
    omega arith

pub is_key_of : (blocks : ℕ) (key : Key) → IsKey blocks key → is_key blocks key ≡ true
unfolding is_key
is_key_of blocks key k = and_from _ _ (le-leb _ _ k.level) (lt-ltb _ _ k.index)

pub key_of : (blocks : ℕ) (key : Key) → is_key blocks key ≡ true → IsKey blocks key
unfolding is_key
key_of blocks key yes' = let (level, index) = and_parts _ _ yes' in record { level = leb-true _ _ level; index = ltb-true _ _ index }

pub is_key_cases : (blocks : ℕ) (key : Key) → IsKey blocks key ⊎ (is_key blocks key ≡ false)
is_key_cases blocks key = ⊎_elim (λ t. inl (key_of blocks key t)) (λ f. inr f) (cases_Bool (is_key blocks key))

same_key : (l m i j : ℕ) → l ≡ m → i ≡ j → ◌≡◌ {A = Key} (record { level = l; index = i }) (record { level = m; index = j })
same_key l m i j e f = cc

module _ (blocks : ℕ) (some : 1 ≤ blocks) (most : blocks ≤ 262144) where
  pub number_inside : (key : Key) → IsKey blocks key → key_number blocks key < slots blocks
  unfolding key_number slots
  number_inside key k =
      ⊎_elim (λ lower. let lt = lower_first blocks key.level 3 key.index 0 lower k.index in omega arith)
      (λ top.
      let is : key.level ≡ 3 = omega (arith, k.level, top) in
      let one = one_root blocks some most in
      let index : key.index < keys_at blocks 3 = rw is at k.index in
      rw is (omega arith))
      (cases_lt key.level 3)

  pub number_before : (a b : Key) → IsKey blocks a → IsBefore a b → key_number blocks a < key_number blocks b
  unfolding key_number
  number_before a b k before =
      ⊎_elim (λ lower. lower_first blocks a.level b.level a.index b.index lower k.index)
      (λ same. let (level, index) = same in rw level (omega arith))
      before

  pub order_of : (a b : Key) → (a ≡ b) ⊎ (IsBefore a b ⊎ IsBefore b a)
  order_of a b =
      ⊎_elim (λ level.
      ⊎_elim (λ index. inl (same_key a.level b.level a.index b.index level index))
      (λ apart. ⊎_elim (λ lt. inr (inl (inr (level, lt)))) (λ gt. inr (inr (inr (sym level, gt)))) apart)
      (cases_order a.index b.index))
      (λ apart. ⊎_elim (λ lt. inr (inl (inl lt))) (λ gt. inr (inr (inl gt))) apart)
      (cases_order a.level b.level)

  -- keys have numbers of their own
  pub same_number : (a b : Key) → IsKey blocks a → IsKey blocks b → key_number blocks a ≡ key_number blocks b → a ≡ b
  same_number a b k k' same =
      ⊎_elim (λ is. is)
      (λ apart. absurd (⊎_elim (λ lt. let n = number_before a b k lt in omega arith) (λ gt. let n = number_before b a k' gt in omega arith) apart))
      (order_of a b)

  pub before_of : (a b : Key) → IsKey blocks b → key_number blocks a < key_number blocks b → IsBefore a b
  before_of a b k' less =
      ⊎_elim (λ is. absurd (let n = ap (key_number blocks) is in omega arith))
      (λ apart. ⊎_elim (λ lt. lt) (λ gt. absurd (let n = number_before b a k' gt in omega arith)) apart)
      (order_of a b)

  -- a page's pointers lie below the page's own
  pub below_page : (page : Key) (j : ℕ) → IsKey blocks page → 1 ≤ page.level → j < 64 → key_number blocks (child page j) < key_number blocks page
  unfolding key_number
  below_page page j k level less =
      let e = start-next blocks (page.level - 1) in
      let is : page.level - 1 + 1 ≡ page.level = omega arith in
      let e' : start blocks page.level ≡ start blocks (page.level - 1) + 64 * keys_at blocks page.level = rw is at e in
      omega (arith, e', k.index)

-- no number lies before the blocks
pub above_zero : (blocks level number : ℕ) → number < start blocks level → 1 ≤ level
above_zero blocks zero number less = let e = start-zero blocks in absurd (omega arith)
above_zero blocks (suc level) number less = omega arith

pub slots_small : (blocks : ℕ) → blocks ≤ 262144 → slots blocks ≤ 50331649
unfolding slots
slots_small blocks most = let fits = start_fits blocks 3 most (omega arith) in omega arith

-- a page's first pointer is that of a key
pub first_is_key : (blocks : ℕ) (page : Key) → IsKey blocks page → 1 ≤ page.level → IsKey blocks (child page 0)
first_is_key blocks page k level =
    let e = keys_at-next blocks (page.level - 1) in
    let is : page.level - 1 + 1 ≡ page.level = omega arith in
    let e' : keys_at blocks page.level ≡ (keys_at blocks (page.level - 1) + 63) / 64 = rw is at e in
    record { level = omega (arith, k.level); index = omega (arith, e', k.index) }

pub child_number : (blocks : ℕ) (page : Key) (j : ℕ) → key_number blocks (child page j) ≡ key_number blocks (child page 0) + j
unfolding key_number
child_number blocks page j = omega arith

pub page_inside : (blocks : ℕ) → 1 ≤ blocks → blocks ≤ 262144 → (page : Key) → IsKey blocks page → 1 ≤ page.level
    → key_number blocks (child page 0) + 64 ≤ slots blocks
page_inside blocks some most page k level =
    let below = below_page blocks some most page 63 k level (omega arith) in
    let inside = number_inside blocks some most page k in
    let is = child_number blocks page 63 in
    omega arith

-- a page's pointers lie in the part of the level below
pub child_before : (blocks : ℕ) (page : Key) (j : ℕ) → IsKey blocks page → 1 ≤ page.level → j < 64
    → start blocks (page.level - 1) + (64 * page.index + j) < start blocks (page.level - 1 + 1)
child_before blocks page j k level less =
    let e = start-next blocks (page.level - 1) in
    let is : page.level - 1 + 1 ≡ page.level = omega arith in
    let keys : keys_at blocks (page.level - 1 + 1) ≡ keys_at blocks page.level = ap (keys_at blocks) is in
    omega (arith, k.index)

pub child_lower : (blocks : ℕ) (page : Key) → IsKey blocks page → 1 ≤ page.level → page.level - 1 < 3
child_lower blocks page k level = omega (arith, k.level)

pub child_level : (blocks : ℕ) (page : Key) → IsKey blocks page → page.level - 1 ≤ 3
child_level blocks page k = omega (arith, k.level)
