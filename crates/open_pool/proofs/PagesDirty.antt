-- A key is dirty just where a written address is below it, so there are as many dirty keys as addresses and pages above them.
use Rattle.std.proofs.Common.{◌≡◌, ℕ, zero, suc, ◌+◌, ◌*◌, ◌/◌, ◌%◌, ◌^◌, ◌<◌, ◌≤◌, Bool, true, false, List, length, map, get_or, refl, sym, ap, ◌∙◌, subst, ⊎_elim, arith}
use Rattle.std.specs.List.{All, Contains}
use Rattle.std.proofs.lemmas.List.Elements.{All-contains, Contains-get_or}
use Rattle.std.proofs.lemmas.Bool.{cases_lt, or_cases, or_left, or_right, both_ways}
use Rattle.std.proofs.lemmas.List.{get_or-map, length-map}
use Rattle.std.proofs.Math.Nat.{div-div-eq-div-mul, pow-suc}
use Rattle.mp_base.specs.declared.place.Key.{Key}
use Rattle.block_map.specs.Keys.{root}
use Rattle.block_map.specs.Dirty.{Rises, page_above, pages_above, dirty_pages, ArePagesAbove}
use Rattle.block_map.proofs.DirtyPages.{they_are_exact}
use Rattle.pool_moves.specs.Refusing.{count_below, any_below, dirty_at, keys_needed}
use Rattle.open_pool.proofs.KeysDirty.{index_of_page}
use Rattle.open_pool.proofs.RisingCounted.{same_tests, is_among, AreListed, count_listed, among_contained, contains_among}

any_there : (n : ℕ) (test : ℕ → Bool) → any_below n test ≡ true → (j : ℕ) × (j < n) × (test j ≡ true)
any_there zero test is = absurd (both_ways false refl is)
any_there (suc n) test is =
    ⊎_elim (λ before. let (j, low, there) = any_there n test before in (j, omega arith, there))
    (λ last. (n, omega arith, last))
    (or_cases (any_below n test) (test n) is)

any_true : (n : ℕ) (test : ℕ → Bool) (j : ℕ) → j < n → test j ≡ true → any_below n test ≡ true
any_true zero test j low is = absurd (omega arith)
any_true (suc n) test j low is =
    ⊎_elim (λ before. or_left (any_below n test) (test n) (any_true n test j before is))
    (λ last. let same : j ≡ n = omega arith in
    or_right (any_below n test) (test n) (subst (λ i. test i ≡ true) same is))
    (cases_lt j n)

by_level : (level a : ℕ) → a / 64 ^ suc level ≡ a / 64 ^ level / 64
by_level level a = ap (λ n. a / n) (pow-suc 64 level) ∙ sym (div-div-eq-div-mul a (64 ^ level) 64)

parent : (q index j : ℕ) → q ≡ 64 * index + j → j < 64 → q / 64 ≡ index
parent q index j is low = omega arith

-- A written address is below the key.
pub record IsBelow (level index : ℕ) (written : ℕ → Bool) : Type 0 where
  pub addr : ℕ
  pub is_written : written addr ≡ true
  pub above : addr / 64 ^ level ≡ index

pub written_below : (level index : ℕ) (written : ℕ → Bool) → dirty_at level written index ≡ true → IsBelow level index written
written_below zero index written is = record { addr = index; is_written = is; above = omega arith }
written_below (suc level) index written is =
    let (j, low, there) = any_there 64 (λ j. dirty_at level written (64 * index + j)) is in
    let below = written_below level (64 * index + j) written there in
    record {
      addr = below.addr;
      is_written = below.is_written;
      above = by_level level below.addr ∙ parent (below.addr / 64 ^ level) index j below.above low;
    }

pub dirty_above : (level a : ℕ) (written : ℕ → Bool) → written a ≡ true → dirty_at level written (a / 64 ^ level) ≡ true
dirty_above zero a written is = let same : a ≡ a / 64 ^ zero = omega arith in subst (λ x. written x ≡ true) same is
dirty_above (suc level) a written is =
    let q = a / 64 ^ level in
    let there : 64 * (q / 64) + q % 64 ≡ q = omega arith in
    let here = any_true 64 (λ j. dirty_at level written (64 * (q / 64) + j)) (q % 64) (omega arith)
    (subst (λ x. dirty_at level written x ≡ true) (sym there) (dirty_above level a written is)) in
    subst (λ x. dirty_at (suc level) written x ≡ true) (sym (by_level level a)) here

quotient_le : (level a : ℕ) → a / 64 ^ level ≤ a
quotient_le zero a = omega arith
quotient_le (suc level) a = let below = quotient_le level a in rw (by_level level a) (omega arith)

index_of : Key → ℕ
index_of page = page.index

mapped : (pages : List Key) (page : Key) → Contains pages page → Contains (map index_of pages) (index_of page)
mapped pages page (k, lt, is) = (
  k,
  rw (length-map pages index_of) lt,
  get_or-map index_of pages k page (index_of page) lt ∙ ap index_of is,
)

-- one of these pages has the index
IsOf : List Key → ℕ → Type 0
IsOf pages index = (page : Key) × Contains pages page × (index_of page ≡ index)

of_mapped : (pages : List Key) (index : ℕ) → Contains (map index_of pages) index → IsOf pages index
unfolding IsOf
of_mapped pages index (k, lt, is) =
    let inside : k < length pages = rw (length-map pages index_of) at lt in
    (get_or pages k root, Contains-get_or pages k root inside, sym (get_or-map index_of pages k root index inside) ∙ is)

module _ (blocks : ℕ) (written : ℕ → Bool) (addrs : List ℕ) (listed : AreListed blocks written addrs)
    (low : (x : ℕ) → written x ≡ true → x < blocks) (level : ℕ) where
  exact : ArePagesAbove level addrs (pages_above level addrs)
  exact = they_are_exact level addrs listed.rise

  indexes : List ℕ
  indexes = map index_of (pages_above level addrs)

  they_rise : Rises indexes
  unfolding indexes index_of
  they_rise i j d less lt =
      let inside : j < length (pages_above level addrs) = rw (length-map (pages_above level addrs) index_of) at lt in
      let one = get_or-map index_of (pages_above level addrs) i root d (omega arith) in
      let other = get_or-map index_of (pages_above level addrs) j root d inside in
      rw (one, other) (exact.rise i j root less inside)

  written_of : (a : ℕ) → Contains addrs a → (written a ≡ true) × (a < blocks)
  written_of a among =
      let below = All-contains (λ x. x < blocks) addrs a listed.low among in
      (listed.are a below ∙ among_contained addrs a among, below)

  they_are_low : All (λ x. x < blocks) indexes
  unfolding indexes index_of
  they_are_low k d lt =
      let inside : k < length (pages_above level addrs) = rw (length-map (pages_above level addrs) index_of) at lt in
      let page = get_or (pages_above level addrs) k root in
      let (a, among, is) = exact.only page (Contains-get_or (pages_above level addrs) k root inside) in
      let below = (written_of a among).1 in
      let index : page.index ≡ a / 64 ^ level = ap index_of is ∙ index_of_page level a in
      let most = quotient_le level a in
      rw (get_or-map index_of (pages_above level addrs) k root d inside) (omega arith)

  found : (x : ℕ) → dirty_at level written x ≡ true → is_among indexes x ≡ true
  unfolding indexes index_of
  found x is =
      let below = written_below level x written is in
      let there : Contains addrs below.addr =
      contains_among addrs below.addr (sym (listed.are below.addr (low below.addr below.is_written)) ∙ below.is_written) in
      let page = mapped (pages_above level addrs) (page_above level below.addr) (exact.all below.addr there) in
      among_contained indexes x (subst (Contains indexes) (index_of_page level below.addr ∙ below.above) page)

  dirty : (x : ℕ) → is_among indexes x ≡ true → dirty_at level written x ≡ true
  unfolding indexes index_of IsOf
  dirty x is =
      let (page, among, index) = of_mapped (pages_above level addrs) x (contains_among indexes x is) in
      let (a, there, is_above) = exact.only page among in
      subst (λ i. dirty_at level written i ≡ true) (sym (index_of_page level a) ∙ sym (ap index_of is_above) ∙ index)
      (dirty_above level a written (written_of a there).0)

  -- there are as many dirty keys of a level as pages of it above the addresses
  pub count_level : count_below blocks (dirty_at level written) ≡ length (pages_above level addrs)
  unfolding indexes
  count_level =
      count_listed blocks (dirty_at level written) indexes (record {
        rise = they_rise;
        low = they_are_low;
        are = λ x lt. same_tests (dirty_at level written x) (is_among indexes x) (found x) (dirty x);
      }) ∙ length-map (pages_above level addrs) index_of

same_sums : (a b c d e f g h : ℕ) → a ≡ e → b ≡ f → c ≡ g → d ≡ h → a + (b + (c + d)) ≡ e + (f + g + h)
same_sums a b c d e f g h p q r s = omega arith

-- so many keys a group has, where these are the addresses that were written
pub keys_counted : (blocks : ℕ) (written : ℕ → Bool) (addrs : List ℕ) → AreListed blocks written addrs
    → ((x : ℕ) → written x ≡ true → x < blocks) → keys_needed blocks written ≡ length addrs + dirty_pages addrs
keys_counted blocks written addrs listed low =
    same_sums (count_below blocks (dirty_at 0 written)) (count_below blocks (dirty_at 1 written))
    (count_below blocks (dirty_at 2 written)) (count_below blocks (dirty_at 3 written))
    (length addrs) (length (pages_above 1 addrs)) (length (pages_above 2 addrs)) (length (pages_above 3 addrs))
    (count_listed blocks written addrs listed)
    (count_level blocks written addrs listed low 1)
    (count_level blocks written addrs listed low 2)
    (count_level blocks written addrs listed low 3)
