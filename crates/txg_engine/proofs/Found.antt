-- Writes by rising addresses: where one is, and what one more changes.
use Rattle.std.proofs.Common.{◌≡◌, ℕ, zero, suc, ◌+◌, ◌<◌, ◌≤◌, true, false, cond, eqb, List, [], ◌∷◌, length, get_or, set, Some, None, Result, Ok, Err, Less, Equal, Greater, refl, ap, sym, ◌∙◌, ⊎_elim, arith}
use Rattle.std.specs.List.{insert, slice_get}
use Rattle.std.specs.List.Sorted.{IsBinarySearchResult}
use Rattle.std.specs.Option.{is_some}
use Rattle.std.specs.Ordering.{nat_cmp, ordering_index}
use Rattle.std.specs.Result.{MatchResult, is_ok}
use Rattle.std.proofs.lemmas.Bool.{cases_Bool, eqb-true, eq-eqb, ne_eqb, cond-true, cond-false}
use Rattle.std.proofs.lemmas.Bool.Decides.{nat_tests}
use Rattle.std.proofs.lemmas.Option.{get_or_from_slice_get, slice_get_within, slice_get_read}
use Rattle.txg_engine.specs.declared.write.Write.{Write}
use Rattle.txg_engine.specs.Writes.{RiseFrom, block_at, is_written, IsGap, IsThere, IsFound}

less_is : (a b : ℕ) → nat_cmp a b ≡ Less → a < b
less_is a b is = grind (arith, nat_tests)

equal_is : (a b : ℕ) → nat_cmp a b ≡ Equal → a ≡ b
equal_is a b is = grind (arith, nat_tests)

greater_is : (a b : ℕ) → nat_cmp a b ≡ Greater → b < a
greater_is a b is = grind (arith, nat_tests)

higher : (a b x : ℕ) → a ≤ b → ordering_index (nat_cmp a x) ≤ ordering_index (nat_cmp b x)
higher a b x le = grind (arith, nat_tests)

low_at : (low : ℕ) (ws : List Write) (i : ℕ) (d : Write) → RiseFrom low ws → i < length ws → low ≤ (get_or ws i d).addr
low_at low [] i d rise inside = absurd (omega arith)
low_at low (w ∷ ws) zero d rise inside = rise.0
low_at low (w ∷ ws) (suc i) d rise inside = omega (arith, rise.0, low_at (w.addr + 1) ws i d rise.1 (omega arith))

rise_at : (low : ℕ) (ws : List Write) (i j : ℕ) (d : Write) → RiseFrom low ws → i ≤ j → j < length ws
    → (get_or ws i d).addr ≤ (get_or ws j d).addr
rise_at low [] i j d rise le inside = absurd (omega arith)
rise_at low (w ∷ ws) zero zero d rise le inside = omega arith
rise_at low (w ∷ ws) zero (suc j) d rise le inside = omega (arith, low_at (w.addr + 1) ws j d rise.1 (omega arith))
rise_at low (w ∷ ws) (suc i) zero d rise le inside = absurd (omega arith)
rise_at low (w ∷ ws) (suc i) (suc j) d rise le inside =
    rise_at (w.addr + 1) ws i j d rise.1 (omega arith) (omega arith)

-- what a write's address compares to, read at its place
compares : (ws : List Write) (addr i : ℕ) (w : Write) → slice_get ws i ≡ Some w
    → nat_cmp w.addr addr ≡ nat_cmp (get_or ws i w).addr addr
compares ws addr i w e = ap (λ (v : Write). nat_cmp v.addr addr) (sym (get_or_from_slice_get ws i w w e))

-- what a binary search by addresses answers
pub is_found : (ws : List Write) (addr : ℕ) (r : Result ℕ ℕ) → RiseFrom 0 ws
    → MatchResult r (λ i. i < length ws) (λ i. i ≤ length ws)
    → IsBinarySearchResult (λ (w : Write). nat_cmp w.addr addr) ws r → IsFound ws addr r
is_found ws addr (Ok at) rise inside found = record {
  inside = inside;
  is = λ w e. equal_is w.addr addr (compares ws addr at w e ∙ found w);
}
is_found ws addr (Err at) rise inside found =
    let parted = found (λ i j d le lt.
    higher (get_or ws i d).addr (get_or ws j d).addr addr (rise_at 0 ws i j d rise le lt)) in
    record {
      inside = inside;
      before = λ i w lt e. less_is w.addr addr (compares ws addr i w e ∙ parted.0 i w (omega arith) lt);
      behind = λ i w le e.
          greater_is w.addr addr (compares ws addr i w e ∙ parted.1 i w le (slice_get_within ws i w e));
    }

gap_tail : (w : Write) (ws : List Write) (addr at : ℕ) → IsGap (w ∷ ws) addr (suc at) → IsGap ws addr at
gap_tail w ws addr at gap = record {
  inside = let inside = gap.inside in omega arith;
  before = λ i v lt e. gap.before (suc i) v (omega arith) e;
  behind = λ i v le e. gap.behind (suc i) v (omega arith) e;
}

there_tail : (w : Write) (ws : List Write) (addr at : ℕ) → IsThere (w ∷ ws) addr (suc at) → IsThere ws addr at
there_tail w ws addr at there = record {
  inside = let inside = there.inside in omega arith;
  is = λ v e. there.is v e;
}

-- where an address belongs behind the first write or before it
gap_front : (w : Write) (ws : List Write) (addr : ℕ) → IsGap (w ∷ ws) addr 0 → IsGap ws addr 0
gap_front w ws addr gap = record {
  inside = omega arith;
  before = λ i v lt e. absurd (omega arith);
  behind = λ i v le e. gap.behind (suc i) v (omega arith) e;
}

front_less : (w : Write) (ws : List Write) (addr at : ℕ) → IsGap (w ∷ ws) addr (suc at) → w.addr < addr
front_less w ws addr at gap = gap.before 0 w (omega arith) refl

pub gap_none : (ws : List Write) (addr at : ℕ) → IsGap ws addr at → block_at ws addr ≡ None
gap_none [] addr at gap = refl
gap_none (w ∷ ws) addr zero gap =
    cond-false (eqb w.addr addr) _ _ (ne_eqb _ _ (λ e. omega (arith, gap.behind 0 w (omega arith) refl)))
    ∙ gap_none ws addr 0 (gap_front w ws addr gap)
gap_none (w ∷ ws) addr (suc at) gap =
    cond-false (eqb w.addr addr) _ _ (ne_eqb _ _ (λ e. omega (arith, front_less w ws addr at gap)))
    ∙ gap_none ws addr at (gap_tail w ws addr at gap)

low_there : (low : ℕ) (ws : List Write) (addr at : ℕ) → RiseFrom low ws → IsThere ws addr at → low ≤ addr
low_there low [] addr at rise there = absurd (let inside = there.inside in omega arith)
low_there low (w ∷ ws) addr zero rise there = omega (arith, rise.0, there.is w refl)
low_there low (w ∷ ws) addr (suc at) rise there =
    omega (arith, rise.0, low_there (w.addr + 1) ws addr at rise.1 (there_tail w ws addr at there))

first_less : (low : ℕ) (w : Write) (ws : List Write) (addr at : ℕ) → RiseFrom low (w ∷ ws)
    → IsThere (w ∷ ws) addr (suc at) → w.addr < addr
first_less low w ws addr at rise there =
    omega (arith, low_there (w.addr + 1) ws addr at rise.1 (there_tail w ws addr at there))

pub there_some : (low : ℕ) (ws : List Write) (addr at : ℕ) (d : Write) → RiseFrom low ws → IsThere ws addr at
    → block_at ws addr ≡ Some (get_or ws at d).block
there_some low [] addr at d rise there = absurd (let inside = there.inside in omega arith)
there_some low (w ∷ ws) addr zero d rise there = cond-true (eqb w.addr addr) _ _ (eq-eqb w.addr addr (there.is w refl))
there_some low (w ∷ ws) addr (suc at) d rise there =
    cond-false (eqb w.addr addr) _ _ (ne_eqb _ _ (λ e. omega (arith, first_less low w ws addr at rise there)))
    ∙ there_some (w.addr + 1) ws addr at d rise.1 (there_tail w ws addr at there)

-- two tests of one number, in either order
cond_swap : {A : Type 0} (x y : A) (o : A) (m n a : ℕ) → (m ≡ n → ⊥)
    → cond (eqb m a) x (cond (eqb n a) y o) ≡ cond (eqb n a) y (cond (eqb m a) x o)
cond_swap x y o m n a differs =
    ⊎_elim
    (λ is. let not : eqb n a ≡ false = ne_eqb n a (λ e. differs (eqb-true m a is ∙ sym e)) in rw (is, not) refl)
    (λ is. rw is refl)
    (cases_Bool (eqb m a))

module _ (addr : ℕ) (v : Write) (one : v.addr ≡ addr) where
  pub set_rise : (low : ℕ) (ws : List Write) (at : ℕ) → RiseFrom low ws → IsThere ws addr at
      → RiseFrom low (set ws at v)
  set_rise low [] at rise there = tt
  set_rise low (w ∷ ws) zero rise there = let is = there.is w refl in (omega (arith, rise.0), rw (one ∙ sym is) rise.1)
  set_rise low (w ∷ ws) (suc at) rise there =
      (rise.0, set_rise (w.addr + 1) ws at rise.1 (there_tail w ws addr at there))

  pub set_block : (low : ℕ) (ws : List Write) (at : ℕ) (a : ℕ) → RiseFrom low ws → IsThere ws addr at
      → block_at (set ws at v) a ≡ cond (eqb addr a) (Some v.block) (block_at ws a)
  set_block low [] at a rise there = absurd (let inside = there.inside in omega arith)
  set_block low (w ∷ ws) zero a rise there =
      rw (one, there.is w refl) (⊎_elim (λ is. rw is refl) (λ is. rw is refl) (cases_Bool (eqb addr a)))
  set_block low (w ∷ ws) (suc at) a rise there =
      ap (cond (eqb w.addr a) (Some w.block)) (set_block (w.addr + 1) ws at a rise.1 (there_tail w ws addr at there))
      ∙ cond_swap (Some w.block) (Some v.block) (block_at ws a) w.addr addr a
      (λ e. omega (arith, first_less low w ws addr at rise there))

  pub insert_rise : (low : ℕ) (ws : List Write) (at : ℕ) → low ≤ addr → RiseFrom low ws → IsGap ws addr at
      → RiseFrom low (insert ws at v)
  insert_rise low [] zero le rise gap = (omega arith, tt)
  insert_rise low [] (suc at) le rise gap = (omega arith, tt)
  insert_rise low (w ∷ ws) zero le rise gap = (omega arith, (omega (arith, gap.behind 0 w (omega arith) refl), rise.1))
  insert_rise low (w ∷ ws) (suc at) le rise gap =
      let less = front_less w ws addr at gap in
      (rise.0, insert_rise (w.addr + 1) ws at (omega arith) rise.1 (gap_tail w ws addr at gap))

  pub insert_block : (ws : List Write) (at : ℕ) (a : ℕ) → IsGap ws addr at
      → block_at (insert ws at v) a ≡ cond (eqb addr a) (Some v.block) (block_at ws a)
  insert_block [] zero a gap = rw one refl
  insert_block [] (suc at) a gap = rw one refl
  insert_block (w ∷ ws) zero a gap = rw one refl
  insert_block (w ∷ ws) (suc at) a gap =
      ap (cond (eqb w.addr a) (Some w.block)) (insert_block ws at a (gap_tail w ws addr at gap))
      ∙ cond_swap (Some w.block) (Some v.block) (block_at ws a) w.addr addr a
      (λ e. omega (arith, front_less w ws addr at gap))

no_write : Write
no_write = record { addr = 0; block = [] }

pub is_there : (ws : List Write) (addr at : ℕ) → RiseFrom 0 ws → IsThere ws addr at → is_written ws addr ≡ true
is_there ws addr at rise there = ap is_some (there_some 0 ws addr at no_write rise there)

pub is_not_there : (ws : List Write) (addr at : ℕ) → IsGap ws addr at → is_written ws addr ≡ false
is_not_there ws addr at gap = ap is_some (gap_none ws addr at gap)

-- whether an address was written
pub found_written : (ws : List Write) (addr : ℕ) (r : Result ℕ ℕ) → RiseFrom 0 ws → IsFound ws addr r
    → is_ok r ≡ is_written ws addr
found_written ws addr (Ok at) rise there = sym (is_there ws addr at rise there)
found_written ws addr (Err at) rise gap = sym (is_not_there ws addr at gap)

-- the write at a place that is read
pub there_read : (ws : List Write) (addr at : ℕ) (w : Write) → IsThere ws addr at → w ≡ get_or ws at w → w.addr ≡ addr
there_read ws addr at w there is = there.is w (slice_get_read ws (length ws) at w refl there.inside is)
