-- The keys of a freeze are just those that its writes make dirty.
use Rattle.std.proofs.Common.{◌≡◌, ◌⊎◌, inl, inr, ⊎_elim, ℕ, zero, suc, ◌+◌, ◌*◌, ◌<◌, ◌≤◌, ◌||◌, Bool, true, false, Option, Some, None, List, refl, sym, ap, ◌∙◌, subst, arith}
use Rattle.std.specs.Option.{option_map, is_some}
use Rattle.txg_history.specs.Pages.{Codec}
use Rattle.txg_history.specs.Records.{Cell, Cells, key}
use Rattle.txg_history.proofs.Logging.{by_bool}
use Rattle.pool_moves.specs.FreezeRow.{AreDirtyKeys}
use Rattle.pool_moves.specs.Refusing.{any_below, dirty_at, is_written}
use Rattle.pool_moves.specs.States.{PoolState}

either_last : (any last : Bool) → (any ≡ true) ⊎ (last ≡ true) → (any || last) ≡ true
either_last true last one = refl
either_last false last (inl never) = absurd (cc)
either_last false last (inr is) = is

below_or : (i m : ℕ) → i < suc m → (i ≡ m) ⊎ (i < m)
below_or i m low = grind (arith)

any_true : (limit : ℕ) (test : ℕ → Bool) (j : ℕ) → j < limit → test j ≡ true → any_below limit test ≡ true
any_true zero test j low is = absurd (omega (arith, low))
any_true (suc n) test j low is = either_last (any_below n test) (test n)
    (⊎_elim (λ same. inr (subst (λ i. test i ≡ true) same is)) (λ less. inl (any_true n test j less is)) (below_or j n low))

any_false : (limit : ℕ) (test : ℕ → Bool) → ((j : ℕ) → j < limit → test j ≡ false) → any_below limit test ≡ false
any_false zero test each = refl
any_false (suc n) test each = ap (λ t. t || test n) (any_false n test (λ j low. each j (omega (arith, low)))) ∙ each n (omega arith)

some_block : (cell : Option Cell) (write : Option (List ℕ)) → option_map (λ cell. cell.block) cell ≡ write → is_some cell ≡ is_some write
some_block (Some cell) write is = ap is_some is
some_block None write is = ap is_some is

is_some_of : {A : Type 0} (o : Option A) → is_some o ≡ true → (x : A) × (o ≡ Some x)
is_some_of (Some x) is = (x, refl)
is_some_of None is = absurd (cc)

pub dirty_is : (c : Codec) (s : PoolState) (cells : Cells) (level index : ℕ) → AreDirtyKeys c s cells → level ≤ 3
    → is_some (cells (key level index)) ≡ dirty_at level (is_written s) index
dirty_is c s cells zero index dirty low = some_block (cells (key 0 index)) (s.own.writes index) (dirty.takes index)
dirty_is c s cells (suc level) index dirty low = of (cells (key (suc level) index)) refl
    (λ j. dirty_is c s cells level (64 * index + j) dirty (omega (arith, low)))
  where
    none_some : {A : Type 0} (o : Option Cell) (x : Cell) → o ≡ None → o ≡ Some x → A
    none_some o x none is = absurd (cc)

    below : level < 3
    below = omega (arith, low)

    of : (cell : Option Cell) → cells (key (suc level) index) ≡ cell
        → ((j : ℕ) → is_some (cells (key level (64 * index + j))) ≡ dirty_at level (is_written s) (64 * index + j))
        → is_some (cells (key (suc level) index)) ≡ any_below 64 (λ j. dirty_at level (is_written s) (64 * index + j))
    of (Some page) is each = let child = dirty.only level index page below is in
        ap is_some is ∙ sym (any_true 64 (λ j. dirty_at level (is_written s) (64 * index + j)) child.j child.below
        (sym (each child.j) ∙ ap is_some child.cell_is))
    of None is each = ap is_some is ∙ sym (any_false 64 (λ j. dirty_at level (is_written s) (64 * index + j))
        (λ j less. by_bool (dirty_at level (is_written s) (64 * index + j))
        (λ yes. let there = is_some_of (cells (key level (64 * index + j))) (each j ∙ yes) in
        let page = dirty.up level index j there.0 below less there.1 in none_some (cells (key (suc level) index)) page.0 is page.1) (λ off. off)))
