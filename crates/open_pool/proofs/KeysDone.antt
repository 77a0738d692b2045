-- The key whose write turn is next: the least one of the group that is left.
use Rattle.std.proofs.Common.{◌≡◌, inl, inr, ℕ, zero, suc, cond, Bool, true, false, List, [], ◌∷◌, take, Some, None, refl, sym, ap, ◌∙◌, subst, arith}
use Rattle.std.specs.Prelude.{is_some, slice_get}
use Rattle.std.proofs.lemmas.Bool.{true≢false, false_from_ne_true}
use Rattle.mp_base.specs.declared.place.Key.{Key}
use Rattle.block_map.specs.Keys.{IsBefore}
use Rattle.txg_history.specs.Groups.{same_key}
use Rattle.txg_history.specs.Records.{Cell}
use Rattle.txg_history.proofs.Listing.{one_key}
use Rattle.txg_engine.proofs.Places.{same_key_self}
use Rattle.txg_engine.specs.declared.item.Item.{Item}
use Rattle.txg_engine.specs.Frozen.{KeysRise}
use Rattle.txg_engine.specs.Items.{cell_of}
use Rattle.open_pool.specs.State.{cells_of, is_done}
use Rattle.open_pool.proofs.PlacesGiven.{rises_to, keys_rise_on}

-- Behind the turn of this key it is done too, and before it no lesser key was left.
pub record IsNextKey (items : List Item) (written : ℕ) (item : Item) : Type 0 where
  pub cell_is : cells_of items item.key ≡ Some (cell_of item)
  pub undone : is_done items written item.key ≡ false
  pub done : (j : Key) → is_done items (suc written) j ≡ cond (same_key item.key j) true (is_done items written j)
  pub least : (j : Key) (other : Cell) → cells_of items j ≡ Some other → is_done items written j ≡ false
      → IsBefore j item.key → ⊥

not_both : (j k : Key) → IsBefore j k → IsBefore k j → ⊥
not_both j k (inl a) (inl b) = omega (arith, a, b)
not_both j k (inl a) (inr b) = omega (arith, a, b.0)
not_both j k (inr a) (inl b) = omega (arith, a.0, b)
not_both j k (inr a) (inr b) = omega (arith, a.1, b.1)

not_itself : (j k : Key) → j ≡ k → IsBefore j k → ⊥
not_itself j k same (inl less) = omega (arith, less, ap (λ (i : Key). i.level) same)
not_itself j k same (inr less) = omega (arith, less.1, ap (λ (i : Key). i.index) same)

other_key : (j k : Key) → IsBefore j k → same_key j k ≡ false
other_key j k before = false_from_ne_true (same_key j k) (λ same. not_itself j k (one_key j k same) before)

first_next : (item : Item) (items : List Item) → KeysRise (item ∷ items) → IsNextKey (item ∷ items) zero item
first_next item items rise = record {
  cell_is = ap (λ b. cond b (Some (cell_of item)) (cells_of items item.key)) (same_key_self item.key item.key refl);
  undone = refl;
  done = λ j. one (same_key item.key j);
  least = λ j other is undone before. by j other (same_key item.key j) refl is before;
}
  where
    one : (t : Bool) → is_some (cond t (Some (cell_of item)) None) ≡ cond t true false
    one true = refl
    one false = refl

    by : (j : Key) (other : Cell) (t : Bool) → same_key item.key j ≡ t
        → cond t (Some (cell_of item)) (cells_of items j) ≡ Some other → IsBefore j item.key → ⊥
    by j other true here is before = not_itself j item.key (sym (one_key item.key j here)) before
    by j other false here is before = not_both item.key j (rises_to items item rise j other is) before

later_next : (first item : Item) (items : List Item) (written : ℕ) → KeysRise (first ∷ items)
    → IsNextKey items written item → IsNextKey (first ∷ items) (suc written) item
later_next first item items written rise next = record {
  cell_is = ap (λ b. cond b (Some (cell_of first)) (cells_of items item.key)) other ∙ next.cell_is;
  undone = ap (λ b. is_some (cond b (Some (cell_of first)) (cells_of (take written items) item.key))) other
      ∙ next.undone;
  done = λ j. more j (same_key first.key j) (same_key item.key j) (next.done j);
  least = λ j cell is undone before. by j cell (same_key first.key j) refl is undone before;
}
  where
    other : same_key first.key item.key ≡ false
    other = other_key first.key item.key (rises_to items first rise item.key (cell_of item) next.cell_is)

    more : (j : Key) (t u : Bool)
        → is_some (cells_of (take (suc written) items) j) ≡ cond u true (is_some (cells_of (take written items) j))
        → is_some (cond t (Some (cell_of first)) (cells_of (take (suc written) items) j))
        ≡ cond u true (is_some (cond t (Some (cell_of first)) (cells_of (take written items) j)))
    more j true true is = refl
    more j true false is = refl
    more j false u is = is

    by : (j : Key) (cell : Cell) (t : Bool) → same_key first.key j ≡ t
        → cond t (Some (cell_of first)) (cells_of items j) ≡ Some cell
        → is_some (cond t (Some (cell_of first)) (cells_of (take written items) j)) ≡ false → IsBefore j item.key → ⊥
    by j cell true here is undone before = absurd (true≢false undone)
    by j cell false here is undone before = next.least j cell is undone before

pub next_key : (items : List Item) (written : ℕ) (item : Item) → KeysRise items → slice_get items written ≡ Some item
    → IsNextKey items written item
next_key [] written item rise at = absurd (let no : None ≡ Some item = at in cc)
next_key (first ∷ items) zero item rise at = let same : first ≡ item = cc in subst (IsNextKey (first ∷ items) zero) same
    (first_next first items rise)
next_key (first ∷ items) (suc written) item rise at = later_next first item items written rise
    (next_key items written item (keys_rise_on first items rise) at)
