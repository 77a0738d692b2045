-- Pages with the pointers of keys that are laid over a map.
use Rattle.std.proofs.Common.{◌≡◌, ◌≢◌, ⊎_elim, ℕ, ◌+◌, ◌-◌, ◌*◌, ◌/◌, ◌%◌, ◌<◌, ◌==◌, ◌&&◌, cond, Bool, true, false, List, [], ◌∷◌, ◌++◌, get_or, set, refl, sym, ap, ◌∙◌, arith, get_or-set_same, get_or-set_other, length-set}
use Rattle.std.proofs.lemmas.Bool.Decides.{nat_tests}
use Rattle.std.proofs.lemmas.Bool.{true≢false, cases_eq}
use Rattle.std.proofs.lemmas.List.FromFn.{get_or-map-range_with_len, length-map-range_with_len, fill_by_all}
use Rattle.mp_base.specs.declared.place.Key.{Key}
use Rattle.mp_base.specs.declared.place.Pointer.{Pointer}
use Rattle.block_map.specs.Keys.{child}
use Rattle.block_map.specs.Map.{children}
use Rattle.block_map.specs.Pointers.{hole}
use Rattle.txg_history.specs.Groups.{same_key}
use Rattle.txg_engine.specs.declared.item.Item.{Item}
use Rattle.txg_engine.specs.Items.{is_child, put, laid}

-- one key more is laid over the map
pub laid_snoc : (items : List Item) (item : Item) (at : Key → Pointer) → laid (items ++ item ∷ []) at ≡ put item (laid items at)
laid_snoc [] item at = refl
laid_snoc (x ∷ items) item at = laid_snoc items item (put x at)

pub child_at : (at : Key → Pointer) (page : Key) (j : ℕ) (d : Pointer) → j < 64 → get_or (children at page) j d ≡ at (child page j)
child_at at page j d less = get_or-map-range_with_len (λ i. at (child page i)) 0 64 j j d less (omega arith)

are_equal : (a b : ℕ) → a ≡ b → (a == b) ≡ true
are_equal a b e = grind (arith, nat_tests)

are_apart : (a b : ℕ) → a ≢ b → (a == b) ≡ false
are_apart a b e = grind (arith, nat_tests)

is_equal : (a b : ℕ) → (a == b) ≡ true → a ≡ b
is_equal a b e = grind (arith, nat_tests)

isnt_equal : (a b : ℕ) → (a == b) ≡ false → a ≢ b
isnt_equal a b e = λ same. true≢false (sym (are_equal a b same) ∙ e)

both : (a b : Bool) → a ≡ true → b ≡ true → (a && b) ≡ true
both a b e f = rw (e, f) refl

not_first : (a b : Bool) → a ≡ false → (a && b) ≡ false
not_first a b e = rw e refl

not_second : (a b : Bool) → b ≡ false → (a && b) ≡ false
not_second true b e = e
not_second false b e = refl

first_of_both : (a b : Bool) → (a && b) ≡ true → a ≡ true
first_of_both true b e = refl
first_of_both false b e = e

second_of_both : (a b : Bool) → (a && b) ≡ true → b ≡ true
second_of_both true b e = e
second_of_both false b e = absurd (true≢false (sym e))

by_level : (t : Bool) (a b : Bool) → a ≡ t → (t ≡ true → b ≡ false) → (a && b) ≡ false
by_level true a b e none = not_second a b (none refl)
by_level false a b e none = not_first a b e

-- a page's child is of the level below, and its index is 64 times the page's and less than 64 more
child_index : (i p : ℕ) → i / 64 ≡ p → i ≡ 64 * p + i % 64
child_index i p e = omega arith

module _ (page : Key) (item : Item) (at : Key → Pointer) where
  same_there : is_child page item.key ≡ true → same_key item.key (child page (item.key.index % 64)) ≡ true
  same_there is =
      both _ _ (first_of_both _ _ is)
      (are_equal item.key.index (64 * page.index + item.key.index % 64)
      (child_index item.key.index page.index (is_equal (item.key.index / 64) page.index (second_of_both (item.key.level == page.level - 1) _ is))))

  other_there : (k : ℕ) → is_child page item.key ≡ true → k < 64 → k ≢ item.key.index % 64 → same_key item.key (child page k) ≡ false
  other_there k is less apart =
      not_second (item.key.level == page.level - 1) _ (are_apart item.key.index (64 * page.index + k)
      (let e = is_equal (item.key.index / 64) page.index (second_of_both (item.key.level == page.level - 1) _ is) in
      let e' = child_index item.key.index page.index e in λ same. apart (omega arith)))

  none_there : (k : ℕ) → is_child page item.key ≡ false → k < 64 → same_key item.key (child page k) ≡ false
  none_there k isnt less =
      by_level (item.key.level == page.level - 1) (item.key.level == page.level - 1) _ refl
      (λ level. are_apart item.key.index (64 * page.index + k)
      (λ same. true≢false (sym (both (item.key.level == page.level - 1) (item.key.index / 64 == page.index) level (are_equal (item.key.index / 64) page.index (omega arith))) ∙ isnt)))

  -- a key that is a child of the page
  pub children_put : is_child page item.key ≡ true → set (children at page) (item.key.index % 64) item.pointer ≡ children (put item at) page
  children_put is =
      let long = length-map-range_with_len (λ i. at (child page i)) 0 64 in
      fill_by_all (λ j. put item at (child page j)) (set (children at page) (item.key.index % 64) item.pointer) 64 hole
      (length-set (children at page) (item.key.index % 64) item.pointer ∙ long)
      (λ k less. ⊎_elim {A = k ≡ item.key.index % 64} {B = k ≢ item.key.index % 64}
      (λ here. ap (λ n. get_or (set (children at page) (item.key.index % 64) item.pointer) n hole) here
      ∙ get_or-set_same (children at page) (item.key.index % 64) item.pointer hole (omega arith)
      ∙ sym (ap (λ n. put item at (child page n)) here ∙ ap (λ b. cond b item.pointer (at (child page (item.key.index % 64)))) (same_there is)))
      (λ other. get_or-set_other (children at page) (item.key.index % 64) k item.pointer hole other ∙ child_at at page k hole less
      ∙ sym (ap (λ b. cond b item.pointer (at (child page k))) (other_there k is less other)))
      (cases_eq k (item.key.index % 64)))

  -- one that is not
  pub children_same : is_child page item.key ≡ false → children at page ≡ children (put item at) page
  children_same isnt =
      fill_by_all (λ j. put item at (child page j)) (children at page) 64 hole (length-map-range_with_len (λ i. at (child page i)) 0 64)
      (λ k less. child_at at page k hole less ∙ sym (ap (λ b. cond b item.pointer (at (child page k))) (none_there k isnt less)))
