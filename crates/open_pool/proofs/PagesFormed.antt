-- The pages of a freeze are pages, with the pointers that then are below them.
use Rattle.std.proofs.Common.{◌≡◌, ◌⊎◌, inl, inr, ⊎_elim, ℕ, zero, suc, ◌<◌, ◌≤◌, ◌==◌, ◌&&◌, ◌||◌, Bool, true, false, cond, nat_lt, List, [], ◌∷◌, All, length, get_or, Some, None, refl, sym, ap, ◌∙◌, subst, arith}
use Rattle.std.specs.List.{list_all, list_any}
use Rattle.std.proofs.lemmas.Bool.{cases_Bool}
use Rattle.std.proofs.lemmas.Bool.Decides.{nat_tests}
use Rattle.std.proofs.lemmas.List.Elements.{All-head, All-tail, All-contains, All-from_get_or}
use Rattle.std.proofs.lemmas.List.FromFn.{get_or-map-range_with_len, length-map-range_with_len}
use Rattle.mp_base.specs.Block.{zeros}
use Rattle.mp_base.specs.declared.place.Key.{Key}
use Rattle.mp_base.specs.declared.place.Pointer.{Pointer}
use Rattle.block_map.specs.Keys.{child}
use Rattle.block_map.specs.Map.{Map, pointer_at, children}
use Rattle.block_map.specs.Pages.{AreInForm, page_bytes}
use Rattle.block_map.specs.Pointers.{IsInForm, IsPointer, hole}
use Rattle.block_map.proofs.PageBytes.{read_back}
use Rattle.pool_config.specs.Validity.{is_hole}
use Rattle.txg_history.specs.Groups.{same_key}
use Rattle.txg_history.specs.Pages.{sum_of}
use Rattle.txg_history.specs.Records.{Cell}
use Rattle.txg_engine.specs.declared.item.Item.{Item}
use Rattle.txg_engine.specs.Freezing.{IsFilled, IsSigned}
use Rattle.txg_engine.specs.Frozen.{KeysRise}
use Rattle.txg_engine.specs.Items.{laid, put}
use Rattle.pool_codec.specs.Codecs.{is_formed, is_page, is_written, pointer_in}
use Rattle.pool_codec.specs.Pointers.{sum_in, told}
use Rattle.pool_codec.proofs.PagesTold.{is_a_page}
use Rattle.pool_moves.specs.Moves.{sum_over, sums_over}
use Rattle.open_pool.specs.State.{cells_of, sums_of}
use Rattle.open_pool.proofs.KeysFound.{found_item, laid_sums}

-- what holds of the pointers of the keys and of a map's holds of the map with these keys over it
laid_has : (P : Pointer → Type 0) (items : List Item) (at : Key → Pointer) → All (λ item. P item.pointer) items → ((k : Key) → P (at k))
    → (k : Key) → P (laid items at k)
laid_has P [] at these others k = others k
laid_has P (item ∷ items) at these others k =
    laid_has P items (put item at) (All-tail (λ i. P i.pointer) item items these)
    (λ j. by_key j (cases_Bool (same_key item.key j))) k
  where
    by_key : (j : Key) → (same_key item.key j ≡ true) ⊎ (same_key item.key j ≡ false) → P (put item at j)
    by_key j (inl here) = subst P (sym (ap (λ b. cond b item.pointer (at j)) here)) (All-head (λ i. P i.pointer) item items these)
    by_key j (inr other) = subst P (sym (ap (λ b. cond b item.pointer (at j)) other)) (others j)

hole_is_one : is_hole hole ≡ true
unfolding zeros
hole_is_one = refl

formed_by : (sectors : List ℕ) (pointer : Pointer) → IsPointer sectors pointer → is_formed pointer ≡ true
formed_by sectors pointer is =
    ⊎_elim (λ written. ap (λ b. b || is_hole pointer) written)
    (λ unwritten. ap (λ b. b || is_hole pointer) unwritten ∙ ap is_hole (is.hole (zero_birth pointer.birth.0 unwritten)) ∙ hole_is_one)
    (cases_Bool (is_written pointer))
  where
    zero_birth : (n : ℕ) → nat_lt 0 n ≡ false → n ≡ 0
    zero_birth n unwritten = grind (arith, nat_tests)

-- the pointers of a page in this map
module _ (at : Key → Pointer) (page : Key) where
  count : length (children at page) ≡ 64
  count = length-map-range_with_len (λ j. at (child page j)) 0 64

  pub nth_child : (j : ℕ) → j < 64 → get_or (children at page) j hole ≡ at (child page j)
  nth_child j few = get_or-map-range_with_len (λ i. at (child page i)) 0 64 j j hole few (omega arith)

  all_children : (P : Pointer → Type 0) → ((k : Key) → P (at k)) → All P (children at page)
  all_children P each = All-from_get_or P (children at page) hole
      (λ j less. subst P (sym (nth_child j (omega (arith, less, count)))) (each (child page j)))

  pub children_fit : ((k : Key) → IsInForm (at k)) → AreInForm (children at page)
  children_fit form = record { count = count; each = all_children IsInForm form }

all_from : (test : Pointer → Bool) (pointers : List Pointer) → ((j : ℕ) → j < length pointers → test (get_or pointers j hole) ≡ true)
    → list_all test pointers ≡ true
all_from test [] each = refl
all_from test (p ∷ pointers) each =
    ap (λ b. b && list_all test pointers) (each 0 (omega arith))
    ∙ all_from test pointers (λ j less. each (suc j) (omega (arith, less)))

any_from : (test : Pointer → Bool) (pointers : List Pointer) (j : ℕ) → j < length pointers → test (get_or pointers j hole) ≡ true → list_any test pointers ≡ true
any_from test [] j less is = absurd (omega (arith, less))
any_from test (p ∷ pointers) zero less is = ap (λ b. b || list_any test pointers) is
any_from test (p ∷ pointers) (suc j) less is =
    ap (λ b. test p || b) (any_from test pointers j (omega (arith, less)) is) ∙ or_true (test p)
  where
    or_true : (b : Bool) → (b || true) ≡ true
    or_true true = refl
    or_true false = refl

-- What is known of the keys of a freeze and of the map under them.
module _ (number : ℕ) (old : Map) (items : List Item) (some : 1 ≤ number) (rise : KeysRise items) (signed : All (IsSigned number) items)
    (fits : All (λ item. IsPointer old.sectors item.pointer) items) (forms : All (λ item. IsInForm item.pointer) items)
    (fit : (k : Key) → IsPointer old.sectors (pointer_at old k)) (form : (k : Key) → IsInForm (pointer_at old k))
    (filled : All (IsFilled (laid items (pointer_at old))) items) where
  abbrev new_at : Key → Pointer
  new_at = laid items (pointer_at old)

  new_form : (k : Key) → IsInForm (new_at k)
  new_form k = laid_has IsInForm items (pointer_at old) forms form k

  new_fit : (k : Key) → IsPointer old.sectors (new_at k)
  new_fit k = laid_has (IsPointer old.sectors) items (pointer_at old) fits fit k

  -- the bytes of a page that was found
  page_of : (page : Key) (cell : Cell) → 1 ≤ page.level → cells_of items page ≡ Some cell → cell.block ≡ page_bytes (children new_at page)
  page_of page cell low is =
      let found = found_item items page cell is in
      let level : 1 ≤ found.item.key.level = omega (arith, low, ap (λ (k : Key). k.level) found.key_is) in
      sym (ap (λ (c : Cell). c.block) found.cell_is) ∙ All-contains (IsFilled new_at) items found.item filled found.among level
      ∙ ap (λ k. page_bytes (children new_at k)) found.key_is

  sums_now : (k : Key) → sum_in (new_at k) ≡ sums_over (cells_of items) (sums_of old) k
  sums_now k = laid_sums number items (pointer_at old) k some signed rise

  pub page_pointers : (page : Key) (cell : Cell) (j : ℕ) → 1 ≤ page.level → j < 64 → cells_of items page ≡ Some cell
      → pointer_in cell.block j ≡ sums_over (cells_of items) (sums_of old) (child page j)
  page_pointers page cell j low few is =
      ap (λ bytes. pointer_in bytes j) (page_of page cell low is)
      ∙ ap (λ pointers. sum_in (get_or pointers j hole)) (read_back (children new_at page) (children_fit new_at page new_form))
      ∙ ap sum_in (nth_child new_at page j few) ∙ sums_now (child page j)

  written_child : (page : Key) (j : ℕ) (below : Cell) → j < 64 → cells_of items (child page j) ≡ Some below → is_written (new_at (child page j)) ≡ true
  written_child page j below few is = some_sum (new_at (child page j)) below (sums_now (child page j) ∙ ap (λ o. sum_over o (sums_of old (child page j))) is)
    where
      no_birth : (n : ℕ) → nat_lt 0 n ≡ false → (n == 0) ≡ true
      no_birth n unwritten = grind (arith, nat_tests)

      no_sum : (pointer : Pointer) (c : Cell) → is_written pointer ≡ false → sum_in pointer ≡ sum_of (Some c) → ⊥
      no_sum pointer c unwritten same =
          let none : sum_in pointer ≡ None = ap (λ b. cond b None (Some (told pointer))) (no_birth pointer.birth.0 unwritten) in
          absurd (let no : None ≡ sum_of (Some c) = sym none ∙ same in cc)

      some_sum : (pointer : Pointer) (c : Cell) → sum_in pointer ≡ sum_of (Some c) → is_written pointer ≡ true
      some_sum pointer c same = ⊎_elim (λ written. written) (λ unwritten. absurd (no_sum pointer c unwritten same)) (cases_Bool (is_written pointer))

  pub page_is_one : (page : Key) (cell : Cell) (j : ℕ) (below : Cell) → 1 ≤ page.level → j < 64 → cells_of items page ≡ Some cell
      → cells_of items (child page j) ≡ Some below → is_page cell.block ≡ true
  page_is_one page cell j below low few is child_is =
      let full : length (children new_at page) ≡ 64 = count new_at page in
      ap is_page (page_of page cell low is)
      ∙ is_a_page (children new_at page) (children_fit new_at page new_form)
      (all_from is_formed (children new_at page) (λ i less. ap is_formed (nth_child new_at page i (omega (arith, less, full)))
      ∙ formed_by old.sectors (new_at (child page i)) (new_fit (child page i))))
      (any_from is_written (children new_at page) j (omega (arith, few, full))
      (ap is_written (nth_child new_at page j few) ∙ written_child page j below few child_is))
