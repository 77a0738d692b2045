-- The keys of a group, as the history finds them, and the pointers that a map has with them.
use Rattle.std.proofs.Common.{◌≡◌, ◌⊎◌, inl, inr, ⊎_elim, ℕ, ◌+◌, ◌≤◌, ◌==◌, Bool, true, false, cond, List, [], ◌∷◌, All, Contains, Option, Some, None, refl, sym, ap, ◌∙◌, arith}
use Rattle.std.proofs.lemmas.Bool.{cases_Bool, eqb-true}
use Rattle.std.proofs.lemmas.List.Elements.{All-head, All-tail, Contains-append_cases, Contains-append_right, Contains-append_left, Contains-push}
use Rattle.mp_base.specs.declared.place.Key.{Key}
use Rattle.mp_base.specs.declared.place.Pointer.{Pointer}
use Rattle.block_map.specs.Keys.{IsBefore}
use Rattle.txg_history.specs.Groups.{same_key}
use Rattle.txg_history.specs.Pages.{sum_of}
use Rattle.txg_history.specs.Records.{Cell}
use Rattle.txg_history.proofs.Listing.{one_key}
use Rattle.txg_engine.specs.declared.item.Item.{Item}
use Rattle.txg_engine.specs.Freezing.{IsSigned}
use Rattle.txg_engine.specs.Frozen.{KeysRise}
use Rattle.txg_engine.specs.Items.{cell_of, keys_of, put, laid}
use Rattle.txg_engine.proofs.Places.{only_one, same_key_self}
use Rattle.pool_codec.specs.Pointers.{sum_in, told}
use Rattle.pool_moves.specs.Moves.{sum_over}
use Rattle.open_pool.specs.State.{cells_of}
use Rattle.open_pool.proofs.PlacesGiven.{rises_to, keys_rise_on}

-- the item of a key that was found
pub record FoundItem (items : List Item) (k : Key) (cell : Cell) : Type 0 where
  pub item : Item
  pub among : Contains items item
  pub key_is : item.key ≡ k
  pub cell_is : cell_of item ≡ cell

unwrapped : {A : Type 0} (x y : A) → Some x ≡ Some y → x ≡ y
unwrapped x y same = cc

first_of : {A : Type 0} (x : A) (xs : List A) → Contains (x ∷ xs) x
first_of x xs = Contains-append_left (x ∷ []) xs x (Contains-push [] x)

found_by : (here : Bool) (item : Item) (items : List Item) (k : Key) (cell : Cell) → same_key item.key k ≡ here
    → (cells_of items k ≡ Some cell → FoundItem items k cell)
    → cond here (Some (cell_of item)) (cells_of items k) ≡ Some cell → FoundItem (item ∷ items) k cell
found_by true item items k cell here later is = record {
  item = item;
  among = first_of item items;
  key_is = one_key item.key k here;
  cell_is = unwrapped (cell_of item) cell is;
}
found_by false item items k cell here later is =
    let found = later is in
    record {
      item = found.item;
      among = Contains-append_right (item ∷ []) items found.item found.among;
      key_is = found.key_is;
      cell_is = found.cell_is;
    }

pub found_item : (items : List Item) (k : Key) (cell : Cell) → cells_of items k ≡ Some cell → FoundItem items k cell
found_item [] k cell is = absurd (let no : None ≡ Some cell = is in cc)
found_item (item ∷ items) k cell is = found_by (same_key item.key k) item items k cell refl (found_item items k cell) is

has_by : (here : Bool) (item : Item) (rest : Option Cell) → (here ≡ true) ⊎ ((cell : Cell) × (rest ≡ Some cell))
    → (cell : Cell) × (cond here (Some (cell_of item)) rest ≡ Some cell)
has_by true item rest some = (cell_of item, refl)
has_by false item rest (inl is) = absurd (let no : false ≡ true = is in cc)
has_by false item rest (inr some) = some

-- each of the keys is found
pub has_cell : (items : List Item) (k : Key) → Contains (keys_of items) k → (cell : Cell) × (cells_of items k ≡ Some cell)
has_cell [] k among = absurd (omega (arith, among.1))
has_cell (item ∷ items) k among =
    has_by (same_key item.key k) item (cells_of items k)
    (⊎_elim (λ one. inl (same_key_self item.key k (sym (only_one item.key k one)))) (λ more. inr (has_cell items k more))
    (Contains-append_cases (item.key ∷ []) (keys_of items) k among))

not_zero : (n : ℕ) → 1 ≤ n → (n == 0) ≡ false
not_zero n some = ⊎_elim (λ is. absurd (let same = eqb-true n 0 is in omega (arith, some, same))) (λ is. is) (cases_Bool (n == 0))

pub written_sum : (pointer : Pointer) → 1 ≤ pointer.birth.0 → sum_in pointer ≡ Some (told pointer)
written_sum pointer some = ap (λ b. cond b None (Some (told pointer))) (not_zero pointer.birth.0 some)

signed_sum : (number : ℕ) (item : Item) → 1 ≤ number → IsSigned number item → sum_in item.pointer ≡ sum_of (Some (cell_of item))
signed_sum number item some signed =
    written_sum item.pointer (omega (arith, some, signed.birth))
    ∙ ap (λ (s : List ℕ). Some (record { birth = item.pointer.birth.0; top = item.pointer.place.top + 1; sector = item.pointer.place.sector; sum = s })) signed.sum

laid_by : (here : Bool) (number : ℕ) (item : Item) (at : Key → Pointer) (k : Key) (rest : Option Cell) → 1 ≤ number → IsSigned number item
    → (here ≡ true → rest ≡ None)
    → sum_over rest (sum_in (cond here item.pointer (at k))) ≡ sum_over (cond here (Some (cell_of item)) rest) (sum_in (at k))
laid_by true number item at k rest some signed none = ap (λ o. sum_over o (sum_in item.pointer)) (none refl) ∙ signed_sum number item some signed
laid_by false number item at k rest some signed none = refl

none_or : (o : Option Cell) → ((cell : Cell) → o ≡ Some cell → ⊥) → o ≡ None
none_or None never = refl
none_or (Some cell) never = absurd (never cell refl)

-- the map with these keys over it has their sums
pub laid_sums : (number : ℕ) (items : List Item) (at : Key → Pointer) (k : Key) → 1 ≤ number → All (IsSigned number) items → KeysRise items
    → sum_in (laid items at k) ≡ sum_over (cells_of items k) (sum_in (at k))
laid_sums number [] at k some signed rise = refl
laid_sums number (item ∷ items) at k some signed rise =
    laid_sums number items (put item at) k some (All-tail (IsSigned number) item items signed) (keys_rise_on item items rise)
    ∙ laid_by (same_key item.key k) number item at k (cells_of items k) some (All-head (IsSigned number) item items signed)
    (λ here. none_or (cells_of items k) (λ cell is. not_itself item.key k (rises_to items item rise k cell is) (one_key item.key k here)))
  where
    not_itself : (j l : Key) → IsBefore j l → j ≡ l → ⊥
    not_itself j l (inl less) same = omega (arith, less, ap (λ (i : Key). i.level) same)
    not_itself j l (inr less) same = omega (arith, less.1, ap (λ (i : Key). i.index) same)
