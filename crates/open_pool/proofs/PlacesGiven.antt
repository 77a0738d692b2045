-- A freeze gives its keys places by the rule: each the least one that no record uses, that isn't pinned, and that no key before it got.
use Rattle.std.proofs.Common.{◌≡◌, ◌⊎◌, inl, inr, ⊎_elim, ℕ, zero, suc, ◌+◌, ◌<◌, ◌&&◌, not, Bool, true, false, cond, List, [], ◌∷◌, ◌++◌, Contains, length, slice_index, Option, Some, None, refl, sym, ap, ◌∙◌, subst, arith}
use Rattle.std.specs.Option.{unwrap_or}
use Rattle.std.proofs.lemmas.Bool.{cases_Bool}
use Rattle.std.proofs.lemmas.List.Elements.{Contains-push, Contains-push_cases, Contains-append_left}
use Rattle.mp_base.specs.declared.place.Key.{Key}
use Rattle.mp_base.specs.declared.place.Place.{Place}
use Rattle.block_map.specs.Keys.{IsBefore}
use Rattle.block_map.specs.Map.{Map, is_free, is_pinned, is_open}
use Rattle.block_map.specs.Places.{IsPlace, IsPlaceBefore as IsBeforePlace}
use Rattle.txg_history.specs.Groups.{same_key}
use Rattle.txg_history.proofs.Listing.{one_key}
use Rattle.txg_history.specs.Pages.{sum_of}
use Rattle.txg_history.specs.Records.{Cell, Cells, AreAtOne}
use Rattle.txg_engine.proofs.Places.{same_place, same_key_self}
use Rattle.txg_engine.specs.declared.item.Item.{Item}
use Rattle.txg_engine.specs.Freezing.{IsNextPlace, AreNextPlaces}
use Rattle.txg_engine.specs.Frozen.{KeysRise}
use Rattle.txg_engine.specs.Items.{cell_of, place_of, places_of}
use Rattle.pool_codec.specs.Tops.{room_of}
use Rattle.pool_moves.specs.FreezeRow.{IsAtPlace, IsTakenPlace, IsGivenBefore, IsPlaceBefore, ArePlacesGiven}
use Rattle.pool_moves.specs.States.{Sums, sums}
use Rattle.open_pool.specs.Form.{HasPlaces}
use Rattle.open_pool.specs.Parts.{PoolParts}
use Rattle.open_pool.specs.State.{ArePinned, cells_in, cells_of, seen_of, sectors_in}

and_false : (b : Bool) → (b && false) ≡ true → ⊥
and_false true is = absurd (let no : false ≡ true = is in cc)
and_false false is = absurd (let no : false ≡ true = is in cc)

-- a place is open just where it isn't taken
module _ (p : PoolParts) (held : List Sums) (has : HasPlaces p) (pins : ArePinned held p) (idle : (k : Key) → cells_in p.frozen k ≡ None) where
  unused : (top sector : ℕ) → IsAtPlace (sums (cells_in p.frozen)) top sector → ⊥
  unused top sector at =
      absurd (let no : None ≡ Some at.sum = subst (λ (c : Option Cell). sum_of c ≡ Some at.sum) (idle at.k) at.sum_is in cc)

  open_by : (free pinned : Bool) (place : Place) → IsPlace p.map.sectors place → is_free p.map place ≡ free → is_pinned p.map place ≡ pinned
      → (free && not pinned) ≡ false → IsTakenPlace (seen_of held p) (suc place.top) place.sector
  open_by false pinned place inside free pin shut =
      ⊎_elim (λ at. inl at) (λ at. absurd (unused (suc place.top) place.sector at)) (has.taken place inside free)
  open_by true true place inside free pin shut = inr (pins.pinned place pin)
  open_by true false place inside free pin shut = absurd (let no : true ≡ false = shut in cc)

  pub shut_is_taken : (place : Place) → IsPlace p.map.sectors place → is_open p.map place ≡ false
      → IsTakenPlace (seen_of held p) (suc place.top) place.sector
  shut_is_taken place inside shut = open_by (is_free p.map place) (is_pinned p.map place) place inside refl refl shut

  pub open_is_free : (place : Place) → is_open p.map place ≡ true → IsTakenPlace (seen_of held p) (suc place.top) place.sector → ⊥
  open_is_free place passes (inl at) = absurd (
      let no : false ≡ true = subst (λ (b : Bool). (b && not (is_pinned p.map place)) ≡ true) (has.committed place at) passes in cc)
  open_is_free place passes (inr at) =
      and_false (is_free p.map place) (subst (λ (b : Bool). (is_free p.map place && not b) ≡ true) (pins.held_places place at) passes)

-- A key's place is one of the tops, open in the map and given to no earlier key.
pub record IsGiven (old : Map) (given : List Place) (cell : Cell) : Type 0 where
  pub place : Place
  pub top_is : cell.top ≡ suc place.top
  pub sector_is : cell.sector ≡ place.sector
  pub inside : IsPlace old.sectors place
  pub passes : is_open old place ≡ true
  pub fresh : Contains given place → ⊥

one_more : (x : ℕ) → x + 1 ≡ suc x
one_more x = omega arith

given_cell : (old : Map) (given : List Place) (item : Item) → IsNextPlace old given (place_of item) → IsGiven old given (cell_of item)
given_cell old given item next = record {
  place = place_of item;
  top_is = one_more item.pointer.place.top;
  sector_is = refl;
  inside = next.inside;
  passes = next.passes;
  fresh = next.fresh;
}

earlier : (old : Map) (given : List Place) (place : Place) (cell : Cell) → IsGiven old (given ++ place ∷ []) cell → IsGiven old given cell
earlier old given place cell is = record {
  place = is.place;
  top_is = is.top_is;
  sector_is = is.sector_is;
  inside = is.inside;
  passes = is.passes;
  fresh = λ among. is.fresh (Contains-append_left given (place ∷ []) is.place among);
}

unwrapped : {A : Type 0} (x y : A) → Some x ≡ Some y → x ≡ y
unwrapped x y same = ap (λ o. unwrap_or o x) same

given_by : (here : Bool) (old : Map) (given : List Place) (item : Item) (rest : Option Cell) (cell : Cell)
    → IsNextPlace old given (place_of item)
    → (rest ≡ Some cell → IsGiven old (given ++ place_of item ∷ []) cell)
    → cond here (Some (cell_of item)) rest ≡ Some cell → IsGiven old given cell
given_by true old given item rest cell next later is = subst (IsGiven old given) (unwrapped (cell_of item) cell is) (given_cell old given item next)
given_by false old given item rest cell next later is = earlier old given (place_of item) cell (later is)

pub are_given : (old : Map) (given : List Place) (items : List Item) → AreNextPlaces old given (places_of items)
    → (k : Key) (cell : Cell) → cells_of items k ≡ Some cell → IsGiven old given cell
are_given old given [] next k cell is = absurd (let no : None ≡ Some cell = is in cc)
are_given old given (item ∷ items) next k cell is =
    given_by (same_key item.key k) old given item (cells_of items k) cell next.0
    (are_given old (given ++ place_of item ∷ []) items next.1 k cell) is

before_before : (a b c : Key) → IsBefore a b → IsBefore b c → IsBefore a c
before_before a b c (inl l) (inl m) = inl (omega (arith, l, m))
before_before a b c (inl l) (inr m) = inl (omega (arith, l, m.0))
before_before a b c (inr l) (inl m) = inl (omega (arith, l.0, m))
before_before a b c (inr l) (inr m) = inr (l.0 ∙ m.0, omega (arith, l.1, m.1))

-- no two keys have one place
given_apart : (old : Map) (place : Place) (a b : Cell) (given : List Place) → a.top ≡ suc place.top → a.sector ≡ place.sector
    → Contains given place → IsGiven old given b → AreAtOne a b → ⊥
given_apart old place a b given top sector among is at =
    let tops : suc place.top ≡ suc is.place.top = sym top ∙ at.0 ∙ is.top_is in
    is.fresh (subst (Contains given) (same_place place is.place (omega (arith, tops)) (sym sector ∙ at.1 ∙ is.sector_is)) among)

turned : (a b : Cell) → AreAtOne a b → AreAtOne b a
turned a b at = (sym at.0, sym at.1)

apart_by : (t u : Bool) (old : Map) (given : List Place) (item : Item) (items : List Item) (j k : Key) (a b : Cell)
    → same_key item.key j ≡ t → same_key item.key k ≡ u
    → (cells_of items j ≡ Some a → cells_of items k ≡ Some b → j ≡ k)
    → ((l : Key) (c : Cell) → cells_of items l ≡ Some c → IsGiven old (given ++ place_of item ∷ []) c)
    → cond t (Some (cell_of item)) (cells_of items j) ≡ Some a → cond u (Some (cell_of item)) (cells_of items k) ≡ Some b
    → AreAtOne a b → j ≡ k
apart_by true true old given item items j k a b is_j is_k later each is_a is_b at = sym (one_key item.key j is_j) ∙ one_key item.key k is_k
apart_by true false old given item items j k a b is_j is_k later each is_a is_b at =
    let here = unwrapped (cell_of item) a is_a in
    absurd (given_apart old (place_of item) a b (given ++ place_of item ∷ [])
    (sym (ap (λ (c : Cell). c.top) here) ∙ one_more item.pointer.place.top) (sym (ap (λ (c : Cell). c.sector) here))
    (Contains-push given (place_of item)) (each k b is_b) at)
apart_by false true old given item items j k a b is_j is_k later each is_a is_b at =
    let here = unwrapped (cell_of item) b is_b in
    absurd (given_apart old (place_of item) b a (given ++ place_of item ∷ [])
    (sym (ap (λ (c : Cell). c.top) here) ∙ one_more item.pointer.place.top) (sym (ap (λ (c : Cell). c.sector) here))
    (Contains-push given (place_of item)) (each j a is_a) (turned a b at))
apart_by false false old given item items j k a b is_j is_k later each is_a is_b at = later is_a is_b

pub cells_apart : (old : Map) (given : List Place) (items : List Item) → AreNextPlaces old given (places_of items) → (j k : Key) (a b : Cell)
    → cells_of items j ≡ Some a → cells_of items k ≡ Some b → AreAtOne a b → j ≡ k
cells_apart old given [] next j k a b is_a is_b at = absurd (let no : None ≡ Some a = is_a in cc)
cells_apart old given (item ∷ items) next j k a b is_a is_b at =
    apart_by (same_key item.key j) (same_key item.key k) old given item items j k a b refl refl
    (λ later_a later_b. cells_apart old (given ++ place_of item ∷ []) items next.1 j k a b later_a later_b at)
    (are_given old (given ++ place_of item ∷ []) items next.1) is_a is_b at

-- a key that comes behind another is not that one
pub rises_to : (items : List Item) (item : Item) → KeysRise (item ∷ items) → (k : Key) (cell : Cell) → cells_of items k ≡ Some cell → IsBefore item.key k
rises_to [] item rise k cell is = absurd (let no : None ≡ Some cell = is in cc)
rises_to (next ∷ items) item rise k cell is =
    ⊎_elim (λ here. subst (IsBefore item.key) (one_key next.key k here) rise.0)
    (λ behind. before_before item.key next.key k rise.0
    (rises_to items next rise.1 k cell (let later : cells_of items k ≡ Some cell = rw behind at is in later)))
    (cases_Bool (same_key next.key k))

place_before : (other : Place) (cell : Cell) (place : Place) → cell.top ≡ suc place.top → cell.sector ≡ place.sector
    → IsPlaceBefore (suc other.top) other.sector cell → IsBeforePlace other place
place_before other cell place top sector (inl l) = inl (omega (arith, l, sector))
place_before other cell place top sector (inr l) = inr (l.0 ∙ sector, omega (arith, l.1, top))

-- where a key isn't the first one of these it is among the rest
pub behind_first : (item : Item) (items : List Item) (k : Key) (cell : Cell) → same_key item.key k ≡ false
    → cells_of items k ≡ Some cell → cells_of (item ∷ items) k ≡ Some cell
behind_first item items k cell other is = ap (λ b. cond b (Some (cell_of item)) (cells_of items k)) other ∙ is

not_itself : (j k : Key) → IsBefore j k → j ≡ k → ⊥
not_itself j k (inl l) same = omega (arith, l, ap (λ (i : Key). i.level) same)
not_itself j k (inr l) same = omega (arith, l.1, ap (λ (i : Key). i.index) same)

pub differ : (j k : Key) → IsBefore j k → same_key j k ≡ false
differ j k before = ⊎_elim (λ same. absurd (not_itself j k before (one_key j k same))) (λ other. other) (cases_Bool (same_key j k))

pub keys_rise_on : (item : Item) (items : List Item) → KeysRise (item ∷ items) → KeysRise items
keys_rise_on item [] rise = tt
keys_rise_on item (next ∷ items) rise = rise.1

-- Every place before a key's, if it is open in the map, was given to a key before it.
least_by : (here : Bool) (cells : Cells) (old : Map) (given : List Place) (item : Item) (items : List Item) (k : Key) (cell : Cell) (other : Place)
    → same_key item.key k ≡ here
    → IsNextPlace old given (place_of item)
    → (Contains given other → IsGivenBefore cells k (suc other.top) other.sector)
    → (cells_of items k ≡ Some cell → IsPlaceBefore (suc other.top) other.sector cell → IsGivenBefore cells k (suc other.top) other.sector)
    → cond here (Some (cell_of item)) (cells_of items k) ≡ Some cell
    → IsPlaceBefore (suc other.top) other.sector cell → is_open old other ≡ true → IsGivenBefore cells k (suc other.top) other.sector
least_by true cells old given item items k cell other here next earlier later is before passes =
    earlier (next.least other (place_before other (cell_of item) (place_of item) (one_more item.pointer.place.top) refl
    (subst (IsPlaceBefore (suc other.top) other.sector) (sym (unwrapped (cell_of item) cell is)) before)) passes)
least_by false cells old given item items k cell other here next earlier later is before passes = later is before

given_here : (cells : Cells) (item : Item) (k : Key) → cells item.key ≡ Some (cell_of item) → IsBefore item.key k
    → IsGivenBefore cells k (suc item.pointer.place.top) item.pointer.place.sector
given_here cells item k is before = record {
  j = item.key;
  cell = cell_of item;
  cell_is = is;
  before = before;
  top_is = one_more item.pointer.place.top;
  sector_is = refl;
}

pub least_places : (cells : Cells) (old : Map) (given : List Place) (items : List Item) → AreNextPlaces old given (places_of items) → KeysRise items
    → ((q : Place) (k : Key) (cell : Cell) → Contains given q → cells_of items k ≡ Some cell → IsGivenBefore cells k (suc q.top) q.sector)
    → ((k : Key) (cell : Cell) → cells_of items k ≡ Some cell → cells k ≡ Some cell)
    → (k : Key) (cell : Cell) (other : Place) → cells_of items k ≡ Some cell → IsPlaceBefore (suc other.top) other.sector cell
    → is_open old other ≡ true → IsGivenBefore cells k (suc other.top) other.sector
least_places cells old given [] next rise earlier whole k cell other is before passes = absurd (let no : None ≡ Some cell = is in cc)
least_places cells old given (item ∷ items) next rise earlier whole k cell other is before passes =
    least_by (same_key item.key k) cells old given item items k cell other refl next.0 (λ among. earlier other k cell among is)
    (λ later sooner. least_places cells old (given ++ place_of item ∷ []) items next.1 (keys_rise_on item items rise) earlier_on whole_on k cell other later sooner passes)
    is before passes
  where
    on : (l : Key) (c : Cell) → cells_of items l ≡ Some c → cells_of (item ∷ items) l ≡ Some c
    on l c later = behind_first item items l c (differ item.key l (rises_to items item rise l c later)) later

    first : cells item.key ≡ Some (cell_of item)
    first = whole item.key (cell_of item) (ap (λ b. cond b (Some (cell_of item)) (cells_of items item.key))
        (same_key_self item.key item.key refl))

    earlier_on : (q : Place) (l : Key) (c : Cell) → Contains (given ++ place_of item ∷ []) q → cells_of items l ≡ Some c
        → IsGivenBefore cells l (suc q.top) q.sector
    earlier_on q l c among later =
        ⊎_elim (λ was. earlier q l c was (on l c later))
        (λ same. subst (λ (r : Place). IsGivenBefore cells l (suc r.top) r.sector) same
        (given_here cells item l first (rises_to items item rise l c later)))
        (Contains-push_cases given (place_of item) q among)

    whole_on : (l : Key) (c : Cell) → cells_of items l ≡ Some c → cells l ≡ Some c
    whole_on l c later = whole l c (on l c later)

top_inside : (sectors : List ℕ) (top : ℕ) → 0 < slice_index sectors top → top < length sectors
top_inside [] top some = absurd (omega (arith, some))
top_inside (n ∷ sectors) zero some = omega arith
top_inside (n ∷ sectors) (suc top) some = let le = top_inside sectors top some in omega (arith, le)

-- a sector below those of a top is a place, since where there is no top there are none
place_inside : (sectors : List ℕ) (place : Place) → place.sector < slice_index sectors place.top → IsPlace sectors place
place_inside sectors place low = record { top = top_inside sectors place.top (omega (arith, low)); sector = low }

-- The keys of a freeze have their places by the rule.
module _ (p : PoolParts) (held : List Sums) (has : HasPlaces p) (pins : ArePinned held p) (idle : (k : Key) → cells_in p.frozen k ≡ None)
    (tops : p.map.sectors ≡ sectors_in p.tops) (items : List Item) (rise : KeysRise items) (next : AreNextPlaces p.map [] (places_of items)) where
  given : (k : Key) (cell : Cell) → cells_of items k ≡ Some cell → IsGiven p.map [] cell
  given k cell is = are_given p.map [] items next k cell is

  in_room : (k : Key) (cell : Cell) → cells_of items k ≡ Some cell → cell.sector < room_of (sectors_in p.tops) cell.top
  in_room k cell is =
      let at = given k cell is in
      subst (λ top. cell.sector < room_of (sectors_in p.tops) top) (sym at.top_is)
      (subst (λ sectors. cell.sector < slice_index sectors at.place.top) tops
      (subst (λ sector. sector < slice_index p.map.sectors at.place.top) (sym at.sector_is) at.inside.sector))

  not_taken : (k : Key) (cell : Cell) → cells_of items k ≡ Some cell → IsTakenPlace (seen_of held p) cell.top cell.sector → ⊥
  not_taken k cell is taken =
      let at = given k cell is in
      open_is_free p held has pins idle at.place at.passes
      (subst (λ sector. IsTakenPlace (seen_of held p) (suc at.place.top) sector) at.sector_is
      (subst (λ top. IsTakenPlace (seen_of held p) top cell.sector) at.top_is taken))

  taken_or_given : (k : Key) (cell : Cell) (top sector : ℕ) → cells_of items k ≡ Some cell → IsPlaceBefore top sector cell
      → sector < room_of (sectors_in p.tops) top → IsTakenPlace (seen_of held p) top sector ⊎ IsGivenBefore (cells_of items) k top sector
  taken_or_given k cell zero sector is before low = absurd (omega (arith, low))
  taken_or_given k cell (suc top) sector is before low =
      ⊎_elim (λ passes. inr (least_places (cells_of items) p.map [] items next rise none_before (λ l c here. here) k cell place is before passes))
      (λ shut. inl (shut_is_taken p held has pins idle place inside shut)) (cases_Bool (is_open p.map place))
    where
      place : Place
      place = record { top = top; sector = sector }

      inside : IsPlace p.map.sectors place
      inside = subst (λ sectors. IsPlace sectors place) (sym tops) (place_inside (sectors_in p.tops) place low)

      none_before : (q : Place) (l : Key) (c : Cell) → Contains [] q → cells_of items l ≡ Some c → IsGivenBefore (cells_of items) l (suc q.top) q.sector
      none_before q l c among here = absurd (omega (arith, among.1))

  pub places_given : ArePlacesGiven (seen_of held p) (cells_of items)
  places_given = record {
    inside = in_room;
    free = not_taken;
    apart = λ j k a b is_a is_b at. cells_apart p.map [] items next j k a b is_a is_b at;
    least = taken_or_given;
  }
