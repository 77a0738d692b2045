-- What a page that is read does to a map.
use Rattle.std.proofs.Common.{◌≡◌, ◌≢◌, ℕ, suc, zero, ◌+◌, ◌-◌, ◌*◌, ◌/◌, ◌%◌, ◌<◌, ◌≤◌, ◌⊎◌, Bool, true, false, not, ◌||◌, List, get_or, Option, Some, None, IfSome, refl, sym, ap, ◌∙◌, subst, ⊎_elim, inl, inr, arith}
use Rattle.std.proofs.lemmas.Bool.{cases_eq, cases_lt, cases_order, cases_Bool, both_ways, eqb-false, eqb-true, false≢true, true≢false, and_parts, or_cases, not-true, not-false}
use Rattle.mp_base.specs.declared.place.Key.{Key}
use Rattle.mp_base.specs.declared.place.Place.{Place}
use Rattle.mp_base.specs.declared.place.Pointer.{Pointer}
use Rattle.block_map.specs.Keys.{IsVolume, IsKey, IsPage, child, root}
use Rattle.block_map.specs.Places.{IsPlace}
use Rattle.block_map.specs.Pointers.{hole, IsPointer, written}
use Rattle.block_map.proofs.KeyNumbers.{keys_pos, keys_le}
use Rattle.std.specs.Prelude.{◌==◌, if◌then◌else◌}
use Rattle.std.specs.Option.{is_some}
use Rattle.block_map.proofs.PlaceNumbers.{is_place_of, place_of}
use Rattle.block_map.specs.Map.{Map, pointer_at, is_free, PointerIs, FreeIs, IsEmpty}
use Rattle.block_map.specs.Reading.{IsWritten, IsReadBefore, IsUnread, MayStand, MayBeRead, AreRead, NextPage, NamesPlaces, HasHolesBelow, IsReading, IsPut}

pub same_key : (l m i j : ℕ) → l ≡ m → i ≡ j → ◌≡◌ {A = Key} (record { level = l; index = i }) (record { level = m; index = j })
same_key l m i j e f = cc

same_parts : (t u s r : ℕ) → t ≡ u → s ≡ r → ◌≡◌ {A = Place} (record { top = t; sector = s }) (record { top = u; sector = r })
same_parts t u s r e f = cc

pub place_cases : (p q : Place) → (p ≡ q) ⊎ (p ≢ q)
place_cases p q =
    ⊎_elim (λ top. ⊎_elim (λ sector. inl (same_parts p.top q.top p.sector q.sector top sector)) (λ other. inr (λ same. other (ap (λ x. x.sector) same))) (cases_eq p.sector q.sector))
    (λ other. inr (λ same. other (ap (λ x. x.top) same)))
    (cases_eq p.top q.top)

-- a key is one of a page's, or none of them
pub child_cases : (page key : Key) → ((j : ℕ) × (j < 64) × (child page j ≡ key)) ⊎ ((j : ℕ) → j < 64 → child page j ≢ key)
child_cases page key =
    ⊎_elim (λ level.
    ⊎_elim (λ index. inl (key.index % 64, omega arith, same_key (page.level - 1) key.level (64 * page.index + key.index % 64) key.index level (omega arith)))
    (λ other. let other' : key.index / 64 ≢ page.index = other in inr (λ j less same. let i : 64 * page.index + j ≡ key.index = ap (λ x. x.index) same in other (omega arith)))
    (cases_eq (key.index / 64) page.index))
    (λ other. inr (λ j less same. other (ap (λ x. x.level) same)))
    (cases_eq (page.level - 1) key.level)

-- a key has one page and one number there
pub one_child : (page : Key) (i j : ℕ) → i ≢ j → child page i ≢ child page j
one_child page i j differs same = let n : 64 * page.index + i ≡ 64 * page.index + j = ap (λ x. x.index) same in differs (omega arith)

pub one_page : (page other : Key) (i j : ℕ) → 1 ≤ page.level → 1 ≤ other.level → i < 64 → j < 64 → child page i ≡ child other j → page ≡ other
one_page page other i j lp lo li lj same =
    let l : page.level - 1 ≡ other.level - 1 = ap (λ x. x.level) same in
    let n : 64 * page.index + i ≡ 64 * other.index + j = ap (λ x. x.index) same in
    same_key page.level other.level page.index other.index (omega arith) (omega arith)

-- a place is named by one of the pointers, or by none of them
pub named_cases : (pointers : List Pointer) (n : ℕ) (place : Place)
    → ((j : ℕ) × (j < n) × IsWritten (get_or pointers j hole) × ((get_or pointers j hole).place ≡ place))
    ⊎ ((j : ℕ) → j < n → IsWritten (get_or pointers j hole) → (get_or pointers j hole).place ≢ place)
named_cases pointers zero place = inr (λ j lt. absurd (omega arith))
named_cases pointers (suc n) place =
    ⊎_elim (λ (j, lt, written, is). inl (j, omega arith, written, is))
    (λ none.
    ⊎_elim (λ unwritten. inr (λ j lt written. ⊎_elim (λ before. none j before written)
    (λ last. let same : n ≡ j = omega arith in absurd (let birth : (get_or pointers n hole).birth.0 ≡ (get_or pointers j hole).birth.0 = ap (λ m. (get_or pointers m hole).birth.0) same in omega arith))
    (cases_lt j n)))
    (λ written. ⊎_elim (λ is. inl (n, omega arith, written, is))
    (λ other. inr (λ j lt w. ⊎_elim (λ before. none j before w)
    (λ last. let same : n ≡ j = omega arith in subst (λ m. (get_or pointers m hole).place ≢ place) same other) (cases_lt j n)))
    (place_cases (get_or pointers n hole).place place))
    (cases_lt (get_or pointers n hole).birth.0 1))
    (named_cases pointers n place)

-- a pointer is put where a hole was
pub put_hole : (map : Map) (key : Key) (pointer : Pointer) → pointer ≡ hole → pointer_at map key ≡ hole → IsPut map map key pointer
put_hole map key pointer is none = record {
  there = none ∙ sym is;
  others = λ k _. refl;
  used = λ written. absurd (let birth : pointer.birth.0 ≡ 0 = ap (λ p. p.birth.0) is in omega arith);
  unused = λ place _. refl;
  pinned = λ place. refl;
  volume = record { blocks = refl; sectors = refl };
}

pub put_pointer : (old set new : Map) (key : Key) (pointer : Pointer) → IsWritten pointer → PointerIs old set key pointer → FreeIs false set new pointer.place
    → IsPut old new key pointer
put_pointer old set new key pointer written is taken = record {
  there = taken.keys key ∙ is.now;
  others = λ k differs. taken.keys k ∙ is.others k differs;
  used = λ _. taken.now;
  unused = λ place differs. taken.others place (λ same. differs written (sym same)) ∙ is.free place;
  pinned = λ place. taken.pinned place ∙ is.pinned place;
  volume = record { blocks = taken.volume.blocks ∙ is.volume.blocks; sectors = taken.volume.sectors ∙ is.volume.sectors };
}

pub none_read : (map : Map) (page : Key) (pointers : List Pointer) → AreRead map map page pointers 0
none_read map page pointers = record {
  there = λ j lt. absurd (omega arith);
  others = λ key _. refl;
  used = λ j lt. absurd (omega arith);
  unused = λ place _. refl;
  pinned = λ place. refl;
  volume = record { blocks = refl; sectors = refl };
}

-- one pointer more is read
pub one_read : (old map new : Map) (page : Key) (pointers : List Pointer) (n : ℕ) → AreRead old map page pointers n
    → IsPut map new (child page n) (get_or pointers n hole) → AreRead old new page pointers (n + 1)
one_read old map new page pointers n read put = record {
  there = λ j lt.
      ⊎_elim (λ before. put.others (child page j) (one_child page j n (omega arith)) ∙ read.there j before)
      (λ last. let same : n ≡ j = omega arith in subst (λ m. pointer_at new (child page m) ≡ get_or pointers m hole) same put.there)
      (cases_lt j n);
  others = λ key differs.
      put.others key (λ same. differs n (omega arith) (sym same)) ∙ read.others key (λ j lt. differs j (omega arith));
  used = λ j lt written.
      ⊎_elim (λ before.
      ⊎_elim (λ last.
      ⊎_elim (λ same. subst (λ p. is_free new p ≡ false) same (put.used last))
      (λ other. put.unused (get_or pointers j hole).place (λ _. other) ∙ read.used j before written)
      (place_cases (get_or pointers n hole).place (get_or pointers j hole).place))
      (λ unwritten. put.unused (get_or pointers j hole).place (λ last. absurd (omega arith)) ∙ read.used j before written)
      (cases_lt 0 (get_or pointers n hole).birth.0))
      (λ last. let same : n ≡ j = omega arith in
      subst (λ m. IsWritten (get_or pointers m hole) → is_free new (get_or pointers m hole).place ≡ false) same put.used written)
      (cases_lt j n);
  unused = λ place differs.
      put.unused place (differs n (omega arith)) ∙ read.unused place (λ j lt. differs j (omega arith));
  pinned = λ place. put.pinned place ∙ read.pinned place;
  volume = record { blocks = put.volume.blocks ∙ read.volume.blocks; sectors = put.volume.sectors ∙ read.volume.sectors };
}

module _ (old new : Map) (number : ℕ) (page : Key) (pointers : List Pointer) (may : MayBeRead old number page pointers) (read : AreRead old new page pointers 64) where
  -- a place that was used stays so
  still_used : (place : Place) → is_free old place ≡ false → is_free new place ≡ false
  still_used place taken =
      read.unused place (λ j less written same. both_ways _ taken (subst (λ p. is_free old p ≡ true) same ((may.each j less).fresh written))) ∙ taken

  module _ (named : NamesPlaces old) (holes : (j : ℕ) → j < 64 → pointer_at old (child page j) ≡ hole) where
    new_used : (key : Key) → IsWritten (pointer_at new key) → is_free new (pointer_at new key).place ≡ false
    new_used key written =
        ⊎_elim (λ (j, less, is).
        let there : pointer_at new key ≡ get_or pointers j hole = ap (pointer_at new) (sym is) ∙ read.there j less in
        subst (λ p. is_free new p.place ≡ false) (sym there) (read.used j less (subst IsWritten there written)))
        (λ none.
        let there = read.others key none in
        subst (λ p. is_free new p.place ≡ false) (sym there) (still_used _ (named.used key (subst IsWritten there written))))
        (child_cases page key)

    child_is : (key : Key) (j : ℕ) → j < 64 → child page j ≡ key → pointer_at new key ≡ get_or pointers j hole
    child_is key j less is = ap (pointer_at new) (sym is) ∙ read.there j less

    -- a place that the page names was free
    clash : (key : Key) (j : ℕ) → j < 64 → IsWritten (get_or pointers j hole) → IsWritten (pointer_at old key)
        → (get_or pointers j hole).place ≡ (pointer_at old key).place → ⊥
    clash key j less written there same =
        both_ways _ (named.used key there) (subst (λ p. is_free old p ≡ true) same ((may.each j less).fresh written))

    same_number : (i j : ℕ) → i < 64 → j < 64 → IsWritten (get_or pointers i hole) → IsWritten (get_or pointers j hole)
        → (get_or pointers i hole).place ≡ (get_or pointers j hole).place → i ≡ j
    same_number i j li lj wi wj same =
        ⊎_elim (λ is. is)
        (λ apart. absurd (⊎_elim (λ lt. (may.each j lj).apart i lt wi wj same) (λ gt. (may.each i li).apart j gt wj wi (sym same)) apart))
        (cases_order i j)

    new_apart : (one other : Key) → IsWritten (pointer_at new one) → IsWritten (pointer_at new other)
        → (pointer_at new one).place ≡ (pointer_at new other).place → one ≡ other
    new_apart one other w w' same =
        ⊎_elim (λ (i, li, is).
        let there = child_is one i li is in
        ⊎_elim (λ (j, lj, is').
        let there' = child_is other j lj is' in
        sym is ∙ ap (child page) (same_number i j li lj (subst IsWritten there w) (subst IsWritten there' w')
        (ap (λ p. p.place) (sym there) ∙ same ∙ ap (λ p. p.place) there')) ∙ is')
        (λ none.
        let there' = read.others other none in
        absurd (clash other i li (subst IsWritten there w) (subst IsWritten there' w') (ap (λ p. p.place) (sym there) ∙ same ∙ ap (λ p. p.place) there')))
        (child_cases page other))
        (λ none.
        let there = read.others one none in
        ⊎_elim (λ (j, lj, is').
        let there' = child_is other j lj is' in
        absurd (clash one j lj (subst IsWritten there' w') (subst IsWritten there w) (ap (λ p. p.place) (sym there') ∙ sym same ∙ ap (λ p. p.place) there)))
        (λ none'.
        let there' = read.others other none' in
        named.apart one other (subst IsWritten there w) (subst IsWritten there' w') (ap (λ p. p.place) (sym there) ∙ same ∙ ap (λ p. p.place) there'))
        (child_cases page other))
        (child_cases page one)

    new_only : (place : Place) → IsPlace new.sectors place → is_free new place ≡ false → (key : Key) × IsWritten (pointer_at new key) × ((pointer_at new key).place ≡ place)
    new_only place p taken =
        ⊎_elim (λ (j, less, written, is).
        let there = read.there j less in
        (child page j, subst IsWritten (sym there) written, ap (λ x. x.place) there ∙ is))
        (λ none.
        let (key, written, is) = named.only place (subst (λ s. IsPlace s place) read.volume.sectors p) (sym (read.unused place none) ∙ taken) in
        ⊎_elim (λ (j, less, here).
        let empty : pointer_at old key ≡ hole = ap (pointer_at old) (sym here) ∙ holes j less in
        absurd (let birth : (pointer_at old key).birth.0 ≡ 0 = ap (λ x. x.birth.0) empty in omega arith))
        (λ other. let there = read.others key other in (key, subst IsWritten (sym there) written, ap (λ x. x.place) there ∙ is))
        (child_cases page key))
        (named_cases pointers 64 place)

    pub new_places : NamesPlaces new
    new_places = record { used = new_used; apart = new_apart; only = new_only; unpinned = λ place. read.pinned place ∙ named.unpinned place }

  pub new_born : ((key : Key) → (pointer_at old key).birth.0 ≤ number) → (key : Key) → (pointer_at new key).birth.0 ≤ number
  new_born born key =
      ⊎_elim (λ (j, less, is).
      let there : pointer_at new key ≡ get_or pointers j hole = ap (pointer_at new) (sym is) ∙ read.there j less in
      subst (λ p. p.birth.0 ≤ number) (sym there) ((may.each j less).born))
      (λ none. subst (λ p. p.birth.0 ≤ number) (sym (read.others key none)) (born key))
      (child_cases page key)

  -- pages behind the one that is read are still unread
  module _ (level : 1 ≤ page.level) (unread : (q : Key) (j : ℕ) → 1 ≤ q.level → IsUnread (Some page) q → j < 64 → pointer_at old (child q j) ≡ hole) where
    before_itself : (q : Key) → IsReadBefore page q → page ≢ q
    before_itself q before same =
        ⊎_elim (λ lower. let l : page.level ≡ q.level = ap (λ x. x.level) same in omega arith)
        (λ further. let i : page.index ≡ q.index = ap (λ x. x.index) same in omega (arith, further.1)) before

    still_hole : (q : Key) (j : ℕ) → 1 ≤ q.level → IsReadBefore page q → j < 64 → pointer_at new (child q j) ≡ hole
    still_hole q j lq before less =
        read.others (child q j) (λ i li same. before_itself q before (one_page page q i j level lq li less same)) ∙ unread q j lq (inr before) less

    then_before : (next q : Key) → IsReadBefore page next → (q ≡ next) ⊎ IsReadBefore next q → IsReadBefore page q
    then_before next q before at =
        ⊎_elim (λ same. subst (IsReadBefore page) (sym same) before)
        (λ behind.
        ⊎_elim (λ lower. ⊎_elim (λ lower'. inl (omega arith)) (λ same'. inl (omega (arith, same'.0))) behind)
        (λ same. ⊎_elim (λ lower'. inl (omega (arith, same.0))) (λ same'. inr (same.0 ∙ same'.0, omega (arith, same.1, same'.1))) behind)
        before)
        at

    pub new_unread : (next : Option Key) → NextPage new page next → (q : Key) (j : ℕ) → 1 ≤ q.level → IsUnread next q → j < 64 → pointer_at new (child q j) ≡ hole
    new_unread None last q j lq at less = absurd at
    new_unread (Some next) is q j lq at less = still_hole q j lq (then_before next q is.behind at) less

  -- what was written stays, and below a hole are holes still
  module _ (level : 1 ≤ page.level) (stored : IsWritten (pointer_at old page)) (holes : (j : ℕ) → j < 64 → pointer_at old (child page j) ≡ hole) where
    pub still_written : (key : Key) → IsWritten (pointer_at old key) → pointer_at new key ≡ pointer_at old key
    still_written key written =
        ⊎_elim (λ (j, less, is).
        let empty : pointer_at old key ≡ hole = ap (pointer_at old) (sym is) ∙ holes j less in
        absurd (let birth : (pointer_at old key).birth.0 ≡ 0 = ap (λ p. p.birth.0) empty in omega arith))
        (λ none. read.others key none)
        (child_cases page key)

    not_the_page : (q : Key) → pointer_at new q ≡ hole → page ≢ q
    not_the_page q none same =
        let empty : pointer_at old page ≡ hole = sym (still_written page stored) ∙ ap (pointer_at new) same ∙ none in
        let birth : (pointer_at old page).birth.0 ≡ 0 = ap (λ p. p.birth.0) empty in omega arith

    hole_before : (q : Key) → pointer_at new q ≡ hole → pointer_at old q ≡ hole
    hole_before q none =
        ⊎_elim (λ (j, less, is). ap (pointer_at old) (sym is) ∙ holes j less)
        (λ others. sym (read.others q others) ∙ none)
        (child_cases page q)

    pub new_holes : HasHolesBelow old → HasHolesBelow new
    new_holes below q j low high less none =
        read.others (child q j) (λ i li same. not_the_page q none (one_page page q i j level low li less same))
        ∙ below q j low high less (hole_before q none)

pub next_stored : (map : Map) (page : Key) (next : Option Key) → NextPage map page next → IfSome next (λ n. IsPage map.blocks n × IsWritten (pointer_at map n))
next_stored map page None last = tt
next_stored map page (Some next) is = (is.inside, is.stored)

-- a page was read
pub reading_on : (old new : Map) (number : ℕ) (page : Key) (pointers : List Pointer) (next : Option Key) → IsReading old number (Some page)
    → MayBeRead old number page pointers → AreRead old new page pointers 64 → NextPage new page next → IsReading new number next
reading_on old new number page pointers next reading may read is = record {
  volume = subst IsVolume (sym read.volume.blocks) reading.volume;
  places = new_places old new number page pointers may read reading.places (λ j less. reading.unread page j reading.page.0.level (inl refl) less);
  born = new_born old new number page pointers may read reading.born;
  page = next_stored new page next is;
  unread = new_unread old new number page pointers may read reading.page.0.level reading.unread next is;
  holes = new_holes old new number page pointers may read reading.page.0.level reading.page.1
      (λ j less. reading.unread page j reading.page.0.level (inl refl) less) reading.holes;
}

pub key_cases : (one other : Key) → (one ≡ other) ⊎ (one ≢ other)
key_cases one other =
    ⊎_elim (λ level. ⊎_elim (λ index. inl (same_key one.level other.level one.index other.index level index)) (λ differs. inr (λ same. differs (ap (λ x. x.index) same))) (cases_eq one.index other.index))
    (λ differs. inr (λ same. differs (ap (λ x. x.level) same)))
    (cases_eq one.level other.level)

-- what was put where all was a hole is there alone
module _ (blocks : ℕ) (sectors : List ℕ) (old new : Map) (pointer : Pointer) (number : ℕ) (empty : IsEmpty blocks sectors old) (put : IsPut old new root pointer)
    (fits : IsPointer sectors pointer) (born : pointer.birth.0 ≤ number) where
  alone : (key : Key) → key ≢ root → pointer_at new key ≡ hole
  alone key differs = put.others key differs ∙ empty.keys key

  is_root : (key : Key) → IsWritten (pointer_at new key) → key ≡ root
  is_root key written =
      ⊎_elim (λ same. same)
      (λ differs. absurd (let birth : (pointer_at new key).birth.0 ≡ 0 = ap (λ p. p.birth.0) (alone key differs) in omega arith))
      (key_cases key root)

  root_is : (key : Key) → key ≡ root → pointer_at new key ≡ pointer
  root_is key is = ap (pointer_at new) is ∙ put.there

  pub begin_places : NamesPlaces new
  begin_places = record {
    used = λ key written.
        let there = root_is key (is_root key written) in
        subst (λ p. is_free new p.place ≡ false) (sym there) (put.used (subst IsWritten there written));
    apart = λ one other w w' _. is_root one w ∙ sym (is_root other w');
    only = λ place p taken.
        ⊎_elim (λ written.
        ⊎_elim (λ same. (root, subst IsWritten (sym put.there) written, ap (λ x. x.place) put.there ∙ same))
        (λ differs. absurd (free_there place p taken (λ _. differs)))
        (place_cases pointer.place place))
        (λ unwritten. absurd (free_there place p taken (λ written. absurd (omega arith))))
        (cases_lt 0 pointer.birth.0);
    unpinned = λ place. put.pinned place ∙ empty.pinned place;
  } where
    free_there : (place : Place) → IsPlace new.sectors place → is_free new place ≡ false → (IsWritten pointer → pointer.place ≢ place) → ⊥
    free_there place p taken differs =
        both_ways _ (sym (put.unused place differs) ∙ taken)
        (empty.free place ∙ is_place_of sectors place (subst (λ s. IsPlace s place) (put.volume.sectors ∙ empty.tops) p))

  begin_born : (key : Key) → (pointer_at new key).birth.0 ≤ number
  begin_born key =
      ⊎_elim (λ same. subst (λ p. p.birth.0 ≤ number) (sym (root_is key same)) born)
      (λ differs. subst (λ p. p.birth.0 ≤ number) (sym (alone key differs)) (omega arith))
      (key_cases key root)

  below_root : (next : Option Key) → next ≡ (if pointer.birth.0 == 0 then None else Some root) → (q : Key) (j : ℕ) → IsUnread next q → child q j ≢ root
  below_root None is q j at same = at
  below_root (Some next) is q j at same =
      let level : q.level - 1 ≡ 3 = ap (λ x. x.level) same in
      let root_next : next ≡ root = ⊎_elim (λ none. cc) (λ some. cc) (cases_Bool (pointer.birth.0 == 0)) in
      let l : next.level ≡ 3 = ap (λ x. x.level) root_next in
      ⊎_elim (λ here. let l' : q.level ≡ next.level = ap (λ x. x.level) here in omega arith)
      (λ behind. ⊎_elim (λ lower. omega arith) (λ same'. omega (arith, same'.0)) behind) at

  begin_page : IsVolume blocks → (next : Option Key) → next ≡ (if pointer.birth.0 == 0 then None else Some root)
      → IfSome next (λ n. IsPage new.blocks n × IsWritten (pointer_at new n))
  begin_page volume next is =
      ⊎_elim (λ none. let e : next ≡ None = is ∙ ap (λ b. if b then None else Some root) none in rw e tt)
      (λ some.
      let e : next ≡ Some root = is ∙ ap (λ b. if b then None else Some root) some in
      let differs : pointer.birth.0 ≢ 0 = eqb-false pointer.birth.0 0 some in
      let blocks_are : new.blocks ≡ blocks = put.volume.blocks ∙ empty.volume in
      rw e (
        record { key = record { level = omega arith; index = rw blocks_are (keys_pos blocks 3 volume.some) }; level = omega arith },
        subst IsWritten (sym put.there) (omega arith),
      ))
      (cases_Bool (pointer.birth.0 == 0))

  pub begin_reading : IsVolume blocks → (next : Option Key) → next ≡ (if pointer.birth.0 == 0 then None else Some root) → IsReading new number next
  begin_reading volume next is = record {
    volume = subst IsVolume (sym (put.volume.blocks ∙ empty.volume)) volume;
    places = begin_places;
    born = begin_born;
    page = begin_page volume next is;
    unread = λ q j _ at _. alone (child q j) (below_root next is q j at);
    holes = λ q j low high _ _. alone (child q j) (λ same. let l : q.level - 1 ≡ 3 = ap (λ x. x.level) same in omega arith);
  }

-- what was written is no hole
pub written_is : (one other : Pointer) → Some one ≡ written other → (one ≡ other) × IsWritten one
unfolding written
written_is one other is =
    ⊎_elim (λ none. absurd (let e : Some one ≡ None = is ∙ ap (λ b. if b then None else Some other) none in cc))
    (λ some.
    let e : Some one ≡ Some other = is ∙ ap (λ b. if b then None else Some other) some in
    let same : one ≡ other = cc in
    let differs : other.birth.0 ≢ 0 = eqb-false other.birth.0 0 some in
    (same, subst IsWritten (sym same) (omega arith)))
    (cases_Bool (other.birth.0 == 0))

pub stored_of : (found : Option Pointer) (pointer : Pointer) → found ≡ written pointer → is_some found ≡ true → IsWritten pointer
stored_of None pointer is some = absurd (false≢true some)
stored_of (Some p) pointer is some = let (same, yes') = written_is p pointer is in subst IsWritten same yes'

pub page_fits : (blocks : ℕ) (page : Key) → IsVolume blocks → IsPage blocks page → page.index < 4294967296
page_fits blocks page volume p = let most = keys_le blocks page.level volume.most in omega (arith, p.key.index)

pub hole_may_stand : (map : Map) (number : ℕ) (page : Key) (pointers : List Pointer) (j : ℕ) → get_or pointers j hole ≡ hole → MayStand map number page pointers j
hole_may_stand map number page pointers j is = record {
  pointer = record { hole = λ _. is; place = λ written. absurd (unwritten written) };
  born = subst (λ p. p.birth.0 ≤ number) (sym is) (omega arith);
  inside = λ written. absurd (unwritten written);
  fresh = λ written. absurd (unwritten written);
  apart = λ i _ _ written _. unwritten written;
} where
  unwritten : IsWritten (get_or pointers j hole) → ⊥
  unwritten written = let birth : (get_or pointers j hole).birth.0 ≡ 0 = ap (λ p. p.birth.0) is in omega arith

free_place : (map : Map) (place : Place) → is_free map place ≡ true → IsPlace map.sectors place
unfolding is_free
free_place map place is = let (inside, rest) = and_parts _ _ is in place_of map.sectors place inside

pub pointer_may_stand : (map : Map) (number : ℕ) (page : Key) (pointers : List Pointer) (j : ℕ) → ((get_or pointers j hole).birth.0 == 0) ≡ false
    → (get_or pointers j hole).birth.0 ≤ number → IsKey map.blocks (child page j) → is_free map (get_or pointers j hole).place ≡ true
    → ((i : ℕ) → i < j → IsWritten (get_or pointers i hole) → (get_or pointers i hole).place ≢ (get_or pointers j hole).place)
    → MayStand map number page pointers j
pointer_may_stand map number page pointers j some born k fresh named = record {
  pointer = record { hole = λ none. absurd (eqb-false (get_or pointers j hole).birth.0 0 some none); place = λ _. free_place map (get_or pointers j hole).place fresh };
  born = born;
  inside = λ _. k;
  fresh = λ _. fresh;
  apart = λ i lt written _. named i lt written;
}

or_first : (a b : Bool) → (a || b) ≡ false → a ≡ false
or_first true b is = is
or_first false b is = refl

or_second : (a b : Bool) → (a || b) ≡ false → b ≡ false
or_second true b is = absurd (true≢false is)
or_second false b is = is

-- one pointer more was looked at
pub one_looked : (map : Map) (number : ℕ) (page : Key) (pointers : List Pointer) (n : ℕ) (some empty : Bool)
    → ((i : ℕ) → i < n → MayStand map number page pointers i)
    × ((some ≡ true → (i : ℕ) × (i < n) × IsWritten (get_or pointers i hole)) × (some ≡ false → (i : ℕ) → i < n → (get_or pointers i hole).birth.0 ≡ 0))
    → MayStand map number page pointers n → empty ≡ ((get_or pointers n hole).birth.0 == 0)
    → ((i : ℕ) → i < n + 1 → MayStand map number page pointers i)
    × (((some || not empty) ≡ true → (i : ℕ) × (i < n + 1) × IsWritten (get_or pointers i hole))
    × ((some || not empty) ≡ false → (i : ℕ) → i < n + 1 → (get_or pointers i hole).birth.0 ≡ 0))
one_looked map number page pointers n some empty before now is = (
  λ i lt. ⊎_elim (λ less. before.0 i less) (λ last. let same : n ≡ i = omega arith in subst (MayStand map number page pointers) same now) (cases_lt i n),
  (
    λ there. ⊎_elim (λ early. let (i, less, written) = before.1.0 early in (i, omega arith, written))
        (λ late.
        let differs : (get_or pointers n hole).birth.0 ≢ 0 = eqb-false (get_or pointers n hole).birth.0 0 (sym is ∙ not-true empty late) in
        (n, omega arith, omega arith))
        (or_cases some (not empty) there),
    λ none i lt. ⊎_elim (λ less. before.1.1 (or_first some (not empty) none) i less)
        (λ last.
        let same : n ≡ i = omega arith in
        subst (λ m. (get_or pointers m hole).birth.0 ≡ 0) same (eqb-true (get_or pointers n hole).birth.0 0 (sym is ∙ not-false empty (or_second some (not empty) none))))
        (cases_lt i n),
  ),
)
