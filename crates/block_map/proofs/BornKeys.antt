-- The keys that a scan comes to.
use Rattle.std.proofs.Common.{◌≡◌, ◌≢◌, ℕ, suc, ◌+◌, ◌<◌, ◌≤◌, true, false, leb, eqb, List, length, get_or, Option, Some, None, IfSome, refl, sym, ap, ◌∙◌, subst, ⊎_elim, arith}
use Rattle.std.proofs.lemmas.Bool.{cases_lt, eqb-true, eqb-false, lt-ltb, both_ways}
use Rattle.std.proofs.lemmas.List.{get_or_past}
use Rattle.mp_base.specs.declared.place.Key.{Key}
use Rattle.mp_base.specs.declared.place.Pointer.{Pointer}
use Rattle.block_map.specs.NumberSet.{Numbers}
use Rattle.block_map.specs.Keys.{IsKey, IsBehind, keys_at}
use Rattle.block_map.specs.Pointers.{hole, born_within}
use Rattle.block_map.specs.Numbers.{key_number, number_behind, start, slots}
use Rattle.block_map.specs.Map.{Map, pointer_at, IsNextKey, IsNextBorn, IsKept}
use Rattle.block_map.proofs.KeyNumbers.{is_key_cases, number_before, before_of, one_root}
use Rattle.block_map.proofs.PointersChanged.{pointer_is, no_pointer}

pub hole_unborn : (hi : ℕ) → born_within hi hole ≡ false
unfolding born_within
hole_unborn hi = refl

pub within_hole : (hi : ℕ) (pointer : Pointer) → eqb pointer.birth.0 0 ≡ true → false ≡ born_within hi pointer
unfolding born_within
within_hole hi pointer none = rw (eqb-true _ _ none) refl

pub within_other : (hi : ℕ) (pointer : Pointer) → eqb pointer.birth.0 0 ≡ false → leb pointer.birth.0 hi ≡ born_within hi pointer
unfolding born_within
within_other hi pointer some =
    let differs = eqb-false pointer.birth.0 0 some in
    rw (lt-ltb 0 pointer.birth.0 (let ne : pointer.birth.0 ≢ 0 = differs in omega arith)) refl

pub none_born_upto : (pointers : List Pointer) (from n hi : ℕ) → length pointers ≤ n
    → ((i : ℕ) → from ≤ i → i < n → born_within hi (get_or pointers i hole) ≡ false)
    → (i : ℕ) → from ≤ i → born_within hi (get_or pointers i hole) ≡ false
none_born_upto pointers from n hi past none i behind =
    ⊎_elim (λ lt. none i behind lt)
    (λ ge. ap (born_within hi) (get_or_past pointers i hole (omega arith)) ∙ hole_unborn hi)
    (cases_lt i n)

module _ (map : Map) (opened : Numbers) (kept : IsKept map.blocks map.sectors map.pointers map.free map.pinned opened) (after : Option Key)
    (cursor : IfSome after (λ key. IsKey map.blocks key)) (hi : ℕ) where
  behind_number : (after : Option Key) → IfSome after (λ key. IsKey map.blocks key) → (key : Key) → IsBehind after key → number_behind map.blocks after ≤ key_number map.blocks key
  behind_number None _ key behind = omega arith
  behind_number (Some c) is key behind = let lt = number_before map.blocks kept.volume.some kept.volume.most c key is behind in omega arith

  behind_of : (after : Option Key) → (key : Key) → IsKey map.blocks key → number_behind map.blocks after ≤ key_number map.blocks key → IsBehind after key
  behind_of None key k le = tt
  behind_of (Some c) key k le = before_of map.blocks kept.volume.some kept.volume.most c key k (omega arith)

  pub none_behind : ((i : ℕ) → number_behind map.blocks after ≤ i → born_within hi (get_or map.pointers i hole) ≡ false)
      → (key : Key) → IsBehind after key → born_within hi (pointer_at map key) ≡ false
  none_behind none key behind =
      ⊎_elim (λ k. ap (born_within hi) (pointer_is map key k) ∙ none (key_number map.blocks key) (behind_number after cursor key behind))
      (λ out. ap (born_within hi) (no_pointer map key out) ∙ hole_unborn hi)
      (is_key_cases map.blocks key)

  module _ (at : ℕ) (found : IsNextBorn map.pointers (number_behind map.blocks after) hi at)
      (key : Key) (level : key.level ≤ 3) (number : key_number map.blocks key ≡ at) (part : key.level < 3 → at < start map.blocks (suc key.level)) where
    key_found : IsKey map.blocks key
    unfolding key_number slots
    key_found = record {
      level = level;
      index =
          ⊎_elim (λ lt. lt)
          (λ past.
          ⊎_elim (λ lower.
          let is : suc key.level ≡ key.level + 1 = omega arith in
          let before : start map.blocks key.level + key.index < start map.blocks (key.level + 1) = subst (λ l. start map.blocks key.level + key.index < start map.blocks l) is (let p = part lower in omega (arith, number)) in
          let none = kept.fill key.level key.index lower past before in
          absurd (both_ways _ (ap (born_within hi) (sym (ap (λ n. get_or map.pointers n hole) number) ∙ none) ∙ hole_unborn hi) found.born))
          (λ upper.
          let is : key.level ≡ 3 = omega arith in
          let one = one_root map.blocks kept.volume.some kept.volume.most in
          let inside : at < start map.blocks 3 + 1 = rw (sym kept.slots) found.inside in
          let there : start map.blocks key.level ≡ start map.blocks 3 = ap (start map.blocks) is in
          let keys : keys_at map.blocks key.level ≡ keys_at map.blocks 3 = ap (keys_at map.blocks) is in
          omega (arith, number))
          (cases_lt key.level 3))
          (cases_lt key.index (keys_at map.blocks key.level));
    }

    pub next_found : IsNextKey map after hi key
    next_found = record {
      inside = key_found;
      behind = behind_of after key key_found (omega (arith, found.behind, number));
      born = ap (born_within hi) (pointer_is map key key_found ∙ ap (λ n. get_or map.pointers n hole) number) ∙ found.born;
      first = λ k behind before.
          ⊎_elim (λ is. ap (born_within hi) (pointer_is map k is)
          ∙ found.first (key_number map.blocks k) (behind_number after cursor k behind)
          (let lt = number_before map.blocks kept.volume.some kept.volume.most k key is before in omega (arith, number)))
          (λ out. ap (born_within hi) (no_pointer map k out) ∙ hole_unborn hi)
          (is_key_cases map.blocks k);
    }
