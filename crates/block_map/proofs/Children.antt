-- A page's pointers are those of its keys.
use Rattle.std.proofs.Common.{◌≡◌, ℕ, ◌+◌, ◌-◌, ◌*◌, ◌<◌, ◌≤◌, false, length, get_or, take, drop, sym, ap, ◌∙◌, ⊎_elim, arith, get_or-take, get_or-drop, length-take, length-drop}
use Rattle.std.proofs.lemmas.Bool.{cases_lt}
use Rattle.std.proofs.lemmas.List.FromFn.{fill_by_all}
use Rattle.mp_base.specs.declared.place.Key.{Key}
use Rattle.block_map.specs.NumberSet.{Numbers}
use Rattle.block_map.specs.Keys.{IsKey, is_key, keys_at, child}
use Rattle.block_map.specs.Pointers.{hole}
use Rattle.block_map.specs.Numbers.{key_number, start}
use Rattle.block_map.specs.Map.{Map, pointer_at, children, IsKept}
use Rattle.block_map.proofs.KeyNumbers.{is_key_cases, is_key_of, child_before, child_lower, child_level, child_number, page_inside}
use Rattle.block_map.proofs.PointersChanged.{pointer_is, no_pointer}
use Rattle.std.proofs.lemmas.Bool.{both_ways}

module _ (m : Map) (opened : Numbers) (kept : IsKept m.blocks m.sectors m.pointers m.free m.pinned opened) (page : Key) (k : IsKey m.blocks page) (level : 1 ≤ page.level)
    (first : ℕ) (is : first ≡ key_number m.blocks (child page 0)) where
  pub inside : first + 64 ≤ length m.pointers
  inside = rw (is, kept.slots) (page_inside m.blocks kept.volume.some kept.volume.most page k level)

  pub length_page : length (take 64 (drop first m.pointers)) ≡ 64
  length_page = let le = inside in omega (arith, length-take 64 (drop first m.pointers), length-drop first m.pointers)

  number_is : (j : ℕ) → first + j ≡ key_number m.blocks (child page j)
  number_is j = rw is (sym (child_number m.blocks page j))

  filled : (j : ℕ) → j < 64 → is_key m.blocks (child page j) ≡ false → get_or m.pointers (first + j) hole ≡ hole
  unfolding key_number
  filled j less out =
      ⊎_elim (λ lt. absurd (both_ways _ out (is_key_of m.blocks (child page j) (record { level = child_level m.blocks page k; index = lt }))))
      (λ past.
      let before = child_before m.blocks page j k level less in
      let lower = child_lower m.blocks page k level in
      let n : first + j ≡ start m.blocks (page.level - 1) + (64 * page.index + j) = number_is j in
      ap (λ i. get_or m.pointers i hole) n ∙ kept.fill (page.level - 1) (64 * page.index + j) lower past before)
      (cases_lt (64 * page.index + j) (keys_at m.blocks (page.level - 1)))

  pointer_there : (j : ℕ) → j < 64 → get_or (take 64 (drop first m.pointers)) j hole ≡ pointer_at m (child page j)
  pointer_there j less =
      get_or-take 64 (drop first m.pointers) j hole less ∙ get_or-drop first m.pointers j hole
      ∙ ⊎_elim (λ is_key. ap (λ n. get_or m.pointers n hole) (number_is j) ∙ sym (pointer_is m (child page j) is_key))
      (λ out. filled j less out ∙ sym (no_pointer m (child page j) out))
      (is_key_cases m.blocks (child page j))

  pub children_are : take 64 (drop first m.pointers) ≡ children (pointer_at m) page
  children_are = fill_by_all (λ j. pointer_at m (child page j)) (take 64 (drop first m.pointers)) 64 hole length_page pointer_there
