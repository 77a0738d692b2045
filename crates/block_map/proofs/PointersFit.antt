-- Each key's pointer fits the tops and its bytes, whether it is a hole or not.
use Rattle.std.proofs.Common.{◌≡◌, ℕ, List, refl, sym, subst, ⊎_elim, arith}
use Rattle.std.proofs.lemmas.List.{length-replicate}
use Rattle.std.proofs.lemmas.List.FromFn.{get_or-map-range_with_len, length-map-range_with_len}
use Rattle.std.proofs.lemmas.List.Elements.{All-from_get_or}
use Rattle.mp_base.specs.declared.place.Key.{Key}
use Rattle.mp_base.specs.declared.place.Pointer.{Pointer}
use Rattle.block_map.specs.NumberSet.{Numbers}
use Rattle.block_map.specs.Pointers.{hole, IsPointer, IsInForm}
use Rattle.block_map.specs.Numbers.{key_number}
use Rattle.block_map.specs.Map.{Map, pointer_at, children, IsKept}
use Rattle.block_map.specs.Keys.{child}
use Rattle.block_map.specs.Pages.{AreInForm}
use Rattle.block_map.proofs.KeyNumbers.{is_key_cases, number_inside}
use Rattle.block_map.proofs.PointersChanged.{pointer_is, no_pointer}

pub hole_fits : (sectors : List ℕ) → IsPointer sectors hole
hole_fits sectors = record { hole = λ _. refl; place = λ some. absurd (omega arith) }

pub hole_in_form : IsInForm hole
hole_in_form = record { birth = omega arith; top = omega arith; sector = omega arith; sum = length-replicate {A = ℕ} 32 0 }

-- the pointers of a page are in form
pub children_in_form : (map : Map) (page : Key) (pointers : List Pointer) → ((key : Key) → IsInForm (pointer_at map key)) → pointers ≡ children (pointer_at map) page
    → AreInForm pointers
children_in_form map page pointers form are = rw are (record {
  count = length-map-range_with_len (λ j. pointer_at map (child page j)) 0 64;
  each = All-from_get_or IsInForm (children (pointer_at map) page) hole
      (λ j less. subst IsInForm (sym (get_or-map-range_with_len (λ i. pointer_at map (child page i)) 0 64 j j hole (omega (arith, length-map-range_with_len (λ j. pointer_at map (child page j)) 0 64)) (omega arith))) (form (child page j)));
})

module _ (map : Map) (opened : Numbers) (kept : IsKept map.blocks map.sectors map.pointers map.free map.pinned opened) (key : Key) where
  pub pointer_fits : IsPointer map.sectors (pointer_at map key)
  pointer_fits =
      ⊎_elim (λ k. subst (IsPointer map.sectors) (sym (pointer_is map key k))
      (kept.well_formed (key_number map.blocks key) hole (rw kept.slots (number_inside map.blocks kept.volume.some kept.volume.most key k))))
      (λ out. subst (IsPointer map.sectors) (sym (no_pointer map key out)) (hole_fits map.sectors))
      (is_key_cases map.blocks key)

  pub pointer_in_form : IsInForm (pointer_at map key)
  pointer_in_form =
      ⊎_elim (λ k. subst IsInForm (sym (pointer_is map key k))
      (kept.in_form (key_number map.blocks key) hole (rw kept.slots (number_inside map.blocks kept.volume.some kept.volume.most key k))))
      (λ out. subst IsInForm (sym (no_pointer map key out)) hole_in_form)
      (is_key_cases map.blocks key)
