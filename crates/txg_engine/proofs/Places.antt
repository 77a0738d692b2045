-- Which places, keys and volumes are the same.
use Rattle.std.proofs.Common.{◌≡◌, ℕ, true, List, [], ◌∷◌, get_or, Contains, ap, sym, subst, ◌∙◌, ⊎_elim, inl, inr, ◌⊎◌, arith}
use Rattle.std.proofs.lemmas.Bool.{cases_eq, eq-eqb, and_from}
use Rattle.std.proofs.lemmas.List.Elements.{Contains-push, Contains-append_left, Contains-append_right, Contains-append_cases}
use Rattle.mp_base.specs.declared.place.Key.{Key}
use Rattle.mp_base.specs.declared.place.Place.{Place}
use Rattle.block_map.specs.Map.{Map, SameVolume}
use Rattle.txg_history.specs.Groups.{same_key}

pub same_place : (p q : Place) → p.top ≡ q.top → p.sector ≡ q.sector → p ≡ q
same_place p q tops sectors =
    ap (λ (top : ℕ). record { top = top; sector = p.sector }) tops
    ∙ ap (λ (sector : ℕ). record { top = q.top; sector = sector }) sectors

pub cases_place : (p q : Place) → (p ≡ q) ⊎ (p ≡ q → ⊥)
cases_place p q =
    ⊎_elim
    (λ tops. ⊎_elim (λ sectors. inl (same_place p q tops sectors))
    (λ no. inr (λ same. no (ap (λ (r : Place). r.sector) same))) (cases_eq p.sector q.sector))
    (λ no. inr (λ same. no (ap (λ (r : Place). r.top) same))) (cases_eq p.top q.top)

-- the only element of a list
pub only_one : {X : Type 0} (x y : X) → Contains (x ∷ []) y → y ≡ x
only_one x y (k, inside, is) = let none : k ≡ 0 = omega arith in sym is ∙ ap (λ n. get_or (x ∷ []) n y) none

pub cases_among : (places : List Place) (p : Place) → Contains places p ⊎ (Contains places p → ⊥)
cases_among [] p = inr (λ has. absurd (omega (arith, has.1)))
cases_among (q ∷ places) p =
    ⊎_elim
    (λ same. inl (subst (Contains (q ∷ places)) same (Contains-append_left (q ∷ []) places q (Contains-push [] q))))
    (λ differs. ⊎_elim (λ has. inl (Contains-append_right (q ∷ []) places p has))
    (λ no. inr (λ has.
    ⊎_elim (λ one. differs (sym (only_one q p one))) no (Contains-append_cases (q ∷ []) places p has)))
    (cases_among places p))
    (cases_place q p)

pub same_key_self : (j k : Key) → j ≡ k → same_key j k ≡ true
same_key_self j k same =
    and_from _ _ (eq-eqb j.level k.level (ap (λ (i : Key). i.level) same))
    (eq-eqb j.index k.index (ap (λ (i : Key). i.index) same))

pub same_volume : (old mid new : Map) → SameVolume old mid → SameVolume mid new → SameVolume old new
same_volume old mid new first second = record {
  blocks = second.blocks ∙ first.blocks;
  sectors = second.sectors ∙ first.sectors;
}
