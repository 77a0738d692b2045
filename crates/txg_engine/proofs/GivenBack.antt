-- Places that are free again.
use Rattle.std.proofs.Common.{◌≡◌, Bool, true, false, ◌||◌, List, [], ◌∷◌, ◌++◌, Contains, refl, ap, sym, subst, ◌∙◌, ⊎_elim, append_assoc}
use Rattle.std.proofs.lemmas.List.Elements.{Contains-append_left, Contains-append_right, Contains-push_cases, Contains-push}
use Rattle.mp_base.specs.declared.place.Place.{Place}
use Rattle.block_map.specs.Map.{Map, is_free, is_pinned, FreeIs, PinnedIs}
use Rattle.txg_engine.specs.Ending.{GivesBack, pins_after}
use Rattle.txg_engine.proofs.Places.{cases_place, cases_among, only_one, same_volume}

one : (place : Place) → Contains (place ∷ []) place
one place = Contains-push [] place

at_one : (place p : Place) → p ≡ place → Contains (place ∷ []) p
at_one place p same = subst (Contains (place ∷ [])) (sym same) (one place)

-- one place is free and pinned
pub gives_pinned : (place : Place) (old mid new : Map) → FreeIs true old mid place → PinnedIs true mid new place
    → GivesBack true (place ∷ []) old new
gives_pinned place old mid new free pinned = record {
  given = λ p has. pinned.free p ∙ ap (is_free mid) (only_one place p has) ∙ free.now;
  others = λ p no. pinned.free p ∙ free.others p (λ same. no (at_one place p same));
  pinned = λ p has. ap (is_pinned new) (only_one place p has) ∙ pinned.now;
  not_pinned = λ p no. pinned.others p (λ same. no (at_one place p same)) ∙ free.pinned p;
  keys = λ k. pinned.keys k ∙ free.keys k;
  volume = same_volume old mid new free.volume pinned.volume;
}

or_again : (a b : Bool) → (a || (a || b)) ≡ (a || b)
or_again true b = refl
or_again false b = refl

module _ (begun : Bool) (places : List Place) (place : Place) (old mid new : Map)
    (first : GivesBack begun places old mid) (second : GivesBack begun (place ∷ []) mid new) where
  not_one : (p : Place) → (p ≡ place → ⊥) → Contains (place ∷ []) p → ⊥
  not_one p differs has = differs (only_one place p has)

  among : (p : Place) → (p ≡ place → ⊥) → Contains (places ++ place ∷ []) p → Contains places p
  among p differs has = ⊎_elim (λ h. h) (λ same. absurd (differs (sym same))) (Contains-push_cases places place p has)

  pinned_twice : (p : Place) → (begun || is_pinned mid p) ≡ (begun || is_pinned old p)
  pinned_twice p =
      ⊎_elim (λ has. ap (λ b. begun || b) (first.pinned p has) ∙ or_again begun (is_pinned old p))
      (λ no. ap (λ b. begun || b) (first.not_pinned p no)) (cases_among places p)

  -- one place more is free
  pub gives_more : GivesBack begun (places ++ place ∷ []) old new
  gives_more = record {
    given = λ p has.
        ⊎_elim (λ same. second.given p (at_one place p same))
        (λ differs. second.others p (not_one p differs) ∙ first.given p (among p differs has)) (cases_place p place);
    others = λ p no.
        second.others p (λ has. no (Contains-append_right places (place ∷ []) p has))
        ∙ first.others p (λ has. no (Contains-append_left places (place ∷ []) p has));
    pinned = λ p has.
        ⊎_elim (λ same. second.pinned p (at_one place p same) ∙ pinned_twice p)
        (λ differs. second.not_pinned p (not_one p differs) ∙ first.pinned p (among p differs has))
        (cases_place p place);
    not_pinned = λ p no.
        second.not_pinned p (λ has. no (Contains-append_right places (place ∷ []) p has))
        ∙ first.not_pinned p (λ has. no (Contains-append_left places (place ∷ []) p has));
    keys = λ k. second.keys k ∙ first.keys k;
    volume = same_volume old mid new first.volume second.volume;
  }

-- one place more is pinned where a round had begun
pub pins_more : (begun : Bool) (places pins : List Place) (place : Place)
    → pins_after begun (place ∷ []) (pins_after begun places pins) ≡ pins_after begun (places ++ place ∷ []) pins
pins_more true places pins place = append_assoc pins places (place ∷ [])
pins_more false places pins place = refl
