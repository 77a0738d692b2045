-- Places that are not pinned any more.
use Rattle.std.proofs.Common.{false, List, [], ◌∷◌, ◌++◌, Contains, ap, sym, subst, ◌∙◌, ⊎_elim}
use Rattle.std.proofs.lemmas.List.Elements.{Contains-append_left, Contains-push_cases, Contains-push}
use Rattle.mp_base.specs.declared.place.Place.{Place}
use Rattle.block_map.specs.Map.{Map, is_pinned, PinnedIs}
use Rattle.txg_engine.specs.Ending.{Unpins}
use Rattle.txg_engine.proofs.Places.{cases_place, same_volume}

-- one place more is not pinned
pub unpins_more : (places : List Place) (place : Place) (old mid new : Map) → Unpins places old mid
    → PinnedIs false mid new place → Unpins (places ++ place ∷ []) old new
unpins_more places place old mid new first now = record {
  unpinned = λ p has.
      ⊎_elim (λ same. ap (is_pinned new) same ∙ now.now)
      (λ differs. now.others p differs ∙ first.unpinned p
      (⊎_elim (λ h. h) (λ same. absurd (differs (sym same))) (Contains-push_cases places place p has)))
      (cases_place p place);
  pinned = λ p no.
      now.others p (λ same. no (subst (Contains (places ++ place ∷ [])) (sym same) (Contains-push places place)))
      ∙ first.pinned p (λ has. no (Contains-append_left places (place ∷ []) p has));
  free = λ p. now.free p ∙ first.free p;
  keys = λ k. now.keys k ∙ first.keys k;
  volume = same_volume old mid new first.volume now.volume;
}
