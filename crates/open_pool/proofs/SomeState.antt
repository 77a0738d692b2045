-- Each pool stands for some state: the places that are pinned are those of one suspended group.
use Rattle.std.proofs.Common.{◌≡◌, inl, ⊎_elim, suc, Bool, true, false, [], ◌∷◌, Option, Some, None, refl, ap, ◌∙◌, subst, arith}
use Rattle.mp_base.specs.declared.place.Key.{Key}
use Rattle.mp_base.specs.declared.place.Place.{Place}
use Rattle.block_map.specs.Map.{Map, is_pinned}
use Rattle.txg_history.specs.Pages.{Sum}
use Rattle.txg_history.specs.Records.{key}
use Rattle.txg_engine.proofs.Places.{same_place}
use Rattle.pool_moves.specs.FreezeRow.{IsAtPlace}
use Rattle.pool_moves.specs.States.{Sums, PoolState}
use Rattle.open_pool.specs.Parts.{PoolParts}
use Rattle.open_pool.specs.State.{Stands, state_of}
use Rattle.open_pool.proofs.StatesStand.{stands_there}

abbrev place_at : Key → Place
place_at k = record { top = k.level; sector = k.index }

abbrev sum_at : Bool → Key → Option Sum
sum_at true k = Some (record { birth = 0; top = suc k.level; sector = k.index; sum = [] })
sum_at false k = None

-- a key at each place that is pinned
abbrev sums_pinned : Map → Sums
sums_pinned map k = sum_at (is_pinned map (place_at k)) k

pinned_at : (map : Map) (place : Place) → IsAtPlace (sums_pinned map) (suc place.top) place.sector → is_pinned map place ≡ true
pinned_at map place at = by (is_pinned map (place_at at.k)) refl at.sum_is
  where
    by : (b : Bool) → is_pinned map (place_at at.k) ≡ b → sum_at b at.k ≡ Some at.sum → is_pinned map place ≡ true
    by false out none = absurd (let no : None ≡ Some at.sum = none in cc)
    by true is some =
        let sum : record { birth = 0; top = suc at.k.level; sector = at.k.index; sum = [] } ≡ at.sum = cc in
        let next : suc at.k.level ≡ suc place.top = ap (λ (s : Sum). s.top) sum ∙ at.top_is in
        let top : at.k.level ≡ place.top = omega (arith, next) in
        subst (λ p. is_pinned map p ≡ true) (same_place (place_at at.k) place top (ap (λ (s : Sum). s.sector) sum ∙ at.sector_is)) is

pub some_state : (p : PoolParts) → (s : PoolState) × Stands p s
some_state p = (
  state_of (sums_pinned p.map ∷ []) p,
  stands_there (sums_pinned p.map ∷ []) p (record {
    pinned = λ place is. inl (record {
      k = key place.top place.sector;
      sum = record { birth = 0; top = suc place.top; sector = place.sector; sum = [] };
      sum_is = ap (λ b. sum_at b (key place.top place.sector)) is;
      top_is = refl;
      sector_is = refl;
    });
    held_places = λ place at. ⊎_elim (pinned_at p.map place) (λ none. absurd none) at;
  }),
)
