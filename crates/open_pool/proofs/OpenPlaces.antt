-- The map counts the places that are open: those that no key of the pool's record or of its group has, and that aren't pinned.
use Rattle.std.proofs.Common.{◌≡◌, ◌≢◌, inl, inr, ⊎_elim, ℕ, zero, suc, ◌<◌, not, true, false, List, AllPairs, Contains, map, length, get_or, slice_index, Option, Some, None, sym, ap, ◌∙◌, subst, arith}
use Rattle.std.proofs.lemmas.Bool.{cases_Bool, cases_lt, and_parts, and_cases, and_left, and_right, not-false, not_from_true, both_ways}
use Rattle.std.proofs.lemmas.List.{get_or-map, length-map, get_or_past}
use Rattle.std.proofs.lemmas.List.Elements.{Contains-get_or}
use Rattle.mp_base.specs.declared.place.Place.{Place}
use Rattle.block_map.specs.Map.{Map, is_free, is_pinned, is_open, CountsPlaces}
use Rattle.block_map.specs.Places.{IsPlace}
use Rattle.block_map.proofs.PlaceNumbers.{place_of}
use Rattle.txg_engine.specs.Frozen.{FrozenGroup}
use Rattle.txg_engine.proofs.Places.{same_place}
use Rattle.pool_moves.specs.FreezeRow.{IsAtPlace}
use Rattle.pool_moves.specs.Refusing.{IsUsed, IsOpen, CountsOpen}
use Rattle.pool_moves.specs.States.{Sums, sums}
use Rattle.open_pool.specs.Form.{HasPlaces}
use Rattle.open_pool.specs.Parts.{PoolParts}
use Rattle.open_pool.specs.State.{ArePinned, cells_in, group_of, seen_of, sectors_in}

-- the keys of the frozen group are those that the state has
pub cells_seen : (frozen : Option FrozenGroup) (top sector : ℕ)
    → IsAtPlace (sums (group_of frozen).cells) top sector → IsAtPlace (sums (cells_in frozen)) top sector
cells_seen None top sector at = record { k = at.k; sum = at.sum; sum_is = at.sum_is; top_is = at.top_is; sector_is = at.sector_is }
cells_seen (Some group) top sector at = record { k = at.k; sum = at.sum; sum_is = at.sum_is; top_is = at.top_is; sector_is = at.sector_is }

pub seen_cells : (frozen : Option FrozenGroup) (top sector : ℕ)
    → IsAtPlace (sums (cells_in frozen)) top sector → IsAtPlace (sums (group_of frozen).cells) top sector
seen_cells None top sector at = record { k = at.k; sum = at.sum; sum_is = at.sum_is; top_is = at.top_is; sector_is = at.sector_is }
seen_cells (Some group) top sector at = record { k = at.k; sum = at.sum; sum_is = at.sum_is; top_is = at.top_is; sector_is = at.sector_is }

-- a place of a map with these tops, and one that is open there
pub inside_of : (sectors : List ℕ) (i sector : ℕ) → sector < slice_index sectors i → IsPlace sectors (record { top = i; sector = sector })
inside_of sectors i sector less = record {
  top = ⊎_elim (λ lt. lt) (λ past. absurd (let none = get_or_past sectors i 0 past in omega arith)) (cases_lt i (length sectors));
  sector = less;
}

pub open_inside : (m : Map) (place : Place) → is_open m place ≡ true → IsPlace m.sectors place
unfolding is_free
open_inside m place is =
    let (free, unpinned) = and_parts _ _ is in
    let (inside, held) = and_parts _ _ free in
    place_of m.sectors place inside

pair_of : Place → ℕ × ℕ
pair_of place = (suc place.top, place.sector)

same_pair : (a b : Place) → pair_of a ≡ pair_of b → a ≡ b
unfolding pair_of
same_pair a b same =
    same_place a b (let tops : suc a.top ≡ suc b.top = ap (λ (x : ℕ × ℕ). x.0) same in omega arith) (ap (λ (x : ℕ × ℕ). x.1) same)

somewhere : Place
somewhere = record { top = 0; sector = 0 }

module _ (p : PoolParts) (held : List Sums) (has : HasPlaces p) (pins : ArePinned held p) where
  pub used_shut : (place : Place) → IsUsed (seen_of held p) (suc place.top) place.sector → is_open p.map place ≡ false
  used_shut place (inl (inl at)) = and_left (is_free p.map place) (not (is_pinned p.map place)) (has.committed place at)
  used_shut place (inl (inr at)) =
      and_right (is_free p.map place) (not (is_pinned p.map place)) (not_from_true (is_pinned p.map place) (pins.held_places place at))
  used_shut place (inr at) =
      and_left (is_free p.map place) (not (is_pinned p.map place))
      (has.frozen place (cells_seen p.frozen (suc place.top) place.sector at))

  pub shut_used : (place : Place) → IsPlace p.map.sectors place → is_open p.map place ≡ false
      → IsUsed (seen_of held p) (suc place.top) place.sector
  shut_used place inside shut =
      ⊎_elim (λ taken.
      ⊎_elim (λ at. inl (inl at)) (λ at. inr (seen_cells p.frozen (suc place.top) place.sector at)) (has.taken place inside taken))
      (λ pin. inl (inr (pins.pinned place (not-false (is_pinned p.map place) pin))))
      (and_cases (is_free p.map place) (not (is_pinned p.map place)) shut)

  module _ (tops : p.map.sectors ≡ sectors_in p.tops) where
    open_there : (place : Place) → is_open p.map place ≡ true → IsOpen (seen_of held p) (suc place.top) place.sector
    open_there place is = (
      subst (λ s. place.sector < slice_index s place.top) tops (open_inside p.map place is).sector,
      λ used. both_ways (is_open p.map place) (used_shut place used) is,
    )

    there_open : (i sector : ℕ) → IsOpen (seen_of held p) (suc i) sector → is_open p.map (record { top = i; sector = sector }) ≡ true
    there_open i sector (less, unused) =
        let place : Place = record { top = i; sector = sector } in
        let inside : IsPlace p.map.sectors place =
        inside_of p.map.sectors i sector (subst (λ s. sector < slice_index s i) (sym tops) less) in
        ⊎_elim (λ is. is) (λ shut. absurd (unused (shut_used place inside shut))) (cases_Bool (is_open p.map place))

    module _ (n : ℕ) (counts : CountsPlaces (is_open p.map) n) where
      in_list : (top sector : ℕ) → IsOpen (seen_of held p) top sector → Contains (map pair_of counts.places) (top, sector)
      unfolding pair_of
      in_list zero sector is = absurd (let none = is.0 in omega arith)
      in_list (suc i) sector is =
          let place : Place = record { top = i; sector = sector } in
          let (k, less, at) = counts.all place (there_open i sector is) in (
            k,
            rw (length-map counts.places pair_of) less,
            get_or-map pair_of counts.places k place (suc i, sector) less ∙ ap pair_of at,
          )

      of_list : (top sector : ℕ) → Contains (map pair_of counts.places) (top, sector) → IsOpen (seen_of held p) top sector
      unfolding pair_of
      of_list top sector (k, less, at) =
          let inside : k < length counts.places = rw (length-map counts.places pair_of) at less in
          let place = get_or counts.places k somewhere in
          let is : pair_of place ≡ (top, sector) = sym (get_or-map pair_of counts.places k somewhere (top, sector) inside) ∙ at in
          subst (λ (x : ℕ × ℕ). IsOpen (seen_of held p) x.0 x.1) is
          (open_there place (counts.only place (Contains-get_or counts.places k somewhere inside)))

      apart : AllPairs (λ a b. a ≢ b) (map pair_of counts.places)
      apart i j d less lt same =
          let inside : j < length counts.places = rw (length-map counts.places pair_of) at lt in
          let one = get_or-map pair_of counts.places i somewhere d (omega arith) in
          let other = get_or-map pair_of counts.places j somewhere d inside in
          counts.differ i j somewhere less inside
          (same_pair (get_or counts.places i somewhere) (get_or counts.places j somewhere) (sym one ∙ same ∙ other))

      pub counts_open : CountsOpen (seen_of held p) n
      counts_open = record {
        places = map pair_of counts.places;
        count = length-map counts.places pair_of ∙ counts.count;
        differ = apart;
        all = in_list;
        only = of_list;
      }
