-- A valid configuration, whose leaves were put on their devices, is what the reading of its map asks for.
use mathlib.Core.Path.{fun_ext}
use Rattle.std.proofs.Common.{◌≡◌, ◌≢◌, ◌⊎◌, inl, inr, ℕ, zero, suc, ◌<◌, ◌≤◌, List, [], ◌∷◌, length, map, slice_index, Option, Some, None, refl, sym, ap, ◌∙◌, subst, arith, append-nil}
use Rattle.std.specs.Prelude.{All, AllPairs, slice_get}
use Rattle.std.specs.List.{AllByRecursion, flat_map}
use Rattle.std.proofs.lemmas.List.{length-map}
use Rattle.std.proofs.lemmas.List.Elements.{All-from_recursion, recursion_from_All}
use Rattle.mp_base.specs.Block.{zeros}
use Rattle.mp_base.specs.declared.number.Group.{Group}
use Rattle.mp_base.specs.declared.number.Guid.{Guid}
use Rattle.mp_base.specs.declared.place.Pointer.{Pointer}
use Rattle.bank_core.specs.BankView.{BankView}
use Rattle.block_map.specs.Keys.{IsVolume}
use Rattle.block_map.specs.Places.{AreTops}
use Rattle.block_map.specs.Pointers.{hole, IsPointer}
use Rattle.vdev_tree.specs.declared.top.Top.{Top}
use Rattle.vdev_tree.specs.declared.vdev.LeafVdev.{LeafVdev}
use Rattle.dtl_rules.specs.Widening.{leaves_of, sectors_of}
use Rattle.pool_config.specs.declared.config.Config.{Config}
use Rattle.pool_config.specs.Seen.{TopSeen, config_seen, leaf_seen, leaf_name, top_seen, leaves_among, all_vdevs, number_of_vdev}
use Rattle.pool_config.specs.Validity.{IsIn, IsHole, IsPlaced, IsTop, IsValid}
use Rattle.pool_codec.specs.Tops.{room_of, kept_leaves_from}
use Rattle.pool_moves.specs.OpeningRow.{AreSought}
use Rattle.open_pool.specs.Finding.{FindsLeaves, handed_to}
use Rattle.open_pool.specs.Here.{AreHere}
use Rattle.open_pool.specs.Opening.{all_placed}
use Rattle.open_pool.specs.Pages.{HaveOwnDevices}
use Rattle.open_pool.specs.Parts.{all_parts}
use Rattle.open_pool.proofs.DevicesFound.{AreTwo, handed_by, are_handed, found_apart, found_here}
use Rattle.open_pool.proofs.FormReopened.{own_devices}
use Rattle.open_pool.proofs.LeavesInForm.{numbered, numbers_differ, leaves_differ_too, seen_numbers}
use Rattle.open_pool.proofs.NumbersApart.{AreNumbered, Differ}
use Rattle.open_pool.proofs.RecordKept.{tops_seen}
use Rattle.open_pool.proofs.RecordReopened.{ArePlaced}
use Rattle.open_pool.proofs.RecordStill.{leaves_in}
use Rattle.open_pool.proofs.TopsSized.{as_many}
use Rattle.open_pool.proofs.TreesBuilt.{built_sizes}

all_sized : (trees : List Top) → AllByRecursion IsTop (map top_seen trees) → AllByRecursion (IsIn 64 1048320) (sectors_of trees)
all_sized [] all = tt
all_sized (top ∷ trees) all = (all.0.sectors, all_sized trees all.1)

at_most : (sectors : List ℕ) → AllByRecursion (IsIn 64 1048320) sectors → AllByRecursion (λ s. s ≤ 1048320) sectors
at_most [] all = tt
at_most (s ∷ sectors) all = (all.0.1, at_most sectors all.1)

length_placed : (devs : List (Option ℕ)) (leaves : List LeafVdev) → length (all_placed devs leaves) ≡ length leaves
length_placed devs [] = refl
length_placed [] (leaf ∷ leaves) = refl
length_placed (dev ∷ devs) (leaf ∷ leaves) = ap suc (length_placed devs leaves)

-- a pointer of a record is one of a map
hole_is : (p : Pointer) → IsHole p → p ≡ hole
unfolding zeros
hole_is p h =
    ap (λ b. record { birth = record { 0 = b }; place = p.place; sum = p.sum }) h.birth
    ∙ ap (λ t. record { birth = record { 0 = 0 }; place = record { top = t; sector = p.place.sector }; sum = p.sum }) h.top
    ∙ ap (λ s. record { birth = record { 0 = 0 }; place = record { top = 0; sector = s }; sum = p.sum }) h.sector
    ∙ ap (λ s. record { birth = record { 0 = 0 }; place = record { top = 0; sector = 0 }; sum = s }) h.sum

none_there : (top : TopSeen) → None ≡ Some top → ⊥
none_there top same = cc

top_is : (t top : TopSeen) → Some t ≡ Some top → t ≡ top
top_is t top same = cc

placed_in : (trees : List Top) (i sector : ℕ) (top : TopSeen) → slice_get (map top_seen trees) i ≡ Some top → sector < top.sectors
    → (i < length (sectors_of trees)) × (sector < slice_index (sectors_of trees) i)
placed_in [] i sector top is lt = absurd (none_there top is)
placed_in (t ∷ trees) zero sector top is lt =
    (omega arith, let same = ap (λ (x : TopSeen). x.sectors) (top_is (top_seen t) top is) in omega (arith, lt, same))
placed_in (t ∷ trees) (suc i) sector top is lt =
    let more = placed_in trees i sector top is lt in
    (let inside = more.0 in omega (arith, inside), more.1)

root_fits : (p : Pointer) (number : Group) (trees : List Top) → IsHole p ⊎ IsPlaced number (map top_seen trees) p → IsPointer (sectors_of trees) p
root_fits p number trees (inl h) = record {
  hole = λ none. hole_is p h;
  place = λ written. absurd (let none = h.birth in omega (arith, none, written));
}
root_fits p number trees (inr on) =
    let at = placed_in trees p.place.top p.place.sector on.place.0 on.place.1 on.place.2 in
    record {
      hole = λ none. absurd (let some = on.birth.0 in omega (arith, none, some));
      place = λ written. record { top = at.0; sector = at.1 };
    }

root_born : (p : Pointer) (number : Group) (tops : List TopSeen) → IsHole p ⊎ IsPlaced number tops p → p.birth.0 ≤ number.0
root_born p number tops (inl h) = let none = h.birth in omega (arith, none)
root_born p number tops (inr on) = on.birth.1

module _ (c : Config) (valid : IsValid (config_seen c)) where
  -- what the search of its leaves asks for
  pub tops_are_sized : All (IsIn 64 1048320) (sectors_of c.tops.items)
  tops_are_sized =
      All-from_recursion (IsIn 64 1048320) (sectors_of c.tops.items) (all_sized c.tops.items (recursion_from_All IsTop (map top_seen c.tops.items) valid.tops))

  seen_leaves : leaves_among (all_vdevs (config_seen c)) ≡ map leaf_seen (leaves_of c.tops.items)
  seen_leaves = ap (λ ts. leaves_among (flat_map (λ (top : TopSeen). top.vdevs) ts)) (sym (tops_seen c.tops.items)) ∙ leaves_in c.tops.items

  pub leaves_are_few : length (leaves_of c.tops.items) ≤ 32
  leaves_are_few = let few = valid.few_leaves in
      omega (arith, few, ap length seen_leaves, length-map (leaves_of c.tops.items) leaf_seen)

  pub names_are_apart : AllPairs (λ a b. a ≢ b) (map leaf_name (map leaf_seen (leaves_of c.tops.items)))
  names_are_apart = subst (λ ls. AllPairs (λ a b. a ≢ b) (map leaf_name ls)) seen_leaves valid.devices

  pub numbers_are_apart : AreNumbered (leaves_of c.tops.items)
  numbers_are_apart =
      numbered (leaves_of c.tops.items) (subst Differ (ap (map {B = ℕ} (λ leaf. leaf.guid.0)) seen_leaves ∙ seen_numbers (leaves_of c.tops.items))
      (leaves_differ_too (all_vdevs (config_seen c)) (numbers_differ (map number_of_vdev (all_vdevs (config_seen c))) valid.apart)))

  -- and the reading of its map
  pub has_volume : IsVolume c.blocks
  has_volume = record { some = valid.blocks.0; most = valid.blocks.1 }

  pub root_is_born : c.root.birth.0 ≤ c.number.0
  root_is_born = root_born c.root c.number (map top_seen c.tops.items) valid.root

  module _ (devs : List (Option ℕ)) (is : List Top) (on : ArePlaced devs c.tops.items is) where
    pub are_tops : AreTops (sectors_of is)
    are_tops =
        let few = valid.few_tops in
        let long = as_many c.tops.items in
        subst AreTops (sym on.sectors) (record {
          some = omega (arith, few, long);
          most = omega (arith, few, long);
          sizes = All-from_recursion (λ s. s ≤ 1048320) (sectors_of c.tops.items)
              (at_most (sectors_of c.tops.items) (all_sized c.tops.items (recursion_from_All IsTop (map top_seen c.tops.items) valid.tops)));
        })

    pub root_is_pointer : IsPointer (sectors_of is) c.root
    root_is_pointer = subst (λ s. IsPointer s c.root) (sym on.sectors) (root_fits c.root c.number c.tops.items valid.root)

    pub few_placed : length (leaves_of is) ≤ 32
    few_placed = omega (arith, ap length on.leaves, length_placed devs (leaves_of c.tops.items), leaves_are_few)

  -- The leaves were looked for on devices that were handed in, of which no two are one, whoever hands them in.
  module _ (given : List (Option ℕ)) (paired : length given ≡ length (leaves_of c.tops.items)) (two : AllPairs AreTwo given) (pool : Guid)
      (devs : List (Option ℕ)) (old mid : BankView)
      (finds : (handed : List ℕ → Option ℕ) → handed_to handed (leaves_of c.tops.items) ≡ given
      → FindsLeaves pool (room_of (sectors_of c.tops.items)) handed (kept_leaves_from 1 c.tops.items) [] devs old mid) where
    abbrev by_names : List ℕ → Option ℕ
    by_names = handed_by (leaves_of c.tops.items) given

    they_are : handed_to by_names (leaves_of c.tops.items) ≡ given
    they_are = are_handed (leaves_of c.tops.items) given paired names_are_apart

    abbrev f : FindsLeaves pool (room_of (sectors_of c.tops.items)) by_names (kept_leaves_from 1 c.tops.items) [] devs old mid
    f = finds by_names they_are

    there : f.found ≡ devs
    there = sym (f.devs_are ∙ append-nil f.found)

    pub found_two : AllPairs AreTwo devs
    found_two = subst (AllPairs AreTwo) there
        (found_apart pool old.size (room_of (sectors_of c.tops.items)) by_names c.tops.items f.made given f.found f.sought they_are two)

    module _ (is : List Top) (on : ArePlaced devs c.tops.items is) where
      pub leaves_apart : HaveOwnDevices (leaves_of is)
      leaves_apart = own_devices devs c.tops.items is on found_two

      pub leaves_here : AreHere mid.size (all_parts is)
      leaves_here = subst (λ size. AreHere size (all_parts is)) (sym (fun_ext f.calls.frame.sizes))
          (found_here pool old.size by_names c.tops.items is f.made devs
          (subst (AreSought pool old.size (room_of (sectors_of c.tops.items)) by_names (kept_leaves_from 1 c.tops.items) f.made) there f.sought)
          on.leaves (sym (built_sizes c.tops.items is on.built)) on.sectors)
