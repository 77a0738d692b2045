-- The record that a frozen group's pool draws up is a valid configuration.
use Rattle.std.proofs.Common.{◌≡◌, ◌⊎◌, inl, inr, ℕ, zero, suc, ◌<◌, cond, Bool, true, false, List, [], ◌∷◌, length, map, slice_index, Some, refl, ap, ◌∙◌, subst, arith}
use Rattle.std.specs.Prelude.{All, slice_get}
use Rattle.std.specs.List.{AllByRecursion}
use Rattle.std.proofs.lemmas.List.Elements.{All-head, All-tail, recursion_from_All}
use Rattle.sha2.proofs.Facts256.{length-sha256}
use Rattle.mp_base.specs.declared.place.Key.{Key}
use Rattle.mp_base.specs.declared.place.Pointer.{Pointer}
use Rattle.block_map.specs.Keys.{root}
use Rattle.block_map.specs.Map.{pointer_at}
use Rattle.block_map.specs.Places.{IsPlace}
use Rattle.block_map.specs.Pointers.{IsPointer}
use Rattle.vdev_tree.specs.declared.top.Top.{Top}
use Rattle.dtl_rules.specs.Widening.{leaves_of, sectors_of}
use Rattle.pool_config.specs.Seen.{TopSeen, top_seen}
use Rattle.pool_config.specs.Validity.{IsValid, IsHole, IsPlaced}
use Rattle.txg_history.specs.Groups.{same_key}
use Rattle.txg_engine.specs.declared.item.Item.{Item}
use Rattle.txg_engine.specs.Freezing.{IsSigned}
use Rattle.txg_engine.specs.Frozen.{FrozenGroup, IsGroup}
use Rattle.txg_engine.specs.Items.{laid, put}
use Rattle.open_pool.specs.Form.{all_leaves, config_of, IsPool}
use Rattle.open_pool.specs.Parts.{PoolParts}
use Rattle.open_pool.proofs.BoardKept.{same_leaves}
use Rattle.open_pool.proofs.DraftFits.{drawn_of}
use Rattle.open_pool.proofs.GoingKept.{trees_leaves}
use Rattle.open_pool.proofs.LogsWidened.{IsWithin}
use Rattle.open_pool.proofs.RecordKept.{few_recorded, valid_kept, tops_seen}
use Rattle.open_pool.proofs.TurnSteps.{going, sectors_are}

-- a place of the tops is one of a top that a record has
pub placed_top : (trees : List Top) (i sector : ℕ) → i < length (sectors_of trees) → sector < slice_index (sectors_of trees) i
    → (top : TopSeen) × (slice_get (map top_seen trees) i ≡ Some top) × (sector < top.sectors)
placed_top [] i sector inside less = absurd (omega (arith, inside))
placed_top (t ∷ trees) zero sector inside less = (top_seen t, refl, less)
placed_top (t ∷ trees) (suc i) sector inside less = placed_top trees i sector (omega (arith, inside)) less

-- the item is one of these
abbrev IsThere : List Item → Item → Type 0
IsThere [] item = ⊥
IsThere (x ∷ items) item = (x ≡ item) ⊎ IsThere items item

-- what holds of a key's pointer and of those of a group holds of the key's pointer over them
laid_has : (P : Pointer → Type 0) (items : List Item) (at : Key → Pointer) (k : Key) → ((item : Item) → IsThere items item → P item.pointer) → P (at k)
    → P (laid items at k)
laid_has P [] at k each has = has
laid_has P (item ∷ items) at k each has =
    laid_has P items (put item at) k (λ i there. each i (inr there)) (by (same_key item.key k))
  where
    by : (t : Bool) → P (cond t item.pointer (at k))
    by true = each item (inl refl)
    by false = has

module _ (b : PoolParts) (group : FrozenGroup) (trees : List Top) (pool : IsPool (going b group trees)) (kept : IsGroup group) where
  sectors_there : b.map.sectors ≡ sectors_of trees
  sectors_there = pool.tops ∙ sectors_are trees

  item_placed : (item : Item) → IsPointer b.map.sectors item.pointer → IsSigned group.numbers.first.0 item
      → IsPlaced group.numbers.last (map top_seen trees) item.pointer
  item_placed item pointer signed =
      let low = kept.low in
      let order = kept.order in
      let birth = signed.birth in
      let place = subst (λ s. IsPlace s item.pointer.place) sectors_there (pointer.place (omega (arith, low, birth))) in
      record {
        birth = (omega (arith, low, birth), omega (arith, order, birth));
        place = placed_top trees item.pointer.place.top item.pointer.place.sector place.top place.sector;
        sum = ap length signed.sum ∙ length-sha256 item.block;
      }

  each_placed : (items : List Item) → All (λ item. IsPointer b.map.sectors item.pointer) items → All (IsSigned group.numbers.first.0) items
      → (item : Item) → IsThere items item → IsHole item.pointer ⊎ IsPlaced group.numbers.last (map top_seen trees) item.pointer
  each_placed [] pointers signed item there = absurd there
  each_placed (x ∷ items) pointers signed item (inl here) =
      inr (subst (λ (i : Item). IsPlaced group.numbers.last (map top_seen trees) i.pointer) here
      (item_placed x (All-head (λ (i : Item). IsPointer b.map.sectors i.pointer) x items pointers) (All-head (IsSigned group.numbers.first.0) x items signed)))
  each_placed (x ∷ items) pointers signed item (inr there) =
      each_placed items (All-tail (λ (i : Item). IsPointer b.map.sectors i.pointer) x items pointers) (All-tail (IsSigned group.numbers.first.0) x items signed) item there

  pub root_placed : IsHole (laid group.items (pointer_at b.map) root) ⊎ IsPlaced group.numbers.last (map top_seen trees) (laid group.items (pointer_at b.map) root)
  root_placed = laid_has (λ r. IsHole r ⊎ IsPlaced group.numbers.last (map top_seen trees) r) group.items (pointer_at b.map) root
      (each_placed group.items pool.group.pointers pool.group.signed)
      (subst (λ ts. IsHole (pointer_at b.map root) ⊎ IsPlaced group.numbers.last ts (pointer_at b.map root)) (tops_seen trees) pool.recordable.root)

  pub drawn_valid : IsValid (drawn_of b group trees)
  drawn_valid =
      let within = subst (AllByRecursion (IsWithin group.numbers.last.0)) (trees_leaves trees)
      (recursion_from_All (IsWithin group.numbers.last.0) (all_leaves (going b group trees)) pool.leaves.within) in
      valid_kept (config_of (going b group trees) (record { 0 = group.numbers.last.0 }) (pointer_at b.map root)) group.numbers.last
      (laid group.items (pointer_at b.map) root) trees trees (tops_seen trees) pool.recordable pool.recordable.number root_placed refl refl
      (same_leaves (leaves_of trees)) within
      (few_recorded (config_of (going b group trees) (record { 0 = group.numbers.last.0 }) (pointer_at b.map root)) group.numbers.last.0 trees (tops_seen trees)
      pool.recordable pool.recordable.number.1 within)
