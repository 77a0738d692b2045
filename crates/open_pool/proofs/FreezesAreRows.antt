-- A freeze is its row: its keys, their bytes and their places.
use Rattle.std.proofs.Common.{◌≡◌, ℕ, suc, ◌+◌, ◌-◌, ◌*◌, ◌<◌, ◌≤◌, true, List, length, Some, None, sym, ap, ◌∙◌, subst, arith}
use Rattle.std.proofs.lemmas.List.Elements.{All-contains}
use Rattle.mp_base.specs.declared.place.Key.{Key}
use Rattle.block_map.specs.Keys.{IsKey, child}
use Rattle.block_map.specs.Map.{Map}
use Rattle.txg_history.specs.Records.{Cell, key}
use Rattle.txg_engine.specs.declared.item.Item.{Item}
use Rattle.txg_engine.specs.Freezing.{IsFreeze, IsSigned}
use Rattle.pool_codec.specs.Codecs.{pool_codec}
use Rattle.pool_moves.specs.FreezeRow.{AreDirtyKeys}
use Rattle.pool_moves.specs.Moves.{sums_over}
use Rattle.pool_moves.specs.States.{Sums}
use Rattle.open_pool.specs.Freezing.{HasForms}
use Rattle.open_pool.specs.Parts.{PoolParts}
use Rattle.open_pool.specs.State.{cells_of, state_of, cells_in, sums_of}
use Rattle.open_pool.proofs.GroupBlocks.{blocks_of_cells}
use Rattle.open_pool.proofs.KeysDirty.{pages_up, only_parents}
use Rattle.open_pool.proofs.KeysFound.{found_item}
use Rattle.open_pool.proofs.PagesFormed.{page_pointers, page_is_one}

pub idle_cells : (p : PoolParts) → p.frozen ≡ None → (k : Key) → cells_in p.frozen k ≡ None
idle_cells p idle k = ap (λ f. cells_in f k) idle

child_is : (level index j : ℕ) → child (key (suc level) index) j ≡ key level (64 * index + j)
child_is level index j = let same : suc level - 1 ≡ level = omega arith in ap (λ l. key l (64 * index + j)) same

module _ (p : PoolParts) (held : List Sums) (new : Map) (items : List Item) (forms : HasForms p items)
    (freeze : IsFreeze (p.highest + 1) p.map new p.unfrozen.writes items) where
  some : 1 ≤ p.highest + 1
  some = omega arith

  level_of : (k : Key) (cell : Cell) → cells_of items k ≡ Some cell → k.level ≤ 3
  level_of k cell is =
      let found = found_item items k cell is in
      subst (λ (l : Key). l.level ≤ 3) found.key_is
      (All-contains (λ (item : Item). IsKey p.map.blocks item.key) items found.item freeze.inside found.among).level

  birth_of : (k : Key) (cell : Cell) → cells_of items k ≡ Some cell → cell.birth ≡ p.highest + 1
  birth_of k cell is =
      let found = found_item items k cell is in
      sym (ap (λ (c : Cell). c.birth) found.cell_is)
      ∙ (All-contains (IsSigned (p.highest + 1)) items found.item freeze.signed found.among).birth

  long_of : (k : Key) (cell : Cell) → cells_of items k ≡ Some cell → length cell.block ≡ 4096
  long_of k cell is =
      let found = found_item items k cell is in
      ap (λ (c : Cell). length c.block) (sym found.cell_is)
      ∙ All-contains (λ (item : Item). length item.block ≡ 4096) items found.item forms.blocks found.among

  formed_of : (level index : ℕ) (cell : Cell) → level < 3 → cells_of items (key (suc level) index) ≡ Some cell → pool_codec.is_page cell.block ≡ true
  formed_of level index cell low is =
      let below = only_parents p.unfrozen.writes forms.writes items freeze.keys level index cell low is in
      page_is_one (p.highest + 1) p.map items some forms.keys freeze.signed freeze.pointers forms.new forms.pointers forms.forms freeze.filled
      (key (suc level) index) cell below.j below.cell (omega arith) below.below is
      (ap (cells_of items) (child_is level index below.j) ∙ below.cell_is)

  pointers_of : (level index : ℕ) (cell : Cell) → level < 3 → cells_of items (key (suc level) index) ≡ Some cell → (j : ℕ) → j < 64
      → pool_codec.pointer cell.block j ≡ sums_over (cells_of items) (sums_of p.map) (key level (64 * index + j))
  pointers_of level index cell low is j few =
      page_pointers (p.highest + 1) p.map items some forms.keys freeze.signed freeze.pointers forms.new forms.pointers forms.forms freeze.filled
      (key (suc level) index) cell j (omega arith) few is
      ∙ ap (sums_over (cells_of items) (sums_of p.map)) (child_is level index j)

  pub dirty_keys_are : AreDirtyKeys pool_codec (state_of held p) (cells_of items)
  dirty_keys_are = record {
    takes = λ a. blocks_of_cells items a ∙ freeze.blocks a;
    up = pages_up p.unfrozen.writes forms.writes items freeze.keys;
    only = only_parents p.unfrozen.writes forms.writes items freeze.keys;
    levels = level_of;
    formed = formed_of;
    pages = pointers_of;
    births = birth_of;
    long = long_of;
  }
