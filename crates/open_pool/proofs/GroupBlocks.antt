-- The blocks of a frozen group, by its keys as the history has them.
use Rattle.std.proofs.Common.{◌≡◌, ℕ, Bool, true, false, cond, List, [], ◌∷◌, Option, Some, None, refl, sym, ap, ◌∙◌}
use Rattle.std.specs.Prelude.{is_some}
use Rattle.std.specs.Option.{option_map}
use Rattle.txg_history.specs.Groups.{same_key}
use Rattle.txg_history.specs.Records.{Cell, key}
use Rattle.txg_engine.specs.declared.item.Item.{Item}
use Rattle.txg_engine.specs.Items.{cell_of, frozen_block}
use Rattle.open_pool.specs.State.{cells_of}

by_first : (here : Bool) (item : Item) (rest : Option Cell) (block : Option (List ℕ)) → option_map (λ (c : Cell). c.block) rest ≡ block
    → option_map (λ (c : Cell). c.block) (cond here (Some (cell_of item)) rest) ≡ cond here (Some item.block) block
by_first true item rest block same = refl
by_first false item rest block same = same

pub blocks_of_cells : (items : List Item) (a : ℕ) → option_map (λ (c : Cell). c.block) (cells_of items (key 0 a)) ≡ frozen_block items a
blocks_of_cells [] a = refl
blocks_of_cells (item ∷ items) a =
    by_first (same_key item.key (key 0 a)) item (cells_of items (key 0 a)) (frozen_block items a) (blocks_of_cells items a)

some_mapped : {A B : Type 0} (f : A → B) (o : Option A) → is_some (option_map f o) ≡ is_some o
some_mapped f None = refl
some_mapped f (Some x) = refl

pub has_block : (items : List Item) (a : ℕ) → is_some (cells_of items (key 0 a)) ≡ is_some (frozen_block items a)
has_block items a = sym (some_mapped (λ (c : Cell). c.block) (cells_of items (key 0 a))) ∙ ap is_some (blocks_of_cells items a)
