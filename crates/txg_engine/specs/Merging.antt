-- Two lists of writes become one, address by address.
use Rattle.std.specs.Prelude.{◌≡◌, ℕ, ◌==◌, nat_lt, List, [], ◌∷◌, Option, Some, None, if◌then◌else◌}
use Rattle.txg_engine.specs.declared.item.Item.{Item}
use Rattle.txg_engine.specs.declared.write.Write.{Write}

-- a block's address; a page has none
abbrev pub block_addr : Item → Option ℕ
block_addr item = if item.key.level == 0 then Some item.key.index else None

abbrev pub write_of : Item → Write
write_of item = record { addr = item.key.index; block = item.block }

-- The first key is taken out of its list, as a write.
abbrev pub PopsWrite : (older older' : List Item) → Option Write → Type 0
PopsWrite [] older' taken = (older' ≡ []) × (taken ≡ None)
PopsWrite (item ∷ items) older' taken = (older' ≡ items) × (taken ≡ Some (write_of item))

-- What is taken: nothing of two lists without writes, and else a write of the least address, the newer one where both
-- have it.
pub record TakesNewer (newer newer' : List Write) (taken : Option Write) : Type 0 where
  pub none : taken ≡ None → (newer ≡ []) × (newer' ≡ [])
  pub some : (write : Write) → taken ≡ Some write → newer ≡ write ∷ newer'

abbrev pub TakesBoth : (old : ℕ) → (item : Item) (items : List Item) (write : Write) (writes : List Write)
    → (older' : List Item) (newer' : List Write) → Option Write → Type 0
TakesBoth old item items write writes older' newer' taken =
    (taken ≡ (if nat_lt old write.addr then Some (write_of item) else Some write))
    × (older' ≡ (if nat_lt write.addr old then item ∷ items else items))
    × (newer' ≡ (if nat_lt old write.addr then write ∷ writes else writes))

abbrev pub TakesBy : Option ℕ → (item : Item) (items : List Item) (newer : List Write)
    → (older' : List Item) (newer' : List Write) → Option Write → Type 0
TakesBy None item items newer older' newer' taken = (older' ≡ item ∷ items) × TakesNewer newer newer' taken
TakesBy (Some old) item items [] older' newer' taken =
    (older' ≡ items) × (newer' ≡ []) × (taken ≡ Some (write_of item))
TakesBy (Some old) item items (write ∷ writes) older' newer' taken =
    TakesBoth old item items write writes older' newer' taken

abbrev pub TakesNext : (older : List Item) (newer : List Write) (older' : List Item) (newer' : List Write)
    → Option Write → Type 0
TakesNext [] newer older' newer' taken = (older' ≡ []) × TakesNewer newer newer' taken
TakesNext (item ∷ items) newer older' newer' taken = TakesBy (block_addr item) item items newer older' newer' taken
