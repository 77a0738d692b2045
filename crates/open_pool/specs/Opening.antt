-- A pool whose record was read by an opening, before it is committed again.
use Rattle.std.specs.Prelude.{◌≡◌, ◌⊎◌, ◌<◌, ℕ, List, [], ◌∷◌, map, All, AllPairs, Option, Some, None, IfSome, Result, Ok, Err, false}
use Rattle.bank_core.specs.BankView.{BankView}
use Rattle.bank_core.specs.Calls.{Makes}
use Rattle.bank_core.specs.Disk.{Noted}
use Rattle.label_store.specs.declared.found.Found.{Found}
use Rattle.label_store.specs.Newest.{ReadsOnly}
use Rattle.vdev_tree.specs.declared.vdev.LeafVdev.{LeafVdev}
use Rattle.vdev_tree.specs.declared.vdev.State.TheVariants.{Unavail}
use Rattle.pool_codec.specs.Codecs.{pool_codec}
use Rattle.pool_moves.specs.OpeningRow.{OpenReply, Opens_state, NoPage, RowOpen, last_numbers}
use Rattle.open_pool.specs.declared.pages.PageFault.{PageFault}
use Rattle.open_pool.specs.declared.pages.PageFault.TheVariants as fault
use Rattle.open_pool.specs.Form.{IsPool}
use Rattle.open_pool.specs.Pages.{leaf_saw}
use Rattle.open_pool.specs.Parts.{PoolParts}
use Rattle.open_pool.specs.State.{Stands}

-- A leaf of the record, on the device where its identity was found; one that wasn't found is UNAVAIL.
abbrev pub placed : Option ℕ → LeafVdev → LeafVdev
placed None leaf = record leaf { dev = None; state = Unavail }
placed (Some d) leaf = record leaf { dev = Some d }

abbrev pub all_placed : List (Option ℕ) → List LeafVdev → List LeafVdev
all_placed devs [] = []
all_placed [] (leaf ∷ leaves) = leaf ∷ leaves
all_placed (dev ∷ devs) (leaf ∷ leaves) = placed dev leaf ∷ all_placed devs leaves

-- no device is handed in under two of the names, and the bank has each
abbrev pub AreHanded : (size : ℕ → ℕ) → List (Option ℕ) → Type 0
AreHanded size devs = AllPairs (λ a b. (d : ℕ) → a ≡ Some d → b ≡ Some d → ⊥) devs × All (λ dev. IfSome dev (λ d. 0 < size d)) devs

-- It has the form of an open pool, but it has acknowledged no record yet; its record isn't the last one of the pool, its open group
-- is empty, and none is frozen.
pub record IsReopened (p : PoolParts) : Type 0 where
  pub pool : IsPool p
  pub below : p.highest < last_numbers
  pub unopened : p.opened ≡ false
  pub same : p.read ≡ p.highest
  pub unfrozen : p.unfrozen.writes ≡ []
  pub frozen : p.frozen ≡ None
  pub pins : p.pins.places ≡ []

-- What it answers: the pool as its record tells it, or the page that was lost with what each leaf of its top showed.
abbrev pub IsOpenedAs : OpenReply → Result PoolParts PageFault → Type 0
IsOpenedAs (Opens_state s) (Ok pool) = Stands pool s
IsOpenedAs (Opens_state s) (Err stop) = ⊥
IsOpenedAs (NoPage page shown) (Ok pool) = ⊥
IsOpenedAs (NoPage page shown) (Err (fault.Lost lost top seen)) = (lost ≡ page) × (map leaf_saw seen ≡ shown)
IsOpenedAs (NoPage page shown) (Err fault.Memory) = ⊥

-- So it answers what its row says: the identities of the leaves were looked for, and then the pages were read, by just these calls.
pub record Reopens (handed : List ℕ → Option ℕ) (name : List ℕ) (found : Found) (answer : Result PoolParts PageFault) (old new : BankView) : Type 0 where
  pub made : List Noted
  pub calls : Makes made old new
  pub reply : OpenReply
  pub row : RowOpen pool_codec old.size handed name found made reply
  pub says_so : IsOpenedAs reply answer

-- or there was no memory, and it only read
abbrev pub ReopensOrStops : (handed : List ℕ → Option ℕ) → (name : List ℕ) → Found → Result PoolParts PageFault → (old new : BankView) → Type 0
ReopensOrStops handed name found answer old new =
    Reopens handed name found answer old new ⊎ ((answer ≡ Err fault.Memory) × ReadsOnly old new)
