-- The pages above blocks that are dirty.
use Rattle.std.specs.Prelude.{◌≡◌, ℕ, ◌+◌, ◌/◌, ◌^◌, ◌<◌, nat_lt, List, [], ◌∷◌, length, AllPairs, Contains, if◌then◌else◌}
use Rattle.mp_base.specs.declared.place.Key.{Key}

-- the page of a level above a block
unfoldable pub page_above : ℕ → ℕ → Key
page_above level addr = record { level = level; index = addr / 64 ^ level }

-- addresses rise
abbrev pub Rises : List ℕ → Type 0
Rises addrs = AllPairs (λ a b. a < b) addrs

-- the pages above the addresses, one for each whose index isn't below `next`
unfoldable pub pages_from : ℕ → ℕ → List ℕ → List Key
pages_from level next [] = []
pages_from level next (a ∷ rest) =
    if nat_lt (page_above level a).index next then pages_from level next rest
    else (page_above level a ∷ pages_from level ((page_above level a).index + 1) rest)

-- the pages of a level above blocks whose addresses rise (`ArePagesAbove` says which these are)
unfoldable pub pages_above : ℕ → List ℕ → List Key
pages_above level addrs = pages_from level 0 addrs

-- how many pages of all three levels are above blocks whose addresses rise
abbrev pub dirty_pages : List ℕ → ℕ
dirty_pages addrs = length (pages_above 1 addrs) + length (pages_above 2 addrs) + length (pages_above 3 addrs)

-- These are the pages of a level above the blocks: each of them once, by rising index, and no other.
pub record ArePagesAbove (level : ℕ) (addrs : List ℕ) (pages : List Key) : Type 0 where
  pub rise : AllPairs (λ p q. p.index < q.index) pages
  pub all : (a : ℕ) → Contains addrs a → Contains pages (page_above level a)
  pub only : (page : Key) → Contains pages page → (a : ℕ) × Contains addrs a × (page ≡ page_above level a)
