-- The devices of a bank in files, by the names that were asked for and their sizes in sectors.
use Rattle.std.specs.Prelude.{ℕ, nat_lt, cond, List, Option, Some, None, position, slice_index}
use Rattle.std.specs.Str.{bytes_eq}
use Rattle.bank_core.specs.BankView.{BankView}

-- the place of the name among those that were asked for
abbrev pub place_in : List (List ℕ) → List ℕ → Option ℕ
place_in asked name = position (λ other. bytes_eq other name) asked

-- the place, where the device there has a sector
abbrev pub if_sized : List ℕ → Option ℕ → Option ℕ
if_sized sizes None = None
if_sized sizes (Some place) = cond (nat_lt 0 (slice_index sizes place)) (Some place) None

-- the number of the device of this name, once it was found
abbrev pub number_in : List (List ℕ) → List ℕ → List ℕ → Option ℕ
number_in asked sizes name = if_sized sizes (place_in asked name)

-- what is said of a bank in files: it tells neither its names nor its story
abbrev pub view_of : (asked : List (List ℕ)) → (sizes faults : List ℕ) → (lookup_faults : ℕ) → BankView
view_of asked sizes faults lookup_faults = record {
  size = slice_index sizes;
  number_of = number_in asked sizes;
  names = None;
  faults = slice_index faults;
  lookup_faults = lookup_faults;
  told = None;
}
