-- Where the four labels of a device lie, and the parts of a label.
use Rattle.std.specs.Prelude.{ℕ, ◌-◌, ◌%◌, List, [], ◌∷◌}

-- the first sectors of the labels of a device of so many sectors
abbrev pub labels_of : ℕ → List ℕ
labels_of size = 0 ∷ 64 ∷ (size - 128) ∷ (size - 64) ∷ []

abbrev pub even_labels : ℕ → List ℕ
even_labels size = 0 ∷ (size - 128) ∷ []

abbrev pub odd_labels : ℕ → List ℕ
odd_labels size = 64 ∷ (size - 64) ∷ []

-- the configuration part begins at a label's sector 4 and has 28 sectors, the ring at 32 and has as many slots
abbrev pub config_offset : ℕ
config_offset = 4

abbrev pub config_sectors : ℕ
config_sectors = 28

abbrev pub ring_offset : ℕ
ring_offset = 32

abbrev pub ring_slots : ℕ
ring_slots = 32

-- the slot of the uberblock of a number
abbrev pub slot_of : ℕ → ℕ
slot_of number = number % 32
