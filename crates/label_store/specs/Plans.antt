-- What is asked of a member's device, by its number and how many sectors it has.
use Rattle.std.specs.Prelude.{ℕ, ◌+◌, List, [], ◌∷◌, ◌++◌, map}
use Rattle.mp_base.specs.Block.{zeros}
use Rattle.mp_base.specs.declared.number.Guid.{Guid}
use Rattle.bank_core.specs.Asks.{Ask, Writes, Flushes}
use Rattle.label_store.specs.declared.uberblock.Uberblock.{Uberblock}
use Rattle.label_store.specs.Layout.{labels_of, config_offset, ring_offset, slot_of}
use Rattle.label_store.specs.Uberblock.{uberblock_bytes}

-- these bytes go into each of these labels, at one place
abbrev pub label_writes : (dev : ℕ) → (labels : List ℕ) → (offset : ℕ) → List ℕ → List Ask
label_writes dev labels offset bytes = map (λ at. Writes dev (at + offset) bytes) labels

-- the configuration goes into these labels, and is flushed
abbrev pub config_plan : (dev : ℕ) → (labels : List ℕ) → List ℕ → List Ask
config_plan dev labels config = label_writes dev labels config_offset config ++ Flushes dev ∷ []

-- an uberblock goes into its slot of each ring, and is flushed
abbrev pub ring_plan : (dev size : ℕ) → Uberblock → List Ask
ring_plan dev size u = label_writes dev (labels_of size) (ring_offset + slot_of u.number.0) (uberblock_bytes u) ++ Flushes dev ∷ []

-- an uberblock that gives an identity, and no more
abbrev pub blank_uberblock : (pool member : Guid) → Uberblock
blank_uberblock pool member = record { pool = pool; member = member; number = record { 0 = 0 }; length = 0; sum = zeros 32 }

-- the bytes of a ring, all zeros
unfoldable pub zero_ring : List ℕ
zero_ring = zeros 131072

-- a stamp: zeros over each ring, then the uberblock of number 0 into each
abbrev pub stamp_plan : (dev size : ℕ) → (pool member : Guid) → List Ask
stamp_plan dev size pool member =
    label_writes dev (labels_of size) ring_offset zero_ring ++ ring_plan dev size (blank_uberblock pool member)

-- the mark of a spare: a stamp of no pool and no member
abbrev pub no_guid : Guid
no_guid = record { 0 = 0 }

abbrev pub mark_plan : (dev size : ℕ) → List Ask
mark_plan dev size = stamp_plan dev size no_guid no_guid

-- a wipe: zeros over each ring, and a flush
abbrev pub wipe_plan : (dev size : ℕ) → List Ask
wipe_plan dev size = label_writes dev (labels_of size) ring_offset zero_ring ++ Flushes dev ∷ []
