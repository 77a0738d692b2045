-- Writes into one label after another.
use Rattle.std.proofs.Common.{◌≡◌, ℕ, zero, suc, ◌+◌, ◌%◌, ◌<◌, ◌≤◌, List, [], ◌∷◌, ◌++◌, length, take, drop, replicate, get_or, refl, sym, ap, ◌∙◌, subst, arith, Option, Some, None}
use Rattle.std.proofs.lemmas.List.{length-replicate, map-append, take_more, take-append-drop}
use Rattle.bank_core.specs.declared.bank.Fault.{Fault}
use Rattle.bank_core.specs.Asks.{Writes}
use Rattle.bank_core.specs.Disk.{sector_size, sectors_in}
use Rattle.mp_base.specs.Block.{zeros}
use Rattle.label_store.specs.Layout.{labels_of}
use Rattle.bank_core.specs.BankView.{BankView}
use Rattle.bank_core.specs.Parts.{Part}
use Rattle.bank_core.proofs.Framing.{part_more, part_stop}
use Rattle.label_store.specs.Plans.{label_writes, ring_plan, blank_uberblock, zero_ring}
use Rattle.mp_base.specs.declared.number.Guid.{Guid}

pub length-ring : length zero_ring ≡ 131072
unfolding zero_ring zeros
length-ring = length-replicate {A = ℕ} 131072 0

-- the writes into the first labels, and one more
pub writes_more : (dev : ℕ) (labels : List ℕ) (offset : ℕ) (bytes : List ℕ) (i : ℕ) → i < length labels
    → label_writes dev (take (i + 1) labels) offset bytes ≡ label_writes dev (take i labels) offset bytes ++ Writes dev (get_or labels i 0 + offset) bytes ∷ []
writes_more dev labels offset bytes i lt =
    ap (λ l. label_writes dev l offset bytes) (take_more labels i 0 lt) ∙ map-append (λ at. Writes dev (at + offset) bytes) (take i labels) (get_or labels i 0 ∷ [])

writes_split : (dev : ℕ) (labels : List ℕ) (offset : ℕ) (bytes : List ℕ) (n : ℕ)
    → label_writes dev (take n labels) offset bytes ++ label_writes dev (drop n labels) offset bytes ≡ label_writes dev labels offset bytes
writes_split dev labels offset bytes n =
    sym (map-append (λ at. Writes dev (at + offset) bytes) (take n labels) (drop n labels)) ∙ ap (λ l. label_writes dev l offset bytes) (take-append-drop n labels)

pub one_more : {old mid new : BankView} {outcome : Option Fault} (dev : ℕ) (labels : List ℕ) (offset : ℕ) (bytes : List ℕ) (i : ℕ) → i < length labels
    → Part dev (label_writes dev (take i labels) offset bytes) old mid None
    → Part dev (Writes dev (get_or labels i 0 + offset) bytes ∷ []) mid new outcome
    → Part dev (label_writes dev (take (i + 1) labels) offset bytes) old new outcome
one_more dev labels offset bytes i lt a b = rw (writes_more dev labels offset bytes i lt) (part_more a b)

-- it stops there, whatever is behind it
pub stops_there : {old new : BankView} {fault : Fault} (dev : ℕ) (labels : List ℕ) (offset : ℕ) (bytes : List ℕ) (n : ℕ)
    → Part dev (label_writes dev (take n labels) offset bytes) old new (Some fault) → Part dev (label_writes dev labels offset bytes) old new (Some fault)
stops_there {old} {new} {fault} dev labels offset bytes n a =
    subst (λ asks. Part dev asks old new (Some fault)) (writes_split dev labels offset bytes n) (part_stop (label_writes dev (drop n labels) offset bytes) a)

-- a place in each label lies inside the device
pub label_room : (size room : ℕ) (k : ℕ) → 320 ≤ size → room ≤ 64 → get_or (labels_of size) k 0 + room ≤ size
label_room size room zero big small = omega arith
label_room size room (suc zero) big small = omega arith
label_room size room (suc (suc zero)) big small = omega arith
label_room size room (suc (suc (suc zero))) big small = omega arith
label_room size room (suc (suc (suc (suc k)))) big small = omega arith

pub labels_inside : (labels : List ℕ) (sectors size offset : ℕ) (bytes : List ℕ) (n : ℕ) → labels ≡ labels_of sectors → sectors ≡ size → 320 ≤ size
    → sectors_in bytes ≡ n → offset + n ≤ 64 → (k : ℕ) → k < length labels → get_or labels k 0 + offset + sectors_in bytes ≤ size
labels_inside labels sectors size offset bytes n are is big count small k lt =
    let room : get_or (labels_of size) k 0 + (offset + n) ≤ size = label_room size (offset + n) k big small in
    let same : get_or labels k 0 ≡ get_or (labels_of size) k 0 = ap (λ l. get_or l k 0) (are ∙ ap labels_of is) in
    let fill : sectors_in bytes ≡ n = count in
    rw fill (omega arith)

-- the writes as a plan has them
pub writes_as : {old new : BankView} {outcome : Option Fault} (dev : ℕ) (labels labels' : List ℕ) (offset : ℕ) (bytes bytes' : List ℕ)
    → labels ≡ labels' → bytes ≡ bytes' → Part dev (label_writes dev labels offset bytes) old new outcome
    → Part dev (label_writes dev labels' offset bytes') old new outcome
writes_as {old} {new} {outcome} dev labels labels' offset bytes bytes' are is part =
    subst (λ asks. Part dev asks old new outcome)
    (ap (λ l. label_writes dev l offset bytes) are ∙ ap (λ b. label_writes dev labels' offset b) is) part

pub ring_whole : (ring : List ℕ) → ring ≡ zero_ring → length ring % sector_size ≡ 0
unfolding sector_size
ring_whole ring is = rw (ap length is, length-ring) refl

pub ring_sectors : (ring : List ℕ) → ring ≡ zero_ring → sectors_in ring ≡ 32
unfolding sector_size
ring_sectors ring is = rw (ap length is, length-ring) refl

-- the uberblock of a stamp, with zeros written out, on a device whose size was named otherwise
pub blank_plan : {old new : BankView} {outcome : Option Fault} (dev size size' : ℕ) (pool member : Guid) → size' ≡ size
    → Part dev (ring_plan dev size' (record { pool = pool; member = member; number = record { 0 = 0 }; length = 0; sum = replicate 32 0 })) old new outcome
    → Part dev (ring_plan dev size (blank_uberblock pool member)) old new outcome
unfolding zeros
blank_plan {old} {new} {outcome} dev size size' pool member same part =
    subst (λ n. Part dev (ring_plan dev n (blank_uberblock pool member)) old new outcome) same part
