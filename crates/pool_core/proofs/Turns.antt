-- One call for each member of a board, in order, up to the first that fails.
use Rattle.std.proofs.Common.{◌≡◌, ℕ, ◌+◌, ◌<◌, ◌≤◌, List, [], ◌∷◌, map, length, take, drop, get_or, Option, Some, None, sym, ap, ◌∙◌, subst, arith}
use Rattle.std.proofs.lemmas.List.{map-append, take_more, take-append-drop}
use Rattle.std.proofs.lemmas.Option.{slice_get-get_or}
use Rattle.bank_core.specs.declared.bank.Fault.{Fault}
use Rattle.bank_core.specs.Asks.{Ask}
use Rattle.bank_core.specs.Disk.{sectors_in}
use Rattle.bank_core.specs.Parts.{MakesPart}
use Rattle.bank_core.specs.Story.{Story}
use Rattle.bank_core.proofs.Blocks.{block_inside}
use Rattle.bank_core.proofs.Parting.{part_more, part_stop}
use Rattle.label_store.specs.declared.member.Member.{Member}
use Rattle.pool_core.specs.Seating.{HasRoomFor}

-- what stands past a board's end
abbrev pub nobody : Member
nobody = record { dev = 0; guid = record { 0 = 0 } }

-- one turn more, of the board as it is shown
pub one_turn : {old mid new : Option Story} {f g h : ℕ → ℕ} {outcome : Option Fault} (plan : Member → Ask) (shown members : List Member) (i : ℕ) → shown ≡ members
    → i < length shown → MakesPart (map plan (take i members)) old mid f g None → MakesPart (plan (get_or shown i nobody) ∷ []) mid new g h outcome
    → MakesPart (map plan (take (i + 1) members)) old new f h outcome
one_turn {old} {mid} {new} {f} {g} {h} {outcome} plan shown members i is inside before turn =
    let more = ap (map plan) (take_more shown i nobody inside) ∙ map-append plan (take i shown) (get_or shown i nobody ∷ []) in
    let before' = subst (λ some. MakesPart (map plan (take i some)) old mid f g None) (sym is) before in
    subst (λ some. MakesPart (map plan (take (i + 1) some)) old new f h outcome) is
    (subst (λ asks. MakesPart asks old new f h outcome) (sym more) (part_more before' turn))

-- a turn that failed ends them
pub turn_stops : {old new : Option Story} {f g : ℕ → ℕ} {fault : Fault} (plan : Member → Ask) (members : List Member) (n : ℕ)
    → MakesPart (map plan (take n members)) old new f g (Some fault) → MakesPart (map plan members) old new f g (Some fault)
turn_stops {old} {new} {f} {g} {fault} plan members n part =
    let all = sym (map-append plan (take n members) (drop n members)) ∙ ap (map plan) (take-append-drop n members) in
    subst (λ asks. MakesPart asks old new f g (Some fault)) all (part_stop (map plan (drop n members)) part)

-- the room of a member, on a bank whose sizes stayed
pub turn_room : (size size' : ℕ → ℕ) (shown members : List Member) (sector i : ℕ) → shown ≡ members → HasRoomFor size members sector
    → ((dev : ℕ) → size' dev ≡ size dev) → i < length shown → sector < size' (get_or shown i nobody).dev
turn_room size size' shown members sector i is room same inside =
    let there = subst (λ some. HasRoomFor size some sector) (sym is) room in
    omega (arith, there i (get_or shown i nobody) (slice_get-get_or shown i nobody inside), same (get_or shown i nobody).dev)

-- a block there is inside
pub block_room : (size size' : ℕ → ℕ) (shown members : List Member) (sector i : ℕ) (block : List ℕ) → shown ≡ members → length block ≡ 4096
    → HasRoomFor size members sector → ((dev : ℕ) → size' dev ≡ size dev) → i < length shown → sector + sectors_in block ≤ size' (get_or shown i nobody).dev
block_room size size' shown members sector i block is whole room same inside =
    block_inside block sector (size' (get_or shown i nobody).dev) whole (turn_room size size' shown members sector i is room same inside)
