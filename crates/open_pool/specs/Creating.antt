-- A pool that a create makes: its tops in memory, the group of its first commit, the stamps of its members, and what is answered.
use Rattle.std.specs.Prelude.{◌≡◌, ◌≢◌, ◌+◌, ◌-◌, ◌≤◌, ℕ, suc, List, [], ◌∷◌, ◌++◌, map, length, All, AllPairs, Option, Some, None, Result, Ok, Err, true, false, cond, slice_get, IsTrue}
use Rattle.std.specs.Global.{Vec}
use Rattle.std.specs.List.{flat_map}
use Rattle.mp_base.specs.Name.{is_name}
use Rattle.mp_base.specs.declared.number.Guid.{Guid}
use Rattle.group_set.specs.Groups.{holds}
use Rattle.bank_core.specs.BankView.{BankView}
use Rattle.bank_core.specs.Calls.{Makes}
use Rattle.block_map.specs.Map.{IsEmpty}
use Rattle.vdev_tree.specs.Tree.{leaves, is_top}
use Rattle.vdev_tree.specs.declared.top.Top.{Top}
use Rattle.vdev_tree.specs.declared.vdev.Kind.TheVariants.{Mirror}
use Rattle.vdev_tree.specs.declared.vdev.LeafVdev.{LeafVdev}
use Rattle.vdev_tree.specs.declared.vdev.State.TheVariants.{Online}
use Rattle.vdev_tree.specs.declared.vdev.Vdev.{Vdev}
use Rattle.dtl_rules.specs.Widening.{sectors_of}
use Rattle.pool_config.specs.Seen.{leaf_vdev, inner_vdev, leaf_seen, vdevs_of}
use Rattle.pool_codec.specs.Codecs.{pool_codec}
use Rattle.pool_moves.specs.Moves.{Move, steps}
use Rattle.pool_moves.specs.Opened.{no_counts}
use Rattle.pool_moves.specs.ReadRow.{made_in}
use Rattle.pool_moves.specs.StampRow.{NewMember, NewLeaf, Stamp, AreStamps, calls_of_stamps, CreateReply, Created, FaultOn, IsNew, RowCreate, least_with, new_leaves, new_state, next_from}
use Rattle.pool_moves.specs.States.{PoolState}
use Rattle.txg_engine.specs.declared.seat.Seat.{Seat}
use Rattle.open_pool.specs.declared.create.Begun.{Begun}
use Rattle.open_pool.specs.declared.create.CreateFault.{CreateFault}
use Rattle.open_pool.specs.declared.create.CreateFault.TheVariants as fault
use Rattle.open_pool.specs.declared.new_tops.NewLeaf as asked
use Rattle.open_pool.specs.Freezing.{FreezeParts, FreezesParts, group_at}
use Rattle.open_pool.specs.Parts.{PoolParts}
use Rattle.open_pool.specs.State.{Stands}

-- what is asked for, as the row has it
abbrev pub member_of : asked.NewLeaf → NewMember
member_of leaf = record { name = leaf.name; dev = leaf.dev }

abbrev pub members_in : List asked.NewLeaf → List NewMember
members_in leaves = map member_of leaves

abbrev pub members_of : List (Vec asked.NewLeaf) → List (List NewMember)
members_of tops = map (λ leaves. members_in leaves.items) tops

-- The leaves' names differ, and no device has more sectors than are used of one.
pub record IsAsked (size : ℕ → ℕ) (blocks : ℕ) (tops : List (List NewMember)) : Type 0 where
  pub is_new : IsNew size blocks tops
  pub some : 1 ≤ length tops
  pub names : AllPairs (λ (a b : NewLeaf). a.name ≢ b.name) (new_leaves tops)
  pub short : All (λ (leaf : NewLeaf). size leaf.dev ≤ 1048576) (new_leaves tops)

-- A leaf in memory is a new one: it is ONLINE on its device, and neither owes nor has settled anything.
pub record IsMade (guid : Guid) (member : NewMember) (leaf : LeafVdev) : Type 0 where
  pub guid_is : leaf.guid ≡ guid
  pub name : leaf.name ≡ member.name
  pub dev : leaf.dev ≡ Some member.dev
  pub state : leaf.state ≡ Online
  pub log : (g : ℕ) → holds leaf.log g ≡ false
  pub settled : (g : ℕ) → holds leaf.settled g ≡ false
  pub marked : leaf.marked ≡ false
  pub temporary : leaf.temporary ≡ false
  pub counts : leaf.counts ≡ no_counts
  pub named : IsTrue (is_name leaf.name)

-- so these, numbered from here on
abbrev pub AreMade : (next : ℕ) → List NewMember → List LeafVdev → Type 0
AreMade next [] [] = Unit {0}
AreMade next (member ∷ members) (leaf ∷ leaves) = IsMade (record { 0 = next }) member leaf × AreMade (suc next) members leaves
AreMade next [] (leaf ∷ leaves) = ⊥
AreMade next (member ∷ members) [] = ⊥

-- A mirror over them, which has the number before theirs.
pub record IsMirror (next : ℕ) (members : List NewMember) (mirror : Vdev) : Type 0 where
  pub made : AreMade (suc next) members (leaves mirror)
  pub vdevs : vdevs_of mirror ≡ inner_vdev (record { 0 = next }) Mirror (length members) ∷ map leaf_vdev (map leaf_seen (leaves mirror))
  pub valid : is_top mirror ≡ true

-- as many data sectors as the smallest of these has
abbrev pub least_room : (size : ℕ → ℕ) → List NewMember → Option ℕ
least_room size [] = None
least_room size (member ∷ members) = Some (least_with (size member.dev - 256) (least_room size members))

pub record IsNewTop (size : ℕ → ℕ) (next : ℕ) (members : List NewMember) (top : Top) : Type 0 where
  pub mirror : IsMirror next members top.mirror
  pub sectors : least_room size members ≡ Some top.sectors

-- The tops of a new pool, numbered from here on.
abbrev pub AreNewTops : (size : ℕ → ℕ) → (next : ℕ) → List (List NewMember) → List Top → Type 0
AreNewTops size next [] [] = Unit {0}
AreNewTops size next (members ∷ asked) (top ∷ tops) =
    IsNewTop size next members top × AreNewTops size (suc next + length members) asked tops
AreNewTops size next [] (top ∷ tops) = ⊥
AreNewTops size next (members ∷ asked) [] = ⊥

-- A pool that is to be stamped and committed: over new tops and an empty map a group without keys is frozen under number 1.
pub record IsBegun (size : ℕ → ℕ) (name : List ℕ) (blocks : ℕ) (asked : List (List NewMember)) (begun : Begun) : Type 0 where
  pub was : FreezeParts
  pub tops : AreNewTops size 1 asked was.trees
  pub map : IsEmpty blocks (sectors_of was.trees) was.map
  pub unwritten : was.unfrozen.writes ≡ []
  pub unpinned : was.pins.places ≡ []
  pub freezes : FreezesParts (group_at 1) was (record {
    unfrozen = begun.unfrozen;
    map = begun.map;
    pins = begun.pins;
    trees = begun.tops.items;
  }) begun.frozen
  pub name_is : begun.name ≡ name
  pub next : begun.next ≡ next_from 1 asked
  pub part : length begun.config.items ≡ 114688

-- so for some request
pub record MayCommit (size : ℕ → ℕ) (blocks : ℕ) (begun : Begun) : Type 0 where
  pub asked : List (List NewMember)
  pub is : IsAsked size blocks asked
  pub begins : IsBegun size begun.name blocks asked begun

-- a seat is that of a new leaf
pub record IsSeatOf (leaf : NewLeaf) (seat : Seat) : Type 0 where
  pub dev : seat.member.dev ≡ leaf.dev
  pub guid : seat.member.guid ≡ leaf.guid
  pub on : seat.on ≡ true

abbrev pub AreSeatsOf : List NewLeaf → List Seat → Type 0
AreSeatsOf [] [] = Unit {0}
AreSeatsOf (leaf ∷ leaves) (seat ∷ seats) = IsSeatOf leaf seat × AreSeatsOf leaves seats
AreSeatsOf [] (seat ∷ seats) = ⊥
AreSeatsOf (leaf ∷ leaves) [] = ⊥

-- the place of the first seat that is off the board, and their number where there is none
abbrev pub first_off : List Seat → ℕ
first_off [] = 0
first_off (seat ∷ seats) = cond seat.on (suc (first_off seats)) 0

-- The stamps of these leaves, by just these calls: of all, or up to the one at this place, whose stamp failed.
pub record Stamps (pool : Guid) (leaves : List NewLeaf) (failed : Option NewLeaf) (old new : BankView) : Type 0 where
  pub stamps : List Stamp
  pub are : AreStamps old.size pool leaves stamps failed
  pub calls : Makes (calls_of_stamps stamps) old new

abbrev pub StampsTo : (pool : Guid) → List NewLeaf → Result (Unit {0}) ℕ → (old new : BankView) → Type 0
StampsTo pool leaves (Ok done) old new = Stamps pool leaves None old new
StampsTo pool leaves (Err place) old new =
    (leaf : NewLeaf) × (slice_get leaves place ≡ Some leaf) × Stamps pool leaves (Some leaf) old new

abbrev pub StampsSeats : (pool : Guid) → List Seat → Result (Unit {0}) ℕ → (old new : BankView) → Type 0
StampsSeats pool seats result old new = (leaves : List NewLeaf) → AreSeatsOf leaves seats → StampsTo pool leaves result old new

-- the names that are asked for, in tree order
abbrev pub names_in : List asked.NewLeaf → List (List ℕ)
names_in leaves = map (λ leaf. leaf.name) leaves

abbrev pub names_of : List (Vec asked.NewLeaf) → List (List ℕ)
names_of tops = flat_map (λ leaves. names_in leaves.items) tops

-- It does what its row says: the stamps, and then the first commit; and what it answers is the row's reply, behind these moves.
pub record CreatesAs (name : List ℕ) (pool : Guid) (blocks : ℕ) (asked : List (List NewMember)) (answers : CreateReply → PoolState → Type 0)
    (old new : BankView) : Type 0 where
  pub stamps : List Stamp
  pub moves : List Move
  pub reply : CreateReply
  pub row : RowCreate pool_codec old.size name pool blocks asked stamps moves reply
  pub calls : Makes (calls_of_stamps stamps ++ made_in moves) old new
  pub says_so : answers reply (steps moves (new_state old.size name pool blocks asked))

-- What a create answers: the pool that stands for this state, or the first device that failed, by the place of its leaf in tree order.
abbrev pub IsNamedAt : List NewLeaf → (name : List ℕ) → (place : ℕ) → Type 0
IsNamedAt leaves name place = (leaf : NewLeaf) × (slice_get leaves place ≡ Some leaf) × (leaf.name ≡ name)

abbrev pub IsCreatedAs : List NewLeaf → CreateReply → PoolState → Result PoolParts ℕ → Type 0
IsCreatedAs leaves Created s (Ok pool) = Stands pool s
IsCreatedAs leaves Created s (Err place) = ⊥
IsCreatedAs leaves (FaultOn name) s (Ok pool) = ⊥
IsCreatedAs leaves (FaultOn name) s (Err place) = IsNamedAt leaves name place

abbrev pub Creates : (name : List ℕ) → (pool : Guid) → (blocks : ℕ) → (asked : List (List NewMember)) → Result PoolParts ℕ → (old new : BankView) → Type 0
Creates name pool blocks asked result old new = CreatesAs name pool blocks asked (λ reply s. IsCreatedAs (new_leaves asked) reply s result) old new

-- or by its name
abbrev pub IsFaultOn : (name : List ℕ) → CreateReply → PoolState → Type 0
IsFaultOn name Created s = ⊥
IsFaultOn name (FaultOn other) s = other ≡ name

-- So it is, or there was no memory, and it made no call.
abbrev pub CreatesOrStops : (name : List ℕ) → (pool : Guid) → (blocks : ℕ) → List (List NewMember) → Result PoolParts CreateFault → (old new : BankView)
    → Type 0
CreatesOrStops name pool blocks asked (Ok made) old new = Creates name pool blocks asked (Ok made) old new
CreatesOrStops name pool blocks asked (Err (fault.Device device)) old new = CreatesAs name pool blocks asked (IsFaultOn device.now) old new
CreatesOrStops name pool blocks asked (Err fault.Memory) old new = new ≡ old
