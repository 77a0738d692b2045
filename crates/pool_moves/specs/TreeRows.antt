-- `attach`, `replace` and `detach` as rows.
use Rattle.std.specs.Prelude.{◌≡◌, ◌⊎◌, ℕ, suc, ◌+◌, ◌≤◌, ◌^◌, ◌==◌, nat_le, nat_lt, Bool, true, false, cond, Option, Some, None, List, [], ◌∷◌, ◌++◌, length, slice_get}
use Rattle.std.specs.List.{AllByRecursion, list_any}
use Rattle.std.specs.Str.{bytes_eq}
use Rattle.mp_base.specs.declared.number.Guid.{Guid}
use Rattle.mp_base.specs.declared.refusal.PlaceRule.{PlaceRule}
use Rattle.mp_base.specs.declared.refusal.PlaceRule.TheVariants.{Role, Spare}
use Rattle.bank_core.specs.declared.bank.Fault.{Fault}
use Rattle.bank_core.specs.Asks.{Ask, IsPart}
use Rattle.bank_core.specs.Disk.{Noted}
use Rattle.label_store.specs.Plans.{stamp_plan, wipe_plan, mark_plan}
use Rattle.vdev_tree.specs.declared.vdev.State.{State}
use Rattle.vdev_tree.specs.declared.vdev.State.TheVariants.{Online, Offline, Unavail}
use Rattle.txg_history.specs.Pages.{Codec}
use Rattle.pool_moves.specs.AwayRows.{LeastOut, IsRequired, siblings, leaf_named, is_listed, is_spare}
use Rattle.pool_moves.specs.FreezeRow.{is_dev}
use Rattle.pool_moves.specs.Leaves.{OwnLeaf, LeafSeen, Seat}
use Rattle.pool_moves.specs.LineRows.{TurnReply, Committed, Suspended, CommitsOpen}
use Rattle.pool_moves.specs.Moves.{Move, Lose, Comes, Goes, Returns, Rest, Shapes, steps}
use Rattle.pool_moves.specs.Refusing.{FreezeRefusal, IsRefused}
use Rattle.pool_moves.specs.ScanRows.{starts_scan}
use Rattle.pool_moves.specs.States.{PoolState, Side}
use Rattle.pool_moves.specs.Trees.{Child, has_child, has_replaceable, attached, replaced, pruned}
use Rattle.pool_moves.specs.Walking.{as_moves}
use Rattle.pool_moves.specs.Widening.{AreWidens}

-- where a leaf is put in: as the last child of a mirror, or beside the leaf that it takes over from
pub data Graft : Type 0 where
  Attach : Graft
  Replace : Graft

-- Why a line that changes a tree is refused by the tree alone: no leaf has the name; the leaf stands elsewhere, or the name is a
-- listed spare's; or a limit would be passed.
pub data TreeRefusal : Type 0 where
  NoVdev : TreeRefusal
  Misplaced : (rule : PlaceRule) → TreeRefusal
  LimitPassed : (limit count : ℕ) → TreeRefusal

abbrev pub unnamed : (listed : Bool) → TreeRefusal
unnamed true = Misplaced Spare
unnamed false = NoVdev

-- the leaf stands where the other one may be put in
abbrev pub has_place : Graft → Guid → List Child → Bool
has_place Attach m children = has_child m children
has_place Replace m children = has_replaceable m children

abbrev pub limit_if : Bool → (limit count : ℕ) → Option TreeRefusal → Option TreeRefusal
limit_if true limit count rest = Some (LimitPassed limit count)
limit_if false limit count rest = rest

-- Member numbers are below 2^62, and a new leaf asks for two of them.
abbrev pub last_member : ℕ
last_member = 2 ^ 62

abbrev pub numbers_limit : (next : ℕ) → Option TreeRefusal
numbers_limit next = limit_if (nat_le last_member next) last_member next (limit_if (nat_le last_member (next + 1)) last_member (next + 1) None)

abbrev pub leaves_limit : (leaves next : ℕ) → Option TreeRefusal
leaves_limit leaves next = limit_if (nat_le 32 leaves) 32 (leaves + 1) (numbers_limit next)

abbrev pub limits_of : Graft → (children leaves next : ℕ) → Option TreeRefusal
limits_of Attach children leaves next = limit_if (nat_le 8 children) 8 (children + 1) (leaves_limit leaves next)
limits_of Replace children leaves next = leaves_limit leaves next

abbrev pub graft_limits : Graft → PoolState → (top : ℕ) → Option TreeRefusal
graft_limits graft s top = limits_of graft (length (s.own.children top)) (length s.core.leaves) s.own.next_member

-- what the tree refuses the line for, if anything: first the name, then its place, then limits of children, leaves and numbers
abbrev pub refusal_at : (placed : Bool) → Option TreeRefusal → Option TreeRefusal
refusal_at true limits = limits
refusal_at false limits = Some (Misplaced Role)

abbrev pub graft_refusal : Graft → PoolState → (name : List ℕ) → Option LeafSeen → Option TreeRefusal
graft_refusal graft s name None = Some (unnamed (is_listed name s))
graft_refusal graft s name (Some leaf) = refusal_at (has_place graft leaf.guid (s.own.children leaf.top)) (graft_limits graft s leaf.top)

-- The number of the new leaf. A replacing vdev gets the number before it.
abbrev pub numbered : ℕ → Guid
numbered n = record { 0 = n }

abbrev pub new_number : Graft → PoolState → Guid
new_number Attach s = numbered s.own.next_member
new_number Replace s = numbered (s.own.next_member + 1)

-- the tree with it
abbrev pub grafted : Graft → PoolState → LeafSeen → List Child
grafted Attach s leaf = attached (new_number Attach s) (s.own.children leaf.top)
grafted Replace s leaf = replaced leaf.guid (numbered s.own.next_member) (new_number Replace s) (s.own.children leaf.top)

-- the place of the first leaf that passes a test, and the place behind the last leaf of a top
abbrev pub place_where : (LeafSeen → Bool) → List LeafSeen → ℕ
place_where test [] = 0
place_where test (leaf ∷ leaves) = cond (test leaf) 0 (suc (place_where test leaves))

abbrev pub place_named : (name : List ℕ) → List LeafSeen → ℕ
place_named name leaves = place_where (λ leaf. bytes_eq leaf.own.name name) leaves

abbrev pub behind_top : (top : ℕ) → List LeafSeen → ℕ
behind_top top [] = 0
behind_top top (leaf ∷ leaves) = cond (list_any (λ other. other.top == top) leaves) (suc (behind_top top leaves)) (cond (leaf.top == top) 1 0)

abbrev pub new_place : Graft → (name : List ℕ) → (top : ℕ) → List LeafSeen → ℕ
new_place Attach name top leaves = behind_top top leaves
new_place Replace name top leaves = suc (place_named name leaves)

-- the new leaf: one that takes over is marked to come back
abbrev pub takes_over : Graft → Bool
takes_over Attach = false
takes_over Replace = true

abbrev pub new_own : Graft → (new : List ℕ) → OwnLeaf
new_own graft new = record {
  name = new;
  mode = Online;
  temporary = false;
  marked = takes_over graft;
  counts = record { reads = 0; writes = 0; mismatches = 0 };
  joined = false;
  faults = 0;
}

pub data GraftReply : Type 0 where
  Grafted : GraftReply
  GraftRefused : (refusal : TreeRefusal) → GraftReply
  TooSmall : (need has : ℕ) → GraftReply
  DeviceFault : GraftReply

-- behind the stamp's calls: the running scan ends, the leaf comes in, and a resilver starts
abbrev pub comes_in : Graft → PoolState → (name : List ℕ) → LeafSeen → (new : List ℕ) → (d : ℕ) → List Move
comes_in graft s name leaf new d = Rest ∷ (Comes (new_place graft name leaf.top s.core.leaves) d (new_number graft s) leaf.top (new_own graft new)
    ∷ (Shapes leaf.top (grafted graft s leaf) ∷ []))

abbrev pub graft_first : Graft → PoolState → (name : List ℕ) → LeafSeen → (new : List ℕ) → (d : ℕ) → List Noted → List Move
graft_first graft s name leaf new d made = Lose d ∷ (as_moves made ++ comes_in graft s name leaf new d)

abbrev pub graft_moves : Graft → PoolState → (name : List ℕ) → LeafSeen → (new : List ℕ) → (d : ℕ) → List Noted → List Move
graft_moves graft s name leaf new d made =
    graft_first graft s name leaf new d made ++ (starts_scan (steps (graft_first graft s name leaf new d made) s) ∷ [])

-- and logs are widened
pub record GraftComes (graft : Graft) (s : PoolState) (name : List ℕ) (leaf : LeafSeen) (new : List ℕ) (d : ℕ) (made : List Noted) (vs : List Move) : Type 0 where
  pub widens : List Move
  pub are : AreWidens (steps (graft_moves graft s name leaf new d made) s).core widens
  pub moves : vs ≡ graft_moves graft s name leaf new d made ++ widens

abbrev pub GraftEnds : Option Fault → Graft → PoolState → (name : List ℕ) → LeafSeen → (new : List ℕ) → (d : ℕ) → List Noted → List Move → GraftReply → Type 0
GraftEnds (Some fault) graft s name leaf new d made vs reply = (vs ≡ Lose d ∷ as_moves made) × (reply ≡ DeviceFault)
GraftEnds None graft s name leaf new d made vs reply = GraftComes graft s name leaf new d made vs × (reply ≡ Grafted)

-- The new leaf's device, on which no leaf is, is stamped. Where no call fails the leaf comes in.
pub record IsStamped (size : ℕ → ℕ) (graft : Graft) (s : PoolState) (name : List ℕ) (leaf : LeafSeen) (new : List ℕ) (d : ℕ) (vs : List Move)
    (reply : GraftReply) : Type 0 where
  pub opened : s.core.opened ≡ true
  pub elsewhere : AllByRecursion (λ leaf. is_dev d leaf.dev ≡ false) s.core.leaves
  pub big : 320 ≤ size d
  pub made : List Noted
  pub outcome : Option Fault
  pub calls : IsPart (stamp_plan d (size d) s.core.pool (new_number graft s)) made outcome
  pub ends : GraftEnds outcome graft s name leaf new d made vs reply

-- by whether the device is too small for the top
abbrev pub GraftOn : (small : Bool) → (size : ℕ → ℕ) → Graft → PoolState → (name : List ℕ) → LeafSeen → (new : List ℕ) → (d : ℕ) → List Move → GraftReply
    → Type 0
GraftOn true size graft s name leaf new d vs reply = (vs ≡ []) × (reply ≡ TooSmall (s.core.room leaf.top + 256) (size d))
GraftOn false size graft s name leaf new d vs reply = IsStamped size graft s name leaf new d vs reply

abbrev pub GraftAt : Option LeafSeen → (size : ℕ → ℕ) → Graft → PoolState → (name new : List ℕ) → (d : ℕ) → List Move → GraftReply → Type 0
GraftAt None size graft s name new d vs reply = ⊥
GraftAt (Some leaf) size graft s name new d vs reply = GraftOn (nat_lt (size d) (s.core.room leaf.top + 256)) size graft s name leaf new d vs reply

abbrev pub GraftFor : Option TreeRefusal → (size : ℕ → ℕ) → Graft → PoolState → (name new : List ℕ) → (d : ℕ) → List Move → GraftReply → Type 0
GraftFor (Some refusal) size graft s name new d vs reply = (vs ≡ []) × (reply ≡ GraftRefused refusal)
GraftFor None size graft s name new d vs reply = GraftAt (leaf_named name s.core.leaves) size graft s name new d vs reply

-- `attach` and `replace`, where the host has the new leaf's device under this number and nothing else has it
abbrev pub RowGraft : (size : ℕ → ℕ) → Graft → PoolState → (name new : List ℕ) → (d : ℕ) → List Move → GraftReply → Type 0
RowGraft size graft s name new d vs reply = GraftFor (graft_refusal graft s name (leaf_named name s.core.leaves)) size graft s name new d vs reply

-- `detach`.
pub data DetachReply : Type 0 where
  Detached : (number : ℕ) → DetachReply
  DetachRefused : (refusal : TreeRefusal) → DetachReply
  InFlight : (group : ℕ) → DetachReply
  Required : (group : ℕ) → DetachReply
  Unfrozen : (refusal : FreezeRefusal) → DetachReply
  Undone : (group : ℕ) (top : Guid) (faults : ℕ) → DetachReply

-- the leaf goes out of the list and of the tree, and comes back
abbrev pub goes_out : PoolState → (name : List ℕ) → LeafSeen → List Move
goes_out s name leaf = Goes (place_named name s.core.leaves) ∷ (Shapes leaf.top (pruned leaf.guid (s.own.children leaf.top)) ∷ [])

abbrev pub comes_back : PoolState → (name : List ℕ) → LeafSeen → Seat → List Move
comes_back s name leaf seat = Returns (place_named name s.core.leaves) seat leaf ∷ (Shapes leaf.top (s.own.children leaf.top) ∷ [])

-- a leaf that isn't there is not written to
abbrev pub is_there : State → Bool
is_there Offline = false
is_there Unavail = false
is_there mode = true

-- a spare leaf's device is marked, any other one is wiped
abbrev pub clean_plan : (spare : Bool) → (d size : ℕ) → List Ask
clean_plan true d size = mark_plan d size
clean_plan false d size = wipe_plan d size

abbrev pub IsCleaned : (there : Bool) → Option ℕ → (spare : Bool) → (size : ℕ → ℕ) → List Move → Type 0
IsCleaned true (Some d) spare size vs =
    (made : List Noted) × (outcome : Option Fault) × IsPart (clean_plan spare d (size d)) made outcome × (vs ≡ Lose d ∷ as_moves made)
IsCleaned true None spare size vs = vs ≡ []
IsCleaned false dev spare size vs = vs ≡ []

-- behind the commit: it was acknowledged, and the device is cleaned; or its group was suspended, and the leaf is back as it was
abbrev pub DetachBehind : TurnReply → (size : ℕ → ℕ) → PoolState → (name : List ℕ) → LeafSeen → Seat → List Move → DetachReply → Type 0
DetachBehind (Committed number) size s name leaf seat vs reply =
    IsCleaned (is_there leaf.own.mode) leaf.dev (is_spare s leaf) size vs × (reply ≡ Detached number)
DetachBehind (Suspended group top faults) size s name leaf seat vs reply = (vs ≡ comes_back s name leaf seat) × (reply ≡ Undone group top faults)
DetachBehind turn size s name leaf seat vs reply = ⊥

-- the leaf goes, and the pool commits without it
pub record CommitsWithout (c : Codec) (size : ℕ → ℕ) (s : PoolState) (name : List ℕ) (leaf : LeafSeen) (seat : Seat) (vs : List Move)
    (reply : DetachReply) : Type 0 where
  pub part : List Move
  pub turn : TurnReply
  pub commit : CommitsOpen c size (steps (goes_out s name leaf) s) part turn
  pub rest : List Move
  pub behind : DetachBehind turn size s name leaf seat rest reply
  pub moves : vs ≡ goes_out s name leaf ++ (part ++ rest)

abbrev pub DetachFor : Option FreezeRefusal → Codec → (size : ℕ → ℕ) → PoolState → (name : List ℕ) → LeafSeen → Seat → List Move → DetachReply → Type 0
DetachFor (Some refusal) c size s name leaf seat vs reply = (vs ≡ []) × (reply ≡ Unfrozen refusal)
DetachFor None c size s name leaf seat vs reply = CommitsWithout c size s name leaf seat vs reply

-- A leaf without which some group could be read from no leaf of its top is required, for the least such group.
abbrev pub DetachLeaf : (frozen : Bool) → Codec → (size : ℕ → ℕ) → PoolState → (name : List ℕ) → LeafSeen → Seat → List Move → DetachReply → Type 0
DetachLeaf true c size s name leaf seat vs reply = (vs ≡ []) × (reply ≡ InFlight s.core.group.first)
DetachLeaf false c size s name leaf seat vs reply =
    ((group : ℕ) × LeastOut (siblings leaf s.core.leaves) group × (vs ≡ []) × (reply ≡ Required group))
    ⊎ (¬ (IsRequired leaf s.core.leaves) × ((refusal : Option FreezeRefusal) × IsRefused (steps (goes_out s name leaf) s) refusal
    × DetachFor refusal c size s name leaf seat vs reply))

abbrev pub DetachBy : Option LeafSeen → Codec → (size : ℕ → ℕ) → PoolState → (name : List ℕ) → Seat → List Move → DetachReply → Type 0
DetachBy None c size s name seat vs reply = (vs ≡ []) × (reply ≡ DetachRefused (unnamed (is_listed name s)))
DetachBy (Some leaf) c size s name seat vs reply = DetachLeaf s.core.group.frozen c size s name leaf seat vs reply

-- `detach`, where the history has the leaf at this seat, which no code knows: the row is one for each seat
abbrev pub RowDetach : Codec → (size : ℕ → ℕ) → PoolState → (name : List ℕ) → Seat → List Move → DetachReply → Type 0
RowDetach c size s name seat vs reply = DetachBy (leaf_named name s.core.leaves) c size s name seat vs reply

-- where the list has a leaf of this name, the history has it at this seat
abbrev pub IsSeatOf : PoolState → Side → (name : List ℕ) → Seat → Type 0
IsSeatOf s t name seat = (leaf : LeafSeen) → leaf_named name s.core.leaves ≡ Some leaf → slice_get t.seats (place_named name s.core.leaves) ≡ Some seat
