-- `write` and `offline` as rows.
use Rattle.std.specs.Prelude.{◌≡◌, ◌⊎◌, ℕ, ◌<◌, ◌≤◌, ◌==◌, ◌&&◌, ◌||◌, nat_lt, Bool, true, false, not, Option, Some, None, List, [], ◌∷◌, ◌++◌}
use Rattle.std.specs.List.{find, filter, list_all, list_any}
use Rattle.std.specs.Str.{bytes_eq}
use Rattle.mp_base.specs.declared.refusal.PlaceRule.{PlaceRule}
use Rattle.mp_base.specs.declared.refusal.PlaceRule.TheVariants.{Spare}
use Rattle.vdev_tree.specs.Leaf.{is_up}
use Rattle.vdev_tree.specs.declared.vdev.State.{State}
use Rattle.vdev_tree.specs.declared.vdev.State.TheVariants.{Offline}
use Rattle.pool_moves.specs.Leaves.{OwnLeaf, LeafSeen}
use Rattle.pool_moves.specs.Moves.{Move, Puts, Leave, Drop, Sets, on_dev}
use Rattle.pool_moves.specs.Refusing.{count_below, keys_needed, written_with, dirty_with, CountsOpen}
use Rattle.pool_moves.specs.States.{ScanSeen, PoolSeen, PoolState}
use Rattle.pool_moves.specs.Widening.{IsWidened, seen_along}
use Rattle.pool_moves.specs.Trees.{is_spare_leaf}

-- What `write` answers.
pub data WriteReply : Type 0 where
  Taken : WriteReply
  BadAddress : (limit : ℕ) → WriteReply
  Full : WriteReply
  NoSpace : (need free : ℕ) → WriteReply

-- by whether the places that are open are too few for the open group with this block
abbrev pub WriteFits : (short : Bool) → (need free : ℕ) → (a : ℕ) → (block : List ℕ) → List Move → WriteReply → Type 0
WriteFits true need free a block vs reply = (vs ≡ []) × (reply ≡ NoSpace need free)
WriteFits false need free a block vs reply = (vs ≡ Puts a block ∷ []) × (reply ≡ Taken)

-- by whether the open and the frozen group would have more than 4,096 addresses with this one
abbrev pub WriteBy : (full : Bool) → PoolState → (a : ℕ) → (block : List ℕ) → List Move → WriteReply → Type 0
WriteBy true s a block vs reply = (vs ≡ []) × (reply ≡ Full)
WriteBy false s a block vs reply = (free : ℕ) × CountsOpen s.core free
    × WriteFits (nat_lt free (keys_needed s.own.blocks (written_with a s))) (keys_needed s.own.blocks (written_with a s)) free a block vs reply

-- `write`: a block below the volume's end is taken, where its groups have room for it and so have the tops.
abbrev pub RowWrite : PoolState → (a : ℕ) → (block : List ℕ) → List Move → WriteReply → Type 0
RowWrite s a block vs reply = ((s.own.blocks ≤ a) × (vs ≡ []) × (reply ≡ BadAddress s.own.blocks))
    ⊎ ((a < s.own.blocks) × WriteBy (nat_lt 4096 (count_below s.own.blocks (dirty_with a s))) s a block vs reply)

-- a group can't be read from a leaf: it isn't readable, or owes the group
abbrev pub is_out : (g : ℕ) → LeafSeen → Bool
is_out g leaf = not (is_up leaf.own.mode) || leaf.owes g

abbrev pub all_out : List LeafSeen → (g : ℕ) → Bool
all_out leaves g = list_all (is_out g) leaves

-- another leaf of the same top
abbrev pub is_sibling : LeafSeen → LeafSeen → Bool
is_sibling leaf other = (other.top == leaf.top) && not (other.guid.0 == leaf.guid.0)

abbrev pub siblings : LeafSeen → List LeafSeen → List LeafSeen
siblings leaf leaves = filter (is_sibling leaf) leaves

-- The group is the least, from 1 on, that can be read from none of these leaves.
pub record LeastOut (leaves : List LeafSeen) (group : ℕ) : Type 0 where
  pub first : 1 ≤ group
  pub out : all_out leaves group ≡ true
  pub least : (g : ℕ) → 1 ≤ g → g < group → all_out leaves g ≡ false

-- The outage rule: without the leaf some group could be read from no leaf of its top.
abbrev pub IsRequired : LeafSeen → List LeafSeen → Type 0
IsRequired leaf leaves = (group : ℕ) × (1 ≤ group) × (all_out (siblings leaf leaves) group ≡ true)

pub data OfflineReply : Type 0 where
  Gone : OfflineReply
  NoVdev : OfflineReply
  Misplaced : (rule : PlaceRule) → OfflineReply
  Required : (group : ℕ) → OfflineReply

-- the leaf of this name, and whether it names a listed spare
abbrev pub leaf_named : List ℕ → List LeafSeen → Option LeafSeen
leaf_named name leaves = find (λ leaf. bytes_eq leaf.own.name name) leaves

abbrev pub is_listed : List ℕ → PoolState → Bool
is_listed name s = list_any (λ spare. bytes_eq spare name) s.own.spares

-- it is a spare leaf of a spare vdev
abbrev pub is_spare : PoolState → LeafSeen → Bool
is_spare s leaf = is_spare_leaf leaf.guid (s.own.children leaf.top)

abbrev pub is_offline : State → Bool
is_offline Offline = true
is_offline mode = false

-- an eligible leaf is so no more, and one on the board leaves it, and logs are widened
abbrev pub drop_if : Bool → Option ℕ → List Move
drop_if true (Some d) = Drop d ∷ []
drop_if true None = []
drop_if false dev = []

abbrev pub drops_leaf : ScanSeen → LeafSeen → List Move
drops_leaf scan leaf = drop_if (on_dev scan.eligible leaf.dev) leaf.dev

abbrev pub LeaveIf : Bool → Option ℕ → PoolSeen → List Move → Type 0
LeaveIf true (Some d) s vs = IsWidened s (Leave d) vs
LeaveIf true None s vs = vs ≡ []
LeaveIf false dev s vs = vs ≡ []

abbrev pub gone : (temporary : Bool) → OwnLeaf → OwnLeaf
gone temporary own = record own { mode = Offline; temporary = temporary }

-- A leaf goes: the scan and the board lose it, and it is OFFLINE.
pub record GoesAway (s : PoolState) (leaf : LeafSeen) (temporary : Bool) (vs : List Move) : Type 0 where
  pub leaving : List Move
  pub leaves : LeaveIf leaf.on leaf.dev (seen_along (drops_leaf s.core.scan leaf) s.core) leaving
  pub moves : vs ≡ drops_leaf s.core.scan leaf ++ (leaving ++ (Sets leaf.guid (gone temporary leaf.own) ∷ []))

-- A leaf that is OFFLINE already stays so, and only how long changes. Another one goes, unless some group could be read from no
-- other leaf of its top: then it is required, for the least such group.
abbrev pub OfflineLeaf : (already : Bool) → PoolState → LeafSeen → (temporary : Bool) → List Move → OfflineReply → Type 0
OfflineLeaf true s leaf temporary vs reply = (vs ≡ Sets leaf.guid (gone temporary leaf.own) ∷ []) × (reply ≡ Gone)
OfflineLeaf false s leaf temporary vs reply =
    ((group : ℕ) × LeastOut (siblings leaf s.core.leaves) group × (vs ≡ []) × (reply ≡ Required group))
    ⊎ (¬ (IsRequired leaf s.core.leaves) × GoesAway s leaf temporary vs × (reply ≡ Gone))

-- A spare leaf that stands in does not go.
abbrev pub OfflineHere : (spare : Bool) → PoolState → LeafSeen → (temporary : Bool) → List Move → OfflineReply → Type 0
OfflineHere true s leaf temporary vs reply = (vs ≡ []) × (reply ≡ Misplaced Spare)
OfflineHere false s leaf temporary vs reply = OfflineLeaf (is_offline leaf.own.mode) s leaf temporary vs reply

-- why a name that is no leaf's is refused: it is a listed spare's, or none
abbrev pub unnamed : (listed : Bool) → OfflineReply
unnamed true = Misplaced Spare
unnamed false = NoVdev

abbrev pub OfflineBy : Option LeafSeen → PoolState → (name : List ℕ) → (temporary : Bool) → List Move → OfflineReply → Type 0
OfflineBy None s name temporary vs reply = (vs ≡ []) × (reply ≡ unnamed (is_listed name s))
OfflineBy (Some leaf) s name temporary vs reply = OfflineHere (is_spare s leaf) s leaf temporary vs reply

-- `offline`
abbrev pub RowOffline : PoolState → (name : List ℕ) → (temporary : Bool) → List Move → OfflineReply → Type 0
RowOffline s name temporary vs reply = OfflineBy (leaf_named name s.core.leaves) s name temporary vs reply
