-- The board of a frozen group, as a list of members in tree order, and tops that have nobody left on it.
use Rattle.std.specs.Prelude.{ℕ, ◌==◌, ◌&&◌, Bool, true, false, cond, Option, Some, None, List, [], ◌∷◌}
use Rattle.std.specs.List.{list_any}
use Rattle.mp_base.specs.declared.number.Guid.{Guid}
use Rattle.label_store.specs.declared.member.Member.{Member}
use Rattle.pool_moves.specs.Leaves.{LeafSeen}

-- a leaf of this number on its device, where it has one, before others
abbrev pub member_before : Bool → Option ℕ → Guid → List Member → List Member
member_before true (Some d) m more = record { dev = d; guid = m } ∷ more
member_before true None m more = more
member_before false dev m more = more

-- the leaves of this kind that have a device, as members
abbrev pub members_where : (LeafSeen → Bool) → List LeafSeen → List Member
members_where which [] = []
members_where which (leaf ∷ leaves) = member_before (which leaf) leaf.dev leaf.guid (members_where which leaves)

abbrev pub is_on : LeafSeen → Bool
is_on leaf = leaf.on

abbrev pub is_on_under : (top : ℕ) → LeafSeen → Bool
is_on_under top leaf = leaf.on && (leaf.top == top)

-- the board, and those of it under a top
abbrev pub board_of : List LeafSeen → List Member
board_of leaves = members_where is_on leaves

abbrev pub board_under : (top : ℕ) → List LeafSeen → List Member
board_under top leaves = members_where (is_on_under top) leaves

-- a leaf of this top is on the board
abbrev pub has_on : (top : ℕ) → List LeafSeen → Bool
has_on top leaves = list_any (is_on_under top) leaves

-- the top of the first of these leaves whose top has nobody left on the board of all
abbrev pub emptied_of : (all leaves : List LeafSeen) → Option ℕ
emptied_of all [] = None
emptied_of all (leaf ∷ leaves) = cond (has_on leaf.top all) (emptied_of all leaves) (Some leaf.top)

abbrev pub emptied : List LeafSeen → Option ℕ
emptied leaves = emptied_of leaves leaves
