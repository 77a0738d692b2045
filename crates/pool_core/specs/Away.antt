-- Leaves that go away and come back by a line.
use Rattle.std.specs.Prelude.{◌≡◌, ℕ, ◌≤◌, ◌+◌, ◌==◌, ◌⊎◌, nat_le, Bool, true, false, not, cond, if◌then◌else◌, List, [], ◌∷◌, Option, Some, None, Result, Ok, Err}
use Rattle.std.specs.List.{filter, list_all}
use Rattle.std.specs.Str.{bytes_eq}
use Rattle.mp_base.specs.declared.number.Guid.{Guid}
use Rattle.mp_base.specs.declared.refusal.Refusal.{Refusal}
use Rattle.mp_base.specs.declared.refusal.Refusal.TheVariants as refusals
use Rattle.bank_core.specs.declared.bank.Fault.{Fault}
use Rattle.bank_core.specs.Disk.{Noted}
use Rattle.label_store.specs.Identities.{IsSearch}
use Rattle.vdev_tree.specs.declared.vdev.State.{State}
use Rattle.vdev_tree.specs.declared.vdev.State.TheVariants as states
use Rattle.pool_core.specs.State.{LeafState, PoolState, leaves, is_readable}

-- the leaf on the device of this name
abbrev pub leaf_named : List ℕ → List LeafState → Option LeafState
leaf_named name [] = None
leaf_named name (leaf ∷ some) = if bytes_eq leaf.name name then Some leaf else leaf_named name some

-- the leaf of this number changed, the other one as it was
abbrev pub changed_if : Bool → (LeafState → LeafState) → LeafState → LeafState
changed_if true change leaf = change leaf
changed_if false change leaf = leaf

abbrev pub with_leaf : Guid → (LeafState → LeafState) → PoolState → PoolState
with_leaf member change s = record s {
  first = changed_if (s.first.member.0 == member.0) change s.first;
  second = changed_if (s.second.member.0 == member.0) change s.second;
}

-- The outage rule, flat over the leaves of the top.

-- a group can't be read from a leaf: it isn't readable, or owes the group
abbrev pub is_out : LeafState → ℕ → Bool
is_out leaf g = cond (is_readable leaf) (leaf.owes g) true

-- the leaves that would be left without this one
abbrev pub others : Guid → List LeafState → List LeafState
others member some = filter (λ leaf. not (leaf.member.0 == member.0)) some

-- the group, from 1 on, can be read from none of these leaves
abbrev pub IsOut : List LeafState → ℕ → Type 0
IsOut some g = (1 ≤ g) × (list_all (λ leaf. is_out leaf g) some ≡ true)

-- it is the least such group
pub record LeastOut (some : List LeafState) (group : ℕ) : Type 0 where
  pub is_out : IsOut some group
  pub least : (g : ℕ) → IsOut some g → group ≤ g

-- a leaf is required where some group could be read from no other leaf of its top
abbrev pub IsRequired : PoolState → Guid → Type 0
IsRequired s member = (g : ℕ) × IsOut (others member (leaves s)) g

abbrev pub is_offline : State → Bool
is_offline states.Offline = true
is_offline states.Online = false
is_offline states.Degraded = false
is_offline states.Faulted = false
is_offline states.Removed = false
is_offline states.Unavail = false

abbrev pub taken_offline : (temporary : Bool) → LeafState → LeafState
taken_offline temporary leaf = record leaf { state = states.Offline; temporary = temporary }

-- `offline` of a leaf. One that is offline already stays so, whatever is required, and is from then on
-- temporary or not. Another is refused exactly where it is required, with the least group.
abbrev pub TakesOffline : PoolState → (temporary : Bool) → LeafState → PoolState → Result (Unit {0}) Refusal → Type 0
TakesOffline s temporary leaf next result = takes (is_offline leaf.state)
  where
    takes : Bool → Type 0
    takes true = (next ≡ with_leaf leaf.member (taken_offline temporary) s) × (result ≡ Ok tt)
    takes false = ((group : ℕ) × LeastOut (others leaf.member (leaves s)) group × (next ≡ s) × (result ≡ Err (refusals.Required (record { 0 = group }))))
        ⊎ (¬ (IsRequired s leaf.member) × (next ≡ with_leaf leaf.member (taken_offline temporary) s) × (result ≡ Ok tt))

abbrev pub OfflinesLeaf : PoolState → (temporary : Bool) → Option LeafState → PoolState → Result (Unit {0}) Refusal → Type 0
OfflinesLeaf s temporary None next result = (next ≡ s) × (result ≡ Err refusals.NoVdev)
OfflinesLeaf s temporary (Some leaf) next result = TakesOffline s temporary leaf next result

-- `offline`
abbrev pub IsOffline : PoolState → (name : List ℕ) → (temporary : Bool) → PoolState → Result (Unit {0}) Refusal → Type 0
IsOffline s name temporary next result = OfflinesLeaf s temporary (leaf_named name (leaves s)) next result

-- a leaf that is neither ONLINE nor DEGRADED nor FAULTED is away until `online` brings it back
abbrev pub is_away : State → Bool
is_away states.Offline = true
is_away states.Removed = true
is_away states.Unavail = true
is_away states.Online = false
is_away states.Degraded = false
is_away states.Faulted = false

-- a leaf that comes back, on the device that has its identity: its log stays
abbrev pub brought : ℕ → LeafState → LeafState
brought dev leaf = record leaf { dev = Some dev; state = states.Online; temporary = false; marked = true }

abbrev pub marked : LeafState → LeafState
marked leaf = record leaf { marked = true }

-- by what the search for the leaf's identity answered
abbrev pub online_answer : PoolState → LeafState → (dev : ℕ) → Result Bool Fault → PoolState × Result State Refusal
online_answer s leaf dev (Ok true) = (with_leaf leaf.member (brought dev) s, Ok states.Online)
online_answer s leaf dev (Ok false) = (s, Err (refusals.WrongLabel leaf.member))
online_answer s leaf dev (Err fault) = (s, Err (refusals.DeviceFault leaf.member))

-- no other leaf than the one of this name is on the device
pub record IsOwnDevice (s : PoolState) (name : List ℕ) (dev : ℕ) : Type 0 where
  pub first : s.first.dev ≡ Some dev → s.first.name ≡ name
  pub second : s.second.dev ≡ Some dev → s.second.name ≡ name

-- `online` of a leaf, whose device has this number in the bank. A leaf that isn't away is marked, and no call is
-- made. Else the device has to have the room of the top, and the leaf's identity.
abbrev pub OnlinesLeaf : (size : ℕ → ℕ) → PoolState → LeafState → (dev : ℕ) → List Noted → PoolState → Result State Refusal → Type 0
OnlinesLeaf size s leaf dev made next result = onlines (is_away leaf.state) (nat_le (s.sectors + 256) (size dev))
  where
    onlines : (away has_room : Bool) → Type 0
    onlines false has_room = (made ≡ []) × (next ≡ with_leaf leaf.member marked s) × (result ≡ Ok leaf.state)
    onlines true false = (made ≡ []) × (next ≡ s) × (result ≡ Err (refusals.TooSmall (s.sectors + 256) (size dev)))
    onlines true true = (r : Result Bool Fault) × IsSearch s.pool leaf.member dev (size dev) made r × ((next, result) ≡ online_answer s leaf dev r)

abbrev pub IsOnline : (size : ℕ → ℕ) → PoolState → Option LeafState → (dev : ℕ) → List Noted → PoolState → Result State Refusal → Type 0
IsOnline size s None dev made next result = (made ≡ []) × (next ≡ s) × (result ≡ Err refusals.NoVdev)
IsOnline size s (Some leaf) dev made next result = OnlinesLeaf size s leaf dev made next result
