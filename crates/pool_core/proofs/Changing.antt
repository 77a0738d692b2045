-- A pool of which one leaf changed.
use mathlib.Core.Path.{fun_ext}
use Rattle.std.proofs.Common.{◌≡◌, ◌≢◌, ℕ, ◌≤◌, ◌==◌, ◌⊎◌, inl, inr, ◌||◌, Bool, true, false, cond, List, Some, None, Ok, Err, is_some, refl, sym, ◌∙◌, ap, ap₂, eq-eqb}
use Rattle.std.specs.Prelude.{not, IsTrue}
use Rattle.std.specs.Option.{option_map}
use Rattle.std.specs.Str.{bytes_eq}
use Rattle.std.proofs.lemmas.Slice.Eq.{bytes_eq-Decides}
use Rattle.std.proofs.lemmas.Bool.{ne_eqb}
use Rattle.config_codec.specs.Validity.{is_valid}
use Rattle.config_codec.proofs.Testing.{valid_test}
use Rattle.group_set.specs.Groups.{holds}
use Rattle.group_set.specs.Ranges.{ranges_upto}
use Rattle.mp_base.specs.declared.number.Guid.{Guid}
use Rattle.vdev_tree.specs.Leaf.{is_up}
use Rattle.vdev_tree.specs.declared.vdev.LeafVdev.{LeafVdev}
use Rattle.pool_core.specs.declared.pool.Pool.{Pool}
use Rattle.mp_base.specs.declared.refusal.Refusal.TheVariants as refusals
use Rattle.pool_core.specs.Away.{changed_if, with_leaf, leaf_named, taken_offline, brought, marked, is_offline, others, LeastOut, IsRequired, TakesOffline, IsOffline}
use Rattle.pool_core.specs.Keeping.{IsLeaf, Stands, Represents, HasRoom}
use Rattle.pool_core.specs.Naming.{leaf_of}
use Rattle.pool_core.specs.Pairs.{PairState, IsLoggedTo, AreApart, has_device, fields_from}
use Rattle.pool_core.specs.State.{LeafState, PoolState, leaves}
use Rattle.pool_core.proofs.Standing.{leaf_at, state_at, stands_at}
use Rattle.pool_core.proofs.Validating.{pool_valid}

-- A change that leaves a leaf's number, its name and its log, and keeps a device where one is needed.

abbrev has : LeafState → Bool
has leaf = not (is_up leaf.state) || is_some leaf.dev

pub record IsMild (change : LeafState → LeafState) : Type 0 where
  pub member : (leaf : LeafState) → (change leaf).member ≡ leaf.member
  pub name : (leaf : LeafState) → (change leaf).name ≡ leaf.name
  pub owes : (leaf : LeafState) (g : ℕ) → (change leaf).owes g ≡ leaf.owes g
  pub device : (leaf : LeafState) → has leaf ≡ true → has (change leaf) ≡ true

if_mild : (t : Bool) (change : LeafState → LeafState) → IsMild change → IsMild (changed_if t change)
if_mild true change mild = mild
if_mild false change mild = record { member = λ leaf. refl; name = λ leaf. refl; owes = λ leaf g. refl; device = λ leaf e. e }

pub mild_offline : (temporary : Bool) → IsMild (taken_offline temporary)
mild_offline temporary = record { member = λ leaf. refl; name = λ leaf. refl; owes = λ leaf g. refl; device = λ leaf e. refl }

pub mild_marked : IsMild marked
mild_marked = record { member = λ leaf. refl; name = λ leaf. refl; owes = λ leaf g. refl; device = λ leaf e. e }

pub mild_brought : (dev : ℕ) → IsMild (brought dev)
mild_brought dev = record { member = λ leaf. refl; name = λ leaf. refl; owes = λ leaf g. refl; device = λ leaf e. refl }

-- What such a change leaves of a leaf.
pub record Keeps (old new : LeafVdev) : Type 0 where
  pub guid : new.guid ≡ old.guid
  pub name : new.name ≡ old.name
  pub log : (g : ℕ) → holds new.log g ≡ holds old.log g
  pub device : has_device old ≡ true → has_device new ≡ true

kept_leaf : (old new : LeafVdev) (change : LeafState → LeafState) → IsMild change → IsLeaf new (change (leaf_at old)) → Keeps old new
kept_leaf old new change mild is = record {
  guid = sym is.member ∙ mild.member (leaf_at old);
  name = sym is.name ∙ mild.name (leaf_at old);
  log = λ g. sym (is.owes g) ∙ mild.owes (leaf_at old) g;
  device = λ e. sym (ap₂ (λ state dev. not (is_up state) || is_some dev) is.state is.dev) ∙ mild.device (leaf_at old) e;
}

-- and of a pair
pub record KeepsPair (old new : PairState) : Type 0 where
  pub mirror : new.mirror ≡ old.mirror
  pub sectors : new.sectors ≡ old.sectors
  pub first : Keeps old.first new.first
  pub second : Keeps old.second new.second

pub kept_pair : (old new : PairState) (at : Guid) (change : LeafState → LeafState) → IsMild change
    → ((s : PoolState) → Stands old s → Stands new (with_leaf at change s)) → KeepsPair old new
kept_pair old new at change mild changes =
    let stands = changes (state_at old) (stands_at old) in
    record {
      mirror = sym stands.mirror;
      sectors = sym stands.sectors;
      first = kept_leaf old.first new.first (changed_if (old.first.guid.0 == at.0) change) (if_mild (old.first.guid.0 == at.0) change mild) stands.first;
      second = kept_leaf old.second new.second (changed_if (old.second.guid.0 == at.0) change) (if_mild (old.second.guid.0 == at.0) change mild) stands.second;
    }

same_log : (n : ℕ) (old new : LeafVdev) → Keeps old new → ranges_upto (holds new.log) n ≡ ranges_upto (holds old.log) n
same_log n old new keeps = ap (λ has. ranges_upto has n) (fun_ext keeps.log)

-- The pool's configuration stays valid.
pub valid_kept : (pool : Pool) (pair : PairState) → KeepsPair pool.pair pair
    → IsTrue (is_valid (fields_from pool.pool pool.name pool.blocks pool.number pool.next_member pool.pointers.items pair))
valid_kept pool pair keeps =
    let v = pool_valid pool in
    let c = fields_from pool.pool pool.name pool.blocks pool.number pool.next_member pool.pointers.items pair in
    let first_log = same_log pool.number.0 pool.pair.first pair.first keeps.first in
    let second_log = same_log pool.number.0 pool.pair.second pair.second keeps.second in
    valid_test c (record {
      pool = v.pool;
      name = v.name;
      blocks = v.blocks;
      number = v.number;
      next_member = v.next_member;
      counted = v.counted;
      pointers = v.pointers;
      sectors = rw keeps.sectors v.sectors;
      mirror = rw keeps.mirror v.mirror;
      first = rw keeps.first.guid v.first;
      second = rw keeps.second.guid v.second;
      not_first = rw (keeps.mirror, keeps.first.guid) v.not_first;
      not_second = rw (keeps.mirror, keeps.second.guid) v.not_second;
      two_members = rw (keeps.first.guid, keeps.second.guid) v.two_members;
      first_name = rw keeps.first.name v.first_name;
      second_name = rw keeps.second.name v.second_name;
      two_devices = rw (keeps.first.name, keeps.second.name) v.two_devices;
      first_log = rw first_log v.first_log;
      second_log = rw second_log v.second_log;
      few_ranges = rw (first_log, second_log) v.few_ranges;
    })

pub logged_kept : (n : ℕ) (old new : LeafVdev) → Keeps old new → IsLoggedTo n old → IsLoggedTo n new
logged_kept n old new keeps logged g is = logged g (sym (keeps.log g) ∙ is)

-- The devices stay.
pub record KeepsDevices (old new : PairState) : Type 0 where
  pub first : new.first.dev ≡ old.first.dev
  pub second : new.second.dev ≡ old.second.dev

still_if : (t : Bool) (change : LeafState → LeafState) → ((leaf : LeafState) → (change leaf).dev ≡ leaf.dev) → (leaf : LeafState) → (changed_if t change leaf).dev ≡ leaf.dev
still_if true change still leaf = still leaf
still_if false change still leaf = refl

pub kept_devices : (old new : PairState) (at : Guid) (change : LeafState → LeafState) → ((leaf : LeafState) → (change leaf).dev ≡ leaf.dev)
    → ((s : PoolState) → Stands old s → Stands new (with_leaf at change s)) → KeepsDevices old new
kept_devices old new at change still changes =
    let stands = changes (state_at old) (stands_at old) in
    record {
      first = sym stands.first.dev ∙ still_if (old.first.guid.0 == at.0) change still (leaf_at old.first);
      second = sym stands.second.dev ∙ still_if (old.second.guid.0 == at.0) change still (leaf_at old.second);
    }

pub apart_kept : (old new : PairState) → KeepsDevices old new → AreApart old → AreApart new
apart_kept old new keeps apart d first second = apart d (sym keeps.first ∙ first) (sym keeps.second ∙ second)

room_kept : (size : ℕ → ℕ) (sectors sectors' : ℕ) (old new : LeafVdev) → sectors' ≡ sectors → new.dev ≡ old.dev → HasRoom size sectors old → HasRoom size sectors' new
room_kept size sectors sectors' old new same dev_is room d is = rw same (room d (sym dev_is ∙ is))

pub seated_kept : (size : ℕ → ℕ) (old new : PairState) → KeepsDevices old new → new.sectors ≡ old.sectors
    → HasRoom size old.sectors old.first × HasRoom size old.sectors old.second → HasRoom size new.sectors new.first × HasRoom size new.sectors new.second
seated_kept size old new keeps same seated = (
  room_kept size old.sectors new.sectors old.first new.first same keeps.first seated.0,
  room_kept size old.sectors new.sectors old.second new.second same keeps.second seated.1,
)

-- Only the pair changed.
pub record SameParts (old new : Pool) : Type 0 where
  pub name : new.name ≡ old.name
  pub pool_is : new.pool ≡ old.pool
  pub blocks : new.blocks ≡ old.blocks
  pub next_member : new.next_member ≡ old.next_member
  pub number : new.number ≡ old.number
  pub pointers : new.pointers ≡ old.pointers
  pub writes : new.writes ≡ old.writes

pub changed_represents : (old new : Pool) (s : PoolState) (at : Guid) (change : LeafState → LeafState) → Represents old s → SameParts old new
    → Stands new.pair (with_leaf at change s) → Represents new (with_leaf at change s)
changed_represents old new s at change r same stands = record {
  name = rw same.name r.name;
  pool_is = rw same.pool_is r.pool_is;
  blocks = rw same.blocks r.blocks;
  next_member = rw same.next_member r.next_member;
  pair = stands;
  number = rw same.number r.number;
  committed = rw same.pointers r.committed;
  writes = rw same.writes r.writes;
  beyond = r.beyond;
  whole = r.whole;
  known_whole = r.known_whole;
}

-- The leaf of a name.
pub record IsNamed (name : List ℕ) (s : PoolState) (at : Guid) : Type 0 where
  pub leaf : LeafState
  pub is : leaf_named name (leaves s) ≡ Some leaf
  pub member : at ≡ leaf.member
  pub named : leaf.name ≡ name
  pub which : (leaf ≡ s.first) ⊎ (leaf ≡ s.second)

named_from : (name : List ℕ) (s : PoolState) (at : Guid) (t u : Bool) → bytes_eq s.first.name name ≡ t → bytes_eq s.second.name name ≡ u
    → leaf_named name (leaves s) ≡ cond t (Some s.first) (cond u (Some s.second) None)
    → Some at ≡ option_map (λ leaf. leaf.member) (cond t (Some s.first) (cond u (Some s.second) None)) → IsNamed name s at
named_from name s at true u e f is h = record { leaf = s.first; is = is; member = cc; named = (bytes_eq-Decides s.first.name name).0 e; which = inl refl }
named_from name s at false true e f is h = record { leaf = s.second; is = is; member = cc; named = (bytes_eq-Decides s.second.name name).0 f; which = inr refl }
named_from name s at false false e f is h = absurd cc

pub named_is : (name : List ℕ) (s : PoolState) (at : Guid) → Some at ≡ option_map (λ leaf. leaf.member) (leaf_named name (leaves s)) → IsNamed name s at
named_is name s at h = named_from name s at (bytes_eq s.first.name name) (bytes_eq s.second.name name) refl refl refl h

-- its number is a member's
named_number : (name : List ℕ) (pool : Pool) (at : Guid) → IsNamed name (state_at pool.pair) at → (at ≡ pool.pair.first.guid) ⊎ (at ≡ pool.pair.second.guid)
named_number name pool at n = go n.which
  where
    go : (n.leaf ≡ (state_at pool.pair).first) ⊎ (n.leaf ≡ (state_at pool.pair).second) → (at ≡ pool.pair.first.guid) ⊎ (at ≡ pool.pair.second.guid)
    go (inl e) = inl (n.member ∙ ap (λ leaf. leaf.member) e)
    go (inr e) = inr (n.member ∙ ap (λ leaf. leaf.member) e)

member_number : (pool : Pool) (at : Guid) → (at ≡ pool.pair.first.guid) ⊎ (at ≡ pool.pair.second.guid) → (1 ≤ at.0) × (at ≢ pool.pair.mirror)
member_number pool at (inl e) = let v = pool_valid pool in (rw e v.first.0, λ same. v.not_first (ap (λ guid. guid.0) (sym same ∙ e)))
member_number pool at (inr e) = let v = pool_valid pool in (rw e v.second.0, λ same. v.not_second (ap (λ guid. guid.0) (sym same ∙ e)))

pub is_member : (name : List ℕ) (pool : Pool) (at : Guid)
    → ((s : PoolState) → Stands pool.pair s → Some at ≡ option_map (λ leaf. leaf.member) (leaf_named name (leaves s))) → (1 ≤ at.0) × (at ≢ pool.pair.mirror)
is_member name pool at named =
    member_number pool at (named_number name pool at (named_is name (state_at pool.pair) at (named (state_at pool.pair) (stands_at pool.pair))))

pub two_numbers : (pool : Pool) (s : PoolState) → Represents pool s → s.first.member.0 ≢ s.second.member.0
two_numbers pool s r = rw (r.pair.first.member, r.pair.second.member) (pool_valid pool).two_members

leaf_by : (s : PoolState) (leaf : LeafState) → s.first.member.0 ≢ s.second.member.0 → (leaf ≡ s.first) ⊎ (leaf ≡ s.second) → leaf_of (leaves s) leaf.member ≡ Some leaf
leaf_by s leaf differ (inl e) =
    let t : (s.first.member.0 == s.first.member.0) ≡ true = eq-eqb s.first.member.0 s.first.member.0 refl in
    rw (e, t) refl
leaf_by s leaf differ (inr e) =
    let t : (s.first.member.0 == s.second.member.0) ≡ false = ne_eqb s.first.member.0 s.second.member.0 differ in
    let u : (s.second.member.0 == s.second.member.0) ≡ true = eq-eqb s.second.member.0 s.second.member.0 refl in
    rw (e, t, u) refl

-- the leaf of this name is the one of its number
pub leaf_is_named : (pool : Pool) (s : PoolState) (name : List ℕ) (at : Guid) → Represents pool s → (n : IsNamed name s at) → leaf_of (leaves s) at ≡ Some n.leaf
leaf_is_named pool s name at r n = rw n.member (leaf_by s n.leaf (two_numbers pool s r) n.which)

-- What `offline` came to.

refused_taking : (s : PoolState) (temporary : Bool) (leaf : LeafState) (group : ℕ) → is_offline leaf.state ≡ false → LeastOut (others leaf.member (leaves s)) group
    → TakesOffline s temporary leaf s (Err (refusals.Required (record { 0 = group })))
refused_taking s temporary leaf group e least = rw e (inl (group, least, refl, refl))

pub offline_refused : (s : PoolState) (name : List ℕ) (temporary : Bool) (at : Guid) (group : ℕ) (n : IsNamed name s at) → is_offline n.leaf.state ≡ false
    → LeastOut (others at (leaves s)) group → IsOffline s name temporary s (Err (refusals.Required (record { 0 = group })))
offline_refused s name temporary at group n e least = rw n.is (refused_taking s temporary n.leaf group e (rw n.member at least))

taken_taking : (s : PoolState) (temporary : Bool) (leaf : LeafState) (t : Bool) → is_offline leaf.state ≡ t → (t ≡ false → ¬ (IsRequired s leaf.member))
    → TakesOffline s temporary leaf (with_leaf leaf.member (taken_offline temporary) s) (Ok tt)
taken_taking s temporary leaf true e free = rw e (refl, refl)
taken_taking s temporary leaf false e free = rw e (inr (free refl, refl, refl))

pub offline_taken : (s : PoolState) (name : List ℕ) (temporary : Bool) (at : Guid) (t : Bool) (n : IsNamed name s at) → t ≡ is_offline n.leaf.state
    → (t ≡ false → ¬ (IsRequired s at)) → IsOffline s name temporary (with_leaf at (taken_offline temporary) s) (Ok tt)
offline_taken s name temporary at t n e free =
    rw (n.is, n.member) (taken_taking s temporary n.leaf t (sym e) (λ off. rw n.member at (free off)))
