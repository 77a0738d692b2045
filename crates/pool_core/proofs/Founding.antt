-- A pool in memory as a record says, with its leaves on the devices where they were found.
use Rattle.std.proofs.Common.{◌≡◌, ℕ, ◌+◌, ◌<◌, ◌≤◌, true, not, ◌||◌, is_some, List, Option, Some, None, length, replicate, get_or, refl, ap, sym, ◌∙◌, arith}
use Rattle.std.proofs.Math.Bool.{or-true}
use Rattle.std.proofs.Math.Path.{fun_ext}
use Rattle.std.proofs.lemmas.Option.{none-some, same_Some, slice_get-get_or}
use Rattle.std.specs.Option.{option_map}
use Rattle.std.specs.Prelude.{IsTrue}
use Rattle.group_set.specs.Groups.{holds}
use Rattle.mp_base.specs.Ranges.{Rises}
use Rattle.group_set.specs.Ranges.{ranges_upto}
use Rattle.group_set.proofs.Upto.{ranges_within, upto_back, upto_rises}
use Rattle.config_codec.specs.declared.config.KeptState.{KeptState}
use Rattle.config_codec.specs.declared.config.LeafConfig.{LeafConfig}
use Rattle.config_codec.specs.declared.config.Pointer.{Pointer}
use Rattle.config_codec.specs.Fields.{Fields}
use Rattle.config_codec.specs.Validity.{IsValid, is_valid}
use Rattle.config_codec.proofs.Testing.{valid_test}
use Rattle.vdev_tree.specs.Leaf.{is_up}
use Rattle.vdev_tree.specs.declared.vdev.LeafVdev.{LeafVdev}
use Rattle.pool_core.specs.declared.pool.Pool.{Pool}
use Rattle.pool_core.specs.Keeping.{IsLeaf, Stands, Represents, IsSeated}
use Rattle.pool_core.specs.Opening.{IsCommitted, found_as, found_state, leaf_on, version_of}
use Rattle.pool_core.specs.Pairs.{PairState, AreApart, IsLoggedTo, fields_from, has_device}
use Rattle.pool_core.specs.Recorded.{pointer_of}
use Rattle.pool_core.specs.State.{Content, Known, Summed, Version}
use Rattle.pool_core.proofs.Lists.{replicate_get}

pub found_log : (number : ℕ) (leaf : LeafConfig) (dev : Option ℕ) (v : LeafVdev) → IsLeaf v (leaf_on leaf dev) → Rises 1 number leaf.log → IsLoggedTo number v
found_log number leaf dev v is rises g e = ranges_within number g leaf.log rises (is.owes g ∙ e)

found_ranges : (number : ℕ) (leaf : LeafConfig) (dev : Option ℕ) (v : LeafVdev) → IsLeaf v (leaf_on leaf dev) → Rises 1 number leaf.log
    → ranges_upto (holds v.log) number ≡ leaf.log
found_ranges number leaf dev v is rises =
    ap (λ log. ranges_upto log number) (sym (fun_ext is.owes)) ∙ upto_back number leaf.log rises

state_device : (dev : Option ℕ) (keeps : KeptState) → (not (is_up (found_as dev keeps)) || is_some dev) ≡ true
state_device None keeps = refl
state_device (Some d) keeps = or-true (not (is_up (found_as (Some d) keeps)))

pub found_device : (leaf : LeafConfig) (dev : Option ℕ) (v : LeafVdev) → IsLeaf v (leaf_on leaf dev) → has_device v ≡ true
found_device leaf dev v is = rw (← is.state, ← is.dev) (state_device dev leaf.kept)

pub found_stands : (c : Fields) (committed : ℕ → Option Version) (one two : Option ℕ) (pair : PairState) (first second : LeafVdev) → pair.mirror ≡ c.mirror
    → pair.sectors ≡ c.sectors → pair.first ≡ first → pair.second ≡ second → IsLeaf first (leaf_on c.first one) → IsLeaf second (leaf_on c.second two)
    → Stands pair (found_state c committed one two)
found_stands c committed one two pair first second mirror sectors first_is second_is leaf leaf' = record {
  mirror = sym mirror;
  sectors = sym sectors;
  first = rw first_is leaf;
  second = rw second_is leaf';
}

pub found_apart : (c : Fields) (committed : ℕ → Option Version) (one two : Option ℕ) (pair : PairState) → Stands pair (found_state c committed one two)
    → ((d : ℕ) → one ≡ Some d → two ≡ Some d → ⊥) → AreApart pair
found_apart c committed one two pair stands apart d e f = apart d (stands.first.dev ∙ e) (stands.second.dev ∙ f)

-- what is recorded of it is valid
pub found_valid : (c : Fields) (committed : ℕ → Option Version) (one two : Option ℕ) (pair : PairState) → IsValid c → Stands pair (found_state c committed one two)
    → IsTrue (is_valid (fields_from c.pool c.name c.blocks c.number c.next_member c.pointers pair))
found_valid c committed one two pair v stands =
    let few = ap length (found_ranges c.number.0 c.first one pair.first stands.first v.first_log) in
    let few' = ap length (found_ranges c.number.0 c.second two pair.second stands.second v.second_log) in
    valid_test (fields_from c.pool c.name c.blocks c.number c.next_member c.pointers pair) (record {
      pool = v.pool;
      name = v.name;
      blocks = v.blocks;
      number = v.number;
      next_member = v.next_member;
      counted = v.counted;
      pointers = v.pointers;
      sectors = rw (← stands.sectors) v.sectors;
      mirror = rw (← stands.mirror) v.mirror;
      first = rw (← stands.first.member) v.first;
      second = rw (← stands.second.member) v.second;
      not_first = rw (← stands.mirror, ← stands.first.member) v.not_first;
      not_second = rw (← stands.mirror, ← stands.second.member) v.not_second;
      two_members = rw (← stands.first.member, ← stands.second.member) v.two_members;
      first_name = rw (← stands.first.name) v.first_name;
      second_name = rw (← stands.second.name) v.second_name;
      two_devices = rw (← stands.first.name, ← stands.second.name) v.two_devices;
      first_log = upto_rises (holds pair.first.log) c.number.0;
      second_log = upto_rises (holds pair.second.log) c.number.0;
      few_ranges = omega (arith, v.few_ranges);
    })

-- The pool says what this record says, and nothing was written since.
pub record Says (c : Fields) (pool : Pool) : Type 0 where
  pub name : c.name ≡ pool.name
  pub pool_is : c.pool ≡ pool.pool
  pub blocks : c.blocks ≡ pool.blocks
  pub number : c.number.0 ≡ pool.number.0
  pub next_member : c.next_member ≡ pool.next_member
  pub pointers : c.pointers ≡ pool.pointers.items
  pub places : ℕ
  pub writes : pool.writes.items ≡ replicate places None

pub found_represents : (c : Fields) (committed : ℕ → Option Version) (one two : Option ℕ) (pool : Pool) → Says c pool → Stands pool.pair (found_state c committed one two)
    → IsCommitted c committed → Represents pool (found_state c committed one two)
found_represents c committed one two pool says stands is = record {
  name = says.name;
  pool_is = says.pool_is;
  blocks = says.blocks;
  next_member = says.next_member;
  pair = stands;
  number = says.number;
  committed = λ a below. rw (← says.pointers) (is.pointers a below);
  writes = λ a block e. sym (replicate_get says.places a None block (rw says.writes at e));
  beyond = λ a past. refl;
  whole = λ a block e. absurd (none-some block e);
  known_whole = is.whole;
}

-- the versions that a record commits, where no block is known
abbrev pub versions_of : Fields → ℕ → Option Version
versions_of c a = option_map version_of (get_or c.pointers a None)

same_pointer : (p : Option Pointer) → p ≡ option_map pointer_of (option_map version_of p)
same_pointer None = refl
same_pointer (Some p) = refl

none_known : (p : Option Pointer) (version : Version) (block : List ℕ) → option_map version_of p ≡ Some version → version.content ≡ Known block → ⊥
none_known None version block e is = absurd (none-some version e)
none_known (Some p) version block e is =
    let content : Summed p.sum ≡ version.content = let P : Version → Content = λ v. v.content in ap P (same_Some (version_of p) version e) in
    let wrong : Summed p.sum ≡ Known block = content ∙ is in
    cc

pub versions_committed : (c : Fields) → IsValid c → IsCommitted c (versions_of c)
versions_committed c v = record {
  pointers = λ a below.
      let within : a < length c.pointers = omega (arith, v.counted) in
      slice_get-get_or c.pointers a None within ∙ ap Some (same_pointer (get_or c.pointers a None));
  whole = λ a version block e is. absurd (none_known (get_or c.pointers a None) version block e is);
}

-- the pool is seated where the devices have room for its sectors
pub found_seated : (size : ℕ → ℕ) (c : Fields) (committed : ℕ → Option Version) (one two : Option ℕ) (pool : Pool) → Stands pool.pair (found_state c committed one two)
    → ((d : ℕ) → one ≡ Some d → c.sectors + 256 ≤ size d) → ((d : ℕ) → two ≡ Some d → c.sectors + 256 ≤ size d) → IsSeated size pool
found_seated size c committed one two pool stands first second = (
  λ d e. omega (arith, first d (stands.first.dev ∙ e), stands.sectors),
  λ d e. omega (arith, second d (stands.second.dev ∙ e), stands.sectors),
)
