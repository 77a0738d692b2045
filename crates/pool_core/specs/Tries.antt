-- The copies of a block that were tried.
use Rattle.std.specs.Prelude.{◌≡◌, ℕ, ◌+◌, ◌==◌, if◌then◌else◌, List, [], ◌∷◌, ◌++◌, map, length, Option, Result, Ok, Err}
use Rattle.mp_base.specs.declared.number.Guid.{Guid}
use Rattle.mp_base.specs.declared.refusal.LeafSeen.{LeafSeen}
use Rattle.mp_base.specs.declared.refusal.Seen.{Seen}
use Rattle.mp_base.specs.declared.refusal.Seen.TheVariants as seen
use Rattle.bank_core.specs.declared.bank.Fault.{Fault}
use Rattle.bank_core.specs.Calls.{Made}
use Rattle.bank_core.specs.Disk.{Noted, Read}
use Rattle.bank_core.specs.Story.{Story}
use Rattle.config_codec.specs.declared.config.Pointer.{Pointer}
use Rattle.label_store.specs.declared.member.Member.{Member}
use Rattle.pool_core.specs.Copies.{IsSeen, TriesCopy}
use Rattle.pool_core.specs.Reading.{tries}
use Rattle.pool_core.specs.State.{LeafState, PoolState, leaves, data_start}

-- The call read the copy of this member, which showed this.
pub record IsMiss (at : ℕ) (sum : List ℕ) (m : Member) (noted : Noted) (leaf : LeafSeen) : Type 0 where
  pub bytes : List ℕ
  pub fault : Option Fault
  pub whole : length bytes ≡ 4096
  pub call : noted.call ≡ Read m.dev at bytes fault
  pub member_is : leaf.member ≡ m.guid
  pub is_seen : IsSeen fault bytes sum (Err leaf.seen)

-- each of these members was tried, in order, and none served
abbrev pub AreMisses : (at : ℕ) → (sum : List ℕ) → List Member → List Noted → List LeafSeen → Type 0
AreMisses at sum [] made seen = (made ≡ []) × (seen ≡ [])
AreMisses at sum (m ∷ ms) [] seen = ⊥
AreMisses at sum (m ∷ ms) (noted ∷ made) [] = ⊥
AreMisses at sum (m ∷ ms) (noted ∷ made) (leaf ∷ seen) = IsMiss at sum m noted leaf × AreMisses at sum ms made seen

-- These members were tried, none served, and they showed this.
pub record Misses (at : ℕ) (sum : List ℕ) (members : List Member) (old new : Option Story) (before after : ℕ → ℕ) (seen : List LeafSeen) : Type 0 where
  pub made : List Noted
  pub calls : Made old new before after made
  pub are_misses : AreMisses at sum members made seen

-- The first of these members didn't serve, and the next one gave these bytes.
pub record Serves (at : ℕ) (sum : List ℕ) (members : List Member) (old new : Option Story) (before after : ℕ → ℕ) (bytes : List ℕ) : Type 0 where
  pub first : List Member
  pub member : Member
  pub behind : List Member
  pub order : members ≡ first ++ member ∷ behind
  pub seen : List LeafSeen
  pub told : Option Story
  pub faults : ℕ → ℕ
  pub misses : Misses at sum first old told before faults seen
  pub serves : TriesCopy member.dev at sum told new faults after bytes (Ok tt)

-- these members were tried in order, up to the first that served
abbrev pub TriesAll : (at : ℕ) → (sum : List ℕ) → List Member → (old new : Option Story) → (before after : ℕ → ℕ) → List ℕ
    → Result (Unit {0}) (List LeafSeen) → Type 0
TriesAll at sum members old new before after bytes (Ok done) = Serves at sum members old new before after bytes
TriesAll at sum members old new before after bytes (Err seen) = Misses at sum members old new before after seen

-- what those that were tried showed of a leaf; one that wasn't isn't readable
abbrev pub seen_in : List LeafSeen → Guid → Seen
seen_in [] leaf = seen.Unreadable
seen_in (one ∷ some) leaf = if one.member.0 == leaf.0 then one.seen else seen_in some leaf

-- so for each leaf, in tree order
abbrev pub shown_in : List LeafSeen → List LeafState → List LeafSeen
shown_in seen some = map (λ leaf. record { member = leaf.member; seen = seen_in seen leaf.member }) some

abbrev pub shown_by : List LeafState → Result (Unit {0}) (List LeafSeen) → Result (Unit {0}) (List LeafSeen)
shown_by some (Ok done) = Ok tt
shown_by some (Err seen) = Err (shown_in seen some)

-- The copies of a block were tried, by its pointer.
pub record TriesCopies (s : PoolState) (pointer : Pointer) (old new : Option Story) (before after : ℕ → ℕ) (bytes : List ℕ)
    (result : Result (Unit {0}) (List LeafSeen)) : Type 0 where
  pub tried : Result (Unit {0}) (List LeafSeen)
  pub tries_all : TriesAll (data_start + pointer.sector) pointer.sum (tries pointer.birth.0 (leaves s)) old new before after bytes tried
  pub result_is : result ≡ shown_by (leaves s) tried
