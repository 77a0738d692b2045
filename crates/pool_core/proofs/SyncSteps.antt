-- The calls of a sync, against its plan.
use Rattle.std.proofs.Common.{◌≡◌, ℕ, zero, suc, ◌+◌, ◌<◌, ◌≤◌, List, [], ◌∷◌, ◌++◌, Option, Some, None, refl, arith, inl, inr, ◌⊎◌, sym, ◌∙◌, ap, subst, append_assoc, append-nil, add-one, map}
use Rattle.std.specs.Prelude.{slice_get}
use Rattle.std.specs.Option.{option_map}
use Rattle.std.specs.List.{flat_map}
use Rattle.std.proofs.lemmas.Bool.{cases_lt}
use Rattle.std.proofs.lemmas.Grind.{flat_map-append}
use Rattle.bank_core.specs.declared.bank.Fault.{Fault}
use Rattle.bank_core.specs.Asks.{Flushes}
use Rattle.bank_core.specs.Parts.{MakesPart}
use Rattle.bank_core.specs.Story.{Story}
use Rattle.bank_core.proofs.Parting.{part_stop, part_more}
use Rattle.label_store.specs.declared.member.Member.{Member}
use Rattle.config_codec.specs.declared.config.Pointer.{Pointer}
use Rattle.pool_core.specs.declared.pool.Pool.{Pool}
use Rattle.pool_core.specs.Committing.{free_sector}
use Rattle.pool_core.specs.Keeping.{Represents}
use Rattle.pool_core.specs.Recorded.{addresses, pointer_of}
use Rattle.pool_core.specs.State.{PoolState, Version, board, data_start, other_sector}
use Rattle.pool_core.specs.Syncing.{writes_to, writes_at, sync_plan}
use Rattle.pool_core.proofs.Lists.{same_some}

-- the free sector of an address, by the pointer and by the version
free_of : (a : ℕ) (committed : Option Version) → free_sector a (option_map pointer_of committed) ≡ other_sector a committed
free_of a None = refl
free_of a (Some version) = refl

-- the pointer of a committed block
pub pointer_is : (pool : Pool) (s : PoolState) (a : ℕ) (pointer : Option Pointer) → Represents pool s → a < s.blocks
    → slice_get pool.pointers.items a ≡ Some pointer → pointer ≡ option_map pointer_of (s.committed a)
pointer_is pool s a pointer r inside is = same_some pointer (option_map pointer_of (s.committed a)) (sym is ∙ r.committed a inside)

pub free_is : (a : ℕ) (pointer : Option Pointer) (committed : Option Version) → pointer ≡ option_map pointer_of committed
    → free_sector a pointer ≡ other_sector a committed
free_is a pointer committed is = ap (free_sector a) is ∙ free_of a committed

-- the plan for one address, by the pool
pub block_plan : (pool : Pool) (s : PoolState) (members : List Member) (a : ℕ) (pointer : Option Pointer) (block : List ℕ) → Represents pool s → members ≡ board s
    → a < pool.blocks → slice_get pool.pointers.items a ≡ Some pointer → slice_get pool.writes.items a ≡ Some (Some block)
    → writes_at s a ≡ writes_to members (data_start + free_sector a pointer) (Some block)
block_plan pool s members a pointer block r members_are inside is written =
    let below : a < s.blocks = rw r.blocks inside in
    rw (← members_are, r.writes a (Some block) written, free_is a pointer (s.committed a) (pointer_is pool s a pointer r below is)) refl

-- what an address adds to the plan of those below it
pub one_more : (s : PoolState) (a : ℕ) → flat_map (writes_at s) (addresses (a + 1)) ≡ flat_map (writes_at s) (addresses a) ++ writes_at s a
one_more s a = rw (add-one, flat_map-append) (ap (λ more. flat_map (writes_at s) (addresses a) ++ more) (append-nil (writes_at s a)))

-- the addresses behind a
record Above (a n : ℕ) : Type 0 where
  more : List ℕ
  is : addresses n ≡ addresses (a + 1) ++ more

above_last : (a n : ℕ) → a ≡ n → Above a (suc n)
above_last a n e = record { more = []; is = rw (e, add-one, append-nil) refl }

above_more : (a n : ℕ) → Above a n → Above a (suc n)
above_more a n above = record {
  more = above.more ++ n ∷ [];
  is = ap (λ first. first ++ n ∷ []) above.is ∙ append_assoc (addresses (a + 1)) above.more (n ∷ []);
}

above_cases : (a n : ℕ) → (a < n → Above a n) → a < suc n → (a < n) ⊎ (n ≤ a) → Above a (suc n)
above_cases a n earlier below (inl less) = above_more a n (earlier less)
above_cases a n earlier below (inr last) = above_last a n (omega arith)

addresses_above : (a n : ℕ) → a < n → Above a n
addresses_above a zero below = absurd (omega arith)
addresses_above a (suc n) below = above_cases a n (addresses_above a n) below (cases_lt a n)

-- a block whose writes stopped ends the whole plan
pub stops_within : (s : PoolState) (a n : ℕ) {old mid new : Option Story} {f g h : ℕ → ℕ} {fault : Fault} → a < n
    → MakesPart (flat_map (writes_at s) (addresses a)) old mid f g None → MakesPart (writes_at s a) mid new g h (Some fault)
    → MakesPart (flat_map (writes_at s) (addresses n)) old new f h (Some fault)
stops_within s a n {old} {mid} {new} {f} {g} {h} {fault} below before part =
    let split = addresses_above a n below in
    let plan = ap (flat_map (writes_at s)) split.is ∙ flat_map-append (writes_at s) (addresses (a + 1)) split.more
    ∙ ap (λ first. first ++ flat_map (writes_at s) split.more) (one_more s a) in
    subst (λ asks. MakesPart asks old new f h (Some fault)) (sym plan) (part_stop (flat_map (writes_at s) split.more) (part_more before part))

-- the flushes behind the blocks
pub then_flushes : {old mid new : Option Story} {f g h : ℕ → ℕ} {outcome : Option Fault} (s : PoolState) (members : List Member) → members ≡ board s
    → MakesPart (flat_map (writes_at s) (addresses s.blocks)) old mid f g None → MakesPart (map (λ m. Flushes m.dev) members) mid new g h outcome
    → MakesPart (sync_plan s) old new f h outcome
then_flushes {old} {mid} {new} {f} {g} {h} {outcome} s members are blocks flushes =
    part_more blocks (subst (λ some. MakesPart (map (λ m. Flushes m.dev) some) mid new g h outcome) are flushes)

-- all blocks were written
pub blocks_done : {old new : Option Story} {f g : ℕ → ℕ} (s : PoolState) (n : ℕ) → n ≡ s.blocks → MakesPart (flat_map (writes_at s) (addresses n)) old new f g None
    → MakesPart (flat_map (writes_at s) (addresses s.blocks)) old new f g None
blocks_done {old} {new} {f} {g} s n all part = subst (λ k. MakesPart (flat_map (writes_at s) (addresses k)) old new f g None) all part
