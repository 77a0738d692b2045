-- A commit, address by address, and the state that it leaves.
use Rattle.std.proofs.Common.{◌≡◌, ℕ, ◌≢◌, ◌+◌, ◌<◌, ◌≤◌, inl, inr, ◌⊎◌, set, List, Option, Some, None, length, refl, sym, ◌∙◌, ap, arith, get_or, subst}
use Rattle.std.specs.Prelude.{slice_get}
use Rattle.std.specs.Option.{option_map}
use Rattle.std.proofs.lemmas.Bool.{cases_lt}
use Rattle.std.proofs.lemmas.List.{length-set}
use Rattle.std.proofs.lemmas.Option.{slice_get_within, slice_get-get_or}
use Rattle.sha2.specs.Sha256.{sha256}
use Rattle.mp_base.specs.declared.number.Group.{Group}
use Rattle.config_codec.specs.declared.config.Pointer.{Pointer}
use Rattle.pool_core.specs.declared.pool.Pool.{Pool}
use Rattle.pool_core.specs.Committing.{IsNext, SameOtherwise, CommitsAt, CommitsBelow, next_pointer, free_sector}
use Rattle.pool_core.specs.Keeping.{Represents, Stands}
use Rattle.pool_core.specs.Recorded.{pointer_of}
use Rattle.pool_core.specs.Logs.{drawn}
use Rattle.pool_core.specs.State.{PoolState, Version, Known, other_sector}
use Rattle.pool_core.specs.Syncing.{next_version, synced}
use Rattle.pool_core.proofs.Lists.{same_some, set_get_same, set_get_other, get_set_other}
use Rattle.pool_core.proofs.Drawing.{drawn_relogs, drawn_number}
use Rattle.pool_core.proofs.SyncSteps.{pointer_is, free_is}
use Rattle.pool_core.proofs.Validating.{pool_valid}

abbrev pointer_with : Group → ℕ → List ℕ → Option Pointer
pointer_with birth sector sum = Some (record { birth = birth; sector = sector; sum = sum })

same_pointer : (g g' : Group) (x x' : ℕ) (sum : List ℕ) → g ≡ g' → x ≡ x' → pointer_with g x sum ≡ pointer_with g' x' sum
same_pointer g g' x x' sum e1 e2 = cc

same_group : (g : Group) (n : ℕ) → g.0 ≡ n → g ≡ record { 0 = n }
same_group g n e = let P : ℕ → Group = λ k. record { 0 = k } in ap P e

-- the next pointer points to the next version
next_pointed : (n : ℕ) (number : Group) (a : ℕ) (pointer : Option Pointer) (committed : Option Version) (block : Option (List ℕ)) → number.0 ≡ n
    → pointer ≡ option_map pointer_of committed → next_pointer number a pointer block ≡ option_map pointer_of (next_version n a committed block)
next_pointed n number a pointer committed None is points = points
next_pointed n number a pointer committed (Some bytes) is points =
    same_pointer number (record { 0 = n }) (free_sector a pointer) (other_sector a committed) (sha256 bytes) (same_group number n is) (free_is a pointer committed points)

no_block : (block : List ℕ) → None ≡ Some block → ⊥
no_block block e = cc

-- the pointer of an address behind the commit
committed_at : (old : Pool) (s : PoolState) (a : ℕ) (pointer : Option Pointer) → Represents old s → a < s.blocks → IsNext old a pointer
    → pointer ≡ option_map pointer_of (next_version s.number a (s.committed a) (s.writes a))
committed_at old s a pointer r inside next =
    let written : s.writes a ≡ next.block = r.writes a next.block next.block_is in
    let points = pointer_is old s a next.pointer r inside next.pointer_is in
    next.is ∙ next_pointed s.number old.number a next.pointer (s.committed a) next.block (sym r.number) points
    ∙ ap (λ w. option_map pointer_of (next_version s.number a (s.committed a) w)) (sym written)

same_known : (a b : List ℕ) → Known a ≡ Known b → a ≡ b
same_known a b e = cc

-- a block that is committed now is whole, the old one or the one that was written
next_whole : (n a : ℕ) (committed : Option Version) (w : Option (List ℕ)) (version : Version) (block : List ℕ)
    → ((v : Version) → committed ≡ Some v → v.content ≡ Known block → length block ≡ 4096) → ((b : List ℕ) → w ≡ Some b → length b ≡ 4096)
    → next_version n a committed w ≡ Some version → version.content ≡ Known block → length block ≡ 4096
next_whole n a committed None version block old new e is = old version e is
next_whole n a committed (Some b) version block old new e is =
    let new_version : Version = record { birth = n; sector = other_sector a committed; content = Known b } in
    let content : Known b ≡ version.content = ap (λ v. v.content) (same_some new_version version e) in
    rw (same_known b block (content ∙ is)) at (new b refl)

same_more : (old mid new : Pool) → SameOtherwise old mid → SameOtherwise mid new → SameOtherwise old new
same_more old mid new a b = record {
  name = b.name ∙ a.name;
  pool_is = b.pool_is ∙ a.pool_is;
  blocks = b.blocks ∙ a.blocks;
  number = b.number ∙ a.number;
  next_member = b.next_member ∙ a.next_member;
  pair = b.pair ∙ a.pair;
}

-- what comes next at an address that wasn't reached before
next_from : (old mid : Pool) (n : ℕ) (next : Option Pointer) → CommitsBelow old n mid → IsNext mid n next → IsNext old n next
next_from old mid n next below is = record {
  pointer = is.pointer;
  block = is.block;
  pointer_is = sym (below.pointers n (omega arith)) ∙ is.pointer_is;
  block_is = sym (below.writes n (omega arith)) ∙ is.block_is;
  is = is.is ∙ ap (λ number. next_pointer number n is.pointer is.block) below.same.number;
}

-- one address more
pub commits_more : (old mid new : Pool) (n : ℕ) → CommitsBelow old n mid → CommitsAt mid n new → CommitsBelow old (n + 1) new
commits_more old mid new n below at = record {
  next = λ a p under e. next_at a p under (subst (λ xs. slice_get xs a ≡ Some p) at.pointers e) (cases_lt a n);
  cleared = λ a b under e. cleared_at a b under (subst (λ xs. slice_get xs a ≡ Some b) at.writes e) (cases_lt a n);
  pointers = λ a past. ap (λ xs. slice_get xs a) at.pointers
      ∙ get_set_other mid.pointers.items n a at.next (λ e. omega arith) ∙ below.pointers a (omega arith);
  writes = λ a past. ap (λ xs. slice_get xs a) at.writes ∙ get_set_other mid.writes.items n a None (λ e. omega arith) ∙ below.writes a (omega arith);
  pointers_length = ap length at.pointers ∙ length-set mid.pointers.items n at.next ∙ below.pointers_length;
  writes_length = ap length at.writes ∙ length-set mid.writes.items n None ∙ below.writes_length;
  same = same_more old mid new below.same at.same;
}
  where
    next_at : (a : ℕ) (p : Option Pointer) → a < n + 1 → slice_get (set mid.pointers.items n at.next) a ≡ Some p → (a < n) ⊎ (n ≤ a) → IsNext old a p
    next_at a p under e (inl less) =
        let other : a ≢ n = omega arith in
        below.next a p less (set_get_other mid.pointers.items n a at.next p other e)
    next_at a p under e (inr more) =
        let same : n ≡ a = omega arith in
        let here : slice_get (set mid.pointers.items n at.next) n ≡ Some p = subst (λ i. slice_get (set mid.pointers.items n at.next) i ≡ Some p) (sym same) e in
        let is : IsNext old n p = subst (IsNext old n) (sym (set_get_same mid.pointers.items n at.next p here)) (next_from old mid n at.next below at.is_next) in
        subst (λ i. IsNext old i p) same is

    cleared_at : (a : ℕ) (b : Option (List ℕ)) → a < n + 1 → slice_get (set mid.writes.items n None) a ≡ Some b → (a < n) ⊎ (n ≤ a) → b ≡ None
    cleared_at a b under e (inl less) =
        let other : a ≢ n = omega arith in
        below.cleared a b less (set_get_other mid.writes.items n a None b other e)
    cleared_at a b under e (inr more) =
        let same : n ≡ a = omega arith in
        let here : slice_get (set mid.writes.items n None) n ≡ Some b = subst (λ i. slice_get (set mid.writes.items n None) i ≡ Some b) (sym same) e in
        set_get_same mid.writes.items n None b here

-- the state with all that was written committed in the group of its number
abbrev settled : PoolState → PoolState
settled s = record s { committed = λ a. next_version s.number a (s.committed a) (s.writes a); writes = λ a. None }

-- all addresses were committed
settled_represents : (old new : Pool) (s : PoolState) (n : ℕ) → CommitsBelow old n new → length old.writes.items ≤ n
    → Represents old s → Represents new (settled s)
settled_represents old new s n below all r = record {
  name = r.name ∙ sym below.same.name;
  pool_is = r.pool_is ∙ sym below.same.pool_is;
  blocks = r.blocks ∙ sym below.same.blocks;
  next_member = r.next_member ∙ sym below.same.next_member;
  pair = pair_there;
  number = r.number ∙ ap (λ g. g.0) (sym below.same.number);
  committed = λ a inside. pointer_there a inside;
  writes = λ a block e. sym (below.cleared a block (omega (arith, slice_get_within new.writes.items a block e, below.writes_length)) e);
  beyond = λ a past. refl;
  whole = λ a block e. absurd (no_block block e);
  known_whole = λ a version block e is. next_whole s.number a (s.committed a) (s.writes a) version block (λ v. r.known_whole a v block) (r.whole a) e is;
}
  where
    counted : length old.pointers.items ≡ old.blocks
    counted = (pool_valid old).counted

    pair_there : Stands new.pair (settled s)
    pair_there = subst (λ pair. Stands pair (settled s)) (sym below.same.pair) (record {
      mirror = r.pair.mirror;
      sectors = r.pair.sectors;
      first = r.pair.first;
      second = r.pair.second;
    })

    pointer_there : (a : ℕ) → a < s.blocks
        → slice_get new.pointers.items a ≡ Some (option_map pointer_of (next_version s.number a (s.committed a) (s.writes a)))
    pointer_there a inside =
        let within : a < length new.pointers.items = omega (arith, r.blocks, counted, below.pointers_length) in
        let under : a < n = omega (arith, r.blocks, counted, old.paired) in
        let is = slice_get-get_or new.pointers.items a None within in
        is ∙ ap Some (committed_at old s a (get_or new.pointers.items a None) r inside (below.next a (get_or new.pointers.items a None) under is))

-- the same with the number, the versions and the writes named otherwise
named_settled : (old new : Pool) (t : PoolState) (n number : ℕ) (committed : ℕ → Option Version) (writes : ℕ → Option (List ℕ))
    → t.number ≡ number → t.committed ≡ committed → t.writes ≡ writes → CommitsBelow old n new → length old.writes.items ≤ n → Represents old t
    → Represents new (record t { committed = λ a. next_version number a (committed a) (writes a); writes = λ a. None })
named_settled old new t n number committed writes number_is committed_is writes_is below all r =
    let P : (ℕ → Option Version) → (ℕ → Option (List ℕ)) → Type 0 = λ c w. Represents old (record t { committed = c; writes = w }) in
    let one = subst (λ c. P c t.writes) committed_is r in
    let both = subst (λ w. P committed w) writes_is one in
    let done = settled_represents old new (record t { committed = committed; writes = writes }) n below all both in
    subst (λ k. Represents new (record t { committed = λ a. next_version k a (committed a) (writes a); writes = λ a. None })) number_is done

-- behind the draw of a number the state is the synced one
pub all_committed : (old new : Pool) (s : PoolState) (n : ℕ) → CommitsBelow old n new → length old.writes.items ≤ n
    → Represents old (drawn s) → Represents new (synced s)
all_committed old new s n below all r =
    let is = (drawn_relogs s).is in
    named_settled old new (drawn s) n (s.number + 1) s.committed s.writes (drawn_number s) (ap (λ t. t.committed) is) (ap (λ t. t.writes) is) below all r
