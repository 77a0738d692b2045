-- What a write leaves of the state that a pool stands for.
use Rattle.std.proofs.Common.{◌≡◌, ℕ, ◌<◌, ◌≤◌, ◌==◌, Bool, true, false, cond, List, Option, Some, None, length, refl, set, sym, ◌∙◌, ap, inl, subst, lt-ltb, Ok, Err, arith}
use Rattle.std.proofs.lemmas.Bool.{eqb-true, eqb-false}
use Rattle.std.specs.Prelude.{slice_get}
use Rattle.mp_base.specs.declared.refusal.Refusal.TheVariants as refusals
use Rattle.pool_core.specs.declared.pool.Pool.{Pool}
use Rattle.pool_core.specs.Committing.{SameOtherwise}
use Rattle.pool_core.specs.Keeping.{Represents, Stands}
use Rattle.pool_core.specs.State.{PoolState, written}
use Rattle.pool_core.specs.Writing.{Puts}
use Rattle.pool_core.proofs.Lists.{same_some, set_get_same, set_get_other}

-- what stands at an address behind a change at one address
changed_at : {A : Type 0} (xs : List A) (a x : ℕ) (new old y : A) (t : Bool) → (a == x) ≡ t
    → ((y' : A) → slice_get xs x ≡ Some y' → old ≡ y') → slice_get (set xs a new) x ≡ Some y → cond t new old ≡ y
changed_at xs a x new old y true is was e =
    sym (set_get_same xs a new y (subst (λ i. slice_get (set xs a new) i ≡ Some y) (sym (eqb-true a x is)) e))
changed_at xs a x new old y false is was e =
    was y (set_get_other xs a x new y (λ same. eqb-false a x is (sym same)) e)

-- a block that was written is whole, at one address or at another
written_whole : (a x : ℕ) (new block : List ℕ) (old : Option (List ℕ)) (t : Bool) → (a == x) ≡ t → length new ≡ 4096
    → (old ≡ Some block → length block ≡ 4096) → cond t (Some new) old ≡ Some block → length block ≡ 4096
written_whole a x new block old true is new_whole old_whole e = rw (same_some new block e) at new_whole
written_whole a x new block old false is new_whole old_whole e = old_whole e

-- nothing is written past the volume's end
written_beyond : (a x blocks : ℕ) (new : List ℕ) (old : Option (List ℕ)) (t : Bool) → (a == x) ≡ t → a < blocks → blocks ≤ x → old ≡ None
    → cond t (Some new) old ≡ None
written_beyond a x blocks new old true is inside past none = absurd (let same : a ≡ x = eqb-true a x is in omega arith)
written_beyond a x blocks new old false is inside past none = none

-- Only a write was added to the pool.
pub record Adds (old new : Pool) (a : ℕ) (block : List ℕ) : Type 0 where
  pub same : SameOtherwise old new
  pub pointers_are : new.pointers.items ≡ old.pointers.items
  pub writes_are : new.writes.items ≡ set old.writes.items a (Some block)

-- a pool with one more write
put_represents : (old new : Pool) (s : PoolState) (a : ℕ) (block : List ℕ) → Represents old s → Adds old new a block
    → a < s.blocks → length block ≡ 4096 → Represents new (written s a block)
put_represents old new s a block r adds inside whole = record {
  name = r.name ∙ sym adds.same.name;
  pool_is = r.pool_is ∙ sym adds.same.pool_is;
  blocks = r.blocks ∙ sym adds.same.blocks;
  next_member = r.next_member ∙ sym adds.same.next_member;
  pair = subst (λ pair. Stands pair (written s a block)) (sym adds.same.pair)
      (record { mirror = r.pair.mirror; sectors = r.pair.sectors; first = r.pair.first; second = r.pair.second });
  number = r.number ∙ ap (λ g. g.0) (sym adds.same.number);
  committed = λ x below. rw adds.pointers_are (r.committed x below);
  writes = λ x w e. changed_at old.writes.items a x (Some block) (s.writes x) w (a == x) refl (r.writes x) (rw adds.writes_are at e);
  beyond = λ x past. written_beyond a x s.blocks block (s.writes x) (a == x) refl inside past (r.beyond x past);
  whole = λ x b e. written_whole a x block b (s.writes x) (a == x) refl whole (r.whole x b) e;
  known_whole = r.known_whole;
}

-- a write is answered as its definition says
pub puts : (old new : Pool) (s : PoolState) (a : ℕ) (block : List ℕ) → Represents old s → Adds old new a block → a < old.blocks
    → length block ≡ 4096 → Puts s a block new (Ok tt)
puts old new s a block r adds below whole =
    let inside : a < s.blocks = rw r.blocks below in
    record {
      next = written s a block;
      represents = put_represents old new s a block r adds inside whole;
      answer_is = inl (sym (ap (λ t. cond t (written s a block, Ok tt) (s, Err (refusals.BadAddress s.blocks))) (lt-ltb a s.blocks inside)));
    }
