-- What stays valid of a configuration where its number rises or a pointer changes.
use Rattle.std.proofs.Common.{◌≡◌, ℕ, ◌+◌, ◌*◌, ◌/◌, ◌<◌, ◌≤◌, ◌==◌, Bool, true, false, List, Option, Some, None, length, set, refl, arith, sym, ◌∙◌, ap, subst, cond}
use Rattle.std.specs.Prelude.{slice_get, IfSome, IsTrue}
use Rattle.std.proofs.lemmas.List.{length-set}
use Rattle.std.proofs.lemmas.Bool.{eqb-true, eqb-false}
use Rattle.sha2.specs.Sha256.{sha256}
use Rattle.sha2.proofs.Facts256.{length-sha256}
use Rattle.mp_base.specs.declared.number.Group.{Group}
use Rattle.config_codec.specs.declared.config.Pointer.{Pointer}
use Rattle.config_codec.specs.Fields.{Fields}
use Rattle.config_codec.specs.Validity.{IsValid, IsPointer, is_valid}
use Rattle.config_codec.proofs.Changes.{valid_changed}
use Rattle.config_codec.proofs.Testing.{valid_from, valid_test}
use Rattle.pool_core.specs.declared.pool.Pool.{Pool}
use Rattle.pool_core.specs.Committing.{free_sector, next_pointer, IsNext}
use Rattle.pool_core.specs.Pairs.{fields_from}
use Rattle.pool_core.proofs.Lists.{same_some, set_get_same, set_get_other}

-- the configuration of a pool as it stands
abbrev pub pool_fields : Pool → Fields
pool_fields pool = fields_from pool.pool pool.name pool.blocks pool.number pool.next_member pool.pointers.items pool.pair

pub pool_valid : (pool : Pool) → IsValid (pool_fields pool)
pool_valid pool = valid_from (pool_fields pool) pool.valid

pub pointer_later : (number number' : Group) (a : ℕ) (p : Pointer) → number.0 ≤ number'.0 → IsPointer number a p → IsPointer number' a p
pointer_later number number' a p le is = record { birth = (is.birth.0, omega (arith, is.birth.1)); sector = is.sector; sum = is.sum }

-- a pointer where it was set, or elsewhere
pointer_at : (number : Group) (slots : List (Option Pointer)) (a x : ℕ) (next : Option Pointer) (p : Pointer) (t : Bool) → (x == a) ≡ t
    → ((p' : Pointer) → next ≡ Some p' → IsPointer number a p') → ((p' : Pointer) → slice_get slots x ≡ Some (Some p') → IsPointer number x p')
    → slice_get (set slots a next) x ≡ Some (Some p) → IsPointer number x p
pointer_at number slots a x next p true is new old e =
    let same : x ≡ a = eqb-true x a is in
    let here : slice_get (set slots a next) a ≡ Some (Some p) = subst (λ i. slice_get (set slots a next) i ≡ Some (Some p)) same e in
    subst (λ i. IsPointer number i p) (sym same) (new p (sym (set_get_same slots a next (Some p) here)))
pointer_at number slots a x next p false is new old e = old p (set_get_other slots a x next (Some p) (eqb-false x a is) e)

-- the same configuration with another pointer
valid_set : (c : Fields) (a : ℕ) (next : Option Pointer) → IsValid c → ((p : Pointer) → next ≡ Some p → IsPointer c.number a p)
    → IsValid (record c { pointers = set c.pointers a next })
valid_set c a next v is = valid_changed c c.number (set c.pointers a next) c.first c.second v (refl, refl) (refl, refl) (record {
  number = v.number;
  counted = length-set c.pointers a next ∙ v.counted;
  pointers = λ x p e. pointer_at c.number c.pointers a x next p (x == a) refl is (v.pointers x) e;
  first_log = v.first_log;
  second_log = v.second_log;
  few_ranges = v.few_ranges;
})

-- a pointer's sector is one of the first 64
low_sector : (c : Fields) (a : ℕ) (p : Pointer) → IsValid c → a < length c.pointers → slice_get c.pointers a ≡ Some (Some p) → p.sector < 64
low_sector c a p v inside e = omega (arith, (v.pointers a p e).sector, v.counted, v.blocks.1)

pub low_option : (c : Fields) (a : ℕ) (p : Option Pointer) → IsValid c → a < length c.pointers → slice_get c.pointers a ≡ Some p → IfSome p (λ q. q.sector < 64)
low_option c a None v inside e = tt
low_option c a (Some p) v inside e = low_sector c a p v inside e

-- the free sector of an address is one of its two
cond_home : (a : ℕ) (t : Bool) → cond t (2 * a + 1) (2 * a) / 2 ≡ a
cond_home a true = omega arith
cond_home a false = omega arith

free_home : (a : ℕ) (pointer : Option Pointer) → free_sector a pointer / 2 ≡ a
free_home a None = omega arith
free_home a (Some p) = cond_home a (p.sector == 2 * a)

next_pointer_is : (number : Group) (a : ℕ) (pointer : Option Pointer) (block : Option (List ℕ)) (p : Pointer) → 1 ≤ number.0
    → ((q : Pointer) → pointer ≡ Some q → IsPointer number a q) → next_pointer number a pointer block ≡ Some p → IsPointer number a p
next_pointer_is number a pointer None p some old e = old p e
next_pointer_is number a pointer (Some block) p some old e =
    let new : Pointer = record { birth = number; sector = free_sector a pointer; sum = sha256 block } in
    let is_new : IsPointer number a new = record { birth = (some, omega arith); sector = free_home a pointer; sum = length-sha256 block } in
    subst (IsPointer number a) (same_some new p e) is_new

-- the pointer that an address has next is one
next_is : (pool : Pool) (a : ℕ) (next : Option Pointer) (p : Pointer) → IsNext pool a next → next ≡ Some p → IsPointer pool.number a p
next_is pool a next p n e =
    let v = pool_valid pool in
    next_pointer_is pool.number a n.pointer n.block p v.number.0 (λ q is. v.pointers a q (n.pointer_is ∙ ap Some is)) (sym n.is ∙ e)

-- the configuration with that pointer is valid
pub valid_next : (pool : Pool) (a : ℕ) (next : Option Pointer) → IsNext pool a next
    → IsTrue (is_valid (fields_from pool.pool pool.name pool.blocks pool.number pool.next_member (set pool.pointers.items a next) pool.pair))
valid_next pool a next is =
    valid_test (fields_from pool.pool pool.name pool.blocks pool.number pool.next_member (set pool.pointers.items a next) pool.pair)
    (valid_set (pool_fields pool) a next (pool_valid pool) (λ p e. next_is pool a next p is e))

-- a volume has few blocks
pub few_blocks : (pool : Pool) → length pool.writes.items ≤ 32
few_blocks pool =
    let v = pool_valid pool in
    omega (arith, pool.paired, v.counted, v.blocks.1)
