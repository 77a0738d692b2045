-- The states behind a write, a sync and an opening: they stay fit, and their records may be drawn up.
use Rattle.std.proofs.Common.{◌≡◌, ◌≢◌, ◌⊎◌, ℕ, ◌+◌, ◌-◌, nat_le, ◌*◌, ◌/◌, ◌^◌, ◌<◌, ◌≤◌, ◌==◌, Bool, true, false, cond, List, length, Option, Some, None, refl, sym, ap, ◌∙◌, subst, arith, inl, inr, ⊎_elim}
use Rattle.std.specs.Prelude.{slice_get}
use Rattle.std.specs.Option.{option_map}
use Rattle.std.proofs.lemmas.Bool.Decides.{eqb_tells, leb_tells}
use Rattle.std.proofs.lemmas.Option.{slice_get_within}
use Rattle.sha2.proofs.Facts256.{length-sha256}
use Rattle.mp_base.specs.declared.number.Group.{Group}
use Rattle.config_codec.specs.declared.config.Pointer.{Pointer}
use Rattle.config_codec.specs.Validity.{IsPointer, IsValid}
use Rattle.pool_core.specs.Recorded.{pointer_of, pointers_of, fields_in}
use Rattle.pool_core.specs.State.{Known, Version, PoolState, other_sector, written, is_spent, last_number}
use Rattle.pool_core.specs.Syncing.{next_version}
use Rattle.host_machine.specs.Fitness.{IsFitPool}
use Rattle.host_machine.specs.Records.{version_of}
use Rattle.host_machine.proofs.Settling.{IsSettled, same_some, none_some, cell_is, pointers_long, pointers_at}

pub below_spent : (n : ℕ) → is_spent n ≡ false → n < 2 ^ 62 - 64
below_spent n open_numbers = ⊎_elim (λ le. absurd (both (is_spent n) le.0 open_numbers)) (λ lt. lt.1) (leb_tells last_number n)
  where
    both : (b : Bool) → b ≡ true → b ≡ false → ⊥
    both b t f = cc

-- the two sectors of an address
other_half : (a : ℕ) (committed : Option Version) → other_sector a committed / 2 ≡ a
other_half a None = omega arith
other_half a (Some version) = by (version.sector == 2 * a)
  where
    by : (b : Bool) → cond b (2 * a + 1) (2 * a) / 2 ≡ a
    by true = omega arith
    by false = omega arith

-- a pointer stays one under a greater number
pub later_pointer : (n : ℕ) (a : ℕ) (p : Pointer) → IsPointer (record { 0 = n }) a p → IsPointer (record { 0 = n + 1 }) a p
later_pointer n a p is = record { birth = (is.birth.0, let most = is.birth.1 in omega arith); sector = is.sector; sum = is.sum }

-- the pointers of a state, by its versions
pub pointers_by : (committed : ℕ → Option Version) (blocks : ℕ) (number : Group) → ((a : ℕ) (version : Version) → committed a ≡ Some version → IsPointer number a (pointer_of version))
    → (a : ℕ) (p : Pointer) → slice_get (pointers_of committed blocks) a ≡ Some (Some p) → IsPointer number a p
pointers_by committed blocks number each a p e = of (committed a) refl (same_some _ _ (sym (pointers_at committed blocks a below) ∙ e))
  where
    below : a < blocks
    below = let within = slice_get_within (pointers_of committed blocks) a (Some p) e in let long = pointers_long committed blocks in omega (arith, within, long)

    of : (v : Option Version) → committed a ≡ v → option_map pointer_of v ≡ Some p → IsPointer number a p
    of None is e = absurd (none_some p e)
    of (Some version) is e = subst (IsPointer number a) (same_some (pointer_of version) p e) (each a version is)

-- and the versions, by its pointers
pub version_pointer : (s : PoolState) (a : ℕ) (version : Version) → IsValid (fields_in s) → a < s.blocks → s.committed a ≡ Some version → IsPointer (record { 0 = s.number }) a (pointer_of version)
version_pointer s a version valid below is =
    valid.pointers a (pointer_of version) (pointers_at s.committed s.blocks a below ∙ ap (λ v. Some (option_map pointer_of v)) is)

-- a committed version is within the volume
pub version_below : (size : ℕ → ℕ) (s : PoolState) (a : ℕ) (version : Version) → IsFitPool size s → s.committed a ≡ Some version → a < s.blocks
version_below size s a version fit is = by (leb_tells s.blocks a)
  where
    by : ((nat_le s.blocks a ≡ true) × (s.blocks ≤ a)) ⊎ ((nat_le s.blocks a ≡ false) × (a < s.blocks)) → a < s.blocks
    by (inl above) = absurd (none_some version (sym (fit.beyond a above.1) ∙ is))
    by (inr below) = below.1

pub version_half : (size : ℕ → ℕ) (s : PoolState) (a : ℕ) (version : Version) → IsFitPool size s → s.committed a ≡ Some version → version.sector / 2 ≡ a
version_half size s a version fit is = (version_pointer s a version fit.valid (version_below size s a version fit is) is).sector

-- A fit state's record may be drawn up.
pub fit_settled : (size : ℕ → ℕ) (s : PoolState) → IsFitPool size s → IsSettled s
fit_settled size s fit = record {
  valid = fit.valid;
  first_logged = fit.first.logged;
  second_logged = fit.second.logged;
  beyond = fit.beyond;
  whole = λ a cell e. fit.known_whole a (version_of cell) cell.block (cell_is (s.committed a) cell e) refl;
}

-- Behind a write.

written_some : (b : Bool) (block : List ℕ) (was : Option (List ℕ)) (some : List ℕ) → cond b (Some block) was ≡ Some some → ((b ≡ true) × (block ≡ some)) ⊎ (was ≡ Some some)
written_some true block was some e = inl (refl, same_some block some e)
written_some false block was some e = inr e

pub written_fit : (size : ℕ → ℕ) (s : PoolState) (a : ℕ) (block : List ℕ) → IsFitPool size s → a < s.blocks → length block ≡ 4096 → IsFitPool size (written s a block)
written_fit size s a block fit below long = record {
  valid = fit.valid;
  first = fit.first;
  second = fit.second;
  apart = fit.apart;
  inside = λ x some e. ⊎_elim (λ here. subst (λ y. y < s.blocks) (same_address a x here.0) below) (λ was. fit.inside x some was) (written_some (a == x) block (s.writes x) some e);
  whole = λ x some e. ⊎_elim (λ here. ap length (sym here.1) ∙ long) (λ was. fit.whole x some was) (written_some (a == x) block (s.writes x) some e);
  beyond = fit.beyond;
  known_whole = fit.known_whole;
}
  where
    same_address : (a x : ℕ) → (a == x) ≡ true → a ≡ x
    same_address a x e = ⊎_elim (λ same. same.1) (λ other. absurd (both (a == x) e other.0)) (eqb_tells a x)
      where
        both : (b : Bool) → b ≡ true → b ≡ false → ⊥
        both b t f = cc

-- Behind a sync.

next_some : (n a : ℕ) (committed : Option Version) (writes : Option (List ℕ)) (version : Version) → next_version n a committed writes ≡ Some version
    → ((writes ≡ None) × (committed ≡ Some version)) ⊎ ((block : List ℕ) × (writes ≡ Some block) × (record { birth = n; sector = other_sector a committed; content = Known block } ≡ version))
next_some n a committed None version e = inl (refl, e)
next_some n a committed (Some block) version e = inr (block, refl, same_some _ version e)

pub next_pointer : (size : ℕ → ℕ) (s : PoolState) (a : ℕ) (version : Version) → IsFitPool size s → next_version (s.number + 1) a (s.committed a) (s.writes a) ≡ Some version
    → IsPointer (record { 0 = s.number + 1 }) a (pointer_of version)
next_pointer size s a version fit e =
    ⊎_elim
    (λ was. later_pointer s.number a (pointer_of version) (version_pointer s a version fit.valid (version_below size s a version fit was.1) was.1))
    (λ new. subst (λ v. IsPointer (record { 0 = s.number + 1 }) a (pointer_of v)) new.2
    (record { birth = (omega arith, omega arith); sector = other_half a (s.committed a); sum = length-sha256 new.0 }))
    (next_some (s.number + 1) a (s.committed a) (s.writes a) version e)

pub synced_beyond : (size : ℕ → ℕ) (s : PoolState) (a : ℕ) → IsFitPool size s → s.blocks ≤ a → next_version (s.number + 1) a (s.committed a) (s.writes a) ≡ None
synced_beyond size s a fit above = by (s.writes a) refl
  where
    by : (writes : Option (List ℕ)) → s.writes a ≡ writes → next_version (s.number + 1) a (s.committed a) writes ≡ None
    by None is = fit.beyond a above
    by (Some block) is = absurd (let below = fit.inside a block is in omega (arith, below, above))

pub synced_whole : (size : ℕ → ℕ) (s : PoolState) (a : ℕ) (version : Version) (block : List ℕ) → IsFitPool size s → next_version (s.number + 1) a (s.committed a) (s.writes a) ≡ Some version
    → version.content ≡ Known block → length block ≡ 4096
synced_whole size s a version block fit e known =
    ⊎_elim
    (λ was. fit.known_whole a version block was.1 known)
    (λ new. ap length (sym (same_known new.0 block (ap (λ (v : Version). v.content) new.2 ∙ known))) ∙ fit.whole a new.0 new.1)
    (next_some (s.number + 1) a (s.committed a) (s.writes a) version e)
  where
    same_known : (x y : List ℕ) → Known x ≡ Known y → x ≡ y
    same_known x y e = cc

-- An address' free sector is no committed block's.

odd_even : (a sector : ℕ) → 2 * a + 1 ≡ sector → sector ≡ 2 * a → ⊥
odd_even a sector odd even = omega arith

other_differs : (a : ℕ) (version : Version) → other_sector a (Some version) ≢ version.sector
other_differs a version = by (version.sector == 2 * a) (eqb_tells version.sector (2 * a))
  where
    by : (b : Bool) → ((b ≡ true) × (version.sector ≡ 2 * a)) ⊎ ((b ≡ false) × (version.sector ≢ 2 * a)) → cond b (2 * a + 1) (2 * a) ≡ version.sector → ⊥
    by true (inl same) e = odd_even a version.sector e same.1
    by true (inr other) e = absurd (let no : true ≡ false = other.0 in cc)
    by false (inl same) e = absurd (let no : false ≡ true = same.0 in cc)
    by false (inr other) e = other.1 (sym e)

-- nor is it another address'
pub free_apart : (s : PoolState) (a b : ℕ) → a ≢ b → other_sector a (s.committed a) ≢ other_sector b (s.committed b)
free_apart s a b other same = other (sym (other_half a (s.committed a)) ∙ ap (λ n. n / 2) same ∙ other_half b (s.committed b))

pub free_differs : (size : ℕ → ℕ) (s : PoolState) (a b : ℕ) (version : Version) → IsFitPool size s → s.committed b ≡ Some version → other_sector a (s.committed a) ≢ version.sector
free_differs size s a b version fit is same =
    let at : b ≡ a = sym (version_half size s b version fit is) ∙ ap (λ n. n / 2) (sym same) ∙ other_half a (s.committed a) in
    let here : s.committed a ≡ Some version = ap s.committed (sym at) ∙ is in
    other_differs a version (ap (other_sector a) (sym here) ∙ same)

-- it lies within the sectors of the top
pub free_below : (size : ℕ → ℕ) (s : PoolState) (a : ℕ) → IsFitPool size s → a < s.blocks → other_sector a (s.committed a) < s.sectors
free_below size s a fit below =
    let half = other_half a (s.committed a) in let few = fit.valid.blocks.1 in let most = fit.valid.sectors.0 in
    near (other_sector a (s.committed a)) a s.blocks s.sectors half below few most
  where
    near : (sector a blocks sectors : ℕ) → sector / 2 ≡ a → a < blocks → blocks ≤ 32 → 64 ≤ sectors → sector < sectors
    near sector a blocks sectors half below few most = omega (arith, half, below, few, most)
