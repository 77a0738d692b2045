-- While calls bring nothing but some kind of bytes to a sector, it holds these or what it held.
use Rattle.std.proofs.Common.{◌≡◌, ◌⊎◌, ℕ, zero, suc, ◌+◌, ◌-◌, ◌<◌, ◌≤◌, ◌==◌, ◌&&◌, Bool, true, false, cond, List, [], ◌∷◌, ◌++◌, take, Option, Some, None, is_none, refl, sym, ap, ◌∙◌, subst, inl, inr, arith, ⊎_elim}
use Rattle.std.proofs.lemmas.Bool.Decides.{nat_tests}
use Rattle.std.proofs.lemmas.Grind.{common_steps}
use Rattle.mp_base.specs.declared.number.Guid.{Guid}
use Rattle.bank_core.specs.declared.bank.Fault.{Fault}
use Rattle.bank_core.specs.Asks.{Ask, Reads, Writes, Flushes, Admits, Ejects, ask_of, IsPart}
use Rattle.bank_core.specs.Disk.{Sector, Pending, Nothing, Written, Failing, Call, Read, Write, Flush, Admit, Eject, Noted, covers, sectors_in, sector_of, hurt, after_write, after_flush, effect, replay}
use Rattle.bank_core.specs.Memory.{zero_sector}
use Rattle.label_store.specs.Clearing.{IsOnTheWay, IsHeld}
use Rattle.label_store.specs.Layout.{labels_of}
use Rattle.label_store.specs.Plans.{label_writes, blank_uberblock, zero_ring, stamp_plan, wipe_plan}
use Rattle.label_store.specs.Uberblock.{uberblock_bytes}
use Rattle.label_store.proofs.Bare.{length-zeros}
use Rattle.label_store.proofs.Clearing.{ring_sector, whole_sector}
use Rattle.label_store.proofs.Places.{uberblock_sectors, length-uberblock}
use Rattle.label_store.proofs.Writing.{ring_sectors}

-- what is on the way, if anything, is of this kind
abbrev pub IsSent : (List ℕ → Type 0) → Pending → Type 0
IsSent Kind Nothing = Unit {0}
IsSent Kind (Written bytes) = Kind bytes
IsSent Kind (Failing bytes) = Kind bytes

pub record IsFading (Kind : List ℕ → Type 0) (old x : Sector) : Type 0 where
  pub stable : IsHeld old x.stable ⊎ Kind x.stable
  pub pending : (x.pending ≡ old.pending) ⊎ IsSent Kind x.pending

-- the ask brings nothing but such bytes there
abbrev pub Brings : (List ℕ → Type 0) → Ask → ℕ → ℕ → Type 0
Brings Kind (Reads dev at sectors) d s = Unit {0}
Brings Kind (Writes dev at bytes) d s = covers at (sectors_in bytes) s ≡ true → Kind (sector_of (s - at) bytes)
Brings Kind (Flushes dev) d s = Unit {0}
Brings Kind (Admits dev) d s = ⊥
Brings Kind (Ejects dev) d s = Unit {0}

abbrev pub AllBring : (List ℕ → Type 0) → List Ask → ℕ → ℕ → Type 0
AllBring Kind [] d s = Unit {0}
AllBring Kind (ask ∷ asks) d s = Brings Kind ask d s × AllBring Kind asks d s

hurt_fades : (Kind : List ℕ → Type 0) (damage : Bool) (old x : Sector) → IsFading Kind old x
    → IsFading Kind old (hurt damage x)
hurt_fades Kind damage old x f = record { stable = f.stable; pending = f.pending }

written_sent : (Kind : List ℕ → Type 0) (fault : Option Fault) (bytes : List ℕ) → Kind bytes
    → IsSent Kind (after_write fault bytes)
written_sent Kind None bytes b = b
written_sent Kind (Some fault) bytes b = b

and_true : (a b : Bool) → (a && b) ≡ true → b ≡ true
and_true true b e = e
and_true false b e = absurd (cc)

write_fades : (Kind : List ℕ → Type 0) (test : Bool) (fault : Option Fault) (bytes : List ℕ) (old x : Sector)
    → (test ≡ true → Kind bytes)
    → IsFading Kind old x
    → IsFading Kind old (cond test (record { stable = x.stable; pending = after_write fault bytes; damaged = x.damaged }) x)
write_fades Kind true fault bytes old x bare f = record {
  stable = f.stable;
  pending = inr (written_sent Kind fault bytes (bare refl));
}
write_fades Kind false fault bytes old x bare f = f

flush_fades : (Kind : List ℕ → Type 0) (test : Bool) (p : Pending) (old x : Sector) → (p ≡ old.pending) ⊎ IsSent Kind p
    → IsFading Kind old x
    → IsFading Kind old (cond test (after_flush p x) x)
flush_fades Kind true Nothing old x b f = f
flush_fades Kind true (Written bytes) old x (inl same) f = record {
  stable = inl (inr (subst (λ p. IsOnTheWay p bytes) same refl));
  pending = inr tt;
}
flush_fades Kind true (Written bytes) old x (inr b) f = record { stable = inr b; pending = inr tt }
flush_fades Kind true (Failing bytes) old x b f = f
flush_fades Kind false p old x b f = f

call_fades : (Kind : List ℕ → Type 0) (call : Call) (d s : ℕ) (old x : Sector) → Brings Kind (ask_of call) d s
    → IsFading Kind old x
    → IsFading Kind old (effect call d s x)
call_fades Kind (Read dev at bytes fault) d s old x b f = f
call_fades Kind (Write dev at bytes fault) d s old x b f =
    write_fades Kind ((dev == d) && covers at (sectors_in bytes) s) fault (sector_of (s - at) bytes) old x
    (λ e. b (and_true (dev == d) _ e)) f
call_fades Kind (Flush dev fault) d s old x b f = flush_fades Kind
    ((dev == d) && is_none fault) x.pending old x f.pending f
call_fades Kind (Admit dev holds) d s old x b f = absurd b
call_fades Kind (Eject dev) d s old x b f = f

-- so at each moment of a part
pub part_fades : (Kind : List ℕ → Type 0) (asks : List Ask) (made : List Noted) (outcome : Option Fault) (d s : ℕ)
    (old x : Sector) (k : ℕ)
    → IsPart asks made outcome
    → AllBring Kind asks d s → IsFading Kind old x → IsFading Kind old (replay (take k made) d s x)
part_fades Kind asks made outcome d s old x zero part b f = f
part_fades Kind [] [] outcome d s old x (suc k) part b f = f
part_fades Kind [] (noted ∷ made) outcome d s old x (suc k) part b f = absurd part
part_fades Kind (ask ∷ asks) [] outcome d s old x (suc k) part b f = absurd part
part_fades Kind (ask ∷ asks) (noted ∷ made) outcome d s old x (suc k) (is, inl (ok, more)) b f =
    part_fades Kind asks made outcome d s old _ k more b.1
    (call_fades Kind noted.call d s old _ (subst (λ a. Brings Kind a d s) (sym is) b.0)
    (hurt_fades Kind (noted.damage d s) old x f))
part_fades Kind (ask ∷ asks) (noted ∷ made) outcome d s old x (suc k) (is, inr (fault, failed, none, end)) b f =
    subst (λ calls. IsFading Kind old (replay (take (suc k) (noted ∷ calls)) d s x)) (sym none) (stopped k)
  where
    last : IsFading Kind old (replay (noted ∷ []) d s x)
    last = call_fades Kind noted.call d s old _ (subst (λ a. Brings Kind a d s) (sym is) b.0)
        (hurt_fades Kind (noted.damage d s) old x f)

    stopped : (j : ℕ) → IsFading Kind old (replay (take (suc j) (noted ∷ [])) d s x)
    stopped zero = last
    stopped (suc j) = last

-- What is held of such a sector was held before, or is of this kind.
pub fading_shows : (Kind : List ℕ → Type 0) (old x : Sector) (bytes : List ℕ) → IsFading Kind old x → IsHeld x bytes
    → IsHeld old bytes ⊎ Kind bytes
fading_shows Kind old x bytes f (inl e) = ⊎_elim {A = IsHeld old x.stable} {B = Kind x.stable}
    (λ held. inl (subst (IsHeld old) (sym e) held)) (λ kind. inr (subst Kind (sym e) kind)) f.stable
fading_shows Kind old x bytes f (inr way) = ⊎_elim {A = x.pending ≡ old.pending} {B = IsSent Kind x.pending}
    (λ same. inl (inr (subst (λ p. IsOnTheWay p bytes) same way))) (λ sent. inr (brought x.pending sent way)) f.pending
  where
    brought : (p : Pending) → IsSent Kind p → IsOnTheWay p bytes → Kind bytes
    brought Nothing sent w = absurd w
    brought (Written on_way) sent w = subst Kind (sym w) sent
    brought (Failing on_way) sent w = subst Kind (sym w) sent

covered_below : (at n s : ℕ) → covers at n s ≡ true → (at ≤ s) × (s < at + n)
covered_below at n s e = (grind (arith, common_steps, nat_tests), grind (arith, common_steps, nat_tests))

bring_all_more : (Kind : List ℕ → Type 0) (first second : List Ask) (d s : ℕ) → AllBring Kind first d s
    → AllBring Kind second d s → AllBring Kind (first ++ second) d s
bring_all_more Kind [] second d s a b = b
bring_all_more Kind (ask ∷ first) second d s a b = (a.0, bring_all_more Kind first second d s a.1 b)

zeros_bring : (Kind : List ℕ → Type 0) (dev : ℕ) (labels : List ℕ) (d s : ℕ) → Kind zero_sector
    → AllBring Kind (label_writes dev labels 32 zero_ring) d s
zeros_bring Kind dev [] d s zeros = tt
zeros_bring Kind dev (at ∷ labels) d s zeros = (
  λ c.
      let c' : covers (at + 32) 32 s ≡ true = sym (ap (λ n. covers (at + 32) n s) (ring_sectors zero_ring refl)) ∙ c in
      let in_ring = covered_below (at + 32) 32 s c' in
      subst Kind (sym (ring_sector (s - (at + 32)) (omega (arith, in_ring.0, in_ring.1)))) zeros,
  zeros_bring Kind dev labels d s zeros,
)

one_sector : (bytes : List ℕ) → sectors_in bytes ≡ 1 → (at s : ℕ) → covers at (sectors_in bytes) s ≡ true → s - at ≡ 0
one_sector bytes one at s c =
    let within = covered_below at 1 s (sym (ap (λ n. covers at n s) one) ∙ c) in omega (arith, within.0, within.1)

uberblock_brings : (Kind : List ℕ → Type 0) (dev : ℕ) (labels : List ℕ) (offset : ℕ) (bytes : List ℕ) (d s : ℕ)
    → sectors_in bytes ≡ 1 → Kind (sector_of 0 bytes) → AllBring Kind (label_writes dev labels offset bytes) d s
uberblock_brings Kind dev [] offset bytes d s one kind = tt
uberblock_brings Kind dev (at ∷ labels) offset bytes d s one kind = (
  λ c. subst (λ i. Kind (sector_of i bytes)) (sym (one_sector bytes one (at + offset) s c)) kind,
  uberblock_brings Kind dev labels offset bytes d s one kind,
)

-- a wipe brings zeros
abbrev pub IsWiped : List ℕ → Type 0
IsWiped bytes = bytes ≡ zero_sector

pub wipe_brings : (dev size d s : ℕ) → AllBring IsWiped (wipe_plan dev size) d s
wipe_brings dev size d s =
    bring_all_more IsWiped (label_writes dev (labels_of size) 32 zero_ring) (Flushes dev ∷ []) d s
    (zeros_bring IsWiped dev (labels_of size) d s refl) (tt, tt)

-- a stamp brings zeros and its uberblock
abbrev pub IsStamped : (pool member : Guid) → List ℕ → Type 0
IsStamped pool member bytes = (bytes ≡ zero_sector) ⊎ (bytes ≡ uberblock_bytes (blank_uberblock pool member))

pub stamp_brings : (dev size : ℕ) (pool member : Guid) (d s : ℕ)
    → AllBring (IsStamped pool member) (stamp_plan dev size pool member) d s
stamp_brings dev size pool member d s =
    let bytes = uberblock_bytes (blank_uberblock pool member) in
    let blank : IsStamped pool member (sector_of 0 bytes) =
    inr (whole_sector bytes (length-uberblock (blank_uberblock pool member) (length-zeros 32))) in
    bring_all_more (IsStamped pool member) (label_writes dev (labels_of size) 32 zero_ring)
    (label_writes dev (labels_of size) 32 bytes ++ Flushes dev ∷ []) d s
    (zeros_bring (IsStamped pool member) dev (labels_of size) d s (inl refl))
    (bring_all_more (IsStamped pool member) (label_writes dev (labels_of size) 32 bytes) (Flushes dev ∷ []) d s
    (uberblock_brings (IsStamped pool member) dev (labels_of size) 32 bytes d s
    (uberblock_sectors (blank_uberblock pool member) (length-zeros 32)) blank) (tt, tt))
