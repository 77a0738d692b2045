-- What a call, more damage and a stop leave of a sector that keeps a block, or where one has landed or was copied.
use Rattle.std.proofs.Common.{◌≡◌, ◌⊎◌, ℕ, ◌-◌, ◌==◌, ◌&&◌, Bool, true, false, cond, List, Option, Some, None, refl, sym, subst, inl, inr, is_none}
use Rattle.bank_core.specs.declared.bank.Fault.{Fault}
use Rattle.bank_core.specs.Disk.{
  Sector,
  Pending,
  Nothing,
  Written,
  Failing,
  Call,
  Read,
  Write,
  Flush,
  Admit,
  Eject,
  Noted,
  covers,
  sectors_in,
  sector_of,
  hurt,
  after_write,
  after_flush,
  effect,
  after_call,
  IsClean,
}
use Rattle.bank_core.specs.Standing.{touches}
use Rattle.txg_history.specs.Moves.{IsPlain, puts}
use Rattle.txg_history.specs.Needs.{Held, IsOnTheWay, Keeps, Landed, Copied, IsPut}
use Rattle.txg_history.proofs.Holding.{hurt_held, call_held, stop_held}

-- a call puts nothing there, or just the block where the sector is damaged
abbrev pub IsSoft : Call → (d s : ℕ) → Sector → List ℕ → Type 0
IsSoft call d s x b = (touches call d s ≡ false) ⊎ ((x.damaged ≡ true) × (puts call s ≡ b))

on_the_way : (p : Pending) (b : List ℕ) → p ≡ Nothing → IsOnTheWay p b
on_the_way p b e = subst (λ p. IsOnTheWay p b) (sym e) tt

pub held_keeps : (x : Sector) (b : List ℕ) → Held x b → Keeps x b
held_keeps x b h = of h.stands
  where
    of : (x.stable ≡ b) ⊎ (x.damaged ≡ true) → Keeps x b
    of (inl e) = inl (e, h.still)
    of (inr e) = inr (e, on_the_way x.pending b h.still)

pub hurt_keeps : (damage : Bool) (x : Sector) (b : List ℕ) → Keeps x b → Keeps (hurt damage x) b
hurt_keeps damage x b (inl k) = inl k
hurt_keeps true x b (inr k) = inr (refl, k.1)
hurt_keeps false x b (inr k) = inr k

pub hurt_soft : (call : Call) (damage : Bool) (d s : ℕ) (x : Sector) (b : List ℕ) → IsSoft call d s x b → IsSoft call d s (hurt damage x) b
hurt_soft call damage d s x b (inl e) = inl e
hurt_soft call true d s x b (inr e) = inr (refl, e.1)
hurt_soft call false d s x b (inr e) = inr e

written_over : (fault : Option Fault) (bytes b : List ℕ) → bytes ≡ b → IsOnTheWay (after_write fault bytes) b
written_over None bytes b e = e
written_over (Some fault) bytes b e = e

write_keeps : (t : Bool) (fault : Option Fault) (bytes b : List ℕ) (x : Sector) → (t ≡ false) ⊎ ((x.damaged ≡ true) × (bytes ≡ b)) → Keeps x b
    → Keeps (cond t (record { stable = x.stable; pending = after_write fault bytes; damaged = x.damaged }) x) b
write_keeps false fault bytes b x soft k = k
write_keeps true fault bytes b x (inl e) k = absurd (cc)
write_keeps true fault bytes b x (inr e) k = inr (e.0, written_over fault bytes b e.1)

flushed_keeps : (p : Pending) (x : Sector) (b : List ℕ) → x.pending ≡ p → IsOnTheWay p b → x.damaged ≡ true → Keeps (after_flush p x) b
flushed_keeps Nothing x b e way d = inr (d, on_the_way x.pending b e)
flushed_keeps (Written c) x b e way d = inl (way, refl)
flushed_keeps (Failing c) x b e way d = inr (d, subst (λ p. IsOnTheWay p b) (sym e) way)

flush_keeps : (t : Bool) (x : Sector) (b : List ℕ) → Keeps x b → Keeps (cond t (after_flush x.pending x) x) b
flush_keeps false x b k = k
flush_keeps true x b (inl k) = subst (λ p. Keeps (after_flush p x) b) (sym k.1) (inl k)
flush_keeps true x b (inr k) = flushed_keeps x.pending x b refl k.1 k.0

pub call_keeps : (call : Call) (d s : ℕ) (x : Sector) (b : List ℕ) → IsPlain call → IsSoft call d s x b → Keeps x b → Keeps (effect call d s x) b
call_keeps (Read dev at bytes fault) d s x b plain soft k = k
call_keeps (Write dev at bytes fault) d s x b plain soft k = write_keeps
    ((dev == d) && covers at (sectors_in bytes) s) fault (sector_of (s - at) bytes) b x soft k
call_keeps (Flush dev fault) d s x b plain soft k = flush_keeps ((dev == d) && is_none fault) x b k
call_keeps (Admit dev holds) d s x b plain soft k = absurd plain
call_keeps (Eject dev) d s x b plain soft k = absurd plain

-- with the damage that comes with it
pub noted_keeps : (noted : Noted) (d s : ℕ) (x : Sector) (b : List ℕ) → IsPlain noted.call → IsSoft noted.call d s x b
    → Keeps x b → Keeps (after_call noted d s x) b
noted_keeps noted d s x b plain soft k =
    call_keeps noted.call d s (hurt (noted.damage d s) x) b plain (hurt_soft noted.call (noted.damage d s) d s x b soft) (hurt_keeps (noted.damage d s) x b k)

pub stop_keeps : (x y : Sector) (b : List ℕ) → y.pending ≡ Nothing → (IsClean x → y.stable ≡ x.stable)
    → (x.damaged ≡ true → y.damaged ≡ true) → Keeps x b → Keeps y b
stop_keeps x y b still shows damage (inl k) =
    held_keeps y b (stop_held x y b still shows damage (record { still = k.1; stands = inl k.0 }))
stop_keeps x y b still shows damage (inr k) = inr (damage k.0, on_the_way y.pending b still)

-- what is on the way there is flushed, or stays
landed_flush : (t : Bool) (x : Sector) (b : List ℕ) → x.pending ≡ Written b → Landed (cond t (after_flush x.pending x) x) b
landed_flush false x b e = inl e
landed_flush true x b e = subst (λ p. Landed (after_flush p x) b) (sym e) (inr (record { still = refl; stands = inl refl }))

landed_write : (t : Bool) (y x : Sector) (b : List ℕ) → t ≡ false → x.pending ≡ Written b → Landed (cond t y x) b
landed_write t y x b off e = rw off (inl e)

way_landed : (call : Call) (d s : ℕ) (x : Sector) (b : List ℕ) → touches call d s ≡ false → x.pending ≡ Written b → Landed (effect call d s x) b
way_landed (Read dev at bytes fault) d s x b off e = inl e
way_landed (Write dev at bytes fault) d s x b off e = landed_write ((dev == d) && covers at (sectors_in bytes) s) _ x b off e
way_landed (Flush dev fault) d s x b off e = landed_flush ((dev == d) && is_none fault) x b e
way_landed (Admit dev holds) d s x b off e = landed_write (dev == d) _ x b off e
way_landed (Eject dev) d s x b off e = inl e

pub noted_landed : (noted : Noted) (d s : ℕ) (x : Sector) (b : List ℕ) → touches noted.call d s ≡ false → Landed x b → Landed (after_call noted d s x) b
noted_landed noted d s x b off (inl e) = way_landed noted.call d s (hurt (noted.damage d s) x) b off e
noted_landed noted d s x b off (inr h) = inr (call_held noted.call d s (hurt (noted.damage d s) x) b off (hurt_held (noted.damage d s) x b h))

pub noted_held : (noted : Noted) (d s : ℕ) (x : Sector) (b : List ℕ) → touches noted.call d s ≡ false → Held x b → Held (after_call noted d s x) b
noted_held noted d s x b off h = call_held noted.call d s (hurt (noted.damage d s) x) b off (hurt_held (noted.damage d s) x b h)

pub noted_put : (flushed : Bool) (noted : Noted) (d s : ℕ) (x : Sector) (b : List ℕ) → touches noted.call d s ≡ false
    → IsPut flushed x b → IsPut flushed (after_call noted d s x) b
noted_put true noted d s x b off h = noted_held noted d s x b off h
noted_put false noted d s x b off h = noted_landed noted d s x b off h

landed_copied : (x : Sector) (b : List ℕ) → Landed x b → Copied x b
landed_copied x b (inl e) = inr e
landed_copied x b (inr h) = inl (held_keeps x b h)

-- the block is written again
again_copied : (t : Bool) (fault : Option Fault) (bytes b : List ℕ) (x : Sector) → x.damaged ≡ true → bytes ≡ b → x.pending ≡ Written b
    → Copied (cond t (record { stable = x.stable; pending = after_write fault bytes; damaged = x.damaged }) x) b
again_copied false fault bytes b x d e is = inr is
again_copied true fault bytes b x d e is = inl (inr (d, written_over fault bytes b e))

way_copied : (call : Call) (d s : ℕ) (x : Sector) (b : List ℕ) → IsPlain call → IsSoft call d s x b → x.pending ≡ Written b → Copied (effect call d s x) b
way_copied call d s x b plain (inl off) e = landed_copied (effect call d s x) b (way_landed call d s x b off e)
way_copied (Read dev at bytes fault) d s x b plain (inr soft) e = inr e
way_copied (Write dev at bytes fault) d s x b plain (inr soft) e =
    again_copied ((dev == d) && covers at (sectors_in bytes) s) fault (sector_of (s - at) bytes) b x soft.0 soft.1 e
way_copied (Flush dev fault) d s x b plain (inr soft) e = landed_copied (effect (Flush dev fault) d s x) b (landed_flush ((dev == d) && is_none fault) x b e)
way_copied (Admit dev holds) d s x b plain (inr soft) e = absurd plain
way_copied (Eject dev) d s x b plain (inr soft) e = absurd plain

pub noted_copied : (noted : Noted) (d s : ℕ) (x : Sector) (b : List ℕ) → IsPlain noted.call → IsSoft noted.call d s x b
    → Copied x b → Copied (after_call noted d s x) b
noted_copied noted d s x b plain soft (inl k) = inl (noted_keeps noted d s x b plain soft k)
noted_copied noted d s x b plain soft (inr e) =
    way_copied noted.call d s (hurt (noted.damage d s) x) b plain (hurt_soft noted.call (noted.damage d s) d s x b soft) e
