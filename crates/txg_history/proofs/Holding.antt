-- What a call and a stop leave of a sector that is held, and of a ring's sector.
use Rattle.std.proofs.Common.{◌≡◌, ◌⊎◌, ℕ, ◌-◌, ◌==◌, ◌&&◌, Bool, true, false, cond, List, ◌∷◌, Option, Some, None, refl, sym, ◌∙◌, subst, inl, inr, is_none}
use Rattle.bank_core.specs.declared.bank.Fault.{Fault}
use Rattle.bank_core.specs.Disk.{
  Sector,
  Pending,
  Nothing,
  Written,
  Failing,
  Call,
  Read,
  Write,
  Flush,
  Admit,
  Eject,
  Noted,
  covers,
  sectors_in,
  sector_of,
  hurt,
  after_write,
  after_flush,
  effect,
  after_call,
  IsClean,
}
use Rattle.bank_core.specs.Standing.{touches}
use Rattle.txg_history.specs.Moves.{IsPlain, puts}
use Rattle.txg_history.specs.Needs.{Held}
use Rattle.txg_history.specs.Pools.{noted_since}
use Rattle.txg_history.specs.Survival.{IsAmong, IsNoted}

written_nothing : (b : List ℕ) → Written b ≡ Nothing → ⊥
written_nothing b e = cc

failing_nothing : (b : List ℕ) → Failing b ≡ Nothing → ⊥
failing_nothing b e = cc

hurt_more : (damage was : Bool) → was ≡ true → cond damage true was ≡ true
hurt_more true was e = refl
hurt_more false was e = e

-- damage leaves it held
pub hurt_held : (damage : Bool) (x : Sector) (b : List ℕ) → Held x b → Held (hurt damage x) b
hurt_held damage x b h = record { still = h.still; stands = of h.stands }
  where
    of : (x.stable ≡ b) ⊎ (x.damaged ≡ true) → (x.stable ≡ b) ⊎ (cond damage true x.damaged ≡ true)
    of (inl e) = inl e
    of (inr e) = inr (hurt_more damage x.damaged e)

flush_held : (t : Bool) (p : Pending) (x : Sector) (b : List ℕ) → p ≡ Nothing → Held x b → Held (cond t (after_flush p x) x) b
flush_held true Nothing x b e h = h
flush_held true (Written c) x b e h = absurd (written_nothing c e)
flush_held true (Failing c) x b e h = absurd (failing_nothing c e)
flush_held false p x b e h = h

-- a call that puts nothing there does
pub call_held : (call : Call) (d s : ℕ) (x : Sector) (b : List ℕ) → touches call d s ≡ false → Held x b → Held (effect call d s x) b
call_held (Read dev at bytes fault) d s x b e h = h
call_held (Write dev at bytes fault) d s x b e h = rw e h
call_held (Flush dev fault) d s x b e h = flush_held ((dev == d) && is_none fault) x.pending x b h.still h
call_held (Admit dev holds) d s x b e h = rw e h
call_held (Eject dev) d s x b e h = h

-- and a stop: what is clean shows what it held, and what is damaged stays so
pub stop_held : (x y : Sector) (b : List ℕ) → y.pending ≡ Nothing → (IsClean x → y.stable ≡ x.stable)
    → (x.damaged ≡ true → y.damaged ≡ true) → Held x b → Held y b
stop_held x y b still shows damage h = record { still = still; stands = by_test x.damaged refl h.stands }
  where
    by_test : (t : Bool) → x.damaged ≡ t → (x.stable ≡ b) ⊎ (x.damaged ≡ true) → (y.stable ≡ b) ⊎ (y.damaged ≡ true)
    by_test true is st = inr (damage is)
    by_test false is (inl e) = inl (shows (record { still = h.still; sound = is }) ∙ e)
    by_test false is (inr e) = inr (damage e)

-- What stands on a sector, what was written to it in this run and what is on the way there, all of one kind.
pub record AreAll (P : List ℕ → Type 0) (x : Sector) (since : List (List ℕ)) : Type 0 where
  pub stable : P x.stable
  pub since_all : (bytes : List ℕ) → IsAmong bytes since → P bytes
  pub pending : IsNoted x.pending since

-- bytes of that kind are written there
pub write_all : (P : List ℕ → Type 0) (fault : Option Fault) (bytes : List ℕ) (x : Sector) (since : List (List ℕ)) → P bytes → AreAll P x since
    → AreAll P (record { stable = x.stable; pending = after_write fault bytes; damaged = x.damaged }) (bytes ∷ since)
write_all P fault bytes x since is all = record { stable = all.stable; since_all = of; pending = on_the_way fault }
  where
    of : (b : List ℕ) → IsAmong b (bytes ∷ since) → P b
    of b (inl e) = subst P (sym e) is
    of b (inr more) = all.since_all b more

    on_the_way : (fault : Option Fault) → IsNoted (after_write fault bytes) (bytes ∷ since)
    on_the_way None = inl refl
    on_the_way (Some f) = inl refl

flush_all : (P : List ℕ → Type 0) (p : Pending) (x : Sector) (since : List (List ℕ)) → x.pending ≡ p → AreAll P x since → AreAll P (after_flush p x) since
flush_all P Nothing x since e all = all
flush_all P (Written b) x since e all = record {
  stable = all.since_all b
      (subst (λ p. IsNoted p since) e all.pending);
  since_all = all.since_all;
  pending = tt;
}
flush_all P (Failing b) x since e all = all

hurt_all : (P : List ℕ → Type 0) (damage : Bool) (x : Sector) (since : List (List ℕ)) → AreAll P x since → AreAll P (hurt damage x) since
hurt_all P damage x since all = record { stable = all.stable; since_all = all.since_all; pending = all.pending }

write_if : (P : List ℕ → Type 0) (t : Bool) (fault : Option Fault) (bytes : List ℕ) (x : Sector) (since : List (List ℕ))
    → (t ≡ true → P bytes) → AreAll P x since
    → AreAll P (cond t (record { stable = x.stable; pending = after_write fault bytes; damaged = x.damaged }) x) (cond t (bytes ∷ since) since)
write_if P true fault bytes x since is all = write_all P fault bytes x since (is refl) all
write_if P false fault bytes x since is all = all

flush_if : (P : List ℕ → Type 0) (t : Bool) (x : Sector) (since : List (List ℕ)) → AreAll P x since → AreAll P (cond t (after_flush x.pending x) x) since
flush_if P true x since all = flush_all P x.pending x since refl all
flush_if P false x since all = all

-- A call puts nothing of another kind there.
pub call_all : (P : List ℕ → Type 0) (call : Call) (d s : ℕ) (x : Sector) (since : ℕ → ℕ → List (List ℕ)) → IsPlain call
    → (touches call d s ≡ true → P (puts call s)) → AreAll P x (since d s) → AreAll P (effect call d s x) (noted_since call since d s)
call_all P (Read dev at bytes fault) d s x since plain is all = all
call_all P (Write dev at bytes fault) d s x since plain is all =
    write_if P ((dev == d) && covers at (sectors_in bytes) s) fault (sector_of (s - at) bytes) x (since d s) is all
call_all P (Flush dev fault) d s x since plain is all = flush_if P ((dev == d) && is_none fault) x (since d s) all
call_all P (Admit dev holds) d s x since plain is all = absurd plain
call_all P (Eject dev) d s x since plain is all = absurd plain

-- with the damage that comes with it
pub noted_all : (P : List ℕ → Type 0) (noted : Noted) (d s : ℕ) (x : Sector) (since : ℕ → ℕ → List (List ℕ)) → IsPlain noted.call
    → (touches noted.call d s ≡ true → P (puts noted.call s)) → AreAll P x (since d s) → AreAll P (after_call noted d s x) (noted_since noted.call since d s)
noted_all P noted d s x since plain is all = call_all P noted.call d s (hurt (noted.damage d s) x) since plain is
    (hurt_all P (noted.damage d s) x (since d s) all)
