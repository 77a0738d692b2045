-- What stays on a sector while calls are made elsewhere, and what a whole part brings onto it.
use Rattle.std.proofs.Common.{◌≡◌, ℕ, ◌-◌, ◌==◌, ◌&&◌, Bool, true, false, cond, List, [], ◌∷◌, ◌++◌, take, zero, suc, Option, None, refl, sym, ap, ◌∙◌, ◌⊎◌, inl, inr, arith, subst, is_none}
use Rattle.std.proofs.lemmas.Bool.Decides.{nat_tests}
use Rattle.std.proofs.lemmas.Option.{none-some}
use Rattle.bank_core.specs.declared.bank.Fault.{Fault}
use Rattle.bank_core.specs.Asks.{Ask, Writes, Flushes, ask_of, IsPart}
use Rattle.bank_core.specs.Calls.{fault_of}
use Rattle.bank_core.specs.Disk.{Sector, Pending, Nothing, Written, Failing, Call, Read, Write, Flush, Admit, Eject, Noted, sectors_in, sector_of, covers, hurt, after_flush, effect, replay}
use Rattle.bank_core.specs.Standing.{Stands, touches, Untouched, aims, Spares}

alike : (n : ℕ) → (n == n) ≡ true
alike n = grind (arith, nat_tests)

hurt_stands : (damage : Bool) (x : Sector) (b : List ℕ) → Stands x b → Stands (hurt damage x) b
hurt_stands damage x b st = record { stable = st.stable; still = st.still }

flush_stands : (t : Bool) (p : Pending) (x : Sector) (b : List ℕ) → p ≡ Nothing → Stands x b → Stands (cond t (after_flush p x) x) b
flush_stands true Nothing x b e st = st
flush_stands true (Written c) x b e st = absurd (cc)
flush_stands true (Failing c) x b e st = absurd (cc)
flush_stands false p x b e st = st

call_stands : (call : Call) (d s : ℕ) (x : Sector) (b : List ℕ) → touches call d s ≡ false → Stands x b → Stands (effect call d s x) b
call_stands (Read dev at bytes fault) d s x b e st = st
call_stands (Write dev at bytes fault) d s x b e st = rw e st
call_stands (Flush dev fault) d s x b e st = flush_stands ((dev == d) && is_none fault) x.pending x b st.still st
call_stands (Admit dev holds) d s x b e st = rw e st
call_stands (Eject dev) d s x b e st = st

-- calls elsewhere leave what stands
pub untouched_stands : (calls : List Noted) (d s : ℕ) (x : Sector) (b : List ℕ) → Untouched calls d s → Stands x b → Stands (replay calls d s x) b
untouched_stands [] d s x b u st = st
untouched_stands (noted ∷ calls) d s x b u st =
    untouched_stands calls d s _ b u.1 (call_stands noted.call d s _ b u.0 (hurt_stands (noted.damage d s) x b st))

pub untouched_more : (first second : List Noted) (d s : ℕ) → Untouched first d s → Untouched second d s → Untouched (first ++ second) d s
untouched_more [] second d s a b = b
untouched_more (noted ∷ first) second d s a b = (a.0, untouched_more first second d s a.1 b)

pub untouched_front : (calls : List Noted) (k d s : ℕ) → Untouched calls d s → Untouched (take k calls) d s
untouched_front calls zero d s u = tt
untouched_front [] (suc k) d s u = tt
untouched_front (noted ∷ calls) (suc k) d s u = (u.0, untouched_front calls k d s u.1)

pub spares_more : (first second : List Ask) (d s : ℕ) → Spares first d s → Spares second d s → Spares (first ++ second) d s
spares_more [] second d s a b = b
spares_more (ask ∷ first) second d s a b = (a.0, spares_more first second d s a.1 b)

aims_touches : (call : Call) (d s : ℕ) → touches call d s ≡ aims (ask_of call) d s
aims_touches (Read dev at bytes fault) d s = refl
aims_touches (Write dev at bytes fault) d s = refl
aims_touches (Flush dev fault) d s = refl
aims_touches (Admit dev holds) d s = refl
aims_touches (Eject dev) d s = refl

asked_touches : (call : Call) (ask : Ask) (d s : ℕ) → ask_of call ≡ ask → aims ask d s ≡ false → touches call d s ≡ false
asked_touches call ask d s e f = aims_touches call d s ∙ ap (λ a. aims a d s) e ∙ f

-- a part spares what its asks spare
pub part_spares : (asks : List Ask) (made : List Noted) (outcome : Option Fault) (d s : ℕ) → IsPart asks made outcome → Spares asks d s → Untouched made d s
part_spares [] [] outcome d s p sp = tt
part_spares [] (noted ∷ made) outcome d s p sp = absurd p
part_spares (ask ∷ asks) [] outcome d s p sp = tt
part_spares (ask ∷ asks) (noted ∷ made) outcome d s (is, inl (ok, more)) sp =
    (asked_touches noted.call ask d s is sp.0, part_spares asks made outcome d s more sp.1)
part_spares (ask ∷ asks) (noted ∷ made) outcome d s (is, inr (fault, failed, none, end)) sp =
    (asked_touches noted.call ask d s is sp.0, subst (λ calls. Untouched calls d s) (sym none) tt)

-- these bytes are on the way, or stand
Promised : Sector → List ℕ → Type 0
Promised x b = (x.pending ≡ Written b) ⊎ Stands x b

hurt_promises : (damage : Bool) (x : Sector) (b : List ℕ) → Promised x b → Promised (hurt damage x) b
unfolding Promised
hurt_promises damage x b (inl e) = inl e
hurt_promises damage x b (inr st) = inr (hurt_stands damage x b st)

flush_promises : (t : Bool) (p : Pending) (x : Sector) (b : List ℕ) → x.pending ≡ p → p ≡ Written b → Promised (cond t (after_flush p x) x) b
unfolding Promised
flush_promises true p x b same e = rw e (inr (record { stable = refl; still = refl }))
flush_promises false p x b same e = inl (same ∙ e)

call_promises : (call : Call) (d s : ℕ) (x : Sector) (b : List ℕ) → touches call d s ≡ false → Promised x b → Promised (effect call d s x) b
unfolding Promised
call_promises (Read dev at bytes fault) d s x b e p = p
call_promises (Write dev at bytes fault) d s x b e p = rw e p
call_promises (Flush dev fault) d s x b e (inl w) = flush_promises ((dev == d) && is_none fault) x.pending x b refl w
call_promises (Flush dev fault) d s x b e (inr st) = inr (flush_stands ((dev == d) && is_none fault) x.pending x b st.still st)
call_promises (Admit dev holds) d s x b e p = rw e p
call_promises (Eject dev) d s x b e p = p

same_write : (dev dev' at at' : ℕ) (bytes bytes' : List ℕ) → Writes dev at bytes ≡ Writes dev' at' bytes' → (dev ≡ dev') × (at ≡ at') × (bytes ≡ bytes')
same_write dev dev' at at' bytes bytes' e = (cc, cc, cc)

write_promises : (call : Call) (d at : ℕ) (bytes : List ℕ) (s : ℕ) (x : Sector) → ask_of call ≡ Writes d at bytes → fault_of call ≡ None
    → covers at (sectors_in bytes) s ≡ true → Promised (effect call d s x) (sector_of (s - at) bytes)
unfolding Promised
write_promises (Read dev at' bytes' fault) d at bytes s x is ok c = absurd (cc)
write_promises (Write dev at' bytes' fault) d at bytes s x is ok c =
    let same = same_write dev d at' at bytes' bytes is in
    rw (same.0, same.1, same.2, alike d, c, ok) (inl refl)
write_promises (Flush dev fault) d at bytes s x is ok c = absurd (cc)
write_promises (Admit dev holds) d at bytes s x is ok c = absurd (cc)
write_promises (Eject dev) d at bytes s x is ok c = absurd (cc)

same_flush : (dev dev' : ℕ) → Flushes dev ≡ Flushes dev' → dev ≡ dev'
same_flush dev dev' e = cc

flushed_stands : (p : Pending) (x : Sector) (b : List ℕ) → x.pending ≡ p → p ≡ Written b → Stands (after_flush p x) b
flushed_stands p x b same e = rw e (record { stable = refl; still = refl })

flush_keeps : (p : Pending) (x : Sector) (b : List ℕ) → p ≡ Nothing → Stands x b → Stands (after_flush p x) b
flush_keeps p x b e st = rw e st

flush_lands : (call : Call) (d s : ℕ) (x : Sector) (b : List ℕ) → ask_of call ≡ Flushes d → fault_of call ≡ None → Promised x b → Stands (effect call d s x) b
unfolding Promised
flush_lands (Read dev at bytes fault) d s x b is ok p = absurd (cc)
flush_lands (Write dev at bytes fault) d s x b is ok p = absurd (cc)
flush_lands (Flush dev fault) d s x b is ok (inl w) = rw (same_flush dev d is, alike d, ok) (flushed_stands x.pending x b refl w)
flush_lands (Flush dev fault) d s x b is ok (inr st) = rw (same_flush dev d is, alike d, ok) (flush_keeps x.pending x b st.still st)
flush_lands (Admit dev holds) d s x b is ok p = absurd (cc)
flush_lands (Eject dev) d s x b is ok p = absurd (cc)

rest_lands : (rest : List Ask) (made : List Noted) (d s : ℕ) (x : Sector) (b : List ℕ) → Promised x b → Spares rest d s
    → IsPart (rest ++ Flushes d ∷ []) made None → Stands (replay made d s x) b
rest_lands [] [] d s x b p sp part = absurd part
rest_lands [] (noted ∷ []) d s x b p sp (is, inl (ok, more)) = flush_lands noted.call d s _ b is ok (hurt_promises (noted.damage d s) x b p)
rest_lands [] (noted ∷ other ∷ made) d s x b p sp (is, inl (ok, more)) = absurd more
rest_lands [] (noted ∷ made) d s x b p sp (is, inr (fault, failed, none, end)) = absurd (none-some fault end)
rest_lands (ask ∷ rest) [] d s x b p sp part = absurd part
rest_lands (ask ∷ rest) (noted ∷ made) d s x b p sp (is, inl (ok, more)) =
    rest_lands rest made d s _ b (call_promises noted.call d s _ b (asked_touches noted.call ask d s is sp.0) (hurt_promises (noted.damage d s) x b p)) sp.1 more
rest_lands (ask ∷ rest) (noted ∷ made) d s x b p sp (is, inr (fault, failed, none, end)) = absurd (none-some fault end)

-- What a write of a whole part brought stands behind the part's flush, if no later ask of it aims there.
pub part_lands : (d at : ℕ) (bytes : List ℕ) (rest : List Ask) (made : List Noted) (s : ℕ) (x : Sector)
    → covers at (sectors_in bytes) s ≡ true → Spares rest d s → IsPart (Writes d at bytes ∷ (rest ++ Flushes d ∷ [])) made None
    → Stands (replay made d s x) (sector_of (s - at) bytes)
part_lands d at bytes rest [] s x c sp part = absurd part
part_lands d at bytes rest (noted ∷ made) s x c sp (is, inl (ok, more)) =
    rest_lands rest made d s _ _ (write_promises noted.call d at bytes s _ is ok c) sp more
part_lands d at bytes rest (noted ∷ made) s x c sp (is, inr (fault, failed, none, end)) = absurd (none-some fault end)
