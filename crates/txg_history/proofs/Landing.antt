-- What a whole part of one member brings to a sector, through the phase of all.
use Rattle.std.proofs.Common.{
  ◌≡◌,
  ◌≢◌,
  ℕ,
  zero,
  suc,
  ◌+◌,
  ◌-◌,
  nat_le,
  nat_lt,
  ◌==◌,
  ◌&&◌,
  Bool,
  true,
  false,
  cond,
  List,
  [],
  ◌∷◌,
  length,
  Some,
  None,
  refl,
  sym,
  ap,
  ◌∙◌,
  subst,
  inl,
  inr,
  arith,
}
use Rattle.std.specs.Prelude.{slice_get}
use Rattle.std.proofs.lemmas.Bool.Decides.{nat_tests}
use Rattle.bank_core.specs.Asks.{Ask, Writes, Flushes, ask_of, IsPart}
use Rattle.bank_core.specs.Calls.{fault_of}
use Rattle.bank_core.specs.Disk.{
  Sector,
  Pending,
  Nothing,
  Written,
  Failing,
  Call,
  Read,
  Write,
  Flush,
  Admit,
  Eject,
  Noted,
  replay,
  hurt,
  effect,
  after_call,
  after_flush,
  covers,
  sectors_in,
  sector_of,
}
use Rattle.bank_core.specs.Standing.{Untouched}
use Rattle.bank_core.proofs.Composing.{replay_more}
use Rattle.label_store.specs.declared.member.Member.{Member}
use Rattle.label_store.specs.Phases.{IsTurn, IsPhase}
use Rattle.label_store.proofs.Keeping.{same_member, no_member, whole_part}
use Rattle.txg_history.specs.Needs.{Held, Landed}
use Rattle.txg_history.proofs.Holding.{hurt_held}
use Rattle.txg_history.proofs.Keeping.{noted_landed, noted_held}

-- what landed stays behind calls that put nothing there, and so does what is held
pub untouched_landed : (made : List Noted) (d s : ℕ) (x : Sector) (b : List ℕ) → Untouched made d s → Landed x b → Landed (replay made d s x) b
untouched_landed [] d s x b u l = l
untouched_landed (noted ∷ made) d s x b u l = untouched_landed made d s (after_call noted d s x) b u.1 (noted_landed noted d s x b u.0 l)

pub untouched_held : (made : List Noted) (d s : ℕ) (x : Sector) (b : List ℕ) → Untouched made d s → Held x b → Held (replay made d s x) b
untouched_held [] d s x b u h = h
untouched_held (noted ∷ made) d s x b u h = untouched_held made d s (after_call noted d s x) b u.1 (noted_held noted d s x b u.0 h)

-- A member that ends the phase brings a sector from one state to another, and the turns of the others keep both.
pub phase_brings : (plan : Member → List Ask) (P Q : Sector → Type 0) (ms : List Member) (was is : List Bool)
    (made : List Noted) (i : ℕ) (m : Member) (d s : ℕ) (x : Sector)
    → slice_get ms i ≡ Some m → slice_get is i ≡ Some true
    → ((j : ℕ) (n : Member) → slice_get ms j ≡ Some n → j ≢ i → (b c : Bool) (mine : List Noted) (y : Sector) → IsTurn
    (plan n) b c mine → P y → P (replay mine d s y))
    → ((j : ℕ) (n : Member) → slice_get ms j ≡ Some n → j ≢ i → (b c : Bool) (mine : List Noted) (y : Sector) → IsTurn
    (plan n) b c mine → Q y → Q (replay mine d s y))
    → ((mine : List Noted) (y : Sector) → IsPart (plan m) mine None → P y → Q (replay mine d s y))
    → IsPhase plan ms was is made → P x → Q (replay made d s x)
phase_brings plan P Q [] was is made i m d s x e f keep_p keep_q brings ph px = absurd (no_member m e)
phase_brings plan P Q (n ∷ ms) [] is made i m d s x e f keep_p keep_q brings ph px = absurd ph
phase_brings plan P Q (n ∷ ms) (b ∷ was) [] made i m d s x e f keep_p keep_q brings ph px = absurd ph
phase_brings plan P Q (n ∷ ms) (b ∷ was) (c ∷ is) made zero m d s x e f keep_p keep_q brings ph px =
    subst (λ calls. Q (replay calls d s x)) (sym ph.2)
    (subst Q (sym (replay_more ph.0 ph.1 d s x))
    (keeps_rest plan Q ms was is ph.1 d s (replay ph.0 d s x) (λ j n' e'. keep_q (suc j) n' e' (omega arith)) ph.4
    (brings ph.0 x (subst (λ o. IsPart (plan o) ph.0 None) (same_member n m e)
    (whole_part (plan n) b ph.0 (subst (λ c. IsTurn (plan n) b c ph.0) (same_bool c true f) ph.3))) px)))
  where
    same_bool : (b c : Bool) → Some b ≡ Some c → b ≡ c
    same_bool b c e = cc

    keeps_rest : (plan : Member → List Ask) (Q : Sector → Type 0) (ms : List Member) (was is : List Bool) (made : List Noted) (d s : ℕ) (x : Sector)
        → ((j : ℕ) (n : Member) → slice_get ms j ≡ Some n → (b c : Bool) (mine : List Noted) (y : Sector) → IsTurn
        (plan n) b c mine → Q y → Q (replay mine d s y))
        → IsPhase plan ms was is made → Q x → Q (replay made d s x)
    keeps_rest plan Q [] [] [] made d s x keep ph q = subst (λ calls. Q (replay calls d s x)) (sym ph) q
    keeps_rest plan Q [] [] (c ∷ is) made d s x keep ph q = absurd ph
    keeps_rest plan Q [] (b ∷ was) is made d s x keep ph q = absurd ph
    keeps_rest plan Q (m ∷ ms) [] is made d s x keep ph q = absurd ph
    keeps_rest plan Q (m ∷ ms) (b ∷ was) [] made d s x keep ph q = absurd ph
    keeps_rest plan Q (m ∷ ms) (b ∷ was) (c ∷ is) made d s x keep ph q =
        subst (λ calls. Q (replay calls d s x)) (sym ph.2)
        (subst Q (sym (replay_more ph.0 ph.1 d s x))
        (keeps_rest plan Q ms was is ph.1 d s (replay ph.0 d s x) (λ j n e. keep (suc j) n e) ph.4 (keep zero m refl b c ph.0 x ph.3 q)))
phase_brings plan P Q (n ∷ ms) (b ∷ was) (c ∷ is) made (suc i) m d s x e f keep_p keep_q brings ph px =
    subst (λ calls. Q (replay calls d s x)) (sym ph.2)
    (subst Q (sym (replay_more ph.0 ph.1 d s x))
    (phase_brings plan P Q ms was is ph.1 i m d s (replay ph.0 d s x) e f
    (λ j n' e' ne. keep_p (suc j) n' e' (omega (arith, ne))) (λ j n' e' ne. keep_q (suc j) n' e' (omega (arith, ne))) brings ph.4
    (keep_p zero n refl (omega arith) b c ph.0 x ph.3 px)))

-- the one call of a whole part of one ask
one_call : (ask : Ask) (mine : List Noted) → IsPart (ask ∷ []) mine None → (noted : Noted) × (mine ≡ noted ∷ [])
    × (ask_of noted.call ≡ ask) × (fault_of noted.call ≡ None)
one_call ask [] part = absurd part
one_call ask (noted ∷ []) (is, inl (ok, more)) = (noted, refl, is, ok)
one_call ask (noted ∷ other ∷ more) (is, inl (ok, rest)) = absurd rest
one_call ask (noted ∷ more) (is, inr (fault, failed, none, end)) = absurd (cc)

-- a write of a block that answered Ok
write_is : (call : Call) (dev at : ℕ) (bytes : List ℕ) → ask_of call ≡ Writes dev at bytes → fault_of call ≡ None → call ≡ Write dev at bytes None
write_is (Read dev' at' bytes' fault) dev at bytes e f = absurd (cc)
write_is (Write dev' at' bytes' fault) dev at bytes e f = cc
write_is (Flush dev' fault) dev at bytes e f = absurd (cc)
write_is (Admit dev' holds) dev at bytes e f = absurd (cc)
write_is (Eject dev') dev at bytes e f = absurd (cc)

flush_is : (call : Call) (dev : ℕ) → ask_of call ≡ Flushes dev → fault_of call ≡ None → call ≡ Flush dev None
flush_is (Read dev' at' bytes' fault) dev e f = absurd (cc)
flush_is (Write dev' at' bytes' fault) dev e f = absurd (cc)
flush_is (Flush dev' fault) dev e f = cc
flush_is (Admit dev' holds) dev e f = absurd (cc)
flush_is (Eject dev') dev e f = absurd (cc)

-- behind it the block is on the way
written_lands : (dev at : ℕ) (block : List ℕ) (y : Sector) → length block ≡ 4096 → sectors_in block ≡ 1 → sector_of (at - at) block ≡ block
    → (effect (Write dev at block None) dev at y).pending ≡ Written block
written_lands dev at block y long one first = of ((dev == dev) && covers at (sectors_in block) at) (there (sectors_in block) one)
  where
    same_dev : (dev == dev) ≡ true
    same_dev = grind (arith, nat_tests)

    there : (n : ℕ) → n ≡ 1 → ((dev == dev) && covers at n at) ≡ true
    there n e = rw same_dev (let low = at_low in let high = at_high n e in rw (low, high) refl)
      where
        at_low : nat_le at at ≡ true
        at_low = grind (arith, nat_tests)

        at_high : (n : ℕ) → n ≡ 1 → nat_lt at (at + n) ≡ true
        at_high n e = grind (arith, nat_tests)

    of : (t : Bool) → t ≡ true → (cond t
        (record {
          stable = y.stable;
          pending = Written (sector_of
              (at - at) block);
          damaged = y.damaged;
        }) y).pending ≡ Written block
    of true e = ap Written first
    of false e = absurd (cc)

pub write_lands : (dev at : ℕ) (block : List ℕ) (mine : List Noted) (y : Sector) → length block ≡ 4096
    → sectors_in block ≡ 1 → sector_of (at - at) block ≡ block
    → IsPart (Writes dev at block ∷ []) mine None → Landed (replay mine dev at y) block
write_lands dev at block mine y long one first part =
    let w = one_call (Writes dev at block) mine part in
    subst (λ calls. Landed (replay calls dev at y) block) (sym w.1)
    (inl (subst (λ call. (effect call dev at (hurt (w.0.damage dev at) y)).pending ≡ Written block) (sym (write_is w.0.call dev at block w.2 w.3))
    (written_lands dev at block (hurt (w.0.damage dev at) y) long one first)))

-- a flush that answered Ok makes it stable
flushed_holds : (p : Pending) (y : Sector) (b : List ℕ) → y.pending ≡ p → Landed y b → Held (after_flush p y) b
flushed_holds Nothing y b e (inl w) = absurd (cc)
flushed_holds Nothing y b e (inr h) = h
flushed_holds (Written w) y b e (inl is) = record { still = refl; stands = inl (same (sym e ∙ is)) }
  where
    same : Written w ≡ Written b → w ≡ b
    same e = cc
flushed_holds (Written w) y b e (inr h) = absurd (never (sym e ∙ h.still))
  where
    never : Written w ≡ Nothing → ⊥
    never e = cc
flushed_holds (Failing w) y b e (inl is) = absurd (never (sym e ∙ is))
  where
    never : Failing w ≡ Written b → ⊥
    never e = cc
flushed_holds (Failing w) y b e (inr h) = absurd (never (sym e ∙ h.still))
  where
    never : Failing w ≡ Nothing → ⊥
    never e = cc

hurt_landed : (damage : Bool) (y : Sector) (b : List ℕ) → Landed y b → Landed (hurt damage y) b
hurt_landed damage y b (inl e) = inl e
hurt_landed damage y b (inr h) = inr (hurt_held damage y b h)

pub flush_holds : (dev s : ℕ) (b : List ℕ) (mine : List Noted) (y : Sector) → IsPart (Flushes dev ∷ []) mine None → Landed y b → Held (replay mine dev s y) b
flush_holds dev s b mine y part landed =
    let w = one_call (Flushes dev) mine part in
    subst (λ calls. Held (replay calls dev s y) b) (sym w.1)
    (subst (λ call. Held (effect call dev s (hurt (w.0.damage dev s) y)) b) (sym (flush_is w.0.call dev w.2 w.3))
    (of ((dev == dev) && true) same_dev))
  where
    same_dev : ((dev == dev) && true) ≡ true
    same_dev = let e : (dev == dev) ≡ true = grind (arith, nat_tests) in rw e refl

    of : (t : Bool) → t ≡ true → Held (cond t
        (after_flush y.pending (hurt ((one_call (Flushes dev) mine part).0.damage dev s) y))
        (hurt ((one_call (Flushes dev) mine part).0.damage dev s) y)) b
    of true e = flushed_holds y.pending (hurt ((one_call (Flushes dev) mine part).0.damage dev s) y) b refl
        (hurt_landed ((one_call (Flushes dev) mine part).0.damage dev s) y b landed)
    of false e = absurd (cc)
