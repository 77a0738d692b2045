-- Calls on other pools' devices spare a pool.
use Rattle.std.proofs.Common.{◌≡◌, ◌≢◌, inl, ℕ, ◌==◌, ◌&&◌, true, false, [], ◌∷◌, Option, Some, refl, ap, subst}
use Rattle.bank_core.specs.Disk.{Call, Write, Admit, Eject, Noted, covers, sectors_in}
use Rattle.bank_core.specs.Standing.{touches}
use Rattle.txg_history.specs.Events.{Calls}
use Rattle.txg_history.specs.Moves.{IsPlain, IsSparing, Mays}
use Rattle.txg_history.specs.Pages.{Codec}
use Rattle.txg_history.specs.Pools.{Pool}
use Rattle.txg_history.proofs.Logging.{by_bool, same_device, true_not_false}
use Rattle.pool_runs.specs.Knowing.{IsOwnCall}

-- a call that touches no member's sector
pub untouched_sparing : (p : Pool) (call : Call) → IsPlain call → ((d s : ℕ) → p.member d ≡ true → touches call d s ≡ false) → IsSparing p call
untouched_sparing p call plain off = record {
  plain = plain;
  firm = λ d s bytes is need. off d s is;
  soft = λ d s bytes is need. inl (off d s is);
  true_to = λ r d k cell live is at top there. true_not_false (touches call d _) there (off d _ is);
  known = λ d place is inside there. true_not_false (touches call d _) there (off d _ is);
}

own_plain : (g : ℕ) (owner : ℕ → Option ℕ) (call : Call) → IsOwnCall g owner call → IsPlain call
own_plain g owner (Admit dev holds) own = own
own_plain g owner (Eject dev) own = own
own_plain g owner call own = tt

own_untouched : (g : ℕ) (owner : ℕ → Option ℕ) (p : Pool) (call : Call) → ((d k : ℕ) → owner d ≡ Some k → k ≢ p.pool.0 → p.member d ≡ false) → g ≢ p.pool.0 → IsOwnCall g owner call
    → (d s : ℕ) → p.member d ≡ true → touches call d s ≡ false
own_untouched g owner p (Write dev at bytes fault) apart off own d s is = by_bool (dev == d)
    (λ here. true_not_false (p.member d) is (apart d g (subst (λ e. owner e ≡ Some g) (same_device dev d here) own) off))
    (λ away. ap (λ t. t && covers at (sectors_in bytes) s) away)
own_untouched g owner p (Admit dev holds) apart off own d s is = absurd own
own_untouched g owner p (Eject dev) apart off own d s is = absurd own
own_untouched g owner p call apart off own d s is = refl

-- a call of another pool
pub other_call : (c : Codec) (g : ℕ) (owner : ℕ → Option ℕ) (p : Pool) (noted : Noted) → ((d k : ℕ) → owner d ≡ Some k → k ≢ p.pool.0 → p.member d ≡ false) → g ≢ p.pool.0
    → IsOwnCall g owner noted.call → Mays c p (Calls noted ∷ [])
other_call c g owner p noted apart off own = (untouched_sparing p noted.call (own_plain g owner noted.call own) (own_untouched g owner p noted.call apart off own), tt)
