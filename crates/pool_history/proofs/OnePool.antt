-- All drawn records stay this pool's.
use Rattle.std.proofs.Common.{◌≡◌, ℕ, List, [], ◌∷◌, ◌++◌, Option, sym, ap, ◌∙◌, subst, inl, inr}
use Rattle.label_store.specs.declared.rule.Head.{Head}
use Rattle.pool_history.specs.Events.{Event, Calls, Accepts, Looks, Opens, Begins, Third, Ends, Acks, Loses, Stops}
use Rattle.pool_history.specs.Moves.{May}
use Rattle.pool_history.specs.Pools.{Pool, drawn, after}
use Rattle.pool_history.specs.Records.{Rec, IsIn, rest_of}

pub pools_kept : (head_of : List ℕ → Option Head) (p : Pool) (v : Event) → ((r : Rec) → IsIn r (drawn p) → r.commit.pool ≡ p.pool) → May head_of p v
    → (r : Rec) → IsIn r (drawn (after v p)) → r.commit.pool ≡ (after v p).pool
pools_kept head_of p (Calls noted) all may r i = all r i
pools_kept head_of p (Accepts a block) all may r i = all r i
pools_kept head_of p (Looks known) all may r i = all r i
pools_kept head_of p (Opens q) all may r i = all r i
pools_kept head_of p (Begins q) all may r (inl e) = ap (λ x. x.commit.pool) e ∙ may.fits.pool_is
pools_kept head_of p (Begins q) all may r (inr i) = all r i
pools_kept head_of p (Third q d) all may r i = all r i
pools_kept head_of p (Ends q d) all may r i = all r i
pools_kept head_of p (Acks q) all may r i = all r (subst (λ l. IsIn r (l ++ p.given)) (sym may.newest) (again p.live may.newest i))
  where
    again : (live : List Rec) → live ≡ q ∷ may.rest → IsIn r ((q ∷ []) ++ (rest_of live ++ p.given)) → IsIn r ((q ∷ may.rest) ++ p.given)
    again live e i = subst (λ l. IsIn r ((q ∷ []) ++ (rest_of l ++ p.given))) e i
pools_kept head_of p (Loses d) all may r i = all r i
pools_kept head_of p (Stops sectors size) all may r i = all r i
