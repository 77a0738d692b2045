-- Each opening of a history at whose looks the premises hold finds a live record.
use Rattle.std.proofs.Common.{◌≡◌, ℕ, zero, suc, List, [], ◌∷◌, Option, Some, take, subst}
use Rattle.std.specs.Prelude.{slice_get}
use Rattle.label_store.specs.declared.rule.Head.{Head}
use Rattle.txg_history.specs.Events.{Event, Known, Looks}
use Rattle.txg_history.specs.Moves.{ReadsTrue, Mays}
use Rattle.txg_history.specs.Openings.{Finds}
use Rattle.txg_history.specs.Pages.{Codec}
use Rattle.txg_history.specs.Pools.{Pool, after, pool_after}
use Rattle.txg_history.specs.Premises.{Premises, AreGood}
use Rattle.txg_history.specs.Survival.{Survives}
use Rattle.txg_history.proofs.Surviving.{may_at, survives_throughout}
use Rattle.txg_history.proofs.Yields.{finds_some, yield_live}

same_look : (a b : Known) → Some (Looks a) ≡ Some (Looks b) → a ≡ b
same_look a b e = cc

good_at : (head_of : List ℕ → Option Head) (vs : List Event) (p : Pool) (k : ℕ) (known : Known) → AreGood head_of p vs → slice_get vs k ≡ Some (Looks known)
    → Premises head_of (pool_after (take k vs) p) known
good_at head_of [] p k known good at = absurd (cc)
good_at head_of (Looks other ∷ vs) p zero known good at = subst (Premises head_of p) (same_look other known at) good.0
good_at head_of (Looks other ∷ vs) p (suc k) known good at = good_at head_of vs p k known good.1 at
good_at head_of (v ∷ vs) p zero known good at = absurd (cc)
good_at head_of (v ∷ vs) p (suc k) known good at = good_at head_of vs (after v p) k known good at

pub looks_find : (c : Codec) (p : Pool) (vs : List Event) (k : ℕ) (known : Known) → Survives c p → Mays c p vs → AreGood c.head_of p vs
    → slice_get vs k ≡ Some (Looks known) → Finds c (pool_after (take k vs) p) known
looks_find c p vs k known sv mays good at =
    let q : Pool = pool_after (take k vs) p in
    let here : Survives c q = survives_throughout c p vs sv mays k in
    let reads : ReadsTrue q.sectors known = may_at c vs p k (Looks known) mays at in
    let premises : Premises c.head_of q known = good_at c.head_of vs p k known good at in
    record { some = finds_some c q known here reads premises; each = λ u config y. yield_live c q known u config here reads premises y }
