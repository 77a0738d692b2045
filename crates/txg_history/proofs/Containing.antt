-- What a live record contains: what a read answered at the last freeze before its round.
use Rattle.std.proofs.Common.{◌≡◌, ◌⊎◌, ℕ, List, [], ◌∷◌, refl, sym, ap, ◌∙◌, subst, inl, inr, ⊎_elim}
use Rattle.txg_history.specs.Contents.{frozen_of, BegunAt}
use Rattle.txg_history.specs.Events.{Event, Begins, Acks, Known}
use Rattle.txg_history.specs.Moves.{IsDrawnUp, Mays, ReadsTrue}
use Rattle.txg_history.specs.Openings.{IsYield, FindsLive}
use Rattle.txg_history.specs.Pages.{Codec}
use Rattle.txg_history.specs.Pools.{Pool, after, pool_after}
use Rattle.txg_history.specs.Premises.{Premises}
use Rattle.txg_history.specs.Records.{Rec, IsIn, key, block_at, block_of}
use Rattle.txg_history.specs.Survival.{Survives}
use Rattle.label_store.specs.declared.uberblock.Uberblock.{Uberblock}
use Rattle.txg_history.proofs.Moving.{event_survives}
use Rattle.txg_history.proofs.Surviving.{history_survives}
use Rattle.txg_history.proofs.Yields.{yield_live}

-- A record that is drawn up has what a read answered at the freeze.
pub drawn_contents : (c : Codec) (p : Pool) (q : Rec) → Survives c p → IsDrawnUp c p q → (a : ℕ) → block_at q a ≡ p.group.content a
drawn_contents c p q sv m a = ap block_of (m.cells_are (key 0 a)) ∙ sv.come_to.contents m.frozen a

-- it begins among later events
later_begun : (v : Event) (vs : List Event) (p : Pool) (r : Rec)
    → ((before : List Event) (a : ℕ) → frozen_of before (after v p).written (after v p).group.content a ≡ frozen_of (v ∷ before) p.written p.group.content a)
    → BegunAt (after v p).written (after v p).group.content vs r → BegunAt p.written p.group.content (v ∷ vs) r
later_begun v vs p r same b = record { before = v ∷ b.before; later = b.later; all = ap (λ l. v ∷ l) b.all; content = λ a. b.content a ∙ same b.before a }

or_later : (v : Event) (vs : List Event) (p : Pool) (r : Rec)
    → ((before : List Event) (a : ℕ) → frozen_of before (after v p).written (after v p).group.content a ≡ frozen_of (v ∷ before) p.written p.group.content a)
    → (IsIn r (after v p).live → IsIn r p.live ⊎ BegunAt p.written p.group.content (v ∷ vs) r)
    → IsIn r (after v p).live ⊎ BegunAt (after v p).written (after v p).group.content vs r → IsIn r p.live ⊎ BegunAt p.written p.group.content (v ∷ vs) r
or_later v vs p r same live (inl i) = live i
or_later v vs p r same live (inr b) = inr (later_begun v vs p r same b)

-- What is live behind some events was live before them, or its round began among them with what was accepted before the
-- last freeze before that.
pub live_contents : (c : Codec) (vs : List Event) (p : Pool) (r : Rec) → Survives c p → Mays c p vs → IsIn r
    (pool_after vs p).live → IsIn r p.live ⊎ BegunAt p.written p.group.content vs r
live_contents c [] p r sv mays i = inl i
live_contents c (Begins q ∷ vs) p r sv mays i =
    or_later (Begins q) vs p r (λ before a. refl) (λ i. ⊎_elim
    (λ e. inr (subst (BegunAt p.written p.group.content (Begins q ∷ vs)) (sym e) here)) (λ i. inl i) i)
    (live_contents c vs (after (Begins q) p) r (event_survives c p (Begins q) sv mays.0) mays.1 i)
  where
    here : BegunAt p.written p.group.content (Begins q ∷ vs) q
    here = record { before = []; later = vs; all = refl; content = drawn_contents c p q sv mays.0 }
live_contents c (Acks q ∷ vs) p r sv mays i =
    or_later (Acks q) vs p r (λ before a. refl) (λ i. ⊎_elim (λ e. inl (subst (λ x. IsIn x p.live) (sym e) was)) (λ none. absurd none) i)
    (live_contents c vs (after (Acks q) p) r (event_survives c p (Acks q) sv mays.0) mays.1 i)
  where
    was : IsIn q p.live
    was = subst (IsIn q) (sym mays.0.newest) (inl refl)
live_contents c (v ∷ vs) p r sv mays i =
    or_later v vs p r (λ before a. refl) (λ i. inl i) (live_contents c vs (after v p) r (event_survives c p v sv mays.0) mays.1 i)

-- So it is of what an opening finds.
pub found_contents : (c : Codec) (p : Pool) (vs : List Event) (known : Known) (u : Uberblock) (config : List ℕ) → Survives c p → Mays c p vs
    → ReadsTrue (pool_after vs p).sectors known → Premises c.head_of (pool_after vs p) known → IsYield c.head_of
    (pool_after vs p).size known (pool_after vs p).name u config
    → (f : FindsLive (pool_after vs p) u config) × (IsIn f.found p.live ⊎ BegunAt p.written p.group.content vs f.found)
found_contents c p vs known u config sv mays true_to premises y =
    let f = yield_live c (pool_after vs p) known u config (history_survives c vs p sv mays) true_to premises y in
    (f, live_contents c vs p f.found sv mays f.is_live)
