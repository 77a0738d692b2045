-- A history keeps the invariant, and the invariant is more than soundness.
use Rattle.std.proofs.Common.{◌≡◌, ◌⊎◌, ℕ, ◌+◌, true, List, [], ◌∷◌, take, Option, refl, sym, ap, ◌∙◌, subst, inl, inr}
use Rattle.bank_core.specs.Disk.{Sector, CrashImages, after_crash}
use Rattle.label_store.specs.declared.rule.Head.{Head}
use Rattle.pool_history.specs.Events.{Event}
use Rattle.pool_history.specs.Moves.{AreUnforged, MayStop, Mays}
use Rattle.pool_history.specs.Needs.{Held}
use Rattle.pool_history.specs.Pools.{Pool, after, pool_after}
use Rattle.pool_history.specs.Records.{Rec, IsIn, data_start}
use Rattle.pool_history.specs.Sound.{IsOnTheWay, Keeps, IsWhole, IsSound}
use Rattle.pool_history.specs.Survival.{Survives}
use Rattle.pool_history.proofs.Folding.{mays_front}
use Rattle.pool_history.proofs.Moving.{event_survives}

-- the whole history does
pub history_survives : (head_of : List ℕ → Option Head) (vs : List Event) (p : Pool) → Survives head_of p → Mays head_of p vs → Survives head_of (pool_after vs p)
history_survives head_of [] p sv may = sv
history_survives head_of (v ∷ vs) p sv may = history_survives head_of vs (after v p) (event_survives head_of p v sv may.0) may.1

-- and so does each front of it
pub survives_throughout : (head_of : List ℕ → Option Head) (p : Pool) (vs : List Event) → Survives head_of p → Mays head_of p vs
    → (k : ℕ) → Survives head_of (pool_after (take k vs) p)
survives_throughout head_of p vs sv may k = history_survives head_of (take k vs) p sv (mays_front head_of vs k p may)

-- a sector that is held keeps its block
held_keeps : (x : Sector) (block : List ℕ) → Held x block → Keeps x block
held_keeps x block h = of h.stands
  where
    of : (x.stable ≡ block) ⊎ (x.damaged ≡ true) → Keeps x block
    of (inl e) = inl (e, h.still)
    of (inr e) = inr (e, subst (λ pending. IsOnTheWay pending block) (sym h.still) tt)

live_whole : (head_of : List ℕ → Option Head) (p : Pool) (r : Rec) (d : ℕ) → Survives head_of p → IsIn r p.live → p.member d ≡ true → IsWhole p r d
live_whole head_of p r d sv live is a cell at has =
    held_keeps (p.sectors d (data_start + cell.sector)) cell.block (sv.held d (data_start + cell.sector) cell.block
    (is, inr (record { r = r; is_live = live; a = a; cell = cell; cell_is = at; has = has; sector_is = refl; bytes_are = refl })))

pub survives_sound : (head_of : List ℕ → Option Head) (p : Pool) → Survives head_of p → IsSound p
survives_sound head_of p sv = record {
  records_whole = λ r d live is. live_whole head_of p r d sv live is;
  current_whole = λ d is. live_whole head_of p p.reads d sv sv.reads_live is;
  places_safe = λ idle r a cell live at free. free a cell (ap (λ r. r.cells a) (sym (sv.idle_alone idle r live)) ∙ at) refl;
}

-- What a crash leaves of the devices is one of the things that the next run may begin with.
pub crash_may : (p : Pool) (images : ℕ → ℕ → List ℕ) → CrashImages p.sectors images → AreUnforged p images → MayStop p (after_crash p.sectors images)
crash_may p images are unforged = record {
  still = λ d s is. refl;
  shows = λ d s is clean. are d s clean;
  damage = λ d s is damaged. damaged;
  unforged = unforged;
}
