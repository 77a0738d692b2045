-- A history keeps the invariant, and the invariant is more than soundness.
use Rattle.std.proofs.Common.{◌≡◌, ℕ, ◌+◌, Bool, true, false, List, [], ◌∷◌, take, zero, suc, Some, refl, sym, ap, ◌∙◌, subst}
use Rattle.bank_core.specs.Disk.{Sector, Noted, CrashImages, after_crash}
use Rattle.txg_history.specs.Events.{Event, Calls}
use Rattle.txg_history.specs.Moves.{AreUnforged, IsTrueTo, MayStop, May, Mays}
use Rattle.txg_history.specs.Needs.{Held, IsPut}
use Rattle.txg_history.specs.Pages.{Codec}
use Rattle.txg_history.specs.Pools.{Pool, after, pool_after}
use Rattle.txg_history.specs.Records.{data_start}
use Rattle.txg_history.specs.Sound.{IsSound}
use Rattle.txg_history.specs.Survival.{Survives}
use Rattle.txg_history.proofs.Folding.{mays_front}
use Rattle.txg_history.proofs.Moving.{event_survives}
use Rattle.txg_history.proofs.Placing.{place_safe}
use Rattle.std.specs.Prelude.{slice_get}

-- the whole history does
pub history_survives : (c : Codec) (vs : List Event) (p : Pool) → Survives c p → Mays c p vs → Survives c (pool_after vs p)
history_survives c [] p sv may = sv
history_survives c (v ∷ vs) p sv may = history_survives c vs (after v p) (event_survives c p v sv may.0) may.1

-- and so does each front of it
pub survives_throughout : (c : Codec) (p : Pool) (vs : List Event) → Survives c p → Mays c p vs → (k : ℕ) → Survives c (pool_after (take k vs) p)
survives_throughout c p vs sv may k = history_survives c (take k vs) p sv (mays_front c vs k p may)

held_of : (f : Bool) (x : Sector) (b : List ℕ) → f ≡ true → IsPut f x b → Held x b
held_of true x b e put = put
held_of false x b e put = absurd (cc)

pub survives_sound : (c : Codec) (p : Pool) → Survives c p → IsSound p
survives_sound c p sv = record {
  records_whole = λ r d g i is lacks k cell at born top. sv.cells d (data_start + cell.sector) cell.block is (record {
    r = r;
    is_live = i;
    k = k;
    cell = cell;
    cell_is = at;
    in_top = sym top;
    has = ap (r.owes (p.guid d)) born ∙ lacks;
    at = record { sector_is = refl; bytes_are = refl };
  });
  current_whole = λ d g is lacks k cell at born top. sv.current d (data_start + cell.sector) cell.block is (record {
    k = k;
    cell = cell;
    cell_is = at;
    top_is = sym top;
    has = ap (p.owes d) born ∙ lacks;
    at = record { sector_is = refl; bytes_are = refl };
  });
  places_safe = λ r k cell i at free. place_safe c p sv r k cell i at free;
  flushed_group = λ f e d k cell is on top at.
      held_of p.group.flushed (p.sectors d (data_start + cell.sector)) cell.block e (sv.puts d (data_start + cell.sector) cell.block is (record {
        is_frozen = f;
        on_board = on;
        k = k;
        cell = cell;
        cell_is = at;
        top_is = top;
        ended = sv.come_to.flushed_all f e k cell at;
        at = record { sector_is = refl; bytes_are = refl };
      }));
  scanned_copies = λ running d k cell is on at top passed low clean. sv.scanned d (data_start + cell.sector) cell.block is (record {
    running = running;
    is_eligible = on;
    k = k;
    cell = cell;
    cell_is = at;
    top_is = top;
    is_passed = passed;
    low = low;
    not_scrubbed = clean;
    at = record { sector_is = refl; bytes_are = refl };
  });
}

-- an event of a history was allowed where it came
pub may_at : (c : Codec) (vs : List Event) (p : Pool) (k : ℕ) (v : Event) → Mays c p vs → slice_get vs k ≡ Some v → May c (pool_after (take k vs) p) v
may_at c [] p k v may at = absurd (cc)
may_at c (w ∷ vs) p zero v may at = subst (May c p) (same w v at) may.0
  where
    same : (w v : Event) → Some w ≡ Some v → w ≡ v
    same w v e = cc
may_at c (w ∷ vs) p (suc k) v may at = may_at c vs (after w p) k v may.1 at

-- Each call of a history writes at the place of a live record's key just that key's bytes.
pub calls_true : (c : Codec) (p : Pool) (vs : List Event) → Mays c p vs → (k : ℕ) (noted : Noted) → slice_get vs k ≡ Some (Calls noted)
    → IsTrueTo (pool_after (take k vs) p) noted.call
calls_true c p vs may k noted at = (may_at c vs p k (Calls noted) may at).true_to

-- A crash of the devices is one of the things that the next run may begin with.
pub crash_may : (p : Pool) (images : ℕ → ℕ → List ℕ) → CrashImages p.sectors images → AreUnforged p images → MayStop p (after_crash p.sectors images)
crash_may p images are unforged = record {
  still = λ d s is. refl;
  shows = λ d s is clean. are d s clean;
  damage = λ d s is damaged. damaged;
  unforged = unforged;
}
