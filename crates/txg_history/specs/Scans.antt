-- Scans.
use Rattle.std.specs.Prelude.{ℕ, nat_le, nat_lt, ◌==◌, ◌&&◌, ◌||◌, Bool, true, false, cond}
use Rattle.mp_base.specs.declared.place.Key.{Key}
use Rattle.txg_history.specs.Groups.{Logs, no_log}

-- The scan that runs, or that was last.
pub record Scan : Type 0 where
  pub running : Bool
  -- it handles keys born up to this number
  pub hi : ℕ
  -- leaves, by their devices, that were readable at its start and stayed so
  pub eligible : ℕ → Bool
  -- keys that it has come past
  pub passed : Key → Bool
  -- the births of keys that it could not bring to the leaf
  pub scrub : Logs

-- key j is not above key k, in the order of levels and then of indexes
abbrev pub up_to : (k j : Key) → Bool
up_to k j = nat_lt j.level k.level || (j.level == k.level) && nat_le j.index k.index

abbrev pub started : (hi : ℕ) → (eligible : ℕ → Bool) → Scan
started hi eligible = record { running = true; hi = hi; eligible = eligible; passed = λ k. false; scrub = no_log }

abbrev pub at_rest : Scan → Scan
at_rest scan = record scan { running = false }

abbrev pub no_scan : Scan
no_scan = at_rest (started 0 (λ d. false))

-- a log behind a scan: of the groups up to hi those alone that the scan could not bring
abbrev pub scanned_log : Scan → (d : ℕ) → (ℕ → Bool) → ℕ → Bool
scanned_log scan d log g = cond (nat_le g scan.hi) (scan.scrub d g) (log g)
