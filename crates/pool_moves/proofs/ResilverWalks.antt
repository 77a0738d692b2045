-- A resilver may start by itself, and an opening may be committed.
use Rattle.std.proofs.Common.{◌≡◌, inl, inr, ℕ, Bool, true, false, Option, Some, None, List, [], ◌∷◌, ◌++◌, refl, sym, subst, arith}
use Rattle.txg_history.specs.Moves.{MayScan}
use Rattle.txg_history.specs.Pages.{Codec}
use Rattle.txg_history.specs.Pools.{Pool}
use Rattle.txg_history.specs.Records.{number_of}
use Rattle.txg_history.specs.Scans.{Scan}
use Rattle.pool_moves.specs.FreezeRow.{up_devs}
use Rattle.pool_moves.specs.Keeping.{Kept, Walks}
use Rattle.pool_moves.specs.LineRows.{IsSized, TurnReply, Committed}
use Rattle.pool_moves.specs.Moves.{Move, Scan_from, Rest, steps, after_move, after_moves}
use Rattle.pool_moves.specs.OpeningRow.{ResumesBy, ResumesUnless, RowResume, lacking_of}
use Rattle.pool_moves.specs.Resilvers.{rest_if, StartsResilver, Resilvers}
use Rattle.pool_moves.specs.States.{scan_seen, PoolState, Side, seen}
use Rattle.pool_moves.proofs.LineWalks.{reopen_walks}
use Rattle.pool_moves.proofs.FreeWalks.{walks_more}
use Rattle.pool_moves.proofs.Keeping.{walk_keeps}

may_scan : (p : Pool) → p.opened ≡ true → MayScan p (number_of p.reads)
may_scan p opened = record { opened = opened; hi_low = omega arith }

scan_at : (c : Codec) (t : Side) (running : Bool) (eligible : ℕ → Bool) → t.pool.opened ≡ true
    → Walks c t (rest_if running ++ (Scan_from (number_of t.pool.reads) eligible ∷ []))
scan_at c t false eligible opened = (((may_scan t.pool opened, tt), tt), tt)
scan_at c t true eligible opened = (((tt, tt), tt), (((may_scan (after_move Rest t).pool opened, tt), tt), tt))

starts_at : (c : Codec) (s : PoolState) (t : Side) (vs : List Move) → Kept c s t → StartsResilver (seen t) vs → Walks c t vs
starts_at c s t vs kept row = subst (Walks c t) (sym row.moves)
    (subst (λ b. Walks c t (rest_if b ++ (Scan_from (number_of t.pool.reads) (up_devs (seen t).leaves) ∷ [])))
    (sym (running_seen t.pool.scan.running t.pool.scan))
    (scan_at c t t.pool.scan.running (up_devs (seen t).leaves) row.opened))
  where
    running_seen : (b : Bool) (scan : Scan) → (scan_seen b scan).running ≡ b
    running_seen true scan = refl
    running_seen false scan = refl

pub resilver_walks : (c : Codec) (s : PoolState) (t : Side) (vs : List Move) → Kept c s t → Resilvers s.core vs → Walks c t vs
resilver_walks c s t vs kept (inl starts) = starts_at c s t vs kept (subst (λ core. StartsResilver core vs) kept.core starts)
resilver_walks c s t vs kept (inr none) = subst (Walks c t) (sym none.1) tt

resumes_by : (c : Codec) (reply : TurnReply) (s : PoolState) (t : Side) (vs : List Move) → Kept c s t → ResumesBy reply s vs → Walks c t vs
resumes_by c (Committed number) s t vs kept row = resilver_walks c s t vs kept row
resumes_by c reply s t vs kept row = subst (Walks c t) (sym row) tt

resumes_unless : (c : Codec) (lacking : Option ℕ) (size : ℕ → ℕ) (s : PoolState) (t : Side) (vs : List Move) (reply : TurnReply) → Kept c s t
    → IsSized size t → ResumesUnless lacking c size s vs reply → Walks c t vs
resumes_unless c (Some top) size s t vs reply kept same row = subst (Walks c t) (sym row.0) tt
resumes_unless c None size s t vs reply kept same row =
    let first = reopen_walks c size s t row.first reply kept same row.row in
    subst (Walks c t) (sym row.moves) (walks_more c row.first row.rest t first
    (resumes_by c reply (steps row.first s) (after_moves row.first t) row.rest (walk_keeps c row.first s t first kept) row.resumes))

-- The commit of an opening.
pub resume_walks : (c : Codec) (size : ℕ → ℕ) (s : PoolState) (t : Side) (vs : List Move) (reply : TurnReply) → Kept c s t → IsSized size t
    → RowResume c size s vs reply → Walks c t vs
resume_walks c size s t vs reply kept same row = resumes_unless c (lacking_of s.core.leaves s.core.leaves) size s t vs reply kept same row
