-- Acts of a line that marks what it read: they do what its moves do.
use Rattle.std.proofs.Common.{◌≡◌, ℕ, Bool, true, false, List, [], ◌∷◌, ◌++◌, refl, sym, ap, ◌∙◌}
use Rattle.std.specs.List.{AllByRecursion}
use Rattle.pool_moves.specs.Moves.{Move}
use Rattle.pool_moves.specs.ReadRow.{made_in}
use Rattle.pool_moves.specs.States.{PoolState}
use Rattle.pool_runs.specs.Acts.{Mark, Does, Marks, does, calls_along}
use Rattle.pool_runs.specs.HostRows.{is_reading, marked_behind, marked, ByMarked}
use Rattle.pool_runs.specs.Hosts.{Host, host_by, host_along}
use Rattle.pool_runs.specs.Knowing.{AreOwnActs}
use Rattle.host_core.proofs.CallsOnLeaves.{IsOn}
use Rattle.host_core.proofs.LinesOfHosts.{Does as DoesMoves}
use Rattle.host_core.proofs.PoolsOfHosts.{calls_of, made_first, IsHeld, own_along}

marked_calls : (g : ℕ) (mark : Mark) (vs : List Move) → calls_along (marked (Marks g mark) g vs) ≡ made_in vs
marked_calls g mark [] = refl
marked_calls g mark (v ∷ vs) = by (is_reading v) (marked_calls g mark vs)
  where
    by : (t : Bool) → calls_along (marked (Marks g mark) g vs) ≡ made_in vs
        → calls_along (marked_behind t (Marks g mark) g v vs (marked (Marks g mark) g vs)) ≡ made_in (v ∷ vs)
    by true more = ap (λ l. made_in (v ∷ []) ++ l) more ∙ sym (made_first v vs)
    by false more = calls_of g (v ∷ vs)

marked_host : (g : ℕ) (mark : Mark) (vs : List Move) (h : Host) → host_along (marked (Marks g mark) g vs) h ≡ host_along (does g vs) h
marked_host g mark [] h = refl
marked_host g mark (v ∷ vs) h = by (is_reading v) (marked_host g mark vs (host_by (Does g v) h))
  where
    by : (t : Bool) → host_along (marked (Marks g mark) g vs) (host_by (Does g v) h) ≡ host_along (does g vs) (host_by (Does g v) h)
        → host_along (marked_behind t (Marks g mark) g v vs (marked (Marks g mark) g vs)) h ≡ host_along (does g (v ∷ vs)) h
    by true more = more
    by false more = refl

marked_own : (h : Host) (g : ℕ) (mark : Mark) (vs : List Move) (x : Host) → x.owner ≡ h.owner → AllByRecursion (IsOn (IsHeld h g)) vs
    → AreOwnActs g x (marked (Marks g mark) g vs)
marked_own h g mark [] x same on = (refl, tt)
marked_own h g mark (v ∷ vs) x same on = by (is_reading v) (marked_own h g mark vs (host_by (Does g v) x) same on.1)
  where
    by : (t : Bool) → AreOwnActs g (host_by (Does g v) x) (marked (Marks g mark) g vs)
        → AreOwnActs g x (marked_behind t (Marks g mark) g v vs (marked (Marks g mark) g vs))
    by true more = ((own_along h g x (v ∷ []) same (on.0, tt)).0, more)
    by false more = (refl, own_along h g x (v ∷ vs) same on)

pub marked_moves : (g : ℕ) (mark : Mark) (h : Host) (vs : List Move) → DoesMoves g h vs (marked (Marks g mark) g vs)
marked_moves g mark h vs = record { calls = marked_calls g mark vs; leaves = marked_host g mark vs h }

pub by_marked : (h : Host) (s : PoolState) (mark : List Move → Mark) (Row : List Move → Type 0) (vs : List Move) → Row vs
    → AllByRecursion (IsOn (IsHeld h s.core.pool.0)) vs → ByMarked h s mark Row (marked (Marks s.core.pool.0 (mark vs)) s.core.pool.0 vs)
by_marked h s mark Row vs row on = record { moves = vs; row = row; are = refl; own = marked_own h s.core.pool.0 (mark vs) vs h refl on }
