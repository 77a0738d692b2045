-- The device calls of stamps.
use Rattle.std.proofs.Common.{◌≡◌, ℕ, List, [], ◌∷◌, ◌++◌, refl, ap, ◌∙◌}
use Rattle.pool_moves.specs.StampRow.{Stamp, calls_of_stamps}
use Rattle.pool_runs.specs.Acts.{calls_along}
use Rattle.pool_runs.specs.Creating.{stamp_acts}
use Rattle.pool_runs.proofs.OpeningActs.{bare_calls}

pub stamp_calls : (g : ℕ) (stamps : List Stamp) → calls_along (stamp_acts g stamps) ≡ calls_of_stamps stamps
stamp_calls g [] = refl
stamp_calls g (stamp ∷ stamps) = bare_calls stamp.made (stamp_acts g stamps) ∙ ap (λ more. stamp.made ++ more) (stamp_calls g stamps)
