use Rattle.std.proofs.Common.{◌≡◌, ℕ, ◌+◌, ◌*◌, List, Some}
use Rattle.std.specs.Prelude.{slice_get}
use Rattle.label_store.specs.Newest.{Parts, IsBest}
use Rattle.label_store.proofs.opening.best_of.Given as goal

abbrev pub invariant-loop-place : goal.invariant-loop-place
invariant-loop-place g l = (looks : List Parts) (i : ℕ) → slice_get looks i ≡ Some l.parts → IsBest g.R.BlobRule.head_of looks l.name (128 * i) l.initial.best
    → IsBest g.R.BlobRule.head_of looks l.name (128 * i + l.place) l.best
