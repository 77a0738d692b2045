use Rattle.std.proofs.Common.{◌≡◌, ◌<◌, drop, length}
use Rattle.std.specs.Prelude.{slice_get}
use Rattle.open_pool.specs.Creating.{names_of}
use Rattle.open_pool.proofs.create.name_at.Given as goal

abbrev pub invariant-loop-i : goal.invariant-loop-i
invariant-loop-i l = record {
  there : slice_get (names_of l.tops) l.place ≡ slice_get (names_of (drop l.i l.tops)) l.rest;
  inside : l.rest < length (names_of (drop l.i l.tops));
}
