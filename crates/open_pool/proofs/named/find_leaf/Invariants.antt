use Rattle.std.specs.Prelude.{◌≡◌, None, take}
use Rattle.std.specs.List.{find}
use Rattle.open_pool.proofs.NamesFound.{has_named}
use Rattle.open_pool.proofs.named.find_leaf.Given as goal

abbrev pub invariant-loop-place : goal.invariant-loop-place
invariant-loop-place l = find (has_named l.name) (take l.place l.tops) ≡ None
