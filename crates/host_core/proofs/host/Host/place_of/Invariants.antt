use Rattle.std.specs.Prelude.{◌≡◌, None, take}
use Rattle.std.specs.List.{find}
use Rattle.host_core.specs.Naming.{is_called}
use Rattle.host_core.proofs.host.Host.place_of.Given as goal

abbrev pub invariant-loop-place : goal.invariant-loop-place
invariant-loop-place l = find (is_called l.name) (take l.place l.self.pools) ≡ None
