use Rattle.std.proofs.Common.{arith, ◌*◌}
use Rattle.std.proofs.lemmas.List.FromFn.{fill_by_all}
use Rattle.block_map.specs.Pointers.{hole}
use Rattle.block_map.specs.Pages.{pointer_in}
use Rattle.block_map.proofs.page.read_pointers.Goals as goal

pub returns-clause-value : goal.returns-clause-value
returns-clause-value c =
    fill_by_all (λ j. pointer_in (52 * j) c.args.bytes.now) c.loop-j.out 64 hole c.loop-j.invariant.1 (λ k less. (c.loop-j.invariant.0 k (omega arith)).0)
