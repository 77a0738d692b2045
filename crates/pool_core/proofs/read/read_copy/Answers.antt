use Rattle.std.proofs.Common.{rules, sym}
use Rattle.bank_core.proofs.Blocks.{block_whole, block_inside}
use Rattle.pool_core.proofs.Tries.{tries_copy, failed_copy, other_copy, good_copy, differs, same_sum}
use Rattle.pool_core.proofs.read.read_copy.Goals as goal

pub read-requires-clause-whole : goal.read-requires-clause-whole
read-requires-clause-whole g c = block_whole c.args.out.now c.requires.block

pub read-requires-clause-inside : goal.read-requires-clause-inside
read-requires-clause-inside g c = block_inside c.args.out.now c.args.at _ c.requires.block c.requires.inside

pub returns-then-is_err-clause-copy : goal.returns-then-is_err-clause-copy
returns-then-is_err-clause-copy g c =
    tries_copy c.read.result (search rules) c.read.ensures (failed_copy c.read.result _ _ (sym c.if-is_err.ensures.value))

pub returns-then-ne-clause-copy : goal.returns-then-ne-clause-copy
returns-then-ne-clause-copy g c =
    tries_copy c.read.result (search rules) c.read.ensures (other_copy c.read.result _ _ (sym c.if-is_err.ensures.value)
    (differs _ _ (rw c.digest.ensures at c.if-ne.ensures)))

pub returns-clause-copy : goal.returns-clause-copy
returns-clause-copy g c =
    tries_copy c.read.result (search rules) c.read.ensures (good_copy c.read.result _ _ (sym c.if-is_err.ensures.value)
    (same_sum _ _ (rw c.digest.ensures at c.if-ne.ensures)))
