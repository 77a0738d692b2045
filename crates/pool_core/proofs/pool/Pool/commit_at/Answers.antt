use Rattle.std.proofs.Common.{sym, ◌∙◌}
use Rattle.std.proofs.lemmas.List.{length-set}
use Rattle.pool_core.proofs.Validating.{valid_next}
use Rattle.pool_core.proofs.pool.Pool.commit_at.Goals as goal

pub invariant_of-self-clause-valid : goal.invariant_of-self-clause-valid
invariant_of-self-clause-valid c = valid_next c.args.self.now c.args.at c.next_pointer-next.result c.next_pointer-next.ensures

pub invariant_of-self-clause-paired : goal.invariant_of-self-clause-paired
invariant_of-self-clause-paired c =
    length-set c.args.self.now.writes.items c.args.at _ ∙ c.args.self.now.paired ∙ sym (length-set c.args.self.now.pointers.items c.args.at c.next_pointer-next.result)
