use Rattle.label_store.proofs.Openings.{LacksBelow}
use Rattle.label_store.proofs.opening.config_in.Given as goal

abbrev pub invariant-loop-label : goal.invariant-loop-label
invariant-loop-label g l = LacksBelow g.R.BlobRule.head_of l.parts l.name l.u l.label
