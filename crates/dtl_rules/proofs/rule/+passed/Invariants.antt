use Rattle.std.proofs.Common.{take}
use Rattle.std.specs.List.{flat_map}
use Rattle.dtl_rules.specs.Rules.{others, PassedTo}
use Rattle.dtl_rules.proofs.rule.+passed.Given as goal

abbrev pub invariant-loop-child : goal.invariant-loop-child
invariant-loop-child l = PassedTo (flat_map (others l.at.0) (take l.child-index l.child-items)) l.fn.from l.group
