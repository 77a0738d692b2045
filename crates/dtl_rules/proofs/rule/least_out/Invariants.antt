use Rattle.std.proofs.Common.{◌≡◌, ℕ, ◌+◌, ◌-◌, ◌^◌, ◌<◌, ◌≤◌, false}
use Rattle.dtl_rules.specs.Rules.{others, outage_of}
use Rattle.dtl_rules.proofs.rule.least_out.Given as goal

abbrev pub invariant-loop-next : goal.invariant-loop-next
invariant-loop-next l = record {
  first : 1 ≤ l.group;
  last : l.group ≤ 2 ^ 62;
  passed : (g : ℕ) → 1 ≤ g → g < l.group → outage_of (others l.at.0 l.vdev) g ≡ false;
}

abbrev pub decreases-loop-next : goal.decreases-loop-next
decreases-loop-next l = 2 ^ 62 + 1 - l.group
