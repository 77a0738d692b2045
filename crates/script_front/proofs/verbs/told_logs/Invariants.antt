use Rattle.std.proofs.Common.{◌≡◌, map}
use Rattle.script_front.specs.Converting.{told_log}
use Rattle.script_front.proofs.verbs.told_logs.Given as goal

abbrev pub invariant-loop-log : goal.invariant-loop-log
invariant-loop-log l = l.leaves ≡ map told_log l.yielded
