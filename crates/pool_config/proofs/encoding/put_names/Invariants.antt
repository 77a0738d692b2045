use Rattle.std.proofs.Common.{◌+◌, ◌*◌, ◌≤◌, take}
use Rattle.std.specs.List.{flat_map}
use Rattle.pool_config.specs.Pieces.{Puts}
use Rattle.pool_config.specs.Spelling.{text_bytes}
use Rattle.pool_config.proofs.encoding.put_names.Given as goal

abbrev pub invariant-loop-name : goal.invariant-loop-name
invariant-loop-name l = record {
  piece : Puts l.initial.out l.at (flat_map text_bytes (take l.name-index l.names)) l.out l.stop;
  stop : l.stop ≤ l.at + 65 * l.name-index;
}
