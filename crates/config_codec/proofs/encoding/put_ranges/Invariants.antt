use Rattle.std.proofs.Common.{◌≡◌, ◌+◌, ◌*◌, take}
use Rattle.std.specs.List.{flat_map}
use Rattle.config_codec.specs.Pieces.{Puts}
use Rattle.config_codec.specs.Spelling.{range_bytes}
use Rattle.config_codec.proofs.encoding.put_ranges.Given as goal

abbrev pub invariant-loop-range : goal.invariant-loop-range
invariant-loop-range l = record {
  piece : Puts l.initial.out l.at (flat_map range_bytes (take l.range-index l.ranges)) l.out l.stop;
  stop : l.stop ≡ l.at + 16 * l.range-index;
}
