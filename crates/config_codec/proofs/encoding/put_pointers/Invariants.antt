use Rattle.std.proofs.Common.{◌≡◌, ◌+◌, ◌*◌, take}
use Rattle.std.specs.List.{flat_map}
use Rattle.config_codec.specs.Pieces.{Puts}
use Rattle.config_codec.specs.Spelling.{pointer_bytes}
use Rattle.config_codec.proofs.encoding.put_pointers.Given as goal

abbrev pub invariant-loop-slot : goal.invariant-loop-slot
invariant-loop-slot l = record {
  piece : Puts l.initial.out l.at (flat_map pointer_bytes (take l.slot-index l.pointers)) l.out l.stop;
  stop : l.stop ≡ l.at + 52 * l.slot-index;
}
