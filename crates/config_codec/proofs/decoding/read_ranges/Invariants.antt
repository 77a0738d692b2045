use Rattle.std.proofs.Common.{◌≡◌, ◌-◌, ◌*◌, ◌++◌, drop}
use Rattle.config_codec.specs.Reading.{ranges_in}
use Rattle.config_codec.proofs.decoding.read_ranges.Given as goal

abbrev pub invariant-loop : goal.invariant-loop
invariant-loop l = record {
  read : l.ranges ++ ranges_in (l.count - l.counter) l.cursor ≡ ranges_in l.count l.initial.cursor;
  behind : l.cursor ≡ drop (16 * l.counter) l.initial.cursor;
}
