use Rattle.std.proofs.Common.{◌≡◌, ◌-◌, ◌*◌, ◌++◌, drop}
use Rattle.config_codec.specs.Reading.{pointers_in}
use Rattle.config_codec.proofs.decoding.read_pointers.Given as goal

abbrev pub invariant-loop : goal.invariant-loop
invariant-loop l = record {
  read : l.pointers.items ++ pointers_in (l.blocks - l.counter) l.cursor ≡ pointers_in l.blocks l.initial.cursor;
  behind : l.cursor ≡ drop (52 * l.counter) l.initial.cursor;
}
