-- Which bytes are a configuration, as the labels' rule.
use Rattle.std.specs.Prelude.{List, ℕ, Option}
use Rattle.std.specs.Option.{option_map}
use Rattle.label_store.specs.declared.rule.Head.{Head}
use Rattle.config_codec.specs.Fields.{Fields}
use Rattle.config_codec.specs.Reading.{config_in}

abbrev pub head_from : Fields → Head
head_from c = record { pool = c.pool; name = c.name; number = c.number }

abbrev pub head_of : List ℕ → Option Head
head_of bytes = option_map head_from (config_in bytes)
