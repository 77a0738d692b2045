-- What is written, with one address more.
use Rattle.std.specs.Prelude.{ℕ, ◌==◌, ◌||◌, Bool, List}
use Rattle.txg_engine.specs.declared.write.Write.{Write}
use Rattle.txg_engine.specs.Writes.{is_written}

abbrev pub written_too : (a : ℕ) → List Write → ℕ → Bool
written_too a writes x = (a == x) || is_written writes x
