-- What a write answers.
use Rattle.std.specs.Prelude.{Result, Ok, Err}
use Rattle.pool_moves.specs.AwayRows.{WriteReply, Taken, BadAddress, Full, NoSpace}
use Rattle.open_pool.specs.declared.write.WriteFault.{WriteFault}
use Rattle.open_pool.specs.declared.write.WriteFault.TheVariants as fault

abbrev pub write_says : WriteReply → Result (Unit {0}) WriteFault
write_says Taken = Ok tt
write_says (BadAddress limit) = Err (fault.BadAddress limit)
write_says Full = Err fault.Full
write_says (NoSpace need free) = Err (fault.NoSpace need free)
