use Rattle.std.proofs.Common.{arith}
use Rattle.block_map.proofs.FreeNumbers.{rooms_of}
use Rattle.block_map.proofs.freed.places.Goals as goal

pub returns-clause-room : goal.returns-clause-room
returns-clause-room c =
    rooms_of c.args.sectors.now c.loop-count.most (λ i lt. c.loop-count.invariant.0 i (omega arith))
