use Rattle.std.proofs.Common.{◌+◌, ◌-◌, arith, length}
use Rattle.pool_config.proofs.Placing.{puts_mid}
use Rattle.pool_config.proofs.pieces.put.Goals as goal

pub returns-clause-piece : goal.returns-clause-piece
returns-clause-piece c =
    puts_mid c.args.out.now c.copy_from_slice.new.self c.args.piece.now c.args.at
    (c.args.at + length c.args.piece.now - c.args.at) _
    c.copy_from_slice.ensures.after (omega (arith, c.copy_from_slice.ensures.len)) (omega arith)
    (omega (arith, c.requires))
