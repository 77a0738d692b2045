use Rattle.std.proofs.Common.{arith, rules}
use Rattle.mp_base.proofs.Pieces.{piece_given}
use Rattle.mp_base.proofs.source.MemSourceSource.read.Goals as goal

pub returns-clause-bytes : goal.returns-clause-bytes
returns-clause-bytes c =
    piece_given c.args.self.now.bytes.items c.args.self.now.at c.min-n.result c.copy_from_slice.new.self _ (omega arith) (search rules)
