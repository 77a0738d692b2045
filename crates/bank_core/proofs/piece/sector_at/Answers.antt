use Rattle.std.proofs.Common.{refl}
use Rattle.bank_core.proofs.Sectors.{piece_is}
use Rattle.bank_core.proofs.piece.sector_at.Goals as goal

pub returns : goal.returns
returns c = piece_is c.args.bytes.now _ c.args.i _ refl refl
