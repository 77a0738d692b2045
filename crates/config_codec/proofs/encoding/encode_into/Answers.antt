use Rattle.std.proofs.Common.{arith}
use Rattle.config_codec.specs.Spelling.{config_bytes}
use Rattle.config_codec.specs.Fields.{parts_fields}
use Rattle.config_codec.proofs.Deciding.{written}
use Rattle.config_codec.proofs.Placing.{puts_next, fills}
use Rattle.config_codec.proofs.encoding.encode_into.Goals as goal

pub returns-clause-bytes : goal.returns-clause-bytes
unfolding config_bytes
returns-clause-bytes c =
    fills 114688 (puts_next (puts_next (puts_next c.put_head-at.ensures.piece c.put_pointers-at.ensures.piece) c.put_tops-at.ensures.piece) c.put_u32-stop.ensures.piece)
    c.put_zeros.ensures.piece (omega arith) (omega arith) (omega arith)

pub returns-clause-stop : goal.returns-clause-stop
unfolding config_bytes
returns-clause-stop c =
    let all = puts_next (puts_next (puts_next c.put_head-at.ensures.piece c.put_pointers-at.ensures.piece) c.put_tops-at.ensures.piece) c.put_u32-stop.ensures.piece in
    omega (arith, all.stop)

pub returns-clause-back : goal.returns-clause-back
returns-clause-back c =
    (written c.put_zeros.new.out c.put_u32-stop.result (parts_fields c.args.c.now) c.requires.valid (returns-clause-bytes c) (returns-clause-stop c)).back
