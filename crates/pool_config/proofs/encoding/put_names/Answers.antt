use Rattle.std.proofs.Common.{arith}
use Rattle.pool_config.specs.Spelling.{text_bytes}
use Rattle.pool_config.proofs.Placing.{puts_item}
use Rattle.pool_config.proofs.encoding.put_names.Goals as goal

pub loop-name-preserved : goal.loop-name-preserved
loop-name-preserved c = record {
  piece = puts_item text_bytes c.args.names.now c.loop-name.name-index c.name-item.result (omega arith) c.name-item.is
      c.loop-name.invariant.piece c.put_name-stop.ensures.piece;
  stop = omega (arith, c.loop-name.invariant.stop, c.put_name-stop.ensures.stop);
}
