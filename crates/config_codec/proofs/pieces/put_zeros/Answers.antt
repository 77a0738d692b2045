use Rattle.std.proofs.Common.{rules, arith}
use Rattle.config_codec.proofs.Placing.{zeros_put, length-zeros}
use Rattle.config_codec.proofs.pieces.put_zeros.Goals as goal

pub returns-clause-piece : goal.returns-clause-piece
returns-clause-piece c = record {
  front = zeros_put c.args.out.now c.fill.new.self c.args.at c.args.count _ (c.fill.ensures.after (λ y e. search rules)) (search rules) c.requires;
  stop = omega (arith, length-zeros c.args.count);
}
