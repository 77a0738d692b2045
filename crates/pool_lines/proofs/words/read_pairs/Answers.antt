use Rattle.std.proofs.Common.{rules}
use Rattle.pool_lines.proofs.Tokens.{pairs_fit}
use Rattle.pool_lines.proofs.words.read_pairs.Goals as goal

pub spelled_block-requires : goal.spelled_block-requires
spelled_block-requires c =
    rw c.deref.ensures.value (pairs_fit c.args.text.now c.in-Ok.bytes.items (search rules) c.in-Ok.ensures.ok)
