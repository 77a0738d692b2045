use Rattle.pool_config.proofs.Taking.{front_put}
use Rattle.pool_config.proofs.cursor.Cursor.bytes.Goals as goal

pub returns-clause-value : goal.returns-clause-value
returns-clause-value c = λ d. front_put d.args.self.now d.copy_from_slice.new.self c.row.N d.min-there.result (cc) (cc)
