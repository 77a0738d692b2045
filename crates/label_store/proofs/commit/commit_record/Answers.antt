use Rattle.label_store.proofs.Rounding.{committed}
use Rattle.label_store.proofs.commit.commit_record.Goals as goal

pub returns : goal.returns
returns g c =
    committed g.R.BlobRule.head_of (g.B.Bank.view c.args.bank.now).size
    (record { pool = c.args.pool; number = c.args.number; blob = c.args.blob.now; length = c.args.config_bytes })
    c.args.devs.now c.run_round.new.board c.requires.seated c.requires.apart c.requires.sealed c.requires.headed c.requires.least c.requires.most c.run_round.ensures
