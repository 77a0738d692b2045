use Rattle.txg_engine.proofs.AddressesCounted.{frozen_counted, put_counted}
use Rattle.txg_engine.proofs.laws.groups_count_their_addresses.Goals as goal

pub returns : goal.returns
returns c = record { frozen = frozen_counted; put = put_counted }
