use Rattle.config_codec.specs.Fields.{config_fields}
use Rattle.pool_core.proofs.Looking.{both_looked}
use Rattle.pool_core.proofs.open.find_members.Goals as goal

pub returns-clause-identifies : goal.returns-clause-identifies
returns-clause-identifies g c =
    both_looked (config_fields c.args.config.now) _ _ c.args.seats c.find_member-first.result c.find_member-second.result
    c.find_member-first.ensures.size c.find_member-first.ensures.looks c.find_member-second.ensures.looks
