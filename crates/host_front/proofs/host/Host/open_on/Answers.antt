use Rattle.std.proofs.Common.{refl}
use Rattle.config_codec.specs.Fields.{config_fields}
use Rattle.host_machine.specs.Records.{committed_in}
use Rattle.host_front.proofs.KnownRecords.{committed_is}
use Rattle.host_front.proofs.Opened.{opened_there, refused_there}
use Rattle.host_front.proofs.host.Host.open_on.Goals as goal

pub returns-in-Ok-clause-opens : goal.returns-in-Ok-clause-opens
returns-in-Ok-clause-opens g c = λ h bytes stands is.
    opened_there _ _ _ _ (g.B.Bank.view c.args.bank.now).size _ c.in-Ok.ensures.size h bytes (config_fields c.args.config) c.args.found
    c.args.self.now _ c.in-Ok.pool _ stands.keeps stands.keeps.table refl refl
    (c.in-Ok.ensures.opens (committed_in h.records bytes (config_fields c.args.config))
    (committed_is h.records bytes (config_fields c.args.config) stands.fit.drawn c.requires.valid is))

pub returns-in-Err-clause-opens : goal.returns-in-Err-clause-opens
returns-in-Err-clause-opens g c = λ h bytes stands is.
    refused_there _ _ _ _ (g.B.Bank.view c.args.bank.now).size _ c.in-Err.ensures.size h bytes (config_fields c.args.config) c.args.found
    c.args.self.now c.in-Err.refusal stands.keeps c.requires.closed
    (c.in-Err.ensures.opens (committed_in h.records bytes (config_fields c.args.config))
    (committed_is h.records bytes (config_fields c.args.config) stands.fit.drawn c.requires.valid is))
