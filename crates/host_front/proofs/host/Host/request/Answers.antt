use Rattle.std.proofs.Common.{Some}
use Rattle.host_front.proofs.Seating.{seated_by}
use Rattle.host_front.proofs.host.Host.request.Goals as goal

pub returns-clause-seated : goal.returns-clause-seated
returns-clause-seated g c =
    seated_by (Some c.args.request.now) c.args.time c.hosts_stay_fit.ensures.stays c.asks_whole.ensures c.requires.seated c.reply_to.ensures.answers
