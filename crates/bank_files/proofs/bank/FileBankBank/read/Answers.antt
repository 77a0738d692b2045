use Rattle.std.proofs.Common.{length, slice_index}
use Rattle.bank_files.proofs.Spans.{span_fits}
use Rattle.bank_files.proofs.bank.FileBankBank.read.Goals as goal

pub read-outcome-requires : goal.read-outcome-requires
read-outcome-requires g c =
    span_fits c.args.at (length c.args.out.now) (slice_index c.args.self.now.sizes c.args.dev) c.requires.whole c.requires.inside c.is_short.ensures
