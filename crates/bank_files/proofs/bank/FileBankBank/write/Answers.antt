use Rattle.std.proofs.Common.{length, slice_index}
use Rattle.bank_files.proofs.Spans.{span_fits}
use Rattle.bank_files.proofs.bank.FileBankBank.write.Goals as goal

pub write-outcome-requires : goal.write-outcome-requires
write-outcome-requires g c =
    span_fits c.args.at (length c.args.bytes.now) (slice_index c.args.self.now.sizes c.args.dev) c.requires.whole c.requires.inside c.is_short.ensures
