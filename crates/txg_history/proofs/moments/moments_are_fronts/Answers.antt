use Rattle.txg_history.proofs.Folding.{size_kept, member_kept, guid_kept, moment_of, run_sectors}
use Rattle.txg_history.proofs.moments.moments_are_fronts.Goals as goal

pub returns : goal.returns
returns c = record {
  fronts = moment_of;
  sectors = run_sectors;
  sizes = size_kept;
  members = λ vs p none. (member_kept vs p none, guid_kept vs p none);
}
