use Rattle.host_machine.proofs.Ending.{sync_suspends, sync_commits, create_counts, import_suspends}
use Rattle.host_machine.proofs.Labelled.{finds_none}
use Rattle.host_machine.proofs.Missing.{ours_is_open, read_ends, read_refused, good_answers}
use Rattle.host_machine.proofs.Onlines.{online_counts}
use Rattle.host_machine.proofs.Rising.{failed_rose}
use Rattle.host_machine.proofs.answers.good_member_answers.Goals as goal

pub returns : goal.returns
returns c = record {
  ours = ours_is_open;
  refuses = read_refused;
  answers = read_ends;
  good_member = good_answers;
  suspends = sync_suspends;
  commits = sync_commits;
  creates = create_counts;
  imports = import_suspends;
  onlines = online_counts;
  finds = finds_none;
  causes = failed_rose;
}
