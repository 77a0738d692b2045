use Rattle.host_machine.specs.Runs.{TakesIn}
use Rattle.host_machine.proofs.RunCounts.{entries_end}
use Rattle.host_machine.proofs.Running.{keeps_pools, entry_of, widen, goes_on}
use Rattle.host_machine.proofs.runs.runs_keep_each_pool.Goals as goal

pub returns-clause-run : goal.returns-clause-run
returns-clause-run c = keeps_pools (record {
  stays = c.hosts_stay_fit.ensures.stays;
  keeps = c.hosts_stay_fit.ensures.keeps;
  line = c.lines_follow_each_pool.ensures.line;
  finds = c.imports_find_the_pool.ensures.finds;
  ours = c.good_member_answers.ensures.ours;
  reads = c.good_member_answers.ensures.answers;
  refuses = c.good_member_answers.ensures.refuses;
}) c.creates_begin_a_pool.ensures.begins

pub returns-clause-entry : goal.returns-clause-entry
returns-clause-entry c = entry_of

pub returns-clause-goes_on : goal.returns-clause-goes_on
returns-clause-goes_on c = λ p old h made entries calls next replay whole fit one answers.
    goes_on c.hosts_stay_fit.ensures.stays c.hosts_stay_fit.ensures.keeps c.lines_follow_each_pool.ensures.line (TakesIn p.name h entries calls next replay)
    p old h made entries calls next replay (λ d taken. taken) whole fit (widen (λ d. ⊥) (TakesIn p.name h entries calls next replay) p old h made (λ d none. absurd none) one) answers

pub returns-clause-counts : goal.returns-clause-counts
returns-clause-counts c = entries_end (record {
  suspends = c.good_member_answers.ensures.suspends;
  commits = c.good_member_answers.ensures.commits;
  creates = c.good_member_answers.ensures.creates;
  imports = c.good_member_answers.ensures.imports;
  onlines = c.good_member_answers.ensures.onlines;
})
