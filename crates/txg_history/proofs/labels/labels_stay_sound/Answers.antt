use Rattle.txg_history.proofs.Nearing.{near_labels, plain_labels, near_again}
use Rattle.txg_history.proofs.Tracked.{labels_again, labels_stay, labels_stay_since, promise_holds, cut_phase_ends}
use Rattle.txg_history.proofs.Turning.{flush_mends}
use Rattle.txg_history.proofs.labels.labels_stay_sound.Goals as goal

pub returns : goal.returns
returns c = record {
  stays = labels_stay;
  since = labels_stay_since;
  near = near_labels;
  plain = plain_labels;
  again = labels_again;
  near_again = near_again;
  holds = promise_holds;
  mends = cut_phase_ends;
  flushes = flush_mends;
}
