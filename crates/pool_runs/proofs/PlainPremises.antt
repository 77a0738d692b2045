-- The premises of an opening, from what a user can check.
use Rattle.std.proofs.Common.{List, subst}
use Rattle.txg_history.specs.Events.{Known}
use Rattle.txg_history.specs.Pages.{Codec}
use Rattle.txg_history.specs.Premises.{Premises}
use Rattle.txg_history.proofs.Calming.{no_clash}
use Rattle.pool_runs.specs.Pasts.{Past, pool_of, IsAllowed}
use Rattle.pool_runs.specs.Acts.{Act}
use Rattle.pool_runs.specs.Lines.{Entry}
use Rattle.pool_runs.specs.Moments.{Moment, pool_at, past_at}
use Rattle.pool_runs.specs.PlainPremises.{MeetsPremises}
use Rattle.pool_runs.proofs.Heading.{at_pool}
use Rattle.pool_runs.proofs.LabelsKeepUp.{labels_keep_up}
use Rattle.pool_runs.proofs.StraysOverRuns.{none_passed}

pub premises_met : (c : Codec) (past : Past) (known : Known) → IsAllowed c past → MeetsPremises c past known
    → Premises c.head_of (pool_of past) known
premises_met c past known ok meets = record {
  no_clash = no_clash c.head_of (pool_of past) known meets.strings meets.sums meets.there meets.rings;
  no_stray = none_passed c past known ok meets.ours meets.passed;
  good = meets.good;
  sound_labels = labels_keep_up c past known meets.good ok meets.is_member meets.keeps_up meets.unhurt meets.is_read;
}

-- So it is at each moment of a run.
pub premises_at : (c : Codec) (past : Past) (acts : List Act) (entries : List Entry) (known : Known) (m : Moment c past acts entries)
    → IsAllowed c (past_at m) → MeetsPremises c (past_at m) known → Premises c.head_of (pool_at m) known
premises_at c past acts entries known m ok meets =
    subst (λ p. Premises c.head_of p known) (at_pool c past acts entries m) (premises_met c (past_at m) known ok meets)
