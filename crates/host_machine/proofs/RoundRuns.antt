-- No stop is among the events of a round.
use Rattle.std.proofs.Common.{ℕ, Bool, true, false, List, [], ◌∷◌, ◌++◌, sym, subst}
use Rattle.label_store.specs.declared.member.Member.{Member}
use Rattle.label_store.specs.Rounds.{third_plan}
use Rattle.pool_history.specs.Events.{Event, Calls, Accepts, Looks, Opens, Begins, Third, Ends, Acks, Loses, Stops, IsOneRun, as_events}
use Rattle.pool_history.specs.Records.{Rec}
use Rattle.pool_history.specs.Rounds.{all_true, acks_if, IsRoundEvents}
use Rattle.pool_history.proofs.Folding.{stops_never_more, calls_never_stop}
use Rattle.pool_history.proofs.Thirds.{AreTurns, thirds_turns}

turns_one_run : (vs : List Event) → AreTurns vs → IsOneRun vs
turns_one_run [] t = tt
turns_one_run (Calls noted ∷ vs) t = turns_one_run vs t
turns_one_run (Accepts a block ∷ vs) t = absurd t
turns_one_run (Looks known ∷ vs) t = absurd t
turns_one_run (Opens r ∷ vs) t = absurd t
turns_one_run (Begins q ∷ vs) t = absurd t
turns_one_run (Third q d ∷ vs) t = turns_one_run vs t
turns_one_run (Ends q d ∷ vs) t = turns_one_run vs t
turns_one_run (Acks q ∷ vs) t = absurd t
turns_one_run (Loses d ∷ vs) t = absurd t
turns_one_run (Stops sectors size ∷ vs) t = absurd t

acks_one_run : (c : Bool) (q : Rec) → IsOneRun (acks_if c q)
acks_one_run true q = tt
acks_one_run false q = tt

pub round_one_run : (size : ℕ → ℕ) (q : Rec) (members : List Member) (results : List Bool) (vs : List Event) → IsRoundEvents size q members results vs → IsOneRun vs
round_one_run size q members results vs r =
    subst IsOneRun (sym r.all)
    (stops_never_more (as_events r.first) (as_events r.second ++ (r.thirds ++ acks_if (all_true results) q)) (calls_never_stop r.first)
    (stops_never_more (as_events r.second) (r.thirds ++ acks_if (all_true results) q) (calls_never_stop r.second)
    (stops_never_more r.thirds (acks_if (all_true results) q)
    (turns_one_run r.thirds (thirds_turns (third_plan size q.commit) q members r.in_second results r.thirds r.copies)) (acks_one_run (all_true results) q))))
