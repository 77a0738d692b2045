-- The events of a round are calls and the marks of rounds: no opening is among them.
use Rattle.std.proofs.Common.{ℕ, Bool, true, false, List, [], ◌∷◌, ◌++◌, sym, subst}
use Rattle.bank_core.specs.Disk.{Noted}
use Rattle.label_store.specs.declared.member.Member.{Member}
use Rattle.label_store.specs.Rounds.{third_plan}
use Rattle.pool_history.specs.Events.{Event, Calls, Accepts, Looks, Opens, Begins, Third, Ends, Acks, Loses, Stops, as_events}
use Rattle.pool_history.specs.Records.{Rec}
use Rattle.pool_history.specs.Rounds.{all_true, acks_if, IsRoundEvents}
use Rattle.pool_history.proofs.Thirds.{AreTurns, thirds_turns}
use Rattle.host_machine.specs.Machine.{HostState}
use Rattle.host_machine.specs.Tracking.{OpensNone, AreLooked}

abbrev pub AreRoundMarks : List Event → Type 0
AreRoundMarks [] = Unit {0}
AreRoundMarks (Calls noted ∷ vs) = AreRoundMarks vs
AreRoundMarks (Accepts a block ∷ vs) = ⊥
AreRoundMarks (Looks known ∷ vs) = ⊥
AreRoundMarks (Opens r ∷ vs) = ⊥
AreRoundMarks (Begins q ∷ vs) = AreRoundMarks vs
AreRoundMarks (Third q d ∷ vs) = AreRoundMarks vs
AreRoundMarks (Ends q d ∷ vs) = AreRoundMarks vs
AreRoundMarks (Acks q ∷ vs) = AreRoundMarks vs
AreRoundMarks (Loses d ∷ vs) = ⊥
AreRoundMarks (Stops sectors size ∷ vs) = ⊥

pub marks_looked : (h : HostState) (calls : List Noted) (vs : List Event) → AreRoundMarks vs → AreLooked h calls vs
marks_looked h calls [] m = tt
marks_looked h calls (Calls noted ∷ vs) m = marks_looked h (calls ++ noted ∷ []) vs m
marks_looked h calls (Accepts a block ∷ vs) m = absurd m
marks_looked h calls (Looks known ∷ vs) m = absurd m
marks_looked h calls (Opens r ∷ vs) m = absurd m
marks_looked h calls (Begins q ∷ vs) m = marks_looked h calls vs m
marks_looked h calls (Third q d ∷ vs) m = marks_looked h calls vs m
marks_looked h calls (Ends q d ∷ vs) m = marks_looked h calls vs m
marks_looked h calls (Acks q ∷ vs) m = marks_looked h calls vs m
marks_looked h calls (Loses d ∷ vs) m = absurd m
marks_looked h calls (Stops sectors size ∷ vs) m = absurd m

pub marks_more : (first second : List Event) → AreRoundMarks first → AreRoundMarks second → AreRoundMarks (first ++ second)
marks_more [] second a b = b
marks_more (Calls noted ∷ first) second a b = marks_more first second a b
marks_more (Accepts x block ∷ first) second a b = absurd a
marks_more (Looks known ∷ first) second a b = absurd a
marks_more (Opens r ∷ first) second a b = absurd a
marks_more (Begins q ∷ first) second a b = marks_more first second a b
marks_more (Third q d ∷ first) second a b = marks_more first second a b
marks_more (Ends q d ∷ first) second a b = marks_more first second a b
marks_more (Acks q ∷ first) second a b = marks_more first second a b
marks_more (Loses d ∷ first) second a b = absurd a
marks_more (Stops sectors size ∷ first) second a b = absurd a

pub calls_marked : (made : List Noted) → AreRoundMarks (as_events made)
calls_marked [] = tt
calls_marked (noted ∷ made) = calls_marked made

turns_marked : (vs : List Event) → AreTurns vs → AreRoundMarks vs
turns_marked [] t = tt
turns_marked (Calls noted ∷ vs) t = turns_marked vs t
turns_marked (Accepts a block ∷ vs) t = absurd t
turns_marked (Looks known ∷ vs) t = absurd t
turns_marked (Opens r ∷ vs) t = absurd t
turns_marked (Begins q ∷ vs) t = absurd t
turns_marked (Third q d ∷ vs) t = turns_marked vs t
turns_marked (Ends q d ∷ vs) t = turns_marked vs t
turns_marked (Acks q ∷ vs) t = absurd t
turns_marked (Loses d ∷ vs) t = absurd t
turns_marked (Stops sectors size ∷ vs) t = absurd t

acks_marked : (c : Bool) (q : Rec) → AreRoundMarks (acks_if c q)
acks_marked true q = tt
acks_marked false q = tt

pub round_marks : (size : ℕ → ℕ) (q : Rec) (members : List Member) (results : List Bool) (vs : List Event) → IsRoundEvents size q members results vs → AreRoundMarks vs
round_marks size q members results vs r =
    subst AreRoundMarks (sym r.all)
    (marks_more (as_events r.first) (as_events r.second ++ (r.thirds ++ acks_if (all_true results) q)) (calls_marked r.first)
    (marks_more (as_events r.second) (r.thirds ++ acks_if (all_true results) q) (calls_marked r.second)
    (marks_more r.thirds (acks_if (all_true results) q)
    (turns_marked r.thirds (thirds_turns (third_plan size q.commit) q members r.in_second results r.thirds r.copies)) (acks_marked (all_true results) q))))

-- so none of them is asked for
pub marks_open_none : (vs : List Event) → AreRoundMarks vs → OpensNone vs
marks_open_none [] m = tt
marks_open_none (Calls noted ∷ vs) m = marks_open_none vs m
marks_open_none (Accepts a block ∷ vs) m = absurd m
marks_open_none (Looks known ∷ vs) m = absurd m
marks_open_none (Opens r ∷ vs) m = absurd m
marks_open_none (Begins q ∷ vs) m = marks_open_none vs m
marks_open_none (Third q d ∷ vs) m = marks_open_none vs m
marks_open_none (Ends q d ∷ vs) m = marks_open_none vs m
marks_open_none (Acks q ∷ vs) m = marks_open_none vs m
marks_open_none (Loses d ∷ vs) m = absurd m
marks_open_none (Stops sectors size ∷ vs) m = absurd m

pub calls_open_none : (made : List Noted) → OpensNone (as_events made)
calls_open_none [] = tt
calls_open_none (noted ∷ made) = calls_open_none made

pub none_more : (first second : List Event) → OpensNone first → OpensNone second → OpensNone (first ++ second)
none_more [] second a b = b
none_more (Calls noted ∷ first) second a b = none_more first second a b
none_more (Accepts x block ∷ first) second a b = none_more first second a b
none_more (Looks known ∷ first) second a b = absurd a
none_more (Opens r ∷ first) second a b = none_more first second a b
none_more (Begins q ∷ first) second a b = none_more first second a b
none_more (Third q d ∷ first) second a b = none_more first second a b
none_more (Ends q d ∷ first) second a b = none_more first second a b
none_more (Acks q ∷ first) second a b = none_more first second a b
none_more (Loses d ∷ first) second a b = none_more first second a b
none_more (Stops sectors size ∷ first) second a b = none_more first second a b
