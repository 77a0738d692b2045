-- A run's entries, one after another, over a pool's history.
use Rattle.std.proofs.Common.{◌≡◌, ◌≤◌, ⊎_elim, Bool, cond, true, ℕ, zero, suc, List, [], ◌∷◌, ◌++◌, take, Some, None, refl, sym, ap, subst, ◌∙◌, append_assoc, inl, inr, ◌<◌, ◌⊎◌, false, Option, IsTrue}
use Rattle.bank_core.specs.Disk.{Noted, Sectors, AllAnswer, run}
use Rattle.pool_history.specs.Events.{Event, Calls, Accepts, Looks, Opens, Begins, Third, Ends, Acks, Loses, Stops, IsOneRun, as_events, calls_of}
use Rattle.pool_history.specs.Moves.{Mays}
use Rattle.pool_history.specs.Pools.{Pool, after, pool_after}
use Rattle.pool_history.specs.Looks.{known_by}
use Rattle.pool_history.specs.Premises.{Premises, AreGood}
use Rattle.pool_history.specs.Records.{Rec, IsIn}
use Rattle.pool_history.specs.Survival.{Survives}
use Rattle.pool_history.proofs.Folding.{name_kept, pool_more, mays_more, mays_front, calls_more, moment_of, run_sectors, stops_never_more}
use Rattle.pool_history.proofs.Surviving.{history_survives}
use Rattle.pool_history.proofs.LookedParts.{answer_first, answer_second}
use Rattle.pool_wire.specs.declared.reply.NamedLeaf.{NamedLeaf}
use Rattle.mp_base.specs.Name.{is_name}
use Rattle.pool_wire.specs.declared.reply.Reply.{Reply}
use Rattle.pool_wire.specs.declared.request.Request.{Request}
use Rattle.pool_wire.specs.declared.reply.Reply.TheVariants as replies
use Rattle.pool_wire.specs.declared.request.Request.TheVariants as requests
use Rattle.bank_core.proofs.Composing.{run_more}
use Rattle.pool_core.specs.Heads.{head_of}
use Rattle.pool_core.specs.State.{PoolState}
use Rattle.host_machine.specs.declared.device.HostDevice.{HostDevice}
use Rattle.host_machine.specs.Births.{IsBorn, StampFails, LeavesPool, LeavesThroughout, new_pool}
use Rattle.host_machine.specs.Runs.{TakesIn, AnswersOf, BeginsPool, KeepsPools, IsEntryOf, MeetsPool}
use Rattle.host_machine.specs.Answering.{IsOpenIn, IsLost, HasClash, IsExcused}
use Rattle.host_machine.specs.Devices.{all_handed, number_in}
use Rattle.host_machine.specs.Fitness.{IsFit, IsWhole, AreWhole}
use Rattle.host_machine.specs.Machine.{HostState, Entry, is_bad_size, new_seats, new_state, IsCreate, IsImport, Step, Replay, started, named_pool}
use Rattle.host_machine.specs.Tracking.{Cost, Device, Opening, Brought, OpensNone, Takes, IsKept, LosesLast, Tracks, Follows, FindsPool, HasNoTwins, is_ours}
use Rattle.host_machine.proofs.Agreeing.{Agree, agree_run, agree_answer}
use Rattle.host_machine.proofs.Following.{reads_follow, kept_last}
use Rattle.host_machine.proofs.Knowing.{twins_before}
use Rattle.host_machine.proofs.LookMarks.{looked_then}
use Rattle.host_machine.proofs.Missing.{memory_exhausted}
use Rattle.host_machine.proofs.OnBank.{AreCallsOn, IsOfBank, Idles, import_on, step_on}
use Rattle.host_machine.proofs.RoundMarks.{none_more}

-- the laws of one line
abbrev pub StaysFit : Type 0
StaysFit = (h : HostState) (entry : Entry) (made : List Noted) (next : HostState) → IsWhole entry.asked → IsFit h → Step h entry made next → IsFit next

abbrev pub Keeps : Type 0
Keeps = (h : HostState) (entry : Entry) (made : List Noted) (next : HostState) (r : Rec) → Step h entry made next → IsIn r h.records → IsIn r next.records

abbrev pub FollowsLine : Type 0
FollowsLine = (p : Pool) (h : HostState) (entry : Entry) (made : List Noted) (next : HostState) → IsWhole entry.asked → IsFit h
    → AllAnswer p.sectors made → Step h entry made next → Follows p h (Takes p.name h entry.asked made) made next

good_first : (first second : List Event) (p : Pool) → AreGood head_of p (first ++ second) → AreGood head_of p first
good_first [] second p good = tt
good_first (Calls noted ∷ first) second p good = good_first first second (after (Calls noted) p) good
good_first (Accepts a block ∷ first) second p good = good_first first second (after (Accepts a block) p) good
good_first (Looks known ∷ first) second p good = (good.0, good_first first second p good.1)
good_first (Opens r ∷ first) second p good = good_first first second (after (Opens r) p) good
good_first (Begins q ∷ first) second p good = good_first first second (after (Begins q) p) good
good_first (Third q d ∷ first) second p good = good_first first second (after (Third q d) p) good
good_first (Ends q d ∷ first) second p good = good_first first second (after (Ends q d) p) good
good_first (Acks q ∷ first) second p good = good_first first second (after (Acks q) p) good
good_first (Loses d ∷ first) second p good = good_first first second (after (Loses d) p) good
good_first (Stops sectors size ∷ first) second p good = good_first first second (after (Stops sectors size) p) good

good_second : (first second : List Event) (p : Pool) → AreGood head_of p (first ++ second) → AreGood head_of (pool_after first p) second
good_second [] second p good = good
good_second (Calls noted ∷ first) second p good = good_second first second (after (Calls noted) p) good
good_second (Accepts a block ∷ first) second p good = good_second first second (after (Accepts a block) p) good
good_second (Looks known ∷ first) second p good = good_second first second p good.1
good_second (Opens r ∷ first) second p good = good_second first second (after (Opens r) p) good
good_second (Begins q ∷ first) second p good = good_second first second (after (Begins q) p) good
good_second (Third q d ∷ first) second p good = good_second first second (after (Third q d) p) good
good_second (Ends q d ∷ first) second p good = good_second first second (after (Ends q d) p) good
good_second (Acks q ∷ first) second p good = good_second first second (after (Acks q) p) good
good_second (Loses d ∷ first) second p good = good_second first second (after (Loses d) p) good
good_second (Stops sectors size ∷ first) second p good = good_second first second (after (Stops sectors size) p) good

-- a run draws no record away
pub records_grow : Keeps → (h : HostState) (entries : List Entry) (calls : List Noted) (next : HostState) (r : Rec) → Replay h entries calls next → IsIn r h.records → IsIn r next.records
records_grow keeps h [] calls next r replay is = subst (λ g. IsIn r g.records) (sym replay.1) is
records_grow keeps h (entry ∷ entries) calls next r replay is =
    records_grow keeps replay.2 entries replay.1 next r replay.5 (keeps h entry replay.0 replay.2 r replay.4 is)

no_calls : (T : Cost → Type 0) (p : Pool) (h next : HostState) (calls : List Noted) → calls ≡ [] → next ≡ h → Follows p h T calls next
no_calls T p h next calls none same = record {
  vs = [];
  calls = sym none;
  one_run = tt;
  devices = (ap (λ (g : HostState). g.table) same, ap (λ (g : HostState). g.size) same);
  looked = tt;
  asked = inl tt;
  keeps = λ d is. inl is;
  safe = λ tracks twins left good. (tt, subst (λ g. Tracks p g) (sym same) tracks);
  last = λ tracks twins left good. kept_last T p p refl;
}

-- what is kept, and what is lost last, of two histories one after another
kept_more : (T : Cost → Type 0) (p between behind : Pool) → ((d : ℕ) → p.member d ≡ true → IsKept between T d) → ((d : ℕ) → between.member d ≡ true → IsKept behind T d)
    → (d : ℕ) → p.member d ≡ true → IsKept behind T d
kept_more T p between behind one two d is = by (one d is)
  where
    by : IsKept between T d → IsKept behind T d
    by (inl still) = two d still
    by (inr gone) = inr gone

last_more : (T : Cost → Type 0) (p between behind : Pool) → LosesLast p between T → LosesLast between behind T → LosesLast p behind T
last_more T p between behind one two d e is other gone = by (between.member d) (between.member e) refl refl
  where
    by : (one_left other_left : Bool) → between.member d ≡ one_left → between.member e ≡ other_left → (e ≡ d) ⊎ (T (Device d) ⊎ T (Device e))
    by false other_left lost f = one d e is other lost
    by true true still yet = two d e still yet gone
    by true false still lost = elim (one e d other is lost) [
      | inl same ↦ inl (sym same)
      | inr (inl taken) ↦ inr (inr taken)
      | inr (inr taken) ↦ inr (inl taken)
    ]

-- One history goes on by the next.
pub follows_more : (T : Cost → Type 0) (p : Pool) (h between next : HostState) (made more : List Noted) → ((r : Rec) → IsIn r between.records → IsIn r next.records)
    → (one : Follows p h T made between) → Follows (pool_after one.vs p) between T more next → Follows p h T (made ++ more) next
follows_more T p h between next made more grow one two = record {
  vs = one.vs ++ two.vs;
  calls = calls_more one.vs two.vs ∙ ap (λ cs. cs ++ calls_of two.vs) one.calls ∙ ap (λ cs. made ++ cs) two.calls;
  one_run = stops_never_more one.vs two.vs one.one_run two.one_run;
  devices = (two.devices.0 ∙ one.devices.0, two.devices.1 ∙ one.devices.1);
  asked = ⊎_elim {A = OpensNone one.vs} {B = T Opening}
      (λ none. ⊎_elim {A = OpensNone two.vs} {B = T Opening} (λ either. inl (none_more one.vs two.vs none either)) (λ asks. inr asks) two.asked)
      (λ asks. inr asks) one.asked;
  looked = looked_then h between one.vs two.vs one.devices.1 one.devices.0 one.looked two.looked;
  keeps = subst (λ behind. (d : ℕ) → p.member d ≡ true → IsKept behind T d) (sym (pool_more one.vs two.vs p))
      (kept_more T p (pool_after one.vs p) (pool_after two.vs (pool_after one.vs p)) one.keeps two.keeps);
  safe = λ tracks twins left good.
      let first = one.safe tracks (twins_before between.records next.records grow twins) left (good_first one.vs two.vs p good) in
      let second = two.safe first.1 twins (history_survives head_of one.vs p left first.0) (good_second one.vs two.vs p good) in
      (mays_more head_of one.vs two.vs p first.0 second.0, subst (λ q. Tracks q next) (sym (pool_more one.vs two.vs p)) second.1);
  last = λ tracks twins left good.
      let twins_then = twins_before between.records next.records grow twins in
      let good_then = good_first one.vs two.vs p good in
      let first = one.safe tracks twins_then left good_then in
      subst (λ behind. LosesLast p behind T) (sym (pool_more one.vs two.vs p))
      (last_more T p (pool_after one.vs p) (pool_after two.vs (pool_after one.vs p)) (one.last tracks twins_then left good_then)
      (two.last first.1 twins (history_survives head_of one.vs p left first.0) (good_second one.vs two.vs p good)));
}

-- what is taken may be said to be more
pub widen : (S T : Cost → Type 0) (p : Pool) (h next : HostState) (made : List Noted) → ((cost : Cost) → S cost → T cost) → Follows p h S made next → Follows p h T made next
widen S T p h next made more f = record {
  vs = f.vs;
  calls = f.calls;
  one_run = f.one_run;
  devices = f.devices;
  looked = f.looked;
  asked = elim f.asked [ inl none ↦ inl none | inr asks ↦ inr (more Opening asks) ];
  keeps = λ d is. elim (f.keeps d is) [
    | inl still ↦ inl still
    | inr (inl taken) ↦ inr (inl (more (Device d) taken))
    | inr (inr brought) ↦ inr (inr (more (Brought d) brought))
  ];
  safe = f.safe;
  last = λ tracks twins left good d e is other gone. elim (f.last tracks twins left good d e is other gone) [
    | inl same ↦ inl same
    | inr (inl taken) ↦ inr (inl (more (Device d) taken))
    | inr (inr taken) ↦ inr (inr (more (Device e) taken))
  ];
}

-- A line follows a pool by the answers of the bank's own devices.
line_agrees : FollowsLine → (p : Pool) (h : HostState) (entry : Entry) (made : List Noted) (next : HostState) (sectors : Sectors) → Agree h.size p.sectors sectors
    → IsWhole entry.asked → IsFit h → AllAnswer sectors made → Step h entry made next → Follows p h (Takes p.name h entry.asked made) made next
line_agrees line p h entry made next sectors agree whole fit answers step = by (step_on h entry made next fit step)
  where
    by : AreCallsOn (IsOfBank h) made ⊎ Idles h entry made next → Follows p h (Takes p.name h entry.asked made) made next
    by (inl on) = line p h entry made next whole fit (agree_answer h.size p.sectors sectors made on agree answers) step
    by (inr idles) = reads_follow (Takes p.name h entry.asked made) p h made next idles.reads idles.same

-- behind a history without a stop the pool agrees with the bank as before
agree_behind : (T : Cost → Type 0) (p : Pool) (h next : HostState) (made : List Noted) (sectors : Sectors) (f : Follows p h T made next) → Agree h.size p.sectors sectors
    → Agree next.size (pool_after f.vs p).sectors (run made sectors)
agree_behind T p h next made sectors f agree d s has =
    ap (λ (x : Sectors). x d s) (run_sectors f.vs p f.one_run ∙ ap (λ cs. run cs p.sectors) f.calls)
    ∙ agree_run h.size p.sectors sectors made agree d s (subst (λ (size : ℕ → ℕ). 1 ≤ size d) f.devices.1 has)

-- the pool's name is the same behind its events
pub replay_follows : StaysFit → Keeps → FollowsLine → (T : Cost → Type 0) (name : List ℕ) (p : Pool) (h : HostState) (entries : List Entry) (calls : List Noted) (next : HostState)
    (replay : Replay h entries calls next) → ((cost : Cost) → TakesIn name h entries calls next replay cost → T cost) → p.name ≡ name
    → AreWhole entries → IsFit h → (sectors : Sectors) → Agree h.size p.sectors sectors → AllAnswer sectors calls → Follows p h T calls next
replay_follows stays keeps line T name p h [] calls next replay takes named whole fit sectors agree answers = no_calls T p h next calls replay.0 replay.1
replay_follows stays keeps line T name p h (entry ∷ entries) calls next replay takes named whole fit sectors agree answers =
    let all = subst (λ cs. AllAnswer sectors cs) replay.3 answers in
    let first = line_agrees line p h entry replay.0 replay.2 sectors agree whole.0 fit (answer_first replay.0 replay.1 sectors all) replay.4 in
    let one = widen (Takes p.name h entry.asked replay.0) T p h replay.2 replay.0
    (λ d taken. takes d (inl (subst (λ n. Takes n h entry.asked replay.0 d) named taken))) first in
    let two = replay_follows stays keeps line T name (pool_after one.vs p) replay.2 entries replay.1 next replay.5 (λ d taken. takes d (inr taken))
    (name_kept one.vs p ∙ named) whole.1 (stays h entry replay.0 replay.2 whole.0 fit replay.4) (run replay.0 sectors)
    (agree_behind T p h replay.2 replay.0 sectors one agree) (answer_second replay.0 replay.1 sectors all) in
    subst (λ cs. Follows p h T cs next) (sym replay.3)
    (follows_more T p h replay.2 next replay.0 replay.1 (λ r is. records_grow keeps replay.2 entries replay.1 next r replay.5 is) one two)

pub front_one : (vs : List Event) (j : ℕ) → IsOneRun vs → IsOneRun (take j vs)
front_one [] zero one = tt
front_one [] (suc j) one = tt
front_one (Calls noted ∷ vs) zero one = tt
front_one (Calls noted ∷ vs) (suc j) one = front_one vs j one
front_one (Accepts a block ∷ vs) zero one = tt
front_one (Accepts a block ∷ vs) (suc j) one = front_one vs j one
front_one (Looks known ∷ vs) zero one = tt
front_one (Looks known ∷ vs) (suc j) one = front_one vs j one
front_one (Opens r ∷ vs) zero one = tt
front_one (Opens r ∷ vs) (suc j) one = front_one vs j one
front_one (Begins q ∷ vs) zero one = tt
front_one (Begins q ∷ vs) (suc j) one = front_one vs j one
front_one (Third q d ∷ vs) zero one = tt
front_one (Third q d ∷ vs) (suc j) one = front_one vs j one
front_one (Ends q d ∷ vs) zero one = tt
front_one (Ends q d ∷ vs) (suc j) one = front_one vs j one
front_one (Acks q ∷ vs) zero one = tt
front_one (Acks q ∷ vs) (suc j) one = front_one vs j one
front_one (Loses d ∷ vs) zero one = tt
front_one (Loses d ∷ vs) (suc j) one = front_one vs j one
front_one (Stops sectors size ∷ vs) zero one = absurd one
front_one (Stops sectors size ∷ vs) (suc j) one = absurd one

-- The devices are left by the pool's history at each moment.
pub leaves_throughout : (first : Pool) (past : List Event) (size : ℕ → ℕ) (sectors : Sectors) (vs : List Event) (made : List Noted) → LeavesPool first past size sectors
    → IsOneRun vs → calls_of vs ≡ made → Mays head_of (pool_after past first) vs → LeavesThroughout first past size sectors vs made
leaves_throughout first past size sectors vs made leaves one calls mays = record {
  at = λ k le.
      let m = moment_of vs k in
      let front = m.1 ∙ ap (λ cs. take k cs) calls in
      let now = ap (λ (q : Pool). q.sectors) (pool_more past (take m.0 vs) first) ∙ run_sectors (take m.0 vs) (pool_after past first) (front_one vs m.0 one)
      ∙ ap (λ cs. run cs (pool_after past first).sectors) front in (
        m.0,
        front,
        record {
          begins = leaves.begins;
          allowed = mays_more head_of past (take m.0 vs) first leaves.allowed (mays_front head_of vs m.0 (pool_after past first) mays);
          devices = λ d s has. ap (λ (x : Sectors). x d s) now ∙ agree_run size (pool_after past first).sectors sectors (take k made) leaves.devices d s has;
        },
      );
}

pub entry_of : (h : HostState) (before : List Entry) (entry : Entry) (after : List Entry) (calls : List Noted) (next : HostState)
    → Replay h (before ++ entry ∷ after) calls next → IsEntryOf h before entry after calls next
entry_of h [] entry after calls next r = record {
  first = [];
  made = r.0;
  rest = r.1;
  old = h;
  new = r.2;
  all = r.3;
  replay = (refl, refl);
  step = r.4;
  later = r.5;
}
entry_of h (e ∷ before) entry after calls next r =
    let i = entry_of r.2 before entry after r.1 next r.5 in
    record {
      first = r.0 ++ i.first;
      made = i.made;
      rest = i.rest;
      old = i.old;
      new = i.new;
      all = r.3 ∙ ap (λ cs. r.0 ++ cs) i.all ∙ sym (append_assoc r.0 i.first (i.made ++ i.rest));
      replay = (r.0, i.first, r.2, refl, r.4, i.replay);
      step = i.step;
      later = i.later;
    }

-- the laws of what a line answers
abbrev pub FindsLine : Type 0
FindsLine = (p : Pool) (h : HostState) (entry : Entry) (made : List Noted) (next : HostState) → IsFit h → Tracks p h → h.pool ≡ None
    → AllAnswer p.sectors made → (i : IsImport h p.name made next entry.reply) → HasNoTwins next.records → Survives head_of p
    → Premises head_of (pool_after (as_events i.reads) p) (known_by h.size (all_handed h.table) i.looks) → FindsPool p entry.reply next

abbrev pub OursLine : Type 0
OursLine = (p : Pool) (h : HostState) (name : List ℕ) (s : PoolState) → Tracks p h → named_pool name h.pool ≡ Some s → is_ours p s ≡ true → IsOpenIn p h name s

abbrev pub ReadsLine : Type 0
ReadsLine = (p : Pool) (h : HostState) (entry : Entry) (made : List Noted) (next : HostState) (name : List ℕ) (s : PoolState) (a : ℕ)
    → IsOpenIn p h name s → Survives head_of p → AllAnswer p.sectors made → Step h entry made next → entry.asked ≡ Some (requests.Read name a)
    → a < s.blocks → (entry.reply ≡ replies.Data (p.written a)) ⊎ (IsLost p s a made ⊎ IsExcused h entry made)

abbrev pub RefusesLine : Type 0
RefusesLine = (p : Pool) (h : HostState) (entry : Entry) (made : List Noted) (next : HostState) (name : List ℕ) (s : PoolState) (a level index : ℕ) (named : List NamedLeaf)
    → IsOpenIn p h name s → Survives head_of p → AllAnswer p.sectors made → Step h entry made next → entry.asked ≡ Some (requests.Read name a)
    → entry.reply ≡ replies.Exhausted level index named → IsLost p s a made ⊎ HasClash h entry made

pub record LineLaws : Type 0 where
  pub stays : StaysFit
  pub keeps : Keeps
  pub line : FollowsLine
  pub finds : FindsLine
  pub ours : OursLine
  pub reads : ReadsLine
  pub refuses : RefusesLine

fit_before : StaysFit → (h : HostState) (before : List Entry) (calls : List Noted) (next : HostState) (entries after : List Entry) → entries ≡ before ++ after → AreWhole entries → IsFit h
    → Replay h before calls next → IsFit next × AreWhole after
fit_before stays h [] calls next entries after e whole fit replay = (subst IsFit (sym replay.1) fit, subst AreWhole e whole)
fit_before stays h (entry ∷ before) calls next entries after e whole fit replay =
    let all : AreWhole (entry ∷ (before ++ after)) = subst AreWhole e whole in
    fit_before stays replay.2 before replay.1 next (before ++ after) after refl all.1 (stays h entry replay.0 replay.2 all.0 fit replay.4) replay.5

whole_before : (before after : List Entry) → AreWhole (before ++ after) → AreWhole before
whole_before [] after whole = tt
whole_before (entry ∷ before) after whole = (whole.0, whole_before before after whole.1)

-- a read whose calls are on the bank's devices, or which had no memory, or a clash
read_or : (h : HostState) (p : Pool) (entry : Entry) (made : List Noted) (next : HostState) (s : PoolState) (a : ℕ)
    → (AreCallsOn (IsOfBank h) made → (entry.reply ≡ replies.Data (p.written a)) ⊎ (IsLost p s a made ⊎ IsExcused h entry made))
    → AreCallsOn (IsOfBank h) made ⊎ Idles h entry made next → (entry.reply ≡ replies.Data (p.written a)) ⊎ (IsLost p s a made ⊎ IsExcused h entry made)
read_or h p entry made next s a line (inl on) = line on
read_or h p entry made next s a line (inr idles) = inr (inr idles.excused)

refused_or : (h : HostState) (p : Pool) (entry : Entry) (made : List Noted) (next : HostState) (s : PoolState) (a level index : ℕ) (named : List NamedLeaf)
    → entry.reply ≡ replies.Exhausted level index named → (AreCallsOn (IsOfBank h) made → IsLost p s a made ⊎ HasClash h entry made)
    → AreCallsOn (IsOfBank h) made ⊎ Idles h entry made next → IsLost p s a made ⊎ HasClash h entry made
refused_or h p entry made next s a level index named reply line (inl on) = line on
refused_or h p entry made next s a level index named reply line (inr idles) = by idles.excused
  where
    by : IsExcused h entry made → IsLost p s a made ⊎ HasClash h entry made
    by (inl memory) = absurd (memory_exhausted level index named entry.reply memory reply)
    by (inr clash) = inr clash

-- What a line answers of a pool that survives and stands in the host, by the answers of the bank's own devices.
answers_of : LineLaws → (p : Pool) (h : HostState) (entry : Entry) (made : List Noted) (next : HostState) (sectors : Sectors) → Agree h.size p.sectors sectors → IsFit h
    → AllAnswer sectors made → Step h entry made next → Tracks p h → HasNoTwins next.records → Survives head_of p → AnswersOf p h entry made next
answers_of laws p h entry made next sectors agree fit answers step tracks twins left = record {
  finds = λ i closed premises. laws.finds p h entry made next fit tracks closed (told (import_on h p.name made next entry.reply fit i)) i twins left premises;
  reads = λ name s a asked named ours inside.
      read_or h p entry made next s a (λ on. laws.reads p h entry made next name s a (laws.ours p h name s tracks named ours) left (told on) step asked inside) how;
  refuses = λ name s a level index shown asked named ours reply.
      refused_or h p entry made next s a level index shown reply
      (λ on. laws.refuses p h entry made next name s a level index shown (laws.ours p h name s tracks named ours) left (told on) step asked reply) how;
}
  where
    told : AreCallsOn (IsOfBank h) made → AllAnswer p.sectors made
    told on = agree_answer h.size p.sectors sectors made on agree answers

    how : AreCallsOn (IsOfBank h) made ⊎ Idles h entry made next
    how = step_on h entry made next fit step

meets_pool : LineLaws → (h : HostState) (sectors : Sectors) (entries : List Entry) (calls : List Noted) (next : HostState) → AreWhole entries → IsFit h
    → AllAnswer sectors calls → Replay h entries calls next → (first : Pool) (past : List Event) → LeavesPool first past h.size sectors → Tracks (pool_after past first) h
    → (before : List Entry) (entry : Entry) (after : List Entry) → entries ≡ before ++ entry ∷ after
    → (at : IsEntryOf h before entry after calls next) × MeetsPool first past h before entry after calls next at
meets_pool laws h sectors entries calls next whole fit answers replay first past leaves tracks before entry after e =
    let at = entry_of h before entry after calls next (subst (λ es. Replay h es calls next) e replay) in
    let p = pool_after past first in
    let all = subst (λ cs. AllAnswer sectors cs) at.all answers in
    let front = answer_first at.first (at.made ++ at.rest) sectors all in
    let behind = answer_second at.first (at.made ++ at.rest) sectors all in
    let mine = answer_first at.made at.rest (run at.first sectors) behind in
    let f = replay_follows laws.stays laws.keeps laws.line (TakesIn first.name h before at.first at.old at.replay) first.name p h before at.first at.old at.replay (λ d taken. taken)
    (name_kept past first) (whole_before before (entry ∷ after) (subst AreWhole e whole)) fit sectors leaves.devices front in
    let agree = agree_behind (TakesIn first.name h before at.first at.old at.replay) p h at.old at.first sectors f leaves.devices in
    let begun = history_survives head_of past first leaves.begins leaves.allowed in
    let grown = λ (r : Rec) (is : IsIn r at.old.records). records_grow laws.keeps at.new after at.rest next r at.later (laws.keeps at.old entry at.made at.new r at.step is) in
    let twins_then = λ (twins : HasNoTwins next.records). twins_before at.old.records next.records grown twins in
    let twins_new = λ (twins : HasNoTwins next.records). twins_before at.new.records next.records (λ r is. records_grow laws.keeps at.new after at.rest next r at.later is) twins in
    let sits = fit_before laws.stays h before at.first at.old entries (entry ∷ after) e whole fit at.replay in
    let lives = λ (twins : HasNoTwins next.records) (good : AreGood head_of p f.vs). history_survives head_of f.vs p begun (f.safe tracks (twins_then twins) begun good).0 in
    let stood = λ (twins : HasNoTwins next.records) (good : AreGood head_of p f.vs). (f.safe tracks (twins_then twins) begun good).1 in (
      at,
      record {
        follows = f;
        survives = lives;
        tracks = stood;
        answers = λ twins good. answers_of laws (pool_after f.vs p) at.old entry at.made at.new (run at.first sectors) agree sits.0 mine at.step (stood twins good) (twins_new twins) (lives twins good);
      },
    )

pub goes_on : StaysFit → Keeps → FollowsLine → (T : Cost → Type 0) (p : Pool) (old h : HostState) (made : List Noted) (entries : List Entry) (calls : List Noted) (next : HostState)
    (replay : Replay h entries calls next) → ((cost : Cost) → TakesIn p.name h entries calls next replay cost → T cost)
    → AreWhole entries → IsFit h → Follows p old T made h → AllAnswer (run made p.sectors) calls → Follows p old T (made ++ calls) next
goes_on stays keeps line T p old h made entries calls next replay takes whole fit one answers =
    follows_more T p old h next made calls (λ r is. records_grow keeps h entries calls next r replay is) one
    (replay_follows stays keeps line T p.name (pool_after one.vs p) h entries calls next replay takes (name_kept one.vs p) whole fit
    (run made p.sectors) (agree_behind T p old h made p.sectors one (λ d s has. refl)) answers)

abbrev pub BeginsLine : Type 0
BeginsLine = (h : HostState) (second : ℕ) (name : List ℕ) (blocks : ℕ) (first other : List ℕ) (seats : ℕ × ℕ) (made : List Noted) (next : HostState) (reply : Reply) (sectors : Sectors)
    → IsFit h → IsTrue (is_name name) → IsTrue (is_name first) → IsTrue (is_name other) → is_bad_size blocks ≡ false → new_seats h blocks first other ≡ Some seats
    → IsCreate h second name blocks first other made next reply
    → IsBorn h.size (new_state h second name blocks first other seats) seats sectors made next ⊎ StampFails h.size (new_state h second name blocks first other seats) seats made

born_goes_on : LineLaws → (h : HostState) (s : PoolState) (seats : ℕ × ℕ) (sectors : Sectors) (made : List Noted) (new : HostState) (after : List Entry) (rest : List Noted) (next : HostState)
    (later : Replay new after rest next) → AreWhole after → IsFit new → AllAnswer sectors (made ++ rest) → IsBorn h.size s seats sectors made new ⊎ StampFails h.size s seats made
    → BeginsPool h s seats sectors made new after rest next later
born_goes_on laws h s seats sectors made new after rest next later whole fit answers (inr fails) = inr fails
born_goes_on laws h s seats sectors made new after rest next later whole fit answers (inl b) =
    let p = new_pool h.size s seats (run b.stamps sectors) in
    let told = subst (λ at. AllAnswer at rest) (ap (λ cs. run cs sectors) b.all ∙ run_more b.stamps b.rest sectors) (answer_second made rest sectors answers) in
    inl (
      b,
      goes_on laws.stays laws.keeps laws.line (TakesIn s.name new after rest next later) p b.between new b.rest after rest next later (λ d taken. taken) whole fit
          (widen (λ d. ⊥) (TakesIn s.name new after rest next later) p b.between new b.rest (λ d none. absurd none) b.follows) told,
    )

names_in : (asked : Option Request) (name : List ℕ) (blocks : ℕ) (one other : List ℕ) → IsWhole asked → asked ≡ Some (requests.Create name blocks one other)
    → IsWhole (Some (requests.Create name blocks one other))
names_in asked name blocks one other whole is = subst IsWhole is whole

begins_pool : LineLaws → BeginsLine → (h : HostState) (sectors : Sectors) (entries : List Entry) (calls : List Noted) (next : HostState) → AreWhole entries → IsFit h
    → AllAnswer sectors calls → (before : List Entry) (entry : Entry) (after : List Entry) → entries ≡ before ++ entry ∷ after → (at : IsEntryOf h before entry after calls next)
    → (name : List ℕ) (blocks : ℕ) (one other : List ℕ) (seats : ℕ × ℕ) → entry.asked ≡ Some (requests.Create name blocks one other) → is_bad_size blocks ≡ false
    → new_seats at.old blocks one other ≡ Some seats → IsCreate at.old entry.second name blocks one other at.made at.new entry.reply
    → BeginsPool at.old (new_state at.old entry.second name blocks one other seats) seats (run at.first sectors) at.made at.new after at.rest next at.later
begins_pool laws begins h sectors entries calls next whole fit answers before entry after e at name blocks one other seats asked good found is =
    let sits = fit_before laws.stays h before at.first at.old entries (entry ∷ after) e whole fit at.replay in
    let names : IsWhole (Some (requests.Create name blocks one other)) = names_in entry.asked name blocks one other sits.1.0 asked in
    let told = answer_second at.first (at.made ++ at.rest) sectors (subst (λ cs. AllAnswer sectors cs) at.all answers) in
    born_goes_on laws at.old (new_state at.old entry.second name blocks one other seats) seats (run at.first sectors) at.made at.new after at.rest next at.later sits.1.1
    (laws.stays at.old entry at.made at.new sits.1.0 sits.0 at.step) told
    (begins at.old entry.second name blocks one other seats at.made at.new entry.reply (run at.first sectors) sits.0 names.0 names.1 names.2 good found is)

-- A run keeps each pool.
pub keeps_pools : LineLaws → BeginsLine → (h : HostState) (sectors : Sectors) (entries : List Entry) (calls : List Noted) (next : HostState)
    → AreWhole entries → IsFit h → AllAnswer sectors calls → (replay : Replay h entries calls next) → KeepsPools h sectors entries calls next replay
keeps_pools laws begins h sectors entries calls next whole fit answers replay = record {
  each = λ first past leaves tracks.
      let p = pool_after past first in
      let f = replay_follows laws.stays laws.keeps laws.line (TakesIn first.name h entries calls next replay) first.name p h entries calls next replay (λ d taken. taken) (name_kept past first)
      whole fit sectors leaves.devices answers in
      let left = history_survives head_of past first leaves.begins leaves.allowed in
      record {
        follows = f;
        leaves = λ twins good. leaves_throughout first past h.size sectors f.vs calls leaves f.one_run f.calls (f.safe tracks twins left good).0;
        tracks = λ twins good. (f.safe tracks twins left good).1;
      };
  meets = meets_pool laws h sectors entries calls next whole fit answers replay;
  births = begins_pool laws begins h sectors entries calls next whole fit answers;
}

size_again : (p : Pool) (size : ℕ → ℕ) (d : ℕ) (member : Bool) → (member ≡ true → 1 ≤ size d → size d ≡ p.size d) → 1 ≤ size d → cond member (p.size d) (size d) ≡ size d
size_again p size d true same has = sym (same refl has)
size_again p size d false same has = refl

pub next_run : (p : Pool) (h : HostState) (sectors : Sectors) (table : List HostDevice) (size : ℕ → ℕ) (records : List Rec)
    → (tracks : Tracks p h) → ((d : ℕ) → p.member d ≡ true → 1 ≤ size d → size d ≡ p.size d) → ((r : Rec) → IsIn r h.records → IsIn r records)
    → ((d : ℕ) → number_in tracks.first.name table ≡ Some d → d ≡ tracks.first.dev) → ((d : ℕ) → number_in tracks.second.name table ≡ Some d → d ≡ tracks.second.dev)
    → Tracks (after (Stops sectors size) p) (started table size records)
next_run p h sectors table size records t sizes grow first second = record {
  sizes = λ d has. size_again p size d (p.member d) (sizes d) has;
  first = t.first;
  second = t.second;
  apart = t.apart;
  numbers = t.numbers;
  members = t.members;
  first_guid = t.first_guid;
  second_guid = t.second_guid;
  first_number = first;
  second_number = second;
  known = λ r is some. grow r (t.known r is some);
  own = t.own;
  stands = tt;
}
