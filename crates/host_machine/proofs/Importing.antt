-- An import follows each pool: where it opens the pool itself, by the events of an opening and a commit; where it
-- opens another, that one takes its devices.
use Rattle.std.proofs.Common.{◌≡◌, ◌≢◌, ◌⊎◌, ℕ, zero, suc, ◌≤◌, Bool, true, false, List, [], ◌∷◌, ◌++◌, Option, Some, None, refl, sym, ap, ◌∙◌, subst, inl, inr}
use Rattle.std.specs.Prelude.{nat_le, ◌&&◌}
use Rattle.std.specs.List.{cons_option}
use Rattle.std.specs.Option.{option_map}
use Rattle.std.specs.Str.{bytes_eq}
use Rattle.std.proofs.lemmas.Bool.{and_parts, and_from, leb-true, le-leb}
use Rattle.std.proofs.lemmas.Slice.Eq.{bytes_eq-Decides}
use Rattle.bank_core.specs.Disk.{Noted, AllAnswer}
use Rattle.label_store.specs.Newest.{Parts, AreReads, IsLook}
use Rattle.label_store.specs.Rounds.{config_of}
use Rattle.label_store.proofs.Reading.{are_reads_more, look_reads}
use Rattle.label_store.specs.declared.found.Found.{Found}
use Rattle.label_store.specs.declared.rule.Head.{Head}
use Rattle.config_codec.specs.Fields.{Fields}
use Rattle.config_codec.specs.Reading.{config_in}
use Rattle.pool_wire.specs.declared.reply.Reply.{Reply}
use Rattle.pool_history.specs.Events.{Event, Known, Calls, Looks, Opens, as_events, calls_of, IsOneRun}
use Rattle.pool_history.specs.Looks.{known_by}
use Rattle.pool_history.specs.Moves.{Mays}
use Rattle.pool_history.specs.Pools.{Pool, after, pool_after}
use Rattle.pool_history.specs.Premises.{AreGood}
use Rattle.pool_history.specs.Records.{Rec, IsIn, number_of}
use Rattle.pool_history.specs.Survival.{Survives}
use Rattle.pool_history.proofs.Folding.{member_kept, takes_none_more, calls_take_none, with_calls, calls_are, calls_more, calls_then, mays_calls, stops_never_more, calls_never_stop}
use Rattle.pool_history.proofs.LookedParts.{answer_first}
use Rattle.pool_history.proofs.Moving.{in_first}
use Rattle.pool_core.specs.Heads.{head_from, head_of}
use Rattle.pool_core.specs.Logs.{drawn}
use Rattle.pool_core.proofs.Drawing.{drawn_relogs}
use Rattle.pool_core.specs.State.{PoolState}
use Rattle.pool_core.specs.Syncing.{flush_plan}
use Rattle.host_machine.specs.Devices.{all_handed}
use Rattle.host_machine.specs.Fitness.{IsFit}
use Rattle.host_machine.specs.Machine.{HostState, commit_outcome, open_seats, open_state, IsImport}
use Rattle.host_machine.specs.Tracking.{Cost, Device, Opening, Place, IsElsewhere, AreLooked, OpensAnother, StandsIn, Tracks, HasNoTwins, Follows}
use Rattle.host_machine.proofs.Away.{AreAway, away_more, away_may, reads_away, identified_reads, not_both}
use Rattle.host_machine.proofs.Committing.{CommitFollows, commit_follows, outcome_table, outcome_size, outcome_records}
use Rattle.host_machine.proofs.CommitsAway.{commit_away, flushes_away}
use Rattle.host_machine.proofs.Following.{kept_last, Among, without, fewer, among_lost, none_member, reads_follow, taking_follow}
use Rattle.host_machine.proofs.Knowing.{twins_before}
use Rattle.host_machine.proofs.LookMarks.{looked_more}
use Rattle.host_machine.proofs.RoundMarks.{marks_more, calls_marked, marks_looked}
use Rattle.host_machine.proofs.Looking.{looked_true, looked_live, away_survives, opens_survives}
use Rattle.host_machine.proofs.Openings.{IsNewest, IsOpening, IsUnopened, opening_case}
use Rattle.host_machine.proofs.Rereading.{known_as, ready_again}
use Rattle.host_machine.proofs.HostSeats.{identified_found, found_seated}
use Rattle.host_machine.proofs.Settling.{same_some, none_some}
use Rattle.host_machine.proofs.Standings.{drawn_stays}

-- A search among records for one of this configuration, with a number.
pub record IsOne (config : List ℕ) (r : Rec) : Type 0 where
  pub config_is : config_of r.commit ≡ config
  pub some : 1 ≤ number_of r

is_one : (config : List ℕ) (r : Rec) → (bytes_eq (config_of r.commit) config && nat_le 1 (number_of r)) ≡ true → IsOne config r
is_one config r e =
    let parts = and_parts (bytes_eq (config_of r.commit) config) (nat_le 1 (number_of r)) e in
    record { config_is = (bytes_eq-Decides (config_of r.commit) config).0 parts.0; some = leb-true 1 (number_of r) parts.1 }

one_test : (config : List ℕ) (r : Rec) → IsOne config r → (bytes_eq (config_of r.commit) config && nat_le 1 (number_of r)) ≡ true
one_test config r one =
    and_from (bytes_eq (config_of r.commit) config) (nat_le 1 (number_of r)) ((bytes_eq-Decides (config_of r.commit) config).1 one.config_is) (le-leb 1 (number_of r) one.some)

pub record Hit (config : List ℕ) (rs : List Rec) : Type 0 where
  pub r : Rec
  pub is_in : IsIn r rs
  pub one : IsOne config r

abbrev Missed : List ℕ → List Rec → Type 0
Missed config rs = (r : Rec) → IsIn r rs → IsOne config r → ⊥

search_live : (config : List ℕ) (rs : List Rec) → Hit config rs ⊎ Missed config rs
search_live config [] = inr (λ r i one. absurd i)
search_live config (q ∷ rs) = by_test (bytes_eq (config_of q.commit) config && nat_le 1 (number_of q)) refl (search_live config rs)
  where
    missed : (bytes_eq (config_of q.commit) config && nat_le 1 (number_of q)) ≡ false → Missed config rs → (r : Rec) → (r ≡ q) ⊎ IsIn r rs → IsOne config r → ⊥
    missed t more r (inl same) one = not_both _ t (one_test config q (subst (IsOne config) same one))
    missed t more r (inr i) one = more r i one

    by_test : (t : Bool) → (bytes_eq (config_of q.commit) config && nat_le 1 (number_of q)) ≡ t → Hit config rs ⊎ Missed config rs → Hit config (q ∷ rs) ⊎ Missed config (q ∷ rs)
    by_test true t more = inl (record { r = q; is_in = inl refl; one = is_one config q t })
    by_test false t (inl hit) = inl (record { r = hit.r; is_in = inr hit.is_in; one = hit.one })
    by_test false t (inr none) = inr (missed t none)

-- behind calls, what is assumed of the openings among more events
good_behind : (made : List Noted) (vs : List Event) (p : Pool) → AreGood head_of p (as_events made ++ vs) → AreGood head_of (with_calls made p) vs
good_behind [] vs p good = good
good_behind (noted ∷ made) vs p good = good_behind made vs (after (Calls noted) p) good

-- what a commit leaves of a host
pub outcome_kept : (h : HostState) (t : PoolState) (failed : ℕ) (r : Rec) → IsIn r h.records → IsIn r (commit_outcome h t failed).0.records
outcome_kept h t failed r i = subst (IsIn r) (sym (outcome_records h t failed)) (drawn_stays t h.records r i)

-- the devices on which leaves were found
abbrev found_devs : Option ℕ × Option ℕ → List ℕ
found_devs devs = cons_option devs.0 (cons_option devs.1 [])

devs_first : (one other : Option ℕ) (d : ℕ) → one ≡ Some d → Among d (cons_option one (cons_option other []))
devs_first None other d e = absurd (none_some d e)
devs_first (Some x) other d e = inl (sym (same_some x d e))

devs_second : (one other : Option ℕ) (d : ℕ) → other ≡ Some d → Among d (cons_option one (cons_option other []))
devs_second one None d e = absurd (none_some d e)
devs_second None (Some y) d e = inl (sym (same_some y d e))
devs_second (Some x) (Some y) d e = inr (inl (sym (same_some y d e)))

devs_are : (one other : Option ℕ) (d : ℕ) → Among d (cons_option one (cons_option other [])) → (one ≡ Some d) ⊎ (other ≡ Some d)
devs_are None None d at = absurd at
devs_are None (Some y) d (inl same) = inr (ap Some (sym same))
devs_are None (Some y) d (inr none) = absurd none
devs_are (Some x) None d (inl same) = inl (ap Some (sym same))
devs_are (Some x) None d (inr none) = absurd none
devs_are (Some x) (Some y) d (inl same) = inl (ap Some (sym same))
devs_are (Some x) (Some y) d (inr (inl same)) = inr (ap Some (sym same))
devs_are (Some x) (Some y) d (inr (inr none)) = absurd none

-- the record that was found has the name
newest_name : (h : HostState) (name : List ℕ) (looks : List Parts) (found : Found) (c : Fields) → IsNewest h name looks (Some found) → config_in found.blob.items ≡ Some c → c.name ≡ name
newest_name h name looks found c newest config =
    ap (λ (x : Head). x.name) (same_some (head_from c) newest.candidate.verified.head (sym (ap (option_map head_from) config) ∙ newest.candidate.verified.reads)) ∙ newest.candidate.verified.name_is

module _ (T : Cost → Type 0) (p : Pool) (h : HostState) (name : List ℕ) (reads : List Noted) (looks : List Parts) (made : List Noted) (next : HostState) (reply : Reply)
    (fit : IsFit h) (look : IsLook h.size (all_handed h.table) looks reads) (answers : AllAnswer p.sectors reads)
    (o : IsOpening h name looks made next reply) (takes : (d : ℕ) → OpensAnother p.name h name (reads ++ made) d → T (Device d)) (opens : name ≡ p.name → T Opening) where
  -- the state that was found, and the one that is committed
  abbrev found_here : PoolState
  found_here = open_state h o.found.blob.items o.c o.devs

  abbrev found_again : PoolState
  found_again = drawn found_here

  all_reads : AreReads reads
  all_reads = look_reads h.size (all_handed h.table) looks reads look

  ids_reads : AreReads o.ids
  ids_reads = identified_reads h.size o.c (open_seats h o.c) o.devs o.ids o.identified

  -- Another pool was opened: it takes its devices.
  abbrev taken : List ℕ
  taken = found_devs o.devs

  first_taken : (d : ℕ) → found_again.first.dev ≡ Some d → (without taken p).member d ≡ false
  first_taken d e = among_lost taken p d (devs_first o.devs.0 o.devs.1 d (sym (ap (λ (t : PoolState). t.first.dev) (drawn_relogs found_here).is) ∙ e))

  second_taken : (d : ℕ) → found_again.second.dev ≡ Some d → (without taken p).member d ≡ false
  second_taken d e = among_lost taken p d (devs_second o.devs.0 o.devs.1 d (sym (ap (λ (t : PoolState). t.second.dev) (drawn_relogs found_here).is) ∙ e))

  other_away : AreAway (without taken p).member (reads ++ (o.ids ++ o.round))
  other_away =
      away_more (without taken p).member reads (o.ids ++ o.round) (reads_away (without taken p).member reads all_reads)
      (away_more (without taken p).member o.ids o.round (reads_away (without taken p).member o.ids ids_reads)
      (commit_away (without taken p).member h.size (flush_plan found_here) found_again o.round o.failed first_taken second_taken (flushes_away (without taken p).member found_here) o.commit))

  -- each of its devices is taken
  other_takes : name ≢ p.name → (d : ℕ) → Among d taken → T (Device d)
  other_takes other d at = takes d (record {
    other = other;
    reads = reads;
    ids = o.ids;
    more = o.round;
    all = ap (λ m. reads ++ m) o.all;
    looks = looks;
    look = look;
    best = o.found;
    is_best = o.newest;
    c = o.c;
    config = o.config;
    found = o.devs;
    identified = o.identified;
    leaf = devs_are o.devs.0 o.devs.1 d at;
  })

  other_elsewhere : name ≢ p.name → IsElsewhere (without taken p) h.table found_again
  other_elsewhere other = record {
    seated = λ same. absurd (not_own same);
    first = none_member taken p found_again.first.dev first_taken;
    second = none_member taken p found_again.second.dev second_taken;
    alone_first = λ same. absurd (not_own same);
    alone_second = λ same. absurd (not_own same);
  }
    where
      not_own : found_again.name ≡ (without taken p).name → ⊥
      not_own same =
          other (sym (newest_name h name looks o.found o.c o.newest o.config) ∙ sym (ap (λ (t : PoolState). t.name) (drawn_relogs found_here).is) ∙ same ∙ (fewer taken p).name)

  other_stands : (first second : Place) (failed : ℕ) → name ≢ p.name → StandsIn (without taken p) first second (commit_outcome h found_again failed).0.table (commit_outcome h found_again failed).0.pool
  other_stands first second zero other = inr (other_elsewhere other)
  other_stands first second (suc n) other = tt

  other_follows : name ≢ p.name → Follows p h T (reads ++ (o.ids ++ o.round)) (commit_outcome h found_again o.failed).0
  other_follows other =
      taking_follow T p h taken (reads ++ (o.ids ++ o.round)) (commit_outcome h found_again o.failed).0 (other_takes other) other_away
      (outcome_table h found_again o.failed) (outcome_size h found_again o.failed) (outcome_kept h found_again o.failed) (λ tr. other_stands tr.first tr.second o.failed other)

  abbrev here : Known
  here = known_by h.size (all_handed h.table) looks

  -- the mark of the look stands behind its reads
  looked_mark : (vs : List Event) → AreLooked h reads vs → AreLooked h [] (as_events reads ++ Looks here ∷ vs)
  looked_mark vs l =
      looked_more h [] (as_events reads) (Looks here ∷ vs) (marks_looked h [] (as_events reads) (calls_marked reads))
      (subst (λ cs. AreLooked h cs (Looks here ∷ vs)) (sym (calls_are reads))
      (record { earlier = []; reads = reads; all = refl; looks = looks; look = look; known_is = refl }, l))

  -- The pool itself was opened, and reads this live record.
  module _ (r : Rec) (live : IsIn r p.live) (one : IsOne o.found.blob.items r) where
    abbrev opened : Pool
    opened = after (Opens r) (with_calls reads p)

    abbrev ready : Pool
    ready = with_calls o.ids opened

    commits : CommitFollows ready h (flush_plan found_here) found_again o.round (commit_outcome h found_again o.failed).0
    commits = commit_follows ready h (flush_plan found_here) found_again o.round o.failed o.commit

    abbrev rest : List Event
    rest = as_events o.ids ++ commits.vs

    abbrev all_events : List Event
    all_events = as_events reads ++ Looks here ∷ Opens r ∷ rest

    rest_calls : calls_of rest ≡ o.ids ++ o.round
    rest_calls = calls_more (as_events o.ids) commits.vs ∙ ap (λ l. l ++ calls_of commits.vs) (calls_are o.ids) ∙ ap (λ l. o.ids ++ l) commits.calls

    all_calls : calls_of all_events ≡ reads ++ (o.ids ++ o.round)
    all_calls = calls_more (as_events reads) (Looks here ∷ Opens r ∷ rest) ∙ ap (λ l. l ++ calls_of rest) (calls_are reads) ∙ ap (λ l. reads ++ l) rest_calls

    one_run : IsOneRun all_events
    one_run = stops_never_more (as_events reads) (Looks here ∷ Opens r ∷ rest) (calls_never_stop reads) (stops_never_more (as_events o.ids) commits.vs (calls_never_stop o.ids) commits.one_run)

    moves : Tracks p h → HasNoTwins h.records → Survives head_of p → Mays head_of p all_events × Tracks (pool_after all_events p) (commit_outcome h found_again o.failed).0
    moves tracks twins sv =
        let sv_reads = away_survives p reads (reads_away p.member reads all_reads) sv in
        let sv_ready = away_survives opened o.ids (reads_away opened.member o.ids ids_reads) (opens_survives (with_calls reads p) r live sv_reads) in
        let known = known_as h.records o.found.blob.items o.c r fit.drawn twins o.config one.config_is (tracks.known r (in_first r p.live p.given live) one.some) in
        let is_ready = ready_again p h fit tracks reads o.ids o.found.blob.items o.c o.devs r o.config o.unspent
        (found_seated h o.c o.devs fit.sized (identified_found h.size o.c (open_seats h o.c) o.devs o.ids o.identified)) live known
        (sym known.drawn.pool ∙ sv.pools r (in_first r p.live p.given live)) sv_ready in
        let safe = commits.safe is_ready sv_ready in (
          mays_calls head_of reads (Looks here ∷ Opens r ∷ rest) p (away_may head_of reads p (reads_away p.member reads all_reads)) (
            looked_true p h reads looks fit tracks.sizes look answers,
            (live, mays_calls head_of o.ids commits.vs opened (away_may head_of o.ids opened (reads_away opened.member o.ids ids_reads)) safe.0),
          ),
          subst (λ q. Tracks q (commit_outcome h found_again o.failed).0) (sym (calls_then reads (Looks here ∷ Opens r ∷ rest) p ∙ calls_then o.ids commits.vs opened)) safe.1,
        )

    all_member : (pool_after all_events p).member ≡ p.member
    all_member = ap (λ (q : Pool). q.member) (calls_then reads (Looks here ∷ Opens r ∷ rest) p ∙ calls_then o.ids commits.vs opened) ∙ commits.member

    own_follows : name ≡ p.name → Follows p h T (reads ++ (o.ids ++ o.round)) (commit_outcome h found_again o.failed).0
    own_follows same = record {
      vs = all_events;
      calls = all_calls;
      one_run = one_run;
      devices = (outcome_table h found_again o.failed, outcome_size h found_again o.failed);
      asked = inr (opens same);
      looked = looked_mark (Opens r ∷ rest) (marks_looked h reads rest (marks_more (as_events o.ids) commits.vs (calls_marked o.ids) commits.marks));
      keeps = λ d is. inl (ap (λ f. f d) all_member ∙ is);
      safe = λ tracks twins sv good. moves tracks (twins_before h.records (commit_outcome h found_again o.failed).0.records (outcome_kept h found_again o.failed) twins) sv;
      last = λ tracks twins sv good. kept_last T p (pool_after all_events p) all_member;
    }

  -- None of its live records was found: that the opening is a good one says that there is one.
  abbrev no_events : List Event
  no_events = as_events reads ++ Looks here ∷ as_events (o.ids ++ o.round)

  no_member : (pool_after no_events p).member ≡ p.member
  no_member = member_kept no_events p (takes_none_more (as_events reads) (Looks here ∷ as_events (o.ids ++ o.round)) (calls_take_none reads) (calls_take_none (o.ids ++ o.round)))

  none_follows : name ≡ p.name → Missed o.found.blob.items p.live → Follows p h T (reads ++ (o.ids ++ o.round)) (commit_outcome h found_again o.failed).0
  none_follows same missed = record {
    vs = no_events;
    calls = calls_more (as_events reads) (Looks here ∷ as_events (o.ids ++ o.round)) ∙ ap (λ l. l ++ calls_of (as_events (o.ids ++ o.round))) (calls_are reads)
        ∙ ap (λ l. reads ++ l) (calls_are (o.ids ++ o.round));
    one_run = stops_never_more (as_events reads) (Looks here ∷ as_events (o.ids ++ o.round)) (calls_never_stop reads) (calls_never_stop (o.ids ++ o.round));
    devices = (outcome_table h found_again o.failed, outcome_size h found_again o.failed);
    asked = inr (opens same);
    looked = looked_mark (as_events (o.ids ++ o.round)) (marks_looked h reads (as_events (o.ids ++ o.round)) (calls_marked (o.ids ++ o.round)));
    keeps = λ d is. inl (ap (λ f. f d) no_member ∙ is);
    safe = λ tracks twins sv good.
        let later = looked_live p h reads looks fit tracks.sizes look answers o.found sv (good_behind reads (Looks here ∷ as_events (o.ids ++ o.round)) p good).0
        (subst (λ n. IsNewest h n looks (Some o.found)) same o.newest) in
        absurd (missed later.live.r later.live.is_live (record { config_is = later.live.config_is; some = later.live.some }));
    last = λ tracks twins sv good. kept_last T p (pool_after no_events p) no_member;
  }

  by_search : name ≡ p.name → Hit o.found.blob.items p.live ⊎ Missed o.found.blob.items p.live → Follows p h T (reads ++ (o.ids ++ o.round)) (commit_outcome h found_again o.failed).0
  by_search same (inl hit) = own_follows hit.r hit.is_in hit.one same
  by_search same (inr missed) = none_follows same missed

  by_name : (t : Bool) → bytes_eq name p.name ≡ t → Follows p h T (reads ++ (o.ids ++ o.round)) (commit_outcome h found_again o.failed).0
  by_name true t = by_search ((bytes_eq-Decides name p.name).0 t) (search_live o.found.blob.items p.live)
  by_name false t = other_follows (λ same. absurd (let no : true ≡ false = sym ((bytes_eq-Decides name p.name).1 same) ∙ t in cc))

  pub opening_follows : Follows p h T (reads ++ made) next
  opening_follows =
      subst (λ m. Follows p h T (reads ++ m) next) (sym o.all)
      (subst (Follows p h T (reads ++ (o.ids ++ o.round))) (sym (ap (λ x. x.0) o.outcome)) (by_name (bytes_eq name p.name) refl))

-- An import follows each pool.
pub import_follows : (T : Cost → Type 0) (p : Pool) (h : HostState) (name : List ℕ) (made : List Noted) (next : HostState) (reply : Reply) → IsFit h → AllAnswer p.sectors made
    → ((d : ℕ) → OpensAnother p.name h name made d → T (Device d)) → (name ≡ p.name → T Opening) → IsImport h name made next reply → Follows p h T made next
import_follows T p h name made next reply fit answers takes opens i =
    subst (λ m. Follows p h T m next) (sym i.all) (by_case (opening_case h name i.looks next reply i.best i.more i.is_best i.opens))
  where
    by_case : IsUnopened h name i.looks i.more next reply ⊎ IsOpening h name i.looks i.more next reply → Follows p h T (i.reads ++ i.more) next
    by_case (inl u) = reads_follow T p h (i.reads ++ i.more) next (are_reads_more i.reads i.more (look_reads h.size (all_handed h.table) i.looks i.reads i.look) u.reads) u.same
    by_case (inr o) =
        opening_follows T p h name i.reads i.looks i.more next reply fit i.look (answer_first i.reads i.more p.sectors (subst (AllAnswer p.sectors) i.all answers)) o
        (λ d taken. takes d (subst (λ m. OpensAnother p.name h name m d) (sym i.all) taken)) opens
