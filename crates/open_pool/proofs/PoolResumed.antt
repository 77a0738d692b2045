-- The commit of an opening from its parts: the freeze, the group's end, and the counts behind it.
use Rattle.std.proofs.Common.{◌≡◌, ◌⊎◌, inl, inr, ℕ, ◌+◌, Bool, true, false, List, [], ◌∷◌, ◌++◌, None, Result, Ok, Err, refl, sym, ap, ◌∙◌, subst}
use Rattle.std.specs.Prelude.{is_ok}
use Rattle.std.proofs.lemmas.Bool.{true≢false}
use Rattle.mp_base.specs.declared.number.Group.{Group}
use Rattle.bank_core.specs.BankView.{BankView}
use Rattle.bank_core.specs.Calls as bank
use Rattle.bank_core.proofs.Framing.{makes_none}
use Rattle.pool_codec.specs.Codecs.{pool_codec}
use Rattle.txg_engine.specs.declared.seat.Suspended.{Suspended}
use Rattle.pool_moves.specs.CommitRows.{RowReopen, uncounts}
use Rattle.pool_moves.specs.FreezeRow.{RowEmptyFreeze, up_devs}
use Rattle.pool_moves.specs.LineRows as rows
use Rattle.pool_moves.specs.LineRows.{TurnReply, AreTurns, EndsGroup, Ends}
use Rattle.pool_moves.specs.Moves.{Move, Freeze, Scan_from, step, steps}
use Rattle.pool_moves.specs.OpeningRow.{ResumesBy, ResumesUnless}
use Rattle.pool_moves.specs.ReadRow.{made_in}
use Rattle.pool_moves.specs.Resilvers.{Resilvers, rest_if}
use Rattle.pool_moves.specs.States.{PoolSeen, PoolState}
use Rattle.pool_moves.proofs.FreeWalks.{steps_more}
use Rattle.pool_moves.proofs.KindsOfMoves.{uncounts_set}
use Rattle.open_pool.specs.declared.resuming.ResumeFault.{ResumeFault}
use Rattle.open_pool.specs.declared.resuming.ResumeFault.TheVariants as resumes
use Rattle.open_pool.specs.declared.sync.SyncFault.{SyncFault}
use Rattle.open_pool.specs.declared.sync.SyncFault.TheVariants as syncs
use Rattle.open_pool.specs.Committing.{suspended_as, turn_says}
use Rattle.open_pool.specs.Parts.{PoolParts}
use Rattle.open_pool.specs.Resuming.{FreezesNone, IsLacking, IsResumedAs, RecommitsOrStops, TellsBy, as_opened, lacking, unended_as}
use Rattle.open_pool.specs.State.{Stands}
use Rattle.open_pool.specs.Syncing.{TellsOne, end_says}
use Rattle.open_pool.proofs.GroupsEnded.{Ending}
use Rattle.open_pool.proofs.PartRows.{made_first, made_more, made_sets, made_widens}
use Rattle.open_pool.proofs.SomeState.{some_state}
use Rattle.open_pool.proofs.TurnsUnopened.{ends_unopened, group_commits, opened_then}

-- A freeze makes no call.
freeze_calls : (s : PoolState) (vs : List Move) → RowEmptyFreeze s vs → made_in vs ≡ []
freeze_calls s vs row =
    let w = row.moves in
    ap made_in w.moves ∙ made_widens (step (Freeze (λ k. None) (up_devs s.core.leaves)) s.core) w.widens w.are

-- Nor does a resilver's start.
resilver_calls : (s : PoolSeen) (vs : List Move) → Resilvers s vs → made_in vs ≡ []
resilver_calls s vs (inl starts) = ap made_in starts.moves ∙ by s.scan.running
  where
    by : (running : Bool) → made_in (rest_if running ++ (Scan_from s.read_number (up_devs s.leaves) ∷ [])) ≡ []
    by true = refl
    by false = refl
resilver_calls s vs (inr none) = ap made_in none.1

-- Behind a suspended group nothing starts.
starts_none : (reply : TurnReply) (told : Suspended) (s : PoolState) → turn_says reply ≡ Err told → ResumesBy reply s []
starts_none (rows.Committed number) told s is = absurd (cc)
starts_none reply told s is = refl

-- What a group's end answers, by its last turn's reply.
commits : (number : Group) (reply : TurnReply) → Ok number ≡ end_says reply → reply ≡ rows.Committed number.0
commits number (rows.Committed other) is =
    let same : number ≡ record { 0 = other } = cc in
    ap (λ (g : Group). rows.Committed g.0) (sym same)
commits number reply is = absurd (cc)

suspends : (told : Suspended) (reply : TurnReply) → Err (syncs.Suspended told) ≡ end_says reply → turn_says reply ≡ Err told
suspends told (rows.Suspended group top faults) is =
    let same : told ≡ suspended_as group top faults = cc in ap (λ t. Err t) (sym same)
suspends told reply is = absurd (cc)

last_ends : (size : ℕ → ℕ) (s : PoolState) (turns : List (List Move × TurnReply)) (reply : TurnReply) → AreTurns pool_codec size s turns reply → Ends reply ≡ true
last_ends size s [] reply are = absurd are
last_ends size s (turn ∷ []) reply are = ap Ends are.2 ∙ are.1
last_ends size s (turn ∷ (next ∷ turns)) reply are = last_ends size (steps turn.0 s) (next ∷ turns) reply are.2

told_of : (fault : SyncFault) (reply : TurnReply) → Ends reply ≡ true → Err fault ≡ end_says reply → is_ok (unended_as fault) ≡ true
told_of fault (rows.Suspended group top faults) ends is =
    let same : fault ≡ syncs.Suspended (suspended_as group top faults) = cc in ap (λ f. is_ok (unended_as f)) same
told_of fault (rows.Committed number) ends is = absurd (cc)
told_of fault reply ends is = absurd (true≢false (sym ends))

-- A group that isn't acknowledged at its end is suspended.
pub is_suspended : (mid q : PoolParts) (from to : BankView) (fault : SyncFault)
    → ((s : PoolState) → Stands mid s → Ending from.size (Err fault) s q from to) → is_ok (unended_as fault) ≡ true
is_suspended mid q from to fault end =
    let some = some_state mid in
    let e = end some.0 some.1 in
    told_of fault e.answers.reply (last_ends from.size some.0 e.answers.is.turns e.answers.reply e.answers.is.are) e.answers.says_so

-- The freeze was refused.
pub not_begun : (s : PoolState) (why : ResumeFault) (answer : Result PoolParts ResumeFault) (bank : BankView) → answer ≡ Err why
    → IsLacking s why ⊎ (why ≡ resumes.Memory) → RecommitsOrStops answer s bank bank
not_begun s why answer bank is (inl lacks) = inl (record {
  moves = [];
  reply = rows.Suspended (s.core.number + 1) (s.own.top_number lacks.top) 0;
  row = subst (λ o. ResumesUnless o pool_codec bank.size s [] (rows.Suspended (s.core.number + 1) (s.own.top_number lacks.top) 0)) (sym lacks.lacks) (refl, refl);
  answers = subst (λ a. IsResumedAs a (rows.Suspended (s.core.number + 1) (s.own.top_number lacks.top) 0) s) (sym (is ∙ ap (λ w. Err w) lacks.why_is)) refl;
  calls = makes_none;
})
not_begun s why answer bank is (inr memory) = inr (is ∙ ap (λ w. Err w) memory, refl)

-- It froze a group, which was ended.
module _ (p mid q : PoolParts) (from to : BankView) (begins : (s : PoolState) → Stands p s → FreezesNone s mid) (answer : Result Group SyncFault)
    (end : (s : PoolState) → Stands mid s → Ending from.size answer s q from to) (s : PoolState) (stands : Stands p s) where
  abbrev first : FreezesNone s mid
  first = begins s stands

  abbrev ended : Ending from.size answer (as_opened (steps first.moves s)) q from to
  ended = end (as_opened (steps first.moves s)) first.stands

  abbrev now : PoolState
  now = steps ended.answers.moves (steps first.moves s)

  abbrev all : List Move
  all = first.moves ++ (ended.answers.moves ++ uncounts now.core.leaves)

  ends : EndsGroup pool_codec from.size (steps first.moves s) ended.answers.moves ended.answers.reply
  ends = ends_unopened pool_codec from.size (steps first.moves s) ended.answers.moves ended.answers.reply ended.answers.is

  reopens : RowReopen pool_codec from.size s all ended.answers.reply
  reopens = record { first = first.moves; freeze = first.row; rest = ended.answers.moves; ends = ends; moves = refl }

  -- with what starts behind it
  row : (vs : List Move) → ResumesBy ended.answers.reply (steps all s) vs → ResumesUnless (lacking s) pool_codec from.size s (all ++ vs) ended.answers.reply
  row vs starts = subst (λ o. ResumesUnless o pool_codec from.size s (all ++ vs) ended.answers.reply) (sym first.served)
      (record { first = all; row = reopens; rest = vs; resumes = starts; moves = refl })

  all_steps : steps all s ≡ steps (uncounts now.core.leaves) now
  all_steps = steps_more first.moves (ended.answers.moves ++ uncounts now.core.leaves) s
      ∙ steps_more ended.answers.moves (uncounts now.core.leaves) (steps first.moves s)

  all_calls : bank.Makes (made_in all) from to
  all_calls = subst (λ calls. bank.Makes calls from to)
      (sym (made_more first.moves (ended.answers.moves ++ uncounts now.core.leaves) (freeze_calls s first.moves first.row)
      ∙ made_first ended.answers.moves (uncounts now.core.leaves) (made_sets (uncounts now.core.leaves) (uncounts_set now.core.leaves)))) ended.calls

  pub suspended : (fault : SyncFault) (why : ResumeFault) (result : Result PoolParts ResumeFault) → answer ≡ Err fault → unended_as fault ≡ Ok why
      → result ≡ Err why → RecommitsOrStops result s from to
  suspended (syncs.Suspended told) why result is says err =
      let told_by = suspends told ended.answers.reply (sym is ∙ ended.answers.says_so) in
      inl (record {
        moves = all ++ [];
        reply = ended.answers.reply;
        row = row [] (starts_none ended.answers.reply told (steps all s) told_by);
        answers =
            let same : resumes.Suspended told ≡ why = cc in
            subst (λ r. IsResumedAs r ended.answers.reply (steps (all ++ []) s)) (sym (err ∙ ap (λ w. Err w) (sym same))) told_by;
        calls = subst (λ calls. bank.Makes calls from to) (sym (made_first all [] refl)) all_calls;
      })
  suspended fault why result is says err = absurd (cc)

  pub suspended_tells : (fault : SyncFault) (why : ResumeFault) → unended_as fault ≡ Ok why → TellsOne fault → TellsBy why (lacking s)
  suspended_tells (syncs.Suspended told) why says one =
      let same : resumes.Suspended told ≡ why = cc in
      subst (λ w. TellsBy w (lacking s)) same (subst (TellsBy (resumes.Suspended told)) (sym first.served) one)
  suspended_tells fault why says one = absurd (cc)

  pub resumed : (number : Group) (mended r : PoolParts) → answer ≡ Ok number
      → ((t : PoolState) → Stands q t → Stands mended (steps (uncounts t.core.leaves) t))
      → ((t : PoolState) → Stands mended t → (vs : List Move) × Resilvers t.core vs × Stands r (steps vs t))
      → r.read ≡ q.read → RecommitsOrStops (Ok r) s from to
  resumed number mended r is counts starts read =
      let reply : ended.answers.reply ≡ rows.Committed number.0 = commits number ended.answers.reply (sym is ∙ ended.answers.says_so) in
      let acked = subst (λ o. EndsGroup pool_codec from.size (steps first.moves s) ended.answers.moves o) reply ends in
      let there : Stands q now =
      subst (Stands q) (opened_then pool_codec from.size (steps first.moves s) ended.answers.moves number.0 acked) ended.answers.leaves in
      let number_is : q.read ≡ number.0 =
      sym (ap (λ (t : PoolState). t.core.read_number) there.is)
      ∙ (group_commits pool_codec from.size (steps first.moves s) ended.answers.moves number.0 acked).read in
      let started = starts (steps all s) (subst (Stands mended) (sym all_steps) (counts now there)) in
      inl (record {
        moves = all ++ started.0;
        reply = ended.answers.reply;
        row = row started.0 (subst (λ o. ResumesBy o (steps all s) started.0) (sym reply) started.1);
        answers = (reply ∙ ap rows.Committed (sym number_is ∙ sym read), subst (Stands r) (sym (steps_more all started.0 s)) started.2);
        calls = subst (λ calls. bank.Makes calls from to) (sym (made_first all started.0 (resilver_calls (steps all s).core started.0 started.1))) all_calls;
      })
