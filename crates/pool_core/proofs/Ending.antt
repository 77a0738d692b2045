-- How a commit ends, and what a sync did by it.
use Rattle.std.proofs.Common.{◌≡◌, ℕ, zero, suc, ◌+◌, ◌^◌, ◌-◌, ◌<◌, ◌≤◌, Bool, true, false, List, [], ◌∷◌, ◌++◌, Option, Result, Ok, Err, ◌⊎◌, refl, sym, ◌∙◌, ap, subst, arith, length, ◌==◌, le-leb}
use Rattle.std.proofs.Math.Path.{fun_ext}
use Rattle.std.specs.Prelude.{is_err}
use Rattle.std.specs.Prelude.{not}
use Rattle.std.specs.List.{filter}
use Rattle.std.proofs.lemmas.Bool.{lt-leb, ne_eqb}
use Rattle.mp_base.specs.declared.number.Group.{Group}
use Rattle.mp_base.specs.declared.number.Guid.{Guid}
use Rattle.mp_base.specs.declared.refusal.Refusal.{Refusal}
use Rattle.mp_base.specs.declared.refusal.Refusal.TheVariants as refusals
use Rattle.bank_core.specs.declared.bank.Fault.{Fault}
use Rattle.bank_core.specs.Asks.{Ask}
use Rattle.bank_core.specs.Parts.{MakesPart}
use Rattle.bank_core.specs.Story.{Story, fault_in}
use Rattle.bank_core.proofs.Composing.{made_none, made_more}
use Rattle.label_store.specs.declared.member.Member.{Member}
use Rattle.pool_core.specs.declared.pool.Pool.{Pool}
use Rattle.pool_core.specs.Commits.{IsCommit, IsRoundBehind, failures}
use Rattle.pool_core.specs.Done.{commit_answer, no_leaf, Refuses, Syncs, SyncsIf}
use Rattle.pool_core.specs.Keeping.{Represents}
use Rattle.pool_core.specs.State.{PoolState, board, is_nobody, has_nobody, is_spent, last_number}
use Rattle.pool_core.specs.Steps.{MakesOwnRound, FailsIn, EndsCommit}
use Rattle.pool_core.specs.Syncing.{sync_plan, synced}

abbrev suspended_with : Group → Guid → ℕ → Result Group Refusal
suspended_with group top faults = Err (refusals.Suspended group top faults)

same_suspended : (g g' : Group) (m m' : Guid) (n : ℕ) → g ≡ g' → m ≡ m' → suspended_with g m n ≡ suspended_with g' m' n
same_suspended g g' m m' n e1 e2 = cc

number_is : (pool : Pool) (s : PoolState) → Represents pool s → pool.number ≡ record { 0 = s.number }
number_is pool s r = let P : ℕ → Group = λ k. record { 0 = k } in ap P (sym r.number)

suspended_is : (pool : Pool) (s : PoolState) (n : ℕ) → Represents pool s
    → Err (refusals.Suspended pool.number pool.pair.mirror (suc n)) ≡ commit_answer s (suc n)
suspended_is pool s n r = same_suspended pool.number (record { 0 = s.number }) pool.pair.mirror s.mirror (suc n) (number_is pool s r) (sym r.pair.mirror)

-- a call failed before
pub ends_suspended : {told : Option Story} {faults : ℕ → ℕ} (size : ℕ → ℕ) (pool : Pool) (s : PoolState) (r : Result (Unit {0}) Fault) (refusal : Refusal)
    → is_err r ≡ true → Represents pool s → refusal ≡ refusals.Suspended pool.number pool.pair.mirror 1
    → EndsCommit size s (fault_in r) told told faults faults (Err refusal)
ends_suspended size pool s (Ok done) refusal e rep is = absurd cc
ends_suspended {told} {faults} size pool s (Err fault) refusal e rep is = record {
  made = [];
  failed = 1;
  calls = made_none told faults;
  behind = (refl, refl);
  answer_is = ap Err is ∙ suspended_is pool s 0 rep;
}

-- none did, and a round came
pub fails_in : {old new : Option Story} {f g : ℕ → ℕ} (size : ℕ → ℕ) (s : PoolState) (results : List Bool) (n : ℕ) → MakesOwnRound size s results old new f g
    → n ≡ failures results → FailsIn size s n old new f g
fails_in size s results n m is = record { made = m.made; calls = m.calls; round = (results, m.round, is) }

ends_round : (size : ℕ → ℕ) (s : PoolState) (r : Result (Unit {0}) Fault) (n : ℕ) (old new : Option Story) (f g : ℕ → ℕ)
    (answer : Result Group Refusal) → is_err r ≡ false → FailsIn size s n old new f g → answer ≡ commit_answer s n → EndsCommit size s (fault_in r) old new f g answer
ends_round size s (Ok done) n old new f g answer e m answer_is = record {
  made = m.made;
  failed = n;
  calls = m.calls;
  behind = m.round;
  answer_is = answer_is;
}
ends_round size s (Err fault) n old new f g answer e m answer_is = absurd cc

pub ends_whole : {old new : Option Story} {f g : ℕ → ℕ} (size : ℕ → ℕ) (pool : Pool) (s : PoolState) (r : Result (Unit {0}) Fault) (n : ℕ)
    → is_err r ≡ false → Represents pool s → FailsIn size s n old new f g → n ≡ 0 → EndsCommit size s (fault_in r) old new f g (Ok pool.number)
ends_whole {old} {new} {f} {g} size pool s r n e rep m none =
    ends_round size s r n old new f g _ e m (ap Ok (number_is pool s rep) ∙ ap (commit_answer s) (sym none))

failed_is : (pool : Pool) (s : PoolState) (n : ℕ) → Represents pool s → (n ≡ 0 → ⊥)
    → Err (refusals.Suspended pool.number pool.pair.mirror n) ≡ commit_answer s n
failed_is pool s zero rep some = absurd (some refl)
failed_is pool s (suc n) rep some = suspended_is pool s n rep

pub ends_failed : {old new : Option Story} {f g : ℕ → ℕ} (size : ℕ → ℕ) (pool : Pool) (s : PoolState) (r : Result (Unit {0}) Fault) (n : ℕ) (refusal : Refusal)
    → is_err r ≡ false → Represents pool s → FailsIn size s n old new f g → (n ≡ 0 → ⊥)
    → refusal ≡ refusals.Suspended pool.number pool.pair.mirror n → EndsCommit size s (fault_in r) old new f g (Err refusal)
ends_failed {old} {new} {f} {g} size pool s r n refusal e rep m some refusal_is =
    ends_round size s r n old new f g _ e m (ap Err refusal_is ∙ failed_is pool s n rep some)

-- calls of a plan, and the end of the commit behind them
pub is_commit : (size size' : ℕ → ℕ) (s t : PoolState) (outcome : Option Fault) (old mid new : Option Story) (f g h : ℕ → ℕ) (answer : Result Group Refusal)
    → ((d : ℕ) → size' d ≡ size d) → (plan : List Ask) (part : MakesPart plan old mid f g outcome) (ends : EndsCommit size' t outcome mid new g h answer)
    → IsCommit size plan t (part.made ++ ends.made) ends.failed
is_commit size size' s t outcome old mid new f g h answer same plan part ends = record {
  before = part.made;
  round = ends.made;
  all = refl;
  outcome = outcome;
  part = part.part;
  behind = subst (λ k. IsRoundBehind k t outcome ends.made ends.failed) (fun_ext same) ends.behind;
}

pub syncs : {old mid new : Option Story} {f g h : ℕ → ℕ} {outcome : Option Fault} {answer : Result Group Refusal} (size size' : ℕ → ℕ) (pool : Pool) (s : PoolState)
    → ((d : ℕ) → size' d ≡ size d) → MakesPart (sync_plan s) old mid f g outcome → EndsCommit size' (synced s) outcome mid new g h answer
    → Represents pool (synced s) → Syncs size s old new f h pool answer
syncs {old} {mid} {new} {f} {g} {h} {outcome} {answer} size size' pool s same part ends rep = record {
  made = part.made ++ ends.made;
  failed = ends.failed;
  calls = made_more old mid new f g h part.made ends.made part.calls ends.calls;
  commit = is_commit size size' s (synced s) outcome old mid new f g h answer same (sync_plan s) part ends;
  answer_is = ends.answer_is;
  represents = λ none. rep;
}

-- there are numbers left and a leaf on the board, or not
pub syncs_on : (old new : Option Story) (f g : ℕ → ℕ) (answer : Result Group Refusal) (size : ℕ → ℕ) (pool new_pool : Pool) (s : PoolState) (members : List Member) → Represents pool s
    → pool.number.0 < 2 ^ 62 - 64 → members ≡ board s → is_nobody members ≡ false
    → Syncs size s old new f g new_pool answer ⊎ Refuses s old new f g new_pool answer refusals.Memory
    → SyncsIf (is_spent s.number) (has_nobody s) size s old new f g new_pool answer
syncs_on old new f g answer size pool new_pool s members rep more are some done =
    let on : is_spent s.number ≡ false = lt-leb (2 ^ 62 - 64) s.number (rw rep.number more) in
    let seated : has_nobody s ≡ false = ap is_nobody (sym are) ∙ some in
    subst (λ t. SyncsIf t (has_nobody s) size s old new f g new_pool answer) (sym on)
    (subst (λ t. SyncsIf false t size s old new f g new_pool answer) (sym seated) done)

pub syncs_spent : (told : Option Story) (faults : ℕ → ℕ) (size : ℕ → ℕ) (pool : Pool) (s : PoolState) (n : ℕ) → Represents pool s
    → 2 ^ 62 - 64 ≤ pool.number.0 → n ≡ pool.number.0 + 1
    → SyncsIf (is_spent s.number) (has_nobody s) size s told told faults faults pool (Err (refusals.TreeFull last_number n))
syncs_spent told faults size pool s n rep last is =
    let spent : is_spent s.number ≡ true = le-leb (2 ^ 62 - 64) s.number (rw rep.number last) in
    let count : n ≡ s.number + 1 = is ∙ ap (λ k. k + 1) (sym rep.number) in
    subst (λ t. SyncsIf t (has_nobody s) size s told told faults faults pool (Err (refusals.TreeFull last_number n))) (sym spent)
    (made_none told faults, rep, ap (λ k. Err (refusals.TreeFull last_number k)) count)

-- no leaf is readable
pub syncs_nobody : (told : Option Story) (faults : ℕ → ℕ) (size : ℕ → ℕ) (pool : Pool) (s : PoolState) (members : List Member) (refusal : Refusal) → Represents pool s
    → pool.number.0 < 2 ^ 62 - 64 → members ≡ board s → is_nobody members ≡ true → refusal ≡ no_leaf s
    → SyncsIf (is_spent s.number) (has_nobody s) size s told told faults faults pool (Err refusal)
syncs_nobody told faults size pool s members refusal rep more are none is =
    let on : is_spent s.number ≡ false = lt-leb (2 ^ 62 - 64) s.number (rw rep.number more) in
    let nobody : has_nobody s ≡ true = ap is_nobody (sym are) ∙ none in
    subst (λ t. SyncsIf t (has_nobody s) size s told told faults faults pool (Err refusal)) (sym on)
    (subst (λ t. SyncsIf false t size s told told faults faults pool (Err refusal)) (sym nobody) (made_none told faults, rep, ap Err is))

-- a board is empty exactly where it has no length
nobody_is : (members : List Member) → is_nobody members ≡ (length members == 0)
nobody_is [] = refl
nobody_is (m ∷ members) = let e : (suc (length members) == 0) ≡ false = ne_eqb _ 0 (λ is. omega arith) in sym e

pub nobody_shown : (shown members : List Member) (empty t : Bool) → shown ≡ members → empty ≡ (length shown == 0) → empty ≡ t → is_nobody members ≡ t
nobody_shown shown members empty t is none told = ap is_nobody (sym is) ∙ nobody_is shown ∙ sym none ∙ told

pub failures_are : (results : List Bool) → length (filter not results) ≡ failures results
failures_are [] = refl
failures_are (true ∷ results) = failures_are results
failures_are (false ∷ results) = let more = failures_are results in omega arith
