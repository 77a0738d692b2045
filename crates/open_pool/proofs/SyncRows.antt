-- A sync from its parts: the frozen group's end, a freeze, and the new group's end.
use Rattle.std.proofs.Common.{◌≡◌, ◌⊎◌, inl, inr, ℕ, ◌+◌, true, false, List, [], ◌++◌, Option, Some, None, Ok, Err, is_some, refl, sym, ap, ◌∙◌, subst, append-nil}
use Rattle.std.specs.Prelude.{Result}
use Rattle.mp_base.specs.declared.number.Group.{Group}
use Rattle.bank_core.specs.BankView.{BankView}
use Rattle.bank_core.specs.Calls as bank
use Rattle.bank_core.proofs.Framing.{makes_none, makes_more}
use Rattle.pool_codec.specs.Codecs.{pool_codec}
use Rattle.pool_moves.specs.LineRows as rows
use Rattle.pool_moves.specs.LineRows.{TurnReply, SyncReply, FreezeBy, RowFreezeLine, FreezeFor, EndsFirst, SyncBehind, SyncBy, SyncOpen, RowSync}
use Rattle.pool_moves.specs.Moves.{Move, steps}
use Rattle.pool_moves.specs.ReadRow.{made_in}
use Rattle.pool_moves.specs.Refusing.{IsRefused, FreezeRefusal, NoNumber, NoBoard, NoRoom}
use Rattle.pool_moves.specs.States.{PoolState}
use Rattle.pool_moves.proofs.FreeWalks.{steps_more}
use Rattle.open_pool.specs.declared.freeze.FreezeFault.{FreezeFault}
use Rattle.open_pool.specs.declared.freeze.FreezeFault.TheVariants as freezes
use Rattle.open_pool.specs.declared.sync.SyncFault.{SyncFault}
use Rattle.open_pool.specs.declared.sync.SyncFault.TheVariants as syncs
use Rattle.open_pool.specs.Answering.{Answers, Does, OutOfMemory}
use Rattle.open_pool.specs.Freezing.{freeze_says, refusal_says}
use Rattle.open_pool.specs.Parts.{PoolParts}
use Rattle.open_pool.specs.State.{Stands}
use Rattle.open_pool.specs.Syncing.{end_says, sync_fault, sync_says}
use Rattle.open_pool.proofs.GroupsEnded.{Ending, frozen_is, made_both}
use Rattle.open_pool.proofs.PartRows.{made_more, made_widens}

-- A sync of this row, or no memory and no call.
abbrev pub Syncing : (List Move → SyncReply → Type 0) → Result Group SyncFault → PoolState → PoolParts → (from to : BankView) → Type 0
Syncing row answer s q from to = Does row sync_says answer s q from to ⊎ (OutOfMemory (Err syncs.Memory) answer s q × (to ≡ from))

-- a reply of a row that a pool's code has given
abbrev pub FreezeAnswers : (answer : Result Group FreezeFault) → PoolState → PoolParts → Type 0
FreezeAnswers answer s q = Answers (RowFreezeLine pool_codec s) freeze_says answer s q
    ⊎ OutOfMemory {A = Result Group FreezeFault} (Err freezes.Memory) answer s q

refused_as : (refusal : FreezeRefusal) → sync_fault (refusal_says refusal) ≡ syncs.Unfrozen (refusal_says refusal)
refused_as (NoNumber limit count) = refl
refused_as (NoBoard group top) = refl
refused_as (NoRoom need free) = refl

fails_behind : (fault : SyncFault) (turn : TurnReply) (size : ℕ → ℕ) (s : PoolState) → Err fault ≡ end_says turn
    → SyncBehind turn pool_codec size s [] (rows.Ended turn)
fails_behind fault (rows.Committed number) size s is = absurd (cc)
fails_behind fault turn size s is = (refl, refl)

opens_behind : (number : Group) (turn : TurnReply) (size : ℕ → ℕ) (s : PoolState) (vs : List Move) (reply : SyncReply) → Ok number ≡ end_says turn
    → ((vs ≡ []) × (reply ≡ rows.NoMemory)) ⊎ SyncOpen pool_codec size s vs reply → SyncBehind turn pool_codec size s vs reply
opens_behind number (rows.Committed other) size s vs reply is more = more
opens_behind number turn size s vs reply is more = absurd (cc)

-- Of the open group, where none is frozen.
module _ (p mid q : PoolParts) (s : PoolState) (stands : Stands p s) (idle : is_some p.frozen ≡ false) (from to : BankView) where
  idle_row : (vs : List Move) (reply : rows.FreezeReply) → RowFreezeLine pool_codec s vs reply → FreezeBy false pool_codec s vs reply
  idle_row vs reply = subst (λ f. FreezeBy f pool_codec s vs reply) (frozen_is p s stands ∙ idle)

  -- its freeze is refused
  pub unfrozen : (why : FreezeFault) (answer : Result Group SyncFault) → answer ≡ Err (sync_fault why) → FreezeAnswers (Err why) s mid
      → Syncing (SyncOpen pool_codec from.size s) answer s mid from from
  unfrozen why answer is (inr none) =
      let memory : why ≡ freezes.Memory = let same = none.0 in cc in
      inr ((is ∙ ap (λ w. Err (sync_fault w)) memory, none.1), refl)
  unfrozen why answer is (inl a) = let row = idle_row a.moves a.reply a.is in by row.0 row.1 row.2
    where
      by : (refusal : Option FreezeRefusal) → IsRefused s refusal → FreezeFor refusal pool_codec s a.moves a.reply
          → Syncing (SyncOpen pool_codec from.size s) answer s mid from from
      by None refused frozen =
          absurd (let no : Err why ≡ freeze_says (rows.Frozen (s.core.number + 1)) = a.says_so ∙ ap freeze_says frozen.1 in cc)
      by (Some refusal) refused for =
          let told : why ≡ refusal_says refusal = let no : Err why ≡ freeze_says (rows.Unfrozen refusal) = a.says_so ∙ ap freeze_says for.1 in cc in
          inl (record {
            answers = record {
              moves = [];
              reply = rows.Refused refusal;
              is = (Some refusal, refused, (refl, refl));
              says_so = is ∙ ap (λ w. Err (sync_fault w)) told ∙ ap Err (refused_as refusal);
              leaves = subst (λ vs. Stands mid (steps vs s)) for.0 a.leaves;
            };
            calls = makes_none;
          })

  -- it is frozen, and ended
  pub committed : (number : Group) (answer : Result Group SyncFault) → FreezeAnswers (Ok number) s mid
      → ((t : PoolState) → Stands mid t → Ending from.size answer t q from to) → Syncing (SyncOpen pool_codec from.size s) answer s q from to
  committed number answer (inr none) ended = absurd (let no = none.0 in cc)
  committed number answer (inl a) ended = let row = idle_row a.moves a.reply a.is in by row.0 row.1 row.2
    where
      by : (refusal : Option FreezeRefusal) → IsRefused s refusal → FreezeFor refusal pool_codec s a.moves a.reply
          → Syncing (SyncOpen pool_codec from.size s) answer s q from to
      by (Some refusal) refused for =
          absurd (let no : Ok number ≡ freeze_says (rows.Unfrozen refusal) = a.says_so ∙ ap freeze_says for.1 in cc)
      by None refused frozen =
          let e = ended (steps a.moves s) a.leaves in
          let w = frozen.0.moves in
          inl (record {
            answers = record {
              moves = a.moves ++ e.answers.moves;
              reply = rows.Ended e.answers.reply;
              is = (
                None,
                refused,
                (
                  e.answers.reply,
                  record { first = a.moves; freeze = frozen.0; rest = e.answers.moves; ends = e.answers.is; moves = refl },
                  refl,
                ),
              );
              says_so = e.answers.says_so;
              leaves = subst (Stands q) (sym (steps_more a.moves e.answers.moves s)) e.answers.leaves;
            };
            calls = subst (λ made. bank.Makes made from to)
                (sym (made_more a.moves e.answers.moves (ap made_in w.moves ∙ made_widens _ w.widens w.are))) e.calls;
          })

-- Of the frozen group first.
module _ (p mid q : PoolParts) (s : PoolState) (stands : Stands p s) (frozen : is_some p.frozen ≡ true) (from to : BankView) where
  by_frozen : (vs : List Move) (reply : SyncReply) → EndsFirst pool_codec from.size s vs reply → RowSync pool_codec from.size s vs reply
  by_frozen vs reply = subst (λ f. SyncBy f pool_codec from.size s vs reply) (sym (frozen_is p s stands ∙ frozen))

  -- it is suspended
  pub fails_first : (fault : SyncFault) (answer : Result Group SyncFault) → answer ≡ Err fault → Ending from.size (Err fault) s mid from to
      → Does (RowSync pool_codec from.size s) sync_says answer s mid from to
  fails_first fault answer is e = record {
    answers = record {
      moves = e.answers.moves;
      reply = rows.Ended e.answers.reply;
      is = by_frozen e.answers.moves (rows.Ended e.answers.reply) (record {
        first = e.answers.moves;
        turn = e.answers.reply;
        ends = e.answers.is;
        rest = [];
        behind = fails_behind fault e.answers.reply from.size (steps e.answers.moves s) e.answers.says_so;
        moves = sym (append-nil e.answers.moves);
      });
      says_so = is ∙ e.answers.says_so;
      leaves = e.answers.leaves;
    };
    calls = e.calls;
  }

  -- it is acknowledged, and then the open one is ended
  module _ (number : Group) (answer : Result Group SyncFault) (end : BankView) (sizes : to.size ≡ from.size)
      (e : Ending from.size (Ok number) s mid from to) where
    abbrev behind : PoolState
    behind = steps e.answers.moves s

    with_rest : (vs : List Move) (reply : SyncReply) → ((vs ≡ []) × (reply ≡ rows.NoMemory)) ⊎ SyncOpen pool_codec from.size behind vs reply
        → answer ≡ sync_says reply → Stands q (steps vs behind) → bank.Makes (made_in vs) to end
        → Does (RowSync pool_codec from.size s) sync_says answer s q from end
    with_rest vs reply more says leaves calls = record {
      answers = record {
        moves = e.answers.moves ++ vs;
        reply = reply;
        is = by_frozen (e.answers.moves ++ vs) reply (record {
          first = e.answers.moves;
          turn = e.answers.reply;
          ends = e.answers.is;
          rest = vs;
          behind = opens_behind number e.answers.reply from.size behind vs reply e.answers.says_so more;
          moves = refl;
        });
        says_so = says;
        leaves = subst (Stands q) (sym (steps_more e.answers.moves vs s)) leaves;
      };
      calls = subst (λ made. bank.Makes made from end) (sym (made_both e.answers.moves vs)) (makes_more e.calls calls);
    }

    pub goes_first : Syncing (SyncOpen pool_codec to.size behind) answer behind q to end
        → Does (RowSync pool_codec from.size s) sync_says answer s q from end
    goes_first (inl d) = with_rest d.answers.moves d.answers.reply
        (inr (subst (λ size. SyncOpen pool_codec size behind d.answers.moves d.answers.reply) sizes d.answers.is)) d.answers.says_so d.answers.leaves d.calls
    goes_first (inr none) = with_rest [] rows.NoMemory (inl (refl, refl)) none.0.0 none.0.1 (subst (bank.Makes [] to) (sym none.1) makes_none)

-- Where none is frozen, the open one's is all.
pub idle_sync : (p q : PoolParts) (s : PoolState) (from to : BankView) (answer : Result Group SyncFault) → Stands p s → is_some p.frozen ≡ false
    → Syncing (SyncOpen pool_codec from.size s) answer s q from to → Syncing (RowSync pool_codec from.size s) answer s q from to
idle_sync p q s from to answer stands idle =
    subst (λ f. Syncing (SyncBy f pool_codec from.size s) answer s q from to) (sym (frozen_is p s stands ∙ idle))

-- so where there was no memory none was frozen
pub idle_too : {A B C : Type 0} → C → A ⊎ B → A ⊎ (B × C)
idle_too idle (inl is) = inl is
idle_too idle (inr none) = inr (none, idle)
