-- A group is ended turn by turn.
use Rattle.std.proofs.Common.{◌≡◌, inl, inr, ℕ, Bool, true, false, not, cond, List, [], ◌∷◌, ◌++◌, Option, Some, None, Ok, Err, is_some, refl, sym, ap, ◌∙◌, subst, append-nil}
use mathlib.Core.Path.{fun_ext}
use Rattle.std.specs.Prelude.{Result}
use Rattle.std.specs.Result.{IsErrAnd}
use Rattle.std.proofs.lemmas.Bool.{true≢false}
use Rattle.mp_base.specs.declared.number.Group.{Group}
use Rattle.bank_core.specs.BankView.{BankView}
use Rattle.bank_core.specs.Calls as bank
use Rattle.bank_core.proofs.Framing.{makes_more}
use Rattle.txg_engine.specs.declared.seat.Suspended.{Suspended}
use Rattle.txg_engine.specs.Frozen.{FrozenGroup}
use Rattle.pool_codec.specs.Codecs.{pool_codec}
use Rattle.label_store.specs.declared.member.Member.{Member}
use Rattle.pool_moves.specs.Boards.{board_of, board_under, emptied}
use Rattle.pool_moves.specs.LineRows.{TurnReply, Idle, Write, Flush, Round, Committed, EndsBy, IsTurnOf, StartsBy, RowTurn, TurnBy, Ends, AreTurns, EndsGroup, count_moves}
use Rattle.pool_moves.specs.Moves.{Move, Makes, steps}
use Rattle.pool_moves.specs.ReadRow.{made_in}
use Rattle.pool_moves.specs.States.{PoolState}
use Rattle.pool_moves.proofs.FreeWalks.{steps_more}
use Rattle.open_pool.specs.declared.sync.SyncFault.{SyncFault}
use Rattle.open_pool.specs.declared.turn.TurnDone.{TurnDone}
use Rattle.open_pool.specs.declared.turn.TurnDone.TheVariants as done
use Rattle.open_pool.specs.Answering.{Does}
use Rattle.open_pool.specs.Committing.{turn_says}
use Rattle.open_pool.specs.Parts.{PoolParts}
use Rattle.open_pool.specs.State.{Stands, group_of}
use Rattle.open_pool.specs.Syncing.{ended_as, end_says}
use Rattle.open_pool.specs.Turning.{goes_on}
use Rattle.open_pool.proofs.SomeState.{some_state}

-- what `?` answers
pub err_is : (r : Result Group SyncFault) (e : SyncFault) → IsErrAnd r (λ x. x ≡ e) → r ≡ Err e
err_is (Ok x) e is = absurd is
err_is (Err x) e is = ap Err is

-- The calls of moves, one list behind the other.
pub made_both : (vs ws : List Move) → made_in (vs ++ ws) ≡ made_in vs ++ made_in ws
made_both [] ws = refl
made_both (Makes noted ∷ vs) ws = ap (λ l. noted ∷ l) (made_both vs ws)
made_both (v ∷ vs) ws = made_both vs ws

-- A pool's group is frozen where its state says so.
pub frozen_is : (p : PoolParts) (s : PoolState) → Stands p s → s.core.group.frozen ≡ is_some p.frozen
frozen_is p s stands = ap (λ (t : PoolState). t.core.group.frozen) stands.is ∙ by p.frozen
  where
    by : (o : Option FrozenGroup) → (group_of o).frozen ≡ is_some o
    by None = refl
    by (Some group) = refl

-- A turn of a frozen group isn't idle.
abbrev is_idle : TurnReply → Bool
is_idle Idle = true
is_idle reply = false

ends_busy : (o : Option ℕ) (t : PoolState) (draws : Bool) (going : TurnReply) (vs : List Move) (reply : TurnReply) → is_idle going ≡ false
    → EndsBy o t draws going vs reply → is_idle reply ≡ false
ends_busy (Some top) t draws going vs reply busy e = ap is_idle e.1
ends_busy None t draws going vs reply busy e = ap is_idle e.1 ∙ busy

part_busy : (s : PoolState) (part : List Move) (ms : List Member) (results : List Bool) (going : TurnReply) (vs : List Move) (reply : TurnReply)
    → is_idle going ≡ false → IsTurnOf s part ms results going vs reply → is_idle reply ≡ false
part_busy s part ms results going vs reply busy t =
    let behind = steps (part ++ count_moves s.core.leaves ms results) s in
    ends_busy (emptied behind.core.leaves) behind false going t.ending reply busy t.ends

starts_busy : (o : Option ℕ) (size : ℕ → ℕ) (s : PoolState) (vs : List Move) (reply : TurnReply) → StartsBy o pool_codec size s vs reply
    → is_idle reply ≡ false
starts_busy (Some top) size s vs reply e = ap is_idle e.1
starts_busy None size s vs reply (inl w) = part_busy s w.part (board_under w.row.cell.top s.core.leaves) w.row.results Write vs reply refl w.turn
starts_busy None size s vs reply (inr (inl f)) = part_busy s f.part (board_of s.core.leaves) f.row.results Flush vs reply refl f.turn
starts_busy None size s vs reply (inr (inr r)) = by r.whole r.ends
  where
    behind : PoolState
    behind = steps r.behind s

    by : (whole : Bool) → cond whole ((r.ending ≡ []) × (reply ≡ Committed s.core.number))
        (EndsBy (emptied behind.core.leaves) behind true (Round s.core.number) r.ending reply) → is_idle reply ≡ false
    by true e = ap is_idle e.1
    by false e = ends_busy (emptied behind.core.leaves) behind true (Round s.core.number) r.ending reply refl e

-- so it ends its group just where the group doesn't go on behind it
ends_there : (reply : TurnReply) → is_idle reply ≡ false → Ends reply ≡ not (goes_on (turn_says reply))
ends_there Idle busy = absurd (true≢false busy)
ends_there reply busy = refl

-- What ends a group.
abbrev pub Ending : (size : ℕ → ℕ) → Result Group SyncFault → PoolState → PoolParts → (from to : BankView) → Type 0
Ending size answer s q from to = Does (EndsGroup pool_codec size s) end_says answer s q from to

-- Turns were made from a state on, and what ends the group now ends it from that state on.
pub record HasGone (s : PoolState) (p : PoolParts) (from to : BankView) : Type 0 where
  pub now : PoolState
  pub stands : Stands p now
  pub sizes : to.size ≡ from.size
  pub rest : (answer : Result Group SyncFault) (q : PoolParts) (end : BankView) → Ending from.size answer now q to end
      → Ending from.size answer s q from end

pub none_gone : (p : PoolParts) (s : PoolState) (bank : BankView) → Stands p s → HasGone s p bank bank
none_gone p s bank stands = record { now = s; stands = stands; sizes = refl; rest = λ answer q end e. e }

-- A turn from a pool on, which was come to so from the start.
module _ (start p q : PoolParts) (from mid to : BankView) (gone : (s : PoolState) → Stands start s → HasGone s p from mid)
    (frozen : is_some p.frozen ≡ true) (answer : Result TurnDone Suspended)
    (turn : (s : PoolState) → Stands p s → Does (RowTurn pool_codec mid.size s) turn_says answer s q mid to) where
  -- it does something, and ends the group just where that doesn't go on
  module _ (now : PoolState) (stands : Stands p now) where
    abbrev made : Does (RowTurn pool_codec mid.size now) turn_says answer now q mid to
    made = turn now stands

    busy : is_idle made.answers.reply ≡ false
    busy = starts_busy (emptied now.core.leaves) mid.size now made.answers.moves made.answers.reply
        (subst (λ f. TurnBy f pool_codec mid.size now made.answers.moves made.answers.reply) (frozen_is p now stands ∙ frozen) made.answers.is)

    ends : Ends made.answers.reply ≡ not (goes_on answer)
    ends = ends_there made.answers.reply busy ∙ ap (λ a. not (goes_on a)) (sym made.answers.says_so)

  module _ (s : PoolState) (stands : Stands start s) where
    abbrev was : HasGone s p from mid
    was = gone s stands

    abbrev this : Does (RowTurn pool_codec mid.size was.now) turn_says answer was.now q mid to
    this = turn was.now was.stands

    row : RowTurn pool_codec from.size was.now this.answers.moves this.answers.reply
    row = subst (λ size. RowTurn pool_codec size was.now this.answers.moves this.answers.reply) was.sizes this.answers.is

    -- behind a turn behind which the group goes on
    pub one_more : goes_on answer ≡ true → HasGone s q from to
    one_more on = record {
      now = steps this.answers.moves was.now;
      stands = this.answers.leaves;
      sizes = fun_ext this.calls.frame.sizes ∙ was.sizes;
      rest = λ last r end e. was.rest last r end (record {
        answers = record {
          moves = this.answers.moves ++ e.answers.moves;
          reply = e.answers.reply;
          is = record {
            turns = (this.answers.moves, this.answers.reply) ∷ e.answers.is.turns;
            are = ahead e.answers.is.turns e.answers.reply e.answers.is.are;
            moves = ap (λ ws. this.answers.moves ++ ws) e.answers.is.moves;
          };
          says_so = e.answers.says_so;
          leaves = subst (Stands r) (sym (steps_more this.answers.moves e.answers.moves was.now)) e.answers.leaves;
        };
        calls = subst (λ calls. bank.Makes calls mid end) (sym (made_both this.answers.moves e.answers.moves)) (makes_more this.calls e.calls);
      });
    }
      where
        ahead : (turns : List (List Move × TurnReply)) (reply : TurnReply)
            → AreTurns pool_codec from.size (steps this.answers.moves was.now) turns reply
            → AreTurns pool_codec from.size was.now ((this.answers.moves, this.answers.reply) ∷ turns) reply
        ahead [] reply are = absurd are
        ahead (next ∷ turns) reply are = (row, ends was.now was.stands ∙ ap not on, are)

    -- the last turn
    pub ended : (result : Result Group SyncFault) → goes_on answer ≡ false → result ≡ ended_as answer → Ending from.size result s q from to
    ended result off is = was.rest result q to (record {
      answers = record {
        moves = this.answers.moves;
        reply = this.answers.reply;
        is = record {
          turns = (this.answers.moves, this.answers.reply) ∷ [];
          are = (row, ends was.now was.stands ∙ ap not off, refl);
          moves = sym (append-nil this.answers.moves);
        };
        says_so = is ∙ ap ended_as this.answers.says_so;
        leaves = this.answers.leaves;
      };
      calls = this.calls;
    })

  -- The group goes on behind a turn that committed nothing.
  pub goes_further : (of : TurnDone) → answer ≡ Ok of → ((number : Group) → of ≡ done.Committed number → ⊥) → goes_on answer ≡ true
  goes_further of is other = ap goes_on is ∙ by of refl
    where
      by : (d : TurnDone) → of ≡ d → goes_on (Ok d) ≡ true
      by (done.Committed number) same = absurd (other number same)
      by done.Write same = refl
      by done.Flush same = refl
      by (done.Round number) same = refl
      by done.Idle same =
          let some = some_state p in
          let reply = (turn some.0 some.1).answers.reply in
          absurd (idle reply (busy some.0 some.1) (sym (ap Ok same) ∙ sym is ∙ (turn some.0 some.1).answers.says_so))
        where
          idle : (reply : TurnReply) → is_idle reply ≡ false → Ok done.Idle ≡ turn_says reply → ⊥
          idle Idle busy is = true≢false busy
          idle reply busy is = absurd (cc)

-- The sizes of the devices are the same at its end.
pub sizes_kept : (start q : PoolParts) (from to : BankView) (result : Result Group SyncFault)
    → ((s : PoolState) → Stands start s → Ending from.size result s q from to) → to.size ≡ from.size
sizes_kept start q from to result row = let some = some_state start in fun_ext (row some.0 some.1).calls.frame.sizes
