-- A create that made its pool acknowledged record 1.
use Rattle.std.proofs.Common.{◌≡◌, ℕ, ◌+◌, Bool, true, false, cond, List, [], ◌∷◌, ◌++◌, Option, Some, None, refl, sym, ap, ◌∙◌, append_assoc}
use Rattle.std.specs.Str.{bytes_eq}
use Rattle.std.proofs.lemmas.Slice.Eq.{bytes_eq-Decides}
use Rattle.bank_core.specs.Asks.{Ask}
use Rattle.label_store.specs.declared.member.Member.{Member}
use Rattle.label_store.specs.Rounds.{third_plan}
use Rattle.txg_history.specs.Pages.{Codec}
use Rattle.txg_history.specs.Records.{number_of, block_at}
use Rattle.txg_history.specs.Rounds.{all_true}
use Rattle.pool_moves.specs.Boards.{board_of}
use Rattle.pool_moves.specs.CommitRows.{RowFound}
use Rattle.pool_moves.specs.FreezeRow.{up_devs}
use Rattle.pool_moves.specs.Keeping.{Kept}
use Rattle.pool_moves.specs.Moves.{Draft, Move, Freeze, Flushed_all, Widen, Commits, state_step, steps, after_moves}
use Rattle.pool_moves.specs.StampRow.{first_failed, found_reply, CreateReply, Created, FaultOn, CommitsFirst, new_state}
use Rattle.pool_moves.specs.States.{PoolState, Side}
use Rattle.pool_moves.specs.TurnRows.{IsThirdMoves, round_moves}
use Rattle.pool_moves.specs.Widening.{AreWidens}
use Rattle.pool_moves.proofs.CommitWalks.{found_walks}
use Rattle.pool_moves.proofs.Keeping.{walk_keeps}
use Rattle.pool_runs.specs.Acts.{Bears, does, pool_along, born}
use Rattle.pool_runs.specs.Committing.{FoundsPool}
use Rattle.pool_runs.specs.Creating.{tops_of, Creates, IsNew, new_birth, host_stamped, commit_acts}
use Rattle.pool_runs.specs.Devices.{size_in}
use Rattle.pool_runs.specs.Hosts.{Host, named, host_by, host_along}
use Rattle.pool_runs.specs.Lines.{Reply, To_create}
use Rattle.pool_runs.proofs.Bearing.{bears_known, side_behind}
use Rattle.pool_runs.proofs.Committing.{EndsIn, ends_acked, KeepsWritten, KeepsWrites, written_kind, writes_kind, written_along, frozen_writes, kept_blocks, does_pool}
use Rattle.pool_runs.proofs.Finding.{does_head, steps_name}
use Rattle.pool_runs.proofs.GroupMoves.{all_found, all_round}
use Rattle.pool_moves.proofs.FreeWalks.{steps_more}

-- where no member is told as failed, each ended the round
none_failed : (plan : Member → List Ask) (draft : Draft) (ms : List Member) (was is : List Bool) (vs : List Move) → IsThirdMoves plan draft ms was is vs
    → first_failed ms is ≡ None → all_true is ≡ true
none_failed plan draft [] [] [] vs third none = refl
none_failed plan draft [] [] (c ∷ is) vs third none = absurd third
none_failed plan draft [] (b ∷ was) is vs third none = absurd third
none_failed plan draft (m ∷ ms) [] is vs third none = absurd third
none_failed plan draft (m ∷ ms) (b ∷ was) [] vs third none = absurd third
none_failed plan draft (m ∷ ms) (true ∷ was) (true ∷ is) vs third none = none_failed plan draft ms was is third.1 third.4 none
none_failed plan draft (m ∷ ms) (true ∷ was) (false ∷ is) vs third none = absurd (cc)
none_failed plan draft (m ∷ ms) (false ∷ was) (true ∷ is) vs third none = absurd (let no = third.0 in cc)
none_failed plan draft (m ∷ ms) (false ∷ was) (false ∷ is) vs third none = absurd (cc)

-- widenings draw no number
widens_number : (s : PoolState) (vs : List Move) → AreWidens s.core vs → (steps vs s).core.number ≡ s.core.number
widens_number s [] are = refl
widens_number s (Widen m low high ∷ vs) are = widens_number (state_step (Widen m low high) s) vs are.2
widens_number s (v ∷ vs) are = absurd are

first_number : (c : Codec) (size : ℕ → ℕ) (s : PoolState) (vs : List Move) (whole : Bool) → (row : RowFound c size s vs whole)
    → (steps (row.first ++ (Flushed_all ∷ [])) s).core.number ≡ s.core.number + 1
first_number c size s vs whole row = ap (λ x. x.core.number) (steps_more row.first (Flushed_all ∷ []) s)
    ∙ (ap (λ l. (steps l s).core.number) row.freeze.moves.moves
    ∙ widens_number (state_step (Freeze (λ k. None) (up_devs s.core.leaves)) s) row.freeze.moves.widens row.freeze.moves.are)

-- The first commit ends in its record.
founds_in : (c : Codec) (size : ℕ → ℕ) (s : PoolState) (vs : List Move) → RowFound c size s vs true → EndsIn vs (s.core.number + 1)
founds_in c size s vs row = let early = row.first ++ (Flushed_all ∷ []) in let pre = round_moves row.ends.draft row.ends.first row.ends.second row.ends.thirds in record {
  body = early ++ pre;
  draft = row.ends.draft;
  sets = [];
  all_set = tt;
  moves = row.moves ∙ (ap (λ l. early ++ l) (row.ends.moves ∙ ap (λ l. pre ++ l) row.ends.ends) ∙ sym (append_assoc early pre (Commits row.ends.draft ∷ [])));
  number = row.ends.fits.number_is ∙ first_number c size s vs true row;
}

founds_writes : (c : Codec) (size : ℕ → ℕ) (s : PoolState) (vs : List Move) (whole : Bool) → RowFound c size s vs whole → (steps vs s).own.writes ≡ (λ a. None)
founds_writes c size s vs whole row = ap (λ l. (steps l s).own.writes) (row.moves ∙ append_assoc row.first (Flushed_all ∷ []) row.round)
    ∙ frozen_writes row.first (Flushed_all ∷ row.round) s (λ k. None) (up_devs s.core.leaves) row.freeze.moves
    (tt, all_round KeepsWrites writes_kind c size (steps (row.first ++ (Flushed_all ∷ [])) s).core row.round whole row.ends)

whole_of : (whole : Bool) (c : Codec) (size : ℕ → ℕ) (s : PoolState) (vs : List Move) → (row : RowFound c size s vs whole)
    → Created ≡ found_reply (first_failed (board_of (steps (row.first ++ (Flushed_all ∷ [])) s).core.leaves) row.ends.results) s.core.leaves → whole ≡ true
whole_of whole c size s vs row says = row.ends.whole_is ∙ none_failed (third_plan size row.ends.draft.commit) row.ends.draft
    (board_of early.core.leaves) row.ends.in_second row.ends.results row.ends.thirds row.ends.copies
    (none (first_failed (board_of early.core.leaves) row.ends.results) says)
  where
    early : PoolState
    early = steps (row.first ++ (Flushed_all ∷ [])) s

    none : (failed : Option _) → Created ≡ found_reply failed s.core.leaves → failed ≡ None
    none None e = refl
    none (Some m) e = absurd (cc)

pub founds : (c : Codec) (h : Host) (name : List ℕ) (blocks : ℕ) (tops : List (List (List ℕ))) (acts : _) (reply : Reply) → (k : Creates c h name blocks tops acts reply) → IsNew h k.pool.0
    → reply ≡ To_create Created
    → FoundsPool (pool_along (commit_acts k.answer k.pool.0 k.moves) (born (new_birth name k.pool blocks h.table tops) (host_stamped h k.pool.0 k.stamps).disk))
    (host_along (commit_acts k.answer k.pool.0 k.moves) (host_by (Bears (new_birth name k.pool blocks h.table tops)) (host_stamped h k.pool.0 k.stamps))) name
founds c h name blocks tops acts reply k new says = of k.answer (answered k.answer (sym k.says ∙ says)) k.row
  where
    answered : (a : CreateReply) → To_create a ≡ To_create Created → a ≡ Created
    answered a e = cc

    s : PoolState
    s = new_state (size_in h.table) name k.pool blocks (tops_of h.table tops)

    t : Side
    t = side_behind h name k.pool tops k.stamps

    start : Host
    start = host_by (Bears (new_birth name k.pool blocks h.table tops)) (host_stamped h k.pool.0 k.stamps)

    begun : Kept c s t
    begun = (bears_known c h name blocks tops k.pool k.stamps k.may k.are new).1

    whole : (whole : Bool) → whole ≡ true → RowFound c (size_in h.table) s k.moves whole → FoundsPool (pool_along (does k.pool.0 k.moves) t.pool) (host_along (does k.pool.0 k.moves) start) name
    whole false is row = absurd (cc)
    whole true is row =
        let kept = walk_keeps c k.moves s t
        (found_walks c (size_in h.table) s t k.moves true begun (λ d one. refl) row) begun in
        let acked = ends_acked k.moves 1 t (founds_in c (size_in h.table) s k.moves row) in
        let pool_is = does_pool k.pool.0 k.moves t refl in
        let head = does_head k.pool.0 k.moves s (host_stamped h k.pool.0 k.stamps).pools start refl refl in
        let still = written_along k.moves t (all_found KeepsWritten written_kind (λ cells board. tt) c (size_in h.table) s k.moves true row) in
        let same : bytes_eq (steps k.moves s).core.name name ≡ true = (bytes_eq-Decides (steps k.moves s).core.name name).1 (steps_name k.moves s) in record {
          acked = ap (λ p. number_of p.acked) pool_is ∙ acked.number;
          blocks = λ a. ap (λ p. block_at p.acked a) pool_is
              ∙ (kept_blocks c (steps k.moves s) (after_moves k.moves t) 1 kept acked (founds_writes c (size_in h.table) s k.moves true row) a
              ∙ ap (λ w. w a) still);
          written = λ a. ap (λ p. p.written a) pool_is ∙ ap (λ w. w a) still;
          state = steps k.moves s;
          is_open = record {
            named = ap (named name) head.1 ∙ ap (λ b. cond b (Some (steps k.moves s)) (named name head.0)) same;
            ours = ap (λ core. core.pool.0) kept.core ∙ sym (ap (λ p. p.pool.0) pool_is);
          };
        }

    of : (answer : CreateReply) → answer ≡ Created → CommitsFirst c (size_in h.table) s k.moves answer
        → FoundsPool (pool_along (commit_acts answer k.pool.0 k.moves) t.pool) (host_along (commit_acts answer k.pool.0 k.moves) start) name
    of Created is row = whole row.whole (whole_of row.whole c (size_in h.table) s k.moves row.row row.says) row.row
    of (FaultOn device) is row = absurd (cc)
