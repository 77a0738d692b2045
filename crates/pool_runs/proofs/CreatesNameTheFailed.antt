-- A create that tells a device which failed tells the first one of whose calls one failed, as its count tells.
use Rattle.std.proofs.Common.{◌≡◌, inl, inr, ℕ, ◌<◌, Bool, true, false, cond, List, [], ◌∷◌, ◌++◌, map, Option, Some, None, refl, sym, ap, ◌∙◌, subst}
use Rattle.std.specs.List.{AllByRecursion}
use Rattle.mp_base.specs.declared.number.Guid.{Guid}
use Rattle.bank_core.specs.Calls.{AllCaused}
use Rattle.label_store.specs.declared.member.Member.{Member}
use Rattle.label_store.specs.Plans.{stamp_plan}
use Rattle.txg_history.specs.Pages.{Codec}
use Rattle.txg_history.specs.Survival.{IsAmong}
use Rattle.pool_moves.specs.Boards.{member_before, members_where, is_on, board_of}
use Rattle.pool_moves.specs.CommitRows.{RowFound}
use Rattle.pool_moves.specs.FreezeRow.{up_devs}
use Rattle.pool_moves.specs.Leaves.{LeafSeen}
use Rattle.pool_moves.specs.Moves.{Move, Freeze, Flushed_all, leaf_step, step, state_step, steps}
use Rattle.pool_moves.specs.ReadRow.{made_in}
use Rattle.pool_moves.specs.StampRow.{NewLeaf, Stamp, calls_of_stamps, AreStamps, new_leaf_seen, new_state, CreateReply, Created, FaultOn, first_failed, name_in, found_reply}
use Rattle.pool_moves.specs.States.{PoolState}
use Rattle.pool_moves.specs.TurnRows.{round_moves}
use Rattle.pool_moves.proofs.StampWalks.{AreRising, from_rising}
use Rattle.pool_runs.specs.Acts.{Act, Bears, calls_along}
use Rattle.pool_runs.specs.Counting.{FailsNamed}
use Rattle.pool_runs.specs.Creating.{all_names, tops_of, leaves_of, new_birth, stamp_acts, commit_acts, Creates, RowCreate}
use Rattle.pool_runs.specs.Devices.{Device, number_in, size_in}
use Rattle.pool_runs.specs.Hosts.{Host}
use Rattle.pool_runs.specs.Lines.{Reply, To_create}
use Rattle.pool_runs.proofs.Failing.{FailedOn, failed_rose, failed_left, failed_right, IsAskOn, part_failed, IsCaught, caught_second, moves_left}
use Rattle.pool_runs.proofs.Members.{HasName, all_have}
use Rattle.pool_runs.proofs.OnlyFailedLeave.{just_widens, round_failing, steps_places}
use Rattle.pool_runs.proofs.Stamps.{stamp_calls}
use Rattle.pool_runs.proofs.Midway.{calls_more, closed_calls}
use Rattle.pool_moves.proofs.KindsOfMoves.{AnySet, Failing}
use Rattle.pool_moves.proofs.Lists.{all_append, of_both, map_forth}
use Rattle.pool_moves.proofs.Tests.{same_test, below_other, some_same}

fault_same : (a b : List ℕ) → FaultOn a ≡ FaultOn b → a ≡ b
fault_same a b e = cc

answer_same : (a b : CreateReply) → To_create a ≡ To_create b → a ≡ b
answer_same a b e = cc

-- A stamp that failed is told by its leaf.
pub stamp_on : (d size : ℕ) (pool member : Guid) → AllByRecursion (IsAskOn d) (stamp_plan d size pool member)
stamp_on d size pool member = (refl, (refl, (refl, (refl, (refl, (refl, (refl, (refl, (refl, tt)))))))))

stamp_failed : (P : NewLeaf → Type 0) (size : ℕ → ℕ) (pool : Guid) (leaves : List NewLeaf) (stamps : List Stamp)
    (leaf : NewLeaf) → AllByRecursion P leaves
    → AreStamps size pool leaves stamps (Some leaf) → P leaf × FailedOn leaf.dev (calls_of_stamps stamps)
stamp_failed P size pool [] [] leaf all are = absurd (let no : Some leaf ≡ None = are in cc)
stamp_failed P size pool [] (stamp ∷ stamps) leaf all are = absurd are
stamp_failed P size pool (first ∷ leaves) [] leaf all are = absurd are
stamp_failed P size pool (first ∷ leaves) (stamp ∷ stamps) leaf all (dev, inl whole) =
    let more = stamp_failed P size pool leaves stamps leaf all.1 whole.1 in
    (more.0, failed_right leaf.dev stamp.made (calls_of_stamps stamps) more.1)
stamp_failed P size pool (first ∷ leaves) (stamp ∷ stamps) leaf all (dev, inr stop) =
    subst (λ l. P l × FailedOn l.dev (stamp.made ++ calls_of_stamps stamps))
    (sym (some_same leaf first stop.3)) (
      all.0,
      failed_left first.dev stamp.made (calls_of_stamps stamps)
          (part_failed first.dev (stamp_plan first.dev (size first.dev) pool first.guid) stamp.made stop.0
          (stamp_on first.dev (size first.dev) pool first.guid) stop.1),
    )

-- The first member that failed in a round did fail.
first_fails : (F : ℕ → Type 0) (P : Member → Type 0) (ms : List Member) (results : List Bool) (m : Guid)
    → AllByRecursion P ms → Failing F ms results
    → first_failed ms results ≡ Some m → (n : Member) × (n.guid ≡ m) × P n × F n.dev
first_fails F P [] results m all failing is = absurd (cc)
first_fails F P (n ∷ ms) [] m all failing is = absurd (cc)
first_fails F P (n ∷ ms) (true ∷ results) m all failing is = first_fails F P ms results m all.1 failing is
first_fails F P (n ∷ ms) (false ∷ results) m all failing is =
    (n, (let same : n.guid ≡ m = cc in same), all.0, failing.0)

before_all : (P : Member → Type 0) (t : Bool) (dev : Option ℕ) (m : Guid) (more : List Member)
    → ((d : ℕ) → dev ≡ Some d → P (record { dev = d; guid = m }))
    → AllByRecursion P more → AllByRecursion P (member_before t dev m more)
before_all P true None m more one all = all
before_all P true (Some d) m more one all = (one d refl, all)
before_all P false dev m more one all = all

members_all : (P : Member → Type 0) (which : LeafSeen → Bool) (leaves : List LeafSeen)
    → AllByRecursion (λ leaf. (d : ℕ) → leaf.dev ≡ Some d → P (record { dev = d; guid = leaf.guid })) leaves
    → AllByRecursion P (members_where which leaves)
members_all P which [] all = tt
members_all P which (leaf ∷ leaves) all =
    before_all P (which leaf) leaf.dev leaf.guid (members_where which leaves) all.0 (members_all P which leaves all.1)

-- Each new leaf is found by its number.
names_own : (leaves : List NewLeaf) → AreRising leaves
    → AllByRecursion (λ leaf. name_in (map new_leaf_seen leaves) leaf.guid ≡ leaf.name) leaves
names_own [] rising = tt
names_own (leaf ∷ leaves) rising = (
  ap (λ t. cond t leaf.name (name_in (map new_leaf_seen leaves) leaf.guid)) (same_test leaf.guid.0 leaf.guid.0 refl),
  of_both {P = λ other. leaf.guid.0 < other.guid.0}
      {Q = λ other. name_in (map new_leaf_seen leaves) other.guid ≡ other.name}
      (λ other below own. ap (λ t. cond t leaf.name (name_in (map new_leaf_seen leaves) other.guid))
      (below_other leaf.guid.0 other.guid.0 below) ∙ own) leaves rising.0 (names_own leaves rising.1),
)

module _ (table : List Device) (tops : List (List (List ℕ))) where
  -- the device of this name is the one that is meant
  abbrev IsNamedAs : List ℕ → ℕ → Type 0
  IsNamedAs name d = IsAmong name (all_names tops) × (number_in name table ≡ Some d)

  -- so of each leaf by its number, through the freeze of the first commit
  abbrev Sees : List LeafSeen → Guid → Option ℕ → Type 0
  Sees leaves m dev = (d : ℕ) → dev ≡ Some d → IsNamedAs (name_in leaves m) d

  new_seen : (leaves : List NewLeaf) → AreRising leaves → AllByRecursion (HasName table (all_names tops)) leaves
      → AllByRecursion (λ leaf. Sees (map new_leaf_seen leaves) leaf.guid leaf.dev) (map new_leaf_seen leaves)
  new_seen leaves rising all =
      map_forth (λ leaf. Sees (map new_leaf_seen leaves) leaf.guid leaf.dev) new_leaf_seen leaves
      (of_both {P = λ leaf. name_in (map new_leaf_seen leaves) leaf.guid ≡ leaf.name}
      {Q = HasName table (all_names tops)}
      (λ leaf own has d is. subst (λ name. IsNamedAs name d) (sym own) (has.0, has.1 ∙ is)) leaves
      (names_own leaves rising) all)

create_from : (c : Codec) (h : Host) (name : List ℕ) (blocks : ℕ) (tops : List (List (List ℕ))) (acts : List Act)
    (reply : Reply) (device : List ℕ)
    → (row : Creates c h name blocks tops acts reply) → reply ≡ To_create (FaultOn device)
    → (d : ℕ) × IsNamedAs h.table tops device d × FailedOn d (made_in row.moves)
create_from c h name blocks tops acts reply device row says = by (first_failed ms w.ends.results) refl
  where
    leaves : List NewLeaf
    leaves = leaves_of h.table tops

    s : PoolState
    s = new_state (size_in h.table) name row.pool blocks (tops_of h.table tops)

    w : RowFound c (size_in h.table) s row.moves row.row.whole
    w = row.row.row

    x : PoolState
    x = steps (w.first ++ (Flushed_all ∷ [])) s

    ms : List Member
    ms = board_of x.core.leaves

    v : Move
    v = Freeze (λ k. None) (up_devs s.core.leaves)

    Seen : Guid → Option ℕ → Type 0
    Seen m dev = Sees h.table tops s.core.leaves m dev

    at_first : AllByRecursion (λ leaf. Seen leaf.guid leaf.dev) s.core.leaves
    at_first = new_seen h.table tops leaves (from_rising 1 1 (tops_of h.table tops))
        (all_have h name blocks tops row.may.none)

    at_x : AllByRecursion (λ leaf. Seen leaf.guid leaf.dev) x.core.leaves
    at_x = subst (λ l. AllByRecursion (λ leaf. Seen leaf.guid leaf.dev)
        (steps (l ++ (Flushed_all ∷ [])) s).core.leaves) (sym w.freeze.moves.moves)
        (steps_places (λ d. ⊥) AnySet ⊥ Seen (w.freeze.moves.widens ++ (Flushed_all ∷ [])) (state_step v s)
        (all_append _ w.freeze.moves.widens (Flushed_all ∷ [])
        (just_widens (λ d. ⊥) AnySet ⊥ (step v s.core) w.freeze.moves.widens w.freeze.moves.are) (tt, tt))
        (map_forth (λ leaf. Seen leaf.guid leaf.dev)
        (leaf_step v s.core.number s.core.group.first s.core.scan) s.core.leaves at_first))

    fails : IsCaught (λ d. FailedOn d (made_in row.moves)) w.round
    fails = caught_second (λ d. FailedOn d (made_in row.moves)) (w.first ++ (Flushed_all ∷ [])) w.round
        (subst (IsCaught (λ d. FailedOn d (made_in row.moves))) w.moves (λ d failed. failed))

    failing : Failing (λ d. FailedOn d (made_in row.moves)) ms w.ends.results
    failing = round_failing c (size_in h.table) x.core w.round row.row.whole w.ends
        (λ d. FailedOn d (made_in row.moves))
        (λ d f. subst (IsCaught (λ d. FailedOn d (made_in row.moves))) w.ends.moves fails d
        (moves_left d (round_moves w.ends.draft w.ends.first w.ends.second w.ends.thirds) w.ends.ending f))

    answer_is : found_reply (first_failed ms w.ends.results) s.core.leaves ≡ FaultOn device
    answer_is = sym row.row.says ∙ answer_same row.answer (FaultOn device) (sym row.says ∙ says)

    by : (found : Option Guid) → first_failed ms w.ends.results ≡ found → (d : ℕ) × IsNamedAs h.table tops device d
        × FailedOn d (made_in row.moves)
    by None is = absurd (let no : Created ≡ FaultOn device = ap (λ m. found_reply m s.core.leaves) (sym is)
        ∙ answer_is in cc)
    by (Some m) is =
        let first = first_fails (λ d. FailedOn d (made_in row.moves))
        (λ n. IsNamedAs h.table tops (name_in s.core.leaves n.guid) n.dev) ms w.ends.results m
        (members_all (λ n. IsNamedAs h.table tops (name_in s.core.leaves n.guid) n.dev) is_on x.core.leaves at_x)
        failing is in
        let same : name_in s.core.leaves m ≡ device =
        fault_same (name_in s.core.leaves m) device
        (ap (λ m. found_reply m s.core.leaves) (sym is) ∙ answer_is) in (
          first.0.dev,
          subst (λ name. IsNamedAs h.table tops name first.0.dev) (ap (name_in s.core.leaves) first.1 ∙ same) first.2,
          first.3,
        )

pub create_names : (c : Codec) (h : Host) (name : List ℕ) (blocks : ℕ) (tops : List (List (List ℕ))) (acts : List Act)
    (reply : Reply) (device : List ℕ) (from to : ℕ → ℕ)
    → RowCreate c h name blocks tops acts reply → AllCaused (calls_along acts) from to
    → reply ≡ To_create (FaultOn device) → FailsNamed h tops device from to
create_names c h name blocks tops acts reply device from to (inl row) caused says =
    absurd (let no = sym row.3 ∙ says in cc)
create_names c h name blocks tops acts reply device from to (inr (inl row)) caused says =
    let first = stamp_failed (HasName h.table (all_names tops)) (size_in h.table) row.pool
    (leaves_of h.table tops) row.stamps row.leaf (all_have h name blocks tops row.may.none) row.are in
    let same : row.leaf.name ≡ device =
    fault_same row.leaf.name device
    (answer_same (FaultOn row.leaf.name) (FaultOn device) (sym row.says ∙ says)) in record {
      d = row.leaf.dev;
      is_named = subst (λ name. IsAmong name (all_names tops)) same first.0.0;
      number = subst (λ name. number_in name h.table ≡ Some row.leaf.dev) same first.0.1;
      rose = failed_rose row.leaf.dev (calls_along acts) from to caused
          (subst (FailedOn row.leaf.dev) (sym (ap calls_along row.all ∙ stamp_calls row.pool.0 row.stamps)) first.1);
    }
create_names c h name blocks tops acts reply device from to (inr (inr row)) caused says =
    let first = create_from c h name blocks tops acts reply device row says in
    let answer_is = answer_same row.answer (FaultOn device) (sym row.says ∙ says) in
    let behind = commit_acts row.answer row.pool.0 row.moves in
    let calls : calls_along acts ≡ calls_of_stamps row.stamps ++ made_in row.moves =
    ap calls_along row.all ∙ (calls_more (stamp_acts row.pool.0 row.stamps)
    (Bears (new_birth name row.pool blocks h.table tops) ∷ behind)
    ∙ (ap (λ made. made ++ calls_along behind) (stamp_calls row.pool.0 row.stamps)
    ∙ ap (λ made. calls_of_stamps row.stamps ++ made)
    (ap (λ a. calls_along (commit_acts a row.pool.0 row.moves)) answer_is ∙ closed_calls row.pool.0 row.moves)))
    in record {
      d = first.0;
      is_named = first.1.0;
      number = first.1.1;
      rose = failed_rose first.0 (calls_along acts) from to caused (subst (FailedOn first.0) (sym calls)
          (failed_right first.0 (calls_of_stamps row.stamps) (made_in row.moves) first.2));
    }
