-- An import is suspended only where each leaf of the lost top that was found and is readable failed, behind its
-- reading.
use Rattle.std.proofs.Common.{◌≡◌, ℕ, ◌==◌, ◌&&◌, ◌||◌, nat_le, Bool, true, false, cond, List, [], ◌∷◌, ◌++◌, length, Option, Some, None, refl, sym, ap, ◌∙◌, subst, append_assoc}
use Rattle.std.specs.List.{AllByRecursion, list_any}
use Rattle.std.specs.Option.{is_some}
use Rattle.std.proofs.lemmas.Bool.{and_parts, or_left, or_right}
use Rattle.mp_base.specs.declared.number.Guid.{Guid}
use Rattle.bank_core.specs.Calls.{AllCaused}
use Rattle.bank_core.specs.Disk.{Noted}
use Rattle.label_store.specs.declared.found.Found.{Found}
use Rattle.vdev_tree.specs.Leaf.{is_up}
use Rattle.txg_history.specs.Events.{Known}
use Rattle.txg_history.specs.Pages.{Codec}
use Rattle.txg_history.proofs.Logging.{by_bool, true_not_false}
use Rattle.pool_moves.specs.Leaves.{LeafSeen}
use Rattle.pool_moves.specs.LineRows.{TurnReply, Committed, Suspended}
use Rattle.pool_moves.specs.Moves.{Move, steps}
use Rattle.pool_moves.specs.Opened.{opened_leaves}
use Rattle.pool_moves.specs.OpeningRow.{SeekReply, TakesRecord, OpenReply, Opens_state, NoPage, RowOpen, is_up_under, lacking_of, ResumesUnless, RowResume}
use Rattle.pool_moves.specs.Refusing.{is_writable}
use Rattle.pool_moves.specs.States.{PoolState}
use Rattle.pool_runs.specs.Acts.{Act, Opening, Looked, Enters, Closes, does, bare, calls_along}
use Rattle.pool_runs.specs.Committing.{opening_in}
use Rattle.pool_runs.specs.Counting.{HasRisen, is_under, IsLostBy, LosesTop, FailsOpening}
use Rattle.pool_runs.specs.Devices.{size_in}
use Rattle.pool_runs.specs.Hosts.{Host, free_in, named}
use Rattle.pool_runs.specs.Importing.{OpensBy, FollowsMap, OpensFound, ImportBy, host_behind, Imports, ImportFor, ImportUnless, RowImport}
use Rattle.pool_runs.specs.Lines.{Reply, To_import, Unopened}
use Rattle.pool_runs.proofs.Failing.{IsCaught, caught_first, caught_second, caught_rose}
use Rattle.pool_runs.proofs.Finding.{opening_bare}
use Rattle.pool_runs.proofs.Importing.{opening_of, opening_front}
use Rattle.pool_runs.proofs.Losing.{top_frozen, group_lost}
use Rattle.pool_runs.proofs.Midway.{closed_calls, midway_at}
use Rattle.pool_moves.proofs.Tests.{same_test, some_same}

suspended_top : (a b : ℕ) (top other : Guid) (m n : ℕ) → Suspended a top m ≡ Suspended b other n → top ≡ other
suspended_top a b top other m n e = cc

unopened_same : (a b : ℕ) (top other : Guid) (m n : ℕ) → To_import (Unopened a top m) ≡ To_import (Unopened b other n)
    → Suspended a top m ≡ Suspended b other n
unopened_same a b top other m n e = cc

-- A top that lacks readable leaves is some leaf's, and has none.
lacking_under : (top : ℕ) (all leaves : List LeafSeen) → lacking_of all leaves ≡ Some top
    → (list_any (is_under top) leaves ≡ true) × (list_any (is_up_under top) all ≡ false)
lacking_under top all [] is = absurd (cc)
lacking_under top all (leaf ∷ leaves) is = by_bool (list_any (is_up_under leaf.top) all)
    (λ has. let more = lacking_under top all leaves
    (sym (ap (λ t. cond t (lacking_of all leaves) (Some leaf.top)) has) ∙ is) in
    (or_right (is_under top leaf) (list_any (is_under top) leaves) more.0, more.1)) (λ off. let same : leaf.top ≡ top =
    some_same leaf.top top (sym (ap (λ t. cond t (lacking_of all leaves) (Some leaf.top)) off) ∙ is) in (
      or_left (is_under top leaf) (list_any (is_under top) leaves) (same_test leaf.top top same),
      subst (λ n. list_any (is_up_under n) all ≡ false) same off,
    ))

none_up : (Fails : ℕ → Type 0) (top : ℕ) (leaves : List LeafSeen) → list_any (is_up_under top) leaves ≡ false
    → AllByRecursion (IsLostBy is_writable Fails top) leaves
none_up Fails top [] none = tt
none_up Fails top (leaf ∷ leaves) none = by_bool (is_up_under top leaf)
    (λ here. true_not_false (is_up_under top leaf || list_any (is_up_under top) leaves)
    (or_left (is_up_under top leaf) (list_any (is_up_under top) leaves) here) none)
    (λ away. (
      (λ under writable. true_not_false (is_up_under top leaf)
          (ap (λ t. t && (leaf.top == top)) (and_parts (is_up leaf.own.mode) (is_some leaf.dev) writable).0
          ∙ same_test leaf.top top under) away),
      none_up Fails top leaves (sym (ap (λ t. t || list_any (is_up_under top) leaves) away) ∙ none),
    ))

-- The commit of an opening.
resume_loses : (Fails : ℕ → Type 0) (lack : Option ℕ) (c : Codec) (size : ℕ → ℕ) (s : PoolState) (vs : List Move)
    (group : ℕ) (top : Guid) (faults : ℕ) → IsCaught Fails vs
    → lacking_of s.core.leaves s.core.leaves ≡ lack → ResumesUnless lack c size s vs (Suspended group top faults)
    → LosesTop is_writable s.core.leaves s.own.top_number Fails top
resume_loses Fails (Some at) c size s vs group top faults caught is row = let lacks =
    lacking_under at s.core.leaves s.core.leaves is in record {
      at = at;
      number_is = sym (suspended_top group _ top (s.own.top_number at) faults _ row.1);
      some = lacks.0;
      lost = none_up Fails at s.core.leaves lacks.1;
    }
resume_loses Fails None c size s vs group top faults caught is w =
    let row = w.row in
    let caught_rest : IsCaught Fails row.rest = caught_first Fails row.rest _ (caught_second Fails row.first _
    (subst (IsCaught Fails) row.moves (caught_first Fails w.first w.rest (subst (IsCaught Fails) w.moves caught)))) in
    (top_frozen Fails (λ k. None) s row.first group top faults row.freeze.moves
    (group_lost Fails c size (steps row.first s) row.rest group top faults caught_rest row.ends)).1

-- What an import that was suspended comes to: its pool is there behind these acts, and its commit is suspended.
record EndsUnopened (c : Codec) (size : ℕ → ℕ) (opening : Opening) (acts : List Act) (group : ℕ) (top : Guid)
    (faults : ℕ) : Type 0 where
  front : List Act
  s : PoolState
  g : ℕ
  vs : List Move
  all : acts ≡ front ++ (Enters s ∷ (does g vs ++ (Closes g ∷ [])))
  leaves : s.core.leaves ≡ opened_leaves (c.leaves opening.found.blob.items) opening.devs
  numbers : s.own.top_number ≡ c.top_number opening.found.blob.items
  row : RowResume c size s vs (Suspended group top faults)

opened_is : (c : Codec) (size : ℕ → ℕ) (handed : List ℕ → Option ℕ) (name : List ℕ) (found : Found)
    (made : List Noted) (outcome : OpenReply)
    (row : RowOpen c size handed name found made outcome) (s : PoolState) → outcome ≡ Opens_state s
    → (s.core.leaves ≡ opened_leaves (c.leaves found.blob.items) row.devs)
    × (s.own.top_number ≡ c.top_number found.blob.items)
opened_is c size handed name found made (Opens_state x) row s out = (
  ap (λ y. y.core.leaves) (sym (one x s out) ∙ row.ends.2),
  ap (λ y. y.own.top_number) (sym (one x s out) ∙ row.ends.2),
)
  where
    one : (a b : PoolState) → Opens_state a ≡ Opens_state b → a ≡ b
    one a b e = cc
opened_is c size handed name found made (NoPage page shown) row s out = absurd (cc)

opens_unopened : (c : Codec) (h : Host) (name : List ℕ) (known : Known) (found : Found) (acts : List Act) (reply : Reply) (group : ℕ)
    (top : Guid) (faults : ℕ)
    → (opens : OpensFound c h name known found acts reply) → reply ≡ To_import (Unopened group top faults)
    → EndsUnopened c (size_in h.table) (opening_of c h name known found acts reply opens) acts group top faults
opens_unopened c h name known found acts reply group top faults opens says = follow opens.outcome refl opens.follows
  where
    A : Type 0
    A = EndsUnopened c (size_in h.table) (opening_of c h name known found acts reply opens) acts group top faults

    by_turn : (turn : TurnReply) (s : PoolState) (vs : List Move) → opens.outcome ≡ Opens_state s
        → RowResume c (size_in h.table) s vs turn → OpensBy turn found.pool.0 s vs opens.rest reply → A
    by_turn (Committed m) s vs out row by = absurd (let no = sym by.1 ∙ says in cc)
    by_turn (Suspended n t k) s vs out row by =
        let front = opening_front c h name known found acts reply opens in
        let is = opened_is c (size_in h.table) (free_in h) name found opens.made opens.outcome opens.row s out in
        record {
          front = front.0;
          s = s;
          g = found.pool.0;
          vs = vs;
          all = front.1 ∙ ap (λ rest. front.0 ++ rest) by.0;
          leaves = is.0;
          numbers = is.1;
          row = subst (RowResume c (size_in h.table) s vs) (unopened_same n group t top k faults (sym by.1 ∙ says)) row;
        }
    by_turn turn s vs out row by = absurd by

    follow : (outcome : OpenReply) → opens.outcome ≡ outcome
        → FollowsMap outcome c (size_in h.table) found.pool.0 opens.rest reply → A
    follow (Opens_state s) out row = by_turn row.1 s row.0 out row.2 row.3
    follow (NoPage page shown) out row = absurd (let no = sym row.1 ∙ says in cc)

fails_opening : (c : Codec) (size : ℕ → ℕ) (opening : Opening) (acts : List Act) (group : ℕ) (top : Guid) (faults : ℕ)
    (from to : ℕ → ℕ) → opening_in acts ≡ Some opening
    → AllCaused (calls_along acts) from to → EndsUnopened c size opening acts group top faults
    → FailsOpening c acts from to top
fails_opening c size opening acts group top faults from to reads caused x =
    let rest = does x.g x.vs ++ (Closes x.g ∷ []) in
    let mid = midway_at acts x.front (Enters x.s ∷ rest) from to x.all caused in
    let lost : LosesTop is_writable x.s.core.leaves x.s.own.top_number (HasRisen mid.0 to) top =
    resume_loses (HasRisen mid.0 to) (lacking_of x.s.core.leaves x.s.core.leaves) c size x.s x.vs group top faults
    (caught_rose x.vs (calls_along mid.1.behind) mid.0 to (ap calls_along mid.3 ∙ closed_calls x.g x.vs) mid.1.comes)
    refl x.row in record {
      opening = opening;
      reads = reads;
      mid = mid.0;
      at = mid.1;
      pool = x.s;
      rest = rest;
      enters = mid.3;
      lost = subst (λ number. LosesTop is_writable
          (opened_leaves (c.leaves opening.found.blob.items) opening.devs) number (HasRisen mid.0 to) top) x.numbers
          (subst (λ leaves. LosesTop is_writable leaves x.s.own.top_number (HasRisen mid.0 to) top) x.leaves lost);
    }

-- The line.
seek_unopened : (seek : SeekReply) (c : Codec) (h : Host) (name : List ℕ) (known : Known) (acts : List Act) (reply : Reply)
    (group : ℕ) (top : Guid) (faults : ℕ)
    → ImportBy seek c h name known acts reply → reply ≡ To_import (Unopened group top faults)
    → (opening : Opening) × (opening_in acts ≡ Some opening)
    × EndsUnopened c (size_in h.table) opening acts group top faults
seek_unopened (TakesRecord found) c h name known acts reply group top faults row says = (
  opening_of c h name known found acts reply row,
  ap opening_in row.are,
  opens_unopened c h name known found acts reply group top faults row says,
)
seek_unopened seek c h name known acts reply group top faults row says = absurd (let no = sym row.1 ∙ says in cc)

pub import_loses : (c : Codec) (h : Host) (name : List ℕ) (acts : List Act) (reply : Reply) (group : ℕ) (top : Guid)
    (faults : ℕ) (from to : ℕ → ℕ) → RowImport c h name acts reply
    → AllCaused (calls_along acts) from to → reply ≡ To_import (Unopened group top faults)
    → FailsOpening c acts from to top
import_loses c h name acts reply group top faults from to row caused says = unless (named name h.pools) row
  where
    imports : Imports c h name acts reply → FailsOpening c acts from to top
    imports row =
        let look : Act = Looked name _ in
        let all : acts ≡ bare row.made ++ (look ∷ row.rest) = row.are in
        let ends = seek_unopened row.seek c
        (host_behind row.made h) name _ row.rest reply group top faults row.follows says in
        let x = ends.2 in
        fails_opening c (size_in h.table) ends.0 acts group top faults from to
        (ap opening_in all ∙ (opening_bare row.made (look ∷ row.rest) ∙ ends.1)) caused (record {
          front = bare row.made ++ (look ∷ x.front);
          s = x.s;
          g = x.g;
          vs = x.vs;
          all = all ∙ (ap (λ rest. bare row.made ++ (look ∷ rest)) x.all
              ∙ sym (append_assoc (bare row.made) (look ∷ x.front)
              (Enters x.s ∷ (does x.g x.vs ++ (Closes x.g ∷ [])))));
          leaves = x.leaves;
          numbers = x.numbers;
          row = x.row;
        })

    full_by : (full : Bool) → ImportFor full c h name acts reply → FailsOpening c acts from to top
    full_by true row = absurd (let no = sym row.1 ∙ says in cc)
    full_by false row = imports row

    unless : (found : Option PoolState) → ImportUnless found c h name acts reply → FailsOpening c acts from to top
    unless (Some s) row = absurd (let no = sym row.1 ∙ says in cc)
    unless None row = full_by (nat_le 16 (length h.pools)) row
