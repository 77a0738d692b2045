-- How a group's end leaves the leaves: its numbers leave every log, or what each leaf owes is settled.
use Rattle.std.proofs.Common.{◌≡◌, ℕ, ◌<◌, ◌≤◌, ◌&&◌, cond, Bool, true, false, List, [], ◌∷◌, map, refl, sym, ap, ◌∙◌, arith}
use Rattle.std.proofs.Math.Path.{fun_ext}
use Rattle.std.specs.Prelude.{nat_lt}
use Rattle.std.specs.List.{AllByRecursion, AllZip}
use Rattle.std.proofs.lemmas.Bool.{true≢false}
use Rattle.std.proofs.lemmas.Bool.Decides.{nat_tests}
use Rattle.group_set.specs.Groups.{Groups, holds}
use Rattle.vdev_tree.specs.declared.vdev.LeafVdev.{LeafVdev}
use Rattle.txg_history.specs.Groups.{between}
use Rattle.txg_engine.specs.declared.seat.Seat.{Seat}
use Rattle.txg_engine.specs.Logs.{IsSettled, IsCut}
use Rattle.pool_moves.specs.Leaves.{LeafSeen}
use Rattle.pool_moves.specs.Moves.{Draft, Burn, Commits, leaf_step, leaves_step, log_cleared}
use Rattle.pool_moves.specs.States.{ScanSeen, PoolSeen}
use Rattle.open_pool.specs.Form.{all_leaves}
use Rattle.open_pool.specs.Parts.{PoolParts}
use Rattle.open_pool.specs.State.{leaf_of, leaves_from, leaves_under}
use Rattle.open_pool.proofs.LeavesByTops.{leaves_at, by_tops, tops_from, all_are_under, sizes, same_tops}
use Rattle.open_pool.proofs.LogsWidened.{IsWithin}

-- no group of the set is above this number
abbrev pub IsUpTo : (number : ℕ) → Groups → Type 0
IsUpTo number set = (g : ℕ) → holds set g ≡ true → g ≤ number

-- a leaf's log and what is settled there are up to this number
pub record IsBelow (number : ℕ) (leaf : LeafVdev) : Type 0 where
  pub log : IsUpTo number leaf.log
  pub settled : IsUpTo number leaf.settled

-- the groups from the first number on are all those of the group
cut_is : (first number g : ℕ) (h : Bool) → (h ≡ true → g ≤ number)
    → cond (between first number g) false h ≡ (h && nat_lt g first)
cut_is first number g false top = both (between first number g)
  where
    both : (t : Bool) → cond t false false ≡ false
    both true = refl
    both false = refl
cut_is first number g true top = one (between first number g) (nat_lt g first) refl refl
  where
    one : (a b : Bool) → between first number g ≡ a → nat_lt g first ≡ b → cond a false true ≡ b
    one true true is below = absurd
        (let low : first ≤ g = grind (arith, nat_tests) in let lt : g < first = grind (arith, nat_tests) in omega
        (arith, low, lt))
    one true false is below = refl
    one false true is below = refl
    one false false is below = absurd (
        let low : first ≤ g = grind (arith, nat_tests) in
        let high = top refl in
        true≢false (sym (let yes : between first number g ≡ true = grind (arith, nat_tests) in yes) ∙ is))

abbrev ended : (leaf : LeafVdev) (top : ℕ) (owes settled : ℕ → Bool) → LeafSeen
ended leaf top owes settled = record (leaf_of [] top leaf) { owes = owes; settled = settled }

-- A suspended group.
leaf_burns : (seats : List Seat) (top number first : ℕ) (scan : ScanSeen) (old new : LeafVdev) → IsBelow number old
    → IsCut first old new
    → leaf_step Burn number first scan (leaf_of seats top old) ≡ leaf_of [] top new
leaf_burns seats top number first scan old new below cut =
    ap (λ log. ended old top log (log_cleared first number (holds old.settled)))
    (fun_ext (λ g. cut_is first number g (holds old.log g) (below.log g) ∙ sym (cut.log g)))
    ∙ ap (λ settled. ended old top (holds new.log) settled)
    (fun_ext (λ g. cut_is first number g (holds old.settled g) (below.settled g) ∙ sym (cut.settled g)))
    ∙ ap (leaf_of [] top) (sym (cut.rest new.log new.settled))

leaves_burn : (seats : List Seat) (tops : List ℕ) (number first : ℕ) (scan : ScanSeen) (old new : List LeafVdev)
    → AllByRecursion (IsBelow number) old → AllZip (IsCut first) old new
    → map (leaf_step Burn number first scan) (leaves_at seats tops old) ≡ leaves_at [] tops new
leaves_burn seats [] number first scan old new below cut = refl
leaves_burn seats (top ∷ tops) number first scan [] [] below cut = refl
leaves_burn seats (top ∷ tops) number first scan [] (y ∷ new) below cut = absurd cut
leaves_burn seats (top ∷ tops) number first scan (x ∷ old) [] below cut = absurd cut
leaves_burn seats (top ∷ tops) number first scan (x ∷ old) (y ∷ new) below cut =
    ap (λ l. l ∷ map (leaf_step Burn number first scan) (leaves_at seats tops old))
    (leaf_burns seats top number first scan x y below.0 cut.0)
    ∙ ap (λ ls. leaf_of [] top y ∷ ls) (leaves_burn seats tops number first scan old new below.1 cut.1)

-- An acknowledged one.
leaf_commits : (seats : List Seat) (draft : Draft) (top number first : ℕ) (scan : ScanSeen) (old new : LeafVdev) → IsSettled old new
    → leaf_step (Commits draft) number first scan (leaf_of seats top old) ≡ leaf_of [] top new
leaf_commits seats draft top number first scan old new settles =
    ap (λ settled. ended old top (holds old.log) settled) (fun_ext (λ g. sym (settles.groups g)))
    ∙ ap (leaf_of [] top) (sym (settles.rest new.settled))

leaves_commit : (seats : List Seat) (draft : Draft) (tops : List ℕ) (number first : ℕ) (scan : ScanSeen) (old new : List LeafVdev)
    → AllZip IsSettled old new
    → map (leaf_step (Commits draft) number first scan) (leaves_at seats tops old) ≡ leaves_at [] tops new
leaves_commit seats draft [] number first scan old new settles = refl
leaves_commit seats draft (top ∷ tops) number first scan [] [] settles = refl
leaves_commit seats draft (top ∷ tops) number first scan [] (y ∷ new) settles = absurd settles
leaves_commit seats draft (top ∷ tops) number first scan (x ∷ old) [] settles = absurd settles
leaves_commit seats draft (top ∷ tops) number first scan (x ∷ old) (y ∷ new) settles =
    ap (λ l. l ∷ map (leaf_step (Commits draft) number first scan) (leaves_at seats tops old))
    (leaf_commits seats draft top number first scan x y settles.0)
    ∙ ap (λ ls. leaf_of [] top y ∷ ls) (leaves_commit seats draft tops number first scan old new settles.1)

module _ (s : PoolSeen) (seats : List Seat) (p q : PoolParts)
    (seen : s.leaves ≡ leaves_from seats 1 (leaves_under p.tops))
    (built : sizes (leaves_under q.tops) ≡ sizes (leaves_under p.tops)) where
  was_at : s.leaves ≡ leaves_at seats (tops_from 1 (leaves_under p.tops)) (all_leaves p)
  was_at = seen ∙ by_tops seats 1 (leaves_under p.tops)
      ∙ ap (leaves_at seats (tops_from 1 (leaves_under p.tops))) (sym (all_are_under p.tops))

  now_at : leaves_at [] (tops_from 1 (leaves_under p.tops)) (all_leaves q) ≡ leaves_from [] 1 (leaves_under q.tops)
  now_at =
      ap (λ ts. leaves_at [] ts (all_leaves q)) (sym (same_tops 1 (leaves_under q.tops) (leaves_under p.tops) built))
      ∙ ap (leaves_at [] (tops_from 1 (leaves_under q.tops))) (all_are_under q.tops)
      ∙ sym (by_tops [] 1 (leaves_under q.tops))

  -- Each leaf's part of burning: the numbers from the group's first on leave its log and what is settled.
  pub burns_leaves : AllByRecursion (IsBelow s.number) (all_leaves p)
      → AllZip (IsCut s.group.first) (all_leaves p) (all_leaves q)
      → leaves_step Burn s ≡ leaves_from [] 1 (leaves_under q.tops)
  burns_leaves below cut =
      ap (map (leaf_step Burn s.number s.group.first s.scan)) was_at
      ∙ leaves_burn seats (tops_from 1 (leaves_under p.tops)) s.number s.group.first s.scan (all_leaves p)
      (all_leaves q) below cut ∙ now_at

  -- And of an acknowledged round: what it owes is settled.
  pub commits_leaves : (draft : Draft) → AllZip IsSettled (all_leaves p) (all_leaves q)
      → leaves_step (Commits draft) s ≡ leaves_from [] 1 (leaves_under q.tops)
  commits_leaves draft settles =
      ap (map (leaf_step (Commits draft) s.number s.group.first s.scan)) was_at
      ∙ leaves_commit seats draft (tops_from 1 (leaves_under p.tops)) s.number s.group.first s.scan (all_leaves p)
      (all_leaves q) settles ∙ now_at

-- Logs are within the numbers still.
pub cut_within : (number first : ℕ) (old new : List LeafVdev) → AllZip (IsCut first) old new
    → AllByRecursion (IsWithin number) old → AllByRecursion (IsWithin number) new
cut_within number first [] [] cut within = tt
cut_within number first [] (y ∷ new) cut within = absurd cut
cut_within number first (x ∷ old) [] cut within = absurd cut
cut_within number first (x ∷ old) (y ∷ new) cut within = (
  (λ g has. within.0 g
      (was (holds x.log g) (nat_lt g first)
      (sym (cut.0.log g) ∙ has))),
  cut_within number first old new cut.1 within.1,
)
  where
    was : (a b : Bool) → (a && b) ≡ true → a ≡ true
    was true b e = refl
    was false b e = e

pub settled_within : (number : ℕ) (old new : List LeafVdev) → AllZip IsSettled old new
    → AllByRecursion (IsWithin number) old → AllByRecursion (IsWithin number) new
settled_within number [] [] settles within = tt
settled_within number [] (y ∷ new) settles within = absurd settles
settled_within number (x ∷ old) [] settles within = absurd settles
settled_within number (x ∷ old) (y ∷ new) settles within = (
  (λ g has. within.0 g (ap (λ (leaf : LeafVdev). holds leaf.log g) (sym (settles.0.rest x.settled)) ∙ has)),
  settled_within number old new settles.1 within.1,
)
