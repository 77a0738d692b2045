-- Logs of leaves that stand for those of a state, through a draw.
use Rattle.std.proofs.Common.{◌≡◌, ℕ, ◌^◌, ◌≤◌, Bool, true, false, ◌&&◌, ◌||◌, ◌==◌, not, inl, inr, length, refl, ap, sym, ◌∙◌, arith}
use Rattle.std.proofs.lemmas.Bool.{eqb-true}
use Rattle.std.proofs.lemmas.Bool.Decides.{nat_tests}
use Rattle.group_set.specs.Groups.{Groups, holds, run_count}
use Rattle.group_set.proofs.Among.{or_cases}
use Rattle.group_set.proofs.Counted.{upto_counted, upto_whole, upto_some}
use Rattle.group_set.proofs.Maximal.{and_right}
use Rattle.group_set.proofs.Placed.{or_false}
use Rattle.group_set.proofs.Upto.{upto_same}
use Rattle.vdev_tree.specs.Leaf.{is_up, SameLeaf}
use Rattle.vdev_tree.specs.Changes.{Owes, KeepsLog}
use Rattle.vdev_tree.specs.declared.vdev.LeafVdev.{LeafVdev}
use Rattle.vdev_tree.specs.declared.vdev.State.{State}
use Rattle.dtl_rules.specs.Widening.{IsCounted, WidensLeaf}
use Rattle.pool_core.specs.Keeping.{IsLeaf}
use Rattle.pool_core.specs.Logs.{hull_upto, count_upto, with_log, widened, owing_too}
use Rattle.pool_core.specs.Pairs.{IsLoggedTo}
use Rattle.pool_core.specs.State.{LeafState, is_readable}
use Rattle.pool_core.proofs.Hulls.{hull_is, widened_whole, widened_within, widened_has}

-- the leaf stands for the abstract one, its groups come by this number, and their ranges are as many
pub record IsLogged (n : ℕ) (v : LeafVdev) (leaf : LeafState) : Type 0 where
  pub is : IsLeaf v leaf
  pub within : IsLoggedTo n v
  pub count : count_upto leaf.owes n ≡ run_count v.log

-- a leaf in which the log alone changed
with_other_log : (v w : LeafVdev) (leaf : LeafState) (log : ℕ → Bool) → ((groups : Groups) → record v { log = groups } ≡ record w { log = groups }) → IsLeaf v leaf
    → ((g : ℕ) → log g ≡ holds w.log g) → IsLeaf w (with_log log leaf)
with_other_log v w leaf log rest is logs = record {
  member = is.member ∙ ap (λ (l : LeafVdev). l.guid) (rest v.log);
  name = is.name ∙ ap (λ (l : LeafVdev). l.name) (rest v.log);
  dev = is.dev ∙ ap (λ (l : LeafVdev). l.dev) (rest v.log);
  state = is.state ∙ ap (λ (l : LeafVdev). l.state) (rest v.log);
  temporary = is.temporary ∙ ap (λ (l : LeafVdev). l.temporary) (rest v.log);
  marked = is.marked ∙ ap (λ (l : LeafVdev). l.marked) (rest v.log);
  owes = logs;
}

copied_leaf : (v copy : LeafVdev) (leaf : LeafState) → SameLeaf copy v → IsLeaf v leaf → IsLeaf copy leaf
copied_leaf v copy leaf same is = record {
  member = is.member ∙ sym same.guid;
  name = is.name ∙ sym same.name;
  dev = is.dev ∙ sym same.dev;
  state = is.state ∙ sym same.state;
  temporary = is.temporary ∙ sym same.temporary;
  marked = is.marked ∙ sym same.marked;
  owes = λ g. is.owes g ∙ sym (same.log.groups g);
}

kept_leaf : (copy kept : LeafVdev) (leaf : LeafState) → KeepsLog copy kept → IsLeaf copy leaf → IsLeaf kept leaf
kept_leaf copy kept leaf keeps is = with_other_log copy kept leaf leaf.owes (λ groups. sym (keeps.rest groups)) is (λ g. is.owes g ∙ sym (keeps.groups g))

owes_by : (up had here now : Bool) → (up ≡ true → now ≡ had) → (up ≡ false → now ≡ (had || here)) → (had || (not up && here)) ≡ now
owes_by true had here now readable away = or_false had ∙ sym (readable refl)
owes_by false had here now readable away = sym (away refl)

same_test : (a b : ℕ) → (a == b) ≡ (b == a)
same_test a b = grind (arith, nat_tests)

owed_log : (n g : ℕ) (kept owed : LeafVdev) (leaf : LeafState) → Owes n kept owed → IsLeaf kept leaf → (owing_too n leaf).owes g ≡ holds owed.log g
owed_log n g kept owed leaf owes is =
    ap (λ (state : State). leaf.owes g || (not (is_up state) && (g == n))) is.state
    ∙ owes_by (is_up kept.state) (leaf.owes g) (g == n) (holds owed.log g)
    (λ up. ap (λ (l : LeafVdev). holds l.log g) (owes.readable up) ∙ sym (is.owes g))
    (λ away. owes.groups away g ∙ ap (λ b. b || (n == g)) (sym (is.owes g)) ∙ ap (λ b. leaf.owes g || b) (same_test n g))

owing_within : (n g : ℕ) (leaf : LeafState) → 1 ≤ n → ((h : ℕ) → leaf.owes h ≡ true → (1 ≤ h) × (h ≤ n)) → (owing_too n leaf).owes g ≡ true → (1 ≤ g) × (g ≤ n)
owing_within n g leaf first within owes = elim (or_cases (leaf.owes g) (not (is_readable leaf) && (g == n)) owes) [
  | inl had ↦ within g had
  | inr here ↦ (let same = eqb-true g n (and_right (not (is_readable leaf)) (g == n) here) in (omega arith, omega arith))
]

-- a leaf with the ranges of its groups
logged_leaf : (n : ℕ) (v : LeafVdev) (leaf : LeafState) → n ≤ 2 ^ 62 → IsLeaf v leaf → IsLoggedTo n v → IsCounted v → IsLogged n v leaf
logged_leaf n v leaf last is within counted = record {
  is = is;
  within = within;
  count = ap length (upto_same leaf.owes (holds v.log) n (λ g low high. is.owes g)) ∙ upto_counted v.log n (run_count v.log) last within counted;
}

-- a copy with room, in which the number is owed where the leaf isn't readable
pub owed_leaf : (n : ℕ) (v copy kept owed : LeafVdev) (leaf : LeafState) → SameLeaf copy v → KeepsLog copy kept → Owes n kept owed → 1 ≤ n → n ≤ 2 ^ 62
    → IsLoggedTo n v → IsCounted owed → IsLeaf v leaf → IsLogged n owed (owing_too n leaf)
owed_leaf n v copy kept owed leaf same keeps owes first last within counted is =
    let was : IsLeaf kept leaf = kept_leaf copy kept leaf keeps (copied_leaf v copy leaf same is) in
    let now : IsLeaf owed (owing_too n leaf) =
    with_other_log kept owed leaf (owing_too n leaf).owes (λ groups. sym (owes.rest groups)) was (λ g. owed_log n g kept owed leaf owes was) in
    logged_leaf n owed (owing_too n leaf) last now
    (λ g has. owing_within n g leaf first (λ h owed_it. within h (sym (is.owes h) ∙ owed_it)) (now.owes g ∙ has)) counted

-- a leaf whose log became one range
pub widened_leaf : (n : ℕ) (v w : LeafVdev) (leaf : LeafState) → 1 ≤ run_count v.log → IsLogged n v leaf → WidensLeaf v w → IsLogged n w (widened n leaf)
widened_leaf n v w leaf some logged wide =
    let hull = hull_is leaf.owes n v.log w.log logged.is.owes logged.within wide.groups in
    let within = widened_within n v.log w.log wide.groups logged.within in
    let one = upto_some leaf.owes n (let a = logged.count in omega arith) in
    let single : run_count w.log ≡ 1 = omega (arith, wide.ranges) in
    record {
      is = with_other_log v w leaf (hull_upto leaf.owes n) wide.rest logged.is hull;
      within = within;
      count = ap length (upto_same (hull_upto leaf.owes n) (holds w.log) n (λ g low high. hull g))
          ∙ upto_whole (holds w.log) n one.0 within (widened_whole v.log w.log wide.groups) (widened_has v.log w.log one.0 wide.groups (sym (logged.is.owes one.0) ∙ one.1))
          ∙ sym single;
    }
