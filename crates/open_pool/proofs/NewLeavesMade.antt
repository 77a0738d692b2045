-- New leaves in memory, one after another: their names, their devices and their logs.
use Rattle.std.proofs.Common.{◌≡◌, ◌≢◌, ℕ, suc, ◌+◌, ◌<◌, ◌≤◌, ◌==◌, ◌^◌, true, false, List, [], ◌∷◌, ◌++◌, length, map, Some, refl, sym, ap, ◌∙◌, subst, arith}
use Rattle.std.specs.Prelude.{All, AllPairs, is_some, sum}
use Rattle.std.specs.List.{AllByRecursion}
use Rattle.std.proofs.lemmas.Bool.{eq-eqb, false≢true, true≢false}
use Rattle.std.proofs.lemmas.List.Elements.{All-cons, All-head, All-nil, All-tail}
use Rattle.std.proofs.lemmas.List.Kept.{AllPairs-cons}
use Rattle.mp_base.specs.Ranges.{Rises}
use Rattle.mp_base.specs.declared.range.GroupRange.{GroupRange}
use Rattle.group_set.specs.Groups.{holds}
use Rattle.group_set.specs.Ranges.{ranges_upto}
use Rattle.group_set.proofs.Counted.{upto_some}
use Rattle.vdev_tree.specs.Leaf.{is_readable, is_up}
use Rattle.vdev_tree.specs.Tree.{leaves}
use Rattle.vdev_tree.specs.declared.top.Top.{Top}
use Rattle.vdev_tree.specs.declared.vdev.LeafVdev.{LeafVdev}
use Rattle.dtl_rules.specs.Widening.{leaves_of}
use Rattle.pool_config.specs.Flags.{is_recorded, recorded}
use Rattle.pool_config.specs.Seen.{leaf_seen, leaf_name, ranges_of}
use Rattle.pool_config.specs.Validity.{IsLeaf, log_length}
use Rattle.pool_config.proofs.Bounds.{sum_cons}
use Rattle.pool_moves.specs.StampRow.{NewMember, NewLeaf, top_leaves, leaves_from, AreDevicesApart}
use Rattle.open_pool.specs.Creating.{IsMade, AreMade, AreNewTops}
use Rattle.open_pool.specs.Pages.{HaveOwnDevices}
use Rattle.open_pool.proofs.LogsWidened.{IsWithin}

abbrev pub member : NewLeaf → NewMember
member leaf = record { name = leaf.name; dev = leaf.dev }

abbrev pub AreLeavesOf : List NewLeaf → List LeafVdev → Type 0
AreLeavesOf [] [] = Unit {0}
AreLeavesOf (new ∷ news) (leaf ∷ leaves) = IsMade new.guid (member new) leaf × AreLeavesOf news leaves
AreLeavesOf [] (leaf ∷ leaves) = ⊥
AreLeavesOf (new ∷ news) [] = ⊥

made_front : (next top : ℕ) (members : List NewMember) (under : List LeafVdev) (news : List NewLeaf) (leaves : List LeafVdev) → AreMade next members under
    → AreLeavesOf news leaves → AreLeavesOf (top_leaves next top members ++ news) (under ++ leaves)
made_front next top [] [] news leaves made rest = rest
made_front next top [] (leaf ∷ under) news leaves made rest = absurd made
made_front next top (m ∷ members) [] news leaves made rest = absurd made
made_front next top (m ∷ members) (leaf ∷ under) news leaves made rest = (made.0, made_front (suc next) top members under news leaves made.1 rest)

-- the leaves of new tops
pub trees_made : (size : ℕ → ℕ) (next top : ℕ) (asked : List (List NewMember)) (trees : List Top) → AreNewTops size next asked trees
    → AreLeavesOf (leaves_from next top asked) (leaves_of trees)
trees_made size next top [] [] are = tt
trees_made size next top [] (tree ∷ trees) are = absurd are
trees_made size next top (members ∷ asked) [] are = absurd are
trees_made size next top (members ∷ asked) (tree ∷ trees) are =
    made_front (suc next) top members (leaves tree.mirror) (leaves_from (suc next + length members) (suc top) asked) (leaves_of trees) are.0.mirror.made
    (trees_made size (suc next + length members) (suc top) asked trees are.1)

pub as_many : (news : List NewLeaf) (leaves : List LeafVdev) → AreLeavesOf news leaves → length leaves ≡ length news
as_many [] [] are = refl
as_many [] (leaf ∷ leaves) are = absurd are
as_many (new ∷ news) [] are = absurd are
as_many (new ∷ news) (leaf ∷ leaves) are = ap suc (as_many news leaves are.1)

-- Their names differ.
other_names : (name : List ℕ) (news : List NewLeaf) (leaves : List LeafVdev) → AreLeavesOf news leaves → All (λ other. name ≢ other.name) news
    → All (λ other. name ≢ other) (map leaf_name (map leaf_seen leaves))
other_names name [] [] are differ = All-nil (λ other. name ≢ other)
other_names name [] (leaf ∷ leaves) are differ = absurd are
other_names name (new ∷ news) [] are differ = absurd are
other_names name (new ∷ news) (leaf ∷ leaves) are differ =
    All-cons (λ other. name ≢ other) leaf.name (map leaf_name (map leaf_seen leaves))
    (λ same. All-head (λ (other : NewLeaf). name ≢ other.name) new news differ (same ∙ are.0.name))
    (other_names name news leaves are.1 (All-tail (λ (other : NewLeaf). name ≢ other.name) new news differ))

pub names_differ : (news : List NewLeaf) (leaves : List LeafVdev) → AreLeavesOf news leaves → AllPairs (λ (a b : NewLeaf). a.name ≢ b.name) news
    → AllPairs (λ a b. a ≢ b) (map leaf_name (map leaf_seen leaves))
names_differ [] [] are differ = λ i j d lt within. absurd (omega (arith, within))
names_differ [] (leaf ∷ leaves) are differ = absurd are
names_differ (new ∷ news) [] are differ = absurd are
names_differ (new ∷ news) (leaf ∷ leaves) are differ =
    AllPairs-cons (λ a b. a ≢ b) leaf.name (map leaf_name (map leaf_seen leaves))
    (subst (λ name. All (λ other. name ≢ other) (map leaf_name (map leaf_seen leaves))) (sym are.0.name)
    (other_names new.name news leaves are.1 (λ k d lt. differ 0 (suc k) d (omega arith) (omega (arith, lt)))))
    (names_differ news leaves are.1 (λ i j d lt within. differ (suc i) (suc j) d (omega (arith, lt)) (omega (arith, within))))

-- No two are on one device.
abbrev AreTwo : LeafVdev → LeafVdev → Type 0
AreTwo a b = (d : ℕ) → a.dev ≡ Some d → b.dev ≡ Some d → ⊥

some_same : (a b : ℕ) → Some a ≡ Some b → a ≡ b
some_same a b e = cc

other_devices : (one : LeafVdev) (dev : ℕ) (news : List NewLeaf) (leaves : List LeafVdev) → one.dev ≡ Some dev → AreLeavesOf news leaves
    → AllByRecursion (λ other. (dev == other.dev) ≡ false) news → All (AreTwo one) leaves
other_devices one dev [] [] on are apart = All-nil (AreTwo one)
other_devices one dev [] (leaf ∷ leaves) on are apart = absurd are
other_devices one dev (new ∷ news) [] on are apart = absurd are
other_devices one dev (new ∷ news) (leaf ∷ leaves) on are apart =
    All-cons (AreTwo one) leaf leaves
    (λ d is is'. true≢false (sym (eq-eqb dev new.dev (some_same dev d (sym on ∙ is) ∙ sym (some_same new.dev d (sym are.0.dev ∙ is')))) ∙ apart.0))
    (other_devices one dev news leaves on are.1 apart.1)

pub devices_apart : (news : List NewLeaf) (leaves : List LeafVdev) → AreLeavesOf news leaves → AreDevicesApart news → HaveOwnDevices leaves
devices_apart [] [] are apart = λ i j d lt within. absurd (omega (arith, within))
devices_apart [] (leaf ∷ leaves) are apart = absurd are
devices_apart (new ∷ news) [] are apart = absurd are
devices_apart (new ∷ news) (leaf ∷ leaves) are apart =
    AllPairs-cons AreTwo leaf leaves (other_devices leaf new.dev news leaves are.0.dev are.1 apart.0) (devices_apart news leaves are.1 apart.1)

-- What holds of each.
pub each_made : (P : LeafVdev → Type 0) → ((guid : _) (m : NewMember) (leaf : LeafVdev) → IsMade guid m leaf → P leaf)
    → (news : List NewLeaf) (leaves : List LeafVdev) → AreLeavesOf news leaves → AllByRecursion P leaves
each_made P one [] [] are = tt
each_made P one [] (leaf ∷ leaves) are = absurd are
each_made P one (new ∷ news) [] are = absurd are
each_made P one (new ∷ news) (leaf ∷ leaves) are = (one new.guid (member new) leaf are.0, each_made P one news leaves are.1)

no_ranges : (log : ℕ → _) (n : ℕ) → ((g : ℕ) → log g ≡ false) → ranges_upto log n ≡ []
no_ranges log n none = by (ranges_upto log n) refl
  where
    by : (ranges : List GroupRange) → ranges_upto log n ≡ ranges → ranges ≡ []
    by [] is = refl
    by (r ∷ ranges) is = absurd (
        let some = upto_some log n (subst (λ (l : List GroupRange). 1 ≤ length l) (sym is) (omega arith)) in
        false≢true (sym (none some.0) ∙ some.1))

pub owes_nothing : (leaf : LeafVdev) → ((g : ℕ) → holds leaf.log g ≡ false) → ranges_of leaf.log ≡ []
unfolding ranges_of
owes_nothing leaf none = no_ranges (holds leaf.log) (2 ^ 62) none

pub recordable : (news : List NewLeaf) (leaves : List LeafVdev) → AreLeavesOf news leaves → AllByRecursion (IsLeaf (record { 0 = 1 })) (map leaf_seen leaves)
recordable [] [] are = tt
recordable [] (leaf ∷ leaves) are = absurd are
recordable (new ∷ news) [] are = absurd are
recordable (new ∷ news) (leaf ∷ leaves) are = (
  record {
    name = are.0.named;
    state = subst (λ state. is_recorded (recorded state leaf.temporary) ≡ true) (sym are.0.state) refl;
    few = subst (λ (l : List GroupRange). length l ≤ 4096) (sym (owes_nothing leaf are.0.log)) (omega arith);
    log = subst (Rises 1 1) (sym (owes_nothing leaf are.0.log)) tt;
  },
  recordable news leaves are.1,
)

pub no_ranges_together : (news : List NewLeaf) (leaves : List LeafVdev) → AreLeavesOf news leaves → sum (map log_length (map leaf_seen leaves)) ≡ 0
no_ranges_together [] [] are = refl
no_ranges_together [] (leaf ∷ leaves) are = absurd are
no_ranges_together (new ∷ news) [] are = absurd are
no_ranges_together (new ∷ news) (leaf ∷ leaves) are =
    let all = sum_cons (length (ranges_of leaf.log)) (map log_length (map leaf_seen leaves)) in
    let here = ap length (owes_nothing leaf are.0.log) in
    let rest = no_ranges_together news leaves are.1 in
    omega (arith, all, here, rest)

pub within_all : (n : ℕ) (news : List NewLeaf) (leaves : List LeafVdev) → AreLeavesOf news leaves → AllByRecursion (IsWithin n) leaves
within_all n = each_made (IsWithin n) (λ guid m leaf made g has. absurd (false≢true (sym (made.log g) ∙ has)))

abbrev pub IsUnsettled : (n : ℕ) → LeafVdev → Type 0
IsUnsettled n leaf = (g : ℕ) → n < g → holds leaf.settled g ≡ false

pub settled_none : (n : ℕ) (news : List NewLeaf) (leaves : List LeafVdev) → AreLeavesOf news leaves → AllByRecursion (IsUnsettled n) leaves
settled_none n = each_made (IsUnsettled n) (λ guid m leaf made g above. made.settled g)

abbrev pub IsWritable : LeafVdev → Type 0
IsWritable leaf = is_readable leaf ≡ true → is_some leaf.dev ≡ true

pub writable_all : (news : List NewLeaf) (leaves : List LeafVdev) → AreLeavesOf news leaves → AllByRecursion IsWritable leaves
writable_all = each_made IsWritable (λ guid m leaf made up. ap is_some made.dev)

pub readable_all : (news : List NewLeaf) (leaves : List LeafVdev) → AreLeavesOf news leaves → AllByRecursion (λ leaf. is_readable leaf ≡ true) leaves
readable_all = each_made (λ leaf. is_readable leaf ≡ true) (λ guid m leaf made. ap is_up made.state)
