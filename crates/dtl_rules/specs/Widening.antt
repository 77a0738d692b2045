-- How the logs of a pool stay small.
use Rattle.std.specs.Prelude.{◌≡◌, ℕ, ◌+◌, ◌<◌, ◌≤◌, min, max, Bool, true, not, ◌==◌, List, [], ◌∷◌, ◌++◌, map}
use Rattle.std.specs.List.{list_all, flat_map}
use Rattle.group_set.specs.Groups.{Groups, run_count, CountsRuns, IsWidened}
use Rattle.vdev_tree.specs.Tree.{leaves, marks, Mark}
use Rattle.vdev_tree.specs.declared.top.Top.{Top}
use Rattle.vdev_tree.specs.declared.vdev.LeafVdev.{LeafVdev}

-- the leaves of all tops in tree order
abbrev pub leaves_of : List Top → List LeafVdev
leaves_of tops = flat_map (λ top. leaves top.mirror) tops

-- how the trees of all tops are built
abbrev pub marks_of : List Top → List (List Mark)
marks_of tops = map (λ top. marks top.mirror) tops

abbrev pub sectors_of : List Top → List ℕ
sectors_of tops = map (λ top. top.sectors) tops

-- how many ranges the log of a leaf has
abbrev pub ranges_of : LeafVdev → ℕ
ranges_of leaf = run_count leaf.log

-- they are the maximal runs of its groups
abbrev pub IsCounted : LeafVdev → Type 0
IsCounted leaf = CountsRuns leaf.log (ranges_of leaf)

-- how many all logs have together
abbrev pub total_ranges : List LeafVdev → ℕ
total_ranges [] = 0
total_ranges (leaf ∷ some) = ranges_of leaf + total_ranges some

-- how many the log with the most ranges has
abbrev pub most_ranges : List LeafVdev → ℕ
most_ranges [] = 0
most_ranges (leaf ∷ some) = max (ranges_of leaf) (most_ranges some)

-- no log has so many ranges
abbrev pub none_has : ℕ → List LeafVdev → Bool
none_has ranges some = list_all (λ leaf. not (ranges_of leaf == ranges)) some

-- a leaf whose log became one range, from its least to its greatest group
pub record WidensLeaf (old new : LeafVdev) : Type 0 where
  pub groups : IsWidened old.log new.log
  pub ranges : run_count new.log ≡ min 1 (run_count old.log)
  pub room : old.log.spare + run_count old.log ≤ new.log.spare + run_count new.log
  pub rest : (log : Groups) → record old { log = log } ≡ record new { log = log }

-- the first leaf whose log has so many ranges is widened, and the others are as they were
pub record WidensFirst (ranges : ℕ) (old new : List LeafVdev) : Type 0 where
  pub before : List LeafVdev
  pub leaf : LeafVdev
  pub widened : LeafVdev
  pub behind : List LeafVdev
  pub was : old ≡ before ++ leaf ∷ behind
  pub is : new ≡ before ++ widened ∷ behind
  pub earlier : none_has ranges before ≡ true
  pub large : ranges_of leaf ≡ ranges
  pub widens : WidensLeaf leaf widened

-- the log with the most ranges, the first on a tie, is widened while there are more than 4,096 ranges
pub data Widenings : List LeafVdev → List LeafVdev → Type 0 where
  none : {some : List LeafVdev} → Widenings some some
  more : {old now new : List LeafVdev} → Widenings old now → 4096 < total_ranges now → WidensFirst (most_ranges now) now new → Widenings old new
