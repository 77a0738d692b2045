-- What is seen of leaves, trees and configurations is what a record keeps of them.
use Rattle.std.proofs.Common.{◌≡◌, ◌↔◌, ℕ, ◌^◌, ◌≤◌, ◌&&◌, nat_le, true, List, [], ◌∷◌, map, Some, refl, ap, sym, ◌∙◌}
use Rattle.std.specs.List.{AllZip}
use Rattle.group_set.specs.Groups.{Groups, holds}
use Rattle.group_set.specs.Ranges.{in_ranges}
use Rattle.group_set.specs.Runs.{between}
use Rattle.group_set.proofs.Upto.{upto_has, upto_same}
use Rattle.std.proofs.lemmas.Bool.{le-leb}
use Rattle.vdev_tree.specs.declared.vdev.LeafVdev.{LeafVdev}
use Rattle.vdev_tree.specs.declared.vdev.Vdev.{Vdev}
use Rattle.vdev_tree.specs.declared.top.Top.{Top}
use Rattle.vdev_tree.specs.Tree.{leaves}
use Rattle.pool_config.specs.declared.config.Config.{Config}
use Rattle.pool_config.specs.Alike.{LeavesAlike, TreesAlike, TopsAlike, ConfigsAlike}
use Rattle.pool_config.specs.Reading.{config_in}
use Rattle.pool_config.specs.Seen.{leaf_seen, leaves_among, ranges_of, vdevs_of, top_seen, config_seen}
use Rattle.pool_config.specs.Spelling.{config_bytes}
use Rattle.pool_config.specs.Validity.{IsValid}
use Rattle.pool_config.proofs.Deciding.{back}
use Rattle.pool_config.proofs.WrittenTrees.{built_alike, leaves_written, written_alike}

-- items that are mapped to the same are related place by place, and the other way round
zip_from : {A B : Type 0} (R : A → A → Type 0) (f : A → B) → ((x y : A) → f x ≡ f y → R x y) → (xs ys : List A)
    → map f xs ≡ map f ys → AllZip R xs ys
zip_from R f one [] [] same = tt
zip_from R f one [] (y ∷ ys) same = absurd cc
zip_from R f one (x ∷ xs) [] same = absurd cc
zip_from R f one (x ∷ xs) (y ∷ ys) same = (one x y cc, zip_from R f one xs ys cc)

zip_to : {A B : Type 0} (R : A → A → Type 0) (f : A → B) → ((x y : A) → R x y → f x ≡ f y) → (xs ys : List A)
    → AllZip R xs ys → map f xs ≡ map f ys
zip_to R f one [] [] all = refl
zip_to R f one [] (y ∷ ys) all = absurd all
zip_to R f one (x ∷ xs) [] all = absurd all
zip_to R f one (x ∷ xs) (y ∷ ys) all =
    ap (λ z. z ∷ map f xs) (one x y all.0) ∙ ap (λ zs. f y ∷ zs) (zip_to R f one xs ys all.1)

within : (g : ℕ) → 1 ≤ g → g ≤ 2 ^ 62 → between 1 (2 ^ 62) g ≡ true
within g low high = ap (λ b. b && nat_le g (2 ^ 62)) (le-leb 1 g low) ∙ le-leb g (2 ^ 62) high

in_upto : (set : Groups) (g : ℕ) → 1 ≤ g → g ≤ 2 ^ 62 → in_ranges (ranges_of set) g ≡ holds set g
unfolding ranges_of
in_upto set g low high = upto_has (holds set) (2 ^ 62) g ∙ ap (λ b. b && holds set g) (within g low high)

groups_alike : (a b : Groups) → ranges_of a ≡ ranges_of b → (g : ℕ) → 1 ≤ g → g ≤ 2 ^ 62 → holds a g ≡ holds b g
groups_alike a b same g low high =
    sym (in_upto a g low high) ∙ ap (λ ranges. in_ranges ranges g) same ∙ in_upto b g low high

ranges_alike : (a b : Groups) → ((g : ℕ) → 1 ≤ g → g ≤ 2 ^ 62 → holds a g ≡ holds b g) → ranges_of a ≡ ranges_of b
unfolding ranges_of
ranges_alike a b same = upto_same (holds a) (holds b) (2 ^ 62) same

leaf_from : (a b : LeafVdev) → leaf_seen a ≡ leaf_seen b → LeavesAlike a b
leaf_from a b same = record {
  guid = ap (λ leaf. leaf.guid) same;
  name = ap (λ leaf. leaf.name) same;
  state = ap (λ leaf. leaf.state) same;
  marked = ap (λ leaf. leaf.marked) same;
  log = groups_alike a.log b.log (ap (λ leaf. leaf.log) same);
}

leaf_to : (a b : LeafVdev) → LeavesAlike a b → leaf_seen a ≡ leaf_seen b
leaf_to a b alike =
    let guid = alike.guid in
    let name = alike.name in
    let state = alike.state in
    let marked = alike.marked in
    let log = ranges_alike a.log b.log alike.log in
    cc

tree_from : (a b : Vdev) → vdevs_of a ≡ vdevs_of b → TreesAlike a b
tree_from a b same = record {
  built = built_alike a b same;
  leaves = zip_from LeavesAlike leaf_seen leaf_from (leaves a) (leaves b)
      (sym (leaves_written a) ∙ ap leaves_among same ∙ leaves_written b);
}

tree_to : (a b : Vdev) → TreesAlike a b → vdevs_of a ≡ vdevs_of b
tree_to a b alike =
    written_alike a b alike.built (zip_to LeavesAlike leaf_seen leaf_to (leaves a) (leaves b) alike.leaves)

pub trees_alike : (a b : Vdev) → (vdevs_of a ≡ vdevs_of b) ↔ TreesAlike a b
trees_alike a b = (tree_from a b, tree_to a b)

top_from : (a b : Top) → top_seen a ≡ top_seen b → TopsAlike a b
top_from a b same = record {
  sectors = ap (λ top. top.sectors) same;
  tree = tree_from a.mirror b.mirror (ap (λ top. top.vdevs) same);
}

top_to : (a b : Top) → TopsAlike a b → top_seen a ≡ top_seen b
top_to a b alike =
    let sectors = alike.sectors in
    let vdevs = tree_to a.mirror b.mirror alike.tree in
    cc

config_from : (a b : Config) → config_seen a ≡ config_seen b → ConfigsAlike a b
config_from a b same = record {
  pool = ap (λ c. c.pool) same;
  name = ap (λ c. c.name) same;
  blocks = ap (λ c. c.blocks) same;
  number = ap (λ c. c.number) same;
  next_guid = ap (λ c. c.next_guid) same;
  root = ap (λ c. c.root) same;
  tops = zip_from TopsAlike top_seen top_from a.tops.items b.tops.items (ap (λ c. c.tops) same);
  spares = ap (λ c. c.spares) same;
}

config_to : (a b : Config) → ConfigsAlike a b → config_seen a ≡ config_seen b
config_to a b alike =
    let pool = alike.pool in
    let name = alike.name in
    let blocks = alike.blocks in
    let number = alike.number in
    let next_guid = alike.next_guid in
    let root = alike.root in
    let tops = zip_to TopsAlike top_seen top_to a.tops.items b.tops.items alike.tops in
    let spares = alike.spares in
    cc

-- two valid configurations have the same bytes just where they are the same in a record
pub one_spelling : (a b : Config) → IsValid (config_seen a) → IsValid (config_seen b)
    → (config_bytes (config_seen a) ≡ config_bytes (config_seen b)) ↔ ConfigsAlike a b
one_spelling a b va vb = (
  λ same. let e : Some (config_seen a) ≡ Some (config_seen b) =
      sym (back (config_seen a) va) ∙ ap config_in same ∙ back (config_seen b) vb in config_from a b cc,
  λ alike. ap config_bytes (config_to a b alike),
)
