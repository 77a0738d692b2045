-- What the form of an open pool says of its leaves, over the trees that it has.
use Rattle.std.proofs.Common.{◌≡◌, ◌≢◌, ℕ, suc, ◌<◌, ◌≤◌, ◌==◌, false, List, [], ◌∷◌, ◌++◌, length, map, refl, sym, ap, ◌∙◌, subst, arith}
use Rattle.std.specs.Prelude.{All, AllPairs}
use Rattle.std.specs.List.{AllByRecursion, flat_map}
use Rattle.std.proofs.lemmas.Bool.{true≢false, ne_eqb}
use Rattle.std.proofs.lemmas.List.{length-map, map-append}
use Rattle.std.proofs.lemmas.List.Elements.{recursion_from_All, All-nil, All-cons}
use Rattle.std.proofs.lemmas.List.Kept.{AllPairs-cons}
use Rattle.vdev_tree.specs.declared.top.Top.{Top}
use Rattle.vdev_tree.specs.declared.vdev.LeafVdev.{LeafVdev}
use Rattle.vdev_tree.specs.Tree.{leaves}
use Rattle.dtl_rules.specs.Widening.{leaves_of}
use Rattle.pool_config.specs.Seen.{VdevSeen, leaf_vdev, inner_vdev, leaf_seen, leaves_among, number_of_vdev, top_vdevs, mirror_vdevs}
use Rattle.pool_config.proofs.Bounds.{leaves-append}
use Rattle.pool_config.proofs.WrittenTrees.{leaves_written}
use Rattle.open_pool.specs.Form.{IsRecordable, HasLeaves, all_leaves, top_of}
use Rattle.open_pool.specs.Parts.{TopParts, PoolParts, all_parts}
use Rattle.open_pool.proofs.LeavesAtEnd.{IsBelow}
use Rattle.open_pool.proofs.LeavesByTops.{all_are_under, under_trees}
use Rattle.open_pool.proofs.LogsWidened.{IsWithin}
use Rattle.open_pool.proofs.NumbersApart.{AreNumbered, Differ, leaf_numbers, itself}
use Rattle.open_pool.proofs.TurnLeaves.{AreInForm}

numbers_differ_from : (n : ℕ) (ns : List ℕ) → All (λ k. n ≢ k) ns → AllByRecursion (λ k. (n == k) ≡ false) ns
numbers_differ_from n [] all = tt
numbers_differ_from n (k ∷ ns) all = (
  ne_eqb n k (all 0 k (omega arith)),
  numbers_differ_from n ns
      (λ i d lt. all (suc i) d (omega arith)),
)

pub numbers_differ : (ns : List ℕ) → AllPairs (λ a b. a ≢ b) ns → Differ ns
numbers_differ [] apart = tt
numbers_differ (n ∷ ns) apart = (
  numbers_differ_from n ns (λ k d lt. apart 0 (suc k) d (omega arith) (omega arith)),
  numbers_differ ns (λ i j d lt within. apart (suc i) (suc j) d (omega arith) (omega arith)),
)

-- the numbers of leaves are among those of all vdevs
fewer_differ : (n : ℕ) (vdevs : List VdevSeen) → AllByRecursion (λ k. (n == k) ≡ false) (map number_of_vdev vdevs)
    → AllByRecursion (λ k. (n == k) ≡ false) (map {B = ℕ} (λ leaf. leaf.guid.0) (leaves_among vdevs))
unfolding leaves_among
fewer_differ n [] differ = tt
fewer_differ n (leaf_vdev leaf ∷ vdevs) differ = (differ.0, fewer_differ n vdevs differ.1)
fewer_differ n (inner_vdev guid kind count ∷ vdevs) differ = fewer_differ n vdevs differ.1

pub leaves_differ_too : (vdevs : List VdevSeen) → Differ (map number_of_vdev vdevs)
    → Differ (map {B = ℕ} (λ leaf. leaf.guid.0) (leaves_among vdevs))
unfolding leaves_among
leaves_differ_too [] differ = tt
leaves_differ_too (leaf_vdev leaf ∷ vdevs) differ = (fewer_differ leaf.guid.0 vdevs differ.0, leaves_differ_too vdevs differ.1)
leaves_differ_too (inner_vdev guid kind count ∷ vdevs) differ = leaves_differ_too vdevs differ.1

pub seen_numbers : (leaves : List LeafVdev) → map {B = ℕ} (λ leaf. leaf.guid.0) (map leaf_seen leaves) ≡ leaf_numbers leaves
seen_numbers [] = refl
seen_numbers (leaf ∷ leaves) = ap (λ ns. leaf.guid.0 ∷ ns) (seen_numbers leaves)

others_numbered : (leaf : LeafVdev) (leaves : List LeafVdev)
    → AllByRecursion (λ k. (leaf.guid.0 == k) ≡ false) (leaf_numbers leaves)
    → All (λ other. leaf.guid.0 ≢ other.guid.0) leaves
others_numbered leaf [] differ = All-nil (λ other. leaf.guid.0 ≢ other.guid.0)
others_numbered leaf (x ∷ leaves) differ =
    All-cons (λ other. leaf.guid.0 ≢ other.guid.0) x leaves
    (λ same. true≢false (sym (sym (ap (λ n. leaf.guid.0 == n) same) ∙ itself leaf.guid.0) ∙ differ.0))
    (others_numbered leaf leaves differ.1)

pub numbered : (leaves : List LeafVdev) → Differ (leaf_numbers leaves) → AreNumbered leaves
numbered [] differ = λ i j d lt within. absurd (omega (arith, within))
numbered (leaf ∷ leaves) differ =
    AllPairs-cons (λ a b. a.guid.0 ≢ b.guid.0) leaf leaves (others_numbered leaf leaves differ.0)
    (numbered leaves differ.1)

-- The vdevs of a configuration are those of the trees.
pub vdevs_of_trees : (tops : List Top) → flat_map top_vdevs (map top_of (all_parts tops)) ≡ flat_map mirror_vdevs tops
vdevs_of_trees [] = refl
vdevs_of_trees (top ∷ tops) = ap (λ vs. mirror_vdevs top ++ vs) (vdevs_of_trees tops)

no_leaves : leaves_among [] ≡ []
unfolding leaves_among
no_leaves = refl

pub leaves_of_trees : (tops : List Top) → leaves_among (flat_map mirror_vdevs tops) ≡ map leaf_seen (leaves_of tops)
leaves_of_trees [] = no_leaves
leaves_of_trees (top ∷ tops) =
    leaves-append (mirror_vdevs top) (flat_map mirror_vdevs tops)
    ∙ ap (λ ls. ls ++ leaves_among (flat_map mirror_vdevs tops)) (leaves_written top.mirror)
    ∙ ap (λ ls. map leaf_seen (leaves top.mirror) ++ ls) (leaves_of_trees tops)
    ∙ sym (map-append leaf_seen (leaves top.mirror) (leaves_of tops))

module _ (trees : List Top) (p : PoolParts) (parts : p.tops ≡ all_parts trees) where
  pub leaves_are : all_leaves p ≡ leaves_of trees
  leaves_are = ap (λ tops. flat_map (λ (top : TopParts). top.leaves) tops) parts ∙ all_are_under (all_parts trees)
      ∙ under_trees trees

  module _ (recordable : IsRecordable p) where
    vdevs : flat_map top_vdevs (map top_of p.tops) ≡ flat_map mirror_vdevs trees
    vdevs = ap (λ tops. flat_map top_vdevs (map top_of tops)) parts ∙ vdevs_of_trees trees

    recorded : leaves_among (flat_map top_vdevs (map top_of p.tops)) ≡ map leaf_seen (all_leaves p)
    recorded = ap leaves_among vdevs ∙ leaves_of_trees trees ∙ ap (map leaf_seen) (sym leaves_are)

    -- the leaves' numbers differ, and there are at most 32
    pub leaves_numbered : AreNumbered (all_leaves p)
    leaves_numbered =
        numbered (all_leaves p) (subst Differ (ap (map {B = ℕ} (λ leaf. leaf.guid.0)) recorded ∙ seen_numbers
        (all_leaves p))
        (leaves_differ_too (flat_map top_vdevs (map top_of p.tops))
        (numbers_differ (map number_of_vdev (flat_map top_vdevs (map top_of p.tops))) recordable.apart)))

    pub leaves_few : length (all_leaves p) ≤ 32
    leaves_few = let few = recordable.few_leaves in omega
        (arith, few, ap length recorded, length-map (all_leaves p) leaf_seen)

    -- all of it
    pub in_form : HasLeaves p → AreInForm p
    in_form has = record {
      numbers = leaves_numbered;
      devices = has.apart;
      within = recursion_from_All (IsWithin p.highest) (all_leaves p) has.within;
      few = omega (arith, leaves_few);
      high = recordable.number.1;
    }

-- what holds of the leaves of trees holds of those of pools with them
pub on_leaves : (R : List LeafVdev → List LeafVdev → Type 0) (old new : List Top) (p q : PoolParts) → p.tops ≡ all_parts old
    → q.tops ≡ all_parts new → R (leaves_of old) (leaves_of new) → R (all_leaves p) (all_leaves q)
on_leaves R old new p q parts parts' holds =
    subst (λ ls. R ls (all_leaves q)) (sym (leaves_are old p parts)) (subst (R (leaves_of old)) (sym (leaves_are new q parts')) holds)

-- logs and what is settled there are up to the highest number
pub leaves_below : (p : PoolParts) → HasLeaves p → AllByRecursion (IsBelow p.highest) (all_leaves p)
leaves_below p has = recursion_from_All (IsBelow p.highest) (all_leaves p) (λ k d lt. record {
  log = λ g there. (has.within k d lt g there).1;
  settled = λ g there. at_most g p.highest (λ above. true≢false (sym there ∙ has.settled k d lt g above));
})
  where
    at_most : (g n : ℕ) → (n < g → ⊥) → g ≤ n
    at_most g n not_above = grind (arith)
