-- A mirror over leaves alone.
use Rattle.std.proofs.Common.{◌≡◌, List, [], ◌∷◌, map, refl, ap, ◌∙◌}
use mathlib.Core.List.{map-map}
use Rattle.vdev_tree.specs.declared.vdev.InnerVdev.{InnerVdev}
use Rattle.vdev_tree.specs.declared.vdev.Kind.TheVariants.{Mirror}
use Rattle.vdev_tree.specs.declared.vdev.LeafVdev.{LeafVdev}
use Rattle.vdev_tree.specs.declared.vdev.Vdev.TheVariants.{Leaf, Inner}
use Rattle.vdev_tree.specs.Children as tree
use Rattle.vdev_tree.specs.Children.{the_mirror, part_of, part_over, alone, only}
use Rattle.vdev_tree.proofs.Folds.{guid_inner, part_leaf, part_inner}
use Rattle.pool_config.specs.Seen.{vdevs_of}
use Rattle.txg_history.specs.Trees.{Single, Plain}
use Rattle.pool_codec.specs.Numbered.{by_numbers}
use Rattle.pool_codec.specs.Vdevs.{nodes, mirror_number, mirror_children}
use Rattle.pool_codec.proofs.TreesTold.{children_are_told, mirror_is_told}

parts_of_leaves : (leaves : List LeafVdev) → tree.children_in (map part_of (map Leaf leaves)) ≡ map (λ leaf. alone (only leaf)) leaves
parts_of_leaves [] = refl
parts_of_leaves (leaf ∷ leaves) =
    ap (λ p. tree.children_in (p ∷ map part_of (map Leaf leaves))) (part_leaf leaf)
    ∙ ap (λ cs. alone (only leaf) ∷ cs) (parts_of_leaves leaves)

module _ (mirror : InnerVdev) (leaves : List LeafVdev) (kind : mirror.kind ≡ Mirror) (items : mirror.children.items ≡ map Leaf leaves) where
  part_is : part_of (Inner mirror) ≡ the_mirror (map (λ leaf. alone (only leaf)) leaves)
  part_is = part_inner mirror ∙ ap (λ k. part_over k mirror.guid (map part_of mirror.children.items)) kind
      ∙ ap (λ vs. the_mirror (tree.children_in (map part_of vs))) items ∙ ap the_mirror (parts_of_leaves leaves)

  pub number_is : mirror_number (nodes (vdevs_of (Inner mirror))) ≡ mirror.guid
  number_is = mirror_is_told (Inner mirror) (map (λ leaf. alone (only leaf)) leaves) part_is ∙ guid_inner mirror

  pub children_are : mirror_children (nodes (vdevs_of (Inner mirror))) ≡ map (λ leaf. Plain (Single leaf.guid)) leaves
  unfolding tree.children_of
  children_are = children_are_told (Inner mirror) ∙ ap (λ p. map by_numbers (tree.children_at p)) part_is
      ∙ map-map by_numbers (λ leaf. alone (only leaf)) leaves
