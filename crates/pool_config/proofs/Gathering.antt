-- What is gathered of vdevs, one part behind the other.
use Rattle.std.proofs.Common.{◌≡◌, ℕ, List, [], ◌∷◌, ◌++◌, map, length, refl, ap, sym, ◌∙◌, append_assoc}
use Rattle.std.proofs.lemmas.List.{append-nil, map-append}
use Rattle.mp_base.specs.declared.number.Guid.{Guid}
use Rattle.vdev_tree.specs.declared.vdev.Kind.{Kind}
use Rattle.pool_config.specs.Members.{Gathered, gathered, with_leaf, with_inner}
use Rattle.pool_config.specs.Seen.{LeafSeen, VdevSeen, leaf_vdev, inner_vdev, leaves_among, number_of_vdev, leaf_name}
use Rattle.pool_config.specs.Validity.{log_length}
use Rattle.pool_config.proofs.Bounds.{leaves-append}

abbrev gathered_with : List ℕ → List (List ℕ) → List ℕ → Gathered
gathered_with numbers names lengths = record { numbers = numbers; names = names; lengths = lengths }

same_gathered : (a a' : List ℕ) (b b' : List (List ℕ)) (c c' : List ℕ) → a ≡ a' → b ≡ b' → c ≡ c'
    → gathered_with a b c ≡ gathered_with a' b' c'
same_gathered a a' b b' c c' e f g = cc

pub gathered_none : (m : Gathered) → m ≡ gathered m []
unfolding leaves_among
gathered_none m =
    same_gathered _ _ _ _ _ _ (sym (append-nil m.numbers)) (sym (append-nil m.names)) (sym (append-nil m.lengths))

pub gathered_leaf : (m : Gathered) (leaf : LeafSeen)
    → with_leaf m leaf.guid.0 leaf.name (length leaf.log) ≡ gathered m (leaf_vdev leaf ∷ [])
unfolding leaves_among
gathered_leaf m leaf = refl

pub gathered_inner : (m : Gathered) (guid : Guid) (kind : Kind) (count : ℕ) (vdevs : List VdevSeen)
    → gathered (with_inner m guid.0) vdevs ≡ gathered m (inner_vdev guid kind count ∷ vdevs)
unfolding leaves_among
gathered_inner m guid kind count vdevs =
    same_gathered _ _ _ _ _ _ (append_assoc m.numbers (guid.0 ∷ []) (map number_of_vdev vdevs)) refl refl

mapped_more : {B C : Type 0} (g : B → C) (start : List C) (xs ys zs : List B) → zs ≡ xs ++ ys
    → (start ++ map g xs) ++ map g ys ≡ start ++ map g zs
mapped_more g start xs ys zs is =
    append_assoc start (map g xs) (map g ys) ∙ ap (λ s. start ++ s) (sym (map-append g xs ys))
    ∙ ap (λ s. start ++ map g s) (sym is)

pub gathered_more : (m : Gathered) (xs ys : List VdevSeen) → gathered (gathered m xs) ys ≡ gathered m (xs ++ ys)
gathered_more m xs ys =
    let leaves = leaves-append xs ys in
    same_gathered _ _ _ _ _ _
    (mapped_more number_of_vdev m.numbers xs ys (xs ++ ys) refl)
    (mapped_more leaf_name m.names (leaves_among xs) (leaves_among ys) (leaves_among (xs ++ ys)) leaves)
    (mapped_more log_length m.lengths (leaves_among xs) (leaves_among ys) (leaves_among (xs ++ ys)) leaves)
