-- The trees that vdevs in tree order make up are those that they were written out of.
use Rattle.std.proofs.Common.{◌≡◌, ℕ, true, List, [], ◌∷◌, ◌++◌, map, length, drop, refl, ap, sym, ◌∙◌, subst, append_assoc}
use mathlib.Core.List.{map-map}
use Rattle.std.specs.List.{flat_map}
use Rattle.std.proofs.lemmas.List.{append-nil, length-map, take_at, drop_at}
use Rattle.mp_base.specs.declared.number.Guid.{Guid}
use Rattle.vdev_tree.specs.declared.vdev.Kind.{Kind}
use Rattle.vdev_tree.specs.declared.vdev.Kind.TheVariants as kinds
use Rattle.vdev_tree.specs.declared.vdev.LeafVdev.{LeafVdev}
use Rattle.vdev_tree.specs.declared.vdev.InnerVdev.{InnerVdev}
use Rattle.vdev_tree.specs.declared.vdev.Vdev.{Vdev}
use Rattle.vdev_tree.specs.declared.vdev.Vdev.TheVariants.{Leaf, Inner}
use Rattle.vdev_tree.specs.Children as tree
use Rattle.vdev_tree.specs.Children.{Part, a_child, the_mirror, no_part, part_of, part_over, alone, only}
use Rattle.vdev_tree.specs.Tree.{guid_of, is_top}
use Rattle.vdev_tree.proofs.Folds.{guid_inner, part_leaf, part_inner}
use Rattle.vdev_tree.proofs.Shapes.{top_is}
use Rattle.pool_config.specs.Seen.{VdevSeen, vdevs_of}
use Rattle.pool_config.proofs.Induction.{Held, vdevs_held, of_every_vdev}
use Rattle.pool_config.proofs.Rooms.{vdevs_leaf, vdevs_inner}
use Rattle.pool_codec.specs.Numbered.{by_numbers}
use Rattle.pool_codec.specs.Vdevs as seen
use Rattle.pool_codec.specs.Vdevs.{Node, over, nodes, mirror_number, mirror_children}

-- a vdev of a tree, as it is told
abbrev told_as : Guid → Part → Node
told_as m (a_child child) = seen.a_child (by_numbers child)
told_as m (the_mirror children) = seen.a_mirror m (map by_numbers children)
told_as m no_part = seen.no_node

abbrev node_of : Vdev → Node
node_of v = told_as (guid_of v) (part_of v)

-- ---- what an inner vdev is over its children

one_more : (m : Guid) (part : Part) (told : List Node) (parts : List Part)
    → seen.children_in told ≡ map by_numbers (tree.children_in parts)
    → seen.children_in (told_as m part ∷ told) ≡ map by_numbers (tree.children_in (part ∷ parts))
one_more m (a_child child) told parts same = ap (λ cs. by_numbers child ∷ cs) same
one_more m (the_mirror children) told parts same = same
one_more m no_part told parts same = same

children_told : (vdevs : List Vdev)
    → seen.children_in (map node_of vdevs) ≡ map by_numbers (tree.children_in (map part_of vdevs))
children_told [] = refl
children_told (v ∷ vdevs) =
    one_more (guid_of v) (part_of v) (map node_of vdevs) (map part_of vdevs) (children_told vdevs)

abbrev Numbered : Type 0
Numbered = Guid × Part

abbrev part_in : Numbered → Part
part_in e = e.1

abbrev told_in : Numbered → Node
told_in e = told_as e.0 e.1

abbrev numbered : Vdev → Numbered
numbered v = (guid_of v, part_of v)

replacing_told : (m : Guid) (below : List Numbered)
    → seen.replacing_over m (map told_in below) ≡ told_as m (tree.replacing_part m (map part_in below))
replacing_told m ((g, a_child (alone (only old))) ∷ ((h, a_child (alone (only new))) ∷ [])) = refl
replacing_told m _ = refl

spare_told : (m : Guid) (below : List Numbered)
    → seen.spare_over m (map told_in below) ≡ told_as m (tree.spare_part m (map part_in below))
spare_told m ((g, a_child (alone first)) ∷ ((h, a_child (alone (only spare))) ∷ [])) = refl
spare_told m ((g, a_child (alone first)) ∷ ((h, a_child (alone (only spare))) ∷ ((k, a_child (alone (only second))) ∷ []))) = refl
spare_told m _ = refl

over_told : (m : Guid) (kind : Kind) (vdevs : List Vdev)
    → over m kind (map node_of vdevs) ≡ told_as m (part_over kind m (map part_of vdevs))
over_told m kinds.Mirror vdevs = ap (seen.a_mirror m) (children_told vdevs)
over_told m kinds.Replacing vdevs =
    ap (seen.replacing_over m) (sym (map-map told_in numbered vdevs)) ∙ replacing_told m (map numbered vdevs)
    ∙ ap (λ ps. told_as m (tree.replacing_part m ps)) (map-map part_in numbered vdevs)
over_told m kinds.Spare vdevs =
    ap (seen.spare_over m) (sym (map-map told_in numbered vdevs)) ∙ spare_told m (map numbered vdevs)
    ∙ ap (λ ps. told_as m (tree.spare_part m ps)) (map-map part_in numbered vdevs)

-- ---- by induction on the tree

-- a vdev that is written out before others makes up this node before theirs
abbrev IsTold : Vdev → Type 0
IsTold v = (rest : List VdevSeen) → nodes (vdevs_of v ++ rest) ≡ node_of v ∷ nodes rest

told_leaf : (leaf : LeafVdev) → IsTold (Leaf leaf)
unfolding nodes
told_leaf leaf rest =
    ap (λ vs. nodes (vs ++ rest)) (vdevs_leaf leaf)
    ∙ ap (λ p. told_as (guid_of (Leaf leaf)) p ∷ nodes rest) (sym (part_leaf leaf))

told_all : (held : List (Held IsTold)) (rest : List VdevSeen)
    → nodes (flat_map vdevs_of (vdevs_held IsTold held) ++ rest) ≡ map node_of (vdevs_held IsTold held) ++ nodes rest
told_all [] rest = refl
told_all (e ∷ held) rest =
    let below = flat_map vdevs_of (vdevs_held IsTold held) in
    ap nodes (append_assoc (vdevs_of e.0) below rest) ∙ e.1 (below ++ rest)
    ∙ ap (λ ns. node_of e.0 ∷ ns) (told_all held rest)

takes_its_children : (m : Guid) (kind : Kind) (below behind : List Node) (count : ℕ) → length below ≡ count
    → seen.node_over m kind count (below ++ behind) ≡ over m kind below ∷ behind
takes_its_children m kind below behind count long =
    ap (λ ns. over m kind ns ∷ drop count (below ++ behind)) (take_at below behind count long)
    ∙ ap (λ ns. over m kind below ∷ ns) (drop_at below behind count long)

node_is : (inner : InnerVdev)
    → told_as inner.guid (part_over inner.kind inner.guid (map part_of inner.children.items)) ≡ node_of (Inner inner)
node_is inner =
    ap (told_as inner.guid) (sym (part_inner inner))
    ∙ ap (λ m. told_as m (part_of (Inner inner))) (sym (guid_inner inner))

told_inner : (inner : InnerVdev) (held : List (Held IsTold)) → vdevs_held IsTold held ≡ inner.children.items
    → IsTold (Inner inner)
unfolding nodes
told_inner inner held is rest =
    let items = inner.children.items in
    let below : nodes (flat_map vdevs_of items ++ rest) ≡ map node_of items ++ nodes rest =
    subst (λ vs. nodes (flat_map vdevs_of vs ++ rest) ≡ map node_of vs ++ nodes rest) is (told_all held rest) in
    ap (λ vs. nodes (vs ++ rest)) (vdevs_inner inner)
    ∙ ap (seen.node_over inner.guid inner.kind (length items)) below
    ∙ takes_its_children inner.guid inner.kind (map node_of items) (nodes rest) (length items) (length-map items node_of)
    ∙ ap (λ n. n ∷ nodes rest) (over_told inner.guid inner.kind items ∙ node_is inner)

told : (v : Vdev) → IsTold v
told = of_every_vdev IsTold told_leaf told_inner

tree_told : (v : Vdev) → nodes (vdevs_of v) ≡ node_of v ∷ []
unfolding nodes
tree_told v = ap nodes (sym (append-nil (vdevs_of v))) ∙ told v []

-- ---- the mirror of a top

children_at_node : (m : Guid) (part : Part) → mirror_children (told_as m part ∷ []) ≡ map by_numbers (tree.children_at part)
children_at_node m (a_child child) = refl
children_at_node m (the_mirror children) = refl
children_at_node m no_part = refl

pub children_are_told : (v : Vdev) → mirror_children (nodes (vdevs_of v)) ≡ map by_numbers (tree.children_of v)
unfolding tree.children_of
children_are_told v = ap mirror_children (tree_told v) ∙ children_at_node (guid_of v) (part_of v)

pub mirror_is_told : (v : Vdev) (children : List tree.Child) → part_of v ≡ the_mirror children
    → mirror_number (nodes (vdevs_of v)) ≡ guid_of v
mirror_is_told v children is =
    ap mirror_number (tree_told v) ∙ ap (λ p. mirror_number (told_as (guid_of v) p ∷ [])) is

pub number_is_told : (v : Vdev) → is_top v ≡ true → mirror_number (nodes (vdevs_of v)) ≡ guid_of v
number_is_told v top =
    let mirror = top_is v top in
    let items = mirror.inner.children.items in
    mirror_is_told v (tree.children_in (map part_of items))
    (ap part_of mirror.is ∙ part_inner mirror.inner ∙ ap (λ kind. part_over kind mirror.inner.guid (map part_of items)) mirror.kind_is)
