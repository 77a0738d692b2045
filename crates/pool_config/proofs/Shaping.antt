-- The forms of a tree that is written out are those of the tree.
use Rattle.std.proofs.Common.{◌≡◌, ℕ, cond, List, [], ◌∷◌, ◌++◌, map, length, take, drop, refl, ap, sym, ◌∙◌, arith}
use Rattle.std.proofs.Common.{append_assoc, length-append, subst}
use Rattle.std.specs.List.{flat_map}
use Rattle.std.proofs.lemmas.Bool.{le-leb}
use Rattle.std.proofs.lemmas.List.{take_at, drop_at, length-map}
use Rattle.vdev_tree.specs.declared.vdev.Vdev.{Vdev}
use Rattle.vdev_tree.specs.declared.vdev.InnerVdev.{InnerVdev}
use Rattle.vdev_tree.specs.declared.vdev.LeafVdev.{LeafVdev}
use Rattle.vdev_tree.specs.declared.vdev.Vdev.TheVariants.{Leaf, Inner}
use Rattle.vdev_tree.specs.Tree.{Form, no_form, form_of, form_over, is_top, is_mirror}
use Rattle.vdev_tree.proofs.Folds.{form_leaf, form_inner}
use Rattle.pool_config.specs.Seen.{VdevSeen, vdevs_of}
use Rattle.pool_config.specs.Trees.{over_first, forms, is_one_mirror, is_tree}
use Rattle.pool_config.proofs.Induction.{Held, of_every_vdev}
use Rattle.pool_config.proofs.Rooms.{vdevs_leaf, vdevs_inner}
use Rattle.std.proofs.lemmas.List.{append-nil}

-- the first tree of what begins with this one has its form
abbrev pub IsShaped : Vdev → Type 0
IsShaped v = (rest : List VdevSeen) → forms (vdevs_of v ++ rest) ≡ form_of v ∷ forms rest

pub shaped_leaf : (leaf : LeafVdev) → IsShaped (Leaf leaf)
unfolding forms
shaped_leaf leaf rest =
    ap (λ vs. forms (vs ++ rest)) (vdevs_leaf leaf) ∙ ap (λ f. f ∷ forms rest) (sym (form_leaf leaf))

over_exact : (over : List Form → Form) (xs fs : List Form) (n : ℕ) → n ≡ length xs
    → over_first n over (xs ++ fs) ≡ over xs ∷ fs
over_exact over xs fs n long =
    ap (λ b. cond b (over (take n (xs ++ fs)) ∷ drop n (xs ++ fs)) (no_form ∷ []))
    (le-leb n (length (xs ++ fs)) (omega (arith, long, length-append xs fs)))
    ∙ ap (λ ys. over ys ∷ drop n (xs ++ fs)) (take_at xs fs n (sym long))
    ∙ ap (λ ys. over xs ∷ ys) (drop_at xs fs n (sym long))

shaped_all : (es : List (Held IsShaped)) (rest : List VdevSeen)
    → forms (flat_map vdevs_of (map (λ e. e.0) es) ++ rest) ≡ map form_of (map (λ e. e.0) es) ++ forms rest
shaped_all [] rest = refl
shaped_all (e ∷ es) rest =
    ap forms (append_assoc (vdevs_of e.0) (flat_map vdevs_of (map (λ e. e.0) es)) rest)
    ∙ e.1 (flat_map vdevs_of (map (λ e. e.0) es) ++ rest) ∙ ap (λ fs. form_of e.0 ∷ fs) (shaped_all es rest)

inner_shaped : (inner : InnerVdev) → ((rest : List VdevSeen)
    → forms (flat_map vdevs_of inner.children.items ++ rest) ≡ map form_of inner.children.items ++ forms rest)
    → IsShaped (Inner inner)
unfolding forms
inner_shaped inner all rest =
    let children = inner.children.items in
    ap (λ vs. forms (vs ++ rest)) (vdevs_inner inner)
    ∙ ap (over_first (length children) (form_over inner.kind)) (all rest)
    ∙ over_exact (form_over inner.kind) (map form_of children) (forms rest) (length children)
    (sym (length-map children form_of))
    ∙ ap (λ f. f ∷ forms rest) (sym (form_inner inner))

children_shaped : (inner : InnerVdev) (es : List (Held IsShaped)) → map (λ e. e.0) es ≡ inner.children.items
    → IsShaped (Inner inner)
children_shaped inner es is =
    inner_shaped inner (λ rest. subst (λ vs. forms (flat_map vdevs_of vs ++ rest)
    ≡ map form_of vs ++ forms rest) is (shaped_all es rest))

pub shaped : (v : Vdev) → IsShaped v
shaped = of_every_vdev IsShaped shaped_leaf children_shaped

one_mirror : (form : Form) → is_one_mirror (form ∷ []) ≡ is_mirror form
one_mirror form = refl

-- a tree that is written out is a top's just where the tree is
pub tree_is_top : (v : Vdev) → is_tree (vdevs_of v) ≡ is_top v
unfolding is_tree is_top forms
tree_is_top v = ap (λ vs. is_one_mirror (forms vs)) (sym (append-nil (vdevs_of v))) ∙ ap is_one_mirror (shaped v [])
