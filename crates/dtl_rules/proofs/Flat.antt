-- The leaves that are left in a tree whose only inner vdev is its root.
use Rattle.std.proofs.Common.{◌≡◌, ℕ, Bool, true, false, cond, ◌&&◌, ◌==◌, not, List, [], ◌∷◌, ◌++◌, refl, ap, sym, ◌∙◌}
use Rattle.std.specs.List.{filter, flat_map, list_all}
use Rattle.std.proofs.lemmas.Bool.{false≢true}
use Rattle.std.proofs.lemmas.List.Elements.{filter-append}
use Rattle.std.proofs.lemmas.List.Folds.{list_all-append}
use Rattle.mp_base.specs.declared.number.Guid.{Guid}
use Rattle.vdev_tree.specs.declared.vdev.Vdev.{Vdev}
use Rattle.vdev_tree.specs.declared.vdev.InnerVdev.{InnerVdev}
use Rattle.vdev_tree.specs.declared.vdev.LeafVdev.{LeafVdev}
use Rattle.vdev_tree.specs.declared.vdev.Vdev.TheVariants.{Leaf, Inner}
use Rattle.vdev_tree.specs.declared.vdev.Vdev.TheOpen as F
use Rattle.vdev_tree.specs.declared.vdev.Vdev.TheOpen.{Vdev-F}
use Rattle.vdev_tree.specs.declared.vdev.Vdev.TheViews.{out-Vdev, roll-Vdev, roll-out-Vdev, rolls-Leaf, rolls-Inner}
use Rattle.vdev_tree.specs.Tree.{leaves, Mark, marks, leaf_mark, opening, closing, pair_marks}
use Rattle.vdev_tree.proofs.Folds.{leaves_leaf, leaves_inner, marks_at_leaf, marks_inner}
use Rattle.dtl_rules.specs.Rules.{others}
use Rattle.dtl_rules.proofs.Passing.{others_leaf, others_inner}

-- a mark that begins no inner vdev
abbrev is_flat : Mark → Bool
is_flat leaf_mark = true
is_flat (opening guid kind) = false
is_flat closing = true

abbrev stays : ℕ → LeafVdev → Bool
stays at leaf = not (leaf.guid.0 == at)

and_left : (a b : Bool) → (a && b) ≡ true → a ≡ true
and_left true b h = refl
and_left false b h = h

and_right : (a b : Bool) → (a && b) ≡ true → b ≡ true
and_right true b h = h
and_right false b h = absurd (false≢true h)

one_left : (gone : Bool) (leaf : LeafVdev) → cond gone [] (leaf ∷ []) ≡ cond (not gone) (leaf ∷ []) []
one_left true leaf = refl
one_left false leaf = refl

made_left : (at : ℕ) (vdev : Vdev) (made : Vdev-F Vdev InnerVdev) → vdev ≡ roll-Vdev made → list_all is_flat (marks vdev) ≡ true
    → others at vdev ≡ filter (stays at) (leaves vdev)
made_left at vdev (F.Leaf leaf) is flat =
    let leaf_is : vdev ≡ Leaf leaf = is ∙ rolls-Leaf leaf in
    ap (others at) leaf_is ∙ others_leaf at leaf ∙ one_left (leaf.guid.0 == at) leaf ∙ sym (ap (filter (stays at)) (ap leaves leaf_is ∙ leaves_leaf leaf))
made_left at vdev (F.Inner inner) is flat = absurd (false≢true (sym (ap (list_all is_flat) (ap marks (is ∙ rolls-Inner inner) ∙ marks_inner inner)) ∙ flat))

children_left : (at : ℕ) (vdevs : List Vdev) → list_all is_flat (flat_map marks vdevs) ≡ true → flat_map (others at) vdevs ≡ filter (stays at) (flat_map leaves vdevs)
children_left at [] flat = refl
children_left at (v ∷ vdevs) flat =
    let both : (list_all is_flat (marks v) && list_all is_flat (flat_map marks vdevs)) ≡ true = sym (list_all-append is_flat (marks v) (flat_map marks vdevs)) ∙ flat in
    ap (λ ls. ls ++ flat_map (others at) vdevs) (made_left at v (out-Vdev v) (sym (roll-out-Vdev v)) (and_left (list_all is_flat (marks v)) (list_all is_flat (flat_map marks vdevs)) both))
    ∙ ap (λ ls. filter (stays at) (leaves v) ++ ls) (children_left at vdevs (and_right (list_all is_flat (marks v)) (list_all is_flat (flat_map marks vdevs)) both))
    ∙ sym (filter-append (stays at) (leaves v) (flat_map leaves vdevs))

pair_made_left : (at : ℕ) (vdev : Vdev) (made : Vdev-F Vdev InnerVdev) (mirror : Guid) → vdev ≡ roll-Vdev made → marks vdev ≡ pair_marks mirror → (mirror.0 == at) ≡ false
    → others at vdev ≡ filter (stays at) (leaves vdev)
pair_made_left at vdev (F.Leaf leaf) mirror is built other =
    let e : leaf_mark ∷ [] ≡ pair_marks mirror = sym (ap marks (is ∙ rolls-Leaf leaf) ∙ marks_at_leaf leaf) ∙ built in cc
pair_made_left at vdev (F.Inner inner) mirror is built other =
    let inner_is : vdev ≡ Inner inner = is ∙ rolls-Inner inner in
    let under = flat_map marks inner.children.items in
    let e : opening inner.guid inner.kind ∷ (under ++ closing ∷ []) ≡ pair_marks mirror = sym (ap marks inner_is ∙ marks_inner inner) ∙ built in
    let same : inner.guid ≡ mirror = cc in
    let two : under ++ closing ∷ [] ≡ leaf_mark ∷ leaf_mark ∷ closing ∷ [] = cc in
    let flat : list_all is_flat under ≡ true =
    and_left (list_all is_flat under) (list_all is_flat (closing ∷ [])) (sym (list_all-append is_flat under (closing ∷ [])) ∙ ap (list_all is_flat) two) in
    ap (others at) inner_is ∙ others_inner at inner
    ∙ ap (λ b. cond b [] (flat_map (others at) inner.children.items)) (ap (λ (guid : Guid). guid.0 == at) same ∙ other)
    ∙ children_left at inner.children.items flat
    ∙ sym (ap (filter (stays at)) (ap leaves inner_is ∙ leaves_inner inner))

-- a mirror of leaves without the leaf of this number, which isn't the mirror's
pub pair_left : (at : ℕ) (vdev : Vdev) (mirror : Guid) → marks vdev ≡ pair_marks mirror → (mirror.0 == at) ≡ false
    → others at vdev ≡ filter (λ leaf. not (leaf.guid.0 == at)) (leaves vdev)
pair_left at vdev mirror built other = pair_made_left at vdev (out-Vdev vdev) mirror (sym (roll-out-Vdev vdev)) built other
