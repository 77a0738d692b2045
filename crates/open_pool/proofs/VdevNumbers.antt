-- Trees that are built alike over leaves of the same numbers have the same numbers of all their vdevs.
use Rattle.std.proofs.Common.{◌≡◌, ℕ, List, [], ◌∷◌, ◌++◌, map, refl, sym, ap, ◌∙◌, subst, append_assoc}
use Rattle.std.specs.List.{flat_map}
use Rattle.std.proofs.lemmas.List.{map-append}
use Rattle.mp_base.specs.declared.number.Guid.{Guid}
use Rattle.vdev_tree.specs.Tree.{leaves, marks, Mark, leaf_mark, opening, closing}
use Rattle.vdev_tree.specs.declared.top.Top.{Top}
use Rattle.vdev_tree.specs.declared.vdev.InnerVdev.{InnerVdev}
use Rattle.vdev_tree.specs.declared.vdev.LeafVdev.{LeafVdev}
use Rattle.vdev_tree.specs.declared.vdev.Vdev.{Vdev}
use Rattle.vdev_tree.specs.declared.vdev.Vdev.TheVariants.{Leaf, Inner}
use Rattle.vdev_tree.proofs.Folds.{leaves_leaf, leaves_inner, marks_at_leaf, marks_inner}
use Rattle.dtl_rules.specs.Widening.{leaves_of, marks_of}
use Rattle.pool_config.specs.Seen.{vdevs_of, mirror_vdevs, number_of_vdev}
use Rattle.pool_config.proofs.Induction.{Held, vdevs_held, of_every_vdev}
use Rattle.pool_config.proofs.Rooms.{vdevs_leaf, vdevs_inner}
use Rattle.open_pool.proofs.TreesStay.{AreNumberedAlike, leaf_guids, same_guids}

-- the numbers that marks and the numbers of leaves tell
abbrev read : List Mark → List Guid → List ℕ
read [] ms = []
read (leaf_mark ∷ marks) [] = []
read (leaf_mark ∷ marks) (m ∷ ms) = m.0 ∷ read marks ms
read (opening guid kind ∷ marks) ms = guid.0 ∷ read marks ms
read (closing ∷ marks) ms = read marks ms

abbrev IsRead : Vdev → Type 0
IsRead v = (ms : List Mark) (gs : List Guid)
    → read (marks v ++ ms) (leaf_guids (leaves v) ++ gs) ≡ map number_of_vdev (vdevs_of v) ++ read ms gs

leaf_read : (leaf : LeafVdev) → IsRead (Leaf leaf)
leaf_read leaf ms gs =
    ap (λ l. read (l ++ ms) (leaf_guids (leaves (Leaf leaf)) ++ gs)) (marks_at_leaf leaf)
    ∙ ap (λ ls. read (leaf_mark ∷ ms) (leaf_guids ls ++ gs)) (leaves_leaf leaf)
    ∙ ap (λ vs. map number_of_vdev vs ++ read ms gs) (sym (vdevs_leaf leaf))

abbrev AreRead : List Vdev → Type 0
AreRead vs = (ms : List Mark) (gs : List Guid)
    → read (flat_map marks vs ++ ms) (leaf_guids (flat_map leaves vs) ++ gs)
    ≡ map number_of_vdev (flat_map vdevs_of vs) ++ read ms gs

next_read : (v : Vdev) (vs : List Vdev) → IsRead v → AreRead vs → AreRead (v ∷ vs)
next_read v vs one more ms gs =
    ap (λ l. read l (leaf_guids (leaves v ++ flat_map leaves vs) ++ gs)) (append_assoc (marks v) (flat_map marks vs) ms)
    ∙ ap (λ l. read (marks v ++ (flat_map marks vs ++ ms)) (l ++ gs))
    (map-append (λ (leaf : LeafVdev). leaf.guid) (leaves v) (flat_map leaves vs))
    ∙ ap (read (marks v ++ (flat_map marks vs ++ ms)))
    (append_assoc (leaf_guids (leaves v)) (leaf_guids (flat_map leaves vs)) gs)
    ∙ one (flat_map marks vs ++ ms) (leaf_guids (flat_map leaves vs) ++ gs)
    ∙ ap (λ ns. map number_of_vdev (vdevs_of v) ++ ns) (more ms gs)
    ∙ sym (append_assoc (map number_of_vdev (vdevs_of v)) (map number_of_vdev (flat_map vdevs_of vs)) (read ms gs))
    ∙ ap (λ ns. ns ++ read ms gs) (sym (map-append number_of_vdev (vdevs_of v) (flat_map vdevs_of vs)))

held_read : (held : List (Held IsRead)) → AreRead (vdevs_held IsRead held)
held_read [] ms gs = refl
held_read (e ∷ held) ms gs = next_read e.0 (vdevs_held IsRead held) e.1 (held_read held) ms gs

inner_read : (inner : InnerVdev) (held : List (Held IsRead)) → vdevs_held IsRead held ≡ inner.children.items
    → IsRead (Inner inner)
inner_read inner held is ms gs =
    let vs = inner.children.items in
    let all : AreRead vs = subst AreRead is (held_read held) in
    ap (λ l. read (l ++ ms) (leaf_guids (leaves (Inner inner)) ++ gs)) (marks_inner inner)
    ∙ ap (λ l. inner.guid.0 ∷ read l (leaf_guids (leaves (Inner inner)) ++ gs))
    (append_assoc (flat_map marks vs) (closing ∷ []) ms)
    ∙ ap (λ ls. inner.guid.0 ∷ read (flat_map marks vs ++ (closing ∷ ms)) (leaf_guids ls ++ gs)) (leaves_inner inner)
    ∙ ap (λ ns. inner.guid.0 ∷ ns) (all (closing ∷ ms) gs)
    ∙ ap (λ l. map number_of_vdev l ++ read ms gs) (sym (vdevs_inner inner))

every_read : (v : Vdev) → IsRead v
every_read = of_every_vdev IsRead leaf_read inner_read

-- so of the trees of tops
tops_read : (tops : List Top)
    → read (flat_map (λ ms. ms) (marks_of tops)) (leaf_guids (leaves_of tops)) ≡ map number_of_vdev (flat_map mirror_vdevs tops)
tops_read [] = refl
tops_read (top ∷ tops) =
    ap (read (marks top.mirror ++ flat_map (λ ms. ms) (marks_of tops)))
    (map-append (λ (leaf : LeafVdev). leaf.guid) (leaves top.mirror) (leaves_of tops))
    ∙ every_read top.mirror (flat_map (λ ms. ms) (marks_of tops)) (leaf_guids (leaves_of tops))
    ∙ ap (λ ns. map number_of_vdev (mirror_vdevs top) ++ ns) (tops_read tops)
    ∙ sym (map-append number_of_vdev (mirror_vdevs top) (flat_map mirror_vdevs tops))

pub same_vdev_numbers : (old new : List Top) → marks_of new ≡ marks_of old → AreNumberedAlike (leaves_of old) (leaves_of new)
    → map number_of_vdev (flat_map mirror_vdevs new) ≡ map number_of_vdev (flat_map mirror_vdevs old)
same_vdev_numbers old new built same =
    sym (tops_read new) ∙ ap (λ ms. read (flat_map (λ l. l) ms) (leaf_guids (leaves_of new))) built
    ∙ ap (read (flat_map (λ l. l) (marks_of old))) (same_guids (leaves_of old) (leaves_of new) same) ∙ tops_read old
