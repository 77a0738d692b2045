-- What is written of a tree tells how it is built and what its leaves are in a record, and is told by them.
use Rattle.std.proofs.Common.{◌≡◌, ℕ, zero, suc, ◌+◌, List, [], ◌∷◌, ◌++◌, map, length, take, drop, refl, ap, sym, ◌∙◌}
use Rattle.std.proofs.Common.{arith, append_assoc, subst}
use Rattle.std.specs.List.{flat_map}
use Rattle.std.proofs.lemmas.List.{append-nil, map-append, take_at, drop_at, length-map}
use Rattle.mp_base.specs.declared.number.Guid.{Guid}
use Rattle.vdev_tree.specs.declared.vdev.Kind.{Kind}
use Rattle.vdev_tree.specs.declared.vdev.Vdev.{Vdev}
use Rattle.vdev_tree.specs.declared.vdev.InnerVdev.{InnerVdev}
use Rattle.vdev_tree.specs.declared.vdev.LeafVdev.{LeafVdev}
use Rattle.vdev_tree.specs.declared.vdev.Vdev.TheVariants.{Leaf, Inner}
use Rattle.vdev_tree.specs.Tree.{joined, leaves, Mark, leaf_mark, opening, closing, marks}
use Rattle.vdev_tree.proofs.Folds.{leaves_leaf, leaves_inner, marks_at_leaf, marks_inner}
use Rattle.pool_config.specs.Seen.{LeafSeen, VdevSeen, leaf_vdev, inner_vdev, leaf_seen, leaves_among, vdevs_of}
use Rattle.pool_config.proofs.Bounds.{leaves-append}
use Rattle.pool_config.proofs.Induction.{Held, vdevs_held, of_every_vdev}
use Rattle.pool_config.proofs.Lists.{joined_map}
use Rattle.pool_config.proofs.Rooms.{vdevs_leaf, vdevs_inner}

-- How a tree is built, by what is written of it.

abbrev inner_marks : Guid → Kind → List Mark → List Mark
inner_marks guid kind ms = opening guid kind ∷ (ms ++ closing ∷ [])

abbrev over_marks : Guid → Kind → ℕ → List (List Mark) → List (List Mark)
over_marks guid kind count trees = inner_marks guid kind (joined (take count trees)) ∷ drop count trees

unfoldable marks_in : List VdevSeen → List (List Mark)
marks_in [] = []
marks_in (leaf_vdev leaf ∷ vdevs) = (leaf_mark ∷ []) ∷ marks_in vdevs
marks_in (inner_vdev guid kind count ∷ vdevs) = over_marks guid kind count (marks_in vdevs)

abbrev IsMarked : Vdev → Type 0
IsMarked v = (rest : List VdevSeen) → marks_in (vdevs_of v ++ rest) ≡ marks v ∷ marks_in rest

marked_leaf : (leaf : LeafVdev) → IsMarked (Leaf leaf)
unfolding marks_in
marked_leaf leaf rest =
    ap (λ vs. marks_in (vs ++ rest)) (vdevs_leaf leaf) ∙ ap (λ m. m ∷ marks_in rest) (sym (marks_at_leaf leaf))

marked_all : (held : List (Held IsMarked)) (rest : List VdevSeen)
    → marks_in (flat_map vdevs_of (vdevs_held IsMarked held) ++ rest)
    ≡ map marks (vdevs_held IsMarked held) ++ marks_in rest
marked_all [] rest = refl
marked_all (e ∷ held) rest =
    ap marks_in (append_assoc (vdevs_of e.0) (flat_map vdevs_of (vdevs_held IsMarked held)) rest)
    ∙ e.1 (flat_map vdevs_of (vdevs_held IsMarked held) ++ rest) ∙ ap (λ ms. marks e.0 ∷ ms) (marked_all held rest)

over_exact : (guid : Guid) (kind : Kind) (xs ms : List (List Mark)) (n : ℕ) → n ≡ length xs
    → over_marks guid kind n (xs ++ ms) ≡ inner_marks guid kind (joined xs) ∷ ms
over_exact guid kind xs ms n long =
    ap (λ ys. inner_marks guid kind (joined ys) ∷ drop n (xs ++ ms)) (take_at xs ms n (sym long))
    ∙ ap (λ ys. inner_marks guid kind (joined xs) ∷ ys) (drop_at xs ms n (sym long))

inner_marked : (inner : InnerVdev)
    → ((rest : List VdevSeen) → marks_in (flat_map vdevs_of inner.children.items
    ++ rest) ≡ map marks inner.children.items ++ marks_in rest)
    → IsMarked (Inner inner)
unfolding marks_in
inner_marked inner all rest =
    let children = inner.children.items in
    ap (λ vs. marks_in (vs ++ rest)) (vdevs_inner inner)
    ∙ ap (over_marks inner.guid inner.kind (length children)) (all rest)
    ∙ over_exact inner.guid inner.kind (map marks children) (marks_in rest) (length children)
    (sym (length-map children marks))
    ∙ ap (λ ms. inner_marks inner.guid inner.kind ms ∷ marks_in rest) (joined_map marks children)
    ∙ ap (λ m. m ∷ marks_in rest) (sym (marks_inner inner))

children_marked : (inner : InnerVdev) (held : List (Held IsMarked)) → vdevs_held IsMarked held ≡ inner.children.items
    → IsMarked (Inner inner)
children_marked inner held is =
    inner_marked inner (λ rest. subst (λ vs. marks_in (flat_map vdevs_of vs ++ rest)
    ≡ map marks vs ++ marks_in rest) is (marked_all held rest))

marked : (v : Vdev) → IsMarked v
marked = of_every_vdev IsMarked marked_leaf children_marked

first_of : List (List Mark) → List Mark
first_of [] = []
first_of (ms ∷ trees) = ms

-- trees of which the same is written are built alike
pub built_alike : (a b : Vdev) → vdevs_of a ≡ vdevs_of b → marks a ≡ marks b
unfolding first_of
built_alike a b same =
    ap first_of (sym (marked a []) ∙ ap (λ vs. marks_in (vs ++ [])) same ∙ marked b [])

-- The leaves among what is written of a tree are its own.

abbrev HasLeaves : Vdev → Type 0
HasLeaves v = leaves_among (vdevs_of v) ≡ map leaf_seen (leaves v)

leaves_of_leaf : (leaf : LeafVdev) → HasLeaves (Leaf leaf)
unfolding leaves_among
leaves_of_leaf leaf = ap leaves_among (vdevs_leaf leaf) ∙ ap (map leaf_seen) (sym (leaves_leaf leaf))

leaves_of_all : (held : List (Held HasLeaves))
    → leaves_among (flat_map vdevs_of (vdevs_held HasLeaves held))
    ≡ map leaf_seen (flat_map leaves (vdevs_held HasLeaves held))
unfolding leaves_among
leaves_of_all [] = refl
leaves_of_all (e ∷ held) =
    leaves-append (vdevs_of e.0) (flat_map vdevs_of (vdevs_held HasLeaves held))
    ∙ ap (λ ls. ls ++ leaves_among (flat_map vdevs_of (vdevs_held HasLeaves held))) e.1
    ∙ ap (λ ls. map leaf_seen (leaves e.0) ++ ls) (leaves_of_all held)
    ∙ sym (map-append leaf_seen (leaves e.0) (flat_map leaves (vdevs_held HasLeaves held)))

among_inner : (inner : InnerVdev) → leaves_among (vdevs_of (Inner inner)) ≡ leaves_among (flat_map vdevs_of
    inner.children.items)
unfolding leaves_among
among_inner inner = ap leaves_among (vdevs_inner inner)

leaves_of_inner : (inner : InnerVdev) (held : List (Held HasLeaves)) → vdevs_held HasLeaves held ≡ inner.children.items
    → HasLeaves (Inner inner)
leaves_of_inner inner held is =
    among_inner inner
    ∙ subst (λ vs. leaves_among (flat_map vdevs_of vs) ≡ map leaf_seen (flat_map leaves vs)) is (leaves_of_all held)
    ∙ ap (map leaf_seen) (sym (leaves_inner inner))

pub leaves_written : (v : Vdev) → leaves_among (vdevs_of v) ≡ map leaf_seen (leaves v)
leaves_written = of_every_vdev HasLeaves leaves_of_leaf leaves_of_inner

-- Back: how a tree is built and its leaves tell what is written of it.

-- how many trees stand side by side, so many levels further out, up to the end of their vdev
unfoldable trees_until : (depth : ℕ) → List Mark → ℕ
trees_until depth [] = 0
trees_until zero (leaf_mark ∷ ms) = suc (trees_until zero ms)
trees_until (suc depth) (leaf_mark ∷ ms) = trees_until (suc depth) ms
trees_until zero (opening guid kind ∷ ms) = suc (trees_until 1 ms)
trees_until (suc depth) (opening guid kind ∷ ms) = trees_until (suc (suc depth)) ms
trees_until zero (closing ∷ ms) = 0
trees_until (suc depth) (closing ∷ ms) = trees_until depth ms

record IsCounted (v : Vdev) : Type 0 where
  here : (rest : List Mark) → trees_until zero (marks v ++ rest) ≡ suc (trees_until zero rest)
  deep : (depth : ℕ) (rest : List Mark) → trees_until (suc depth) (marks v ++ rest) ≡ trees_until (suc depth) rest

counted_leaf : (leaf : LeafVdev) → IsCounted (Leaf leaf)
unfolding trees_until
counted_leaf leaf = record {
  here = λ rest. ap (λ ms. trees_until zero (ms ++ rest)) (marks_at_leaf leaf);
  deep = λ depth rest. ap (λ ms. trees_until (suc depth) (ms ++ rest)) (marks_at_leaf leaf);
}

counted_deep : (held : List (Held IsCounted)) (depth : ℕ) (rest : List Mark)
    → trees_until (suc depth) (flat_map marks (vdevs_held IsCounted held) ++ rest) ≡ trees_until (suc depth) rest
counted_deep [] depth rest = refl
counted_deep (e ∷ held) depth rest =
    ap (trees_until (suc depth)) (append_assoc (marks e.0) (flat_map marks (vdevs_held IsCounted held)) rest)
    ∙ e.1.deep depth (flat_map marks (vdevs_held IsCounted held) ++ rest) ∙ counted_deep held depth rest

-- an inner vdev's marks, and what is behind them
inner_behind : (inner : InnerVdev) (rest : List Mark)
    → marks (Inner inner) ++ rest ≡ opening inner.guid inner.kind ∷ (flat_map marks inner.children.items
    ++ (closing ∷ rest))
inner_behind inner rest =
    ap (λ ms. ms ++ rest) (marks_inner inner)
    ∙ ap (λ ms. opening inner.guid inner.kind ∷ ms)
    (append_assoc (flat_map marks inner.children.items) (closing ∷ []) rest)

deep_of : (inner : InnerVdev) (held : List (Held IsCounted)) → vdevs_held IsCounted held ≡ inner.children.items
    → (depth : ℕ) (rest : List Mark)
    → trees_until (suc depth) (flat_map marks inner.children.items ++ rest) ≡ trees_until (suc depth) rest
deep_of inner held is depth rest =
    subst (λ vs. trees_until (suc depth) (flat_map marks vs ++ rest) ≡ trees_until (suc depth) rest) is
    (counted_deep held depth rest)

counted_inner : (inner : InnerVdev) (held : List (Held IsCounted)) → vdevs_held IsCounted held ≡ inner.children.items
    → IsCounted (Inner inner)
unfolding trees_until
counted_inner inner held is = record {
  here = λ rest. ap (trees_until zero) (inner_behind inner rest) ∙ ap suc (deep_of inner held is 0 (closing ∷ rest));
  deep = λ depth rest. ap (trees_until (suc depth)) (inner_behind inner rest)
      ∙ deep_of inner held is (suc depth) (closing ∷ rest);
}

counted : (v : Vdev) → IsCounted v
counted = of_every_vdev IsCounted counted_leaf counted_inner

count_children : (vdevs : List Vdev) (rest : List Mark)
    → trees_until zero (flat_map marks vdevs ++ rest) ≡ length vdevs + trees_until zero rest
count_children [] rest = let none : trees_until zero rest ≡ 0 + trees_until zero rest = omega arith in none
count_children (v ∷ vdevs) rest =
    let behind = flat_map marks vdevs ++ rest in
    let one : trees_until zero (marks v ++ behind) ≡ suc (length vdevs) + trees_until zero rest =
    omega (arith, (counted v).here behind, count_children vdevs rest) in
    ap (trees_until zero) (append_assoc (marks v) (flat_map marks vdevs) rest) ∙ one

count_to_end : (vdevs : List Vdev) (rest : List Mark)
    → trees_until zero (flat_map marks vdevs ++ (closing ∷ rest)) ≡ length vdevs
unfolding trees_until
count_to_end vdevs rest = omega (arith, count_children vdevs (closing ∷ rest))

-- what is written of trees built so, with these leaves
unfoldable written : List Mark → List LeafSeen → List VdevSeen
written [] leaves = []
written (leaf_mark ∷ ms) [] = []
written (leaf_mark ∷ ms) (leaf ∷ leaves) = leaf_vdev leaf ∷ written ms leaves
written (opening guid kind ∷ ms) leaves = inner_vdev guid kind (trees_until zero ms) ∷ written ms leaves
written (closing ∷ ms) leaves = written ms leaves

abbrev IsWritten : Vdev → Type 0
IsWritten v =
    (ms : List Mark) (ls : List LeafSeen) → written (marks v ++ ms) (map leaf_seen (leaves v)
    ++ ls) ≡ vdevs_of v ++ written ms ls

written_leaf : (leaf : LeafVdev) → IsWritten (Leaf leaf)
unfolding written
written_leaf leaf ms ls =
    ap (λ x. written (x ++ ms) (map leaf_seen (leaves (Leaf leaf)) ++ ls)) (marks_at_leaf leaf)
    ∙ ap (λ x. written (leaf_mark ∷ ms) (map leaf_seen x ++ ls)) (leaves_leaf leaf)
    ∙ ap (λ x. x ++ written ms ls) (sym (vdevs_leaf leaf))

leaves_then : (v : Vdev) (vs : List Vdev) (ls : List LeafSeen)
    → map leaf_seen (leaves v ++ flat_map leaves vs) ++ ls
    ≡ map leaf_seen (leaves v) ++ (map leaf_seen (flat_map leaves vs) ++ ls)
leaves_then v vs ls =
    ap (λ x. x ++ ls) (map-append leaf_seen (leaves v) (flat_map leaves vs))
    ∙ append_assoc (map leaf_seen (leaves v)) (map leaf_seen (flat_map leaves vs)) ls

abbrev AreWritten : List Vdev → Type 0
AreWritten vs = (ms : List Mark) (ls : List LeafSeen)
    → written (flat_map marks vs ++ ms) (map leaf_seen (flat_map leaves vs) ++ ls)
    ≡ flat_map vdevs_of vs ++ written ms ls

written_all : (held : List (Held IsWritten)) → AreWritten (vdevs_held IsWritten held)
written_all [] ms ls = refl
written_all (e ∷ held) ms ls =
    let vs = vdevs_held IsWritten held in
    ap (λ x. written x (map leaf_seen (leaves e.0 ++ flat_map leaves vs) ++ ls))
    (append_assoc (marks e.0) (flat_map marks vs) ms)
    ∙ ap (written (marks e.0 ++ (flat_map marks vs ++ ms))) (leaves_then e.0 vs ls)
    ∙ e.1 (flat_map marks vs ++ ms) (map leaf_seen (flat_map leaves vs) ++ ls)
    ∙ ap (λ x. vdevs_of e.0 ++ x) (written_all held ms ls)
    ∙ sym (append_assoc (vdevs_of e.0) (flat_map vdevs_of vs) (written ms ls))

inner_written : (inner : InnerVdev) → AreWritten inner.children.items → IsWritten (Inner inner)
unfolding written
inner_written inner all ms ls =
    let children = inner.children.items in
    let seen = map leaf_seen (flat_map leaves children) ++ ls in
    ap (λ x. written x (map leaf_seen (leaves (Inner inner)) ++ ls)) (inner_behind inner ms)
    ∙ ap (λ x. written (opening inner.guid inner.kind ∷ (flat_map marks children ++ (closing ∷ ms)))
    (map leaf_seen x ++ ls)) (leaves_inner inner)
    ∙ ap (λ n. inner_vdev inner.guid inner.kind n ∷ written (flat_map marks children ++ (closing ∷ ms)) seen)
    (count_to_end children ms)
    ∙ ap (λ x. inner_vdev inner.guid inner.kind (length children) ∷ x) (all (closing ∷ ms) ls)
    ∙ ap (λ x. x ++ written ms ls) (sym (vdevs_inner inner))

children_written : (inner : InnerVdev) (held : List (Held IsWritten)) → vdevs_held IsWritten held ≡ inner.children.items
    → IsWritten (Inner inner)
children_written inner held is = inner_written inner (subst AreWritten is (written_all held))

is_written : (v : Vdev) → IsWritten v
is_written = of_every_vdev IsWritten written_leaf children_written

vdevs_written : (v : Vdev) → vdevs_of v ≡ written (marks v ++ []) (map leaf_seen (leaves v) ++ [])
unfolding written
vdevs_written v = sym (is_written v [] [] ∙ append-nil (vdevs_of v))

-- of trees that are built alike, with leaves of which the same is written, the same is written
pub written_alike : (a b : Vdev) → marks a ≡ marks b → map leaf_seen (leaves a) ≡ map leaf_seen (leaves b)
    → vdevs_of a ≡ vdevs_of b
written_alike a b built seen =
    vdevs_written a ∙ ap (λ ms. written (ms ++ []) (map leaf_seen (leaves a) ++ [])) built
    ∙ ap (λ ls. written (marks b ++ []) (ls ++ [])) seen ∙ sym (vdevs_written b)
