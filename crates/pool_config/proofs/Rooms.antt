-- Trees that are written out, and how many bytes are put of them.
use Rattle.std.proofs.Common.{◌≡◌, ℕ, ◌+◌, ◌*◌, ◌<◌, ◌≤◌, true, List, [], ◌∷◌, ◌++◌, map, length, get_or, take, drop}
use Rattle.std.proofs.Common.{ap, sym, ◌∙◌, arith}
use Rattle.std.specs.List.{flat_map, list_all}
use Rattle.std.proofs.lemmas.List.{length-map}
use Rattle.std.proofs.lemmas.Bool.{and_parts, leb-true}
use Rattle.std.specs.Prelude.{nat_le}
use Rattle.vdev_tree.specs.declared.vdev.Vdev.{Vdev}
use Rattle.vdev_tree.specs.declared.vdev.InnerVdev.{InnerVdev}
use Rattle.vdev_tree.specs.declared.vdev.LeafVdev.{LeafVdev}
use Rattle.vdev_tree.specs.declared.vdev.Vdev.TheVariants.{Leaf, Inner}
use Rattle.vdev_tree.specs.Tree.{joined}
use Rattle.vdev_tree.proofs.Folds.{fold_leaf, fold_inner}
use Rattle.pool_config.specs.Seen.{VdevSeen, leaf_vdev, inner_vdev, leaf_seen, ranges_of, vdevs_at_vdev, vdevs_at_inner}
use Rattle.pool_config.specs.Seen.{vdevs_of, room, fits}
use Rattle.pool_config.specs.Spelling.{vdev_bytes, leaf_bytes, inner_bytes}
use Rattle.pool_config.specs.Pieces.{Puts}
use Rattle.pool_config.proofs.Lists.{flat_more, flat_split, flat_all, joined_map, all_at_item}
use Rattle.pool_config.proofs.Placing.{puts_next, puts_same}
use Rattle.std.proofs.lemmas.List.{append-nil}
use Rattle.std.proofs.lemmas.List.Concat.{flat_map-append}

pub vdevs_leaf : (leaf : LeafVdev) → vdevs_of (Leaf leaf) ≡ leaf_vdev (leaf_seen leaf) ∷ []
unfolding vdevs_of
vdevs_leaf leaf = fold_leaf (List VdevSeen) vdevs_at_vdev vdevs_at_inner leaf

pub vdevs_inner : (inner : InnerVdev) → vdevs_of (Inner inner) ≡ inner_vdev inner.guid inner.kind (length
    inner.children.items) ∷ flat_map vdevs_of inner.children.items
unfolding vdevs_of
vdevs_inner inner =
    fold_inner (List VdevSeen) vdevs_at_vdev vdevs_at_inner inner
    ∙ ap (λ n. inner_vdev inner.guid inner.kind n ∷ joined (map vdevs_of inner.children.items))
    (length-map inner.children.items vdevs_of)
    ∙ ap (λ vs. inner_vdev inner.guid inner.kind (length inner.children.items) ∷ vs)
    (joined_map vdevs_of inner.children.items)

pub room-append : (xs ys : List VdevSeen) → room (xs ++ ys) ≡ room xs + room ys
unfolding room
room-append [] ys = omega arith
room-append (leaf_vdev leaf ∷ xs) ys = omega (arith, room-append xs ys)
room-append (inner_vdev guid kind count ∷ xs) ys = omega (arith, room-append xs ys)

-- the room of one item more
pub room_more : {A : Type 0} (f : A → List VdevSeen) (xs : List A) (i : ℕ) (x : A) → i < length xs → x ≡ get_or xs i x
    → room (flat_map f (take (i + 1) xs)) ≡ room (flat_map f (take i xs)) + room (f x)
room_more f xs i x inside is = ap room (flat_more f xs i x inside is) ∙ room-append (flat_map f (take i xs)) (f x)

pub room_within : {A : Type 0} (f : A → List VdevSeen) (xs : List A) (i : ℕ) (x : A) → i < length xs → x ≡ get_or xs i x
    → room (flat_map f (take i xs)) + room (f x) ≤ room (flat_map f xs)
room_within f xs i x inside is =
    omega (
      arith,
      ap room (flat_split f xs i x inside is),
      room-append (flat_map f (take i xs)) (f x ++ flat_map f (drop (i + 1) xs)),
      room-append (f x) (flat_map f (drop (i + 1) xs)),
    )

-- a leaf

pub room_leaf : (vdev : Vdev) (leaf : LeafVdev) → vdev ≡ Leaf leaf
    → room (vdevs_of vdev) ≡ 79 + 16 * length (ranges_of leaf.log)
unfolding room
room_leaf vdev leaf is = omega (arith, ap room (ap vdevs_of is ∙ vdevs_leaf leaf))

pub fits_leaf : (vdev : Vdev) (leaf : LeafVdev) → vdev ≡ Leaf leaf → list_all fits (vdevs_of vdev) ≡ true
    → length (ranges_of leaf.log) ≤ 4096
fits_leaf vdev leaf is all =
    let one = and_parts (nat_le (length (ranges_of leaf.log)) 4096) true
    (sym (ap (list_all fits) (ap vdevs_of is ∙ vdevs_leaf leaf)) ∙ all) in
    leb-true _ _ one.0

pub puts_leaf : {old new : List ℕ} {at e : ℕ} (vdev : Vdev) (leaf : LeafVdev) → vdev ≡ Leaf leaf
    → Puts old at (leaf_bytes (leaf_seen leaf)) new e
    → Puts old at (flat_map vdev_bytes (vdevs_of vdev)) new e
puts_leaf vdev leaf is p =
    puts_same (sym (append-nil (leaf_bytes (leaf_seen leaf)))
    ∙ sym (ap (flat_map vdev_bytes) (ap vdevs_of is ∙ vdevs_leaf leaf))) p

-- an inner vdev

pub room_inner : (vdev : Vdev) (inner : InnerVdev) → vdev ≡ Inner inner
    → room (vdevs_of vdev) ≡ 10 + room (flat_map vdevs_of inner.children.items)
unfolding room
room_inner vdev inner is = ap room (ap vdevs_of is ∙ vdevs_inner inner)

pub fits_inner : (vdev : Vdev) (inner : InnerVdev) → vdev ≡ Inner inner → list_all fits (vdevs_of vdev) ≡ true
    → (length inner.children.items ≤ 255) × (list_all fits (flat_map vdevs_of inner.children.items) ≡ true)
fits_inner vdev inner is all =
    let both = and_parts (nat_le (length inner.children.items) 255) _
    (sym (ap (list_all fits) (ap vdevs_of is ∙ vdevs_inner inner)) ∙ all) in
    (leb-true _ _ both.0, both.1)

pub fits_child : (vdevs : List Vdev) (i : ℕ) (child : Vdev) → i < length vdevs → child ≡ get_or vdevs i child
    → list_all fits (flat_map vdevs_of vdevs) ≡ true
    → list_all fits (vdevs_of child) ≡ true
fits_child vdevs i child inside is all = all_at_item fits vdevs_of vdevs i child inside is all

-- the bytes of one child more
pub puts_child : {old mid new : List ℕ} {at m e : ℕ} (vdevs : List Vdev) (i : ℕ) (child : Vdev) → i < length vdevs
    → child ≡ get_or vdevs i child
    → Puts old at (flat_map vdev_bytes (flat_map vdevs_of (take i vdevs))) mid m
    → Puts mid m (flat_map vdev_bytes (vdevs_of child)) new e
    → Puts old at (flat_map vdev_bytes (flat_map vdevs_of (take (i + 1) vdevs))) new e
puts_child vdevs i child inside is p q =
    puts_same (sym (ap (flat_map vdev_bytes) (flat_more vdevs_of vdevs i child inside is)
    ∙ flat_map-append vdev_bytes (flat_map vdevs_of (take i vdevs)) (vdevs_of child)))
    (puts_next p q)

pub puts_inner : {old mid new : List ℕ} {at m e : ℕ} (vdev : Vdev) (inner : InnerVdev) (vdevs : List Vdev) (i : ℕ)
    → vdev ≡ Inner inner → vdevs ≡ inner.children.items → length vdevs ≤ i
    → Puts old at (inner_bytes inner.guid.0 inner.kind (length inner.children.items)) mid m
    → Puts mid m (flat_map vdev_bytes (flat_map vdevs_of (take i vdevs))) new e
    → Puts old at (flat_map vdev_bytes (vdevs_of vdev)) new e
puts_inner vdev inner vdevs i is same all p q =
    let under : flat_map vdevs_of (take i vdevs) ≡ flat_map vdevs_of inner.children.items =
    flat_all vdevs_of vdevs i all ∙ ap (flat_map vdevs_of) same in
    puts_same (sym (ap (flat_map vdev_bytes) (ap vdevs_of is ∙ vdevs_inner inner)))
    (puts_next p (puts_same (ap (flat_map vdev_bytes) under) q))

pub room_all : (inner : InnerVdev) (vdevs : List Vdev) (i : ℕ) → vdevs ≡ inner.children.items → length vdevs ≤ i
    → room (flat_map vdevs_of (take i vdevs)) ≡ room (flat_map vdevs_of inner.children.items)
room_all inner vdevs i same all = ap room (flat_all vdevs_of vdevs i all ∙ ap (flat_map vdevs_of) same)
