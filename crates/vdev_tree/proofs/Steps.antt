-- The steps of loops over the children of an inner vdev.
use Rattle.std.proofs.Common.{◌≡◌, ℕ, zero, suc, ◌+◌, ◌<◌, ◌≤◌, Bool, true, false, List, [], ◌∷◌, ◌++◌, Option, Some, None, is_some, map, length, get_or, take, drop, take_all, refl, ap, sym, ◌∙◌, arith}
use Rattle.std.specs.List.{find, flat_map, list_any, list_all, slice_get}
use Rattle.std.specs.Option.{option_map, option_or}
use Rattle.std.proofs.lemmas.List.{take_more, drop_more, take-append-drop, append-nil}
use Rattle.std.proofs.lemmas.List.Concat.{flat_map-append}
use Rattle.std.proofs.lemmas.List.Folds.{find-append}
use Rattle.std.proofs.lemmas.Bool.{false≢true}
use Rattle.std.proofs.lemmas.Option.{none-some}
use Rattle.mp_base.specs.declared.number.Guid.{Guid}
use Rattle.vdev_tree.specs.declared.vdev.Vdev.{Vdev}
use Rattle.vdev_tree.specs.declared.vdev.InnerVdev.{InnerVdev}
use Rattle.vdev_tree.specs.declared.vdev.LeafVdev.{LeafVdev}
use Rattle.vdev_tree.specs.declared.vdev.Vdev.TheVariants.{Inner}
use Rattle.vdev_tree.specs.Leaf.{is_up, is_online}
use Rattle.vdev_tree.specs.Tree.{leaves, state_of, state_by, is_named, leaf_guid}
use Rattle.vdev_tree.proofs.Folds.{leaves_inner, state_inner}

-- the leaves of the children: of those passed, of one, and of those behind it
pub leaves_split : (vdevs : List Vdev) (i : ℕ) (d : Vdev) → i < length vdevs
    → flat_map leaves vdevs ≡ flat_map leaves (take i vdevs) ++ (leaves (get_or vdevs i d) ++ flat_map leaves (drop (i + 1) vdevs))
leaves_split vdevs i d inside =
    ap (flat_map leaves) (sym (take-append-drop i vdevs)) ∙ flat_map-append leaves (take i vdevs) (drop i vdevs)
    ∙ ap (λ rest. flat_map leaves (take i vdevs) ++ flat_map leaves rest) (drop_more vdevs i d inside)

-- the leaves of one child more
pub leaves_more : (vdevs : List Vdev) (i : ℕ) (d : Vdev) → i < length vdevs
    → flat_map leaves (take (i + 1) vdevs) ≡ flat_map leaves (take i vdevs) ++ leaves (get_or vdevs i d)
leaves_more vdevs i d inside =
    ap (flat_map leaves) (take_more vdevs i d inside) ∙ flat_map-append leaves (take i vdevs) (get_or vdevs i d ∷ [])
    ∙ ap (λ ls. flat_map leaves (take i vdevs) ++ ls) (append-nil (leaves (get_or vdevs i d)))

guid_found : (p : LeafVdev → Bool) (before here rest : List LeafVdev) (o : Option LeafVdev) (r : Option Guid) → find p before ≡ None → find p here ≡ o
    → r ≡ option_map leaf_guid o → is_some r ≡ true → r ≡ option_map leaf_guid (find p (before ++ (here ++ rest)))
guid_found p before here rest None r none is at some = absurd (false≢true (sym (ap is_some at) ∙ some))
guid_found p before here rest (Some leaf) r none is at some =
    at ∙ sym (ap (option_map leaf_guid) (find-append p before (here ++ rest) ∙ ap (λ o. option_or o (find p (here ++ rest))) none
    ∙ find-append p here rest ∙ ap (λ o. option_or o (find p rest)) is))

-- a leaf of the name under this child is the first
pub found_child : (name : List ℕ) (vdev : Vdev) (inner : InnerVdev) (vdevs : List Vdev) (i : ℕ) (child : Vdev) (r : Option Guid)
    → vdev ≡ Inner inner → vdevs ≡ inner.children.items → i < length vdevs → child ≡ get_or vdevs i child
    → find (is_named name) (flat_map leaves (take i vdevs)) ≡ None
    → r ≡ option_map leaf_guid (find (is_named name) (leaves child)) → is_some r ≡ true
    → r ≡ option_map leaf_guid (find (is_named name) (leaves vdev))
found_child name vdev inner vdevs i child r is same inside at none here some =
    guid_found (is_named name) (flat_map leaves (take i vdevs)) (leaves (get_or vdevs i child)) (flat_map leaves (drop (i + 1) vdevs)) _ r none refl
    (here ∙ ap (λ v. option_map leaf_guid (find (is_named name) (leaves v))) at) some
    ∙ ap (λ ls. option_map leaf_guid (find (is_named name) ls))
    (sym (leaves_split vdevs i child inside) ∙ ap (flat_map leaves) same ∙ sym (leaves_inner inner) ∙ sym (ap leaves is))

none_found : (o : Option LeafVdev) (r : Option Guid) → r ≡ option_map leaf_guid o → is_some r ≡ false → o ≡ None
none_found None r at none = refl
none_found (Some leaf) r at none = absurd (false≢true (sym none ∙ ap is_some at))

-- there is none under the children so far
pub passed_child : (name : List ℕ) (vdevs : List Vdev) (i : ℕ) (child : Vdev) (r : Option Guid) → i < length vdevs → child ≡ get_or vdevs i child
    → find (is_named name) (flat_map leaves (take i vdevs)) ≡ None
    → r ≡ option_map leaf_guid (find (is_named name) (leaves child)) → is_some r ≡ false
    → find (is_named name) (flat_map leaves (take (i + 1) vdevs)) ≡ None
passed_child name vdevs i child r inside at none here some =
    ap (find (is_named name)) (leaves_more vdevs i child inside) ∙ find-append (is_named name) (flat_map leaves (take i vdevs)) (leaves (get_or vdevs i child))
    ∙ ap (λ o. option_or o (find (is_named name) (leaves (get_or vdevs i child)))) none
    ∙ none_found _ r (here ∙ ap (λ v. option_map leaf_guid (find (is_named name) (leaves v))) at) some

-- there is none
pub none_named : (name : List ℕ) (vdev : Vdev) (inner : InnerVdev) (vdevs : List Vdev) (i : ℕ) → vdev ≡ Inner inner → vdevs ≡ inner.children.items
    → length vdevs ≤ i → find (is_named name) (flat_map leaves (take i vdevs)) ≡ None
    → None ≡ option_map leaf_guid (find (is_named name) (leaves vdev))
none_named name vdev inner vdevs i is same all none =
    sym (ap (λ ls. option_map leaf_guid (find (is_named name) ls))
    (ap leaves is ∙ leaves_inner inner ∙ ap (flat_map leaves) (sym same) ∙ ap (flat_map leaves) (sym (take_all i vdevs all)))
    ∙ ap (option_map leaf_guid) none)

-- the state over all children
pub state_all : (vdev : Vdev) (inner : InnerVdev) (vdevs : List Vdev) (i : ℕ) (some_up all_online : Bool) → vdev ≡ Inner inner → vdevs ≡ inner.children.items
    → length vdevs ≤ i → some_up ≡ list_any is_up (map state_of (take i vdevs)) → all_online ≡ list_all is_online (map state_of (take i vdevs))
    → state_by some_up all_online ≡ state_of vdev
state_all vdev inner vdevs i some_up all_online is same all up online =
    ap (λ a. state_by a all_online) up ∙ ap (state_by (list_any is_up (map state_of (take i vdevs)))) online
    ∙ ap (λ vs. state_by (list_any is_up (map state_of vs)) (list_all is_online (map state_of vs))) (take_all i vdevs all ∙ same)
    ∙ sym (state_inner inner) ∙ sym (ap state_of is)

-- at the end these are the leaves of the vdev
pub leaves_all : (vdev : Vdev) (inner : InnerVdev) (vdevs : List Vdev) (i : ℕ) → vdev ≡ Inner inner → vdevs ≡ inner.children.items → length vdevs ≤ i
    → flat_map leaves (take i vdevs) ≡ leaves vdev
leaves_all vdev inner vdevs i is same all = ap (flat_map leaves) (take_all i vdevs all ∙ same) ∙ sym (leaves_inner inner) ∙ sym (ap leaves is)

get_behind : (xs ys : List LeafVdev) (n k : ℕ) → n ≡ length xs + k → slice_get (xs ++ ys) n ≡ slice_get ys k
get_behind [] ys n k is = ap (slice_get ys) (let e : n ≡ k = omega arith in e)
get_behind (x ∷ xs) ys zero k is = absurd (omega arith)
get_behind (x ∷ xs) ys (suc n) k is = get_behind xs ys n k (omega arith)

get_within : (xs ys : List LeafVdev) (k : ℕ) (x : LeafVdev) → slice_get xs k ≡ Some x → slice_get (xs ++ ys) k ≡ Some x
get_within [] ys k x at = absurd (none-some x at)
get_within (y ∷ xs) ys zero x at = at
get_within (y ∷ xs) ys (suc k) x at = get_within xs ys k x at

-- a leaf at a place of one child is at the place that has the leaves before this child before it
pub leaf_of_child : (vdev : Vdev) (inner : InnerVdev) (vdevs : List Vdev) (i : ℕ) (child : Vdev) (place rest : ℕ) (leaf : LeafVdev) → vdev ≡ Inner inner
    → vdevs ≡ inner.children.items → i < length vdevs → child ≡ get_or vdevs i child → place ≡ length (flat_map leaves (take i vdevs)) + rest
    → slice_get (leaves child) rest ≡ Some leaf → slice_get (leaves vdev) place ≡ Some leaf
leaf_of_child vdev inner vdevs i child place rest leaf is same inside at here found =
    ap (λ ls. slice_get ls place) (ap leaves is ∙ leaves_inner inner ∙ ap (flat_map leaves) (sym same) ∙ leaves_split vdevs i child inside)
    ∙ get_behind (flat_map leaves (take i vdevs)) (leaves (get_or vdevs i child) ++ flat_map leaves (drop (i + 1) vdevs)) place rest here
    ∙ get_within (leaves (get_or vdevs i child)) (flat_map leaves (drop (i + 1) vdevs)) rest leaf (ap (λ v. slice_get (leaves v) rest) (sym at) ∙ found)
