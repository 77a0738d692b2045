-- How many ranges the logs of some leaves have.
use Rattle.std.proofs.Common.{◌≡◌, ◌≢◌, ℕ, ◌+◌, ◌*◌, ◌<◌, ◌≤◌, min, max, Bool, true, false, not, ◌&&◌, ◌==◌, List, [], ◌∷◌, ◌++◌, length, get_or, take, refl, ap, sym, ◌∙◌, arith, length-append}
use Rattle.std.specs.List.{flat_map}
use Rattle.std.proofs.lemmas.List.{take_more, append-nil}
use Rattle.std.proofs.lemmas.List.Concat.{flat_map-append}
use Rattle.std.proofs.lemmas.Bool.{false≢true, eq-eqb}
use Rattle.vdev_tree.specs.declared.top.Top.{Top}
use Rattle.vdev_tree.specs.declared.vdev.Vdev.{Vdev}
use Rattle.vdev_tree.specs.declared.vdev.LeafVdev.{LeafVdev}
use Rattle.vdev_tree.specs.declared.vdev.Vdev.TheVariants.{Leaf}
use Rattle.vdev_tree.specs.Tree.{leaves}
use Rattle.vdev_tree.proofs.Folds.{leaves_leaf}
use Rattle.vdev_tree.proofs.Sizes.{top_size}
use Rattle.vdev_tree.proofs.Steps.{leaves_more}
use Rattle.dtl_rules.specs.Widening.{leaves_of, ranges_of, total_ranges, most_ranges, none_has, WidensFirst}

pub total-append : (xs ys : List LeafVdev) → total_ranges (xs ++ ys) ≡ total_ranges xs + total_ranges ys
total-append [] ys = omega arith
total-append (x ∷ xs) ys = omega (arith, total-append xs ys)

pub most-append : (xs ys : List LeafVdev) → most_ranges (xs ++ ys) ≡ max (most_ranges xs) (most_ranges ys)
most-append [] ys = omega arith
most-append (x ∷ xs) ys = omega (arith, most-append xs ys)

-- a number of ranges that is at the end of its type stays there
pub min_more : (limit a b c d : ℕ) → b ≡ min limit (a + c) → min limit (b + d) ≡ min limit (a + (c + d))
min_more limit a b c d is = omega arith

-- the leaves under one child more
pub total_more : (vdevs : List Vdev) (i : ℕ) (child : Vdev) → i < length vdevs → child ≡ get_or vdevs i child
    → total_ranges (flat_map leaves (take (i + 1) vdevs)) ≡ total_ranges (flat_map leaves (take i vdevs)) + total_ranges (leaves child)
total_more vdevs i child inside at =
    ap total_ranges (leaves_more vdevs i child inside) ∙ total-append (flat_map leaves (take i vdevs)) (leaves (get_or vdevs i child))
    ∙ ap (λ v. total_ranges (flat_map leaves (take i vdevs)) + total_ranges (leaves v)) (sym at)

pub most_more : (vdevs : List Vdev) (i : ℕ) (child : Vdev) → i < length vdevs → child ≡ get_or vdevs i child
    → most_ranges (flat_map leaves (take (i + 1) vdevs)) ≡ max (most_ranges (flat_map leaves (take i vdevs))) (most_ranges (leaves child))
most_more vdevs i child inside at =
    ap most_ranges (leaves_more vdevs i child inside) ∙ most-append (flat_map leaves (take i vdevs)) (leaves (get_or vdevs i child))
    ∙ ap (λ v. max (most_ranges (flat_map leaves (take i vdevs))) (most_ranges (leaves v))) (sym at)

-- the leaves of one top more
pub tops_more : (tops : List Top) (i : ℕ) (d : Top) → i < length tops → leaves_of (take (i + 1) tops) ≡ leaves_of (take i tops) ++ leaves (get_or tops i d).mirror
tops_more tops i d inside =
    ap leaves_of (take_more tops i d inside) ∙ flat_map-append (λ (top : Top). leaves top.mirror) (take i tops) (get_or tops i d ∷ [])
    ∙ ap (λ ls. leaves_of (take i tops) ++ ls) (append-nil (leaves (get_or tops i d).mirror))

pub total_tops : (tops : List Top) (i : ℕ) (top : Top) → i < length tops → top ≡ get_or tops i top
    → total_ranges (leaves_of (take (i + 1) tops)) ≡ total_ranges (leaves_of (take i tops)) + total_ranges (leaves top.mirror)
total_tops tops i top inside at =
    ap total_ranges (tops_more tops i top inside) ∙ total-append (leaves_of (take i tops)) (leaves (get_or tops i top).mirror)
    ∙ ap (λ (t : Top). total_ranges (leaves_of (take i tops)) + total_ranges (leaves t.mirror)) (sym at)

pub most_tops : (tops : List Top) (i : ℕ) (top : Top) → i < length tops → top ≡ get_or tops i top
    → most_ranges (leaves_of (take (i + 1) tops)) ≡ max (most_ranges (leaves_of (take i tops))) (most_ranges (leaves top.mirror))
most_tops tops i top inside at =
    ap most_ranges (tops_more tops i top inside) ∙ most-append (leaves_of (take i tops)) (leaves (get_or tops i top).mirror)
    ∙ ap (λ (t : Top). max (most_ranges (leaves_of (take i tops))) (most_ranges (leaves t.mirror))) (sym at)

other_than : (c n : ℕ) (rest : Bool) → (not (c == n) && rest) ≡ true → c ≢ n
other_than c n rest h e = false≢true (sym (ap (λ b. not b && rest) (eq-eqb c n e)) ∙ h)

rest_of_none : (b rest : Bool) → (b && rest) ≡ true → rest ≡ true
rest_of_none true rest h = h
rest_of_none false rest h = absurd (false≢true h)

behind : (a b n : ℕ) → a ≢ n → max a b ≡ n → b ≡ n
behind a b n other is = omega arith

most_is_had : (n : ℕ) (some : List LeafVdev) → none_has n some ≡ true → most_ranges some ≡ n → n ≡ 0
most_is_had n [] none is = sym is
most_is_had n (leaf ∷ some) none is =
    let other = other_than (ranges_of leaf) n (none_has n some) none in
    most_is_had n some (rest_of_none (not (ranges_of leaf == n)) (none_has n some) none) (behind (ranges_of leaf) (most_ranges some) n other is)

-- some log has as many ranges as the one with the most
pub some_has_most : (some : List LeafVdev) → none_has (most_ranges some) some ≡ true → most_ranges some ≡ 0
some_has_most some none = most_is_had (most_ranges some) some none refl

-- widening the log with the most ranges, more than one, leaves fewer of them
pub fewer : (ranges : ℕ) (old new : List LeafVdev) → 1 < ranges → WidensFirst ranges old new → total_ranges new < total_ranges old
fewer ranges old new several widened =
    let a = ap total_ranges widened.was ∙ total-append widened.before (widened.leaf ∷ widened.behind) in
    let b = ap total_ranges widened.is ∙ total-append widened.before (widened.widened ∷ widened.behind) in
    omega (arith, a, b, widened.large, widened.widens.ranges)

-- one leaf alone
pub total_leaf : (vdev : Vdev) (leaf : LeafVdev) → vdev ≡ Leaf leaf → total_ranges (leaves vdev) ≡ ranges_of leaf
total_leaf vdev leaf is = ap total_ranges (ap leaves is ∙ leaves_leaf leaf) ∙ omega arith

pub most_leaf : (vdev : Vdev) (leaf : LeafVdev) → vdev ≡ Leaf leaf → most_ranges (leaves vdev) ≡ ranges_of leaf
most_leaf vdev leaf is = ap most_ranges (ap leaves is ∙ leaves_leaf leaf) ∙ omega arith

-- where each log has one range at most, there are no more ranges than leaves
pub total_of_few : (some : List LeafVdev) → most_ranges some ≤ 1 → total_ranges some ≤ length some
total_of_few [] most = omega arith
total_of_few (leaf ∷ some) most = omega (arith, total_of_few some (omega arith))

-- the leaves of valid tops are few
pub leaves_of_few : (tops : List Top) → length (leaves_of tops) ≤ 32 * length tops
leaves_of_few [] = omega arith
leaves_of_few (top ∷ tops) = omega (arith, length-append (leaves top.mirror) (leaves_of tops), top_size top.mirror top.valid, leaves_of_few tops)
