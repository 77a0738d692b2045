-- What the outage rule says of a leaf of a pool's tops, the row of `offline` says of the state's leaf.
use Rattle.std.proofs.Common.{◌≡◌, ℕ, zero, suc, ◌+◌, ◌<◌, ◌≤◌, ◌==◌, ◌&&◌, ◌||◌, not, cond, Bool, true, false, List, [], ◌∷◌, ◌++◌, map, Some, None, refl, sym, ap, ◌∙◌, subst, arith}
use Rattle.std.specs.Prelude.{filter, slice_get, All, Contains}
use Rattle.std.specs.List.{AllByRecursion, flat_map, list_any}
use Rattle.std.proofs.lemmas.Bool.{true≢false}
use Rattle.std.proofs.lemmas.Bool.Decides.{nat_tests}
use Rattle.std.proofs.lemmas.List.{map-append, append-nil}
use Rattle.std.proofs.lemmas.List.Elements.{filter-append}
use Rattle.std.proofs.lemmas.List.Folds.{list_all-map, list_any_at}
use Rattle.vdev_tree.specs.Tree.{leaves}
use Rattle.vdev_tree.specs.declared.top.Top.{Top}
use Rattle.vdev_tree.specs.declared.vdev.InnerVdev.{InnerVdev}
use Rattle.vdev_tree.specs.declared.vdev.LeafVdev.{LeafVdev}
use Rattle.vdev_tree.specs.declared.vdev.Vdev.{Vdev}
use Rattle.vdev_tree.specs.declared.vdev.Vdev.TheVariants.{Leaf, Inner}
use Rattle.vdev_tree.proofs.Folds.{leaves_leaf, leaves_inner}
use Rattle.dtl_rules.specs.Rules as rules
use Rattle.dtl_rules.specs.Rules.{others, outage_of, rest_of, LeastNeeded}
use Rattle.dtl_rules.proofs.Passing.{others_leaf, inner_left, rest_at_top}
use Rattle.pool_config.specs.Seen as config
use Rattle.pool_config.specs.Seen.{VdevSeen, leaf_vdev, inner_vdev, leaf_seen, leaves_among, number_of_vdev, vdevs_of}
use Rattle.pool_config.specs.Seen.{mirror_vdevs, top_vdevs}
use Rattle.pool_config.proofs.Induction.{Held, vdevs_held, of_every_vdev}
use Rattle.pool_config.proofs.Rooms.{vdevs_inner}
use Rattle.pool_config.proofs.WrittenTrees.{leaves_written}
use Rattle.txg_engine.specs.declared.seat.Seat.{Seat}
use Rattle.pool_moves.specs.AwayRows.{all_out, is_out, is_sibling, siblings, LeastOut, IsRequired}
use Rattle.pool_moves.specs.Leaves.{LeafSeen}
use Rattle.open_pool.specs.Form.{IsRecordable, top_of}
use Rattle.open_pool.specs.Parts.{TopParts, PoolParts, all_parts}
use Rattle.open_pool.specs.State.{leaf_of, leaves_from, leaves_under}
use Rattle.open_pool.proofs.LeavesInForm.{numbers_differ, vdevs_of_trees}
use Rattle.open_pool.proofs.NumbersApart.{Differ, same_number, itself, turned_test}

-- a leaf that isn't the one of this number
abbrev pub stays : ℕ → LeafVdev → Bool
stays at leaf = not (leaf.guid.0 == at)

-- ---- the leaves that are left of a tree where none of its inner vdevs has the number

abbrev NoInner : ℕ → List VdevSeen → Type 0
NoInner at [] = Unit {0}
NoInner at (leaf_vdev leaf ∷ vdevs) = NoInner at vdevs
NoInner at (inner_vdev guid kind count ∷ vdevs) = ((guid.0 == at) ≡ false) × NoInner at vdevs

front_none : (at : ℕ) (xs ys : List VdevSeen) → NoInner at (xs ++ ys) → NoInner at xs × NoInner at ys
front_none at [] ys none = (tt, none)
front_none at (leaf_vdev leaf ∷ xs) ys none = front_none at xs ys none
front_none at (inner_vdev guid kind count ∷ xs) ys none =
    let more = front_none at xs ys none.1 in
    ((none.0, more.0), more.1)

abbrev IsLeft : ℕ → Vdev → Type 0
IsLeft at v = NoInner at (vdevs_of v) → others at v ≡ filter (stays at) (leaves v)

left_leaf : (at : ℕ) (leaf : LeafVdev) → IsLeft at (Leaf leaf)
left_leaf at leaf none =
    others_leaf at leaf ∙ one (leaf.guid.0 == at) ∙ sym (ap (filter (stays at)) (leaves_leaf leaf))
  where
    one : (gone : Bool) → cond gone [] (leaf ∷ []) ≡ cond (not gone) (leaf ∷ []) []
    one true = refl
    one false = refl

left_all : (at : ℕ) (held : List (Held (IsLeft at))) → NoInner at (flat_map vdevs_of (vdevs_held (IsLeft at) held))
    → flat_map (others at) (vdevs_held (IsLeft at) held) ≡ filter (stays at) (flat_map leaves (vdevs_held (IsLeft at) held))
left_all at [] none = refl
left_all at (e ∷ held) none =
    let vs = vdevs_held (IsLeft at) held in
    let parts = front_none at (vdevs_of e.0) (flat_map vdevs_of vs) none in
    ap (λ ls. ls ++ flat_map (others at) vs) (e.1 parts.0)
    ∙ ap (λ ls. filter (stays at) (leaves e.0) ++ ls) (left_all at held parts.1)
    ∙ sym (filter-append (stays at) (leaves e.0) (flat_map leaves vs))

left_inner : (at : ℕ) (inner : InnerVdev) (held : List (Held (IsLeft at)))
    → vdevs_held (IsLeft at) held ≡ inner.children.items → IsLeft at (Inner inner)
left_inner at inner held is none =
    let below = subst (NoInner at) (vdevs_inner inner) none in
    inner_left at (Inner inner) inner refl below.0
    ∙ subst (λ vs. NoInner at (flat_map vdevs_of vs) → flat_map (others at) vs ≡ filter (stays at) (flat_map leaves vs)) is
    (left_all at held) below.1
    ∙ sym (ap (filter (stays at)) (leaves_inner inner))

every_left : (at : ℕ) (v : Vdev) → IsLeft at v
every_left at = of_every_vdev (IsLeft at) (left_leaf at) (left_inner at)

-- ---- where the numbers of all vdevs differ, no inner vdev has a leaf's

abbrev has_number : ℕ → config.LeafSeen → Bool
has_number at leaf = leaf.guid.0 == at

abbrev IsApart : ℕ → List VdevSeen → Type 0
IsApart n vdevs = AllByRecursion (λ k. (n == k) ≡ false) (map number_of_vdev vdevs)

none_behind : (at : ℕ) (vdevs : List VdevSeen) → IsApart at vdevs → NoInner at vdevs
none_behind at [] apart = tt
none_behind at (leaf_vdev leaf ∷ vdevs) apart = none_behind at vdevs apart.1
none_behind at (inner_vdev guid kind count ∷ vdevs) apart = (turned_test at guid.0 apart.0, none_behind at vdevs apart.1)

-- who is apart from all of them is so from a leaf
leaf_apart : (n at : ℕ) (vdevs : List VdevSeen) → IsApart n vdevs → list_any (has_number at) (leaves_among vdevs) ≡ true
    → (n == at) ≡ false
unfolding leaves_among
leaf_apart n at [] apart has = absurd (true≢false (sym has))
leaf_apart n at (inner_vdev guid kind count ∷ vdevs) apart has = leaf_apart n at vdevs apart.1 has
leaf_apart n at (leaf_vdev leaf ∷ vdevs) apart has = one (leaf.guid.0 == at) refl has (leaf_apart n at vdevs apart.1)
  where
    one : (b : Bool) → (leaf.guid.0 == at) ≡ b → (b || list_any (has_number at) (leaves_among vdevs)) ≡ true
        → (list_any (has_number at) (leaves_among vdevs) ≡ true → (n == at) ≡ false) → (n == at) ≡ false
    one true is has rest = subst (λ k. (n == k) ≡ false) (same_number leaf.guid.0 at is) apart.0
    one false is has rest = rest has

no_inner : (at : ℕ) (vdevs : List VdevSeen) → Differ (map number_of_vdev vdevs)
    → list_any (has_number at) (leaves_among vdevs) ≡ true → NoInner at vdevs
unfolding leaves_among
no_inner at [] differ has = tt
no_inner at (inner_vdev guid kind count ∷ vdevs) differ has =
    (leaf_apart guid.0 at vdevs differ.0 has, no_inner at vdevs differ.1 has)
no_inner at (leaf_vdev leaf ∷ vdevs) differ has = one (leaf.guid.0 == at) refl has (no_inner at vdevs differ.1)
  where
    one : (b : Bool) → (leaf.guid.0 == at) ≡ b → (b || list_any (has_number at) (leaves_among vdevs)) ≡ true
        → (list_any (has_number at) (leaves_among vdevs) ≡ true → NoInner at vdevs) → NoInner at vdevs
    one true is has rest = none_behind at vdevs
        (subst (λ n. IsApart n vdevs) (same_number leaf.guid.0 at is) differ.0)
    one false is has rest = rest has

-- ---- the tops of a pool

-- The numbers of all vdevs under these tops differ, and none is the root's.
abbrev pub AreApart : List Top → Type 0
AreApart tops = Differ (0 ∷ map number_of_vdev (flat_map mirror_vdevs tops))

first_apart : (n : ℕ) (xs ys : List ℕ) → AllByRecursion (λ k. (n == k) ≡ false) (xs ++ ys)
    → AllByRecursion (λ k. (n == k) ≡ false) xs × AllByRecursion (λ k. (n == k) ≡ false) ys
first_apart n [] ys apart = (tt, apart)
first_apart n (x ∷ xs) ys apart = let more = first_apart n xs ys apart.1 in ((apart.0, more.0), more.1)

both_differ : (xs ys : List ℕ) → Differ (xs ++ ys) → Differ xs × Differ ys
both_differ [] ys differ = (tt, differ)
both_differ (x ∷ xs) ys differ =
    let more = both_differ xs ys differ.1 in
    (((first_apart x xs ys differ.0).0, more.0), more.1)

-- of the first of them so do those under it, and those behind it
split_apart : (top : Top) (tops : List Top) → AreApart (top ∷ tops)
    → Differ (0 ∷ map number_of_vdev (mirror_vdevs top)) × AreApart tops
split_apart top tops apart = ((zeros.0, parts.0), (zeros.1, parts.1))
  where
    numbers : List ℕ
    numbers = map number_of_vdev (mirror_vdevs top)

    behind : List ℕ
    behind = map number_of_vdev (flat_map mirror_vdevs tops)

    split : Differ (0 ∷ (numbers ++ behind))
    split = subst (λ ns. Differ (0 ∷ ns)) (map-append number_of_vdev (mirror_vdevs top) (flat_map mirror_vdevs tops)) apart

    zeros : AllByRecursion (λ k. (0 == k) ≡ false) numbers × AllByRecursion (λ k. (0 == k) ≡ false) behind
    zeros = first_apart 0 numbers behind split.0

    parts : Differ numbers × Differ behind
    parts = both_differ numbers behind split.1

top_apart : (n : ℕ) (tops : List Top) (top : Top) → slice_get tops n ≡ Some top → AreApart tops
    → Differ (0 ∷ map number_of_vdev (mirror_vdevs top))
top_apart n [] top at apart = absurd (let no : None ≡ Some top = at in cc)
top_apart zero (t ∷ tops) top at apart =
    let same : t ≡ top = cc in
    subst (λ (x : Top). Differ (0 ∷ map number_of_vdev (mirror_vdevs x))) same (split_apart t tops apart).0
top_apart (suc n) (t ∷ tops) top at apart = top_apart n tops top at (split_apart t tops apart).1

-- a leaf under a vdev is among what is written of it
leaf_among : (v : Vdev) (leaf : LeafVdev) → Contains (leaves v) leaf
    → list_any (has_number leaf.guid.0) (leaves_among (vdevs_of v)) ≡ true
leaf_among v leaf among =
    ap (list_any (has_number leaf.guid.0)) (leaves_written v) ∙ mapped (leaves v)
    ∙ list_any_at (λ (l : LeafVdev). l.guid.0 == leaf.guid.0) (leaves v) among.0 leaf among.1
    (ap (λ (l : LeafVdev). l.guid.0 == leaf.guid.0) among.2 ∙ itself leaf.guid.0)
  where
    mapped : (ls : List LeafVdev) → list_any (has_number leaf.guid.0) (map leaf_seen ls)
        ≡ list_any (λ (l : LeafVdev). l.guid.0 == leaf.guid.0) ls
    mapped [] = refl
    mapped (l ∷ ls) = ap (λ b. (l.guid.0 == leaf.guid.0) || b) (mapped ls)

-- without a leaf the others under its top are left
pub rest_is : (tops : List Top) (i : ℕ) (top : Top) (leaf : LeafVdev) → AreApart tops → slice_get tops i ≡ Some top
    → Contains (leaves top.mirror) leaf → rest_of top leaf.guid ≡ filter (stays leaf.guid.0) (leaves top.mirror)
rest_is tops i top leaf apart at among =
    let differ = top_apart i tops top at apart in
    let has = leaf_among top.mirror leaf among in
    rest_at_top top leaf.guid (turned_test 0 leaf.guid.0 (leaf_apart 0 leaf.guid.0 (mirror_vdevs top) differ.0 has))
    ∙ every_left leaf.guid.0 top.mirror (no_inner leaf.guid.0 (mirror_vdevs top) differ.1 has)

-- ---- the siblings of the state's leaf

-- the leaves under the top at a place
pub under_at : (n : ℕ) (tops : List Top) (top : Top) → slice_get tops n ≡ Some top
    → slice_get (leaves_under (all_parts tops)) n ≡ Some (leaves top.mirror)
under_at n [] top at = absurd (let no : None ≡ Some top = at in cc)
under_at zero (t ∷ tops) top at = let same : t ≡ top = cc in ap (λ (x : Top). Some (leaves x.mirror)) same
under_at (suc n) (t ∷ tops) top at = under_at n tops top at

-- the leaves of the state with these trees
abbrev pub tree_leaves : List Seat → List Top → List LeafSeen
tree_leaves seats tops = leaves_from seats 1 (leaves_under (all_parts tops))

module _ (seats : List Seat) where
  none_under : (l : LeafSeen) (top : ℕ) (under : List LeafVdev) → (top == l.top) ≡ false
      → siblings l (map (leaf_of seats top) under) ≡ []
  none_under l top [] other = refl
  none_under l top (leaf ∷ under) other =
      ap (λ b. cond (b && not (leaf.guid.0 == l.guid.0)) (leaf_of seats top leaf ∷ siblings l (map (leaf_of seats top) under))
      (siblings l (map (leaf_of seats top) under))) other
      ∙ none_under l top under other

  none_from : (l : LeafSeen) (first : ℕ) (tops : List (List LeafVdev)) → l.top < first
      → siblings l (leaves_from seats first tops) ≡ []
  none_from l first [] low = refl
  none_from l first (under ∷ tops) low =
      filter-append (is_sibling l) (map (leaf_of seats first) under) (leaves_from seats (suc first) tops)
      ∙ ap (λ ls. ls ++ siblings l (leaves_from seats (suc first) tops))
      (none_under l first under (let other : (first == l.top) ≡ false = grind (arith, nat_tests) in other))
      ∙ none_from l (suc first) tops (omega arith)

  all_under : (leaf : LeafVdev) (top : ℕ) (under : List LeafVdev)
      → siblings (leaf_of seats top leaf) (map (leaf_of seats top) under)
      ≡ map (leaf_of seats top) (filter (stays leaf.guid.0) under)
  all_under leaf top [] = refl
  all_under leaf top (l ∷ under) =
      ap (λ b. cond (b && stays leaf.guid.0 l) (leaf_of seats top l ∷ siblings (leaf_of seats top leaf) (map (leaf_of seats top) under))
      (siblings (leaf_of seats top leaf) (map (leaf_of seats top) under))) (itself top)
      ∙ ap (λ ls. cond (stays leaf.guid.0 l) (leaf_of seats top l ∷ ls) ls) (all_under leaf top under)
      ∙ one (stays leaf.guid.0 l)
    where
      one : (b : Bool) → cond b (leaf_of seats top l ∷ map (leaf_of seats top) (filter (stays leaf.guid.0) under))
          (map (leaf_of seats top) (filter (stays leaf.guid.0) under))
          ≡ map (leaf_of seats top) (cond b (l ∷ filter (stays leaf.guid.0) under) (filter (stays leaf.guid.0) under))
      one true = refl
      one false = refl

  -- they are those of its top alone
  siblings_at : (leaf : LeafVdev) (first n : ℕ) (tops : List (List LeafVdev)) (under : List LeafVdev) → slice_get tops n ≡ Some under
      → siblings (leaf_of seats (first + n) leaf) (leaves_from seats first tops)
      ≡ map (leaf_of seats (first + n)) (filter (stays leaf.guid.0) under)
  siblings_at leaf first n [] under at = absurd (let no : None ≡ Some under = at in cc)
  siblings_at leaf first zero (us ∷ tops) under at =
      let same : us ≡ under = cc in
      let here : first ≡ first + 0 = omega arith in
      let l = leaf_of seats first leaf in
      let front = map (leaf_of seats first) us in
      subst (λ j. siblings (leaf_of seats j leaf) (leaves_from seats first (us ∷ tops))
      ≡ map (leaf_of seats j) (filter (stays leaf.guid.0) under)) here
      (filter-append (is_sibling l) front (leaves_from seats (suc first) tops)
      ∙ ap (λ ls. siblings l front ++ ls) (none_from l (suc first) tops (omega arith))
      ∙ append-nil (siblings l front) ∙ all_under leaf first us
      ∙ ap (λ ls. map (leaf_of seats first) (filter (stays leaf.guid.0) ls)) same)
  siblings_at leaf first (suc n) (us ∷ tops) under at =
      let there : suc first + n ≡ first + suc n = omega arith in
      let l = leaf_of seats (first + suc n) leaf in
      let behind = leaves_from seats (suc first) tops in
      filter-append (is_sibling l) (map (leaf_of seats first) us) behind
      ∙ ap (λ ls. ls ++ siblings l behind)
      (none_under l first us (let other : (first == first + suc n) ≡ false = grind (arith, nat_tests) in other))
      ∙ subst (λ j. siblings (leaf_of seats j leaf) behind ≡ map (leaf_of seats j) (filter (stays leaf.guid.0) under)) there
      (siblings_at leaf (suc first) n tops under at)

  -- ---- so the row's rule is that of the trees

  module _ (tops : List Top) (i : ℕ) (top : Top) (leaf : LeafVdev) (apart : AreApart tops) (at : slice_get tops i ≡ Some top)
      (among : Contains (leaves top.mirror) leaf) where
    same_outage : (g : ℕ)
        → all_out (siblings (leaf_of seats (suc i) leaf) (tree_leaves seats tops)) g ≡ outage_of (rest_of top leaf.guid) g
    same_outage g =
        let here : 1 + i ≡ suc i = omega arith in
        ap (λ ls. all_out ls g) (subst (λ j. siblings (leaf_of seats j leaf) (tree_leaves seats tops)
        ≡ map (leaf_of seats j) (filter (stays leaf.guid.0) (leaves top.mirror))) here
        (siblings_at leaf 1 i (leaves_under (all_parts tops)) (leaves top.mirror) (under_at i tops top at)))
        ∙ list_all-map (is_out g) (leaf_of seats (suc i)) (filter (stays leaf.guid.0) (leaves top.mirror))
        ∙ ap (λ ls. outage_of ls g) (sym (rest_is tops i top leaf apart at among))

    pub least_out : (g : ℕ) → LeastNeeded top leaf.guid g
        → LeastOut (siblings (leaf_of seats (suc i) leaf) (tree_leaves seats tops)) g
    least_out g needed = record {
      first = needed.first;
      out = same_outage g ∙ needed.out;
      least = λ k low below. same_outage k ∙ needed.least k low below;
    }

    pub not_required : ¬ (rules.IsRequired top leaf.guid)
        → ¬ (IsRequired (leaf_of seats (suc i) leaf) (tree_leaves seats tops))
    not_required free is = free (is.0, is.1, sym (same_outage is.0) ∙ is.2)

-- ---- the form of a pool says that its numbers are apart

pub trees_apart : (tops : List Top) (p : PoolParts) → p.tops ≡ all_parts tops → IsRecordable p → AreApart tops
trees_apart tops p parts recordable =
    subst (λ vs. Differ (0 ∷ map number_of_vdev vs)) written (
      zeros (map number_of_vdev (flat_map top_vdevs (map top_of p.tops))) recordable.drawn,
      numbers_differ (map number_of_vdev (flat_map top_vdevs (map top_of p.tops))) recordable.apart,
    )
  where
    written : flat_map top_vdevs (map top_of p.tops) ≡ flat_map mirror_vdevs tops
    written = ap (λ (ts : List TopParts). flat_map top_vdevs (map top_of ts)) parts ∙ vdevs_of_trees tops

    zeros : (ns : List ℕ) → All (λ n. (1 ≤ n) × (n < p.next)) ns → AllByRecursion (λ k. (0 == k) ≡ false) ns
    zeros [] drawn = tt
    zeros (n ∷ ns) drawn = (off (drawn 0 n (omega arith)).0, zeros ns (λ k d lt. drawn (suc k) d (omega arith)))
      where
        off : 1 ≤ n → (0 == n) ≡ false
        off low = grind (arith, nat_tests)
