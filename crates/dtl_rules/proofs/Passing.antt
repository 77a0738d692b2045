-- Looking for the least group that is out for some leaves.
use Rattle.std.proofs.Common.{◌≡◌, ℕ, ◌+◌, ◌^◌, ◌<◌, ◌≤◌, Bool, true, false, cond, ◌&&◌, ◌||◌, ◌==◌, not, List, [], ◌∷◌, ◌++◌, map, length, get_or, take, drop, take_all, refl, ap, sym, ◌∙◌, subst, arith, inl, inr, eq-eqb}
use Rattle.std.specs.List.{flat_map}
use Rattle.std.proofs.lemmas.List.{take_more, drop_more, take-append-drop, append-nil}
use Rattle.std.proofs.lemmas.List.Concat.{flat_map-append}
use Rattle.std.proofs.lemmas.List.Folds.{list_all-append}
use Rattle.std.proofs.lemmas.Bool.{cases_lt, false≢true}
use Rattle.group_set.specs.Groups.{holds}
use Rattle.vdev_tree.specs.Leaf.{is_readable}
use Rattle.vdev_tree.specs.declared.vdev.Vdev.{Vdev}
use Rattle.vdev_tree.specs.declared.vdev.InnerVdev.{InnerVdev}
use Rattle.vdev_tree.specs.declared.vdev.LeafVdev.{LeafVdev}
use Rattle.vdev_tree.specs.declared.vdev.Vdev.TheVariants.{Leaf, Inner}
use Rattle.mp_base.specs.declared.number.Guid.{Guid}
use Rattle.vdev_tree.specs.declared.top.Top.{Top}
use Rattle.vdev_tree.specs.declared.vdev.Vdev.TheOpen as F
use Rattle.vdev_tree.specs.declared.vdev.Vdev.TheOpen.{Vdev-F}
use Rattle.vdev_tree.specs.declared.vdev.Vdev.TheViews.{out-Vdev, roll-Vdev, roll-out-Vdev, rolls-Leaf, rolls-Inner}
use Rattle.vdev_tree.specs.Tree.{joined, guid_of}
use Rattle.vdev_tree.proofs.Folds.{fold_leaf, fold_inner, guid_leaf, guid_inner}
use Rattle.dtl_rules.specs.Rules.{is_out, outage_of, others, others_of_vdev, others_of_inner, rest_of, LeastOut, PassedTo}

joined-others : (at : ℕ) (vdevs : List Vdev) → joined (map (others at) vdevs) ≡ flat_map (others at) vdevs
joined-others at [] = refl
joined-others at (v ∷ vdevs) = ap (λ rest. others at v ++ rest) (joined-others at vdevs)

pub others_leaf : (at : ℕ) (leaf : LeafVdev) → others at (Leaf leaf) ≡ cond (leaf.guid.0 == at) [] (leaf ∷ [])
unfolding others
others_leaf at leaf = fold_leaf (List LeafVdev) (others_of_vdev at) (others_of_inner at) leaf

pub others_inner : (at : ℕ) (inner : InnerVdev) → others at (Inner inner) ≡ cond (inner.guid.0 == at) [] (flat_map (others at) inner.children.items)
unfolding others
others_inner at inner =
    fold_inner (List LeafVdev) (others_of_vdev at) (others_of_inner at) inner
    ∙ ap (λ ls. cond (inner.guid.0 == at) [] ls) (joined-others at inner.children.items)

-- no leaf is left of a vdev that goes itself
pub no_leaf_left : (at : ℕ) (vdev : Vdev) (leaf : LeafVdev) → vdev ≡ Leaf leaf → (leaf.guid.0 == at) ≡ true → others at vdev ≡ []
no_leaf_left at vdev leaf is gone = ap (others at) is ∙ others_leaf at leaf ∙ ap (λ b. cond b [] (leaf ∷ [])) gone

pub leaf_left : (at : ℕ) (vdev : Vdev) (leaf : LeafVdev) → vdev ≡ Leaf leaf → (leaf.guid.0 == at) ≡ false → others at vdev ≡ leaf ∷ []
leaf_left at vdev leaf is stays = ap (others at) is ∙ others_leaf at leaf ∙ ap (λ b. cond b [] (leaf ∷ [])) stays

pub no_inner_left : (at : ℕ) (vdev : Vdev) (inner : InnerVdev) → vdev ≡ Inner inner → (inner.guid.0 == at) ≡ true → others at vdev ≡ []
no_inner_left at vdev inner is gone = ap (others at) is ∙ others_inner at inner ∙ ap (λ b. cond b [] (flat_map (others at) inner.children.items)) gone

pub inner_left : (at : ℕ) (vdev : Vdev) (inner : InnerVdev) → vdev ≡ Inner inner → (inner.guid.0 == at) ≡ false → others at vdev ≡ flat_map (others at) inner.children.items
inner_left at vdev inner is stays = ap (others at) is ∙ others_inner at inner ∙ ap (λ b. cond b [] (flat_map (others at) inner.children.items)) stays

-- every group is out for no leaf at all
pub passed_none : (from : ℕ) → PassedTo [] from from
passed_none from = record { late = omega arith; passed = λ g late before. absurd (omega arith); stays = λ e. refl; last = omega arith }

pub passed_nothing : (some : List LeafVdev) (from : ℕ) → some ≡ [] → PassedTo some from from
passed_nothing some from is = subst (λ ls. PassedTo ls from from) (sym is) (passed_none from)

and_false_left : (a b : Bool) → a ≡ false → (a && b) ≡ false
and_false_left a b h = ap (λ x. x && b) h

and_false_right : (a b : Bool) → b ≡ false → (a && b) ≡ false
and_false_right true b h = h
and_false_right false b h = refl

and_true : (a b : Bool) → a ≡ true → b ≡ true → (a && b) ≡ true
and_true a b x y = ap (λ z. z && b) x ∙ y

both : (xs ys : List LeafVdev) (g : ℕ) → outage_of (xs ++ ys) g ≡ (outage_of xs g && outage_of ys g)
both xs ys g = list_all-append (λ leaf. is_out leaf g) xs ys

-- past some leaves and then past others
passed_both : (before here : List LeafVdev) (from group next : ℕ) → PassedTo before from group → PassedTo here group next → PassedTo (before ++ here) from next
passed_both before here from group next a b = record {
  late = (let x = a.late in let y = b.late in omega arith);
  passed = λ g late under. both before here g ∙ (elim (cases_lt g group) [
    | inl below ↦ and_false_left (outage_of before g) (outage_of here g) (a.passed g late below)
    | inr above ↦ and_false_right (outage_of before g) (outage_of here g) (b.passed g above under)
  ]);
  stays = λ e. (let x = a.late in let y = b.late in let same : group ≡ from = omega arith in let still : next ≡ group = omega arith in
      both before here from ∙ and_true (outage_of before from) (outage_of here from) (a.stays same) (sym (ap (outage_of here) same) ∙ b.stays still));
  last = (let x = a.last in let y = b.last in omega arith);
}

others_more : (at : ℕ) (vdevs : List Vdev) (i : ℕ) (d : Vdev) → i < length vdevs
    → flat_map (others at) (take (i + 1) vdevs) ≡ flat_map (others at) (take i vdevs) ++ others at (get_or vdevs i d)
others_more at vdevs i d inside =
    ap (flat_map (others at)) (take_more vdevs i d inside) ∙ flat_map-append (others at) (take i vdevs) (get_or vdevs i d ∷ [])
    ∙ ap (λ ls. flat_map (others at) (take i vdevs) ++ ls) (append-nil (others at (get_or vdevs i d)))

others_split : (at : ℕ) (vdevs : List Vdev) (i : ℕ) (d : Vdev) → i < length vdevs
    → flat_map (others at) vdevs ≡ flat_map (others at) (take i vdevs) ++ (others at (get_or vdevs i d) ++ flat_map (others at) (drop (i + 1) vdevs))
others_split at vdevs i d inside =
    ap (flat_map (others at)) (sym (take-append-drop i vdevs)) ∙ flat_map-append (others at) (take i vdevs) (drop i vdevs)
    ∙ ap (λ rest. flat_map (others at) (take i vdevs) ++ flat_map (others at) rest) (drop_more vdevs i d inside)

-- past one child more
pub passed_more : (at : ℕ) (vdevs : List Vdev) (i : ℕ) (child : Vdev) (from group next : ℕ) → i < length vdevs → child ≡ get_or vdevs i child
    → PassedTo (flat_map (others at) (take i vdevs)) from group → PassedTo (others at child) group next
    → PassedTo (flat_map (others at) (take (i + 1) vdevs)) from next
passed_more at vdevs i child from group next inside is a b =
    subst (λ ls. PassedTo ls from next) (sym (others_more at vdevs i child inside))
    (passed_both (flat_map (others at) (take i vdevs)) (others at (get_or vdevs i child)) from group next a
    (subst (λ v. PassedTo (others at v) group next) is b))

-- past all children
pub passed_all : (at : ℕ) (vdev : Vdev) (inner : InnerVdev) (vdevs : List Vdev) (i : ℕ) (from group : ℕ) → vdev ≡ Inner inner → (inner.guid.0 == at) ≡ false
    → vdevs ≡ inner.children.items → length vdevs ≤ i → PassedTo (flat_map (others at) (take i vdevs)) from group → PassedTo (others at vdev) from group
passed_all at vdev inner vdevs i from group is stays same all a =
    subst (λ ls. PassedTo ls from group) (ap (flat_map (others at)) (take_all i vdevs all ∙ same) ∙ sym (inner_left at vdev inner is stays)) a

-- no group from `group` on is out for one child, and none before it for those so far
pub none_passed : (at : ℕ) (vdev : Vdev) (inner : InnerVdev) (vdevs : List Vdev) (i : ℕ) (child : Vdev) (from group : ℕ) → vdev ≡ Inner inner
    → (inner.guid.0 == at) ≡ false → vdevs ≡ inner.children.items → i < length vdevs → child ≡ get_or vdevs i child
    → PassedTo (flat_map (others at) (take i vdevs)) from group → ((g : ℕ) → group ≤ g → outage_of (others at child) g ≡ false)
    → (g : ℕ) → from ≤ g → outage_of (others at vdev) g ≡ false
none_passed at vdev inner vdevs i child from group is stays same inside is_child a none g late =
    let before = flat_map (others at) (take i vdevs) in
    let here = others at (get_or vdevs i child) in
    let rest = flat_map (others at) (drop (i + 1) vdevs) in
    ap (λ ls. outage_of ls g) (inner_left at vdev inner is stays ∙ ap (flat_map (others at)) (sym same) ∙ others_split at vdevs i child inside)
    ∙ both before (here ++ rest) g ∙ (elim (cases_lt g group) [
      | inl below ↦ and_false_left (outage_of before g) (outage_of (here ++ rest) g) (a.passed g late below)
      | inr above ↦ and_false_right (outage_of before g) (outage_of (here ++ rest) g)
          (both here rest g ∙ and_false_left (outage_of here g) (outage_of rest g)
          (sym (ap (λ v. outage_of (others at v) g) is_child) ∙ none g above))
    ])

or_owes : (readable owed : Bool) → readable ≡ true → ((not readable || owed) && true) ≡ owed
or_owes true true h = refl
or_owes true false h = refl
or_owes false owed h = absurd (false≢true h)

leaf_out : (leaf : LeafVdev) (g : ℕ) → is_readable leaf ≡ true → outage_of (leaf ∷ []) g ≡ holds leaf.log g
leaf_out leaf g up = or_owes (is_readable leaf) (holds leaf.log g) up

-- past a leaf that is up
pub passed_leaf : (leaf : LeafVdev) (from group : ℕ) → is_readable leaf ≡ true → holds leaf.log group ≡ true → from ≤ group
    → ((g : ℕ) → from ≤ g → g < group → holds leaf.log g ≡ false) → group ≤ 2 ^ 62 → PassedTo (leaf ∷ []) from group
passed_leaf leaf from group up held late least last = record {
  late = late;
  passed = λ g a b. leaf_out leaf g up ∙ least g a b;
  stays = λ e. leaf_out leaf from up ∙ sym (ap (holds leaf.log) e) ∙ held;
  last = omega arith;
}

pub none_of_leaf : (leaf : LeafVdev) (from : ℕ) → is_readable leaf ≡ true → ((g : ℕ) → from ≤ g → holds leaf.log g ≡ false) → (g : ℕ) → from ≤ g → outage_of (leaf ∷ []) g ≡ false
none_of_leaf leaf from up none g late = leaf_out leaf g up ∙ none g late

down_out : (readable owed : Bool) → readable ≡ false → ((not readable || owed) && true) ≡ true
down_out false owed h = refl
down_out true owed h = absurd (false≢true (sym h))

-- every group is out for a leaf that is down
pub passed_down : (leaf : LeafVdev) (from : ℕ) → is_readable leaf ≡ false → PassedTo (leaf ∷ []) from from
passed_down leaf from down = record {
  late = omega arith;
  passed = λ g a b. absurd (omega arith);
  stays = λ e. down_out (is_readable leaf) (holds leaf.log from) down;
  last = omega arith;
}

under_made : (at : ℕ) (vdev : Vdev) (made : Vdev-F Vdev InnerVdev) → vdev ≡ roll-Vdev made → (guid_of vdev).0 ≡ at → others at vdev ≡ []
under_made at vdev (F.Leaf leaf) is guid =
    let leaf_is : vdev ≡ Leaf leaf = is ∙ rolls-Leaf leaf in
    no_leaf_left at vdev leaf leaf_is (eq-eqb leaf.guid.0 at (sym (ap (λ (n : Guid). n.0) (ap guid_of leaf_is ∙ guid_leaf leaf)) ∙ guid))
under_made at vdev (F.Inner inner) is guid =
    let inner_is : vdev ≡ Inner inner = is ∙ rolls-Inner inner in
    no_inner_left at vdev inner inner_is (eq-eqb inner.guid.0 at (sym (ap (λ (n : Guid). n.0) (ap guid_of inner_is ∙ guid_inner inner)) ∙ guid))

-- no leaf is left of a vdev without itself
pub none_left : (at : ℕ) (vdev : Vdev) → (guid_of vdev).0 ≡ at → others at vdev ≡ []
none_left at vdev guid = under_made at vdev (out-Vdev vdev) (sym (roll-out-Vdev vdev)) guid

-- without any leaf each group is out, and 1 is the least
pub LeastOut-none : (some : List LeafVdev) → some ≡ [] → LeastOut some 1
LeastOut-none some is = subst (λ ls. LeastOut ls 1) (sym is) (record { first = omega arith; out = refl; least = λ g a b. absurd (omega arith) })

pub rest_at_root : (top : Top) (at : Guid) → (at.0 == 0) ≡ true → rest_of top at ≡ []
rest_at_root top at is = ap (λ b. cond b [] (others at.0 top.mirror)) is

pub rest_at_top : (top : Top) (at : Guid) → (at.0 == 0) ≡ false → rest_of top at ≡ others at.0 top.mirror
rest_at_top top at is = ap (λ b. cond b [] (others at.0 top.mirror)) is

cond_nil : (b : Bool) (ls : List LeafVdev) → ls ≡ [] → cond b [] ls ≡ []
cond_nil true ls is = refl
cond_nil false ls is = is

pub rest_without_top : (top : Top) (at : Guid) → (guid_of top.mirror).0 ≡ at.0 → rest_of top at ≡ []
rest_without_top top at is = cond_nil (at.0 == 0) (others at.0 top.mirror) (none_left at.0 top.mirror is)
