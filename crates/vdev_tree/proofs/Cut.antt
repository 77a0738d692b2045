-- A leaf that is cut out of a child, and what its mirror is afterwards.
use Rattle.std.proofs.Common.{◌≡◌, ℕ, zero, suc, ◌≤◌, ◌<◌, Bool, true, false, ◌||◌, cond, Option, Some, None, List, [], ◌∷◌, ◌++◌, length, get_or, take, drop, refl, ap, sym, ◌∙◌, subst, arith, append_assoc, length-append, option_to_list}
use Rattle.std.specs.List.{flat_map, list_any, AllZip, remove}
use Rattle.std.proofs.lemmas.Bool.{false≢true, eqb-true}
use Rattle.std.proofs.lemmas.Option.{none-some}
use Rattle.std.proofs.lemmas.List.{append-nil}
use Rattle.std.proofs.lemmas.List.Concat.{flat_map-append}
use Rattle.std.proofs.lemmas.List.Folds.{list_any-append}
use Rattle.mp_base.specs.declared.number.Guid.{Guid}
use Rattle.mp_base.specs.declared.refusal.Refusal.{Refusal}
use Rattle.mp_base.specs.declared.refusal.Refusal.TheVariants as refusals
use Rattle.mp_base.specs.declared.refusal.PlaceRule.TheVariants as rules
use Rattle.vdev_tree.specs.declared.vdev.Kind.TheVariants.{Replacing, Spare}
use Rattle.vdev_tree.specs.declared.vdev.Vdev.{Vdev}
use Rattle.vdev_tree.specs.declared.vdev.InnerVdev.{InnerVdev}
use Rattle.vdev_tree.specs.declared.vdev.LeafVdev.{LeafVdev}
use Rattle.vdev_tree.specs.declared.vdev.Vdev.TheVariants.{Leaf, Inner}
use Rattle.vdev_tree.specs.declared.seat.Edit.TheVariants.{Prune}
use Rattle.vdev_tree.specs.Tree.{leaves, is_top, is_spare_kind}
use Rattle.vdev_tree.specs.Children.{a_child, Member, Child, only, replacing, alone, spared, children_of, IsMember, IsChild, spare_vdevs, member_leaves, spare_leaves, child_leaves}
use Rattle.vdev_tree.specs.Edits.{is_at, has, other, promoted, unspared, pruned, is_single, prune_limit, prune_refusal, refusal_of, misplaced, Edits, TakenOut, IsRest, Cuts}
use Rattle.vdev_tree.proofs.Edited.{IsOver, over_top, top_over, child_there, same_leaf, leaf_no_inner, inner_facts, get_split}
use Rattle.vdev_tree.proofs.Seats.{some_child}
use Rattle.vdev_tree.proofs.Shapes.{same_child, member_part, member_leaves_are, length_zip, top_is, mirror_leaves}

or_false : (b : Bool) → (b || false) ≡ true → b ≡ true
or_false true is = refl
or_false false is = is

no_more : (b : Bool) → (b || false) ≡ false → b ≡ false
no_more true is = is
no_more false is = refl

neither : (a b : Bool) → (a || (b || false)) ≡ false → (a || b) ≡ false
neither true b is = is
neither false true is = is
neither false false is = refl

either : (a b : Bool) → (a || (b || false)) ≡ true → a ≡ false → b ≡ true
either true b some none = absurd (false≢true (sym none))
either false true some none = refl
either false false some none = some

two_of : (a b : Bool) → (a || (b || false)) ≡ true → (a || b) ≡ true
two_of true b is = refl
two_of false true is = refl
two_of false false is = is

behind_none : (a b : Bool) → (a || b) ≡ true → a ≡ false → b ≡ true
behind_none true b some none = absurd (false≢true (sym none))
behind_none false b some none = some

same_member : (vdev : Vdev) (a b : Member) → IsMember vdev a → IsMember vdev b → a ≡ b
same_member vdev a b is_a is_b = let e : a_child (alone a) ≡ a_child (alone b) = sym (member_part vdev a is_a) ∙ member_part vdev b is_b in cc

-- what is taken out of some leaves

pair_by : (at : Guid) (old new : LeafVdev) (rest : List LeafVdev) (b : Bool) → is_at at old ≡ b → (is_at at old ≡ false → is_at at new ≡ true)
    → TakenOut at (cond b old new) (old ∷ new ∷ rest) (cond b new old ∷ rest)
pair_by at old new rest true is next = record { before = []; behind = new ∷ rest; was = refl; is = refl; at_is = eqb-true old.guid.0 at.0 is }
pair_by at old new rest false is next = record { before = old ∷ []; behind = rest; was = refl; is = refl; at_is = eqb-true new.guid.0 at.0 (next is) }

pair_taken : (at : Guid) (old new : LeafVdev) (rest : List LeafVdev) → (is_at at old || (is_at at new || false)) ≡ true
    → TakenOut at (cond (is_at at old) old new) (old ∷ new ∷ rest) (other at old new ∷ rest)
pair_taken at old new rest some = pair_by at old new rest (is_at at old) refl (either (is_at at old) (is_at at new) some)

taken_behind : (at : Guid) (leaf : LeafVdev) (front xs ys : List LeafVdev) → TakenOut at leaf xs ys → TakenOut at leaf (front ++ xs) (front ++ ys)
taken_behind at leaf front xs ys t = record {
  before = front ++ t.before;
  behind = t.behind;
  was = ap (λ ls. front ++ ls) t.was ∙ sym (append_assoc front t.before (leaf ∷ t.behind));
  is = ap (λ ls. front ++ ls) t.is ∙ sym (append_assoc front t.before t.behind);
  at_is = t.at_is;
}

taken_before : (at : Guid) (leaf : LeafVdev) (rest xs ys : List LeafVdev) → TakenOut at leaf xs ys → TakenOut at leaf (xs ++ rest) (ys ++ rest)
taken_before at leaf rest xs ys t = record {
  before = t.before;
  behind = t.behind ++ rest;
  was = ap (λ ls. ls ++ rest) t.was ∙ append_assoc t.before (leaf ∷ t.behind) rest;
  is = ap (λ ls. ls ++ rest) t.is ∙ append_assoc t.before t.behind rest;
  at_is = t.at_is;
}

-- a leaf is cut out of a child

cuts_to : (at : Guid) (leaf : LeafVdev) (v : Vdev) (c x : Child) → pruned at c ≡ x ∷ [] → IsChild v x → TakenOut at leaf (child_leaves c) (child_leaves x) → Cuts at leaf (Some v) c
cuts_to at leaf v c x is child taken = record {
  rest_is = subst (IsRest (Some v)) (sym is) (x, child, refl);
  taken = subst (λ cs. TakenOut at leaf (child_leaves c) (flat_map child_leaves cs)) (sym is)
      (subst (TakenOut at leaf (child_leaves c)) (sym (append-nil (child_leaves x))) taken);
}

pub cuts_leaf : (at : Guid) (child : Vdev) (leaf : LeafVdev) → child ≡ Leaf leaf → (some : (c : Child) × IsChild child c × (has at c ≡ true)) → (c : Child) → IsChild child c → Cuts at leaf None c
cuts_leaf at child leaf is some (alone (only l)) child_is =
    let same : leaf ≡ l = same_leaf leaf l (sym is ∙ child_is) in
    let here : has at (alone (only l)) ≡ true = ap (has at) (same_child child (alone (only l)) some.0 child_is some.1) ∙ some.2 in
    subst (λ x. Cuts at x None (alone (only l))) (sym same)
    (record { rest_is = refl; taken = record { before = []; behind = []; was = refl; is = refl; at_is = eqb-true l.guid.0 at.0 (or_false (is_at at l) here) } })
cuts_leaf at child leaf is some (alone (replacing guid old new)) child_is = absurd (leaf_no_inner leaf child_is.inner (sym is ∙ child_is.is))
cuts_leaf at child leaf is some (spared guid first spare second) child_is = absurd (leaf_no_inner leaf child_is.2.inner (sym is ∙ child_is.2.is))

-- what a vdev of this kind must be

pub is_pair : (child : Vdev) (inner : InnerVdev) → child ≡ Inner inner → (inner.kind ≡ Spare → ⊥) → (c : Child) → IsChild child c
    → (old : LeafVdev) × (new : LeafVdev) × (inner.children.items ≡ Leaf old ∷ Leaf new ∷ [])
is_pair child inner is no_spare (alone (only leaf)) child_is = absurd (leaf_no_inner leaf inner (sym child_is ∙ is))
is_pair child inner is no_spare (alone (replacing guid old new)) child_is = (old, new, (inner_facts child guid Replacing _ inner child_is is).2)
is_pair child inner is no_spare (spared guid first spare second) child_is = absurd (no_spare (inner_facts child guid Spare _ inner child_is.2 is).1)

pub cuts_pair : (at : Guid) (child : Vdev) (inner : InnerVdev) (leaf : LeafVdev) (rest : Option Vdev) → child ≡ Inner inner → (inner.kind ≡ Spare → ⊥)
    → (some : (c : Child) × IsChild child c × (has at c ≡ true))
    → ((old new : LeafVdev) → inner.children.items ≡ Leaf old ∷ Leaf new ∷ [] → leaf ≡ cond (is_at at old) old new)
    → ((old new : LeafVdev) → inner.children.items ≡ Leaf old ∷ Leaf new ∷ [] → rest ≡ Some (Leaf (other at old new)))
    → (c : Child) → IsChild child c → Cuts at leaf rest c
cuts_pair at child inner leaf rest is no_spare some gone stays (alone (only l)) child_is = absurd (leaf_no_inner l inner (sym child_is ∙ is))
cuts_pair at child inner leaf rest is no_spare some gone stays (alone (replacing guid old new)) child_is =
    let items = (inner_facts child guid Replacing _ inner child_is is).2 in
    let here : has at (alone (replacing guid old new)) ≡ true = ap (has at) (same_child child (alone (replacing guid old new)) some.0 child_is some.1) ∙ some.2 in
    subst (λ x. Cuts at x rest (alone (replacing guid old new))) (sym (gone old new items))
    (subst (λ x. Cuts at (cond (is_at at old) old new) x (alone (replacing guid old new))) (sym (stays old new items))
    (cuts_to at (cond (is_at at old) old new) (Leaf (other at old new)) (alone (replacing guid old new)) (alone (only (other at old new))) refl refl (pair_taken at old new [] here)))
cuts_pair at child inner leaf rest is no_spare some gone stays (spared guid first spare second) child_is = absurd (no_spare (inner_facts child guid Spare _ inner child_is.2 is).1)

not_spare : Replacing ≡ Spare → ⊥
not_spare e = cc

pub is_spared : (at : Guid) (child : Vdev) (inner : InnerVdev) → child ≡ Inner inner → inner.kind ≡ Spare → (c : Child) → IsChild child c → has at c ≡ true
    → (below : Vdev) × (m : Member) × (s : LeafVdev) × (t : Option LeafVdev) × IsMember below m × (inner.children.items ≡ below ∷ spare_vdevs s t) × (has at (spared inner.guid m s t) ≡ true)
is_spared at child inner is kind (alone (only leaf)) child_is here = absurd (leaf_no_inner leaf inner (sym child_is ∙ is))
is_spared at child inner is kind (alone (replacing guid old new)) child_is here = absurd (not_spare (sym (inner_facts child guid Replacing _ inner child_is is).1 ∙ kind))
is_spared at child inner is kind (spared guid first spare second) child_is here =
    (child_is.0, first, spare, second, child_is.1, (inner_facts child guid Spare _ inner child_is.2 is).2, here)

pub cuts_spared : (at : Guid) (child : Vdev) (inner : InnerVdev) (leaf : LeafVdev) (rest : Option Vdev) → child ≡ Inner inner → inner.kind ≡ Spare
    → ((below : Vdev) (m : Member) (s : LeafVdev) (t : Option LeafVdev) → IsMember below m → inner.children.items ≡ below ∷ spare_vdevs s t → Cuts at leaf rest (spared inner.guid m s t))
    → (c : Child) → IsChild child c → Cuts at leaf rest c
cuts_spared at child inner leaf rest is kind each (alone (only l)) child_is = absurd (leaf_no_inner l inner (sym child_is ∙ is))
cuts_spared at child inner leaf rest is kind each (alone (replacing guid old new)) child_is =
    absurd (not_spare (sym (inner_facts child guid Replacing _ inner child_is is).1 ∙ kind))
cuts_spared at child inner leaf rest is kind each (spared guid first spare second) child_is =
    let f = inner_facts child guid Spare _ inner child_is.2 is in
    subst (λ g. Cuts at leaf rest (spared g first spare second)) f.0 (each child_is.0 first spare second child_is.1 f.2)

-- the leaf is under the first child of a spare vdev

promoted_leaves : (guid : Guid) (s : LeafVdev) (t : Option LeafVdev) → child_leaves (promoted guid s t) ≡ spare_leaves s t
promoted_leaves guid s None = refl
promoted_leaves guid s (Some u) = refl

first_leaf : (at guid : Guid) (leaf s : LeafVdev) (t : Option LeafVdev) (v : Vdev) → is_at at leaf ≡ true → IsChild v (promoted guid s t) → Cuts at leaf (Some v) (spared guid (only leaf) s t)
first_leaf at guid leaf s t v here is =
    cuts_to at leaf v (spared guid (only leaf) s t) (promoted guid s t) (ap (λ b. cond b (promoted guid s t) (unspared at guid (only leaf) s t) ∷ []) here) is
    (record { before = []; behind = spare_leaves s t; was = refl; is = promoted_leaves guid s t; at_is = eqb-true leaf.guid.0 at.0 here })

pub cuts_first_leaf : (at guid : Guid) (first : Vdev) (leaf : LeafVdev) (v : Vdev) (items : List Vdev) → first ≡ Leaf leaf
    → (some : (m : Member) × (s : LeafVdev) × (t : Option LeafVdev) × IsMember first m × (items ≡ spare_vdevs s t) × (list_any (is_at at) (member_leaves m) ≡ true))
    → ((s : LeafVdev) (t : Option LeafVdev) → items ≡ spare_vdevs s t → IsChild v (promoted guid s t))
    → (m : Member) (s : LeafVdev) (t : Option LeafVdev) → IsMember first m → items ≡ spare_vdevs s t → Cuts at leaf (Some v) (spared guid m s t)
cuts_first_leaf at guid first leaf v items is some each (only l) s t member items_are =
    let same : leaf ≡ l = same_leaf leaf l (sym is ∙ member) in
    let here : list_any (is_at at) (l ∷ []) ≡ true = ap (λ m. list_any (is_at at) (member_leaves m)) (same_member first (only l) some.0 member some.3) ∙ some.5 in
    subst (λ x. Cuts at x (Some v) (spared guid (only l) s t)) (sym same) (first_leaf at guid l s t v (or_false (is_at at l) here) (each s t items_are))
cuts_first_leaf at guid first leaf v items is some each (replacing g old new) s t member items_are = absurd (leaf_no_inner leaf member.inner (sym is ∙ member.is))

pub first_pair : (first : Vdev) (inner : InnerVdev) → first ≡ Inner inner → (m : Member) → IsMember first m → (old : LeafVdev) × (new : LeafVdev) × (inner.children.items ≡ Leaf old ∷ Leaf new ∷ [])
first_pair first inner is (only l) member = absurd (leaf_no_inner l inner (sym member ∙ is))
first_pair first inner is (replacing g old new) member = (old, new, (inner_facts first g Replacing _ inner member is).2)

pub cuts_first_pair : (at guid : Guid) (first : Vdev) (inner now : InnerVdev) (gone stays : LeafVdev) (items : List Vdev) → first ≡ Inner inner → now.guid ≡ guid → now.kind ≡ Spare
    → now.children.items ≡ Leaf stays ∷ items
    → (some : (m : Member) × (s : LeafVdev) × (t : Option LeafVdev) × IsMember first m × (items ≡ spare_vdevs s t) × (list_any (is_at at) (member_leaves m) ≡ true))
    → ((old new : LeafVdev) → inner.children.items ≡ Leaf old ∷ Leaf new ∷ [] → gone ≡ cond (is_at at old) old new)
    → ((old new : LeafVdev) → inner.children.items ≡ Leaf old ∷ Leaf new ∷ [] → stays ≡ other at old new)
    → (m : Member) (s : LeafVdev) (t : Option LeafVdev) → IsMember first m → items ≡ spare_vdevs s t → Cuts at gone (Some (Inner now)) (spared guid m s t)
cuts_first_pair at guid first inner now gone stays items is g kind put some goes stay (only l) s t member items_are = absurd (leaf_no_inner l inner (sym member ∙ is))
cuts_first_pair at guid first inner now gone stays items is g kind put some goes stay (replacing h old new) s t member items_are =
    let pair = (inner_facts first h Replacing _ inner member is).2 in
    let here : list_any (is_at at) (old ∷ new ∷ []) ≡ true = ap (λ m. list_any (is_at at) (member_leaves m)) (same_member first (replacing h old new) some.0 member some.3) ∙ some.5 in
    let c = spared guid (replacing h old new) s t in
    let x = spared guid (only (other at old new)) s t in
    subst (λ y. Cuts at y (Some (Inner now)) c) (sym (goes old new pair))
    (cuts_to at (cond (is_at at old) old new) (Inner now) c x
    (ap (λ b. cond b x (unspared at guid (replacing h old new) s t) ∷ []) (two_of (is_at at old) (is_at at new) here))
    (Leaf stays, ap Leaf (stay old new pair), record { inner = now; is = refl; guid_is = g; kind_is = kind; items_are = put ∙ ap (λ vs. Leaf stays ∷ vs) items_are })
    (pair_taken at old new (spare_leaves s t) here))

-- the leaf is a spare leaf

unspares : (at guid : Guid) (m : Member) (s : LeafVdev) (t : Option LeafVdev) → list_any (is_at at) (member_leaves m) ≡ false → pruned at (spared guid m s t) ≡ unspared at guid m s t ∷ []
unspares at guid (only l) s t none = ap (λ b. cond b (promoted guid s t) (unspared at guid (only l) s t) ∷ []) (no_more (is_at at l) none)
unspares at guid (replacing h old new) s t none =
    ap (λ b. cond b (spared guid (only (other at old new)) s t) (unspared at guid (replacing h old new) s t) ∷ []) (neither (is_at at old) (is_at at new) none)

spare_here : (at guid : Guid) (m : Member) (s : LeafVdev) (t : Option LeafVdev) → list_any (is_at at) (member_leaves m) ≡ false → has at (spared guid m s t) ≡ true
    → list_any (is_at at) (spare_leaves s t) ≡ true
spare_here at guid m s t none here =
    behind_none (list_any (is_at at) (member_leaves m)) (list_any (is_at at) (spare_leaves s t)) (sym (list_any-append (is_at at) (member_leaves m) (spare_leaves s t)) ∙ here) none

last_spare : (at guid : Guid) (m : Member) (s : LeafVdev) (first : Vdev) → IsMember first m → list_any (is_at at) (member_leaves m) ≡ false → list_any (is_at at) (s ∷ []) ≡ true
    → Cuts at s (Some first) (spared guid m s None)
last_spare at guid m s first member none here =
    cuts_to at s first (spared guid m s None) (alone m) (unspares at guid m s None none) member
    (record { before = member_leaves m; behind = []; was = refl; is = sym (append-nil (member_leaves m)); at_is = eqb-true s.guid.0 at.0 (or_false (is_at at s) here) })

one_spare : (at guid : Guid) (m : Member) (s u : LeafVdev) (first : Vdev) (now : InnerVdev) → IsMember first m → list_any (is_at at) (member_leaves m) ≡ false → list_any (is_at at) (s ∷ u ∷ []) ≡ true
    → now.guid ≡ guid → now.kind ≡ Spare → now.children.items ≡ first ∷ Leaf (other at s u) ∷ [] → Cuts at (cond (is_at at s) s u) (Some (Inner now)) (spared guid m s (Some u))
one_spare at guid m s u first now member none here g kind items =
    cuts_to at (cond (is_at at s) s u) (Inner now) (spared guid m s (Some u)) (spared guid m (other at s u) None) (unspares at guid m s (Some u) none)
    (first, member, record { inner = now; is = refl; guid_is = g; kind_is = kind; items_are = items })
    (taken_behind at (cond (is_at at s) s u) (member_leaves m) (s ∷ u ∷ []) (other at s u ∷ []) (pair_taken at s u [] here))

-- a spare leaf goes and none is left, or one

no_two : (x y : Vdev) (vdevs : List Vdev) → length (x ∷ y ∷ vdevs) ≡ 1 → ⊥
no_two x y vdevs one = absurd (omega (arith, one))

same_spares : (s s' : LeafVdev) (t t' : Option LeafVdev) → spare_vdevs s t ≡ spare_vdevs s' t' → spare_leaves s t ≡ spare_leaves s' t'
same_spares s s' None None e = let h : Leaf s ≡ Leaf s' = cc in ap (λ l. l ∷ []) (same_leaf s s' h)
same_spares s s' None (Some u') e = absurd (no_two (Leaf s') (Leaf u') [] (sym (ap length e)))
same_spares s s' (Some u) None e = absurd (no_two (Leaf s) (Leaf u) [] (ap length e))
same_spares s s' (Some u) (Some u') e =
    let h : Leaf s ≡ Leaf s' = cc in
    let k : Leaf u ≡ Leaf u' = cc in
    ap (λ l. l ∷ u ∷ []) (same_leaf s s' h) ∙ ap (λ l. s' ∷ l ∷ []) (same_leaf u u' k)

first_spare : (s : LeafVdev) (t : Option LeafVdev) (v : Vdev) → get_or (spare_vdevs s t) 0 v ≡ Leaf s
first_spare s None v = refl
first_spare s (Some u) v = refl

pub cuts_last : (at guid : Guid) (first : Vdev) (leaf : LeafVdev) (items : List Vdev) → length items ≡ 1 → ((d : LeafVdev) → items ≡ Leaf d ∷ [] → leaf ≡ d)
    → (some : (m : Member) × (s : LeafVdev) × (t : Option LeafVdev) × IsMember first m × (items ≡ spare_vdevs s t) × (list_any (is_at at) (member_leaves m) ≡ false) × (has at (spared guid m s t) ≡ true))
    → (m : Member) (s : LeafVdev) (t : Option LeafVdev) → IsMember first m → items ≡ spare_vdevs s t → Cuts at leaf (Some first) (spared guid m s t)
cuts_last at guid first leaf items one gone some m s (Some u) member items_are = absurd (no_two (Leaf s) (Leaf u) [] (sym (ap length items_are) ∙ one))
cuts_last at guid first leaf items one gone some m s None member items_are =
    let same = same_member first m some.0 member some.3 in
    let none : list_any (is_at at) (member_leaves m) ≡ false = ap (λ x. list_any (is_at at) (member_leaves x)) same ∙ some.5 in
    let spares : spare_leaves s None ≡ spare_leaves some.1 some.2 = same_spares s some.1 None some.2 (sym items_are ∙ some.4) in
    subst (λ x. Cuts at x (Some first) (spared guid m s None)) (sym (gone s items_are))
    (last_spare at guid m s first member none (ap (list_any (is_at at)) spares ∙ spare_here at guid some.0 some.1 some.2 some.5 some.6))

pub cuts_one : (at guid : Guid) (first : Vdev) (gone stays : LeafVdev) (now : InnerVdev) (items : List Vdev) → (length items ≡ 1 → ⊥) → now.guid ≡ guid → now.kind ≡ Spare
    → now.children.items ≡ first ∷ Leaf stays ∷ []
    → ((old new : LeafVdev) → items ≡ Leaf old ∷ Leaf new ∷ [] → gone ≡ cond (is_at at old) old new)
    → ((old new : LeafVdev) → items ≡ Leaf old ∷ Leaf new ∷ [] → stays ≡ other at old new)
    → (some : (m : Member) × (s : LeafVdev) × (t : Option LeafVdev) × IsMember first m × (items ≡ spare_vdevs s t) × (list_any (is_at at) (member_leaves m) ≡ false) × (has at (spared guid m s t) ≡ true))
    → (m : Member) (s : LeafVdev) (t : Option LeafVdev) → IsMember first m → items ≡ spare_vdevs s t → Cuts at gone (Some (Inner now)) (spared guid m s t)
cuts_one at guid first gone stays now items two g kind put goes stay some m s None member items_are = absurd (two (ap length items_are))
cuts_one at guid first gone stays now items two g kind put goes stay some m s (Some u) member items_are =
    let same = same_member first m some.0 member some.3 in
    let none : list_any (is_at at) (member_leaves m) ≡ false = ap (λ x. list_any (is_at at) (member_leaves x)) same ∙ some.5 in
    let spares : spare_leaves s (Some u) ≡ spare_leaves some.1 some.2 = same_spares s some.1 (Some u) some.2 (sym items_are ∙ some.4) in
    subst (λ x. Cuts at x (Some (Inner now)) (spared guid m s (Some u))) (sym (goes s u items_are))
    (one_spare at guid m s u first now member none (ap (list_any (is_at at)) spares ∙ spare_here at guid some.0 some.1 some.2 some.5 some.6) g kind
    (put ∙ ap (λ l. first ∷ Leaf l ∷ []) (stay s u items_are)))

pub two_spares : (items : List Vdev) (s : LeafVdev) (t : Option LeafVdev) → items ≡ spare_vdevs s t → (length items ≡ 1 → ⊥) → (old : LeafVdev) × (new : LeafVdev) × (items ≡ Leaf old ∷ Leaf new ∷ [])
two_spares items s None are two = absurd (two (ap length are))
two_spares items s (Some u) are two = (s, u, are)

pub one_spare_is : (items : List Vdev) (v : Vdev) (s : LeafVdev) (t : Option LeafVdev) → items ≡ spare_vdevs s t → length items ≡ 1 → v ≡ get_or items 0 v → (leaf : LeafVdev) × (v ≡ Leaf leaf)
one_spare_is items v s t are one at_is = (s, at_is ∙ ap (λ vs. get_or vs 0 v) are ∙ first_spare s t v)

-- the mirror afterwards

zip_rest : (rest : Option Vdev) (children : List Child) → IsRest rest children → AllZip IsChild (option_to_list rest) children
zip_rest None children is = subst (AllZip IsChild []) (sym is) tt
zip_rest (Some v) children is = subst (AllZip IsChild (v ∷ [])) (sym is.2) (is.1, tt)

zip_append : (vs : List Vdev) (cs : List Child) (vdevs : List Vdev) (children : List Child) → AllZip IsChild vs cs → AllZip IsChild vdevs children → AllZip IsChild (vs ++ vdevs) (cs ++ children)
zip_append [] [] vdevs children here are = are
zip_append [] (c ∷ cs) vdevs children here are = absurd here
zip_append (v ∷ vs) [] vdevs children here are = absurd here
zip_append (v ∷ vs) (c ∷ cs) vdevs children here are = (here.0, zip_append vs cs vdevs children here.1 are)

zip_cut : (vdevs : List Vdev) (children : List Child) (i : ℕ) (vs : List Vdev) (cs : List Child) → AllZip IsChild vdevs children → AllZip IsChild vs cs → i < length children
    → AllZip IsChild (take i vdevs ++ (vs ++ drop (suc i) vdevs)) (take i children ++ (cs ++ drop (suc i) children))
zip_cut [] [] i vs cs are here inside = absurd (omega arith)
zip_cut [] (c ∷ children) i vs cs are here inside = absurd are
zip_cut (v ∷ vdevs) [] i vs cs are here inside = absurd are
zip_cut (v ∷ vdevs) (c ∷ children) zero vs cs are here inside = zip_append vs cs vdevs children here are.1
zip_cut (v ∷ vdevs) (c ∷ children) (suc i) vs cs are here inside = (are.0, zip_cut vdevs children i vs cs are.1 here (omega arith))

pruned_few : (at : Guid) (c : Child) → length (pruned at c) ≤ 1
pruned_few at (alone (only leaf)) = omega arith
pruned_few at (alone (replacing guid old new)) = omega arith
pruned_few at (spared guid (only leaf) s t) = omega arith
pruned_few at (spared guid (replacing number old new) s t) = omega arith

pruned_some : (at : Guid) (c : Child) → is_single (c ∷ []) ≡ false → 1 ≤ length (pruned at c)
pruned_some at (alone (only leaf)) stays = absurd (false≢true (sym stays))
pruned_some at (alone (replacing guid old new)) stays = omega arith
pruned_some at (spared guid (only leaf) s t) stays = omega arith
pruned_some at (spared guid (replacing number old new) s t) stays = omega arith

cut_some : (at : Guid) (children : List Child) (i : ℕ) (d : Child) → i < length children → is_single children ≡ false
    → 1 ≤ length (take i children ++ (pruned at (get_or children i d) ++ drop (suc i) children))
cut_some at [] i d inside stays = absurd (omega arith)
cut_some at (c ∷ []) zero d inside stays = omega (arith, length-append (pruned at c) [], pruned_some at c stays)
cut_some at (c ∷ []) (suc i) d inside stays = omega arith
cut_some at (c ∷ e ∷ children) zero d inside stays = omega (arith, length-append (pruned at c) (e ∷ children))
cut_some at (c ∷ e ∷ children) (suc i) d inside stays = omega arith

cut_few : (at : Guid) (children : List Child) (i : ℕ) (d : Child) → i < length children
    → length (take i children ++ (pruned at (get_or children i d) ++ drop (suc i) children)) ≤ length children
cut_few at [] i d inside = absurd (omega arith)
cut_few at (c ∷ children) zero d inside = omega (arith, length-append (pruned at c) children, pruned_few at c)
cut_few at (c ∷ children) (suc i) d inside = omega (arith, cut_few at children i d (omega arith))

removed_put : (vdevs : List Vdev) (i : ℕ) (rest : List Vdev) → i < length vdevs → take i (remove vdevs i) ++ (rest ++ drop i (remove vdevs i)) ≡ take i vdevs ++ (rest ++ drop (suc i) vdevs)
removed_put [] i rest inside = absurd (omega arith)
removed_put (v ∷ vdevs) zero rest inside = refl
removed_put (v ∷ vdevs) (suc i) rest inside = ap (λ vs. v ∷ vs) (removed_put vdevs i rest (omega arith))

-- what a cut leaves of a mirror
module _ (at : Guid) (old new : InnerVdev) (i : ℕ) (here : Vdev) (leaf : LeafVdev) (rest : Option Vdev) (top : is_top (Inner old) ≡ true) (inside : i < length (children_of (Inner old)))
    (found : (d : Child) → has at (get_or (children_of (Inner old)) i d) ≡ true) (stays : is_single (children_of (Inner old)) ≡ false) (kind : new.kind ≡ old.kind)
    (at_is : here ≡ get_or old.children.items i here) (left : List Vdev) (left_is : left ≡ remove old.children.items i)
    (items : new.children.items ≡ take i left ++ (option_to_list rest ++ drop i left))
    (cuts : (c : Child) → IsChild here c → Cuts at leaf rest c) where
  before : IsOver old (children_of (Inner old))
  before = over_top (Inner old) old refl top

  that : (d : Child) → Cuts at leaf rest (get_or (children_of (Inner old)) i d)
  that d = cuts _ (child_there (Inner old) old i here d refl top inside at_is)

  after : Child → List Child
  after d = take i (children_of (Inner old)) ++ (pruned at (get_or (children_of (Inner old)) i d) ++ drop (suc i) (children_of (Inner old)))

  cut_over : (d : Child) → IsOver new (after d)
  unfolding after
  cut_over d = record {
    kind_is = kind ∙ before.kind_is;
    are = subst (λ vs. AllZip IsChild vs (after d))
        (sym (items ∙ ap (λ vs. take i vs ++ (option_to_list rest ++ drop i vs)) left_is ∙ removed_put old.children.items i (option_to_list rest) (omega (arith, inside, length_zip old.children.items _ before.are))))
        (zip_cut old.children.items (children_of (Inner old)) i (option_to_list rest) (pruned at (get_or (children_of (Inner old)) i d)) before.are (zip_rest rest _ (that d).rest_is) inside);
    some = cut_some at (children_of (Inner old)) i d inside stays;
    few = omega (arith, before.few, cut_few at (children_of (Inner old)) i d inside);
  }

  pub cut_top : Child → is_top (Inner new) ≡ true
  cut_top d = (top_over new (after d) (cut_over d)).0

  pub cut_tree : Child → Edits (has at) (pruned at) (children_of (Inner old)) (children_of (Inner new))
  unfolding after
  cut_tree d = record {
    before = take i (children_of (Inner old));
    child = get_or (children_of (Inner old)) i d;
    behind = drop (suc i) (children_of (Inner old));
    was = get_split (children_of (Inner old)) i d inside;
    is = (top_over new (after d) (cut_over d)).1;
    may_be = found d;
  }

  pub cut_leaves : Child → TakenOut at leaf (leaves (Inner old)) (leaves (Inner new))
  unfolding cut_tree
  cut_leaves d =
      let e = cut_tree d in
      let ls = flat_map child_leaves in
      subst (λ x. TakenOut at leaf x (leaves (Inner new)))
      (sym (mirror_leaves (Inner old) _ (top_is (Inner old) top) ∙ ap ls e.was ∙ flat_map-append child_leaves e.before (e.child ∷ e.behind)))
      (subst (TakenOut at leaf (ls e.before ++ (child_leaves e.child ++ ls e.behind)))
      (sym (mirror_leaves (Inner new) _ (top_is (Inner new) (cut_top d)) ∙ ap ls e.is ∙ flat_map-append child_leaves e.before (pruned at e.child ++ e.behind)
      ∙ ap (λ x. ls e.before ++ x) (flat_map-append child_leaves (pruned at e.child) e.behind)))
      (taken_behind at leaf (ls e.before) (child_leaves e.child ++ ls e.behind) (ls (pruned at e.child) ++ ls e.behind)
      (taken_before at leaf (ls e.behind) (child_leaves e.child) (ls (pruned at e.child)) (that d).taken)))

prune_by : (b : Bool) (x : Option Refusal) (w n : Refusal) → cond b x (Some (cond b w n)) ≡ cond b x (Some n)
prune_by true x w n = refl
prune_by false x w n = refl

pub prune_same : (at : Guid) (children : List Child) → refusal_of Prune at children ≡ prune_refusal at children
prune_same at children = prune_by (list_any (has at) children) (prune_limit children) (refusals.WrongPlace rules.Role) refusals.NoVdev

single_stays : (b c : Bool) (x y : Refusal) → cond b (cond c (Some x) None) (Some y) ≡ None → c ≡ false
single_stays true true x y is = absurd (none-some x (sym is))
single_stays true false x y is = refl
single_stays false c x y is = absurd (none-some y (sym is))

pub not_single : (at : Guid) (children : List Child) → refusal_of Prune at children ≡ None → is_single children ≡ false
not_single at children none = single_stays (list_any (has at) children) (is_single children) (refusals.WrongPlace rules.Role) (misplaced at children) none

-- a spare vdev over two leaves is left

pub promoted_is : (spare : InnerVdev) (s : LeafVdev) (t : Option LeafVdev) → spare.kind ≡ Spare → spare.children.items ≡ spare_vdevs s t → (length spare.children.items ≡ 1 → ⊥)
    → IsChild (Inner spare) (promoted spare.guid s t)
promoted_is spare s None kind items two = absurd (two (ap length items))
promoted_is spare s (Some u) kind items two = (Leaf s, refl, record { inner = spare; is = refl; guid_is = refl; kind_is = kind; items_are = items })

-- the first child is looked at alone

module _ (at guid : Guid) (items left : List Vdev) (first : Vdev) (at_is : first ≡ get_or items 0 first) (left_is : left ≡ remove items 0) where
  first_is : (below : Vdev) (rest : List Vdev) → items ≡ below ∷ rest → first ≡ below
  first_is below rest is = at_is ∙ ap (λ vs. get_or vs 0 first) is

  rest_is : (below : Vdev) (rest : List Vdev) → items ≡ below ∷ rest → left ≡ rest
  rest_is below rest is = left_is ∙ ap (λ vs. remove vs 0) is

  pub holds_first : (r b : Bool) → r ≡ list_any (is_at at) (leaves first) → r ≡ b
      → (some : (below : Vdev) × (m : Member) × (s : LeafVdev) × (t : Option LeafVdev) × IsMember below m × (items ≡ below ∷ spare_vdevs s t) × (has at (spared guid m s t) ≡ true))
      → IsMember first some.1 × (left ≡ spare_vdevs some.2 some.3) × (list_any (is_at at) (member_leaves some.1) ≡ b)
  holds_first r b is value some =
      let member : IsMember first some.1 = subst (λ v. IsMember v some.1) (sym (first_is some.0 (spare_vdevs some.2 some.3) some.5)) some.4 in
      (member, rest_is some.0 (spare_vdevs some.2 some.3) some.5, ap (list_any (is_at at)) (sym (member_leaves_are first some.1 member)) ∙ sym is ∙ value)

  pub each_spared : (leaf : LeafVdev) (rest : Option Vdev)
      → ((m : Member) (s : LeafVdev) (t : Option LeafVdev) → IsMember first m → left ≡ spare_vdevs s t → Cuts at leaf rest (spared guid m s t))
      → (below : Vdev) (m : Member) (s : LeafVdev) (t : Option LeafVdev) → IsMember below m → items ≡ below ∷ spare_vdevs s t → Cuts at leaf rest (spared guid m s t)
  each_spared leaf rest each below m s t member is =
      each m s t (subst (λ v. IsMember v m) (sym (first_is below (spare_vdevs s t) is)) member) (rest_is below (spare_vdevs s t) is)

pub cut_requires : (at : Guid) (vdev : Vdev) (inner : InnerVdev) (i : ℕ) (here : Vdev) → vdev ≡ Inner inner → is_top vdev ≡ true → i < length (children_of vdev)
    → here ≡ get_or inner.children.items i here → ((d : Child) → has at (get_or (children_of vdev) i d) ≡ true) → (c : Child) × IsChild here c × (has at c ≡ true)
cut_requires at vdev inner i here is top inside at_is found =
    let are = (over_top vdev inner is top).are in
    let d = (some_child inner.children.items (children_of vdev) i here are (omega (arith, inside, length_zip inner.children.items (children_of vdev) are)) at_is).0 in
    (get_or (children_of vdev) i d, child_there vdev inner i here d is top inside at_is, found d)

pub no_spare : (inner : InnerVdev) (r : Bool) → r ≡ is_spare_kind inner.kind → r ≡ false → inner.kind ≡ Spare → ⊥
no_spare inner r is no_one kind = false≢true (sym no_one ∙ is ∙ ap is_spare_kind kind)
