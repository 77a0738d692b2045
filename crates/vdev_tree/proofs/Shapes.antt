-- A valid tree, child by child: what each child is, and what follows of it.
use Rattle.std.proofs.Common.{◌≡◌, ℕ, ◌≤◌, true, ◌&&◌, ◌||◌, ◌==◌, nat_le, inl, inr, Option, Some, None, List, [], ◌∷◌, ◌++◌, map, length, refl, ap, sym, ◌∙◌, subst, arith, append_assoc}
use Rattle.std.specs.List.{list_all, flat_map, AllZip}
use Rattle.std.proofs.lemmas.Bool.{false≢true, eqb-true}
use Rattle.std.proofs.lemmas.Bool.Decides.{nat_tests}
use Rattle.mp_base.specs.declared.number.Guid.{Guid}
use Rattle.vdev_tree.specs.declared.vdev.Kind.{Kind}
use Rattle.vdev_tree.specs.declared.vdev.Kind.TheVariants.{Mirror, Replacing, Spare}
use Rattle.vdev_tree.specs.declared.vdev.Vdev.{Vdev}
use Rattle.vdev_tree.specs.declared.vdev.InnerVdev.{InnerVdev}
use Rattle.vdev_tree.specs.declared.vdev.LeafVdev.{LeafVdev}
use Rattle.vdev_tree.specs.declared.vdev.Vdev.TheVariants.{Leaf, Inner}
use Rattle.vdev_tree.specs.Tree.{Form, a_mirror, no_form, guid_of, leaves, marks, form_of, form_over, form_of_replacing, form_of_spare, form_of_mirror, is_leaf, is_replacing, is_spare, is_mirror, is_top, is_mirror_kind, is_replacing_kind, is_spare_kind, may_be_spared, may_be_mirrored, a_leaf, a_replacing, a_spare, opening, closing, leaf_mark}
use Rattle.vdev_tree.specs.Children.{Member, Child, only, replacing, alone, spared, a_child, part_of, part_over, children_of, children_at, children_in, IsInner, IsMember, IsChild, spare_vdevs, member_leaves, child_leaves, member_marks, child_marks}
use Rattle.vdev_tree.proofs.Folds.{leaves_leaf, leaves_inner, form_leaf, form_inner, guid_inner, marks_at_leaf, marks_inner, part_leaf, part_inner}
use Rattle.vdev_tree.proofs.Forms.{inner_is_no_leaf, leaf_replaces, inner_replaces, two_leaves, leaf_spares, inner_spares, spared_children, spared_forms, mirrored_forms, leaf_mirrors, inner_mirrors, mirrored_children}
use Rattle.vdev_tree.proofs.Sizes.{leaf_or_inner, first_of, second_of, either_of, below}

-- from the form of a vdev to what it is

pub leaf_is_one : (vdev : Vdev) → is_leaf (form_of vdev) ≡ true → (leaf : LeafVdev) × (vdev ≡ Leaf leaf)
leaf_is_one vdev form = elim (leaf_or_inner vdev) [
  | inl l ↦ (l.0, l.1)
  | inr i ↦ absurd (false≢true (sym (ap (λ v. is_leaf (form_of v)) i.1 ∙ inner_is_no_leaf i.0) ∙ form))
]

is_kind_replacing : (kind : Kind) → is_replacing_kind kind ≡ true → kind ≡ Replacing
is_kind_replacing Mirror is = absurd (false≢true is)
is_kind_replacing Replacing is = refl
is_kind_replacing Spare is = absurd (false≢true is)

pub is_kind_spare : (kind : Kind) → is_spare_kind kind ≡ true → kind ≡ Spare
is_kind_spare Mirror is = absurd (false≢true is)
is_kind_spare Replacing is = absurd (false≢true is)
is_kind_spare Spare is = refl

is_kind_mirror : (kind : Kind) → is_mirror_kind kind ≡ true → kind ≡ Mirror
is_kind_mirror Mirror is = refl
is_kind_mirror Replacing is = absurd (false≢true is)
is_kind_mirror Spare is = absurd (false≢true is)

pair_of : (vdevs : List Vdev) → list_all (λ vdev. is_leaf (form_of vdev)) vdevs ≡ true → length vdevs ≡ 2
    → (old : LeafVdev) × (new : LeafVdev) × (vdevs ≡ Leaf old ∷ Leaf new ∷ [])
pair_of [] forms count = absurd (omega (arith, count))
pair_of (v ∷ []) forms count = absurd (omega (arith, count))
pair_of (v ∷ w ∷ []) forms count =
    let first = leaf_is_one v (first_of _ _ forms) in
    let second = leaf_is_one w (first_of _ _ (second_of _ _ forms)) in
    (first.0, second.0, ap (λ x. x ∷ w ∷ []) first.1 ∙ ap (λ x. Leaf first.0 ∷ x ∷ []) second.1)
pair_of (v ∷ w ∷ x ∷ vdevs) forms count = absurd (omega (arith, count))

spares_of : (vdevs : List Vdev) → list_all (λ vdev. is_leaf (form_of vdev)) vdevs ≡ true → 1 ≤ length vdevs → length vdevs ≤ 2
    → (spare : LeafVdev) × (second : Option LeafVdev) × (vdevs ≡ spare_vdevs spare second)
spares_of [] forms some few = absurd (omega arith)
spares_of (v ∷ []) forms some few = let first = leaf_is_one v (first_of _ _ forms) in (first.0, None, ap (λ x. x ∷ []) first.1)
spares_of (v ∷ w ∷ []) forms some few =
    let first = leaf_is_one v (first_of _ _ forms) in
    let second = leaf_is_one w (first_of _ _ (second_of _ _ forms)) in
    (first.0, Some second.0, ap (λ x. x ∷ w ∷ []) first.1 ∙ ap (λ x. Leaf first.0 ∷ x ∷ []) second.1)
spares_of (v ∷ w ∷ x ∷ vdevs) forms some few = absurd (omega arith)

replacing_is : (vdev : Vdev) → is_replacing (form_of vdev) ≡ true → (member : Member) × IsMember vdev member
replacing_is vdev form = elim (leaf_or_inner vdev) [
  | inl l ↦ absurd (false≢true (sym (ap (λ v. is_replacing (form_of v)) l.1 ∙ leaf_replaces l.0) ∙ form))
  | inr i ↦ (let vdevs = i.0.children.items in
      let all = sym (inner_replaces i.0) ∙ sym (ap (λ v. is_replacing (form_of v)) i.1) ∙ form in
      let both = sym (two_leaves vdevs) ∙ second_of (is_replacing_kind i.0.kind) _ all in
      let pair = pair_of vdevs (first_of _ (length vdevs == 2) both) (eqb-true (length vdevs) 2 (second_of (list_all (λ vdev. is_leaf (form_of vdev)) vdevs) (length vdevs == 2) both)) in
      (replacing i.0.guid pair.0 pair.1, record { inner = i.0; is = i.1; guid_is = refl; kind_is = is_kind_replacing i.0.kind (first_of _ _ all); items_are = pair.2 }))
]

pub member_is : (vdev : Vdev) → may_be_spared (form_of vdev) ≡ true → (member : Member) × IsMember vdev member
member_is vdev form = elim (either_of (is_leaf (form_of vdev)) (is_replacing (form_of vdev)) (sym (spared_forms (form_of vdev)) ∙ form)) [
  | inl l ↦ (let leaf = leaf_is_one vdev l in (only leaf.0, leaf.1))
  | inr r ↦ replacing_is vdev r
]

spare_items : (vdev : Vdev) (inner : InnerVdev) (vdevs : List Vdev) → vdev ≡ Inner inner → inner.kind ≡ Spare → inner.children.items ≡ vdevs
    → is_spare (form_of_spare (map form_of vdevs)) ≡ true → (child : Child) × IsChild vdev child
spare_items vdev inner [] is kind items form = absurd (false≢true form)
spare_items vdev inner (first ∷ spares) is kind items form =
    let all = sym (spared_children first spares) ∙ form in
    let tail = second_of (may_be_spared (form_of first)) _ all in
    let counts = second_of (list_all (λ vdev. is_leaf (form_of vdev)) spares) _ tail in
    let member = member_is first (first_of (may_be_spared (form_of first)) _ all) in
    let behind = spares_of spares (first_of (list_all (λ vdev. is_leaf (form_of vdev)) spares) _ tail)
    (below 1 (length spares) (first_of (nat_le 1 (length spares)) _ counts)) (below (length spares) 2 (second_of (nat_le 1 (length spares)) _ counts)) in (
      spared inner.guid member.0 behind.0 behind.1,
      (first, member.1, record { inner = inner; is = is; guid_is = refl; kind_is = kind; items_are = items ∙ ap (λ vs. first ∷ vs) behind.2 }),
    )

spare_is : (vdev : Vdev) → is_spare (form_of vdev) ≡ true → (child : Child) × IsChild vdev child
spare_is vdev form = elim (leaf_or_inner vdev) [
  | inl l ↦ absurd (false≢true (sym (ap (λ v. is_spare (form_of v)) l.1 ∙ leaf_spares l.0) ∙ form))
  | inr i ↦ (let all = sym (inner_spares i.0) ∙ sym (ap (λ v. is_spare (form_of v)) i.1) ∙ form in
      spare_items vdev i.0 i.0.children.items i.1 (is_kind_spare i.0.kind (first_of _ _ all)) refl (second_of (is_spare_kind i.0.kind) _ all))
]

pub child_is : (vdev : Vdev) → may_be_mirrored (form_of vdev) ≡ true → (child : Child) × IsChild vdev child
child_is vdev form = elim (either_of (is_leaf (form_of vdev)) (is_replacing (form_of vdev) || is_spare (form_of vdev)) (sym (mirrored_forms (form_of vdev)) ∙ form)) [
  | inl l ↦ (let leaf = leaf_is_one vdev l in (alone (only leaf.0), leaf.1))
  | inr o ↦ elim (either_of (is_replacing (form_of vdev)) (is_spare (form_of vdev)) o) [
    | inl r ↦ (let member = replacing_is vdev r in (alone member.0, member.1))
    | inr s ↦ spare_is vdev s
  ]
]

children_are : (vdevs : List Vdev) → list_all (λ vdev. may_be_mirrored (form_of vdev)) vdevs ≡ true → (children : List Child) × AllZip IsChild vdevs children
children_are [] forms = ([], tt)
children_are (v ∷ vdevs) forms =
    let first = child_is v (first_of (may_be_mirrored (form_of v)) _ forms) in
    let rest = children_are vdevs (second_of (may_be_mirrored (form_of v)) _ forms) in
    (first.0 ∷ rest.0, (first.1, rest.1))

-- from what it is to its part, its leaves, its marks and its form

part_of_inner_is : (vdev : Vdev) (guid : Guid) (kind : Kind) (items : List Vdev) → IsInner vdev guid kind items → part_of vdev ≡ part_over kind guid (map part_of items)
part_of_inner_is vdev guid kind items is =
    ap part_of is.is ∙ part_inner is.inner ∙ ap (λ k. part_over k is.inner.guid (map part_of is.inner.children.items)) is.kind_is
    ∙ ap (λ g. part_over kind g (map part_of is.inner.children.items)) is.guid_is ∙ ap (λ vs. part_over kind guid (map part_of vs)) is.items_are

leaves_of_inner_is : (vdev : Vdev) (guid : Guid) (kind : Kind) (items : List Vdev) → IsInner vdev guid kind items → leaves vdev ≡ flat_map leaves items
leaves_of_inner_is vdev guid kind items is = ap leaves is.is ∙ leaves_inner is.inner ∙ ap (flat_map leaves) is.items_are

marks_of_inner_is : (vdev : Vdev) (guid : Guid) (kind : Kind) (items : List Vdev) → IsInner vdev guid kind items → marks vdev ≡ opening guid kind ∷ (flat_map marks items ++ closing ∷ [])
marks_of_inner_is vdev guid kind items is =
    ap marks is.is ∙ marks_inner is.inner ∙ ap (λ k. opening is.inner.guid k ∷ (flat_map marks is.inner.children.items ++ closing ∷ [])) is.kind_is
    ∙ ap (λ g. opening g kind ∷ (flat_map marks is.inner.children.items ++ closing ∷ [])) is.guid_is
    ∙ ap (λ vs. opening guid kind ∷ (flat_map marks vs ++ closing ∷ [])) is.items_are

form_of_inner_is : (vdev : Vdev) (guid : Guid) (kind : Kind) (items : List Vdev) → IsInner vdev guid kind items → form_of vdev ≡ form_over kind (map form_of items)
form_of_inner_is vdev guid kind items is =
    ap form_of is.is ∙ form_inner is.inner ∙ ap (λ k. form_over k (map form_of is.inner.children.items)) is.kind_is ∙ ap (λ vs. form_over kind (map form_of vs)) is.items_are

pub member_part : (vdev : Vdev) (member : Member) → IsMember vdev member → part_of vdev ≡ a_child (alone member)
member_part vdev (only leaf) is = ap part_of is ∙ part_leaf leaf
member_part vdev (replacing guid old new) is =
    part_of_inner_is vdev guid Replacing _ is ∙ ap (λ p. part_over Replacing guid (p ∷ part_of (Leaf new) ∷ [])) (part_leaf old)
    ∙ ap (λ p. part_over Replacing guid (a_child (alone (only old)) ∷ p ∷ [])) (part_leaf new)

pub child_part : (vdev : Vdev) (child : Child) → IsChild vdev child → part_of vdev ≡ a_child child
child_part vdev (alone member) is = member_part vdev member is
child_part vdev (spared guid first spare None) is =
    part_of_inner_is vdev guid Spare _ is.2 ∙ ap (λ p. part_over Spare guid (p ∷ part_of (Leaf spare) ∷ [])) (member_part is.0 first is.1)
    ∙ ap (λ p. part_over Spare guid (a_child (alone first) ∷ p ∷ [])) (part_leaf spare)
child_part vdev (spared guid first spare (Some second)) is =
    part_of_inner_is vdev guid Spare _ is.2 ∙ ap (λ p. part_over Spare guid (p ∷ part_of (Leaf spare) ∷ part_of (Leaf second) ∷ [])) (member_part is.0 first is.1)
    ∙ ap (λ p. part_over Spare guid (a_child (alone first) ∷ p ∷ part_of (Leaf second) ∷ [])) (part_leaf spare)
    ∙ ap (λ p. part_over Spare guid (a_child (alone first) ∷ a_child (alone (only spare)) ∷ p ∷ [])) (part_leaf second)

pub member_leaves_are : (vdev : Vdev) (member : Member) → IsMember vdev member → leaves vdev ≡ member_leaves member
member_leaves_are vdev (only leaf) is = ap leaves is ∙ leaves_leaf leaf
member_leaves_are vdev (replacing guid old new) is =
    leaves_of_inner_is vdev guid Replacing _ is ∙ ap (λ ls. ls ++ (leaves (Leaf new) ++ [])) (leaves_leaf old) ∙ ap (λ ls. old ∷ (ls ++ [])) (leaves_leaf new)

pub child_leaves_are : (vdev : Vdev) (child : Child) → IsChild vdev child → leaves vdev ≡ child_leaves child
child_leaves_are vdev (alone member) is = member_leaves_are vdev member is
child_leaves_are vdev (spared guid first spare None) is =
    leaves_of_inner_is vdev guid Spare _ is.2 ∙ ap (λ ls. ls ++ (leaves (Leaf spare) ++ [])) (member_leaves_are is.0 first is.1)
    ∙ ap (λ ls. member_leaves first ++ (ls ++ [])) (leaves_leaf spare)
child_leaves_are vdev (spared guid first spare (Some second)) is =
    leaves_of_inner_is vdev guid Spare _ is.2 ∙ ap (λ ls. ls ++ (leaves (Leaf spare) ++ (leaves (Leaf second) ++ []))) (member_leaves_are is.0 first is.1)
    ∙ ap (λ ls. member_leaves first ++ (ls ++ (leaves (Leaf second) ++ []))) (leaves_leaf spare)
    ∙ ap (λ ls. member_leaves first ++ (spare ∷ (ls ++ []))) (leaves_leaf second)

pub member_marks_are : (vdev : Vdev) (member : Member) → IsMember vdev member → marks vdev ≡ member_marks member
member_marks_are vdev (only leaf) is = ap marks is ∙ marks_at_leaf leaf
member_marks_are vdev (replacing guid old new) is =
    marks_of_inner_is vdev guid Replacing _ is ∙ ap (λ ms. opening guid Replacing ∷ ((ms ++ (marks (Leaf new) ++ [])) ++ closing ∷ [])) (marks_at_leaf old)
    ∙ ap (λ ms. opening guid Replacing ∷ leaf_mark ∷ ((ms ++ []) ++ closing ∷ [])) (marks_at_leaf new)

pub child_marks_are : (vdev : Vdev) (child : Child) → IsChild vdev child → marks vdev ≡ child_marks child
child_marks_are vdev (alone member) is = member_marks_are vdev member is
child_marks_are vdev (spared guid first spare None) is =
    marks_of_inner_is vdev guid Spare _ is.2 ∙ ap (λ ms. opening guid Spare ∷ ((ms ++ (marks (Leaf spare) ++ [])) ++ closing ∷ [])) (member_marks_are is.0 first is.1)
    ∙ ap (λ ms. opening guid Spare ∷ ((member_marks first ++ (ms ++ [])) ++ closing ∷ [])) (marks_at_leaf spare)
    ∙ ap (λ ms. opening guid Spare ∷ ms) (append_assoc (member_marks first) (leaf_mark ∷ []) (closing ∷ []))
child_marks_are vdev (spared guid first spare (Some second)) is =
    marks_of_inner_is vdev guid Spare _ is.2
    ∙ ap (λ ms. opening guid Spare ∷ ((ms ++ (marks (Leaf spare) ++ (marks (Leaf second) ++ []))) ++ closing ∷ [])) (member_marks_are is.0 first is.1)
    ∙ ap (λ ms. opening guid Spare ∷ ((member_marks first ++ (ms ++ (marks (Leaf second) ++ []))) ++ closing ∷ [])) (marks_at_leaf spare)
    ∙ ap (λ ms. opening guid Spare ∷ ((member_marks first ++ (leaf_mark ∷ (ms ++ []))) ++ closing ∷ [])) (marks_at_leaf second)
    ∙ ap (λ ms. opening guid Spare ∷ ms) (append_assoc (member_marks first) (leaf_mark ∷ leaf_mark ∷ []) (closing ∷ []))

pub member_form : (vdev : Vdev) (member : Member) → IsMember vdev member → may_be_spared (form_of vdev) ≡ true
member_form vdev (only leaf) is = ap (λ v. may_be_spared (form_of v)) is ∙ ap may_be_spared (form_leaf leaf)
member_form vdev (replacing guid old new) is =
    ap may_be_spared (form_of_inner_is vdev guid Replacing _ is ∙ ap (λ f. form_of_replacing (f ∷ form_of (Leaf new) ∷ [])) (form_leaf old)
    ∙ ap (λ f. form_of_replacing (a_leaf ∷ f ∷ [])) (form_leaf new))

spared_too : (form : Form) → may_be_spared form ≡ true → may_be_mirrored form ≡ true
spared_too a_leaf may = refl
spared_too a_replacing may = refl
spared_too a_spare may = refl
spared_too a_mirror may = absurd (false≢true may)
spared_too no_form may = absurd (false≢true may)

spare_form : (form : Form) → may_be_spared form ≡ true → (form_of_spare (form ∷ a_leaf ∷ []) ≡ a_spare) × (form_of_spare (form ∷ a_leaf ∷ a_leaf ∷ []) ≡ a_spare)
spare_form a_leaf may = (refl, refl)
spare_form a_replacing may = (refl, refl)
spare_form a_spare may = absurd (false≢true may)
spare_form a_mirror may = absurd (false≢true may)
spare_form no_form may = absurd (false≢true may)

pub child_form : (vdev : Vdev) (child : Child) → IsChild vdev child → may_be_mirrored (form_of vdev) ≡ true
child_form vdev (alone member) is = spared_too (form_of vdev) (member_form vdev member is)
child_form vdev (spared guid first spare None) is =
    ap may_be_mirrored (form_of_inner_is vdev guid Spare _ is.2 ∙ ap (λ f. form_of_spare (form_of is.0 ∷ f ∷ [])) (form_leaf spare)
    ∙ (spare_form (form_of is.0) (member_form is.0 first is.1)).0)
child_form vdev (spared guid first spare (Some second)) is =
    ap may_be_mirrored (form_of_inner_is vdev guid Spare _ is.2 ∙ ap (λ f. form_of_spare (form_of is.0 ∷ f ∷ form_of (Leaf second) ∷ [])) (form_leaf spare)
    ∙ ap (λ f. form_of_spare (form_of is.0 ∷ a_leaf ∷ f ∷ [])) (form_leaf second) ∙ (spare_form (form_of is.0) (member_form is.0 first is.1)).1)

-- a vdev is only one child
pub same_child : (vdev : Vdev) (a b : Child) → IsChild vdev a → IsChild vdev b → a ≡ b
same_child vdev a b is_a is_b = let e : a_child a ≡ a_child b = sym (child_part vdev a is_a) ∙ child_part vdev b is_b in cc

-- all children of a mirror

pub same_children : (vdevs : List Vdev) (xs ys : List Child) → AllZip IsChild vdevs xs → AllZip IsChild vdevs ys → xs ≡ ys
same_children [] [] [] are_a are_b = refl
same_children [] (a ∷ xs) ys are_a are_b = absurd are_a
same_children [] [] (b ∷ ys) are_a are_b = absurd are_b
same_children (v ∷ vdevs) [] ys are_a are_b = absurd are_a
same_children (v ∷ vdevs) (a ∷ xs) [] are_a are_b = absurd are_b
same_children (v ∷ vdevs) (a ∷ xs) (b ∷ ys) are_a are_b =
    ap (λ c. c ∷ xs) (same_child v a b are_a.0 are_b.0) ∙ ap (λ cs. b ∷ cs) (same_children vdevs xs ys are_a.1 are_b.1)

children_parts : (vdevs : List Vdev) (children : List Child) → AllZip IsChild vdevs children → children_in (map part_of vdevs) ≡ children
children_parts [] [] are = refl
children_parts [] (c ∷ children) are = absurd are
children_parts (v ∷ vdevs) [] are = absurd are
children_parts (v ∷ vdevs) (c ∷ children) are =
    ap (λ p. children_in (p ∷ map part_of vdevs)) (child_part v c are.0) ∙ ap (λ cs. c ∷ cs) (children_parts vdevs children are.1)

pub all_leaves_are : (vdevs : List Vdev) (children : List Child) → AllZip IsChild vdevs children → flat_map leaves vdevs ≡ flat_map child_leaves children
all_leaves_are [] [] are = refl
all_leaves_are [] (c ∷ children) are = absurd are
all_leaves_are (v ∷ vdevs) [] are = absurd are
all_leaves_are (v ∷ vdevs) (c ∷ children) are =
    ap (λ ls. ls ++ flat_map leaves vdevs) (child_leaves_are v c are.0) ∙ ap (λ ls. child_leaves c ++ ls) (all_leaves_are vdevs children are.1)

pub all_marks_are : (vdevs : List Vdev) (children : List Child) → AllZip IsChild vdevs children → flat_map marks vdevs ≡ flat_map child_marks children
all_marks_are [] [] are = refl
all_marks_are [] (c ∷ children) are = absurd are
all_marks_are (v ∷ vdevs) [] are = absurd are
all_marks_are (v ∷ vdevs) (c ∷ children) are =
    ap (λ ms. ms ++ flat_map marks vdevs) (child_marks_are v c are.0) ∙ ap (λ ms. child_marks c ++ ms) (all_marks_are vdevs children are.1)

all_forms : (vdevs : List Vdev) (children : List Child) → AllZip IsChild vdevs children → list_all (λ vdev. may_be_mirrored (form_of vdev)) vdevs ≡ true
all_forms [] [] are = refl
all_forms [] (c ∷ children) are = absurd are
all_forms (v ∷ vdevs) [] are = absurd are
all_forms (v ∷ vdevs) (c ∷ children) are =
    ap (λ b. b && list_all (λ vdev. may_be_mirrored (form_of vdev)) vdevs) (child_form v c are.0) ∙ all_forms vdevs children are.1

pub length_zip : (vdevs : List Vdev) (children : List Child) → AllZip IsChild vdevs children → length vdevs ≡ length children
length_zip [] [] are = refl
length_zip [] (c ∷ children) are = absurd are
length_zip (v ∷ vdevs) [] are = absurd are
length_zip (v ∷ vdevs) (c ∷ children) are = omega (arith, length_zip vdevs children are.1)

-- the mirror of a top, over these children
pub record IsMirror (vdev : Vdev) (children : List Child) : Type 0 where
  pub inner : InnerVdev
  pub is : vdev ≡ Inner inner
  pub kind_is : inner.kind ≡ Mirror
  pub are : AllZip IsChild inner.children.items children
  pub some : 1 ≤ length children
  pub few : length children ≤ 8

mirror_of : (vdev : Vdev) → is_top vdev ≡ true → (children : List Child) × IsMirror vdev children
mirror_of vdev top = elim (leaf_or_inner vdev) [
  | inl l ↦ absurd (false≢true (sym (ap is_top l.1 ∙ leaf_mirrors l.0) ∙ top))
  | inr i ↦ (let vdevs = i.0.children.items in
      let all = sym (inner_mirrors i.0) ∙ sym (ap is_top i.1) ∙ top in
      let forms = sym (mirrored_children vdevs) ∙ second_of (is_mirror_kind i.0.kind) _ all in
      let counts = second_of (list_all (λ vdev. may_be_mirrored (form_of vdev)) vdevs) _ forms in
      let children = children_are vdevs (first_of (list_all (λ vdev. may_be_mirrored (form_of vdev)) vdevs) _ forms) in
      let same = length_zip vdevs children.0 children.1 in (
        children.0,
        record {
          inner = i.0;
          is = i.1;
          kind_is = is_kind_mirror i.0.kind (first_of (is_mirror_kind i.0.kind) _ all);
          are = children.1;
          some = omega (arith, same, below 1 (length vdevs) (first_of (nat_le 1 (length vdevs)) _ counts));
          few = omega (arith, same, below (length vdevs) 8 (second_of (nat_le 1 (length vdevs)) _ counts));
        },
      ))
]

pub children_of_mirror : (vdev : Vdev) (children : List Child) → IsMirror vdev children → children_of vdev ≡ children
unfolding children_of
children_of_mirror vdev children m =
    ap children_at (ap part_of m.is ∙ part_inner m.inner ∙ ap (λ k. part_over k m.inner.guid (map part_of m.inner.children.items)) m.kind_is)
    ∙ children_parts m.inner.children.items children m.are

-- what a valid tree is
pub top_is : (vdev : Vdev) → is_top vdev ≡ true → IsMirror vdev (children_of vdev)
top_is vdev top = let m = mirror_of vdev top in subst (IsMirror vdev) (sym (children_of_mirror vdev m.0 m.1)) m.1

at_least : (a b : ℕ) → a ≤ b → nat_le a b ≡ true
at_least a b h = grind (arith, nat_tests)

-- a mirror of such children is a valid tree
pub mirror_is_top : (vdev : Vdev) (children : List Child) → IsMirror vdev children → is_top vdev ≡ true
mirror_is_top vdev children m =
    let vdevs = m.inner.children.items in
    let same = length_zip vdevs children m.are in
    ap is_top m.is ∙ inner_mirrors m.inner ∙ ap (λ k. is_mirror_kind k && is_mirror (form_of_mirror (map form_of vdevs))) m.kind_is
    ∙ mirrored_children vdevs ∙ ap (λ b. b && (nat_le 1 (length vdevs) && nat_le (length vdevs) 8)) (all_forms vdevs children m.are)
    ∙ ap (λ b. b && nat_le (length vdevs) 8) (at_least 1 (length vdevs) (omega (arith, same, m.some))) ∙ at_least (length vdevs) 8 (omega (arith, same, m.few))

pub mirror_leaves : (vdev : Vdev) (children : List Child) → IsMirror vdev children → leaves vdev ≡ flat_map child_leaves children
mirror_leaves vdev children m = ap leaves m.is ∙ leaves_inner m.inner ∙ all_leaves_are m.inner.children.items children m.are

pub mirror_marks : (vdev : Vdev) (children : List Child) → IsMirror vdev children → marks vdev ≡ opening (guid_of vdev) Mirror ∷ (flat_map child_marks children ++ closing ∷ [])
mirror_marks vdev children m =
    ap marks m.is ∙ marks_inner m.inner ∙ ap (λ k. opening m.inner.guid k ∷ (flat_map marks m.inner.children.items ++ closing ∷ [])) m.kind_is
    ∙ ap (λ ms. opening m.inner.guid Mirror ∷ (ms ++ closing ∷ [])) (all_marks_are m.inner.children.items children m.are)
    ∙ ap (λ g. opening g Mirror ∷ (flat_map child_marks children ++ closing ∷ [])) (sym (ap guid_of m.is ∙ guid_inner m.inner))
