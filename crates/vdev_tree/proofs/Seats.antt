-- Which child an edit is done in, and why there is none.
use Rattle.std.proofs.Common.{◌≡◌, ◌≢◌, ℕ, zero, suc, ◌+◌, ◌≤◌, ◌<◌, Bool, true, false, ◌||◌, ◌==◌, cond, Option, Some, None, List, [], ◌∷◌, length, get_or, take, take_all, refl, ap, sym, ◌∙◌, subst, arith}
use Rattle.std.specs.List.{flat_map, list_any, AllZip}
use Rattle.std.proofs.lemmas.Bool.{eqb-true}
use Rattle.std.proofs.lemmas.List.Folds.{list_any-append, list_any_more, list_any_at}
use Rattle.std.proofs.lemmas.Option.{none-some}
use Rattle.mp_base.specs.declared.number.Guid.{Guid}
use Rattle.mp_base.specs.declared.refusal.Refusal.{Refusal}
use Rattle.mp_base.specs.declared.refusal.Refusal.TheVariants as refusals
use Rattle.mp_base.specs.declared.refusal.PlaceRule.TheVariants as rules
use Rattle.vdev_tree.specs.declared.vdev.Vdev.{Vdev}
use Rattle.vdev_tree.specs.declared.vdev.InnerVdev.{InnerVdev}
use Rattle.vdev_tree.specs.declared.vdev.Vdev.TheVariants.{Inner}
use Rattle.vdev_tree.specs.declared.seat.Edit.{Edit}
use Rattle.vdev_tree.specs.declared.seat.Edit.TheVariants.{Attach}
use Rattle.vdev_tree.specs.Tree.{leaves, form_of, is_leaf, is_top}
use Rattle.vdev_tree.specs.Children.{Child, only, replacing, alone, spared, IsChild, children_of, child_leaves}
use Rattle.vdev_tree.specs.Edits.{is_at, has, allows, is_single, mirror_limit, limit_of, misplaced, refusal_of}
use Rattle.vdev_tree.proofs.Forms.{leaf_is, inner_is_no_leaf}
use Rattle.vdev_tree.proofs.Edited.{zip_at}
use Rattle.vdev_tree.proofs.Shapes.{length_zip, top_is, mirror_leaves}

pub limit_full : (children : List Child) → length children ≡ 8 → Some (refusals.TreeFull 8 9) ≡ mirror_limit children
limit_full children full = sym (ap (λ n. cond (n == 8) (Some (refusals.TreeFull 8 9)) None) full)

free : (x : Option Refusal) (b : Bool) → (b ≡ true → ⊥) → None ≡ cond b x None
free x true never = absurd (never refl)
free x false never = refl

pub limit_free : (children : List Child) → (length children ≡ 8 → ⊥) → None ≡ mirror_limit children
limit_free children room = free (Some (refusals.TreeFull 8 9)) (length children == 8) (λ is. room (eqb-true (length children) 8 is))

lone_leaf : (vdev : Vdev) (child : Child) → IsChild vdev child → is_leaf (form_of vdev) ≡ is_single (child ∷ [])
lone_leaf vdev (alone (only leaf)) is = ap (λ v. is_leaf (form_of v)) is ∙ leaf_is leaf
lone_leaf vdev (alone (replacing guid old new)) is = ap (λ v. is_leaf (form_of v)) is.is ∙ inner_is_no_leaf is.inner
lone_leaf vdev (spared guid first spare second) is = ap (λ v. is_leaf (form_of v)) is.2.is ∙ inner_is_no_leaf is.2.inner

pub single_one : (vdevs : List Vdev) (vdev : Vdev) (children : List Child) → AllZip IsChild vdevs children → length vdevs < 2 → 1 ≤ length vdevs → vdev ≡ get_or vdevs 0 vdev
    → is_leaf (form_of vdev) ≡ is_single children
single_one [] vdev children are few some at_is = absurd (omega arith)
single_one (v ∷ []) vdev [] are few some at_is = absurd are
single_one (v ∷ []) vdev (c ∷ []) are few some at_is = ap (λ w. is_leaf (form_of w)) at_is ∙ lone_leaf v c are.0
single_one (v ∷ []) vdev (c ∷ d ∷ children) are few some at_is = absurd are.1
single_one (v ∷ w ∷ vdevs) vdev children are few some at_is = absurd (omega arith)

two_or_more : (child next : Child) (children : List Child) → false ≡ is_single (child ∷ next ∷ children)
two_or_more (alone (only leaf)) next children = refl
two_or_more (alone (replacing guid old new)) next children = refl
two_or_more (spared guid first spare second) next children = refl

pub single_more : (vdevs : List Vdev) (children : List Child) → AllZip IsChild vdevs children → 2 ≤ length vdevs → false ≡ is_single children
single_more vdevs [] are some = refl
single_more vdevs (c ∷ []) are some = absurd (omega (arith, some, length_zip vdevs (c ∷ []) are))
single_more vdevs (c ∷ d ∷ children) are some = two_or_more c d children

pub has_all : (at : Guid) (children : List Child) → list_any (has at) children ≡ list_any (is_at at) (flat_map child_leaves children)
has_all at [] = refl
has_all at (c ∷ children) = ap (λ b. has at c || b) (has_all at children) ∙ sym (list_any-append (is_at at) (child_leaves c) (flat_map child_leaves children))

pub has_leaf : (at : Guid) (vdev : Vdev) → is_top vdev ≡ true → list_any (is_at at) (leaves vdev) ≡ list_any (has at) (children_of vdev)
has_leaf at vdev top = ap (list_any (is_at at)) (mirror_leaves vdev (children_of vdev) (top_is vdev top)) ∙ sym (has_all at (children_of vdev))

-- some child is this vdev
pub some_child : (vdevs : List Vdev) (children : List Child) (i : ℕ) (v : Vdev) → AllZip IsChild vdevs children → i < length vdevs → v ≡ get_or vdevs i v → (c : Child) × IsChild v c
some_child [] children i v are inside at_is = absurd (omega arith)
some_child (w ∷ vdevs) [] i v are inside at_is = absurd are
some_child (w ∷ vdevs) (c ∷ children) zero v are inside at_is = (c, subst (λ x. IsChild x c) (sym at_is) are.0)
some_child (w ∷ vdevs) (c ∷ children) (suc i) v are inside at_is = some_child vdevs children i v are.1 (omega arith) at_is

pub that_child : (vdevs : List Vdev) (children : List Child) (i : ℕ) (v : Vdev) (d : Child) → AllZip IsChild vdevs children → i < length vdevs → v ≡ get_or vdevs i v → IsChild v (get_or children i d)
that_child vdevs children i v d are inside at_is =
    subst (λ x. IsChild x (get_or children i d)) (sym at_is) (zip_at vdevs children i v d are (omega (arith, length_zip vdevs children are)))

pub passed : (p : Child → Bool) (vdevs : List Vdev) (children : List Child) (i : ℕ) (v : Vdev) (r : Bool) → AllZip IsChild vdevs children → i < length vdevs → v ≡ get_or vdevs i v
    → ((c : Child) → IsChild v c → r ≡ p c) → r ≡ false → list_any p (take i children) ≡ false → list_any p (take (i + 1) children) ≡ false
passed p vdevs children i v r are inside at_is each failed none =
    let d = (some_child vdevs children i v are inside at_is).0 in
    list_any_more p children i d (omega (arith, length_zip vdevs children are)) ∙ ap (λ b. b || p (get_or children i d)) none
    ∙ sym (each (get_or children i d) (that_child vdevs children i v d are inside at_is)) ∙ failed

pub none_at_all : (p : Child → Bool) (vdevs : List Vdev) (children : List Child) (i : ℕ) → AllZip IsChild vdevs children → length vdevs ≤ i → list_any p (take i children) ≡ false → list_any p children ≡ false
none_at_all p vdevs children i are all none = sym (ap (list_any p) (take_all i children (omega (arith, length_zip vdevs children are)))) ∙ none

pub seat_children : (vdev : Vdev) (items : List Vdev) → is_top vdev ≡ true → ((inner : InnerVdev) → vdev ≡ Inner inner → items ≡ inner.children.items) → AllZip IsChild items (children_of vdev)
seat_children vdev items top are = let m = top_is vdev top in subst (λ vs. AllZip IsChild vs (children_of vdev)) (sym (are m.inner m.is)) m.are

pub why_none : (edit : Edit) (at : Guid) (vdev : Vdev) (r : Refusal) → is_top vdev ≡ true → list_any (allows edit at) (children_of vdev) ≡ false
    → r ≡ cond (list_any (is_at at) (leaves vdev)) (refusals.WrongPlace rules.Role) refusals.NoVdev → refusal_of edit at (children_of vdev) ≡ Some r
why_none edit at vdev r top none is =
    ap (λ b. cond b (limit_of edit (children_of vdev)) (Some (misplaced at (children_of vdev)))) none
    ∙ ap Some (ap (λ b. cond b (refusals.WrongPlace rules.Role) refusals.NoVdev) (sym (has_leaf at vdev top)) ∙ sym is)

default : (children : List Child) (i : ℕ) → i < length children → Child
default [] i inside = absurd (omega arith)
default (c ∷ children) i inside = c

pub why_limit : (edit : Edit) (at : Guid) (children : List Child) (i : ℕ) (r : Option Refusal) → i < length children → ((d : Child) → allows edit at (get_or children i d) ≡ true)
    → r ≡ limit_of edit children → refusal_of edit at children ≡ r
why_limit edit at children i r inside allowed is =
    let d = default children i inside in
    ap (λ b. cond b (limit_of edit children) (Some (misplaced at children))) (list_any_at (allows edit at) children i d inside (allowed d)) ∙ sym is

limit_none : (b : Bool) (x : Option Refusal) (y : Refusal) → cond b x (Some y) ≡ None → x ≡ None
limit_none true x y is = is
limit_none false x y is = absurd (none-some y (sym is))

pub room_left : (at : Guid) (vdev : Vdev) → is_top vdev ≡ true → refusal_of Attach at (children_of vdev) ≡ None → length (children_of vdev) < 8
room_left at vdev top none =
    let few = (top_is vdev top).few in
    let not_full : length (children_of vdev) ≢ 8 =
    λ full. none-some (refusals.TreeFull 8 9) (sym (limit_full (children_of vdev) full ∙ limit_none (list_any (allows Attach at) (children_of vdev)) (mirror_limit (children_of vdev)) (misplaced at (children_of vdev)) none)) in
    omega (arith, few, not_full)
