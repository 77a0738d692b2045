-- What the children of a mirror are after an edit.
use Rattle.std.proofs.Common.{◌≡◌, ℕ, zero, suc, ◌≤◌, ◌<◌, Bool, true, Result, Ok, Err, OnOk, OnErr, Some, None, List, [], ◌∷◌, ◌++◌, length, get_or, set, take, drop, refl, ap, sym, ◌∙◌, subst, arith, append_assoc, length-append}
use Rattle.std.specs.List.{flat_map, AllZip}
use Rattle.std.specs.Vec.{vec_len}
use Rattle.std.proofs.Math.ListN.{length-set}
use Rattle.std.proofs.lemmas.Bool.{false≢true, eqb-true}
use Rattle.std.proofs.lemmas.List.Concat.{flat_map-append}
use Rattle.mp_base.specs.declared.number.Guid.{Guid}
use Rattle.vdev_tree.specs.declared.vdev.Kind.{Kind}
use Rattle.vdev_tree.specs.declared.vdev.Kind.TheVariants.{Mirror, Replacing, Spare}
use Rattle.vdev_tree.specs.declared.graft.GraftFault.{GraftFault}
use Rattle.vdev_tree.specs.declared.seat.Edit.{Edit}
use Rattle.vdev_tree.specs.declared.seat.Edit.TheVariants.{Attach, Replace, AddSpare, Prune}
use Rattle.vdev_tree.specs.declared.vdev.Vdev.{Vdev}
use Rattle.vdev_tree.specs.declared.vdev.InnerVdev.{InnerVdev}
use Rattle.vdev_tree.specs.declared.vdev.LeafVdev.{LeafVdev}
use Rattle.vdev_tree.specs.declared.vdev.Vdev.TheVariants.{Leaf, Inner, outs-Leaf, outs-Inner}
use Rattle.vdev_tree.specs.declared.vdev.Vdev.TheOpen as F
use Rattle.vdev_tree.specs.declared.vdev.Vdev.TheViews.{out-Vdev}
use Rattle.vdev_tree.specs.Tree.{leaves, is_top, guid_of}
use Rattle.vdev_tree.specs.Children.{Member, Child, only, replacing, alone, spared, children_of, IsInner, IsChild, member_leaves, spare_leaves, child_leaves}
use Rattle.vdev_tree.specs.Edits.{is_lone, may_be_replaced, may_get_spare, replaced, replaced_member, with_spare, allows, is_graft, grafted, Edits, PutBehind}
use Rattle.vdev_tree.proofs.Shapes.{IsMirror, top_is, children_of_mirror, mirror_is_top, mirror_leaves, same_child, length_zip}
use Rattle.vdev_tree.proofs.Folds.{guid_inner}
use Rattle.vdev_tree.proofs.Forms.{leaf_mirrors}

pub same_inner : (a b : InnerVdev) → Inner a ≡ Inner b → a ≡ b
same_inner a b e = let f : F.Inner a ≡ F.Inner b = sym (outs-Inner a) ∙ ap out-Vdev e ∙ outs-Inner b in cc

pub same_leaf : (a b : LeafVdev) → Leaf a ≡ Leaf b → a ≡ b
same_leaf a b e = let f : F.Leaf a ≡ F.Leaf b = sym (outs-Leaf a) ∙ ap out-Vdev e ∙ outs-Leaf b in cc

pub leaf_no_inner : (a : LeafVdev) (b : InnerVdev) → Leaf a ≡ Inner b → ⊥
leaf_no_inner a b e = let f : F.Leaf a ≡ F.Inner b = sym (outs-Leaf a) ∙ ap out-Vdev e ∙ outs-Inner b in cc

pub no_leaf_mirror : (vdev : Vdev) (leaf : LeafVdev) → vdev ≡ Leaf leaf → is_top vdev ≡ true → ⊥
no_leaf_mirror vdev leaf is top = false≢true (sym (ap is_top is ∙ leaf_mirrors leaf) ∙ top)

-- what the mirror of a top is
pub record IsOver (inner : InnerVdev) (children : List Child) : Type 0 where
  pub kind_is : inner.kind ≡ Mirror
  pub are : AllZip IsChild inner.children.items children
  pub some : 1 ≤ length children
  pub few : length children ≤ 8

pub over_top : (vdev : Vdev) (inner : InnerVdev) → vdev ≡ Inner inner → is_top vdev ≡ true → IsOver inner (children_of vdev)
over_top vdev inner is top =
    let m = top_is vdev top in
    subst (λ i. IsOver i (children_of vdev)) (same_inner m.inner inner (sym m.is ∙ is))
    (record { kind_is = m.kind_is; are = m.are; some = m.some; few = m.few })

pub mirror_over : (inner : InnerVdev) (children : List Child) → IsOver inner children → IsMirror (Inner inner) children
mirror_over inner children o = record { inner = inner; is = refl; kind_is = o.kind_is; are = o.are; some = o.some; few = o.few }

-- a mirror over these children is a top of these children
pub top_over : (inner : InnerVdev) (children : List Child) → IsOver inner children → (is_top (Inner inner) ≡ true) × (children_of (Inner inner) ≡ children)
top_over inner children o =
    (mirror_is_top (Inner inner) children (mirror_over inner children o), children_of_mirror (Inner inner) children (mirror_over inner children o))

pub same_guid : (vdev : Vdev) (old new : InnerVdev) → vdev ≡ Inner old → new.guid ≡ old.guid → guid_of (Inner new) ≡ guid_of vdev
same_guid vdev old new is guid = guid_inner new ∙ guid ∙ sym (guid_inner old) ∙ sym (ap guid_of is)

-- lists of vdevs and children beside each other

pub zip_push : (vdevs : List Vdev) (children : List Child) (v : Vdev) (c : Child) → AllZip IsChild vdevs children → IsChild v c → AllZip IsChild (vdevs ++ v ∷ []) (children ++ c ∷ [])
zip_push [] [] v c are is = (is, tt)
zip_push [] (d ∷ children) v c are is = absurd are
zip_push (w ∷ vdevs) [] v c are is = absurd are
zip_push (w ∷ vdevs) (d ∷ children) v c are is = (are.0, zip_push vdevs children v c are.1 is)

pub zip_at : (vdevs : List Vdev) (children : List Child) (i : ℕ) (v : Vdev) (c : Child) → AllZip IsChild vdevs children → i < length children → IsChild (get_or vdevs i v) (get_or children i c)
zip_at [] [] i v c are inside = absurd (omega arith)
zip_at [] (d ∷ children) i v c are inside = absurd are
zip_at (w ∷ vdevs) [] i v c are inside = absurd are
zip_at (w ∷ vdevs) (d ∷ children) zero v c are inside = are.0
zip_at (w ∷ vdevs) (d ∷ children) (suc i) v c are inside = zip_at vdevs children i v c are.1 (omega arith)

pub zip_set : (vdevs : List Vdev) (children : List Child) (i : ℕ) (v : Vdev) (c : Child) → AllZip IsChild vdevs children → IsChild v c → AllZip IsChild (set vdevs i v) (set children i c)
zip_set [] [] i v c are is = are
zip_set [] (d ∷ children) i v c are is = absurd are
zip_set (w ∷ vdevs) [] i v c are is = absurd are
zip_set (w ∷ vdevs) (d ∷ children) zero v c are is = (is, are.1)
zip_set (w ∷ vdevs) (d ∷ children) (suc i) v c are is = (are.0, zip_set vdevs children i v c are.1 is)

-- a leaf more
pub last_more : (old new : InnerVdev) (children : List Child) (leaf : LeafVdev) → IsOver old children → length children < 8 → new.kind ≡ old.kind
    → new.children.items ≡ old.children.items ++ Leaf leaf ∷ [] → IsOver new (children ++ alone (only leaf) ∷ [])
last_more old new children leaf o room kind items = record {
  kind_is = kind ∙ o.kind_is;
  are = subst (λ vs. AllZip IsChild vs (children ++ alone (only leaf) ∷ [])) (sym items) (zip_push old.children.items children (Leaf leaf) (alone (only leaf)) o.are refl);
  some = omega (arith, length-append children (alone (only leaf) ∷ []));
  few = omega (arith, room, length-append children (alone (only leaf) ∷ []));
}

-- nothing changed
pub same_over : (old new : InnerVdev) (children : List Child) → IsOver old children → new.kind ≡ old.kind → new.children.items ≡ old.children.items → IsOver new children
same_over old new children o kind items = record {
  kind_is = kind ∙ o.kind_is;
  are = subst (λ vs. AllZip IsChild vs children) (sym items) o.are;
  some = o.some;
  few = o.few;
}

-- a child is another one
pub set_over : (old new : InnerVdev) (children : List Child) (i : ℕ) (v : Vdev) (c : Child) → IsOver old children → IsChild v c → new.kind ≡ old.kind
    → new.children.items ≡ set old.children.items i v → IsOver new (set children i c)
set_over old new children i v c o is kind items = record {
  kind_is = kind ∙ o.kind_is;
  are = subst (λ vs. AllZip IsChild vs (set children i c)) (sym items) (zip_set old.children.items children i v c o.are is);
  some = rw length-set o.some;
  few = rw length-set o.few;
}

set_same : (children : List Child) (i : ℕ) (d : Child) → set children i (get_or children i d) ≡ children
set_same [] i d = refl
set_same (x ∷ children) zero d = refl
set_same (x ∷ children) (suc i) d = ap (λ cs. x ∷ cs) (set_same children i d)

set_split : (children : List Child) (i : ℕ) (c d : Child) → i < length children → set children i c ≡ take i children ++ (c ∷ drop (suc i) children)
set_split [] i c d inside = absurd (omega arith)
set_split (x ∷ children) zero c d inside = refl
set_split (x ∷ children) (suc i) c d inside = ap (λ cs. x ∷ cs) (set_split children i c d (omega arith))

pub get_split : (children : List Child) (i : ℕ) (d : Child) → i < length children → children ≡ take i children ++ (get_or children i d ∷ drop (suc i) children)
get_split [] i d inside = absurd (omega arith)
get_split (x ∷ children) zero d inside = refl
get_split (x ∷ children) (suc i) d inside = ap (λ cs. x ∷ cs) (get_split children i d (omega arith))

pub edits_at : (may : Child → Bool) (change : Child → Child) (old new : List Child) (i : ℕ) (d : Child) → i < length old → may (get_or old i d) ≡ true
    → new ≡ set old i (change (get_or old i d)) → Edits may (λ c. change c ∷ []) old new
edits_at may change old new i d inside allowed is = record {
  before = take i old;
  child = get_or old i d;
  behind = drop (suc i) old;
  was = get_split old i d inside;
  is = is ∙ set_split old i (change (get_or old i d)) d inside;
  may_be = allowed;
}

flat_split : (before behind : List Child) (c : List Child) → flat_map child_leaves (before ++ (c ++ behind)) ≡ flat_map child_leaves before ++ (flat_map child_leaves c ++ flat_map child_leaves behind)
flat_split before behind c = flat_map-append child_leaves before (c ++ behind) ∙ ap (λ ls. flat_map child_leaves before ++ ls) (flat_map-append child_leaves c behind)

-- a leaf that is put behind another one among some leaves is so among all
within : (at : Guid) (leaf : LeafVdev) (front here here' rest : List LeafVdev) → PutBehind at leaf here here' → PutBehind at leaf (front ++ (here ++ rest)) (front ++ (here' ++ rest))
within at leaf front here here' rest p = record {
  before = front ++ p.before;
  there = p.there;
  behind = p.behind ++ rest;
  was = ap (λ ls. front ++ (ls ++ rest)) p.was ∙ ap (λ ls. front ++ ls) (append_assoc p.before (p.there ∷ p.behind) rest) ∙ sym (append_assoc front p.before (p.there ∷ (p.behind ++ rest)));
  is = ap (λ ls. front ++ (ls ++ rest)) p.is ∙ ap (λ ls. front ++ ls) (append_assoc p.before (p.there ∷ leaf ∷ p.behind) rest) ∙ sym (append_assoc front p.before (p.there ∷ leaf ∷ (p.behind ++ rest)));
  at_is = p.at_is;
}

pub edited_leaves : (at : Guid) (leaf : LeafVdev) (may : Child → Bool) (change : Child → Child) (old new : List Child)
    → ((c : Child) → may c ≡ true → PutBehind at leaf (child_leaves c) (child_leaves (change c)))
    → Edits may (λ c. change c ∷ []) old new → PutBehind at leaf (flat_map child_leaves old) (flat_map child_leaves new)
edited_leaves at leaf may change old new each e =
    subst (λ ls. PutBehind at leaf ls (flat_map child_leaves new)) (sym (ap (flat_map child_leaves) e.was ∙ flat_map-append child_leaves e.before (e.child ∷ e.behind)))
    (subst (PutBehind at leaf (flat_map child_leaves e.before ++ (child_leaves e.child ++ flat_map child_leaves e.behind)))
    (sym (ap (flat_map child_leaves) e.is ∙ flat_map-append child_leaves e.before (change e.child ∷ e.behind)))
    (within at leaf (flat_map child_leaves e.before) (child_leaves e.child) (child_leaves (change e.child)) (flat_map child_leaves e.behind) (each e.child e.may_be)))

lone : (at guid : Guid) (leaf : LeafVdev) (member : Member) (rest : List LeafVdev) → is_lone at member ≡ true
    → PutBehind at leaf (member_leaves member ++ rest) (member_leaves (replaced_member guid leaf member) ++ rest)
lone at guid leaf (only old) rest is = record { before = []; there = old; behind = rest; was = refl; is = refl; at_is = eqb-true old.guid.0 at.0 is }
lone at guid leaf (replacing number old new) rest is = absurd (false≢true is)

with_nil : (at guid : Guid) (leaf : LeafVdev) (member : Member) → is_lone at member ≡ true → PutBehind at leaf (member_leaves member) (member_leaves (replaced_member guid leaf member))
with_nil at guid leaf (only old) is = record { before = []; there = old; behind = []; was = refl; is = refl; at_is = eqb-true old.guid.0 at.0 is }
with_nil at guid leaf (replacing number old new) is = absurd (false≢true is)

pub replaced_leaves : (at guid : Guid) (leaf : LeafVdev) (c : Child) → may_be_replaced at c ≡ true → PutBehind at leaf (child_leaves c) (child_leaves (replaced guid leaf c))
replaced_leaves at guid leaf (alone member) may = with_nil at guid leaf member may
replaced_leaves at guid leaf (spared number first spare second) may = lone at guid leaf first (spare_leaves spare second) may

pub spared_leaves : (at guid : Guid) (leaf : LeafVdev) (c : Child) → may_get_spare at c ≡ true → PutBehind at leaf (child_leaves c) (child_leaves (with_spare guid leaf c))
spared_leaves at guid leaf (alone (only old)) may = record { before = []; there = old; behind = []; was = refl; is = refl; at_is = eqb-true old.guid.0 at.0 may }
spared_leaves at guid leaf (alone (replacing number old new)) may = absurd (false≢true may)
spared_leaves at guid leaf (spared number first spare None) may =
    record { before = member_leaves first; there = spare; behind = []; was = refl; is = refl; at_is = eqb-true spare.guid.0 at.0 may }
spared_leaves at guid leaf (spared number first spare (Some second)) may = absurd (false≢true may)

-- the grafted child

pub inner_facts : (vdev : Vdev) (guid : Guid) (kind : Kind) (items : List Vdev) (inner : InnerVdev) → IsInner vdev guid kind items → vdev ≡ Inner inner
    → (inner.guid ≡ guid) × (inner.kind ≡ kind) × (inner.children.items ≡ items)
inner_facts vdev guid kind items inner i is =
    subst (λ x. (x.guid ≡ guid) × (x.kind ≡ kind) × (x.children.items ≡ items)) (same_inner i.inner inner (sym i.is ∙ is)) (i.guid_is, i.kind_is, i.items_are)

-- a vdev with the same number and the same children is the same child
pub same_items : (old new : InnerVdev) → new.guid ≡ old.guid → new.kind ≡ old.kind → new.children.items ≡ old.children.items → (c : Child) → IsChild (Inner old) c → IsChild (Inner new) c
same_items old new guid kind items (alone (only leaf)) is = absurd (leaf_no_inner leaf old (sym is))
same_items old new guid kind items (alone (replacing number first second)) is =
    let f = inner_facts (Inner old) number Replacing _ old is refl in
    record { inner = new; is = refl; guid_is = guid ∙ f.0; kind_is = kind ∙ f.1; items_are = items ∙ f.2 }
same_items old new guid kind items (spared number first spare second) is =
    let f = inner_facts (Inner old) number Spare _ old is.2 refl in
    (is.0, is.1, record { inner = new; is = refl; guid_is = guid ∙ f.0; kind_is = kind ∙ f.1; items_are = items ∙ f.2 })

pub set_back : (vdevs : List Vdev) (i : ℕ) (v d : Vdev) → v ≡ d → d ≡ get_or vdevs i d → set vdevs i v ≡ vdevs
set_back [] i v d same is = refl
set_back (w ∷ vdevs) zero v d same is = ap (λ x. x ∷ vdevs) (same ∙ is)
set_back (w ∷ vdevs) (suc i) v d same is = ap (λ vs. w ∷ vs) (set_back vdevs i v d same is)

-- the first child of a spare vdev takes the new leaf beside it
replaced_case : (at guid : Guid) (leaf : LeafVdev) (old new : InnerVdev) (here v : Vdev) → new.guid ≡ old.guid → new.kind ≡ old.kind → here ≡ get_or old.children.items 0 here
    → new.children.items ≡ set old.children.items 0 v → IsInner v guid Replacing (here ∷ Leaf leaf ∷ [])
    → (c : Child) → IsChild (Inner old) c → may_be_replaced at c ≡ true → IsChild (Inner new) (replaced guid leaf c)
replaced_case at guid leaf old new here v g k at_is items wrapped (alone (only l)) is may = absurd (leaf_no_inner l old (sym is))
replaced_case at guid leaf old new here v g k at_is items wrapped (alone (replacing number first second)) is may = absurd (false≢true may)
replaced_case at guid leaf old new here v g k at_is items wrapped (spared number (only l) spare second) is may =
    let f = inner_facts (Inner old) number Spare _ old is.2 refl in
    let first : here ≡ Leaf l = at_is ∙ ap (λ vs. get_or vs 0 here) f.2 ∙ is.1 in (
      v,
      subst (λ w. IsInner v guid Replacing (w ∷ Leaf leaf ∷ [])) first wrapped,
      record { inner = new; is = refl; guid_is = g ∙ f.0; kind_is = k ∙ f.1; items_are = items ∙ ap (λ vs. set vs 0 v) f.2 },
    )
replaced_case at guid leaf old new here v g k at_is items wrapped (spared number (replacing m first second) spare t) is may = absurd (false≢true may)

pub replaced_inner : (r : Result (Unit {0}) GraftFault) (guid : Guid) (leaf : LeafVdev) (old new : InnerVdev) (here v : Vdev) → new.guid ≡ old.guid → new.kind ≡ old.kind → here ≡ get_or old.children.items 0 here
    → new.children.items ≡ set old.children.items 0 v → (at : Guid) × (c : Child) × IsChild (Inner old) c × (may_be_replaced at c ≡ true)
    → OnOk r (IsInner v guid Replacing (here ∷ Leaf leaf ∷ [])) → OnOk r ((c : Child) → IsChild (Inner old) c → IsChild (Inner new) (replaced guid leaf c))
replaced_inner (Ok _) guid leaf old new here v g k at_is items some wrapped = λ c is.
    replaced_case some.0 guid leaf old new here v g k at_is items wrapped c is (ap (may_be_replaced some.0) (same_child (Inner old) c some.1 is some.2) ∙ some.3)
replaced_inner (Err _) guid leaf old new here v g k at_is items some wrapped = tt

pub replaced_same : (r : Result (Unit {0}) GraftFault) (old new : InnerVdev) (here v : Vdev) → new.guid ≡ old.guid → new.kind ≡ old.kind → here ≡ get_or old.children.items 0 here
    → new.children.items ≡ set old.children.items 0 v → OnErr r (v ≡ here) → OnErr r ((c : Child) → IsChild (Inner old) c → IsChild (Inner new) c)
replaced_same (Ok _) old new here v g k at_is items same = tt
replaced_same (Err _) old new here v g k at_is items same = same_items old new g k (items ∙ set_back old.children.items 0 v here same at_is)

-- a spare vdev gets its second spare leaf
spared_case : (at guid : Guid) (leaf : LeafVdev) (old new : InnerVdev) → new.guid ≡ old.guid → new.kind ≡ old.kind → new.children.items ≡ old.children.items ++ Leaf leaf ∷ []
    → (c : Child) → IsChild (Inner old) c → may_get_spare at c ≡ true → IsChild (Inner new) (with_spare guid leaf c)
spared_case at guid leaf old new g k items (alone (only l)) is may = absurd (leaf_no_inner l old (sym is))
spared_case at guid leaf old new g k items (alone (replacing number first second)) is may = absurd (false≢true may)
spared_case at guid leaf old new g k items (spared number first spare None) is may =
    let f = inner_facts (Inner old) number Spare _ old is.2 refl in
    (is.0, is.1, record { inner = new; is = refl; guid_is = g ∙ f.0; kind_is = k ∙ f.1; items_are = items ∙ ap (λ vs. vs ++ Leaf leaf ∷ []) f.2 })
spared_case at guid leaf old new g k items (spared number first spare (Some second)) is may = absurd (false≢true may)

pub spared_inner : (r : Result (Unit {0}) GraftFault) (guid : Guid) (leaf : LeafVdev) (old new : InnerVdev) → new.guid ≡ old.guid → new.kind ≡ old.kind
    → (at : Guid) × (c : Child) × IsChild (Inner old) c × (may_get_spare at c ≡ true)
    → OnOk r (new.children.items ≡ old.children.items ++ Leaf leaf ∷ []) → OnOk r ((c : Child) → IsChild (Inner old) c → IsChild (Inner new) (with_spare guid leaf c))
spared_inner (Ok _) guid leaf old new g k some items = λ c is.
    spared_case some.0 guid leaf old new g k items c is (ap (may_get_spare some.0) (same_child (Inner old) c some.1 is some.2) ∙ some.3)
spared_inner (Err _) guid leaf old new g k some items = tt

pub spared_same : (r : Result (Unit {0}) GraftFault) (old new : InnerVdev) → new.guid ≡ old.guid → new.kind ≡ old.kind → OnErr r (new.children.items ≡ old.children.items)
    → OnErr r ((c : Child) → IsChild (Inner old) c → IsChild (Inner new) c)
spared_same (Ok _) old new g k items = tt
spared_same (Err _) old new g k items = same_items old new g k items

pub wrapped : (inner : InnerVdev) (guid : Guid) (kind : Kind) (old : Vdev) (leaf : LeafVdev) (start one : List Vdev) → inner.guid ≡ guid → inner.kind ≡ kind
    → start ≡ [] → one ≡ start ++ old ∷ [] → inner.children.items ≡ one ++ Leaf leaf ∷ [] → IsInner (Inner inner) guid kind (old ∷ Leaf leaf ∷ [])
wrapped inner guid kind old leaf start one g k none first second = record {
  inner = inner;
  is = refl;
  guid_is = g;
  kind_is = k;
  items_are = second ∙ ap (λ vs. vs ++ Leaf leaf ∷ []) (first ∙ ap (λ vs. vs ++ old ∷ []) none);
}

-- the last child

pub last_top : (r : Result (Unit {0}) GraftFault) (old new : InnerVdev) (leaf : LeafVdev) → is_top (Inner old) ≡ true → length (children_of (Inner old)) < 8 → new.kind ≡ old.kind
    → OnOk r (new.children.items ≡ old.children.items ++ Leaf leaf ∷ []) → OnErr r (new.children.items ≡ old.children.items) → is_top (Inner new) ≡ true
last_top (Ok _) old new leaf top room kind pushed same = (top_over new _ (last_more old new _ leaf (over_top (Inner old) old refl top) room kind pushed)).0
last_top (Err _) old new leaf top room kind pushed same = (top_over new _ (same_over old new _ (over_top (Inner old) old refl top) kind same)).0

pub last_tree : (r : Result (Unit {0}) GraftFault) (old new : InnerVdev) (leaf : LeafVdev) → is_top (Inner old) ≡ true → length (children_of (Inner old)) < 8 → new.kind ≡ old.kind
    → OnOk r (new.children.items ≡ old.children.items ++ Leaf leaf ∷ []) → OnOk r (children_of (Inner new) ≡ children_of (Inner old) ++ alone (only leaf) ∷ [])
last_tree (Ok _) old new leaf top room kind pushed = (top_over new _ (last_more old new _ leaf (over_top (Inner old) old refl top) room kind pushed)).1
last_tree (Err _) old new leaf top room kind pushed = tt

pub last_same : (r : Result (Unit {0}) GraftFault) (old new : InnerVdev) → is_top (Inner old) ≡ true → new.kind ≡ old.kind → OnErr r (new.children.items ≡ old.children.items)
    → OnErr r (children_of (Inner new) ≡ children_of (Inner old))
last_same (Ok _) old new top kind same = tt
last_same (Err _) old new top kind same = (top_over new _ (same_over old new _ (over_top (Inner old) old refl top) kind same)).1

-- a child in its place

module _ (f : Child → Child) (old new : InnerVdev) (i : ℕ) (here v : Vdev) (top : is_top (Inner old) ≡ true) (inside : i < length (children_of (Inner old))) (kind : new.kind ≡ old.kind)
    (at_is : here ≡ get_or old.children.items i here) (items : new.children.items ≡ set old.children.items i v) where
  child_here : (d : Child) → IsChild here (get_or (children_of (Inner old)) i d)
  child_here d = subst (λ w. IsChild w (get_or (children_of (Inner old)) i d)) (sym at_is)
      (zip_at old.children.items (children_of (Inner old)) i here d (over_top (Inner old) old refl top).are inside)

  is_set : (d : Child) → ((c : Child) → IsChild here c → IsChild v (f c)) → IsOver new (set (children_of (Inner old)) i (f (get_or (children_of (Inner old)) i d)))
  is_set d each = set_over old new (children_of (Inner old)) i v _ (over_top (Inner old) old refl top) (each _ (child_here d)) kind items

  is_same : (d : Child) → ((c : Child) → IsChild here c → IsChild v c) → IsOver new (children_of (Inner old))
  is_same d each = subst (IsOver new) (set_same (children_of (Inner old)) i d)
      (set_over old new (children_of (Inner old)) i v _ (over_top (Inner old) old refl top) (each _ (child_here d)) kind items)

  pub at_top : (d : Child) (r : Result (Unit {0}) GraftFault) → OnOk r ((c : Child) → IsChild here c → IsChild v (f c)) → OnErr r ((c : Child) → IsChild here c → IsChild v c) → is_top (Inner new) ≡ true
  at_top d (Ok _) grafted same = (top_over new _ (is_set d grafted)).0
  at_top d (Err _) grafted same = (top_over new _ (is_same d same)).0

  pub at_tree : (r : Result (Unit {0}) GraftFault) → OnOk r ((c : Child) → IsChild here c → IsChild v (f c))
      → OnOk r ((d : Child) → children_of (Inner new) ≡ set (children_of (Inner old)) i (f (get_or (children_of (Inner old)) i d)))
  at_tree (Ok _) grafted = λ d. (top_over new _ (is_set d grafted)).1
  at_tree (Err _) grafted = tt

  pub at_same : (d : Child) (r : Result (Unit {0}) GraftFault) → OnErr r ((c : Child) → IsChild here c → IsChild v c) → OnErr r (children_of (Inner new) ≡ children_of (Inner old))
  at_same d (Ok _) same = tt
  at_same d (Err _) same = (top_over new _ (is_same d same)).1

pub place_inside : (vdev : Vdev) (inner : InnerVdev) (i : ℕ) → vdev ≡ Inner inner → is_top vdev ≡ true → i < length (children_of vdev) → i < vec_len inner.children
place_inside vdev inner i is top inside = omega (arith, inside, length_zip inner.children.items (children_of vdev) (over_top vdev inner is top).are, inner.children.ok.0)

pub child_there : (vdev : Vdev) (inner : InnerVdev) (i : ℕ) (here : Vdev) (d : Child) → vdev ≡ Inner inner → is_top vdev ≡ true → i < length (children_of vdev)
    → here ≡ get_or inner.children.items i here → IsChild here (get_or (children_of vdev) i d)
child_there vdev inner i here d is top inside at_is =
    subst (λ w. IsChild w (get_or (children_of vdev) i d)) (sym at_is) (zip_at inner.children.items (children_of vdev) i here d (over_top vdev inner is top).are inside)

-- the leaves of the whole tree

top_leaves : (vdev : Vdev) → is_top vdev ≡ true → leaves vdev ≡ flat_map child_leaves (children_of vdev)
top_leaves vdev top = mirror_leaves vdev (children_of vdev) (top_is vdev top)

pub attached_leaves : (r : Result (Unit {0}) GraftFault) (old new : Vdev) (leaf : LeafVdev) → is_top old ≡ true → is_top new ≡ true
    → OnOk r (children_of new ≡ children_of old ++ alone (only leaf) ∷ []) → OnOk r (leaves new ≡ leaves old ++ leaf ∷ [])
attached_leaves (Ok _) old new leaf before top is =
    top_leaves new top ∙ ap (flat_map child_leaves) is ∙ flat_map-append child_leaves (children_of old) (alone (only leaf) ∷ [])
    ∙ ap (λ ls. ls ++ leaf ∷ []) (sym (top_leaves old before))
attached_leaves (Err _) old new leaf before top is = tt

pub grafted_edit : (r : Result (Unit {0}) GraftFault) (edit : Edit) (at guid : Guid) (leaf : LeafVdev) (old new : List Child) (i : ℕ) → i < length old
    → ((d : Child) → allows edit at (get_or old i d) ≡ true) → OnOk r ((d : Child) → new ≡ set old i (grafted edit guid leaf (get_or old i d)))
    → OnOk r (Edits (allows edit at) (λ c. grafted edit guid leaf c ∷ []) old new)
grafted_edit (Ok _) edit at guid leaf old new i inside allowed is =
    edits_at (allows edit at) (grafted edit guid leaf) old new i (alone (only leaf)) inside (allowed (alone (only leaf))) (is (alone (only leaf)))
grafted_edit (Err _) edit at guid leaf old new i inside allowed is = tt

each_grafted : (edit : Edit) (at guid : Guid) (leaf : LeafVdev) → is_graft edit ≡ true → (c : Child) → allows edit at c ≡ true
    → PutBehind at leaf (child_leaves c) (child_leaves (grafted edit guid leaf c))
each_grafted Attach at guid leaf is c may = absurd (false≢true is)
each_grafted Replace at guid leaf is c may = replaced_leaves at guid leaf c may
each_grafted AddSpare at guid leaf is c may = spared_leaves at guid leaf c may
each_grafted Prune at guid leaf is c may = absurd (false≢true is)

pub grafted_leaves : (r : Result (Unit {0}) GraftFault) (edit : Edit) (at guid : Guid) (leaf : LeafVdev) (old new : Vdev) → is_graft edit ≡ true → is_top old ≡ true → is_top new ≡ true
    → OnOk r (Edits (allows edit at) (λ c. grafted edit guid leaf c ∷ []) (children_of old) (children_of new)) → OnOk r (PutBehind at leaf (leaves old) (leaves new))
grafted_leaves (Ok _) edit at guid leaf old new is before top e =
    subst (λ ls. PutBehind at leaf ls (leaves new)) (sym (top_leaves old before)) (subst (PutBehind at leaf (flat_map child_leaves (children_of old))) (sym (top_leaves new top))
    (edited_leaves at leaf (allows edit at) (grafted edit guid leaf) (children_of old) (children_of new) (each_grafted edit at guid leaf is) e))
grafted_leaves (Err _) edit at guid leaf old new is before top e = tt
