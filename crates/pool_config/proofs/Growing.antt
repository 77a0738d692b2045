-- A tree that is written out is read back.
use Rattle.std.proofs.Common.{◌≡◌, ℕ, zero, suc, ◌^◌, ◌<◌, ◌≤◌, Bool, true, false, cond, ◌==◌, ◌⊎◌, inl, inr, List, []}
use Rattle.std.proofs.Common.{◌∷◌, ◌++◌, length, take, drop, refl, ap, sym, ◌∙◌, subst, arith, append_assoc}
use Rattle.std.proofs.lemmas.List.{append-nil}
use Rattle.std.specs.Prelude.{nat_le}
use Rattle.std.specs.List.{flat_map, list_all}
use Rattle.std.proofs.lemmas.Bool.{and_parts, and_from, leb-true, le-leb, false≢true}
use Rattle.mp_base.specs.declared.number.Guid.{Guid}
use Rattle.vdev_tree.specs.declared.vdev.Kind.{Kind}
use Rattle.vdev_tree.specs.declared.vdev.Kind.TheVariants.{Mirror, Replacing, Spare}
use Rattle.vdev_tree.specs.Tree.{joined, Form, a_leaf, a_replacing, a_spare, a_mirror, no_form, form_over, is_leaf}
use Rattle.vdev_tree.specs.Tree.{may_be_spared, may_be_mirrored}
use Rattle.pool_config.specs.Seen.{LeafSeen, VdevSeen, leaf_vdev, inner_vdev, TopSeen}
use Rattle.pool_config.specs.Trees.{forms, is_one_mirror, is_tree}
use Rattle.pool_config.specs.Spelling.{be64, leaf_bytes, kind_byte, inner_bytes, vdev_bytes, top_bytes}
use Rattle.pool_config.specs.Reading.{Read, byte_in, number_in, many_in, leaf_in, kind_in, from_count, from_children}
use Rattle.pool_config.specs.Reading.{leaf_alone_in, inner_over, tree_in, top_in}
use Rattle.pool_config.proofs.Suffixes.{read_as, number_is, behind_number, many_none, many_more, IsKeptLeaf, leaf_is}

-- how many levels a tree of this form has below its first vdev at most
rank : Form → ℕ
rank a_leaf = 0
rank a_replacing = 1
rank a_spare = 2
rank a_mirror = 3
rank no_form = 4

abbrev within : ℕ → Form → Bool
within levels form = nat_le (rank form) levels

leaves_within : (levels : ℕ) (fs : List Form) → list_all is_leaf fs ≡ true → list_all (within levels) fs ≡ true
unfolding rank
leaves_within levels [] all = refl
leaves_within levels (a_leaf ∷ fs) all =
    and_from (nat_le 0 levels) _ (le-leb _ _ (omega arith)) (leaves_within levels fs all)
leaves_within levels (a_replacing ∷ fs) all = absurd (false≢true all)
leaves_within levels (a_spare ∷ fs) all = absurd (false≢true all)
leaves_within levels (a_mirror ∷ fs) all = absurd (false≢true all)
leaves_within levels (no_form ∷ fs) all = absurd (false≢true all)

spared_within : (levels : ℕ) (f : Form) → may_be_spared f ≡ true → 1 ≤ levels → within levels f ≡ true
unfolding rank
spared_within levels a_leaf is some = le-leb _ _ (omega arith)
spared_within levels a_replacing is some = le-leb _ _ some
spared_within levels a_spare is some = absurd (false≢true is)
spared_within levels a_mirror is some = absurd (false≢true is)
spared_within levels no_form is some = absurd (false≢true is)

mirrored_within : (levels : ℕ) (fs : List Form) → list_all may_be_mirrored fs ≡ true → 2 ≤ levels
    → list_all (within levels) fs ≡ true
unfolding rank
mirrored_within levels [] all some = refl
mirrored_within levels (a_leaf ∷ fs) all some =
    and_from (nat_le 0 levels) _ (le-leb _ _ (omega arith)) (mirrored_within levels fs all some)
mirrored_within levels (a_replacing ∷ fs) all some =
    and_from (nat_le 1 levels) _ (le-leb _ _ (omega arith)) (mirrored_within levels fs all some)
mirrored_within levels (a_spare ∷ fs) all some =
    and_from (nat_le 2 levels) _ (le-leb _ _ some) (mirrored_within levels fs all some)
mirrored_within levels (a_mirror ∷ fs) all some = absurd (false≢true all)
mirrored_within levels (no_form ∷ fs) all some = absurd (false≢true all)

-- a form that is reached, of the two that a test can give
reached : (b : Bool) (f : Form) (levels : ℕ) → levels ≤ 3 → within levels (cond b f no_form) ≡ true
    → (b ≡ true) × (rank f ≤ levels)
unfolding rank
reached true f levels few is = (refl, leb-true _ _ is)
reached false f levels few is = absurd (omega (arith, leb-true _ _ is, few))

no_spare : (levels : ℕ) → levels ≤ 3 → within levels no_form ≡ true → ⊥
unfolding rank
no_spare levels few is = omega (arith, leb-true _ _ is, few)

-- what is under an inner vdev has one level less
one_less : (kind : Kind) (fs : List Form) (levels : ℕ) → suc levels ≤ 3 → within (suc levels) (form_over kind fs) ≡ true
    → list_all (within levels) fs ≡ true
unfolding rank
one_less Mirror fs levels few is =
    let r = reached _ a_mirror (suc levels) few is in
    mirrored_within levels fs (and_parts (list_all may_be_mirrored fs) _ r.0).0 (omega (arith, r.1))
one_less Replacing fs levels few is =
    let r = reached _ a_replacing (suc levels) few is in
    leaves_within levels fs (and_parts (list_all is_leaf fs) _ r.0).0
one_less Spare [] levels few is = absurd (no_spare (suc levels) few is)
one_less Spare (f ∷ fs) levels few is =
    let r = reached _ a_spare (suc levels) few is in
    let parts = and_parts (may_be_spared f) _ r.0 in
    and_from (within levels f) _ (spared_within levels f parts.0 (omega (arith, r.1)))
    (leaves_within levels fs (and_parts (list_all is_leaf fs) _ parts.1).0)

-- an inner vdev is no leaf's place
no_level : (kind : Kind) (fs : List Form) → within 0 (form_over kind fs) ≡ true → ⊥
unfolding rank
no_level Mirror fs is = omega (arith, (reached _ a_mirror 0 (omega arith) is).1)
no_level Replacing fs is = omega (arith, (reached _ a_replacing 0 (omega arith) is).1)
no_level Spare [] is = no_spare 0 (omega arith) is
no_level Spare (f ∷ fs) is = omega (arith, (reached _ a_spare 0 (omega arith) is).1)

-- ---- what a vdev needs to be read back

abbrev pub IsKeptVdev : VdevSeen → Type 0
IsKeptVdev (leaf_vdev leaf) = IsKeptLeaf leaf
IsKeptVdev (inner_vdev guid kind count) = guid.0 < 2 ^ 64

abbrev pub AreKept : List VdevSeen → Type 0
AreKept [] = Unit {0}
AreKept (v ∷ vs) = IsKeptVdev v × AreKept vs

kept_rest : (first others : List VdevSeen) → AreKept (first ++ others) → AreKept others
kept_rest [] others kept = kept
kept_rest (v ∷ first) others kept = kept_rest first others kept.1

bytes_of : List VdevSeen → List ℕ → List ℕ
bytes_of vdevs rest = flat_map vdev_bytes vdevs ++ rest

-- The first tree of some vdevs is read, and the others stay.
record Grows (levels : ℕ) (vdevs : List VdevSeen) (fs : List Form) : Type 0 where
  first : List VdevSeen
  others : List VdevSeen
  all : vdevs ≡ first ++ others
  forms_are : forms others ≡ fs
  read : (rest : List ℕ) → tree_in levels (bytes_of vdevs rest) ≡ read_as first (bytes_of others rest)

record GrowMany (levels count : ℕ) (vdevs : List VdevSeen) (fs : List Form) : Type 0 where
  firsts : List (List VdevSeen)
  others : List VdevSeen
  all : vdevs ≡ joined firsts ++ others
  forms_are : forms others ≡ fs
  read : (rest : List ℕ) → many_in (tree_in levels) count (bytes_of vdevs rest) ≡ read_as firsts (bytes_of others rest)

abbrev Reads : ℕ → Type 0
Reads levels =
    (vdevs : List VdevSeen) (f : Form) (fs : List Form) → forms vdevs ≡ f ∷ fs → within levels f ≡ true → levels ≤ 3
    → AreKept vdevs → Grows levels vdevs fs

many_grow : (levels : ℕ) → Reads levels → levels ≤ 3 → (count : ℕ) (vdevs : List VdevSeen) (fs : List Form)
    → forms vdevs ≡ fs → count ≤ length fs
    → list_all (within levels) (take count fs) ≡ true → AreKept vdevs → GrowMany levels count vdevs (drop count fs)
many_grow levels reads few zero vdevs fs is inside all kept =
    record {
      firsts = [];
      others = vdevs;
      all = refl;
      forms_are = is;
      read = λ rest. many_none (tree_in levels) (bytes_of vdevs rest);
    }
many_grow levels reads few (suc count) vdevs [] is inside all kept = absurd (omega arith)
many_grow levels reads few (suc count) vdevs (f ∷ fs) is inside all kept =
    let parts = and_parts (within levels f) _ all in
    let one = reads vdevs f fs is parts.0 few kept in
    let more = many_grow levels reads few count one.others fs one.forms_are (omega arith) parts.1
    (kept_rest one.first one.others (subst AreKept one.all kept)) in
    record {
      firsts = one.first ∷ more.firsts;
      others = more.others;
      all = one.all ∙ ap (λ vs. one.first ++ vs) more.all
          ∙ sym (append_assoc one.first (joined more.firsts) more.others);
      forms_are = more.forms_are;
      read = λ rest. many_more (tree_in levels) count (bytes_of vdevs rest) (bytes_of one.others rest) (bytes_of
          more.others rest) one.first more.firsts (one.read rest) (more.read rest);
    }

-- ---- bytes

leaf_first : (leaf : LeafSeen) (vdevs : List VdevSeen) (rest : List ℕ)
    → bytes_of (leaf_vdev leaf ∷ vdevs) rest ≡ leaf_bytes leaf ++ bytes_of vdevs rest
unfolding bytes_of
leaf_first leaf vdevs rest = append_assoc (leaf_bytes leaf) (flat_map vdev_bytes vdevs) rest

leaf_read : (leaf : LeafSeen) (vdevs : List VdevSeen) (rest : List ℕ) → IsKeptLeaf leaf
    → leaf_alone_in (bytes_of (leaf_vdev leaf ∷ vdevs) rest) ≡ read_as (leaf_vdev leaf ∷ []) (bytes_of vdevs rest)
leaf_read leaf vdevs rest kept =
    ap (λ r. read_as (leaf_vdev r.value ∷ []) r.rest)
    (ap leaf_in (leaf_first leaf vdevs rest) ∙ leaf_is leaf (bytes_of vdevs rest) kept)

zero_first : (leaf : LeafSeen) (vdevs : List VdevSeen) (rest : List ℕ)
    → byte_in (bytes_of (leaf_vdev leaf ∷ vdevs) rest) ≡ 0
unfolding bytes_of leaf_bytes
zero_first leaf vdevs rest = refl

inner_first : (guid : Guid) (kind : Kind) (count : ℕ) (vdevs : List VdevSeen) (rest : List ℕ)
    → bytes_of (inner_vdev guid kind count ∷ vdevs) rest
    ≡ kind_byte kind ∷ (be64 guid.0 ++ (count ∷ bytes_of vdevs rest))
unfolding bytes_of inner_bytes
inner_first guid kind count vdevs rest = simp append_assoc

kind_back : (kind : Kind) → kind_in (kind_byte kind) ≡ kind
kind_back Mirror = refl
kind_back Replacing = refl
kind_back Spare = refl

kind_some : (kind : Kind) → (kind_byte kind == 0) ≡ false
kind_some Mirror = refl
kind_some Replacing = refl
kind_some Spare = refl

abbrev inner_with : (guid : ℕ) → Kind → ℕ → List VdevSeen → List ℕ → Read (List VdevSeen)
inner_with guid kind count under rest = read_as (inner_vdev (record { 0 = guid }) kind count ∷ under) rest

same_inner : (g g' : ℕ) (k k' : Kind) (n n' : ℕ) (u u' : List VdevSeen) (r r' : List ℕ) → g ≡ g' → k ≡ k' → n ≡ n'
    → u ≡ u' → r ≡ r' → inner_with g k n u r ≡ inner_with g' k' n' u' r'
same_inner g g' k k' n n' u u' r r' e1 e2 e3 e4 e5 = cc

inner_read : (levels : ℕ) (guid : Guid) (kind : Kind) (count : ℕ) (under : List (List VdevSeen))
    (bytes next rest : List ℕ) → guid.0 < 2 ^ 64
    → bytes ≡ kind_byte kind ∷ (be64 guid.0 ++ (count ∷ next))
    → many_in (tree_in levels) count next ≡ read_as under rest
    → tree_in (suc levels) bytes ≡ inner_with guid.0 kind count (joined under) rest
unfolding tree_in
inner_read levels guid kind count under bytes next rest small is are =
    let at_count : from_count bytes ≡ count ∷ next = ap from_count is ∙ behind_number guid.0 (count ∷ next) in
    let counted : byte_in (from_count bytes) ≡ count = ap byte_in at_count in
    let behind : from_children bytes ≡ next = ap (drop 1) at_count in
    let children : many_in (tree_in levels) (byte_in (from_count bytes)) (from_children bytes) ≡ read_as under rest =
    ap (λ n. many_in (tree_in levels) n (from_children bytes)) counted ∙ ap (many_in (tree_in levels) count) behind
    ∙ are in
    ap (λ b. cond b (leaf_alone_in bytes) (inner_over bytes
    (many_in (tree_in levels) (byte_in (from_count bytes)) (from_children bytes))))
    (ap (λ s. byte_in s == 0) is ∙ kind_some kind)
    ∙ same_inner _ _ _ _ _ _ _ _ _ _
    (ap (λ s. number_in (drop 1 s)) is ∙ number_is guid.0 (count ∷ next) small)
    (ap (λ s. kind_in (byte_in s)) is ∙ kind_back kind)
    counted
    (ap (λ r. joined r.value) children)
    (ap (λ r. r.rest) children)

-- the form of the first tree, where an inner vdev begins
inner_forms : (b : Bool) (f g : Form) (fs gs : List Form) → cond b (f ∷ fs) (no_form ∷ []) ≡ g ∷ gs
    → g ≡ no_form ⊎ ((b ≡ true) × ((f ≡ g) × (fs ≡ gs)))
inner_forms true f g fs gs e = inr (refl, (cc, cc))
inner_forms false f g fs gs e = inl cc

leaf_grows_zero : (leaf : LeafSeen) (vdevs : List VdevSeen) (rest : List ℕ) → IsKeptLeaf leaf
    → tree_in 0 (bytes_of (leaf_vdev leaf ∷ vdevs) rest) ≡ read_as (leaf_vdev leaf ∷ []) (bytes_of vdevs rest)
unfolding tree_in
leaf_grows_zero leaf vdevs rest kept = leaf_read leaf vdevs rest kept

leaf_grows_suc : (levels : ℕ) (leaf : LeafSeen) (vdevs : List VdevSeen) (rest : List ℕ) → IsKeptLeaf leaf
    → tree_in (suc levels) (bytes_of (leaf_vdev leaf ∷ vdevs) rest)
    ≡ read_as (leaf_vdev leaf ∷ []) (bytes_of vdevs rest)
unfolding tree_in
leaf_grows_suc levels leaf vdevs rest kept =
    let bytes = bytes_of (leaf_vdev leaf ∷ vdevs) rest in
    ap (λ n. cond (n == 0) (leaf_alone_in bytes)
    (inner_over bytes (many_in (tree_in levels) (byte_in (from_count bytes)) (from_children bytes))))
    (zero_first leaf vdevs rest)
    ∙ leaf_read leaf vdevs rest kept

inner_grows : (levels : ℕ) (guid : Guid) (kind : Kind) (count : ℕ) (vdevs : List VdevSeen) (fs : List Form)
    → guid.0 < 2 ^ 64 → GrowMany levels count vdevs fs
    → Grows (suc levels) (inner_vdev guid kind count ∷ vdevs) fs
inner_grows levels guid kind count vdevs fs small under = record {
  first = inner_vdev guid kind count ∷ joined under.firsts;
  others = under.others;
  all = ap (λ vs. inner_vdev guid kind count ∷ vs) under.all;
  forms_are = under.forms_are;
  read = λ rest. inner_read levels guid kind count under.firsts _ (bytes_of vdevs rest) (bytes_of under.others
      rest) small (inner_first guid kind count vdevs rest) (under.read rest);
}

tail_of : (f : Form) (fs gs : List Form) (g : Form) → f ∷ fs ≡ g ∷ gs → fs ≡ gs
tail_of f fs gs g e = cc

reads_tree : (levels : ℕ) → Reads levels
unfolding forms
reads_tree zero [] f fs is at few kept = absurd cc
reads_tree zero (leaf_vdev leaf ∷ vdevs) f fs is at few kept =
    record {
      first = leaf_vdev leaf ∷ [];
      others = vdevs;
      all = refl;
      forms_are = tail_of a_leaf (forms vdevs) fs f is;
      read = λ rest. leaf_grows_zero leaf vdevs rest kept.0;
    }
reads_tree zero (inner_vdev guid kind count ∷ vdevs) f fs is at few kept =
    elim (inner_forms (nat_le count (length (forms vdevs))) (form_over kind (take count (forms vdevs))) f
    (drop count (forms vdevs)) fs is) [
      | inl none ↦ absurd (no_spare 0 few (sym (ap (within 0) none) ∙ at))
      | inr some ↦ absurd (no_level kind (take count (forms vdevs)) (ap (within 0) some.1.0 ∙ at))
    ]
reads_tree (suc levels) [] f fs is at few kept = absurd cc
reads_tree (suc levels) (leaf_vdev leaf ∷ vdevs) f fs is at few kept =
    record {
      first = leaf_vdev leaf ∷ [];
      others = vdevs;
      all = refl;
      forms_are = tail_of a_leaf (forms vdevs) fs f is;
      read = λ rest. leaf_grows_suc levels leaf vdevs rest kept.0;
    }
reads_tree (suc levels) (inner_vdev guid kind count ∷ vdevs) f fs is at few kept =
    elim (inner_forms (nat_le count (length (forms vdevs))) (form_over kind (take count (forms vdevs))) f
    (drop count (forms vdevs)) fs is) [
      | inl none ↦ absurd (no_spare (suc levels) few (sym (ap (within (suc levels)) none) ∙ at))
      | inr some ↦ inner_grows levels guid kind count vdevs fs kept.0
          (subst (GrowMany levels count vdevs) some.1.1
          (many_grow levels (reads_tree levels) (omega (arith, few)) count vdevs (forms vdevs) refl
          (leb-true _ _ some.0)
          (one_less kind (take count (forms vdevs)) levels few (ap (within (suc levels)) some.1.0 ∙ at)) kept.1))
    ]

-- ---- the tree of a top

some_forms : (v : VdevSeen) (vdevs : List VdevSeen) → forms (v ∷ vdevs) ≡ [] → ⊥
unfolding forms
some_forms (leaf_vdev leaf) vdevs is = absurd cc
some_forms (inner_vdev guid kind count) vdevs is = never (nat_le count (length (forms vdevs))) _ _ is
  where
    never : (b : Bool) (f : Form) (fs : List Form) → cond b (f ∷ fs) (no_form ∷ []) ≡ [] → ⊥
    never true f fs e = absurd cc
    never false f fs e = absurd cc

no_forms : (vdevs : List VdevSeen) → forms vdevs ≡ [] → vdevs ≡ []
no_forms [] is = refl
no_forms (v ∷ vdevs) is = absurd (some_forms v vdevs is)

mirror_alone : (fs : List Form) → is_one_mirror fs ≡ true → fs ≡ a_mirror ∷ []
mirror_alone [] is = absurd (false≢true is)
mirror_alone (a_leaf ∷ []) is = absurd (false≢true is)
mirror_alone (a_replacing ∷ []) is = absurd (false≢true is)
mirror_alone (a_spare ∷ []) is = absurd (false≢true is)
mirror_alone (a_mirror ∷ []) is = refl
mirror_alone (no_form ∷ []) is = absurd (false≢true is)
mirror_alone (f ∷ (g ∷ fs)) is = absurd (false≢true is)

pub tree_is : (vdevs : List VdevSeen) (rest : List ℕ) → is_tree vdevs ≡ true → AreKept vdevs
    → tree_in 3 (flat_map vdev_bytes vdevs ++ rest) ≡ read_as vdevs rest
unfolding is_tree bytes_of rank
tree_is vdevs rest is kept =
    let one = reads_tree 3 vdevs a_mirror [] (mirror_alone (forms vdevs) is) refl (omega arith) kept in
    let none : one.others ≡ [] = no_forms one.others one.forms_are in
    let all : vdevs ≡ one.first = one.all ∙ ap (λ vs. one.first ++ vs) none ∙ append-nil one.first in
    one.read rest ∙ ap (λ vs. read_as one.first (flat_map vdev_bytes vs ++ rest)) none
    ∙ ap (λ vs. read_as vs rest) (sym all)

abbrev top_with : ℕ → List VdevSeen → TopSeen
top_with sectors vdevs = record { sectors = sectors; vdevs = vdevs }

pub top_is : (top : TopSeen) (rest : List ℕ) → top.sectors < 2 ^ 64 → is_tree top.vdevs ≡ true → AreKept top.vdevs
    → top_in (top_bytes top ++ rest) ≡ read_as top rest
unfolding top_in top_bytes
top_is top rest small is kept =
    let split : (be64 top.sectors ++ flat_map vdev_bytes top.vdevs) ++ rest
    ≡ be64 top.sectors ++ (flat_map vdev_bytes top.vdevs ++ rest) =
    append_assoc (be64 top.sectors) (flat_map vdev_bytes top.vdevs) rest in
    let tree : tree_in 3 (drop 8 ((be64 top.sectors ++ flat_map vdev_bytes top.vdevs) ++ rest))
    ≡ read_as top.vdevs rest =
    ap (λ s. tree_in 3 (drop 8 s)) split ∙ ap (tree_in 3) (behind_number top.sectors _)
    ∙ tree_is top.vdevs rest is kept in
    same_top _ _ _ _ _ _ (ap number_in split ∙ number_is top.sectors _ small) (ap (λ r. r.value) tree)
    (ap (λ r. r.rest) tree)
  where
    same_top : (s s' : ℕ) (v v' : List VdevSeen) (r r' : List ℕ) → s ≡ s' → v ≡ v' → r ≡ r'
        → read_as (top_with s v) r ≡ read_as (top_with s' v') r'
    same_top s s' v v' r r' e1 e2 e3 = cc
