-- How the tops of a new pool are built, leaf by leaf and top by top.
use Rattle.std.proofs.Common.{◌≡◌, ℕ, suc, ◌+◌, ◌-◌, ◌<◌, ◌≤◌, ◌&&◌, nat_le, true, cond, List, [], ◌∷◌, ◌++◌, length, map, drop, get_or, min, Option, Some, None, refl, sym, ap, ◌∙◌, subst, arith}
use Rattle.std.specs.List.{flat_map, list_all}
use Rattle.std.proofs.lemmas.Bool.{le-leb}
use Rattle.std.proofs.lemmas.List.{length-map, map-append, drop_all, drop_more}
use Rattle.mp_base.specs.declared.number.Guid.{Guid}
use Rattle.vdev_tree.specs.Tree.{Form, a_mirror, form_of, form_over, is_mirror, is_top, leaves, may_be_mirrored, no_form}
use Rattle.vdev_tree.specs.declared.top.Top.{Top}
use Rattle.std.specs.Global.{Vec}
use Rattle.vdev_tree.specs.declared.vdev.InnerVdev.{InnerVdev, roll-InnerVdev, out-roll-InnerVdev, outs-InnerVdev'}
use Rattle.vdev_tree.specs.declared.vdev.Vdev.TheOpen.{InnerVdev-F}
use Rattle.vdev_tree.specs.declared.vdev.Kind.TheVariants.{Mirror}
use Rattle.vdev_tree.specs.declared.vdev.LeafVdev.{LeafVdev}
use Rattle.vdev_tree.specs.declared.vdev.Vdev.{Vdev}
use Rattle.vdev_tree.specs.declared.vdev.Vdev.TheVariants.{Leaf, Inner}
use Rattle.vdev_tree.proofs.Folds.{leaves_leaf, leaves_inner, form_leaf, form_inner}
use Rattle.pool_config.specs.Seen.{leaf_vdev, inner_vdev, leaf_seen, vdevs_of}
use Rattle.pool_config.proofs.Rooms.{vdevs_leaf, vdevs_inner}
use Rattle.pool_moves.specs.StampRow.{NewMember, least_with, next_from}
use Rattle.open_pool.specs.Creating.{AreMade, AreNewTops, IsMade, IsMirror, IsNewTop, least_room}

-- One more leaf.
made_more : (next : ℕ) (members : List NewMember) (under : List LeafVdev) (n : ℕ) (m : NewMember) (leaf : LeafVdev) → AreMade next members under
    → n ≡ next + length members → IsMade (record { 0 = n }) m leaf → AreMade next (members ++ m ∷ []) (under ++ leaf ∷ [])
made_more next [] [] n m leaf made is one =
    (subst (λ k. IsMade (record { 0 = k }) m leaf) (let same : n ≡ next = omega (arith, is) in same) one, tt)
made_more next [] (x ∷ under) n m leaf made is one = absurd made
made_more next (x ∷ members) [] n m leaf made is one = absurd made
made_more next (x ∷ members) (y ∷ under) n m leaf made is one =
    (made.0, made_more (suc next) members under n m leaf made.1 (omega (arith, is)) one)

pub as_many : (next : ℕ) (members : List NewMember) (under : List LeafVdev) → AreMade next members under → length under ≡ length members
as_many next [] [] made = refl
as_many next [] (x ∷ under) made = absurd made
as_many next (x ∷ members) [] made = absurd made
as_many next (x ∷ members) (y ∷ under) made = ap suc (as_many (suc next) members under made.1)

-- The children of a mirror that is built up: leaves of these members.
pub record HasChildren (next : ℕ) (members : List NewMember) (children : List Vdev) : Type 0 where
  pub under : List LeafVdev
  pub are : children ≡ map Leaf under
  pub made : AreMade (suc next) members under

pub no_children : (next : ℕ) → HasChildren next [] []
no_children next = record { under = []; are = refl; made = tt }

pub more_children : (next : ℕ) (members : List NewMember) (children more : List Vdev) (n : ℕ) (m : NewMember) (leaf : LeafVdev)
    → HasChildren next members children → more ≡ children ++ Leaf leaf ∷ [] → n ≡ next + 1 + length members → IsMade (record { 0 = n }) m leaf
    → HasChildren next (members ++ m ∷ []) more
more_children next members children more n m leaf has is number one = record {
  under = has.under ++ leaf ∷ [];
  are = is ∙ ap (λ vs. vs ++ Leaf leaf ∷ []) has.are ∙ sym (map-append Leaf has.under (leaf ∷ []));
  made = made_more (suc next) members has.under n m leaf has.made (omega (arith, number)) one;
}

leaves_are : (under : List LeafVdev) → flat_map leaves (map Leaf under) ≡ under
leaves_are [] = refl
leaves_are (leaf ∷ under) = ap (λ ls. ls ++ flat_map leaves (map Leaf under)) (leaves_leaf leaf) ∙ ap (λ ls. leaf ∷ ls) (leaves_are under)

vdevs_are : (under : List LeafVdev) → flat_map vdevs_of (map Leaf under) ≡ map leaf_vdev (map leaf_seen under)
vdevs_are [] = refl
vdevs_are (leaf ∷ under) =
    ap (λ vs. vs ++ flat_map vdevs_of (map Leaf under)) (vdevs_leaf leaf) ∙ ap (λ vs. leaf_vdev (leaf_seen leaf) ∷ vs) (vdevs_are under)

all_leaves : (under : List LeafVdev) → list_all may_be_mirrored (map form_of (map Leaf under)) ≡ true
all_leaves [] = refl
all_leaves (leaf ∷ under) =
    ap (λ f. may_be_mirrored f && list_all may_be_mirrored (map form_of (map Leaf under))) (form_leaf leaf) ∙ all_leaves under

mirrored : (forms : List Form) → list_all may_be_mirrored forms ≡ true → 1 ≤ length forms → length forms ≤ 8 → is_mirror (form_over Mirror forms) ≡ true
mirrored forms all some few =
    ap (λ b. is_mirror (cond (b && (nat_le 1 (length forms) && nat_le (length forms) 8)) a_mirror no_form)) all
    ∙ ap (λ b. is_mirror (cond (b && nat_le (length forms) 8) a_mirror no_form)) (le-leb 1 (length forms) some)
    ∙ ap (λ b. is_mirror (cond b a_mirror no_form)) (le-leb (length forms) 8 few)

-- So it is one of a new pool.
pub is_mirror_of : (next : ℕ) (members : List NewMember) (inner : InnerVdev) → HasChildren next members inner.children.items
    → inner.guid ≡ record { 0 = next } → inner.kind ≡ Mirror → 1 ≤ length members → length members ≤ 8 → IsMirror next members (Inner inner)
unfolding is_top
is_mirror_of next members inner has guid kind some few =
    let under = leaves_inner inner ∙ ap (flat_map leaves) has.are ∙ leaves_are has.under in
    let many = as_many (suc next) members has.under has.made in
    let long : length inner.children.items ≡ length members = ap length has.are ∙ length-map has.under Leaf ∙ many in
    let forms = map form_of inner.children.items in
    let same = length-map inner.children.items form_of in
    record {
      made = subst (AreMade (suc next) members) (sym under) has.made;
      vdevs = vdevs_inner inner
          ∙ ap (λ n. inner_vdev inner.guid inner.kind n ∷ flat_map vdevs_of inner.children.items) long
          ∙ ap (λ (g : Guid). inner_vdev g inner.kind (length members) ∷ flat_map vdevs_of inner.children.items) guid
          ∙ ap (λ k. inner_vdev (record { 0 = next }) k (length members) ∷ flat_map vdevs_of inner.children.items) kind
          ∙ ap (λ vs. inner_vdev (record { 0 = next }) Mirror (length members) ∷ vs)
          (ap (flat_map vdevs_of) has.are ∙ vdevs_are has.under ∙ ap (λ ls. map leaf_vdev (map leaf_seen ls)) (sym under));
      valid = ap is_mirror (form_inner inner ∙ ap (λ k. form_over k forms) kind)
          ∙ mirrored forms (ap (λ vs. list_all may_be_mirrored (map form_of vs)) has.are ∙ all_leaves has.under) (omega (arith, same, long, some))
          (omega (arith, same, long, few));
    }

-- One more top.
pub tops_more : (size : ℕ → ℕ) (next : ℕ) (asked : List (List NewMember)) (tops : List Top) (n : ℕ) (members : List NewMember) (top : Top)
    → AreNewTops size next asked tops → n ≡ next_from next asked → IsNewTop size n members top
    → AreNewTops size next (asked ++ members ∷ []) (tops ++ top ∷ [])
tops_more size next [] [] n members top are is one = (subst (λ k. IsNewTop size k members top) is one, tt)
tops_more size next [] (x ∷ tops) n members top are is one = absurd are
tops_more size next (x ∷ asked) [] n members top are is one = absurd are
tops_more size next (x ∷ asked) (y ∷ tops) n members top are is one =
    (are.0, tops_more size (suc next + length x) asked tops n members top are.1 is one)

pub next_more : (next : ℕ) (asked : List (List NewMember)) (members : List NewMember)
    → next_from next (asked ++ members ∷ []) ≡ suc (next_from next asked) + length members
next_more next [] members = refl
next_more next (x ∷ asked) members = next_more (suc next + length x) asked members

-- The least of what is left, with the least so far.
least_of : (n : ℕ) (o : Option ℕ) (k : ℕ) → least_with (min n k) o ≡ least_with n (Some (least_with k o))
least_of n None k = refl
least_of n (Some m) k = omega arith

pub least_more : (size : ℕ → ℕ) (members : List NewMember) (i : ℕ) (m : NewMember) (n k : ℕ) → i < length members → m ≡ get_or members i m
    → least_room size members ≡ Some (least_with n (least_room size (drop i members))) → k + 256 ≡ size m.dev
    → least_room size members ≡ Some (least_with (min n k) (least_room size (drop (i + 1) members)))
least_more size members i m n k lt at so_far room =
    so_far
    ∙ ap (λ ms. Some (least_with n (least_room size ms))) (drop_more members i m lt)
    ∙ ap (λ (x : NewMember). Some (least_with n (Some (least_with (size x.dev - 256) (least_room size (drop (i + 1) members)))))) (sym at)
    ∙ ap (λ r. Some (least_with n (Some (least_with r (least_room size (drop (i + 1) members))))))
    (let same : size m.dev - 256 ≡ k = omega (arith, room) in same)
    ∙ ap Some (sym (least_of n (least_room size (drop (i + 1) members)) k))

pub least_all : (size : ℕ → ℕ) (members : List NewMember) (i n : ℕ) → length members ≤ i
    → least_room size members ≡ Some (least_with n (least_room size (drop i members))) → least_room size members ≡ Some n
least_all size members i n past so_far = so_far ∙ ap (λ ms. Some (least_with n (least_room size ms))) (drop_all i members past)

-- so one that is put together
pub is_put_together : (next : ℕ) (members : List NewMember) (children : Vec Vdev) → HasChildren next members children.items
    → 1 ≤ length members → length members ≤ 8
    → IsMirror next members (Inner (roll-InnerVdev (record { guid = record { 0 = next }; kind = Mirror; children = children })))
is_put_together next members children has some few =
    let x : InnerVdev-F Vdev InnerVdev = record { guid = record { 0 = next }; kind = Mirror; children = children } in
    let same = sym (outs-InnerVdev' (roll-InnerVdev x)) ∙ out-roll-InnerVdev x in
    is_mirror_of next members (roll-InnerVdev x)
    (subst (HasChildren next members) (sym (ap (λ (y : InnerVdev-F Vdev InnerVdev). y.children.items) same)) has)
    (ap (λ (y : InnerVdev-F Vdev InnerVdev). y.guid) same) (ap (λ (y : InnerVdev-F Vdev InnerVdev). y.kind) same) some few
