-- A scan starts for the readable leaves, and a resilver where one of them owes a group.
use Rattle.std.proofs.Common.{◌≡◌, ◌⊎◌, inl, inr, ⊎_elim, ℕ, zero, suc, ◌+◌, ◌<◌, ◌≤◌, List, [], ◌∷◌, ◌++◌, length, get_or, take, Option, Some, None, refl, sym, ap, ◌∙◌, subst, arith, append_assoc}
use Rattle.std.specs.Prelude.{slice_get}
use Rattle.std.specs.List.{cons_option}
use Rattle.std.proofs.lemmas.List.{take_more}
use Rattle.std.proofs.lemmas.List.Elements.{filter_map-append}
use Rattle.std.proofs.lemmas.Option.{none-some, same_Some}
use Rattle.vdev_tree.specs.Tree.{leaves}
use Rattle.vdev_tree.specs.declared.top.Top.{Top}
use Rattle.vdev_tree.specs.declared.vdev.LeafVdev.{LeafVdev}
use Rattle.dtl_rules.specs.Widening.{leaves_of}
use Rattle.dtl_rules.proofs.Totals.{tops_more}
use Rattle.txg_engine.proofs.Seating.{got_inside, got_there}
use Rattle.open_pool.specs.declared.scan.ScanLeaf.{ScanLeaf}
use Rattle.open_pool.specs.Scanning.{scan_leaf, scan_leaves, IsOwing, HasOwing}
use Rattle.open_pool.proofs.LeavesSought.{count_more}

-- one leaf more of a list
next_taken : {X : Type 0} (xs : List X) (i : ℕ) (x : X) → slice_get xs i ≡ Some x → take (i + 1) xs ≡ take i xs ++ x ∷ []
next_taken xs i x at = take_more xs i x (got_inside xs i x at) ∙ ap (λ y. take i xs ++ y ∷ []) (got_there xs i x x at)

pub got_any : {X : Type 0} (xs : List X) (i : ℕ) (d e : X) → i < length xs → get_or xs i d ≡ get_or xs i e
got_any [] i d e inside = absurd (omega arith)
got_any (x ∷ xs) zero d e inside = refl
got_any (x ∷ xs) (suc i) d e inside = got_any xs i d e (omega arith)

-- The leaves of a scan.
pub leaf_pushed : (ls : List LeafVdev) (i : ℕ) (leaf : LeafVdev) (before now after : List ScanLeaf) → slice_get ls i ≡ Some leaf
    → now ≡ before ++ scan_leaves (take i ls) → after ≡ now ++ scan_leaves (leaf ∷ []) → after ≡ before ++ scan_leaves (take (i + 1) ls)
leaf_pushed ls i leaf before now after at is is' =
    is' ∙ ap (λ l. l ++ scan_leaves (leaf ∷ [])) is ∙ append_assoc before (scan_leaves (take i ls)) (scan_leaves (leaf ∷ []))
    ∙ ap (λ l. before ++ l) (sym (filter_map-append scan_leaf (take i ls) (leaf ∷ [])) ∙ ap scan_leaves (sym (next_taken ls i leaf at)))

one_more : (o : Option ScanLeaf) (ls : List ScanLeaf) → length (cons_option o ls) ≤ length ls + 1
one_more None ls = omega arith
one_more (Some leaf) ls = omega arith

pub few_scanned : (ls : List LeafVdev) → length (scan_leaves ls) ≤ length ls
few_scanned [] = omega arith
few_scanned (leaf ∷ ls) = omega (arith, one_more (scan_leaf leaf) (scan_leaves ls), few_scanned ls)

pub top_pushed : (tops : List Top) (i : ℕ) (d : Top) (now after : List ScanLeaf) → i < length tops → now ≡ scan_leaves (leaves_of (take i tops))
    → after ≡ now ++ scan_leaves (leaves (get_or tops i d).mirror) → after ≡ scan_leaves (leaves_of (take (i + 1) tops))
top_pushed tops i d now after inside is is' =
    is' ∙ ap (λ l. l ++ scan_leaves (leaves (get_or tops i d).mirror)) is
    ∙ sym (filter_map-append scan_leaf (leaves_of (take i tops)) (leaves (get_or tops i d).mirror)) ∙ ap scan_leaves (sym (tops_more tops i d inside))

-- a top's leaves have room behind those before it
pub room_pushed : (tops : List Top) (i : ℕ) (top : Top) (now : List ScanLeaf) → slice_get tops i ≡ Some top → now ≡ scan_leaves (leaves_of (take i tops))
    → length (leaves_of tops) ≤ 32 → length now + length (leaves top.mirror) ≤ 32
room_pushed tops i top now at is few =
    let count = count_more tops i top at in
    let long = ap length is in
    let less = few_scanned (leaves_of (take i tops)) in
    omega (arith, count.0, count.1, long, less, few)

-- Whether a readable leaf owes a group.
either_owes : (xs ys : List LeafVdev) → HasOwing (xs ++ ys) → HasOwing xs ⊎ HasOwing ys
either_owes [] ys has = inr has
either_owes (x ∷ xs) ys (inl here) = inl (inl here)
either_owes (x ∷ xs) ys (inr has) = ⊎_elim (λ front. inl (inr front)) (λ back. inr back) (either_owes xs ys has)

owes_front : (xs ys : List LeafVdev) → HasOwing xs → HasOwing (xs ++ ys)
owes_front [] ys has = absurd has
owes_front (x ∷ xs) ys (inl here) = inl here
owes_front (x ∷ xs) ys (inr has) = inr (owes_front xs ys has)

owes_back : (xs ys : List LeafVdev) → HasOwing ys → HasOwing (xs ++ ys)
owes_back [] ys has = has
owes_back (x ∷ xs) ys has = inr (owes_back xs ys has)

pub owes_at : (ls : List LeafVdev) (i : ℕ) (leaf : LeafVdev) → slice_get ls i ≡ Some leaf → IsOwing leaf → HasOwing ls
owes_at [] i leaf at owes = absurd (none-some leaf at)
owes_at (x ∷ ls) zero leaf at owes = inl (subst IsOwing (sym (same_Some x leaf at)) owes)
owes_at (x ∷ ls) (suc i) leaf at owes = inr (owes_at ls i leaf at owes)

pub owes_no_more : (ls : List LeafVdev) (i : ℕ) (leaf : LeafVdev) → slice_get ls i ≡ Some leaf → (HasOwing (take i ls) → ⊥) → (IsOwing leaf → ⊥)
    → HasOwing (take (i + 1) ls) → ⊥
owes_no_more ls i leaf at none off has =
    ⊎_elim none (λ last. ⊎_elim off (λ never. never) last) (either_owes (take i ls) (leaf ∷ []) (subst HasOwing (next_taken ls i leaf at) has))

pub owes_under_one : (tops : List Top) (i : ℕ) (top : Top) → slice_get tops i ≡ Some top → HasOwing (leaves top.mirror) → HasOwing (leaves_of tops)
owes_under_one [] i top at has = absurd (none-some top at)
owes_under_one (t ∷ tops) zero top at has =
    owes_front (leaves t.mirror) (leaves_of tops) (subst (λ (x : Top). HasOwing (leaves x.mirror)) (sym (same_Some t top at)) has)
owes_under_one (t ∷ tops) (suc i) top at has = owes_back (leaves t.mirror) (leaves_of tops) (owes_under_one tops i top at has)

pub none_under_more : (tops : List Top) (i : ℕ) (d : Top) → i < length tops → (HasOwing (leaves_of (take i tops)) → ⊥)
    → (HasOwing (leaves (get_or tops i d).mirror) → ⊥) → HasOwing (leaves_of (take (i + 1) tops)) → ⊥
none_under_more tops i d inside none off has =
    ⊎_elim none off (either_owes (leaves_of (take i tops)) (leaves (get_or tops i d).mirror) (subst HasOwing (tops_more tops i d inside) has))
