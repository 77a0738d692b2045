-- The trees of a state keep the leaves of its list, behind lines that change them too.
use Rattle.std.proofs.Common.{◌≡◌, inl, inr, ℕ, zero, suc, ◌+◌, ◌<◌, ◌≤◌, ◌==◌, nat_lt, Bool, true, false, cond, Option, Some, None, List, [], ◌∷◌, ◌++◌, map, refl, sym, ap, ◌∙◌, subst, arith}
use Rattle.std.specs.List.{AllByRecursion, find, list_any, insert, remove}
use Rattle.std.specs.Str.{bytes_eq}
use Rattle.std.proofs.lemmas.Bool.Decides.{nat_tests}
use Rattle.mp_base.specs.declared.number.Guid.{Guid}
use Rattle.bank_core.specs.declared.bank.Fault.{Fault}
use Rattle.bank_core.specs.Disk.{Noted}
use Rattle.txg_history.specs.Pages.{Codec}
use Rattle.txg_history.specs.Pools.{Pool}
use Rattle.txg_history.proofs.Logging.{by_bool, same_device}
use Rattle.pool_moves.specs.AwayRows.{leaf_named, is_spare}
use Rattle.pool_moves.specs.Keeping.{HasNumberBelow, Kept}
use Rattle.pool_moves.specs.Leaves.{OwnLeaf, LeafSeen, Seat, At, Adrift, told, leaf_seen}
use Rattle.pool_moves.specs.LineRows.{TurnReply, Committed, Suspended}
use Rattle.pool_moves.specs.Moves.{Move, Widen, Lose, Comes, Goes, Returns, Rest, Shapes, leaf_step, step, state_step, steps}
use Rattle.pool_moves.specs.Refusing.{FreezeRefusal}
use Rattle.pool_moves.specs.ScanRows.{starts_scan}
use Rattle.pool_moves.specs.States.{ScanSeen, PoolSeen, PoolState, Side}
use Rattle.pool_moves.specs.TreeLeaves.{numbers_under, AreDifferent, AreTreeLeaves, IsCalm}
use Rattle.pool_moves.specs.TreeRows.{Graft, Attach, Replace, graft_moves, TreeRefusal, has_place, graft_limits, refusal_at, graft_refusal, numbered, new_number, grafted, place_where, place_named, behind_top, new_place, new_own, GraftReply, comes_in, graft_first, GraftEnds, GraftOn, GraftAt, GraftFor, RowGraft, DetachReply, goes_out, is_there, IsCleaned, DetachBehind, CommitsWithout, DetachFor, DetachLeaf, DetachBy, RowDetach}
use Rattle.pool_moves.specs.Trees.{Child, same_number, tree_leaves, pruned}
use Rattle.pool_moves.specs.Walking.{as_moves}
use Rattle.pool_moves.specs.Widening.{AreWidens}
use Rattle.pool_moves.proofs.DetachWalks.{commit_calm}
use Rattle.pool_moves.proofs.FreeWalks.{steps_more}
use Rattle.pool_moves.proofs.GraftWalks.{new_above}
use Rattle.pool_moves.proofs.Keeping.{leaf_stays, leaves_still}
use Rattle.pool_moves.proofs.TreeEdits.{put_behind, taken_out, HasNot, attached_leaves, replaced_leaves, pruned_leaves}
use Rattle.pool_moves.proofs.Tests.{here, other_back, some_same}
use Rattle.std.proofs.lemmas.Bool.{or_parts}

-- A leaf by its number and its top, and a state by these and its trees.
abbrev Face : Type 0
Face = Guid × ℕ

abbrev face : LeafSeen → Face
face leaf = (leaf.guid, leaf.top)

record Shape : Type 0 where
  pub faces : List Face
  pub children : ℕ → List Child

abbrev shape_of : PoolState → Shape
shape_of s = record { faces = map face s.core.leaves; children = s.own.children }

abbrev under : (top : ℕ) → List Face → List Guid
under top [] = []
under top (f ∷ fs) = cond (f.1 == top) (f.0 ∷ under top fs) (under top fs)

abbrev firsts : List Face → List Guid
firsts [] = []
firsts (f ∷ fs) = f.0 ∷ firsts fs

record IsTree (sh : Shape) : Type 0 where
  pub tree : (top : ℕ) → tree_leaves (sh.children top) ≡ under top sh.faces
  pub different : AreDifferent (firsts sh.faces)

under_is : (top : ℕ) (leaves : List LeafSeen) → under top (map face leaves) ≡ numbers_under top leaves
under_is top [] = refl
under_is top (leaf ∷ leaves) = ap (λ l. cond (leaf.top == top) (leaf.guid ∷ l) l) (under_is top leaves)

firsts_are : (leaves : List LeafSeen) → firsts (map face leaves) ≡ map (λ leaf. leaf.guid) leaves
firsts_are [] = refl
firsts_are (leaf ∷ leaves) = ap (λ l. leaf.guid ∷ l) (firsts_are leaves)

to_shape : (s : PoolState) → AreTreeLeaves s → IsTree (shape_of s)
to_shape s are =
    record { tree = λ top. are.tree top ∙ sym (under_is top s.core.leaves); different = subst AreDifferent (sym (firsts_are s.core.leaves)) are.different }

of_shape : (s : PoolState) → IsTree (shape_of s) → AreTreeLeaves s
of_shape s is = record { tree = λ top. is.tree top ∙ under_is top s.core.leaves; different = subst AreDifferent (firsts_are s.core.leaves) is.different }

-- Moves that bring no leaf, take none, and change no tree.
faces_map : (v : Move) (number first : ℕ) (scan : ScanSeen) (leaves : List LeafSeen) → map face (map (leaf_step v number first scan) leaves) ≡ map face leaves
faces_map v number first scan [] = refl
faces_map v number first scan (leaf ∷ leaves) =
    ap (λ g. (g, (leaf_step v number first scan leaf).top) ∷ map face (map (leaf_step v number first scan) leaves))
    (leaf_stays v number first scan leaf).0
    ∙ (ap (λ t. (leaf.guid, t) ∷ map face (map (leaf_step v number first scan) leaves))
    (leaf_stays v number first scan leaf).1 ∙ ap (λ l. face leaf ∷ l) (faces_map v number first scan leaves))

abbrev with_faces : PoolState → List Face → Shape
with_faces s fs = record { faces = fs; children = s.own.children }

shape_step : (v : Move) (s : PoolState) → IsCalm v → shape_of (state_step v s) ≡ shape_of s
shape_step (Shapes top children) s is = absurd is
shape_step (Comes i d m top own) s is = absurd is
shape_step (Goes i) s is = absurd is
shape_step (Returns i seat leaf) s is = absurd is
shape_step v s is = ap (with_faces s) (ap (map face) (leaves_still v s.core tt)
    ∙ faces_map v s.core.number s.core.group.first s.core.scan s.core.leaves)

shape_along : (vs : List Move) (s : PoolState) → AllByRecursion IsCalm vs → shape_of (steps vs s) ≡ shape_of s
shape_along [] s all = refl
shape_along (v ∷ vs) s all = shape_along vs (state_step v s) all.1 ∙ shape_step v s all.0

pub calm_leaves : (vs : List Move) (s : PoolState) → AllByRecursion IsCalm vs → AreTreeLeaves s → AreTreeLeaves (steps vs s)
calm_leaves vs s all are = of_shape (steps vs s) (subst IsTree (sym (shape_along vs s all)) (to_shape s are))

calls_calm : (made : List Noted) → AllByRecursion IsCalm (as_moves made)
calls_calm [] = tt
calls_calm (noted ∷ made) = (tt, calls_calm made)

-- Faces put in and taken out.
faces_insert : (leaves : List LeafSeen) (i : ℕ) (leaf : LeafSeen) → map face (insert leaves i leaf) ≡ insert (map face leaves) i (face leaf)
faces_insert leaves zero leaf = refl
faces_insert [] (suc i) leaf = refl
faces_insert (x ∷ leaves) (suc i) leaf = ap (λ l. face x ∷ l) (faces_insert leaves i leaf)

faces_remove : (leaves : List LeafSeen) (i : ℕ) → map face (remove leaves i) ≡ remove (map face leaves) i
faces_remove [] zero = refl
faces_remove [] (suc i) = refl
faces_remove (x ∷ leaves) zero = refl
faces_remove (x ∷ leaves) (suc i) = ap (λ l. face x ∷ l) (faces_remove leaves i)

-- another top sees nothing of it
under_other : (x : ℕ) (fs : List Face) (i : ℕ) (m : Guid) (top : ℕ) → (top == x) ≡ false → under x (insert fs i (m, top)) ≡ under x fs
under_other x fs zero m top off = ap (λ t. cond t (m ∷ under x fs) (under x fs)) off
under_other x [] (suc i) m top off = ap (λ t. cond t (m ∷ []) []) off
under_other x (f ∷ fs) (suc i) m top off = ap (λ l. cond (f.1 == x) (f.0 ∷ l) l) (under_other x fs i m top off)

firsts_insert : (fs : List Face) (i : ℕ) (m : Guid) (top : ℕ) → HasNot m (firsts fs) → AreDifferent (firsts fs) → AreDifferent (firsts (insert fs i (m, top)))
firsts_insert fs zero m top new all = (new, all)
firsts_insert [] (suc i) m top new all = (tt, tt)
firsts_insert (f ∷ fs) (suc i) m top new all = (also fs i all.0, firsts_insert fs i m top new.1 all.1)
  where
    also : (fs : List Face) (i : ℕ) → AllByRecursion (λ n. same_number f.0 n ≡ false) (firsts fs)
        → AllByRecursion (λ n. same_number f.0 n ≡ false) (firsts (insert fs i (m, top)))
    also fs zero off = (other_back m.0 f.0.0 new.0, off)
    also [] (suc i) off = (other_back m.0 f.0.0 new.0, tt)
    also (x ∷ fs) (suc i) off = (off.0, also fs i off.1)

firsts_remove : (fs : List Face) (i : ℕ) → AreDifferent (firsts fs) → AreDifferent (firsts (remove fs i))
firsts_remove [] zero all = tt
firsts_remove [] (suc i) all = tt
firsts_remove (f ∷ fs) zero all = all.1
firsts_remove (f ∷ fs) (suc i) all = (also fs i all.0, firsts_remove fs i all.1)
  where
    also : (fs : List Face) (i : ℕ) → AllByRecursion (λ n. same_number f.0 n ≡ false) (firsts fs)
        → AllByRecursion (λ n. same_number f.0 n ≡ false) (firsts (remove fs i))
    also [] zero off = tt
    also [] (suc i) off = tt
    also (x ∷ fs) zero off = off.1
    also (x ∷ fs) (suc i) off = (off.0, also fs i off.1)

-- A leaf behind all others of its top.
-- the numbers under one top differ too
under_not : (n : Guid) (top : ℕ) (fs : List Face) → AllByRecursion (λ m. same_number n m ≡ false) (firsts fs)
    → AllByRecursion (λ m. same_number n m ≡ false) (under top fs)
under_not n top [] all = tt
under_not n top (f ∷ fs) all = by_bool (f.1 == top)
    (λ is. subst (λ t. AllByRecursion (λ m. same_number n m ≡ false) (cond t (f.0 ∷ under top fs) (under top fs))) (sym is) (all.0, under_not n top fs all.1))
    (λ off. subst (λ t. AllByRecursion (λ m. same_number n m ≡ false) (cond t (f.0 ∷ under top fs) (under top fs))) (sym off) (under_not n top fs all.1))

under_different : (top : ℕ) (fs : List Face) → AreDifferent (firsts fs) → AreDifferent (under top fs)
under_different top [] all = tt
under_different top (f ∷ fs) all = by_bool (f.1 == top)
    (λ is. subst (λ t. AreDifferent (cond t (f.0 ∷ under top fs) (under top fs))) (sym is) (under_not f.0 top fs all.0, under_different top fs all.1))
    (λ off. subst (λ t. AreDifferent (cond t (f.0 ∷ under top fs) (under top fs))) (sym off) (under_different top fs all.1))

none_under : (top : ℕ) (leaves : List LeafSeen) → list_any (λ other. other.top == top) leaves ≡ false → under top (map face leaves) ≡ []
none_under top [] none = refl
none_under top (leaf ∷ leaves) none = let parts = or_parts (leaf.top == top)
    (list_any (λ other. other.top == top) leaves) none in
    ap (λ t. cond t (leaf.guid ∷ under top (map face leaves)) (under top (map face leaves))) parts.0 ∙ none_under top leaves parts.1

more_last : (t : Bool) (x m : Guid) (l : List Guid) → cond t (x ∷ (l ++ (m ∷ []))) (l ++ (m ∷ [])) ≡ cond t (x ∷ l) l ++ (m ∷ [])
more_last true x m l = refl
more_last false x m l = refl

last_under : (top : ℕ) (m : Guid) (leaves : List LeafSeen) → under top (insert (map face leaves) (behind_top top leaves) (m, top)) ≡ under top
    (map face leaves) ++ (m ∷ [])
last_under top m [] = ap (λ t. cond t (m ∷ []) []) (here top)
last_under top m (leaf ∷ leaves) = by_bool (list_any (λ other. other.top == top) leaves)
    (λ any. ap (λ t. under top (insert (map face (leaf ∷ leaves)) (cond t (suc (behind_top top leaves)) (cond (leaf.top == top) 1 0)) (m, top))) any
    ∙ (ap (λ l. cond (leaf.top == top) (leaf.guid ∷ l) l) (last_under top m leaves) ∙ more_last (leaf.top == top) leaf.guid m (under top (map face leaves))))
    (λ none. ap (λ t. under top (insert (map face (leaf ∷ leaves)) (cond t (suc (behind_top top leaves)) (cond (leaf.top == top) 1 0)) (m, top))) none
    ∙ alone (leaf.top == top) refl (none_under top leaves none))
  where
    alone : (t : Bool) → (leaf.top == top) ≡ t → under top (map face leaves) ≡ []
        → under top (insert (map face (leaf ∷ leaves)) (cond (leaf.top == top) 1 0) (m, top)) ≡ cond (leaf.top == top)
        (leaf.guid ∷ under top (map face leaves)) (under top (map face leaves)) ++ (m ∷ [])
    alone true is none = ap (λ t. under top (insert (map face (leaf ∷ leaves)) (cond t 1 0) (m, top))) is
        ∙ (ap (λ t. cond t (leaf.guid ∷ cond (top == top) (m ∷ under top (map face leaves)) (under top (map face leaves)))
        (cond (top == top) (m ∷ under top (map face leaves)) (under top (map face leaves)))) is
        ∙ (ap (λ t. leaf.guid ∷ cond t (m ∷ under top (map face leaves)) (under top (map face leaves))) (here top)
        ∙ (ap (λ l. leaf.guid ∷ (m ∷ l)) none
        ∙ (sym (ap (λ l. leaf.guid ∷ (l ++ (m ∷ []))) none) ∙ sym (ap (λ t. cond t (leaf.guid ∷ under top (map face leaves))
        (under top (map face leaves)) ++ (m ∷ [])) is)))))
    alone false off none = ap (λ t. under top (insert (map face (leaf ∷ leaves)) (cond t 1 0) (m, top))) off
        ∙ (ap (λ t. cond t (m ∷ cond (leaf.top == top) (leaf.guid ∷ under top (map face leaves)) (under top (map face leaves)))
        (cond (leaf.top == top) (leaf.guid ∷ under top (map face leaves)) (under top (map face leaves)))) (here top)
        ∙ (ap (λ t. m ∷ cond t (leaf.guid ∷ under top (map face leaves)) (under top (map face leaves))) off ∙ (ap (λ l. m ∷ l) none
        ∙ (sym (ap (λ l. l ++ (m ∷ [])) none) ∙ sym (ap (λ t. cond t (leaf.guid ∷ under top (map face leaves)) (under top (map face leaves)) ++ (m ∷ []))
        off)))))

-- A leaf directly behind the one that a test finds.
found_first : (test : LeafSeen → Bool) (x leaf : LeafSeen) (leaves : List LeafSeen) → test x ≡ true → find test (x ∷ leaves) ≡ Some leaf → x ≡ leaf
found_first test x leaf leaves is found = some_same x leaf (sym (ap (λ t. cond t (Some x) (find test leaves)) is)
    ∙ found)

found_later : (test : LeafSeen → Bool) (x leaf : LeafSeen) (leaves : List LeafSeen) → test x ≡ false → find test (x ∷ leaves) ≡ Some leaf
    → find test leaves ≡ Some leaf
found_later test x leaf leaves off found = sym (ap (λ t. cond t (Some x) (find test leaves)) off) ∙ found

found_among : (P : Guid → Type 0) (test : LeafSeen → Bool) (leaves : List LeafSeen) (leaf : LeafSeen) → find test leaves ≡ Some leaf
    → AllByRecursion P (firsts (map face leaves)) → P leaf.guid
found_among P test [] leaf found all = absurd (cc)
found_among P test (x ∷ leaves) leaf found all = by_bool (test x) (λ is. subst (λ y. P y.guid) (found_first test x leaf leaves is found) all.0)
    (λ off. found_among P test leaves leaf (found_later test x leaf leaves off found) all.1)

behind_one : (t u : Bool) (x m : Guid) (l : List Guid) → t ≡ true → u ≡ true → cond t (x ∷ cond u (m ∷ l) l) (cond u (m ∷ l) l) ≡ x ∷ (m ∷ l)
behind_one t u x m l a b = rw (a, b) refl

put_one : (t : Bool) (m new x : Guid) (l : List Guid) → t ≡ true → same_number m x ≡ true → put_behind m new (cond t (x ∷ l) l) ≡ x ∷ (new ∷ l)
put_one t m new x l a b = ap (λ t. put_behind m new (cond t (x ∷ l) l)) a ∙ ap (λ u. cond u (x ∷ (new ∷ l)) (x ∷ put_behind m new l)) b

put_past : (t : Bool) (m new x : Guid) (l : List Guid) → same_number m x ≡ false
    → put_behind m new (cond t (x ∷ l) l) ≡ cond t (x ∷ put_behind m new l) (put_behind m new l)
put_past true m new x l off = ap (λ u. cond u (x ∷ (new ∷ l)) (x ∷ put_behind m new l)) off
put_past false m new x l off = refl

behind_under : (test : LeafSeen → Bool) (leaves : List LeafSeen) (leaf : LeafSeen) (m : Guid) → find test leaves ≡ Some leaf
    → AreDifferent (firsts (map face leaves))
    → under leaf.top (insert (map face leaves) (suc (place_where test leaves)) (m, leaf.top)) ≡ put_behind leaf.guid m (under leaf.top (map face leaves))
behind_under test [] leaf m found different = absurd (cc)
behind_under test (x ∷ leaves) leaf m found different = by_bool (test x)
    (λ is. ap (λ t. under leaf.top (insert (map face (x ∷ leaves)) (suc (cond t 0 (suc (place_where test leaves)))) (m, leaf.top))) is
    ∙ (subst (λ y. under leaf.top (insert (map face (y ∷ leaves)) 1 (m, leaf.top)) ≡ put_behind leaf.guid m (under leaf.top (map face (y ∷ leaves))))
    (sym (found_first test x leaf leaves is found))
    (behind_one (leaf.top == leaf.top) (leaf.top == leaf.top) leaf.guid m (under leaf.top (map face leaves))
    (here leaf.top) (here leaf.top)
    ∙ sym (put_one (leaf.top == leaf.top) leaf.guid m leaf.guid (under leaf.top (map face leaves)) (here leaf.top)
    (here leaf.guid.0)))))
    (λ off. ap (λ t. under leaf.top (insert (map face (x ∷ leaves)) (suc (cond t 0 (suc (place_where test leaves)))) (m, leaf.top))) off
    ∙ (ap (λ l. cond (x.top == leaf.top) (x.guid ∷ l) l) (behind_under test leaves leaf m (found_later test x leaf leaves off found) different.1)
    ∙ sym (put_past (x.top == leaf.top) leaf.guid m x.guid (under leaf.top (map face leaves))
    (other_back x.guid.0 leaf.guid.0 (found_among (λ n. same_number x.guid n ≡ false) test leaves leaf
    (found_later test x leaf leaves off found) different.0)))))

-- The leaf that a test finds is taken out, and comes back.
out_one : (t : Bool) (m x : Guid) (l : List Guid) → t ≡ true → same_number m x ≡ true → taken_out m (cond t (x ∷ l) l) ≡ l
out_one t m x l a b = ap (λ t. taken_out m (cond t (x ∷ l) l)) a ∙ ap (λ u. cond u l (x ∷ taken_out m l)) b

out_past : (t : Bool) (m x : Guid) (l : List Guid) → same_number m x ≡ false → taken_out m (cond t (x ∷ l) l) ≡ cond t (x ∷ taken_out m l) (taken_out m l)
out_past true m x l off = ap (λ u. cond u l (x ∷ taken_out m l)) off
out_past false m x l off = refl

out_under : (test : LeafSeen → Bool) (leaves : List LeafSeen) (leaf : LeafSeen) → find test leaves ≡ Some leaf → AreDifferent (firsts (map face leaves))
    → under leaf.top (remove (map face leaves) (place_where test leaves)) ≡ taken_out leaf.guid (under leaf.top (map face leaves))
out_under test [] leaf found different = absurd (cc)
out_under test (x ∷ leaves) leaf found different = by_bool (test x)
    (λ is. ap (λ t. under leaf.top (remove (map face (x ∷ leaves)) (cond t 0 (suc (place_where test leaves))))) is
    ∙ subst (λ y. under leaf.top (map face leaves) ≡ taken_out leaf.guid (under leaf.top (map face (y ∷ leaves))))
    (sym (found_first test x leaf leaves is found))
    (sym (out_one (leaf.top == leaf.top) leaf.guid leaf.guid (under leaf.top (map face leaves)) (here leaf.top)
    (here leaf.guid.0))))
    (λ off. ap (λ t. under leaf.top (remove (map face (x ∷ leaves)) (cond t 0 (suc (place_where test leaves))))) off
    ∙ (ap (λ l. cond (x.top == leaf.top) (x.guid ∷ l) l) (out_under test leaves leaf (found_later test x leaf leaves off found) different.1)
    ∙ sym (out_past (x.top == leaf.top) leaf.guid x.guid (under leaf.top (map face leaves))
    (other_back x.guid.0 leaf.guid.0 (found_among (λ n. same_number x.guid n ≡ false) test leaves leaf
    (found_later test x leaf leaves off found) different.0)))))

out_other : (top : ℕ) (test : LeafSeen → Bool) (leaves : List LeafSeen) (leaf : LeafSeen) → find test leaves ≡ Some leaf → (leaf.top == top) ≡ false
    → under top (remove (map face leaves) (place_where test leaves)) ≡ under top (map face leaves)
out_other top test [] leaf found other = absurd (cc)
out_other top test (x ∷ leaves) leaf found other = by_bool (test x)
    (λ is. ap (λ t. under top (remove (map face (x ∷ leaves)) (cond t 0 (suc (place_where test leaves))))) is
    ∙ sym (ap (λ t. cond t (x.guid ∷ under top (map face leaves)) (under top (map face leaves)))
    (subst (λ y. (y.top == top) ≡ false) (sym (found_first test x leaf leaves is found)) other)))
    (λ off. ap (λ t. under top (remove (map face (x ∷ leaves)) (cond t 0 (suc (place_where test leaves))))) off
    ∙ ap (λ l. cond (x.top == top) (x.guid ∷ l) l) (out_other top test leaves leaf (found_later test x leaf leaves off found) other))

back_again : (test : LeafSeen → Bool) (leaves : List LeafSeen) (leaf : LeafSeen) → find test leaves ≡ Some leaf
    → insert (remove (map face leaves) (place_where test leaves)) (place_where test leaves) (face leaf) ≡ map face leaves
back_again test [] leaf found = absurd (cc)
back_again test (x ∷ leaves) leaf found = by_bool (test x)
    (λ is. ap (λ t. insert (remove (map face (x ∷ leaves)) (cond t 0 (suc (place_where test leaves)))) (cond t 0 (suc (place_where test leaves))) (face leaf))
    is ∙ ap (λ y. face y ∷ map face leaves) (sym (found_first test x leaf leaves is found)))
    (λ off. ap (λ t. insert (remove (map face (x ∷ leaves)) (cond t 0 (suc (place_where test leaves)))) (cond t 0 (suc (place_where test leaves))) (face leaf))
    off ∙ ap (λ l. face x ∷ l) (back_again test leaves leaf (found_later test x leaf leaves off found)))

-- A leaf is brought in.
abbrev with_leaf : (i : ℕ) → Guid → (top : ℕ) → List Child → Shape → Shape
with_leaf i m top children sh = record { faces = insert sh.faces i (m, top); children = λ x. cond (top == x) children (sh.children x) }

came_shape : (s : PoolState) (i d : ℕ) (m : Guid) (top : ℕ) (own : OwnLeaf) (children : List Child)
    → shape_of (steps (Comes i d m top own ∷ (Shapes top children ∷ [])) s) ≡ with_leaf i m top children (shape_of s)
came_shape s i d m top own children = ap (λ fs. record { faces = fs; children = λ x. cond (top == x) children (s.own.children x) })
    (faces_insert s.core.leaves i (record { guid = m; dev = Some d; own = own; top = top; owes = _; settled = _; on = false }))

graft_shape : (graft : Graft) (s : PoolState) (name : List ℕ) (leaf : LeafSeen) (new : List ℕ) (d : ℕ) (made : List Noted) (scan : Move) → IsCalm scan
    → shape_of (steps (graft_first graft s name leaf new d made ++ (scan ∷ [])) s)
    ≡ with_leaf (new_place graft name leaf.top s.core.leaves) (new_number graft s) leaf.top (grafted graft s leaf) (shape_of s)
graft_shape graft s name leaf new d made scan calm =
    let rested = state_step Rest (steps (as_moves made) (state_step (Lose d) s)) in
    ap shape_of (steps_more (graft_first graft s name leaf new d made) (scan ∷ []) s)
    ∙ (shape_step scan (steps (graft_first graft s name leaf new d made) s) calm
    ∙ (ap shape_of (steps_more (as_moves made) (comes_in graft s name leaf new d) (state_step (Lose d) s))
    ∙ (came_shape rested (new_place graft name leaf.top s.core.leaves) d (new_number graft s) leaf.top (new_own graft new) (grafted graft s leaf)
    ∙ ap (with_leaf (new_place graft name leaf.top s.core.leaves) (new_number graft s) leaf.top (grafted graft s leaf))
    (shape_step Rest (steps (as_moves made) (state_step (Lose d) s)) tt
    ∙ (shape_along (as_moves made) (state_step (Lose d) s) (calls_calm made) ∙ shape_step (Lose d) s tt)))))

-- the tree with the leaf, by where it is put in
graft_under : (graft : Graft) (s : PoolState) (name : List ℕ) (leaf : LeafSeen) → IsTree (shape_of s) → leaf_named name s.core.leaves ≡ Some leaf
    → has_place graft leaf.guid (s.own.children leaf.top) ≡ true
    → tree_leaves (grafted graft s leaf) ≡ under leaf.top (insert (map face s.core.leaves) (new_place graft name leaf.top s.core.leaves)
    (new_number graft s, leaf.top))
graft_under Attach s name leaf is named placed = attached_leaves (new_number Attach s) (s.own.children leaf.top)
    ∙ (ap (λ l. l ++ (new_number Attach s ∷ [])) (is.tree leaf.top) ∙ sym (last_under leaf.top (new_number Attach s) s.core.leaves))
graft_under Replace s name leaf is named placed =
    replaced_leaves leaf.guid (numbered s.own.next_member) (new_number Replace s) (s.own.children leaf.top)
    (subst AreDifferent (sym (is.tree leaf.top)) (under_different leaf.top (map face s.core.leaves) is.different)) placed
    ∙ (ap (put_behind leaf.guid (new_number Replace s)) (is.tree leaf.top)
    ∙ sym (behind_under (λ leaf. bytes_eq leaf.own.name name) s.core.leaves leaf (new_number Replace s) named is.different))

graft_tree : (graft : Graft) (s : PoolState) (name : List ℕ) (leaf : LeafSeen) → IsTree (shape_of s) → leaf_named name s.core.leaves ≡ Some leaf
    → has_place graft leaf.guid (s.own.children leaf.top) ≡ true
    → HasNot (new_number graft s) (firsts (map face s.core.leaves))
    → IsTree (with_leaf (new_place graft name leaf.top s.core.leaves) (new_number graft s) leaf.top (grafted graft s leaf) (shape_of s))
graft_tree graft s name leaf is named placed new =
    let faces = insert (map face s.core.leaves) (new_place graft name leaf.top s.core.leaves)
    (new_number graft s, leaf.top) in
    record {
      tree = λ x. by_bool (leaf.top == x)
          (λ same. ap (λ t. tree_leaves (cond t (grafted graft s leaf) (s.own.children x))) same
          ∙ subst (λ n. tree_leaves (grafted graft s leaf) ≡ under n faces) (same_device leaf.top x same)
          (graft_under graft s name leaf is named placed))
          (λ off. ap (λ t. tree_leaves (cond t (grafted graft s leaf) (s.own.children x))) off
          ∙ (is.tree x ∙ sym (under_other x (map face s.core.leaves) (new_place graft name leaf.top s.core.leaves)
          (new_number graft s) leaf.top off)));
      different = firsts_insert (map face s.core.leaves) (new_place graft name leaf.top s.core.leaves)
          (new_number graft s) leaf.top new is.different;
    }

-- the new number is none of the leaves'
firsts_below : (f : Bool) (p : Pool) (n : ℕ) (m : Guid) → n ≤ m.0 → (seats : List Seat) → AllByRecursion (HasNumberBelow p.guid n) seats
    → HasNot m (firsts (map face (map (leaf_seen f (told p)) seats)))
firsts_below f p n m low [] below = tt
firsts_below f p n m low (At d found own ∷ seats) below =
    (differ (p.guid d).0 m.0 (let less = below.0 in omega (arith, less, low)), firsts_below f p n m low seats below.1)
  where
    differ : (a b : ℕ) → a < b → (b == a) ≡ false
    differ a b less = grind (arith, nat_tests)
firsts_below f p n m low (Adrift leaf ∷ seats) below =
    (differ leaf.guid.0 m.0 (let less = below.0 in omega (arith, less, low)), firsts_below f p n m low seats below.1)
  where
    differ : (a b : ℕ) → a < b → (b == a) ≡ false
    differ a b less = grind (arith, nat_tests)

new_differs : (c : Codec) (graft : Graft) (s : PoolState) (t : Side) → Kept c s t → HasNot (new_number graft s) (firsts (map face s.core.leaves))
new_differs c graft s t kept = subst (λ core. HasNot (new_number graft s) (firsts (map face core.leaves))) (sym kept.core)
    (firsts_below t.pool.group.frozen t.pool s.own.next_member (new_number graft s) (new_above graft s) t.seats kept.numbers.below)

is_placed : (placed : Bool) (limits : Option TreeRefusal) → refusal_at placed limits ≡ None → placed ≡ true
is_placed true limits is = refl
is_placed false limits is = absurd (cc)

widens_calm : (s : PoolSeen) (vs : List Move) → AreWidens s vs → AllByRecursion IsCalm vs
widens_calm s [] are = tt
widens_calm s (Widen m low high ∷ vs) are = (tt, widens_calm (step (Widen m low high) s) vs are.2)
widens_calm s (v ∷ vs) are = absurd are

graft_ended : (c : Codec) (outcome : Option Fault) (graft : Graft) (s : PoolState) (t : Side) (name : List ℕ) (leaf : LeafSeen) (new : List ℕ) (d : ℕ)
    (made : List Noted) (vs : List Move) (reply : GraftReply) → Kept c s t
    → IsTree (shape_of s) → leaf_named name s.core.leaves ≡ Some leaf → has_place graft leaf.guid (s.own.children leaf.top) ≡ true
    → GraftEnds outcome graft s name leaf new d made vs reply → IsTree (shape_of (steps vs s))
graft_ended c (Some fault) graft s t name leaf new d made vs reply kept is named placed ends = subst (λ l. IsTree (shape_of (steps l s))) (sym ends.0)
    (subst IsTree (sym (shape_along (Lose d ∷ as_moves made) s (tt, calls_calm made))) is)
graft_ended c None graft s t name leaf new d made vs reply kept is named placed ends = subst (λ l. IsTree (shape_of (steps l s))) (sym ends.0.moves)
    (subst IsTree (sym (ap shape_of (steps_more (graft_moves graft s name leaf new d made) ends.0.widens s)
    ∙ (shape_along ends.0.widens (steps (graft_moves graft s name leaf new d made) s) (widens_calm (steps (graft_moves graft s name leaf new d made) s).core ends.0.widens ends.0.are)
    ∙ graft_shape graft s name leaf new d made (starts_scan (steps (graft_first graft s name leaf new d made) s)) tt)))
    (graft_tree graft s name leaf is named placed (new_differs c graft s t kept)))

graft_on_tree : (c : Codec) (small : Bool) (size : ℕ → ℕ) (graft : Graft) (s : PoolState) (t : Side) (name : List ℕ) (leaf : LeafSeen) (new : List ℕ) (d : ℕ)
    (vs : List Move) (reply : GraftReply) → Kept c s t
    → IsTree (shape_of s) → leaf_named name s.core.leaves ≡ Some leaf → has_place graft leaf.guid (s.own.children leaf.top) ≡ true
    → GraftOn small size graft s name leaf new d vs reply → IsTree (shape_of (steps vs s))
graft_on_tree c true size graft s t name leaf new d vs reply kept is named placed row = subst (λ l. IsTree (shape_of (steps l s))) (sym row.0) is
graft_on_tree c false size graft s t name leaf new d vs reply kept is named placed row =
    graft_ended c row.outcome graft s t name leaf new d row.made vs reply kept is named placed row.ends

graft_at_tree : (c : Codec) (found : Option LeafSeen) (size : ℕ → ℕ) (graft : Graft) (s : PoolState) (t : Side) (name new : List ℕ) (d : ℕ) (vs : List Move)
    (reply : GraftReply) → Kept c s t → IsTree (shape_of s)
    → leaf_named name s.core.leaves ≡ found → graft_refusal graft s name found ≡ None → GraftAt found size graft s name new d vs reply
    → IsTree (shape_of (steps vs s))
graft_at_tree c None size graft s t name new d vs reply kept is named none row = absurd row
graft_at_tree c (Some leaf) size graft s t name new d vs reply kept is named none row =
    graft_on_tree c (nat_lt (size d) (s.core.room leaf.top + 256)) size graft s t name leaf new d vs reply kept is named
    (is_placed (has_place graft leaf.guid (s.own.children leaf.top)) (graft_limits graft s leaf.top) none) row

graft_for_tree : (c : Codec) (refusal : Option TreeRefusal) (size : ℕ → ℕ) (graft : Graft) (s : PoolState) (t : Side) (name new : List ℕ) (d : ℕ)
    (vs : List Move) (reply : GraftReply) → Kept c s t → IsTree (shape_of s)
    → graft_refusal graft s name (leaf_named name s.core.leaves) ≡ refusal → GraftFor refusal size graft s name new d vs reply → IsTree (shape_of (steps vs s))
graft_for_tree c (Some refusal) size graft s t name new d vs reply kept is none row = subst (λ l. IsTree (shape_of (steps l s))) (sym row.0) is
graft_for_tree c None size graft s t name new d vs reply kept is none row =
    graft_at_tree c (leaf_named name s.core.leaves) size graft s t name new d vs reply kept is refl none row

pub graft_leaves : (c : Codec) (size : ℕ → ℕ) (graft : Graft) (s : PoolState) (t : Side) (name new : List ℕ) (d : ℕ) (vs : List Move) (reply : GraftReply)
    → Kept c s t → AreTreeLeaves s → RowGraft size graft s name new d vs reply → AreTreeLeaves (steps vs s)
graft_leaves c size graft s t name new d vs reply kept are row = of_shape (steps vs s)
    (graft_for_tree c (graft_refusal graft s name (leaf_named name s.core.leaves)) size graft s t name new d vs reply kept (to_shape s are) refl row)

-- A leaf is taken out.
abbrev without_leaf : (i : ℕ) → (top : ℕ) → List Child → Shape → Shape
without_leaf i top children sh = record { faces = remove sh.faces i; children = λ x. cond (top == x) children (sh.children x) }

out_shape : (s : PoolState) (name : List ℕ) (leaf : LeafSeen)
    → shape_of (steps (goes_out s name leaf) s) ≡ without_leaf (place_named name s.core.leaves) leaf.top (pruned leaf.guid (s.own.children leaf.top))
    (shape_of s)
out_shape s name leaf = ap (λ fs. record { faces = fs; children = λ x. cond (leaf.top == x) (pruned leaf.guid (s.own.children leaf.top)) (s.own.children x) })
    (faces_remove s.core.leaves (place_named name s.core.leaves))

out_tree : (s : PoolState) (name : List ℕ) (leaf : LeafSeen) → IsTree (shape_of s) → leaf_named name s.core.leaves ≡ Some leaf
    → IsTree (without_leaf (place_named name s.core.leaves) leaf.top (pruned leaf.guid (s.own.children leaf.top)) (shape_of s))
out_tree s name leaf is named = record {
  tree = λ x. by_bool (leaf.top == x)
      (λ same. ap (λ t. tree_leaves (cond t (pruned leaf.guid (s.own.children leaf.top)) (s.own.children x))) same
      ∙ subst (λ n. tree_leaves (pruned leaf.guid (s.own.children leaf.top)) ≡ under n (remove (map face s.core.leaves) (place_named name s.core.leaves)))
      (same_device leaf.top x same)
      (pruned_leaves leaf.guid (s.own.children leaf.top) (subst AreDifferent (sym (is.tree leaf.top))
      (under_different leaf.top (map face s.core.leaves) is.different))
      ∙ (ap (taken_out leaf.guid) (is.tree leaf.top) ∙ sym (out_under (λ leaf. bytes_eq leaf.own.name name) s.core.leaves leaf named is.different))))
      (λ off. ap (λ t. tree_leaves (cond t (pruned leaf.guid (s.own.children leaf.top)) (s.own.children x))) off
      ∙ (is.tree x ∙ sym (out_other x (λ leaf. bytes_eq leaf.own.name name) s.core.leaves leaf named off)));
  different = firsts_remove (map face s.core.leaves) (place_named name s.core.leaves) is.different;
}

-- and comes back
abbrev back_leaf : (i : ℕ) → Face → (top : ℕ) → List Child → Shape → Shape
back_leaf i f top children sh = record { faces = insert sh.faces i f; children = λ x. cond (top == x) children (sh.children x) }

back_shape : (s : PoolState) (i : ℕ) (seat : Seat) (leaf : LeafSeen) (top : ℕ) (children : List Child)
    → shape_of (steps (Returns i seat leaf ∷ (Shapes top children ∷ [])) s) ≡ back_leaf i (face leaf) top children (shape_of s)
back_shape s i seat leaf top children =
    ap (λ fs. record { faces = fs; children = λ x. cond (top == x) children (s.own.children x) }) (faces_insert s.core.leaves i leaf)

same_children : (t : Bool) (a b x : List Child) → (t ≡ true → a ≡ x) → cond t a (cond t b x) ≡ x
same_children true a b x same = same refl
same_children false a b x same = refl

back_tree : (s : PoolState) (name : List ℕ) (leaf : LeafSeen) → IsTree (shape_of s) → leaf_named name s.core.leaves ≡ Some leaf
    → IsTree (back_leaf (place_named name s.core.leaves) (face leaf) leaf.top (s.own.children leaf.top)
    (without_leaf (place_named name s.core.leaves) leaf.top (pruned leaf.guid (s.own.children leaf.top)) (shape_of s)))
back_tree s name leaf is named =
    let again = back_again (λ leaf. bytes_eq leaf.own.name name) s.core.leaves leaf named in
    record {
      tree = λ x. ap tree_leaves
          (same_children (leaf.top == x) (s.own.children leaf.top) (pruned leaf.guid (s.own.children leaf.top))
          (s.own.children x) (λ same. ap s.own.children (same_device leaf.top x same)))
          ∙ (is.tree x ∙ ap (under x) (sym again));
      different = subst (λ fs. AreDifferent (firsts fs)) (sym again) is.different;
    }

cleaned_calm : (there spare : Bool) (dev : Option ℕ) (size : ℕ → ℕ) (vs : List Move) → IsCleaned there dev spare size vs → AllByRecursion IsCalm vs
cleaned_calm true spare (Some d) size vs (made, outcome, calls, moves) = subst (AllByRecursion IsCalm) (sym moves) (tt, calls_calm made)
cleaned_calm true spare None size vs moves = subst (AllByRecursion IsCalm) (sym moves) tt
cleaned_calm false spare dev size vs moves = subst (AllByRecursion IsCalm) (sym moves) tt

commit_tree : (c : Codec) (size : ℕ → ℕ) (s : PoolState) (name : List ℕ) (leaf : LeafSeen) (seat : Seat) (vs : List Move) (reply : DetachReply)
    → IsTree (shape_of s) → leaf_named name s.core.leaves ≡ Some leaf
    → CommitsWithout c size s name leaf seat vs reply → IsTree (shape_of (steps vs s))
commit_tree c size s name leaf seat vs reply is named row = subst (λ l. IsTree (shape_of (steps l s))) (sym row.moves)
    (subst (λ x. IsTree (shape_of x)) (sym (steps_more (goes_out s name leaf) (row.part ++ row.rest) s
    ∙ steps_more row.part row.rest (steps (goes_out s name leaf) s))) (behind row.turn row.behind))
  where
    gone : PoolState
    gone = steps (goes_out s name leaf) s

    committed : shape_of (steps row.part (steps (goes_out s name leaf) s))
        ≡ without_leaf (place_named name s.core.leaves) leaf.top (pruned leaf.guid (s.own.children leaf.top)) (shape_of s)
    committed = shape_along row.part gone (commit_calm c size gone row.part row.turn row.commit) ∙ out_shape s name leaf

    behind : (turn : TurnReply) → DetachBehind turn size s name leaf seat row.rest reply
        → IsTree (shape_of (steps row.rest (steps row.part (steps (goes_out s name leaf) s))))
    behind (Committed number) ends = subst IsTree (sym (shape_along row.rest (steps row.part gone)
        (cleaned_calm (is_there leaf.own.mode) (is_spare s leaf) leaf.dev size row.rest ends.0) ∙ committed)) (out_tree s name leaf is named)
    behind (Suspended group top faults) ends = subst (λ l. IsTree (shape_of (steps l (steps row.part gone)))) (sym ends.0)
        (subst IsTree (sym (back_shape (steps row.part gone) (place_named name s.core.leaves) seat leaf leaf.top (s.own.children leaf.top)
        ∙ ap (back_leaf (place_named name s.core.leaves) (face leaf) leaf.top (s.own.children leaf.top)) committed)) (back_tree s name leaf is named))
    behind turn ends = absurd ends

detach_for_tree : (c : Codec) (size : ℕ → ℕ) (refusal : Option FreezeRefusal) (s : PoolState) (name : List ℕ) (leaf : LeafSeen) (seat : Seat) (vs : List Move)
    (reply : DetachReply) → IsTree (shape_of s)
    → leaf_named name s.core.leaves ≡ Some leaf → DetachFor refusal c size s name leaf seat vs reply → IsTree (shape_of (steps vs s))
detach_for_tree c size (Some refusal) s name leaf seat vs reply is named row = subst (λ l. IsTree (shape_of (steps l s))) (sym row.0) is
detach_for_tree c size None s name leaf seat vs reply is named row = commit_tree c size s name leaf seat vs reply is named row

detach_leaf_tree : (c : Codec) (size : ℕ → ℕ) (frozen : Bool) (s : PoolState) (name : List ℕ) (leaf : LeafSeen) (seat : Seat) (vs : List Move)
    (reply : DetachReply) → IsTree (shape_of s)
    → leaf_named name s.core.leaves ≡ Some leaf → DetachLeaf frozen c size s name leaf seat vs reply → IsTree (shape_of (steps vs s))
detach_leaf_tree c size true s name leaf seat vs reply is named row = subst (λ l. IsTree (shape_of (steps l s))) (sym row.0) is
detach_leaf_tree c size false s name leaf seat vs reply is named (inl row) = subst (λ l. IsTree (shape_of (steps l s))) (sym row.2) is
detach_leaf_tree c size false s name leaf seat vs reply is named (inr row) = detach_for_tree c size row.1.0 s name leaf seat vs reply is named row.1.2

detach_by_tree : (c : Codec) (size : ℕ → ℕ) (found : Option LeafSeen) (s : PoolState) (name : List ℕ) (seat : Seat) (vs : List Move) (reply : DetachReply)
    → IsTree (shape_of s)
    → leaf_named name s.core.leaves ≡ found → DetachBy found c size s name seat vs reply → IsTree (shape_of (steps vs s))
detach_by_tree c size None s name seat vs reply is named row = subst (λ l. IsTree (shape_of (steps l s))) (sym row.0) is
detach_by_tree c size (Some leaf) s name seat vs reply is named row = detach_leaf_tree c size s.core.group.frozen s name leaf seat vs reply is named row

pub detach_leaves : (c : Codec) (size : ℕ → ℕ) (s : PoolState) (name : List ℕ) (seat : Seat) (vs : List Move) (reply : DetachReply) → AreTreeLeaves s
    → RowDetach c size s name seat vs reply → AreTreeLeaves (steps vs s)
detach_leaves c size s name seat vs reply are row =
    of_shape (steps vs s) (detach_by_tree c size (leaf_named name s.core.leaves) s name seat vs reply (to_shape s are) refl row)
