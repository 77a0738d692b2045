-- The outage of the leaves that are left without one, in the tree and in the state.
use Rattle.std.proofs.Common.{◌≡◌, ◌≢◌, ℕ, Bool, true, false, cond, ◌&&◌, ◌||◌, ◌==◌, not, List, [], ◌∷◌, inl, inr, Option, Some, None, IfSome, IfNone, refl, ap, sym, ◌∙◌}
use Rattle.std.specs.List.{filter, list_all}
use Rattle.std.proofs.lemmas.Bool.{cases_lt, false≢true, false_from_ne_true, eqb-true}
use Rattle.mp_base.specs.declared.number.Guid.{Guid}
use Rattle.mp_base.specs.declared.number.Group.{Group}
use Rattle.group_set.specs.Groups.{holds}
use Rattle.vdev_tree.specs.Leaf.{is_up}
use Rattle.vdev_tree.specs.Tree.{leaves}
use Rattle.vdev_tree.specs.declared.top.Top.{Top}
use Rattle.vdev_tree.specs.declared.vdev.LeafVdev.{LeafVdev}
use Rattle.vdev_tree.specs.declared.vdev.State.{State}
use Rattle.dtl_rules.specs.Rules as rules
use Rattle.dtl_rules.proofs.Flat.{pair_left}
use Rattle.dtl_rules.proofs.Passing.{rest_at_top}
use Rattle.pool_core.specs.Away.{is_out, others, LeastOut, IsRequired}
use Rattle.pool_core.specs.Keeping.{IsLeaf, Stands}
use Rattle.pool_core.specs.Pairs.{pair_in, first_in, second_in, HasTwo}
use Rattle.pool_core.specs.State.{LeafState, PoolState, leaves as leaves_in}

out_by : (up owed : Bool) → (not up || owed) ≡ cond up owed true
out_by true owed = refl
out_by false owed = refl

-- a leaf in the tree is out where the one that it stands for is
same_out : (v : LeafVdev) (leaf : LeafState) (g : ℕ) → IsLeaf v leaf → rules.is_out v g ≡ is_out leaf g
same_out v leaf g is =
    out_by (is_up v.state) (holds v.log g) ∙ ap (λ (state : State). cond (is_up state) (holds v.log g) true) (sym is.state)
    ∙ ap (λ b. cond (is_up leaf.state) b true) (sym (is.owes g))

module _ (X : Type 0) (p f : X → Bool) where
  kept_all : (kept : Bool) (x : X) (xs : List X) → list_all f (cond kept (x ∷ xs) xs) ≡ (cond kept (f x) true && list_all f xs)
  kept_all true x xs = refl
  kept_all false x xs = refl

  pub two_kept : (x y : X) → list_all f (filter p (x ∷ y ∷ [])) ≡ (cond (p x) (f x) true && (cond (p y) (f y) true && true))
  two_kept x y = kept_all (p x) x (filter p (y ∷ [])) ∙ ap (λ b. cond (p x) (f x) true && b) (kept_all (p y) y [])

same_stays : (at : ℕ) (v : LeafVdev) (leaf : LeafState) (g : ℕ) → IsLeaf v leaf
    → cond (not (v.guid.0 == at)) (rules.is_out v g) true ≡ cond (not (leaf.member.0 == at)) (is_out leaf g) true
same_stays at v leaf g is =
    ap (λ (guid : Guid). cond (not (guid.0 == at)) (rules.is_out v g) true) (sym is.member)
    ∙ ap (λ b. cond (not (leaf.member.0 == at)) b true) (same_out v leaf g is)

-- the outage of those that are left
same_outage : (at : Guid) (first second : LeafVdev) (s : PoolState) (g : ℕ) → IsLeaf first s.first → IsLeaf second s.second
    → rules.outage_of (filter (λ v. not (v.guid.0 == at.0)) (first ∷ second ∷ [])) g ≡ list_all (λ leaf. is_out leaf g) (others at (leaves_in s))
same_outage at first second s g one other =
    two_kept LeafVdev (λ v. not (v.guid.0 == at.0)) (λ v. rules.is_out v g) first second
    ∙ ap (λ b. b && (cond (not (second.guid.0 == at.0)) (rules.is_out second g) true && true)) (same_stays at.0 first s.first g one)
    ∙ ap (λ b. cond (not (s.first.member.0 == at.0)) (is_out s.first g) true && (b && true)) (same_stays at.0 second s.second g other)
    ∙ sym (two_kept LeafState (λ leaf. not (leaf.member.0 == at.0)) (λ leaf. is_out leaf g) s.first s.second)

same_guid : (a b : Guid) → b.0 ≡ a.0 → a ≡ b
same_guid a b e = let at : ℕ → Guid = λ n. record { 0 = n } in sym (ap at e)

different : (a b : Guid) → a ≢ b → (b.0 == a.0) ≡ false
different a b other = false_from_ne_true (b.0 == a.0) (λ h. other (same_guid a b (eqb-true b.0 a.0 h)))

not_zero : (n : ℕ) → n ≢ 0 → (n == 0) ≡ false
not_zero n h = false_from_ne_true (n == 0) (λ e. h (eqb-true n 0 e))

outage_left : (top : Top) (at : Guid) (s : PoolState) → HasTwo top → at.0 ≢ 0 → at ≢ (pair_in top).mirror → Stands (pair_in top) s
    → (g : ℕ) → rules.outage_of (rules.rest_of top at) g ≡ list_all (λ leaf. is_out leaf g) (others at (leaves_in s))
outage_left top at s two not_root not_mirror stands g =
    ap (λ ls. rules.outage_of ls g) (
    rest_at_top top at (not_zero at.0 not_root)
    ∙ pair_left at.0 top.mirror (pair_in top).mirror two.built (different at (pair_in top).mirror not_mirror)
    ∙ ap (filter (λ (v : LeafVdev). not (v.guid.0 == at.0))) two.leaves_are)
    ∙ same_outage at (first_in (leaves top.mirror)) (second_in (leaves top.mirror)) s g stands.first stands.second

least_left : (top : Top) (at : Guid) (s : PoolState) (group : ℕ) → HasTwo top → at.0 ≢ 0 → at ≢ (pair_in top).mirror → Stands (pair_in top) s
    → rules.LeastNeeded top at group → LeastOut (others at (leaves_in s)) group
least_left top at s group two not_root not_mirror stands needed =
    let same = outage_left top at s two not_root not_mirror stands in
    record {
      is_out = (needed.first, sym (same group) ∙ needed.out);
      least = λ g out. elim (cases_lt g group) [
        | inl below ↦ absurd (false≢true (sym (needed.least g out.0 below) ∙ same g ∙ out.1))
        | inr above ↦ above
      ];
    }

none_left : (top : Top) (at : Guid) (s : PoolState) → HasTwo top → at.0 ≢ 0 → at ≢ (pair_in top).mirror → Stands (pair_in top) s
    → ¬ (rules.IsRequired top at) → ¬ (IsRequired s at)
none_left top at s two not_root not_mirror stands free required =
    free (required.0, required.1.0, outage_left top at s two not_root not_mirror stands required.0 ∙ required.1.1)

-- the same of what was answered
pub least_left_of : (top : Top) (at : Guid) (s : PoolState) (found : Option Group) → HasTwo top → at.0 ≢ 0 → at ≢ (pair_in top).mirror → Stands (pair_in top) s
    → IfSome found (λ (g : Group). rules.LeastNeeded top at g.0) → IfSome found (λ (g : Group). LeastOut (others at (leaves_in s)) g.0)
least_left_of top at s None two not_root not_mirror stands needed = tt
least_left_of top at s (Some group) two not_root not_mirror stands needed = least_left top at s group.0 two not_root not_mirror stands needed

pub none_left_of : (top : Top) (at : Guid) (s : PoolState) (found : Option Group) → HasTwo top → at.0 ≢ 0 → at ≢ (pair_in top).mirror → Stands (pair_in top) s
    → IfNone found (¬ (rules.IsRequired top at)) → IfNone found (¬ (IsRequired s at))
none_left_of top at s None two not_root not_mirror stands free = none_left top at s two not_root not_mirror stands free
none_left_of top at s (Some group) two not_root not_mirror stands free = tt
