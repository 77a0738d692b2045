-- Trees that are mirrors of two leaves, and leaves that stand for those of a state.
use Rattle.std.proofs.Common.{◌≡◌, ℕ, Bool, true, false, cond, ◌==◌, List, [], ◌∷◌, map, refl, ap, sym, ◌∙◌, subst, Some}
use Rattle.mp_base.specs.declared.number.Guid.{Guid}
use Rattle.vdev_tree.specs.Tree.{leaves, marks, guid_of, pair_marks}
use Rattle.vdev_tree.specs.declared.top.Top.{Top}
use Rattle.vdev_tree.specs.declared.vdev.LeafVdev.{LeafVdev}
use Rattle.vdev_tree.specs.declared.vdev.State.TheVariants as states
use Rattle.vdev_tree.proofs.Built.{pair_guid}
use Rattle.pool_core.specs.Away.{changed_if, with_leaf, taken_offline, brought, marked}
use Rattle.pool_core.specs.Keeping.{IsLeaf, Stands}
use Rattle.pool_core.specs.Pairs.{PairState, pair_in, first_in, second_in, HasTwo}
use Rattle.pool_core.specs.State.{LeafState, PoolState}

abbrev pub pair_with : Top → Guid → List LeafVdev → PairState
pair_with top mirror some = record { mirror = mirror; sectors = top.sectors; first = first_in some; second = second_in some }

pub pair_of : (top : Top) (first second : LeafVdev) (mirror : Guid) → leaves top.mirror ≡ first ∷ second ∷ [] → marks top.mirror ≡ pair_marks mirror
    → pair_in top ≡ record { mirror = mirror; sectors = top.sectors; first = first; second = second }
pair_of top first second mirror are built =
    ap (λ guid. pair_with top guid (leaves top.mirror)) (pair_guid top.mirror mirror built) ∙ ap (pair_with top mirror) are

pub HasTwo-of : (top : Top) (first second : LeafVdev) (mirror : Guid) → leaves top.mirror ≡ first ∷ second ∷ [] → marks top.mirror ≡ pair_marks mirror → HasTwo top
HasTwo-of top first second mirror are built = record {
  leaves_are = are ∙ sym (ap (λ ls. first_in ls ∷ second_in ls ∷ []) are);
  built = built ∙ ap pair_marks (sym (pair_guid top.mirror mirror built));
}

-- a tree whose leaves changed each for itself
pub HasTwo-changed : (f : LeafVdev → LeafVdev) (old new : Top) → HasTwo old → leaves new.mirror ≡ map f (leaves old.mirror) → marks new.mirror ≡ marks old.mirror → HasTwo new
HasTwo-changed f old new two are built =
    HasTwo-of new (f (first_in (leaves old.mirror))) (f (second_in (leaves old.mirror))) (guid_of old.mirror) (are ∙ ap (map f) two.leaves_are) (built ∙ two.built)

-- what a change of a leaf is for the state that it stands for
abbrev pub Follows : (LeafVdev → LeafVdev) → (LeafState → LeafState) → Type 0
Follows to change = (v : LeafVdev) (leaf : LeafState) → IsLeaf v leaf → IsLeaf (to v) (change leaf)

abbrev pub at_leaf : Guid → (LeafVdev → LeafVdev) → LeafVdev → LeafVdev
at_leaf at to v = cond (v.guid.0 == at.0) (to v) v

changed_by : (b : Bool) (change : LeafState → LeafState) (v w : LeafVdev) (leaf : LeafState) → IsLeaf v leaf → IsLeaf w (change leaf) → IsLeaf (cond b w v) (changed_if b change leaf)
changed_by true change v w leaf is new = new
changed_by false change v w leaf is new = is

changed_leaf : (at : Guid) (to : LeafVdev → LeafVdev) (change : LeafState → LeafState) → Follows to change → (v : LeafVdev) (leaf : LeafState) → IsLeaf v leaf
    → IsLeaf (at_leaf at to v) (changed_if (leaf.member.0 == at.0) change leaf)
changed_leaf at to change follows v leaf is =
    subst (λ b. IsLeaf (at_leaf at to v) (changed_if b change leaf)) (ap (λ (guid : Guid). guid.0 == at.0) (sym is.member))
    (changed_by (v.guid.0 == at.0) change v (to v) leaf is (follows v leaf is))

pub Stands-changed : (at : Guid) (to : LeafVdev → LeafVdev) (change : LeafState → LeafState) → Follows to change → (old new : Top) → HasTwo old
    → leaves new.mirror ≡ map (at_leaf at to) (leaves old.mirror) → marks new.mirror ≡ marks old.mirror → new.sectors ≡ old.sectors
    → (s : PoolState) → Stands (pair_in old) s → Stands (pair_in new) (with_leaf at change s)
Stands-changed at to change follows old new two are built sectors s stands =
    let first = first_in (leaves old.mirror) in
    let second = second_in (leaves old.mirror) in
    subst (λ pair. Stands pair (with_leaf at change s))
    (sym (pair_of new (at_leaf at to first) (at_leaf at to second) (guid_of old.mirror) (are ∙ ap (map (at_leaf at to)) two.leaves_are) (built ∙ two.built)))
    (record {
      mirror = stands.mirror;
      sectors = stands.sectors ∙ sym sectors;
      first = changed_leaf at to change follows first s.first stands.first;
      second = changed_leaf at to change follows second s.second stands.second;
    })

pub offline_leaf : (temporary : Bool) → Follows (λ v. record v { state = states.Offline; temporary = temporary }) (taken_offline temporary)
offline_leaf temporary v leaf is = record { member = is.member; name = is.name; dev = is.dev; state = refl; temporary = refl; marked = is.marked; owes = is.owes }

pub brought_leaf : (dev : ℕ) → Follows (λ v. record v { dev = Some dev; state = states.Online; marked = true; temporary = false }) (brought dev)
brought_leaf dev v leaf is = record { member = is.member; name = is.name; dev = refl; state = refl; temporary = refl; marked = refl; owes = is.owes }

pub marked_leaf : Follows (λ v. record v { marked = true }) marked
marked_leaf v leaf is = record { member = is.member; name = is.name; dev = is.dev; state = is.state; temporary = is.temporary; marked = refl; owes = is.owes }
