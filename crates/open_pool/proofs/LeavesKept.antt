-- What a group leaves of a leaf besides its log: all that a record has of it, its device, and which groups are settled.
use Rattle.std.proofs.Common.{◌≡◌, ℕ, ◌<◌, ◌≤◌, Bool, false, List, [], ◌∷◌, sym, ap, ◌∙◌, arith}
use Rattle.std.specs.List.{AllByRecursion, AllZip}
use Rattle.std.proofs.lemmas.List.Elements.{recursion_from_All, All-from_recursion, All-weaker}
use Rattle.group_set.specs.Groups.{holds}
use Rattle.vdev_tree.specs.declared.vdev.LeafVdev.{LeafVdev}
use Rattle.pool_config.specs.Flags.{recorded}
use Rattle.txg_engine.proofs.Ready.{nothing}
use Rattle.txg_engine.specs.Logs.{AreOwing, KeepsSets}
use Rattle.open_pool.specs.Form.{HasLeaves, all_leaves}
use Rattle.open_pool.specs.Parts.{PoolParts}
use Rattle.open_pool.proofs.BoardKept.{AreSameLeaves}
use Rattle.open_pool.proofs.FormKept.{devices_still, writable_still}
use Rattle.open_pool.proofs.LeavesStay.{are_grown_like}
use Rattle.open_pool.proofs.LogsWidened.{IsLikeIt, AreLikeThem, IsWithin}

pub record IsKept (old new : LeafVdev) : Type 0 where
  pub name : new.name ≡ old.name
  pub state : recorded new.state new.temporary ≡ recorded old.state old.temporary
  pub settled : (g : ℕ) → holds new.settled g ≡ holds old.settled g

abbrev pub AreKept : List LeafVdev → List LeafVdev → Type 0
AreKept old new = AllZip IsKept old new

sets_kept : (old new : LeafVdev) → KeepsSets old new → IsKept old new
sets_kept old new keeps =
    let same = keeps.rest nothing nothing in
    record {
      name = ap (λ (leaf : LeafVdev). leaf.name) same;
      state = ap (λ (leaf : LeafVdev). recorded leaf.state leaf.temporary) same;
      settled = keeps.settled.groups;
    }

log_kept : (old mid new : LeafVdev) → IsKept old mid → IsLikeIt mid new → IsKept old new
log_kept old mid new kept like =
    let same = sym (like nothing) in
    record {
      name = ap (λ (leaf : LeafVdev). leaf.name) same ∙ kept.name;
      state = ap (λ (leaf : LeafVdev). recorded leaf.state leaf.temporary) same ∙ kept.state;
      settled = λ g. ap (λ (leaf : LeafVdev). holds leaf.settled g) same ∙ kept.settled g;
    }

pub all_sets_kept : (old new : List LeafVdev) → AllZip KeepsSets old new → AreKept old new
all_sets_kept [] [] keeps = tt
all_sets_kept [] (y ∷ new) keeps = absurd keeps
all_sets_kept (x ∷ old) [] keeps = absurd keeps
all_sets_kept (x ∷ old) (y ∷ new) keeps = (sets_kept x y keeps.0, all_sets_kept old new keeps.1)

logs_kept : (old mid new : List LeafVdev) → AreKept old mid → AreLikeThem mid new → AreKept old new
logs_kept [] [] [] kept like = tt
logs_kept [] [] (z ∷ new) kept like = absurd like
logs_kept [] (y ∷ mid) new kept like = absurd kept
logs_kept (x ∷ old) [] new kept like = absurd kept
logs_kept (x ∷ old) (y ∷ mid) [] kept like = absurd like
logs_kept (x ∷ old) (y ∷ mid) (z ∷ new) kept like = (log_kept x y z kept.0 like.0, logs_kept old mid new kept.1 like.1)

-- behind a freeze
pub owing_kept : (which : LeafVdev → Bool) (number : ℕ) (old new : List LeafVdev) → AreOwing which number old new → AreKept old new
owing_kept which number old new owing =
    logs_kept old owing.roomy new (all_sets_kept old owing.roomy owing.room)
    (are_grown_like which number number owing.roomy new owing.grown)

abbrev IsUnsettled : (n : ℕ) → LeafVdev → Type 0
IsUnsettled n leaf = (g : ℕ) → n < g → holds leaf.settled g ≡ false

settled_still : (n : ℕ) (old new : List LeafVdev) → AreKept old new
    → AllByRecursion (IsUnsettled n) old
    → AllByRecursion (IsUnsettled n) new
settled_still n [] [] kept none = tt
settled_still n [] (y ∷ new) kept none = absurd kept
settled_still n (x ∷ old) [] kept none = absurd kept
settled_still n (x ∷ old) (y ∷ new) kept none = (
  (λ g above. kept.0.settled g ∙ none.0 g above),
  settled_still n old new kept.1 none.1,
)

-- so what holds of an open pool's leaves
pub leaves_kept : (p q : PoolParts) → AreSameLeaves (all_leaves p) (all_leaves q) → AreKept (all_leaves p) (all_leaves q)
    → AllByRecursion (IsWithin q.highest) (all_leaves q) → p.highest ≤ q.highest → HasLeaves p → HasLeaves q
leaves_kept p q same kept within le has = record {
  within = All-from_recursion (IsWithin q.highest) (all_leaves q) within;
  apart = devices_still (all_leaves p) (all_leaves q) same has.apart;
  writable = writable_still (all_leaves p) (all_leaves q) same has.writable;
  settled = All-weaker (IsUnsettled p.highest) (IsUnsettled q.highest) (λ leaf none g above. none g (omega (arith, above, le))) (all_leaves q)
      (All-from_recursion (IsUnsettled p.highest) (all_leaves q) (settled_still p.highest (all_leaves p) (all_leaves q) kept
      (recursion_from_All (IsUnsettled p.highest) (all_leaves p) has.settled)));
}
