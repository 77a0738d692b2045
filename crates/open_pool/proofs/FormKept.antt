-- What holds of the leaves holds of them still, whatever a group does to logs and counts.
use Rattle.std.proofs.Common.{◌≡◌, ℕ, ◌<◌, ◌≤◌, ◌^◌, true, List, length, get_or, sym, ap, ◌∙◌, arith}
use Rattle.std.specs.Prelude.{All, is_some}
use Rattle.std.specs.List.{AllByRecursion}
use Rattle.std.proofs.lemmas.List.Elements.{AllZip-get_or}
use Rattle.mp_base.specs.declared.number.Guid.{Guid}
use Rattle.vdev_tree.specs.Leaf.{is_up, is_readable}
use Rattle.vdev_tree.specs.declared.vdev.LeafVdev.{LeafVdev}
use Rattle.open_pool.specs.Form.{all_leaves}
use Rattle.open_pool.specs.Parts.{PoolParts}
use Rattle.open_pool.proofs.BoardKept.{IsSameLeaf, AreSameLeaves}
use Rattle.open_pool.proofs.LeafLeaves.{same_length}
use Rattle.open_pool.proofs.LogsWidened.{IsWithin}
use Rattle.open_pool.proofs.NumbersApart.{AreNumbered}
use Rattle.open_pool.proofs.SeatsOfFreeze.{OnOwnDevices}
use Rattle.open_pool.proofs.TurnLeaves.{AreInForm}

module _ (old new : List LeafVdev) (same : AreSameLeaves old new) where
  there : (k : ℕ) (d : LeafVdev) → k < length new → IsSameLeaf (get_or old k d) (get_or new k d)
  there k d lt = AllZip-get_or IsSameLeaf old new k d d same
      (let long = same_length old new same in omega (arith, long, lt))

  shorter : (k : ℕ) → k < length new → k < length old
  shorter k lt = let long = same_length old new same in omega (arith, long, lt)

  pub numbered_still : AreNumbered old → AreNumbered new
  numbered_still numbers i j d before lt equal =
      numbers i j d before (shorter j lt)
      (ap (λ (g : Guid). g.0) (sym (there i d (omega (arith, before, lt))).guid) ∙ equal ∙ ap (λ (g : Guid). g.0)
      (there j d lt).guid)

  pub devices_still : OnOwnDevices old → OnOwnDevices new
  devices_still devices i j d before lt dev one other =
      devices i j d before (shorter j lt) dev (sym (there i d (omega (arith, before, lt))).dev ∙ one)
      (sym (there j d lt).dev ∙ other)

  pub writable_still : All (λ leaf. is_readable leaf ≡ true → is_some leaf.dev ≡ true) old
      → All (λ leaf. is_readable leaf ≡ true → is_some leaf.dev ≡ true) new
  writable_still writable k d lt up =
      let is = there k d lt in
      ap is_some is.dev ∙ writable k d (shorter k lt) (ap is_up (sym is.state) ∙ up)

-- so what holds of an open pool's leaves
pub form_kept : (p q : PoolParts) → AreSameLeaves (all_leaves p) (all_leaves q)
    → AllByRecursion (IsWithin q.highest) (all_leaves q) → q.highest ≤ 2 ^ 62 → AreInForm p → AreInForm q
form_kept p q same within high form = record {
  numbers = numbered_still (all_leaves p) (all_leaves q) same form.numbers;
  devices = devices_still (all_leaves p) (all_leaves q) same form.devices;
  within = within;
  few = (let long = same_length (all_leaves p) (all_leaves q) same in let few = form.few in omega (arith, long, few));
  high = high;
}
