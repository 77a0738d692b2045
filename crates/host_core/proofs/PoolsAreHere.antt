-- The bank has the devices of a host's open pools.
use Rattle.std.proofs.Common.{◌≡◌, ℕ, suc, ◌+◌, ◌≤◌, List, [], ◌∷◌, map, Some, slice_index, sym, ap, ◌∙◌, subst, arith}
use Rattle.std.specs.List.{All, AllByRecursion}
use Rattle.std.proofs.lemmas.List.Elements.{All-from_recursion}
use Rattle.bank_core.specs.BankView.{BankView}
use Rattle.vdev_tree.specs.declared.vdev.LeafVdev.{LeafVdev}
use Rattle.txg_engine.specs.declared.seat.Seat.{Seat}
use Rattle.open_pool.specs.Here.{IsHere, AreHere}
use Rattle.open_pool.specs.Parts.{TopParts, PoolParts}
use Rattle.open_pool.specs.State.{Stands, leaf_of, leaves_from, leaves_under, sectors_in, seats_in}
use Rattle.pool_codec.specs.Tops.{room_of}
use Rattle.pool_moves.specs.Leaves.{LeafSeen}
use Rattle.pool_moves.specs.States.{PoolState}
use Rattle.pool_moves.proofs.Lists.{each, all_front, all_rest}
use Rattle.pool_runs.specs.Devices.{Device, size_in}
use Rattle.pool_runs.specs.Hosts.{Host}
use Rattle.host_core.specs.Parts.{HostParts}
use Rattle.host_core.specs.Standing.{HasOwnDevices, HostStands}
use Rattle.host_core.proofs.SizesOfLeaves.{AreSame}

module _ (size : ℕ → ℕ) where
  -- the leaf's device has the room of its top
  abbrev HasRoom : (room : ℕ → ℕ) → LeafSeen → Type 0
  HasRoom room leaf = (d : ℕ) → leaf.dev ≡ Some d → room leaf.top + 256 ≤ size d

  under_here : (seats : List Seat) (top sectors : ℕ) (room : ℕ → ℕ) → room top ≡ sectors → (under : List LeafVdev)
      → AllByRecursion (HasRoom room) (map (leaf_of seats top) under) → AllByRecursion (IsHere size sectors) under
  under_here seats top sectors room same [] all = tt
  under_here seats top sectors room same (leaf ∷ under) all =
      ((λ d up is. subst (λ n. n + 256 ≤ size d) same (all.0 d is)), under_here seats top sectors room same under all.1)

  tops_here : (seats : List Seat) (top : ℕ) (room : ℕ → ℕ) (tops : List TopParts) → ((i : ℕ) → room (top + i) ≡ slice_index (sectors_in tops) i)
      → AllByRecursion (HasRoom room) (leaves_from seats top (leaves_under tops)) → AllByRecursion (λ under. All (IsHere size under.sectors) under.leaves) tops
  tops_here seats top room [] rooms all = tt
  tops_here seats top room (under ∷ tops) rooms all =
      let here : room top ≡ under.sectors = ap room (let same : top ≡ top + 0 = omega arith in same) ∙ rooms 0 in
      let first = map (leaf_of seats top) under.leaves in let rest = leaves_from seats (suc top) (leaves_under tops) in (
        All-from_recursion (IsHere size under.sectors) under.leaves
            (under_here seats top under.sectors room here under.leaves (all_front (HasRoom room) first rest all)),
        tops_here seats (suc top) room tops (λ i. ap room (let same : suc top + i ≡ top + suc i = omega arith in same) ∙ rooms (suc i))
            (all_rest (HasRoom room) first rest all),
      )

  pub leaves_here : (p : PoolParts) (s : PoolState) → Stands p s → AllByRecursion (HasRoom s.core.room) s.core.leaves → AreHere size p.tops
  leaves_here p s stands all = All-from_recursion (λ top. All (IsHere size top.sectors) top.leaves) p.tops
      (tops_here (seats_in p.frozen) 1 (room_of (sectors_in p.tops)) p.tops
      (λ i. ap (room_of (sectors_in p.tops)) (let next : 1 + i ≡ suc i = omega arith in next))
      (subst (λ (x : PoolState). AllByRecursion (HasRoom x.core.room) x.core.leaves) stands.is all))

-- A leaf's device has the same sectors by the bank and by the table.
size_of : (host : HostParts) (bank : BankView) (h : Host) (need d : ℕ) → HostStands host bank h → 1 ≤ need → need ≤ size_in h.table d → bank.size d ≡ size_in h.table d
size_of host bank h need d was some room =
    was.sizes d (subst (λ (t : List Device). 1 ≤ size_in t d) was.table (omega (arith, some, room))) ∙ ap (λ (t : List Device). size_in t d) (sym was.table)

pub sizes_of : (host : HostParts) (bank : BankView) (h : Host) (s : PoolState) → HostStands host bank h → HasOwnDevices h s → AreSame bank.size (size_in h.table) s.core.leaves
sizes_of host bank h s was owned = each (λ leaf own d is. size_of host bank h (s.core.room leaf.top + 256) d was (omega arith) (own d is).room) s.core.leaves owned

pub pool_here : (host : HostParts) (bank : BankView) (h : Host) (p : PoolParts) (s : PoolState) → HostStands host bank h → HasOwnDevices h s → Stands p s
    → AreHere bank.size p.tops
pool_here host bank h p s was owned stands = leaves_here bank.size p s stands (each (λ leaf own d is.
    subst (λ n. s.core.room leaf.top + 256 ≤ n) (sym (size_of host bank h (s.core.room leaf.top + 256) d was (omega arith) (own d is).room)) (own d is).room)
    s.core.leaves owned)
