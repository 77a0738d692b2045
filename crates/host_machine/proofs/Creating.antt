-- A create takes its two devices from each pool.
use Rattle.std.proofs.Common.{◌≡◌, ◌⊎◌, ℕ, Bool, true, false, List, [], ◌∷◌, Option, Some, None, refl, sym, ap, ◌∙◌, subst, inl, inr, ⊎_elim}
use Rattle.bank_core.specs.Disk.{Noted}
use Rattle.label_store.specs.Newest.{AreReads}
use Rattle.pool_wire.specs.declared.reply.Reply.{Reply}
use Rattle.pool_history.specs.Pools.{Pool}
use Rattle.pool_history.specs.Records.{Rec}
use Rattle.pool_core.specs.Commits.{AreMade}
use Rattle.pool_core.specs.State.{LeafState, PoolState}
use Rattle.host_machine.specs.declared.device.HostDevice.{HostDevice}
use Rattle.host_machine.specs.Machine.{HostState, Quietly, is_bad_size, new_seats, new_state, create_outcome, CreatesOn, CreatesUnless, IsCreate}
use Rattle.host_machine.specs.Devices.{member_of}
use Rattle.host_machine.specs.Tracking.{Cost, Device, Follows}
use Rattle.host_machine.proofs.Away.{AreAway}
use Rattle.host_machine.proofs.CommitsAway.{making_away}
use Rattle.host_machine.proofs.NewStates.{new_seats_found}
use Rattle.host_machine.proofs.Standings.{drawn_stays}
use Rattle.host_machine.proofs.Following.{Among, without, among_lost, IsOn, IsOnTwo, reads_follow, taken_follow}
use Rattle.host_machine.proofs.HostSeats.{member_number}
use Rattle.host_machine.proofs.Settling.{same_some}

-- A line that makes no call and leaves the host as it was.
pub quiet_follows : (T : Cost → Type 0) (p : Pool) (h : HostState) (made : List Noted) (next : HostState) (reply said : Reply) → Quietly made (h, said) next reply → Follows p h T made next
quiet_follows T p h made next reply said q = reads_follow T p h made next (subst AreReads (sym q.0) tt) (ap (λ x. x.0) q.1)

closed_by : (table : List HostDevice) (size : ℕ → ℕ) (records : List Rec) (pool : Option PoolState) (blocks : ℕ) (first other : List ℕ) (seats : ℕ × ℕ)
    → new_seats (record { table = table; size = size; records = records; pool = pool }) blocks first other ≡ Some seats → pool ≡ None
closed_by table size records None blocks first other seats e = refl
closed_by table size records (Some s) blocks first other seats e = absurd (cc)

-- no pool is open where a pool gets devices
pub create_closed : (h : HostState) (blocks : ℕ) (first other : List ℕ) (seats : ℕ × ℕ) → new_seats h blocks first other ≡ Some seats → h.pool ≡ None
create_closed h blocks first other seats e = closed_by h.table h.size h.records h.pool blocks first other seats e

on_none : (a b : ℕ) (table : List HostDevice) (pool : Option PoolState) → pool ≡ None → IsOn a b table pool
on_none a b table pool e = subst (IsOn a b table) (sym e) tt

-- The calls of a create are on the two devices of its leaves.
made_away : (p : Pool) (size : ℕ → ℕ) (table : List HostDevice) (s : PoolState) (seats : ℕ × ℕ) (made : List Noted) (failed : Option LeafState) → IsOnTwo seats.0 seats.1 table s
    → AreMade size s seats made failed → AreAway (without (seats.0 ∷ seats.1 ∷ []) p).member made
made_away p size table s seats made failed on m =
    making_away (without two p).member size s seats made failed (gone seats.0 (inl refl)) (gone seats.1 (inr (inl refl)))
    (λ d e. gone d (inl (same_some d seats.0 (sym e ∙ on.first)))) (λ d e. gone d (inr (inl (same_some d seats.1 (sym e ∙ on.second))))) m
  where
    two : List ℕ
    two = seats.0 ∷ seats.1 ∷ []

    gone : (d : ℕ) → Among d two → (without two p).member d ≡ false
    gone d at = among_lost two p d at

made_follows : (T : Cost → Type 0) (p : Pool) (h : HostState) (s : PoolState) (seats : ℕ × ℕ) (made : List Noted) (failed : Option LeafState) (next : HostState) (reply : Reply)
    → ((d : ℕ) → (d ≡ seats.0) ⊎ (d ≡ seats.1) → T (Device d)) → h.pool ≡ None → IsOnTwo seats.0 seats.1 h.table s → AreMade h.size s seats made failed
    → (next, reply) ≡ create_outcome h s failed → Follows p h T made next
made_follows T p h s seats made None next reply takes closed on m e =
    subst (Follows p h T made) (sym (ap (λ x. x.0) e))
    (taken_follow T p h seats.0 seats.1 made _ takes (made_away p h.size h.table s seats made None on m) refl refl (drawn_stays s h.records) on)
made_follows T p h s seats made (Some leaf) next reply takes closed on m e =
    subst (Follows p h T made) (sym (ap (λ x. x.0) e))
    (taken_follow T p h seats.0 seats.1 made _ takes (made_away p h.size h.table s seats made (Some leaf) on m) refl refl (drawn_stays s h.records)
    (on_none seats.0 seats.1 h.table h.pool closed))

on_follows : (T : Cost → Type 0) (p : Pool) (h : HostState) (second : ℕ) (name : List ℕ) (blocks : ℕ) (first other : List ℕ) (seats : Option (ℕ × ℕ)) (made : List Noted) (next : HostState) (reply : Reply)
    → ((d : ℕ) → (member_of first h.table ≡ Some d) ⊎ (member_of other h.table ≡ Some d) → T (Device d)) → new_seats h blocks first other ≡ seats → CreatesOn h second name blocks first other seats made next reply → Follows p h T made next
on_follows T p h second name blocks first other None made next reply takes e c = quiet_follows T p h made next reply _ c
on_follows T p h second name blocks first other (Some seats) made next reply takes e c =
    let has = new_seats_found h blocks first other seats e in
    let on : IsOnTwo seats.0 seats.1 h.table (new_state h second name blocks first other seats) = record {
      first = refl;
      second = refl;
      first_number = member_number first h.table seats.0 has.one;
      second_number = member_number other h.table seats.1 has.two;
    } in
    made_follows T p h (new_state h second name blocks first other seats) seats made c.0 next reply
    (λ d. ⊎_elim {A = d ≡ seats.0} {B = d ≡ seats.1} (λ is. takes d (inl (has.one ∙ ap Some (sym is)))) (λ is. takes d (inr (has.two ∙ ap Some (sym is)))))
    (create_closed h blocks first other seats e) on c.1 c.2

unless_follows : (T : Cost → Type 0) (p : Pool) (h : HostState) (second : ℕ) (name : List ℕ) (blocks : ℕ) (first other : List ℕ) (bad : Bool) (made : List Noted) (next : HostState) (reply : Reply)
    → ((d : ℕ) → (member_of first h.table ≡ Some d) ⊎ (member_of other h.table ≡ Some d) → T (Device d)) → CreatesUnless bad h second name blocks first other made next reply → Follows p h T made next
unless_follows T p h second name blocks first other true made next reply takes c = quiet_follows T p h made next reply _ c
unless_follows T p h second name blocks first other false made next reply takes c =
    on_follows T p h second name blocks first other (new_seats h blocks first other) made next reply takes refl c

pub create_follows : (T : Cost → Type 0) (p : Pool) (h : HostState) (second : ℕ) (name : List ℕ) (blocks : ℕ) (first other : List ℕ) (made : List Noted) (next : HostState) (reply : Reply)
    → ((d : ℕ) → (member_of first h.table ≡ Some d) ⊎ (member_of other h.table ≡ Some d) → T (Device d)) → IsCreate h second name blocks first other made next reply → Follows p h T made next
create_follows T p h second name blocks first other made next reply takes c =
    unless_follows T p h second name blocks first other (is_bad_size blocks) made next reply takes c
