-- The events of a round, and which rounds a pool may make.
use Rattle.std.specs.Prelude.{◌≡◌, ◌≢◌, ◌⊎◌, ℕ, ◌&&◌, Bool, true, false, not, List, [], ◌∷◌, ◌++◌, cond, map, Some, slice_get}
use Rattle.std.specs.List.{list_all}
use Rattle.bank_core.specs.Asks.{Ask}
use Rattle.bank_core.specs.Disk.{Noted, run}
use Rattle.label_store.specs.declared.member.Member.{Member}
use Rattle.label_store.specs.Phases.{IsTurn, IsPhase}
use Rattle.mp_base.specs.declared.number.Guid.{Guid}
use Rattle.label_store.specs.Seats.{AreApart}
use Rattle.label_store.specs.Rounds.{first_plan, second_plan, third_plan}
use Rattle.txg_history.specs.Events.{Event, Begins, Third, Ends, Acks, as_events}
use Rattle.txg_history.specs.Groups.{grown}
use Rattle.txg_history.specs.Labels.{Status, Odd, Even, Lost}
use Rattle.txg_history.specs.Pools.{Pool, drawn, after, since_after, copies_after}
use Rattle.txg_history.specs.Records.{Rec, IsIn, takes_part}
use Rattle.txg_history.specs.Turns.{leavers, fails, IsBoardBehind}

abbrev pub ends_if : Bool → Rec → ℕ → List Event
ends_if true q d = Ends q d ∷ []
ends_if false q d = []

-- the third phase: a member that is still in the round begins it, and ends it where no call of its turn failed
abbrev pub IsThirds : (plan : Member → List Ask) → Rec → List Member → (was is : List Bool) → List Event → Type 0
IsThirds plan q [] [] [] vs = vs ≡ []
IsThirds plan q (m ∷ ms) (true ∷ was) (c ∷ is) vs =
    (mine : List Noted) × (rest : List Event) × (vs ≡ Third q m.dev ∷ (as_events mine ++ (ends_if c q m.dev ++ rest)))
    × IsTurn (plan m) true c mine × IsThirds plan q ms was is rest
IsThirds plan q (m ∷ ms) (false ∷ was) (c ∷ is) vs = (c ≡ false) × IsThirds plan q ms was is vs
IsThirds plan q [] [] (c ∷ is) vs = ⊥
IsThirds plan q [] (b ∷ was) is vs = ⊥
IsThirds plan q (m ∷ ms) [] is vs = ⊥
IsThirds plan q (m ∷ ms) (b ∷ was) [] vs = ⊥

-- no member failed
abbrev pub all_true : List Bool → Bool
all_true results = list_all (λ b. b) results

-- its record is acknowledged then, else those that failed leave the board
abbrev pub acks_or : Bool → Rec → List Member → (results : List Bool) → List Event
acks_or true q members results = Acks q ∷ []
acks_or false q members results = leavers members results

-- The events of a round over these members.
pub record IsRoundEvents (size : ℕ → ℕ) (q : Rec) (members : List Member) (results : List Bool) (vs : List Event) : Type 0 where
  pub first : List Noted
  pub second : List Noted
  pub thirds : List Event
  pub in_first : List Bool
  pub in_second : List Bool
  pub all : vs ≡ Begins q ∷ (as_events first ++ (as_events second ++ (thirds ++ acks_or (all_true results) q members results)))
  pub configs : IsPhase (first_plan size q.commit) members (map (λ m. true) members) in_first first
  pub uberblocks : IsPhase (second_plan size q.commit) members in_first in_second second
  pub copies : IsThirds (third_plan size q.commit) q members in_second results thirds

-- what the labels of a member promise behind a round, by what they promised at its end: where the round was whole, one that
-- stayed out of it promises nothing
abbrev pub behind_round : (whole : Bool) → Rec → Guid → Status → Status
behind_round whole q m status = cond whole (cond (takes_part q m) status Lost) status

-- What a round leaves of the labels' promises: of a device that isn't in its list what the round's beginning leaves; one that
-- made each of its calls has the record in its odd labels; and of one that failed what the beginning leaves, or the even
-- labels have the record.
pub record IsStatusBehind (p behind : Pool) (q : Rec) (whole : Bool) (members : List Member) (results : List Bool) : Type 0 where
  pub others : (d : ℕ) → ((i : ℕ) (m : Member) → slice_get members i ≡ Some m → m.dev ≢ d)
      → behind.status d ≡ behind_round whole q (p.guid d) ((after (Begins q) p).status d)
  pub ended : (i : ℕ) (m : Member) → AreApart members → slice_get members i ≡ Some m → slice_get results i ≡ Some true
      → behind.status m.dev ≡ behind_round whole q (p.guid m.dev) (Odd q)
  pub failed : (i : ℕ) (m : Member) → AreApart members → slice_get members i ≡ Some m → slice_get results i ≡ Some false
      → (behind.status m.dev ≡ behind_round whole q (p.guid m.dev) ((after (Begins q) p).status m.dev))
      ⊎ (behind.status m.dev ≡ behind_round whole q (p.guid m.dev) (Even q))

-- What the events of a round leave of a pool, by whether it was whole, that is whether no member failed, and
-- by its calls. The record of a whole round is the acknowledged one, the pool reads it, no other is live, and the group
-- has ended. Else it is live beside those that were, and the group goes on without the members that failed.
pub record RoundEnds (p behind : Pool) (q : Rec) (whole : Bool) (members : List Member) (results : List Bool) (made : List Noted) : Type 0 where
  pub name : behind.name ≡ p.name
  pub pool : behind.pool ≡ p.pool
  pub member : behind.member ≡ p.member
  pub guid : behind.guid ≡ p.guid
  pub size : behind.size ≡ p.size
  pub room : behind.room ≡ p.room
  pub home : behind.home ≡ p.home
  pub written : behind.written ≡ p.written
  pub highest : behind.highest ≡ p.highest
  pub sectors : behind.sectors ≡ run made p.sectors
  pub since : behind.since ≡ since_after made p.since
  pub copies : behind.copies ≡ copies_after made p.copies
  pub acks : behind.acks ≡ cond whole (q ∷ p.acks) p.acks
  pub given : behind.given ≡ cond whole (p.live ++ p.given) p.given
  pub status : IsStatusBehind p behind q whole members results
  pub acked : behind.acked ≡ cond whole q p.acked
  pub reads : behind.reads ≡ cond whole q p.reads
  pub opened : behind.opened ≡ cond whole true p.opened
  pub live : behind.live ≡ q ∷ cond whole [] p.live
  pub missed : behind.missed ≡ p.missed
  pub in_top : behind.in_top ≡ cond whole (λ d. q.tops (p.guid d)) p.in_top
  pub unbroken : behind.unbroken ≡ p.owes
  pub settled : behind.settled ≡ cond whole p.owes p.settled
  pub pinned : behind.pinned ≡ cond whole [] p.pinned
  pub scan : behind.scan ≡ p.scan
  pub frozen : behind.group.frozen ≡ cond whole false p.group.frozen
  pub first : behind.group.first ≡ p.group.first
  pub cells : behind.group.cells ≡ p.group.cells
  pub content : behind.group.content ≡ p.group.content
  pub done : behind.group.done ≡ p.group.done
  pub flushed : behind.group.flushed ≡ p.group.flushed
  pub fresh : behind.group.fresh ≡ false
  pub begun : behind.group.begun ≡ true
  pub board : IsBoardBehind p.group.board behind.group.board members results
  pub board_is : (d : ℕ) → behind.group.board d ≡ cond (not whole && fails members results d) false (p.group.board d)
  -- a whole round leaves the logs, and one that wasn't gives the numbers of the group to those that failed
  pub owes : whole ≡ true → behind.owes ≡ p.owes
  pub owes_is : whole ≡ false → (d g : ℕ) → behind.owes d g ≡ grown (fails members results) p.group.first p.highest p.owes d g
  -- the round drew this record, and no other
  pub drawn_q : IsIn q (drawn behind)
  pub drawn_in : (r : Rec) → IsIn r (drawn behind) → (r ≡ q) ⊎ IsIn r (drawn p)
