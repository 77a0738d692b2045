-- The events of a round, and which rounds a pool may make.
use Rattle.std.specs.Prelude.{◌≡◌, ◌⊎◌, ℕ, Bool, true, false, List, [], ◌∷◌, ◌++◌, cond, map, Some, slice_get}
use Rattle.std.specs.List.{list_all}
use Rattle.bank_core.specs.Asks.{Ask}
use Rattle.bank_core.specs.Disk.{Noted, run}
use Rattle.label_store.specs.declared.member.Member.{Member}
use Rattle.label_store.specs.Phases.{IsTurn, IsPhase}
use Rattle.label_store.specs.Rounds.{first_plan, second_plan, third_plan}
use Rattle.pool_history.specs.Events.{Event, Begins, Third, Ends, Acks, as_events}
use Rattle.pool_history.specs.Pools.{Pool, drawn, seat}
use Rattle.pool_history.specs.Records.{Rec, IsIn, number_of, takes_part}

abbrev pub ends_if : Bool → Rec → ℕ → List Event
ends_if true q d = Ends q d ∷ []
ends_if false q d = []

-- the third phase: a member that is still in the round begins it, and ends it where no call of its turn failed
abbrev pub IsThirds : (plan : Member → List Ask) → Rec → List Member → (was is : List Bool) → List Event → Type 0
IsThirds plan q [] [] [] vs = vs ≡ []
IsThirds plan q (m ∷ ms) (true ∷ was) (c ∷ is) vs =
    (mine : List Noted) × (rest : List Event) × (vs ≡ Third q m.dev ∷ (as_events mine ++ (ends_if c q m.dev ++ rest)))
    × IsTurn (plan m) true c mine × IsThirds plan q ms was is rest
IsThirds plan q (m ∷ ms) (false ∷ was) (c ∷ is) vs = (c ≡ false) × IsThirds plan q ms was is vs
IsThirds plan q [] [] (c ∷ is) vs = ⊥
IsThirds plan q [] (b ∷ was) is vs = ⊥
IsThirds plan q (m ∷ ms) [] is vs = ⊥
IsThirds plan q (m ∷ ms) (b ∷ was) [] vs = ⊥

-- no member failed
abbrev pub all_true : List Bool → Bool
all_true results = list_all (λ b. b) results

abbrev pub acks_if : Bool → Rec → List Event
acks_if true q = Acks q ∷ []
acks_if false q = []

-- The events of a round over these members.
pub record IsRoundEvents (size : ℕ → ℕ) (q : Rec) (members : List Member) (results : List Bool) (vs : List Event) : Type 0 where
  pub first : List Noted
  pub second : List Noted
  pub thirds : List Event
  pub in_first : List Bool
  pub in_second : List Bool
  pub all : vs ≡ Begins q ∷ (as_events first ++ (as_events second ++ (thirds ++ acks_if (all_true results) q)))
  pub configs : IsPhase (first_plan size q.commit) members (map (λ m. true) members) in_first first
  pub uberblocks : IsPhase (second_plan size q.commit) members in_first in_second second
  pub copies : IsThirds (third_plan size q.commit) q members in_second results thirds

-- Each member of the pool that takes part in the record's round is in the list, under its own number, and
-- no other member is. The list may have devices that the pool has lost.
pub record AreMembersOf (p : Pool) (q : Rec) (members : List Member) : Type 0 where
  pub seated : (i : ℕ) (m : Member) → slice_get members i ≡ Some m → p.member m.dev ≡ true → (m ≡ seat p m.dev) × (takes_part q (p.guid m.dev) ≡ true)
  pub all : (d : ℕ) → p.member d ≡ true → takes_part q (p.guid d) ≡ true → (i : ℕ) × (slice_get members i ≡ Some (seat p d))

-- What the events of a round leave of a pool, by whether it was whole, that is whether no member failed, and
-- by its calls. The record of a whole round is the acknowledged one, the pool reads it, and no other is live.
-- Else it is live beside those that were.
pub record RoundEnds (p behind : Pool) (q : Rec) (whole : Bool) (made : List Noted) : Type 0 where
  pub name : behind.name ≡ p.name
  pub pool : behind.pool ≡ p.pool
  pub member : behind.member ≡ p.member
  pub guid : behind.guid ≡ p.guid
  pub size : behind.size ≡ p.size
  pub written : behind.written ≡ p.written
  pub top : behind.top ≡ number_of q
  pub sectors : behind.sectors ≡ run made p.sectors
  pub acked : behind.acked ≡ cond whole q p.acked
  pub reads : behind.reads ≡ cond whole q p.reads
  pub idle : behind.idle ≡ whole
  pub live : behind.live ≡ q ∷ cond whole [] p.live
  pub missed : behind.missed ≡ p.missed
  -- the round drew this record, and no other
  pub drawn_q : IsIn q (drawn behind)
  pub drawn_in : (r : Rec) → IsIn r (drawn behind) → (r ≡ q) ⊎ IsIn r (drawn p)
