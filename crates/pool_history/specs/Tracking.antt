-- What may happen to a member since the last acknowledgement, if its labels are to go on holding a record:
-- told by the events alone, with the record that the labels hold at that moment.
use Rattle.std.specs.Prelude.{◌≡◌, ◌≢◌, ◌⊎◌, ℕ, ◌+◌, ◌<◌, ◌==◌, true, cond, List, [], ◌∷◌}
use Rattle.mp_base.specs.declared.number.Guid.{Guid}
use Rattle.pool_history.specs.Events.{Event, Calls, Accepts, Looks, Opens, Begins, Third, Ends, Acks, Loses, Stops}
use Rattle.pool_history.specs.Labels.{Status, Odd, Even, Lost}
use Rattle.pool_history.specs.Pools.{Pool}
use Rattle.pool_history.specs.Records.{Rec, IsIn, number_of, takes_part}

-- A round may begin: its number is less than 32 above the acknowledged one and not that of the record which
-- the labels hold, so it takes another slot; and the last third phase here, if any, has ended.
abbrev pub MayBegin : (acked : Rec) → Status → Rec → Type 0
MayBegin acked (Odd r) q = (number_of q < number_of acked + 32) × (number_of q ≢ number_of r)
MayBegin acked (Even r) q = ⊥
MayBegin acked Lost q = ⊥

-- These events, while the labels of d hold this. Only third phases and acknowledgements change it, and with
-- an acknowledgement, in whose round the member takes part, the count of numbers begins anew. Of a round that
-- it stays out of nothing is asked, as long as it isn't acknowledged.
abbrev pub Keeps : (d : ℕ) → (m : Guid) → (acked : Rec) → Status → List Event → Type 0
Keeps d m acked status [] = Unit {0}
Keeps d m acked status (Calls noted ∷ vs) = Keeps d m acked status vs
Keeps d m acked status (Accepts a block ∷ vs) = Keeps d m acked status vs
Keeps d m acked status (Looks known ∷ vs) = Keeps d m acked status vs
Keeps d m acked status (Opens r ∷ vs) = Keeps d m acked status vs
Keeps d m acked status (Begins q ∷ vs) = (takes_part q m ≡ true → MayBegin acked status q) × Keeps d m acked status vs
Keeps d m acked status (Third q e ∷ vs) = Keeps d m acked (cond (e == d) (Even q) status) vs
Keeps d m acked status (Ends q e ∷ vs) = Keeps d m acked (cond (e == d) (Odd q) status) vs
Keeps d m acked status (Acks q ∷ vs) = (takes_part q m ≡ true) × Keeps d m q (Odd q) vs
Keeps d m acked status (Loses e ∷ vs) = (e ≢ d) × Keeps d m acked status vs
Keeps d m acked status (Stops sectors size ∷ vs) = Keeps d m acked status vs

-- the events from here on
abbrev pub KeepsLabels : Pool → (d : ℕ) → List Event → Type 0
KeepsLabels p d vs = Keeps d (p.guid d) p.acked (p.status d) vs

-- no live record's number is 32 or more above the acknowledged one's, as behind each acknowledgement
abbrev pub AreNear : Pool → Type 0
AreNear p = (r : Rec) → IsIn r p.live → number_of r < number_of p.acked + 32

-- The labels of a member promise a record.
pub record HasPromise (p : Pool) (d : ℕ) : Type 0 where
  pub is_member : p.member d ≡ true
  pub promised : Rec
  pub status_is : (p.status d ≡ Odd promised) ⊎ (p.status d ≡ Even promised)
