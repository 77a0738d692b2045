-- What may happen to a member, if its labels are to go on holding a record: told by the events alone, with the record that
-- the labels hold at that moment.
use Rattle.std.specs.Prelude.{◌≡◌, ◌≢◌, ◌⊎◌, ℕ, ◌+◌, ◌<◌, ◌≤◌, ◌==◌, true, cond, List, [], ◌∷◌}
use Rattle.mp_base.specs.declared.number.Guid.{Guid}
use Rattle.label_store.specs.Layout.{slot_of}
use Rattle.txg_history.specs.Events.{Event, Begins, Third, Ends, Acks, Opens, Joins, Loses}
use Rattle.txg_history.specs.Labels.{Status, Odd, Even, Lost}
use Rattle.txg_history.specs.Pools.{Pool}
use Rattle.txg_history.specs.Records.{Rec, number_of, takes_part}

-- A round may begin: it takes another slot than the record which the labels hold, and the last third phase here, if any,
-- has ended.
abbrev pub MayBegin : Status → Rec → Type 0
MayBegin (Odd r) q = slot_of (number_of r) ≢ slot_of (number_of q)
MayBegin (Even r) q = ⊥
MayBegin Lost q = ⊥

-- These events, while the labels of d hold this. Only third phases change it. Of a round that the member stays out of
-- nothing is asked, as long as it isn't acknowledged.
abbrev pub Keeps : (d : ℕ) → (m : Guid) → Status → List Event → Type 0
Keeps d m status [] = Unit {0}
Keeps d m status (Begins q ∷ vs) = (takes_part q m ≡ true → MayBegin status q) × Keeps d m status vs
Keeps d m status (Third q e ∷ vs) = Keeps d m (cond (e == d) (Even q) status) vs
Keeps d m status (Ends q e ∷ vs) = Keeps d m (cond (e == d) (Odd q) status) vs
Keeps d m status (Acks q ∷ vs) = (takes_part q m ≡ true) × Keeps d m (Odd q) vs
Keeps d m status (Joins e n top ∷ vs) = (e ≢ d) × (m.0 ≢ n.0) × Keeps d m status vs
Keeps d m status (Loses e ∷ vs) = (e ≢ d) × Keeps d m status vs
Keeps d m status (v ∷ vs) = Keeps d m status vs

-- the events from here on
abbrev pub KeepsLabels : Pool → (d : ℕ) → List Event → Type 0
KeepsLabels p d vs = Keeps d (p.guid d) (p.status d) vs

-- The labels of a member promise a record.
pub record HasPromise (p : Pool) (d : ℕ) : Type 0 where
  pub is_member : p.member d ≡ true
  pub promised : Rec
  pub status_is : (p.status d ≡ Odd promised) ⊎ (p.status d ≡ Even promised)

-- The rule by numbers: each round in which the member takes part has a number less than 32 above the acknowledged one,
-- none of these begins while a third phase on the member is unfinished, and no opening reads a record of a lower number
-- than the one that the labels hold.
abbrev pub MayBeginNear : (acked : Rec) → Status → Rec → Type 0
MayBeginNear acked (Odd r) q = number_of q < number_of acked + 32
MayBeginNear acked (Even r) q = ⊥
MayBeginNear acked Lost q = ⊥

abbrev pub IsNotBelow : Status → Rec → Type 0
IsNotBelow (Odd r) opened = number_of r ≤ number_of opened
IsNotBelow (Even r) opened = number_of r ≤ number_of opened
IsNotBelow Lost opened = ⊥

abbrev pub KeepsNear : (d : ℕ) → (m : Guid) → (acked : Rec) → Status → List Event → Type 0
KeepsNear d m acked status [] = Unit {0}
KeepsNear d m acked status (Begins q ∷ vs) = (takes_part q m ≡ true → MayBeginNear acked status q) × KeepsNear d m acked status vs
KeepsNear d m acked status (Third q e ∷ vs) = KeepsNear d m acked (cond (e == d) (Even q) status) vs
KeepsNear d m acked status (Ends q e ∷ vs) = KeepsNear d m acked (cond (e == d) (Odd q) status) vs
KeepsNear d m acked status (Acks q ∷ vs) = (takes_part q m ≡ true) × KeepsNear d m q (Odd q) vs
KeepsNear d m acked status (Opens r ∷ vs) = IsNotBelow status r × KeepsNear d m acked status vs
KeepsNear d m acked status (Joins e n top ∷ vs) = (e ≢ d) × (m.0 ≢ n.0) × KeepsNear d m acked status vs
KeepsNear d m acked status (Loses e ∷ vs) = (e ≢ d) × KeepsNear d m acked status vs
KeepsNear d m acked status (v ∷ vs) = KeepsNear d m acked status vs
