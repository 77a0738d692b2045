-- Where a pool loses a device: a history may say so anywhere, and one that says it just where it must does where a stamp, a wipe
-- or the mark of a spare begins there, or another device is brought in under its member number.
use Rattle.std.specs.Prelude.{◌≡◌, ◌≢◌, ℕ, List, [], ◌∷◌, ◌++◌, Option}
use Rattle.mp_base.specs.declared.number.Guid.{Guid}
use Rattle.bank_core.specs.declared.bank.Fault.{Fault}
use Rattle.bank_core.specs.Asks.{Ask}
use Rattle.bank_core.specs.Disk.{Call, Write, Noted}
use Rattle.label_store.specs.Layout.{ring_offset}
use Rattle.label_store.specs.Plans.{zero_ring, stamp_plan, wipe_plan, mark_plan}
use Rattle.txg_history.specs.Events.{Event, Calls, Joins, Loses}
use Rattle.txg_history.specs.Pools.{Pool, pool_after}

-- the first call of each stamp, wipe and mark of device d: zeros over the ring of label 0
abbrev pub IsStampCall : (d : ℕ) → Call → Type 0
IsStampCall d call = (fault : Option Fault) × (call ≡ Write d ring_offset zero_ring fault)

-- these events begin with that call
abbrev pub BeginsStamp : (d : ℕ) → List Event → Type 0
BeginsStamp d [] = ⊥
BeginsStamp d (Calls noted ∷ vs) = IsStampCall d noted.call
BeginsStamp d (v ∷ vs) = ⊥

-- a device is said to be lost where a stamp, a wipe or a mark begins on it with the next event, and nowhere else
abbrev pub LoseJust : List Event → Type 0
LoseJust [] = Unit {0}
LoseJust (Loses d ∷ vs) = BeginsStamp d vs × LoseJust vs
LoseJust (v ∷ vs) = LoseJust vs

-- a plan of those that a device is lost by
pub data IsStampPlan : (d size : ℕ) → List Ask → Type 0 where
  IsStamp : {d size : ℕ} (pool member : Guid) → IsStampPlan d size (stamp_plan d size pool member)
  IsWipe : {d size : ℕ} → IsStampPlan d size (wipe_plan d size)
  IsMark : {d size : ℕ} → IsStampPlan d size (mark_plan d size)

-- the event takes membership from device d
abbrev pub IsLostBy : Pool → Event → (d : ℕ) → Type 0
IsLostBy p (Loses e) d = e ≡ d
IsLostBy p (Joins e m top) d = (e ≢ d) × ((p.guid d).0 ≡ m.0)
IsLostBy p v d = ⊥

-- one of these events does
pub record IsLostAmong (p : Pool) (vs : List Event) (d : ℕ) : Type 0 where
  pub before : List Event
  pub v : Event
  pub later : List Event
  pub all : vs ≡ before ++ (v ∷ later)
  pub by : IsLostBy (pool_after before p) v d

-- a stamp, a wipe or a mark begins on device d among these events, right where it is lost
pub record IsStampedAmong (vs : List Event) (d : ℕ) : Type 0 where
  pub before : List Event
  pub noted : Noted
  pub later : List Event
  pub all : vs ≡ before ++ (Loses d ∷ (Calls noted ∷ later))
  pub is_stamp : IsStampCall d noted.call

-- another device is brought in under its member number among them
pub record IsReplacedAmong (p : Pool) (vs : List Event) (d : ℕ) : Type 0 where
  pub before : List Event
  pub e : ℕ
  pub top : ℕ
  pub m : Guid
  pub later : List Event
  pub all : vs ≡ before ++ (Joins e m top ∷ later)
  pub other : e ≢ d
  pub same_number : ((pool_after before p).guid d).0 ≡ m.0
