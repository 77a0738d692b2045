-- What a settled group is, told by moments.
use Rattle.std.specs.Prelude.{◌≡◌, ◌≢◌, ℕ, true, List, [], ◌∷◌}
use Rattle.txg_history.specs.Events.{Event, Begins, Acks, Opens, Joins}
use Rattle.txg_history.specs.Pools.{Pool, after}

-- the log of the leaf on this device has the group before these events, and behind each of them
abbrev pub OwesThroughout : Pool → (d g : ℕ) → List Event → Type 0
OwesThroughout p d g [] = p.owes d g ≡ true
OwesThroughout p d g (v ∷ vs) = (p.owes d g ≡ true) × OwesThroughout (after v p) d g vs

-- no round begins with the event, it is no opening, and it doesn't bring this device in
abbrev pub BeginsNone : (d : ℕ) → Event → Type 0
BeginsNone d (Begins q) = ⊥
BeginsNone d (Opens r) = ⊥
BeginsNone d (Joins e m top) = e ≢ d
BeginsNone d v = Unit {0}

-- no round is acknowledged with it, it is no opening, and it doesn't bring this device in
abbrev pub AcksNone : (d : ℕ) → Event → Type 0
AcksNone d (Acks q) = ⊥
AcksNone d (Opens r) = ⊥
AcksNone d (Joins e m top) = e ≢ d
AcksNone d v = Unit {0}
