-- What a state keeps of a pool's history, and which moves it admits.
use Rattle.std.specs.Prelude.{◌≡◌, ◌⊎◌, ℕ, ◌<◌, ◌≤◌, ◌==◌, Bool, true, false, cond, Option, Some, None, List, [], ◌∷◌}
use Rattle.std.specs.List.{AllByRecursion, remove}
use Rattle.mp_base.specs.declared.number.Guid.{Guid}
use Rattle.txg_history.specs.Groups.{Logs}
use Rattle.txg_history.specs.Moves.{Mays}
use Rattle.txg_history.specs.Pages.{Codec}
use Rattle.txg_history.specs.Pools.{Pool}
use Rattle.txg_history.specs.Records.{Rec, IsIn, IsNoLeaf, block_in}
use Rattle.txg_history.specs.Survival.{Survives}
use Rattle.pool_moves.specs.Leaves.{LeafSeen, Seat, At, Adrift, told, leaf_seen}
use Rattle.pool_moves.specs.Moves.{Draft, Move, Freeze, Wrote_key, Flushed_all, Draw, Leave, Widen, Burn, Starts, Commits, Finds, Lose, Comes, Goes, Returns, Pass, Drop, Clear, after_move, events_of}
use Rattle.pool_moves.specs.States.{Side, seen, PoolState}

-- the seat is at no device that is this one
abbrev pub IsElsewhere : (d : ℕ) → Seat → Type 0
IsElsewhere d (At e found own) = (d == e) ≡ false
IsElsewhere d (Adrift leaf) = Unit {0}

abbrev pub AreSeatsApart : List Seat → Type 0
AreSeatsApart [] = Unit {0}
AreSeatsApart (At d found own ∷ seats) = AllByRecursion (IsElsewhere d) seats × AreSeatsApart seats
AreSeatsApart (Adrift leaf ∷ seats) = AreSeatsApart seats

-- a leaf that is at no device of the history has none in this run, and is on no board
abbrev pub IsAway : Seat → Type 0
IsAway (At d found own) = Unit {0}
IsAway (Adrift leaf) = (leaf.dev ≡ None) × (leaf.on ≡ false)

-- the seat's device is a member
abbrev pub IsSeated : (member : ℕ → Bool) → Seat → Type 0
IsSeated member (At d found own) = member d ≡ true
IsSeated member (Adrift leaf) = Unit {0}

-- the seat is at this device, or has another number than the member there
abbrev pub IsOwnNumber : (guid : ℕ → Guid) → (d : ℕ) → Seat → Type 0
IsOwnNumber guid d (At e found own) = ((d == e) ≡ true) ⊎ (((guid e).0 == (guid d).0) ≡ false)
IsOwnNumber guid d (Adrift leaf) = (leaf.guid.0 == (guid d).0) ≡ false

-- one of these seats is at this device, and the run has found it
abbrev pub IsFoundAt : (d : ℕ) → Seat → Type 0
IsFoundAt d (At e found own) = ((d == e) ≡ true) × (found ≡ true)
IsFoundAt d (Adrift leaf) = ⊥

abbrev pub HasFound : (d : ℕ) → List Seat → Type 0
HasFound d [] = ⊥
HasFound d (seat ∷ seats) = IsFoundAt d seat ⊎ HasFound d seats

-- one of these seats stands under this top
abbrev pub IsUnder : (in_top : ℕ → ℕ) → (top : ℕ) → Seat → Type 0
IsUnder in_top top (At d found own) = in_top d ≡ top
IsUnder in_top top (Adrift leaf) = leaf.top ≡ top

abbrev pub HasUnder : (in_top : ℕ → ℕ) → (top : ℕ) → List Seat → Type 0
HasUnder in_top top [] = ⊥
HasUnder in_top top (seat ∷ seats) = IsUnder in_top top seat ⊎ HasUnder in_top top seats

-- what a read answers: the open write, else what is beneath
abbrev pub over : Option (List ℕ) → List ℕ → List ℕ
over (Some block) below = block
over None below = below

-- the frozen group's contents, else the record's
abbrev pub beneath : Pool → ℕ → List ℕ
beneath p a = cond p.group.frozen (p.group.content a) (block_in p.reads.cells a)

-- the number of the seat's leaf is below this one
abbrev pub HasNumberBelow : (guid : ℕ → Guid) → (n : ℕ) → Seat → Type 0
HasNumberBelow guid n (At d found own) = (guid d).0 < n
HasNumberBelow guid n (Adrift leaf) = leaf.guid.0 < n

-- the record knows no leaf of a number from this one on
abbrev pub KnowsBelow : (n : ℕ) → Rec → Type 0
KnowsBelow n r = (m : Guid) → n ≤ m.0 → IsNoLeaf r m

-- The next member number is above that of each leaf, and of each that a live record knows, where the pool was opened; else of
-- each that the newest record knows, where its round was begun for the frozen group.
pub record AreNumbered (next : ℕ) (guid : ℕ → Guid) (opened : Bool) (live : List Rec) (frozen begun : Bool) (seats : List Seat) : Type 0 where
  pub below : AllByRecursion (HasNumberBelow guid next) seats
  pub known : opened ≡ true → (r : Rec) → IsIn r live → KnowsBelow next r
  pub newest : frozen ≡ true → begun ≡ true → (q : Rec) (rest : List Rec) → live ≡ q ∷ rest → KnowsBelow next q

-- none of these is of a leaf that the run has not found
abbrev pub IsOfFound : (which : ℕ → Bool) → Seat → Type 0
IsOfFound which (At d found own) = found ≡ false → which d ≡ false
IsOfFound which (Adrift leaf) = Unit {0}

-- The state is what is seen of the pool's history at its seats. No two leaves are at one device, each at a device is a
-- member, and no leaf has another member's number; all members on a frozen group's board are leaves that the run has
-- found, and where a member stands under a top some leaf does. The next member number is above all others. A read answers the open write, else the frozen group's block, else the record's; and the history has its invariant.
pub record Kept (c : Codec) (s : PoolState) (t : Side) : Type 0 where
  pub core : s.core ≡ seen t
  pub apart : AreSeatsApart t.seats
  pub seated : AllByRecursion (IsSeated t.pool.member) t.seats
  pub away : AllByRecursion IsAway t.seats
  pub numbered : (d : ℕ) → t.pool.member d ≡ true → AllByRecursion (IsOwnNumber t.pool.guid d) t.seats
  pub boarded : t.pool.group.frozen ≡ true → (d : ℕ) → t.pool.member d ≡ true → t.pool.group.board d ≡ true → HasFound d t.seats
  pub topped : (d : ℕ) → t.pool.member d ≡ true → 1 ≤ t.pool.in_top d → HasUnder t.pool.in_top (t.pool.in_top d) t.seats
  pub numbers : AreNumbered s.own.next_member t.pool.guid t.pool.opened t.pool.live t.pool.group.frozen t.pool.group.begun t.seats
  pub written : (a : ℕ) → t.pool.written a ≡ over (s.own.writes a) (beneath t.pool a)
  pub survives : Survives c t.pool

-- the draft has the seat's leaf under its top, and what its log has held since the round began is its log of now
abbrev pub IsDraftedBy : (unbroken owes : Logs) → (guid : ℕ → Guid) → (in_top : ℕ → ℕ) → Draft → Seat → Type 0
IsDraftedBy unbroken owes guid in_top draft (At d found own) = (unbroken d ≡ owes d) × (draft.tops (guid d) ≡ in_top d)
IsDraftedBy unbroken owes guid in_top draft (Adrift leaf) = Unit {0}

abbrev pub IsDrafted : Pool → Draft → Seat → Type 0
IsDrafted p draft seat = IsDraftedBy p.unbroken p.owes p.guid p.in_top draft seat

-- the run has not found a leaf at this device
abbrev pub IsNotFoundAt : (d : ℕ) → Seat → Type 0
IsNotFoundAt d (At e found own) = (d == e) ≡ true → found ≡ false
IsNotFoundAt d (Adrift leaf) = Unit {0}

-- the leaf has this number, and one of these has
abbrev pub IsNumbered : (guid : ℕ → Guid) → Guid → Seat → Type 0
IsNumbered guid m (At d found own) = ((guid d).0 == m.0) ≡ true
IsNumbered guid m (Adrift leaf) = (leaf.guid.0 == m.0) ≡ true

abbrev pub HasNumbered : (guid : ℕ → Guid) → Guid → List Seat → Type 0
HasNumbered guid m [] = ⊥
HasNumbered guid m (seat ∷ seats) = IsNumbered guid m seat ⊎ HasNumbered guid m seats

-- the leaf has another number
abbrev pub HasOtherNumber : (guid : ℕ → Guid) → Guid → Seat → Type 0
HasOtherNumber guid m (At d found own) = ((guid d).0 == m.0) ≡ false
HasOtherNumber guid m (Adrift leaf) = (leaf.guid.0 == m.0) ≡ false

-- the draft knows no leaf of another number than those of these seats
abbrev pub KnowsJust : (guid : ℕ → Guid) → List Seat → Draft → Type 0
KnowsJust guid seats draft = (m : Guid) → AllByRecursion (HasOtherNumber guid m) seats → (draft.tops m ≡ 0) × ((g : ℕ) → draft.owes m g ≡ true)

-- A seat may come back into the list: it is at no other seat's device, at a member, with no other member's number.
pub record MayReturn (t : Side) (seat : Seat) (leaf : LeafSeen) : Type 0 where
  pub idle : t.pool.group.frozen ≡ false
  pub leaf_is : leaf ≡ leaf_seen t.pool.group.frozen (told t.pool) seat
  pub apart : AreSeatsApart (seat ∷ t.seats)
  pub seated : IsSeated t.pool.member seat
  pub away : IsAway seat
  pub numbered : (d : ℕ) → t.pool.member d ≡ true → IsOwnNumber t.pool.guid d seat

-- A leaf may come in at this device under this number: neither is another leaf's, and no scan runs.
pub record MayCome (t : Side) (d : ℕ) (m : Guid) : Type 0 where
  pub elsewhere : AllByRecursion (IsElsewhere d) t.seats
  pub others : AllByRecursion (HasOtherNumber t.pool.guid m) t.seats
  pub at_rest : t.pool.scan.running ≡ false

-- A leaf may go where no group is frozen, and each top that a member stands under has a leaf without it.
pub record MayGo (t : Side) (i : ℕ) : Type 0 where
  pub idle : t.pool.group.frozen ≡ false
  pub topped : (d : ℕ) → t.pool.member d ≡ true → 1 ≤ t.pool.in_top d → HasUnder t.pool.in_top (t.pool.in_top d) (remove t.seats i)

-- The moves of a frozen group come while one is frozen, and those of a scan while one runs. A record knows the leaves of the
-- list alone. A board, and what leaves it or is cleared by a scan's end, has no device of a leaf that the run has not found. A
-- leaf is found where the history has it; a device that is lost is no found leaf's; one that comes in is no leaf's, under a
-- number of its own; and a leaf comes back as the history has it.
abbrev pub Admits : Side → Move → Type 0
Admits t (Freeze cells board) = AllByRecursion (IsOfFound board) t.seats
    × ((d : ℕ) → t.pool.member d ≡ true → board d ≡ true → HasFound d t.seats)
Admits t (Wrote_key k) = t.pool.group.frozen ≡ true
Admits t Flushed_all = t.pool.group.frozen ≡ true
Admits t Draw = t.pool.group.frozen ≡ true
Admits t (Leave d) = (t.pool.group.frozen ≡ true) × AllByRecursion (IsOfFound (λ e. d == e)) t.seats
Admits t (Widen m low high) = HasNumbered t.pool.guid m t.seats
Admits t Burn = t.pool.group.frozen ≡ true
Admits t (Starts draft) = (t.pool.group.frozen ≡ true) × KnowsJust t.pool.guid t.seats draft
Admits t (Commits draft) = (t.pool.group.frozen ≡ true) × AllByRecursion (IsDrafted t.pool draft) t.seats
Admits t (Finds m d) = (t.pool.member d ≡ true) × (t.pool.guid d ≡ m)
Admits t (Lose d) = AllByRecursion (IsNotFoundAt d) t.seats
Admits t (Comes i d m top own) = MayCome t d m
Admits t (Goes i) = MayGo t i
Admits t (Returns i seat leaf) = MayReturn t seat leaf
Admits t (Pass k birth which) = t.pool.scan.running ≡ true
Admits t (Drop d) = t.pool.scan.running ≡ true
Admits t (Clear d) = (t.pool.scan.running ≡ true) × AllByRecursion (IsOfFound (λ e. d == e)) t.seats
Admits t v = Unit {0}

-- Each of these moves is one that the history allows and the state admits, one after another.
abbrev pub Walks : Codec → Side → List Move → Type 0
Walks c t [] = Unit {0}
Walks c t (v ∷ vs) = (Mays c t.pool (events_of v t.pool) × Admits t v) × Walks c (after_move v t) vs
