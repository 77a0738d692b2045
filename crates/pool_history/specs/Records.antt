-- Records: what a commit leaves for the next opening.
use Rattle.std.specs.Prelude.{◌≡◌, ℕ, ◌⊎◌, nat_lt, Bool, false, not, cond, List, [], ◌∷◌, Option, Some, None}
use Rattle.mp_base.specs.Block.{zero_block}
use Rattle.mp_base.specs.declared.number.Guid.{Guid}
use Rattle.label_store.specs.Rounds.{Commit}

-- A committed block: the group that it was born in, the data sector where it stands on each member, and its bytes.
pub record Cell : Type 0 where
  pub birth : ℕ
  pub sector : ℕ
  pub block : List ℕ

-- A record: a configuration, and the blocks that it commits, by their addresses. For each member it has a
-- log: the groups whose blocks the member need not have.
pub record Rec : Type 0 where
  pub commit : Commit
  pub cells : ℕ → Option Cell
  -- which groups the log of the member of this number has
  pub owes : Guid → ℕ → Bool

abbrev pub number_of : Rec → ℕ
number_of r = r.commit.number.0

-- A member takes part in a record's round exactly where its log in the record lacks the record's own number.
abbrev pub takes_part : Rec → Guid → Bool
takes_part r m = not (r.owes m (number_of r))

-- data sector 0 of a member is this sector of its device: the labels stand before it
abbrev pub data_start : ℕ
data_start = 128

-- the block of an address: zeros where none was ever committed
abbrev pub block_of : Option Cell → List ℕ
block_of None = zero_block
block_of (Some cell) = cell.block

abbrev pub block_at : Rec → ℕ → List ℕ
block_at r a = block_of (r.cells a)

-- what a pool reads before its first commit: number 0, nothing anywhere, and empty logs
abbrev pub nothing : Guid → Rec
nothing pool = record { commit = record { pool = pool; number = record { 0 = 0 }; blob = []; length = 0 }; cells = λ a. None; owes = λ m g. false }

-- one of these
abbrev pub IsIn : Rec → List Rec → Type 0
IsIn r [] = ⊥
IsIn r (q ∷ rs) = (r ≡ q) ⊎ IsIn r rs

-- those above this number
abbrev pub above : ℕ → List Rec → List Rec
above n [] = []
above n (r ∷ rs) = cond (nat_lt n (number_of r)) (r ∷ above n rs) (above n rs)

abbrev pub rest_of : List Rec → List Rec
rest_of [] = []
rest_of (r ∷ rs) = rs
