-- A read: what was written since the last commit, else the copies of the committed block in tree order.
use Rattle.std.specs.Prelude.{ℕ, ◌+◌, ◌==◌, Bool, true, false, if◌then◌else◌, nat_lt, List, [], ◌∷◌, ◌++◌, map, Option, Some, None, Result, Ok, Err}
use Rattle.std.specs.List.{filter_map}
use Rattle.mp_base.specs.declared.number.Guid.{Guid}
use Rattle.label_store.specs.declared.member.Member.{Member}
use Rattle.mp_base.specs.Block.{zero_block}
use Rattle.mp_base.specs.declared.refusal.LeafSeen.{LeafSeen}
use Rattle.mp_base.specs.declared.refusal.Seen.{Seen}
use Rattle.mp_base.specs.declared.refusal.Seen.TheVariants as seen
use Rattle.mp_base.specs.declared.refusal.Refusal.{Refusal}
use Rattle.mp_base.specs.declared.refusal.Refusal.TheVariants as refusals
use Rattle.bank_core.specs.Asks.{Ask, Reads}
use Rattle.pool_core.specs.State.{LeafState, Content, Known, Summed, Version, PoolState, leaves, having, owing, seat_of, data_start}
use Rattle.pool_core.specs.Outside.{Trouble, Failed, Gone, Wrong}

abbrev pub seen_as : Trouble → Seen
seen_as Failed = seen.Failed
seen_as Gone = seen.Failed
seen_as Wrong = seen.Mismatch

-- The copies of a block in the order in which they are tried: those of the readable leaves whose log lacks
-- its birth, and behind them those of the readable leaves whose log has it, each in tree order.
abbrev pub tries : (birth : ℕ) → List LeafState → List Member
tries birth some = filter_map seat_of (having birth some) ++ filter_map seat_of (owing birth some)

-- they are asked in order, up to the first that met no trouble
abbrev pub asks_to : ℕ → List Member → List (Option Trouble) → List Ask
asks_to at [] outside = []
asks_to at (m ∷ ms) [] = Reads m.dev at 1 ∷ []
asks_to at (m ∷ ms) (None ∷ outside) = Reads m.dev at 1 ∷ []
asks_to at (m ∷ ms) (Some trouble ∷ outside) = Reads m.dev at 1 ∷ asks_to at ms outside

-- some copy met none
abbrev pub is_served : List Member → List (Option Trouble) → Bool
is_served [] outside = false
is_served (m ∷ ms) [] = false
is_served (m ∷ ms) (None ∷ outside) = true
is_served (m ∷ ms) (Some trouble ∷ outside) = is_served ms outside

-- what the copy of a leaf showed, where it met trouble; a leaf that isn't tried isn't readable
abbrev pub seen_of : List Member → List (Option Trouble) → Guid → Seen
seen_of [] outside leaf = seen.Unreadable
seen_of (m ∷ ms) [] leaf = seen.Unreadable
seen_of (m ∷ ms) (None ∷ outside) leaf = seen_of ms outside leaf
seen_of (m ∷ ms) (Some trouble ∷ outside) leaf = if m.guid.0 == leaf.0 then seen_as trouble else seen_of ms outside leaf

-- what each leaf showed, in tree order, where no copy served
abbrev pub shown : (birth : ℕ) → List LeafState → List (Option Trouble) → List LeafSeen
shown birth some outside = map (λ leaf. record { member = leaf.member; seen = seen_of (tries birth some) outside leaf.member }) some

-- Where a block is found: in memory, where it was written since the last commit; nowhere, where nothing
-- was ever committed; else in its copies.
pub data Source : Type 0 where
  Memory : (block : List ℕ) → Source
  Hole : Source
  Copies : (version : Version) → Source

abbrev pub source_of : Option (List ℕ) → Option Version → Source
source_of (Some block) committed = Memory block
source_of None None = Hole
source_of None (Some version) = Copies version

abbrev pub source_at : PoolState → ℕ → Source
source_at s a = source_of (s.writes a) (s.committed a)

-- the block itself, so far as it is known
abbrev pub block_from : Source → Content
block_from (Memory block) = Known block
block_from Hole = Known zero_block
block_from (Copies version) = version.content

-- the block that a read of this address should give
abbrev pub wanted : PoolState → ℕ → Content
wanted s a = block_from (source_at s a)

-- the device calls for it: only copies need some
abbrev pub asks_from : Source → List LeafState → List (Option Trouble) → List Ask
asks_from (Memory block) leaves outside = []
asks_from Hole leaves outside = []
asks_from (Copies version) leaves outside = asks_to (data_start + version.sector) (tries version.birth leaves) outside

abbrev pub read_asks : PoolState → ℕ → List (Option Trouble) → List Ask
read_asks s a outside = if nat_lt a s.blocks then asks_from (source_at s a) (leaves s) outside else []

-- The block that a copy gave which served: of one whose sum alone is known, the bytes that the read gave.
abbrev pub served : Content → (given : List ℕ) → List ℕ
served (Known block) given = block
served (Summed sum) given = given

-- a copy that served gives the block, else each leaf is named with what it showed
abbrev pub copies_give : Bool → ℕ → List ℕ → List LeafSeen → Result (List ℕ) Refusal
copies_give true a block leaves = Ok block
copies_give false a block leaves = Err (refusals.Exhausted 0 a leaves)

abbrev pub answer_from : Source → ℕ → List LeafState → List (Option Trouble) → (given : List ℕ) → Result (List ℕ) Refusal
answer_from (Memory block) a leaves outside given = Ok block
answer_from Hole a leaves outside given = Ok zero_block
answer_from (Copies version) a leaves outside given =
    copies_give (is_served (tries version.birth leaves) outside) a (served version.content given) (shown version.birth leaves outside)

-- The answer to a read: the block, or why there is none.
abbrev pub read_answer : PoolState → ℕ → List (Option Trouble) → (given : List ℕ) → Result (List ℕ) Refusal
read_answer s a outside given =
    if nat_lt a s.blocks then answer_from (source_at s a) a (leaves s) outside given else Err (refusals.BadAddress s.blocks)

-- a call's result and what it left in the buffer, as an answer
abbrev pub answered : {E : Type 0} → List ℕ → Result (Unit {0}) E → Result (List ℕ) E
answered out (Ok done) = Ok out
answered out (Err refusal) = Err refusal
