-- The turn of a frozen group that is due, in the engine's words: a write turn, the flush turn, or a round.
use Rattle.std.specs.Prelude.{◌≡◌, ℕ, ◌+◌, ◌-◌, ◌^◌, Bool, true, false, cond, List, length, take, Option, Some, None, Result, Ok, Err, slice_get}
use Rattle.mp_base.specs.declared.number.Guid.{Guid}
use Rattle.label_store.specs.Committing.{IsSealed}
use Rattle.label_store.specs.Rounds.{Commit}
use Rattle.pool_config.specs.Seen.{ConfigSeen}
use Rattle.pool_config.specs.Spelling.{config_bytes}
use Rattle.pool_config.specs.Validity.{IsValid}
use Rattle.pool_codec.specs.Codecs.{pool_codec}
use Rattle.txg_engine.specs.declared.close_turn.Closed.{Closed}
use Rattle.txg_engine.specs.declared.close_turn.Closed.TheVariants as closed
use Rattle.txg_engine.specs.declared.item.Item.{Item}
use Rattle.txg_engine.specs.declared.seat.Suspended.{Suspended}
use Rattle.txg_engine.specs.Frozen.{FrozenGroup, is_written_out}
use Rattle.txg_engine.specs.Turns.{Scene, IsWriteTurn, IsFlushTurn, IsCloseTurn}
use Rattle.open_pool.specs.declared.turn.TurnDone.{TurnDone}
use Rattle.open_pool.specs.declared.turn.TurnDone.TheVariants as done

-- what it answers
abbrev pub answered : TurnDone → Result (Unit {0}) Suspended → Result TurnDone Suspended
answered done (Ok x) = Ok done
answered done (Err told) = Err told

abbrev pub closed_as : Result Closed Suspended → Result TurnDone Suspended
closed_as (Ok (closed.Committed number)) = Ok (done.Committed number)
closed_as (Ok (closed.Round number)) = Ok (done.Round number)
closed_as (Err told) = Err told

-- The commit of a valid configuration's bytes, to the end of their last sector.
pub record Draws (commit : Commit) (c : ConfigSeen) : Type 0 where
  pub pool : commit.pool ≡ c.pool
  pub number : commit.number ≡ c.number
  pub bytes : take commit.length commit.blob ≡ config_bytes c
  pub sealed : IsSealed commit.blob commit.length
  pub valid : IsValid c

pub record WritesKey (tops : List Guid) (old new : Scene) (result : Result TurnDone Suspended) : Type 0 where
  pub outcome : Result (Unit {0}) Suspended
  pub turn : (item : Item) → slice_get old.group.items old.group.written ≡ Some item → IsWriteTurn tops item old new outcome
  pub says : result ≡ answered done.Write outcome

pub record FlushesBoard (tops : List Guid) (old new : Scene) (result : Result TurnDone Suspended) : Type 0 where
  pub outcome : Result (Unit {0}) Suspended
  pub turn : IsFlushTurn tops old new outcome
  pub says : result ≡ answered done.Flush outcome

pub record ClosesRound (c : ConfigSeen) (tops : List Guid) (old new : Scene) (result : Result TurnDone Suspended) : Type 0 where
  pub commit : Commit
  pub draws : Draws commit c
  pub outcome : Result Closed Suspended
  pub turn : IsCloseTurn pool_codec.head_of commit tops old new outcome
  pub says : result ≡ closed_as outcome

abbrev pub IsDueBy : (written_out flushed : Bool) → (c : ConfigSeen) → List Guid → (old new : Scene) → Result TurnDone Suspended → Type 0
IsDueBy false flushed c tops old new result = WritesKey tops old new result
IsDueBy true false c tops old new result = FlushesBoard tops old new result
IsDueBy true true c tops old new result = ClosesRound c tops old new result

abbrev pub IsDue : (c : ConfigSeen) → List Guid → (old new : Scene) → Result TurnDone Suspended → Type 0
IsDue c tops old new result = IsDueBy (is_written_out old.group) old.group.flushed c tops old new result

-- the record was acknowledged, so that the map is the record's from then on
abbrev pub is_committed_turn : Result TurnDone Suspended → Bool
is_committed_turn (Ok (done.Committed number)) = true
is_committed_turn result = false

-- the group goes on behind it
abbrev pub goes_on : Result TurnDone Suspended → Bool
goes_on (Ok done.Write) = true
goes_on (Ok done.Flush) = true
goes_on (Ok (done.Round number)) = true
goes_on result = false

-- How many turns a frozen group has at most: one for each key that is left, the flush turn, and a round for each number that is left.
abbrev pub turns_left : FrozenGroup → ℕ
turns_left group = (length group.items - group.written) + cond group.flushed 0 1 + (2 ^ 62 - group.numbers.last.0)

abbrev pub turns_in : Option FrozenGroup → ℕ
turns_in None = 0
turns_in (Some group) = 1 + turns_left group
