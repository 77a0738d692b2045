-- Turns of a frozen group, each as a row: which moves it is made of, by the state before it.
use Rattle.std.specs.Prelude.{◌≡◌, ℕ, ◌<◌, ◌^◌, Bool, true, false, List, [], ◌∷◌, ◌++◌, map, Some, None}
use Rattle.mp_base.specs.declared.place.Key.{Key}
use Rattle.bank_core.specs.Asks.{Ask}
use Rattle.bank_core.specs.Disk.{Noted}
use Rattle.label_store.specs.declared.member.Member.{Member}
use Rattle.label_store.specs.declared.rule.Head.{Head}
use Rattle.label_store.specs.Phases.{IsTurn, IsPhase}
use Rattle.label_store.specs.Committing.{IsSealed}
use Rattle.label_store.specs.Records.{IsRecord}
use Rattle.label_store.specs.Rounds.{first_plan, second_plan, third_plan, config_of, uberblock_of}
use Rattle.label_store.specs.Seats.{AreSeated}
use Rattle.txg_history.specs.Pages.{Codec, Sum, IsOfVolume}
use Rattle.txg_history.specs.Records.{Cell}
use Rattle.txg_history.specs.Rounds.{all_true}
use Rattle.txg_history.specs.Turns.{write_plan, flush_plan}
use Rattle.pool_moves.specs.Boards.{board_of, board_under, emptied}
use Rattle.pool_moves.specs.Drafts.{draft_of, kept_leaf}
use Rattle.pool_moves.specs.FreezeRow.{IsBefore}
use Rattle.pool_moves.specs.Moves.{Draft, Move, Wrote_key, Flushed_all, Starts, Copies, Copied, Commits, sums_over}
use Rattle.pool_moves.specs.States.{PoolSeen, Own}
use Rattle.pool_moves.specs.Walking.{as_moves}
use Rattle.pool_moves.specs.Widening.{AreLeaves, seen_along}

-- one turn: its calls, the leaves that leave the board, and its mark
abbrev pub turn_moves : List Noted → (leaving : List Move) → Move → List Move
turn_moves made leaving mark = as_moves made ++ (leaving ++ (mark ∷ []))

-- A write turn: the block of the least key whose turn hasn't ended goes to each leaf of its top that is on the board.
pub record RowWriteTurn (s : PoolSeen) (vs : List Move) : Type 0 where
  pub frozen : s.group.frozen ≡ true
  pub unflushed : s.group.flushed ≡ false
  pub key : Key
  pub cell : Cell
  pub cell_is : s.group.cells key ≡ Some cell
  pub undone : s.group.done key ≡ false
  pub least : (j : Key) (other : Cell) → s.group.cells j ≡ Some other → s.group.done j ≡ false → IsBefore j key → ⊥
  pub made : List Noted
  pub results : List Bool
  pub calls : IsPhase (write_plan cell) (board_under cell.top s.leaves) (map (λ m. true) (board_under cell.top s.leaves)) results made
  pub leaving : List Move
  pub leaves : AreLeaves s (board_under cell.top s.leaves) results leaving
  pub moves : vs ≡ turn_moves made leaving (Wrote_key key)

-- The flush turn: each key's write turn has ended, and each leaf on the board is flushed.
pub record RowFlushTurn (s : PoolSeen) (vs : List Move) : Type 0 where
  pub frozen : s.group.frozen ≡ true
  pub written : (k : Key) (cell : Cell) → s.group.cells k ≡ Some cell → s.group.done k ≡ true
  pub made : List Noted
  pub results : List Bool
  pub calls : IsPhase flush_plan (board_of s.leaves) (map (λ m. true) (board_of s.leaves)) results made
  pub leaving : List Move
  pub leaves : AreLeaves s (board_of s.leaves) results leaving
  pub moves : vs ≡ turn_moves made leaving Flushed_all

-- What the configuration of a draft says of the record that is drawn up from this state. Each key is one of its volume. Its bytes are whole sectors, the last
-- of which is filled up with zeros.
pub record FitsState (c : Codec) (s : PoolSeen) (draft : Draft) : Type 0 where
  pub pool_is : draft.commit.pool ≡ s.pool
  pub number_is : draft.commit.number.0 ≡ s.number
  pub is_record : (m : Member) → m.guid.0 < 2 ^ 64 → IsRecord c.head_of (uberblock_of draft.commit m) draft.commit.blob (config_of draft.commit)
  pub sealed : IsSealed draft.commit.blob draft.commit.length
  pub name_is : (head : Head) → c.head_of (config_of draft.commit) ≡ Some head → head.name ≡ s.name
  pub room_is : c.room (config_of draft.commit) ≡ s.room
  pub inside : (k : Key) (sum : Sum) → sums_over s.group.cells s.committed k ≡ Some sum → IsOfVolume (c.blocks (config_of draft.commit)) k
  pub root : c.root (config_of draft.commit) ≡ sums_over s.group.cells s.committed (record { level = 3; index = 0 })
  pub leaves_are : c.leaves (config_of draft.commit) ≡ map kept_leaf s.leaves

-- What it says of what no event tells.
pub record FitsOwn (c : Codec) (own : Own) (draft : Draft) : Type 0 where
  pub volume : c.blocks (config_of draft.commit) ≡ own.blocks
  pub top_numbers : c.top_number (config_of draft.commit) ≡ own.top_number
  pub children_are : c.children (config_of draft.commit) ≡ own.children
  pub spares_are : c.spares (config_of draft.commit) ≡ own.spares
  pub next : c.next_member (config_of draft.commit) ≡ own.next_member

-- The third phase with its marks: a member that is still in the round begins it, and ends it where no call of its turn failed.
abbrev pub ended : Bool → Draft → ℕ → List Move
ended true draft d = Copied draft d ∷ []
ended false draft d = []

abbrev pub IsThirdMoves : (plan : Member → List Ask) → Draft → List Member → (was is : List Bool) → List Move → Type 0
IsThirdMoves plan draft [] [] [] vs = vs ≡ []
IsThirdMoves plan draft (m ∷ ms) (true ∷ was) (c ∷ is) vs =
    (mine : List Noted) × (rest : List Move) × (vs ≡ Copies draft m.dev ∷ (as_moves mine ++ (ended c draft m.dev ++ rest)))
    × IsTurn (plan m) true c mine × IsThirdMoves plan draft ms was is rest
IsThirdMoves plan draft (m ∷ ms) (false ∷ was) (c ∷ is) vs = (c ≡ false) × IsThirdMoves plan draft ms was is vs
IsThirdMoves plan draft [] [] (c ∷ is) vs = ⊥
IsThirdMoves plan draft [] (b ∷ was) is vs = ⊥
IsThirdMoves plan draft (m ∷ ms) [] is vs = ⊥
IsThirdMoves plan draft (m ∷ ms) (b ∷ was) [] vs = ⊥

-- how a round ends: its record is acknowledged, or those that failed leave the board
abbrev pub EndsRound : Bool → PoolSeen → Draft → List Member → (results : List Bool) → List Move → Type 0
EndsRound true s draft members results vs = vs ≡ Commits draft ∷ []
EndsRound false s draft members results vs = AreLeaves s members results vs

-- a round up to its end
abbrev pub round_moves : Draft → (first second : List Noted) → (thirds : List Move) → List Move
round_moves draft first second thirds = Starts draft ∷ (as_moves first ++ (as_moves second ++ thirds))

-- A round over the board, of the record that is drawn up from the state by the leaves of its tree. Each top has a leaf on
-- the board.
pub record RowRound (c : Codec) (size : ℕ → ℕ) (s : PoolSeen) (vs : List Move) (whole : Bool) : Type 0 where
  pub frozen : s.group.frozen ≡ true
  pub flushed : s.group.flushed ≡ true
  pub fresh : s.group.fresh ≡ true
  pub boards : emptied s.leaves ≡ None
  pub draft : Draft
  pub leaves : draft ≡ draft_of draft.commit s.leaves
  pub fits : FitsState c s draft
  pub seated : AreSeated size (board_of s.leaves)
  pub first : List Noted
  pub second : List Noted
  pub thirds : List Move
  pub in_first : List Bool
  pub in_second : List Bool
  pub results : List Bool
  pub whole_is : whole ≡ all_true results
  pub configs : IsPhase (first_plan size draft.commit) (board_of s.leaves) (map (λ m. true) (board_of s.leaves)) in_first first
  pub uberblocks : IsPhase (second_plan size draft.commit) (board_of s.leaves) in_first in_second second
  pub copies : IsThirdMoves (third_plan size draft.commit) draft (board_of s.leaves) in_second results thirds
  pub ending : List Move
  pub ends : EndsRound whole (seen_along (round_moves draft first second thirds) s) draft (board_of s.leaves) results ending
  pub moves : vs ≡ round_moves draft first second thirds ++ ending
