-- The turns of a frozen group.
use Rattle.std.specs.Prelude.{◌≡◌, ℕ, ◌+◌, ◌-◌, ◌^◌, ◌≤◌, min, Bool, true, false, List, length, map, All}
use Rattle.std.specs.Prelude.{Option, Some, None, is_some, Result, Ok, Err, IsOk, IsErrAnd, slice_get}
use Rattle.std.specs.List.{list_all, AllZip}
use Rattle.mp_base.specs.declared.number.Group.{Group}
use Rattle.mp_base.specs.declared.number.Guid.{Guid}
use Rattle.bank_core.specs.Asks.{Ask}
use Rattle.bank_core.specs.BankView.{BankView}
use Rattle.bank_core.specs.Calls.{Makes}
use Rattle.bank_core.specs.Disk.{Noted}
use Rattle.label_store.specs.declared.member.Member.{Member}
use Rattle.label_store.specs.declared.rule.Head.{Head}
use Rattle.label_store.specs.Committing.{AreExcused, Commits}
use Rattle.label_store.specs.Phases.{IsPhase}
use Rattle.label_store.specs.Rounds.{Commit}
use Rattle.vdev_tree.specs.Tree.{guid_of}
use Rattle.vdev_tree.specs.declared.top.Top.{Top}
use Rattle.vdev_tree.specs.declared.vdev.LeafVdev.{LeafVdev}
use Rattle.txg_history.specs.Turns.{write_plan, flush_plan}
use Rattle.txg_engine.specs.declared.close_turn.Closed.{Closed}
use Rattle.txg_engine.specs.declared.close_turn.Closed.TheVariants as closed
use Rattle.txg_engine.specs.declared.item.Item.{Item}
use Rattle.txg_engine.specs.declared.seat.Numbers.{Numbers}
use Rattle.txg_engine.specs.declared.seat.Seat.{Seat}
use Rattle.txg_engine.specs.declared.seat.Suspended.{Suspended}
use Rattle.txg_engine.specs.Boards.{board_of, board_under, behind_turn, emptied, faults_under, has_seat, HasCause}
use Rattle.txg_engine.specs.Frozen.{FrozenGroup}
use Rattle.txg_engine.specs.Items.{cell_of}
use Rattle.txg_engine.specs.Logs.{AreBehind, AreGrown, is_off, IsSettled}

-- What a turn works on: the group, the leaves of the pool's tree, and the bank.
pub record Scene : Type 0 where
  pub group : FrozenGroup
  pub leaves : List LeafVdev
  pub bank : BankView

-- the member numbers of the tops
abbrev pub numbers_of : List Top → List Guid
numbers_of tops = map (λ top. guid_of top.mirror) tops

-- a leaf that left the board, by a cause
pub record HasLeft (seat : Seat) : Type 0 where
  pub off : seat.on ≡ false
  pub cause : HasCause seat

-- What is told of a top that has nobody left on the board. Each leaf of it that was on the board at the freeze had a call that
-- failed since, or was taken off by its pool; and where there was any, at least one call failed.
pub record IsTold (tops : List Guid) (first : Group) (seats : List Seat) (top : ℕ) (told : Suspended) : Type 0 where
  pub number : told.group ≡ first
  pub top_is : slice_get tops top ≡ Some told.top
  pub faults_are : told.faults ≡ min (2 ^ 64 - 1) (faults_under top seats)
  pub left : All (λ seat. seat.top ≡ top → HasLeft seat) seats
  pub some : has_seat top seats ≡ true → 1 ≤ told.faults

abbrev pub IsChecked : {A : Type 0} → List Guid → Group → List Seat → Option ℕ → Result A Suspended → Type 0
IsChecked tops number seats None result = IsOk result
IsChecked tops number seats (Some top) result = IsErrAnd result (IsTold tops number seats top)

-- The group is suspended by such a top.
abbrev pub IsSuspended : List Guid → FrozenGroup → (top : ℕ) → Suspended → Type 0
IsSuspended tops group top told = IsTold tops group.numbers.first group.board top told

-- The answer where nobody is left under this top, or where each top has somebody.
abbrev pub Answers : {A : Type 0} → List Guid → FrozenGroup → Option ℕ → Result A Suspended → Type 0
Answers tops group top result = IsChecked tops group.numbers.first group.board top result

abbrev pub emptied_top : List Guid → FrozenGroup → Option ℕ
emptied_top tops group = emptied (length tops) group.board

-- some top has nobody on the board, so that `burn` is due
abbrev pub is_suspended : List Guid → FrozenGroup → Bool
is_suspended tops group = is_some (emptied_top tops group)

-- what stays as the freeze made it
pub record KeepsKeys (old new : FrozenGroup) : Type 0 where
  pub items : new.items ≡ old.items
  pub first : new.numbers.first ≡ old.numbers.first

-- The calls of a turn over these members, and who answered.
pub record MakesCalls (plan : Member → List Ask) (members : List Member) (results : List Bool) (old new : BankView) : Type 0 where
  pub made : List Noted
  pub calls : Makes made old new
  pub phase : IsPhase plan members (map (λ m. true) members) results made
  pub excused : AreExcused members results old.faults new.faults

abbrev pub WritesItem : Item → List Member → (results : List Bool) → (old new : BankView) → Type 0
WritesItem item members results old new = MakesCalls (write_plan (cell_of item)) members results old new

abbrev pub FlushesAll : List Member → (results : List Bool) → (old new : BankView) → Type 0
FlushesAll members results old new = MakesCalls flush_plan members results old new

-- What a turn does with these members: its calls, one member after another; each whose call failed is counted, leaves the board
-- and owes the numbers of the group; and of the group this is noted.
pub record Works (plan : Member → List Ask) (members : List Member) (noted : FrozenGroup) (old new : Scene) : Type 0 where
  pub results : List Bool
  pub calls : MakesCalls plan members results old.bank new.bank
  pub group : new.group ≡ record noted { board = behind_turn members results old.group.board }
  pub leaves : AreBehind old.group.numbers members results old.leaves new.leaves

-- A turn, by the top that has nobody on the board before it. Where there is one, nothing is done.
abbrev pub IsTurnBy : Option ℕ → List Guid → (plan : Member → List Ask) → List Member → (noted : FrozenGroup) → (old new : Scene)
    → Result (Unit {0}) Suspended → Type 0
IsTurnBy (Some top) tops plan members noted old new result = (new ≡ old) × Answers tops old.group (Some top) result
IsTurnBy None tops plan members noted old new result =
    Works plan members noted old new × Answers tops new.group (emptied_top tops new.group) result

-- A write turn: the next key goes to each leaf of its top that is on the board.
abbrev pub IsWriteTurn : List Guid → Item → (old new : Scene) → Result (Unit {0}) Suspended → Type 0
IsWriteTurn tops item old new result = IsTurnBy (emptied_top tops old.group) tops (write_plan (cell_of item))
    (board_under item.pointer.place.top old.group.board) (record (old.group) { written = old.group.written + 1 }) old new result

-- The flush turn: each leaf that is on the board is flushed.
abbrev pub IsFlushTurn : List Guid → (old new : Scene) → Result (Unit {0}) Suspended → Type 0
IsFlushTurn tops old new result = IsTurnBy (emptied_top tops old.group) tops flush_plan (board_of old.group.board)
    (record (old.group) { flushed = true }) old new result

abbrev pub all_done : List Bool → Bool
all_done results = list_all (λ done. done) results

abbrev pub with_next : Numbers → Numbers
with_next numbers = record numbers { last = record { 0 = numbers.last.0 + 1 } }

-- A further number is drawn: who isn't on the board owes it.
pub record Draws (noted : FrozenGroup) (leaves : List LeafVdev) (new : Scene) : Type 0 where
  pub group : new.group ≡ record noted { numbers = with_next noted.numbers }
  pub grown : AreGrown (is_off noted.board) (noted.numbers.last.0 + 1) (noted.numbers.last.0 + 1) leaves new.leaves

-- Behind a round in which a leaf failed: the group is suspended, or a further number is drawn.
abbrev pub GoesOn : Option ℕ → List Guid → (noted : FrozenGroup) → List LeafVdev → Scene → Result Closed Suspended → Type 0
GoesOn (Some top) tops noted leaves new result =
    (new.group ≡ noted) × (new.leaves ≡ leaves) × IsErrAnd result (IsSuspended tops noted top)
GoesOn None tops noted leaves new result = Draws noted leaves new × (result ≡ Ok (closed.Round noted.numbers.last))

-- The end of a round, by whether no leaf failed in it. Then the record is acknowledged, and what each leaf owes is settled.
abbrev pub EndsRound : (whole : Bool) → List Guid → (results : List Bool) → (noted : FrozenGroup) → (old new : Scene)
    → Result Closed Suspended → Type 0
EndsRound true tops results noted old new result =
    (new.group ≡ record noted { acked = true }) × AllZip IsSettled old.leaves new.leaves
    × (result ≡ Ok (closed.Committed noted.numbers.last))
EndsRound false tops results noted old new result =
    let members = board_of noted.board in
    let left = record noted { board = behind_turn members results noted.board } in
    (leaves : List LeafVdev) × AreBehind noted.numbers members results old.leaves leaves
    × GoesOn (emptied_top tops left) tops left leaves new result

-- A round over the board.
pub record MakesRound (head_of : List ℕ → Option Head) (commit : Commit) (tops : List Guid) (old new : Scene) (result : Result Closed Suspended) : Type 0 where
  pub results : List Bool
  pub commits : Commits head_of old.bank.size commit (board_of old.group.board) results old.bank new.bank
  pub ends : EndsRound (all_done results) tops results (record (old.group) { begun = true }) old new result

abbrev pub IsCloseTurnBy : Option ℕ → (List ℕ → Option Head) → Commit → List Guid → (old new : Scene) → Result Closed Suspended → Type 0
IsCloseTurnBy (Some top) head_of commit tops old new result = (new ≡ old) × Answers tops old.group (Some top) result
IsCloseTurnBy None head_of commit tops old new result = MakesRound head_of commit tops old new result

abbrev pub IsCloseTurn : (List ℕ → Option Head) → Commit → List Guid → (old new : Scene) → Result Closed Suspended → Type 0
IsCloseTurn head_of commit tops old new result = IsCloseTurnBy (emptied_top tops old.group) head_of commit tops old new result

-- the record was acknowledged, so that `adopt` is due
abbrev pub is_committed : Result Closed Suspended → Bool
is_committed (Ok (closed.Committed number)) = true
is_committed (Ok (closed.Round number)) = false
is_committed (Err told) = false
