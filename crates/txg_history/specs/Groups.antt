-- The group that is being committed, and logs.
use Rattle.std.specs.Prelude.{ℕ, nat_le, ◌==◌, ◌&&◌, Bool, true, false, not, cond, List, [], None}
use Rattle.mp_base.specs.declared.place.Key.{Key}
use Rattle.txg_history.specs.Records.{Cells}

-- The group that is frozen, or that was last.
pub record Group : Type 0 where
  pub frozen : Bool
  -- the number that was drawn at its freeze, in which its keys are born; the last one drawn for it is the pool's highest
  pub first : ℕ
  pub cells : Cells
  -- the devices of its leaves that made each of its calls so far
  pub board : ℕ → Bool
  -- what a read answered at the freeze
  pub content : ℕ → List ℕ
  -- keys whose write turn has ended
  pub done : Key → Bool
  -- its flush turn has ended
  pub flushed : Bool
  -- no round has taken the highest number yet
  pub fresh : Bool
  -- one of its rounds was begun
  pub begun : Bool

-- a group just frozen
abbrev pub frozen_group : (first : ℕ) → Cells → (board : ℕ → Bool) → (content : ℕ → List ℕ) → Group
frozen_group first cells board content = record {
  frozen = true;
  first = first;
  cells = cells;
  board = board;
  content = content;
  done = λ k. false;
  flushed = false;
  fresh = true;
  begun = false;
}

abbrev pub thawed : Group → Group
thawed group = record group { frozen = false }

abbrev pub no_group : Group
no_group = thawed (frozen_group 0 (λ k. None) (λ d. false) (λ a. []))

abbrev pub same_key : Key → Key → Bool
same_key j k = (j.level == k.level) && (j.index == k.index)

-- one device's value, the others' as they were
abbrev pub at_device : {A : Type 0} → ℕ → A → (ℕ → A) → ℕ → A
at_device d x f e = cond (d == e) x (f e)

-- the log of each device: which groups it owes
abbrev pub Logs : Type 0
Logs = ℕ → ℕ → Bool

abbrev pub between : (first last g : ℕ) → Bool
between first last g = nat_le first g && nat_le g last

-- the devices of this kind get the groups from the first to the last
abbrev pub grown : (which : ℕ → Bool) → (first last : ℕ) → Logs → Logs
grown which first last logs d g = cond (which d && between first last g) true (logs d g)

-- these groups leave every log
abbrev pub cleared : (first last : ℕ) → Logs → Logs
cleared first last logs d g = cond (between first last g) false (logs d g)

-- all but those of the board
abbrev pub off : (board : ℕ → Bool) → ℕ → Bool
off board d = not (board d)

abbrev pub no_log : Logs
no_log d g = false
