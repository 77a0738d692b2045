use Rattle.std.proofs.Common.{◌≡◌, true, length, sym, subst}
use Rattle.txg_engine.specs.Boards.{has_seat}
use Rattle.txg_engine.proofs.TopsServed.{behind_seated, counted_seated, each_seated, taken_seated}
use Rattle.txg_engine.proofs.laws.groups_seat_each_top.Goals as goal

pub returns-clause-frozen : goal.returns-clause-frozen
returns-clause-frozen c = λ number writes old new tops group begins top low.
    subst (λ seats. has_seat top seats ≡ true) (sym begins.board) (each_seated (length tops) _ begins.everywhere top low)

pub returns-clause-turns : goal.returns-clause-turns
returns-clause-turns c = behind_seated

pub returns-clause-taken : goal.returns-clause-taken
returns-clause-taken c = taken_seated

pub returns-clause-counted : goal.returns-clause-counted
returns-clause-counted c = counted_seated
