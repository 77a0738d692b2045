use Rattle.std.proofs.Common.{◌≡◌, Some, Err, length, refl, sym, subst, ◌∙◌, arith}
use Rattle.txg_engine.specs.Boards.{emptied}
use Rattle.txg_engine.specs.Turns.{IsChecked, numbers_of}
use Rattle.txg_engine.proofs.LeftByCauses.{all_left, emptied_none}
use Rattle.txg_engine.proofs.TopsServed.{some_failed}
use Rattle.txg_engine.proofs.leave.check.Goals as goal

pub returns : goal.returns
returns c =
    let seats = c.args.board.now in
    let count = length c.args.tops.now in
    let here : emptied count seats ≡ Some c.in-Some.top = sym c.emptied.ensures.top ∙ c.in-Some.is in
    subst (λ top. IsChecked {A = Unit {0}} (numbers_of c.args.tops.now) c.args.group seats top
    (Err (record { group = c.args.group; top = c.number_of_top.result; faults = c.faults_under.result }))) (sym here) (record {
      number = refl;
      top_is = c.number_of_top.ensures;
      faults_are = c.faults_under.ensures;
      left = all_left count c.in-Some.top seats here c.requires.left;
      some = λ has.
          let one = some_failed c.in-Some.top seats c.requires.served (emptied_none 0 count seats c.in-Some.top here) has in
          let faults = c.faults_under.ensures in
          omega arith;
    })
