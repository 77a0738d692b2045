use Rattle.std.proofs.Common.{◌≡◌, false, true, Some, None, Result, Ok, Err, refl, sym, ◌∙◌, subst, arith}
use Rattle.std.specs.Result.{is_err}
use Rattle.bank_core.specs.declared.bank.Fault.{Fault}
use Rattle.bank_core.specs.Parts.{Part}
use Rattle.bank_core.specs.Story.{fault_in}
use Rattle.open_pool.proofs.NewSeats.{seats_long}
use Rattle.open_pool.proofs.NewStamps.{all_stamped, next_stamped, stamp_failed}
use Rattle.open_pool.proofs.create.stamp_board.Goals as goal

no_fault : (r : Result (Unit {0}) Fault) → is_err r ≡ false → fault_in r ≡ None
no_fault (Ok x) is = refl
no_fault (Err fault) is = absurd (let no : true ≡ false = is in cc)

record HasFault (r : Result (Unit {0}) Fault) : Type 0 where
  fault : Fault
  is : fault_in r ≡ Some fault

has_fault : (r : Result (Unit {0}) Fault) → is_err r ≡ true → HasFault r
has_fault (Ok x) is = absurd (let no : false ≡ true = is in cc)
has_fault (Err fault) is = record { fault = fault; is = refl }

pub returns-then-is_err : goal.returns-then-is_err
returns-then-is_err g c = λ leaves are.
    let fails = has_fault c.stamp.result (sym c.is_err.ensures.value ∙ c.if-is_err.true) in
    stamp_failed c.args.pool leaves c.args.seats.now are c.loop-i.i _ _ c.loop-i-test.true refl (g.B.Bank.view c.args.bank.now)
    (g.B.Bank.view c.loop-i.bank) (g.B.Bank.view c.stamp.new.bank) (c.loop-i.invariant.so_far leaves are) fails.fault
    (subst (Part _ _ (g.B.Bank.view c.loop-i.bank) (g.B.Bank.view c.stamp.new.bank)) fails.is c.stamp.ensures)

pub loop-i-preserved : goal.loop-i-preserved
loop-i-preserved g c = record {
  sizes = λ d. c.stamp.ensures.frame.sizes d ∙ c.loop-i.invariant.sizes d;
  so_far = λ leaves are.
      next_stamped c.args.pool leaves c.args.seats.now are c.loop-i.i _ _ c.loop-i-test.true refl (g.B.Bank.view c.args.bank.now)
      (g.B.Bank.view c.loop-i.bank) (g.B.Bank.view c.stamp.new.bank) (c.loop-i.invariant.so_far leaves are)
      (subst (Part _ _ (g.B.Bank.view c.loop-i.bank) (g.B.Bank.view c.stamp.new.bank))
      (no_fault c.stamp.result (sym c.is_err.ensures.value ∙ c.if-is_err.false)) c.stamp.ensures);
}

pub returns : goal.returns
returns g c = λ leaves are.
    all_stamped c.args.pool leaves c.loop-i.i (g.B.Bank.view c.args.bank.now) (g.B.Bank.view c.loop-i.bank)
    (let long = seats_long leaves c.args.seats.now are in omega (arith, long, c.loop-i-test.false)) (c.loop-i.invariant.so_far leaves are)
