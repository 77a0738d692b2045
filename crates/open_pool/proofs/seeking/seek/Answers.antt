use Rattle.std.proofs.Common.{◌*◌, length, inl}
use Rattle.open_pool.proofs.RecordsSought.{takes_none, takes_it, has_config}
use Rattle.open_pool.proofs.seeking.seek.Goals as goal

pub returns-then-number-ge-LAST_NUMBER-clause-row : goal.returns-then-number-ge-LAST_NUMBER-clause-row
returns-then-number-ge-LAST_NUMBER-clause-row g c =
    inl (takes_none c.args.devs.now c.args.name.now (g.B.Bank.view c.args.bank.now) (g.B.Bank.view c.newest.new.bank) c.requires.distinct c.requires.room
    c.in_ok-found.field-0 c.in_ok-found.ensures.finds c.in-Some.found c.in-Some.is c.if-number-ge-LAST_NUMBER.true)

pub returns-clause-row : goal.returns-clause-row
returns-clause-row g c =
    inl (takes_it c.args.devs.now c.args.name.now (g.B.Bank.view c.args.bank.now) (g.B.Bank.view c.newest.new.bank) c.requires.distinct c.requires.room
    c.in_ok-found.field-0 c.in_ok-found.ensures.finds c.in-Some.found c.in-Some.is c.if-number-ge-LAST_NUMBER.false)

pub returns-clause-config : goal.returns-clause-config
returns-clause-config g c =
    has_config c.in_ok-found.ensures.finds.looks c.args.name.now (128 * length c.args.devs.now) c.in_ok-found.field-0 c.in-Some.found
    c.in_ok-found.ensures.finds.is_best c.in-Some.is
