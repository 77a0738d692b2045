use Rattle.std.proofs.Common.{ap, ◌∙◌, Some}
use Rattle.label_store.proofs.Fields.{is_of_fields, out_of_range, other_bytes}
use Rattle.label_store.proofs.uberblock.read_uberblock.Goals as goal

pub returns-then-not-is_in_range-clause-exact : goal.returns-then-not-is_in_range-clause-exact
returns-then-not-is_in_range-clause-exact c = λ u is.
    absurd (out_of_range u c.args.sector.now c.fields_of-found.result c.is_in_range.result c.fields_of-found.ensures
    c.is_in_range.ensures.no c.if-not-is_in_range.true is)

pub returns-then-not-are_equal-clause-exact : goal.returns-then-not-are_equal-clause-exact
returns-then-not-are_equal-clause-exact c = λ u is.
    absurd (other_bytes u c.args.sector.now c.fields_of-found.result c.write_uberblock.new.out c.are_equal.result c.fields_of-found.ensures
    c.write_uberblock.ensures c.are_equal.ensures.no c.if-not-are_equal.true is)

pub returns-clause-exact : goal.returns-clause-exact
returns-clause-exact c = λ u is. ap Some (c.fields_of-found.ensures ∙ is_of_fields u c.args.sector.now is)
