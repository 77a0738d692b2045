use Rattle.std.proofs.Common.{◌∙◌}
use Rattle.vdev_tree.specs.Children.{children_of}
use Rattle.vdev_tree.proofs.Seats.{seat_children, why_none, why_limit}
use Rattle.vdev_tree.proofs.top.Top.seat.Goals as goal

pub first_that_allows-requires : goal.first_that_allows-requires
first_that_allows-requires c = (
  children_of c.args.self.now.mirror,
  seat_children c.args.self.now.mirror c.children-children.result.now c.args.self.now.valid c.children-children.ensures,
)

pub returns-in_default-clause-why : goal.returns-in_default-clause-why
returns-in_default-clause-why c =
    why_none c.args.edit c.args.at c.args.self.now.mirror c.misplaced.result c.args.self.now.valid
    (c.in_default.ensures.none (children_of c.args.self.now.mirror) (seat_children c.args.self.now.mirror c.children-children.result.now c.args.self.now.valid c.children-children.ensures))
    c.misplaced.ensures

pub returns-in-Some-limit_of-clause-why : goal.returns-in-Some-limit_of-clause-why
returns-in-Some-limit_of-clause-why c =
    let are = seat_children c.args.self.now.mirror c.children-children.result.now c.args.self.now.valid c.children-children.ensures in
    why_limit c.args.edit c.args.at (children_of c.args.self.now.mirror) c.in-Some.place c.limit_of.result (c.in-Some.ensures.inside _ are) (λ d. c.in-Some.ensures.some _ d are)
    (c.limit_of.ensures _ are) ∙ c.in-Some-limit_of.is

pub returns-in-None-clause-none : goal.returns-in-None-clause-none
returns-in-None-clause-none c =
    let are = seat_children c.args.self.now.mirror c.children-children.result.now c.args.self.now.valid c.children-children.ensures in
    why_limit c.args.edit c.args.at (children_of c.args.self.now.mirror) c.in-Some.place c.limit_of.result (c.in-Some.ensures.inside _ are) (λ d. c.in-Some.ensures.some _ d are)
    (c.limit_of.ensures _ are) ∙ c.in-None.is

pub returns-in-None-clause-inside : goal.returns-in-None-clause-inside
returns-in-None-clause-inside c =
    c.in-Some.ensures.inside _ (seat_children c.args.self.now.mirror c.children-children.result.now c.args.self.now.valid c.children-children.ensures)

pub returns-in-None-clause-allowed : goal.returns-in-None-clause-allowed
returns-in-None-clause-allowed c = λ d.
    c.in-Some.ensures.some _ d (seat_children c.args.self.now.mirror c.children-children.result.now c.args.self.now.valid c.children-children.ensures)
