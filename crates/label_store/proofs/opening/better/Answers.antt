use Rattle.std.proofs.Common.{◌≤◌, subst}
use Rattle.label_store.specs.Opening.{IsNewer}
use Rattle.label_store.proofs.Openings.{best_takes, best_keeps}
use Rattle.label_store.proofs.opening.better.Goals as goal

pub returns-in-Some : goal.returns-in-Some
returns-in-Some g c = λ looks i at b.
    let x = rw c.in-Some.is at c.in_ok-found.ensures.some in
    best_takes g.R.BlobRule.head_of looks c.args.name.now i c.args.place c.args.parts.now c.args.best c.in-Some.found at c.requires.inside b
    (subst (λ a. IsNewer g.R.BlobRule.head_of c.args.parts.now c.args.name.now c.args.place a c.in-Some.found) c.number_of-above.ensures x)

pub returns-in-None : goal.returns-in-None
returns-in-None g c = λ looks i at b.
    let none = rw c.in-None.is at c.in_ok-found.ensures.none in
    best_keeps g.R.BlobRule.head_of looks c.args.name.now i c.args.place c.args.parts.now c.args.best at c.requires.inside b
    (λ u config v. subst (λ a. u.number.0 ≤ a) c.number_of-above.ensures (none u config v))
