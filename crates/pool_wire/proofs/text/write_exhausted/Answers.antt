use Rattle.std.proofs.Common.{◌≡◌, ◌∷◌, [], ◌++◌, ◌∙◌, ap}
use Rattle.std.specs.Prelude.{codes, decimal}
use Rattle.pool_wire.proofs.Texts.{exhausted_joined}
use Rattle.pool_wire.proofs.text.write_exhausted.Goals as goal

pub returns : goal.returns
returns c =
    let text : c.into_bytes-text.result.items ≡ codes "no 15 exhausted " ++ (decimal c.args.level ++ (32 ∷ (decimal c.args.index ++ 32 ∷ []))) =
    rw c.into_bytes-text.ensures.value c.in_ok-format.ensures.ok in
    exhausted_joined (codes "no 15 exhausted ") (decimal c.args.level) (decimal c.args.index) c.args.leaves.now _
    (c.in_ok-extend_from_slice.ensures.items ∙ ap (λ t. t ++ c.args.leaves.now) text)
