use Rattle.std.proofs.Common.{ap, ◌∙◌, ◌&&◌}
use Rattle.std.specs.Prelude.{nat_le, sum}
use Rattle.pool_config.specs.Members.{Gathered}
use Rattle.pool_config.specs.Validity.{are_devices, are_drawn, are_together}
use Rattle.pool_config.proofs.validity.are_together.Goals as goal

pub returns : goal.returns
unfolding are_together
returns c =
    c.are_apart.ensures
    ∙ ap (λ (g : Gathered). are_devices g.names && (are_drawn c.args.c.now.next_guid g.numbers
    && nat_le (sum g.lengths) 4096)) c.requires
