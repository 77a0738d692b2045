use Rattle.std.proofs.Common.{rules}
use Rattle.bank_core.proofs.Sectors.{zeros_are}
use Rattle.bank_core.proofs.view.clear.Goals as goal

pub returns : goal.returns
returns c = zeros_are _ _ (c.fill.ensures.after (λ y e. search rules)) c.requires
