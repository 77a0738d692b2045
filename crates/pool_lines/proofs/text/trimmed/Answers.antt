use Rattle.pool_lines.proofs.Texts.{trimmed_at, trimmed_none}
use Rattle.pool_lines.proofs.text.trimmed.Goals as goal

pub returns-in-Some : goal.returns-in-Some
returns-in-Some c =
    trimmed_at c.args.bytes.now c.in-Some.last c.in-Some.ensures.within c.in-Some.ensures.some c.in-Some.ensures.behind

pub returns-in-None : goal.returns-in-None
returns-in-None c = trimmed_none c.args.bytes.now c.in-None.ensures.none
