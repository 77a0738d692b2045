use Rattle.std.proofs.Common.{rules, arith, [], ◌∷◌}
use Rattle.script_front.proofs.Feedings.{byte_feeds, byte_breaks, byte_overflows}
use Rattle.script_front.proofs.LineEnds.{open_more}
use Rattle.script_front.proofs.input.take_byte.Goals as goal

pub returns-then-len-ge-LONGEST-clause-stops : goal.returns-then-len-ge-LONGEST-clause-stops
returns-then-len-ge-LONGEST-clause-stops g c = λ h stands.
    byte_overflows c.args.waiting.now.items c.args.b c.requires.open_line (search rules) (omega arith)

pub returns-in-Ok-clause-feeds : goal.returns-in-Ok-clause-feeds
returns-in-Ok-clause-feeds g c = λ h stands.
    byte_feeds c.args.waiting.now.items c.push.new.self.items c.args.b c.in-Ok.ensures.items c.requires.open_line (search rules) (omega arith) stands

pub returns-in-Ok-clause-open_line : goal.returns-in-Ok-clause-open_line
returns-in-Ok-clause-open_line g c = rw c.in-Ok.ensures.items (open_more c.args.waiting.now.items c.args.b c.requires.open_line (search rules))

pub returns-in-Err-clause-stops : goal.returns-in-Err-clause-stops
returns-in-Err-clause-stops g c = λ h stands. byte_breaks c.args.waiting.now.items (c.args.b ∷ [])
