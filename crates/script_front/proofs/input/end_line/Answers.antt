use Rattle.std.proofs.Common.{refl}
use Rattle.script_front.proofs.Feedings.{line_feeds, line_stops}
use Rattle.script_front.proofs.input.end_line.Goals as goal

pub returns-in-Ok-clause-feeds : goal.returns-in-Ok-clause-feeds
returns-in-Ok-clause-feeds g c = λ h stands.
    line_feeds c.args.waiting.now.items c.clear.new.self.items c.clear.ensures.items c.requires.open_line c.requires.fits
    (rw c.deref.ensures.value at (c.in-Ok.ensures.handles h stands))

pub returns-in-Err-clause-stops : goal.returns-in-Err-clause-stops
returns-in-Err-clause-stops g c = λ h stands.
    line_stops h _ _ _ _ _ _ _ _ c.args.waiting.now.items c.in-Err.stop (λ same. c.in-Err.ensures.whole (rw same refl)) c.requires.open_line c.requires.fits
    (rw c.deref.ensures.value at (c.in-Err.ensures.breaks h stands))
