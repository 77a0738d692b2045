use Rattle.std.proofs.Common.{refl, sym}
use Rattle.host_front.proofs.found.look_up.Goals as goal

pub returns-clause-looked_up : goal.returns-clause-looked_up
returns-clause-looked_up g c = record {
  named = (c.host_device-spare.result.0.now, c.host_device-spare.result.1);
  is_named = c.host_device-spare.ensures.is;
  looked_up = record {
    name = c.in-Ok.ensures.ok;
    spare = refl;
    found = λ dev e. let f = c.in_ok-dev.ensures.some dev e in
        (rw (sym c.in-Ok.ensures.ok) f.0, sym (c.sectors-sectors.ensures dev e), f.1);
    absent = λ e. rw (sym c.in-Ok.ensures.ok) (c.in_ok-dev.ensures.none e);
  };
}
