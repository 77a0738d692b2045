use Rattle.std.proofs.Common.{sym, ap, ◌∙◌}
use Rattle.pool_runs.specs.Devices.{Device}
use Rattle.script_front.proofs.found.look_up.Goals as goal

pub returns-clause-looked_up : goal.returns-clause-looked_up
returns-clause-looked_up g c =
    let made = c.new-2.ensures in
    record {
      name = c.host_device.result.now;
      is_named = c.host_device.ensures.is;
      looked_up = record {
        name_is = ap (λ (d : Device). d.name) made ∙ c.in-Ok.ensures.ok;
        found = λ dev e. let f = c.in_ok-dev.ensures.some dev (sym (ap (λ (d : Device). d.number) made) ∙ e) in
            (rw (sym c.in-Ok.ensures.ok) f.0, sym (c.sectors-sectors.ensures dev (sym (ap (λ (d : Device). d.number) made) ∙ e)) ∙ sym (ap (λ (d : Device). d.sectors) made), f.1);
        absent = λ e. rw (sym c.in-Ok.ensures.ok) (c.in_ok-dev.ensures.none (sym (ap (λ (d : Device). d.number) made) ∙ e));
      };
    }
