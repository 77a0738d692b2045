use Rattle.std.proofs.Common.{refl, rules, ap, length, ◌≡◌, ◌+◌, ◌∙◌, ◌++◌, ◌∷◌, []}
use Rattle.std.proofs.lemmas.List.{length_push}
use Rattle.std.proofs.lemmas.Option.{slice_get_read}
use Rattle.bank_core.proofs.Crashing.{left_none, left_more, names_more}
use Rattle.bank_core.proofs.crash.devices_left.Goals as goal

pub loop-i-init : goal.loop-i-init
loop-i-init c = record {
  count = ap length c.new-left.ensures.items;
  names = rw c.new-left.ensures.items refl;
  left = left_none c.args.choice c.args.devices.now c.args.calls.now c.new-left.result.items;
}

pub loop-i-preserved : goal.loop-i-preserved
loop-i-preserved c =
    let grown : c.push.new.self.items ≡ c.loop-i.left.items ++ c.in_ok-device_left.field-0 ∷ [] = search rules in
    record {
      count = ap length grown ∙ length_push c.loop-i.left.items c.in_ok-device_left.field-0 ∙ ap (λ n. n + 1) c.loop-i.invariant.count;
      names = names_more c.args.devices.now c.loop-i.left.items c.push.new.self.items c.index-devices-i.result c.in_ok-device_left.field-0 c.loop-i.i
          grown c.loop-i-test.true c.index-devices-i.is c.in_ok-device_left.ensures.name c.loop-i.invariant.names;
      left = left_more c.args.choice c.args.devices.now c.args.calls.now c.loop-i.left.items c.push.new.self.items c.index-devices-i.result c.in_ok-device_left.field-0 c.loop-i.i
          grown c.loop-i.invariant.count
          (slice_get_read c.args.devices.now _ c.loop-i.i c.index-devices-i.result refl c.loop-i-test.true c.index-devices-i.is)
          c.loop-i.invariant.left c.in_ok-device_left.ensures.left;
    }
