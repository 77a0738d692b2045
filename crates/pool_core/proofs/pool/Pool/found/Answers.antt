use Rattle.std.proofs.Common.{arith, ap, ◌∙◌, refl, length, None}
use Rattle.std.proofs.lemmas.List.{length-replicate}
use Rattle.group_set.proofs.Upto.{Rises-later}
use Rattle.config_codec.specs.Fields.{config_fields}
use Rattle.pool_core.proofs.Founding.{found_apart, found_device, found_log, found_represents, found_stands, found_valid}
use Rattle.pool_core.proofs.pool.Pool.found.Goals as goal

pub leaf_on-requires : goal.leaf_on-requires
leaf_on-requires c = Rises-later 1 c.args.config.number.0 _ c.args.config.first.log c.requires.valid.first_log c.requires.valid.number.1

pub leaf_on-requires-2 : goal.leaf_on-requires-2
leaf_on-requires-2 c = Rises-later 1 c.args.config.number.0 _ c.args.config.second.log c.requires.valid.second_log c.requires.valid.number.1

pub invariant_of-result : goal.invariant_of-result
invariant_of-result c =
    let config = c.args.config in
    let found = c.args.found in
    let new = c.in_ok-pair.ensures in
    let stands = found_stands (config_fields config) (λ a. None) found.0 found.1 c.in_ok-pair.pair _ _ new.mirror new.sectors new.first new.second
    c.in_ok-first.ensures.leaf c.in_ok-second.ensures.leaf in
    record {
      valid = found_valid (config_fields config) (λ a. None) found.0 found.1 c.in_ok-pair.pair c.requires.valid stands;
      paired = ap length c.in_ok-writes.ensures ∙ length-replicate _ None ∙ omega (arith, c.args.config.pointers.ok.0);
      apart = found_apart (config_fields config) (λ a. None) found.0 found.1 c.in_ok-pair.pair stands c.requires.apart;
      first_log = found_log config.number.0 config.first found.0 c.in_ok-pair.pair.first stands.first c.requires.valid.first_log;
      second_log = found_log config.number.0 config.second found.1 c.in_ok-pair.pair.second stands.second c.requires.valid.second_log;
      first_dev = found_device config.first found.0 c.in_ok-pair.pair.first stands.first;
      second_dev = found_device config.second found.1 c.in_ok-pair.pair.second stands.second;
    }

pub returns : goal.returns
returns c = λ committed is.
    let config = config_fields c.args.config in
    let found = c.args.found in
    let new = c.in_ok-pair.ensures in
    found_represents config committed found.0 found.1 _
    (record { name = refl; pool_is = refl; blocks = refl; number = refl; next_member = refl; pointers = refl; places = c.len.result; writes = c.in_ok-writes.ensures })
    (found_stands config committed found.0 found.1 c.in_ok-pair.pair _ _ new.mirror new.sectors new.first new.second c.in_ok-first.ensures.leaf c.in_ok-second.ensures.leaf)
    is
