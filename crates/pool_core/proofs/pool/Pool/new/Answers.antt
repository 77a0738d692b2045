use Rattle.std.proofs.Common.{arith, ap, ap₂, ◌∙◌, refl, sym, length, None, Some, subst}
use Rattle.std.specs.Prelude.{IsTrue}
use Rattle.std.proofs.lemmas.List.{length-replicate}
use Rattle.std.proofs.lemmas.Option.{same_Some}
use Rattle.mp_base.specs.Name.{is_name}
use Rattle.pool_core.specs.Keeping.{Represents}
use Rattle.pool_core.specs.Making.{top_sectors}
use Rattle.pool_core.specs.State.{created}
use Rattle.pool_core.proofs.Creating.{new_config, new_valid, none_committed}
use Rattle.pool_core.proofs.Founding.{found_apart, found_device, found_log, found_represents, found_stands, found_valid}
use Rattle.pool_core.proofs.pool.Pool.new.Goals as goal

pub invariant_of-result-2 : goal.invariant_of-result-2
invariant_of-result-2 g c =
    let first = c.args.first.now in
    let second = c.args.second.now in
    let pair = c.in_ok-new.field-0 in
    let sectors = c.top_sectors-sectors.result in
    let config = new_config c.name.inside.bytes.items c.args.pool c.args.blocks c.in_ok-nothing.field-0.items sectors first.name second.name in
    let valid = new_valid c.name.inside.bytes.items c.args.pool c.args.blocks c.in_ok-nothing.field-0.items sectors first.name second.name
    c.requires.number (omega arith) c.requires.some c.requires.few c.in_ok-nothing.ensures
    (omega (arith, c.top_sectors-sectors.ensures, c.sectors.ensures, c.sectors-2.ensures))
    (omega (arith, c.top_sectors-sectors.ensures, c.sectors.ensures, c.sectors-2.ensures))
    (subst (λ n. IsTrue (is_name n)) (sym c.name.view_is) c.spells_a_name.ensures) c.spells_a_name-2.ensures c.spells_a_name-3.ensures c.requires.two_names in
    let new = c.in_ok-new.ensures in
    let stands = found_stands config (λ a. None) (Some first.dev) (Some second.dev) pair _ _ new.mirror new.sectors new.first new.second
    c.in_ok-one.ensures.leaf c.in_ok-other.ensures.leaf in
    record {
      valid = found_valid config (λ a. None) (Some first.dev) (Some second.dev) pair valid stands;
      paired = ap length c.in_ok-nothing-2.ensures ∙ length-replicate _ None ∙ sym (ap length c.in_ok-nothing.ensures ∙ length-replicate _ None);
      apart = found_apart config (λ a. None) (Some first.dev) (Some second.dev) pair stands (λ d e f. c.requires.two_devices (same_Some _ _ (e ∙ sym f)));
      first_log = found_log 1 config.first (Some first.dev) pair.first stands.first valid.first_log;
      second_log = found_log 1 config.second (Some second.dev) pair.second stands.second valid.second_log;
      first_dev = found_device config.first (Some first.dev) pair.first stands.first;
      second_dev = found_device config.second (Some second.dev) pair.second stands.second;
    }

pub returns-clause-state : goal.returns-clause-state
returns-clause-state g c =
    let first = c.args.first.now in
    let second = c.args.second.now in
    let pair = c.in_ok-new.field-0 in
    let sectors = c.top_sectors-sectors.result in
    let config = new_config c.name.inside.bytes.items c.args.pool c.args.blocks c.in_ok-nothing.field-0.items sectors first.name second.name in
    let new = c.in_ok-new.ensures in
    let stands = found_stands config (λ a. None) (Some first.dev) (Some second.dev) pair _ _ new.mirror new.sectors new.first new.second
    c.in_ok-one.ensures.leaf c.in_ok-other.ensures.leaf in
    subst (Represents _)
    (ap₂ (λ n k. created n c.args.pool c.args.blocks k (first.name, first.dev) (second.name, second.dev)) c.name.view_is
    (c.top_sectors-sectors.ensures ∙ ap₂ top_sectors c.sectors.ensures c.sectors-2.ensures))
    (found_represents config (λ a. None) (Some first.dev) (Some second.dev) _
    (record { name = refl; pool_is = refl; blocks = refl; number = refl; next_member = refl; pointers = refl; places = c.args.blocks; writes = c.in_ok-nothing-2.ensures })
    stands (none_committed config c.in_ok-nothing.ensures))
