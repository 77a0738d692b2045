use Rattle.std.proofs.Common.{◌≡◌, List, length, drop, ◌≤◌, Result, Ok, Err, sym, ap, ◌∙◌, subst, arith}
use Rattle.std.specs.Result.{IfErr, IsErrAnd}
use Rattle.std.proofs.lemmas.List.{length-map, take_at}
use Rattle.vdev_tree.specs.Tree.{marks}
use Rattle.vdev_tree.specs.declared.top.Top.{Top}
use Rattle.txg_engine.specs.Frozen.{FrozenGroup}
use Rattle.txg_engine.specs.Refusing.{BeginsGroup}
use Rattle.txg_engine.specs.Writes.{OpenGroup}
use Rattle.open_pool.specs.Freezing.{FreezesParts, RefusesParts, FreezeParts}
use Rattle.open_pool.specs.declared.freeze.FreezeFault.{FreezeFault}
use Rattle.open_pool.specs.declared.freeze.FreezeFault.TheVariants as fault
use Rattle.open_pool.proofs.FreezeRefused.{no_memory}
use Rattle.open_pool.proofs.freeze.freeze_parts.Goals as goal

is_refused : (P : FreezeFault → Type 0) (r : Result FrozenGroup FreezeFault) → P fault.Memory → IsErrAnd r (λ e. e ≡ fault.Memory) → IfErr r P
is_refused P (Ok group) here is = tt
is_refused P (Err why) here is = subst P (sym is) here

pub returns-in_err-next-clause-err : goal.returns-in_err-next-clause-err
returns-in_err-next-clause-err c =
    let old : FreezeParts = record { unfrozen = c.args.group.now; map = c.args.map.now; pins = c.args.pins.now; trees = c.args.tops.now.items } in
    is_refused (RefusesParts c.args.number old old) c.from_residual.result (no_memory c.args.number old) c.from_residual.ensures.1

pub returns-in-Ok-clause-ok : goal.returns-in-Ok-clause-ok
returns-in-Ok-clause-ok c =
    let e = c.in-Ok.ensures in
    let was = c.deref_mut.result.now in
    let new = c.freeze.new.tops in
    let more = drop (length new) c.args.tops.now.items in
    let long : length new ≡ c.args.tops.now.len = omega (
      arith,
      ap length e.built,
      length-map new (λ (top : Top). marks top.mirror),
      length-map was (λ (top : Top). marks top.mirror),
      c.deref_mut.ensures.len,
    ) in
    let old : List Top → FreezeParts = λ trees. record { unfrozen = c.args.group.now; map = c.args.map.now; pins = c.args.pins.now; trees = trees } in
    let after : List Top → FreezeParts = λ trees. record { unfrozen = c.replace-writes.new.dest; map = c.freeze.new.map; pins = c.freeze.new.pins; trees = trees } in
    subst (λ trees. FreezesParts c.args.number (old c.args.tops.now.items) (after trees) c.in-Ok.frozen)
    (sym (take_at new more c.args.tops.now.len long))
    (subst (λ trees. FreezesParts c.args.number (old trees) (after new) c.in-Ok.frozen) c.deref_mut.ensures.value (record {
      begins = subst (λ (group : OpenGroup). BeginsGroup c.args.number group.writes c.args.map.now c.freeze.new.map was c.in-Ok.frozen)
          c.replace-writes.ensures.value e.group;
      logs = e.logs;
      ready = e.ready;
      pins = e.pins;
      pins_room = e.pins_room;
      built = e.built;
      sectors = e.sectors;
      empty = ap (λ (group : OpenGroup). group.writes) c.replace-writes.ensures.after ∙ c.in_ok-next.ensures.none;
      room = subst (λ (group : OpenGroup). 4096 ≤ group.room) (sym c.replace-writes.ensures.after) c.in_ok-next.ensures.room;
    }))
