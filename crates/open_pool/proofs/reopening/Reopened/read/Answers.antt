use Rattle.std.specs.Prelude.{All, Result}
use Rattle.std.specs.Result.{IsErrAnd}
use mathlib.Core.Path.{fun_ext}
use Rattle.open_pool.specs.Here.{AreHere}
use Rattle.open_pool.specs.Parts.{PoolParts, all_parts}
use Rattle.open_pool.specs.declared.pages.PageFault.{PageFault}
use Rattle.pool_config.specs.Validity.{IsIn}
use Rattle.std.proofs.Common.{◌≡◌, ◌≤◌, List, Ok, Err, length, take, sym, ap, ◌∙◌, subst, arith}
use Rattle.vdev_tree.specs.declared.top.Top.{Top}
use Rattle.dtl_rules.specs.Widening.{leaves_of, sectors_of}
use Rattle.open_pool.specs.Opening.{IsReopened, ReopensOrStops}
use Rattle.open_pool.specs.declared.pages.PageFault.TheVariants as fault
use Rattle.open_pool.proofs.BoardLeft.{items_back}
use Rattle.open_pool.proofs.NumbersApart.{AreNumbered}
use Rattle.open_pool.proofs.PoolReopened as opening
use Rattle.open_pool.proofs.RecordReopened.{reopened, stops_first}
use Rattle.open_pool.proofs.reopening.Reopened.read.Given.{Over}
use Rattle.open_pool.proofs.reopening.Reopened.read.Goals as goal

err_is : (r : Result PoolParts PageFault) (e : PageFault) → IsErrAnd r (λ x. x ≡ e) → r ≡ Err e
err_is (Ok x) e is = absurd is
err_is (Err x) e is = ap Err is

pub returns-in_err-unfrozen-clause-row : goal.returns-in_err-unfrozen-clause-row
returns-in_err-unfrozen-clause-row g c = λ handed are.
    subst (λ r. ReopensOrStops handed c.args.config.name c.args.found r (g.B.Bank.view c.args.bank.now) (g.B.Bank.view c.args.bank.now))
    (sym (err_is c.from_residual.result fault.Memory c.from_residual.ensures.1))
    (stops_first handed c.args.config.name c.args.found (g.B.Bank.view c.args.bank.now))

pub returns-in_err-part-clause-row : goal.returns-in_err-part-clause-row
returns-in_err-part-clause-row g c = λ handed are.
    subst (λ r. ReopensOrStops handed c.args.config.name c.args.found r (g.B.Bank.view c.args.bank.now) (g.B.Bank.view c.args.bank.now))
    (sym (err_is c.from_residual-in_err-part.result fault.Memory c.from_residual-in_err-part.ensures.1))
    (stops_first handed c.args.config.name c.args.found (g.B.Bank.view c.args.bank.now))

pub devices_of-list-requires : goal.devices_of-list-requires
devices_of-list-requires g c =
    let few = opening.few c.args.config c.args.found c.requires.found in omega (arith, few, c.requires.paired)

pub find_leaves-requires-clause-sectors : goal.find_leaves-requires-clause-sectors
find_leaves-requires-clause-sectors g c = subst (λ (ts : List Top). All (IsIn 64 1048320) (sectors_of ts)) (sym c.deref.ensures.value)
    (opening.sized c.args.config c.args.found c.requires.found)

pub place_leaves-requires-clause-few : goal.place_leaves-requires-clause-few
place_leaves-requires-clause-few g c = subst (λ (ts : List Top). length (leaves_of ts) ≤ 32) (sym c.deref_mut.ensures.value)
    (opening.few c.args.config c.args.found c.requires.found)

pub place_leaves-requires-clause-numbered : goal.place_leaves-requires-clause-numbered
place_leaves-requires-clause-numbered g c = subst (λ (ts : List Top). AreNumbered (leaves_of ts)) (sym c.deref_mut.ensures.value)
    (opening.numbered c.args.config c.args.found c.requires.found)

pub read_map-requires-clause-volume : goal.read_map-requires-clause-volume
read_map-requires-clause-volume g c = opening.volume c.args.config c.args.found c.requires.found

pub read_map-requires-clause-born : goal.read_map-requires-clause-born
read_map-requires-clause-born g c = opening.born c.args.config c.args.found c.requires.found

placing : (g : Over) (c : goal.After-read_map-arg-3-1 g) → opening.IsPlacing c.args.config c.args.found c.args.devs.now c.find_leaves.new.devs c.deref-2.result.now
    (g.B.Bank.view c.args.bank.now) (g.B.Bank.view c.find_leaves.new.bank)
placing g c =
    opening.are_placing c.args.config c.args.found c.args.devs.now (take (length c.args.devs.now) c.devices_of-list.result) c.find_leaves.new.devs
    c.deref.result.now c.deref_mut.result.now c.place_leaves.new.tops c.deref-2.result.now (g.B.Bank.view c.args.bank.now) (g.B.Bank.view c.find_leaves.new.bank)
    c.requires.found c.requires.pool c.requires.number c.requires.recorded c.requires.paired c.requires.handed.0
    c.devices_of-list.ensures c.deref.ensures.value c.deref_mut.ensures.value
    (c.deref-2.ensures.value ∙ items_back c.args.config.tops.len c.deref_mut.result.now c.place_leaves.new.tops c.args.config.tops.items c.deref_mut.ensures.len
    c.place_leaves.ensures.built)
    c.find_leaves.ensures.found c.find_leaves.ensures.paired c.place_leaves.ensures.leaves c.place_leaves.ensures.built c.place_leaves.ensures.sectors
    c.place_leaves.ensures.lie

pub read_map-requires-clause-tops : goal.read_map-requires-clause-tops
read_map-requires-clause-tops g c = opening.tops _ _ _ _ _ _ _ (placing g c)

pub read_map-requires-clause-pointer : goal.read_map-requires-clause-pointer
read_map-requires-clause-pointer g c = opening.pointer _ _ _ _ _ _ _ (placing g c)

pub read_map-requires-clause-few : goal.read_map-requires-clause-few
read_map-requires-clause-few g c = opening.few_there _ _ _ _ _ _ _ (placing g c)

pub read_map-requires-clause-apart : goal.read_map-requires-clause-apart
read_map-requires-clause-apart g c = opening.apart _ _ _ _ _ _ _ (placing g c)

pub read_map-requires-clause-here : goal.read_map-requires-clause-here
read_map-requires-clause-here g c = opening.here _ _ _ _ _ _ _ (placing g c)

placing_err : (g : Over) (c : goal.After-drop-found-in_err-map g) → opening.IsPlacing c.args.config c.args.found c.args.devs.now c.find_leaves.new.devs c.deref-2.result.now
    (g.B.Bank.view c.args.bank.now) (g.B.Bank.view c.find_leaves.new.bank)
placing_err g c =
    opening.are_placing c.args.config c.args.found c.args.devs.now (take (length c.args.devs.now) c.devices_of-list.result) c.find_leaves.new.devs
    c.deref.result.now c.deref_mut.result.now c.place_leaves.new.tops c.deref-2.result.now (g.B.Bank.view c.args.bank.now) (g.B.Bank.view c.find_leaves.new.bank)
    c.requires.found c.requires.pool c.requires.number c.requires.recorded c.requires.paired c.requires.handed.0
    c.devices_of-list.ensures c.deref.ensures.value c.deref_mut.ensures.value
    (c.deref-2.ensures.value ∙ items_back c.args.config.tops.len c.deref_mut.result.now c.place_leaves.new.tops c.args.config.tops.items c.deref_mut.ensures.len
    c.place_leaves.ensures.built)
    c.find_leaves.ensures.found c.find_leaves.ensures.paired c.place_leaves.ensures.leaves c.place_leaves.ensures.built c.place_leaves.ensures.sectors
    c.place_leaves.ensures.lie

pub returns-in_err-map-clause-row : goal.returns-in_err-map-clause-row
returns-in_err-map-clause-row g c = λ handed are.
    subst (λ r. ReopensOrStops handed c.args.config.name c.args.found r (g.B.Bank.view c.args.bank.now) (g.B.Bank.view c.read_map.new.bank))
    (sym (err_is c.from_residual-in_err-map.result c.in_err-map.field-0.0 c.from_residual-in_err-map.ensures.1))
    (opening.answers_stop _ _ _ _ _ _ _ (placing_err g c) c.in_err-map.field-0.0 (g.B.Bank.view c.read_map.new.bank) c.in_err-map.ensures.stops handed are)

placing_pool : (g : Over) (c : goal.After-result-2-1 g) → opening.IsPlacing c.args.config c.args.found c.args.devs.now c.find_leaves.new.devs c.deref-2.result.now
    (g.B.Bank.view c.args.bank.now) (g.B.Bank.view c.find_leaves.new.bank)
placing_pool g c =
    opening.are_placing c.args.config c.args.found c.args.devs.now (take (length c.args.devs.now) c.devices_of-list.result) c.find_leaves.new.devs
    c.deref.result.now c.deref_mut.result.now c.place_leaves.new.tops c.deref-2.result.now (g.B.Bank.view c.args.bank.now) (g.B.Bank.view c.find_leaves.new.bank)
    c.requires.found c.requires.pool c.requires.number c.requires.recorded c.requires.paired c.requires.handed.0
    c.devices_of-list.ensures c.deref.ensures.value c.deref_mut.ensures.value
    (c.deref-2.ensures.value ∙ items_back c.args.config.tops.len c.deref_mut.result.now c.place_leaves.new.tops c.args.config.tops.items c.deref_mut.ensures.len
    c.place_leaves.ensures.built)
    c.find_leaves.ensures.found c.find_leaves.ensures.paired c.place_leaves.ensures.leaves c.place_leaves.ensures.built c.place_leaves.ensures.sectors
    c.place_leaves.ensures.lie

pub invariant_of-result : goal.invariant_of-result
invariant_of-result g c = (
  subst (λ ts. IsReopened (reopened c.args.config ts c.in_ok-map.map c.new-pins.result c.in_ok-unfrozen.unfrozen)) c.deref-2.ensures.value
      (opening.leaves_pool _ _ _ _ _ _ _ (placing_pool g c) c.requires.below c.in_ok-map.map c.new-pins.result c.in_ok-unfrozen.unfrozen c.in_ok-map.ensures.volume.0
      c.in_ok-map.ensures.volume.1 c.in_ok-map.ensures.places c.in_ok-map.ensures.born c.keeps_its_form.ensures.pointers c.keeps_its_form.ensures.form
      c.new-pins.ensures c.in_ok-unfrozen.ensures.none c.in_ok-unfrozen.ensures.room),
  c.in_ok-part.ensures,
)

placing_ok : (g : Over) (c : goal.After-drop-found-2 g) → opening.IsPlacing c.args.config c.args.found c.args.devs.now c.find_leaves.new.devs c.deref-2.result.now
    (g.B.Bank.view c.args.bank.now) (g.B.Bank.view c.find_leaves.new.bank)
placing_ok g c =
    opening.are_placing c.args.config c.args.found c.args.devs.now (take (length c.args.devs.now) c.devices_of-list.result) c.find_leaves.new.devs
    c.deref.result.now c.deref_mut.result.now c.place_leaves.new.tops c.deref-2.result.now (g.B.Bank.view c.args.bank.now) (g.B.Bank.view c.find_leaves.new.bank)
    c.requires.found c.requires.pool c.requires.number c.requires.recorded c.requires.paired c.requires.handed.0
    c.devices_of-list.ensures c.deref.ensures.value c.deref_mut.ensures.value
    (c.deref-2.ensures.value ∙ items_back c.args.config.tops.len c.deref_mut.result.now c.place_leaves.new.tops c.args.config.tops.items c.deref_mut.ensures.len
    c.place_leaves.ensures.built)
    c.find_leaves.ensures.found c.find_leaves.ensures.paired c.place_leaves.ensures.leaves c.place_leaves.ensures.built c.place_leaves.ensures.sectors
    c.place_leaves.ensures.lie

pub returns-clause-row : goal.returns-clause-row
returns-clause-row g c = λ handed are.
    subst (λ ts. ReopensOrStops handed c.args.config.name c.args.found (Ok (reopened c.args.config ts c.in_ok-map.map c.new-pins.result c.in_ok-unfrozen.unfrozen))
    (g.B.Bank.view c.args.bank.now) (g.B.Bank.view c.read_map.new.bank)) c.deref-2.ensures.value
    (opening.answers_pool _ _ _ _ _ _ _ (placing_ok g c) c.in_ok-map.map c.new-pins.result c.in_ok-unfrozen.unfrozen (g.B.Bank.view c.read_map.new.bank)
    c.in_ok-map.ensures.read c.in_ok-map.ensures.volume.0 c.in_ok-map.ensures.places c.in_ok-unfrozen.ensures.none handed are)

pub returns-clause-here : goal.returns-clause-here
returns-clause-here g c =
    subst (λ (ts : List Top). AreHere (g.B.Bank.view c.read_map.new.bank).size (all_parts ts)) c.deref-2.ensures.value
    (subst (λ size. AreHere size (all_parts c.deref-2.result.now)) (sym (fun_ext c.in_ok-map.ensures.read.calls.frame.sizes))
    (opening.here _ _ _ _ _ _ _ (placing_ok g c)))
