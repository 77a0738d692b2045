use Rattle.std.proofs.Common.{◌≡◌, ◌<◌, List, length, take, get_or, ap, subst, ◌∙◌, arith}
use Rattle.std.proofs.lemmas.List.{take_more, take_all}
use Rattle.mp_base.specs.declared.place.Place.{Place}
use Rattle.txg_engine.specs.declared.item.Item.{Item}
use Rattle.txg_engine.specs.Ending.{LaysOne, Unpins}
use Rattle.txg_engine.specs.Frozen.{FrozenGroup, KeysRise}
use Rattle.txg_engine.specs.Pins.{PinsSeen}
use Rattle.txg_engine.proofs.Adopted.{LaysAll, lays_more, laid_before, adopted_all}
use Rattle.txg_engine.proofs.frozen.Frozen.adopt.Goals as goal

pub loop-item-preserved : goal.loop-item-preserved
loop-item-preserved c =
    let items = c.args.self.items in
    let i = c.loop-item.item-index in
    let item = c.item-item.result in
    let old = c.args.map.now in
    let seen : c.self.inside.items.items ≡ items = ap (λ (group : FrozenGroup). group.items) c.self.view_is in
    let same : c.deref-item-items.result.now ≡ items = c.deref-item-items.ensures.value ∙ seen in
    let rise : KeysRise items = subst KeysRise seen c.self.invariant.0.rise in
    let inside : i < length items = subst (λ (xs : List Item). i < length xs) same c.loop-item-test.true in
    let here : item ≡ get_or items i item = c.item-item.is ∙ ap (λ (xs : List Item). get_or xs i item) same in
    let mid = c.loop-item.map in
    let new = c.lay.new.map in
    let lay : LaysOne (get_or items i item) mid new = subst (λ (x : Item). LaysOne x mid new) here c.lay.ensures in
    rw (take_more items i item inside)
    (lays_more (take i items) (get_or items i item) old mid new c.loop-item.invariant lay
    (laid_before items i item inside rise _))

pub returns-clause-map : goal.returns-clause-map
returns-clause-map c =
    let items = c.args.self.items in
    let pins = c.args.pins.now.places in
    let i = c.loop-item.item-index in
    let seen : c.deref-item-items.result.now ≡ items =
    c.deref-item-items.ensures.value ∙ ap (λ (group : FrozenGroup). group.items) c.self.view_is in
    let old = c.args.map.now in
    let mid = c.loop-item.map in
    let new = c.unpin_all.new.map in
    let all : take i items ≡ items = take_all i items (omega (arith, ap length seen)) in
    let same : c.deref.result.now ≡ pins = c.deref.ensures.value ∙ ap (λ (p : PinsSeen). p.places) c.pins.view_is in
    adopted_all items pins old mid new (subst (λ (xs : List Item). LaysAll xs old mid) all c.loop-item.invariant)
    (subst (λ (ps : List Place). Unpins ps mid new) same c.unpin_all.ensures)
