use Rattle.std.proofs.Common.{◌≡◌, ℕ, ◌+◌, ◌<◌, ◌≤◌, ◌++◌, length, take, drop, true, List, [], Option, Some, None, Result, Ok, Err, refl, sym, ap, ◌∙◌, subst, arith}
use Rattle.std.specs.Prelude.{All}
use Rattle.mp_base.specs.declared.number.Group.{Group}
use Rattle.block_map.specs.Keys.{root}
use Rattle.block_map.specs.Map.{pointer_at}
use Rattle.vdev_tree.specs.declared.top.Top.{Top}
use Rattle.dtl_rules.specs.Widening.{leaves_of, sectors_of}
use Rattle.pool_config.specs.Seen.{parts_seen}
use Rattle.pool_config.specs.Validity.{IsValid}
use Rattle.pool_codec.specs.Codecs.{pool_codec}
use Rattle.pool_moves.specs.LineRows.{RowTurn}
use Rattle.pool_moves.specs.States.{PoolState}
use Rattle.txg_engine.specs.declared.seat.Numbers.{Numbers}
use Rattle.txg_engine.specs.declared.seat.Suspended.{Suspended}
use Rattle.txg_engine.specs.Frozen.{AreSeated, FrozenGroup}
use Rattle.txg_engine.specs.Items.{laid}
use Rattle.txg_engine.specs.Logs.{IsReady}
use Rattle.txg_engine.specs.Writes.{OpenGroup}
use Rattle.open_pool.specs.contracts.pool.Pool.{the_view}
use Rattle.open_pool.specs.declared.turn.TurnDone.{TurnDone}
use Rattle.open_pool.specs.declared.turn.TurnDone.TheVariants as done
use Rattle.open_pool.specs.Answering.{Does}
use Rattle.open_pool.specs.Committing.{turn_says}
use Rattle.open_pool.specs.Form.{IsPool}
use Rattle.open_pool.specs.Here.{AreHere}
use Rattle.open_pool.specs.Parts.{PoolParts, all_parts}
use Rattle.open_pool.specs.State.{ArePinned, state_of}
use Rattle.open_pool.specs.Turning.{turns_in, turns_left}
use Rattle.bank_core.proofs.Framing.{makes_none}
use Rattle.open_pool.proofs.BoardLeft.{items_back}
use Rattle.open_pool.proofs.DraftValid.{drawn_valid}
use Rattle.open_pool.proofs.GoingKept.{trees_leaves}
use Rattle.open_pool.proofs.LeavesStay.{cut_same}
use Rattle.open_pool.proofs.NeedCounted.{few_writes}
use Rattle.open_pool.proofs.PlacesEnd.{acknowledged, burned_pool}
use Rattle.open_pool.proofs.TurnAnswers.{IsBurned, idle_turn}
use Rattle.open_pool.proofs.TurnLeft.{MayTurn}
use Rattle.open_pool.proofs.TurnOfPool.{MadeTurn, came_back, going_leaves, goes_there, group_there, here_on, is_burned, is_going, leaves_it, made_turn, may_turn, of_stands, on, one_told, trees_here}
use Rattle.open_pool.proofs.TurnSteps.{going}
use Rattle.open_pool.proofs.pool.Pool.turn.Given.{Over}
use Rattle.open_pool.proofs.pool.Pool.turn.Goals as goal

pub returns-in_default-clause-row : goal.returns-in_default-clause-row
returns-in_default-clause-row g c = λ s stands.
    let p = c.args.self.now in
    let v = the_view c.self.inside in
    let from = g.B.Bank.view c.args.bank.now in
    let none : v.frozen ≡ None = sym c.take.ensures.value ∙ c.in_default.is in
    subst (λ f. Does (RowTurn pool_codec from.size s) turn_says (Ok done.Idle) s (record v { frozen = f }) from from) (none ∙ sym c.take.ensures.after)
    (subst (λ (t : PoolState). Does (RowTurn pool_codec from.size t) turn_says (Ok done.Idle) t v from from)
    (sym (stands.is ∙ ap (state_of s.core.pinned) (sym c.self.view_is)))
    (idle_turn from.size s.core.pinned v from none (subst (ArePinned s.core.pinned) (sym c.self.view_is) stands.pinned) makes_none))

may : (g : Over) (c : goal.After-deref_mut-2 g) → MayTurn (g.B.Bank.view c.args.bank.now).size (the_view c.self.inside) c.in-Some.frozen c.self.inside.tops.items
may g c = may_turn (g.B.Bank.view c.args.bank.now).size c.args.self.now (the_view c.self.inside) c.in-Some.frozen c.self.inside.tops.items c.self.view_is refl
    (sym c.take.ensures.value ∙ c.in-Some.is) c.keeps_its_form.ensures.pool c.keeps_its_form.ensures.rise c.keeps_its_form.ensures.group c.requires

pub make_turn-turn-requires-clause-seated : goal.make_turn-turn-requires-clause-seated
make_turn-turn-requires-clause-seated g c =
    subst (λ (ts : List Top). AreSeated (g.B.Bank.view c.args.bank.now).size (sectors_of ts) c.in-Some.frozen) (sym c.deref_mut.ensures.value) (may g c).seated

pub make_turn-turn-requires-clause-ready : goal.make_turn-turn-requires-clause-ready
make_turn-turn-requires-clause-ready g c =
    subst (λ (ts : List Top). All (IsReady c.in-Some.frozen.board c.in-Some.frozen.numbers.last.0) (leaves_of ts)) (sym c.deref_mut.ensures.value)
    (subst (All (IsReady c.in-Some.frozen.board c.in-Some.frozen.numbers.last.0)) (trees_leaves c.self.inside.tops.items) (may g c).pool.group.ready)

pub make_turn-turn-requires-clause-valid : goal.make_turn-turn-requires-clause-valid
make_turn-turn-requires-clause-valid g c =
    let v = the_view c.self.inside in
    let group = c.in-Some.frozen in
    let told : (n : ℕ) (ts : List Top) (names : List (List ℕ)) → Type 0 = λ n ts names.
    IsValid (parts_seen v.pool v.name n group.numbers.last v.next (laid group.items (pointer_at v.map) root) ts names) in
    subst (λ n. told n c.deref_mut.result.now c.deref.result.now) (sym c.blocks-2.ensures.blocks)
    (subst (λ ts. told v.map.blocks ts c.deref.result.now) (sym c.deref_mut.ensures.value)
    (subst (told v.map.blocks c.self.inside.tops.items) (sym c.deref.ensures.value) (drawn_valid v group c.self.inside.tops.items (may g c).pool (may g c).kept)))

pub burn-requires-clause-room : goal.burn-requires-clause-room
burn-requires-clause-room g c =
    subst (λ (group : OpenGroup). length group.writes ≤ 4096) (sym c.replace-newer.ensures.value)
    (subst (λ (q : PoolParts). length q.unfrozen.writes ≤ 4096) (sym c.self.view_is) (few_writes c.args.self.now c.keeps_its_form.ensures.pool c.keeps_its_form.ensures.rise))

-- The group is suspended.
was_suspended : (g : Over) (c : goal.After-self-in-Err-2-1 g) → MadeTurn (the_view c.self.inside) c.in-Some.frozen c.make_turn-turn.new.frozen c.self.inside.tops.items
    c.make_turn-turn.new.tops (g.B.Bank.view c.args.bank.now) (g.B.Bank.view c.make_turn-turn.new.bank) (Err c.in-Err.suspended)
was_suspended g c =
    let held = c.keeps_its_form.ensures in
    let told = c.make_turn-turn.ensures in
    subst (MadeTurn (the_view c.self.inside) c.in-Some.frozen c.make_turn-turn.new.frozen c.self.inside.tops.items c.make_turn-turn.new.tops
    (g.B.Bank.view c.args.bank.now) (g.B.Bank.view c.make_turn-turn.new.bank)) (c.in-Err.is)
    (made_turn c.args.self.now (the_view c.self.inside) c.in-Some.frozen _ c.self.inside.tops.items _ _ _ _ c.self.view_is refl (sym c.take.ensures.value ∙ c.in-Some.is)
    held.pool held.rise held.group c.requires _ _ _ c.blocks-2.ensures.blocks c.deref_mut.ensures.value c.deref.ensures.value
    told.turn told.ready told.keys told.acked told.built told.sectors c.keeps_its_form-2.ensures)

burned : (g : Over) (c : goal.After-self-in-Err-2-1 g)
    → IsBurned (the_view c.self.inside) c.make_turn-turn.new.frozen c.make_turn-turn.new.tops c.burn.new.tops c.burn.new.map c.burn.new.pins c.burn.result
burned g c =
    let b = c.burn.ensures in
    is_burned (the_view c.self.inside) c.in-Some.frozen c.make_turn-turn.new.frozen c.self.inside.tops.items c.make_turn-turn.new.tops c.deref_mut-in-Err.result.now
    c.burn.new.tops _ _ _ (was_suspended g c)
    (c.deref_mut-in-Err.ensures.value
    ∙ items_back c.self.inside.tops.len c.deref_mut.result.now c.make_turn-turn.new.tops c.self.inside.tops.items c.deref_mut.ensures.len c.make_turn-turn.ensures.built)
    c.replace-newer.result c.burn.result c.burn.new.map c.burn.new.pins c.replace-newer.ensures.value c.keeps_its_form-in-Err.ensures.rise b.writes b.room b.places b.pins
    b.logs b.built b.sectors

burned_back : (g : Over) (c : goal.After-self-in-Err-2-1 g) (P : PoolParts → Type 0)
    → P (burned_pool (the_view c.self.inside) c.make_turn-turn.new.frozen c.burn.new.map c.burn.new.pins c.burn.result c.burn.new.tops)
    → P (record (the_view c.self.inside) {
      highest = c.numbers.result.last.0;
      map = c.burn.new.map;
      pins = c.burn.new.pins;
      tops = all_parts (take c.self.inside.tops.len (c.burn.new.tops ++ drop (length c.burn.new.tops)
          (take c.self.inside.tops.len (c.make_turn-turn.new.tops ++ drop (length c.make_turn-turn.new.tops) c.self.inside.tops.items))));
      unfrozen = c.burn.result;
      frozen = c.take.new.self;
      dirty = c.len-self-inside.result;
    })
burned_back g c P has =
    let b = c.burn.new in
    let left : (n : Numbers) (ts : List Top) (f : Option FrozenGroup) (d : ℕ) → PoolParts = λ n ts f d. record (the_view c.self.inside) {
      highest = n.last.0;
      map = b.map;
      pins = b.pins;
      tops = all_parts ts;
      unfrozen = c.burn.result;
      frozen = f;
      dirty = d;
    } in
    let n = c.make_turn-turn.new in
    let was = take c.self.inside.tops.len (n.tops ++ drop (length n.tops) c.self.inside.tops.items) in
    let there = take c.self.inside.tops.len (b.tops ++ drop (length b.tops) was) in
    subst (λ d. P (left c.numbers.result there c.take.new.self d)) (sym c.len-self-inside.ensures)
    (subst (λ f. P (left c.numbers.result there f (length c.burn.result.writes))) (sym c.take.ensures.after)
    (subst (λ ts. P (left c.numbers.result ts None (length c.burn.result.writes)))
    (sym (items_back c.self.inside.tops.len c.deref_mut-in-Err.result.now b.tops was c.deref_mut-in-Err.ensures.len c.burn.ensures.built))
    (subst (λ ns. P (left ns b.tops None (length c.burn.result.writes))) (sym c.numbers.ensures) has)))

pub invariant_of-self-in-Err : goal.invariant_of-self-in-Err
invariant_of-self-in-Err g c = (
  burned_back g c IsPool (leaves_it (the_view c.self.inside) _ _ _ _ _ _ _ (was_suspended g c) [] c.burn.new.tops c.burn.new.map c.burn.new.pins c.burn.result
      c.keeps_its_form-2.ensures (burned g c)).0,
  came_back c.self.inside.config.len 114688 c.deref_mut-2.result.now c.make_turn-turn.new.config c.self.inside.config.items c.deref_mut-2.ensures.value
      c.deref_mut-2.ensures.len c.make_turn-turn.ensures.part c.self.invariant.1,
)

pub returns-in-Err-clause-row : goal.returns-in-Err-clause-row
returns-in-Err-clause-row g c = λ s stands.
    let v = the_view c.self.inside in
    let from = g.B.Bank.view c.args.bank.now in
    let to = g.B.Bank.view c.make_turn-turn.new.bank in
    let result : Result TurnDone Suspended = Err c.in-Err.suspended in
    burned_back g c (λ q. Does (RowTurn pool_codec from.size s) turn_says result s q from to)
    (of_stands c.args.self.now _ (going v c.in-Some.frozen c.self.inside.tops.items) from to result
    (is_going from.size c.args.self.now v c.in-Some.frozen c.self.inside.tops.items c.self.view_is refl (sym c.take.ensures.value ∙ c.in-Some.is) c.keeps_its_form.ensures.pool)
    (λ held. leaves_it v _ _ _ _ _ _ _ (was_suspended g c) held c.burn.new.tops c.burn.new.map c.burn.new.pins c.burn.result c.keeps_its_form-2.ensures (burned g c))
    s stands)

pub returns-in-Err-clause-told : goal.returns-in-Err-clause-told
returns-in-Err-clause-told g c = one_told (the_view c.self.inside) _ _ _ _ _ _ _ (was_suspended g c) c.in-Err.suspended refl

pub returns-in-Err-clause-here : goal.returns-in-Err-clause-here
returns-in-Err-clause-here g c = λ size here.
    let was = burned g c in
    burned_back g c (λ q. AreHere size q.tops)
    (trees_here c.make_turn-turn.new.tops c.burn.new.tops was.built was.sectors (cut_same _ _ _ was.cut) size
    (here_on (the_view c.self.inside) _ _ c.self.inside.tops.items c.make_turn-turn.new.tops _ _ _ (was_suspended g c) size
    (subst (λ (q : PoolParts). AreHere size q.tops) (sym c.self.view_is) here)))

-- The group goes on.
went_on : (g : Over) (c : goal.Joined-self g) → MadeTurn (the_view c.self.inside) c.in-Some.frozen c.make_turn-turn.new.frozen c.self.inside.tops.items
    c.make_turn-turn.new.tops (g.B.Bank.view c.args.bank.now) (g.B.Bank.view c.make_turn-turn.new.bank) (Ok c.in-Ok.done)
went_on g c =
    let held = c.keeps_its_form.ensures in
    let told = c.make_turn-turn.ensures in
    subst (MadeTurn (the_view c.self.inside) c.in-Some.frozen c.make_turn-turn.new.frozen c.self.inside.tops.items c.make_turn-turn.new.tops
    (g.B.Bank.view c.args.bank.now) (g.B.Bank.view c.make_turn-turn.new.bank)) (c.in-Ok.is)
    (made_turn c.args.self.now (the_view c.self.inside) c.in-Some.frozen _ c.self.inside.tops.items _ _ _ _ c.self.view_is refl (sym c.take.ensures.value ∙ c.in-Some.is)
    held.pool held.rise held.group c.requires _ _ _ c.blocks-2.ensures.blocks c.deref_mut.ensures.value c.deref.ensures.value
    told.turn told.ready told.keys told.acked told.built told.sectors c.keeps_its_form-2.ensures)

went_back : (g : Over) (c : goal.Joined-self g) (P : PoolParts → Type 0) → P (going (the_view c.self.inside) c.make_turn-turn.new.frozen c.make_turn-turn.new.tops)
    → P (record (the_view c.self.inside) {
      highest = c.numbers.result.last.0;
      tops = all_parts (take c.self.inside.tops.len (c.make_turn-turn.new.tops ++ drop (length c.make_turn-turn.new.tops) c.self.inside.tops.items));
      frozen = Some c.make_turn-turn.new.frozen;
    })
went_back g c P has =
    let n = c.make_turn-turn.new in
    subst (λ ts. P (record (the_view c.self.inside) { highest = c.numbers.result.last.0; tops = all_parts ts; frozen = Some n.frozen }))
    (sym (items_back c.self.inside.tops.len c.deref_mut.result.now n.tops c.self.inside.tops.items c.deref_mut.ensures.len c.make_turn-turn.ensures.built))
    (subst (λ (ns : Numbers). P (record (the_view c.self.inside) { highest = ns.last.0; tops = all_parts n.tops; frozen = Some n.frozen }))
    (sym c.numbers.ensures) has)

pub invariant_of-self-in_default-done : goal.invariant_of-self-in_default-done
invariant_of-self-in_default-done g c = (
  went_back g c IsPool (going_leaves (the_view c.self.inside) c.in-Some.frozen c.make_turn-turn.new.frozen c.self.inside.tops.items c.make_turn-turn.new.tops _ _
      c.in-Ok.done c.in_default-done.not-Committed (leaves_it (the_view c.self.inside) _ _ _ _ _ _ _ (went_on g c)) []).0,
  came_back c.self.inside.config.len 114688 c.deref_mut-2.result.now c.make_turn-turn.new.config c.self.inside.config.items c.deref_mut-2.ensures.value
      c.deref_mut-2.ensures.len c.make_turn-turn.ensures.part c.self.invariant.1,
)

pub returns-in_default-done : goal.returns-in_default-done
returns-in_default-done g c =
    let p = c.args.self.now in
    let v = the_view c.self.inside in
    let was = c.in-Some.frozen in
    let is = c.make_turn-turn.new.frozen in
    let trees = c.self.inside.tops.items in
    let from = g.B.Bank.view c.args.bank.now in
    let to = g.B.Bank.view c.make_turn-turn.new.bank in
    let frozen = sym c.take.ensures.value ∙ c.in-Some.is in
    let pool = c.keeps_its_form.ensures.pool in
    let result : Result TurnDone Suspended = Ok c.in-Ok.done in
    let made = went_on g c in
    let all = on v was is trees c.make_turn-turn.new.tops from to result made in
    let goes = goes_there c.in-Ok.done c.in_default-done.not-Committed all.busy in
    record {
      row = λ s stands. went_back g c (λ q. Does (RowTurn pool_codec from.size s) turn_says result s q from to)
          (of_stands p (going v is c.make_turn-turn.new.tops) (going v was trees) from to result (is_going from.size p v was trees c.self.view_is refl frozen pool)
          (going_leaves v was is trees c.make_turn-turn.new.tops from to c.in-Ok.done c.in_default-done.not-Committed
          (leaves_it v was is trees c.make_turn-turn.new.tops from to result made)) s stands);
      told = tt;
      here = λ size here. went_back g c (λ q. AreHere size q.tops)
          (here_on v was is trees c.make_turn-turn.new.tops from to result made size (subst (λ (q : PoolParts). AreHere size q.tops) (sym c.self.view_is) here));
      goes_on = goes;
      fewer = λ some. subst (λ f. 1 + turns_left is < turns_in f) (sym (group_there from.size p v was trees c.self.view_is refl frozen pool))
          (let less = all.fewer (sym goes) in omega (arith, less));
    }

-- The record is acknowledged.
was_acknowledged : (g : Over) (c : goal.After-self-5-1 g) → MadeTurn (the_view c.self.inside) c.in-Some.frozen c.make_turn-turn.new.frozen c.self.inside.tops.items
    c.make_turn-turn.new.tops (g.B.Bank.view c.args.bank.now) (g.B.Bank.view c.make_turn-turn.new.bank) (Ok (done.Committed c.in-Committed.number))
was_acknowledged g c =
    let held = c.keeps_its_form.ensures in
    let told = c.make_turn-turn.ensures in
    subst (MadeTurn (the_view c.self.inside) c.in-Some.frozen c.make_turn-turn.new.frozen c.self.inside.tops.items c.make_turn-turn.new.tops
    (g.B.Bank.view c.args.bank.now) (g.B.Bank.view c.make_turn-turn.new.bank)) (c.in-Ok.is ∙ ap Ok c.in-Committed.is)
    (made_turn c.args.self.now (the_view c.self.inside) c.in-Some.frozen _ c.self.inside.tops.items _ _ _ _ c.self.view_is refl (sym c.take.ensures.value ∙ c.in-Some.is)
    held.pool held.rise held.group c.requires _ _ _ c.blocks-2.ensures.blocks c.deref_mut.ensures.value c.deref.ensures.value
    told.turn told.ready told.keys told.acked told.built told.sectors c.keeps_its_form-2.ensures)

adopted_back : (g : Over) (c : goal.After-self-5-1 g) (P : PoolParts → Type 0) → c.in-Committed.number ≡ c.make_turn-turn.new.frozen.numbers.last
    → P (acknowledged (the_view c.self.inside) c.make_turn-turn.new.frozen c.adopt.new.map c.adopt.new.pins c.make_turn-turn.new.tops)
    → P (record (the_view c.self.inside) {
      highest = c.numbers.result.last.0;
      read = c.in-Committed.number.0;
      opened = true;
      map = c.adopt.new.map;
      pins = c.adopt.new.pins;
      tops = all_parts (take c.self.inside.tops.len (c.make_turn-turn.new.tops ++ drop (length c.make_turn-turn.new.tops) c.self.inside.tops.items));
      frozen = c.take.new.self;
      dirty = c.len-self-inside-2.result;
    })
adopted_back g c P number has =
    let n = c.make_turn-turn.new in
    let left : (ns : Numbers) (r : Group) (ts : List Top) (f : Option FrozenGroup) (d : ℕ) → PoolParts = λ ns r ts f d. record (the_view c.self.inside) {
      highest = ns.last.0;
      read = r.0;
      opened = true;
      map = c.adopt.new.map;
      pins = c.adopt.new.pins;
      tops = all_parts ts;
      frozen = f;
      dirty = d;
    } in
    let there = take c.self.inside.tops.len (n.tops ++ drop (length n.tops) c.self.inside.tops.items) in
    subst (λ d. P (left c.numbers.result c.in-Committed.number there c.take.new.self d)) (sym c.len-self-inside-2.ensures)
    (subst (λ f. P (left c.numbers.result c.in-Committed.number there f (length c.self.inside.open.writes))) (sym c.take.ensures.after)
    (subst (λ ts. P (left c.numbers.result c.in-Committed.number ts None (length c.self.inside.open.writes)))
    (sym (items_back c.self.inside.tops.len c.deref_mut.result.now n.tops c.self.inside.tops.items c.deref_mut.ensures.len c.make_turn-turn.ensures.built))
    (subst (λ r. P (left c.numbers.result r n.tops None (length c.self.inside.open.writes))) (sym number)
    (subst (λ ns. P (left ns n.frozen.numbers.last n.tops None (length c.self.inside.open.writes))) (sym c.numbers.ensures) has))))

pub invariant_of-self-2 : goal.invariant_of-self-2
invariant_of-self-2 g c =
    let end = leaves_it (the_view c.self.inside) _ _ _ _ _ _ _ (was_acknowledged g c) [] c.adopt.new.map c.adopt.new.pins c.adopt.ensures.map c.adopt.ensures.pins in (
      adopted_back g c IsPool end.0 end.1.0,
      came_back c.self.inside.config.len 114688 c.deref_mut-2.result.now c.make_turn-turn.new.config c.self.inside.config.items c.deref_mut-2.ensures.value
          c.deref_mut-2.ensures.len c.make_turn-turn.ensures.part c.self.invariant.1,
    )

pub returns-clause-row : goal.returns-clause-row
returns-clause-row g c = λ s stands.
    let v = the_view c.self.inside in
    let from = g.B.Bank.view c.args.bank.now in
    let to = g.B.Bank.view c.make_turn-turn.new.bank in
    let result : Result TurnDone Suspended = Ok (done.Committed c.in-Committed.number) in
    adopted_back g c (λ q. Does (RowTurn pool_codec from.size s) turn_says result s q from to)
    (leaves_it v _ _ _ _ _ _ _ (was_acknowledged g c) [] c.adopt.new.map c.adopt.new.pins c.adopt.ensures.map c.adopt.ensures.pins).0
    (of_stands c.args.self.now _ (going v c.in-Some.frozen c.self.inside.tops.items) from to result
    (is_going from.size c.args.self.now v c.in-Some.frozen c.self.inside.tops.items c.self.view_is refl (sym c.take.ensures.value ∙ c.in-Some.is) c.keeps_its_form.ensures.pool)
    (λ held. (leaves_it v _ _ _ _ _ _ _ (was_acknowledged g c) held c.adopt.new.map c.adopt.new.pins c.adopt.ensures.map c.adopt.ensures.pins).1) s stands)

pub returns-clause-here : goal.returns-clause-here
returns-clause-here g c = λ size here.
    let end = leaves_it (the_view c.self.inside) _ _ _ _ _ _ _ (was_acknowledged g c) [] c.adopt.new.map c.adopt.new.pins c.adopt.ensures.map c.adopt.ensures.pins in
    adopted_back g c (λ q. AreHere size q.tops) end.0
    (here_on (the_view c.self.inside) _ _ c.self.inside.tops.items c.make_turn-turn.new.tops _ _ _ (was_acknowledged g c) size
    (subst (λ (q : PoolParts). AreHere size q.tops) (sym c.self.view_is) here))
