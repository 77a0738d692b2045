use Rattle.std.proofs.Common.{◌≡◌, ◌++◌, [], true, List, All, length, map, ap, sym, subst, refl, ◌∙◌, arith, length-append}
use Rattle.std.specs.Prelude.{AllPairs}
use Rattle.std.proofs.lemmas.Bool.{true≢false}
use Rattle.std.proofs.lemmas.List.{length-map}
use Rattle.mp_base.specs.declared.place.Key.{Key}
use Rattle.block_map.specs.Keys.{IsBefore, IsPage}
use Rattle.block_map.specs.Map.{Map, pointer_at}
use Rattle.txg_engine.specs.declared.seat.Seat.{Seat}
use Rattle.txg_engine.specs.Freezing.{addr_of, page_keys, block_keys, dirty_keys, AreSettled}
use Rattle.txg_engine.specs.Items.{key_of, place_of, keys_of}
use Rattle.txg_engine.specs.Writes.{OpenGroup, RiseFrom, block_at}
use Rattle.txg_engine.proofs.FreezesFit.{keys_inside, pointers_inside}
use Rattle.txg_engine.proofs.LeftByCauses.{all_on, none_left}
use Rattle.txg_engine.proofs.TopsServed.{all_served}
use Rattle.txg_engine.proofs.Rising.{RiseFromKey, few_on, dirty_rise, pairs_rise, keys_rise, levels_low, pages_are_pages, all_filled}
use Rattle.txg_engine.proofs.freezing.settle_group.Goals as goal

pub settle_pages-requires : goal.settle_pages-requires
settle_pages-requires g c =
    let writes = c.args.group.writes in
    let taken = c.requires.1.1.1.1.0.1 in
    let items = c.settle_blocks.new.items.items in
    let are = ap (λ (group : OpenGroup). length (block_keys group.writes)) c.group.view_is in
    let pages = c.deref.ensures.value ∙ taken.pages in
    let rises : RiseFrom 0 writes = subst
    (λ (group : OpenGroup). RiseFrom 0 group.writes) c.group.view_is c.group.invariant.rise in
    let keys : keys_of items ++ c.deref.result.now ≡ dirty_keys writes =
    ap (λ (l : List Key). l ++ c.deref.result.now) c.settle_blocks.ensures.keys
    ∙ ap (λ (l : List Key). block_keys c.group.inside.writes.items ++ l) pages
    ∙ ap (λ (group : OpenGroup). block_keys group.writes ++ page_keys (map addr_of writes)) c.group.view_is in (
      subst (λ (m : Map). All (IsPage m.blocks) c.deref.result.now) (sym c.requires.0)
          (subst (All (IsPage c.args.map.now.blocks)) (sym pages)
          (pages_are_pages c.args.map.now.blocks writes c.requires.1.0)),
      (
        subst (AllPairs IsBefore) (sym keys) (pairs_rise 0 0 (dirty_keys writes) (dirty_rise writes rises)),
        (
          omega (
            arith,
            taken.enough,
            length-append (block_keys writes) (page_keys (map addr_of writes)),
            ap length pages,
            ap length c.settle_blocks.ensures.keys,
            length-map items key_of,
            length-map items place_of,
            are,
            c.settle_blocks.ensures.settled.takes.count,
          ),
          (
            omega (
              arith,
              taken.items_room,
              length-append (block_keys writes) (page_keys (map addr_of writes)),
              ap length pages,
              ap length c.settle_blocks.ensures.keys,
              length-map items key_of,
              are,
              c.settle_blocks.ensures.room,
            ),
            (
              taken.buffers ∙ sym (ap length c.deref.ensures.value),
              (
                taken.sizes,
                (
                  subst (λ (m : Map). AreSettled c.args.number.0 m c.settle_blocks.new.map items)
                      (sym c.requires.0) c.settle_blocks.ensures.settled,
                  c.settle_blocks.ensures.long,
                ),
              ),
            ),
          ),
        ),
      ),
    )

pub invariant_of-result : goal.invariant_of-result
invariant_of-result g c =
    let writes = c.args.group.writes in
    let taken = c.requires.1.1.1.1.0.1 in
    let items = c.settle_pages.new.items.items in
    let rises : RiseFrom 0 writes = subst
    (λ (group : OpenGroup). RiseFrom 0 group.writes) c.group.view_is c.group.invariant.rise in
    let keys : keys_of items ≡ dirty_keys writes =
    c.settle_pages.ensures.keys ∙ ap (λ (l : List Key). l ++ c.deref.result.now) c.settle_blocks.ensures.keys
    ∙ ap (λ (l : List Key). block_keys c.group.inside.writes.items ++ l) (c.deref.ensures.value ∙ taken.pages)
    ∙ ap (λ (group : OpenGroup). block_keys group.writes ++ page_keys (map addr_of writes)) c.group.view_is in
    let on = subst (All (λ (seat : Seat). seat.on ≡ true)) (sym taken.board) (all_on 0 c.requires.1.1.1.1.0.0) in (
      record {
        low = c.requires.1.1.0;
        order = omega arith;
        high = omega (arith, c.requires.1.1.1.0, c.requires.1.1.1.1.1, few_on c.args.prepared.board);
        rise = keys_rise 0 0 items (subst (RiseFromKey 0 0) (sym keys) (dirty_rise writes rises));
        levels = levels_low c.args.map.now.blocks writes items c.requires.1.0 keys;
        blocks = c.settle_pages.ensures.long;
        within = omega arith;
        flushed = λ all. absurd (true≢false (sym all));
        left = none_left c.args.prepared.board on;
        served = all_served c.args.prepared.board on;
        room = omega (arith, taken.room, ap length keys, length-map items key_of);
      },
      taken.no_writes,
    )

pub returns : goal.returns
returns g c = λ tops taken.
    let writes = c.args.group.writes in
    let items = c.settle_pages.new.items.items in
    let rises : RiseFrom 0 writes = subst
    (λ (group : OpenGroup). RiseFrom 0 group.writes) c.group.view_is c.group.invariant.rise in
    let keys : keys_of items ≡ dirty_keys writes =
    c.settle_pages.ensures.keys ∙ ap (λ (l : List Key). l ++ c.deref.result.now) c.settle_blocks.ensures.keys
    ∙ ap (λ (l : List Key). block_keys c.group.inside.writes.items ++ l) (c.deref.ensures.value ∙ taken.pages)
    ∙ ap (λ (group : OpenGroup). block_keys group.writes ++ page_keys (map addr_of writes)) c.group.view_is in
    let so : AreSettled c.args.number.0 c.args.map.now c.settle_pages.new.map items =
    subst (λ (m : Map). AreSettled c.args.number.0 m c.settle_pages.new.map items) c.requires.0
    c.settle_pages.ensures.settled in
    record {
      numbers = refl;
      unwritten = refl;
      unflushed = refl;
      unbegun = refl;
      unacked = refl;
      board = taken.board;
      everywhere = taken.everywhere;
      freeze = record {
        keys = keys;
        blocks = λ a. c.settle_pages.ensures.blocks a ∙ c.settle_blocks.ensures.blocks a ∙ ap
            (λ (group : OpenGroup). block_at group.writes a) c.group.view_is;
        places = so.places;
        takes = so.takes;
        signed = so.signed;
        filled = all_filled 0 0 (pointer_at c.args.map.now) [] items
            (subst (RiseFromKey 0 0) (sym keys) (dirty_rise writes rises)) so.filled;
        inside = keys_inside c.args.map.now.blocks writes items c.requires.1.0 keys;
        pointers = pointers_inside c.args.number.0 c.args.map.now [] items c.requires.1.1.0 so.places so.signed;
      };
    }
