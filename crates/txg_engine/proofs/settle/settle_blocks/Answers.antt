use Rattle.std.proofs.Common.{◌++◌, ◌∷◌, [], List, All, ap, sym, subst, ◌∙◌, arith, append_assoc, length}
use Rattle.std.proofs.lemmas.List.Elements.{All-head, All-tail}
use Rattle.txg_engine.specs.Freezing.{block_keys}
use Rattle.txg_engine.specs.Items.{keys_of, frozen_block}
use Rattle.txg_engine.specs.Writes.{block_at}
use Rattle.txg_engine.specs.declared.write.Write.{Write}
use Rattle.txg_engine.proofs.AddressesCounted.{IsLong}
use Rattle.txg_engine.proofs.FreezesFit.{long_more}
use Rattle.txg_engine.proofs.Settling.{settled_next, keys_next, block_next, length_next, first_block, one_place_less}
use Rattle.txg_engine.proofs.settle.settle_blocks.Goals as goal

pub loop-write-preserved : goal.loop-write-preserved
loop-write-preserved c =
    let next = c.settle.ensures.next in
    let write = c.in-Some.write in
    let left = c.pop_front.new.self.items in
    let items = c.in-Some.ensures.items in
    let less = one_place_less next in
    let all = subst (All IsLong) items c.loop-write.invariant.left in
    record {
      settled = settled_next c.loop-write.invariant.settled (λ level. absurd (omega arith)) next;
      keys = ap (λ l. l ++ block_keys left) (keys_next next)
          ∙ append_assoc (keys_of c.loop-write.items.items) (record { level = 0; index = write.addr } ∷ []) (block_keys left)
          ∙ ap (λ (ws : List Write). keys_of c.loop-write.items.items ++ block_keys ws) (sym items) ∙ c.loop-write.invariant.keys;
      blocks = λ a. block_next write left a next
          ∙ ap (λ (ws : List Write). first_block (frozen_block c.loop-write.items.items a) (block_at ws a)) (sym items) ∙ c.loop-write.invariant.blocks a;
      long = long_more c.loop-write.items.items c.settle.new.items.items next.item write.block next.more next.block_is
          (All-head IsLong write left all) c.loop-write.invariant.long;
      left = All-tail IsLong write left all;
      places = omega (arith, ap length items, c.loop-write.invariant.places);
      room = omega (arith, ap length items, c.loop-write.invariant.room, c.settle.ensures.room, length_next next);
      more = omega (arith, c.loop-write.invariant.more, c.settle.ensures.room);
    }
