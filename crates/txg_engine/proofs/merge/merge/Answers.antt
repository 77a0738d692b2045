use Rattle.std.proofs.Common.{◌≡◌, ◌+◌, [], ◌∷◌, ◌++◌, length, refl, subst, ◌∙◌, arith}
use Rattle.std.proofs.lemmas.Bool.{cond-true}
use Rattle.std.proofs.lemmas.List.{length_push}
use Rattle.std.proofs.lemmas.List.Elements.{All-nil, All-push}
use Rattle.txg_engine.proofs.AddressesCounted.{IsLong, fresh_writes, fresh_of_writes, long_writes, long_taken, count_taken}
use Rattle.txg_engine.proofs.Merged.{writes_of, IsMerging, keys_rise, next_steps, next_ends, merging_more, rise_back, merged_all}
use Rattle.txg_engine.proofs.merge.merge.Goals as goal

pub loop-write-init : goal.loop-write-init
loop-write-init c =
    let none = c.requires.none in
    record {
      merging = rw none (record {
        kept = λ a. refl;
        newer_rise = c.requires.newer;
        older_rise = keys_rise c.args.older.items c.requires.older;
      });
      rise = c.requires.older;
      count = rw none (omega arith);
      out_blocks = rw none (All-nil IsLong);
      older_blocks = long_writes c.args.older.items c.requires.older_blocks;
      newer_blocks = c.requires.newer_blocks;
      room = rw none (omega arith);
      capacity = omega arith;
    }

pub loop-write-preserved : goal.loop-write-preserved
loop-write-preserved c =
    let w = c.in-Some.write in
    let out = c.loop-write.out.items in
    let older = c.loop-write.older.items in
    let older' = c.next.new.older.items in
    let newer = c.loop-write.newer.items in
    let newer' = c.next.new.newer.items in
    let now = c.loop-write.invariant in
    let rise = rise_back 0 out newer now.merging.newer_rise in
    let steps = next_steps older older' newer newer' w now.rise rise c.in-Some.ensures in
    let long = long_taken (writes_of older) newer (writes_of older') newer' w steps.least now.older_blocks now.newer_blocks in
    let more : c.push.new.self.items ≡ out ++ w ∷ [] =
    c.push.ensures.items ∙ cond-true _ _ _ (c.push.ensures.succeeds (omega (arith, steps.less))) in
    record {
      merging = rw more (merging_more (writes_of older) newer (writes_of older') newer' w
          out (writes_of c.args.older.items) c.args.newer.items now.merging steps.least);
      rise = steps.rise;
      count = rw (more, length_push) (omega (
        arith,
        now.count,
        count_taken out (writes_of older) newer (writes_of older') newer' w steps.least now.merging.older_rise,
      ));
      out_blocks = rw more (All-push IsLong out w now.out_blocks long.taken);
      older_blocks = long.older;
      newer_blocks = long.newer;
      room = rw (more, length_push) (omega (arith, steps.less, c.push.ensures.capacity));
      capacity = omega (arith, c.push.ensures.capacity);
    }

pub returns-clause-merged : goal.returns-clause-merged
returns-clause-merged c =
    let out = c.loop-write.out.items in
    let older = c.loop-write.older.items in
    let newer = c.loop-write.newer.items in
    let old = writes_of c.args.older.items in
    let new = c.args.newer.items in
    let now = c.loop-write.invariant in
    let ends = next_ends older c.next.new.older.items newer c.next.new.newer.items now.rise c.in_default.ensures in
    merged_all out c.args.older.items new
    (subst (λ ws. IsMerging out ws [] old new) ends.0
    (subst (λ ws. IsMerging out (writes_of older) ws old new) ends.1 now.merging))

pub returns-clause-count : goal.returns-clause-count
returns-clause-count c =
    let out = c.loop-write.out.items in
    let older = c.loop-write.older.items in
    let newer = c.loop-write.newer.items in
    let now = c.loop-write.invariant in
    let ends = next_ends older c.next.new.older.items newer c.next.new.newer.items now.rise c.in_default.ensures in
    let left : length newer + fresh_writes newer (writes_of older) ≡ 0 = rw (ends.1, ends.0) refl in
    omega (arith, now.count, left, fresh_of_writes c.args.newer.items c.args.older.items)
