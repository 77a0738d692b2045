use Rattle.std.proofs.Common.{◌≡◌, List, length, refl, ap, sym, ◌∙◌, arith}
use Rattle.std.specs.List.{insert}
use Rattle.std.proofs.lemmas.Bool.{cond-true, cond-false}
use Rattle.std.proofs.lemmas.List.{length-set}
use Rattle.std.proofs.lemmas.List.Edits.{length-insert}
use Rattle.txg_engine.specs.declared.write.Write.{Write}
use Rattle.txg_engine.specs.Writes.{block_at, IsThere, IsGap}
use Rattle.txg_engine.proofs.Found.{set_rise, set_block, insert_rise, insert_block, is_there, is_not_there, there_read}
use Rattle.txg_engine.proofs.open.put_write.Goals as goal

pub returns-in-Ok-clause-rise : goal.returns-in-Ok-clause-rise
returns-in-Ok-clause-rise c =
    let ws = c.args.writes.now.items in
    let there : IsThere ws c.args.addr c.in-Ok.at = rw c.deref.ensures.value at c.in-Ok.ensures in
    let was = c.index_mut.result.now in
    let same : was.addr ≡ c.args.addr = there_read ws c.args.addr c.in-Ok.at was there c.index_mut.ensures.value in
    set_rise c.args.addr _ same 0 ws c.in-Ok.at c.requires.rise there

pub returns-in-Ok-clause-blocks : goal.returns-in-Ok-clause-blocks
returns-in-Ok-clause-blocks c = λ a.
    let ws = c.args.writes.now.items in
    let there : IsThere ws c.args.addr c.in-Ok.at = rw c.deref.ensures.value at c.in-Ok.ensures in
    let was = c.index_mut.result.now in
    let same : was.addr ≡ c.args.addr = there_read ws c.args.addr c.in-Ok.at was there c.index_mut.ensures.value in
    set_block c.args.addr _ same 0 ws c.in-Ok.at a c.requires.rise there

pub returns-in-Ok-clause-count : goal.returns-in-Ok-clause-count
returns-in-Ok-clause-count c =
    let ws = c.args.writes.now.items in
    let there : IsThere ws c.args.addr c.in-Ok.at = rw c.deref.ensures.value at c.in-Ok.ensures in
    length-set ws c.in-Ok.at _ ∙ sym (cond-true _ _ _ (is_there ws c.args.addr c.in-Ok.at c.requires.rise there))

pub returns-in-Err-clause-rise : goal.returns-in-Err-clause-rise
returns-in-Err-clause-rise c =
    let ws = c.args.writes.now.items in
    let v : Write = record { addr = c.args.addr; block = c.args.block } in
    let gap : IsGap ws c.args.addr c.in-Err.at = rw c.deref.ensures.value at c.in-Err.ensures in
    let room = c.requires.room (is_not_there ws c.args.addr c.in-Err.at gap) in
    let more : c.insert.new.self.items ≡ insert ws c.in-Err.at v =
    c.insert.ensures.items ∙ cond-true _ _ _ (c.insert.ensures.succeeds (omega arith)) in
    rw more (insert_rise c.args.addr v refl 0 ws c.in-Err.at (omega arith) c.requires.rise gap)

pub returns-in-Err-clause-blocks : goal.returns-in-Err-clause-blocks
returns-in-Err-clause-blocks c = λ a.
    let ws = c.args.writes.now.items in
    let v : Write = record { addr = c.args.addr; block = c.args.block } in
    let gap : IsGap ws c.args.addr c.in-Err.at = rw c.deref.ensures.value at c.in-Err.ensures in
    let room = c.requires.room (is_not_there ws c.args.addr c.in-Err.at gap) in
    let more : c.insert.new.self.items ≡ insert ws c.in-Err.at v =
    c.insert.ensures.items ∙ cond-true _ _ _ (c.insert.ensures.succeeds (omega arith)) in
    ap (λ (xs : List Write). block_at xs a) more ∙ insert_block c.args.addr v refl ws c.in-Err.at a gap

pub returns-in-Err-clause-count : goal.returns-in-Err-clause-count
returns-in-Err-clause-count c =
    let ws = c.args.writes.now.items in
    let v : Write = record { addr = c.args.addr; block = c.args.block } in
    let gap : IsGap ws c.args.addr c.in-Err.at = rw c.deref.ensures.value at c.in-Err.ensures in
    let none = is_not_there ws c.args.addr c.in-Err.at gap in
    let room = c.requires.room none in
    let more : c.insert.new.self.items ≡ insert ws c.in-Err.at v =
    c.insert.ensures.items ∙ cond-true _ _ _ (c.insert.ensures.succeeds (omega arith)) in
    ap length more ∙ length-insert ws c.in-Err.at v gap.inside ∙ sym (cond-false _ _ _ none)
