use Rattle.std.proofs.Common.{◌≡◌, ◌∙◌, arith, length, drop}
use Rattle.std.proofs.lemmas.List.{take_at}
use Rattle.txg_engine.proofs.settle.page_block.Goals as goal

pub returns-clause-page : goal.returns-clause-page
returns-clause-page c =
    let long : length c.fill_page.new.bytes ≡ c.args.bytes.len = omega (arith, c.fill_page.auto.bytes, c.deref_mut.ensures.len) in
    c.new.ensures ∙ take_at c.fill_page.new.bytes (drop (length c.fill_page.new.bytes) c.args.bytes.items) c.args.bytes.len long ∙ c.fill_page.ensures.bytes
