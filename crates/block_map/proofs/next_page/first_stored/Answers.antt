use Rattle.std.proofs.Common.{sym, ◌∙◌, refl}
use Rattle.block_map.proofs.ReadPages.{stored_of}
use Rattle.block_map.proofs.next_page.first_stored.Goals as goal

pub returns-then-is_some-clause-page : goal.returns-then-is_some-clause-page
returns-then-is_some-clause-page c = record {
  inside = record {
    key = record { level = c.requires.high; index = rw (c.keys_at-index-end.ensures, c.blocks-2.ensures.blocks) at c.loop-index-test.true };
    level = c.requires.low;
  };
  stored = stored_of c.get.result _ c.get.ensures.pointer (sym c.is_some.ensures ∙ c.if-is_some.true);
  same = refl;
  behind = c.loop-index.auto.index;
  first = c.loop-index.invariant;
}
