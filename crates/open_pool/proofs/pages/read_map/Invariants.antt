use Rattle.open_pool.specs.Pages.{source_of, ReadsUpTo, pages_left}
use Rattle.open_pool.proofs.pages.read_map.Given as goal

abbrev pub invariant-loop-page : goal.invariant-loop-page
invariant-loop-page g l = record {
  reads : ReadsUpTo (source_of l.tops l.fn.blocks l.fn.number.0 l.fn.root) l.pages.reader (g.B.Bank.view l.fn.bank) (g.B.Bank.view l.bank);
}

abbrev pub decreases-loop-page : goal.decreases-loop-page
decreases-loop-page g l = pages_left l.pages.reader.next
