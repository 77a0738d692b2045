use Rattle.block_map.proofs.ReadPages.{written_is}
use Rattle.block_map.proofs.reader.MapReader.next_page.Goals as goal

pub returns-clause-page : goal.returns-clause-page
returns-clause-page c = rw (← c.self.view_is) (c.in_ok-page.was, (written_is _ _ (c.in_ok-pointer.ensures.pointer)).0)

pub returns-clause-stored : goal.returns-clause-stored
returns-clause-stored c = (written_is _ _ (c.in_ok-pointer.ensures.pointer)).1
