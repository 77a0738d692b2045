use Rattle.txg_engine.proofs.freezing.settle_group.Given as goal

abbrev pub ghost-settle_pages : goal.ghost-settle_pages
ghost-settle_pages g a = g.first
