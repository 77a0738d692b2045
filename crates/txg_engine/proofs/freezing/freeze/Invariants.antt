use Rattle.txg_engine.proofs.freezing.freeze.Given as goal

abbrev pub ghost-settle_group : goal.ghost-settle_group
ghost-settle_group a = a.map.now
