use Rattle.std.proofs.Common.{rules}
use Rattle.std.proofs.lemmas.Fn.{always_returns_same}
use Rattle.txg_engine.specs.declared.write.Write.{Write}
use Rattle.txg_engine.proofs.Found.{is_found}
use Rattle.txg_engine.proofs.open.find.Goals as goal

pub returns : goal.returns
returns c =
    let search_is = c.binary_search_by_key.ensures in
    is_found c.args.writes.now c.args.addr c.binary_search_by_key.result c.requires search_is.bound
    (search_is.position (λ (w : Write). w.addr) (always_returns_same _ _ _ (λ a r f' k. search rules)))
