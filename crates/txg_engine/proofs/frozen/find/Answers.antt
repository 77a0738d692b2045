use Rattle.std.proofs.Common.{rules, ◌≢◌, Option, ℕ, sym, subst}
use Rattle.std.specs.Prelude.{All, IfSome, IfNone}
use Rattle.std.proofs.lemmas.Fn.{always_returns_same}
use Rattle.txg_engine.specs.declared.item.Item.{Item}
use Rattle.txg_engine.specs.Items.{IsItemAt}
use Rattle.txg_engine.proofs.Finding.{Found, is_found, found_some, found_none}
use Rattle.txg_engine.proofs.frozen.find.Goals as goal

pub returns-clause-found : goal.returns-clause-found
returns-clause-found c =
    let search_is = c.binary_search_by_key.ensures in
    let found : Found c.args.items.now c.args.key c.binary_search_by_key.result =
    is_found c.args.items.now c.args.key c.binary_search_by_key.result c.requires search_is.bound
    (search_is.position (λ (item : Item). item.key) (always_returns_same _ _ _ (λ a r f' k. search rules))) in
    subst (λ (o : Option ℕ). IfSome o (λ at. IsItemAt c.args.items.now c.args.key at)) (sym c.ok.ensures.value)
    (found_some c.args.items.now c.args.key c.binary_search_by_key.result found)

pub returns-clause-none : goal.returns-clause-none
returns-clause-none c =
    let search_is = c.binary_search_by_key.ensures in
    let found : Found c.args.items.now c.args.key c.binary_search_by_key.result =
    is_found c.args.items.now c.args.key c.binary_search_by_key.result c.requires search_is.bound
    (search_is.position (λ (item : Item). item.key) (always_returns_same _ _ _ (λ a r f' k. search rules))) in
    subst (λ (o : Option ℕ). IfNone o (All (λ (item : Item). item.key ≢ c.args.key) c.args.items.now))
    (sym c.ok.ensures.value)
    (found_none c.args.items.now c.args.key c.binary_search_by_key.result found)
