use Rattle.std.proofs.Common.{◌∙◌, inl, arith}
use Rattle.std.proofs.lemmas.List.FromFn.{get_or-map-range_with_len, length-map-range_with_len, fill_by_all}
use Rattle.block_map.specs.Keys.{child}
use Rattle.block_map.specs.Map.{children}
use Rattle.block_map.specs.Pointers.{hole}
use Rattle.block_map.proofs.laws.children_come_before_their_page.Goals as goal

pub returns-clause-each : goal.returns-clause-each
returns-clause-each c = λ at page j d less. get_or-map-range_with_len (λ i. at (child page i)) 0 64 j j d less (omega arith)

pub returns-clause-count : goal.returns-clause-count
returns-clause-count c = λ at page. length-map-range_with_len (λ i. at (child page i)) 0 64

pub returns-clause-before : goal.returns-clause-before
returns-clause-before c = λ page j level. inl (omega arith)

pub returns-clause-same : goal.returns-clause-same
returns-clause-same c = λ one other page same.
    fill_by_all (λ j. other (child page j)) (children one page) 64 hole (length-map-range_with_len (λ i. one (child page i)) 0 64)
    (λ j less. get_or-map-range_with_len (λ i. one (child page i)) 0 64 j j hole less (omega arith) ∙ same j less)
