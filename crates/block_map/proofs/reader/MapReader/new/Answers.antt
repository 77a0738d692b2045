use Rattle.std.proofs.Common.{arith}
use Rattle.block_map.proofs.KeyNumbers.{keys_pos}
use Rattle.block_map.proofs.ReadPages.{begin_reading}
use Rattle.block_map.proofs.reader.MapReader.new.Goals as goal

pub put-requires-clause-key : goal.put-requires-clause-key
put-requires-clause-key c = λ _. rw c.in_ok-map.ensures.volume (record { level = omega arith; index = keys_pos c.args.blocks 3 c.requires.blocks.some })

pub invariant_of-result : goal.invariant_of-result
invariant_of-result c =
    begin_reading c.args.blocks c.args.sectors.now c.in_ok-map.map c.put.new.map c.args.root c.args.number.0 c.in_ok-map.ensures c.put.ensures
    c.requires.pointer c.requires.born c.requires.blocks c.first_page.result c.first_page.ensures

pub returns-clause-places : goal.returns-clause-places
returns-clause-places c =
    (begin_reading c.args.blocks c.args.sectors.now c.in_ok-map.map c.put.new.map c.args.root c.args.number.0 c.in_ok-map.ensures c.put.ensures
    c.requires.pointer c.requires.born c.requires.blocks c.first_page.result c.first_page.ensures).places
