use Rattle.std.proofs.Common.{◌∙◌}
use Rattle.block_map.specs.Keys.{root}
use Rattle.block_map.specs.Map.{pointer_at}
use Rattle.txg_engine.proofs.Finding.{root_key, or_hole}
use Rattle.txg_engine.proofs.frozen.root_of.Goals as goal

pub get-requires : goal.get-requires
get-requires c = root_key c.args.map.now.blocks c.keeps_its_form.ensures.volume.some

pub returns : goal.returns
returns c =
    c.unwrap_or.ensures ∙ or_hole (pointer_at c.args.map.now root) c.get.result c.get.ensures.pointer c.get.ensures.hole
