use Rattle.std.proofs.Common.{take, map, ap, ◌∙◌}
use Rattle.std.proofs.lemmas.List.{take-map}
use Rattle.open_pool.specs.Scanning.{dropped}
use Rattle.open_pool.proofs.scan.ScanLeaves.drop_on.Goals as goal

pub returns : goal.returns
returns c =
    ap (take c.self.inside.len) c.drop_in.ensures ∙ take-map (dropped c.args.dev) c.self.inside.len c.self.inside.list
    ∙ ap (map (dropped c.args.dev)) c.self.view_is
