use Rattle.std.proofs.Common.{arith, ◌≡◌, length}
use Rattle.block_map.proofs.PlacesChanged.{number_fits}
use Rattle.block_map.proofs.map.BlockMap.number.Goals as goal

pub returns-clause-inside : goal.returns-clause-inside
returns-clause-inside c =
    let tops : c.len.result ≡ length c.self.inside.sectors.items = omega (arith, c.len.ensures, c.self.inside.sectors.ok.0) in
    rw (c.place_number.ensures, ← c.self.view_is, tops)
    (number_fits c.self.inside.blocks c.self.inside.sectors.items c.self.inside.pointers.items c.self.inside.free c.self.inside.pinned c.self.inside.opened c.self.invariant
    c.args.place (rw (← c.self.view_is) at c.requires))
