use Rattle.std.proofs.Common.{◌≡◌, ◌≤◌, length, sym, ap, ◌∙◌, subst}
use Rattle.vdev_tree.specs.Tree.{leaves}
use Rattle.vdev_tree.specs.declared.top.Top.{Top}
use Rattle.block_map.specs.Places.{IsPlace}
use Rattle.open_pool.specs.Parts.{PoolParts, all_parts}
use Rattle.open_pool.proofs.CopiesOnDevices.{top_inside}
use Rattle.open_pool.proofs.CopiesRead.{sectors_told}
use Rattle.open_pool.proofs.LeavesInForm.{leaves_are, leaves_few}
use Rattle.open_pool.proofs.NamesUnder.{no_names, names_by}
use Rattle.txg_engine.proofs.Seating.{few_leaves}
use Rattle.open_pool.proofs.pool.Pool.names_of_block.Goals as goal

pub names_in-requires : goal.names_in-requires
names_in-requires c =
    let p = c.args.self.now in let trees = c.self.inside.tops.items in
    let parts : p.tops ≡ all_parts trees = ap (λ (q : PoolParts). q.tops) (sym c.self.view_is) in
    let few = subst (λ ls. length ls ≤ 32) (leaves_are trees p parts) (leaves_few trees p parts c.keeps_its_form.ensures.pool.recordable) in
    let place = subst (λ ns. IsPlace ns c.in-Some.pointer.place)
    (ap (λ (q : PoolParts). q.map.sectors) (sym c.self.view_is) ∙ c.self.invariant.0.tops ∙ sectors_told trees) c.in-Some.ensures.place in
    subst (λ (top : Top). length (leaves top.mirror) ≤ 32) (sym c.index.ensures)
    (few_leaves trees c.in-Some.pointer.place.top c.index.result.now (top_inside trees c.in-Some.pointer.place place) few)

pub returns-in-Some : goal.returns-in-Some
returns-in-Some c =
    let p = c.args.self.now in let trees = c.self.inside.tops.items in
    let place = subst (λ ns. IsPlace ns c.in-Some.pointer.place)
    (ap (λ (q : PoolParts). q.map.sectors) (sym c.self.view_is) ∙ c.self.invariant.0.tops ∙ sectors_told trees) c.in-Some.ensures.place in
    names_by (λ names. names.items) p c.args.addr trees (ap (λ (q : PoolParts). q.tops) (sym c.self.view_is)) c.in-Some.pointer
    (sym c.in-Some.is ∙ c.committed.ensures.pointer) place c.index.result.now c.index.ensures c.names_in.result c.names_in.ensures

pub returns-in-None : goal.returns-in-None
returns-in-None c = λ s stands. c.new.ensures.items
    ∙ no_names c.args.self.now c.args.addr (sym c.in-None.is ∙ c.committed.ensures.pointer) s stands
