use Rattle.std.proofs.Common.{◌≡◌, ◌≤◌, List, Some, length, sym, ap, ◌∙◌, subst}
use Rattle.vdev_tree.specs.declared.top.Top.{Top}
use Rattle.dtl_rules.specs.Widening.{leaves_of}
use Rattle.pool_moves.specs.Moves.{Move, steps}
use Rattle.pool_moves.specs.Resilvers.{Resilvers}
use Rattle.open_pool.specs.Form.{IsPool}
use Rattle.open_pool.specs.Parts.{PoolParts, all_parts}
use Rattle.open_pool.specs.Scanning.{HasOwing, scan_leaves}
use Rattle.open_pool.specs.State.{Stands}
use Rattle.open_pool.proofs.LeavesInForm.{leaves_are, leaves_few}
use Rattle.open_pool.proofs.ScanChanged.{with_scan}
use Rattle.open_pool.proofs.ScansSeen.{resilvers, rests}
use Rattle.open_pool.proofs.pool.Pool.start_resilver.Goals as goal

few : (p : PoolParts) (trees : List Top) → p.tops ≡ all_parts trees → IsPool p → length (leaves_of trees) ≤ 32
few p trees parts pool = subst (λ ls. length ls ≤ 32) (leaves_are trees p parts) (leaves_few trees p parts pool.recordable)

pub has_owing-requires : goal.has_owing-requires
has_owing-requires c =
    few c.args.self.now c.deref.result.now (ap (λ (q : PoolParts). q.tops) (sym c.self.view_is) ∙ ap all_parts (sym c.deref.ensures.value))
    c.keeps_its_form.ensures.pool

pub start-requires : goal.start-requires
start-requires c =
    few c.args.self.now c.deref-then-has_owing.result.now
    (ap (λ (q : PoolParts). q.tops) (sym c.self.view_is) ∙ ap all_parts (sym c.deref-then-has_owing.ensures.value)) c.keeps_its_form.ensures.pool

pub returns-then-has_owing-clause-row : goal.returns-then-has_owing-clause-row
returns-then-has_owing-clause-row c = λ s stands.
    let scan = c.start.result in
    subst (λ q. (vs : List Move) × Resilvers s.core vs × Stands (with_scan q (Some scan)) (steps vs s)) (sym c.self.view_is)
    (resilvers c.args.self.now c.self.inside.tops.items (ap (λ (q : PoolParts). q.tops) (sym c.self.view_is)) scan (ap (λ (q : PoolParts). q.opened) (sym c.self.view_is))
    (ap (λ n. n.0) c.start.ensures.hi ∙ ap (λ (q : PoolParts). q.read) c.self.view_is)
    (c.start.ensures.leaves ∙ ap (λ (ts : List Top). scan_leaves (leaves_of ts)) c.deref-then-has_owing.ensures.value)
    (subst (λ (ts : List Top). HasOwing (leaves_of ts)) c.deref.ensures.value (c.has_owing.ensures.owing c.if-has_owing.true)) s stands)

pub returns-else-has_owing-clause-row : goal.returns-else-has_owing-clause-row
returns-else-has_owing-clause-row c = λ s stands.
    rests c.args.self.now c.self.inside.tops.items (ap (λ (q : PoolParts). q.tops) (sym c.self.view_is))
    (λ has. c.has_owing.ensures.none c.if-has_owing.false (subst (λ (ts : List Top). HasOwing (leaves_of ts)) (sym c.deref.ensures.value) has)) s stands
