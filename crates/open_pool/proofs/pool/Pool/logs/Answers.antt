use Rattle.std.proofs.Common.{◌≡◌, ◌≤◌, length, sym, ap, ◌∙◌, subst}
use Rattle.dtl_rules.specs.Widening.{leaves_of}
use Rattle.open_pool.specs.Parts.{PoolParts, all_parts}
use Rattle.open_pool.proofs.LeavesInForm.{leaves_are, leaves_few}
use Rattle.open_pool.proofs.LogsTold.{told_by}
use Rattle.open_pool.proofs.pool.Pool.logs.Goals as goal

pub logs_of-requires : goal.logs_of-requires
logs_of-requires c =
    let p = c.args.self.now in
    let parts : p.tops ≡ all_parts c.self.inside.tops.items = ap (λ (q : PoolParts). q.tops) (sym c.self.view_is) in
    subst (λ ts. length (leaves_of ts) ≤ 32) (sym c.deref.ensures.value)
    (subst (λ ls. length ls ≤ 32) (leaves_are c.self.inside.tops.items p parts) (leaves_few c.self.inside.tops.items p parts c.keeps_its_form.ensures.pool.recordable))

pub returns : goal.returns
returns c = record {
  row = told_by (λ logs. logs.items) c.args.self.now c.deref.result.now
      (ap (λ (q : PoolParts). q.tops) (sym c.self.view_is) ∙ ap all_parts (sym c.deref.ensures.value)) c.logs_of.result c.logs_of.ensures.logs;
  rise = c.logs_of.ensures.rise;
}
