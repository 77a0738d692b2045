use Rattle.std.proofs.Common.{◌≡◌, ◌≤◌, length, sym, ap, ◌∙◌, subst}
use Rattle.std.specs.Vec.{with_items}
use Rattle.std.proofs.lemmas.List.{take_at}
use Rattle.dtl_rules.specs.Widening.{leaves_of, sectors_of}
use Rattle.block_map.specs.Map.{pointer_at}
use Rattle.block_map.specs.Places.{AreTops, IsPlace}
use Rattle.block_map.specs.Pointers.{IsPointer}
use Rattle.txg_history.specs.Records.{key}
use Rattle.pool_moves.specs.ReadRow.{RowRead}
use Rattle.open_pool.specs.Answering.{Does}
use Rattle.open_pool.specs.Form.{IsPool}
use Rattle.open_pool.specs.Parts.{PoolParts, all_parts}
use Rattle.open_pool.specs.Reading.{answered, read_says}
use Rattle.open_pool.proofs.CopiesRead.{sectors_told, reads_of}
use Rattle.open_pool.proofs.LeavesInForm.{leaves_are, leaves_few}
use Rattle.open_pool.proofs.ReadRows.{of_copies, form_counted}
use Rattle.open_pool.proofs.SeatsOfFreeze.{OnOwnDevices}
use Rattle.open_pool.proofs.pool.Pool.read_copies.Goals as goal

pub read_at-requires-clause-sizes : goal.read_at-requires-clause-sizes
read_at-requires-clause-sizes g c =
    subst (λ ts. AreTops (sectors_of ts)) (sym c.deref_mut.ensures.value)
    (subst AreTops (c.self.invariant.0.tops ∙ sectors_told c.self.inside.tops.items) c.keeps_its_form-2.ensures.tops)

pub read_at-requires-clause-place : goal.read_at-requires-clause-place
read_at-requires-clause-place g c =
    let at = c.requires.pointer ∙ ap (λ (p : PoolParts). pointer_at p.map (key 0 c.args.addr)) (sym c.self.view_is) in
    subst (λ ts. IsPlace (sectors_of ts) c.args.pointer.place) (sym c.deref_mut.ensures.value)
    (subst (λ ns. IsPlace ns c.args.pointer.place) (c.self.invariant.0.tops ∙ sectors_told c.self.inside.tops.items)
    ((subst (IsPointer c.self.inside.map.sectors) (sym at) (c.keeps_its_form-2.ensures.pointers (key 0 c.args.addr))).place c.requires.stored))

pub read_at-requires-clause-few : goal.read_at-requires-clause-few
read_at-requires-clause-few g c =
    let p = c.args.self.now in
    let parts : p.tops ≡ all_parts c.self.inside.tops.items = ap (λ (q : PoolParts). q.tops) (sym c.self.view_is) in
    subst (λ ts. length (leaves_of ts) ≤ 32) (sym c.deref_mut.ensures.value)
    (subst (λ ls. length ls ≤ 32) (leaves_are c.self.inside.tops.items p parts) (leaves_few c.self.inside.tops.items p parts c.keeps_its_form.ensures.pool.recordable))

pub read_at-requires-clause-apart : goal.read_at-requires-clause-apart
read_at-requires-clause-apart g c =
    let p = c.args.self.now in
    let parts : p.tops ≡ all_parts c.self.inside.tops.items = ap (λ (q : PoolParts). q.tops) (sym c.self.view_is) in
    subst (λ ts. OnOwnDevices (leaves_of ts)) (sym c.deref_mut.ensures.value)
    (subst OnOwnDevices (leaves_are c.self.inside.tops.items p parts) c.keeps_its_form.ensures.pool.leaves.apart)

pub invariant_of-self : goal.invariant_of-self
invariant_of-self g c =
    let p = c.args.self.now in
    let parts : p.tops ≡ all_parts c.self.inside.tops.items = ap (λ (q : PoolParts). q.tops) (sym c.self.view_is) in
    let tops : p.tops ≡ all_parts c.deref_mut.result.now = parts ∙ ap all_parts (sym c.deref_mut.ensures.value) in
    let frozen : p.frozen ≡ c.self.inside.frozen = ap (λ (q : PoolParts). q.frozen) (sym c.self.view_is) in
    let r = reads_of p tops frozen c.read_at.ensures.read in
    let all : all_parts (with_items c.self.inside.tops c.read_at.new.tops).items ≡ all_parts c.read_at.new.tops =
    ap all_parts (take_at c.read_at.new.tops _ c.self.inside.tops.len (c.read_at.ensures.long ∙ c.deref_mut.ensures.len)) in (
      subst (λ (x : PoolParts). IsPool (record x { tops = all_parts (with_items c.self.inside.tops c.read_at.new.tops).items; frozen = c.read_at.new.frozen })) (sym c.self.view_is)
          (subst (λ ts. IsPool (record p { tops = ts; frozen = c.read_at.new.frozen })) (sym all)
          (form_counted c.self.inside.tops.items p parts c.keeps_its_form.ensures.pool c.args.addr c.requires.low c.requires.unwritten c.args.pointer c.requires.pointer
          c.requires.stored (all_parts c.read_at.new.tops) c.read_at.new.frozen (answered c.read_at.new.out c.read_at.result) _ _ r)),
      c.self.invariant.1,
    )

pub returns : goal.returns
returns g c =
    let p = c.args.self.now in
    let parts : p.tops ≡ all_parts c.self.inside.tops.items = ap (λ (q : PoolParts). q.tops) (sym c.self.view_is) in
    let tops : p.tops ≡ all_parts c.deref_mut.result.now = parts ∙ ap all_parts (sym c.deref_mut.ensures.value) in
    let frozen : p.frozen ≡ c.self.inside.frozen = ap (λ (q : PoolParts). q.frozen) (sym c.self.view_is) in
    let r = reads_of p tops frozen c.read_at.ensures.read in
    let all : all_parts (with_items c.self.inside.tops c.read_at.new.tops).items ≡ all_parts c.read_at.new.tops =
    ap all_parts (take_at c.read_at.new.tops _ c.self.inside.tops.len (c.read_at.ensures.long ∙ c.deref_mut.ensures.len)) in
    record {
      row = λ s stands.
          subst (λ (x : PoolParts). Does (RowRead s c.args.addr) read_says (answered c.read_at.new.out c.read_at.result) s
          (record x { tops = all_parts (with_items c.self.inside.tops c.read_at.new.tops).items; frozen = c.read_at.new.frozen }) (g.B.Bank.view c.args.bank.now) (g.B.Bank.view c.read_at.new.bank)) (sym c.self.view_is)
          (subst (λ ts. Does (RowRead s c.args.addr) read_says (answered c.read_at.new.out c.read_at.result) s (record p { tops = ts; frozen = c.read_at.new.frozen }) (g.B.Bank.view c.args.bank.now) (g.B.Bank.view c.read_at.new.bank)) (sym all)
          (of_copies c.self.inside.tops.items p parts c.keeps_its_form.ensures.pool c.args.addr c.requires.low c.requires.unwritten c.args.pointer c.requires.pointer
          c.requires.stored (all_parts c.read_at.new.tops) c.read_at.new.frozen (answered c.read_at.new.out c.read_at.result) _ _ r s stands));
    }
