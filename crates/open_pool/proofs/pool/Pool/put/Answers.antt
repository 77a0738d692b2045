use Rattle.std.proofs.Common.{◌≡◌, ◌≢◌, ◌⊎◌, inl, ℕ, ◌+◌, ◌<◌, ◌≤◌, ◌==◌, cond, not, length, Some, is_some, true, false, Result, Ok, Err, sym, ap, ◌∙◌, subst, arith}
use Rattle.std.specs.Result.{IsErrAnd}
use Rattle.open_pool.specs.declared.write.WriteFault.{WriteFault}
use mir.Val.{bool_byte}
use Rattle.txg_history.specs.Records.{key}
use Rattle.txg_engine.specs.Writes.{OpenGroup, block_at, is_written}
use Rattle.pool_moves.specs.Refusing.{count_below}
use Rattle.open_pool.specs.Form.{IsPool, is_dirty}
use Rattle.open_pool.specs.State.{cells_in}
use Rattle.open_pool.proofs.CountsBelow.{also}
use Rattle.open_pool.specs.Parts.{PoolParts}
use Rattle.open_pool.proofs.OpenChanged.{with_open, write_taken}
use Rattle.open_pool.proofs.WriteRows.{bad_address, full, refused, taken}
use Rattle.open_pool.proofs.DirtyWithOne.{one_more, within}
use Rattle.open_pool.proofs.WritesCounted.{room_for_one}
use Rattle.pool_moves.specs.AwayRows.{RowWrite}
use Rattle.open_pool.specs.Answering.{Answers, OutOfMemory}
use Rattle.open_pool.specs.Writing.{write_says}
use Rattle.open_pool.specs.declared.write.WriteFault.TheVariants as fault
use Rattle.open_pool.proofs.pool.Pool.put.Goals as goal
use Rattle.open_pool.proofs.pool.Pool.put.Goals.{else-is_new-via-then-is_new+else-self-eq-MOST_WRITES, else-is_new-via-else-is_new}

err_is : (r : Result (Unit {0}) WriteFault) (e : WriteFault) → IsErrAnd r (λ x. x ≡ e) → r ≡ Err e
err_is (Ok x) e is = absurd is
err_is (Err x) e is = ap Err is

pub returns-then-addr-limit : goal.returns-then-addr-limit
returns-then-addr-limit c = record {
  row = λ s stands. inl (bad_address c.args.self.now c.args.addr c.args.block.now c.blocks-limit.result
      (c.blocks-limit.ensures.blocks ∙ ap (λ (p : PoolParts). p.map.blocks) c.self.view_is) c.if-addr-limit.true s stands);
}

pub returns-then-self-eq-MOST_WRITES : goal.returns-then-self-eq-MOST_WRITES
returns-then-self-eq-MOST_WRITES c =
    let off : is_dirty c.args.self.now c.args.addr ≡ false = sym c.if-is_new.ensures in
    let most : c.args.self.now.dirty ≡ 4096 = ap (λ (p : PoolParts). p.dirty) (sym c.self.view_is) ∙ c.if-self-eq-MOST_WRITES.true in
    let low : c.args.addr < c.args.self.now.map.blocks = subst (λ n. c.args.addr < n)
    (c.blocks-limit.ensures.blocks ∙ ap (λ (p : PoolParts). p.map.blocks) c.self.view_is) c.if-addr-limit.false in
    record {
      row = λ s stands. inl (full c.args.self.now c.args.addr c.args.block.now c.keeps_its_form.ensures.pool low off most s stands);
    }

pub returns-in_err-check_space : goal.returns-in_err-check_space
returns-in_err-check_space c =
    let p = c.args.self.now in
    let pool = c.keeps_its_form.ensures.pool in
    let low : c.args.addr < p.map.blocks = subst (λ n. c.args.addr < n)
    (c.blocks-limit.ensures.blocks ∙ ap (λ (q : PoolParts). q.map.blocks) c.self.view_is) c.if-addr-limit.false in
    let same : c.from_residual.result ≡ Err c.in_err-check_space.field-0.0 =
    err_is c.from_residual.result c.in_err-check_space.field-0.0 c.from_residual.ensures.1 in
    let fits : is_dirty p c.args.addr ≡ false → p.dirty ≢ 4096 = λ off most. elim c.else-is_new.branch [
      | else-is_new-via-then-is_new+else-self-eq-MOST_WRITES w ↦ w.if-self-eq-MOST_WRITES.false (ap (λ (q : PoolParts). q.dirty) c.self.view_is ∙ most)
      | else-is_new-via-else-is_new w ↦ absurd (let no : false ≡ true = sym off ∙ sym c.is_dirty-is_new.ensures ∙ w.if-is_new.false in cc)
    ] in
    let few = within p pool c.args.addr low fits in
    record {
      row = λ s stands. subst (λ r. Answers (RowWrite s c.args.addr c.args.block.now) write_says r s p ⊎ OutOfMemory (Err fault.Memory) r s p) (sym same)
          (refused p c.args.addr c.args.block.now pool low few c.keeps_its_form.ensures.counted c.in_err-check_space.field-0.0
          c.in_err-check_space.ensures.err s stands);
    }

pub put-requires-clause-room : goal.put-requires-clause-room
put-requires-clause-room c =
    let p = c.args.self.now in
    let pool = c.keeps_its_form.ensures.pool in
    let low : c.args.addr < p.map.blocks = subst (λ n. c.args.addr < n)
    (c.blocks-limit.ensures.blocks ∙ ap (λ (q : PoolParts). q.map.blocks) c.self.view_is) c.if-addr-limit.false in
    let fits : is_dirty p c.args.addr ≡ false → p.dirty ≢ 4096 = λ off most. elim c.else-is_new.branch [
      | else-is_new-via-then-is_new+else-self-eq-MOST_WRITES w ↦ w.if-self-eq-MOST_WRITES.false (ap (λ (q : PoolParts). q.dirty) c.self.view_is ∙ most)
      | else-is_new-via-else-is_new w ↦ absurd (let no : false ≡ true = sym off ∙ sym c.is_dirty-is_new.ensures ∙ w.if-is_new.false in cc)
    ] in
    let few = within p pool c.args.addr low fits in
    let open_is : p.unfrozen ≡ c.self.inside.open = ap (λ (q : PoolParts). q.unfrozen) (sym c.self.view_is) in
    subst (λ (group : OpenGroup). is_written group.writes c.args.addr ≡ false → length group.writes < group.room) open_is
    (λ off. let less = room_for_one p.map.blocks 4096 c.args.addr p.unfrozen.writes (λ x. is_some (cells_in p.frozen (key 0 x)))
    c.keeps_its_form.ensures.rise pool.unfrozen.inside low off few in let room = pool.unfrozen.room in omega (arith, less, room))

pub invariant_of-self-2 : goal.invariant_of-self-2
invariant_of-self-2 c =
    let p = c.args.self.now in
    let pool = c.keeps_its_form.ensures.pool in
    let low : c.args.addr < p.map.blocks = subst (λ n. c.args.addr < n)
    (c.blocks-limit.ensures.blocks ∙ ap (λ (q : PoolParts). q.map.blocks) c.self.view_is) c.if-addr-limit.false in
    let fits : is_dirty p c.args.addr ≡ false → p.dirty ≢ 4096 = λ off most. elim c.else-is_new.branch [
      | else-is_new-via-then-is_new+else-self-eq-MOST_WRITES w ↦ w.if-self-eq-MOST_WRITES.false (ap (λ (q : PoolParts). q.dirty) c.self.view_is ∙ most)
      | else-is_new-via-else-is_new w ↦ absurd (let no : false ≡ true = sym off ∙ sym c.is_dirty-is_new.ensures ∙ w.if-is_new.false in cc)
    ] in
    let few = within p pool c.args.addr low fits in
    let open_is : p.unfrozen ≡ c.self.inside.open = ap (λ (q : PoolParts). q.unfrozen) (sym c.self.view_is) in
    let dirty_is : p.dirty ≡ c.self.inside.dirty = ap (λ (q : PoolParts). q.dirty) (sym c.self.view_is) in
    let blocks : (x : ℕ) → block_at c.put.new.self.writes x ≡ cond (c.args.addr == x) (Some c.args.block.now) (block_at p.unfrozen.writes x) =
    subst (λ (group : OpenGroup). (x : ℕ) → block_at c.put.new.self.writes x ≡ cond (c.args.addr == x) (Some c.args.block.now) (block_at group.writes x))
    (sym open_is) c.in_ok-put.ensures.ok in
    let room : p.unfrozen.room ≤ c.put.new.self.room = subst (λ (group : OpenGroup). group.room ≤ c.put.new.self.room) (sym open_is) c.in_ok-put.ensures.room in
    let count : count_below p.map.blocks (also c.args.addr (is_dirty p)) ≡ c.self.inside.dirty + c.from.result =
    one_more p pool c.args.addr low
    ∙ ap (λ n. n + bool_byte (not (is_dirty p c.args.addr))) dirty_is
    ∙ ap (λ b. c.self.inside.dirty + bool_byte (not b)) (sym c.is_dirty-is_new.ensures)
    ∙ ap (λ n. c.self.inside.dirty + n) (sym c.from.ensures) in (
      subst (λ (q : PoolParts). IsPool (with_open q c.put.new.self (c.self.inside.dirty + c.from.result))) (sym c.self.view_is)
          (write_taken p pool c.args.addr c.args.block.now c.put.new.self low blocks room (c.self.inside.dirty + c.from.result) count
          (subst (λ n. n ≤ 4096) count few)),
      c.self.invariant.1,
    )

pub returns : goal.returns
returns c =
    let p = c.args.self.now in
    let pool = c.keeps_its_form.ensures.pool in
    let low : c.args.addr < p.map.blocks = subst (λ n. c.args.addr < n)
    (c.blocks-limit.ensures.blocks ∙ ap (λ (q : PoolParts). q.map.blocks) c.self.view_is) c.if-addr-limit.false in
    let fits : is_dirty p c.args.addr ≡ false → p.dirty ≢ 4096 = λ off most. elim c.else-is_new.branch [
      | else-is_new-via-then-is_new+else-self-eq-MOST_WRITES w ↦ w.if-self-eq-MOST_WRITES.false (ap (λ (q : PoolParts). q.dirty) c.self.view_is ∙ most)
      | else-is_new-via-else-is_new w ↦ absurd (let no : false ≡ true = sym off ∙ sym c.is_dirty-is_new.ensures ∙ w.if-is_new.false in cc)
    ] in
    let few = within p pool c.args.addr low fits in
    let open_is : p.unfrozen ≡ c.self.inside.open = ap (λ (q : PoolParts). q.unfrozen) (sym c.self.view_is) in
    let blocks : (x : ℕ) → block_at c.put.new.self.writes x ≡ cond (c.args.addr == x) (Some c.args.block.now) (block_at p.unfrozen.writes x) =
    subst (λ (group : OpenGroup). (x : ℕ) → block_at c.put.new.self.writes x ≡ cond (c.args.addr == x) (Some c.args.block.now) (block_at group.writes x))
    (sym open_is) c.in_ok-put.ensures.ok in
    record {
      row = λ s stands. inl (subst (λ (q : PoolParts). Answers (RowWrite s c.args.addr c.args.block.now) write_says (Ok tt) s
          (with_open q c.put.new.self (c.self.inside.dirty + c.from.result))) (sym c.self.view_is)
          (taken p c.args.addr c.args.block.now pool low few c.keeps_its_form.ensures.counted c.in_ok-check_space.ensures.ok c.put.new.self
          (c.self.inside.dirty + c.from.result) blocks s stands));
    }
