use Rattle.std.proofs.Common.{Vec, Global, ◌≡◌, ℕ, [], ◌∷◌, All, length, ap, sym, subst, arith, length-append}
use Rattle.std.proofs.lemmas.List.Elements.{All-nil, All-cons, All-append}
use Rattle.txg_engine.proofs.prepare.buffers_for.Goals as goal

pub loop-preserved : goal.loop-preserved
loop-preserved c =
    let buffer = c.in_ok-vec.field-0 in
    let is = c.in_ok-push.ensures.items in
    record {
      count = omega (arith, c.loop.invariant.count, ap length is, length-append c.loop.buffers.items (buffer ∷ []));
      sizes = subst (All (λ (b : Vec ℕ Global). length b.items ≡ 4096)) (sym is)
          (All-append (λ (b : Vec ℕ Global). length b.items ≡ 4096) c.loop.buffers.items
          (buffer ∷ []) c.loop.invariant.sizes
          (All-cons (λ (b : Vec ℕ Global). length b.items ≡ 4096) buffer []
          (ap length (c.in_ok-vec.ensures.items_if_clones_equal (λ y e. e)))
          (All-nil (λ (b : Vec ℕ Global). length b.items ≡ 4096))));
    }
