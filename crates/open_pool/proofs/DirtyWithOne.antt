-- How many addresses the open group and the frozen one have with one more.
use Rattle.std.proofs.Common.{◌≡◌, ◌≢◌, ⊎_elim, ℕ, ◌+◌, ◌<◌, ◌≤◌, ◌==◌, ◌||◌, not, Bool, true, false, List, Option, Some, None, refl, ap, ◌∙◌, arith}
use Rattle.std.specs.Prelude.{is_some}
use Rattle.std.proofs.lemmas.Bool.{cases_Bool}
use mir.Val.{bool_byte}
use Rattle.mp_base.specs.declared.place.Key.{Key}
use Rattle.txg_history.specs.Records.{key}
use Rattle.txg_engine.specs.Frozen.{FrozenGroup}
use Rattle.txg_engine.specs.Writes.{is_written}
use Rattle.pool_moves.specs.Refusing.{count_below, dirty_with}
use Rattle.pool_moves.specs.States.{Sums}
use Rattle.open_pool.specs.Form.{IsPool, is_dirty}
use Rattle.open_pool.specs.Parts.{PoolParts}
use Rattle.open_pool.specs.State.{cells_in, group_of, state_of}
use Rattle.open_pool.proofs.CountsBelow.{also, count_same, count_also, count_again}

group_cells : (frozen : Option FrozenGroup) (k : Key) → (group_of frozen).cells k ≡ cells_in frozen k
group_cells None k = refl
group_cells (Some group) k = refl

pub or_behind : (a b c : Bool) → ((a || b) || c) ≡ (a || (b || c))
or_behind true b c = refl
or_behind false b c = refl

-- what the state has with one more is what the code has
dirty_too : (held : List Sums) (p : PoolParts) (a x : ℕ) → dirty_with a (state_of held p) x ≡ also a (is_dirty p) x
dirty_too held p a x =
    ap (λ cell. ((a == x) || is_written p.unfrozen.writes x) || is_some cell) (group_cells p.frozen (key 0 x))
    ∙ or_behind (a == x) (is_written p.unfrozen.writes x) (is_some (cells_in p.frozen (key 0 x)))

pub same_count : (held : List Sums) (p : PoolParts) (a : ℕ)
    → count_below p.map.blocks (dirty_with a (state_of held p)) ≡ count_below p.map.blocks (also a (is_dirty p))
same_count held p a =
    count_same p.map.blocks (dirty_with a (state_of held p)) (also a (is_dirty p)) (λ x lt. dirty_too held p a x)

module _ (p : PoolParts) (pool : IsPool p) (a : ℕ) (low : a < p.map.blocks) where
  -- one more, where neither group has it
  pub one_more : count_below p.map.blocks (also a (is_dirty p)) ≡ p.dirty + bool_byte (not (is_dirty p a))
  one_more =
      let count = pool.unfrozen.count in
      ⊎_elim
      (λ on. let same = count_again p.map.blocks a (is_dirty p) on in rw (on, same, count) (omega arith))
      (λ off. let more = count_also p.map.blocks a (is_dirty p) low off in rw (off, more, count) (omega arith))
      (cases_Bool (is_dirty p a))

  pub within : (is_dirty p a ≡ false → p.dirty ≢ 4096) → count_below p.map.blocks (also a (is_dirty p)) ≤ 4096
  within fits =
      let few = pool.unfrozen.few in
      let one = one_more in
      ⊎_elim {A = is_dirty p a ≡ true} {B = is_dirty p a ≡ false} (λ on. rw (one, on) (omega (arith, few)))
      (λ off. let less = fits off in rw (one, off) (omega (arith, few, less))) (cases_Bool (is_dirty p a))
