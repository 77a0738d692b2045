-- A group without keys may be frozen.
use Rattle.std.proofs.Common.{◌≡◌, ℕ, ◌≤◌, Bool, true, false, Some, None}
use Rattle.txg_history.specs.Moves.{MayFreeze}
use Rattle.txg_history.specs.Pages.{Codec}
use Rattle.txg_history.specs.Pools.{Pool}
use Rattle.txg_history.specs.Records.{Cell, block_at}

no_cell : {A : Type 0} (cell : Cell) → None ≡ Some cell → A
no_cell cell e = absurd (cc)

pub empty_freeze : (c : Codec) (p : Pool) (board : ℕ → Bool) → p.group.frozen ≡ false → ((a : ℕ) → block_at p.reads a ≡ p.written a)
    → ((d : ℕ) → p.member d ≡ true → board d ≡ true → 1 ≤ p.in_top d) → MayFreeze c p (λ k. None) board
empty_freeze c p board none answers boarded = record {
  none = none;
  births = λ k cell e. no_cell cell e;
  long = λ k cell e. no_cell cell e;
  free = λ k cell e. no_cell cell e;
  inside = λ k cell e. no_cell cell e;
  apart = λ j k a b e f one. no_cell a e;
  dirty = record {
    up = λ level index j cell low lt e. no_cell cell e;
    formed = λ level index cell low e. no_cell cell e;
    pages = λ level index cell low e. no_cell cell e;
  };
  blocks = answers;
  boarded = boarded;
}
