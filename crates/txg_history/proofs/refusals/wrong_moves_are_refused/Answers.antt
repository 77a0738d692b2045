use Rattle.txg_history.proofs.Refusing.{no_reuse, no_early_round, no_empty_board, no_early_uberblock, no_skipped_key, no_early_clear}
use Rattle.txg_history.proofs.refusals.wrong_moves_are_refused.Goals as goal

pub returns : goal.returns
returns c = record {
  reuse = no_reuse;
  early_round = no_early_round;
  empty_board = no_empty_board;
  early_uberblock = no_early_uberblock;
  skipped = no_skipped_key;
  early_clear = no_early_clear;
}
