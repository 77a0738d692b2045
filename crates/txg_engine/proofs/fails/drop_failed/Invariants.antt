use Rattle.std.proofs.Common.{◌≡◌, List, drop}
use Rattle.std.specs.Prelude.{All}
use Rattle.dtl_rules.specs.Widening.{leaves_of, marks_of, sectors_of}
use Rattle.vdev_tree.specs.declared.vdev.LeafVdev.{LeafVdev}
use Rattle.txg_engine.specs.Boards.{behind_turn}
use Rattle.txg_engine.specs.Logs.{AreBehind, IsReady}
use Rattle.txg_engine.proofs.fails.drop_failed.Given as goal

-- what is left makes of what is now what all makes of what was
abbrev pub invariant-loop-i : goal.invariant-loop-i
invariant-loop-i l = record {
  board : behind_turn (drop l.i l.members) (drop l.i l.done) l.board ≡ behind_turn l.members l.done l.initial.board;
  leaves : (all : List LeafVdev) → AreBehind l.numbers (drop l.i l.members) (drop l.i l.done) (leaves_of l.tops) all
      → AreBehind l.numbers l.members l.done (leaves_of l.initial.tops) all;
  ready : All (IsReady l.board l.numbers.last.0) (leaves_of l.tops);
  built : marks_of l.tops ≡ marks_of l.initial.tops;
  sectors : sectors_of l.tops ≡ sectors_of l.initial.tops;
}
