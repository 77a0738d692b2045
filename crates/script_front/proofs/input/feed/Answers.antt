use Rattle.std.proofs.Common.{arith, ℕ, ◌+◌, List, [], ◌∷◌, ◌++◌, take, drop, get_or, subst}
use Rattle.std.proofs.lemmas.List.{take_more}
use Rattle.pool_runs.specs.HostRows.{acts_in}
use Rattle.pool_runs.specs.Hosts.{host_along}
use Rattle.script_front.specs.Feeding.{StopsBy}
use Rattle.script_front.proofs.Feedings.{feeds_none, feeds_more, stops_more, stops_within, piece_split}
use Rattle.script_front.proofs.input.feed.Goals as goal

pub loop-b-init : goal.loop-b-init
loop-b-init g c = record {
  seated = c.requires.seated;
  feeds = λ h stands. feeds_none c.args.waiting.now.items c.requires.open_line c.requires.fits stands;
  open_line = c.requires.open_line;
  fits = c.requires.fits;
  counts = omega arith;
}

pub returns-in-Err-clause-stops : goal.returns-in-Err-clause-stops
returns-in-Err-clause-stops g c = λ h stands.
    let a = c.loop-b.invariant.feeds h stands in
    let b = c.in-Err.ensures.stops (host_along (acts_in a.entries) h) a.stands in
    let first = take c.loop-b.b-index c.args.piece.now ++ get_or c.args.piece.now c.loop-b.b-index 0 ∷ [] in
    subst (λ (piece : List ℕ). StopsBy c.in-Err.stop h c.args.waiting.now.items piece c.args.host.now c.take_byte.new.host
    (g.B.Bank.view c.args.bank.now) (g.B.Bank.view c.take_byte.new.bank) (g.W.Sink.contents c.args.output.now) (g.W.Sink.contents c.take_byte.new.output)
    (g.C.Clock.gave c.args.clock.now) (g.C.Clock.gave c.take_byte.new.clock))
    (piece_split c.args.piece.now c.loop-b.b-index c.loop-b-test.true)
    (stops_within h _ _ _ _ _ _ _ _ c.args.waiting.now.items first (drop (c.loop-b.b-index + 1) c.args.piece.now) c.in-Err.stop
    (stops_more h _ _ _ _ _ _ _ _ _ _ _ _ c.args.waiting.now.items (take c.loop-b.b-index c.args.piece.now) c.loop-b.waiting.items
    (get_or c.args.piece.now c.loop-b.b-index 0 ∷ []) c.in-Err.stop a b))

pub loop-b-preserved : goal.loop-b-preserved
loop-b-preserved g c = record {
  seated = c.in-Ok.ensures.seated;
  feeds = λ h stands.
      let a = c.loop-b.invariant.feeds h stands in
      rw (take_more c.args.piece.now c.loop-b.b-index 0 c.loop-b-test.true)
      (feeds_more c.args.waiting.now.items (take c.loop-b.b-index c.args.piece.now) c.loop-b.waiting.items
      (get_or c.args.piece.now c.loop-b.b-index 0 ∷ []) c.take_byte.new.waiting.items a (c.in-Ok.ensures.feeds (host_along (acts_in a.entries) h) a.stands));
  open_line = c.in-Ok.ensures.open_line;
  fits = c.in-Ok.ensures.fits;
  counts = omega arith;
}
