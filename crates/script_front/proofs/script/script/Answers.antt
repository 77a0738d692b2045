use Rattle.std.proofs.Common.{arith, take}
use Rattle.pool_runs.specs.HostRows.{acts_in}
use Rattle.pool_runs.specs.Hosts.{host_along}
use Rattle.script_front.proofs.Scripts.{so_far_none, so_far_more, source_ran, stop_ran, finish_ran}
use Rattle.script_front.proofs.script.script.Goals as goal

pub input-init : goal.input-init
input-init g c = record {
  seated = c.requires.seated;
  so_far = λ h stands. rw c.new-waiting.ensures.items (so_far_none stands);
  open_line = rw c.new-waiting.ensures.items tt;
  fits = omega (arith, c.new-waiting.ensures.len);
  source = omega arith;
  sink = omega arith;
}

pub returns-then-n-eq0-clause-ran : goal.returns-then-n-eq0-clause-ran
returns-then-n-eq0-clause-ran g c = λ h stands.
    let a = c.input.invariant.so_far h stands in
    finish_ran h _ _ _ _ _ _ _ _ _ _ _ _ _ _ _ c.input.waiting.items a (rw c.if-n-eq0.true at c.in-Ok.ensures.bytes) c.finish.result
    (c.in-Ok.ensures.end c.if-n-eq0.true) (rw c.deref.ensures.value at (c.finish.ensures.ends (host_along (acts_in a.feeds.entries) h) a.feeds.stands))

pub returns-in-Err-feed-clause-ran : goal.returns-in-Err-feed-clause-ran
returns-in-Err-feed-clause-ran g c = λ h stands.
    let a = c.input.invariant.so_far h stands in
    rw c.status.ensures (stop_ran h _ _ _ _ _ _ _ _ _ _ _ _ _ _ _ c.input.waiting.items _ c.in-Err-feed.stop a c.in-Ok.ensures.bytes
    (c.in-Err-feed.ensures.stops (host_along (acts_in a.feeds.entries) h) a.feeds.stands))

pub input-preserved : goal.input-preserved
input-preserved g c = record {
  seated = c.feed.ensures.seated;
  so_far = λ h stands.
      let a = c.input.invariant.so_far h stands in
      so_far_more c.input.waiting.items (take c.in-Ok.n c.read.new.out) c.feed.new.waiting.items a c.in-Ok.ensures.bytes
      (c.in_default.ensures.feeds (host_along (acts_in a.feeds.entries) h) a.feeds.stands);
  open_line = c.in_default.ensures.open_line;
  fits = c.in_default.ensures.fits;
  source = omega arith;
  sink = omega arith;
}

pub returns-in-Err-clause-ran : goal.returns-in-Err-clause-ran
returns-in-Err-clause-ran g c = λ h stands.
    source_ran c.input.waiting.items (c.input.invariant.so_far h stands) c.in-Err.ensures.failed
