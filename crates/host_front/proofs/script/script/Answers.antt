use Rattle.std.proofs.Common.{rules, arith, ◌∙◌, take}
use Rattle.host_front.proofs.Scripts.{so_far_none, so_far_more, source_ran, stop_ran, finish_ran}
use Rattle.host_front.proofs.script.script.Goals as goal

pub input-init : goal.input-init
input-init g c = record {
  size = search rules;
  numbers = search rules;
  lookups = search rules;
  seated = c.requires.seated;
  so_far = λ h stands. rw c.new-waiting.ensures.items (so_far_none stands);
  open_line = rw c.new-waiting.ensures.items tt;
  fits = omega (arith, c.new-waiting.ensures.len);
  source = omega arith;
  sink = omega arith;
}

pub returns-then-n-eq0-clause-ran : goal.returns-then-n-eq0-clause-ran
returns-then-n-eq0-clause-ran g c = λ h stands.
    let a = c.input.invariant.so_far h stands in
    finish_ran h _ _ _ _ _ _ _ _ _ _ _ _ _ _ _ _ c.input.host c.input.waiting.items a (rw c.if-n-eq0.true at c.in-Ok.ensures.bytes) c.finish.result
    (c.in-Ok.ensures.end c.if-n-eq0.true) (rw c.deref.ensures.value at (c.finish.ensures.ends a.feeds.next a.feeds.stands))

pub returns-in-Err-feed-clause-ran : goal.returns-in-Err-feed-clause-ran
returns-in-Err-feed-clause-ran g c = λ h stands.
    let a = c.input.invariant.so_far h stands in
    rw c.status.ensures (stop_ran h _ _ _ _ _ _ _ _ _ _ _ _ _ _ _ _ c.input.host c.input.waiting.items _ c.in-Err-feed.stop a c.in-Ok.ensures.bytes
    (c.in-Err-feed.ensures.stops a.feeds.next a.feeds.stands))

pub input-preserved : goal.input-preserved
input-preserved g c = record {
  size = λ d. c.feed.ensures.size d ∙ c.input.invariant.size d;
  numbers = λ name. c.feed.ensures.numbers name ∙ c.input.invariant.numbers name;
  lookups = c.feed.ensures.lookups ∙ c.input.invariant.lookups;
  seated = c.feed.ensures.seated;
  so_far = λ h stands.
      let a = c.input.invariant.so_far h stands in
      so_far_more c.input.waiting.items (take c.in-Ok.n c.read.new.out) c.feed.new.waiting.items a c.in-Ok.ensures.bytes
      (c.in_default.ensures.feeds a.feeds.next a.feeds.stands);
  open_line = c.in_default.ensures.open_line;
  fits = c.in_default.ensures.fits;
  source = omega arith;
  sink = omega arith;
}

pub returns-in-Err-clause-ran : goal.returns-in-Err-clause-ran
returns-in-Err-clause-ran g c = λ h stands.
    source_ran _ c.input.host c.input.waiting.items (c.input.invariant.so_far h stands) c.in-Err.ensures.failed
