-- The same devices under other numbers, as a further run may have them.
use Rattle.std.specs.Prelude.{◌≡◌, ℕ}
use Rattle.txg_history.specs.Pools.{Pool}

-- device d has what device `was d` had
abbrev pub renumbered : (was : ℕ → ℕ) → Pool → Pool
renumbered was p = record p {
  member = λ d. p.member (was d);
  guid = λ d. p.guid (was d);
  size = λ d. p.size (was d);
  home = λ d. p.home (was d);
  sectors = λ d. p.sectors (was d);
  since = λ d. p.since (was d);
  copies = λ d. p.copies (was d);
  status = λ d. p.status (was d);
  in_top = λ d. p.in_top (was d);
  owes = λ d. p.owes (was d);
  unbroken = λ d. p.unbroken (was d);
  settled = λ d. p.settled (was d);
  group = record (p.group) { board = λ d. p.group.board (was d) };
  scan = record (p.scan) { eligible = λ d. p.scan.eligible (was d); scrub = λ d. p.scan.scrub (was d) };
}

-- What a pool has apart from its devices is the same of both: its records, what a read answers, and its group, scan and pins.
pub record AreOnePool (p q : Pool) : Type 0 where
  pub name : q.name ≡ p.name
  pub pool : q.pool ≡ p.pool
  pub room : q.room ≡ p.room
  pub acked : q.acked ≡ p.acked
  pub acks : q.acks ≡ p.acks
  pub live : q.live ≡ p.live
  pub given : q.given ≡ p.given
  pub missed : q.missed ≡ p.missed
  pub reads : q.reads ≡ p.reads
  pub opened : q.opened ≡ p.opened
  pub written : q.written ≡ p.written
  pub highest : q.highest ≡ p.highest
  pub frozen : q.group.frozen ≡ p.group.frozen
  pub first : q.group.first ≡ p.group.first
  pub cells : q.group.cells ≡ p.group.cells
  pub content : q.group.content ≡ p.group.content
  pub done : q.group.done ≡ p.group.done
  pub flushed : q.group.flushed ≡ p.group.flushed
  pub fresh : q.group.fresh ≡ p.group.fresh
  pub begun : q.group.begun ≡ p.group.begun
  pub pinned : q.pinned ≡ p.pinned
  pub running : q.scan.running ≡ p.scan.running
  pub hi : q.scan.hi ≡ p.scan.hi
  pub passed : q.scan.passed ≡ p.scan.passed
