use Rattle.std.proofs.Common.{◌≡◌, ◌==◌, ◌||◌, map, ap, sym, ◌∙◌, subst}
use Rattle.std.specs.List.{insert, list_any}
use Rattle.block_map.specs.Dirty.{Rises}
use Rattle.txg_engine.specs.Freezing.{addr_of}
use Rattle.txg_engine.specs.Writes.{OpenGroup, is_written, IsGap, IsThere}
use Rattle.txg_engine.proofs.AddressesRise.{addrs_rise, one_more_rises, one_more_are, written_again}
use Rattle.txg_engine.proofs.open.Open.addrs_with.Goals as goal
use Rattle.txg_engine.proofs.open.Open.addrs_with.Goals.{in-Err+in_ok-insert, in_default}

pub returns-clause-rise : goal.returns-clause-rise
returns-clause-rise c =
    let ws = c.self.inside.writes.items in
    let before : c.in_ok-addrs.addrs.items ≡ map addr_of ws = rw c.deref.ensures.value at c.in_ok-addrs.ensures in
    elim c.match-find.branch [
      | in-Err+in_ok-insert w ↦
          let gap : IsGap ws c.args.addr w.in-Err.at = rw c.deref-2.ensures.value at w.in-Err.ensures in
          let is : c.match-find.addrs.items ≡ insert c.in_ok-addrs.addrs.items w.in-Err.at c.args.addr =
          ap (λ v. v.items) w.addrs-is ∙ w.in_ok-insert.ensures.items in
          subst Rises (sym (is ∙ ap (λ xs. insert xs w.in-Err.at c.args.addr) before))
          (one_more_rises c.args.addr ws c.self.invariant.rise w.in-Err.at gap)
      | in_default w ↦
          subst Rises (sym (ap (λ v. v.items) w.addrs-is ∙ before)) (addrs_rise 0 ws c.self.invariant.rise)
    ]

pub returns-clause-are : goal.returns-clause-are
returns-clause-are c = λ x.
    let ws = c.self.inside.writes.items in
    let seen : is_written ws x ≡ is_written c.args.self.now.writes x =
    ap (λ (group : OpenGroup). is_written group.writes x) c.self.view_is in
    let before : c.in_ok-addrs.addrs.items ≡ map addr_of ws = rw c.deref.ensures.value at c.in_ok-addrs.ensures in
    elim c.match-find.branch [
      | in-Err+in_ok-insert w ↦
          let gap : IsGap ws c.args.addr w.in-Err.at = rw c.deref-2.ensures.value at w.in-Err.ensures in
          let is : c.match-find.addrs.items ≡ insert c.in_ok-addrs.addrs.items w.in-Err.at c.args.addr =
          ap (λ v. v.items) w.addrs-is ∙ w.in_ok-insert.ensures.items in
          ap (list_any (λ a. a == x)) (is ∙ ap (λ xs. insert xs w.in-Err.at c.args.addr) before)
          ∙ one_more_are c.args.addr ws c.self.invariant.rise w.in-Err.at x gap
          ∙ ap (λ b. (c.args.addr == x) || b) seen
      | in_default w ↦
          let there : IsThere ws c.args.addr w.in_default.field-0 = rw c.deref-2.ensures.value at w.in_default.ensures in
          ap (λ v. list_any (λ a. a == x) v.items) w.addrs-is
          ∙ ap (list_any (λ a. a == x)) before
          ∙ written_again c.args.addr ws c.self.invariant.rise w.in_default.field-0 x there
          ∙ ap (λ b. (c.args.addr == x) || b) seen
    ]
