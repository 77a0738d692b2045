use Rattle.std.proofs.Common.{ℕ, List, length, ap, sym, ◌∙◌, refl, Err}
use Rattle.mp_base.specs.declared.range.GroupRange.{GroupRange}
use Rattle.pool_config.specs.Members.{with_leaf}
use Rattle.pool_config.proofs.Taking.{handed_on, bad_name}
use Rattle.pool_config.proofs.TakingLeaves.{leaf_unlogged, leaf_unnamed, log_rises, leaf_taken}
use Rattle.pool_config.proofs.reading.read_leaf.Goals as goal

pub returns-in_err-log-clause-none : goal.returns-in_err-log-clause-none
returns-in_err-log-clause-none c = λ none.
    let same = handed_on c.in_err-log.field-0.0 _ c.from_residual.result c.from_residual.ensures.1 none in
    leaf_unlogged c.args.number c.args.cursor.now c.read_leaf_head-head.new.cursor c.read_leaf_head-head.ensures.rest
    (c.in_err-log.ensures.none (ap Err same))

pub returns-in_err-name-clause-none : goal.returns-in_err-name-clause-none
returns-in_err-name-clause-none c = λ none.
    let bad = bad_name c.in_err-name.field-0.0 c.from_residual-in_err-name.result c.from_residual-in_err-name.ensures.1
    none in
    leaf_unnamed c.args.number c.args.cursor.now c.read_leaf_head-head.result.name.now
    c.read_leaf_head-head.ensures.name (c.in_err-name.ensures.bad.0 (ap Err bad))

pub from_ranges-requires : goal.from_ranges-requires
from_ranges-requires c =
    rw c.as_slice-2.ensures (log_rises c.args.number c.in_ok-log.log c.requires c.in_ok-log.ensures.rises)

pub returns-clause-taken : goal.returns-clause-taken
returns-clause-taken c =
    leaf_taken c.args.number c.args.cursor.now c.read_leaf_head-head.new.cursor c.read_leaf_head-head.result.name.now
    c.read_log.new.cursor c.read_leaf_head-head.result.flags c.in_ok-log.log
    c.args.members.now c.add_leaf.new.self _
    (record {
      last = c.requires;
      guid = c.read_leaf_head-head.ensures.guid;
      text = c.read_leaf_head-head.ensures.name;
      flags = c.read_leaf_head-head.ensures.flags;
      at_log = c.read_leaf_head-head.ensures.rest;
      name = c.name.view_is ∙ c.in_ok-name.ensures.ok;
      named = c.name.invariant;
      state = c.state_in.ensures.state;
      kept = c.state_in.ensures.kept;
      one_kept = c.state_in.ensures.recorded;
      temporary = refl;
      marked = c.is_marked.ensures;
      log = c.in_ok-log.ensures.log;
      groups = λ g. rw (sym c.as_slice-2.ensures) (c.in_ok-from_ranges.ensures.groups g);
      few = c.in_ok-log.ensures.few;
      rising = c.in_ok-log.ensures.rises;
      stop = c.in_ok-log.ensures.rest;
      listed = c.in_ok-add_leaf.ensures
          ∙ ap (λ (n : List ℕ). with_leaf c.args.members.now c.read_leaf_head-head.result.guid.0 n
          (length c.as_slice.result.now)) (sym c.name.view_is)
          ∙ ap (λ (r : List GroupRange). with_leaf c.args.members.now c.read_leaf_head-head.result.guid.0
          c.name.inside.bytes.items (length r)) c.as_slice.ensures;
      dev = refl;
      settled = c.new-2.ensures.groups;
      reads = refl;
      writes = refl;
      mismatches = refl;
    })
