use Rattle.std.proofs.Common.{ap, refl, sym, ◌∙◌, Err}
use Rattle.mp_base.specs.Name.{is_name}
use Rattle.pool_config.specs.Reading.{tops_in, seen_in}
use Rattle.pool_config.specs.Validity.{are_parts}
use Rattle.pool_config.proofs.Taking.{handed_on, bad_name}
use Rattle.pool_config.proofs.TakingWhole.{number_bad, name_bad, tops_unread, spares_unread, true_otherwise, no_err}
use Rattle.pool_config.proofs.TakingWhole.{fields_unchecked}
use Rattle.pool_config.proofs.decoding.read.Goals as goal

pub returns-then-not-is_in-clause-none : goal.returns-then-not-is_in-clause-none
returns-then-not-is_in-clause-none c = λ none.
    ap (λ s. are_parts (seen_in s)) (sym c.new-cursor.ensures)
    ∙ number_bad c.new-cursor.result c.read_head-head.result.number.0 c.read_head-head.ensures.number
    (sym c.is_in.ensures ∙ c.if-not-is_in.true)

pub returns-in_err-tops-clause-none : goal.returns-in_err-tops-clause-none
returns-in_err-tops-clause-none c = λ none.
    let same = handed_on c.in_err-tops.field-0.0 _ c.from_residual.result c.from_residual.ensures.1 none in
    ap (λ s. are_parts (seen_in s)) (sym c.new-cursor.ensures)
    ∙ tops_unread c.new-cursor.result c.read_head-head.new.cursor c.read_head-head.result.number
    c.read_head-head.ensures.rest c.read_head-head.ensures.number (c.in_err-tops.ensures.none (ap Err same))

pub returns-in_err-spares-clause-none : goal.returns-in_err-spares-clause-none
returns-in_err-spares-clause-none c = λ none.
    let same = handed_on c.in_err-spares.field-0.0 _ c.from_residual-in_err-spares.result
    c.from_residual-in_err-spares.ensures.1 none in
    ap (λ s. are_parts (seen_in s)) (sym c.new-cursor.ensures)
    ∙ spares_unread c.new-cursor.result c.read_tops.new.cursor
    (c.in_ok-tops.ensures.taken.rest ∙ ap (λ s. (tops_in s).rest) c.read_head-head.ensures.rest)
    (c.in_err-spares.ensures.none (ap Err same))

pub returns-in_err-new-clause-none : goal.returns-in_err-new-clause-none
returns-in_err-new-clause-none c = λ none.
    let bad = bad_name c.in_err-new.field-0.0 c.from_residual-in_err-new.result c.from_residual-in_err-new.ensures.1
    none in
    ap (λ s. are_parts (seen_in s)) (sym c.new-cursor.ensures)
    ∙ name_bad c.new-cursor.result c.read_head-head.result.name.now c.read_head-head.ensures.name
    (c.in_err-new.ensures.bad.0 (ap Err bad))

pub returns-clause-unchecked : goal.returns-clause-unchecked
returns-clause-unchecked c =
    fields_unchecked _ _ c.args.bytes.now c.new-cursor.ensures
    (record {
      pool_is = c.read_head-head.ensures.pool;
      name_is = c.in_ok-new.ensures.ok ∙ c.read_head-head.ensures.name;
      named = ap is_name c.in_ok-new.ensures.ok
          ∙ true_otherwise (is_name c.read_head-head.result.name.now)
          (λ never. no_err c.in_ok-new.field-0 _ (c.in_ok-new.ensures.bad.1 never));
      blocks_is = c.read_head-head.ensures.blocks;
      number_is = c.read_head-head.ensures.number;
      in_range = sym c.is_in.ensures ∙ c.if-not-is_in.false;
      next_is = c.read_head-head.ensures.next_guid;
      root_is = c.read_head-head.ensures.root;
      at_tops = c.read_head-head.ensures.rest;
      taken = c.in_ok-tops.ensures.taken;
      spares_are = c.in_ok-spares.ensures.spares;
      spares_named = c.in_ok-spares.ensures.names;
      none = c.new-members.ensures;
    })
    refl refl refl
