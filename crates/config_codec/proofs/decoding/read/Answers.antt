use Rattle.std.proofs.Common.{sym, ap, ◌∙◌, Err}
use Rattle.config_codec.specs.Validity.{is_valid}
use Rattle.config_codec.specs.Reading.{fields_of}
use Rattle.config_codec.proofs.Refusing.{tops_read, fields_read, too_many, pool_unnamed, no_leaves, handed_on}
use Rattle.config_codec.proofs.Taking.{bad_name}
use Rattle.config_codec.proofs.decoding.read.Goals as goal

pub returns-then-head-gt-MOST_BLOCKS-clause-none : goal.returns-then-head-gt-MOST_BLOCKS-clause-none
returns-then-head-gt-MOST_BLOCKS-clause-none c = λ none.
    ap (λ s. is_valid (fields_of s)) (sym c.new-cursor.ensures)
    ∙ too_many c.new-cursor.result c.read_head-head.result.blocks c.read_head-head.ensures.blocks c.if-head-gt-MOST_BLOCKS.true

pub returns-in_err-top-clause-none : goal.returns-in_err-top-clause-none
returns-in_err-top-clause-none c = λ none.
    let at_tops = tops_read c.new-cursor.result c.read_head-head.new.cursor c.read_pointers.new.cursor c.read_head-head.result.blocks
    c.read_head-head.ensures.blocks c.read_head-head.ensures.rest c.in_ok-pointers.ensures.rest in
    let same = handed_on c.in_err-top.field-0.0 _ c.from_residual-in_err-top.result c.from_residual-in_err-top.ensures.1 none in
    ap (λ s. is_valid (fields_of s)) (sym c.new-cursor.ensures)
    ∙ no_leaves c.new-cursor.result c.read_pointers.new.cursor at_tops (c.in_err-top.ensures.none (ap Err same))

pub returns-in_err-name-clause-none : goal.returns-in_err-name-clause-none
returns-in_err-name-clause-none c = λ none.
    let bad = bad_name c.in_err-name.field-0.0 c.from_residual-in_err-name.result c.from_residual-in_err-name.ensures.1 none in
    ap (λ s. is_valid (fields_of s)) (sym c.new-cursor.ensures)
    ∙ pool_unnamed c.new-cursor.result c.read_head-head.result.name.now c.read_head-head.ensures.name (c.in_err-name.ensures.bad.0 (ap Err bad))

pub returns-clause-fields : goal.returns-clause-fields
returns-clause-fields c =
    let at_tops = tops_read c.new-cursor.result c.read_head-head.new.cursor c.read_pointers.new.cursor c.read_head-head.result.blocks
    c.read_head-head.ensures.blocks c.read_head-head.ensures.rest c.in_ok-pointers.ensures.rest in
    fields_read c.new-cursor.result c.read_head-head.new.cursor c.read_pointers.new.cursor
    c.read_head-head.result.pool.0 c.in_ok-name.name c.read_head-head.result.blocks c.read_head-head.result.number.0 c.read_head-head.result.next_member
    c.in_ok-pointers.pointers.items c.in_ok-top.top.sectors c.in_ok-top.top.mirror.0 c.in_ok-top.top.first c.in_ok-top.top.second
    c.read_head-head.ensures.pool (c.in_ok-name.ensures.ok ∙ c.read_head-head.ensures.name) c.read_head-head.ensures.blocks c.read_head-head.ensures.number
    c.read_head-head.ensures.next_member c.read_head-head.ensures.rest c.in_ok-pointers.ensures.pointers at_tops
    c.in_ok-top.ensures.sectors c.in_ok-top.ensures.mirror c.in_ok-top.ensures.first c.in_ok-top.ensures.second
    ∙ ap fields_of c.new-cursor.ensures
