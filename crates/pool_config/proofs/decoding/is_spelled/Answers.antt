use Rattle.std.proofs.Common.{ap, sym, ◌∙◌}
use Rattle.std.specs.Str.{bytes_eq}
use Rattle.pool_config.proofs.Deciding.{valid_whole, spelled_not, spelled_so}
use Rattle.pool_config.proofs.decoding.is_spelled.Goals as goal

pub returns-then-not-is_whole : goal.returns-then-not-is_whole
returns-then-not-is_whole c =
    spelled_not c.args.bytes.now _ _ c.requires.seen (sym c.is_whole.ensures ∙ c.if-not-is_whole.true)

pub encode-requires : goal.encode-requires
encode-requires c =
    valid_whole c.args.bytes.now _ c.requires.seen c.requires.parts (sym c.is_whole.ensures ∙ c.if-not-is_whole.false)

pub returns : goal.returns
returns c =
    c.eq.ensures ∙ ap (λ s. bytes_eq s c.args.bytes.now) c.as_slice.ensures.value
    ∙ spelled_so c.args.bytes.now c.in_ok-again.again.items _ c.requires.seen c.requires.parts
    (sym c.is_whole.ensures ∙ c.if-not-is_whole.false) c.in_ok-again.ensures
