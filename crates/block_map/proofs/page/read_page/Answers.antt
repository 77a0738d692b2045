use Rattle.std.proofs.Common.{◌≡◌, ap, sym, ◌∙◌}
use Rattle.block_map.specs.Pages.{page_bytes, pointers_in}
use Rattle.block_map.proofs.PageBytes.{read_back}
use Rattle.block_map.proofs.page.read_page.Goals as goal

pub returns-clause-exact : goal.returns-clause-exact
returns-clause-exact c = λ pointers form is.
    let read : c.read_pointers.new.out ≡ pointers = c.read_pointers.ensures.value ∙ ap pointers_in is ∙ read_back pointers form in
    (c.are_equal.ensures.no (is ∙ ap page_bytes (sym read) ∙ sym c.write_page.ensures), read)
