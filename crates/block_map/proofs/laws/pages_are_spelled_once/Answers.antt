use Rattle.std.proofs.Common.{◌∙◌, sym, ap}
use Rattle.block_map.specs.Pages.{pointers_in}
use Rattle.block_map.proofs.PageBytes.{read_back, length-page, read_in_form}
use Rattle.block_map.proofs.laws.pages_are_spelled_once.Goals as goal

pub returns-clause-once : goal.returns-clause-once
returns-clause-once c = λ one other form form' same. sym (read_back one form) ∙ ap pointers_in same ∙ read_back other form'

pub returns-clause-back : goal.returns-clause-back
returns-clause-back c = λ pointers form. read_back pointers form

pub returns-clause-long : goal.returns-clause-long
returns-clause-long c = length-page

pub returns-clause-form : goal.returns-clause-form
returns-clause-form c = read_in_form
