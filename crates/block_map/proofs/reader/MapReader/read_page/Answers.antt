use Rattle.block_map.proofs.PagesFound.{found_more}
use Rattle.block_map.proofs.ReadPages.{reading_on}
use Rattle.block_map.proofs.reader.MapReader.read_page.Goals as goal

pub invariant_of-self : goal.invariant_of-self
invariant_of-self c =
    reading_on c.self.inside.map c.put_all.new.map c.self.inside.number.0 c.in-Some.page c.read_page.new.out c.next_page-self-inside.result
    (rw c.in-Some.is at c.self.invariant) (c.may_be_read.ensures.yes c.if-not-may_be_read.false) c.put_all.ensures c.next_page-self-inside.ensures

pub returns-clause-places : goal.returns-clause-places
returns-clause-places c =
    (reading_on c.self.inside.map c.put_all.new.map c.self.inside.number.0 c.in-Some.page c.read_page.new.out c.next_page-self-inside.result
    (rw c.in-Some.is at c.self.invariant) (c.may_be_read.ensures.yes c.if-not-may_be_read.false) c.put_all.ensures c.next_page-self-inside.ensures).places

pub returns-clause-from : goal.returns-clause-from
returns-clause-from c = λ _. rw (← c.self.view_is, c.in-Some.is) (λ recorded before after was finds.
    found_more c.self.inside.map c.put_all.new.map c.self.inside.number.0 c.in-Some.page c.read_page.new.out c.next_page-self-inside.result
    (rw c.in-Some.is at c.self.invariant) (c.may_be_read.ensures.yes c.if-not-may_be_read.false) c.put_all.ensures
    recorded before after c.args.bytes.now c.next_page-self-inside.ensures (c.read_page.ensures.form c.if-not-read_page.false)
    (c.read_page.ensures.page c.if-not-read_page.false) finds was)
