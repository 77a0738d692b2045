use Rattle.std.proofs.Common.{◌*◌, arith, refl, below_more}
use Rattle.bank_core.specs.Disk.{sector_of}
use Rattle.label_store.specs.Identities.{NamesMember}
use Rattle.label_store.proofs.Searching.{identity_here, missed_here, missed_all}
use Rattle.label_store.proofs.search.has_identity.Goals as goal

pub returns-then-names_member-clause-yes : goal.returns-then-names_member-clause-yes
returns-then-names_member-clause-yes c = λ _.
    identity_here c.args.pool c.args.member c.args.ring.now _ c.loop-slot.slot (c.loop-slot.slot * 4096) refl (omega arith) refl
    (c.names_member.ensures.yes c.if-names_member.true)

pub loop-slot-preserved : goal.loop-slot-preserved
loop-slot-preserved c =
    below_more (λ k. ¬ (NamesMember c.args.pool c.args.member (sector_of k c.args.ring.now))) c.loop-slot.slot c.loop-slot.invariant
    (missed_here c.args.pool c.args.member c.args.ring.now _ c.loop-slot.slot (c.loop-slot.slot * 4096) refl refl (c.names_member.ensures.no c.if-names_member.false))

pub returns-clause-no : goal.returns-clause-no
returns-clause-no c = λ _. missed_all c.args.pool c.args.member c.args.ring.now _ (omega arith) c.loop-slot.invariant
