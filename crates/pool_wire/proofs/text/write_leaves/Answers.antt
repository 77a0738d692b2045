use Rattle.std.proofs.Common.{get_or, refl}
use Rattle.mp_base.specs.declared.refusal.LeafSeen.{LeafSeen}
use Rattle.mp_base.specs.declared.refusal.Seen.TheVariants.{Unreadable}
use Rattle.pool_wire.specs.Text.{leaf_text}
use Rattle.pool_wire.proofs.Texts.{commas_more}
use Rattle.pool_wire.proofs.text.write_leaves.Goals as goal

pub loop-at-preserved : goal.loop-at-preserved
loop-at-preserved c =
    let none : LeafSeen = record { member = record { 0 = 0 }; seen = Unreadable } in
    rw (c.in_ok-push_leaf.ensures, c.as_bytes.ensures.value, c.in_ok-name.ensures.ok)
    (commas_more leaf_text c.args.leaves.now c.loop-at.at none (get_or c.args.leaves.now c.loop-at.at none)
    c.loop-at.text.items c.push_comma.new.text.items c.loop-at-test.true refl c.loop-at.invariant c.in_ok-push_comma.ensures)
