use Rattle.std.proofs.Common.{◌≡◌, length, take, sym, ap, ◌∙◌, subst, arith}
use Rattle.block_map.specs.Places.{AreTops}
use Rattle.dtl_rules.specs.Widening.{sectors_of}
use Rattle.open_pool.specs.Creating.{members_of}
use Rattle.open_pool.proofs.NewAsked.{big_asked, few_asked, few_leaves, few_tops, tops_are}
use Rattle.open_pool.proofs.create.begin.Goals as goal

pub new_tops-requires-clause-members : goal.new_tops-requires-clause-members
new_tops-requires-clause-members g c = few_asked c.args.tops.now c.requires.is_new.few_children

pub new_tops-requires-clause-big : goal.new_tops-requires-clause-big
new_tops-requires-clause-big g c = big_asked (g.B.Bank.view c.args.bank.now).size c.args.tops.now c.requires.is_new.big

pub sectors_of-sectors-requires : goal.sectors_of-sectors-requires
sectors_of-sectors-requires g c =
    let few = few_tops (g.B.Bank.view c.args.bank.now).size c.args.blocks (members_of c.args.tops.now) c.in_ok-tops.field-0.tops.items c.requires c.in_ok-tops.ensures.tops in
    omega (arith, few, ap length c.deref.ensures.value)

pub new-requires-clause-tops : goal.new-requires-clause-tops
new-requires-clause-tops g c =
    subst AreTops
    (sym (ap (λ n. take n c.sectors_of-sectors.result) (let same : c.len.result ≡ length c.deref.result.now = omega (arith, c.len.ensures, c.deref.ensures.len) in same)
    ∙ c.sectors_of-sectors.ensures ∙ ap sectors_of c.deref.ensures.value))
    (tops_are (g.B.Bank.view c.args.bank.now).size c.args.blocks (members_of c.args.tops.now) c.in_ok-tops.field-0.tops.items c.requires c.in_ok-tops.ensures.tops)

pub freeze_parts-requires-clause-few : goal.freeze_parts-requires-clause-few
freeze_parts-requires-clause-few g c =
    few_leaves (g.B.Bank.view c.args.bank.now).size c.args.blocks (members_of c.args.tops.now) c.in_ok-tops.field-0.tops.items c.requires c.in_ok-tops.ensures.tops
