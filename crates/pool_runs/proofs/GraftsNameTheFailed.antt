-- An attach or a replace whose stamp failed tells so only where the new device's count rose.
use Rattle.std.proofs.Common.{◌≡◌, ℕ, ◌+◌, nat_lt, Bool, true, false, List, [], ◌∷◌, Option, Some, None, refl, sym, ap, ◌∙◌, subst}
use Rattle.mp_base.specs.Outside.{Rose}
use Rattle.bank_core.specs.declared.bank.Fault.{Fault}
use Rattle.bank_core.specs.Asks.{IsPart}
use Rattle.bank_core.specs.Calls.{AllCaused}
use Rattle.bank_core.specs.Disk.{Noted}
use Rattle.label_store.specs.Plans.{stamp_plan}
use Rattle.pool_moves.specs.AwayRows.{leaf_named}
use Rattle.pool_moves.specs.Leaves.{LeafSeen}
use Rattle.pool_moves.specs.Moves.{Move, Lose}
use Rattle.pool_moves.specs.ReadRow.{made_in}
use Rattle.pool_moves.specs.States.{PoolState}
use Rattle.pool_moves.specs.TreeRows.{Graft, TreeRefusal, graft_refusal, new_number, GraftReply, DeviceFault, GraftEnds, GraftOn, GraftAt, GraftFor, RowGraft}
use Rattle.pool_moves.specs.Walking.{as_moves}
use Rattle.pool_runs.proofs.CreatesNameTheFailed.{stamp_on}
use Rattle.pool_runs.proofs.Failing.{FailedOn, failed_rose, part_failed}

made_more : (d : ℕ) (made : List Noted) → made_in (Lose d ∷ as_moves made) ≡ made
made_more d [] = refl
made_more d (noted ∷ made) = ap (λ more. noted ∷ more) (made_more d made)

pub graft_counts : (size : ℕ → ℕ) (graft : Graft) (s : PoolState) (name new : List ℕ) (d : ℕ) (vs : List Move)
    (reply : GraftReply) (from to : ℕ → ℕ)
    → RowGraft size graft s name new d vs reply → AllCaused (made_in vs) from to → reply ≡ DeviceFault
    → Rose (from d) (to d)
graft_counts size graft s name new d vs reply from to row caused says =
    failed_rose d (made_in vs) from to caused (for (graft_refusal graft s name (leaf_named name s.core.leaves)) row)
  where
    ends : (outcome : Option Fault) (leaf : LeafSeen) (made : List Noted)
        → IsPart (stamp_plan d (size d) s.core.pool (new_number graft s)) made outcome
        → GraftEnds outcome graft s name leaf new d made vs reply → FailedOn d (made_in vs)
    ends (Some fault) leaf made part row = subst (FailedOn d) (sym (ap made_in row.0 ∙ made_more d made))
        (part_failed d (stamp_plan d (size d) s.core.pool (new_number graft s)) made fault
        (stamp_on d (size d) s.core.pool (new_number graft s)) part)
    ends None leaf made part row = absurd (let no = sym row.1 ∙ says in cc)

    on : (small : Bool) (leaf : LeafSeen) → GraftOn small size graft s name leaf new d vs reply
        → FailedOn d (made_in vs)
    on true leaf row = absurd (let no = sym row.1 ∙ says in cc)
    on false leaf row = ends row.outcome leaf row.made row.calls row.ends

    at : (found : Option LeafSeen) → GraftAt found size graft s name new d vs reply → FailedOn d (made_in vs)
    at None row = absurd row
    at (Some leaf) row = on (nat_lt (size d) (s.core.room leaf.top + 256)) leaf row

    for : (refusal : Option TreeRefusal) → GraftFor refusal size graft s name new d vs reply → FailedOn d (made_in vs)
    for (Some refusal) row = absurd (let no = sym row.1 ∙ says in cc)
    for None row = at (leaf_named name s.core.leaves) row
