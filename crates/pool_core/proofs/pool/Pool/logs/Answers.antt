use mathlib.Core.Path.{fun_ext}
use Rattle.std.proofs.Common.{◌≡◌, ℕ, List, [], ◌∷◌, map, sym, ◌∙◌, ap, ap₂, subst}
use Rattle.group_set.specs.Groups.{holds}
use Rattle.group_set.specs.Ranges.{ranges_upto}
use Rattle.mp_base.specs.declared.range.GroupRange.{GroupRange}
use Rattle.vdev_tree.specs.declared.vdev.LeafVdev.{LeafVdev}
use Rattle.pool_core.specs.declared.away.LeafLog.{LeafLog}
use Rattle.pool_core.specs.Done.{shown_logs}
use Rattle.pool_core.specs.Keeping.{IsLeaf}
use Rattle.pool_core.specs.Pairs.{IsLoggedTo}
use Rattle.pool_core.specs.State.{LeafState, PoolState}
use Rattle.pool_core.proofs.pool.Pool.logs.Goals as goal

abbrev pair : List ℕ → List GroupRange → List ℕ × List GroupRange
pair name log = (name, log)

-- the log of a leaf is shown as its state has it
shown_one : (v w : LeafVdev) (leaf : LeafState) (one : LeafLog) (n number : ℕ) → v ≡ w → IsLeaf w leaf → n ≡ number → IsLoggedTo number w → one.name ≡ v.name
    → ((m : ℕ) → IsLoggedTo m v → one.log ≡ ranges_upto (holds v.log) m) → pair one.name one.log ≡ pair leaf.name (ranges_upto leaf.owes n)
shown_one v w leaf one n number e is same logged name log =
    ap₂ pair (name ∙ ap (λ x. x.name) e ∙ sym is.name)
    (log number (subst (IsLoggedTo number) (sym e) logged) ∙ ap (λ x. ranges_upto (holds x.log) number) e ∙ ap₂ ranges_upto (sym (fun_ext is.owes)) (sym same))

shown_both : (s : PoolState) (one two : LeafLog) (logs : List LeafLog) → logs ≡ one ∷ two ∷ []
    → pair one.name one.log ≡ pair s.first.name (ranges_upto s.first.owes s.number) → pair two.name two.log ≡ pair s.second.name (ranges_upto s.second.owes s.number)
    → map (λ log. pair log.name log.log) logs ≡ shown_logs s
shown_both s one two logs are first second = rw are (ap₂ (λ a b. a ∷ b ∷ []) first second)

pub returns : goal.returns
returns c = λ s r.
    shown_both s c.in_ok-leaf_log.field-0 c.in_ok-leaf_log-2.field-0 _
    (rw (c.in_ok-push.ensures.items, c.in_ok-logs.ensures.items) at c.in_ok-push-2.ensures.items)
    (shown_one c.first.result.now c.args.self.now.pair.first s.first _ s.number c.args.self.now.number.0 c.first.ensures r.pair.first r.number c.args.self.now.first_log
    c.in_ok-leaf_log.ensures.name c.in_ok-leaf_log.ensures.log)
    (shown_one c.second.result.now c.args.self.now.pair.second s.second _ s.number c.args.self.now.number.0 c.second.ensures r.pair.second r.number c.args.self.now.second_log
    c.in_ok-leaf_log-2.ensures.name c.in_ok-leaf_log-2.ensures.log)
