-- An import of a pool finds it.
use Rattle.std.proofs.Common.{◌≡◌, ◌⊎◌, ℕ, ◌+◌, zero, suc, List, sym, ap, ◌∙◌, subst, inl, inr}
use Rattle.mp_base.specs.declared.number.Group.{Group}
use Rattle.mp_base.specs.declared.number.Guid.{Guid}
use Rattle.mp_base.specs.declared.refusal.Refusal.{Refusal}
use Rattle.mp_base.specs.declared.refusal.Refusal.TheVariants as refusals
use Rattle.bank_core.specs.Disk.{Noted, AllAnswer}
use Rattle.label_store.specs.Newest.{Parts, IsLook}
use Rattle.pool_wire.specs.declared.reply.Reply.{Reply}
use Rattle.pool_wire.specs.declared.reply.Reply.TheVariants as replies
use Rattle.pool_history.specs.Events.{as_events}
use Rattle.pool_history.specs.Looks.{known_by}
use Rattle.pool_history.specs.Pools.{Pool, pool_after}
use Rattle.pool_history.specs.Premises.{Premises}
use Rattle.pool_history.specs.Records.{Rec, IsIn, block_of, block_at}
use Rattle.pool_history.specs.Survival.{Survives}
use Rattle.pool_history.proofs.Folding.{calls_after, with_calls}
use Rattle.pool_history.proofs.LookedParts.{answer_first}
use Rattle.pool_history.proofs.Moving.{in_first}
use Rattle.pool_core.specs.Heads.{head_of}
use Rattle.pool_core.specs.Logs.{drawn}
use Rattle.pool_core.specs.Reading.{wanted}
use Rattle.pool_core.specs.State.{Known, PoolState}
use Rattle.pool_core.proofs.Drawing.{drawn_relogs, drawn_number}
use Rattle.host_machine.specs.Devices.{all_handed}
use Rattle.host_machine.specs.Fitness.{IsFit}
use Rattle.host_machine.specs.Machine.{HostState, commit_outcome, open_state, IsImport}
use Rattle.host_machine.specs.Records.{versions_of, is_known_version, cell_of}
use Rattle.host_machine.specs.Tracking.{Tracks, HasNoTwins, FindsPool}
use Rattle.host_machine.proofs.Committing.{known_wanted}
use Rattle.host_machine.proofs.Importing.{outcome_kept}
use Rattle.host_machine.proofs.Knowing.{cells_back, known_back, twins_before}
use Rattle.host_machine.proofs.Looking.{IsLater, looked_live, looked_some}
use Rattle.host_machine.proofs.Openings.{IsOpening, IsUnopened, opening_case}
use Rattle.host_machine.proofs.Rereading.{IsKnownAs, known_as}

refused_same : (one other : Refusal) → replies.Refused one ≡ replies.Refused other → one ≡ other
refused_same one other e = cc

refused_not_done : (refusal : Refusal) (n : Group) → replies.Refused refusal ≡ replies.Committed n → ⊥
refused_not_done refusal n e = cc

suspended_none : (number : Group) (mirror : Guid) (n : ℕ) → refusals.Suspended number mirror n ≡ refusals.NoRecord → ⊥
suspended_none number mirror n e = cc

group_same : (n m : Group) → replies.Committed n ≡ replies.Committed m → n ≡ m
group_same n m e = cc

module _ (p : Pool) (h : HostState) (reads : List Noted) (looks : List Parts) (made : List Noted) (next : HostState) (reply : Reply)
    (fit : IsFit h) (tracks : Tracks p h) (look : IsLook h.size (all_handed h.table) looks reads) (answers : AllAnswer p.sectors reads)
    (twins : HasNoTwins next.records) (sv : Survives head_of p) (premises : Premises head_of (with_calls reads p) (known_by h.size (all_handed h.table) looks)) where
  unopened_finds : IsUnopened h p.name looks made next reply → FindsPool p reply next
  unopened_finds u = record {
    never = λ e. looked_some p h reads looks fit tracks.sizes look answers sv premises (u.none (refused_same u.refusal refusals.NoRecord (sym u.reply_is ∙ e)));
    found = λ n e. absurd (refused_not_done u.refusal n (sym u.reply_is ∙ e));
  }

  module _ (o : IsOpening h p.name looks made next reply) where
    abbrev again : PoolState
    again = drawn (open_state h o.found.blob.items o.c o.devs)

    later : IsLater p o.found.blob.items
    later = looked_live p h reads looks fit tracks.sizes look answers o.found sv premises o.newest

    abbrev r : Rec
    r = later.live.r

    next_is : next ≡ (commit_outcome h again o.failed).0
    next_is = ap (λ x. x.0) o.outcome

    known : IsKnownAs h.records o.found.blob.items o.c r
    known = known_as h.records o.found.blob.items o.c r fit.drawn
        (twins_before h.records next.records (λ q i. subst (λ n. IsIn q n.records) (sym next_is) (outcome_kept h again o.failed q i)) twins)
        o.config later.live.config_is (tracks.known r (in_first r p.live p.given later.live.is_live) later.live.some)

    version_at : (a : ℕ) → again.committed a ≡ versions_of r a
    version_at a = ap (λ (t : PoolState). t.committed a) (drawn_relogs (open_state h o.found.blob.items o.c o.devs)).is ∙ known.committed a

    reads_block : (a : ℕ) → wanted again a ≡ Known (block_at r a)
    reads_block a =
        known_wanted (again.writes a) (again.committed a) (ap (λ (t : PoolState). t.writes a) (drawn_relogs (open_state h o.found.blob.items o.c o.devs)).is)
        (ap is_known_version (version_at a) ∙ known_back (r.cells a))
        ∙ ap (λ c. Known (block_of c)) (ap cell_of (version_at a) ∙ cells_back (r.cells a))

    by_failed : (failed : ℕ) → (next, reply) ≡ commit_outcome h again failed → FindsPool p reply next
    by_failed zero e = record {
      never = λ no. refused_not_done refusals.NoRecord (record { 0 = again.number }) (sym no ∙ ap (λ x. x.1) e);
      found = λ n said.
          let same : n ≡ record { 0 = again.number } = group_same n (record { 0 = again.number }) (sym said ∙ ap (λ x. x.1) e) in (
            r,
            again,
            later.live.is_live,
            ap (λ (g : Group). g.0) same ∙ drawn_number (open_state h o.found.blob.items o.c o.devs) ∙ ap (λ (g : Group). g.0 + 1) (sym known.drawn.number),
            later.not_below,
            ap (λ x. x.0.pool) e,
            reads_block,
          );
    }
    by_failed (suc n) e = record {
      never = λ no. suspended_none _ _ _ (refused_same _ refusals.NoRecord (sym (ap (λ x. x.1) e) ∙ no));
      found = λ m said. absurd (refused_not_done _ m (sym (ap (λ x. x.1) e) ∙ said));
    }

  opening_finds : IsOpening h p.name looks made next reply → FindsPool p reply next
  opening_finds o = by_failed o o.failed o.outcome

  pub by_case : IsUnopened h p.name looks made next reply ⊎ IsOpening h p.name looks made next reply → FindsPool p reply next
  by_case (inl u) = unopened_finds u
  by_case (inr o) = opening_finds o

-- An import of a pool finds it.
pub import_finds : (p : Pool) (h : HostState) (made : List Noted) (next : HostState) (reply : Reply) → IsFit h → Tracks p h → AllAnswer p.sectors made
    → (i : IsImport h p.name made next reply) → HasNoTwins next.records → Survives head_of p
    → Premises head_of (pool_after (as_events i.reads) p) (known_by h.size (all_handed h.table) i.looks) → FindsPool p reply next
import_finds p h made next reply fit tracks answers i twins sv premises =
    by_case p h i.reads i.looks i.more next reply fit tracks i.look (answer_first i.reads i.more p.sectors (subst (AllAnswer p.sectors) i.all answers)) twins sv
    (subst (λ q. Premises head_of q (known_by h.size (all_handed h.table) i.looks)) (calls_after i.reads p) premises)
    (opening_case h p.name i.looks next reply i.best i.more i.is_best i.opens)
