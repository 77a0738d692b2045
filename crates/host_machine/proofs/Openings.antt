-- The two kinds of openings: those that commit a record again, and those that make reads alone.
use Rattle.std.proofs.Common.{◌≡◌, ◌⊎◌, ℕ, ◌*◌, Bool, true, false, List, [], ◌++◌, length, Option, Some, None, refl, sym, ap, subst, inl, inr}
use Rattle.mp_base.specs.declared.number.Group.{Group}
use Rattle.mp_base.specs.declared.number.Guid.{Guid}
use Rattle.mp_base.specs.declared.refusal.Refusal.{Refusal}
use Rattle.mp_base.specs.declared.refusal.Refusal.TheVariants as refusals
use Rattle.bank_core.specs.Disk.{Noted}
use Rattle.label_store.specs.declared.found.Found.{Found}
use Rattle.label_store.specs.Newest.{Parts, IsBest, AreReads}
use Rattle.label_store.proofs.Reading.{are_reads_more}
use Rattle.config_codec.specs.Fields.{Fields}
use Rattle.config_codec.specs.Reading.{config_in}
use Rattle.pool_wire.specs.declared.reply.Reply.{Reply}
use Rattle.pool_wire.specs.declared.reply.Reply.TheVariants as replies
use Rattle.pool_core.specs.Commits.{IsCommit}
use Rattle.pool_core.specs.Heads.{head_of}
use Rattle.pool_core.specs.Done.{no_leaf}
use Rattle.pool_core.specs.Logs.{drawn}
use Rattle.pool_core.specs.Opening.{IsIdentified}
use Rattle.pool_core.specs.State.{PoolState, has_nobody, is_spent}
use Rattle.pool_core.specs.Syncing.{flush_plan}
use Rattle.host_machine.specs.Devices.{all_handed}
use Rattle.host_machine.specs.Machine.{HostState, refused, commit_outcome, open_seats, open_state, OpensIf, OpensOn, OpensUnless, OpensBest}
use Rattle.host_machine.proofs.Away.{identified_reads}

-- the newest record of the name, by what was read of the labels
abbrev pub IsNewest : HostState → (name : List ℕ) → List Parts → Option Found → Type 0
IsNewest h name looks best = IsBest head_of looks name (128 * length (all_handed h.table)) best

-- Behind the look a record was found and committed again.
pub record IsOpening (h : HostState) (name : List ℕ) (looks : List Parts) (made : List Noted) (next : HostState) (reply : Reply) : Type 0 where
  pub found : Found
  pub newest : IsNewest h name looks (Some found)
  pub c : Fields
  pub config : config_in found.blob.items ≡ Some c
  pub unspent : is_spent c.number.0 ≡ false
  pub closed : h.pool ≡ None
  pub devs : Option ℕ × Option ℕ
  pub ids : List Noted
  pub round : List Noted
  pub all : made ≡ ids ++ round
  pub identified : IsIdentified h.size c (open_seats h c) devs ids
  pub some : has_nobody (open_state h found.blob.items c devs) ≡ false
  pub failed : ℕ
  pub commit : IsCommit h.size (flush_plan (open_state h found.blob.items c devs)) (drawn (open_state h found.blob.items c devs)) round failed
  pub outcome : (next, reply) ≡ commit_outcome h (drawn (open_state h found.blob.items c devs)) failed

-- Behind the look there were reads alone, and the line was refused. That there is no record is said where none was found.
pub record IsUnopened (h : HostState) (name : List ℕ) (looks : List Parts) (made : List Noted) (next : HostState) (reply : Reply) : Type 0 where
  pub same : next ≡ h
  pub reads : AreReads made
  pub refusal : Refusal
  pub reply_is : reply ≡ replies.Refused refusal
  pub none : refusal ≡ refusals.NoRecord → IsNewest h name looks None

quietly_unopened : (h : HostState) (name : List ℕ) (looks : List Parts) (made : List Noted) (next : HostState) (reply : Reply) (refusal : Refusal)
    → (refusal ≡ refusals.NoRecord → IsNewest h name looks None) → AreReads made → (next, reply) ≡ refused h refusal → IsUnopened h name looks made next reply
quietly_unopened h name looks made next reply refusal none reads e = record {
  same = ap (λ x. x.0) e;
  reads = reads;
  refusal = refusal;
  reply_is = ap (λ x. x.1) e;
  none = none;
}

no_reads : (made : List Noted) → made ≡ [] → AreReads made
no_reads made e = subst AreReads (sym e) tt

not_built : refusals.NotBuilt ≡ refusals.NoRecord → ⊥
not_built e = cc

tree_full : (last number : ℕ) → refusals.TreeFull last number ≡ refusals.NoRecord → ⊥
tree_full last number e = cc

suspended : (group : Group) (top : Guid) (faults : ℕ) → refusals.Suspended group top faults ≡ refusals.NoRecord → ⊥
suspended group top faults e = cc

module _ (h : HostState) (name : List ℕ) (looks : List Parts) (next : HostState) (reply : Reply) where
  if_case : (found : Found) (c : Fields) (devs : Option ℕ × Option ℕ) (ids more made : List Noted) (nobody : Bool) → IsNewest h name looks (Some found) → config_in found.blob.items ≡ Some c
      → is_spent c.number.0 ≡ false → h.pool ≡ None → made ≡ ids ++ more → IsIdentified h.size c (open_seats h c) devs ids
      → has_nobody (open_state h found.blob.items c devs) ≡ nobody → OpensIf nobody h (open_state h found.blob.items c devs) more next reply
      → IsUnopened h name looks made next reply ⊎ IsOpening h name looks made next reply
  if_case found c devs ids more made true newest config unspent closed all identified alone (none, said) =
      inl (quietly_unopened h name looks made next reply (no_leaf (open_state h found.blob.items c devs)) (λ same. absurd (suspended _ _ _ same))
      (subst AreReads (sym all) (are_reads_more ids more (identified_reads h.size c (open_seats h c) devs ids identified) (no_reads more none))) said)
  if_case found c devs ids more made false newest config unspent closed all identified some (failed, commit, outcome) = inr (record {
    found = found;
    newest = newest;
    c = c;
    config = config;
    unspent = unspent;
    closed = closed;
    devs = devs;
    ids = ids;
    round = more;
    all = all;
    identified = identified;
    some = some;
    failed = failed;
    commit = commit;
    outcome = outcome;
  })

  on_case : (found : Found) (c : Fields) (pool : Option PoolState) (made : List Noted) → IsNewest h name looks (Some found) → config_in found.blob.items ≡ Some c
      → is_spent c.number.0 ≡ false → h.pool ≡ pool → OpensOn h found.blob.items c pool made next reply
      → IsUnopened h name looks made next reply ⊎ IsOpening h name looks made next reply
  on_case found c (Some other) made newest config unspent e (none, said) =
      inl (quietly_unopened h name looks made next reply refusals.NotBuilt (λ same. absurd (not_built same)) (no_reads made none) said)
  on_case found c None made newest config unspent closed (ids, more, devs, all, identified, opens) =
      if_case found c devs ids more made (has_nobody (open_state h found.blob.items c devs)) newest config unspent closed all identified refl opens

  unless_case : (found : Found) (c : Fields) (spent : Bool) (made : List Noted) → IsNewest h name looks (Some found) → config_in found.blob.items ≡ Some c
      → is_spent c.number.0 ≡ spent → OpensUnless spent h found.blob.items c made next reply
      → IsUnopened h name looks made next reply ⊎ IsOpening h name looks made next reply
  unless_case found c true made newest config spent (none, said) =
      inl (quietly_unopened h name looks made next reply _ (λ same. absurd (tree_full _ _ same)) (no_reads made none) said)
  unless_case found c false made newest config spent opens = on_case found c h.pool made newest config spent refl opens

  pub opening_case : (best : Option Found) (made : List Noted) → IsNewest h name looks best → OpensBest h best made next reply
      → IsUnopened h name looks made next reply ⊎ IsOpening h name looks made next reply
  opening_case None made newest (none, said) = inl (quietly_unopened h name looks made next reply refusals.NoRecord (λ same. newest) (no_reads made none) said)
  opening_case (Some found) made newest (c, config, opens) = unless_case found c (is_spent c.number.0) made newest config refl opens
