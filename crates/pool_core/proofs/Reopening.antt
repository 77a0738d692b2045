-- What an opening did by the commit that ends it.
use Rattle.std.proofs.Common.{◌≡◌, ℕ, zero, suc, ◌++◌, Bool, true, false, List, map, Option, Result, Ok, Err, inl, inr, refl, sym, ◌∙◌, subst}
use Rattle.mp_base.specs.declared.number.Group.{Group}
use Rattle.mp_base.specs.declared.refusal.Refusal.{Refusal}
use Rattle.mp_base.specs.declared.refusal.Refusal.TheVariants as refusals
use Rattle.bank_core.specs.declared.bank.Fault.{Fault}
use Rattle.bank_core.specs.Asks.{Flushes}
use Rattle.bank_core.specs.Parts.{MakesPart}
use Rattle.bank_core.specs.Story.{Story}
use Rattle.bank_core.proofs.Composing.{made_none, made_more}
use Rattle.label_store.specs.declared.member.Member.{Member}
use Rattle.pool_core.specs.declared.pool.Pool.{Pool}
use Rattle.pool_core.specs.Done.{commit_answer, no_leaf, OpensIf, IsOpened}
use Rattle.pool_core.specs.Keeping.{Represents}
use Rattle.pool_core.specs.Logs.{drawn}
use Rattle.pool_core.specs.State.{PoolState, board, has_nobody}
use Rattle.pool_core.specs.Steps.{EndsCommit}
use Rattle.pool_core.specs.Syncing.{flush_plan}
use Rattle.pool_core.proofs.Ending.{is_commit}

-- no leaf is readable
pub opens_nobody : (told : Option Story) (faults : ℕ → ℕ) (size : ℕ → ℕ) (s : PoolState) (t : Bool) → t ≡ true → t ≡ has_nobody s
    → OpensIf (has_nobody s) size s told told faults faults (Err (no_leaf s))
opens_nobody told faults size s t nobody is =
    subst (λ b. OpensIf b size s told told faults faults (Err (no_leaf s))) (sym nobody ∙ is) (refl, made_none told faults)

-- there was no memory
pub opens_memory : (told : Option Story) (faults : ℕ → ℕ) (size : ℕ → ℕ) (s : PoolState) (t : Bool) → t ≡ false → t ≡ has_nobody s
    → OpensIf (has_nobody s) size s told told faults faults (Err refusals.Memory)
opens_memory told faults size s t somebody is =
    subst (λ b. OpensIf b size s told told faults faults (Err refusals.Memory)) (sym somebody ∙ is) (inr (refl, made_none told faults))

opened_ok : (t : PoolState) (failed : ℕ) (group : Group) (pool : Pool) → Ok group ≡ commit_answer t failed → Represents pool t → IsOpened t failed (Ok pool)
opened_ok t zero group pool e rep = rep
opened_ok t (suc n) group pool e rep = absurd cc

opened_err : (t : PoolState) (failed : ℕ) (refusal : Refusal) → Err refusal ≡ commit_answer t failed → IsOpened t failed (Err refusal)
opened_err t zero refusal e = absurd cc
opened_err t (suc n) refusal e = cc

-- Some leaf is readable: this board was flushed, and the commit was ended.
pub record Recommits (size : ℕ → ℕ) (s : PoolState) (old new : Option Story) (f h : ℕ → ℕ) (answer : Result Group Refusal) : Type 0 where
  pub some : has_nobody s ≡ false
  pub mid : Option Story
  pub between : ℕ → ℕ
  pub outcome : Option Fault
  pub later : ℕ → ℕ
  pub same : (d : ℕ) → later d ≡ size d
  pub part : MakesPart (flush_plan s) old mid f between outcome
  pub ends : EndsCommit later (drawn s) outcome mid new between h answer

pub recommits : {old mid new : Option Story} {f g h : ℕ → ℕ} {outcome : Option Fault} {answer : Result Group Refusal} (size size' : ℕ → ℕ) (s : PoolState)
    (members : List Member) (t : Bool) → t ≡ false → t ≡ has_nobody s → members ≡ board s → ((d : ℕ) → size' d ≡ size d)
    → MakesPart (map (λ m. Flushes m.dev) members) old mid f g outcome → EndsCommit size' (drawn s) outcome mid new g h answer
    → Recommits size s old new f h answer
recommits {old} {mid} {new} {f} {g} {h} {outcome} size size' s members t somebody is members_are same part ends = record {
  some = sym is ∙ somebody;
  mid = mid;
  between = g;
  outcome = outcome;
  later = size';
  same = same;
  part = subst (λ ms. MakesPart (map (λ m. Flushes m.dev) ms) old mid f g outcome) members_are part;
  ends = ends;
}

opens : (size : ℕ → ℕ) (s : PoolState) (old new : Option Story) (f h : ℕ → ℕ) (answer : Result Group Refusal) (result : Result Pool Refusal)
    (r : Recommits size s old new f h answer) → IsOpened (drawn s) r.ends.failed result → OpensIf (has_nobody s) size s old new f h result
opens size s old new f h answer result r opened =
    subst (λ b. OpensIf b size s old new f h result) (sym r.some) (inl (record {
      made = r.part.made ++ r.ends.made;
      failed = r.ends.failed;
      calls = made_more old r.mid new f r.between h r.part.made r.ends.made r.part.calls r.ends.calls;
      commit = is_commit size r.later s (drawn s) r.outcome old r.mid new f r.between h answer r.same (flush_plan s) r.part r.ends;
      is_opened = opened;
    }))

pub opens_ok : {old new : Option Story} {f h : ℕ → ℕ} {group : Group} (size : ℕ → ℕ) (pool : Pool) (s : PoolState) → Recommits size s old new f h (Ok group)
    → Represents pool (drawn s) → OpensIf (has_nobody s) size s old new f h (Ok pool)
opens_ok {old} {new} {f} {h} {group} size pool s r rep =
    opens size s old new f h (Ok group) (Ok pool) r (opened_ok (drawn s) r.ends.failed group pool r.ends.answer_is rep)

pub opens_err : {old new : Option Story} {f h : ℕ → ℕ} {refusal : Refusal} (size : ℕ → ℕ) (s : PoolState) → Recommits size s old new f h (Err refusal)
    → OpensIf (has_nobody s) size s old new f h (Err refusal)
opens_err {old} {new} {f} {h} {refusal} size s r =
    opens size s old new f h (Err refusal) (Err refusal) r (opened_err (drawn s) r.ends.failed refusal r.ends.answer_is)
