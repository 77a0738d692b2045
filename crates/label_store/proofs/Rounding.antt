-- Three phases are a round, and what it keeps.
use mathlib.Core.Path.{fun_ext}
use Rattle.std.proofs.Common.{◌≡◌, ℕ, ◌^◌, ◌<◌, ◌≤◌, Bool, true, List, [], ◌∷◌, ◌++◌, length, map, replicate, Option, refl, ap, ◌∙◌, subst, arith}
use Rattle.sha2.proofs.Facts256.{length-sha256}
use Rattle.bank_core.specs.Disk.{sector_size}
use Rattle.bank_core.specs.BankView.{BankView}
use Rattle.bank_core.proofs.Framing.{makes_more}
use Rattle.label_store.specs.declared.member.Member.{Member}
use Rattle.label_store.specs.declared.round.Phase.TheVariants as phase
use Rattle.label_store.specs.declared.rule.Head.{Head}
use Rattle.label_store.specs.Committing.{IsSealed, Commits}
use Rattle.label_store.specs.Records.{IsRecord, IsHeaded}
use Rattle.label_store.specs.Rounds.{Commit, config_of, uberblock_of}
use Rattle.label_store.specs.Seats.{AreSeated, AreApart}
use Rattle.label_store.specs.Turns.{plan_of, MakesPhase, MakesRound}
use Rattle.label_store.proofs.Causing.{round_excused}
use Rattle.label_store.proofs.Keeping.{round_leaves, round_ends}

pub all_on_board : (ms : List Member) (n : ℕ) → n ≡ length ms → replicate n true ≡ map (λ m. true) ms
all_on_board [] n e = ap (λ k. replicate k true) e
all_on_board (m ∷ ms) n e = ap (λ k. replicate k true) e ∙ ap (λ l. true ∷ l) (all_on_board ms (length ms) refl)

pub round_made : {old a b new : BankView} (size : ℕ → ℕ) (commit : Commit) (ms : List Member) (start in1 in2 results : List Bool)
    → start ≡ map (λ m. true) ms → old.size ≡ size
    → MakesPhase (plan_of phase.First old.size commit) ms start in1 old a → MakesPhase (plan_of phase.Second a.size commit) ms in1 in2 a b
    → MakesPhase (plan_of phase.Third b.size commit) ms in2 results b new → MakesRound size commit ms results old new
round_made {old} {a} {b} {new} size commit ms start in1 in2 results on is p q r =
    let same1 = fun_ext p.calls.frame.sizes ∙ is in
    let same2 = fun_ext q.calls.frame.sizes ∙ same1 in
    let q' = subst (λ s. MakesPhase (plan_of phase.Second s commit) ms in1 in2 a b) same1 q in
    let r' = subst (λ s. MakesPhase (plan_of phase.Third s commit) ms in2 results b new) same2 r in
    let p' = subst (λ s. MakesPhase (plan_of phase.First size commit) ms s in1 old a) on (subst (λ s. MakesPhase (plan_of phase.First s commit) ms start in1 old a) is p) in
    record {
      made = p'.made ++ (q'.made ++ r'.made);
      calls = makes_more p'.calls (makes_more q'.calls r'.calls);
      round = record {
        first = p'.made;
        second = q'.made;
        third = r'.made;
        all = refl;
        in_first = in1;
        in_second = in2;
        configs = p'.phase;
        uberblocks = q'.phase;
        copies = r'.phase;
      };
    }

most_bytes : (blob : List ℕ) (bytes : ℕ) → IsSealed blob bytes → bytes ≤ 114688
unfolding sector_size
most_bytes blob bytes s = let few = s.most in let whole = s.whole in let within = s.within in omega arith

-- what is sealed is a record
new_record : (head_of : List ℕ → Option Head) (commit : Commit) (m : Member) → IsSealed commit.blob commit.length → IsHeaded head_of commit.pool commit.number (config_of commit)
    → 1 ≤ commit.number.0 → commit.number.0 ≤ 2 ^ 62 → commit.pool.0 < 2 ^ 64 → m.guid.0 < 2 ^ 64 → IsRecord head_of (uberblock_of commit m) commit.blob (config_of commit)
new_record head_of commit m s headed least most pool member = record {
  in_range = record {
    pool = pool;
    member = member;
    number = most;
    config = most_bytes commit.blob commit.length s;
    sum = length-sha256 (config_of commit);
    no_config = λ zero'. absurd (omega (arith, least, zero'));
    no_sum = λ zero'. absurd (omega (arith, least, zero'));
  };
  some = least;
  whole = s.whole;
  most = s.most;
  within = s.within;
  config_is = refl;
  sum = refl;
  headed = headed;
}

pub committed : {old new : BankView} (head_of : List ℕ → Option Head) (size : ℕ → ℕ) (commit : Commit) (ms : List Member) (results : List Bool)
    → AreSeated size ms → AreApart ms → IsSealed commit.blob commit.length → IsHeaded head_of commit.pool commit.number (config_of commit)
    → 1 ≤ commit.number.0 → commit.number.0 ≤ 2 ^ 62 → MakesRound size commit ms results old new → Commits head_of size commit ms results old new
committed {old} {new} head_of size commit ms results seated apart s headed least most r = record {
  made = r.made;
  calls = r.calls;
  round = r.round;
  excused = round_excused size commit ms results r.made old.faults new.faults r.round r.calls.calls.caused;
  keeps = λ i m at pool member sectors u config old k.
      round_leaves head_of size commit ms results r.made seated apart r.round i m at (new_record head_of commit m s headed least most pool member) sectors u config old k;
  ends = λ i m at done pool member sectors next other.
      round_ends head_of size commit ms results r.made seated apart r.round i m at done (new_record head_of commit m s headed least most pool member) sectors next other;
}
