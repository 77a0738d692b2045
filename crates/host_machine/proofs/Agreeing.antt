-- Two accounts of the sectors that agree on the devices which a bank has: calls on these devices answer the same by both.
use Rattle.std.proofs.Common.{◌≡◌, ℕ, ◌+◌, ◌≤◌, List, [], ◌∷◌, Some, None, sym, ap, ◌∙◌, subst}
use Rattle.bank_core.specs.Calls.{device_of}
use Rattle.bank_core.specs.Disk.{Sector, Sectors, Call, Read, Write, Flush, Admit, Eject, Noted, IsClean, ShowsStable, Answers, AllAnswer, as_found, hurt, replay, run}
use Rattle.host_machine.proofs.OnBank.{AreCallsOn}

-- they agree where the size is 1 at least
abbrev pub Agree : (size : ℕ → ℕ) → (ours theirs : Sectors) → Type 0
Agree size ours theirs = (d s : ℕ) → 1 ≤ size d → ours d s ≡ theirs d s

pub agree_run : (size : ℕ → ℕ) (ours theirs : Sectors) (made : List Noted) → Agree size ours theirs → Agree size (run made ours) (run made theirs)
agree_run size ours theirs made agree d s has = ap (replay made d s) (agree d s has)

shows_same : (ours theirs : ℕ → Sector) (at : ℕ) (bytes : List ℕ) → ((s : ℕ) → ours s ≡ theirs s) → ShowsStable theirs at bytes → ShowsStable ours at bytes
shows_same ours theirs at bytes same shows i inside clean =
    shows i inside (subst IsClean (same (at + i)) clean) ∙ ap (λ (x : Sector). x.stable) (sym (same (at + i)))

answers_same : (ours theirs : Sectors) (call : Call) → ((s : ℕ) → ours (device_of call) s ≡ theirs (device_of call) s) → Answers theirs call → Answers ours call
answers_same ours theirs (Read dev at bytes None) same answers = (answers.0, shows_same (ours dev) (theirs dev) at bytes same answers.1)
answers_same ours theirs (Read dev at bytes (Some fault)) same answers = tt
answers_same ours theirs (Write dev at bytes fault) same answers = tt
answers_same ours theirs (Flush dev fault) same answers = tt
answers_same ours theirs (Admit dev holds) same answers = tt
answers_same ours theirs (Eject dev) same answers = tt

pub agree_answer : (size : ℕ → ℕ) (ours theirs : Sectors) (made : List Noted) → AreCallsOn (λ d. 1 ≤ size d) made → Agree size ours theirs → AllAnswer theirs made → AllAnswer ours made
agree_answer size ours theirs [] on agree answers = tt
agree_answer size ours theirs (noted ∷ made) on agree answers = (
  answers_same (as_found noted ours) (as_found noted theirs) noted.call
      (λ s. ap (hurt (noted.damage (device_of noted.call) s)) (agree (device_of noted.call) s on.0)) answers.0,
  agree_answer size (run (noted ∷ []) ours) (run (noted ∷ []) theirs) made on.1 (agree_run size ours theirs (noted ∷ []) agree) answers.1,
)
