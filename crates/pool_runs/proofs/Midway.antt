-- Counts at a moment within a line.
use Rattle.std.proofs.Common.{◌≡◌, ℕ, List, [], ◌∷◌, ◌++◌, refl, sym, ap, ◌∙◌, subst, append-nil, append_assoc}
use Rattle.bank_core.specs.Calls.{AllCaused}
use Rattle.bank_core.specs.Disk.{Noted}
use Rattle.pool_moves.specs.Moves.{Move}
use Rattle.pool_moves.specs.ReadRow.{made_in}
use Rattle.pool_runs.specs.Acts.{Act, Closes, does, calls_of_act, calls_along}
use Rattle.pool_runs.specs.Counting.{IsMidway}
use Rattle.pool_runs.proofs.Answering.{does_calls}

pub calls_more : (first second : List Act) → calls_along (first ++ second) ≡ calls_along first ++ calls_along second
calls_more [] second = refl
calls_more (act ∷ first) second = ap (λ l. calls_of_act act ++ l) (calls_more first second)
    ∙ sym (append_assoc (calls_of_act act) (calls_along first) (calls_along second))

pub closed_calls : (g : ℕ) (vs : List Move) → calls_along (does g vs ++ (Closes g ∷ [])) ≡ made_in vs
closed_calls g vs = calls_more (does g vs) (Closes g ∷ []) ∙ (append-nil (calls_along (does g vs)) ∙ does_calls g vs)

caused_split : (a b : List Noted) (from to : ℕ → ℕ) → AllCaused (a ++ b) from to → (mid : ℕ → ℕ)
    × AllCaused a from mid × AllCaused b mid to
caused_split [] b from to caused = (from, (λ d. refl), caused)
caused_split (noted ∷ a) b from to caused = let more = caused_split a b caused.0 to caused.2 in
    (more.0, (caused.0, caused.1, more.1), more.2)

pub midway_at : (acts before behind : List Act) (from to : ℕ → ℕ) → acts ≡ before ++ behind
    → AllCaused (calls_along acts) from to
    → (mid : ℕ → ℕ) × (at : IsMidway acts from mid to) × (at.before ≡ before) × (at.behind ≡ behind)
midway_at acts before behind from to all caused =
    let parts = caused_split (calls_along before) (calls_along behind) from to
    (subst (λ calls. AllCaused calls from to) (ap calls_along all ∙ calls_more before behind) caused) in
    (parts.0, record { before = before; behind = behind; all = all; came = parts.1; comes = parts.2 }, refl, refl)
