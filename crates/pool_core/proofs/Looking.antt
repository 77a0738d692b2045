-- The search for both leaves' identities.
use Rattle.std.proofs.Common.{◌≡◌, ℕ, Option, ◌++◌, refl, subst}
use Rattle.std.proofs.Math.Path.{fun_ext}
use Rattle.bank_core.specs.Story.{Story}
use Rattle.bank_core.proofs.Composing.{made_more}
use Rattle.config_codec.specs.Fields.{Fields}
use Rattle.pool_core.specs.Done.{Identifies}
use Rattle.pool_core.specs.Opening.{IsLooked}
use Rattle.pool_core.specs.Steps.{LooksFor}

pub both_looked : {old mid new : Option Story} {f g h : ℕ → ℕ} (c : Fields) (size size' : ℕ → ℕ) (seats : Option ℕ × Option ℕ) (one two : Option ℕ)
    → ((d : ℕ) → size' d ≡ size d) → LooksFor c c.first seats.0 size old mid f g one → LooksFor c c.second seats.1 size' mid new g h two
    → Identifies size c seats old new f h (one, two)
both_looked {old} {mid} {new} {f} {g} {h} c size size' seats one two same first second = record {
  made = first.made ++ second.made;
  calls = made_more old mid new f g h first.made second.made first.calls second.calls;
  identified = (first.made, second.made, refl, first.looked, subst (λ n. IsLooked c c.second seats.1 n second.made two) (fun_ext same) second.looked);
}
