-- Names that are kept leave no twin: a member has no other identity than its own.
use Rattle.std.proofs.Common.{◌≡◌, ℕ, Bool, true, sym, ◌∙◌}
use Rattle.mp_base.specs.declared.number.Guid.{Guid}
use Rattle.txg_history.specs.Events.{Known}
use Rattle.txg_history.specs.Pages.{Codec}
use Rattle.txg_history.specs.Pools.{Pool}
use Rattle.txg_history.specs.Premises.{HasNoClash, HasNoTwin, AreNamesKept, AreClaims}
use Rattle.txg_history.specs.Records.{Rec}
use Rattle.txg_history.specs.Survival.{Survives}
use Rattle.txg_history.proofs.Yields.{identity_is}

pub no_twin : (c : Codec) (p : Pool) (r : Rec) (known : Known) (under claims : ℕ → Guid → Bool) → Survives c p → HasNoClash c.head_of p known
    → AreNamesKept p r known under → AreClaims p known under claims → HasNoTwin p r claims
no_twin c p r known under claims sv clash kept are = λ d m claim leaf.
    let is = are d m claim in
    let member : p.member d ≡ true = kept d m is.0 leaf is.1 in (
      member,
      sym (identity_is c p known d is.1.place is.1.u is.1.bytes sv clash member is.1.inside is.1.is_read is.1.correct).1 ∙ is.1.member_is,
    )
