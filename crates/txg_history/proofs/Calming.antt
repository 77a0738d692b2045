-- The premises of an opening can be met.
use Rattle.std.proofs.Common.{◌≡◌, ℕ, Bool, true, false, cond, List, [], Option, Some, None, refl, subst, inl}
use Rattle.sha2.specs.Sha256.{sha256}
use Rattle.label_store.specs.declared.rule.Head.{Head}
use Rattle.label_store.specs.Records.{AreUnhurt}
use Rattle.label_store.specs.Rounds.{config_of}
use Rattle.label_store.specs.Uberblock.{uberblock_bytes}
use Rattle.txg_history.specs.Calm.{stable_of}
use Rattle.txg_history.specs.Events.{Known}
use Rattle.txg_history.specs.Moves.{ReadsTrue}
use Rattle.txg_history.specs.Openings.{IsVerifiedOn}
use Rattle.txg_history.specs.Pages.{Codec}
use Rattle.txg_history.specs.Pools.{Pool}
use Rattle.txg_history.specs.Premises.{AreNotTorn, AreOwnConfigs, AreThere, HasNoClash, HoldsLabels, Premises}
use Rattle.txg_history.specs.Records.{Rec, IsIn}
use Rattle.txg_history.specs.Survival.{IsAmong, Survives}
use Rattle.txg_history.proofs.Verified.{labels_sound}

shows_stable : (t : Bool) (stable bytes : List ℕ) → cond t (Some stable) None ≡ Some bytes → bytes ≡ stable
shows_stable true stable bytes e = cc
shows_stable false stable bytes e = absurd (cc)

shows_none : (t : Bool) (stable bytes : List ℕ) → t ≡ false → cond t (Some stable) None ≡ Some bytes → ⊥
shows_none true stable bytes f e = absurd (cc)
shows_none false stable bytes f e = absurd (cc)

shows_some : (t : Bool) (stable : List ℕ) → t ≡ true → cond t (Some stable) None ≡ Some stable
shows_some t stable e = rw e refl

-- what stands there is true to what stands there
pub stable_true : (p : Pool) → ReadsTrue p.sectors (stable_of p)
stable_true p d s bytes e clean = shows_stable (p.member d) (p.sectors d s).stable bytes e

-- A member's undamaged labels with a record, and nothing that an opening missed.
pub premises_met : (c : Codec) (p : Pool) (d : ℕ) (r : Rec) → Survives c p → HoldsLabels p d r → p.member d ≡ true
    → AreUnhurt (p.size d) (p.sectors d) → p.missed ≡ []
    → AreOwnConfigs c.head_of p (stable_of p)
    → Premises c.head_of p (stable_of p)
premises_met c p d r sv holds member unhurt none sums = record {
  no_clash = record {
    sums = sums;
    rings = λ e place bytes u member inside is correct. inl (shows_stable (p.member e) _ bytes is);
  };
  no_stray = record {
    others = λ e u config non v. absurd (shows_none (p.member e) _ (uberblock_bytes u) non v.verified.uberblock);
    passed = λ d u config r v is given missed. absurd (subst (IsIn r) none missed);
  };
  good = d;
  sound_labels = labels_sound c p (stable_of p) d r sv member holds unhurt (λ label s lt lo hi. (_, shows_some (p.member d) _ member));
}

-- Where no two of the byte strings that are there have one sum, and no ring sector is torn, there is no clash.
pub no_clash : (head_of : List ℕ → Option Head) (p : Pool) (known : Known) (strings : List (List ℕ))
    → ((a b : List ℕ) → IsAmong a strings → IsAmong b strings → sha256 a ≡ sha256 b → a ≡ b) → AreThere head_of p known strings → AreNotTorn p known
    → HasNoClash head_of p known
no_clash head_of p known strings one there whole = record {
  sums = λ r d u config i member is v e. one config (config_of r.commit) (there.found d u config v)
      (there.written r d config i member (subst (λ u. IsVerifiedOn head_of p.size known p.name d u config) is v)) e;
  rings = whole;
}
