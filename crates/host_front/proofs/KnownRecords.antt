-- What the record of a configuration commits, by the records that the history drew up.
use Rattle.std.proofs.Common.{◌≡◌, ℕ, ◌<◌, Bool, true, false, cond, List, [], ◌∷◌, Option, Some, None, length, refl, sym, ◌∙◌, ap, subst, inl, inr, bytes_eq, slice_get}
use Rattle.std.proofs.lemmas.Option.{slice_get-get_or}
use Rattle.std.proofs.lemmas.Slice.Eq.{bytes_eq-Decides}
use Rattle.std.specs.Option.{option_map}
use Rattle.config_codec.specs.declared.config.Pointer.{Pointer}
use Rattle.config_codec.specs.Fields.{Fields}
use Rattle.config_codec.specs.Reading.{config_in}
use Rattle.config_codec.specs.Validity.{IsValid}
use Rattle.label_store.specs.Rounds.{config_of}
use Rattle.pool_history.specs.Records.{Rec, Cell}
use Rattle.pool_core.specs.Opening.{IsCommitted}
use Rattle.pool_core.specs.Recorded.{pointer_of}
use Rattle.pool_core.specs.State.{Known, Summed, Version}
use Rattle.host_machine.specs.Records.{AreDrawn, IsDrawn, committed_in, slot_at, summed, version_of, versions_of}

no_version : (version : Version) → None ≡ Some version → ⊥
no_version version e = cc

same_version : (one other : Version) → Some one ≡ Some other → one ≡ other
same_version one other e = cc

same_fields : (one other : Fields) → Some one ≡ Some other → one ≡ other
same_fields one other e = cc

same_block : (one other : List ℕ) → Known one ≡ Known other → one ≡ other
same_block one other e = cc

sum_known : (sum block : List ℕ) → Summed sum ≡ Known block → ⊥
sum_known sum block e = cc

-- a record of which the configuration is all that is known

slot_pointers : (found : Option (Option Pointer)) (slot : Option Pointer) → found ≡ Some slot → found ≡ Some (option_map pointer_of (slot_at found))
slot_pointers None slot e = absurd (cc)
slot_pointers (Some None) slot e = refl
slot_pointers (Some (Some p)) slot e = refl

slot_whole : (found : Option (Option Pointer)) (version : Version) (block : List ℕ) → slot_at found ≡ Some version → version.content ≡ Known block → length block ≡ 4096
slot_whole None version block e is = absurd (no_version version e)
slot_whole (Some None) version block e is = absurd (no_version version e)
slot_whole (Some (Some p)) version block e is = absurd (sum_known p.sum block (ap (λ (v : Version). v.content) (same_version (summed p) version e) ∙ is))

unknown_is : (c : Fields) → IsValid c → IsCommitted c (λ a. slot_at (slice_get c.pointers a))
unknown_is c valid = record {
  pointers = λ a inside.
      let within : a < length c.pointers = rw valid.counted inside in
      slot_pointers (slice_get c.pointers a) _ (slice_get-get_or c.pointers a None within);
  whole = λ a version block e is. slot_whole (slice_get c.pointers a) version block e is;
}

-- one that the history drew up

cell_pointers : (cell : Option Cell) → option_map (λ (c : Cell). pointer_of (version_of c)) cell ≡ option_map pointer_of (option_map version_of cell)
cell_pointers None = refl
cell_pointers (Some cell) = refl

cell_whole : (r : Rec) (c : Fields) → IsDrawn r c → (a : ℕ) (cell : Option Cell) → r.cells a ≡ cell → (version : Version) (block : List ℕ) → option_map version_of cell ≡ Some version
    → version.content ≡ Known block → length block ≡ 4096
cell_whole r c drawn a None at version block e is = absurd (no_version version e)
cell_whole r c drawn a (Some cell) at version block e is =
    let same : cell.block ≡ block = same_block cell.block block (ap (λ (v : Version). v.content) (same_version (version_of cell) version e) ∙ is) in
    subst (λ b. length b ≡ 4096) same (drawn.whole a cell at)

drawn_is : (r : Rec) (c : Fields) → IsDrawn r c → IsCommitted c (versions_of r)
drawn_is r c drawn = record {
  pointers = λ a inside. drawn.pointers a inside ∙ ap Some (cell_pointers (r.cells a));
  whole = λ a version block e is. cell_whole r c drawn a (r.cells a) refl version block e is;
}

first_is : (r : Rec) (records : List Rec) (config : List ℕ) (c : Fields) (t : Bool) → bytes_eq (config_of r.commit) config ≡ t → AreDrawn (r ∷ records) → config_in config ≡ Some c
    → IsCommitted c (committed_in records config c) → IsCommitted c (cond t (versions_of r) (committed_in records config c))
first_is r records config c true test drawn is more =
    let d = drawn r (inl refl) in
    let same : d.0 ≡ c = same_fields d.0 c (sym d.1.config ∙ ap config_in ((bytes_eq-Decides (config_of r.commit) config).0 test) ∙ is) in
    subst (λ fields. IsCommitted fields (versions_of r)) same (drawn_is r d.0 d.1)
first_is r records config c false test drawn is more = more

-- what the machine knows fits the configuration
pub committed_is : (records : List Rec) (config : List ℕ) (c : Fields) → AreDrawn records → IsValid c → config_in config ≡ Some c → IsCommitted c (committed_in records config c)
committed_is [] config c drawn valid is = unknown_is c valid
committed_is (r ∷ records) config c drawn valid is =
    first_is r records config c (bytes_eq (config_of r.commit) config) refl drawn is (committed_is records config c (λ q there. drawn q (inr there)) valid is)
