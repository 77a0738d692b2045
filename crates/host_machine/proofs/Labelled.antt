-- An opening that finds no record of a name, though a device's labels hold one.
use Rattle.std.proofs.Common.{◌≡◌, ◌⊎◌, ℕ, ◌+◌, ◌*◌, ◌<◌, ◌≤◌, ◌==◌, ◌%◌, ◌/◌, true, false, List, [], ◌∷◌, ◌++◌, append-nil, length, Option, Some, None, refl, sym, ap, ◌∙◌, subst, arith, inl, inr}
use Rattle.std.specs.Prelude.{slice_get, slice_index, ◌≢◌}
use Rattle.std.proofs.lemmas.Bool.Decides.{eqb_tells}
use Rattle.bank_core.specs.declared.bank.Fault.{Fault}
use Rattle.bank_core.specs.Calls.{device_of, fault_of}
use Rattle.bank_core.specs.Disk.{Noted, Sectors, AllAnswer, run, sectors_in}
use Rattle.label_store.specs.Layout.{labels_of}
use Rattle.label_store.specs.Newest.{IsLook, IsBest}
use Rattle.label_store.specs.declared.uberblock.Uberblock.{Uberblock}
use Rattle.pool_wire.specs.declared.reply.Reply.TheVariants as replies
use Rattle.pool_wire.specs.declared.request.Request.TheVariants as requests
use Rattle.mp_base.specs.declared.refusal.Refusal.TheVariants as refusals
use Rattle.pool_history.specs.Events.{Known}
use Rattle.pool_history.specs.Looks.{known_by, HaveRoom, NoneFailed}
use Rattle.pool_history.specs.Moves.{ReadsTrue}
use Rattle.pool_history.specs.Openings.{IsVerifiedOn, IsReadWhole}
use Rattle.pool_history.proofs.LooksShow.{best_none, looks_true, looks_whole}
use Rattle.pool_core.specs.Heads.{head_of}
use Rattle.host_machine.specs.Answering.{all_stable, AreClean, SomeFailed, FindsNone}
use Rattle.host_machine.specs.Devices.{all_handed}
use Rattle.host_machine.specs.Fitness.{IsFit}
use Rattle.host_machine.specs.Machine.{HostState, Entry, Step, IsImport}
use Rattle.host_machine.proofs.Ending.{import_none}
use Rattle.host_machine.proofs.HostSeats.{handed_room}

-- whether a call on a device failed
failed_or : (d : ℕ) (made : List Noted) → NoneFailed d made ⊎ SomeFailed d made
failed_or d [] = inl tt
failed_or d (noted ∷ made) = by (eqb_tells (device_of noted.call) d) (fault_of noted.call) refl (failed_or d made)
  where
    none_some : (fault : Fault) (met : Option Fault) → met ≡ None → met ≡ Some fault → ⊥
    none_some fault met e f = cc

    by : (((device_of noted.call == d) ≡ true) × (device_of noted.call ≡ d)) ⊎ (((device_of noted.call == d) ≡ false) × (device_of noted.call ≢ d))
        → (met : Option Fault) → fault_of noted.call ≡ met → NoneFailed d made ⊎ SomeFailed d made → NoneFailed d (noted ∷ made) ⊎ SomeFailed d (noted ∷ made)
    by here met is (inr later) = inr (inr later)
    by here None is (inl none) = inl ((λ same. is), none)
    by (inl (t, same)) (Some fault) is (inl none) = inr (inl (same, fault, is))
    by (inr (t, other)) (Some fault) is (inl none) = inl ((λ same. absurd (other same)), none)

-- what was read of the clean labels of a device is what stands there
abbrev ShowLabels : (size : ℕ) → Sectors → Known → (d : ℕ) → Type 0
ShowLabels size sectors known d = (label s : ℕ) → label < 4 → 4 ≤ s → s < 64
    → known d (slice_index (labels_of size) label + s) ≡ Some (sectors d (slice_index (labels_of size) label + s)).stable

labels_shown : (size : ℕ) (sectors : Sectors) (known : Known) (d : ℕ) → ReadsTrue sectors known → IsReadWhole size (known d) → AreClean size sectors d → ShowLabels size sectors known d
labels_shown size sectors known d true_to whole clean label s lt lo hi =
    let read = whole label s lt lo hi in
    read.1 ∙ ap Some (true_to d (slice_index (labels_of size) label + s) read.0 read.1 (clean label s lt lo hi))

label_sector_is : (a i : ℕ) → a + (4 + i) ≡ (a + 4) + i
label_sector_is a i = omega arith

-- so a record that stands on them is verified by what was read
pub shown_verified : (size : ℕ → ℕ) (sectors : Sectors) (known : Known) (name : List ℕ) (d : ℕ) (u : Uberblock) (config : List ℕ) → ShowLabels (size d) sectors known d
    → IsVerifiedOn head_of size (all_stable sectors) name d u config → IsVerifiedOn head_of size known name d u config
shown_verified size sectors known name d u config shows v =
    let place_inside : v.place < 128 = v.verified.inside in
    let few : sectors_in v.verified.blob ≤ 28 = v.verified.is_record.most in
    record {
      place = v.place;
      verified = record {
        inside = v.verified.inside;
        uberblock = shows (v.place / 32) (32 + v.place % 32) (omega arith) (omega arith) (omega arith) ∙ v.verified.uberblock;
        label = v.verified.label;
        is_label = v.verified.is_label;
        blob = v.verified.blob;
        shown = λ i lt. subst (λ s. known d s ≡ Some (sectors d s).stable) (label_sector_is (slice_index (labels_of (size d)) v.verified.label) i)
            (shows v.verified.label (4 + i) v.verified.is_label (omega arith) (omega arith)) ∙ v.verified.shown i lt;
        is_record = v.verified.is_record;
      };
      is_read = (_, shows v.verified.label 4 v.verified.is_label (omega arith) (omega arith));
      head = v.head;
      reads = v.reads;
      name_is = v.name_is;
    }

module _ (sectors : Sectors) (h : HostState) (entry : Entry) (made : List Noted) (next : HostState) (name : List ℕ) (fit : IsFit h) (answers : AllAnswer sectors made)
    (line : IsImport h name made next entry.reply) (none : line.best ≡ None) (no_more : line.more ≡ []) where
  reads_are : line.reads ≡ made
  reads_are = sym (line.all ∙ ap (λ more. line.reads ++ more) no_more ∙ append-nil line.reads)

  look : IsLook h.size (all_handed h.table) line.looks made
  look = subst (IsLook h.size (all_handed h.table) line.looks) reads_are line.look

  room : HaveRoom h.size (all_handed h.table)
  room = handed_room h.size h.table fit.sized

  best : IsBest head_of line.looks name (128 * length (all_handed h.table)) None
  best = subst (IsBest head_of line.looks name (128 * length (all_handed h.table))) none line.is_best

  not_verified : (d : ℕ) (u : Uberblock) (config : List ℕ) → IsVerifiedOn head_of h.size (known_by h.size (all_handed h.table) line.looks) name d u config → ⊥
  not_verified = best_none head_of h.size (all_handed h.table) line.looks made sectors name look room answers best

  read_failed : (i d : ℕ) (u : Uberblock) (config : List ℕ) → slice_get (all_handed h.table) i ≡ Some d → AreClean (h.size d) (run made sectors) d
      → IsVerifiedOn head_of h.size (all_stable (run made sectors)) name d u config → NoneFailed d made ⊎ SomeFailed d made → SomeFailed d made
  read_failed i d u config is clean v (inr failed) = failed
  read_failed i d u config is clean v (inl fine) =
      let known = known_by h.size (all_handed h.table) line.looks in
      let whole = looks_whole h.size (all_handed h.table) line.looks made i d look is (room i d is) fine in
      let true_to = looks_true h.size (all_handed h.table) line.looks made sectors look answers in
      absurd (not_verified d u config (shown_verified h.size (run made sectors) known name d u config
      (labels_shown (h.size d) (run made sectors) known d true_to whole clean) v))

  finds : FindsNone h sectors name made
  finds = record {
    looks = line.looks;
    look = look;
    none = not_verified;
    cause = λ i d u config is clean v. read_failed i d u config is clean v (failed_or d made);
  }

pub finds_none : (sectors : Sectors) (h : HostState) (entry : Entry) (made : List Noted) (next : HostState) (name : List ℕ) → IsFit h → AllAnswer sectors made
    → Step h entry made next → entry.asked ≡ Some (requests.Import name) → entry.reply ≡ replies.Refused refusals.NoRecord → FindsNone h sectors name made
finds_none sectors h entry made next name fit answers step asked is =
    let none = import_none h entry made next name step asked is in finds sectors h entry made next name fit answers none.0 none.1 none.2
