-- What is counted of a copy, by what it showed, is what the row counts of the calls on its leaf's device.
use Rattle.std.proofs.Common.{◌≡◌, ◌≢◌, ◌⊎◌, inl, inr, ℕ, ◌==◌, ◌&&◌, ◌||◌, Bool, true, false, not, cond, List, [], ◌∷◌, ◌++◌, Option, Some, None, is_some, refl, sym, ap, ap₂, ◌∙◌, subst, append-nil}
use Rattle.std.specs.Option.{is_none}
use Rattle.std.specs.Str.{bytes_eq}
use Rattle.std.proofs.lemmas.Bool.{true≢false, false_from_ne_true}
use Rattle.std.proofs.lemmas.Slice.Eq.{bytes_eq-Decides}
use Rattle.sha2.specs.Sha256.{sha256}
use Rattle.mp_base.specs.declared.number.Guid.{Guid}
use Rattle.bank_core.specs.declared.bank.Fault.{Fault}
use Rattle.bank_core.specs.Calls.{device_of, fault_of}
use Rattle.bank_core.specs.Disk.{Call, Read, Write, Noted}
use Rattle.mirror_io.specs.declared.copies.CopyOf.{CopyOf}
use Rattle.mirror_io.specs.declared.copies.CopySeen.{CopySeen}
use Rattle.mirror_io.specs.declared.copies.CopySeen.TheVariants as seen
use Rattle.mirror_io.specs.Seen.{has_sum, sees, seen_after, copy_seen}
use Rattle.pool_moves.specs.Leaves.{OwnLeaf}
use Rattle.pool_moves.specs.LineRows.{write_failed}
use Rattle.pool_moves.specs.ReadRow.{read_failed, was_wrong, counted_call, counted_calls}
use Rattle.pool_moves.specs.Showing.{ReadFailed, Mismatched, failed_on, shown_by, leaf_shown}
use Rattle.open_pool.specs.declared.count.Counted.{Counted}
use Rattle.open_pool.specs.Counting.{counted_by, counts_with, up_if, has_fault}
use Rattle.open_pool.specs.Reading.{seen_as}
use Rattle.open_pool.proofs.CallsOnCopies.{calls_on, on_both, IsMended, OnCopy, Untried, Failing, Wrong, Good}

-- what is known of a leaf, with what is counted on it
abbrev pub counted_own : Counted → OwnLeaf → OwnLeaf
counted_own c own = record own { counts = counts_with c own.counts; faults = cond own.joined (up_if (has_fault c) own.faults) own.faults }

-- All of them by the calls on the device alone.
abbrev seen_fold : (sum : List ℕ) → CopySeen → List Call → CopySeen
seen_fold sum s [] = s
seen_fold sum s (call ∷ calls) = seen_fold sum (sees (has_sum sum) s call) calls

abbrev counted_fold : (sum : List ℕ) → OwnLeaf → List Call → OwnLeaf
counted_fold sum own [] = own
counted_fold sum own (call ∷ calls) = counted_fold sum (counted_call sum call own) calls

abbrev failed_fold : List Call → Bool
failed_fold [] = false
failed_fold (call ∷ calls) = not (is_none (fault_of call)) || failed_fold calls

seen_on : (sum : List ℕ) (d : ℕ) (s : CopySeen) (made : List Noted) → seen_after (has_sum sum) d s made ≡ seen_fold sum s (calls_on d made)
seen_on sum d s [] = refl
seen_on sum d s (noted ∷ made) = by (device_of noted.call == d) (λ s. seen_on sum d s made)
  where
    by : (t : Bool) → ((s : CopySeen) → seen_after (has_sum sum) d s made ≡ seen_fold sum s (calls_on d made))
        → seen_after (has_sum sum) d (cond t (sees (has_sum sum) s noted.call) s) made ≡ seen_fold sum s (cond t (noted.call ∷ calls_on d made) (calls_on d made))
    by true more = more (sees (has_sum sum) s noted.call)
    by false more = more s

counted_on : (sum : List ℕ) (d : ℕ) (own : OwnLeaf) (made : List Noted) → counted_calls sum (Some d) made own ≡ counted_fold sum own (calls_on d made)
counted_on sum d own [] = refl
counted_on sum d own (noted ∷ made) = by (device_of noted.call == d) (λ own. counted_on sum d own made)
  where
    by : (t : Bool) → ((own : OwnLeaf) → counted_calls sum (Some d) made own ≡ counted_fold sum own (calls_on d made))
        → counted_calls sum (Some d) made (cond t (counted_call sum noted.call own) own) ≡ counted_fold sum own (cond t (noted.call ∷ calls_on d made) (calls_on d made))
    by true more = more (counted_call sum noted.call own)
    by false more = more own

failed_in : (d : ℕ) (made : List Noted) → failed_on made d ≡ failed_fold (calls_on d made)
failed_in d [] = refl
failed_in d (noted ∷ made) = by (device_of noted.call == d) (failed_in d made)
  where
    by : (t : Bool) → failed_on made d ≡ failed_fold (calls_on d made)
        → ((t && not (is_none (fault_of noted.call))) || failed_on made d) ≡ failed_fold (cond t (noted.call ∷ calls_on d made) (calls_on d made))
    by true same = ap (λ b. not (is_none (fault_of noted.call)) || b) same
    by false same = same

-- Nothing is counted where nothing is.
same_own : (own : OwnLeaf) → record own { faults = cond own.joined own.faults own.faults } ≡ own
same_own own = by own.joined
  where
    by : (t : Bool) → record own { faults = cond t own.faults own.faults } ≡ own
    by true = refl
    by false = refl

test_of : (sum bytes : List ℕ) → sha256 bytes ≡ sum → bytes_eq (sha256 bytes) sum ≡ true
test_of sum bytes same = (bytes_eq-Decides (sha256 bytes) sum).1 same

test_not : (sum bytes : List ℕ) → sha256 bytes ≢ sum → bytes_eq (sha256 bytes) sum ≡ false
test_not sum bytes other = false_from_ne_true (bytes_eq (sha256 bytes) sum) (λ is. other ((bytes_eq-Decides (sha256 bytes) sum).0 is))

abbrev counted_so : (served : Bool) → Guid → CopyOf → CopySeen → OwnLeaf → OwnLeaf
counted_so served m copy s own = counted_own (counted_by served m copy s) own

-- By what a copy's device was called for: nothing, a read that failed, one of other bytes with what came behind it, and a good one.
none_counted : (served : Bool) (copy : CopyOf) (m : Guid) (own : OwnLeaf) → own ≡ counted_so served m copy seen.NotTried own
none_counted served copy m own = sym (same_own own)

good_counted : (served : Bool) (copy : CopyOf) (m : Guid) (own : OwnLeaf) → own ≡ counted_so served m copy seen.Good own
good_counted served copy m own = sym (same_own own)

unread_counted : (served : Bool) (copy : CopyOf) (m : Guid) (own : OwnLeaf) → own ≡ counted_so served m copy seen.NotReadable own
unread_counted served copy m own = sym (same_own own)

healed_counted : (served : Bool) (copy : CopyOf) (m : Guid) (own : OwnLeaf) → was_wrong own ≡ counted_so served m copy seen.Healed own
healed_counted served copy m own = sym (same_own (was_wrong own))

failed_counted : (served : Bool) (copy : CopyOf) (m : Guid) (own : OwnLeaf) → read_failed own ≡ counted_so served m copy seen.Failed own
failed_counted served copy m own = refl

abbrev mismatched : (m : Guid) (unmended : Bool) → Counted
mismatched m unmended = record { member = m; reads = false; writes = unmended; mismatches = true }

left_counted : (m : Guid) (own : OwnLeaf) → was_wrong own ≡ counted_own (mismatched m false) own
left_counted m own = sym (same_own (was_wrong own))

unmended_counted : (m : Guid) (own : OwnLeaf) → write_failed (was_wrong own) ≡ counted_own (mismatched m true) own
unmended_counted m own = refl

module _ (at : ℕ) (sum : List ℕ) (outcome : Option (List ℕ)) (mended : List Noted) (copy : CopyOf) (m : Guid) (own : OwnLeaf) where
  -- these are the calls on the device
  abbrev AreCounted : List Call → Type 0
  AreCounted calls = counted_fold sum own calls ≡ counted_so (is_some outcome) m copy (seen_fold sum seen.NotTried calls) own

  all_calls : (calls more xs ys : List Call) → calls ≡ xs → more ≡ ys → AreCounted (xs ++ ys) → AreCounted (calls ++ more)
  all_calls calls more xs ys is is' counted = subst AreCounted (sym (ap₂ (λ a b. a ++ b) is is')) counted

  wrong_read : (bytes : List ℕ) (ys : List Call) → sha256 bytes ≢ sum
      → counted_fold sum (was_wrong own) ys ≡ counted_so (is_some outcome) m copy (seen_fold sum seen.Mismatch ys) own
      → AreCounted (Read copy.dev at bytes None ∷ ys)
  wrong_read bytes ys other counted =
      subst (λ b. counted_fold sum (cond b own (was_wrong own)) ys ≡ counted_so (is_some outcome) m copy (seen_fold sum (cond b seen.Good seen.Mismatch) ys) own)
      (sym (test_not sum bytes other)) counted

  good_read : (bytes : List ℕ) → sha256 bytes ≡ sum → AreCounted (Read copy.dev at bytes None ∷ [])
  good_read bytes same =
      subst (λ b. cond b own (was_wrong own) ≡ counted_so (is_some outcome) m copy (cond b seen.Good seen.Mismatch) own)
      (sym (test_of sum bytes same)) (good_counted (is_some outcome) copy m own)

  -- a copy that was wrong and isn't written, and one that is
  left_wrong : is_some outcome ≡ false ⊎ copy.lacks ≡ true → was_wrong own ≡ counted_so (is_some outcome) m copy seen.Mismatch own
  left_wrong why = left_counted m own ∙ ap (λ b. counted_own (mismatched m b) own) (sym (by copy.lacks refl why))
    where
      by : (t : Bool) → copy.lacks ≡ t → is_some outcome ≡ false ⊎ t ≡ true → (not t && is_some outcome) ≡ false
      by true is why = refl
      by false is (inl none) = none
      by false is (inr lacks) = absurd (let no : false ≡ true = lacks in cc)

  written_wrong : (block : List ℕ) → is_some outcome ≡ true → copy.lacks ≡ false → (fault : Option Fault)
      → counted_fold sum (was_wrong own) (Write copy.dev at block fault ∷ [])
      ≡ counted_so (is_some outcome) m copy (seen_fold sum seen.Mismatch (Write copy.dev at block fault ∷ [])) own
  written_wrong block some has None = healed_counted (is_some outcome) copy m own
  written_wrong block some has (Some fault) =
      unmended_counted m own ∙ ap (λ b. counted_own (mismatched m b) own) (sym (ap (λ b. not b && is_some outcome) has ∙ some))

  wrong_mended : (bytes : List ℕ) (o : Option (List ℕ)) → outcome ≡ o → sha256 bytes ≢ sum → IsMended at o mended copy
      → AreCounted (Read copy.dev at bytes None ∷ calls_on copy.dev mended)
  wrong_mended bytes None is other then =
      all_calls (Read copy.dev at bytes None ∷ []) (calls_on copy.dev mended) (Read copy.dev at bytes None ∷ []) [] refl then
      (wrong_read bytes [] other (left_wrong (inl (ap is_some is))))
  wrong_mended bytes (Some block) is other then = by copy.lacks refl then
    where
      by : (t : Bool) → copy.lacks ≡ t
          → cond t (calls_on copy.dev mended ≡ []) ((fault : Option Fault) × (calls_on copy.dev mended ≡ Write copy.dev at block fault ∷ []))
          → AreCounted (Read copy.dev at bytes None ∷ calls_on copy.dev mended)
      by true lacks none =
          all_calls (Read copy.dev at bytes None ∷ []) (calls_on copy.dev mended) (Read copy.dev at bytes None ∷ []) [] refl none
          (wrong_read bytes [] other (left_wrong (inr lacks)))
      by false has some =
          all_calls (Read copy.dev at bytes None ∷ []) (calls_on copy.dev mended) (Read copy.dev at bytes None ∷ []) (Write copy.dev at block some.0 ∷ []) refl some.1
          (wrong_read bytes (Write copy.dev at block some.0 ∷ []) other (written_wrong block (ap is_some is) has some.0))

  fold_counted : (calls : List Call) → OnCopy at sum outcome mended copy calls → AreCounted (calls ++ calls_on copy.dev mended)
  fold_counted calls (Untried some none still) = all_calls calls (calls_on copy.dev mended) [] [] none still (none_counted (is_some outcome) copy m own)
  fold_counted calls (Failing fault bytes one still) =
      all_calls calls (calls_on copy.dev mended) (Read copy.dev at bytes (Some fault) ∷ []) [] one still (failed_counted (is_some outcome) copy m own)
  fold_counted calls (Wrong bytes other one then) =
      all_calls calls (calls_on copy.dev mended) (Read copy.dev at bytes None ∷ []) (calls_on copy.dev mended) one refl (wrong_mended bytes outcome refl other then)
  fold_counted calls (Good bytes same some one still) =
      all_calls calls (calls_on copy.dev mended) (Read copy.dev at bytes None ∷ []) [] one still (good_read bytes same)

  pub copy_counted : (reads : List Noted) → copy.readable ≡ true → OnCopy at sum outcome mended copy (calls_on copy.dev reads)
      → counted_calls sum (Some copy.dev) (reads ++ mended) own ≡ counted_so (is_some outcome) m copy (copy_seen sum (reads ++ mended) copy) own
  copy_counted reads up on =
      counted_on sum copy.dev own (reads ++ mended)
      ∙ subst AreCounted (sym (on_both copy.dev reads mended)) (fold_counted (calls_on copy.dev reads) on)
      ∙ ap (λ s. counted_so (is_some outcome) m copy s own) (sym (seen_on sum copy.dev seen.NotTried (reads ++ mended)))
      ∙ ap (λ b. counted_so (is_some outcome) m copy (cond b (seen_after (has_sum sum) copy.dev seen.NotTried (reads ++ mended)) seen.NotReadable) own) (sym up)

  -- On a device that no call was made on, and of a leaf without one, nothing is counted.
  pub other_counted : (dev : Option ℕ) (made : List Noted) → copy.readable ≡ false → ((d : ℕ) → dev ≡ Some d → calls_on d made ≡ [])
      → counted_calls sum dev made own ≡ counted_so (is_some outcome) m copy (copy_seen sum made copy) own
  other_counted dev made down away =
      by dev away ∙ unread_counted (is_some outcome) copy m own
      ∙ ap (λ b. counted_so (is_some outcome) m copy (cond b (seen_after (has_sum sum) copy.dev seen.NotTried made) seen.NotReadable) own) (sym down)
    where
      none : (made : List Noted) → counted_calls sum None made own ≡ own
      none [] = refl
      none (noted ∷ made) = none made

      by : (dev : Option ℕ) → ((d : ℕ) → dev ≡ Some d → calls_on d made ≡ []) → counted_calls sum dev made own ≡ own
      by None away = none made
      by (Some d) away = counted_on sum d own made ∙ ap (counted_fold sum own) (away d refl)

-- Where no copy is good, each showed that it can't be read, a failure or other bytes.
pub copy_shown_as : (at : ℕ) (sum : List ℕ) (mended : List Noted) (copy : CopyOf) (reads : List Noted) → mended ≡ []
    → (copy.readable ≡ true → OnCopy at sum None mended copy (calls_on copy.dev reads))
    → copy_seen sum (reads ++ mended) copy ≡ seen_as (leaf_shown reads copy)
copy_shown_as at sum mended copy reads none on = by copy.readable refl
  where
    whole : reads ++ mended ≡ reads
    whole = ap (λ l. reads ++ l) none ∙ append-nil reads

    shown : (calls : List Call) → OnCopy at sum None mended copy calls
        → seen_fold sum seen.NotTried calls ≡ seen_as (cond (failed_fold calls) ReadFailed Mismatched)
    shown calls (Untried some is still) = absurd (true≢false (sym some))
    shown calls (Failing fault bytes one still) = subst (λ l. seen_fold sum seen.NotTried l ≡ seen_as (cond (failed_fold l) ReadFailed Mismatched)) (sym one) refl
    shown calls (Wrong bytes other one then) = subst (λ l. seen_fold sum seen.NotTried l ≡ seen_as (cond (failed_fold l) ReadFailed Mismatched)) (sym one)
        (ap (λ b. cond b seen.Good seen.Mismatch) (test_not sum bytes other))
    shown calls (Good bytes same some one still) = absurd (true≢false (sym some))

    by : (t : Bool) → copy.readable ≡ t → copy_seen sum (reads ++ mended) copy ≡ seen_as (leaf_shown reads copy)
    by true up =
        ap (λ b. cond b (seen_after (has_sum sum) copy.dev seen.NotTried (reads ++ mended)) seen.NotReadable) up
        ∙ ap (seen_after (has_sum sum) copy.dev seen.NotTried) whole ∙ seen_on sum copy.dev seen.NotTried reads
        ∙ shown (calls_on copy.dev reads) (on up)
        ∙ ap (λ b. seen_as (cond b ReadFailed Mismatched)) (sym (failed_in copy.dev reads))
        ∙ ap (λ b. seen_as (shown_by b reads copy.dev)) (sym up)
    by false down =
        ap (λ b. cond b (seen_after (has_sum sum) copy.dev seen.NotTried (reads ++ mended)) seen.NotReadable) down
        ∙ ap (λ b. seen_as (shown_by b reads copy.dev)) (sym down)
