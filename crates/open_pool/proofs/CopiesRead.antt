-- A read of copies by mirror_io, with what it counts, is a read of the block of their pointer.
use Rattle.std.proofs.Common.{◌≡◌, ℕ, ◌+◌, Bool, List, [], ◌∷◌, ◌++◌, length, map, Option, Some, is_some, Result, Ok, Err, refl, sym, ap, ap₂, ◌∙◌, subst}
use Rattle.std.specs.Prelude.{slice_get, is_ok}
use Rattle.std.proofs.lemmas.List.{length-map}
use Rattle.mp_base.specs.declared.place.Pointer.{Pointer}
use Rattle.bank_core.specs.BankView.{BankView}
use Rattle.vdev_tree.specs.declared.top.Top.{Top}
use Rattle.vdev_tree.specs.declared.vdev.LeafVdev.{LeafVdev}
use Rattle.dtl_rules.specs.Widening.{sectors_of}
use Rattle.mirror_io.specs.declared.copies.CopyOf.{CopyOf}
use Rattle.mirror_io.specs.declared.copies.CopySeen.{CopySeen}
use Rattle.mirror_io.specs.declared.copies.Exhausted.{Exhausted}
use Rattle.mirror_io.specs.Copies.{tries}
use Rattle.mirror_io.specs.Mirror.{ReadsBlock, given}
use Rattle.mirror_io.specs.Reads.{IsReads}
use Rattle.mirror_io.specs.Seen.{copy_seen}
use Rattle.txg_engine.specs.Frozen.{FrozenGroup}
use Rattle.open_pool.specs.declared.read.ReadFault.{ReadFault}
use Rattle.open_pool.specs.Copies.{copies_on}
use Rattle.open_pool.specs.Counting.{counts_of, counted_tops, counted_groups}
use Rattle.open_pool.specs.Parts.{TopParts, PoolParts, all_parts}
use Rattle.open_pool.specs.Reading.{answer_by, answer_of, answered, seen_on, ReadsAt}
use Rattle.open_pool.specs.State.{sectors_in, leaves_under}

served_is : (out : List ℕ) (result : Result (Unit {0}) Exhausted) → is_ok result ≡ is_some (given out result)
served_is out (Ok done) = refl
served_is out (Err stop) = refl

answers : (out : List ℕ) (result : Result (Unit {0}) Exhausted) (shown : List CopySeen)
    → answered out (answer_by (is_ok result) shown) ≡ answer_of (given out result) shown
answers out (Ok done) shown = refl
answers out (Err stop) shown = refl

pub seen_long : (sum : List ℕ) (copies : List CopyOf) (seen : List CopySeen) (outcome : Option (List ℕ)) (at : ℕ) (from to : BankView)
    → ReadsBlock (record { copies = copies; at = at; sum = sum }) seen outcome from to → length seen ≡ length copies
seen_long sum copies seen outcome at from to r = ap length r.shown ∙ length-map copies (copy_seen sum (r.reads ++ r.rewrites))

pub reads_at : (pointer : Pointer) (old new : List TopParts) (was is : Option FrozenGroup) (under : List LeafVdev) → slice_get (leaves_under old) pointer.place.top ≡ Some under
    → (copies : List CopyOf) → copies ≡ copies_on pointer.birth.0 under → (seen shown : List CopySeen) → shown ≡ seen
    → (out : List ℕ) (result : Result (Unit {0}) Exhausted) (from to : BankView)
    → ReadsBlock (record { copies = copies; at = 128 + pointer.place.sector; sum = pointer.sum }) seen (given out result) from to
    → (served : Bool) → served ≡ is_ok result
    → new ≡ counted_tops (counts_of served under copies shown) old → is ≡ counted_groups (counts_of served under copies shown) was
    → (answer : Result (Unit {0}) ReadFault) → answer ≡ answer_by served shown
    → ReadsAt pointer old new was is (answered out answer) from to
reads_at pointer old new was is under there copies copies_are seen shown same out result from to r served ok tops group answer says =
    let made = r.reads ++ r.rewrites in
    let all : shown ≡ seen_on pointer.sum made pointer.birth.0 under = same ∙ r.shown ∙ ap (map (copy_seen pointer.sum made)) copies_are in
    let counts : counts_of served under copies shown ≡ counts_of (is_some (given out result)) under (copies_on pointer.birth.0 under) (seen_on pointer.sum made pointer.birth.0 under) =
    ap (λ b. counts_of b under copies shown) (ok ∙ served_is out result) ∙ ap₂ (counts_of (is_some (given out result)) under) copies_are all in
    record {
      under = under;
      there = there;
      reads = r.reads;
      rewrites = r.rewrites;
      wrong = r.wrong;
      outcome = given out result;
      calls = r.bank;
      is_read = subst (λ cs. IsReads (128 + pointer.place.sector) pointer.sum (tries cs) r.reads r.wrong (given out result)) copies_are r.is_read;
      is_healed = r.is_healed;
      tops = tops ∙ ap (λ cs. counted_tops cs old) counts;
      group = group ∙ ap (λ cs. counted_groups cs was) counts;
      says = ap (answered out) (says ∙ ap (λ b. answer_by b shown) ok) ∙ answers out result shown ∙ ap (answer_of (given out result)) all;
    }

pub sectors_told : (tops : List Top) → sectors_in (all_parts tops) ≡ sectors_of tops
sectors_told [] = refl
sectors_told (top ∷ tops) = ap (λ ns. top.sectors ∷ ns) (sectors_told tops)

pub reads_of : {pointer : Pointer} {old new : List TopParts} {was is : Option FrozenGroup} {answer : Result (List ℕ) ReadFault} {from to : BankView} (p : PoolParts)
    → p.tops ≡ old → p.frozen ≡ was → ReadsAt pointer old new was is answer from to → ReadsAt pointer p.tops new p.frozen is answer from to
reads_of {pointer} {old} {new} {was} {is} {answer} {from} {to} p tops frozen r =
    subst (λ ts. ReadsAt pointer ts new p.frozen is answer from to) (sym tops) (subst (λ f. ReadsAt pointer old new f is answer from to) (sym frozen) r)
