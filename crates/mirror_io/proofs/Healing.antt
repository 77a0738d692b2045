-- Copies that are rewritten, one after another.
use Rattle.std.proofs.Common.{true≢false, ◌≡◌, ℕ, ◌+◌, ◌<◌, Bool, true, false, List, [], ◌∷◌, ◌++◌, length, take, drop, get_or, set, Option, Some, None, refl, sym, ap, ap₂, ◌∙◌, arith}
use Rattle.std.specs.List.{filter}
use Rattle.std.proofs.lemmas.List.{take_more, map-append, get_or-drop, drop-set-lt, drop-drop}
use Rattle.std.proofs.lemmas.List.Elements.{filter-append}
use Rattle.std.proofs.Math.ListN.{get_or-map}
use Rattle.bank_core.specs.declared.bank.Fault.{Fault}
use Rattle.bank_core.specs.Asks.{asks_of, ask_of, Writes}
use Rattle.bank_core.specs.BankView.{BankView}
use Rattle.bank_core.specs.Calls.{Called}
use Rattle.bank_core.specs.Disk.{Write, Noted}
use Rattle.bank_core.proofs.Framing.{makes_none, makes_more, makes_one}
use Rattle.mirror_io.specs.declared.copies.CopyOf.{CopyOf}
use Rattle.mirror_io.specs.declared.copies.CopySeen.{CopySeen}
use Rattle.mirror_io.specs.declared.copies.CopySeen.TheVariants as seen
use Rattle.mirror_io.specs.Copies.{is_due, AreApart}
use Rattle.mirror_io.specs.Healing.{HealsCopy, Heals, is_rewritten}
use Rattle.mirror_io.specs.Reads.{rewrites}
use Rattle.mirror_io.specs.Seen.{sees, copy_shown, is_mismatch}
use Rattle.mirror_io.proofs.Showing.{shows_none, shows_more, shows_at, got_there, not_readable, same_device}

mismatch_is : (s : CopySeen) → is_mismatch s ≡ true → s ≡ seen.Mismatch
mismatch_is seen.Mismatch e = refl
mismatch_is seen.NotTried e = absurd (cc)
mismatch_is seen.NotReadable e = absurd (cc)
mismatch_is seen.Failed e = absurd (cc)
mismatch_is seen.Good e = absurd (cc)
mismatch_is seen.Healed e = absurd (cc)

-- what a write shows goes by no test
written_shows : (test : List ℕ → Bool) (known : CopySeen) (dev at : ℕ) (block : List ℕ) (fault : Option Fault)
    → sees (λ bytes. false) known (Write dev at block fault) ≡ sees test known (Write dev at block fault)
written_shows test known dev at block None = refl
written_shows test known dev at block (Some fault) = refl

-- one copy that is wrong
pub healed : {copy : CopyOf} {at : ℕ} {block : List ℕ} {known shown : CopySeen} {fault : Option Fault} {old new : BankView} → is_due false copy ≡ true
    → is_mismatch known ≡ true → shown ≡ sees (λ bytes. false) seen.Mismatch (Write copy.dev at block fault) → Called (Write copy.dev at block fault) old new
    → HealsCopy copy at block known shown old new
healed {copy} {at} {block} {known} {shown} {fault} {old} {new} e mismatch is called =
    let one = makes_one called in
    record {
      made = record { call = Write copy.dev at block fault; damage = one.damage } ∷ [];
      bank = one.makes;
      asks = rw (e, mismatch) refl;
      shown = λ test. rw (same_device copy.dev) (is ∙ written_shows test seen.Mismatch copy.dev at block fault
          ∙ ap (λ k. sees test k (Write copy.dev at block fault)) (sym (mismatch_is known mismatch)));
      on = (refl, tt);
      idle = λ not. absurd (true≢false (sym e ∙ not));
    }

pub heals_none : {copies : List CopyOf} {at : ℕ} {block : List ℕ} {known : List CopySeen} {bank : BankView} → Heals copies [] at block known known bank bank
heals_none {copies} {known = known} = record {
  made = [];
  bank = makes_none;
  asks = λ test before is. refl;
  shown = λ test. shows_none test copies known;
}

asks-more : (first second : List Noted) → asks_of (first ++ second) ≡ asks_of first ++ asks_of second
asks-more first second = map-append (λ noted. ask_of noted.call) first second

rewrites-more : (at : ℕ) (block : List ℕ) (first second : List CopyOf) → rewrites at block (first ++ second) ≡ rewrites at block first ++ rewrites at block second
rewrites-more at block first second = map-append (λ copy. Writes copy.dev at block) first second

first_left : {X : Type 0} (i : ℕ) (xs : List X) (d : X) → get_or (drop i xs) 0 d ≡ get_or xs i d
first_left i xs d = get_or-drop i xs 0 d ∙ ap (λ n. get_or xs n d) (omega arith)

same_there : {X : Type 0} (i : ℕ) (xs ys : List X) (d : X) → drop i xs ≡ drop i ys → get_or xs i d ≡ get_or ys i d
same_there i xs ys d e = sym (first_left i xs d) ∙ ap (λ l. get_or l 0 d) e ∙ first_left i ys d

pub left_next : {X : Type 0} (i : ℕ) (xs ys : List X) (y : X) → drop i xs ≡ drop i ys → drop (i + 1) (set xs i y) ≡ drop (i + 1) ys
left_next i xs ys y e = drop-set-lt (i + 1) xs i y (omega arith) ∙ sym (drop-drop 1 i xs) ∙ ap (drop 1) e ∙ drop-drop 1 i ys

-- the asks for the first copies, and for the next one
asks_next : (test : List ℕ → Bool) (before : List Noted) (copies : List CopyOf) (at : ℕ) (block : List ℕ) (i : ℕ) (d : CopyOf) (k : CopySeen) (one other : List Noted)
    → i < length copies → k ≡ copy_shown test before (get_or copies i d)
    → asks_of one ≡ rewrites at block (filter (λ copy. is_rewritten (copy_shown test before copy) copy) (take i copies))
    → asks_of other ≡ rewrites at block (filter (is_rewritten k) (get_or copies i d ∷ []))
    → asks_of (one ++ other) ≡ rewrites at block (filter (λ copy. is_rewritten (copy_shown test before copy) copy) (take (i + 1) copies))
asks_next test before copies at block i d k one other lt knew a b =
    let here = get_or copies i d in
    let p : CopyOf → Bool = λ copy. is_rewritten (copy_shown test before copy) copy in
    asks-more one other ∙ ap₂ (λ x y. x ++ y) a (b ∙ ap (λ k. rewrites at block (filter (is_rewritten k) (here ∷ []))) knew)
    ∙ sym (rewrites-more at block (filter p (take i copies)) (filter p (here ∷ [])))
    ∙ ap (rewrites at block) (sym (filter-append p (take i copies) (here ∷ [])))
    ∙ ap (λ l. rewrites at block (filter p l)) (sym (take_more copies i d lt))

-- the first copies, and the next one
pub heals_next : {copies : List CopyOf} {at : ℕ} {block : List ℕ} {first known : List CopySeen} {old mid new : BankView} (i : ℕ) (d : CopyOf) (e s : CopySeen)
    → i < length copies → length known ≡ length copies → AreApart copies → drop i known ≡ drop i first
    → Heals copies (take i copies) at block first known old mid → HealsCopy (get_or copies i d) at block (get_or known i e) s mid new
    → Heals copies (take (i + 1) copies) at block first (set known i s) old new
heals_next {copies} {at} {block} {first} {known} i d e s lt paired apart left one t =
    let here = get_or copies i d in
    record {
      made = one.made ++ t.made;
      bank = makes_more one.bank t.bank;
      asks = λ test before is. asks_next test before copies at block i d (get_or known i e) one.made t.made lt
          (got_there known i e (copy_shown test before d) (omega arith) ∙ same_there i known first (copy_shown test before d) left
          ∙ ap (λ l. get_or l i (copy_shown test before d)) is ∙ get_or-map (copy_shown test before) copies i d)
          (one.asks test before is) t.asks;
      shown = λ test. shows_more test copies one.made t.made first known (set known i s) (one.shown test)
          (shows_at test copies known t.made i d e s lt apart t.on (λ not. t.idle (not_readable false here not)) (t.shown test) (omega arith));
    }
