-- A read gives the block, or is exhausted where no copy was good.
use Rattle.std.proofs.Common.{true≢false, ◌≡◌, ℕ, zero, suc, ◌+◌, ◌<◌, Bool, true, false, cond, List, [], ◌∷◌, ◌++◌, length, get_or, Contains, Option, Some, None, refl, sym, ap, ◌∙◌, subst, inl, inr, ◌⊎◌, arith, append-nil}
use Rattle.std.specs.Str.{bytes_eq}
use Rattle.std.specs.List.{AllByRecursion}
use Rattle.std.proofs.lemmas.List.{take_all}
use Rattle.std.proofs.lemmas.Slice.Eq.{bytes_eq-Decides}
use Rattle.std.proofs.lemmas.Option.{none-some}
use Rattle.sha2.specs.Sha256.{sha256}
use Rattle.mp_base.specs.Outside.{Rose}
use Rattle.bank_core.specs.declared.bank.Fault.{Fault}
use Rattle.bank_core.specs.BankView.{BankView}
use Rattle.bank_core.specs.Calls.{AllCaused, device_of, fault_of}
use Rattle.bank_core.specs.Disk.{Sector, Sectors, Read, Noted, IsClean, Answers, AllAnswer, after_call, hurt, as_found, replay, run, sector_size, sector_of}
use Rattle.bank_core.specs.Story.{Story, now}
use Rattle.bank_core.proofs.Blocks.{block_sectors}
use Rattle.bank_core.proofs.Composing.{caused_counts, run_more}
use Rattle.mirror_io.specs.declared.copies.CopyOf.{CopyOf}
use Rattle.mirror_io.specs.declared.copies.CopySeen.{CopySeen}
use Rattle.mirror_io.specs.Clash.{IsFound, Clashes}
use Rattle.mirror_io.specs.Copies.{tries}
use Rattle.mirror_io.specs.Mirror.{ReadsBlock}
use Rattle.mirror_io.specs.Reading.{MirrorBlock}
use Rattle.mirror_io.specs.Reads.{AreTried, HasSum}
use Rattle.mirror_io.proofs.Causing.{all_by, all_readable, rose_from}
use Rattle.mirror_io.proofs.Reading.{Next, next_rest, tried_good, same_block}
use Rattle.mirror_io.proofs.SumReads.{tried_sum}

-- the last read gave the bytes
block_found : (at : ℕ) (Good : List ℕ → Type 0) (copies : List CopyOf) (made : List Noted) (wrong : List CopyOf) (block : List ℕ) → AreTried at Good copies made wrong (Some block)
    → IsFound made block
block_found at Good [] made wrong block r = absurd (none-some block (sym r.2))
block_found at Good (copy ∷ copies) [] wrong block r = absurd r
block_found at Good (copy ∷ copies) (noted ∷ made) wrong block r = go r (λ wrong' rest. block_found at Good copies made wrong' block rest)
  where
    go : Next at Good copy noted copies made wrong (Some block) → ((wrong' : List CopyOf) → AreTried at Good copies made wrong' (Some block) → IsFound made block)
        → IsFound (noted ∷ made) block
    go (inl (failed, rest)) more = inr (more wrong rest)
    go (inr (inl (others, bytes, differs, is, rest))) more = inr (more others rest)
    go (inr (inr (bytes, serves, none, right, is))) more = inl (rw serves.gives.is (same_block block bytes is))

pub block_right : (b : MirrorBlock) (seen : List CopySeen) (given block : List ℕ) (old new : BankView) → (r : ReadsBlock b seen (Some given) old new)
    → b.sum ≡ sha256 block → (given ≡ block) ⊎ Clashes r.reads given block
block_right b seen given block old new r is = go (bytes_eq given block) refl
  where
    tried : AreTried b.at (HasSum b.sum) (tries b.copies) r.reads r.wrong (Some given)
    tried = tried_sum b.at b.sum (tries b.copies) r.reads r.wrong (Some given) r.is_read

    go : (t : Bool) → bytes_eq given block ≡ t → (given ≡ block) ⊎ Clashes r.reads given block
    go true eq = inl ((bytes_eq-Decides given block).0 eq)
    go false eq = inr (record {
      read = block_found b.at (HasSum b.sum) (tries b.copies) r.reads r.wrong given tried;
      differs = λ same. true≢false (sym ((bytes_eq-Decides given block).1 same) ∙ eq);
      same_sum = tried_good b.at (HasSum b.sum) (tries b.copies) r.reads r.wrong given tried ∙ is;
    })

-- A sector that is clean behind a read was clean before, and had the same bytes.
record Kept (before after : Sector) : Type 0 where
  clean : IsClean after → IsClean before
  same : after.stable ≡ before.stable

kept_hurt : (damage : Bool) (x : Sector) → Kept x (hurt damage x)
kept_hurt damage x = record { clean = λ c. record { still = c.still; sound = go damage c.sound }; same = refl }
  where
    go : (t : Bool) → cond t true x.damaged ≡ false → x.damaged ≡ false
    go true e = absurd (true≢false e)
    go false e = e

kept_more : {a b c : Sector} → Kept a b → Kept b c → Kept a c
kept_more x y = record { clean = λ is. x.clean (y.clean is); same = y.same ∙ x.same }

next_read : (at : ℕ) (Good : List ℕ → Type 0) (copy : CopyOf) (noted : Noted) (more : List CopyOf) (made : List Noted) (wrong : List CopyOf) → Next at Good copy noted more made wrong None
    → (bytes : List ℕ) × (fault : Option Fault) × (noted.call ≡ Read copy.dev at bytes fault)
next_read at Good copy noted more made wrong (inl (failed, rest)) = (failed.bytes, Some failed.fault, failed.gives.is)
next_read at Good copy noted more made wrong (inr (inl (others, bytes, differs, is, rest))) = (bytes, None, differs.gives.is)
next_read at Good copy noted more made wrong (inr (inr (bytes, serves, none, right, is))) = (bytes, None, serves.gives.is)

kept_one : (noted : Noted) (dev at : ℕ) (bytes : List ℕ) (fault : Option Fault) (d s : ℕ) (x : Sector) → noted.call ≡ Read dev at bytes fault → Kept x (replay (noted ∷ []) d s x)
kept_one noted dev at bytes fault d s x is = rw is (kept_hurt (noted.damage d s) x)

kept_reads : (at : ℕ) (Good : List ℕ → Type 0) (copies : List CopyOf) (made : List Noted) (wrong : List CopyOf) (d s : ℕ) (x : Sector) → AreTried at Good copies made wrong None
    → Kept x (replay made d s x)
kept_reads at Good [] made wrong d s x r = rw r.0 (record { clean = λ c. c; same = refl })
kept_reads at Good (copy ∷ copies) [] wrong d s x r = absurd r
kept_reads at Good (copy ∷ copies) (noted ∷ made) wrong d s x r =
    let one = next_read at Good copy noted copies made wrong r in
    let rest = next_rest at Good copy noted copies made wrong r in
    kept_more (kept_one noted copy.dev at one.0 one.1 d s x one.2) (kept_reads at Good copies made rest.0 d s _ rest.1)

one_sector : (bytes : List ℕ) → length bytes ≡ 4096 → sector_of 0 bytes ≡ bytes
unfolding sector_size
one_sector bytes whole = take_all 4096 bytes (omega arith)

-- a read of a clean sector gives what stands there
clean_read : (sectors : Sectors) (noted : Noted) (dev at : ℕ) (bytes : List ℕ) → noted.call ≡ Read dev at bytes None → length bytes ≡ 4096
    → Answers (as_found noted sectors) noted.call → IsClean (as_found noted sectors dev at) → bytes ≡ (as_found noted sectors dev at).stable
clean_read sectors noted dev at bytes is whole answers clean =
    let a : Answers (as_found noted sectors) (Read dev at bytes None) = subst (Answers (as_found noted sectors)) is answers in
    let zero_there : at + 0 ≡ at = omega arith in
    let here : IsClean (as_found noted sectors dev (at + 0)) = subst (λ n. IsClean (as_found noted sectors dev n)) (sym zero_there) clean in
    let one = block_sectors bytes whole in
    sym (one_sector bytes whole) ∙ a.1 0 (omega arith) here ∙ ap (λ n. (as_found noted sectors dev n).stable) zero_there

-- Where such a sector has the sum, the read of its device failed.
abbrev Owes : (at : ℕ) → (sum : List ℕ) → Sectors → (f g : ℕ → ℕ) → CopyOf → Type 0
Owes at sum sectors f g copy = IsClean (sectors copy.dev at) → sha256 (sectors copy.dev at).stable ≡ sum → Rose (f copy.dev) (g copy.dev)

read_hurts : (noted : Noted) (dev at : ℕ) (bytes : List ℕ) (fault : Option Fault) (d s : ℕ) (x : Sector) → noted.call ≡ Read dev at bytes fault
    → after_call noted d s x ≡ hurt (noted.damage d s) x
read_hurts noted dev at bytes fault d s x is = rw is refl

all_owe : (at : ℕ) (sum : List ℕ) (copies : List CopyOf) (made : List Noted) (wrong : List CopyOf) (sectors : Sectors) (f g : ℕ → ℕ)
    → AreTried at (HasSum sum) copies made wrong None → AllAnswer sectors made → AllCaused made f g → AllByRecursion (Owes at sum (run made sectors) f g) copies
all_owe at sum [] made wrong sectors f g r answers caused = tt
all_owe at sum (copy ∷ copies) [] wrong sectors f g r answers caused = absurd r
all_owe at sum (copy ∷ copies) (noted ∷ made) wrong sectors f g r answers caused =
    let between = caused.0 in
    let rest = next_rest at (HasSum sum) copy noted copies made wrong r in (
      here r,
      all_by (Owes at sum (run made (run (noted ∷ []) sectors)) between g) (Owes at sum (run (noted ∷ made) sectors) f g) copies
          (λ x owes clean same. rose_from (f x.dev) (between x.dev) (g x.dev) (g x.dev) (caused.1.counts x.dev) (owes clean same) (omega arith))
          (all_owe at sum copies made rest.0 (run (noted ∷ []) sectors) between g rest.1 answers.1 caused.2),
    )
  where
    kept : Kept (after_call noted copy.dev at (sectors copy.dev at)) (run (noted ∷ made) sectors copy.dev at)
    kept =
        let rest = next_rest at (HasSum sum) copy noted copies made wrong r in
        kept_reads at (HasSum sum) copies made rest.0 copy.dev at (after_call noted copy.dev at (sectors copy.dev at)) rest.1

    here : Next at (HasSum sum) copy noted copies made wrong None → Owes at sum (run (noted ∷ made) sectors) f g copy
    here (inl (failed, rest)) clean same =
        rose_from (f copy.dev) (f copy.dev) (caused.0 copy.dev) (g copy.dev) (omega arith)
        (subst (λ d. Rose (f d) (caused.0 d)) (ap device_of failed.gives.is) (caused.1.cause failed.fault (ap fault_of failed.gives.is)))
        (caused_counts made caused.0 g caused.2 copy.dev)
    here (inr (inl (others, bytes, differs, is, rest))) clean same =
        let x = sectors copy.dev at in
        let found : after_call noted copy.dev at x ≡ as_found noted sectors copy.dev at =
        read_hurts noted copy.dev at bytes None copy.dev at x differs.gives.is in
        absurd (differs.is (ap sha256 (clean_read sectors noted copy.dev at bytes differs.gives.is differs.gives.whole answers.0
        (subst IsClean found (kept.clean clean))) ∙ ap (λ x. sha256 x.stable) (sym found) ∙ ap sha256 (sym kept.same) ∙ same))
    here (inr (inr (bytes, serves, none, right, is))) clean same = absurd (none-some bytes is)

at_contained : (P : CopyOf → Type 0) (xs : List CopyOf) (x : CopyOf) (k : ℕ) → k < length xs → get_or xs k x ≡ x → AllByRecursion P xs → P x
at_contained P [] x k lt is a = absurd (omega arith)
at_contained P (y ∷ xs) x zero lt is a = subst P is a.0
at_contained P (y ∷ xs) x (suc k) lt is a = at_contained P xs x k (omega arith) is a.1

pub good_found : (b : MirrorBlock) (seen : List CopySeen) (old new : BankView) → ReadsBlock b seen None old new
    → (story : Story) → new.told ≡ Some story → (copy : CopyOf) → Contains b.copies copy → copy.readable ≡ true
    → IsClean (now story copy.dev b.at) → sha256 (now story copy.dev b.at).stable ≡ b.sum → Rose (old.faults copy.dev) (new.faults copy.dev)
good_found b seen old new r story told copy contained readable clean same =
    let told = r.bank.calls.told story told in
    let just : r.reads ++ r.rewrites ≡ r.reads = ap (λ l. r.reads ++ l) r.is_healed ∙ append-nil r.reads in
    let began = now told.story in
    let ends : now story ≡ run r.reads began =
    ap now told.after ∙ run_more told.story.calls (r.reads ++ r.rewrites) told.story.start ∙ ap (λ made. run made began) just in
    let P : CopyOf → Type 0 = Owes b.at b.sum (run r.reads began) old.faults new.faults in
    let all = all_owe b.at b.sum (tries b.copies) r.reads r.wrong began old.faults new.faults
    (tried_sum b.at b.sum (tries b.copies) r.reads r.wrong None r.is_read)
    (subst (AllAnswer began) just told.answers) (subst (λ made. AllCaused made old.faults new.faults) just r.bank.calls.caused) in
    at_contained (λ copy. copy.readable ≡ true → P copy) b.copies copy contained.0 contained.1 contained.2 (all_readable P b.copies all) readable
    (subst (λ sectors. IsClean (sectors copy.dev b.at)) ends clean) (sym (ap (λ sectors. sha256 (sectors copy.dev b.at).stable) ends) ∙ same)
