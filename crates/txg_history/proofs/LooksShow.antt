-- The laws of looks at devices: what was found, that it is true, and which devices were read whole.
use Rattle.std.proofs.Common.{
  ◌≡◌,
  ℕ,
  zero,
  suc,
  ◌+◌,
  ◌-◌,
  ◌*◌,
  ◌/◌,
  ◌%◌,
  ◌<◌,
  ◌≤◌,
  ◌==◌,
  Bool,
  true,
  false,
  List,
  [],
  ◌∷◌,
  ◌++◌,
  length,
  get_or,
  Option,
  Some,
  None,
  refl,
  sym,
  ap,
  ◌∙◌,
  subst,
  arith,
  ⊎_elim,
}
use Rattle.std.specs.Prelude.{slice_get, slice_index}
use Rattle.std.proofs.lemmas.Bool.{cases_lt}
use Rattle.std.proofs.lemmas.List.{map-append}
use Rattle.std.proofs.lemmas.Option.{slice_get_within, slice_get-get_or}
use Rattle.bank_core.specs.declared.bank.Fault.{Fault}
use Rattle.bank_core.specs.Asks.{Ask, Reads, ask_of, asks_of}
use Rattle.bank_core.specs.Calls.{device_of, fault_of}
use Rattle.bank_core.specs.Disk.{Sectors, Call, Read, Write, Flush, Admit, Eject, Noted, sectors_in, sector_of, run, AllAnswer, IsClean}
use Rattle.bank_core.proofs.Composing.{run_more}
use Rattle.label_store.specs.declared.found.Found.{Found}
use Rattle.label_store.specs.declared.rule.Head.{Head}
use Rattle.label_store.specs.declared.uberblock.Uberblock.{Uberblock}
use Rattle.label_store.specs.Layout.{labels_of}
use Rattle.label_store.specs.Newest.{Parts, parts_of, given_by, look_asks, IsVerifiedBy, IsCandidate, IsBest, IsLook}
use Rattle.label_store.specs.Records.{place_at}
use Rattle.txg_history.specs.Looks.{sector_in, label_sector, device_sector, known_by, AreDistinct, HaveRoom, NoneFailed}
use Rattle.txg_history.specs.Moves.{ReadsTrue}
use Rattle.txg_history.specs.Openings.{IsVerifiedOn, IsYield, IsReadWhole}
use Rattle.txg_history.proofs.DeviceSectors.{ring_sector, config_sector, label_of_device, device_shown}
use Rattle.txg_history.proofs.LookedParts.{
  same_some,
  part_shows,
  answer_first,
  answer_second,
  looked_at,
  AreReads,
  look_reads,
  IsLater,
  reads_later,
  clean_before,
}
use Rattle.txg_history.proofs.LooksFound.{same_test, alike, if_so, if_not, known_at, known_of, parts_verify, sectors_verify, ring_ask, config_ask}

-- What is verified on a device by its sectors is a candidate.
pub verified_candidate : (head_of : List ℕ → Option Head) (size : ℕ → ℕ) (devs : List ℕ) (looks : List Parts)
    (made : List Noted) (sectors : Sectors) (name : List ℕ) (d : ℕ) (u : Uberblock) (config : List ℕ)
    → IsLook size devs looks made → HaveRoom size devs → AllAnswer sectors made → IsVerifiedOn head_of size (known_by size devs looks) name d u config
    → (n : ℕ) × (n < 128 * length devs) × IsCandidate head_of looks name n u config
verified_candidate head_of size devs looks made sectors name d u config l room answered v =
    let k = known_of size devs looks d (place_at (size d) v.place) _ v.verified.uberblock in
    let in_list : k.i < length devs = slice_get_within devs k.i d k.dev_is in
    let inside : v.place < 128 = v.verified.inside in
    let at : (128 * k.i + v.place) / 128 ≡ k.i = omega arith in
    let place : (128 * k.i + v.place) % 128 ≡ v.place = omega arith in (
      128 * k.i + v.place,
      omega arith,
      record {
        parts = k.parts;
        parts_are = ap (slice_get looks) at ∙ k.parts_are;
        verified = subst (λ m. IsVerifiedBy head_of k.parts name m u config) (sym place)
            (sectors_verify head_of size (known_by size devs looks) d k.parts name u config (room k.i d k.dev_is)
            (looked_at size devs looks made sectors l answered k.i d k.parts k.dev_is k.parts_are) k.known_is v);
      },
    )

-- A candidate is verified on its device by what was read there.
pub candidate_verified : (head_of : List ℕ → Option Head) (size : ℕ → ℕ) (devs : List ℕ) (looks : List Parts)
    (made : List Noted) (sectors : Sectors) (name : List ℕ) (n : ℕ) (u : Uberblock) (config : List ℕ)
    → IsLook size devs looks made → AreDistinct devs → HaveRoom size devs → AllAnswer sectors made
    → n < 128 * length devs → IsCandidate head_of looks name n u config
    → (d : ℕ) × IsVerifiedOn head_of size (known_by size devs looks) name d u config
candidate_verified head_of size devs looks made sectors name n u config l apart room answered lt c =
    let low : n / 128 < length devs = omega arith in
    let d = get_or devs (n / 128) 0 in
    let at : slice_get devs (n / 128) ≡ Some (get_or devs (n / 128) 0) = slice_get-get_or devs (n / 128) 0 low in (
      d,
      parts_verify head_of size (known_by size devs looks) d c.parts name (n % 128) u config (room (n / 128) d at)
          (looked_at size devs looks made sectors l answered (n / 128) d c.parts at c.parts_are)
          (λ s. known_at size devs looks (n / 128) d c.parts s apart at c.parts_are) (omega arith) c.verified,
    )

-- The best of the parts is what an opening takes.
pub best_yields : (head_of : List ℕ → Option Head) (size : ℕ → ℕ) (devs : List ℕ) (looks : List Parts)
    (made : List Noted) (sectors : Sectors) (name : List ℕ) (found : Found)
    → IsLook size devs looks made → AreDistinct devs → HaveRoom size devs → AllAnswer sectors made → IsBest head_of looks name (128 * length devs) (Some found)
    → (u : Uberblock) × (found.number ≡ u.number) × (found.pool ≡ u.pool) × IsYield head_of size (known_by size devs looks) name u found.blob.items
best_yields head_of size devs looks made sectors name found l apart room answered best =
    let on = candidate_verified head_of size devs looks made sectors name best.place best.u found.blob.items l apart room
    answered best.inside best.candidate in (
      best.u,
      best.number_is,
      best.pool_is,
      record {
        d = on.0;
        verified = on.1;
        greatest = λ e v other is.
            let c = verified_candidate head_of size devs looks made sectors name e v other l room answered is in
            best.greatest c.0 v other c.1 c.2;
      },
    )

-- Where the parts have none, nothing is verified.
pub best_none : (head_of : List ℕ → Option Head) (size : ℕ → ℕ) (devs : List ℕ) (looks : List Parts) (made : List Noted) (sectors : Sectors) (name : List ℕ)
    → IsLook size devs looks made → HaveRoom size devs → AllAnswer sectors made → IsBest head_of looks name (128 * length devs) None
    → (d : ℕ) (u : Uberblock) (config : List ℕ) → IsVerifiedOn head_of size (known_by size devs looks) name d u config → ⊥
best_none head_of size devs looks made sectors name l room answered best d u config v =
    let c = verified_candidate head_of size devs looks made sectors name d u config l room answered v in best c.0 u config c.1 c.2

reads_more : (first second : List Ask) → AreReads first → AreReads second → AreReads (first ++ second)
reads_more [] second a b = b
reads_more (ask ∷ first) second a b = (a.0, reads_more first second a.1 b)

-- all calls of a look are reads
pub all_reads : (size : ℕ → ℕ) (devs : List ℕ) (looks : List Parts) (made : List Noted) → IsLook size devs looks made → AreReads (asks_of made)
all_reads size [] [] made l = subst (λ m. AreReads (asks_of m)) (sym l) tt
all_reads size [] (parts ∷ looks) made l = absurd l
all_reads size (dev ∷ devs) [] made l = absurd l
all_reads size (dev ∷ devs) (parts ∷ looks) made l =
    subst (λ m. AreReads (asks_of m)) (sym l.2) (subst AreReads (sym (map-append (λ noted. ask_of noted.call) l.0 l.1))
    (reads_more (asks_of l.0) (asks_of l.1) (subst AreReads (sym l.3) (look_reads dev (size dev))) (all_reads size devs looks l.1 l.5)))

-- What one device showed is stable there, where it is clean behind the look.
device_true : (size dev : ℕ) (parts : Parts) (mine : List Noted) (sectors : Sectors) → AllAnswer sectors mine
    → asks_of mine ≡ look_asks dev size → parts ≡ parts_of mine
    → (s : ℕ) (bytes : List ℕ) → device_sector size parts s ≡ Some bytes → IsClean (run mine sectors dev s) → bytes ≡ (run mine sectors dev s).stable
device_true size dev parts mine sectors answered asks are s bytes e clean =
    let sh = device_shown size parts s bytes e in
    sh.bytes_are ∙ part_shows size dev parts mine sectors sh.k sh.at sh.n sh.part answered asks are (sh.ask dev) sh.part_is sh.i sh.inside
    (subst (λ r. IsClean (run mine sectors dev r)) sh.sector_is clean) ∙ ap (λ r. (run mine sectors dev r).stable) (sym sh.sector_is)

-- What a look showed is what is stable on the clean sectors behind it.
pub looks_true : (size : ℕ → ℕ) (devs : List ℕ) (looks : List Parts) (made : List Noted) (sectors : Sectors)
    → IsLook size devs looks made → AllAnswer sectors made
    → ReadsTrue (run made sectors) (known_by size devs looks)
looks_true size [] looks made sectors l answered d s bytes e clean = absurd (cc)
looks_true size (dev ∷ devs) [] made sectors l answered d s bytes e clean = absurd (cc)
looks_true size (dev ∷ devs) (parts ∷ looks) made sectors l answered d s bytes e clean =
    let both : run made sectors d s ≡ run l.1 (run l.0 sectors) d s = ap (λ m. run m sectors d s) l.2 ∙ ap (λ r. r d s) (run_more l.0 l.1 sectors) in
    by_test (dev == d) refl both (subst IsClean both clean) (subst (AllAnswer sectors) l.2 answered)
    (looks_true size devs looks l.1 (run l.0 sectors) l.5 (answer_second l.0 l.1 sectors (subst (AllAnswer sectors) l.2 answered)) d s bytes)
  where
    by_test : (t : Bool) → (dev == d) ≡ t → run made sectors d s ≡ run l.1 (run l.0 sectors) d s → IsClean
        (run l.1 (run l.0 sectors) d s) → AllAnswer sectors (l.0 ++ l.1)
        → (known_by size devs looks d s ≡ Some bytes → IsClean (run l.1 (run l.0 sectors) d s) → bytes ≡ (run l.1 (run l.0 sectors) d s).stable)
        → bytes ≡ (run made sectors d s).stable
    by_test true t both clean answered more =
        let later : IsLater (run l.0 sectors d s) (run l.1 (run l.0 sectors) d s) = reads_later l.1 d s
        (run l.0 sectors d s) (all_reads size devs looks l.1 l.5) in
        let shown : device_sector (size d) parts s ≡ Some bytes = sym
        (if_so (dev == d) (device_sector (size d) parts s) (known_by size devs looks d s) t) ∙ e in
        let asks : asks_of l.0 ≡ look_asks d (size d) = subst (λ x. asks_of l.0 ≡ look_asks x (size x)) (same_test dev d t) l.3 in
        device_true (size d) d parts l.0 sectors (answer_first l.0 l.1 sectors answered) asks l.4 s bytes shown (clean_before _ _ later clean)
        ∙ sym later.stable ∙ ap (λ x. x.stable) (sym both)
    by_test false t both clean answered more =
        more (sym (if_not (dev == d) (device_sector (size d) parts s) (known_by size devs looks d s) t) ∙ e) clean ∙ ap (λ x. x.stable) (sym both)

-- a read that was asked and didn't fail gave its part
asked_one : (call : Call) (dev at n : ℕ) → Reads dev at n ≡ ask_of call → (device_of call ≡ dev → fault_of call ≡ None)
    → (part : List ℕ) × (given_by call ≡ Some part)
asked_one (Read dev' at' bytes fault) dev at n e fine = of fault (fine (same_dev dev dev' at at' n (sectors_in bytes) e))
  where
    same_dev : (dev dev' at at' n n' : ℕ) → Reads dev at n ≡ Reads dev' at' n' → dev' ≡ dev
    same_dev dev dev' at at' n n' e = cc

    of : (fault : Option Fault) → fault ≡ None → (part : List ℕ) × (given_by (Read dev' at' bytes fault) ≡ Some part)
    of None is = (bytes, refl)
    of (Some f) is = absurd (cc)
asked_one (Write dev' at' bytes fault) dev at n e fine = absurd (cc)
asked_one (Flush dev' fault) dev at n e fine = absurd (cc)
asked_one (Admit dev' holds) dev at n e fine = absurd (cc)
asked_one (Eject dev') dev at n e fine = absurd (cc)

asked_given : (made : List Noted) (k dev at n : ℕ) → slice_get (asks_of made) k ≡ Some (Reads dev at n)
    → NoneFailed dev made → (part : List ℕ) × (slice_get (parts_of made) k ≡ Some (Some part))
asked_given [] k dev at n e fine = absurd (cc)
asked_given (noted ∷ made) zero dev at n e fine =
    let g = asked_one noted.call dev at n (same_some (Reads dev at n) (ask_of noted.call) (sym e)) fine.0 in (g.0, ap Some g.1)
asked_given (noted ∷ made) (suc k) dev at n e fine = asked_given made k dev at n e fine.1

none_first : (d : ℕ) (first second : List Noted) → NoneFailed d (first ++ second) → NoneFailed d first
none_first d [] second f = tt
none_first d (noted ∷ first) second f = (f.0, none_first d first second f.1)

none_second : (d : ℕ) (first second : List Noted) → NoneFailed d (first ++ second) → NoneFailed d second
none_second d [] second f = f
none_second d (noted ∷ first) second f = none_second d first second f.1

-- a device none of whose reads failed was read whole
device_whole : (size dev : ℕ) (parts : Parts) (mine : List Noted) → 320 ≤ size → asks_of mine ≡ look_asks dev size → parts ≡ parts_of mine → NoneFailed dev mine
    → (label s : ℕ) → label < 4 → 4 ≤ s → s < 64 → (bytes : List ℕ) × (device_sector size parts (slice_index (labels_of size) label + s) ≡ Some bytes)
device_whole size dev parts mine big asks are fine label s lt lo hi =
    ⊎_elim {A = s < 32} {B = 32 ≤ s}
    (λ low. let p = asked_given mine (2 * label + 1) dev _ 28 (ap (λ l. slice_get l (2 * label + 1)) asks ∙ config_ask size label dev lt) fine in
    let at : s ≡ 4 + (s - 4) = omega arith in (
      sector_of (s - 4) p.0,
      label_of_device size parts label s big lt hi ∙ ap (label_sector parts label) at ∙ config_sector parts label (s - 4) (omega arith)
          ∙ ap (sector_in (s - 4)) (ap (λ l. slice_get l (2 * label + 1)) are ∙ p.1),
    ))
    (λ high. let p = asked_given mine (2 * label) dev _ 32 (ap (λ l. slice_get l (2 * label)) asks ∙ ring_ask size label dev lt) fine in
    let at : s ≡ 32 + (s - 32) = omega arith in (
      sector_of (s - 32) p.0,
      label_of_device size parts label s big lt hi ∙ ap (label_sector parts label) at ∙ ring_sector parts label (s - 32)
          ∙ ap (sector_in (s - 32)) (ap (λ l. slice_get l (2 * label)) are ∙ p.1),
    ))
    (cases_lt s 32)

whole_by : (size : ℕ → ℕ) (dev : ℕ) (devs : List ℕ) (parts : Parts) (looks : List Parts) (mine : List Noted) (d label s : ℕ) (t : Bool) → (dev == d) ≡ t
    → 320 ≤ size d → asks_of mine ≡ look_asks dev (size dev) → parts ≡ parts_of mine → NoneFailed d mine → label < 4 → 4 ≤ s → s < 64
    → (t ≡ false → (bytes : List ℕ) × (known_by size devs looks d (slice_index (labels_of (size d)) label + s) ≡ Some bytes))
    → (bytes : List ℕ) × (known_by size (dev ∷ devs) (parts ∷ looks) d (slice_index (labels_of (size d)) label + s) ≡ Some bytes)
whole_by size dev devs parts looks mine d label s true t big asks are fine lt lo hi more =
    let r = slice_index (labels_of (size d)) label + s in
    let whole = device_whole (size d) d parts mine big (subst (λ x. asks_of mine ≡ look_asks x (size x)) (same_test dev d t) asks) are fine label s lt lo hi in
    (whole.0, if_so (dev == d) (device_sector (size d) parts r) (known_by size devs looks d r) t ∙ whole.1)
whole_by size dev devs parts looks mine d label s false t big asks are fine lt lo hi more =
    let r = slice_index (labels_of (size d)) label + s in
    let later = more refl in
    (later.0, if_not (dev == d) (device_sector (size d) parts r) (known_by size devs looks d r) t ∙ later.1)

other_test : (dev d : ℕ) → Some dev ≡ Some d → (dev == d) ≡ false → ⊥
other_test dev d e t = let same : (dev == d) ≡ true = subst (λ x. (dev == x) ≡ true) (same_some dev d e) (alike dev) in absurd (cc)

-- A device of the list on which no read failed was read whole.
pub looks_whole : (size : ℕ → ℕ) (devs : List ℕ) (looks : List Parts) (made : List Noted) (i d : ℕ)
    → IsLook size devs looks made → slice_get devs i ≡ Some d → 320 ≤ size d
    → NoneFailed d made → IsReadWhole (size d) (known_by size devs looks d)
looks_whole size [] looks made i d l at big fine label s lt lo hi = absurd (cc)
looks_whole size (dev ∷ devs) [] made i d l at big fine label s lt lo hi = absurd l
looks_whole size (dev ∷ devs) (parts ∷ looks) made zero d l at big fine label s lt lo hi =
    whole_by size dev devs parts looks l.0 d label s (dev == d) refl big l.3 l.4 (none_first d l.0 l.1 (subst (NoneFailed d) l.2 fine)) lt lo hi
    (λ f. absurd (other_test dev d at f))
looks_whole size (dev ∷ devs) (parts ∷ looks) made (suc i) d l at big fine label s lt lo hi =
    whole_by size dev devs parts looks l.0 d label s (dev == d) refl big l.3 l.4 (none_first d l.0 l.1 (subst (NoneFailed d) l.2 fine)) lt lo hi
    (λ f. looks_whole size devs looks l.1 i d l.5 at big (none_second d l.0 l.1 (subst (NoneFailed d) l.2 fine)) label s lt lo hi)
