-- What the reads of a look gave: whole sectors, and the stable bytes of the clean ones.
use Rattle.std.proofs.Common.{
  ◌≡◌,
  ℕ,
  zero,
  suc,
  ◌+◌,
  ◌*◌,
  ◌%◌,
  ◌<◌,
  Bool,
  true,
  false,
  cond,
  List,
  [],
  ◌∷◌,
  ◌++◌,
  length,
  Some,
  None,
  refl,
  sym,
  ap,
  ◌∙◌,
  subst,
  arith,
}
use Rattle.std.specs.Prelude.{slice_get}
use Rattle.bank_core.specs.Asks.{Ask, Reads, Writes, Flushes, Admits, Ejects, ask_of, asks_of}
use Rattle.bank_core.specs.Disk.{
  Sector,
  Sectors,
  Call,
  Read,
  Write,
  Flush,
  Admit,
  Eject,
  Noted,
  sector_size,
  sectors_in,
  sector_of,
  hurt,
  effect,
  replay,
  run,
  IsClean,
  ShowsStable,
  Answers,
  AllAnswer,
}
use Rattle.label_store.specs.Newest.{Parts, parts_of, given_by, look_asks, IsLook}

pub same_some : {X : Type 0} (a b : X) → Some a ≡ Some b → a ≡ b
same_some a b e = cc

-- the ask is one to read
abbrev pub IsReads : Ask → Type 0
IsReads (Reads dev at n) = Unit {0}
IsReads (Writes dev at bytes) = ⊥
IsReads (Flushes dev) = ⊥
IsReads (Admits dev) = ⊥
IsReads (Ejects dev) = ⊥

abbrev pub AreReads : List Ask → Type 0
AreReads [] = Unit {0}
AreReads (ask ∷ asks) = IsReads ask × AreReads asks

pub look_reads : (dev size : ℕ) → AreReads (look_asks dev size)
look_reads dev size = (tt, (tt, (tt, (tt, (tt, (tt, (tt, (tt, tt))))))))

-- A sector later, behind reads alone: what stands there and what is on the way is the same, and damage stays.
pub record IsLater (x y : Sector) : Type 0 where
  pub stable : y.stable ≡ x.stable
  pub pending : y.pending ≡ x.pending
  pub sound : y.damaged ≡ false → x.damaged ≡ false

later_more : (x y z : Sector) → IsLater x y → IsLater y z → IsLater x z
later_more x y z a b = record { stable = b.stable ∙ a.stable; pending = b.pending ∙ a.pending; sound = λ e. a.sound (b.sound e) }

sound_before : (t was : Bool) → cond t true was ≡ false → was ≡ false
sound_before true was e = absurd (cc)
sound_before false was e = e

hurt_later : (t : Bool) (x : Sector) → IsLater x (hurt t x)
hurt_later t x = record { stable = refl; pending = refl; sound = sound_before t x.damaged }

read_later : (call : Call) (d s : ℕ) (x : Sector) → IsReads (ask_of call) → IsLater x (effect call d s x)
read_later (Read dev at bytes fault) d s x is = record { stable = refl; pending = refl; sound = λ e. e }
read_later (Write dev at bytes fault) d s x is = absurd is
read_later (Flush dev fault) d s x is = absurd is
read_later (Admit dev holds) d s x is = absurd is
read_later (Eject dev) d s x is = absurd is

pub reads_later : (made : List Noted) (d s : ℕ) (x : Sector) → AreReads (asks_of made) → IsLater x (replay made d s x)
reads_later [] d s x are = record { stable = refl; pending = refl; sound = λ e. e }
reads_later (noted ∷ made) d s x are =
    later_more x _ _ (hurt_later (noted.damage d s) x)
    (later_more (hurt (noted.damage d s) x) _ _ (read_later noted.call d s _ are.0) (reads_later made d s _ are.1))

pub clean_before : (x y : Sector) → IsLater x y → IsClean y → IsClean x
clean_before x y l c = record { still = sym l.pending ∙ c.still; sound = l.sound c.sound }

-- A read gave whole sectors, and what is stable on each that is clean now.
pub record Shows (sectors : Sectors) (call : Call) : Type 0 where
  pub whole : (bytes : List ℕ) → given_by call ≡ Some bytes → length bytes % sector_size ≡ 0
  pub true_to : (dev at : ℕ) (bytes : List ℕ) → call ≡ Read dev at bytes None → ShowsStable (sectors dev) at bytes

answer_whole : (sectors : Sectors) (call : Call) → Answers sectors call → (bytes : List ℕ) → given_by call ≡ Some bytes → length bytes % sector_size ≡ 0
answer_whole sectors (Read dev at given None) a bytes e = subst (λ b. length b % sector_size ≡ 0) (same_some given bytes e) a.0
answer_whole sectors (Read dev at given (Some fault)) a bytes e = absurd (no_given bytes e)
  where
    no_given : (b : List ℕ) → None ≡ Some b → ⊥
    no_given b e = cc
answer_whole sectors (Write dev at given fault) a bytes e = absurd (cc)
answer_whole sectors (Flush dev fault) a bytes e = absurd (cc)
answer_whole sectors (Admit dev holds) a bytes e = absurd (cc)
answer_whole sectors (Eject dev) a bytes e = absurd (cc)

-- one that was answered before reads
shows_later : (sectors later : Sectors) (call : Call) → Answers sectors call → ((d s : ℕ) → IsLater (sectors d s) (later d s)) → Shows later call
shows_later sectors later call a l = record {
  whole = answer_whole sectors call a;
  true_to = λ dev at bytes e i lt clean. let answer = subst (Answers sectors) e a in
      answer.1 i lt (clean_before (sectors dev (at + i)) (later dev (at + i)) (l dev (at + i)) clean) ∙ sym (l dev (at + i)).stable;
}

-- each read of a list shows that behind all of them
pub reads_show : (made : List Noted) (sectors : Sectors) → AllAnswer sectors made → AreReads (asks_of made)
    → (k : ℕ) (noted : Noted) → slice_get made k ≡ Some noted → Shows (run made sectors) noted.call
reads_show [] sectors a are k noted e = absurd (cc)
reads_show (first ∷ made) sectors a are zero noted e =
    subst (λ n. Shows (run (first ∷ made) sectors) n.call) (same_some first noted e)
    (shows_later _ (run (first ∷ made) sectors) first.call a.0
    (λ d s. later_more (hurt (first.damage d s) (sectors d s)) _ _ (read_later first.call d s _ are.0) (reads_later made d s _ are.1)))
reads_show (first ∷ made) sectors a are (suc k) noted e = reads_show made (run (first ∷ []) sectors) a.1 are.1 k noted e

-- the call that gave a part
pub record IsPartOf (made : List Noted) (k : ℕ) (part : List ℕ) : Type 0 where
  pub noted : Noted
  pub noted_is : slice_get made k ≡ Some noted
  pub gives : given_by noted.call ≡ Some part
  pub ask_is : slice_get (asks_of made) k ≡ Some (ask_of noted.call)

pub part_call : (made : List Noted) (k : ℕ) (part : List ℕ) → slice_get (parts_of made) k ≡ Some (Some part) → IsPartOf made k part
part_call [] k part e = absurd (cc)
part_call (noted ∷ made) zero part e = record { noted = noted; noted_is = refl; gives = same_some (given_by noted.call) (Some part) e; ask_is = refl }
part_call (noted ∷ made) (suc k) part e =
    let p = part_call made k part e in record { noted = p.noted; noted_is = p.noted_is; gives = p.gives; ask_is = p.ask_is }

no_given : (part : List ℕ) → None ≡ Some part → ⊥
no_given part e = cc

-- it is a read that answered Ok
pub given_is : (call : Call) (part : List ℕ) (dev at n : ℕ) → given_by call ≡ Some part → Reads dev at n ≡ ask_of call
    → (call ≡ Read dev at part None) × (sectors_in part ≡ n)
given_is (Read dev' at' bytes None) part dev at n e ask =
    let b : bytes ≡ part = same_some bytes part e in
    let same = asked dev dev' at at' n (sectors_in bytes) ask in
    (same_read dev dev' at at' bytes part same.0 same.1 b, ap sectors_in (sym b) ∙ sym same.2)
  where
    asked : (dev dev' at at' n n' : ℕ) → Reads dev at n ≡ Reads dev' at' n' → (dev ≡ dev') × (at ≡ at') × (n ≡ n')
    asked dev dev' at at' n n' e = (cc, cc, cc)

    same_read : (dev dev' at at' : ℕ) (bytes part : List ℕ) → dev ≡ dev' → at ≡ at' → bytes ≡ part → Read dev' at' bytes None ≡ Read dev at part None
    same_read dev dev' at at' bytes part a b c = cc
given_is (Read dev' at' bytes (Some fault)) part dev at n e ask = absurd (no_given part e)
given_is (Write dev' at' bytes fault) part dev at n e ask = absurd (no_given part e)
given_is (Flush dev' fault) part dev at n e ask = absurd (no_given part e)
given_is (Admit dev' holds) part dev at n e ask = absurd (no_given part e)
given_is (Eject dev') part dev at n e ask = absurd (no_given part e)

-- A device that was looked at, and these are its parts, of so many whole sectors as was asked.
pub record LookedAt (size dev : ℕ) (parts : Parts) : Type 0 where
  pub mine : List Noted
  pub asks_are : asks_of mine ≡ look_asks dev size
  pub parts_are : parts ≡ parts_of mine
  pub whole : (k : ℕ) (noted : Noted) (bytes : List ℕ) → slice_get mine k ≡ Some noted → given_by noted.call ≡ Some bytes → length bytes % sector_size ≡ 0

-- the call of one of its parts
pub looked_call : (size dev : ℕ) (parts : Parts) (mine : List Noted) (k at n : ℕ) (part : List ℕ) → asks_of mine ≡ look_asks dev size → parts ≡ parts_of mine
    → slice_get (look_asks dev size) k ≡ Some (Reads dev at n) → slice_get parts k ≡ Some (Some part)
    → (noted : Noted) × (slice_get mine k ≡ Some noted) × (noted.call ≡ Read dev at part None) × (sectors_in part ≡ n)
looked_call size dev parts mine k at n part asks are ask got =
    let p = part_call mine k part (ap (λ l. slice_get l k) (sym are) ∙ got) in
    let same : Reads dev at n ≡ ask_of p.noted.call = same_some (Reads dev at n) (ask_of p.noted.call)
    (sym ask ∙ ap (λ l. slice_get l k) (sym asks) ∙ p.ask_is) in
    let is = given_is p.noted.call part dev at n p.gives same in
    (p.noted, p.noted_is, is.0, is.1)

sectors_fill : (bytes : List ℕ) (n : ℕ) → length bytes % sector_size ≡ 0 → sectors_in bytes ≡ n → length bytes ≡ n * 4096
unfolding sector_size
sectors_fill bytes n whole e = omega arith

pub part_long : (size dev : ℕ) (parts : Parts) (k at n : ℕ) (part : List ℕ) → LookedAt size dev parts
    → slice_get (look_asks dev size) k ≡ Some (Reads dev at n) → slice_get parts k ≡ Some (Some part) → length part ≡ n * 4096
part_long size dev parts k at n part l ask got =
    let c = looked_call size dev parts l.mine k at n part l.asks_are l.parts_are ask got in
    sectors_fill part n (l.whole k c.0 part c.1 (ap given_by c.2)) c.3

-- A part shows what is stable on the clean sectors behind the look.
pub part_shows : (size dev : ℕ) (parts : Parts) (mine : List Noted) (sectors : Sectors) (k at n : ℕ) (part : List ℕ) → AllAnswer sectors mine
    → asks_of mine ≡ look_asks dev size → parts ≡ parts_of mine → slice_get (look_asks dev size) k ≡ Some
    (Reads dev at n) → slice_get parts k ≡ Some (Some part)
    → (i : ℕ) → i < n → IsClean (run mine sectors dev (at + i)) → sector_of i part ≡ (run mine sectors dev (at + i)).stable
part_shows size dev parts mine sectors k at n part answered asks are ask got i lt =
    let c = looked_call size dev parts mine k at n part asks are ask got in
    (reads_show mine sectors answered (subst AreReads (sym asks) (look_reads dev size)) k c.0 c.1).true_to dev at part c.2 i (subst (λ m. i < m) (sym c.3) lt)

-- answers of two lists of calls
pub answer_first : (first second : List Noted) (sectors : Sectors) → AllAnswer sectors (first ++ second) → AllAnswer sectors first
answer_first [] second sectors a = tt
answer_first (noted ∷ first) second sectors a = (a.0, answer_first first second _ a.1)

pub answer_second : (first second : List Noted) (sectors : Sectors) → AllAnswer sectors (first ++ second) → AllAnswer (run first sectors) second
answer_second [] second sectors a = a
answer_second (noted ∷ first) second sectors a = answer_second first second _ a.1

-- each device of a look
pub looked_at : (size : ℕ → ℕ) (devs : List ℕ) (looks : List Parts) (made : List Noted) (sectors : Sectors)
    → IsLook size devs looks made → AllAnswer sectors made
    → (i d : ℕ) (parts : Parts) → slice_get devs i ≡ Some d → slice_get looks i ≡ Some parts → LookedAt (size d) d parts
looked_at size [] looks made sectors l a i d parts e f = absurd (cc)
looked_at size (dev ∷ devs) [] made sectors l a i d parts e f = absurd l
looked_at size (dev ∷ devs) (first ∷ looks) made sectors l a zero d parts e f =
    subst (λ x. LookedAt (size x) x parts) (same_some dev d e) (subst (LookedAt (size dev) dev) (same_some first parts f)
    (record {
      mine = l.0;
      asks_are = l.3;
      parts_are = l.4;
      whole = λ k noted bytes at given. (reads_show l.0 sectors (answer_first l.0 l.1 sectors (subst (AllAnswer sectors) l.2 a))
          (subst AreReads (sym l.3) (look_reads dev (size dev))) k noted at).whole bytes given;
    }))
looked_at size (dev ∷ devs) (first ∷ looks) made sectors l a (suc i) d parts e f =
    looked_at size devs looks l.1 (run l.0 sectors) l.5 (answer_second l.0 l.1 sectors (subst (AllAnswer sectors) l.2 a)) i d parts e f

-- a look at each device
pub look_count : (size : ℕ → ℕ) (devs : List ℕ) (looks : List Parts) (made : List Noted) → IsLook size devs looks made → length looks ≡ length devs
look_count size [] [] made l = refl
look_count size [] (parts ∷ looks) made l = absurd l
look_count size (dev ∷ devs) [] made l = absurd l
look_count size (dev ∷ devs) (parts ∷ looks) made l = ap suc (look_count size devs looks l.1 l.5)
