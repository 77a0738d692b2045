-- Copies that were tried, by their calls.
use Rattle.std.proofs.Common.{◌≡◌, ◌≢◌, ℕ, suc, ◌+◌, ◌<◌, ◌≤◌, Bool, true, false, List, [], ◌∷◌, ◌++◌, take, drop, get_or, Option, Result, Ok, Err, OnOk, OnErr, length, refl, sym, ap, ◌∙◌, subst, is_err}
use Rattle.std.specs.Prelude.{not}
use Rattle.std.specs.Str.{bytes_eq}
use Rattle.std.proofs.lemmas.List.{take_more, take_all, drop_more, length-take-le, take-append-drop}
use Rattle.std.proofs.lemmas.Slice.Eq.{bytes_eq-Decides}
use Rattle.sha2.specs.Sha256.{sha256}
use Rattle.mp_base.specs.Outside.{Rose}
use Rattle.mp_base.specs.declared.refusal.LeafSeen.{LeafSeen}
use Rattle.mp_base.specs.declared.refusal.Seen.{Seen}
use Rattle.mp_base.specs.declared.refusal.Seen.TheVariants as seen
use Rattle.bank_core.specs.declared.bank.Fault.{Fault}
use Rattle.bank_core.specs.Disk.{Read, Noted}
use Rattle.bank_core.specs.BankView.{BankView}
use Rattle.bank_core.specs.Calls.{Called}
use Rattle.bank_core.proofs.Framing.{makes_one}
use Rattle.bank_core.specs.Story.{Story, Tells, fault_in}
use Rattle.bank_core.proofs.Composing.{made_none, made_more, one_made, call_caused, MadeOne}
use Rattle.config_codec.specs.declared.config.Pointer.{Pointer}
use Rattle.label_store.specs.declared.member.Member.{Member}
use Rattle.pool_core.specs.Copies.{IsSeen, TriesCopy}
use Rattle.pool_core.specs.Reading.{tries}
use Rattle.pool_core.specs.State.{PoolState, leaves, data_start}
use Rattle.pool_core.specs.Tries.{IsMiss, AreMisses, Misses, Serves, TriesAll, TriesCopies, shown_by}

copy_tried : (dev at : ℕ) (sum : List ℕ) (old new : Option Story) (f g : ℕ → ℕ) (bytes : List ℕ) (result : Result (Unit {0}) Seen)
    (fault : Option Fault) → length bytes ≡ 4096 → MadeOne old new f g (Read dev at bytes fault) → IsSeen fault bytes sum result → TriesCopy dev at sum old new f g bytes result
copy_tried dev at sum old new f g bytes result fault whole one is = record { whole = whole; fault = fault; damage = one.damage; calls = one.made; is_seen = is }

-- a read of a copy, and what was said of it
pub tries_copy : {dev at : ℕ} {sum : List ℕ} {old new : BankView} {bytes : List ℕ} {result : Result (Unit {0}) Seen}
    (r : Result (Unit {0}) Fault) → length bytes ≡ 4096 → Called (Read dev at bytes (fault_in r)) old new
    → IsSeen (fault_in r) bytes sum result → TriesCopy dev at sum old.told new.told old.faults new.faults bytes result
tries_copy {dev} {at} {sum} {old} {new} {bytes} {result} r whole c is =
    let one = makes_one c in
    copy_tried dev at sum old.told new.told old.faults new.faults bytes result (fault_in r) whole
    (record { damage = one.damage; made = one.makes.calls }) is

pub failed_copy : (r : Result (Unit {0}) Fault) (bytes sum : List ℕ) → is_err r ≡ true → IsSeen (fault_in r) bytes sum (Err seen.Failed)
failed_copy (Ok done) bytes sum e = absurd (cc)
failed_copy (Err fault) bytes sum e = tt

pub other_copy : (r : Result (Unit {0}) Fault) (bytes sum : List ℕ) → is_err r ≡ false → sha256 bytes ≢ sum → IsSeen (fault_in r) bytes sum (Err seen.Mismatch)
other_copy (Ok done) bytes sum e differs = differs
other_copy (Err fault) bytes sum e differs = absurd (cc)

pub good_copy : (r : Result (Unit {0}) Fault) (bytes sum : List ℕ) → is_err r ≡ false → sha256 bytes ≡ sum → IsSeen (fault_in r) bytes sum (Ok tt)
good_copy (Ok done) bytes sum e same = same
good_copy (Err fault) bytes sum e same = absurd (cc)

-- what `!=` and `==` on sums say
pub differs : (a b : List ℕ) → true ≡ not (bytes_eq a b) → a ≢ b
differs a b e same = go (bytes_eq a b) ((bytes_eq-Decides a b).1 same) e
  where
    go : (t : Bool) → t ≡ true → true ≡ not t → ⊥
    go true is e = cc
    go false is e = cc

pub same_sum : (a b : List ℕ) → false ≡ not (bytes_eq a b) → a ≡ b
same_sum a b e = (bytes_eq-Decides a b).0 (go (bytes_eq a b) e)
  where
    go : (t : Bool) → false ≡ not t → t ≡ true
    go true e = refl
    go false e = absurd (cc)

-- Several copies, one after another.

misses_snoc : (at : ℕ) (sum : List ℕ) (ms : List Member) (made : List Noted) (seen : List LeafSeen) (m : Member) (noted : Noted) (leaf : LeafSeen)
    → AreMisses at sum ms made seen → IsMiss at sum m noted leaf → AreMisses at sum (ms ++ m ∷ []) (made ++ noted ∷ []) (seen ++ leaf ∷ [])
misses_snoc at sum [] [] [] m noted leaf are one = (one, (refl, refl))
misses_snoc at sum [] [] (y ∷ seen) m noted leaf are one = absurd (cc)
misses_snoc at sum [] (x ∷ made) seen m noted leaf are one = absurd (cc)
misses_snoc at sum (n ∷ ms) [] seen m noted leaf are one = absurd are
misses_snoc at sum (n ∷ ms) (x ∷ made) [] m noted leaf are one = absurd are
misses_snoc at sum (n ∷ ms) (x ∷ made) (y ∷ seen) m noted leaf are one = (are.0, misses_snoc at sum ms made seen m noted leaf are.1 one)

-- each that was tried showed something
misses_count : (at : ℕ) (sum : List ℕ) (ms : List Member) (made : List Noted) (seen : List LeafSeen) → AreMisses at sum ms made seen → length seen ≡ length ms
misses_count at sum [] made seen are = ap length are.1
misses_count at sum (m ∷ ms) [] seen are = absurd are
misses_count at sum (m ∷ ms) (x ∷ made) [] are = absurd are
misses_count at sum (m ∷ ms) (x ∷ made) (y ∷ seen) are = ap suc (misses_count at sum ms made seen are.1)

pub seen_count : {at : ℕ} {sum : List ℕ} {old new : Option Story} {f g : ℕ → ℕ} {seen : List LeafSeen} (members : List Member) (i : ℕ)
    → i ≤ length members → Misses at sum (take i members) old new f g seen → length seen ≡ i
seen_count {at} {sum} {old} {new} {f} {g} {seen} members i le m =
    misses_count at sum (take i members) m.made seen m.are_misses ∙ length-take-le i members le

pub misses_none : {at : ℕ} {sum : List ℕ} {told : Option Story} {faults : ℕ → ℕ} → Misses at sum [] told told faults faults []
misses_none {at} {sum} {told} {faults} = record { made = []; calls = made_none told faults; are_misses = (refl, refl) }

-- one more copy, that didn't serve
pub misses_more : {at : ℕ} {sum : List ℕ} {old mid new : Option Story} {f g h : ℕ → ℕ} {seen : List LeafSeen} (members : List Member) (i : ℕ) (d : Member)
    (bytes : List ℕ) (shows : Seen) → i < length members → Misses at sum (take i members) old mid f g seen
    → TriesCopy (get_or members i d).dev at sum mid new g h bytes (Err shows)
    → Misses at sum (take (i + 1) members) old new f h (seen ++ record { member = (get_or members i d).guid; seen = shows } ∷ [])
misses_more {at} {sum} {old} {mid} {new} {f} {g} {h} {seen} members i d bytes shows lt misses one =
    let m = get_or members i d in
    let call : Noted = record { call = Read m.dev at bytes one.fault; damage = one.damage } in
    rw (take_more members i d lt) (record {
      made = misses.made ++ call ∷ [];
      calls = made_more old mid new f g h misses.made (call ∷ []) misses.calls one.calls;
      are_misses = misses_snoc at sum (take i members) misses.made seen m call (record { member = m.guid; seen = shows }) misses.are_misses
          (record { bytes = bytes; fault = one.fault; whole = one.whole; call = refl; member_is = refl; is_seen = one.is_seen });
    })

-- a copy that serves ends the tries
pub serves_at : {at : ℕ} {sum : List ℕ} {old mid new : Option Story} {f g h : ℕ → ℕ} {seen : List LeafSeen} (members : List Member) (i : ℕ) (d : Member)
    (bytes : List ℕ) → i < length members → Misses at sum (take i members) old mid f g seen
    → TriesCopy (get_or members i d).dev at sum mid new g h bytes (Ok tt) → Serves at sum members old new f h bytes
serves_at {at} {sum} {old} {mid} {new} {f} {g} {h} {seen} members i d bytes lt misses one = record {
  first = take i members;
  member = get_or members i d;
  behind = drop (i + 1) members;
  order = sym (take-append-drop i members) ∙ ap (λ rest. take i members ++ rest) (drop_more members i d lt);
  seen = seen;
  told = mid;
  faults = g;
  misses = misses;
  serves = one;
}

pub misses_all : {at : ℕ} {sum : List ℕ} {old new : Option Story} {f g : ℕ → ℕ} {seen : List LeafSeen} (members : List Member) (i : ℕ)
    → length members ≤ i → Misses at sum (take i members) old new f g seen → Misses at sum members old new f g seen
misses_all {at} {sum} {old} {new} {f} {g} {seen} members i le misses = subst (λ ms. Misses at sum ms old new f g seen) (take_all i members le) misses

-- the copies of a block, by the members that were tried
pub copies_tried : {s : PoolState} {old new : Option Story} {f g : ℕ → ℕ} {bytes : List ℕ} {result : Result (Unit {0}) (List LeafSeen)} (pointer : Pointer)
    (members : List Member) (tried : Result (Unit {0}) (List LeafSeen)) → members ≡ tries pointer.birth.0 (leaves s)
    → TriesAll (data_start + pointer.sector) pointer.sum members old new f g bytes tried → result ≡ shown_by (leaves s) tried
    → TriesCopies s pointer old new f g bytes result
copies_tried {s} {old} {new} {f} {g} {bytes} {result} pointer members tried are t is = record {
  tried = tried;
  tries_all = subst (λ ms. TriesAll (data_start + pointer.sector) pointer.sum ms old new f g bytes tried) are t;
  result_is = is;
}
