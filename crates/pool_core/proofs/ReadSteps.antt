-- Reads, against the abstract state.
use mathlib.Core.Path.{fun_ext}
use Rattle.std.proofs.Common.{◌≡◌, ◌≢◌, ℕ, ◌+◌, ◌<◌, ◌≤◌, Bool, true, false, List, [], ◌∷◌, ◌++◌, map, Option, Some, None, Result, Ok, Err, length, refl, inl, inr, ◌⊎◌, replicate, sym, ◌∙◌, ap, ap₂, subst, lt-ltb, le-ltb, nat_lt, append-nil, arith}
use Rattle.std.proofs.lemmas.Slice.Eq.{bytes_eq-Decides}
use Rattle.std.proofs.lemmas.Option.{same_Some}
use Rattle.std.specs.Prelude.{slice_get}
use Rattle.std.specs.Option.{option_map}
use Rattle.std.specs.Str.{bytes_eq}
use Rattle.sha2.specs.Sha256.{sha256}
use Rattle.mp_base.specs.Block.{zero_block, zeros, block_bytes}
use Rattle.mp_base.specs.declared.number.Guid.{Guid}
use Rattle.mp_base.specs.declared.refusal.LeafSeen.{LeafSeen}
use Rattle.mp_base.specs.declared.refusal.Refusal.{Refusal}
use Rattle.mp_base.specs.declared.refusal.Refusal.TheVariants as refusals
use Rattle.mp_base.specs.declared.refusal.Seen.{Seen}
use Rattle.mp_base.specs.declared.refusal.Seen.TheVariants as seen
use Rattle.bank_core.specs.declared.bank.Fault.{Fault}
use Rattle.bank_core.specs.declared.bank.Fault.TheVariants as faults
use Rattle.bank_core.specs.Asks.{Reads as ReadsOf, ask_of, asks_of}
use Rattle.bank_core.specs.Disk.{Call, Read, Noted}
use Rattle.bank_core.specs.Story.{Story}
use Rattle.bank_core.proofs.Composing.{made_none, made_more}
use Rattle.bank_core.proofs.Blocks.{block_sectors}
use Rattle.config_codec.specs.declared.config.Pointer.{Pointer}
use Rattle.label_store.specs.declared.member.Member.{Member}
use Rattle.label_store.specs.Newest.{AreReads, IsRead as IsReadCall}
use Rattle.label_store.proofs.Reading.{are_reads_more}
use Rattle.pool_core.specs.declared.pool.Pool.{Pool}
use Rattle.pool_core.specs.Clash.{ClashesWith, IsFound}
use Rattle.pool_core.specs.Copies.{IsSeen}
use Rattle.pool_core.specs.Done.{IsRead, Reads}
use Rattle.pool_core.specs.Keeping.{Represents}
use Rattle.pool_core.specs.Outside.{Trouble, Wrong, matches, trouble_of, trouble_from, troubles, given_or_none, last_given}
use Rattle.pool_core.specs.Reading.{Source, Copies, source_of, source_at, wanted, read_asks, read_answer, asks_to, asks_from, answer_from, is_served, copies_give, seen_as, seen_of, shown, tries, block_from, served}
use Rattle.pool_core.specs.Recorded.{pointer_of}
use Rattle.pool_core.specs.Tries.{IsMiss, AreMisses, Misses, Serves, TriesAll, TriesCopies, seen_in, shown_in, shown_by}
use Rattle.pool_core.specs.State.{LeafState, PoolState, Version, Content, Known, Summed, sum_of, leaves, data_start}
use Rattle.pool_core.proofs.Validating.{pool_valid}

true_false : true ≡ false → ⊥
true_false e = cc

-- each address below the volume's end has a place
pub has_place : (pool : Pool) (a : ℕ) → a < pool.blocks → a < length pool.writes.items
has_place pool a below = omega (arith, (pool_valid pool).counted, pool.paired)

pub is_inside : (pool : Pool) (a : ℕ) → a < length pool.writes.items → a < pool.blocks
is_inside pool a within = omega (arith, (pool_valid pool).counted, pool.paired)

-- a read that made no call
read_without : (s : PoolState) (a : ℕ) (told : Option Story) (faults : ℕ → ℕ) (answer : Result (List ℕ) Refusal)
    → [] ≡ read_asks s a [] → answer ≡ read_answer s a [] [] → Reads s a told told faults faults answer
read_without s a told faults answer asks is = record {
  made = [];
  calls = made_none told faults;
  reads = tt;
  step = inl (record { asks = asks; answer_is = is });
}

-- past the volume's end
pub read_past : {s : PoolState} {a : ℕ} {told : Option Story} {faults : ℕ → ℕ} (limit : ℕ) → s.blocks ≡ limit → limit ≤ a
    → Reads s a told told faults faults (Err (refusals.BadAddress limit))
read_past {s} {a} {told} {faults} limit is past =
    let off : nat_lt a s.blocks ≡ false = le-ltb a s.blocks (rw is past) in
    read_without s a told faults _ (rw off refl) (rw (off, is) refl)

-- what was written since the last commit
pub read_written : {s : PoolState} {a : ℕ} {told : Option Story} {faults : ℕ → ℕ} (block : List ℕ) → a < s.blocks → s.writes a ≡ Some block
    → Reads s a told told faults faults (Ok block)
read_written {s} {a} {told} {faults} block inside is =
    let on : nat_lt a s.blocks ≡ true = lt-ltb a s.blocks inside in
    read_without s a told faults _ (rw (on, is) refl) (rw (on, is) refl)

-- zeros, where nothing was ever committed
pub read_hole : {s : PoolState} {a : ℕ} {told : Option Story} {faults : ℕ → ℕ} → a < s.blocks → s.writes a ≡ None → s.committed a ≡ None
    → Reads s a told told faults faults (Ok zero_block)
read_hole {s} {a} {told} {faults} inside is hole =
    let on : nat_lt a s.blocks ≡ true = lt-ltb a s.blocks inside in
    read_without s a told faults _ (rw (on, is, hole) refl) (rw (on, is, hole) refl)

-- a read of a block that comes from this source
in_source : (s : PoolState) (a : ℕ) (source : Source) (made : List Noted) (answer : Result (List ℕ) Refusal) → a < s.blocks → source_at s a ≡ source
    → asks_of made ≡ asks_from source (leaves s) (troubles (block_from source) made)
    → answer ≡ answer_from source a (leaves s) (troubles (block_from source) made) (last_given made) → IsRead s a made answer
in_source s a source made answer inside is asks answer_is =
    let on : nat_lt a s.blocks ≡ true = lt-ltb a s.blocks inside in
    record { asks = rw (on, is) asks; answer_is = rw (on, is) answer_is }

no_match : (bytes block : List ℕ) → (bytes ≡ block → ⊥) → bytes_eq bytes block ≡ false
no_match bytes block differs = go (bytes_eq bytes block) refl
  where
    go : (t : Bool) → bytes_eq bytes block ≡ t → t ≡ false
    go true e = absurd (differs ((bytes_eq-Decides bytes block).0 e))
    go false e = refl

-- bytes of another sum don't match
no_matches : (content : Content) (bytes sum : List ℕ) → sum ≡ sum_of content → sha256 bytes ≢ sum → matches content bytes ≡ false
no_matches (Known block) bytes sum e other = no_match bytes block (λ same. other (ap sha256 same ∙ sym e))
no_matches (Summed sum') bytes sum e other = no_match (sha256 bytes) sum' (λ same. other (same ∙ sym e))

-- a copy that didn't serve met this trouble
record IsBad (content : Content) (call : Call) (shows : Seen) : Type 0 where
  trouble : Trouble
  met : trouble_of content call ≡ Some trouble
  shown_as : seen_as trouble ≡ shows

failed_as : (fault : Fault) → seen_as (trouble_from fault) ≡ seen.Failed
failed_as faults.Failed = refl
failed_as faults.Gone = refl

bad_copy : (content : Content) (bytes sum : List ℕ) (dev at : ℕ) (fault : Option Fault) (shows : Seen) → sum ≡ sum_of content
    → IsSeen fault bytes sum (Err shows) → IsBad content (Read dev at bytes fault) shows
bad_copy content bytes sum dev at None seen.Mismatch e is =
    record { trouble = Wrong; met = rw (no_matches content bytes sum e is) refl; shown_as = refl }
bad_copy content bytes sum dev at None seen.Failed e is = absurd is
bad_copy content bytes sum dev at None seen.Unreadable e is = absurd is
bad_copy content bytes sum dev at (Some fault) seen.Failed e is = record { trouble = trouble_from fault; met = refl; shown_as = failed_as fault }
bad_copy content bytes sum dev at (Some fault) seen.Mismatch e is = absurd is
bad_copy content bytes sum dev at (Some fault) seen.Unreadable e is = absurd is

-- so, by the call
record Misread (content : Content) (at : ℕ) (m : Member) (call : Call) (leaf : LeafSeen) : Type 0 where
  trouble : Trouble
  met : trouble_of content call ≡ Some trouble
  shown_as : seen_as trouble ≡ leaf.seen
  ask : ask_of call ≡ ReadsOf m.dev at 1
  member_is : leaf.member ≡ m.guid
  read : IsReadCall call

misread : (content : Content) (at : ℕ) (sum : List ℕ) (m : Member) (noted : Noted) (leaf : LeafSeen) → sum ≡ sum_of content → IsMiss at sum m noted leaf
    → Misread content at m noted.call leaf
misread content at sum m noted leaf e miss =
    let bad = bad_copy content miss.bytes sum m.dev at miss.fault leaf.seen e miss.is_seen in
    subst (λ call. Misread content at m call leaf) (sym miss.call) (record {
      trouble = bad.trouble;
      met = bad.met;
      shown_as = bad.shown_as;
      ask = ap (ReadsOf m.dev at) (block_sectors miss.bytes miss.whole);
      member_is = miss.member_is;
      read = tt;
    })

misses_reads : (at : ℕ) (sum : List ℕ) (ms : List Member) (made : List Noted) (seen : List LeafSeen) (content : Content) → sum ≡ sum_of content
    → AreMisses at sum ms made seen → AreReads made
misses_reads at sum [] made seen content e are = subst AreReads (sym are.0) tt
misses_reads at sum (m ∷ ms) [] seen content e are = absurd are
misses_reads at sum (m ∷ ms) (noted ∷ made) [] content e are = absurd are
misses_reads at sum (m ∷ ms) (noted ∷ made) (leaf ∷ seen) content e are =
    ((misread content at sum m noted leaf e are.0).read, misses_reads at sum ms made seen content e are.1)

-- the asks of these tries, with those of the members behind
asks_behind : (content : Content) (at : ℕ) (sum : List ℕ) (ms rest : List Member) (made tail : List Noted) (seen : List LeafSeen) → sum ≡ sum_of content
    → AreMisses at sum ms made seen → asks_of tail ≡ asks_to at rest (troubles content tail)
    → asks_of (made ++ tail) ≡ asks_to at (ms ++ rest) (troubles content (made ++ tail))
asks_behind content at sum [] rest made tail seen e are is = rw are.0 is
asks_behind content at sum (m ∷ ms) rest [] tail seen e are is = absurd are
asks_behind content at sum (m ∷ ms) rest (noted ∷ made) tail [] e are is = absurd are
asks_behind content at sum (m ∷ ms) rest (noted ∷ made) tail (leaf ∷ seen) e are is =
    let one = misread content at sum m noted leaf e are.0 in
    rw (one.ask, one.met) (ap (λ more. ReadsOf m.dev at 1 ∷ more) (asks_behind content at sum ms rest made tail seen e are.1 is))

-- whether some copy served, by the members behind
served_behind : (content : Content) (at : ℕ) (sum : List ℕ) (ms rest : List Member) (made tail : List Noted) (seen : List LeafSeen) → sum ≡ sum_of content
    → AreMisses at sum ms made seen → is_served (ms ++ rest) (troubles content (made ++ tail)) ≡ is_served rest (troubles content tail)
served_behind content at sum [] rest made tail seen e are = rw are.0 refl
served_behind content at sum (m ∷ ms) rest [] tail seen e are = absurd are
served_behind content at sum (m ∷ ms) rest (noted ∷ made) tail [] e are = absurd are
served_behind content at sum (m ∷ ms) rest (noted ∷ made) tail (leaf ∷ seen) e are =
    let one = misread content at sum m noted leaf e are.0 in
    rw one.met (served_behind content at sum ms rest made tail seen e are.1)

-- what the tries showed of a leaf
seen_is : (content : Content) (at : ℕ) (sum : List ℕ) (ms : List Member) (made : List Noted) (seen : List LeafSeen) (who : Guid) → sum ≡ sum_of content
    → AreMisses at sum ms made seen → seen_of ms (troubles content made) who ≡ seen_in seen who
seen_is content at sum [] made seen who e are = rw are.1 refl
seen_is content at sum (m ∷ ms) [] seen who e are = absurd are
seen_is content at sum (m ∷ ms) (noted ∷ made) [] who e are = absurd are
seen_is content at sum (m ∷ ms) (noted ∷ made) (leaf ∷ seen) who e are =
    let one = misread content at sum m noted leaf e are.0 in
    rw (one.met, one.shown_as, one.member_is, seen_is content at sum ms made seen who e are.1) refl

shown_is : (content : Content) (at : ℕ) (sum : List ℕ) (birth : ℕ) (some : List LeafState) (made : List Noted) (seen : List LeafSeen) → sum ≡ sum_of content
    → AreMisses at sum (tries birth some) made seen → shown birth some (troubles content made) ≡ shown_in seen some
shown_is content at sum birth some made seen e are =
    let look : (Guid → Seen) → List LeafSeen = λ f. map (λ leaf. record { member = leaf.member; seen = f leaf.member }) some in
    ap look (fun_ext (λ who. seen_is content at sum (tries birth some) made seen who e are))

-- the last of some calls
last_behind : (made : List Noted) (noted : Noted) → last_given (made ++ noted ∷ []) ≡ given_or_none noted.call
last_behind [] noted = refl
last_behind (x ∷ []) noted = refl
last_behind (x ∷ y ∷ made) noted = last_behind (y ∷ made) noted

found_behind : (made : List Noted) (dev at : ℕ) (bytes : List ℕ) (damage : ℕ → ℕ → Bool) → IsFound (made ++ record { call = Read dev at bytes None; damage = damage } ∷ []) bytes
found_behind [] dev at bytes damage = inl refl
found_behind (x ∷ made) dev at bytes damage = inr (found_behind made dev at bytes damage)

-- a copy that served is the block, so far as it is known, or clashes with it
record IsSame (content : Content) (bytes : List ℕ) (call : Call) (fault : Option Fault) : Type 0 where
  answered : fault ≡ None
  met : trouble_of content call ≡ None
  same : bytes ≡ served content bytes

record IsOther (content : Content) (bytes : List ℕ) (fault : Option Fault) : Type 0 where
  block : List ℕ
  is_known : content ≡ Known block
  answered : fault ≡ None
  other : bytes ≢ block
  sums : sha256 bytes ≡ sha256 block

served_copy : (content : Content) (bytes sum : List ℕ) (dev at : ℕ) (fault : Option Fault) → sum ≡ sum_of content
    → IsSeen fault bytes sum (Ok tt) → IsSame content bytes (Read dev at bytes fault) fault ⊎ IsOther content bytes fault
served_copy content bytes sum dev at (Some fault) e is = absurd is
served_copy (Known block) bytes sum dev at None e is = go (bytes_eq bytes block) refl
  where
    go : (t : Bool) → bytes_eq bytes block ≡ t → IsSame (Known block) bytes (Read dev at bytes None) None ⊎ IsOther (Known block) bytes None
    go true eq = inl (record { answered = refl; met = rw eq refl; same = (bytes_eq-Decides bytes block).0 eq })
    go false eq = inr (record {
      block = block;
      is_known = refl;
      answered = refl;
      other = λ same. true_false (sym ((bytes_eq-Decides bytes block).1 same) ∙ eq);
      sums = is ∙ e;
    })
served_copy (Summed sum') bytes sum dev at None e is =
    let eq : bytes_eq (sha256 bytes) sum' ≡ true = (bytes_eq-Decides (sha256 bytes) sum').1 (is ∙ e) in
    inl (record { answered = refl; met = rw eq refl; same = refl })

-- A read of copies: its place, and where it comes from.
record AtCopies (s : PoolState) (a : ℕ) (version : Version) (sum : List ℕ) : Type 0 where
  inside : a < s.blocks
  source : source_at s a ≡ Copies version
  sum_is : sum ≡ sum_of version.content

clash_at : (s : PoolState) (a : ℕ) (version : Version) (made : List Noted) (bytes block : List ℕ) → source_at s a ≡ Copies version → version.content ≡ Known block
    → IsFound made bytes → bytes ≢ block → sha256 bytes ≡ sha256 block → ClashesWith made (wanted s a)
clash_at s a version made bytes block is known found other sums =
    subst (λ source. ClashesWith made (block_from source)) (sym is) (subst (ClashesWith made) (sym known)
    (record { found = bytes; read = found; differs = other; same_sum = sums }))

-- the ask of the copy that served
asks_hit : (content : Content) (at dev : ℕ) (guid : Guid) (behind : List Member) (bytes : List ℕ) (fault : Option Fault) (damage : ℕ → ℕ → Bool) → length bytes ≡ 4096
    → trouble_of content (Read dev at bytes fault) ≡ None
    → asks_of (record { call = Read dev at bytes fault; damage = damage } ∷ [])
    ≡ asks_to at (record { dev = dev; guid = guid } ∷ behind) (troubles content (record { call = Read dev at bytes fault; damage = damage } ∷ []))
asks_hit content at dev guid behind bytes fault damage long met = rw (met, block_sectors bytes long) refl

served_hit : (content : Content) (m : Member) (behind : List Member) (noted : Noted) → trouble_of content noted.call ≡ None
    → is_served (m ∷ behind) (troubles content (noted ∷ [])) ≡ true
served_hit content m behind noted met = rw met refl

given_hit : (dev at : ℕ) (bytes : List ℕ) (fault : Option Fault) → fault ≡ None → given_or_none (Read dev at bytes fault) ≡ bytes
given_hit dev at bytes fault e = rw e refl

good_answer : (is : Bool) (a : ℕ) (content : Content) (given bytes : List ℕ) (leaves : List LeafSeen) → is ≡ true → given ≡ bytes → bytes ≡ served content bytes
    → Ok bytes ≡ copies_give is a (served content given) leaves
good_answer is a content given bytes leaves serves e same = rw (serves, e) (ap Ok same)

bad_answer : (is : Bool) (a : ℕ) (block : List ℕ) (leaves leaves' : List LeafSeen) → is ≡ false → leaves ≡ leaves'
    → Err (refusals.Exhausted 0 a leaves') ≡ copies_give is a block leaves
bad_answer is a block leaves leaves' fails e = rw (fails, e) refl

-- some copy served
module _ (s : PoolState) (a : ℕ) (version : Version) (sum bytes : List ℕ) (place : AtCopies s a version sum)
    (first : List Member) (member : Member) (behind : List Member) (order : tries version.birth (leaves s) ≡ first ++ member ∷ behind)
    (misses : List Noted) (seen : List LeafSeen) (are : AreMisses (data_start + version.sector) sum first misses seen)
    (fault : Option Fault) (damage : ℕ → ℕ → Bool) (long : length bytes ≡ 4096) where
  calls_to : List Noted
  calls_to = misses ++ record { call = Read member.dev (data_start + version.sector) bytes fault; damage = damage } ∷ []

  served_step : IsSame version.content bytes (Read member.dev (data_start + version.sector) bytes fault) fault ⊎ IsOther version.content bytes fault
      → IsRead s a calls_to (Ok bytes) ⊎ ClashesWith calls_to (wanted s a)
  unfolding calls_to
  served_step (inl same) =
      let at = data_start + version.sector in
      let hit : Noted = record { call = Read member.dev at bytes fault; damage = damage } in
      inl (in_source s a (Copies version) calls_to (Ok bytes) place.inside place.source
      (rw order (asks_behind version.content at sum first (member ∷ behind) misses (hit ∷ []) seen place.sum_is are
      (asks_hit version.content at member.dev member.guid behind bytes fault damage long same.met)))
      (good_answer _ a version.content _ bytes _
      (rw order (served_behind version.content at sum first (member ∷ behind) misses (hit ∷ []) seen place.sum_is are ∙ served_hit version.content member behind hit same.met))
      (last_behind misses hit ∙ given_hit member.dev at bytes fault same.answered) same.same))
  served_step (inr other) =
      let at = data_start + version.sector in
      inr (clash_at s a version calls_to bytes other.block place.source other.is_known
      (rw other.answered (found_behind misses member.dev at bytes damage)) other.other other.sums)

read_served : {s : PoolState} {a : ℕ} {old new : Option Story} {f g : ℕ → ℕ} (version : Version) (sum bytes : List ℕ) → AtCopies s a version sum
    → Serves (data_start + version.sector) sum (tries version.birth (leaves s)) old new f g bytes → Reads s a old new f g (Ok bytes)
unfolding calls_to
read_served {s} {a} {old} {new} {f} {g} version sum bytes place t =
    let at = data_start + version.sector in
    let hit : Noted = record { call = Read t.member.dev at bytes t.serves.fault; damage = t.serves.damage } in
    record {
      made = t.misses.made ++ hit ∷ [];
      calls = made_more old t.told new f t.faults g t.misses.made (hit ∷ []) t.misses.calls t.serves.calls;
      reads = are_reads_more t.misses.made (hit ∷ []) (misses_reads at sum t.first t.misses.made t.seen version.content place.sum_is t.misses.are_misses) (tt, tt);
      step = served_step s a version sum bytes place t.first t.member t.behind t.order t.misses.made t.seen t.misses.are_misses t.serves.fault t.serves.damage t.serves.whole
          (served_copy version.content bytes sum t.member.dev at t.serves.fault place.sum_is t.serves.is_seen);
    }

-- none did
read_missed : {s : PoolState} {a : ℕ} {old new : Option Story} {f g : ℕ → ℕ} (version : Version) (sum : List ℕ) (seen : List LeafSeen) → AtCopies s a version sum
    → Misses (data_start + version.sector) sum (tries version.birth (leaves s)) old new f g seen
    → Reads s a old new f g (Err (refusals.Exhausted 0 a (shown_in seen (leaves s))))
read_missed {s} {a} {old} {new} {f} {g} version sum seen place m =
    let at = data_start + version.sector in
    let all = tries version.birth (leaves s) in
    let asks : asks_of (m.made ++ []) ≡ asks_to at (all ++ []) (troubles version.content (m.made ++ [])) =
    asks_behind version.content at sum all [] m.made [] seen place.sum_is m.are_misses refl in
    let serves : is_served (all ++ []) (troubles version.content (m.made ++ [])) ≡ false =
    served_behind version.content at sum all [] m.made [] seen place.sum_is m.are_misses in
    record {
      made = m.made;
      calls = m.calls;
      reads = misses_reads at sum all m.made seen version.content place.sum_is m.are_misses;
      step = inl (in_source s a (Copies version) m.made _ place.inside place.source
          (rw (append-nil m.made, append-nil all) at asks)
          (bad_answer _ a _ _ _ (rw (append-nil m.made, append-nil all) at serves)
          (shown_is version.content at sum version.birth (leaves s) m.made seen place.sum_is m.are_misses)));
    }

-- the answer of a read whose copies gave this
abbrev pub with_leaves : ℕ → List ℕ → Result (Unit {0}) (List LeafSeen) → Result (List ℕ) Refusal
with_leaves a bytes (Ok done) = Ok bytes
with_leaves a bytes (Err leaves) = Err (refusals.Exhausted 0 a leaves)

read_tried : {s : PoolState} {a : ℕ} {old new : Option Story} {f g : ℕ → ℕ} (version : Version) (sum bytes : List ℕ) (tried : Result (Unit {0}) (List LeafSeen))
    → AtCopies s a version sum → TriesAll (data_start + version.sector) sum (tries version.birth (leaves s)) old new f g bytes tried
    → Reads s a old new f g (with_leaves a bytes (shown_by (leaves s) tried))
read_tried version sum bytes (Ok done) place t = read_served version sum bytes place t
read_tried version sum bytes (Err seen) place t = read_missed version sum seen place t

-- a committed block that the pool has this pointer of
record IsPointed (pointer : Pointer) (committed : Option Version) : Type 0 where
  version : Version
  is : committed ≡ Some version
  pointer_is : pointer ≡ pointer_of version

pointed_by : (pointer : Pointer) (committed : Option Version) → Some pointer ≡ option_map pointer_of committed → IsPointed pointer committed
pointed_by pointer None e = absurd cc
pointed_by pointer (Some version) e = record { version = version; is = refl; pointer_is = cc }

-- the pointer of a committed block
pointer_is : (pool : Pool) (s : PoolState) (a : ℕ) (pointer : Option Pointer) → Represents pool s → a < s.blocks
    → slice_get pool.pointers.items a ≡ Some pointer → pointer ≡ option_map pointer_of (s.committed a)
pointer_is pool s a pointer r inside is = same_Some pointer (option_map pointer_of (s.committed a)) (sym is ∙ r.committed a inside)

-- a read of a committed block
pub read_committed : {s : PoolState} {a : ℕ} {old new : Option Story} {f g : ℕ → ℕ} (pool : Pool) (pointer : Pointer) (bytes : List ℕ)
    (result : Result (Unit {0}) (List LeafSeen)) → Represents pool s → a < pool.blocks → s.writes a ≡ None
    → slice_get pool.pointers.items a ≡ Some (Some pointer) → TriesCopies s pointer old new f g bytes result
    → Reads s a old new f g (with_leaves a bytes result)
read_committed {s} {a} {old} {new} {f} {g} pool pointer bytes result r inside unwritten is t =
    let below : a < s.blocks = rw r.blocks inside in
    let p = pointed_by pointer (s.committed a) (pointer_is pool s a (Some pointer) r below is) in
    rw t.result_is (read_tried p.version pointer.sum bytes t.tried
    (record { inside = below; source = ap₂ source_of unwritten p.is; sum_is = ap (λ q. q.sum) p.pointer_is })
    (subst (λ q. TriesAll (data_start + q.sector) pointer.sum (tries q.birth.0 (leaves s)) old new f g bytes t.tried) p.pointer_is t.tries_all))

-- nothing is committed where the pool has no pointer
uncommitted : (committed : Option Version) → None ≡ option_map pointer_of committed → committed ≡ None
uncommitted None e = refl
uncommitted (Some version) e = absurd cc

-- a read where nothing is
pub read_nothing : {s : PoolState} {a : ℕ} {told : Option Story} {faults : ℕ → ℕ} (pool : Pool) (bytes : List ℕ) → Represents pool s
    → a < pool.blocks → s.writes a ≡ None → slice_get pool.pointers.items a ≡ Some None → bytes ≡ zero_block
    → Reads s a told told faults faults (Ok bytes)
read_nothing {s} {a} {told} {faults} pool bytes r inside unwritten is zeros_are =
    let below : a < s.blocks = rw r.blocks inside in
    rw zeros_are (read_hole below unwritten (uncommitted (s.committed a) (pointer_is pool s a None r below is)))

-- a buffer of 4,096 zeros
pub zeros_block : (n : ℕ) (bytes : List ℕ) → n ≡ 4096 → bytes ≡ replicate n 0 → bytes ≡ zero_block
unfolding zero_block zeros block_bytes
zeros_block n bytes long is = rw (is, long) refl
