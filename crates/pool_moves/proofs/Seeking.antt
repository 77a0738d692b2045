-- What an opening's looks come to: of a pool of the name, a live record.
use Rattle.std.proofs.Common.{◌≡◌, inl, inr, ℕ, ◌+◌, ◌-◌, ◌*◌, ◌/◌, ◌%◌, ◌≤◌, ◌<◌, ◌==◌, ◌&&◌, ◌||◌, nat_le, nat_lt, zero, suc, Bool, true, false, cond, Option, Some, None, List, [], ◌∷◌, ◌++◌, length, take, Result, Ok, refl, sym, ap, ◌∙◌, subst, arith}
use Rattle.std.specs.Prelude.{slice_index}
use Rattle.std.proofs.lemmas.Bool.{and_parts}
use Rattle.std.proofs.lemmas.Bool.Decides.{nat_tests}
use Rattle.mp_base.specs.declared.number.Guid.{Guid}
use Rattle.bank_core.specs.declared.bank.Fault.{Fault}
use Rattle.bank_core.specs.Asks.{Ask, Reads, ask_of}
use Rattle.bank_core.specs.Disk.{Call, Read, Noted, AllAnswer, covers, sectors_in, sector_of}
use Rattle.label_store.specs.declared.found.Found.{Found}
use Rattle.label_store.specs.declared.rule.Head.{Head}
use Rattle.label_store.specs.declared.uberblock.Uberblock.{Uberblock}
use Rattle.label_store.specs.Identities.{GivesIdentity, rings_of, AreMisses, IsSearch}
use Rattle.label_store.specs.Layout.{labels_of}
use Rattle.label_store.specs.Newest.{Parts, IsRead, AreReads, IsLook, IsBest}
use Rattle.label_store.specs.Records.{IsVerified, config_at, place_at}
use Rattle.label_store.proofs.Reading.{is_read, are_reads_more, look_reads, IsReadAsk}
use Rattle.txg_history.specs.Events.{Known, Calls, Looks, Opens, as_events}
use Rattle.txg_history.specs.Looks.{known_by, AreDistinct, HaveRoom}
use Rattle.txg_history.specs.Moves.{IsSparing, Mays, ReadsTrue}
use Rattle.txg_history.specs.Openings.{IsVerifiedOn, IsYield}
use Rattle.txg_history.specs.Pages.{LeafKept, Codec}
use Rattle.txg_history.specs.Pools.{Pool, after, pool_after}
use Rattle.txg_history.specs.Premises.{AreNotTorn, Premises, HasNoTwin}
use Rattle.txg_history.specs.Records.{Rec}
use Rattle.txg_history.specs.Survival.{Survives}
use Rattle.txg_history.proofs.Folding.{with_calls, calls_after, mays_more}
use Rattle.txg_history.proofs.LooksFound.{known_of}
use Rattle.txg_history.proofs.LooksShow.{best_yields, best_none, looks_true}
use Rattle.txg_history.proofs.Logging.{by_bool, same_device}
use Rattle.txg_history.proofs.Surviving.{history_survives}
use Rattle.txg_history.proofs.Yields.{identity_whole, finds_some, yield_live}
use Rattle.pool_moves.specs.FreezeRow.{is_dev}
use Rattle.pool_moves.specs.Opened.{claims_of}
use Rattle.pool_moves.specs.OpeningRow.{SeekReply, seek_reply, RowSeek, HasSizes, IsLiveOne, SeeksLive, read_of, AreWholeReads, IsSoughtOn, IsSought, AreSought, OpenReply, RowOpen}
use Rattle.pool_moves.proofs.OpenedSeats.{ArePaired}
use Rattle.pool_moves.proofs.ReadWalks.{read_sparing}
use Rattle.pool_moves.proofs.Lists.{all_front, all_rest}
use Rattle.pool_moves.proofs.Tests.{le_of, same_guid}

-- Reads are always allowed.
pub reads_may : (c : Codec) (p : Pool) (made : List Noted) → AreReads made → Mays c p (as_events made)
reads_may c p [] reads = tt
reads_may c p (noted ∷ made) reads = (one noted.call reads.0, reads_may c (after (Calls noted) p) made reads.1)
  where
    one : (call : Call) → IsRead call → IsSparing p call
    one (Read dev at bytes fault) is = read_sparing p dev at bytes fault
    one call is = absurd is

-- A search for an identity only reads.
asked_read : (call : Call) (dev at n : ℕ) → ask_of call ≡ Reads dev at n → IsRead call
asked_read call dev at n e = is_read call (subst IsReadAsk (sym e) tt)

misses_read : (pool member : Guid) (dev : ℕ) (rings : List ℕ) (made : List Noted) → AreMisses pool member dev rings made → AreReads made
misses_read pool member dev [] made m = subst AreReads (sym m) tt
misses_read pool member dev (at ∷ rings) [] m = absurd m
misses_read pool member dev (at ∷ rings) (noted ∷ made) m = (asked_read noted.call dev at _ m.0, misses_read pool member dev rings made m.2)

pub search_reads : (pool member : Guid) (dev size : ℕ) (made : List Noted) (result : Result Bool Fault) → IsSearch pool member dev size made result
    → AreReads made
search_reads pool member dev size made (Ok true) s = subst AreReads (sym s.all) (are_reads_more s.misses (s.hit ∷ [])
    (misses_read pool member dev (take s.before (rings_of size)) s.misses s.are_misses) (asked_read s.hit.call dev _ _ s.ask, tt))
search_reads pool member dev size made result s = misses_read pool member dev (rings_of size) made s.0

sought_on_reads : (roomy : Bool) (pool : Guid) (size : ℕ) (m : Guid) (d : ℕ) (made : List Noted) (found : Option ℕ)
    → IsSoughtOn roomy pool size m d made found → AreReads made
sought_on_reads false pool size m d made found is = subst AreReads (sym is.0) tt
sought_on_reads true pool size m d made found (inl is) = search_reads pool m d size made (Ok true) is.1
sought_on_reads true pool size m d made found (inr is) = search_reads pool m d size made is.1 is.3

one_sought : (pool : Guid) (size : ℕ → ℕ) (room : ℕ) (m : Guid) (dev : Option ℕ) (made : List Noted) (found : Option ℕ)
    → IsSought pool size room m dev made found → AreReads made
one_sought pool size room m None made found is = subst AreReads (sym is.0) tt
one_sought pool size room m (Some d) made found is = sought_on_reads (nat_le (room + 256) (size d)) pool (size d) m d made found is

pub sought_reads : (pool : Guid) (size room : ℕ → ℕ) (handed : List ℕ → Option ℕ) (leaves : List LeafKept) (made : List Noted)
    (devs : List (Option ℕ)) → AreSought pool size room handed leaves made devs → AreReads made
sought_reads pool size room handed [] made [] is = subst AreReads (sym is) tt
sought_reads pool size room handed [] made (dev ∷ devs) is = absurd is
sought_reads pool size room handed (leaf ∷ leaves) made [] is = absurd is
sought_reads pool size room handed (leaf ∷ leaves) made (dev ∷ devs) is =
    subst AreReads (sym is.2) (are_reads_more is.0 is.1 (one_sought pool size (room leaf.top) leaf.guid (handed leaf.name) is.0 dev is.3)
    (sought_reads pool size room handed leaves is.1 devs is.4))

pub sought_paired : (pool : Guid) (size room : ℕ → ℕ) (handed : List ℕ → Option ℕ) (leaves : List LeafKept) (made : List Noted)
    (devs : List (Option ℕ)) → AreSought pool size room handed leaves made devs → ArePaired leaves devs
sought_paired pool size room handed [] made [] is = tt
sought_paired pool size room handed [] made (dev ∷ devs) is = absurd is
sought_paired pool size room handed (leaf ∷ leaves) made [] is = absurd is
sought_paired pool size room handed (leaf ∷ leaves) made (dev ∷ devs) is = sought_paired pool size room handed leaves is.1 devs is.4

-- A ring that gives an identity shows it in one of its sectors.
ring_at : (size before : ℕ) → before < 4 → slice_index (rings_of size) before ≡ slice_index (labels_of size) before + 32
ring_at size zero lt = refl
ring_at size (suc zero) lt = refl
ring_at size (suc (suc zero)) lt = refl
ring_at size (suc (suc (suc zero))) lt = refl
ring_at size (suc (suc (suc (suc n)))) lt = absurd (omega (arith, lt))

shown_in : (size before slot dev : ℕ) (bytes : List ℕ) → before < 4 → slot < 32 → sectors_in bytes ≡ 32
    → read_of (Read dev (slice_index (rings_of size) before) bytes None) dev (place_at size (32 * before + slot)) ≡ Some (sector_of slot bytes)
shown_in size before slot dev bytes lt few long =
    subst (λ s. cond ((dev == dev) && covers at (sectors_in bytes) s) (Some (sector_of (s - at) bytes)) None ≡ Some (sector_of slot bytes)) (sym place)
    (ap (λ t. cond t (Some (sector_of ((at + slot) - at) bytes)) None) inside ∙ ap (λ n. Some (sector_of n bytes)) (off at slot))
  where
    at : ℕ
    at = slice_index (rings_of size) before

    off : (n k : ℕ) → (n + k) - n ≡ k
    off n k = omega arith

    place : place_at size (32 * before + slot) ≡ at + slot
    place =
        let whole : (32 * before + slot) / 32 ≡ before = omega (arith, few) in
        let rest : (32 * before + slot) % 32 ≡ slot = omega (arith, few) in
        ap (λ n. slice_index (labels_of size) n + (32 + (32 * before + slot) % 32)) whole
        ∙ (ap (λ n. slice_index (labels_of size) before + (32 + n)) rest
        ∙ (more (slice_index (labels_of size) before) slot ∙ ap (λ n. n + slot) (sym (ring_at size before lt))))
      where
        more : (n k : ℕ) → n + (32 + k) ≡ (n + 32) + k
        more n k = omega arith

    inside : ((dev == dev) && covers at (sectors_in bytes) (at + slot)) ≡ true
    inside = let same : (dev == dev) ≡ true = grind (arith, nat_tests) in
        let low = low_of at slot in
        let high : nat_lt (at + slot) (at + sectors_in bytes) ≡ true = high_of at slot (sectors_in bytes) few long in rw (same, low, high) refl
      where
        low_of : (n k : ℕ) → nat_le n (n + k) ≡ true
        low_of n k = let le : n ≤ n + k = omega arith in grind (arith, nat_tests)

        high_of : (n k c : ℕ) → k < 32 → c ≡ 32 → nat_lt (n + k) (n + c) ≡ true
        high_of n k c small e = let lt : n + k < n + c = omega (arith, small, e) in grind (arith, nat_tests)

given_home : (c : Codec) (p : Pool) (m : Guid) (d before : ℕ) (call : Call) → Survives c p → p.member d ≡ true → before < 4
    → ask_of call ≡ Reads d (slice_index (rings_of (p.size d)) before) 32
    → GivesIdentity p.pool m call → AreNotTorn p (read_of call) → p.guid d ≡ m
given_home c p m d before (Read dev at bytes None) sv mine lt ask gives whole =
    let dev_is : dev ≡ d = (let e = ap dev_in ask in e) in
    let at_is : at ≡ slice_index (rings_of (p.size d)) before = (let e = ap at_in ask in e) in
    let long : sectors_in bytes ≡ 32 = (let e = ap long_in ask in e) in
    let shown : read_of (Read dev at bytes None) d (place_at (p.size d) (32 * before + gives.slot)) ≡ Some (sector_of gives.slot bytes) =
    subst (λ e. read_of (Read e at bytes None) d (place_at (p.size d) (32 * before + gives.slot)) ≡ Some (sector_of gives.slot bytes)) (sym dev_is)
    (subst (λ n. read_of (Read d n bytes None) d (place_at (p.size d) (32 * before + gives.slot)) ≡ Some (sector_of gives.slot bytes)) (sym at_is)
    (shown_in (p.size d) before gives.slot d bytes lt gives.inside long)) in
    sym (identity_whole c p (read_of (Read dev at bytes None)) d (32 * before + gives.slot) gives.u (sector_of gives.slot bytes) sv whole mine
    (let few = gives.inside in omega (arith, lt, few)) shown gives.is_uberblock).1 ∙ gives.member_is
  where
    dev_in : Ask → ℕ
    dev_in (Reads dev at n) = dev
    dev_in ask = 0

    at_in : Ask → ℕ
    at_in (Reads dev at n) = at
    at_in ask = 0

    long_in : Ask → ℕ
    long_in (Reads dev at n) = n
    long_in ask = 0
given_home c p m d before call sv mine lt ask gives whole = absurd gives

whole_last : (p : Pool) (first : List Noted) (noted : Noted) → AreWholeReads p (first ++ (noted ∷ [])) → AreNotTorn p (read_of noted.call)
whole_last p [] noted all = all.0
whole_last p (one ∷ first) noted all = whole_last p first noted all.1

-- A member on which a search found an identity is the leaf's device.
pub search_home : (c : Codec) (p : Pool) (m : Guid) (d : ℕ) (made : List Noted) → Survives c p → p.member d ≡ true
    → IsSearch p.pool m d (p.size d) made (Ok true) → AreWholeReads p made → p.guid d ≡ m
search_home c p m d made sv mine s whole = given_home c p m d s.before s.hit.call sv mine s.inside s.ask s.gives
    (whole_last p s.misses s.hit (subst (AreWholeReads p) s.all whole))

-- A device that is taken for a leaf, and is a member, is the leaf's.
abbrev IsClaimed : Pool → (size : ℕ → ℕ) → List Noted → ℕ → Guid → Type 0
IsClaimed p size made d m = (mine : List Noted) × IsSearch p.pool m d (size d) mine (Ok true) × (1 ≤ size d) × (AreWholeReads p made → AreWholeReads p mine)

on_claimed : (p : Pool) (size : ℕ → ℕ) (room : ℕ) (m : Guid) (e d : ℕ) (mine made : List Noted) (roomy : Bool) → nat_le (room + 256) (size e) ≡ roomy
    → IsSoughtOn roomy p.pool (size e) m e mine (Some d)
    → (AreWholeReads p made → AreWholeReads p mine) → IsClaimed p size made d m
on_claimed p size room m e d mine made false is sought whole = absurd (let no : Some d ≡ None = sought.1 in cc)
on_claimed p size room m e d mine made true is (inl sought) whole =
    let same : d ≡ e = (let one = sought.0 in cc) in
    subst (λ n. IsClaimed p size made n m) (sym same)
    (mine, sought.1, (let le : room + 256 ≤ size e = le_of (room + 256) (size e) is in omega (arith, le)), whole)
on_claimed p size room m e d mine made true is (inr sought) whole = absurd (let no : Some d ≡ None = sought.0 in cc)

one_claimed : (p : Pool) (size : ℕ → ℕ) (room : ℕ) (m : Guid) (dev : Option ℕ) (d : ℕ) (mine made : List Noted) → IsSought p.pool size room m dev mine (Some d)
    → (AreWholeReads p made → AreWholeReads p mine) → IsClaimed p size made d m
one_claimed p size room m None d mine made is whole = absurd (let no : Some d ≡ None = is.1 in cc)
one_claimed p size room m (Some e) d mine made is whole = on_claimed p size room m e d mine made (nat_le (room + 256) (size e)) refl is whole

claimed : (p : Pool) (size room : ℕ → ℕ) (handed : List ℕ → Option ℕ) (leaves : List LeafKept) (made : List Noted) (devs : List (Option ℕ)) (d : ℕ) (m : Guid)
    → AreSought p.pool size room handed leaves made devs → claims_of leaves devs d m ≡ true → IsClaimed p size made d m
claimed p size room handed [] made devs d m is claim = absurd (cc)
claimed p size room handed (leaf ∷ leaves) made [] d m is claim = absurd is
claimed p size room handed (leaf ∷ leaves) made (dev ∷ devs) d m is claim = by_bool (is_dev d dev && (leaf.guid.0 == m.0))
    (λ here. let parts = and_parts (is_dev d dev) (leaf.guid.0 == m.0) here in
    let mine : IsClaimed p size made d leaf.guid = one_claimed p size (room leaf.top) leaf.guid (handed leaf.name) d is.0 made
    (subst (λ x. IsSought p.pool size (room leaf.top) leaf.guid (handed leaf.name) is.0 x) (dev_of dev parts.0) is.3)
    (λ whole. all_front _ is.0 is.1 (subst (AreWholeReads p) is.2 whole)) in
    subst (IsClaimed p size made d) (same_guid leaf.guid m parts.1) mine)
    (λ off. let later = claimed p size room handed leaves is.1 devs d m is.4 (sym (ap (λ t. t || claims_of leaves devs d m) off) ∙ claim) in
    (later.0, later.1, later.2, λ whole. later.3 (all_rest _ is.0 is.1 (subst (AreWholeReads p) is.2 whole))))
  where
    dev_of : (dev : Option ℕ) → is_dev d dev ≡ true → dev ≡ Some d
    dev_of None is = absurd (let no : false ≡ true = is in cc)
    dev_of (Some e) is = ap Some (sym (same_device d e is))

pub sought_no_twin : (c : Codec) (p : Pool) (r : Rec) (size room : ℕ → ℕ) (handed : List ℕ → Option ℕ) (leaves : List LeafKept) (made : List Noted)
    (devs : List (Option ℕ)) → Survives c p → HasSizes size p
    → AreSought p.pool size room handed leaves made devs → AreWholeReads p made
    → ((d : ℕ) (m : Guid) → claims_of leaves devs d m ≡ true → p.member d ≡ true) → HasNoTwin p r (claims_of leaves devs)
sought_no_twin c p r size room handed leaves made devs sv sized sought whole members = λ d m claim top.
    let mine = claimed p size room handed leaves made devs d m sought claim in
    let member = members d m claim in
    (member, search_home c p m d mine.0 sv member (subst (λ n. IsSearch p.pool m d n mine.0 (Ok true)) (sym (sized d mine.2)) mine.1) (mine.3 whole))

-- What is verified by a look, in the pool's sizes and in the run's.
record IsVerifiedAt (head_of : List ℕ → Option Head) (known : Known) (name : List ℕ) (d : ℕ) (u : Uberblock) (config : List ℕ) (n : ℕ) : Type 0 where
  place : ℕ
  verified : IsVerified head_of n (known d) place u config
  is_read : (bytes : List ℕ) × (known d (config_at n verified.label) ≡ Some bytes)
  head : Head
  reads : head_of config ≡ Some head
  name_is : head.name ≡ name

verified_as : (head_of : List ℕ → Option Head) (size other : ℕ → ℕ) (known : Known) (name : List ℕ) (d : ℕ) (u : Uberblock) (config : List ℕ) → size d ≡ other d
    → IsVerifiedOn head_of size known name d u config → IsVerifiedOn head_of other known name d u config
verified_as head_of size other known name d u config same v =
    let w = subst (IsVerifiedAt head_of known name d u config) same
    (record { place = v.place; verified = v.verified; is_read = v.is_read; head = v.head; reads = v.reads; name_is = v.name_is }) in
    record { place = w.place; verified = w.verified; is_read = w.is_read; head = w.head; reads = w.reads; name_is = w.name_is }

-- a device of which something is known was looked at
looked_size : (size : ℕ → ℕ) (devs : List ℕ) (looks : List Parts) (d s : ℕ) (bytes : List ℕ) → HaveRoom size devs
    → known_by size devs looks d s ≡ Some bytes → 1 ≤ size d
looked_size size devs looks d s bytes room is = let known = known_of size devs looks d s bytes is in let big = room known.i d known.dev_is in omega (arith, big)

yield_as : (head_of : List ℕ → Option Head) (size other : ℕ → ℕ) (devs : List ℕ) (looks : List Parts) (name : List ℕ) (u : Uberblock)
    (config : List ℕ) → HaveRoom size devs
    → ((d : ℕ) → 1 ≤ size d → other d ≡ size d) → IsYield head_of size (known_by size devs looks) name u config
    → IsYield head_of other (known_by size devs looks) name u config
yield_as head_of size other devs looks name u config room same y = record {
  d = y.d;
  verified = verified_as head_of size other (known_by size devs looks) name y.d u config (sym (same y.d (seen size y.d u config y.verified))) y.verified;
  greatest = λ e v found is. y.greatest e v found
      (verified_as head_of other size (known_by size devs looks) name e v found (same e (seen other e v found is)) is);
}
  where
    seen : (sizes : ℕ → ℕ) (d : ℕ) (u : Uberblock) (config : List ℕ) → IsVerifiedOn head_of sizes (known_by size devs looks) name d u config → 1 ≤ size d
    seen sizes d u config v = looked_size size devs looks d (place_at (sizes d) v.place) _ room v.verified.uberblock

-- What the looks come to.
seeks_best : (c : Codec) (size : ℕ → ℕ) (devs : List ℕ) (name : List ℕ) (made : List Noted) (p : Pool) (looks : List Parts) (best : Option Found)
    (reply : SeekReply) → Survives c p → HasSizes size p → p.name ≡ name
    → AllAnswer p.sectors made → AreDistinct devs → HaveRoom size devs → (look : IsLook size devs looks made)
    → IsBest c.head_of looks name (128 * length devs) best → reply ≡ seek_reply best
    → Premises c.head_of (with_calls made p) (known_by size devs looks) → SeeksLive c p made (known_by size devs looks) reply
seeks_best c size devs name made p looks best reply sv sized named answers apart room look is_best says premises = of best is_best says
  where
    may : Mays c p (as_events made)
    may = reads_may c p made (look_reads size devs looks made look)

    q : Pool
    q = with_calls made p

    here : Survives c q
    here = subst (Survives c) (calls_after made p) (history_survives c (as_events made) p sv may)

    known : Known
    known = known_by size devs looks

    true_to : ReadsTrue q.sectors known
    true_to = looks_true size devs looks made p.sectors look answers

    of : (best : Option Found) → IsBest c.head_of looks name (128 * length devs) best → reply ≡ seek_reply best → SeeksLive c p made known reply
    of None none says = absurd (let some = finds_some c q known here true_to premises in
        best_none c.head_of size devs looks made p.sectors name look room answers none some.0 some.1 some.2
        (subst (λ n. IsVerifiedOn c.head_of size known n some.0 some.1 some.2) named
        (verified_as c.head_of p.size size known p.name some.0 some.1 some.2
        (sized some.0 (looked_size size devs looks some.0 (place_at (p.size some.0) some.3.place) _ room some.3.verified.uberblock)) some.3)))
    of (Some found) best says =
        let y = best_yields c.head_of size devs looks made p.sectors name found look apart room answers best in
        let yields : IsYield c.head_of q.size known q.name y.0 found.blob.items =
        yield_as c.head_of size p.size devs looks p.name y.0 found.blob.items room sized
        (subst (λ n. IsYield c.head_of size known n y.0 found.blob.items) (sym named) y.3) in
        let live = yield_live c q known y.0 found.blob.items here true_to premises yields in
        record {
          found = found;
          says = says;
          r = live.found;
          is = subst (λ x. IsLiveOne x found live.found) (sym (calls_after made p)) (record {
            is_live = live.is_live;
            config_is = live.config_is;
            number_is = y.1 ∙ live.number_is;
            pool_is = y.2 ∙ live.pool_is;
            some = subst (λ n. 1 ≤ n.0) live.number_is yields.verified.verified.is_record.some;
          });
          not_below = live.not_below;
          mays = mays_more c (as_events made) (Looks known ∷ (Opens live.found ∷ [])) p may
              (subst (λ x. Mays c x (Looks known ∷ (Opens live.found ∷ []))) (sym (calls_after made p)) (true_to, (live.is_live, tt)));
        }

pub seeks_live : (c : Codec) (size : ℕ → ℕ) (devs : List ℕ) (name : List ℕ) (made : List Noted) (p : Pool) (reply : SeekReply) → Survives c p
    → HasSizes size p → p.name ≡ name → AllAnswer p.sectors made
    → (row : RowSeek c size devs name made reply) → Premises c.head_of (pool_after (as_events made) p) (known_by size devs row.looks)
    → SeeksLive c p made (known_by size devs row.looks) reply
seeks_live c size devs name made p reply sv sized named answers row premises = seeks_best c size devs name made p row.looks row.best reply sv sized
    named answers row.distinct row.room row.look row.is_best row.replies
    (subst (λ x. Premises c.head_of x (known_by size devs row.looks)) (calls_after made p) premises)

pub row_no_twin : (c : Codec) (size : ℕ → ℕ) (handed : List ℕ → Option ℕ) (name : List ℕ) (p : Pool) (r : Rec) (found : Found) (made : List Noted) (reply : OpenReply)
    → Survives c p → HasSizes size p → IsLiveOne p found r → (row : RowOpen c size handed name found made reply) → AreWholeReads p row.ids
    → ((d : ℕ) (m : Guid) → claims_of (c.leaves found.blob.items) row.devs d m ≡ true → p.member d ≡ true) → HasNoTwin p r (claims_of (c.leaves found.blob.items) row.devs)
row_no_twin c size handed name p r found made reply sv sized is row whole members =
    sought_no_twin c p r size (c.room found.blob.items) handed (c.leaves found.blob.items) row.ids row.devs sv sized
    (subst (λ g. AreSought g size (c.room found.blob.items) handed (c.leaves found.blob.items) row.ids row.devs) is.pool_is row.sought) whole members
