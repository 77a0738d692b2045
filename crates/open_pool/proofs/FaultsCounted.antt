-- Members whose calls failed in a turn are counted by moves behind it.
use Rattle.std.proofs.Common.{◌≡◌, ℕ, ◌==◌, cond, Bool, true, false, List, [], ◌∷◌, ◌++◌, map, Option, Some, None, refl, sym, ap, ◌∙◌, subst, arith}
use Rattle.std.specs.Prelude.{find, is_some}
use Rattle.std.specs.List.{AllByRecursion}
use Rattle.std.specs.Option.{option_map}
use Rattle.std.proofs.lemmas.Bool.{true≢false}
use Rattle.std.proofs.lemmas.Bool.Decides.{nat_tests}
use Rattle.mp_base.specs.declared.number.Guid.{Guid}
use Rattle.label_store.specs.declared.member.Member.{Member}
use Rattle.vdev_tree.specs.declared.vdev.LeafVdev.{LeafVdev}
use Rattle.txg_engine.proofs.Ready.{nothing}
use Rattle.txg_engine.specs.declared.seat.Numbers.{Numbers}
use Rattle.txg_engine.specs.declared.seat.Seat.{Seat}
use Rattle.txg_engine.specs.Boards.{without, failed, behind_turn, count_up}
use Rattle.txg_engine.specs.Logs.{Counted, count_write, AreBehind}
use Rattle.pool_moves.specs.Leaves.{LeafSeen, OwnLeaf}
use Rattle.pool_moves.specs.LineRows.{write_failed, has_number, sets_failed, count_moves}
use Rattle.pool_moves.specs.Moves.{Sets, leaf_step, state_step, steps}
use Rattle.pool_moves.specs.States.{ScanSeen, PoolState}
use Rattle.open_pool.specs.State.{seat_in, faults_of, own_of, leaf_of}
use Rattle.open_pool.proofs.BoardKept.{AreSameLeaves}
use Rattle.open_pool.proofs.LeafLeaves.{half_of, halves_at, AreThree, left_seat}
use Rattle.open_pool.proofs.LeavesStay.{same_twice, fails_same, are_grown_like}
use Rattle.open_pool.proofs.LogsWidened.{IsLikeIt, AreLikeThem}
use Rattle.open_pool.proofs.NumbersApart.{Differ, leaf_numbers, same_number, turned_test, seat_numbered}

abbrev pub left_seats : Guid → List Seat → List Seat
left_seats m seats = map (without m) (map (failed m) seats)

-- What is known of a leaf besides the group's logs, where its call failed or another's.
own_left : (m : Guid) (seats : List Seat) (old counted new : LeafVdev) → counted ≡ count_write m old
    → IsLikeIt counted new
    → own_of (left_seats m seats) new ≡ cond (old.guid.0 == m.0) (write_failed (own_of seats old)) (own_of seats old)
own_left m seats old counted new count like =
    sym (ap (own_of (left_seats m seats)) (like nothing)) ∙ ap (own_of (left_seats m seats)) count
    ∙ of_count (old.guid.0 == m.0)
    ∙ ap (λ o. own_by (old.guid.0 == m.0) o) (left_seat m seats old.guid)
    ∙ by (old.guid.0 == m.0) (seat_in seats old.guid) refl refl
  where
    -- by whether it is this leaf, and its seat
    own_by : Bool → Option Seat → OwnLeaf
    own_by t o = record {
      name = old.name;
      mode = old.state;
      temporary = old.temporary;
      marked = old.marked;
      counts = cond t (record (old.counts) { writes = count_up old.counts.writes }) old.counts;
      joined = is_some o;
      faults = faults_of o;
    }

    of_count : (t : Bool)
        → own_of (left_seats m seats) (cond t (record old {
          counts = record
              (old.counts) { writes = count_up old.counts.writes };
        }) old)
        ≡ own_by t (seat_in (left_seats m seats) old.guid)
    of_count true = refl
    of_count false = refl

    one : (t : Bool) (seat : Seat)
        → own_by t (Some (without m (cond t (record seat { faults = count_up seat.faults }) seat)))
        ≡ cond t (write_failed (own_by false (Some seat))) (own_by false (Some seat))
    one true seat = refl
    one false seat = refl

    by : (t : Bool) (o : Option Seat) → (old.guid.0 == m.0) ≡ t → seat_in seats old.guid ≡ o
        → own_by t (option_map (without m) (option_map (failed m) o)) ≡ cond t (write_failed (own_by false o))
        (own_by false o)
    by true None test is = refl
    by false None test is = refl
    by t (Some seat) test is =
        ap (λ b. own_by t (Some (without m (cond b (record seat { faults = count_up seat.faults }) seat))))
        (ap (λ n. n == m.0) (seat_numbered seats old.guid seat is) ∙ test)
        ∙ one t seat

-- The numbers of leaves, and the one of a number.
abbrev seen_numbers : List LeafSeen → List ℕ
seen_numbers leaves = map (λ leaf. leaf.guid.0) leaves

abbrev pub own_found : Guid → List LeafSeen → Option OwnLeaf
own_found m leaves = option_map (λ (leaf : LeafSeen). leaf.own) (find (has_number m) leaves)

-- no leaf has this number
none_found : (m : Guid) (leaves : List LeafSeen) → find (has_number m) leaves ≡ None
    → AllByRecursion (λ leaf. (leaf.guid.0 == m.0) ≡ false) leaves
none_found m [] found = tt
none_found m (leaf ∷ leaves) found = one (leaf.guid.0 == m.0) refl found (none_found m leaves)
  where
    one : (t : Bool) → (leaf.guid.0 == m.0) ≡ t → cond t (Some leaf) (find (has_number m) leaves) ≡ None
        → (find (has_number m) leaves ≡ None → AllByRecursion (λ leaf. (leaf.guid.0 == m.0) ≡ false) leaves)
        → ((leaf.guid.0 == m.0) ≡ false) × AllByRecursion (λ leaf. (leaf.guid.0 == m.0) ≡ false) leaves
    one true test e rest = absurd (let no : Some leaf ≡ None = e in cc)
    one false test e rest = (test, rest e)

others_not : (m : Guid) (n : ℕ) (leaves : List LeafSeen) (own : OwnLeaf) → n ≡ m.0
    → AllByRecursion (λ k. (n == k) ≡ false) (seen_numbers leaves)
    → AllByRecursion (λ leaf. (leaf.guid.0 == m.0) ≡ true → leaf.own ≡ own) leaves
others_not m n [] own same differ = tt
others_not m n (leaf ∷ leaves) own same differ = (
  (λ here. absurd (true≢false
      (sym (let yes : (n == leaf.guid.0) ≡ true =
      (let there : leaf.guid.0 ≡ m.0 = same_number leaf.guid.0 m.0 here in grind
      (arith, nat_tests)) in yes) ∙ differ.0))),
  others_not m n leaves own same differ.1,
)

-- the one that is found is each one of this number
one_found : (m : Guid) (leaves : List LeafSeen) (found : LeafSeen) → Differ (seen_numbers leaves)
    → find (has_number m) leaves ≡ Some found
    → AllByRecursion (λ leaf. (leaf.guid.0 == m.0) ≡ true → leaf.own ≡ found.own) leaves
one_found m [] found differ is = tt
one_found m (leaf ∷ leaves) found differ is = one (leaf.guid.0 == m.0) refl is (one_found m leaves found differ.1)
  where
    one : (t : Bool) → (leaf.guid.0 == m.0) ≡ t → cond t (Some leaf) (find (has_number m) leaves) ≡ Some found
        → (find (has_number m) leaves ≡ Some found → AllByRecursion
        (λ leaf. (leaf.guid.0 == m.0) ≡ true → leaf.own ≡ found.own) leaves)
        → ((leaf.guid.0 == m.0) ≡ true → leaf.own ≡ found.own) × AllByRecursion
        (λ leaf. (leaf.guid.0 == m.0) ≡ true → leaf.own ≡ found.own) leaves
    one true test e rest =
        let same : leaf ≡ found = cc in (
          (λ here. ap (λ (l : LeafSeen). l.own) same),
          others_not m leaf.guid.0 leaves found.own
              (same_number leaf.guid.0 m.0 test) differ.0,
        )
    one false test e rest = ((λ here. absurd (true≢false (sym here ∙ test))), rest e)

found_number : (m : Guid) (leaves : List LeafSeen) (found : LeafSeen) → find (has_number m) leaves ≡ Some found
    → found.guid.0 ≡ m.0
found_number m [] found is = absurd (let no : None ≡ Some found = is in cc)
found_number m (leaf ∷ leaves) found is = one (leaf.guid.0 == m.0) refl is (found_number m leaves found)
  where
    one : (t : Bool) → (leaf.guid.0 == m.0) ≡ t → cond t (Some leaf) (find (has_number m) leaves) ≡ Some found
        → (find (has_number m) leaves ≡ Some found → found.guid.0 ≡ m.0) → found.guid.0 ≡ m.0
    one true test e rest = let same : leaf ≡ found = cc in ap (λ (l : LeafSeen). l.guid.0) (sym same)
        ∙ same_number leaf.guid.0 m.0 test
    one false test e rest = rest e

-- A count of one leaf changes no other.
found_still : (m k : Guid) (own : OwnLeaf) (number first : ℕ) (scan : ScanSeen) (leaves : List LeafSeen) → (k.0 == m.0) ≡ false
    → own_found k (map (leaf_step (Sets m own) number first scan) leaves) ≡ own_found k leaves
found_still m k own number first scan [] other = refl
found_still m k own number first scan (leaf ∷ leaves) other = one (leaf.guid.0 == m.0) (leaf.guid.0 == k.0) refl refl
    (found_still m k own number first scan leaves other)
  where
    one : (t u : Bool) → (leaf.guid.0 == m.0) ≡ t → (leaf.guid.0 == k.0) ≡ u
        → own_found k (map (leaf_step (Sets m own) number first scan) leaves) ≡ own_found k leaves
        → option_map (λ (l : LeafSeen). l.own) (cond ((cond t (record leaf { own = own }) leaf).guid.0 == k.0)
        (Some (cond t (record leaf { own = own }) leaf))
        (find (has_number k) (map (leaf_step (Sets m own) number first scan) leaves)))
        ≡ option_map (λ (l : LeafSeen). l.own) (cond (leaf.guid.0 == k.0) (Some leaf) (find (has_number k) leaves))
    one true true same here rest =
        absurd (true≢false (sym
        (let yes : (k.0 == m.0) ≡ true = (let a : leaf.guid.0 ≡ m.0 = same_number leaf.guid.0 m.0 same in
        let b : leaf.guid.0 ≡ k.0 = same_number leaf.guid.0 k.0 here in grind (arith, nat_tests)) in yes) ∙ other))
    one true false same here rest =
        ap (λ b. option_map (λ (l : LeafSeen). l.own) (cond b (Some (record leaf { own = own }))
        (find (has_number k) (map (leaf_step (Sets m own) number first scan) leaves)))) here
        ∙ rest
        ∙ sym (ap (λ b. option_map (λ (l : LeafSeen). l.own) (cond b (Some leaf) (find (has_number k) leaves))) here)
    one false u same here rest = by (leaf.guid.0 == k.0)
      where
        by : (b : Bool)
            → option_map (λ (l : LeafSeen). l.own)
            (cond b (Some leaf) (find (has_number k) (map (leaf_step (Sets m own) number first scan) leaves)))
            ≡ option_map (λ (l : LeafSeen). l.own) (cond b (Some leaf) (find (has_number k) leaves))
        by true = refl
        by false = rest

-- One leaf is counted, and the others aren't.
half_counted : (m k : Guid) (X : OwnLeaf) (seats F : List Seat) (top number first : ℕ) (scan : ScanSeen)
    (old counted new final : LeafVdev) → k.0 ≡ m.0 → final.guid ≡ old.guid
    → ((final.guid.0 == m.0) ≡ true → own_of seats old ≡ X) → counted ≡ count_write m old → IsLikeIt counted new
    → leaf_step (Sets k (write_failed X)) number first scan (half_of seats old F top final) ≡ half_of
    (left_seats m seats) new F top final
half_counted m k X seats F top number first scan old counted new final same number_is own_is count like =
    ap (λ n. cond (final.guid.0 == n) (record (half_of seats old F top final) { own = write_failed X })
    (half_of seats old F top final)) same
    ∙ by (final.guid.0 == m.0) refl
    ∙ ap (λ own. record (leaf_of F top final) { own = own })
    (ap (λ (g : Guid). cond (g.0 == m.0) (write_failed (own_of seats old)) (own_of seats old)) number_is
    ∙ sym (own_left m seats old counted new count like))
  where
    by : (t : Bool) → (final.guid.0 == m.0) ≡ t
        → cond t (record (half_of seats old F top final) { own = write_failed X }) (half_of seats old F top final)
        ≡ record (leaf_of F top final) { own = cond t (write_failed (own_of seats old)) (own_of seats old) }
    by true test = ap (λ own. record (leaf_of F top final) { own = write_failed own }) (sym (own_is test))
    by false test = refl

half_uncounted : (m : Guid) (seats F : List Seat) (top : ℕ) (old counted new final : LeafVdev) → final.guid ≡ old.guid
    → (final.guid.0 == m.0) ≡ false
    → counted ≡ count_write m old → IsLikeIt counted new
    → half_of seats old F top final ≡ half_of (left_seats m seats) new F top final
half_uncounted m seats F top old counted new final number_is other count like =
    ap (λ own. record (leaf_of F top final) { own = own }) (sym (own_left m seats old counted new count like
    ∙ ap (λ b. cond b (write_failed (own_of seats old)) (own_of seats old))
    (ap (λ (g : Guid). g.0 == m.0) (sym number_is) ∙ other)))

halves_counted : (m k : Guid) (X : OwnLeaf) (seats F : List Seat) (tops : List ℕ) (number first : ℕ) (scan : ScanSeen)
    (old counted new finals : List LeafVdev) → k.0 ≡ m.0 → AreThree tops old finals
    → AreSameLeaves old finals
    → AllByRecursion (λ leaf. (leaf.guid.0 == m.0) ≡ true → leaf.own ≡ X) (halves_at seats old F tops finals)
    → Counted m old counted → AreLikeThem counted new
    → map (leaf_step (Sets k (write_failed X)) number first scan) (halves_at seats old F tops finals) ≡ halves_at
    (left_seats m seats) new F tops finals
halves_counted m k X seats F [] number first scan old counted new finals same three final own_is count like = refl
halves_counted m k X seats F (top ∷ tops) number first scan [] counted new finals same three final own_is count like = absurd three
halves_counted m k X seats F (top ∷ tops) number first scan (x ∷ old) [] new finals same three final own_is count like = absurd count
halves_counted m k X seats F (top ∷ tops) number first scan (x ∷ old) (y ∷ counted) [] finals same three final own_is count like = absurd like
halves_counted m k X seats F (top ∷ tops) number first scan (x ∷ old) (y ∷ counted) (z ∷ new) [] same three final own_is count like = absurd three
halves_counted m k X seats F (top ∷ tops) number first scan (x ∷ old) (y ∷ counted) (z ∷ new)
    (f ∷ finals) same three final own_is count like =
    ap (λ l. l ∷ map (leaf_step (Sets k (write_failed X)) number first scan) (halves_at seats old F tops finals))
    (half_counted m k X seats F top number first scan x y z f same final.0.guid own_is.0 count.0 like.0)
    ∙ ap (λ ls. half_of (left_seats m seats) z F top f ∷ ls)
    (halves_counted m k X seats F tops number first scan old counted new finals same three final.1 own_is.1 count.1 like.1)

halves_uncounted : (m : Guid) (seats F : List Seat) (tops : List ℕ) (old counted new finals : List LeafVdev)
    → AreThree tops old finals → AreSameLeaves old finals
    → AllByRecursion (λ leaf. (leaf.guid.0 == m.0) ≡ false) (halves_at seats old F tops finals) → Counted m old counted
    → AreLikeThem counted new
    → halves_at seats old F tops finals ≡ halves_at (left_seats m seats) new F tops finals
halves_uncounted m seats F [] old counted new finals three final others count like = refl
halves_uncounted m seats F (top ∷ tops) [] counted new finals three final others count like = absurd three
halves_uncounted m seats F (top ∷ tops) (x ∷ old) [] new finals three final others count like = absurd count
halves_uncounted m seats F (top ∷ tops) (x ∷ old) (y ∷ counted) [] finals three final others count like = absurd like
halves_uncounted m seats F (top ∷ tops) (x ∷ old) (y ∷ counted) (z ∷ new) [] three final others count like = absurd three
halves_uncounted m seats F (top ∷ tops) (x ∷ old) (y ∷ counted) (z ∷ new) (f ∷ finals) three final others count like =
    ap (λ l. l ∷ halves_at seats old F tops finals)
    (half_uncounted m seats F top x y z f final.0.guid others.0 count.0 like.0)
    ∙ ap (λ ls. half_of (left_seats m seats) z F top f ∷ ls)
    (halves_uncounted m seats F tops old counted new finals three final.1 others.1 count.1 like.1)

halves_numbers : (ws F : List Seat) (tops : List ℕ) (was leaves : List LeafVdev) → AreThree tops was leaves
    → seen_numbers (halves_at ws was F tops leaves) ≡ leaf_numbers leaves
halves_numbers ws F [] [] [] three = refl
halves_numbers ws F [] [] (leaf ∷ leaves) three = absurd three
halves_numbers ws F [] (w ∷ was) leaves three = absurd three
halves_numbers ws F (top ∷ tops) [] leaves three = absurd three
halves_numbers ws F (top ∷ tops) (w ∷ was) [] three = absurd three
halves_numbers ws F (top ∷ tops) (w ∷ was) (leaf ∷ leaves) three = ap (λ ns. leaf.guid.0 ∷ ns)
    (halves_numbers ws F tops was leaves three)

-- the leaves with others, as the state
abbrev pub with_leaves : List LeafSeen → PoolState → PoolState
with_leaves leaves s = record s { core = record (s.core) { leaves = leaves } }

abbrev pub member_numbers : List Member → List ℕ
member_numbers ms = map (λ m. m.guid.0) ms

three_new : (tops : List ℕ) (old new finals : List LeafVdev) → AreSameLeaves old new → AreThree tops old finals
    → AreThree tops new finals
three_new [] [] [] finals same three = three
three_new [] [] (y ∷ new) finals same three = absurd same
three_new [] (x ∷ old) new finals same three = absurd three
three_new (top ∷ tops) [] new finals same three = absurd three
three_new (top ∷ tops) (x ∷ old) [] finals same three = absurd same
three_new (top ∷ tops) (x ∷ old) (y ∷ new) [] same three = absurd three
three_new (top ∷ tops) (x ∷ old) (y ∷ new) (f ∷ finals) same three = three_new tops old new finals same.1 three

same_back : (old new : List LeafVdev) → AreSameLeaves old new → AreSameLeaves new old
same_back [] [] same = tt
same_back [] (y ∷ new) same = absurd same
same_back (x ∷ old) [] same = absurd same
same_back (x ∷ old) (y ∷ new) same = (
  record {
    guid = sym same.0.guid;
    name = sym same.0.name;
    dev = sym same.0.dev;
    state = sym same.0.state;
    temporary = sym same.0.temporary;
  },
  same_back old new same.1,
)

all_found_still : (found : Guid) (m : Member) (own : OwnLeaf) (number first : ℕ) (scan : ScanSeen) (all leaves : List LeafSeen)
    (ms : List Member) → found.0 ≡ m.guid.0
    → AllByRecursion (λ k. (m.guid.0 == k) ≡ false) (member_numbers ms)
    → AllByRecursion (λ k. own_found k.guid all ≡ own_found k.guid leaves) ms
    → AllByRecursion (λ k. own_found k.guid all ≡ own_found k.guid
    (map (leaf_step (Sets found own) number first scan) leaves)) ms
all_found_still found m own number first scan all leaves [] same differ are = tt
all_found_still found m own number first scan all leaves (k ∷ ms) same differ are = (
  are.0
      ∙ sym (found_still found k.guid own number first scan leaves
      (ap (λ n. k.guid.0 == n) same ∙ turned_test m.guid.0 k.guid.0 differ.0)),
  all_found_still found m own number first scan all leaves ms same differ.1 are.1,
)

-- what counts do, from these leaves to those
abbrev CountsRest : (all : List LeafSeen) (ms : List Member) (done : List Bool) (old new : List LeafSeen) → Type 0
CountsRest all ms done old new = (s : PoolState) → s.core.leaves ≡ old
    → AllByRecursion (λ m. own_found m.guid all ≡ own_found m.guid s.core.leaves) ms
    → steps (count_moves all ms done) s ≡ with_leaves new s

-- The counts of all members whose calls failed.
pub counts_all : (ms : List Member) (done : List Bool) (s : PoolState) (all : List LeafSeen) (numbers : Numbers)
    (seats F : List Seat) (tops : List ℕ) (old new finals : List LeafVdev)
    → s.core.leaves ≡ halves_at seats old F tops finals → AreThree tops old finals → AreSameLeaves old finals
    → Differ (leaf_numbers finals) → Differ (member_numbers ms)
    → AllByRecursion (λ m. own_found m.guid all ≡ own_found m.guid s.core.leaves) ms → AreBehind numbers ms done old new
    → steps (count_moves all ms done) s ≡ with_leaves (halves_at (behind_turn ms done seats) new F tops finals) s
counts_all [] done s all numbers seats F tops old new finals seen three final differ apart found are =
    ap (λ ls. with_leaves ls s) (seen ∙ ap (λ vs. halves_at seats vs F tops finals) (sym are))
counts_all (m ∷ ms) [] s all numbers seats F tops old new finals seen three final differ apart found are =
    ap (λ ls. with_leaves ls s) (seen ∙ ap (λ vs. halves_at seats vs F tops finals) (sym are))
counts_all (m ∷ ms) (true ∷ done) s all numbers seats F tops old new finals seen three final differ apart found are =
    counts_all ms done s all numbers seats F tops old new finals seen three final differ apart.1 found.1 are
counts_all (m ∷ ms) (false ∷ done) s all numbers seats F tops old new finals seen three final differ apart found are =
    let same = fails_same numbers m.guid old are.0 are.1 in
    by (find (has_number m.guid) all) (find (has_number m.guid) s.core.leaves) refl refl found.0
    (λ s' seen' found'. counts_all ms done s' all numbers (left_seats m.guid seats) F tops are.0 new finals seen'
    (three_new tops old are.0 finals same three)
    (same_twice are.0 old finals (same_back old are.0 same) final) differ apart.1 found' are.2)
  where
    like : AreLikeThem are.1.counted are.0
    like = are_grown_like
        (λ leaf. leaf.guid.0 == m.guid.0) numbers.first.0 numbers.last.0 are.1.counted are.0 are.1.grown

    by : (o p : Option LeafSeen) → find (has_number m.guid) all ≡ o → find (has_number m.guid) s.core.leaves ≡ p
        → option_map (λ (leaf : LeafSeen). leaf.own) (find (has_number m.guid) all) ≡ option_map
        (λ (leaf : LeafSeen). leaf.own) (find (has_number m.guid) s.core.leaves)
        → CountsRest all ms done (halves_at (left_seats m.guid seats) are.0 F tops finals)
        (halves_at (behind_turn ms done (left_seats m.guid seats)) new F tops finals)
        → steps (sets_failed o ++ count_moves all ms done) s ≡ with_leaves
        (halves_at (behind_turn ms done (left_seats m.guid seats)) new F tops finals) s
    by None None is here same rest = rest s
        (seen ∙ halves_uncounted m.guid seats F tops old are.1.counted are.0 finals three final
        (subst (AllByRecursion (λ leaf. (leaf.guid.0 == m.guid.0) ≡ false)) seen
        (none_found m.guid s.core.leaves here)) are.1.count like) found.1
    by None (Some q) is here same rest =
        absurd (let no : None ≡ Some q.own = sym (ap (option_map (λ (leaf : LeafSeen). leaf.own)) is) ∙ same ∙ ap
        (option_map (λ (leaf : LeafSeen). leaf.own)) here in cc)
    by (Some o) None is here same rest =
        absurd (let no : Some o.own ≡ None = sym (ap (option_map (λ (leaf : LeafSeen). leaf.own)) is) ∙ same ∙ ap
        (option_map (λ (leaf : LeafSeen). leaf.own)) here in cc)
    by (Some o) (Some q) is here same rest =
        let owns : o.own ≡ q.own = (let e : Some o.own ≡ Some q.own = sym
        (ap (option_map (λ (leaf : LeafSeen). leaf.own)) is) ∙ same
        ∙ ap (option_map (λ (leaf : LeafSeen). leaf.own)) here in cc) in
        let number = found_number m.guid all o is in
        let cur = halves_at seats old F tops finals in
        let own_is : AllByRecursion (λ leaf. (leaf.guid.0 == m.guid.0) ≡ true → leaf.own ≡ o.own) cur =
        subst (λ own. AllByRecursion (λ leaf. (leaf.guid.0 == m.guid.0) ≡ true → leaf.own ≡ own) cur) (sym owns)
        (one_found m.guid cur q (subst Differ (sym (halves_numbers seats F tops old finals three)) differ)
        (ap (find (has_number m.guid)) (sym seen) ∙ here)) in
        rest (state_step (Sets o.guid (write_failed o.own)) s)
        (ap (map (leaf_step (Sets o.guid (write_failed o.own)) s.core.number s.core.group.first s.core.scan)) seen
        ∙ halves_counted m.guid o.guid o.own seats F tops s.core.number s.core.group.first s.core.scan
        old are.1.counted are.0 finals number three final own_is are.1.count like)
        (all_found_still o.guid m
        (write_failed o.own) s.core.number s.core.group.first s.core.scan all s.core.leaves ms number apart.0 found.1)
