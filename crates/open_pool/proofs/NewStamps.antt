-- The stamps of a board, one after another.
use Rattle.std.proofs.Common.{◌≡◌, inl, inr, ℕ, zero, suc, ◌+◌, ◌<◌, ◌≤◌, List, [], ◌∷◌, ◌++◌, length, take, drop, get_or, Option, Some, None, refl, sym, ap, ◌∙◌, subst, arith, append_assoc, append-nil}
use Rattle.std.specs.Prelude.{slice_get}
use Rattle.std.proofs.lemmas.List.{take_all}
use Rattle.mp_base.specs.declared.number.Guid.{Guid}
use Rattle.bank_core.specs.declared.bank.Fault.{Fault}
use Rattle.bank_core.specs.Asks.{IsPart}
use Rattle.bank_core.specs.BankView.{BankView}
use Rattle.bank_core.specs.Calls.{Makes}
use Rattle.bank_core.specs.Disk.{Noted}
use Rattle.bank_core.specs.Parts.{Part}
use Rattle.bank_core.proofs.Framing.{makes_more}
use Rattle.label_store.specs.Plans.{stamp_plan}
use Rattle.txg_engine.specs.declared.seat.Seat.{Seat}
use Rattle.pool_moves.specs.StampRow.{NewLeaf, Stamp, AreStamps, calls_of_stamps}
use Rattle.open_pool.specs.Creating.{AreSeatsOf, IsSeatOf, Stamps}

stamps_more : (size : ℕ → ℕ) (pool : Guid) (xs : List NewLeaf) (stamps : List Stamp) (x : NewLeaf) (made : List Noted) → AreStamps size pool xs stamps None
    → IsPart (stamp_plan x.dev (size x.dev) pool x.guid) made None
    → AreStamps size pool (xs ++ x ∷ []) (stamps ++ record { dev = x.dev; made = made } ∷ []) None
stamps_more size pool [] [] x made are part = (refl, inl (part, refl))
stamps_more size pool [] (s ∷ stamps) x made are part = absurd are
stamps_more size pool (y ∷ xs) [] x made are part = absurd are
stamps_more size pool (y ∷ xs) (s ∷ stamps) x made (dev, inl (first, more)) part = (dev, inl (first, stamps_more size pool xs stamps x made more part))
stamps_more size pool (y ∷ xs) (s ∷ stamps) x made (dev, inr (fault, first, end, fails)) part = absurd (let no : None ≡ Some y = fails in cc)

stamps_fail : (size : ℕ → ℕ) (pool : Guid) (xs : List NewLeaf) (stamps : List Stamp) (x : NewLeaf) (rest : List NewLeaf) (made : List Noted) (fault : Fault)
    → AreStamps size pool xs stamps None → IsPart (stamp_plan x.dev (size x.dev) pool x.guid) made (Some fault)
    → AreStamps size pool (xs ++ x ∷ rest) (stamps ++ record { dev = x.dev; made = made } ∷ []) (Some x)
stamps_fail size pool [] [] x rest made fault are part = (refl, inr (fault, part, refl, refl))
stamps_fail size pool [] (s ∷ stamps) x rest made fault are part = absurd are
stamps_fail size pool (y ∷ xs) [] x rest made fault are part = absurd are
stamps_fail size pool (y ∷ xs) (s ∷ stamps) x rest made fault (dev, inl (first, more)) part =
    (dev, inl (first, stamps_fail size pool xs stamps x rest made fault more part))
stamps_fail size pool (y ∷ xs) (s ∷ stamps) x rest made fault (dev, inr (other, first, end, fails)) part = absurd (let no : None ≡ Some y = fails in cc)

calls_more : (stamps : List Stamp) (s : Stamp) → calls_of_stamps (stamps ++ s ∷ []) ≡ calls_of_stamps stamps ++ s.made
calls_more [] s = append-nil s.made
calls_more (t ∷ stamps) s = ap (λ l. t.made ++ l) (calls_more stamps s) ∙ sym (append_assoc t.made (calls_of_stamps stamps) s.made)

-- The leaf of the seat at a place.
record LeafAt (leaves : List NewLeaf) (i : ℕ) (seat : Seat) : Type 0 where
  leaf : NewLeaf
  there : slice_get leaves i ≡ Some leaf
  next : take (i + 1) leaves ≡ take i leaves ++ leaf ∷ []
  whole : leaves ≡ take i leaves ++ leaf ∷ drop (i + 1) leaves
  seat_is : IsSeatOf leaf seat

one_next : (i : ℕ) → suc i + 1 ≡ suc (i + 1)
one_next i = omega arith

leaf_at : (leaves : List NewLeaf) (seats : List Seat) (i : ℕ) (d seat : Seat) → AreSeatsOf leaves seats → i < length seats → seat ≡ get_or seats i d
    → LeafAt leaves i seat
leaf_at [] [] i d seat are lt at = absurd (omega (arith, lt))
leaf_at [] (x ∷ seats) i d seat are lt at = absurd are
leaf_at (leaf ∷ leaves) [] i d seat are lt at = absurd are
leaf_at (leaf ∷ leaves) (x ∷ seats) zero d seat are lt at = record {
  leaf = leaf;
  there = refl;
  next = refl;
  whole = refl;
  seat_is = subst (IsSeatOf leaf) (sym at) are.0;
}
leaf_at (leaf ∷ leaves) (x ∷ seats) (suc i) d seat are lt at =
    let more = leaf_at leaves seats i d seat are.1 (omega (arith, lt)) at in
    record {
      leaf = more.leaf;
      there = more.there;
      next = ap (λ n. take n (leaf ∷ leaves)) (one_next i) ∙ ap (λ ls. leaf ∷ ls) more.next;
      whole = ap (λ ls. leaf ∷ ls) more.whole
          ∙ ap (λ n. leaf ∷ (take i leaves ++ more.leaf ∷ drop n (leaf ∷ leaves))) (sym (one_next i));
      seat_is = more.seat_is;
    }

module _ (pool : Guid) (leaves : List NewLeaf) (seats : List Seat) (are : AreSeatsOf leaves seats) (i : ℕ) (d seat : Seat) (lt : i < length seats)
    (at : seat ≡ get_or seats i d) (old mid new : BankView) (so_far : Stamps pool (take i leaves) None old mid) where
  here : LeafAt leaves i seat
  here = leaf_at leaves seats i d seat are lt at

  planned : (made : List Noted) (outcome : Option Fault)
      → IsPart (stamp_plan seat.member.dev (mid.size seat.member.dev) pool seat.member.guid) made outcome
      → IsPart (stamp_plan here.leaf.dev (old.size here.leaf.dev) pool here.leaf.guid) made outcome
  planned made outcome part =
      subst (λ (dev : ℕ). IsPart (stamp_plan dev (old.size dev) pool here.leaf.guid) made outcome) here.seat_is.dev
      (subst (λ (g : Guid). IsPart (stamp_plan seat.member.dev (old.size seat.member.dev) pool g) made outcome) here.seat_is.guid
      (subst (λ (n : ℕ). IsPart (stamp_plan seat.member.dev n pool seat.member.guid) made outcome) (so_far.calls.frame.sizes seat.member.dev) part))

  stamps_then : (made : List Noted) → Makes made mid new
      → Makes (calls_of_stamps (so_far.stamps ++ record { dev = here.leaf.dev; made = made } ∷ [])) old new
  stamps_then made calls = subst (λ l. Makes l old new) (sym (calls_more so_far.stamps (record { dev = here.leaf.dev; made = made })))
      (makes_more so_far.calls calls)

  -- One more was stamped.
  pub next_stamped : Part seat.member.dev (stamp_plan seat.member.dev (mid.size seat.member.dev) pool seat.member.guid) mid new None
      → Stamps pool (take (i + 1) leaves) None old new
  next_stamped part = record {
    stamps = so_far.stamps ++ record { dev = here.leaf.dev; made = part.made } ∷ [];
    are = subst (λ ls. AreStamps old.size pool ls (so_far.stamps ++ record { dev = here.leaf.dev; made = part.made } ∷ []) None) (sym here.next)
        (stamps_more old.size pool (take i leaves) so_far.stamps here.leaf part.made so_far.are (planned part.made None part.part));
    calls = stamps_then part.made (record { frame = part.frame; calls = part.calls });
  }

  -- Its stamp failed.
  pub stamp_failed : (fault : Fault)
      → Part seat.member.dev (stamp_plan seat.member.dev (mid.size seat.member.dev) pool seat.member.guid) mid new (Some fault)
      → (leaf : NewLeaf) × (slice_get leaves i ≡ Some leaf) × Stamps pool leaves (Some leaf) old new
  stamp_failed fault part = (
    here.leaf,
    here.there,
    record {
      stamps = so_far.stamps ++ record { dev = here.leaf.dev; made = part.made } ∷ [];
      are = subst (λ ls. AreStamps old.size pool ls (so_far.stamps ++ record { dev = here.leaf.dev; made = part.made } ∷ []) (Some here.leaf)) (sym here.whole)
          (stamps_fail old.size pool (take i leaves) so_far.stamps here.leaf (drop (i + 1) leaves) part.made fault so_far.are
          (planned part.made (Some fault) part.part));
      calls = stamps_then part.made (record { frame = part.frame; calls = part.calls });
    },
  )

pub all_stamped : (pool : Guid) (leaves : List NewLeaf) (i : ℕ) (old new : BankView) → length leaves ≤ i → Stamps pool (take i leaves) None old new
    → Stamps pool leaves None old new
all_stamped pool leaves i old new past so_far = subst (λ ls. Stamps pool ls None old new) (take_all i leaves past) so_far
