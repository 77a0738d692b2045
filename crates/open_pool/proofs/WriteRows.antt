-- What `put` answers is what its row says, and the state that it leaves is the row's.
use Rattle.std.proofs.Common.{◌≡◌, ◌⊎◌, inl, inr, ℕ, ◌+◌, ◌<◌, ◌≤◌, ◌==◌, cond, nat_lt, not, true, false, List, [], ◌∷◌, Option, Some, Result, Ok, Err, refl, sym, ap, ◌∙◌, subst, arith}
use mathlib.Core.Path.{fun_ext}
use mir.Val.{bool_byte}
use Rattle.std.proofs.lemmas.Bool.{lt-ltb, le-ltb}
use Rattle.block_map.specs.Map.{is_open, CountsPlaces}
use Rattle.txg_engine.specs.Writes.{OpenGroup, block_at}
use Rattle.pool_moves.specs.AwayRows.{Taken, BadAddress, Full, NoSpace, WriteFits, WriteBy, RowWrite}
use Rattle.pool_moves.specs.Moves.{Puts, steps}
use Rattle.pool_moves.specs.Refusing.{count_below, keys_needed, dirty_with, CountsOpen}
use Rattle.pool_moves.specs.States.{Sums, PoolState}
use Rattle.open_pool.specs.declared.write.WriteFault.{WriteFault}
use Rattle.open_pool.specs.declared.write.WriteFault.TheVariants as fault
use Rattle.open_pool.specs.Answering.{Answers, OutOfMemory}
use Rattle.open_pool.specs.Form.{IsPool, is_dirty}
use Rattle.open_pool.specs.Parts.{PoolParts}
use Rattle.open_pool.specs.Space.{written_too}
use Rattle.open_pool.specs.State.{ArePinned, Stands, state_of, seen_of, own_state}
use Rattle.open_pool.specs.Writing.{write_says}
use Rattle.open_pool.proofs.CountsBelow.{also}
use Rattle.open_pool.proofs.DirtyWithOne.{same_count, one_more}
use Rattle.open_pool.proofs.OpenChanged.{with_open}
use Rattle.open_pool.proofs.OpenPlaces.{counts_open}
use Rattle.open_pool.proofs.StatesStand.{stands_there, by_state}

-- the keys that the group needs with one more address
abbrev pub need_of : ℕ → PoolParts → ℕ
need_of a p = keys_needed p.map.blocks (written_too a p.unfrozen.writes)

-- the state behind a write is that of the parts with it
put_state : (held : List Sums) (p : PoolParts) (a : ℕ) (block : List ℕ) (group : OpenGroup) (dirty : ℕ)
    → ((x : ℕ) → block_at group.writes x ≡ cond (a == x) (Some block) (block_at p.unfrozen.writes x))
    → steps (Puts a block ∷ []) (state_of held p) ≡ state_of held (with_open p group dirty)
put_state held p a block group dirty blocks =
    ap (λ (writes : ℕ → Option (List ℕ)). record { own = record (own_state p) { writes = writes }; core = seen_of held p })
    (fun_ext (λ x. sym (blocks x)))

put_stands : (held : List Sums) (p : PoolParts) (a : ℕ) (block : List ℕ) (group : OpenGroup) (dirty : ℕ) → ArePinned held p
    → ((x : ℕ) → block_at group.writes x ≡ cond (a == x) (Some block) (block_at p.unfrozen.writes x))
    → Stands (with_open p group dirty) (steps (Puts a block ∷ []) (state_of held p))
put_stands held p a block group dirty pins blocks = record {
  is = put_state held p a block group dirty blocks;
  pinned = record { pinned = pins.pinned; held_places = pins.held_places };
}

module _ (p : PoolParts) (a : ℕ) (block : List ℕ) where
  pub bad_address : (limit : ℕ) → limit ≡ p.map.blocks → limit ≤ a → (s : PoolState) → Stands p s
      → Answers (RowWrite s a block) write_says (Err (fault.BadAddress limit)) s p
  bad_address limit is above = by_state (λ s. Answers (RowWrite s a block) write_says (Err (fault.BadAddress limit)) s p) p
      (λ held pins. record {
        moves = [];
        reply = BadAddress p.map.blocks;
        is = inl (subst (λ n. n ≤ a) is above, refl, refl);
        says_so = ap (λ n. Err (fault.BadAddress n)) is;
        leaves = stands_there held p pins;
      })

  module _ (pool : IsPool p) (low : a < p.map.blocks) where
    pub full : is_dirty p a ≡ false → p.dirty ≡ 4096 → (s : PoolState) → Stands p s
        → Answers (RowWrite s a block) write_says (Err fault.Full) s p
    full off most = by_state (λ s. Answers (RowWrite s a block) write_says (Err fault.Full) s p) p
        (λ held pins.
        let count : count_below p.map.blocks (dirty_with a (state_of held p)) ≡ p.dirty + 1 =
        same_count held p a ∙ one_more p pool a low ∙ ap (λ b. p.dirty + bool_byte (not b)) off in
        let over : nat_lt 4096 (count_below p.map.blocks (dirty_with a (state_of held p))) ≡ true =
        lt-ltb 4096 (count_below p.map.blocks (dirty_with a (state_of held p))) (omega (arith, count, most)) in
        record {
          moves = [];
          reply = Full;
          is = inr (low, subst (λ b. WriteBy b (state_of held p) a block [] Full) (sym over) (refl, refl));
          says_so = refl;
          leaves = stands_there held p pins;
        })

    module _ (few : count_below p.map.blocks (also a (is_dirty p)) ≤ 4096) (counted : CountsPlaces (is_open p.map) p.map.count) where
      not_full : (held : List Sums) → nat_lt 4096 (count_below p.map.blocks (dirty_with a (state_of held p))) ≡ false
      not_full held =
          le-ltb 4096 (count_below p.map.blocks (dirty_with a (state_of held p)))
          (subst (λ n. n ≤ 4096) (sym (same_count held p a)) few)

      open_places : (held : List Sums) → ArePinned held p → CountsOpen (seen_of held p) p.map.count
      open_places held pins = counts_open p held pool.places pins pool.tops p.map.count counted

      pub no_space : p.map.count < need_of a p → (s : PoolState) → Stands p s
          → Answers (RowWrite s a block) write_says (Err (fault.NoSpace (need_of a p) p.map.count)) s p
      no_space short = by_state
          (λ s. Answers (RowWrite s a block) write_says (Err (fault.NoSpace (need_of a p) p.map.count)) s p) p
          (λ held pins. record {
            moves = [];
            reply = NoSpace (need_of a p) p.map.count;
            is = inr (
              low,
              subst (λ b. WriteBy b (state_of held p) a block [] (NoSpace (need_of a p) p.map.count)) (sym (not_full held)) (
                p.map.count,
                open_places held pins,
                subst (λ b. WriteFits b (need_of a p) p.map.count a block [] (NoSpace (need_of a p) p.map.count))
                    (sym (lt-ltb p.map.count (need_of a p) short)) (refl, refl),
              ),
            );
            says_so = refl;
            leaves = stands_there held p pins;
          })

      -- what the check of the space answers at `Err`
      pub refused : (why : WriteFault)
          → (why ≡ fault.Memory) ⊎ ((why ≡ fault.NoSpace (need_of a p) p.map.count) × (p.map.count < need_of a p))
          → (s : PoolState) → Stands p s
          → Answers (RowWrite s a block) write_says (Err why) s p ⊎ OutOfMemory {A = Result (Unit {0}) WriteFault} (Err fault.Memory) (Err why) s p
      refused why (inl memory) s stands = inr (ap Err memory, stands)
      refused why (inr (is, short)) s stands =
          inl (subst (λ w. Answers (RowWrite s a block) write_says (Err w) s p) (sym is) (no_space short s stands))

      pub taken : need_of a p ≤ p.map.count → (group : OpenGroup) (dirty : ℕ)
          → ((x : ℕ) → block_at group.writes x ≡ cond (a == x) (Some block) (block_at p.unfrozen.writes x))
          → (s : PoolState) → Stands p s → Answers (RowWrite s a block) write_says (Ok tt) s (with_open p group dirty)
      taken fits group dirty blocks = by_state
          (λ s. Answers (RowWrite s a block) write_says (Ok tt) s (with_open p group dirty)) p
          (λ held pins. record {
            moves = Puts a block ∷ [];
            reply = Taken;
            is = inr (
              low,
              subst (λ b. WriteBy b (state_of held p) a block (Puts a block ∷ []) Taken) (sym (not_full held)) (
                p.map.count,
                open_places held pins,
                subst (λ b. WriteFits b (need_of a p) p.map.count a block (Puts a block ∷ []) Taken)
                    (sym (le-ltb p.map.count (need_of a p) fits)) (refl, refl),
              ),
            );
            says_so = refl;
            leaves = put_stands held p a block group dirty pins blocks;
          })
