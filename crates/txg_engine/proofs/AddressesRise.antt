-- The addresses of writes rise, with one more among them too.
use Rattle.std.proofs.Common.{◌≡◌, ◌⊎◌, inl, inr, ℕ, ◌+◌, ◌<◌, ◌≤◌, ◌==◌, ◌||◌, Bool, true, false, cond, List, [], ◌∷◌, ◌++◌, map, length, take, drop, Some, refl, ap, sym, ◌∙◌, subst, arith}
use Rattle.std.specs.List.{All, insert, list_any}
use Rattle.std.specs.Option.{is_some}
use Rattle.std.proofs.lemmas.Bool.{cases_Bool, eqb-true}
use Rattle.std.proofs.lemmas.List.{map-append, take-map, drop-map, length-map}
use Rattle.std.proofs.lemmas.List.Edits.{length-insert}
use Rattle.std.proofs.lemmas.List.Elements.{All-nil, All-cons, All-weaker}
use Rattle.std.proofs.lemmas.List.Kept.{AllPairs-cons}
use Rattle.block_map.specs.Dirty.{Rises}
use Rattle.txg_engine.specs.Freezing.{addr_of}
use Rattle.txg_engine.specs.declared.write.Write.{Write}
use Rattle.txg_engine.specs.Writes.{RiseFrom, block_at, is_written, IsGap, IsThere}
use Rattle.txg_engine.proofs.Found.{insert_rise, insert_block, is_there}

from_low : (low : ℕ) (ws : List Write) → RiseFrom low ws → All (λ a. low ≤ a) (map addr_of ws)
from_low low [] rise = All-nil (λ a. low ≤ a)
from_low low (w ∷ ws) rise =
    All-cons (λ a. low ≤ a) w.addr (map addr_of ws) rise.0
    (All-weaker (λ a. w.addr + 1 ≤ a) (λ a. low ≤ a) (λ a le. let first = rise.0 in omega arith) (map addr_of ws)
    (from_low (w.addr + 1) ws rise.1))

pub addrs_rise : (low : ℕ) (ws : List Write) → RiseFrom low ws → Rises (map addr_of ws)
addrs_rise low [] rise = λ i j d less lt. absurd (omega arith)
addrs_rise low (w ∷ ws) rise =
    AllPairs-cons (λ a b. a < b) w.addr (map addr_of ws)
    (All-weaker (λ a. w.addr + 1 ≤ a) (λ a. w.addr < a) (λ a le. omega arith) (map addr_of ws) (from_low (w.addr + 1) ws rise.1))
    (addrs_rise (w.addr + 1) ws rise.1)

written_by : (here : Bool) (block : List ℕ) (ws : List Write) (x : ℕ)
    → is_some (cond here (Some block) (block_at ws x)) ≡ (here || is_written ws x)
written_by true block ws x = refl
written_by false block ws x = refl

pub addrs_are : (ws : List Write) (x : ℕ) → list_any (λ a. a == x) (map addr_of ws) ≡ is_written ws x
addrs_are [] x = refl
addrs_are (w ∷ ws) x = ap (λ b. (w.addr == x) || b) (addrs_are ws x) ∙ sym (written_by (w.addr == x) w.block ws x)

module _ (addr : ℕ) (ws : List Write) (rise : RiseFrom 0 ws) where
  -- an address that is written already
  pub written_again : (at x : ℕ) → IsThere ws addr at
      → list_any (λ a. a == x) (map addr_of ws) ≡ ((addr == x) || is_written ws x)
  written_again at x there = addrs_are ws x ∙ again (cases_Bool (addr == x))
    where
      again : ((addr == x) ≡ true) ⊎ ((addr == x) ≡ false) → is_written ws x ≡ ((addr == x) || is_written ws x)
      again (inl same) =
          subst (λ a. is_written ws a ≡ true) (eqb-true addr x same) (is_there ws addr at rise there)
          ∙ ap (λ b. b || is_written ws x) (sym same)
      again (inr other) = ap (λ b. b || is_written ws x) (sym other)

  one : Write
  one = record { addr = addr; block = [] }

  inserted : (at : ℕ) → map addr_of (insert ws at one) ≡ insert (map addr_of ws) at addr
  unfolding one
  inserted at =
      map-append addr_of (take at ws) (one ∷ drop at ws)
      ∙ ap (λ xs. xs ++ (addr ∷ map addr_of (drop at ws))) (sym (take-map addr_of at ws))
      ∙ ap (λ xs. take at (map addr_of ws) ++ (addr ∷ xs)) (sym (drop-map addr_of at ws))

  pub one_more_rises : (at : ℕ) → IsGap ws addr at → Rises (insert (map addr_of ws) at addr)
  unfolding one
  one_more_rises at gap =
      subst Rises (inserted at) (addrs_rise 0 (insert ws at one) (insert_rise addr one refl 0 ws at (omega arith) rise gap))

  pub one_more_are : (at x : ℕ) → IsGap ws addr at
      → list_any (λ a. a == x) (insert (map addr_of ws) at addr) ≡ ((addr == x) || is_written ws x)
  unfolding one
  one_more_are at x gap =
      ap (list_any (λ a. a == x)) (sym (inserted at))
      ∙ addrs_are (insert ws at one) x
      ∙ ap is_some (insert_block addr one refl ws at x gap)
      ∙ written_by (addr == x) [] ws x

  pub one_more_longer : (at : ℕ) → IsGap ws addr at → length (insert (map addr_of ws) at addr) ≤ length ws + 1
  one_more_longer at gap =
      let same : length (map addr_of ws) ≡ length ws = length-map ws addr_of in
      let within = gap.inside in
      let is = length-insert (map addr_of ws) at addr (omega arith) in
      omega arith
