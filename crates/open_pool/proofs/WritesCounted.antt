-- The writes of a group are as many as the addresses that were written.
use Rattle.std.proofs.Common.{◌≡◌, ℕ, ◌+◌, ◌<◌, ◌≤◌, ◌==◌, ◌||◌, Bool, true, false, cond, List, [], ◌∷◌, All, length, Some, refl, sym, ap, ◌∙◌, subst, ⊎_elim, arith}
use Rattle.std.specs.Prelude.{is_some}
use Rattle.std.proofs.lemmas.Bool.{false≢true, eq-eqb, eqb-true, or_cases, or_left, or_right}
use Rattle.std.proofs.lemmas.List.Elements.{All-nil, All-cons, All-head, All-tail, All-weaker}
use Rattle.txg_engine.specs.declared.write.Write.{Write}
use Rattle.txg_engine.specs.Writes.{RiseFrom, block_at, is_written}
use Rattle.txg_engine.proofs.Merged.{none_below}
use Rattle.pool_moves.specs.Refusing.{count_below}
use Rattle.open_pool.proofs.CountsBelow.{also, none_pass, count_same, count_more, count_also}

pub written_first : (here : Bool) (block : List ℕ) (ws : List Write) (x : ℕ)
    → is_some (cond here (Some block) (block_at ws x)) ≡ (here || is_written ws x)
written_first true block ws x = refl
written_first false block ws x = refl

-- what a list's first write and the others write
pub written_by : (w : Write) (ws : List Write) (x : ℕ) → is_written (w ∷ ws) x ≡ also w.addr (is_written ws) x
written_by w ws x = written_first (w.addr == x) w.block ws x

pub count_writes : (n low : ℕ) (ws : List Write) → RiseFrom low ws → All (λ write. write.addr < n) ws
    → count_below n (is_written ws) ≡ length ws
count_writes n low [] rise inside = none_pass n
count_writes n low (w ∷ ws) rise inside =
    let rest = count_writes n (w.addr + 1) ws rise.1 (All-tail (λ write. write.addr < n) w ws inside) in
    let same = count_same n (is_written (w ∷ ws)) (also w.addr (is_written ws)) (λ x lt. written_by w ws x) in
    let off : is_written ws w.addr ≡ false = ap is_some (none_below (w.addr + 1) w.addr ws rise.1 (omega arith)) in
    let one = count_also n w.addr (is_written ws) (All-head (λ write. write.addr < n) w ws inside) off in
    omega (arith, rest, same, one)

-- what is written is below the limit of each address
pub written_low : (n : ℕ) (ws : List Write) → All (λ write. write.addr < n) ws → (x : ℕ) → is_written ws x ≡ true → x < n
written_low n [] inside x is = absurd (false≢true is)
written_low n (w ∷ ws) inside x is =
    ⊎_elim
    (λ here. subst (λ a. a < n) (eqb-true w.addr x here) (All-head (λ write. write.addr < n) w ws inside))
    (λ later. written_low n ws (All-tail (λ write. write.addr < n) w ws inside) x later)
    (or_cases (w.addr == x) (is_written ws x) (sym (written_by w ws x) ∙ is))

pub written_too_low : (n a : ℕ) (ws : List Write) → All (λ write. write.addr < n) ws → a < n
    → (x : ℕ) → also a (is_written ws) x ≡ true → x < n
written_too_low n a ws inside low x is =
    ⊎_elim (λ here. subst (λ y. y < n) (eqb-true a x here) low) (λ there. written_low n ws inside x there)
    (or_cases (a == x) (is_written ws x) is)

-- Where the addresses of a group and those of another kind are so many together, its writes are no more, and fewer where
-- one more address is among those.
pub writes_within : (n most : ℕ) (ws : List Write) (others : ℕ → Bool) → RiseFrom 0 ws → All (λ write. write.addr < n) ws
    → count_below n (λ x. is_written ws x || others x) ≤ most → length ws ≤ most
writes_within n most ws others rise inside few =
    let all = count_writes n 0 ws rise inside in
    let more = count_more n (is_written ws) (λ x. is_written ws x || others x)
    (λ x lt is. or_left (is_written ws x) (others x) is) in
    omega (arith, all, more)

pub room_for_one : (n most a : ℕ) (ws : List Write) (others : ℕ → Bool) → RiseFrom 0 ws → All (λ write. write.addr < n) ws
    → a < n → is_written ws a ≡ false → count_below n (also a (λ x. is_written ws x || others x)) ≤ most → length ws < most
room_for_one n most a ws others rise inside low off few =
    let all = count_writes n 0 ws rise inside in
    let one = count_also n a (is_written ws) low off in
    let more = count_more n (also a (is_written ws)) (also a (λ x. is_written ws x || others x))
    (λ x lt is. ⊎_elim (λ here. or_left (a == x) (is_written ws x || others x) here)
    (λ there. or_right (a == x) (is_written ws x || others x) (or_left (is_written ws x) (others x) there))
    (or_cases (a == x) (is_written ws x) is)) in
    omega (arith, all, one, more)

each_written : (ws : List Write) → All (λ write. is_written ws write.addr ≡ true) ws
each_written [] = All-nil (λ write. is_written [] write.addr ≡ true)
each_written (w ∷ ws) =
    All-cons (λ write. is_written (w ∷ ws) write.addr ≡ true) w ws
    (written_by w ws w.addr ∙ or_left (w.addr == w.addr) (is_written ws w.addr) (eq-eqb w.addr w.addr refl))
    (All-weaker (λ write. is_written ws write.addr ≡ true) (λ write. is_written (w ∷ ws) write.addr ≡ true)
    (λ v is. written_by w ws v.addr ∙ or_right (w.addr == v.addr) (is_written ws v.addr) is) ws (each_written ws))

-- each write is below a limit where all that is written is
pub writes_low : (n : ℕ) (ws : List Write) → ((x : ℕ) → is_written ws x ≡ true → x < n) → All (λ write. write.addr < n) ws
writes_low n ws low =
    All-weaker (λ write. is_written ws write.addr ≡ true) (λ write. write.addr < n) (λ write is. low write.addr is) ws (each_written ws)
