-- A read of a block that a leaf has to have gives it, or the sector is damaged.
use Rattle.std.proofs.Common.{
  ◌≡◌,
  ◌≢◌,
  ℕ,
  ◌+◌,
  ◌-◌,
  ◌≤◌,
  ◌==◌,
  ◌&&◌,
  Bool,
  true,
  false,
  cond,
  List,
  [],
  ◌∷◌,
  length,
  Some,
  None,
  is_none,
  refl,
  sym,
  ap,
  ◌∙◌,
  subst,
  inl,
  inr,
  arith,
}
use Rattle.bank_core.specs.Asks.{Flushes, ask_of}
use Rattle.bank_core.specs.Calls.{fault_of}
use Rattle.bank_core.specs.Disk.{
  Sector,
  Sectors,
  Nothing,
  Call,
  Read,
  Write,
  Flush,
  Admit,
  Eject,
  Noted,
  Answers,
  IsClean,
  as_found,
  hurt,
  effect,
  after_call,
  after_flush,
  replay,
  run,
  sectors_in,
  sector_of,
  covers,
}
use Rattle.bank_core.specs.Standing.{Untouched}
use Rattle.bank_core.proofs.Blocks.{block_sectors}
use Rattle.txg_history.specs.Events.{Calls, Clears}
use Rattle.txg_history.specs.Moves.{Mays}
use Rattle.txg_history.specs.Needs.{Keeps, Landed, Copied}
use Rattle.txg_history.specs.Pages.{Codec}
use Rattle.txg_history.specs.Pools.{Pool, after}
use Rattle.txg_history.specs.Records.{Cell}
use Rattle.mp_base.specs.declared.place.Key.{Key}
use Rattle.txg_history.specs.Reads.{IsKeptAt, heals, NoneHeals}
use Rattle.txg_history.specs.Survival.{Survives}
use Rattle.txg_history.proofs.Keeping.{held_keeps, noted_keeps}
use Rattle.txg_history.proofs.Landing.{untouched_landed, write_lands, flush_holds}
use Rattle.txg_history.proofs.Logging.{by_bool, true_not_false}
use Rattle.txg_history.proofs.RoundParts.{first_bytes}
use Rattle.txg_history.proofs.Sparing.{part_may}
use Rattle.txg_history.proofs.Turning.{flush_sparing}

pub kept_keeps : (c : Codec) (p : Pool) (d s : ℕ) (block : List ℕ) → Survives c p → p.member d ≡ true → IsKeptAt p d s block → Keeps (p.sectors d s) block
kept_keeps c p d s block sv is (inl n) = sv.cells d s block is n
kept_keeps c p d s block sv is (inr n) = sv.current d s block is n

-- an undamaged sector has its block, and nothing is on the way there
pub keeps_clean : (x : Sector) (block : List ℕ) → Keeps x block → x.damaged ≡ false → (x.stable ≡ block) × (x.pending ≡ Nothing)
keeps_clean x block (inl k) sound = k
keeps_clean x block (inr k) sound = true_not_false x.damaged k.0 sound

unhurt : (damage was : Bool) → cond damage true was ≡ false → was ≡ false
unhurt true was e = absurd (cc)
unhurt false was e = e

-- A read that answered, of a sector that is undamaged behind it, gives the block.
pub read_right : (c : Codec) (p : Pool) (noted : Noted) (d s : ℕ) (bytes block : List ℕ) → Survives c p → p.member d ≡ true → IsKeptAt p d s block
    → noted.call ≡ Read d s bytes None → length bytes ≡ 4096 → Answers (as_found noted p.sectors) noted.call
    → ((after (Calls noted) p).sectors d s).damaged ≡ false → bytes ≡ block
read_right c p noted d s bytes block sv is kept call long answers sound =
    let clean = keeps_clean (p.sectors d s) block (kept_keeps c p d s block sv is kept) (unhurt (noted.damage d s) (p.sectors d s).damaged still_sound) in
    sym (first_bytes 0 bytes long refl) ∙ (shown clean.1 ∙ clean.0)
  where
    still_sound : (hurt (noted.damage d s) (p.sectors d s)).damaged ≡ false
    still_sound = subst (λ call. (effect call d s (hurt (noted.damage d s) (p.sectors d s))).damaged ≡ false) call sound

    one : sectors_in bytes ≡ 1
    one = block_sectors bytes long

    there : s + 0 ≡ s
    there = omega arith

    shown : (p.sectors d s).pending ≡ Nothing → sector_of 0 bytes ≡ (p.sectors d s).stable
    shown still = (subst (Answers (as_found noted p.sectors)) call answers).1 0 (omega (arith, one))
        (subst (λ t. IsClean (as_found noted p.sectors d t)) (sym there) (record { still = still; sound = still_sound }))
        ∙ ap (λ t. (p.sectors d t).stable) there

-- So other bytes show the damage.
pub read_damage : (c : Codec) (p : Pool) (noted : Noted) (d s : ℕ) (bytes block : List ℕ) → Survives c p → p.member d ≡ true → IsKeptAt p d s block
    → noted.call ≡ Read d s bytes None → length bytes ≡ 4096 → Answers (as_found noted p.sectors) noted.call
    → bytes ≢ block → ((after (Calls noted) p).sectors d s).damaged ≡ true
read_damage c p noted d s bytes block sv is kept call long answers other = by_bool ((after (Calls noted) p).sectors d s).damaged (λ damaged. damaged)
    (λ sound. absurd (other (read_right c p noted d s bytes block sv is kept call long answers sound)))

pub kept_clean : (c : Codec) (p : Pool) (d s : ℕ) (block : List ℕ) → Survives c p → p.member d ≡ true → IsKeptAt p d s block → (p.sectors d s).damaged ≡ false
    → ((p.sectors d s).stable ≡ block) × ((p.sectors d s).pending ≡ Nothing)
kept_clean c p d s block sv is kept sound = keeps_clean (p.sectors d s) block (kept_keeps c p d s block sv is kept) sound

more_hurt : (damage was : Bool) → was ≡ true → cond damage true was ≡ true
more_hurt true was e = refl
more_hurt false was e = e

either_damaged : (t : Bool) (y x : Sector) → y.damaged ≡ x.damaged → x.damaged ≡ true → (cond t y x).damaged ≡ true
either_damaged true y x e d = e ∙ d
either_damaged false y x e d = d

unhealed : (t u : Bool) (y x : Sector) → t ≡ false → x.damaged ≡ true → (cond (t && u) y x).damaged ≡ true
unhealed true u y x off d = absurd (cc)
unhealed false u y x off d = d

call_damaged : (call : Call) (d s : ℕ) (x : Sector) → heals call d ≡ false → x.damaged ≡ true → (effect call d s x).damaged ≡ true
call_damaged (Read dev at bytes fault) d s x off e = e
call_damaged (Write dev at bytes fault) d s x off e = either_damaged ((dev == d) && covers at (sectors_in bytes) s) _ x refl e
call_damaged (Flush dev fault) d s x off e = unhealed (dev == d) (is_none fault) (after_flush x.pending x) x off e
call_damaged (Admit dev holds) d s x off e = by (dev == d) off
  where
    by : (t : Bool) → t ≡ false → (cond t (holds s) x).damaged ≡ true
    by true off = absurd (cc)
    by false off = e
call_damaged (Eject dev) d s x off e = e

-- Damage stays behind calls that heal nothing of the device.
pub stays_damaged : (made : List Noted) (d s : ℕ) (sectors : Sectors) → NoneHeals made d → (sectors d s).damaged ≡ true → (run made sectors d s).damaged ≡ true
stays_damaged made d s sectors none e = of made (sectors d s) none e
  where
    of : (made : List Noted) (x : Sector) → NoneHeals made d → x.damaged ≡ true → (replay made d s x).damaged ≡ true
    of [] x none e = e
    of (noted ∷ made) x none e = of made (after_call noted d s x) none.1
        (call_damaged noted.call d s (hurt (noted.damage d s) x) none.0 (more_hurt (noted.damage d s) x.damaged e))

-- A copy that answered Ok is there, and stays so behind calls that put nothing there.
way_or_held : (x : Sector) (block : List ℕ) → Landed x block → Copied x block
way_or_held x block (inl e) = inr e
way_or_held x block (inr h) = inl (held_keeps x block h)

pub copy_lands : (noted : Noted) (made : List Noted) (d s : ℕ) (block : List ℕ) (sectors : Sectors) → noted.call ≡ Write d s block None → length block ≡ 4096
    → Untouched made d s → Copied (run (noted ∷ made) sectors d s) block
copy_lands noted made d s block sectors call long u = way_or_held (run (noted ∷ made) sectors d s) block
    (untouched_landed made d s (after_call noted d s (sectors d s)) block u
    (write_lands d s block (noted ∷ []) (sectors d s) long (block_sectors block long) (first_bytes (s - s) block long (omega arith))
    (ap ask_of call, inl (ap fault_of call, refl))))

-- what was copied is kept behind a flush that answered Ok
copied_flushed : (noted : Noted) (d s : ℕ) (x : Sector) (block : List ℕ) → noted.call ≡ Flush d None → Copied x block → Keeps (after_call noted d s x) block
copied_flushed noted d s x block call (inl k) = subst (λ call. Keeps (effect call d s (hurt (noted.damage d s) x)) block) (sym call)
    (noted_keeps (record { call = Flush d None; damage = noted.damage }) d s x block tt (inl refl) k)
copied_flushed noted d s x block call (inr e) = held_keeps (after_call noted d s x) block
    (flush_holds d s block (noted ∷ []) x (ap ask_of call, inl (ap fault_of call, refl)) (inl e))

-- The end of a scan for one leaf: its flush, and then its log is cleared.
pub clear_may : (c : Codec) (p : Pool) (d : ℕ) (noted : Noted) → Survives c p → p.scan.running ≡ true → p.scan.eligible d ≡ true
    → ((k : Key) (cell : Cell) → p.reads.cells k ≡ Some cell → cell.birth ≤ p.scan.hi → p.scan.passed k ≡ true) → noted.call ≡ Flush d None
    → Mays c p (Calls noted ∷ Clears d ∷ [])
clear_may c p d noted sv running eligible all call = (
  (part_may c (Flushes d ∷ []) (noted ∷ []) None p (flush_sparing p d)
      (ap ask_of call, inl (ap fault_of call, refl))).0,
  (
    record {
      running = running;
      is_eligible = eligible;
      all = all;
      kept = λ s bytes is n. copied_flushed noted d s (p.sectors d s) bytes call (sv.scanned d s bytes is n);
    },
    tt,
  ),
)
