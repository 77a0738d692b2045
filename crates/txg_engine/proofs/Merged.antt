-- Two lists of writes that become one.
use Rattle.std.proofs.Common.{◌≡◌, ℕ, ◌+◌, ◌<◌, ◌≤◌, Bool, true, false, cond, eqb, ltb, List, [], ◌∷◌, ◌++◌, length}
use Rattle.std.proofs.Common.{Option, Some, None, refl, ap, sym, subst, ◌∙◌, ⊎_elim, arith, append_assoc}
use Rattle.std.proofs.lemmas.Bool.{cases_Bool, cases_order, eqb-true, eqb-false, ne_eqb, lt-ltb, le-ltb, cond-true, cond-false}
use Rattle.txg_engine.specs.declared.item.Item.{Item}
use Rattle.txg_engine.specs.declared.write.Write.{Write}
use Rattle.txg_engine.specs.Ending.{or_else, AreMerged}
use Rattle.txg_engine.specs.Frozen.{KeysRise}
use Rattle.txg_engine.specs.Items.{frozen_block}
use Rattle.txg_engine.specs.Merging.{block_addr, write_of, TakesNewer, TakesBoth, TakesBy, TakesNext}
use Rattle.txg_engine.specs.Writes.{RiseFrom, block_at}

-- the blocks of a group's keys, as writes
abbrev pub writes_of : List Item → List Write
writes_of [] = []
writes_of (item ∷ items) = cond (eqb item.key.level 0) (write_of item ∷ writes_of items) (writes_of items)

block_of_cons : (item : Item) (items : List Item) (a : ℕ) (b : Bool) → eqb item.key.level 0 ≡ b
    → frozen_block items a ≡ block_at (writes_of items) a
    → frozen_block (item ∷ items) a ≡ block_at (cond b (write_of item ∷ writes_of items) (writes_of items)) a
block_of_cons item items a true is same = rw (is, same) refl
block_of_cons item items a false is same = rw (is, same) refl

pub block_of_writes : (items : List Item) (a : ℕ) → frozen_block items a ≡ block_at (writes_of items) a
block_of_writes [] a = refl
block_of_writes (item ∷ items) a = block_of_cons item items a (eqb item.key.level 0) refl (block_of_writes items a)

-- behind a page there are no blocks
pub pages_last : (item : Item) (items : List Item) → KeysRise (item ∷ items) → 1 ≤ item.key.level
    → writes_of items ≡ []
pages_last item [] rise page = refl
pages_last item (next ∷ items) rise page =
    let level : 1 ≤ next.key.level = ⊎_elim (λ below. omega arith) (λ same. omega (arith, same.0)) rise.0 in
    cond-false (eqb next.key.level 0) _ _ (ne_eqb _ _ (λ e. omega arith)) ∙ pages_last next items rise.1 level

pub keys_tail : (item : Item) (items : List Item) → KeysRise (item ∷ items) → KeysRise items
keys_tail item [] rise = tt
keys_tail item (next ∷ items) rise = rise.1

-- a key is a block or a page, and its list of writes begins with it or is empty
begins : (item : Item) (items : List Item) → eqb item.key.level 0 ≡ true
    → writes_of (item ∷ items) ≡ write_of item ∷ writes_of items
begins item items is = cond-true (eqb item.key.level 0) (write_of item ∷ writes_of items) (writes_of items) is

page_level : (level : ℕ) → eqb level 0 ≡ false → 1 ≤ level
page_level level is =
    ⊎_elim (λ e. absurd (eqb-false level 0 is e)) (⊎_elim (λ l. omega arith) (λ l. omega arith)) (cases_order level 0)

is_empty : (item : Item) (items : List Item) → eqb item.key.level 0 ≡ false → KeysRise (item ∷ items)
    → writes_of (item ∷ items) ≡ []
is_empty item items is rise =
    cond-false (eqb item.key.level 0) (write_of item ∷ writes_of items) (writes_of items) is
    ∙ pages_last item items rise (page_level item.key.level is)

rise_cons : (low : ℕ) (item : Item) (items : List Item) → (item.key.level ≡ 0 → low ≤ item.key.index)
    → (item.key.level ≡ 0 → RiseFrom (item.key.index + 1) (writes_of items)) → KeysRise (item ∷ items)
    → RiseFrom low (writes_of (item ∷ items))
rise_cons low item items bound behind rise =
    ⊎_elim
    (λ is.
    let level = eqb-true item.key.level 0 is in
    subst (RiseFrom low) (sym (begins item items is)) (bound level, behind level))
    (λ is. subst (RiseFrom low) (sym (is_empty item items is rise)) tt)
    (cases_Bool (eqb item.key.level 0))

rise_behind : (item : Item) (items : List Item) → KeysRise (item ∷ items) → item.key.level ≡ 0
    → RiseFrom (item.key.index + 1) (writes_of items)
rise_behind item [] rise block = tt
rise_behind item (next ∷ items) rise block =
    rise_cons (item.key.index + 1) next items
    (λ e. ⊎_elim (λ below. omega arith) (λ same. omega (arith, same.1)) rise.0)
    (rise_behind next items rise.1) rise.1

pub keys_rise : (items : List Item) → KeysRise items → RiseFrom 0 (writes_of items)
keys_rise [] rise = tt
keys_rise (item ∷ items) rise = rise_cons 0 item items (λ e. omega arith) (rise_behind item items rise) rise

-- what stands in one list and another behind it
pub block_append : (xs ys : List Write) (a : ℕ) → block_at (xs ++ ys) a ≡ or_else (block_at xs a) (block_at ys a)
block_append [] ys a = refl
block_append (x ∷ xs) ys a =
    ⊎_elim (λ is. rw is refl) (λ is. rw is (block_append xs ys a)) (cases_Bool (eqb x.addr a))

or_else_assoc : {A : Type 0} (x y z : Option A) → or_else (or_else x y) z ≡ or_else x (or_else y z)
or_else_assoc (Some x) y z = refl
or_else_assoc None y z = refl

pub none_below : (low a : ℕ) (ws : List Write) → RiseFrom low ws → a < low → block_at ws a ≡ None
none_below low a [] rise below = refl
none_below low a (w ∷ ws) rise below =
    cond-false (eqb w.addr a) _ _ (ne_eqb _ _ (λ e. omega (arith, rise.0)))
    ∙ none_below (w.addr + 1) a ws rise.1 (omega (arith, rise.0))

pub rise_tail : (low : ℕ) (out : List Write) (w : Write) (ws : List Write) → RiseFrom low (out ++ w ∷ ws)
    → RiseFrom (w.addr + 1) ws
rise_tail low [] w ws rise = rise.1
rise_tail low (o ∷ out) w ws rise = rise_tail (o.addr + 1) out w ws rise.1

rise_other : (low : ℕ) (out : List Write) (w : Write) (xs ys : List Write) → RiseFrom low (out ++ w ∷ xs)
    → RiseFrom (w.addr + 1) ys → RiseFrom low (out ++ w ∷ ys)
rise_other low [] w xs ys rise behind = (rise.0, behind)
rise_other low (o ∷ out) w xs ys rise behind = (rise.0, rise_other (o.addr + 1) out w xs ys rise.1 behind)

rise_lower : (low high : ℕ) (ws : List Write) → low ≤ high → RiseFrom high ws → RiseFrom low ws
rise_lower low high [] below rise = tt
rise_lower low high (w ∷ ws) below rise = (omega (arith, rise.0), rise.1)

-- What stands in the list that is made and in those that are left reads as what stood in the two at first.
pub record IsMerging (out older newer old new : List Write) : Type 0 where
  pub kept : (a : ℕ) → or_else (block_at out a) (or_else (block_at newer a) (block_at older a))
      ≡ or_else (block_at new a) (block_at old a)
  pub newer_rise : RiseFrom 0 (out ++ newer)
  pub older_rise : RiseFrom 0 (out ++ older)

-- The write of the least address leaves the older list, the newer one, or both for the newer write.
pub data TakesLeast (older newer older' newer' : List Write) (w : Write) : Type 0 where
  Older : older ≡ w ∷ older' → newer' ≡ newer → RiseFrom (w.addr + 1) newer → TakesLeast older newer older' newer' w
  Newer : newer ≡ w ∷ newer' → older' ≡ older → RiseFrom (w.addr + 1) older → TakesLeast older newer older' newer' w
  Both : (v : Write) → newer ≡ w ∷ newer' → older ≡ v ∷ older' → v.addr ≡ w.addr
      → TakesLeast older newer older' newer' w

module _ (x : List ℕ) (n o : Option (List ℕ)) where
  older_rest : (b : Bool) → (b ≡ true → n ≡ None)
      → or_else (cond b (Some x) None) (or_else n o) ≡ or_else n (cond b (Some x) o)
  older_rest true none = rw (none refl) refl
  older_rest false none = refl

  newer_rest : (b : Bool) → or_else (cond b (Some x) None) (or_else n o) ≡ or_else (cond b (Some x) n) o
  newer_rest true = refl
  newer_rest false = refl

  both_rest : (y : List ℕ) (b : Bool)
      → or_else (cond b (Some x) None) (or_else n o) ≡ or_else (cond b (Some x) n) (cond b (Some y) o)
  both_rest y true = refl
  both_rest y false = refl

module _ (older newer older' newer' : List Write) (w : Write) where
  same_rest : TakesLeast older newer older' newer' w → (a : ℕ)
      → or_else (block_at (w ∷ []) a) (or_else (block_at newer' a) (block_at older' a))
      ≡ or_else (block_at newer a) (block_at older a)
  same_rest (Older is same behind) a =
      rw (is, same) (older_rest w.block (block_at newer a) (block_at older' a) (eqb w.addr a)
      (λ here. none_below (w.addr + 1) a newer behind (omega (arith, eqb-true w.addr a here))))
  same_rest (Newer is same behind) a =
      rw (is, same) (newer_rest w.block (block_at newer' a) (block_at older a) (eqb w.addr a))
  same_rest (Both v is both one) a =
      rw (is, both, one) (both_rest w.block (block_at newer' a) (block_at older' a) v.block (eqb w.addr a))

  module _ (out old new : List Write) (m : IsMerging out older newer old new) where
    newer_rises : TakesLeast older newer older' newer' w → RiseFrom 0 (out ++ w ∷ newer')
    newer_rises (Older is same behind) =
        rise_other 0 out w older' newer' (subst (λ ws. RiseFrom 0 (out ++ ws)) is m.older_rise)
        (subst (RiseFrom (w.addr + 1)) (sym same) behind)
    newer_rises (Newer is same behind) = subst (λ ws. RiseFrom 0 (out ++ ws)) is m.newer_rise
    newer_rises (Both v is both one) = subst (λ ws. RiseFrom 0 (out ++ ws)) is m.newer_rise

    older_rises : TakesLeast older newer older' newer' w → RiseFrom 0 (out ++ w ∷ older')
    older_rises (Older is same behind) = subst (λ ws. RiseFrom 0 (out ++ ws)) is m.older_rise
    older_rises (Newer is same behind) =
        rise_other 0 out w newer' older' (subst (λ ws. RiseFrom 0 (out ++ ws)) is m.newer_rise)
        (subst (RiseFrom (w.addr + 1)) (sym same) behind)
    older_rises (Both v is both one) =
        let tail = rise_tail 0 out v older' (subst (λ ws. RiseFrom 0 (out ++ ws)) both m.older_rise) in
        rise_other 0 out w newer' older' (subst (λ ws. RiseFrom 0 (out ++ ws)) is m.newer_rise)
        (subst (λ n. RiseFrom (n + 1) older') one tail)

    -- one write more is merged
    pub merging_more : TakesLeast older newer older' newer' w → IsMerging (out ++ w ∷ []) older' newer' old new
    merging_more least = record {
      kept = λ a. ap (λ b. or_else b (or_else (block_at newer' a) (block_at older' a))) (block_append out (w ∷ []) a)
          ∙ or_else_assoc (block_at out a) (block_at (w ∷ []) a) (or_else (block_at newer' a) (block_at older' a))
          ∙ ap (or_else (block_at out a)) (same_rest least a) ∙ m.kept a;
      newer_rise = subst (RiseFrom 0) (sym (append_assoc out (w ∷ []) newer')) (newer_rises least);
      older_rise = subst (RiseFrom 0) (sym (append_assoc out (w ∷ []) older')) (older_rises least);
    }

-- What one step takes: the write of the least address, and each step takes one key or write at least.
pub record Steps (older older' : List Item) (newer newer' : List Write) (w : Write) : Type 0 where
  pub least : TakesLeast (writes_of older) newer (writes_of older') newer' w
  pub rise : KeysRise older'
  pub less : length older' + length newer' + 1 ≤ length older + length newer

page_ends : (item : Item) (items : List Item) → block_addr item ≡ None → KeysRise (item ∷ items)
    → writes_of (item ∷ items) ≡ []
page_ends item items none rise =
    ⊎_elim
    (λ is.
    let some : block_addr item ≡ Some item.key.index = cond-true (eqb item.key.level 0) _ _ is in
    absurd cc)
    (λ is. is_empty item items is rise)
    (cases_Bool (eqb item.key.level 0))

-- a block with its address leads its list
record Leads (item : Item) (items : List Item) (old : ℕ) : Type 0 where
  level : item.key.level ≡ 0
  addr : item.key.index ≡ old
  leads : writes_of (item ∷ items) ≡ write_of item ∷ writes_of items

block_leads : (item : Item) (items : List Item) (old : ℕ) → block_addr item ≡ Some old → Leads item items old
block_leads item items old some =
    ⊎_elim
    (λ is.
    let this : block_addr item ≡ Some item.key.index = cond-true (eqb item.key.level 0) _ _ is in
    record { level = eqb-true item.key.level 0 is; addr = cc; leads = begins item items is })
    (λ is. let none : block_addr item ≡ None = cond-false (eqb item.key.level 0) _ _ is in absurd cc)
    (cases_Bool (eqb item.key.level 0))

module _ (item : Item) (items : List Item) (write : Write) (writes : List Write)
    (older' : List Item) (newer' : List Write) (w : Write) (old : ℕ)
    (rise : KeysRise (item ∷ items)) (newer_rise : RiseFrom (write.addr + 1) writes)
    (leads : Leads item items old) where
  abbrev Taken : Type 0
  Taken = TakesBoth old item items write writes older' newer' (Some w)

  abbrev Stepped : Type 0
  Stepped = Steps (item ∷ items) older' (write ∷ writes) newer' w

  takes_less : old < write.addr → Taken → Stepped
  takes_less below takes =
      let first : ltb old write.addr ≡ true = lt-ltb old write.addr below in
      let second : ltb write.addr old ≡ false = le-ltb write.addr old (omega arith) in
      let some : Some w ≡ Some (write_of item) = takes.0 ∙ cond-true _ _ _ first in
      let is : w ≡ write_of item = cc in
      let rest : older' ≡ items = takes.1 ∙ cond-false _ _ _ second in
      let same : newer' ≡ write ∷ writes = takes.2 ∙ cond-true _ _ _ first in
      rw (is, rest, same) (record {
        least = Older leads.leads refl (omega (arith, leads.addr), newer_rise);
        rise = keys_tail item items rise;
        less = omega arith;
      })

  takes_same : old ≡ write.addr → Taken → Stepped
  takes_same same_addr takes =
      let first : ltb old write.addr ≡ false = le-ltb old write.addr (omega arith) in
      let second : ltb write.addr old ≡ false = le-ltb write.addr old (omega arith) in
      let some : Some w ≡ Some write = takes.0 ∙ cond-false _ _ _ first in
      let is : w ≡ write = cc in
      let rest : older' ≡ items = takes.1 ∙ cond-false _ _ _ second in
      let same : newer' ≡ writes = takes.2 ∙ cond-false _ _ _ first in
      rw (is, rest, same) (record {
        least = Both (write_of item) refl leads.leads (leads.addr ∙ same_addr);
        rise = keys_tail item items rise;
        less = omega arith;
      })

  takes_more : write.addr < old → Taken → Stepped
  takes_more above takes =
      let first : ltb old write.addr ≡ false = le-ltb old write.addr (omega arith) in
      let second : ltb write.addr old ≡ true = lt-ltb write.addr old above in
      let some : Some w ≡ Some write = takes.0 ∙ cond-false _ _ _ first in
      let is : w ≡ write = cc in
      let rest : older' ≡ item ∷ items = takes.1 ∙ cond-true _ _ _ second in
      let same : newer' ≡ writes = takes.2 ∙ cond-false _ _ _ first in
      rw (is, rest, same) (record {
        least = Newer refl refl (subst (RiseFrom (write.addr + 1)) (sym leads.leads)
            (omega (arith, leads.addr), rise_behind item items rise leads.level));
        rise = rise;
        less = omega arith;
      })

-- the newer list gives its first write
newer_steps : (older older' : List Item) (newer newer' : List Write) (w : Write) → KeysRise older → older' ≡ older
    → writes_of older ≡ [] → TakesNewer newer newer' (Some w) → Steps older older' newer newer' w
newer_steps older older' newer newer' w rise same none takes =
    rw (same, takes.some w refl) (record {
      least = Newer refl refl (subst (RiseFrom (w.addr + 1)) (sym none) tt);
      rise = rise;
      less = omega arith;
    })

steps_by : (item : Item) (items : List Item) (newer : List Write) (older' : List Item) (newer' : List Write)
    (w : Write) (addr : Option ℕ) → block_addr item ≡ addr → KeysRise (item ∷ items) → RiseFrom 0 newer
    → TakesBy addr item items newer older' newer' (Some w) → Steps (item ∷ items) older' newer newer' w
steps_by item items newer older' newer' w None is rise newer_rise takes =
    newer_steps (item ∷ items) older' newer newer' w rise takes.0 (page_ends item items is rise) takes.1
steps_by item items [] older' newer' w (Some old) is rise newer_rise takes =
    let first : w ≡ write_of item = cc in
    rw (first, takes.0, takes.1) (record {
      least = Older ((block_leads item items old is).leads) refl tt;
      rise = keys_tail item items rise;
      less = omega arith;
    })
steps_by item items (write ∷ writes) older' newer' w (Some old) is rise newer_rise takes =
    let leads = block_leads item items old is in
    ⊎_elim (λ e. takes_same item items write writes older' newer' w old rise newer_rise.1 leads e takes)
    (⊎_elim (λ l. takes_less item items write writes older' newer' w old rise newer_rise.1 leads l takes)
    (λ l. takes_more item items write writes older' newer' w old rise newer_rise.1 leads l takes))
    (cases_order old write.addr)

pub next_steps : (older older' : List Item) (newer newer' : List Write) (w : Write) → KeysRise older
    → RiseFrom 0 newer → TakesNext older newer older' newer' (Some w) → Steps older older' newer newer' w
next_steps [] older' newer newer' w rise newer_rise takes =
    newer_steps [] older' newer newer' w rise takes.0 refl takes.1
next_steps (item ∷ items) older' newer newer' w rise newer_rise takes =
    steps_by item items newer older' newer' w (block_addr item) refl rise newer_rise takes

-- nothing more is taken: both lists have no write
ends_by : (item : Item) (items : List Item) (newer : List Write) (older' : List Item) (newer' : List Write)
    (addr : Option ℕ) → block_addr item ≡ addr → KeysRise (item ∷ items)
    → TakesBy addr item items newer older' newer' None → (writes_of (item ∷ items) ≡ []) × (newer ≡ [])
ends_by item items newer older' newer' None is rise takes = (page_ends item items is rise, (takes.1.none refl).0)
ends_by item items [] older' newer' (Some old) is rise takes = absurd cc
ends_by item items (write ∷ writes) older' newer' (Some old) is rise takes =
    ⊎_elim (λ l. let some : None ≡ Some (write_of item) = takes.0 ∙ cond-true _ _ _ l in absurd cc)
    (λ l. let some : None ≡ Some write = takes.0 ∙ cond-false _ _ _ l in absurd cc) (cases_Bool (ltb old write.addr))

pub next_ends : (older older' : List Item) (newer newer' : List Write) → KeysRise older
    → TakesNext older newer older' newer' None → (writes_of older ≡ []) × (newer ≡ [])
next_ends [] older' newer newer' rise takes = (refl, (takes.1.none refl).0)
next_ends (item ∷ items) older' newer newer' rise takes =
    ends_by item items newer older' newer' (block_addr item) refl rise takes

pub rise_back : (low : ℕ) (out ws : List Write) → RiseFrom low (out ++ ws) → RiseFrom 0 ws
rise_back low [] ws rise = rise_lower 0 low ws (omega arith) rise
rise_back low (o ∷ out) ws rise = rise_back (o.addr + 1) out ws rise.1

or_else_none : {A : Type 0} (x : Option A) → or_else x None ≡ x
or_else_none (Some x) = refl
or_else_none None = refl

-- all writes are merged
pub merged_all : (out : List Write) (items : List Item) (newer : List Write)
    → IsMerging out [] [] (writes_of items) newer → AreMerged items newer out
merged_all out items newer m a =
    sym (or_else_none (block_at out a)) ∙ m.kept a ∙ ap (or_else (block_at newer a)) (sym (block_of_writes items a))
