-- Lines that put a leaf in or take one out, and which devices lines take.
use Rattle.std.proofs.Common.{◌≡◌, ◌⊎◌, inl, inr, ⊎_elim, ℕ, ◌+◌, ◌==◌, nat_lt, Bool, true, false, List, [], ◌∷◌, ◌++◌, Option, Some, None, refl, sym, ap, ◌∙◌, subst, append-nil, append_assoc}
use Rattle.std.specs.List.{AllByRecursion}
use Rattle.mp_base.specs.declared.number.Guid.{Guid}
use Rattle.bank_core.specs.declared.bank.Fault.{Fault}
use Rattle.bank_core.specs.Asks.{IsPart}
use Rattle.bank_core.specs.Disk.{Noted}
use Rattle.label_store.specs.Layout.{ring_offset}
use Rattle.label_store.specs.Plans.{zero_ring}
use Rattle.txg_history.specs.Pages.{Codec}
use Rattle.txg_history.specs.Pools.{Pool}
use Rattle.txg_history.proofs.Logging.{by_bool, same_device, true_not_false}
use Rattle.pool_moves.specs.AwayRows.{is_spare, leaf_named}
use Rattle.pool_moves.specs.FreezeRow.{is_dev}
use Rattle.pool_moves.specs.Leaves.{LeafSeen, Seat}
use Rattle.pool_moves.specs.LineRows.{TurnReply, Committed, Suspended}
use Rattle.pool_moves.specs.Moves.{Move, Makes, Lose, steps}
use Rattle.pool_moves.specs.ReadRow.{made_in}
use Rattle.pool_moves.specs.Refusing.{FreezeRefusal}
use Rattle.pool_moves.specs.ScanRows.{starts_scan}
use Rattle.pool_moves.specs.States.{PoolState}
use Rattle.pool_moves.specs.TreeRows.{Graft, TreeRefusal, graft_refusal, new_number, comes_in, graft_first, graft_moves, GraftReply, Grafted, DeviceFault, GraftEnds, GraftOn, GraftAt, GraftFor, RowGraft, goes_out, is_there, clean_plan, IsCleaned, DetachReply, Detached, DetachBehind, CommitsWithout, DetachFor, DetachLeaf, DetachBy}
use Rattle.pool_moves.specs.Walking.{as_moves}
use Rattle.pool_runs.specs.Acts.{Act, does, calls_along, pool_along}
use Rattle.pool_runs.specs.Devices.{number_in, size_in}
use Rattle.pool_runs.specs.HostRows.{graft_acts, ByGraft, GraftUnless, GraftOnto, GraftIf, ByDetach, GraftLine, DetachLine, OnPool, RowOf, HostRow}
use Rattle.pool_runs.specs.Hosts.{Host, holder, named}
use Rattle.pool_runs.specs.Lines.{Asked, Asks_graft, Asks_detach, Asks_create, Reply, To_graft, To_detach, Entry}
use Rattle.pool_runs.specs.Taking.{HasWriteTo, IsGraftedOn, IsDetachedFrom, IsTakenBy}
use Rattle.pool_runs.proofs.Answering.{does_calls}
use Rattle.pool_runs.proofs.GroupMoves.{all_calls, all_widens, all_commits}
use Rattle.pool_runs.proofs.Members.{Held, KeepsIt, KeepsMembers, kept_kind, AllKeep, Keep, it_keeps, acts_held, write_asked, stamp_wrote, create_keeps, row_keeps, none_keeps, rewrite_front}
use Rattle.pool_moves.proofs.Tests.{same_guid, other_back}

-- A leaf that is put in.
abbrev KeepAll : Held → (g : ℕ) → List Move → Type 0
KeepAll x g vs = AllByRecursion (λ v. (x.pool == g) ≡ true → KeepsIt x v) vs

all_does : (x : Held) (g : ℕ) (vs : List Move) → KeepAll x g vs → Keep x (does g vs)
all_does x g [] all = tt
all_does x g (v ∷ vs) all = (all.0, all_does x g vs all.1)

all_more : (x : Held) (g : ℕ) (vs ws : List Move) → KeepAll x g vs → KeepAll x g ws → KeepAll x g (vs ++ ws)
all_more x g [] ws a b = b
all_more x g (v ∷ vs) ws a b = (a.0, all_more x g vs ws a.1 b)

all_plain : (x : Held) (g : ℕ) (vs : List Move) → AllKeep vs → KeepAll x g vs
all_plain x g [] all = tt
all_plain x g (v ∷ vs) all = ((λ mine. it_keeps x v all.0), all_plain x g vs all.1)

-- Writes among the calls of moves.
wrote_made : (d : ℕ) (made : List Noted) (vs : List Move) → HasWriteTo d made → HasWriteTo d (made_in (as_moves made ++ vs))
wrote_made d [] vs wrote = absurd wrote
wrote_made d (noted ∷ made) vs (inl here) = inl here
wrote_made d (noted ∷ made) vs (inr more) = inr (wrote_made d made vs more)

wrote_later : (d : ℕ) (vs ws : List Move) → HasWriteTo d (made_in ws) → HasWriteTo d (made_in (vs ++ ws))
wrote_later d [] ws wrote = wrote
wrote_later d (Makes noted ∷ vs) ws wrote = inr (wrote_later d vs ws wrote)
wrote_later d (v ∷ vs) ws wrote = wrote_later d vs ws wrote

-- what a graft makes is of no other device, and, in its pool, of no other number; and it writes to the device
record Begins (x : Held) (g e : ℕ) (m : Guid) (vs : List Move) (reply : GraftReply) : Type 0 where
  begun : (reply ≡ Grafted) ⊎ (reply ≡ DeviceFault)
  keeps : (e == x.d) ≡ false → (reply ≡ Grafted → (x.pool == g) ≡ true → (x.guid.0 == m.0) ≡ false) → KeepAll x g vs
  wrote : HasWriteTo e (made_in vs)

ends_begin : (outcome : Option Fault) (x : Held) (g : ℕ) (graft : Graft) (s : PoolState) (name : List ℕ) (leaf : LeafSeen) (new : List ℕ) (e : ℕ) (made : List Noted) (vs : List Move) (reply : GraftReply)
    → HasWriteTo e made → GraftEnds outcome graft s name leaf new e made vs reply → Begins x g e (new_number graft s) vs reply
ends_begin (Some fault) x g graft s name leaf new e made vs reply wrote row = record {
  begun = inr row.1;
  keeps = λ away other. subst (KeepAll x g) (sym row.0) ((λ mine. away), all_plain x g (as_moves made) (all_calls KeepsMembers kept_kind made));
  wrote = subst (λ l. HasWriteTo e (made_in l)) (sym row.0) (subst (λ l. HasWriteTo e (made_in (Lose e ∷ l))) (append-nil (as_moves made)) (wrote_made e made [] wrote));
}
ends_begin None x g graft s name leaf new e made vs reply wrote row = let comes = row.0 in record {
  begun = inl row.1;
  keeps = λ away other. subst (KeepAll x g) (sym comes.moves)
      (all_more x g (graft_moves graft s name leaf new e made) comes.widens
      (all_more x g (graft_first graft s name leaf new e made) (starts_scan (steps (graft_first graft s name leaf new e made) s) ∷ []) (
        (λ mine. away),
        all_more x g (as_moves made) (comes_in graft s name leaf new e) (all_plain x g (as_moves made) (all_calls KeepsMembers kept_kind made))
            ((λ mine. tt), ((λ mine. (away, other row.1 mine)), ((λ mine. tt), tt))),
      ) ((λ mine. tt), tt))
      (all_plain x g comes.widens (all_widens KeepsMembers kept_kind (steps (graft_moves graft s name leaf new e made) s).core comes.widens comes.are)));
  wrote = subst (λ l. HasWriteTo e (made_in l)) (sym (comes.moves
      ∙ (append_assoc (graft_first graft s name leaf new e made) (starts_scan (steps (graft_first graft s name leaf new e made) s) ∷ []) comes.widens
      ∙ ap (λ l. Lose e ∷ l) (append_assoc (as_moves made) (comes_in graft s name leaf new e) (starts_scan (steps (graft_first graft s name leaf new e made) s) ∷ comes.widens)))))
      (wrote_made e made (comes_in graft s name leaf new e ++ (starts_scan (steps (graft_first graft s name leaf new e made) s) ∷ comes.widens)) wrote);
}

graft_begins : (x : Held) (g : ℕ) (size : ℕ → ℕ) (graft : Graft) (s : PoolState) (name new : List ℕ) (e : ℕ) (vs : List Move) (reply : GraftReply) → RowGraft size graft s name new e vs reply
    → (vs ≡ []) ⊎ Begins x g e (new_number graft s) vs reply
graft_begins x g size graft s name new e vs reply row = for (graft_refusal graft s name (leaf_named name s.core.leaves)) row
  where
    on : (small : Bool) (leaf : LeafSeen) → GraftOn small size graft s name leaf new e vs reply → (vs ≡ []) ⊎ Begins x g e (new_number graft s) vs reply
    on true leaf row = inl row.0
    on false leaf row = inr (ends_begin row.outcome x g graft s name leaf new e row.made vs reply (stamp_wrote e (size e) s.core.pool (new_number graft s) row.made row.outcome row.calls) row.ends)

    at : (found : Option LeafSeen) → GraftAt found size graft s name new e vs reply → (vs ≡ []) ⊎ Begins x g e (new_number graft s) vs reply
    at None row = absurd row
    at (Some leaf) row = on (nat_lt (size e) (s.core.room leaf.top + 256)) leaf row

    for : (refusal : Option TreeRefusal) → GraftFor refusal size graft s name new e vs reply → (vs ≡ []) ⊎ Begins x g e (new_number graft s) vs reply
    for (Some refusal) row = inl row.0
    for None row = at (leaf_named name s.core.leaves) row

graft_acts_keep : (x : Held) (g e : ℕ) (vs : List Move) → (e == x.d) ≡ false → KeepAll x g vs → Keep x (graft_acts g e vs)
graft_acts_keep x g e [] away all = tt
graft_acts_keep x g e (v ∷ vs) away all = (away, all_does x g (v ∷ vs) all)

pub graft_calls : (g d : ℕ) (vs : List Move) → calls_along (graft_acts g d vs) ≡ made_in vs
graft_calls g d [] = refl
graft_calls g d (v ∷ vs) = does_calls g (v ∷ vs)

graft_keeps : (h : Host) (e : Entry) (p : Pool) (d : ℕ) (graft : Graft) (name leaf new : List ℕ) (s : PoolState) → e.asked ≡ Asks_graft graft name leaf new → named name h.pools ≡ Some s
    → GraftLine h graft leaf new s e.acts e.reply → Keep (record { pool = p.pool.0; d = d; guid = p.guid d }) e.acts ⊎ IsGraftedOn p h e d
graft_keeps h e p d graft name leaf new s asked stands row = refused (graft_refusal graft s leaf (leaf_named leaf s.core.leaves)) row
  where
    x : Held
    x = record { pool = p.pool.0; d = d; guid = p.guid d }

    g : ℕ
    g = s.core.pool.0

    by : (k : ℕ) → number_in new h.table ≡ Some k → (r : GraftReply) → e.reply ≡ To_graft r → ByGraft h s graft leaf new k r e.acts → Keep x e.acts ⊎ IsGraftedOn p h e d
    by k here r reply line = of (graft_begins x g (size_in h.table) graft s leaf new k line.moves r line.row)
      where
        taken : (begun : (r ≡ Grafted) ⊎ (r ≡ DeviceFault)) → ((number_in new h.table ≡ Some d) × HasWriteTo d (calls_along e.acts)) ⊎ ((r ≡ Grafted) × (s.core.pool.0 ≡ p.pool.0) × (p.guid d ≡ new_number graft s)) → IsGraftedOn p h e d
        taken begun why = record { graft = graft; name = name; leaf = leaf; new = new; asked = asked; s = s; is_open = stands; answer = r; reply = reply; begun = begun; why = why }

        wrote : Begins x g k (new_number graft s) line.moves r → k ≡ d → HasWriteTo d (calls_along e.acts)
        wrote begins same = subst (λ calls. HasWriteTo d calls) (sym (ap calls_along line.are ∙ graft_calls s.core.pool.0 k line.moves)) (subst (λ x. HasWriteTo x (made_in line.moves)) same begins.wrote)

        stays : Begins x g k (new_number graft s) line.moves r → (k == d) ≡ false → Keep x e.acts ⊎ IsGraftedOn p h e d
        stays begins away = by_bool (p.pool.0 == g) (λ mine. by_bool ((p.guid d).0 == (new_number graft s).0)
            (λ same. ⊎_elim
            (λ came. inr (taken begins.begun (inr (came, sym (same_device p.pool.0 g mine), same_guid (p.guid d) (new_number graft s) same))))
            (λ failed. inl (kept (λ came ours. absurd (not_both came failed)))) begins.begun)
            (λ other. inl (kept (λ came ours. other))))
            (λ off. inl (kept (λ came ours. true_not_false (p.pool.0 == g) ours off)))
          where
            kept : (r ≡ Grafted → (p.pool.0 == g) ≡ true → ((p.guid d).0 == (new_number graft s).0) ≡ false) → Keep x e.acts
            kept other = subst (Keep x) (sym line.are) (graft_acts_keep x g k line.moves away (begins.keeps away other))

            not_both : r ≡ Grafted → r ≡ DeviceFault → ⊥
            not_both came failed = let no : Grafted ≡ DeviceFault = sym came ∙ failed in cc

        of : (line.moves ≡ []) ⊎ Begins x g k (new_number graft s) line.moves r → Keep x e.acts ⊎ IsGraftedOn p h e d
        of (inl none) = inl (subst (Keep x) (sym (line.are ∙ ap (graft_acts g k) none)) tt)
        of (inr begins) = by_bool (k == d) (λ same. inr (taken begins.begun (inl (here ∙ ap Some (same_device k d same), wrote begins (same_device k d same))))) (λ away. stays begins away)

    unless : (k : ℕ) → number_in new h.table ≡ Some k → (found : Option PoolState) → GraftUnless found h s graft leaf new k e.acts e.reply → Keep x e.acts ⊎ IsGraftedOn p h e d
    unless k here (Some u) row = inl (subst (Keep x) (sym row.0) tt)
    unless k here None row = by k here row.0 row.1 row.2

    onto : (number : Option ℕ) → number_in new h.table ≡ number → GraftOnto number h s graft leaf new e.acts e.reply → Keep x e.acts ⊎ IsGraftedOn p h e d
    onto None here row = inl (subst (Keep x) (sym row.0) tt)
    onto (Some k) here row = unless k here (holder new k h.pools) row

    refused : (refusal : Option TreeRefusal) → GraftIf refusal h s graft leaf new e.acts e.reply → Keep x e.acts ⊎ IsGraftedOn p h e d
    refused (Some refusal) row = inl (subst (Keep x) (sym row.0) tt)
    refused None row = onto (number_in new h.table) refl row

-- A leaf that is taken out.
cleaned_keeps : (there : Bool) (dev : Option ℕ) (spare : Bool) (size : ℕ → ℕ) (x : Held) (g : ℕ) (vs : List Move) → is_dev x.d dev ≡ false → IsCleaned there dev spare size vs → KeepAll x g vs
cleaned_keeps true (Some k) spare size x g vs away row = subst (KeepAll x g) (sym row.3) (
  (λ mine. let back : (k == x.d) ≡ false = other_back x.d k away in back),
  all_plain x g (as_moves row.0) (all_calls KeepsMembers kept_kind row.0),
)
cleaned_keeps true None spare size x g vs away row = subst (KeepAll x g) (sym row) tt
cleaned_keeps false dev spare size x g vs away row = subst (KeepAll x g) (sym row) tt

-- a cleaning writes to its device first
clean_wrote : (spare : Bool) (d size : ℕ) (made : List Noted) (outcome : Option Fault) → IsPart (clean_plan spare d size) made outcome → HasWriteTo d made
clean_wrote true d size [] outcome part = absurd part
clean_wrote true d size (noted ∷ made) outcome part = inl (write_asked d (0 + ring_offset) zero_ring noted.call part.0)
clean_wrote false d size [] outcome part = absurd part
clean_wrote false d size (noted ∷ made) outcome part = inl (write_asked d (0 + ring_offset) zero_ring noted.call part.0)

-- either the device is kept, or it is the leaf's, which goes and is written to
cleans : (there : Bool) (dev : Option ℕ) (spare : Bool) (size : ℕ → ℕ) (x : Held) (g : ℕ) (vs : List Move) → IsCleaned there dev spare size vs
    → KeepAll x g vs ⊎ ((is_dev x.d dev ≡ true) × HasWriteTo x.d (made_in vs))
cleans true (Some k) spare size x g vs row = by_bool (x.d == k)
    (λ here. inr (
      here,
      subst (λ l. HasWriteTo x.d (made_in l)) (sym row.3) (subst (λ l. HasWriteTo x.d (made_in (Lose k ∷ l))) (append-nil (as_moves row.0))
          (wrote_made x.d row.0 [] (subst (λ d. HasWriteTo d row.0) (sym (same_device x.d k here)) (clean_wrote spare k (size k) row.0 row.1 row.2)))),
    )) (λ away. inl (cleaned_keeps true (Some k) spare size x g vs away row))
cleans true None spare size x g vs row = inl (cleaned_keeps true None spare size x g vs refl row)
cleans false dev spare size x g vs row = inl (subst (KeepAll x g) (sym row) tt)

-- the leaf's own device goes, and the pool was committed without it
record GoesAway (x : Held) (at : LeafSeen) (vs : List Move) (reply : DetachReply) : Type 0 where
  here : is_dev x.d at.dev ≡ true
  n : ℕ
  says : reply ≡ Detached n
  wrote : HasWriteTo x.d (made_in vs)

behind_keeps : (turn : TurnReply) (size : ℕ → ℕ) (s : PoolState) (name : List ℕ) (at : LeafSeen) (seat : Seat) (x : Held) (g : ℕ) (vs : List Move) (reply : DetachReply)
    → DetachBehind turn size s name at seat vs reply → KeepAll x g vs ⊎ GoesAway x at vs reply
behind_keeps (Committed number) size s name at seat x g vs reply row = ⊎_elim (λ keeps. inl keeps) (λ goes. inr (record { here = goes.0; n = number; says = row.1; wrote = goes.1 }))
    (cleans (is_there at.own.mode) at.dev (is_spare s at) size x g vs row.0)
behind_keeps (Suspended group top faults) size s name at seat x g vs reply row = inl (subst (KeepAll x g) (sym row.0) ((λ mine. tt), ((λ mine. tt), tt)))
behind_keeps turn size s name at seat x g vs reply row = absurd row

without_keeps : (c : Codec) (size : ℕ → ℕ) (s : PoolState) (name : List ℕ) (at : LeafSeen) (seat : Seat) (x : Held) (g : ℕ) (vs : List Move) (reply : DetachReply)
    → CommitsWithout c size s name at seat vs reply → KeepAll x g vs ⊎ GoesAway x at vs reply
without_keeps c size s name at seat x g vs reply row = ⊎_elim
    (λ keeps. inl (subst (KeepAll x g) (sym row.moves) (
      (λ mine. tt),
      (
        (λ mine. tt),
        all_more x g row.part row.rest
            (all_plain x g row.part (all_commits KeepsMembers kept_kind (λ cells board. tt) c size (steps (goes_out s name at) s) row.part row.turn (λ bad. tt) row.commit)) keeps,
      ),
    )))
    (λ goes. inr (record {
      here = goes.here;
      n = goes.n;
      says = goes.says;
      wrote = subst (λ l. HasWriteTo x.d (made_in l)) (sym row.moves) (wrote_later x.d (goes_out s name at) (row.part ++ row.rest) (wrote_later x.d row.part row.rest goes.wrote));
    })) (behind_keeps row.turn size s name at seat x g row.rest reply row.behind)

detach_keeps_by : (found : Option LeafSeen) (c : Codec) (size : ℕ → ℕ) (s : PoolState) (name : List ℕ) (seat : Seat) (x : Held) (g : ℕ) (vs : List Move) (reply : DetachReply)
    → DetachBy found c size s name seat vs reply → KeepAll x g vs ⊎ ((at : LeafSeen) × (found ≡ Some at) × GoesAway x at vs reply)
detach_keeps_by None c size s name seat x g vs reply row = inl (subst (KeepAll x g) (sym row.0) tt)
detach_keeps_by (Some at) c size s name seat x g vs reply row = leaf s.core.group.frozen row
  where
    for : (refusal : Option FreezeRefusal) → DetachFor refusal c size s name at seat vs reply → KeepAll x g vs ⊎ GoesAway x at vs reply
    for (Some refusal) row = inl (subst (KeepAll x g) (sym row.0) tt)
    for None row = without_keeps c size s name at seat x g vs reply row

    leaf : (frozen : Bool) → DetachLeaf frozen c size s name at seat vs reply → KeepAll x g vs ⊎ ((y : LeafSeen) × (Some at ≡ Some y) × GoesAway x y vs reply)
    leaf true row = inl (subst (KeepAll x g) (sym row.0) tt)
    leaf false (inl row) = inl (subst (KeepAll x g) (sym row.2) tt)
    leaf false (inr row) = ⊎_elim (λ keeps. inl keeps) (λ goes. inr (at, refl, goes)) (for row.1.0 row.1.2)

dev_is : (d : ℕ) (dev : Option ℕ) → is_dev d dev ≡ true → dev ≡ Some d
dev_is d None is = absurd (cc)
dev_is d (Some e) is = ap Some (sym (same_device d e is))

detach_keeps : (c : Codec) (h : Host) (e : Entry) (p : Pool) (d : ℕ) (name leaf : List ℕ) (s : PoolState) → e.asked ≡ Asks_detach name leaf → named name h.pools ≡ Some s
    → DetachLine c h leaf s e.acts e.reply → Keep (record { pool = p.pool.0; d = d; guid = p.guid d }) e.acts ⊎ IsDetachedFrom p h e d
detach_keeps c h e p d name leaf s asked stands row = by_bool (p.pool.0 == g)
    (λ mine. ⊎_elim (λ keeps. inl (subst (Keep x) (sym line.are) (all_does x g line.moves keeps)))
    (λ taken. inr (record {
      name = name;
      leaf = leaf;
      asked = asked;
      s = s;
      is_open = stands;
      ours = sym (same_device p.pool.0 g mine);
      at = taken.0;
      is_named = taken.1;
      dev = dev_is d taken.0.dev taken.2.here;
      number = taken.2.n;
      reply = row.1 ∙ ap To_detach taken.2.says;
      wrote = subst (HasWriteTo d) (sym (ap calls_along line.are ∙ does_calls g line.moves)) taken.2.wrote;
    })) (detach_keeps_by (leaf_named leaf s.core.leaves) c (size_in h.table) s leaf line.seat x g line.moves row.0 line.row))
    (λ off. inl (subst (Keep x) (sym line.are) (all_does x g line.moves (vacuous line.moves off))))
  where
    x : Held
    x = record { pool = p.pool.0; d = d; guid = p.guid d }

    g : ℕ
    g = s.core.pool.0

    line : ByDetach c h s leaf row.0 e.acts
    line = row.2

    vacuous : (vs : List Move) → (p.pool.0 == s.core.pool.0) ≡ false → KeepAll x s.core.pool.0 vs
    vacuous [] off = tt
    vacuous (v ∷ vs) off = ((λ mine. true_not_false (p.pool.0 == s.core.pool.0) mine off), vacuous vs off)

-- the open pool of a line
on_found : (h : Host) (name : List ℕ) (found : Option PoolState) (Line : PoolState → List Act → Reply → Type 0) (acts : List Act) (reply : Reply) (A : Type 0) → named name h.pools ≡ found
    → OnPool found Line acts reply → ((acts ≡ []) → A) → ((s : PoolState) → named name h.pools ≡ Some s → Line s acts reply → A) → A
on_found h name None Line acts reply A is row none line = none row.0
on_found h name (Some s) Line acts reply A is row none line = line s is row

entry_row : (c : Codec) (h : Host) (e : Entry) (p : Pool) (d : ℕ) (asked : Asked) → e.asked ≡ asked → RowOf c h asked e.acts e.reply
    → Keep (record { pool = p.pool.0; d = d; guid = p.guid d }) e.acts ⊎ IsTakenBy p h e d
entry_row c h e p d (Asks_create name blocks tops) is row =
    ⊎_elim (λ keeps. inl keeps) (λ taken. inr (inl taken)) (create_keeps c h e (record { pool = p.pool.0; d = d; guid = p.guid d }) name blocks tops is row)
entry_row c h e p d (Asks_graft graft name leaf new) is row = on_found h name (named name h.pools) (GraftLine h graft leaf new) e.acts e.reply
    (Keep (record { pool = p.pool.0; d = d; guid = p.guid d }) e.acts ⊎ IsTakenBy p h e d) refl row
    (λ none. inl (subst (Keep (record { pool = p.pool.0; d = d; guid = p.guid d })) (sym none) tt))
    (λ s stands line. ⊎_elim (λ keeps. inl keeps) (λ taken. inr (inr (inl taken))) (graft_keeps h e p d graft name leaf new s is stands line))
entry_row c h e p d (Asks_detach name leaf) is row = on_found h name (named name h.pools) (DetachLine c h leaf) e.acts e.reply
    (Keep (record { pool = p.pool.0; d = d; guid = p.guid d }) e.acts ⊎ IsTakenBy p h e d) refl row
    (λ none. inl (subst (Keep (record { pool = p.pool.0; d = d; guid = p.guid d })) (sym none) tt))
    (λ s stands line. ⊎_elim (λ keeps. inl keeps) (λ taken. inr (inr (inr taken))) (detach_keeps c h e p d name leaf s is stands line))
entry_row c h e p d asked is row = inl (row_keeps c h asked e.acts e.reply (record { pool = p.pool.0; d = d; guid = p.guid d }) tt row)

pub entry_keeps : (c : Codec) (h : Host) (e : Entry) (d : ℕ) (p : Pool) → HostRow c h e → p.member d ≡ true → ((pool_along e.acts p).member d ≡ true) ⊎ IsTakenBy p h e d
entry_keeps c h e d p (inl row) is = ⊎_elim (λ keeps. inl (acts_held (record { pool = p.pool.0; d = d; guid = p.guid d }) e.acts p keeps (record { number = refl; member = is; guid_is = refl })).member)
    (λ taken. inr taken) (entry_row c h e p d e.asked refl row.0)
entry_keeps c h e d p (inr out) is = let x : Held = record { pool = p.pool.0; d = d; guid = p.guid d } in
    inl (acts_held x e.acts p
    (⊎_elim (λ none. subst (Keep x) (sym none) tt) (λ b. ⊎_elim (λ early. none_keeps x e.acts early.0)
    (λ rewrites. rewrite_front c h e.asked e.acts b.rest b.reply x rewrites b.goes_on) out.early) out.begun)
    (record { number = refl; member = is; guid_is = refl })).member
