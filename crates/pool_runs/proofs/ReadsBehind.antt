-- What is fair of a search behind its reads was so before them, and shows that there is no twin.
use Rattle.std.proofs.Common.{◌≡◌, ℕ, ◌==◌, ◌&&◌, ◌||◌, Bool, true, false, List, [], ◌∷◌, Option, Some, None, refl, sym, ap, ◌∙◌}
use Rattle.std.specs.List.{AllByRecursion}
use Rattle.std.proofs.lemmas.Bool.{and_parts}
use Rattle.mp_base.specs.declared.number.Guid.{Guid}
use Rattle.bank_core.specs.Disk.{Call, Read, Noted}
use Rattle.bank_core.specs.Standing.{touches}
use Rattle.label_store.specs.Newest.{IsRead, AreReads}
use Rattle.txg_history.specs.Events.{Known, Calls, as_events}
use Rattle.txg_history.specs.Moves.{IsPlain}
use Rattle.txg_history.specs.Pages.{LeafKept}
use Rattle.txg_history.specs.Pools.{Pool, after, pool_after}
use Rattle.txg_history.specs.Premises.{AreNotTorn}
use Rattle.txg_history.proofs.Logging.{by_bool, same_device}
use Rattle.pool_moves.specs.FreezeRow.{is_dev}
use Rattle.pool_moves.specs.Opened.{claims_of}
use Rattle.pool_moves.specs.OpeningRow.{AreWholeReads, read_of}
use Rattle.pool_moves.specs.ScanRows.{is_read_call}
use Rattle.pool_runs.specs.Acts.{Seeks_by}
use Rattle.pool_runs.specs.Fairness.{IsMember, IsFairMark}

pub read_plain : (call : Call) → is_read_call call ≡ true → IsPlain call
read_plain (Read dev at bytes fault) is = tt
read_plain call is = absurd (cc)

pub read_untouched : (call : Call) (d s : ℕ) → is_read_call call ≡ true → touches call d s ≡ false
read_untouched (Read dev at bytes fault) d s is = refl
read_untouched call d s is = absurd (cc)

-- What was fair of a search behind a read was so before it.
untorn : (call : Call) (damage : ℕ → ℕ → Bool) (p : Pool) (known : Known) → is_read_call call ≡ true
    → AreNotTorn (after (Calls (record { call = call; damage = damage })) p) known → AreNotTorn p known
untorn (Read dev at bytes fault) damage p known is torn = torn
untorn call damage p known is torn = absurd (cc)

whole_behind : (noted : Noted) (p : Pool) (made : List Noted) → is_read_call noted.call ≡ true → AreWholeReads (after (Calls noted) p) made → AreWholeReads p made
whole_behind noted p [] reads all = tt
whole_behind noted p (one ∷ made) reads all = (untorn noted.call noted.damage p (read_of one.call) reads all.0, whole_behind noted p made reads all.1)

members_behind : (noted : Noted) (p : Pool) (found : List (Option ℕ)) → AllByRecursion (IsMember (after (Calls noted) p)) found → AllByRecursion (IsMember p) found
members_behind noted p [] all = tt
members_behind noted p (None ∷ found) all = (tt, members_behind noted p found all.1)
members_behind noted p (Some d ∷ found) all = (all.0, members_behind noted p found all.1)

pub seeks_behind : (noted : Noted) (p : Pool) (made : List Noted) (found : List (Option ℕ)) → is_read_call noted.call ≡ true → IsFairMark (after (Calls noted) p) (Seeks_by made found)
    → IsFairMark p (Seeks_by made found)
seeks_behind noted p made found reads ok = (whole_behind noted p made reads ok.0, members_behind noted p found ok.1)

read_is : (call : Call) → IsRead call → is_read_call call ≡ true
read_is (Read dev at bytes fault) is = refl
read_is call is = absurd is

pub whole_before : (made seen : List Noted) (p : Pool) → AreReads made → AreWholeReads (pool_after (as_events made) p) seen → AreWholeReads p seen
whole_before [] seen p reads all = all
whole_before (noted ∷ made) seen p reads all =
    whole_behind noted p seen (read_is noted.call reads.0) (whole_before made seen (after (Calls noted) p) reads.1 all)

-- a device that is taken for a leaf is a member
pub claimed_member : (p : Pool) (leaves : List LeafKept) (devs : List (Option ℕ)) (d : ℕ) (m : Guid) → AllByRecursion (IsMember p) devs
    → claims_of leaves devs d m ≡ true → p.member d ≡ true
claimed_member p [] devs d m all claim = absurd (cc)
claimed_member p (leaf ∷ leaves) [] d m all claim = absurd (cc)
claimed_member p (leaf ∷ leaves) (dev ∷ devs) d m all claim = by_bool (is_dev d dev && (leaf.guid.0 == m.0))
    (λ here. of dev all.0 (and_parts (is_dev d dev) (leaf.guid.0 == m.0) here).0)
    (λ off. claimed_member p leaves devs d m all.1 (sym (ap (λ t. t || claims_of leaves devs d m) off) ∙ claim))
  where
    of : (dev : Option ℕ) → IsMember p dev → is_dev d dev ≡ true → p.member d ≡ true
    of None member is = absurd (let no : false ≡ true = is in cc)
    of (Some e) member is = ap p.member (same_device d e is) ∙ member
