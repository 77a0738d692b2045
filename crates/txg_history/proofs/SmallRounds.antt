-- Rounds in which no call fails are rounds, and leave no sector damaged.
use Rattle.std.proofs.Common.{◌≡◌, ℕ, ◌+◌, ◌==◌, ◌&&◌, Bool, true, false, cond, List, [], ◌∷◌, ◌++◌, None, is_none, refl, ap, ◌∙◌, inl}
use Rattle.std.specs.List.{AllByRecursion}
use Rattle.bank_core.specs.Asks.{Flushes, IsPart}
use Rattle.bank_core.specs.Disk.{
  Sector,
  Pending,
  Nothing,
  Written,
  Failing,
  Call,
  Read,
  Write,
  Flush,
  Admit,
  Eject,
  Noted,
  covers,
  sectors_in,
  effect,
  hurt,
  after_flush,
}
use Rattle.label_store.specs.declared.member.Member.{Member}
use Rattle.label_store.specs.Layout.{labels_of, even_labels, odd_labels, config_offset, ring_offset, slot_of}
use Rattle.label_store.specs.Plans.{label_writes}
use Rattle.label_store.specs.Rounds.{uberblock_of}
use Rattle.label_store.specs.Uberblock.{uberblock_bytes}
use Rattle.txg_history.specs.Events.{Event, Calls, Third, Ends, Acks, Stops, as_events}
use Rattle.txg_history.specs.Moves.{IsPlain}
use Rattle.txg_history.specs.Pools.{Pool, after, pool_after}
use Rattle.txg_history.specs.Records.{Rec, number_of}
use Rattle.txg_history.specs.Rounds.{IsRoundEvents}
use Rattle.txg_history.specs.Small.{labels_well, round_well}
use Rattle.txg_history.proofs.Folding.{all_more}

-- calls that answer Ok make the whole plan
labels_part : (d : ℕ) (labels : List ℕ) (offset : ℕ) (bytes : List ℕ)
    → IsPart (label_writes d labels offset bytes ++ Flushes d ∷ []) (labels_well d labels offset bytes) None
labels_part d [] offset bytes = (refl, inl (refl, refl))
labels_part d (at ∷ labels) offset bytes = (refl, inl (refl, labels_part d labels offset bytes))

none_more : {A : Type 0} (xs : List A) → xs ≡ xs ++ []
none_more [] = refl
none_more (x ∷ xs) = ap (λ l. x ∷ l) (none_more xs)

-- The events are those of a round.
pub round_is : (size : ℕ → ℕ) (q : Rec) (m : Member) → IsRoundEvents size q (m ∷ []) (true ∷ []) (round_well (size m.dev) q m)
round_is size q m = record {
  first = configs;
  second = uberblocks;
  thirds = Third q m.dev ∷ (as_events copies ++ (Ends q m.dev ∷ []));
  in_first = true ∷ [];
  in_second = true ∷ [];
  all = refl;
  configs = (configs, [], none_more configs, (None, labels_part m.dev (even_labels (size m.dev)) config_offset q.commit.blob, refl), refl);
  uberblocks = (
    uberblocks,
    [],
    none_more uberblocks,
    (
      None,
      labels_part m.dev (labels_of (size m.dev)) (ring_offset + slot_of (number_of q))
          (uberblock_bytes (uberblock_of q.commit m)),
      refl,
    ),
    refl,
  );
  copies = (copies, [], refl, (None, labels_part m.dev (odd_labels (size m.dev)) config_offset q.commit.blob, refl), refl);
}
  where
    configs : List Noted
    configs = labels_well m.dev (even_labels (size m.dev)) config_offset q.commit.blob

    uberblocks : List Noted
    uberblocks = labels_well m.dev (labels_of (size m.dev)) (ring_offset + slot_of (number_of q)) (uberblock_bytes (uberblock_of q.commit m))

    copies : List Noted
    copies = labels_well m.dev (odd_labels (size m.dev)) config_offset q.commit.blob

-- an event that damages nothing: a call on a device that stays, without damage, and each other but a stop
abbrev pub IsGentle : Event → Type 0
IsGentle (Calls noted) = IsPlain noted.call × ((d s : ℕ) → noted.damage d s ≡ false)
IsGentle (Stops sectors size) = ⊥
IsGentle v = Unit {0}

abbrev pub IsUndamaged : Pool → Type 0
IsUndamaged p = (d s : ℕ) → (p.sectors d s).damaged ≡ false

write_sound : (t : Bool) (x y : Sector) → x.damaged ≡ false → y.damaged ≡ false → (cond t y x).damaged ≡ false
write_sound true x y a b = b
write_sound false x y a b = a

flush_sound : (pending : Pending) (x : Sector) → x.damaged ≡ false → (after_flush pending x).damaged ≡ false
flush_sound Nothing x e = e
flush_sound (Written bytes) x e = refl
flush_sound (Failing bytes) x e = e

effect_sound : (call : Call) (d s : ℕ) (x : Sector) → IsPlain call → x.damaged ≡ false → (effect call d s x).damaged ≡ false
effect_sound (Read dev at bytes fault) d s x plain e = e
effect_sound (Write dev at bytes fault) d s x plain e = write_sound ((dev == d) && covers at (sectors_in bytes) s) x _ e e
effect_sound (Flush dev fault) d s x plain e = write_sound ((dev == d) && is_none fault) x (after_flush x.pending x) e (flush_sound x.pending x e)
effect_sound (Admit dev holds) d s x plain e = absurd plain
effect_sound (Eject dev) d s x plain e = absurd plain

gentle_sound : (v : Event) (p : Pool) → IsGentle v → IsUndamaged p → IsUndamaged (after v p)
gentle_sound (Calls noted) p g sound d s = effect_sound noted.call d s (hurt (noted.damage d s) (p.sectors d s)) g.0
    (ap (λ t. cond t true (p.sectors d s).damaged) (g.1 d s) ∙ sound d s)
gentle_sound (Stops sectors size) p g sound d s = absurd g
gentle_sound v p g sound d s = sound d s

pub gentle_events : (vs : List Event) (p : Pool) → AllByRecursion IsGentle vs → IsUndamaged p → IsUndamaged (pool_after vs p)
gentle_events [] p all sound = sound
gentle_events (v ∷ vs) p all sound = gentle_events vs (after v p) all.1 (gentle_sound v p all.0 sound)

labels_gentle : (d : ℕ) (labels : List ℕ) (offset : ℕ) (bytes : List ℕ) (more : List Event) → AllByRecursion IsGentle more
    → AllByRecursion IsGentle (as_events (labels_well d labels offset bytes) ++ more)
labels_gentle d [] offset bytes more rest = ((tt, λ e s. refl), rest)
labels_gentle d (at ∷ labels) offset bytes more rest = ((tt, λ e s. refl), labels_gentle d labels offset bytes more rest)

pub round_gentle : (size : ℕ) (q : Rec) (m : Member) → AllByRecursion IsGentle (round_well size q m)
round_gentle size q m = (
  tt,
  labels_gentle m.dev (even_labels size) config_offset q.commit.blob (uberblocks ++ rest)
      (labels_gentle m.dev (labels_of size) (ring_offset + slot_of (number_of q)) (uberblock_bytes (uberblock_of q.commit m)) rest (tt, thirds)),
)
  where
    copies : List Event
    copies = as_events (labels_well m.dev (odd_labels size) config_offset q.commit.blob)

    uberblocks : List Event
    uberblocks = as_events (labels_well m.dev (labels_of size) (ring_offset + slot_of (number_of q)) (uberblock_bytes (uberblock_of q.commit m)))

    rest : List Event
    rest = (Third q m.dev ∷ (copies ++ (Ends q m.dev ∷ []))) ++ (Acks q ∷ [])

    thirds : AllByRecursion IsGentle ((copies ++ (Ends q m.dev ∷ [])) ++ (Acks q ∷ []))
    thirds = all_more IsGentle (copies ++ (Ends q m.dev ∷ [])) (Acks q ∷ [])
        (labels_gentle m.dev (odd_labels size) config_offset q.commit.blob (Ends q m.dev ∷ []) (tt, tt)) (tt, tt)
