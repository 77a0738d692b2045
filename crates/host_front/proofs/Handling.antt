-- Lines handled one after another.
use Rattle.std.proofs.Common.{◌≡◌, ℕ, List, [], ◌∷◌, ◌++◌, map, take, Option, refl, sym, ◌∙◌, ap, append_assoc, append-nil, subst}
use Rattle.std.proofs.lemmas.List.{map-append}
use Rattle.std.proofs.lemmas.Grind.{flat_map-append}
use Rattle.mp_base.specs.Outside.{Taken}
use Rattle.bank_core.specs.Disk.{Noted}
use Rattle.bank_core.specs.Story.{Story}
use Rattle.bank_core.proofs.Composing.{made_none, made_more}
use Rattle.pool_wire.specs.Reading.{request_of}
use Rattle.pool_wire.specs.Text.{text_of}
use Rattle.pool_wire.specs.declared.reply.Reply.{Reply}
use Rattle.host_machine.specs.Fitness.{IsFit, IsWhole}
use Rattle.host_machine.specs.Machine.{HostState, Entry, Step, Replay, texts}
use Rattle.host_front.specs.declared.host.Host.{Host}
use Rattle.host_front.specs.Feeding.{HandlesLine, BreaksLine}
use Rattle.host_front.specs.Session.{Answers, Handles}
use Rattle.host_front.specs.Standing.{Stands}
use Rattle.host_front.specs.Writing.{WritesFront}
use Rattle.host_front.proofs.Taking.{taken_none, taken_more}
use Rattle.host_front.proofs.WholeLines.{line_whole}

replay_none : (h : HostState) → Replay h [] [] h
replay_none h = (refl, refl)

replay_one : (h : HostState) (entry : Entry) (made : List Noted) (next : HostState) → Step h entry made next → Replay h (entry ∷ []) made next
replay_one h entry made next step = (made, [], next, sym (append-nil made), step, (refl, refl))

replay_more : (h mid next : HostState) (entries more : List Entry) (calls calls' : List Noted) → Replay h entries calls mid → Replay mid more calls' next
    → Replay h (entries ++ more) (calls ++ calls') next
replay_more h mid next [] more calls calls' a b =
    subst (λ s. Replay s more (calls ++ calls') next) a.1 (subst (λ c. Replay mid more (c ++ calls') next) (sym a.0) b)
replay_more h mid next (entry ∷ entries) more calls calls' a b =
    (a.0, a.1 ++ calls', a.2, ap (λ c. c ++ calls') a.3 ∙ append_assoc a.0 a.1 calls', a.4, replay_more a.2 mid next entries more a.1 calls' a.5 b)

-- no line
pub handles_none : (h : HostState) (told : Option Story) (faults : ℕ → ℕ) (sink gave : Option (List ℕ)) → Handles h [] told told faults faults sink sink gave gave h [] []
handles_none h told faults sink gave = record {
  calls = [];
  asked = refl;
  replay = replay_none h;
  made = made_none told faults;
  written = taken_none sink;
  clock = taken_none gave;
}

-- lines, and more lines
pub handles_more : (h mid next : HostState) (lines more : List (List ℕ)) (old between new : Option Story) (f g k : ℕ → ℕ) (sink sink' sink'' gave gave' gave'' : Option (List ℕ))
    (entries entries' : List Entry) (bytes bytes' : List ℕ) → Handles h lines old between f g sink sink' gave gave' mid entries bytes
    → Handles mid more between new g k sink' sink'' gave' gave'' next entries' bytes'
    → Handles h (lines ++ more) old new f k sink sink'' gave gave'' next (entries ++ entries') (bytes ++ bytes')
handles_more h mid next lines more old between new f g k sink sink' sink'' gave gave' gave'' entries entries' bytes bytes' a b = record {
  calls = a.calls ++ b.calls;
  asked = map-append (λ (entry : Entry). entry.asked) entries entries' ∙ ap (λ l. l ++ map (λ (entry : Entry). entry.asked) entries') a.asked
      ∙ ap (λ l. map request_of lines ++ l) b.asked ∙ sym (map-append request_of lines more);
  replay = replay_more h mid next entries entries' a.calls b.calls a.replay b.replay;
  made = made_more old between new f g k a.calls b.calls a.made b.made;
  written = taken_more sink sink' sink'' bytes bytes' a.written b.written;
  clock = subst (Taken gave gave'') (sym (map-append (λ (entry : Entry). entry.second) entries entries'))
      (taken_more gave gave' gave'' (map (λ (entry : Entry). entry.second) entries) (map (λ (entry : Entry). entry.second) entries') a.clock b.clock);
}

pub texts_more : (entries more : List Entry) → texts entries ++ texts more ≡ texts (entries ++ more)
texts_more entries more = sym (flat_map-append (λ (entry : Entry). text_of entry.reply ++ 10 ∷ []) entries more)

texts_one : (entry : Entry) → texts (entry ∷ []) ≡ text_of entry.reply ++ 10 ∷ []
texts_one entry = append-nil (text_of entry.reply ++ 10 ∷ [])

module _ (h : HostState) (line : List ℕ) (second : ℕ) (old new : Option Story) (f g : ℕ → ℕ) (sink sink' gave gave' : Option (List ℕ)) (size : ℕ → ℕ) (host : Host) (reply : Reply) where
  -- one line, by what answered it and what was written
  handles_one : (bytes : List ℕ) → (a : Answers h (request_of line) second old new f g size host reply) → Taken gave gave' (second ∷ []) → Taken sink sink' bytes
      → Handles h (line ∷ []) old new f g sink sink' gave gave' a.next (a.entry ∷ []) bytes
  handles_one bytes a clock taken = record {
    calls = a.made;
    asked = ap (λ asked. asked ∷ []) a.asked_is;
    replay = replay_one h a.entry a.made a.next a.step;
    made = a.calls;
    written = taken;
    clock = subst (λ s. Taken gave gave' (s ∷ [])) (sym a.second_is) clock;
  }

  line_broken_at : (text : List ℕ) (kept : ℕ) → text ≡ text_of reply ++ 10 ∷ [] → Answers h (request_of line) second old new f g size host reply
      → Taken gave gave' (second ∷ []) → Taken sink sink' (take kept text) → BreaksLine h line old new f g sink sink' gave gave'
  line_broken_at text kept is a clock taken = record {
    entry = a.entry;
    next = a.next;
    kept = kept;
    handles = handles_one (take kept (texts (a.entry ∷ []))) a clock
        (subst (λ t. Taken sink sink' (take kept t)) (is ∙ ap (λ r. text_of r ++ 10 ∷ []) (sym a.reply_is) ∙ sym (texts_one a.entry)) taken);
  }

-- the state behind a line is one that a run may reach
stands_on : (h : HostState) (line : List ℕ) (second : ℕ) (old new : Option Story) (f g : ℕ → ℕ) (size size' : ℕ → ℕ) (host host' : Host) (reply : Reply)
    → ((h : HostState) (entry : Entry) (made : List Noted) (next : HostState) → IsWhole entry.asked → IsFit h → Step h entry made next → IsFit next)
    → Stands size host h → (a : Answers h (request_of line) second old new f g size' host' reply) → Stands size' host' a.next
stands_on h line second old new f g size size' host host' reply stays stands a = record {
  keeps = a.keeps;
  fit = stays h a.entry a.made a.next (subst IsWhole (sym a.asked_is) (line_whole line)) stands.fit a.step;
}

pub line_handled : {h : HostState} {line : List ℕ} {old new : Option Story} {f g : ℕ → ℕ} {sink sink' gave gave' : Option (List ℕ)} {size size' : ℕ → ℕ} {host host' : Host}
    (second : ℕ) (reply : Reply) (text : List ℕ)
    → ((h : HostState) (entry : Entry) (made : List Noted) (next : HostState) → IsWhole entry.asked → IsFit h → Step h entry made next → IsFit next)
    → text ≡ text_of reply ++ 10 ∷ [] → Stands size host h → Answers h (request_of line) second old new f g size' host' reply
    → Taken gave gave' (second ∷ []) → Taken sink sink' text → HandlesLine h line old new f g sink sink' gave gave' size' host'
line_handled {h} {line} {old} {new} {f} {g} {sink} {sink'} {gave} {gave'} {size} {size'} {host} {host'} second reply text stays is stands a clock taken = record {
  entry = a.entry;
  next = a.next;
  handles = handles_one h line second old new f g sink sink' gave gave' size' host' reply (texts (a.entry ∷ [])) a clock
      (subst (Taken sink sink') (is ∙ ap (λ r. text_of r ++ 10 ∷ []) (sym a.reply_is) ∙ sym (texts_one a.entry)) taken);
  stands = stands_on h line second old new f g size size' host host' reply stays stands a;
}

-- a front of the reply line was written
pub line_broken : {h : HostState} {line : List ℕ} {old new : Option Story} {f g : ℕ → ℕ} {sink sink' gave gave' : Option (List ℕ)} {size : ℕ → ℕ} {host : Host}
    (second : ℕ) (reply : Reply) (text : List ℕ) → text ≡ text_of reply ++ 10 ∷ [] → Answers h (request_of line) second old new f g size host reply
    → Taken gave gave' (second ∷ []) → WritesFront sink sink' text → BreaksLine h line old new f g sink sink' gave gave'
line_broken {h} {line} {old} {new} {f} {g} {sink} {sink'} {gave} {gave'} {size} {host} second reply text is a clock front =
    line_broken_at h line second old new f g sink sink' gave gave' size host reply text front.kept is a clock front.taken

-- no byte of it was
pub line_unwritten : {h : HostState} {line : List ℕ} {old new : Option Story} {f g : ℕ → ℕ} {sink gave gave' : Option (List ℕ)} {size : ℕ → ℕ} {host : Host}
    (second : ℕ) (reply : Reply) → Answers h (request_of line) second old new f g size host reply → Taken gave gave' (second ∷ [])
    → BreaksLine h line old new f g sink sink gave gave'
line_unwritten {h} {line} {old} {new} {f} {g} {sink} {gave} {gave'} {size} {host} second reply a clock =
    line_broken_at h line second old new f g sink sink gave gave' size host reply (text_of reply ++ 10 ∷ []) 0 refl a clock (taken_none sink)
