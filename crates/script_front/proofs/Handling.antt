-- Lines handled one after another.
use Rattle.std.proofs.Common.{◌≡◌, ℕ, List, [], ◌∷◌, ◌++◌, map, take, Option, Result, Ok, refl, sym, ◌∙◌, ap, append-nil, subst, subst₂}
use Rattle.std.specs.Prelude.{IfOk}
use Rattle.std.proofs.lemmas.List.{map-append}
use Rattle.std.proofs.lemmas.Grind.{flat_map-append}
use Rattle.mp_base.specs.Outside.{Taken}
use Rattle.mp_base.specs.declared.fault.MemFault.{MemFault}
use Rattle.bank_core.specs.BankView.{BankView}
use Rattle.host_core.specs.Answering.{IsLine}
use Rattle.host_core.specs.Parts.{HostParts}
use Rattle.host_core.specs.Scripts.{AreLines}
use Rattle.host_core.specs.Standing.{HostStands}
use Rattle.host_core.proofs.LinesAreRuns.{lines_stand}
use Rattle.pool_lines.specs.Text.{text_of}
use Rattle.pool_lines.specs.declared.reply.Reply.{Reply}
use Rattle.pool_runs.specs.Acts.{Act, Hears}
use Rattle.pool_runs.specs.HostRows.{acts_of, acts_in}
use Rattle.pool_runs.specs.Hosts.{Host, host_by, host_along}
use Rattle.pool_runs.specs.Lines.{Entry}
use Rattle.script_front.specs.Answering.{AnswersLine}
use Rattle.script_front.specs.Feeding.{HandlesLine, BreaksLine}
use Rattle.script_front.specs.Session.{Handles}
use Rattle.script_front.specs.Told.{IsTold, AreTold, texts}
use Rattle.script_front.specs.Writing.{WritesFront}
use Rattle.script_front.proofs.Taking.{taken_none, taken_more}

along_more : (first second : List Act) (h : Host) → host_along second (host_along first h) ≡ host_along (first ++ second) h
along_more [] second h = refl
along_more (act ∷ first) second h = along_more first second (host_by act h)

-- the host behind entries, and behind more
pub behind : (entries more : List Entry) (h : Host) → host_along (acts_in more) (host_along (acts_in entries) h) ≡ host_along (acts_in (entries ++ more)) h
behind [] more h = refl
behind (e ∷ entries) more h =
    ap (host_along (acts_in more)) (sym (along_more (acts_of e) (acts_in entries) h)) ∙ behind entries more (host_along (acts_of e) h)
    ∙ along_more (acts_of e) (acts_in (entries ++ more)) h

lines_more : (h : Host) (entries more : List Entry) (old mid new : HostParts) (from by to : BankView) → AreLines h entries old mid from by
    → AreLines (host_along (acts_in entries) h) more mid new by to → AreLines h (entries ++ more) old new from to
lines_more h [] more old mid new from by to a b = subst₂ (λ x y. AreLines h more x new y to) a.0 a.1 b
lines_more h (e ∷ entries) more old mid new from by to (bank, host, line, rest) b = (
  bank,
  host,
  line,
  lines_more (host_along (acts_of e) h) entries more host mid new bank by to rest
      (subst (λ x. AreLines x more mid new by to) (sym (along_more (acts_of e) (acts_in entries) h)) b),
)

told_more : (lines more : List (List ℕ)) (h : Host) (entries entries' : List Entry) (replies replies' : List Reply) → AreTold lines h entries replies
    → AreTold more (host_along (acts_in entries) h) entries' replies' → AreTold (lines ++ more) h (entries ++ entries') (replies ++ replies')
told_more [] more h [] entries' [] replies' a b = b
told_more [] more h [] entries' (told ∷ replies) replies' a b = absurd a
told_more [] more h (e ∷ entries) entries' replies replies' a b = absurd a
told_more (line ∷ lines) more h [] entries' replies replies' a b = absurd a
told_more (line ∷ lines) more h (e ∷ entries) entries' [] replies' a b = absurd a
told_more (line ∷ lines) more h (e ∷ entries) entries' (told ∷ replies) replies' a b = (
  a.0,
  told_more lines more (host_along (acts_of e) h) entries entries' replies replies' a.1
      (subst (λ x. AreTold more x entries' replies') (sym (along_more (acts_of e) (acts_in entries) h)) b),
)

-- no line
pub handles_none : (h : Host) (host : HostParts) (bank : BankView) (sink gave : Option (List ℕ)) → Handles h [] host host bank bank sink sink gave gave [] [] []
handles_none h host bank sink gave = record { are = (refl, refl); told = tt; written = taken_none sink; clock = taken_none gave }

-- lines, and more lines
pub handles_more : (h : Host) (lines more : List (List ℕ)) (old mid new : HostParts) (from by to : BankView) (sink sink' sink'' gave gave' gave'' : Option (List ℕ))
    (entries entries' : List Entry) (replies replies' : List Reply) (bytes bytes' : List ℕ)
    → Handles h lines old mid from by sink sink' gave gave' entries replies bytes
    → Handles (host_along (acts_in entries) h) more mid new by to sink' sink'' gave' gave'' entries' replies' bytes'
    → Handles h (lines ++ more) old new from to sink sink'' gave gave'' (entries ++ entries') (replies ++ replies') (bytes ++ bytes')
handles_more h lines more old mid new from by to sink sink' sink'' gave gave' gave'' entries entries' replies replies' bytes bytes' a b = record {
  are = lines_more h entries entries' old mid new from by to a.are b.are;
  told = told_more lines more h entries entries' replies replies' a.told b.told;
  written = taken_more sink sink' sink'' bytes bytes' a.written b.written;
  clock = subst (Taken gave gave'') (sym (map-append (λ (e : Entry). e.second) entries entries'))
      (taken_more gave gave' gave'' (map (λ (e : Entry). e.second) entries) (map (λ (e : Entry). e.second) entries') a.clock b.clock);
}

pub texts_more : (replies more : List Reply) → texts replies ++ texts more ≡ texts (replies ++ more)
texts_more replies more = sym (flat_map-append (λ (told : Reply). text_of told ++ 10 ∷ []) replies more)

texts_one : (told : Reply) → texts (told ∷ []) ≡ text_of told ++ 10 ∷ []
texts_one told = append-nil (text_of told ++ 10 ∷ [])

-- One line, by what answered it at this second.
module _ (h : Host) (line : List ℕ) (second : ℕ) (old new : HostParts) (from to : BankView) (sink sink' gave gave' : Option (List ℕ)) (answer : Result Reply MemFault)
    (a : AnswersLine line (host_by (Hears second) h) new from to answer) (clock : Taken gave gave' (second ∷ [])) where
  lines_one : AreLines h (a.entry ∷ []) old new from to
  lines_one = (to, new, subst (λ s. IsLine (host_by (Hears s) h) a.entry new from to) (sym a.hears) a.is_line, (refl, refl))

  handles_one : (bytes : List ℕ) → Taken sink sink' bytes → Handles h (line ∷ []) old new from to sink sink' gave gave' (a.entry ∷ []) (a.told ∷ []) bytes
  handles_one bytes taken = record {
    are = lines_one;
    told = (subst (λ s. IsTold line (host_by (Hears s) h) a.entry a.told) (sym a.hears) a.is_told, tt);
    written = taken;
    clock = subst (λ s. Taken gave gave' (s ∷ [])) (sym a.hears) clock;
  }

  -- its reply line
  text_is : (reply : Reply) (text : List ℕ) → answer ≡ Ok reply → text ≡ text_of reply ++ 10 ∷ [] → text ≡ texts (a.told ∷ [])
  text_is reply text got is =
      let says : reply ≡ a.told = subst (λ r. IfOk r (λ reply. reply ≡ a.told)) got a.says in
      is ∙ ap (λ r. text_of r ++ 10 ∷ []) says ∙ sym (texts_one a.told)

  pub line_handled : (reply : Reply) (text : List ℕ) → HostStands old from h → answer ≡ Ok reply → text ≡ text_of reply ++ 10 ∷ [] → Taken sink sink' text
      → HandlesLine h line old new from to sink sink' gave gave'
  line_handled reply text was got is taken = record {
    entry = a.entry;
    told = a.told;
    handles = handles_one (texts (a.told ∷ [])) (subst (Taken sink sink') (text_is reply text got is) taken);
    stands = lines_stand h (a.entry ∷ []) old new from to was lines_one;
  }

  -- a front of the reply line was written
  pub line_broken : (reply : Reply) (text : List ℕ) → answer ≡ Ok reply → text ≡ text_of reply ++ 10 ∷ [] → WritesFront sink sink' text
      → BreaksLine h line old new from to sink sink' gave gave'
  line_broken reply text got is front = record {
    entry = a.entry;
    told = a.told;
    kept = front.kept;
    handles = handles_one (take front.kept (texts (a.told ∷ []))) (subst (λ t. Taken sink sink' (take front.kept t)) (text_is reply text got is) front.taken);
  }

-- no byte of it was
pub line_unwritten : (h : Host) (line : List ℕ) (second : ℕ) (old new : HostParts) (from to : BankView) (sink gave gave' : Option (List ℕ)) (answer : Result Reply MemFault)
    (a : AnswersLine line (host_by (Hears second) h) new from to answer) → Taken gave gave' (second ∷ []) → BreaksLine h line old new from to sink sink gave gave'
line_unwritten h line second old new from to sink gave gave' answer a clock = record {
  entry = a.entry;
  told = a.told;
  kept = 0;
  handles = handles_one h line second old new from to sink sink gave gave' answer a clock [] (taken_none sink);
}
