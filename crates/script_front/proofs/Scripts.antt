-- A run, from its beginning to its end.
use Rattle.std.proofs.Common.{◌≡◌, ℕ, ◌+◌, ◌<◌, List, [], ◌∷◌, ◌++◌, take, length, Option, Some, refl, sym, ◌∙◌, ap, append_assoc, append-nil, arith, subst, inl, inr}
use Rattle.mp_base.specs.Outside.{Given}
use Rattle.bank_core.specs.BankView.{BankView}
use Rattle.host_core.specs.Parts.{HostParts}
use Rattle.host_core.specs.Standing.{HostStands}
use Rattle.pool_runs.specs.HostRows.{acts_in}
use Rattle.pool_runs.specs.Hosts.{Host, host_along}
use Rattle.script_front.specs.declared.status.Status.{Status}
use Rattle.script_front.specs.declared.status.Status.TheVariants as statuses
use Rattle.script_front.specs.declared.stop.Stop.{Stop}
use Rattle.script_front.specs.declared.stop.Stop.TheVariants as stops
use Rattle.script_front.specs.Feeding.{Feeds, Breaks, Overflows, StopsBy, BreaksLine}
use Rattle.script_front.specs.Finishing.{Finishes, Finished}
use Rattle.script_front.specs.Lines.{lines_of}
use Rattle.script_front.specs.Told.{texts}
use Rattle.script_front.specs.Session.{Handles, Ran}
use Rattle.script_front.specs.SoFar.{SoFar, status_of}
use Rattle.script_front.proofs.Feedings.{cuts_more, cuts_one, feeds_none, feeds_more, stops_more, texts_front}
use Rattle.script_front.proofs.Handling.{handles_more, texts_more}
use Rattle.script_front.proofs.LineEnds.{short_more, last_line}

given_none : (left : Option (List ℕ)) → Given left left []
given_none left = record { by = λ rest e. e }

given_more : (old mid new : Option (List ℕ)) (first second : List ℕ) → Given old mid first → Given mid new second → Given old new (first ++ second)
given_more old mid new first second a b = record { by = λ rest e. a.by (second ++ rest) (b.by rest e) ∙ ap Some (sym (append_assoc first second rest)) }

given_still : (old mid new : Option (List ℕ)) (text : List ℕ) → Given old mid text → Given mid new [] → Given old new text
given_still old mid new text a b = record { by = λ rest e. a.by rest (b.by rest e) }

pub so_far_none : {h : Host} {host : HostParts} {bank : BankView} {left sink gave : Option (List ℕ)} → HostStands host bank h
    → SoFar h [] host host bank bank left left sink sink gave gave
so_far_none {left = left} stands = record { text = []; given = given_none left; feeds = feeds_none [] tt (omega arith) stands }

pub so_far_more : {h : Host} {old mid new : HostParts} {from by to : BankView} {left left' left'' sink sink' sink'' gave gave' gave'' : Option (List ℕ)}
    (waiting piece waiting' : List ℕ) → (a : SoFar h waiting old mid from by left left' sink sink' gave gave') → Given left' left'' piece
    → Feeds (host_along (acts_in a.feeds.entries) h) waiting piece waiting' mid new by to sink' sink'' gave' gave'' → SoFar h waiting' old new from to left left'' sink sink'' gave gave''
so_far_more {left = left} {left' = left'} {left'' = left''} waiting piece waiting' a given feeds = record {
  text = a.text ++ piece;
  given = given_more left left' left'' a.text piece a.given given;
  feeds = feeds_more [] a.text waiting piece waiting' a.feeds feeds;
}

-- a read of the input failed
pub source_ran : {h : Host} {old new : HostParts} {from to : BankView} {left left' left'' sink sink' gave gave' : Option (List ℕ)} (waiting : List ℕ)
    → SoFar h waiting old new from to left left' sink sink' gave gave' → Given left' left'' [] → Ran h statuses.SourceFault old from to left left'' sink sink' gave gave'
source_ran {new = new} {left = left} {left' = left'} {left'' = left''} waiting a given = record {
  text = a.text;
  lines = a.feeds.lines;
  entries = a.feeds.entries;
  replies = a.feeds.replies;
  host = new;
  bytes = texts a.feeds.replies;
  given = given_still left left' left'' a.text a.given given;
  up_to = (waiting, a.feeds.ends, a.feeds.fits);
  short = a.feeds.short;
  handles = a.feeds.handles;
  is_written = refl;
}

module _ (h : Host) (old new : HostParts) (from to : BankView) (left left' sink sink' gave gave' : Option (List ℕ)) (text : List ℕ) (given : Given left left' text) where
  sink_ran : Breaks h [] text old new from to sink sink' gave gave' → Ran h statuses.SinkFault old from to left left' sink sink' gave gave'
  sink_ran b = record {
    text = text;
    lines = b.lines;
    entries = b.entries;
    replies = b.replies;
    host = new;
    bytes = take b.kept (texts b.replies);
    given = given;
    up_to = λ rest e. b.first rest;
    short = b.short;
    handles = b.handles;
    is_written = (b.kept, b.cut, refl);
  }

  memory_ran : Breaks h [] text old new from to sink sink' gave gave' → Ran h statuses.Memory old from to left left' sink sink' gave gave'
  memory_ran b = record {
    text = text;
    lines = b.lines;
    entries = b.entries;
    replies = b.replies;
    host = new;
    bytes = take b.kept (texts b.replies);
    given = given;
    up_to = λ rest e. b.first rest;
    short = b.short;
    handles = b.handles;
    is_written = (b.kept, b.cut, refl);
  }

  long_ran : Overflows h [] text old new from to sink sink' gave gave' → Ran h statuses.LineTooLong old from to left left' sink sink' gave gave'
  long_ran b = record {
    text = text;
    lines = b.lines;
    entries = b.entries;
    replies = b.replies;
    host = new;
    bytes = texts b.replies;
    given = given;
    up_to = λ rest e. b.first rest;
    short = b.short;
    handles = b.handles;
    is_written = refl;
  }

stopped_ran : (h : Host) (old new : HostParts) (from to : BankView) (left left' sink sink' gave gave' : Option (List ℕ)) (text : List ℕ) → Given left left' text
    → (stop : Stop) → StopsBy stop h [] text old new from to sink sink' gave gave' → Ran h (status_of stop) old from to left left' sink sink' gave gave'
stopped_ran h old new from to left left' sink sink' gave gave' text given stops.Sink b = sink_ran h old new from to left left' sink sink' gave gave' text given b
stopped_ran h old new from to left left' sink sink' gave gave' text given stops.Memory b = memory_ran h old new from to left left' sink sink' gave gave' text given b
stopped_ran h old new from to left left' sink sink' gave gave' text given stops.TooLong b = long_ran h old new from to left left' sink sink' gave gave' text given b

-- a piece of the input broke off
pub stop_ran : (h : Host) (old mid new : HostParts) (from by to : BankView) (left left' left'' sink sink' sink'' gave gave' gave'' : Option (List ℕ))
    (waiting piece : List ℕ) (stop : Stop) → (a : SoFar h waiting old mid from by left left' sink sink' gave gave') → Given left' left'' piece
    → StopsBy stop (host_along (acts_in a.feeds.entries) h) waiting piece mid new by to sink' sink'' gave' gave'' → Ran h (status_of stop) old from to left left'' sink sink'' gave gave''
stop_ran h old mid new from by to left left' left'' sink sink' sink'' gave gave' gave'' waiting piece stop a given b =
    stopped_ran h old new from to left left'' sink sink'' gave gave'' (a.text ++ piece) (given_more left left' left'' a.text piece a.given given) stop
    (stops_more h old mid new from by to sink sink' sink'' gave gave' gave'' [] a.text waiting piece stop a.feeds b)

module _ (h : Host) (old mid new : HostParts) (from by to : BankView) (left left' left'' sink sink' sink'' gave gave' gave'' : Option (List ℕ)) (waiting : List ℕ)
    (a : SoFar h waiting old mid from by left left' sink sink' gave gave') (given : Given left' left'' []) where
  -- the lines of all the text, with what waits as the last one
  all_lines : (rest : List ℕ) → rest ≡ [] → lines_of (a.text ++ rest) ≡ a.feeds.lines ++ lines_of waiting
  all_lines rest empty = a.feeds.ends.each rest ∙ ap (λ tail. a.feeds.lines ++ lines_of (waiting ++ tail)) empty
      ∙ ap (λ last. a.feeds.lines ++ lines_of last) (append-nil waiting)

  whole_text : lines_of a.text ≡ a.feeds.lines ++ lines_of waiting
  whole_text = ap lines_of (sym (append-nil a.text)) ∙ all_lines [] refl

  nothing_ran : ((rest : List ℕ) → left'' ≡ Some rest → rest ≡ []) → waiting ≡ [] → Ran h statuses.Done old from by left left'' sink sink' gave gave'
  nothing_ran ended empty = record {
    text = a.text;
    lines = a.feeds.lines;
    entries = a.feeds.entries;
    replies = a.feeds.replies;
    host = mid;
    bytes = texts a.feeds.replies;
    given = given_still left left' left'' a.text a.given given;
    up_to = (ended, whole_text ∙ ap (λ last. a.feeds.lines ++ lines_of last) empty ∙ append-nil a.feeds.lines);
    short = a.feeds.short;
    handles = a.feeds.handles;
    is_written = refl;
  }

  last_ran : ((rest : List ℕ) → left'' ≡ Some rest → rest ≡ []) → Finished (host_along (acts_in a.feeds.entries) h) waiting mid new by to sink' sink'' gave' gave'' → Ran h statuses.Done old from to left left'' sink sink'' gave gave''
  last_ran ended l = record {
    text = a.text;
    lines = a.feeds.lines ++ waiting ∷ [];
    entries = a.feeds.entries ++ l.line.entry ∷ [];
    replies = a.feeds.replies ++ l.line.told ∷ [];
    host = new;
    bytes = texts a.feeds.replies ++ texts (l.line.told ∷ []);
    given = given_still left left' left'' a.text a.given given;
    up_to = (ended, whole_text ∙ ap (λ last. a.feeds.lines ++ last) (last_line waiting a.feeds.ends.unended l.some));
    short = short_more a.feeds.lines (waiting ∷ []) a.feeds.short (a.feeds.fits, tt);
    handles = handles_more h a.feeds.lines (waiting ∷ []) old mid new from by to sink sink' sink'' gave gave' gave'' a.feeds.entries (l.line.entry ∷ [])
        a.feeds.replies (l.line.told ∷ []) (texts a.feeds.replies) (texts (l.line.told ∷ [])) a.feeds.handles l.line.handles;
    is_written = texts_more a.feeds.replies (l.line.told ∷ []);
  }

  -- the reply to the last line broke off
  broken_lines : 0 < length waiting → ((rest : List ℕ) → left'' ≡ Some rest → rest ≡ []) → (rest : List ℕ) → left'' ≡ Some rest
      → (more : List (List ℕ)) × (lines_of (a.text ++ rest) ≡ (a.feeds.lines ++ waiting ∷ []) ++ more)
  broken_lines some ended rest e = (
    [],
    all_lines rest (ended rest e) ∙ ap (λ last. a.feeds.lines ++ last) (last_line waiting a.feeds.ends.unended some)
        ∙ sym (append-nil (a.feeds.lines ++ waiting ∷ [])),
  )

  broken_handles : (l : BreaksLine (host_along (acts_in a.feeds.entries) h) waiting mid new by to sink' sink'' gave' gave'')
      → Handles h (a.feeds.lines ++ waiting ∷ []) old new from to sink sink'' gave gave'' (a.feeds.entries ++ l.entry ∷ []) (a.feeds.replies ++ l.told ∷ [])
      (take (length (texts a.feeds.replies) + l.kept) (texts (a.feeds.replies ++ l.told ∷ [])))
  broken_handles l = subst (Handles h (a.feeds.lines ++ waiting ∷ []) old new from to sink sink'' gave gave'' (a.feeds.entries ++ l.entry ∷ []) (a.feeds.replies ++ l.told ∷ []))
      (texts_front a.feeds.replies (l.told ∷ []) l.kept)
      (handles_more h a.feeds.lines (waiting ∷ []) old mid new from by to sink sink' sink'' gave gave' gave'' a.feeds.entries (l.entry ∷ [])
      a.feeds.replies (l.told ∷ []) (texts a.feeds.replies) (take l.kept (texts (l.told ∷ []))) a.feeds.handles l.handles)

  broken_ran : (stop : Stop) → (stop ≡ stops.TooLong → ⊥) → 0 < length waiting → ((rest : List ℕ) → left'' ≡ Some rest → rest ≡ [])
      → BreaksLine (host_along (acts_in a.feeds.entries) h) waiting mid new by to sink' sink'' gave' gave'' → Ran h (status_of stop) old from to left left'' sink sink'' gave gave''
  broken_ran stops.Sink whole some ended l = record {
    text = a.text;
    lines = a.feeds.lines ++ waiting ∷ [];
    entries = a.feeds.entries ++ l.entry ∷ [];
    replies = a.feeds.replies ++ l.told ∷ [];
    host = new;
    bytes = take (length (texts a.feeds.replies) + l.kept) (texts (a.feeds.replies ++ l.told ∷ []));
    given = given_still left left' left'' a.text a.given given;
    up_to = broken_lines some ended;
    short = short_more a.feeds.lines (waiting ∷ []) a.feeds.short (a.feeds.fits, tt);
    handles = broken_handles l;
    is_written = (length (texts a.feeds.replies) + l.kept, cuts_more a.feeds.replies (l.told ∷ []) l.kept (cuts_one l.told l.kept), refl);
  }
  broken_ran stops.Memory whole some ended l = record {
    text = a.text;
    lines = a.feeds.lines ++ waiting ∷ [];
    entries = a.feeds.entries ++ l.entry ∷ [];
    replies = a.feeds.replies ++ l.told ∷ [];
    host = new;
    bytes = take (length (texts a.feeds.replies) + l.kept) (texts (a.feeds.replies ++ l.told ∷ []));
    given = given_still left left' left'' a.text a.given given;
    up_to = broken_lines some ended;
    short = short_more a.feeds.lines (waiting ∷ []) a.feeds.short (a.feeds.fits, tt);
    handles = broken_handles l;
    is_written = (length (texts a.feeds.replies) + l.kept, cuts_more a.feeds.replies (l.told ∷ []) l.kept (cuts_one l.told l.kept), refl);
  }
  broken_ran stops.TooLong whole some ended l = absurd (whole refl)

  -- the input has ended
  pub finish_ran : (status : Status) → ((rest : List ℕ) → left'' ≡ Some rest → rest ≡ []) → Finishes (host_along (acts_in a.feeds.entries) h) status waiting mid new by to sink' sink'' gave' gave''
      → Ran h status old from to left left'' sink sink'' gave gave''
  finish_ran status ended (inl n) = rw (n.0, n.1.bank, n.1.written, n.1.untimed) (nothing_ran ended n.1.none)
  finish_ran status ended (inr (inl l)) = rw l.0 (last_ran ended l.1)
  finish_ran status ended (inr (inr b)) = rw b.status_is (broken_ran b.stop b.whole b.some ended b.line)
