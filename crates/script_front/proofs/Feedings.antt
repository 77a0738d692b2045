-- Pieces of the input, one after another.
use Rattle.std.proofs.Common.{◌≡◌, ◌≢◌, ℕ, ◌+◌, ◌<◌, ◌≤◌, ◌==◌, false, List, [], ◌∷◌, ◌++◌, take, drop, get_or, length, Option, refl, sym, ◌∙◌, ap, append_assoc, arith, length-append, subst}
use Rattle.std.proofs.Math.Seq.{take-append-add}
use Rattle.std.proofs.lemmas.List.{take_more, take-append-drop}
use Rattle.bank_core.specs.BankView.{BankView}
use Rattle.host_core.specs.Parts.{HostParts}
use Rattle.host_core.specs.Standing.{HostStands}
use Rattle.pool_lines.specs.declared.reply.Reply.{Reply}
use Rattle.pool_runs.specs.HostRows.{acts_in}
use Rattle.pool_runs.specs.Hosts.{Host, host_along}
use Rattle.script_front.specs.declared.stop.Stop.{Stop}
use Rattle.script_front.specs.declared.stop.Stop.TheVariants as stops
use Rattle.script_front.specs.Feeding.{Feeds, Breaks, Overflows, StopsBy, HandlesLine, BreaksLine}
use Rattle.script_front.specs.Lines.{lines_of, newline, Ends, IsOpen, longest}
use Rattle.script_front.specs.Told.{texts}
use Rattle.script_front.specs.Session.{CutsLast, Handles}
use Rattle.script_front.proofs.LineEnds.{ended, newline_ends, byte_waits, ends_none, ends_more, short_more, overflow}
use Rattle.script_front.proofs.Handling.{behind, handles_none, handles_more, texts_more}

-- a line that has ended
pub line_feeds : {h : Host} {old new : HostParts} {from to : BankView} {sink sink' gave gave' : Option (List ℕ)} (waiting left : List ℕ) → left ≡ []
    → IsOpen waiting → length waiting ≤ longest → HandlesLine h waiting old new from to sink sink' gave gave' → Feeds h waiting (newline ∷ []) left old new from to sink sink' gave gave'
line_feeds waiting left empty is_open fits l = rw empty (record {
  lines = waiting ∷ [];
  entries = l.entry ∷ [];
  replies = l.told ∷ [];
  ends = newline_ends waiting is_open;
  short = (fits, tt);
  fits = omega arith;
  handles = l.handles;
  stands = l.stands;
})

-- a single reply line may be cut anywhere
pub cuts_one : (told : Reply) (k : ℕ) → CutsLast (told ∷ []) k
cuts_one told k = record { before = []; last = told ∷ []; split = refl; one = omega arith; whole = omega arith }

line_breaks : (h : Host) (old new : HostParts) (from to : BankView) (sink sink' gave gave' : Option (List ℕ)) (waiting : List ℕ)
    → IsOpen waiting → length waiting ≤ longest → BreaksLine h waiting old new from to sink sink' gave gave' → Breaks h waiting (newline ∷ []) old new from to sink sink' gave gave'
line_breaks h old new from to sink sink' gave gave' waiting is_open fits l = record {
  lines = waiting ∷ [];
  entries = l.entry ∷ [];
  replies = l.told ∷ [];
  kept = l.kept;
  cut = cuts_one l.told l.kept;
  first = λ rest. (lines_of rest, ended waiting rest is_open);
  short = (fits, tt);
  handles = l.handles;
}

-- a line whose reply could not be written
pub line_stops : (h : Host) (old new : HostParts) (from to : BankView) (sink sink' gave gave' : Option (List ℕ)) (waiting : List ℕ) (stop : Stop)
    → (stop ≢ stops.TooLong) → IsOpen waiting → length waiting ≤ longest → BreaksLine h waiting old new from to sink sink' gave gave'
    → StopsBy stop h waiting (newline ∷ []) old new from to sink sink' gave gave'
line_stops h old new from to sink sink' gave gave' waiting stops.Sink whole is_open fits l = line_breaks h old new from to sink sink' gave gave' waiting is_open fits l
line_stops h old new from to sink sink' gave gave' waiting stops.Memory whole is_open fits l = line_breaks h old new from to sink sink' gave gave' waiting is_open fits l
line_stops h old new from to sink sink' gave gave' waiting stops.TooLong whole is_open fits l = absurd (whole refl)

-- a byte that ends no line waits
pub byte_feeds : {h : Host} {host : HostParts} {bank : BankView} {sink gave : Option (List ℕ)} (waiting left : List ℕ) (b : ℕ) → left ≡ waiting ++ b ∷ []
    → IsOpen waiting → (b == newline) ≡ false → length waiting < longest → HostStands host bank h → Feeds h waiting (b ∷ []) left host host bank bank sink sink gave gave
byte_feeds {h} {host} {bank} {sink} {gave} waiting left b is is_open other short stands = rw is (record {
  lines = [];
  entries = [];
  replies = [];
  ends = byte_waits waiting b is_open other;
  short = tt;
  fits = rw length-append (omega arith);
  handles = handles_none h host bank sink gave;
  stands = stands;
})

-- or it finds no memory
pub byte_breaks : {h : Host} {host : HostParts} {bank : BankView} {sink gave : Option (List ℕ)} (waiting bytes : List ℕ) → Breaks h waiting bytes host host bank bank sink sink gave gave
byte_breaks {h} {host} {bank} {sink} {gave} waiting bytes = record {
  lines = [];
  entries = [];
  replies = [];
  kept = 0;
  cut = record { before = []; last = []; split = refl; one = omega arith; whole = omega arith };
  first = λ rest. (lines_of (waiting ++ (bytes ++ rest)), refl);
  short = tt;
  handles = handles_none h host bank sink gave;
}

-- or its line is full
pub byte_overflows : {h : Host} {host : HostParts} {bank : BankView} {sink gave : Option (List ℕ)} (waiting : List ℕ) (b : ℕ) → IsOpen waiting
    → (b == newline) ≡ false → longest ≤ length waiting → Overflows h waiting (b ∷ []) host host bank bank sink sink gave gave
byte_overflows {h} {host} {bank} {sink} {gave} waiting b is_open other full = record {
  lines = [];
  entries = [];
  replies = [];
  first = λ rest. overflow waiting b rest is_open other full;
  short = tt;
  handles = handles_none h host bank sink gave;
}

-- nothing was taken yet
pub feeds_none : {h : Host} {host : HostParts} {bank : BankView} {sink gave : Option (List ℕ)} (waiting : List ℕ) → IsOpen waiting
    → length waiting ≤ longest → HostStands host bank h → Feeds h waiting [] waiting host host bank bank sink sink gave gave
feeds_none {h} {host} {bank} {sink} {gave} waiting is_open fits stands = record {
  lines = [];
  entries = [];
  replies = [];
  ends = ends_none waiting is_open;
  short = tt;
  fits = fits;
  handles = handles_none h host bank sink gave;
  stands = stands;
}

-- a piece, and then more
pub feeds_more : {h : Host} {old mid new : HostParts} {from by to : BankView} {sink sink' sink'' gave gave' gave'' : Option (List ℕ)} (waiting first between second left : List ℕ)
    → (a : Feeds h waiting first between old mid from by sink sink' gave gave') → Feeds (host_along (acts_in a.entries) h) between second left mid new by to sink' sink'' gave' gave''
    → Feeds h waiting (first ++ second) left old new from to sink sink'' gave gave''
feeds_more {h} {old} {mid} {new} {from} {by} {to} {sink} {sink'} {sink''} {gave} {gave'} {gave''} waiting first between second left a b = record {
  lines = a.lines ++ b.lines;
  entries = a.entries ++ b.entries;
  replies = a.replies ++ b.replies;
  ends = ends_more waiting first between second left a.lines b.lines a.ends b.ends;
  short = short_more a.lines b.lines a.short b.short;
  fits = b.fits;
  handles = subst (Handles h (a.lines ++ b.lines) old new from to sink sink'' gave gave'' (a.entries ++ b.entries) (a.replies ++ b.replies)) (texts_more a.replies b.replies)
      (handles_more h a.lines b.lines old mid new from by to sink sink' sink'' gave gave' gave'' a.entries b.entries a.replies b.replies (texts a.replies) (texts b.replies) a.handles b.handles);
  stands = subst (HostStands new to) (behind a.entries b.entries h) b.stands;
}

-- the lines of what waited, a piece and what it breaks off in
lines_on : (waiting first between second rest : List ℕ) (lines : List (List ℕ)) → Ends waiting first lines between
    → lines_of (waiting ++ ((first ++ second) ++ rest)) ≡ lines ++ lines_of (between ++ (second ++ rest))
lines_on waiting first between second rest lines ends = ap (λ bytes. lines_of (waiting ++ bytes)) (append_assoc first second rest) ∙ ends.each (second ++ rest)

-- a front of the second text, behind all of the first
pub texts_front : (replies more : List Reply) (kept : ℕ) → texts replies ++ take kept (texts more) ≡ take (length (texts replies) + kept) (texts (replies ++ more))
texts_front replies more kept = sym (ap (take (length (texts replies) + kept)) (sym (texts_more replies more)) ∙ take-append-add (texts replies) (texts more) kept)

at_most_on : (m n k : ℕ) → n ≤ k → m + n ≤ m + k
at_most_on m n k le = omega arith

-- whole reply lines before
pub cuts_more : (replies more : List Reply) (k : ℕ) → CutsLast more k → CutsLast (replies ++ more) (length (texts replies) + k)
cuts_more replies more k c = record {
  before = replies ++ c.before;
  last = c.last;
  split = ap (λ m. replies ++ m) c.split ∙ sym (append_assoc replies c.before c.last);
  one = c.one;
  whole = rw (sym (texts_more replies c.before), length-append) (at_most_on (length (texts replies)) (length (texts c.before)) k c.whole);
}

module _ (h : Host) (old mid new : HostParts) (from by to : BankView) (sink sink' sink'' gave gave' gave'' : Option (List ℕ)) (waiting first between second : List ℕ)
    (a : Feeds h waiting first between old mid from by sink sink' gave gave') where
  breaks_more : Breaks (host_along (acts_in a.entries) h) between second mid new by to sink' sink'' gave' gave'' → Breaks h waiting (first ++ second) old new from to sink sink'' gave gave''
  breaks_more b = record {
    lines = a.lines ++ b.lines;
    entries = a.entries ++ b.entries;
    replies = a.replies ++ b.replies;
    kept = length (texts a.replies) + b.kept;
    cut = cuts_more a.replies b.replies b.kept b.cut;
    first = λ rest. let more = b.first rest in
        (more.0, lines_on waiting first between second rest a.lines a.ends ∙ ap (λ l. a.lines ++ l) more.1 ∙ sym (append_assoc a.lines b.lines more.0));
    short = short_more a.lines b.lines a.short b.short;
    handles = subst (Handles h (a.lines ++ b.lines) old new from to sink sink'' gave gave'' (a.entries ++ b.entries) (a.replies ++ b.replies)) (texts_front a.replies b.replies b.kept)
        (handles_more h a.lines b.lines old mid new from by to sink sink' sink'' gave gave' gave'' a.entries b.entries a.replies b.replies (texts a.replies) (take b.kept (texts b.replies)) a.handles b.handles);
  }

  overflows_more : Overflows (host_along (acts_in a.entries) h) between second mid new by to sink' sink'' gave' gave'' → Overflows h waiting (first ++ second) old new from to sink sink'' gave gave''
  overflows_more b = record {
    lines = a.lines ++ b.lines;
    entries = a.entries ++ b.entries;
    replies = a.replies ++ b.replies;
    first = λ rest. let more = b.first rest in
        (more.0, more.1, lines_on waiting first between second rest a.lines a.ends ∙ ap (λ l. a.lines ++ l) more.2 ∙ sym (append_assoc a.lines b.lines (more.0 ∷ more.1)), more.3);
    short = short_more a.lines b.lines a.short b.short;
    handles = subst (Handles h (a.lines ++ b.lines) old new from to sink sink'' gave gave'' (a.entries ++ b.entries) (a.replies ++ b.replies)) (texts_more a.replies b.replies)
        (handles_more h a.lines b.lines old mid new from by to sink sink' sink'' gave gave' gave'' a.entries b.entries a.replies b.replies (texts a.replies) (texts b.replies) a.handles b.handles);
  }

-- a piece, and then what broke off
pub stops_more : (h : Host) (old mid new : HostParts) (from by to : BankView) (sink sink' sink'' gave gave' gave'' : Option (List ℕ)) (waiting first between second : List ℕ) (stop : Stop)
    → (a : Feeds h waiting first between old mid from by sink sink' gave gave') → StopsBy stop (host_along (acts_in a.entries) h) between second mid new by to sink' sink'' gave' gave''
    → StopsBy stop h waiting (first ++ second) old new from to sink sink'' gave gave''
stops_more h old mid new from by to sink sink' sink'' gave gave' gave'' waiting first between second stops.Sink a b =
    breaks_more h old mid new from by to sink sink' sink'' gave gave' gave'' waiting first between second a b
stops_more h old mid new from by to sink sink' sink'' gave gave' gave'' waiting first between second stops.Memory a b =
    breaks_more h old mid new from by to sink sink' sink'' gave gave' gave'' waiting first between second a b
stops_more h old mid new from by to sink sink' sink'' gave gave' gave'' waiting first between second stops.TooLong a b =
    overflows_more h old mid new from by to sink sink' sink'' gave gave' gave'' waiting first between second a b

-- what follows in the piece changes nothing of it
breaks_within : (h : Host) (old new : HostParts) (from to : BankView) (sink sink' gave gave' : Option (List ℕ)) (waiting bytes more : List ℕ)
    → Breaks h waiting bytes old new from to sink sink' gave gave' → Breaks h waiting (bytes ++ more) old new from to sink sink' gave gave'
breaks_within h old new from to sink sink' gave gave' waiting bytes more b = record {
  lines = b.lines;
  entries = b.entries;
  replies = b.replies;
  kept = b.kept;
  cut = b.cut;
  first = λ rest. let found = b.first (more ++ rest) in (found.0, ap (λ t. lines_of (waiting ++ t)) (append_assoc bytes more rest) ∙ found.1);
  short = b.short;
  handles = b.handles;
}

pub stops_within : (h : Host) (old new : HostParts) (from to : BankView) (sink sink' gave gave' : Option (List ℕ)) (waiting bytes more : List ℕ) (stop : Stop)
    → StopsBy stop h waiting bytes old new from to sink sink' gave gave' → StopsBy stop h waiting (bytes ++ more) old new from to sink sink' gave gave'
stops_within h old new from to sink sink' gave gave' waiting bytes more stops.Sink b = breaks_within h old new from to sink sink' gave gave' waiting bytes more b
stops_within h old new from to sink sink' gave gave' waiting bytes more stops.Memory b = breaks_within h old new from to sink sink' gave gave' waiting bytes more b
stops_within h old new from to sink sink' gave gave' waiting bytes more stops.TooLong b = record {
  lines = b.lines;
  entries = b.entries;
  replies = b.replies;
  first = λ rest. let found = b.first (more ++ rest) in (found.0, found.1, ap (λ t. lines_of (waiting ++ t)) (append_assoc bytes more rest) ∙ found.2, found.3);
  short = b.short;
  handles = b.handles;
}

-- a piece is what came before a byte, that byte, and what comes behind it
pub piece_split : (piece : List ℕ) (i : ℕ) → i < length piece → (take i piece ++ get_or piece i 0 ∷ []) ++ drop (i + 1) piece ≡ piece
piece_split piece i inside = ap (λ front. front ++ drop (i + 1) piece) (sym (take_more piece i 0 inside)) ∙ take-append-drop (i + 1) piece
