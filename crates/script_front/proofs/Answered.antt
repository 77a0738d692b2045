-- A line is answered as it is asked.
use Rattle.std.proofs.Common.{◌≡◌, ◌⊎◌, inl, inr, ℕ, List, [], Some, None, Result, Ok, refl, sym, ap, subst}
use Rattle.mp_base.specs.declared.fault.MemFault.{MemFault}
use Rattle.bank_core.specs.BankView.{BankView}
use Rattle.bank_core.proofs.Framing.{makes_none}
use Rattle.host_core.specs.Answering.{IsLine, Answers}
use Rattle.host_core.specs.Parts.{HostParts}
use Rattle.host_core.specs.Standing.{HostStands, IsSeated}
use Rattle.pool_lines.specs.Grammar.{Asks}
use Rattle.pool_lines.specs.declared.refusal.Refusal.TheVariants as refusals
use Rattle.pool_lines.specs.declared.reply.Reply.{Reply}
use Rattle.pool_lines.specs.declared.reply.Reply.TheVariants as replies
use Rattle.pool_lines.specs.declared.request.Request.{Request}
use Rattle.pool_lines.specs.declared.request.Request.TheVariants.{Create, Import, Online}
use Rattle.mp_base.specs.declared.name.Name.{Name}
use Rattle.pool_runs.specs.Hosts.{Host, host_along}
use Rattle.pool_runs.specs.Lines.{Asked, Asks_nothing, To_nothing}
use Rattle.script_front.specs.Answering.{MayTell, Replies, AnswersLine}
use Rattle.script_front.specs.Asking.{asked_of}
use Rattle.script_front.specs.Telling.{Tells, refused}

pub replied : {asked : Asked} {h : Host} {new : HostParts} {from to : BankView} (told : Reply) → Answers asked (λ reply. Tells h asked reply told) h new from to
    → Replies (Some asked) h new from to (Ok told)
replied told a = record {
  entry = a.entry;
  hears = a.hears;
  line = a.line;
  told = told;
  asks = record { asks = a.asks; tells = a.says };
  says = refl;
}

pub may_replied : {asked : Asked} {h : Host} {new : HostParts} {from to : BankView} (answer : Result Reply MemFault) → Answers asked (λ reply. MayTell h asked reply answer) h new from to
    → Replies (Some asked) h new from to answer
may_replied answer a = record {
  entry = a.entry;
  hears = a.hears;
  line = a.line;
  told = a.says.told;
  asks = record { asks = a.asks; tells = a.says.tells };
  says = a.says.says;
}

-- an entry that asks nothing
module _ (host : HostParts) (bank : BankView) (h : Host) (was : HostStands host bank h) where
  is_line : IsLine h (record { asked = Asks_nothing; second = h.second; acts = []; reply = To_nothing }) host bank bank
  is_line = record { row = inl (refl, refl); here = tt; calls = makes_none; stands = was }

  pub nothing_asked : Replies (Some Asks_nothing) h host bank bank (Ok replies.Done)
  nothing_asked = record {
    entry = record { asked = Asks_nothing; second = h.second; acts = []; reply = To_nothing };
    hears = refl;
    line = is_line;
    told = replies.Done;
    asks = record { asks = refl; tells = refl };
    says = refl;
  }

  pub not_built : Replies None h host bank bank (Ok (refused refusals.NotBuilt))
  not_built = record {
    entry = record { asked = Asks_nothing; second = h.second; acts = []; reply = To_nothing };
    hears = refl;
    line = is_line;
    told = refused refusals.NotBuilt;
    asks = record { asks = refl; answers = refl; told_is = refl };
    says = refl;
  }

  pub bad_line : (line : List ℕ) → ((request : Request) → ¬ (Asks line request)) → AnswersLine line h host bank bank (Ok (refused refusals.NotBuilt))
  bad_line line bad = record {
    entry = record { asked = Asks_nothing; second = h.second; acts = []; reply = To_nothing };
    hears = refl;
    is_line = is_line;
    told = refused refusals.NotBuilt;
    is_told = inr (inl (record { asks = bad; entry = record { asks = refl; answers = refl; told_is = refl } }));
    says = refl;
  }

  pub unread_line : (line : List ℕ) → AnswersLine line h host bank bank (Ok (refused refusals.Memory))
  unread_line line = record {
    entry = record { asked = Asks_nothing; second = h.second; acts = []; reply = To_nothing };
    hears = refl;
    is_line = is_line;
    told = refused refusals.Memory;
    is_told = inr (inr (record { asks = refl; answers = refl; told_is = refl }));
    says = refl;
  }

pub line_asked : {line : List ℕ} (request : Request) → Asks line request → {h : Host} {new : HostParts} {from to : BankView} {answer : Result Reply MemFault}
    → Replies (asked_of request) h new from to answer → AnswersLine line h new from to answer
line_asked request asks r = record {
  entry = r.entry;
  hears = r.hears;
  is_line = r.line;
  told = r.told;
  is_told = inl (record { request = request; asks = asks; entry = r.asks });
  says = r.says;
}

pub still_seated : {line : List ℕ} {host new : HostParts} {from to : BankView} {answer : Result Reply MemFault}
    → ((h : Host) → HostStands host from h → AnswersLine line h new from to answer) → IsSeated host from → IsSeated new to
still_seated answers seated = let a = answers seated.h seated.stands in record { h = host_along a.entry.acts seated.h; stands = a.is_line.stands }

-- by what the request is
pub of_request : (request is : Request) → request ≡ is → {h : Host} {new : HostParts} {from to : BankView} {answer : Result Reply MemFault} → Replies (asked_of is) h new from to answer
    → Replies (asked_of request) h new from to answer
of_request request is same {h} {new} {from} {to} {answer} r = subst (λ x. Replies (asked_of x) h new from to answer) (sym same) r

pub of_none : (request : Request) → asked_of request ≡ None → {h : Host} {new : HostParts} {from to : BankView} {answer : Result Reply MemFault} → Replies None h new from to answer
    → Replies (asked_of request) h new from to answer
of_none request none {h} {new} {from} {to} {answer} r = subst (λ x. Replies x h new from to answer) (sym none) r

-- these aren't built yet
pub unbuilt : (request : Request) → ((pool : Name) × (blocks : ℕ) × (tops : List (List (List ℕ))) × (request ≡ Create pool blocks tops))
    ⊎ (((pool : Name) × (request ≡ Import pool)) ⊎ ((pool : Name) × (device : Name) × (request ≡ Online pool device))) → asked_of request ≡ None
unbuilt request (inl (pool, blocks, tops, is)) = ap asked_of is
unbuilt request (inr (inl (pool, is))) = ap asked_of is
unbuilt request (inr (inr (pool, device, is))) = ap asked_of is
