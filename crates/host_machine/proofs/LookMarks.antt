-- Where the marks of openings stand.
use Rattle.std.proofs.Common.{◌≡◌, ℕ, List, [], ◌∷◌, ◌++◌, Option, sym, ap, ◌∙◌, subst, append_assoc, append-nil}
use Rattle.bank_core.specs.Disk.{Noted}
use Rattle.pool_history.specs.Events.{Event, Calls, Accepts, Looks, Opens, Begins, Third, Ends, Acks, Loses, Stops, calls_of}
use Rattle.label_store.specs.Newest.{IsLook}
use Rattle.pool_history.specs.Looks.{known_by}
use Rattle.host_machine.specs.Devices.{all_handed}
use Rattle.host_machine.specs.Machine.{HostState}
use Rattle.host_machine.specs.Tracking.{IsLooked, AreLooked}

mark_behind : (h : HostState) (more calls : List Noted) (known : ℕ → ℕ → Option (List ℕ)) → IsLooked h calls known → IsLooked h (more ++ calls) known
mark_behind h more calls known l = record {
  earlier = more ++ l.earlier;
  reads = l.reads;
  all = ap (λ cs. more ++ cs) l.all ∙ sym (append_assoc more l.earlier l.reads);
  looks = l.looks;
  look = l.look;
  known_is = l.known_is;
}

-- they may come behind more calls
pub looked_behind : (h : HostState) (more calls : List Noted) (vs : List Event) → AreLooked h calls vs → AreLooked h (more ++ calls) vs
looked_behind h more calls [] l = tt
looked_behind h more calls (Calls noted ∷ vs) l = subst (λ cs. AreLooked h cs vs) (sym (append_assoc more calls (noted ∷ []))) (looked_behind h more (calls ++ noted ∷ []) vs l)
looked_behind h more calls (Accepts a block ∷ vs) l = looked_behind h more calls vs l
looked_behind h more calls (Looks known ∷ vs) l = (mark_behind h more calls known l.0, looked_behind h more calls vs l.1)
looked_behind h more calls (Opens r ∷ vs) l = looked_behind h more calls vs l
looked_behind h more calls (Begins q ∷ vs) l = looked_behind h more calls vs l
looked_behind h more calls (Third q d ∷ vs) l = looked_behind h more calls vs l
looked_behind h more calls (Ends q d ∷ vs) l = looked_behind h more calls vs l
looked_behind h more calls (Acks q ∷ vs) l = looked_behind h more calls vs l
looked_behind h more calls (Loses d ∷ vs) l = looked_behind h more calls vs l
looked_behind h more calls (Stops sectors size ∷ vs) l = looked_behind h more calls vs l

-- some events, and more
pub looked_more : (h : HostState) (calls : List Noted) (vs more : List Event) → AreLooked h calls vs → AreLooked h (calls ++ calls_of vs) more → AreLooked h calls (vs ++ more)
looked_more h calls [] more a b = subst (λ cs. AreLooked h cs more) (append-nil calls) b
looked_more h calls (Calls noted ∷ vs) more a b =
    looked_more h (calls ++ noted ∷ []) vs more a (subst (λ cs. AreLooked h cs more) (sym (append_assoc calls (noted ∷ []) (calls_of vs))) b)
looked_more h calls (Accepts x block ∷ vs) more a b = looked_more h calls vs more a b
looked_more h calls (Looks known ∷ vs) more a b = (a.0, looked_more h calls vs more a.1 b)
looked_more h calls (Opens r ∷ vs) more a b = looked_more h calls vs more a b
looked_more h calls (Begins q ∷ vs) more a b = looked_more h calls vs more a b
looked_more h calls (Third q d ∷ vs) more a b = looked_more h calls vs more a b
looked_more h calls (Ends q d ∷ vs) more a b = looked_more h calls vs more a b
looked_more h calls (Acks q ∷ vs) more a b = looked_more h calls vs more a b
looked_more h calls (Loses d ∷ vs) more a b = looked_more h calls vs more a b
looked_more h calls (Stops sectors size ∷ vs) more a b = looked_more h calls vs more a b

mark_on : (h g : HostState) (calls : List Noted) (known : ℕ → ℕ → Option (List ℕ)) → g.size ≡ h.size → g.table ≡ h.table → IsLooked g calls known → IsLooked h calls known
mark_on h g calls known size table l = record {
  earlier = l.earlier;
  reads = l.reads;
  all = l.all;
  looks = l.looks;
  look = subst (λ n. IsLook n (all_handed h.table) l.looks l.reads) size (subst (λ t. IsLook g.size (all_handed t) l.looks l.reads) table l.look);
  known_is = l.known_is ∙ ap (λ t. known_by g.size (all_handed t) l.looks) table ∙ ap (λ n. known_by n (all_handed h.table) l.looks) size;
}

-- a host of the same devices looks at the same
pub looked_on : (h g : HostState) (calls : List Noted) (vs : List Event) → g.size ≡ h.size → g.table ≡ h.table → AreLooked g calls vs → AreLooked h calls vs
looked_on h g calls [] size table l = tt
looked_on h g calls (Calls noted ∷ vs) size table l = looked_on h g (calls ++ noted ∷ []) vs size table l
looked_on h g calls (Accepts a block ∷ vs) size table l = looked_on h g calls vs size table l
looked_on h g calls (Looks known ∷ vs) size table l = (mark_on h g calls known size table l.0, looked_on h g calls vs size table l.1)
looked_on h g calls (Opens r ∷ vs) size table l = looked_on h g calls vs size table l
looked_on h g calls (Begins q ∷ vs) size table l = looked_on h g calls vs size table l
looked_on h g calls (Third q d ∷ vs) size table l = looked_on h g calls vs size table l
looked_on h g calls (Ends q d ∷ vs) size table l = looked_on h g calls vs size table l
looked_on h g calls (Acks q ∷ vs) size table l = looked_on h g calls vs size table l
looked_on h g calls (Loses d ∷ vs) size table l = looked_on h g calls vs size table l
looked_on h g calls (Stops sectors room ∷ vs) size table l = looked_on h g calls vs size table l

-- One line's events, and those of the lines behind it.
pub looked_then : (h between : HostState) (vs more : List Event) → between.size ≡ h.size → between.table ≡ h.table → AreLooked h [] vs → AreLooked between [] more → AreLooked h [] (vs ++ more)
looked_then h between vs more size table one two =
    looked_more h [] vs more one
    (subst (λ cs. AreLooked h cs more) (append-nil (calls_of vs)) (looked_behind h (calls_of vs) [] more (looked_on h between [] more size table two)))
