-- The list of calls, told.
use Rattle.std.proofs.Common.{◌≡◌, ◌≢◌, ℕ, ◌≤◌, Bool, true, false, cond, is_some, List, [], ◌∷◌, ◌++◌, Option, Some, None, IfSome, IfNone, refl, sym, ap, ◌∙◌}
use Rattle.std.proofs.lemmas.List.{map-append}
use Rattle.std.proofs.lemmas.Option.{none-some}
use Rattle.mp_base.specs.Outside.{Rose}
use Rattle.bank_core.specs.declared.bank.Fault.{Fault}
use Rattle.bank_core.specs.declared.call.CallKind.{CallKind}
use Rattle.bank_core.specs.declared.call.CallKind.TheVariants as kind
use Rattle.bank_core.specs.declared.call.MemCall.{MemCall}
use Rattle.bank_core.specs.declared.device.MemDevice.{MemDevice}
use Rattle.bank_core.specs.declared.memory.MemBank.{MemBank}
use Rattle.bank_core.specs.Calls.{Called, device_of, fault_of}
use Rattle.bank_core.specs.Disk.{Call}
use Rattle.bank_core.specs.MemBank.{bank_faults, bank_view}
use Rattle.bank_core.specs.Story.{Story, Tells, goes_on}
use Rattle.bank_core.specs.Memory.{story_in, noted_in, size_in, number_in, names_in, call_as, call_of, AnswersThere}

same_story : (a b : Story) → Some a ≡ Some b → a ≡ b
same_story a b e = cc

one_more : (devices : List MemDevice) (calls : List MemCall) (x : MemCall)
    → story_in devices (calls ++ x ∷ []) ≡ goes_on (story_in devices calls) (noted_in (size_in devices) x ∷ [])
one_more devices calls x =
    ap (λ noted. record { start = (story_in devices calls).start; calls = noted }) (map-append (noted_in (size_in devices)) calls (x ∷ []))

tells_one : (devices : List MemDevice) (calls : List MemCall) (x : MemCall) → AnswersThere devices calls x
    → (tells : Bool) → Tells (cond tells (Some (story_in devices calls)) None) (cond tells (Some (story_in devices (calls ++ x ∷ []))) None) (call_of x)
tells_one devices calls x answers true = record {
  by = λ story' e. (
    (noted_in (size_in devices) x).damage,
    record {
      story = story_in devices calls;
      before = refl;
      after = sym (same_story _ _ e) ∙ one_more devices calls x;
      answers = (answers, tt);
    },
  );
}
tells_one devices calls x answers false = record { by = λ story' e. absurd (none-some story' e) }

-- A call that was put into the list is told.
kept_is_told : (devices devices' : List MemDevice) (calls calls' : List MemCall) (tells tells' : Bool) (x : MemCall) (call : Call)
    → devices' ≡ devices → tells' ≡ tells → calls' ≡ calls ++ x ∷ [] → call ≡ call_of x → AnswersThere devices calls x
    → Tells (cond tells (Some (story_in devices calls)) None) (cond tells' (Some (story_in devices' calls')) None) call
kept_is_told devices devices' calls calls' tells tells' x call d t c is answers = rw (d, t, c, is) (tells_one devices calls x answers tells)

-- a bank that tells as before tells where it did
still_telling : (story story' : Story) (tells tells' : Bool) → tells' ≡ tells → is_some (cond tells (Some story) None) ≡ true
    → is_some (cond tells' (Some story') None) ≡ true
still_telling story story' true tells' e was = rw e refl
still_telling story story' false tells' e was = absurd (cc)

pub device_as : (of : CallKind) (dev at : ℕ) (bytes : List ℕ) (fault : Option Fault) → device_of (call_as of dev at bytes fault) ≡ dev
device_as kind.Read dev at bytes fault = refl
device_as kind.Write dev at bytes fault = refl
device_as kind.Flush dev at bytes fault = refl

pub fault_as : (of : CallKind) (dev at : ℕ) (bytes : List ℕ) (fault : Option Fault) → fault_of (call_as of dev at bytes fault) ≡ fault
fault_as kind.Read dev at bytes fault = refl
fault_as kind.Write dev at bytes fault = refl
fault_as kind.Flush dev at bytes fault = refl

-- a call that was put into the list, with its answer, was made
pub kept_is_called : (old new : MemBank) (x : MemCall) (outcome : Option Fault) → new.devices ≡ old.devices → new.tells ≡ old.tells
    → new.calls.items ≡ old.calls.items ++ x ∷ [] → x.fault ≡ outcome → AnswersThere old.devices.items old.calls.items x
    → ((d : ℕ) → bank_faults old d ≤ bank_faults new d) → IfSome outcome (λ fault. Rose (bank_faults old x.dev) (bank_faults new x.dev))
    → IfNone outcome ((d : ℕ) → bank_faults new d ≡ bank_faults old d) → ((d : ℕ) → d ≢ x.dev → bank_faults new d ≡ bank_faults old d)
    → Called (call_as x.kind x.dev x.at x.bytes.items outcome) (bank_view old) (bank_view new)
kept_is_called old new x outcome devices tells calls is answers counts cause still others =
    let dev = device_as x.kind x.dev x.at x.bytes.items outcome in
    let fault = fault_as x.kind x.dev x.at x.bytes.items outcome in
    let same = ap (λ list. list.items) devices in
    record {
      frame = record {
        sizes = λ d. ap (λ list. size_in list d) same;
        numbers = λ name. ap (λ list. number_in list name) same;
        names = ap (λ list. Some (names_in list)) same;
        lookups = refl;
        counts = counts;
        telling = λ _ was. still_telling _ _ old.tells new.tells tells was;
      };
      cause = rw (dev, fault) cause;
      still = rw fault still;
      others = λ d differs. others d (λ e. differs (e ∙ sym dev));
      told = kept_is_told old.devices.items _ old.calls.items _ old.tells _ x _ same tells calls
          (ap (call_as x.kind x.dev x.at x.bytes.items) (sym is)) answers;
    }

-- a bank with the same devices, list and counts is seen the same
pub same_view : (a b : MemBank) → a.devices ≡ b.devices → a.calls.items ≡ b.calls.items → a.faults ≡ b.faults → a.tells ≡ b.tells → bank_view a ≡ bank_view b
same_view a b devices calls faults tells = rw (devices, calls, faults, tells) refl
