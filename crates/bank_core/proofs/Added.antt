-- What a bank tells with another device.
use Rattle.std.proofs.Common.{◌≡◌, Bool, true, false, cond, List, [], ◌∷◌, ◌++◌, length, Some, None, refl, ap, ◌∙◌, arith, subst}
use Rattle.std.proofs.lemmas.List.{length-append}
use Rattle.std.proofs.lemmas.List.{map-append}
use Rattle.std.proofs.lemmas.Option.{none-some}
use Rattle.bank_core.specs.declared.call.MemCall.{MemCall}
use Rattle.bank_core.specs.declared.device.MemDevice.{MemDevice}
use Rattle.bank_core.specs.declared.memory.MemBank.{MemBank}
use Rattle.bank_core.specs.Memory.{story_in, image_sector, with_device, sectors_of}
use Rattle.bank_core.specs.MemBank.{IsAdded, bank_devices}
use Rattle.bank_core.specs.Story.{Story}
use Rattle.bank_core.proofs.Adding.{added_sectors, get_front, get_last}

no_calls : (calls : List MemCall) → length calls ≡ 0 → calls ≡ []
no_calls [] e = refl
no_calls (x ∷ calls) e = absurd (omega (arith, e))

is_story : (a b : Story) → Some a ≡ Some b → a ≡ b
is_story a b e = cc

story_added : (devices : List MemDevice) (x : MemDevice)
    → story_in (devices ++ x ∷ []) []
    ≡ record { start = with_device (story_in devices []).start (length devices) (image_sector x.sectors x.first.items x.damage.items (length devices)); calls = [] }
story_added devices x = ap (λ start. record { start = start; calls = [] }) (added_sectors devices x)

told_added : (devices : List MemDevice) (x : MemDevice) (tells : Bool) (story : Story)
    → cond tells (Some (story_in devices [])) None ≡ Some story
    → cond tells (Some (story_in (devices ++ x ∷ []) [])) None
    ≡ Some (record { start = with_device story.start (length devices) (image_sector x.sectors x.first.items x.damage.items (length devices)); calls = [] })
told_added devices x true story e =
    ap Some (story_added devices x
    ∙ ap (λ told. record { start = with_device told.start (length devices) (image_sector x.sectors x.first.items x.damage.items (length devices)); calls = [] })
    (is_story _ story e))
told_added devices x false story e = absurd (none-some story e)

pub is_added : (old new : MemBank) (x : MemDevice) → new.devices.items ≡ old.devices.items ++ x ∷ [] → new.calls.items ≡ old.calls.items
    → new.faults ≡ old.faults → new.tells ≡ old.tells → length old.calls.items ≡ 0
    → IsAdded old new x.name x.sectors (image_sector x.sectors x.first.items x.damage.items (bank_devices old))
is_added old new x devices calls faults tells early =
    let none : old.calls.items ≡ [] = no_calls old.calls.items early in
    record {
      devices = rw devices (length-append old.devices.items (x ∷ []));
      names = rw devices (map-append (λ device. device.name) old.devices.items (x ∷ []));
      size = rw devices (ap sectors_of (get_last old.devices.items x));
      sizes = λ d lt. rw devices (ap sectors_of (get_front old.devices.items x d lt));
      calls = rw calls early;
      faults = faults;
      told = λ story e. rw (devices, calls, tells, none)
          (told_added old.devices.items x old.tells story (subst (λ list. cond old.tells (Some (story_in old.devices.items list)) None ≡ Some story) none e));
    }
