-- Members on devices of a bank.
use Rattle.std.specs.Prelude.{◌≡◌, ◌≢◌, ℕ, ◌<◌, ◌≤◌, List, Some, slice_get}
use Rattle.label_store.specs.declared.member.Member.{Member}

-- each member's device is a bank's of these sizes, and has room for the labels
abbrev pub AreSeated : (ℕ → ℕ) → List Member → Type 0
AreSeated size members = (i : ℕ) (m : Member) → slice_get members i ≡ Some m → 320 ≤ size m.dev

-- no two members have one device
abbrev pub AreApart : List Member → Type 0
AreApart members = (i j : ℕ) (m n : Member) → slice_get members i ≡ Some m → slice_get members j ≡ Some n → i < j → m.dev ≢ n.dev
