-- The states behind an opening and a create are fit.
use Rattle.std.proofs.Common.{◌≡◌, ℕ, ◌+◌, ◌<◌, ◌≤◌, zero, suc, Bool, true, false, cond, List, [], ◌∷◌, length, Option, Some, None, refl, sym, ap, ◌∙◌, subst, arith, inl, inr}
use Rattle.std.specs.Prelude.{slice_get, IsTrue}
use Rattle.std.specs.Option.{option_map}
use Rattle.std.specs.Str.{bytes_eq}
use Rattle.std.proofs.lemmas.Slice.Eq.{bytes_eq-Decides}
use Rattle.std.proofs.lemmas.Option.{slice_get_past, slice_get_within}
use Rattle.mp_base.specs.Name.{is_name}
use Rattle.label_store.specs.Rounds.{config_of}
use Rattle.group_set.specs.Ranges.{in_ranges, ranges_upto}
use Rattle.config_codec.specs.declared.config.LeafConfig.{LeafConfig}
use Rattle.config_codec.specs.declared.config.Pointer.{Pointer}
use Rattle.config_codec.specs.Fields.{Fields}
use Rattle.config_codec.specs.Reading.{config_in}
use Rattle.config_codec.specs.Validity.{IsValid}
use Rattle.config_codec.proofs.Deciding.{is_config}
use Rattle.config_codec.proofs.Changes.{valid_changed}
use Rattle.pool_history.specs.Records.{Rec, Cell}
use Rattle.pool_core.specs.Making.{top_sectors}
use Rattle.pool_core.specs.Logs.{drawn}
use Rattle.pool_core.specs.Opening.{leaf_on, found_state}
use Rattle.pool_core.specs.Recorded.{pointer_of, pointers_of, fields_in}
use Rattle.pool_core.specs.State.{Known, Summed, Version, new_leaf, is_spent}
use Rattle.host_machine.specs.Fitness.{IsFitLeaf, IsFitPool, PoolIsNamed, IsFit}
use Rattle.host_machine.specs.Machine.{HostState, open_state, new_seats, new_state, is_bad_size}
use Rattle.host_machine.specs.Records.{version_of, versions_of, slot_at, summed, committed_in, IsDrawn, AreDrawn}
use Rattle.host_machine.proofs.DrawnStates.{drawn_fit, drawn_named}
use Rattle.host_machine.proofs.HostSeats.{AreSeated, member_number, member_room}
use Rattle.group_set.proofs.Upto.{ranges_within, upto_back, upto_rises}
use Rattle.pool_core.proofs.Drawing.{IsWithin}
use Rattle.host_machine.proofs.NewStates.{HasNewSeats, new_seats_found, seats_apart, some_blocks, top_room, made_valid}
use Rattle.host_machine.proofs.Settling.{same_some, none_some, pointers_long, pointers_at, map_twice}

-- These versions are what a configuration commits.
pub record AreCommitted (c : Fields) (committed : ℕ → Option Version) : Type 0 where
  pub pointers : (a : ℕ) → a < c.blocks → slice_get c.pointers a ≡ Some (option_map pointer_of (committed a))
  pub beyond : (a : ℕ) → c.blocks ≤ a → committed a ≡ None
  pub whole : (a : ℕ) (version : Version) (block : List ℕ) → committed a ≡ Some version → version.content ≡ Known block → length block ≡ 4096

-- by its pointers alone

get_within : {A : Type 0} (xs : List A) (i : ℕ) → i < length xs → (x : A) × (slice_get xs i ≡ Some x)
get_within [] i below = absurd (omega arith)
get_within (x ∷ xs) zero below = (x, refl)
get_within (x ∷ xs) (suc i) below = get_within xs i (omega arith)

slot_pointer : (slot : Option Pointer) → slot ≡ option_map pointer_of (slot_at (Some slot))
slot_pointer None = refl
slot_pointer (Some p) = refl

slot_unknown : (slot : Option (Option Pointer)) (version : Version) (block : List ℕ) → slot_at slot ≡ Some version → version.content ≡ Known block → ⊥
slot_unknown None version block e known = none_some version e
slot_unknown (Some None) version block e known = none_some version e
slot_unknown (Some (Some p)) version block e known = no p.sum block (ap (λ (v : Version). v.content) (same_some (summed p) version e) ∙ known)
  where
    no : (x y : List ℕ) → Summed x ≡ Known y → ⊥
    no x y e = cc

pointers_committed : (c : Fields) → IsValid c → AreCommitted c (λ a. slot_at (slice_get c.pointers a))
pointers_committed c valid = record {
  pointers = λ a below. let there = get_within c.pointers a (let long = valid.counted in omega (arith, below, long)) in
      there.1 ∙ ap Some (slot_pointer there.0 ∙ ap (λ s. option_map pointer_of (slot_at s)) (sym there.1));
  beyond = λ a above. ap slot_at (slice_get_past c.pointers a (let long = valid.counted in omega (arith, above, long)));
  whole = λ a version block e known. absurd (slot_unknown (slice_get c.pointers a) version block e known);
}

-- as the history drew it up

cell_whole : (r : Rec) (a : ℕ) (cell : Option Cell) (version : Version) (block : List ℕ) → ((one : Cell) → cell ≡ Some one → length one.block ≡ 4096)
    → option_map version_of cell ≡ Some version → version.content ≡ Known block → length block ≡ 4096
cell_whole r a None version block whole e known = absurd (none_some version e)
cell_whole r a (Some cell) version block whole e known =
    ap length (sym (same_known cell.block block (ap (λ (v : Version). v.content) (same_some (version_of cell) version e) ∙ known))) ∙ whole cell refl
  where
    same_known : (x y : List ℕ) → Known x ≡ Known y → x ≡ y
    same_known x y e = cc

record_committed : (r : Rec) (c : Fields) → IsDrawn r c → AreCommitted c (versions_of r)
record_committed r c drawn = record {
  pointers = λ a below. drawn.pointers a below ∙ ap Some (sym (map_twice (r.cells a)));
  beyond = λ a above. ap (option_map version_of) (drawn.beyond a above);
  whole = λ a version block e known. cell_whole r a (r.cells a) version block (drawn.whole a) e known;
}

drawn_as : (r : Rec) (c c' : Fields) (config : List ℕ) → config_of r.commit ≡ config → config_in config ≡ Some c → IsDrawn r c' → IsDrawn r c
drawn_as r c c' config same is drawn =
    subst (IsDrawn r) (same_some c' c (sym drawn.config ∙ ap config_in same ∙ is)) drawn

pub found_committed : (records : List Rec) (config : List ℕ) (c : Fields) → AreDrawn records → config_in config ≡ Some c → AreCommitted c (committed_in records config c)
found_committed [] config c drawn is = pointers_committed c (is_config config c is).valid
found_committed (r ∷ records) config c drawn is =
    by (bytes_eq (config_of r.commit) config) refl (found_committed records config c (λ q e. drawn q (inr e)) is)
  where
    by : (b : Bool) → bytes_eq (config_of r.commit) config ≡ b → AreCommitted c (committed_in records config c)
        → AreCommitted c (cond b (versions_of r) (committed_in records config c))
    by true same later = record_committed r c (let mine = drawn r (inl refl) in drawn_as r c mine.0 config ((bytes_eq-Decides (config_of r.commit) config).0 same) is mine.1)
    by false other later = later

-- Behind an opening.

-- The configuration of the state that is opened is valid.
pub found_valid : (c : Fields) (committed : ℕ → Option Version) (found : Option ℕ × Option ℕ) → IsValid c
    → ((a : ℕ) → a < c.blocks → slice_get c.pointers a ≡ Some (option_map pointer_of (committed a))) → IsValid (fields_in (found_state c committed found.0 found.1))
found_valid c committed found v are =
    let now = fields_in (found_state c committed found.0 found.1) in
    valid_changed c c.number now.pointers now.first now.second v (refl, refl) (refl, refl) (record {
      number = v.number;
      counted = pointers_long committed c.blocks;
      pointers = λ a p is.
          let within : a < length (pointers_of committed c.blocks) = slice_get_within (pointers_of committed c.blocks) a (Some p) is in
          let below : a < c.blocks = subst (λ n. a < n) (pointers_long committed c.blocks) within in
          v.pointers a p (are a below ∙ sym (pointers_at committed c.blocks a below) ∙ is);
      first_log = upto_rises (in_ranges c.first.log) c.number.0;
      second_log = upto_rises (in_ranges c.second.log) c.number.0;
      few_ranges =
          subst (λ x. length x + length (ranges_upto (in_ranges c.second.log) c.number.0) ≤ 4096) (sym (upto_back c.number.0 c.first.log v.first_log))
          (subst (λ x. length c.first.log + length x ≤ 4096) (sym (upto_back c.number.0 c.second.log v.second_log)) v.few_ranges);
    })

leaf_fit : (size : ℕ → ℕ) (sectors number : ℕ) (leaf : LeafConfig) (found : Option ℕ) → ((d : ℕ) → found ≡ Some d → sectors + 256 ≤ size d)
    → IsWithin number (in_ranges leaf.log) → IsFitLeaf size sectors number (leaf_on leaf found)
leaf_fit size sectors number leaf None room within = record { seated = λ up. absurd (cc); room = room; logged = within }
leaf_fit size sectors number leaf (Some d) room within = record { seated = λ up. refl; room = room; logged = within }

-- The state that is opened is fit, on devices where its leaves were found.
pub found_fit : (h : HostState) (config : List ℕ) (c : Fields) (found : Option ℕ × Option ℕ) → IsFit h → config_in config ≡ Some c → AreSeated h c found
    → IsFitPool h.size (open_state h config c found)
found_fit h config c found fit is seated = record {
  valid = found_valid c (committed_in h.records config c) found valid are.pointers;
  first = leaf_fit h.size c.sectors c.number.0 c.first found.0 seated.first_room (λ g. ranges_within c.number.0 g c.first.log valid.first_log);
  second = leaf_fit h.size c.sectors c.number.0 c.second found.1 seated.second_room (λ g. ranges_within c.number.0 g c.second.log valid.second_log);
  apart = λ d one two. valid.two_devices (fit.apart.by c.first.name c.second.name d (seated.first_number d one) (seated.second_number d two));
  inside = λ a block e. absurd (none_some block e);
  whole = λ a block e. absurd (none_some block e);
  beyond = are.beyond;
  known_whole = are.whole;
}
  where
    valid : IsValid c
    valid = (is_config config c is).valid

    are : AreCommitted c (committed_in h.records config c)
    are = found_committed h.records config c fit.drawn is

-- and so it is behind the draw of the next number
pub opened_fit : (h : HostState) (config : List ℕ) (c : Fields) (found : Option ℕ × Option ℕ) → IsFit h → config_in config ≡ Some c → is_spent c.number.0 ≡ false → AreSeated h c found
    → IsFitPool h.size (drawn (open_state h config c found))
opened_fit h config c found fit is open_numbers seated = drawn_fit h.size (open_state h config c found) (found_fit h config c found fit is seated) open_numbers

pub opened_named : (h : HostState) (config : List ℕ) (c : Fields) (found : Option ℕ × Option ℕ) → AreSeated h c found → PoolIsNamed h.table (Some (drawn (open_state h config c found)))
opened_named h config c found seated = drawn_named h.table (open_state h config c found) (seated.first_number, seated.second_number)

-- Behind a create.

-- The three names of a create are names.
pub record AreNames (name first other : List ℕ) : Type 0 where
  pub name_is : IsTrue (is_name name)
  pub first_is : IsTrue (is_name first)
  pub other_is : IsTrue (is_name other)

new_leaf_fit : (size : ℕ → ℕ) (sectors number member : ℕ) (name : List ℕ) (dev : ℕ) → sectors + 256 ≤ size dev → IsFitLeaf size sectors number (new_leaf member (name, dev))
new_leaf_fit size sectors number member name dev room = record {
  seated = λ up. refl;
  room = λ d e. subst (λ x. sectors + 256 ≤ size x) (same_some dev d e) room;
  logged = λ g e. absurd (cc);
}

pub created_fit : (h : HostState) (second : ℕ) (name : List ℕ) (blocks : ℕ) (first other : List ℕ) (seats : ℕ × ℕ) → IsFit h → AreNames name first other → is_bad_size blocks ≡ false
    → new_seats h blocks first other ≡ Some seats → IsFitPool h.size (new_state h second name blocks first other seats)
created_fit h second name blocks first other seats fit names good seated = record {
  valid = made_valid h.size name second blocks first other seats names.name_is names.first_is names.other_is (some_blocks blocks good) has.few has.differ one two;
  first = new_leaf_fit h.size _ 1 2 first seats.0 room.1.1.0;
  second = new_leaf_fit h.size _ 1 3 other seats.1 room.1.1.1;
  apart = λ d one two. seats_apart h blocks first other seats fit.apart has (same_some seats.0 d one ∙ sym (same_some seats.1 d two));
  inside = λ a block e. absurd (none_some block e);
  whole = λ a block e. absurd (none_some block e);
  beyond = λ a above. refl;
  known_whole = λ a version block e known. absurd (none_some version e);
}
  where
    has : HasNewSeats h blocks first other seats
    has = new_seats_found h blocks first other seats seated

    one : 320 ≤ h.size seats.0
    one = member_room h.size first h.table seats.0 fit.sized has.one

    two : 320 ≤ h.size seats.1
    two = member_room h.size other h.table seats.1 fit.sized has.two

    room : (64 ≤ top_sectors (h.size seats.0) (h.size seats.1)) × ((top_sectors (h.size seats.0) (h.size seats.1) ≤ 1048320)
        × ((top_sectors (h.size seats.0) (h.size seats.1) + 256 ≤ h.size seats.0) × (top_sectors (h.size seats.0) (h.size seats.1) + 256 ≤ h.size seats.1)))
    room = top_room (h.size seats.0) (h.size seats.1) one two

pub created_named : (h : HostState) (second : ℕ) (name : List ℕ) (blocks : ℕ) (first other : List ℕ) (seats : ℕ × ℕ) → new_seats h blocks first other ≡ Some seats
    → PoolIsNamed h.table (Some (new_state h second name blocks first other seats))
created_named h second name blocks first other seats seated =
    (λ d e. member_number first h.table seats.0 has.one ∙ e, λ d e. member_number other h.table seats.1 has.two ∙ e)
  where
    has : HasNewSeats h blocks first other seats
    has = new_seats_found h blocks first other seats seated
